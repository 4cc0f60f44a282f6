-- What a wait that reports leaves of the machine, where its instance lives on.
use Rattle.std.proofs.Common.{◌≡◌, ◌≤◌, ◌∙◌, ◌==◌, ◌&&◌, ◌||◌, ◌⊎◌, ◌++◌, ℕ, ℤ, zero, suc, negsuc, pos, Bool, true, false, not, List, [], ◌∷◌, None, Option, Some, ap, arith, bit_or, cond, filter, if◌then◌else◌, inl, inr, is_some, length, map, min, nat_eq, nat_lt, refl, subst, sym, unwrap_or}
use Rattle.std.specs.List.{AllByRecursion, IsDistinct, find, list_all, list_any}
use Rattle.std.proofs.lemmas.Bool.{cases_Bool, false≢true}
use Rattle.std.proofs.Math.Bool.{and-false}
use Rattle.ep_facts.proofs.BoolFacts.{both_true}
use Rattle.ep_facts.proofs.NatFacts.{from_test, not_apart, same_nat}
use Rattle.ep_base.specs.declared.answer.Answer.{Answer}
use Rattle.ep_base.specs.declared.answer.Answer.TheVariants.{Events, Parked, Still}
use Rattle.ep_base.specs.declared.answer.Report.{Report}
use Rattle.ep_law.proofs.DeathLemmas.{numbers}
use Rattle.ep_law.proofs.GraphLemmas.{member_of_map}
use Rattle.ep_law.proofs.ListLemmas.{among, among_member, each_found, filtered_member, filtered_passes, find_member, member_filter, member_map, one_number}
use Rattle.ep_law.proofs.MarkLemmas.{marked_all, marked_parts, marks_again}
use Rattle.ep_law.proofs.ReadinessLemmas.{Goes, and_same, no_long_chain}
use Rattle.ep_law.proofs.SpreadLemmas.{spread_least}
use Rattle.ep_law.specs.Sound.{Sound}
use Rattle.ep_law.specs.Laws.{Member, is_reportable_in, passes_on_of}
use Rattle.ep_machine.specs.Bits.{ET, ONESHOT, asked, has_bit, when}
use Rattle.ep_machine.specs.Deaths.{die_all, dying, named, named_in_tables, without_dead_watches}
use Rattle.ep_machine.specs.Files.{Files, Place, is_live, object_of, side_of}
use Rattle.ep_machine.specs.Lists.{are_distinct, is_among}
use Rattle.ep_machine.specs.Marks.{marked_by}
use Rattle.ep_law.proofs.ReadinessLemmas.{present_same}
use Rattle.ep_machine.specs.Objects.{is_instance, plain}
use Rattle.ep_machine.specs.Readiness.{is_fresh, is_ready, is_ready_within, is_reportable, is_reportable_by, reportables}
use Rattle.ep_machine.specs.Report.{find_watch, is_fair_to, is_pick, plainly, report, report_of, reported, watches_at}
use Rattle.ep_machine.specs.Settle.{settle}
use Rattle.ep_machine.specs.Spread.{passes_on, raised_alive, spread}
use Rattle.ep_machine.specs.State.{Change, State, Waiter, Watch, counts_of}
use Rattle.ep_machine.specs.Waits.{is_due, leave, leave_after, resume, resume_by, resume_empty, unmarked, wait, wait_for, waiter_of}
use Rattle.ep_machine.specs.Watches.{is_legal, links}
use Rattle.ep_order.proofs.PickLemmas.{all_found, found_one}
use Rattle.ep_view.proofs.ClimbLemmas.{zero_asked}
use Rattle.ep_view.proofs.KernelViewLemmas.{reportables_kept}
use Rattle.ep_view.proofs.SettleLemmas.{dying_test, settle_remains, settled_quiet}
use Rattle.ep_view.specs.AtRest.{AtRest, Changed, Remains, kind_of}
use Rattle.ep_view.specs.Marking.{guarded_now}
use Rattle.ep_view.specs.KernelView.{KernelWatch, freshened, kernel_watches, ready_now, settled_watches, shows_in, stays_in}

-- Chains of instances.
shorter : (k : ℕ) (ls : List (ℕ × ℕ)) (e : ℕ) → Goes (suc k) ls e → Goes k ls e
shorter zero ls e goes = tt
shorter (suc k) ls e (l, m, at, rest) = (l, m, at, shorter k ls l.1 rest)

any_mapped : {X : Type 0} (f h : X → Bool) (g : X → X) (xs : List X) → ((x : X) → Member x xs → f (g x) ≡ h x) → list_any f (map g xs) ≡ list_any h xs
any_mapped f h g [] same = refl
any_mapped f h g (x ∷ xs) same = let one = same x (inl refl) in let rest = any_mapped f h g xs (λ y m. same y (inr m)) in λ i. one i || rest i

both_false : (a b c : Bool) → a ≡ false → (a && b) ≡ (a && c)
both_false a b c h = (λ i. h i && b) ∙ sym (λ i. h i && c)

-- A report at instance e.
module _ (b : State) (legal : is_legal (links b) ≡ true) (e : ℕ) (ks : List ℕ) (ws : List Waiter) (of : (x : Watch) → Member x b.watches → is_among ks x.number ≡ true → (x.instance ≡ e) × (is_reportable b x ≡ true)) where
  abbrev pub told : Watch → Watch
  told x = record x { seen = Some (counts_of b x.target); rep = b.n; from = b.n; armed = x.armed && not (has_bit x.mask ONESHOT) }

  abbrev pub after : State
  after = record b { watches = map (reported b ks) b.watches; waiters = ws }

  is_told : (x : Watch) → is_among ks x.number ≡ true → reported b ks x ≡ told x
  is_told x t = ap (λ (c : Bool). cond c (told x) x) t

  is_same : (x : Watch) → is_among ks x.number ≡ false → reported b ks x ≡ x
  is_same x f = ap (λ (c : Bool). cond c (told x) x) f

  -- d is below e
  abbrev IsBelow : ℕ → Type 0
  IsBelow d = (k : ℕ) → Goes k (links b) d → Goes (suc k) (links b) e

  below_apart : (d : ℕ) → IsBelow d → d ≡ e → ⊥
  below_apart d below same = no_long_chain (links b) e legal (loop 5) where
    loop : (k : ℕ) → Goes k (links b) e
    loop zero = tt
    loop (suc k) = below k (subst (Goes k (links b)) (sym same) (loop k))

  link_there : (x : Watch) → Member x b.watches → is_instance (unwrap_or (object_of b.files x.target) plain) ≡ true → Member (x.instance, x.target) (links b)
  link_there x m inst = member_map (λ y. (y.instance, y.target)) x _ (member_filter (λ y. is_instance (unwrap_or (object_of b.files y.target) plain)) x b.watches m inst)

  goes_below : (x : Watch) → Member x b.watches → is_instance (unwrap_or (object_of b.files x.target) plain) ≡ true → x.instance ≡ e → IsBelow x.target
  goes_below x m inst at = λ k goes. ((x.instance, x.target), link_there x m inst, at, goes)

  goes_further : (d : ℕ) → IsBelow d → (x : Watch) → Member x b.watches → is_instance (unwrap_or (object_of b.files x.target) plain) ≡ true → x.instance ≡ d → IsBelow x.target
  goes_further d below x m inst at = λ k goes. shorter (suc k) (links b) e (below (suc k) ((x.instance, x.target), link_there x m inst, at, goes))

  -- what is below shows what it showed
  below_same : (k d : ℕ) → IsBelow d → is_ready_within k after d ≡ is_ready_within k b d
  below_same zero d below = refl
  below_same (suc k) d below =
      any_mapped (λ x. x.instance == d && is_reportable_by (is_ready_within k after) after x) (λ x. x.instance == d && is_reportable_by (is_ready_within k b) b x) (reported b ks) b.watches (λ x m.
      elim (cases_Bool (is_among ks x.number)) [
        | inl t ↦
            let apart : (x.instance == d) ≡ false = elim (cases_Bool (x.instance == d)) [
              | inl here ↦ absurd (below_apart d below (sym (from_test x.instance d here) ∙ (of x m t).0))
              | inr other ↦ other
            ] in
            ap (λ (y : Watch). y.instance == d && is_reportable_by (is_ready_within k after) after y) (is_told x t)
            ∙ both_false (x.instance == d) (is_reportable_by (is_ready_within k after) after (told x)) (is_reportable_by (is_ready_within k b) b x) apart
        | inr f ↦
            ap (λ (y : Watch). y.instance == d && is_reportable_by (is_ready_within k after) after y) (is_same x f)
            ∙ and_same (x.instance == d) (is_reportable_by (is_ready_within k after) after x) (is_reportable_by (is_ready_within k b) b x) (λ at.
            let same = present_same (is_ready_within k after) (is_ready_within k b) x.target (object_of b.files x.target) (side_of b.files x.target) b.now
            (λ inst. below_same k x.target (goes_further d below x m inst (from_test x.instance d at))) in
            λ i. nat_lt 0 (when x.armed (asked x.mask (same i))) && (not (has_bit x.mask ET) || is_fresh b x))
      ])

  ready_below : (d : ℕ) → IsBelow d → is_ready after d ≡ is_ready b d
  unfolding is_ready
  ready_below d below = below_same 5 d below

  level : (armed now edge fresh again : Bool) (p q : ℕ) → p ≡ q → now ≡ true → edge ≡ false → (nat_lt 0 (when armed q) && (not edge || fresh)) ≡ true → (nat_lt 0 (when now p) && (not edge || again)) ≡ true
  level true now edge fresh again p q same n l h =
      let shown = (both_true (nat_lt 0 q) (not edge || fresh) h).0 in
      (λ i. nat_lt 0 (when (n i) (same i)) && (not (l i) || again)) ∙ (λ i. shown i && true)
  level false now edge fresh again p q same n l h = absurd (false≢true h)

  -- what is reported is reportable still, where it is armed and level-triggered after it
  pub told_shows : (x : Watch) → Member x b.watches → is_among ks x.number ≡ true → (told x).armed ≡ true → has_bit x.mask ET ≡ false → is_reportable after (told x) ≡ true
  told_shows x m t armed edge =
      let is = of x m t in
      let same = present_same (is_ready after) (is_ready b) x.target (object_of b.files x.target) (side_of b.files x.target) b.now (λ inst. ready_below x.target (goes_below x m inst is.0)) in
      level x.armed (told x).armed (has_bit x.mask ET) (is_fresh b x) (is_fresh after (told x)) _ _ (ap (asked x.mask) same) armed edge is.1

  -- of those after the report
  pub still_shows : ((w : Watch) → Member w b.watches → w.rep ≡ b.n → ⊥) → (x : Watch) → Member x after.watches → x.rep ≡ b.n → x.armed ≡ true → has_bit x.mask ET ≡ false → is_reportable after x ≡ true
  still_shows old x m rep armed edge =
      let w = member_of_map (reported b ks) b.watches x m in
      elim (cases_Bool (is_among ks w.0.number)) [
        | inl t ↦
            let is : told w.0 ≡ x = sym (is_told w.0 t) ∙ w.2 in
            subst (λ (y : Watch). is_reportable after y ≡ true) is
            (told_shows w.0 w.1 t (ap (λ (y : Watch). y.armed) is ∙ armed) (ap (λ (y : Watch). has_bit y.mask ET) is ∙ edge))
        | inr f ↦ absurd (old w.0 w.1 (ap (λ (y : Watch). y.rep) (sym (is_same w.0 f) ∙ w.2) ∙ rep))
      ]

-- The end of an event after which everything lives on.
none_among : (xs : List (ℕ × Place)) → ((d : ℕ) → is_among (numbers xs) d ≡ false) → xs ≡ []
none_among [] h = refl
none_among (x ∷ xs) h = absurd (false≢true (sym (h x.0) ∙ ap (λ (b : Bool). b || is_among (numbers xs) x.0) (same_nat x.0)))

all_named : (s : State) → ((d : ℕ) → is_live s.files d ≡ true → is_among (named s) d ≡ true) → dying s ≡ []
all_named s h = none_among (dying s) (λ d. elim (cases_Bool (is_live s.files d)) [
  | inl lives ↦ dying_test s d ∙ (λ i. lives i && not (h d lives i))
  | inr dead ↦ dying_test s d ∙ ap (λ (b : Bool). b && not (is_among (named s) d)) dead
])

-- what is raised nowhere, nothing passes on
none_spread : (s : State) (d : ℕ) → spread s [] d ≡ 0
none_spread s d = spread_least (λ d bits. bits ≡ 0) s [] d (record {
  starts = λ r m. absurd m;
  none = λ d. refl;
  both = λ d a b p q. λ i. bit_or (p i) (q i);
  above = λ x bits m armed asks none. absurd (false≢true (sym (zero_asked x.mask) ∙ (ap (λ (k : ℕ). nat_lt 0 (asked x.mask k)) (sym none) ∙ asks)));
})

none_passes : (s : State) (x : Watch) → passes_on s [] x ≡ false
none_passes s x = ap (λ (k : ℕ). x.armed && nat_lt 0 (asked x.mask k)) (none_spread s x.target) ∙ (ap (λ (t : Bool). x.armed && t) (zero_asked x.mask) ∙ and-false x.armed)

-- what is reportable, by the registrations as they are kept
reportable_by : (s : State) (e k : ℕ)
    → is_reportable_in s e k ≡ is_among (map (λ w. w.number) (filter (shows_in (ready_now s.files s.now (kernel_watches s s.watches)) s.files s.now e) (kernel_watches s s.watches))) k
reportable_by s e k = ap (λ (ks : List ℕ). is_among ks k) (watch_numbers (reportables s e) ∙ ap (map (λ (w : KernelWatch). w.number)) (reportables_kept s e)) where
  watch_numbers : (xs : List Watch) → map (λ x. x.number) xs ≡ map (λ w. w.number) (kernel_watches s xs)
  watch_numbers [] = refl
  watch_numbers (x ∷ xs) = ap (λ (ks : List ℕ). x.number ∷ ks) (watch_numbers xs)

pub ready_in : (t : State) (y : Watch) → Member y t.watches → is_reportable t y ≡ true → is_reportable_in t y.instance y.number ≡ true
ready_in t y m r =
    let p : Watch → Bool = λ x. x.instance == y.instance && is_reportable t x in
    let same = same_nat y.instance in
    among y.number (map (λ x. x.number) (reportables t y.instance)) (member_map (λ x. x.number) y (reportables t y.instance) (member_filter p y t.watches m (λ i. same i && r i)))

-- A state at rest that nothing changed.
module _ (b : State) (rest : AtRest b) where
  none_dying : dying b ≡ []
  none_dying = all_named b (λ d lives. rest.named d ∙ lives)

  pub rest_files : (settle b b []).files ≡ b.files
  rest_files = ap (λ (xs : List (ℕ × Place)). (die_all (b.files, []) xs).0) none_dying

  pub rest_passes : (answer : Answer) (x : Watch) → passes_on_of (answer, b, []) x ≡ false
  rest_passes answer x =
      ap (λ (xs : List (ℕ × Place)). let now = die_all (b.files, []) xs in let kept = without_dead_watches (record b { files = now.0 }) in passes_on kept (raised_alive kept now.1) x) none_dying
      ∙ none_passes (without_dead_watches b) x

-- Its end, where it was at rest before.
module _ (b : State) (rest : AtRest b) (counted : (0 == b.n) ≡ false) (ks : List ℕ) (ws : List Waiter) where
  abbrev pub left : State
  left = record b { watches = map (reported b ks) b.watches; waiters = ws }

  -- with the marks that it would have with the waiters of before
  abbrev u : State
  u = record b { watches = left.watches; waiters = marked_by (λ e. ready_now b.files b.now (kernel_watches b left.watches) e && not (guarded_now (kernel_watches b left.watches) e)) b.now b.waiters }

  module _ (changed : Changed left) (all : (d : ℕ) → is_live b.files d ≡ true → is_among (named left) d ≡ true) where
    abbrev pub end : State
    end = settle b left []

    at_rest : AtRest u
    at_rest =
        let ready : ℕ → Bool = λ e. ready_now b.files b.now (kernel_watches b left.watches) e && not (guarded_now (kernel_watches b left.watches) e) in
        record {
          now = rest.now;
          placed = rest.placed;
          named = λ d. ap (λ (ds : List ℕ). is_among (named_in_tables b.files.tables ++ ds) d) (marked_parts ready (λ w. w.instance) (λ w m. refl) b.now b.waiters) ∙ rest.named d;
          watches = changed.watches;
          seen = changed.seen;
          waiting = marked_all ready (λ d. kind_of (object_of b.files d) ≡ 1) b.now b.waiters rest.waiting;
          callers = subst (λ (cs : List ℕ). IsDistinct nat_eq cs) (sym (marked_parts ready (λ w. w.caller) (λ w m. refl) b.now b.waiters)) rest.callers;
          marks = marks_again ready b.now b.waiters;
        }

    none_dies : dying left ≡ []
    none_dies = all_named left all

    -- what is left, settled
    abbrev settled_by : List (ℕ × Place) → Files → List KernelWatch
    settled_by dead files = settled_watches b.n files (freshened b.n (die_all (b.files, []) dead).1) (filter (stays_in files) (kernel_watches b left.watches))

    settles : Remains left [] end
    settles = settle_remains b left [] counted changed

    pub same_files : end.files ≡ b.files
    same_files = settles.files ∙ ap (λ (xs : List (ℕ × Place)). (die_all (b.files, []) xs).0) none_dies

    still : settled_by [] b.files ≡ kernel_watches b left.watches
    still =
        sym ((settled_quiet u counted at_rest).watches
        ∙ ap (λ (xs : List (ℕ × Place)). settled_by xs b.files) (all_named u (λ d lives. at_rest.named d ∙ lives)))

    same_watches : kernel_watches end end.watches ≡ kernel_watches b left.watches
    same_watches = settles.watches ∙ ((λ i. settled_by (none_dies i) (same_files i)) ∙ still)

    same_reportable : (e k : ℕ) → is_reportable_in end e k ≡ is_reportable_in left e k
    same_reportable e k =
        reportable_by end e k
        ∙ ((λ i. is_among (map (λ (w : KernelWatch). w.number) (filter (shows_in (ready_now (same_files i) (settles.now i) (same_watches i)) (same_files i) (settles.now i) e) (same_watches i))) k)
        ∙ sym (reportable_by left e k))

    pub ends_reportable : (x : Watch) → Member x left.watches → is_reportable left x ≡ true → is_reportable_in end x.instance x.number ≡ true
    ends_reportable x m r = same_reportable x.instance x.number ∙ ready_in left x m r

    pub passes_nothing : (answer : Answer) (x : Watch) → passes_on_of (answer, left, []) x ≡ false
    passes_nothing answer x =
        ap (λ (xs : List (ℕ × Place)). let now = die_all (b.files, []) xs in let kept = without_dead_watches (record left { files = now.0 }) in passes_on kept (raised_alive kept now.1) x) none_dies
        ∙ none_passes (without_dead_watches left) x

-- The change of a wait.

apart_caller : (c : ℕ) (ws : List Waiter) (v : Waiter) → AllByRecursion (λ k. nat_eq c k ≡ false) (map (λ w. w.caller) ws) → Member v ws → nat_eq c v.caller ≡ false
apart_caller c [] v h m = absurd m
apart_caller c (w ∷ ws) v h (inl e) = ap (λ (u : Waiter). nat_eq c u.caller) e ∙ h.0
apart_caller c (w ∷ ws) v h (inr m) = apart_caller c ws v h.1 m

-- a caller has one waiter
one_caller : (ws : List Waiter) (v w : Waiter) → IsDistinct nat_eq (map (λ u. u.caller) ws) → Member v ws → Member w ws → v.caller ≡ w.caller → v ≡ w
unfolding IsDistinct
one_caller [] v w h m n e = absurd m
one_caller (u ∷ ws) v w h (inl a) (inl c) e = a ∙ sym c
one_caller (u ∷ ws) v w h (inl a) (inr n) e = absurd (not_apart u.caller w.caller (apart_caller u.caller ws w h.0 n) (sym (ap (λ (x : Waiter). x.caller) a) ∙ e))
one_caller (u ∷ ws) v w h (inr m) (inl c) e = absurd (not_apart u.caller v.caller (apart_caller u.caller ws v h.0 m) (sym (ap (λ (x : Waiter). x.caller) c) ∙ sym e))
one_caller (u ∷ ws) v w h (inr m) (inr n) e = one_caller ws v w h.1 m n e

found_waiter : (ws : List Waiter) (caller : ℕ) (w : Waiter) → find (λ v. v.caller == caller) ws ≡ Some w → Member w ws
found_waiter [] caller w h = cc
found_waiter (v ∷ ws) caller w h = elim (cases_Bool (v.caller == caller)) [
  | inl t ↦ let same : Some v ≡ Some w = sym (ap (λ (b : Bool). cond b (Some v) (find (λ u. u.caller == caller) ws)) t) ∙ h in let e : w ≡ v = cc in inl e
  | inr f ↦ inr (found_waiter ws caller w (sym (ap (λ (b : Bool). cond b (Some v) (find (λ u. u.caller == caller) ws)) f) ∙ h))
]

-- these are reported at instance e, and whoever waits elsewhere waits still
pub record IsReport (b : State) (e : ℕ) (ks : List ℕ) (c : Change) : Type 0 where
  pub ws : List Waiter
  pub made : c.1 ≡ record b { watches = map (reported b ks) b.watches; waiters = ws }
  pub raised : c.2 ≡ []
  pub stay : (w : Waiter) → Member w b.waiters → (w.instance ≡ e) ⊎ Member w ws
  pub of : (x : Watch) → Member x b.watches → is_among ks x.number ≡ true → (x.instance ≡ e) × (is_reportable b x ≡ true)
  pub told : (reports : List Report) → c.0 ≡ Events reports → length ks ≤ length reports

found_there : (xs : List Watch) (k : ℕ) (o : Option Watch) → find_watch xs k ≡ o → is_some o ≡ true → (y : Watch) × Member y xs × (y.number ≡ k)
found_there xs k None is some = absurd (false≢true some)
found_there xs k (Some y) is some = let m = find_member xs k y is in (y, m.0, m.1)

none_reported : (b : State) (xs : List Watch) → xs ≡ map (reported b []) xs
none_reported b [] = refl
none_reported b (x ∷ xs) = ap (λ (ys : List Watch). x ∷ ys) (none_reported b xs)

length_reports : (b : State) (xs : List Watch) → length (map (report_of b) xs) ≡ length xs
length_reports b [] = refl
length_reports b (x ∷ xs) = ap (λ (n : ℕ). suc n) (length_reports b xs)

some_is : (a c : Change) → Some a ≡ Some c → c ≡ a
some_is a c h = cc

reports_are : (xs ys : List Report) → Events xs ≡ Events ys → xs ≡ ys
reports_are xs ys h = cc

not_some : (c : Change) → None ≡ Some c → ⊥
not_some c h = absurd (cc)

no_number : (ks : List ℕ) (c d : Change) → plainly ks c ≡ Some d → (ks ≡ []) × (d ≡ c)
no_number [] c d h = (refl, some_is c d h)
no_number (k ∷ ks) c d h = absurd (not_some d h)

module _ (b : State) (sound : Sound b) (ks : List ℕ) where
  report_is : (e most : ℕ) (c : Change) → report b e most ks ≡ Some c → IsReport b e ks c
  report_is e most c is = by (is_pick b e most ks) refl is where
    by : (p : Bool) → is_pick b e most ks ≡ p → cond p (Some (Events (map (report_of b) (watches_at b.watches ks)), record b { watches = map (reported b ks) b.watches }, [])) None ≡ Some c → IsReport b e ks c
    by false picks h = absurd (not_some c h)
    by true picks h =
        let ready = reportables b e in
        let found = watches_at ready ks in
        let three = both_true (are_distinct ks && length found == length ks && length ks == min most (length ready)) (list_all (is_fair_to found ks) ready) picks in
        let two = both_true (are_distinct ks && length found == length ks) (length ks == min most (length ready)) three.0 in
        let lengths = from_test (length found) (length ks) (both_true (are_distinct ks) (length found == length ks) two.0).1 in
        let is_there : (k : ℕ) → Member k ks → (y : Watch) × Member y ready × (y.number ≡ k) = λ k m. found_there ready k (find_watch ready k) refl (each_found (find_watch ready) ks k lengths m) in
        let shows : Watch → Bool = λ y. y.instance == e && is_reportable b y in
        subst (IsReport b e ks) (sym (some_is (Events (map (report_of b) (watches_at b.watches ks)), record b { watches = map (reported b ks) b.watches }, []) c h)) (record {
          ws = b.waiters;
          made = refl;
          raised = refl;
          stay = λ w m. inr m;
          of = λ x m t.
              let y = is_there x.number (among_member ks x.number t) in
              let same : y.0 ≡ x = one_number b.watches y.0 x sound.numbers (filtered_member shows b.watches y.0 y.1) m y.2 in
              let passes = both_true (y.0.instance == e) (is_reportable b y.0) (filtered_passes shows b.watches y.0 y.1) in
              (ap (λ (z : Watch). z.instance) (sym same) ∙ from_test y.0.instance e passes.0, ap (is_reportable b) (sym same) ∙ passes.1);
          told = λ reports told.
              let found_all = all_found (find_watch b.watches) ks (λ k m. let y = is_there k m in subst (λ (j : ℕ). is_some (find_watch b.watches j) ≡ true) y.2 (found_one b.watches y.0 (filtered_member shows b.watches y.0 y.1))) in
              let same = ap length (reports_are (map (report_of b) (watches_at b.watches ks)) reports told) in
              let all = length_reports b (watches_at b.watches ks) in
              omega (arith, found_all, same, all);
        })

  kept_waiters : (e most : ℕ) (c : Change) → report b e most ks ≡ Some c → c.1.waiters ≡ b.waiters
  kept_waiters e most c is = by (is_pick b e most ks) is where
    by : (p : Bool) → cond p (Some (Events (map (report_of b) (watches_at b.watches ks)), record b { watches = map (reported b ks) b.watches }, [])) None ≡ Some c → c.1.waiters ≡ b.waiters
    by false h = absurd (not_some c h)
    by true h = ap (λ (d : Change). d.1.waiters) (some_is _ c h)

  nothing_reported : (e : ℕ) (c : Change) (ws : List Waiter) → ks ≡ [] → c.1 ≡ record b { waiters = ws } → c.2 ≡ [] → ((w : Waiter) → Member w b.waiters → (w.instance ≡ e) ⊎ Member w ws) → IsReport b e ks c
  nothing_reported e c ws none made raised stay = record {
    ws = ws;
    made = made ∙ ((λ i. record b { watches = none_reported b b.watches i; waiters = ws }) ∙ ap (λ (js : List ℕ). record b { watches = map (reported b js) b.watches; waiters = ws }) (sym none));
    raised = raised;
    stay = stay;
    of = λ x m t. absurd (false≢true (ap (λ (js : List ℕ). is_among js x.number) (sym none) ∙ t));
    told = λ reports is. let short = ap length none in omega (arith, short);
  }

  pub waited : (caller p e most : ℕ) (timeout : ℤ) (c : Change) (reports : List Report) → wait b caller p e most timeout ks ≡ Some c → c.0 ≡ Events reports → IsReport b e ks c
  waited caller p e most timeout c reports is answers = elim (cases_Bool (is_ready b e)) [
    | inl t ↦ report_is e most c (sym (ap (λ (r : Bool). cond r (report b e most ks) (plainly ks (wait_for b caller p e most timeout))) t) ∙ is)
    | inr f ↦
        let plain_one = no_number ks (wait_for b caller p e most timeout) c (sym (ap (λ (r : Bool). cond r (report b e most ks) (plainly ks (wait_for b caller p e most timeout))) f) ∙ is) in
        subst (IsReport b e ks) (sym plain_one.1) (by timeout plain_one.0 (ap (λ (d : Change). d.0) (sym plain_one.1) ∙ answers))
  ] where
    not_parked : Parked ≡ Events reports → ⊥
    not_parked h = absurd (cc)

    by : (at : ℤ) → ks ≡ [] → (wait_for b caller p e most at).0 ≡ Events reports → IsReport b e ks (wait_for b caller p e most at)
    by (pos zero) none h = nothing_reported e _ b.waiters none refl refl (λ w m. inr m)
    by (pos (suc k)) none h = absurd (not_parked h)
    by (negsuc k) none h = absurd (not_parked h)

  module _ (callers : IsDistinct nat_eq (map (λ w. w.caller) b.waiters)) (w : Waiter) (there : Member w b.waiters) where
    others_stay : (v : Waiter) → Member v b.waiters → (v.instance ≡ w.instance) ⊎ Member v (filter (λ u. not (u.caller == w.caller)) b.waiters)
    others_stay v m = elim (cases_Bool (v.caller == w.caller)) [
      | inl same ↦ inl (ap (λ (u : Waiter). u.instance) (one_caller b.waiters v w callers m there (from_test v.caller w.caller same)))
      | inr other ↦ inr (member_filter (λ u. not (u.caller == w.caller)) v b.waiters m (ap not other))
    ]

    left_report : (o : Option Change) (c : Change) → ((d : Change) → o ≡ Some d → IsReport b w.instance ks d × (d.1.waiters ≡ b.waiters)) → leave_after w.caller o ≡ Some c → IsReport b w.instance ks c
    left_report None c h is = absurd (not_some c is)
    left_report (Some d) c h is =
        let r = h d refl in
        let report = r.0 in
        let there_all : filter (λ u. not (u.caller == w.caller)) d.1.waiters ≡ filter (λ u. not (u.caller == w.caller)) b.waiters = ap (filter (λ (u : Waiter). not (u.caller == w.caller))) r.1 in
        subst (IsReport b w.instance ks) (sym (some_is (leave w.caller d) c is)) (record {
          ws = filter (λ u. not (u.caller == w.caller)) b.waiters;
          made = λ i. record (report.made i) { waiters = there_all i };
          raised = report.raised;
          stay = others_stay;
          of = report.of;
          told = report.told;
        })

    resumed_by : (c : Change) (reports : List Report) → resume_by b (Some w) ks ≡ Some c → c.0 ≡ Events reports → IsReport b w.instance ks c
    resumed_by c reports is answers = elim (cases_Bool w.marked) [
      | inr off ↦
          let one = no_number ks (Still, b, []) c (sym (ap (λ (m : Bool). cond (not m) (plainly ks (Still, b, [])) ready_or_not) off) ∙ is) in
          absurd (not_still (ap (λ (d : Change). d.0) (sym one.1) ∙ answers))
      | inl on ↦ by (is_ready b w.instance) (sym (ap (λ (m : Bool). cond (not m) (plainly ks (Still, b, [])) ready_or_not) on) ∙ is)
    ] where
      ready_or_not : Option Change
      ready_or_not = if is_ready b w.instance then leave_after w.caller (report b w.instance w.most ks) else plainly ks (resume_empty b w)

      not_still : Still ≡ Events reports → ⊥
      not_still h = absurd (cc)

      empty : (due : Bool) → ks ≡ [] → (d : Change) → d ≡ cond due (leave w.caller (Events [], b, [])) (Still, unmarked b w.caller, []) → d.0 ≡ Events reports → IsReport b w.instance ks d
      empty true none d same told = subst (IsReport b w.instance ks) (sym same) (nothing_reported w.instance _ _ none refl refl others_stay)
      empty false none d same told = absurd (not_still (ap (λ (x : Change). x.0) (sym same) ∙ told))

      by : (r : Bool) → cond r (leave_after w.caller (report b w.instance w.most ks)) (plainly ks (resume_empty b w)) ≡ Some c → IsReport b w.instance ks c
      by true h = left_report (report b w.instance w.most ks) c (λ d made. (report_is w.instance w.most d made, kept_waiters w.instance w.most d made)) h
      by false h = let one = no_number ks (resume_empty b w) c h in empty (is_due b.now w.deadline) one.0 c one.1 answers

  pub resumed : (callers : IsDistinct nat_eq (map (λ w. w.caller) b.waiters)) (caller : ℕ) (w : Waiter) (c : Change) (reports : List Report) → waiter_of b caller ≡ Some w → resume b caller ks ≡ Some c → c.0 ≡ Events reports → IsReport b w.instance ks c
  resumed callers caller w c reports found is answers = resumed_by callers w (found_waiter b.waiters caller w found) c reports (sym (ap (λ (o : Option Waiter). resume_by b o ks) found) ∙ is) answers
