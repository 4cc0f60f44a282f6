-- The graph of instances stays legal.
use Rattle.std.proofs.Common.{◌≡◌, ℕ, zero, suc, Bool, true, List, [], ◌∷◌, map, filter, inl, inr, refl, sym, subst, unwrap_or, ◌<◌, ◌++◌, ◌∙◌, false, None, Option, Some, ℤ, length, ap, arith, ◌&&◌, ◌||◌, ◌⊎◌, ◌==◌, MatchOption, pos, negsuc, not, cond}
use Rattle.std.specs.Prelude.{bit_and}
use Rattle.std.proofs.lemmas.Nat.{and_assoc}
use Rattle.std.specs.Int.Bits.{and_zero_r}
use Rattle.ep_machine.specs.Bits.{EXCLUSIVE, ONESHOT, exclusive_bits, has_bit, has_only}
use Rattle.ep_machine.specs.Files.{Files, is_live, object_of, named_by, object_under, opening_files, object_number, place_of}
use Rattle.ep_law.specs.Laws.{Member, GraphStaysLegal, ExclusiveTargets, IsApart}
use Rattle.ep_machine.specs.Lists.{is_among, is_empty}
use Rattle.ep_machine.specs.Objects.{is_instance, plain, is_plain}
use Rattle.ep_machine.specs.State.{State, Watch, Change, Waiter, counts_of, opening}
use Rattle.ep_machine.specs.Watches.{ends_of_chains, is_legal, links, add, ctl, has_key, is_add, is_del, is_exclusive, is_mod, modified, modify, new_watch, number_in, with_watch}
use Rattle.ep_law.proofs.ListLemmas.{among_member, filtered_member, filtered_passes, among, member_filter, member_map, not_empty}
use Rattle.std.proofs.lemmas.Bool.{cases_Bool, false_from_ne_true, false≢true, or_parts}
use Rattle.ep_facts.proofs.NatFacts.{from_test}
use Rattle.ep_facts.proofs.BoolFacts.{from_not_false, or_nothing_false}
use Rattle.ep_base.specs.declared.call.Call.{Call}
use Rattle.ep_law.proofs.ShapeLemmas.{OfCtl, by_making, by_shape, by_joined}
use Rattle.ep_machine.specs.Deaths.{die_all, buried, dying, is_kept}
use Rattle.ep_base.specs.Limits.{Limits}
use Rattle.ep_base.specs.declared.answer.Answer.{Answer}
use Rattle.ep_base.specs.declared.answer.Answer.TheVariants.{Events}
use Rattle.ep_base.specs.declared.call.Event.{Event}
use Rattle.ep_base.specs.declared.call.Event.TheVariants.{Call as CallOf, Resume, Tick}
use Rattle.ep_base.specs.declared.errno.Errno.{Errno}
use Rattle.ep_base.specs.declared.errno.Errno.TheVariants.{Einval, Eloop, Eperm}
use Rattle.ep_machine.specs.Effect.{first}
use Rattle.ep_machine.specs.Readiness.{is_ready, is_reportable}
use Rattle.ep_machine.specs.Refusal.{call_refusals, refusals}
use Rattle.ep_base.specs.declared.record.Record.{Record}
use Rattle.ep_machine.specs.Run.{run}
use Rattle.ep_machine.specs.Report.{is_pick, plainly, report, report_of, reported, watches_at}
use Rattle.ep_machine.specs.Settle.{came, reportable_numbers, settle}
use Rattle.ep_machine.specs.Spread.{arrived}
use Rattle.ep_machine.specs.Step.{next_event, call_change, change, refused_or, settled, step, joined}
use Rattle.ep_machine.specs.FilesCalls.{files_call}
use Rattle.ep_machine.specs.Waits.{has_parked, leave_after, wait, wait_for}
use Rattle.ep_law.proofs.StepLemmas.{left_after, resumes, run_keeps}
use Rattle.ep_law.specs.Laws.{has_instance}
use Rattle.ep_law.proofs.InstanceLemmas.{AreMade, FirstIsNone, Narrows, instance_below, narrows_affected, narrows_deaths, narrows_one, narrows_self, narrows_two, watched_below}
use Rattle.ep_law.proofs.InstanceLemmas.{narrows_accept, narrows_all_go, narrows_join, first_waits, from_number, is_instance_at}
use Rattle.ep_machine.specs.Connections.{abandoned}

-- Legal lists of links: what is within one is legal.

pub member_of_map : {X Y : Type 0} (f : X → Y) (xs : List X) (y : Y) → Member y (map f xs) → (x : X) × Member x xs × (f x ≡ y)
member_of_map f [] y m = absurd m
member_of_map f (x ∷ xs) y (inl e) = (x, inl refl, sym e)
member_of_map f (x ∷ xs) y (inr m) = let r = member_of_map f xs y m in (r.0, inr r.1, r.2)

-- each link of the first list is in the second
abbrev pub Within : List (ℕ × ℕ) → List (ℕ × ℕ) → Type 0
Within ls ms = (l : ℕ × ℕ) → Member l ls → Member l ms

ends_within : (k : ℕ) (ls ms : List (ℕ × ℕ)) → Within ls ms → (e : ℕ) → Member e (ends_of_chains k ls) → Member e (ends_of_chains k ms)
ends_within zero ls ms h e m =
    let r = member_of_map (λ (l : ℕ × ℕ). l.0) ls e m in
    subst (λ (d : ℕ). Member d (ends_of_chains 0 ms)) r.2 (member_map (λ (l : ℕ × ℕ). l.0) r.0 ms (h r.0 r.1))
ends_within (suc k) ls ms h e m =
    let p : ℕ × ℕ → Bool = λ l. is_among (ends_of_chains k ls) l.0 in
    let q : ℕ × ℕ → Bool = λ l. is_among (ends_of_chains k ms) l.0 in
    let r = member_of_map (λ (l : ℕ × ℕ). l.1) (filter p ls) e m in
    let l = r.0 in
    let from = ends_within k ls ms h l.0 (among_member (ends_of_chains k ls) l.0 (filtered_passes p ls l r.1)) in
    let at = member_filter q l ms (h l (filtered_member p ls l r.1)) (among l.0 (ends_of_chains k ms) from) in
    subst (λ (d : ℕ). Member d (ends_of_chains (suc k) ms)) r.2 (member_map (λ (x : ℕ × ℕ). x.1) l (filter q ms) at)

no_members : {X : Type 0} (xs : List X) → ((x : X) → Member x xs → ⊥) → is_empty xs ≡ true
no_members [] h = refl
no_members (x ∷ xs) h = absurd (h x (inl refl))

pub legal_within : (ls ms : List (ℕ × ℕ)) → Within ls ms → is_legal ms ≡ true → is_legal ls ≡ true
legal_within ls ms h legal = no_members (ends_of_chains 5 ls) (λ e m. not_empty e (ends_of_chains 5 ms) (ends_within 5 ls ms h e m) legal)

abbrev pub link_of : Watch → ℕ × ℕ
link_of x = (x.instance, x.target)

-- A link is a registration whose target is an instance.
pub link_in : (s : State) (x : Watch) → Member x s.watches → has_instance s.files x.target ≡ true → Member (link_of x) (links s)
link_in s x m h = member_map link_of x _ (member_filter (λ y. has_instance s.files y.target) x s.watches m h)

pub link_from : (s : State) (l : ℕ × ℕ) → Member l (links s) → (x : Watch) × Member x s.watches × (has_instance s.files x.target ≡ true) × (link_of x ≡ l)
link_from s l m =
    let p : Watch → Bool = λ y. has_instance s.files y.target in
    let r = member_of_map link_of (filter p s.watches) l m in
    (r.0, filtered_member p s.watches r.0 r.1, filtered_passes p s.watches r.0 r.1, r.2)

-- The graph of instances stays legal.

-- a description that was made, and an instance while it lives
pub record IsInstance (f : Files) (e : ℕ) : Type 0 where
  pub made : e < length f.descriptions
  pub holds : is_live f e ≡ true → has_instance f e ≡ true

-- the graph is legal; places are of objects, and targets of descriptions, that were made; registrations are of
-- instances, and exclusive ones are on none, and armed for good
pub record Linked (s : State) : Type 0 where
  pub legal : is_legal (links s) ≡ true
  pub made : AreMade s.files
  pub first : FirstIsNone s.files
  pub targets : (x : Watch) → Member x s.watches → x.target < length s.files.descriptions
  pub instances : (x : Watch) → Member x s.watches → IsInstance s.files x.instance
  pub exclusive : (x : Watch) → Member x s.watches → is_exclusive x ≡ true → IsApart s.files x

-- an exclusive one that stays exclusive keeps its mask, and only the report of a one-shot disarms it
abbrev StaysArmed : Watch → Watch → Type 0
StaysArmed x y = is_exclusive y ≡ true → (x.mask ≡ y.mask) × (x.armed ≡ true → has_bit x.mask ONESHOT ≡ false → y.armed ≡ true)

-- each registration of the second list is one of the first, as far as links go
abbrev AreOf : List Watch → List Watch → Type 0
AreOf xs ys = (y : Watch) → Member y ys → (x : Watch) × Member x xs × (link_of x ≡ link_of y) × StaysArmed x y

-- what makes no link keeps the graph legal
linked_narrows : (s t : State) → Narrows s.files t.files → AreOf s.watches t.watches → Linked s → Linked t
linked_narrows s t narrows of h = record {
  legal = legal_within (links t) (links s) within h.legal;
  made = narrows.made;
  first = narrows.first h.first;
  targets = λ y m. let lt = below y m in let longer = narrows.longer in omega (arith, lt, longer);
  instances = λ y m. let x = of y m in subst (λ (l : ℕ × ℕ). IsInstance t.files l.0) x.2 (still x.0.instance (h.instances x.0 x.1));
  exclusive = λ y m is. let x = of y m in
      let alike = x.3 is in
      let was = h.exclusive x.0 x.1 (ap (λ (k : ℕ). has_bit k EXCLUSIVE) alike.0 ∙ is) in
      let same : x.0.target ≡ y.target = ap (λ (l : ℕ × ℕ). l.1) x.2 in
      record {
        target = false_from_ne_true _ (λ holds. false≢true (sym was.target ∙ (ap (has_instance s.files) same ∙ narrows.instances y.target (below y m) holds)));
        armed = alike.1 was.armed was.always;
        always = ap (λ (k : ℕ). has_bit k ONESHOT) (sym alike.0) ∙ was.always;
      };
} where
  still : (e : ℕ) → IsInstance s.files e → IsInstance t.files e
  still e i =
      let lt = i.made in
      let longer = narrows.longer in
      record {
        made = omega (arith, lt, longer);
        holds = λ lives. elim (cases_Bool (is_live s.files e)) [
          | inl lived ↦ narrows.stays e (i.holds lived) lives
          | inr dead ↦ absurd (false≢true (sym (narrows.dead e lt dead) ∙ lives))
        ];
      }

  below : (y : Watch) → Member y t.watches → y.target < length s.files.descriptions
  below y m = let x = of y m in subst (λ (l : ℕ × ℕ). l.1 < length s.files.descriptions) x.2 (h.targets x.0 x.1)

  within : Within (links t) (links s)
  within l m =
      let y = link_from t l m in
      let x = of y.0 y.1 in
      let was = narrows.instances y.0.target (below y.0 y.1) y.2 in
      let here : has_instance s.files x.0.target ≡ true = subst (λ (k : ℕ × ℕ). has_instance s.files k.1 ≡ true) (sym x.2) was in
      subst (λ (k : ℕ × ℕ). Member k (links s)) (x.2 ∙ y.3) (link_in s x.0 x.1 here)

of_self : (xs : List Watch) → AreOf xs xs
of_self xs y m = (y, m, refl, λ is. (refl, λ a b. a))

of_filter : (p : Watch → Bool) (xs : List Watch) → AreOf xs (filter p xs)
of_filter p xs y m = (y, filtered_member p xs y m, refl, λ is. (refl, λ a b. a))

of_map : (f : Watch → Watch) → ((x : Watch) → link_of (f x) ≡ link_of x) → ((x : Watch) → StaysArmed x (f x)) → (xs : List Watch) → AreOf xs (map f xs)
of_map f same armed xs y m = let r = member_of_map f xs y m in (r.0, r.1, sym (same r.0) ∙ ap link_of r.2, subst (λ (z : Watch). StaysArmed r.0 z) r.2 (armed r.0))

of_trans : (xs ys zs : List Watch) → AreOf xs ys → AreOf ys zs → AreOf xs zs
of_trans xs ys zs a b z m =
    let y = b z m in
    let x = a y.0 y.1 in (
      x.0,
      x.1,
      x.2 ∙ y.2,
      λ is.
          let last = y.3 is in
          let early = x.3 (ap (λ (k : ℕ). has_bit k EXCLUSIVE) last.0 ∙ is) in
          (early.0 ∙ last.0, λ armed always. last.1 (early.1 armed always) (ap (λ (k : ℕ). has_bit k ONESHOT) (sym early.0) ∙ always)),
    )

-- other files under the same registrations
linked_files : (s t : State) → Narrows s.files t.files → t.watches ≡ s.watches → Linked s → Linked t
linked_files s t narrows same h = linked_narrows s t narrows (subst (λ (xs : List Watch). AreOf s.watches xs) (sym same) (of_self s.watches)) h

-- other registrations over the same files
linked_watches : (s : State) (xs : List Watch) → AreOf s.watches xs → Linked s → Linked (record s { watches = xs })
linked_watches s xs of h = linked_narrows s (record s { watches = xs }) (narrows_self s.files h.made) of h

-- What no refusal says.
abbrev pub held : (Errno → Bool) → List (Bool × Errno) → Bool
held q [] = false
held q (r ∷ rs) = q r.1 && r.0 || held q rs

and_false : (a b : Bool) → b ≡ false → (a && false || b) ≡ false
and_false true b h = h
and_false false b h = h

pub none_held : (q : Errno → Bool) (rows : List (Bool × Errno)) → first rows ≡ None → held q rows ≡ false
none_held q [] h = refl
none_held q ((true, e) ∷ rs) h = cc
none_held q ((false, e) ∷ rs) h = and_false (q e) (held q rs) (none_held q rs h)

abbrev is_eloop : Errno → Bool
is_eloop Eloop = true
is_eloop e = false

abbrev is_eperm : Errno → Bool
is_eperm Eperm = true
is_eperm e = false

abbrev pub is_einval : Errno → Bool
is_einval Einval = true
is_einval e = false

-- A new registration.
pushed_member : (xs : List Watch) (x y : Watch) → Member y (xs ++ x ∷ []) → Member y xs ⊎ (y ≡ x)
pushed_member [] x y (inl e) = inr e
pushed_member [] x y (inr m) = absurd m
pushed_member (z ∷ xs) x y (inl e) = inl (inl e)
pushed_member (z ∷ xs) x y (inr m) = elim (pushed_member xs x y m) [ inl r ↦ inl (inr r) | inr e ↦ inr e ]

and_not : (a b : Bool) → (a && not b) ≡ false → a ≡ true → b ≡ true
and_not true true h e = refl
and_not true false h e = absurd (false≢true (sym h))
and_not false b h e = absurd (false≢true e)

-- what may be asked of a new registration
abbrev MayStand : Files → ℕ → ℕ → Type 0
MayStand f d mask = has_bit mask EXCLUSIVE ≡ true → (has_instance f d ≡ false) × (has_bit mask ONESHOT ≡ false)

module _ (s : State) (e fd d mask tag : ℕ) (h : Linked s) (allowed : (has_instance s.files d && not (is_legal ((e, d) ∷ links s))) ≡ false) where
  abbrev x : Watch
  x = new_watch s e fd d mask tag

  abbrev t : State
  t = with_watch s x

  -- each link is an old one or the new one
  old_or_new : (l : ℕ × ℕ) → Member l (links t) → Member l (links s) ⊎ ((has_instance s.files d ≡ true) × (l ≡ (e, d)))
  old_or_new l m =
      let y = link_from t l m in
      elim (pushed_member s.watches x y.0 y.1) [
        | inl old ↦ inl (subst (λ (k : ℕ × ℕ). Member k (links s)) y.3 (link_in s y.0 old y.2))
        | inr new ↦ inr (sym (ap (λ (w : Watch). has_instance s.files w.target) new) ∙ y.2, sym y.3 ∙ ap link_of new)
      ]

  legal_with : is_legal (links t) ≡ true
  legal_with = elim (cases_Bool (has_instance s.files d)) [
    | inl is ↦
        legal_within (links t) ((e, d) ∷ links s) (λ l m. elim (old_or_new l m) [ inl old ↦ inr old | inr new ↦ inl new.1 ])
        (and_not (has_instance s.files d) (is_legal ((e, d) ∷ links s)) allowed is)
    | inr isnt ↦ legal_within (links t) (links s) (λ l m. elim (old_or_new l m) [ inl old ↦ old | inr new ↦ absurd (false≢true (sym isnt ∙ new.0)) ]) h.legal
  ]

  linked_add : is_plain (unwrap_or (object_of s.files d) plain) ≡ false → has_instance s.files e ≡ true → MayStand s.files d mask → Linked t
  linked_add shows here stands = record {
    legal = legal_with;
    made = h.made;
    first = h.first;
    instances = λ y m. elim (pushed_member s.watches x y m) [
      | inl old ↦ h.instances y old
      | inr new ↦ subst (λ (w : Watch). IsInstance s.files w.instance) (sym new) (record { made = instance_below s.files e here; holds = λ l. here })
    ];
    exclusive = λ y m. elim (pushed_member s.watches x y m) [
      | inl old ↦ h.exclusive y old
      | inr new ↦ subst (λ (w : Watch). is_exclusive w ≡ true → IsApart s.files w) (sym new) (λ is. let may = stands is in record { target = may.0; armed = refl; always = may.1 })
    ];
    targets = λ y m. elim (pushed_member s.watches x y m) [
      | inl old ↦ h.targets y old
      | inr new ↦ subst (λ (w : Watch). w.target < length s.files.descriptions) (sym new) (watched_below s.files d shows)
    ];
  }

modified_link : (e fd d mask tag : ℕ) (x : Watch) → link_of (modified e fd d mask tag x) ≡ link_of x
modified_link e fd d mask tag x = elim (has_key e fd d x) as (λ b. link_of (cond b (record x { mask = mask; tag = tag; armed = true; seen = None }) x) ≡ link_of x) [ true ↦ refl | false ↦ refl ]

-- a change of another one leaves an exclusive one, and none comes to be exclusive
modified_armed : (e fd d mask tag : ℕ) → has_bit mask EXCLUSIVE ≡ false → (x : Watch) → StaysArmed x (modified e fd d mask tag x)
modified_armed e fd d mask tag plainly x = elim (has_key e fd d x) as (λ b. StaysArmed x (cond b (record x { mask = mask; tag = tag; armed = true; seen = None }) x)) [
  | true ↦ λ is. absurd (false≢true (sym plainly ∙ is))
  | false ↦ λ is. (refl, λ a b. a)
]

reported_armed : (s : State) (ks : List ℕ) (x : Watch) → StaysArmed x (reported s ks x)
reported_armed s ks x = elim (is_among ks x.number) as (λ b. StaysArmed x (cond b (record x { seen = Some (counts_of s x.target); rep = s.n; from = s.n; armed = x.armed && not (has_bit x.mask ONESHOT) }) x)) [
  | true ↦ λ is. (refl, λ a b i. a i && not (b i))
  | false ↦ λ is. (refl, λ a b. a)
]

came_armed : (earlier : List ℕ) (s : State) (x : Watch) → StaysArmed x (came earlier s x)
came_armed earlier s x = elim (not (is_among earlier x.number) && is_reportable s x) as (λ b. StaysArmed x (cond b (record x { from = s.n }) x)) [ true ↦ λ is. (refl, λ a b. a) | false ↦ λ is. (refl, λ a b. a) ]

reported_link : (s : State) (ks : List ℕ) (x : Watch) → link_of (reported s ks x) ≡ link_of x
reported_link s ks x = of_test (is_among ks x.number) _ refl where
  of_test : (b : Bool) (y : Watch) → link_of y ≡ link_of x → link_of (cond b y x) ≡ link_of x
  of_test true y e = e
  of_test false y e = refl

pub came_link : (earlier : List ℕ) (s : State) (x : Watch) → link_of (came earlier s x) ≡ link_of x
came_link earlier s x = elim (not (is_among earlier x.number) && is_reportable s x) as (λ b. link_of (cond b (record x { from = s.n }) x) ≡ link_of x) [ true ↦ refl | false ↦ refl ]

-- what is allowed beside EXCLUSIVE
no_one_shot : (mask : ℕ) → has_only mask exclusive_bits ≡ true → has_bit mask ONESHOT ≡ false
no_one_shot mask only = ap (λ (k : ℕ). not (k == 0)) (
    ap (λ (k : ℕ). bit_and k ONESHOT) (sym (from_test (bit_and mask exclusive_bits) mask only)) ∙ (and_assoc ONESHOT mask exclusive_bits ∙ and_zero_r mask))

-- Bools of refusals.
may_stand : (a x i o : Bool) → a ≡ true → (a && x && (i || not o)) ≡ false → x ≡ true → (i ≡ false) × (o ≡ true)
may_stand true true false true e h t = (refl, refl)
may_stand true true false false e h t = absurd (false≢true (sym h))
may_stand true true true o e h t = absurd (false≢true (sym h))
may_stand true false i o e h t = absurd (false≢true t)
may_stand false x i o e h t = absurd (false≢true e)

not_exclusive : (a d m x : Bool) → a ≡ false → d ≡ false → not (a || d || m) ≡ false → (m && x) ≡ false → x ≡ false
not_exclusive true d m x p q h k = absurd (false≢true (sym p))
not_exclusive false true m x p q h k = absurd (false≢true (sym q))
not_exclusive false false true x p q h k = k
not_exclusive false false false x p q h k = absurd (false≢true (sym h))

-- by what no refusal says
linked_ctl : (s : State) (p : ℕ) (epfd op fd : ℤ) (mask tag : ℕ) → Linked s
    → (is_add op && is_instance (object_under s.files p fd) && not (is_legal ((named_by s.files p epfd, named_by s.files p fd) ∷ links s))) ≡ false
    → is_plain (object_under s.files p fd) ≡ false
    → (not (is_instance (object_under s.files p epfd)) || named_by s.files p epfd == named_by s.files p fd) ≡ false
    → not (is_add op || is_del op || is_mod op) ≡ false
    → (is_add op && has_bit mask EXCLUSIVE && (is_instance (object_under s.files p fd) || not (has_only mask exclusive_bits))) ≡ false
    → (is_mod op && has_bit mask EXCLUSIVE) ≡ false → Linked (ctl s p epfd op fd mask tag).1
linked_ctl s p epfd op fd mask tag h loops shows instances ops adds mods =
    let e = named_by s.files p epfd in
    let d = named_by s.files p fd in
    let k = number_in fd in
    let here : has_instance s.files e ≡ true = from_not_false _ (or_parts (not (has_instance s.files e)) (e == d) instances).0 in
    let removed = linked_watches s (filter (λ x. not (has_key e k d x)) s.watches) (of_filter (λ x. not (has_key e k d x)) s.watches) h in
    let changed : has_bit mask EXCLUSIVE ≡ false → Linked (modify s e k d mask tag).1 = λ plainly.
    linked_watches s (map (modified e k d mask tag) s.watches) (of_map (modified e k d mask tag) (modified_link e k d mask tag) (modified_armed e k d mask tag plainly) s.watches) h in
    let new : is_add op ≡ true → Linked (add s e k d mask tag).1 = λ is.
    linked_add s e k d mask tag h (ap (λ (b : Bool). b && has_instance s.files d && not (is_legal ((e, d) ∷ links s))) (sym is) ∙ loops) shows here
    (λ exclusive. let may = may_stand (is_add op) (has_bit mask EXCLUSIVE) (has_instance s.files d) (has_only mask exclusive_bits) is adds exclusive in (may.0, no_one_shot mask may.1)) in
    by_add (is_add op) _ _ new (λ no. by_del (is_del op) _ _ removed (λ neither_is. changed (not_exclusive (is_add op) (is_del op) (is_mod op) (has_bit mask EXCLUSIVE) no neither_is ops mods))) where
      by_add : (b : Bool) (c c' : Change) → (b ≡ true → Linked c.1) → (b ≡ false → Linked c'.1) → Linked (cond b c c').1
      by_add true c c' new other = new refl
      by_add false c c' new other = other refl

      by_del : (b : Bool) (c c' : Change) → Linked c.1 → (b ≡ false → Linked c'.1) → Linked (cond b c c').1
      by_del true c c' one other = one
      by_del false c c' one other = other refl

-- Changes.
Fine : Option Change → Type 0
Fine c = MatchOption c (Unit {0}) (λ o. Linked o.1)

fine_plainly : (ks : List ℕ) (c : Change) → Linked c.1 → Fine (plainly ks c)
unfolding Fine
fine_plainly [] c h = h
fine_plainly (k ∷ ks) c h = tt

fine_if : (b : Bool) (c d : Option Change) → Fine c → Fine d → Fine (cond b c d)
fine_if true c d h k = h
fine_if false c d h k = k

fine_option_if : (b : Bool) (c : Change) → Linked c.1 → Fine (cond b (Some c) None)
unfolding Fine
fine_option_if true c h = h
fine_option_if false c h = tt

fine_report : (s : State) (e most : ℕ) (ks : List ℕ) → Linked s → Fine (report s e most ks)
fine_report s e most ks h =
    let c : Change = (Events (map (report_of s) (watches_at s.watches ks)), record s { watches = map (reported s ks) s.watches }, []) in
    fine_option_if (is_pick s e most ks) c (linked_watches s (map (reported s ks) s.watches) (of_map (reported s ks) (reported_link s ks) (reported_armed s ks) s.watches) h)

linked_wait_for : (s : State) (caller p e most : ℕ) (timeout : ℤ) → Linked s → Linked (wait_for s caller p e most timeout).1
linked_wait_for s caller p e most (pos zero) h = h
linked_wait_for s caller p e most (pos (suc k)) h = linked_files s _ (narrows_self s.files h.made) refl h
linked_wait_for s caller p e most (negsuc k) h = linked_files s _ (narrows_self s.files h.made) refl h

fine_wait : (s : State) (caller p e most : ℕ) (timeout : ℤ) (ks : List ℕ) → Linked s → Fine (wait s caller p e most timeout ks)
fine_wait s caller p e most timeout ks h = fine_if (is_ready s e) _ _ (fine_report s e most ks h) (fine_plainly ks _ (linked_wait_for s caller p e most timeout h))

-- what leaves descriptions and objects alone
linked_tables : (s t : State) → t.watches ≡ s.watches → t.files.descriptions ≡ s.files.descriptions → t.files.objects ≡ s.files.objects → Linked s → Linked t
linked_tables s t w d o h =
    let g : Files = record t.files { descriptions = s.files.descriptions; objects = s.files.objects } in
    let same : g ≡ t.files = λ i. record t.files { descriptions = sym d i; objects = sym o i } in
    linked_files s t (subst (λ (f : Files). Narrows s.files f) same (record { longer = omega arith; made = h.made; instances = λ k lt i. i; dead = λ k lt i. i; stays = λ k i l. i; first = λ i. i })) w h

module _ (limits : Limits) (s : State) (caller p : ℕ) (call : Call) (ks : List ℕ) (h : Linked s) where
  abbrev IsLinked : Call → List (Bool × Errno) → Option Change → Type 0
  IsLinked on tests c = held is_eloop tests ≡ false → held is_eperm tests ≡ false → held is_einval tests ≡ false → Fine c

  linked_after : (on : Call) → Linked (record s { files = (files_call limits s.files p (has_parked s p) on).after })
  linked_after on =
      by_making limits s.files p (has_parked s p) (λ of g raised. Linked (record s { files = g }))
      (λ of x cloexec has. linked_files s _ (narrows_one s.files p x cloexec h.made) refl h)
      (λ of x cloexec has also. linked_files s _ (narrows_two s.files p x cloexec h.made) refl h)
      (λ of g d o. linked_tables s _ refl d o h)
      (λ of g d o.
      let one : Linked (record s { files = g }) = linked_tables s _ refl d o h in
      linked_files (record s { files = g }) _ (narrows_all_go g [] (abandoned g) one.made) refl one)
      (λ fd cloexec k is. linked_files s _ (narrows_accept s.files p _ k cloexec h.made (first_waits s.files _ k is)) refl h)
      on

  linked_joined : (on : Call) (c : Change) → Linked c.1 → Linked (joined limits p on c).1
  linked_joined on c l =
      by_joined limits p (λ d. Linked d.1) on c l (λ fd name x m same is at unix.
      let f = c.1.files in
      let o = place_of f (named_by f p fd.0) in
      let none : is_instance_at f.objects (object_number o) ≡ false = false_from_ne_true _ (λ t. false≢true (ap is_instance (sym is) ∙ from_number f o l.first t)) in
      linked_files c.1 _ (narrows_join limits.sock_bytes f (object_number o) m x name l.made none) refl l)

  linked_by_ctl : OfCtl limits s caller p ks IsLinked
  linked_by_ctl epfd op fd mask tag a b c =
      let instances = or_parts _ _ c in
      let ops = or_parts _ _ instances.1 in
      let adds = or_parts _ _ ops.1 in
      let mods = or_parts _ _ adds.1 in
      fine_plainly ks _ (linked_ctl s p epfd.0 op fd.0 mask.0 tag h (or_nothing_false _ a) (or_nothing_false _ b) instances.0 ops.0 adds.0 mods.0)

  fine_call : held is_eloop (call_refusals limits s p call) ≡ false → held is_eperm (call_refusals limits s p call) ≡ false → held is_einval (call_refusals limits s p call) ≡ false → Fine (call_change limits s caller p call ks)
  fine_call =
      by_shape limits s caller p ks IsLinked linked_by_ctl
      (λ epfd most timeout a b c. fine_wait s caller p (named_by s.files p epfd.0) (number_in most) timeout ks h)
      (λ on fd asked is a b c. fine_plainly ks _ (linked_joined on _ (linked_files s _ (narrows_affected s.files p fd.0 s.now asked h.made h.first) refl h)))
      (λ on is a b c. fine_plainly ks _ (linked_after on))
      call

fine_left : (caller : ℕ) (o : Option Change) → Fine o → Fine (leave_after caller o)
unfolding Fine
fine_left caller o h = left_after Linked (λ t ws l. linked_tables t _ refl refl refl l) caller o h

fine_change : (limits : Limits) (s : State) (caller : ℕ) (event : Event) (ks : List ℕ) → first (refusals limits s caller event) ≡ None → Linked s → Fine (change limits s caller event ks)
fine_change limits s caller (CallOf p call) ks allowed h =
    let rows = refusals limits s caller (CallOf p call) in
    fine_call limits s caller p.0 call ks h (none_held is_eloop rows allowed) (none_held is_eperm rows allowed) (none_held is_einval rows allowed)
fine_change limits s caller Resume ks allowed h =
    let same : (t : State) (ws : List Waiter) → Linked t → Linked (record t { waiters = ws }) = λ t ws l. linked_tables t _ refl refl refl l in
    resumes Fine s caller ks (fine_plainly ks _ h) (λ w. fine_left w.caller _ (fine_report s w.instance w.most ks h)) (λ w. fine_plainly ks _ (same s _ h)) (λ w. fine_plainly ks _ (same s _ h))
fine_change limits s caller (Tick k) ks allowed h = fine_plainly ks _ (linked_tables s _ refl refl refl h)

pub linked_settle : (before after : State) (raised : List (ℕ × ℕ)) → Linked after → Linked (settle before after raised)
linked_settle before after raised h =
    let files = (die_all (after.files, raised) (dying after)).0 in
    let left = buried after raised in
    let t = arrived left.0 left.1 in
    let kept = filter (is_kept (record after { files = files })) after.watches in
    linked_narrows after (settle before after raised) (narrows_deaths after.files raised (dying after) h.made)
    (of_trans after.watches kept (map (came (reportable_numbers before) t) kept) (of_filter (is_kept (record after { files = files })) after.watches)
    (of_map (came (reportable_numbers before) t) (came_link (reportable_numbers before) t) (came_armed (reportable_numbers before) t) kept)) h

-- what is left of a change
pub linked_left : (after : State) (raised : List (ℕ × ℕ)) → Linked after → Linked (buried after raised).0
linked_left after raised h =
    let files = (die_all (after.files, raised) (dying after)).0 in
    linked_narrows after (buried after raised).0 (narrows_deaths after.files raised (dying after) h.made) (of_filter (is_kept (record after { files = files })) after.watches) h

-- a change that is not refused
pub linked_change : (limits : Limits) (s : State) (caller : ℕ) (event : Event) (picked : List ℕ) (c : Change) → first (refusals limits s caller event) ≡ None → change limits s caller event picked ≡ Some c → Linked s → Linked c.1
unfolding Fine
linked_change limits s caller event picked c allowed e h = subst Fine e (fine_change limits s caller event picked allowed h)

IsStep : Option (Answer × State) → Type 0
IsStep o = MatchOption o (Unit {0}) (λ c. Linked c.1)

linked_settled : (before : State) (c : Option Change) → Fine c → IsStep (settled before c)
unfolding Fine IsStep
linked_settled before None h = tt
linked_settled before (Some c) h = linked_settle before c.1 c.2 h

linked_refused : (e : Option Errno) (s : State) (ks : List ℕ) (c : Option Change) → Linked s → (e ≡ None → Fine c) → IsStep (refused_or e s ks c)
unfolding IsStep
linked_refused None s ks c h k = linked_settled s c (k refl)
linked_refused (Some e) s [] c h k = h
linked_refused (Some e) s (x ∷ ks) c h k = tt

pub linked_begun : (s : State) → Linked s → Linked (next_event s)
linked_begun s h = linked_tables s (next_event s) refl refl refl h

pub linked_step : (limits : Limits) (s t : State) (caller : ℕ) (event : Event) (picked : List ℕ) (a : Answer) → Linked s → step limits s caller event picked ≡ Some (a, t) → Linked t
unfolding IsStep
linked_step limits s t caller event picked a h e =
    let now = next_event s in
    let start = linked_begun s h in
    subst IsStep e (linked_refused (first (refusals limits now caller event)) now picked (change limits now caller event picked) start (λ allowed. fine_change limits now caller event picked allowed start))

pub linked_opening : Linked opening
linked_opening = record { legal = refl; made = made; first = (omega arith, refl); targets = λ x m. absurd m; instances = λ x m. absurd m; exclusive = λ x m. absurd m } where
  made : AreMade opening_files
  made zero p e = let same : p.object ≡ 0 = cc in omega (arith, same)
  made (suc d) p e = cc

-- in each state of a run
pub linked_run : (limits : Limits) (past : List Record) (s : State) → run limits opening past ≡ Some s → Linked s
linked_run limits past s e = run_keeps Linked limits (linked_step limits) opening s past linked_opening e

pub graph_stays_legal : GraphStaysLegal
graph_stays_legal limits past s e = (linked_run limits past s e).legal

-- in each state of a run no exclusive registration is on an instance, and each is armed
pub exclusive_targets : ExclusiveTargets
exclusive_targets limits past s x e m is = (linked_run limits past s e).exclusive x m is
