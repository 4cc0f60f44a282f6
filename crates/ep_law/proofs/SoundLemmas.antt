-- Each state of a run is sound.
use Rattle.std.proofs.Common.{◌≡◌, ℕ, zero, suc, ◌+◌, ◌<◌, ◌≤◌, ◌&&◌, Bool, true, false, List, [], ◌∷◌, ◌++◌, Option, Some, None, ℤ, pos, negsuc, MatchOption, not, get_or, refl, sym, arith, map, subst, cond, filter, nat_eq, All}
use Rattle.std.specs.List.{AllByRecursion, IsDistinct}
use Rattle.std.proofs.lemmas.List.Elements.{All-filter, All-map, All-push}
use Rattle.std.proofs.lemmas.Bool.Decides.{nat_tests}
use Rattle.ep_base.specs.Limits.{Limits}
use Rattle.ep_base.specs.declared.answer.Answer.{Answer}
use Rattle.ep_base.specs.declared.answer.Answer.TheVariants.{Events}
use Rattle.ep_base.specs.declared.call.Call.{Call}
use Rattle.ep_base.specs.declared.call.Call.TheVariants.{EpollCtl, EpollWait}
use Rattle.ep_base.specs.declared.call.Event.{Event}
use Rattle.ep_base.specs.declared.call.Event.TheVariants.{Call as CallOf, Resume, Tick}
use Rattle.ep_base.specs.declared.errno.Errno.{Errno}
use Rattle.ep_base.specs.declared.record.Record.{Record}
use Rattle.ep_machine.specs.Run.{run}
use Rattle.ep_law.proofs.StepLemmas.{left_after, resumes, run_keeps, only_files}
use Rattle.ep_machine.specs.Bits.{ONESHOT, has_bit}
use Rattle.ep_machine.specs.Deaths.{buried, die_all, dying, is_kept, without_dead_watches}
use Rattle.ep_machine.specs.Effect.{first}
use Rattle.ep_machine.specs.Files.{named_by}
use Rattle.ep_machine.specs.Lists.{is_among}
use Rattle.ep_machine.specs.Readiness.{is_ready, is_reportable}
use Rattle.ep_machine.specs.Refusal.{refusals}
use Rattle.ep_machine.specs.Report.{is_pick, plainly, report, report_of, reported, watches_at}
use Rattle.ep_machine.specs.Settle.{came, reportable_numbers, settle}
use Rattle.ep_law.specs.Sound.{Sound}
use Rattle.ep_machine.specs.Spread.{arrived}
use Rattle.ep_machine.specs.State.{Change, State, Watch, counts_of, opening}
use Rattle.ep_machine.specs.Step.{next_event, call_change, change, refused_or, settled, step}
use Rattle.ep_machine.specs.Waits.{leave_after, wait, wait_for}
use Rattle.ep_machine.specs.Watches.{ctl, has_key, is_add, is_del, modified, new_watch, number_in, with_watch}
use Rattle.ep_law.proofs.PickLemmas.{distinct_filter, numbers}
use Rattle.ep_machine.specs.Objects.{asks}
use Rattle.std.proofs.Common.{sym, subst}

-- the same registrations in another state
same_watches : (s t : State) → t.watches ≡ s.watches → t.added ≡ s.added → t.n ≡ s.n → Sound s → Sound t
same_watches s t w a n h = record {
  numbers = subst (λ (xs : List Watch). IsDistinct nat_eq (numbers xs)) (sym w) h.numbers;
  positive = subst (λ (xs : List Watch). All (λ x. 1 ≤ x.number) xs) (sym w) h.positive;
  below = subst (λ (xs : List Watch). All (λ x. x.number ≤ t.added) xs) (sym w) (subst (λ (k : ℕ). All (λ x. x.number ≤ k) s.watches) (sym a) h.below);
  fair = subst (λ (xs : List Watch). All (λ x. x.rep ≤ x.from) xs) (sym w) h.fair;
  past = subst (λ (xs : List Watch). All (λ x. x.from ≤ t.n) xs) (sym w) (subst (λ (k : ℕ). All (λ x. x.from ≤ k) s.watches) (sym n) h.past);
}

-- some of the registrations
sound_filter : (s : State) (p : Watch → Bool) → Sound s → Sound (record s { watches = filter p s.watches })
sound_filter s p h = record {
  numbers = distinct_filter p s.watches h.numbers;
  positive = All-filter p (λ x. 1 ≤ x.number) s.watches h.positive;
  below = All-filter p (λ x. x.number ≤ s.added) s.watches h.below;
  fair = All-filter p (λ x. x.rep ≤ x.from) s.watches h.fair;
  past = All-filter p (λ x. x.from ≤ s.n) s.watches h.past;
}

-- what may become of a registration up to event n
record Follows (n : ℕ) (x y : Watch) : Type 0 where
  pub number : y.number ≡ x.number
  pub fair : x.rep ≤ x.from → x.from ≤ n → y.rep ≤ y.from
  pub past : x.from ≤ n → y.from ≤ n

same_numbers : (f : Watch → Watch) → ((x : Watch) → (f x).number ≡ x.number) → (xs : List Watch) → numbers (map f xs) ≡ numbers xs
same_numbers f num [] = refl
same_numbers f num (x ∷ xs) = λ i. num x i ∷ same_numbers f num xs i

sound_map : (s : State) (f : Watch → Watch) → ((x : Watch) → Follows s.n x (f x)) → Sound s → Sound (record s { watches = map f s.watches })
sound_map s f follows h = record {
  numbers = subst (λ (ks : List ℕ). IsDistinct nat_eq ks) (sym (same_numbers f (λ x. (follows x).number) s.watches)) h.numbers;
  positive = All-map (λ x. 1 ≤ x.number) f s.watches (λ k d lt. omega (arith, (follows (get_or s.watches k d)).number, h.positive k d lt));
  below = All-map (λ x. x.number ≤ s.added) f s.watches (λ k d lt. omega (arith, (follows (get_or s.watches k d)).number, h.below k d lt));
  fair = All-map (λ x. x.rep ≤ x.from) f s.watches (λ k d lt. (follows (get_or s.watches k d)).fair (h.fair k d lt) (h.past k d lt));
  past = All-map (λ x. x.from ≤ s.n) f s.watches (λ k d lt. (follows (get_or s.watches k d)).past (h.past k d lt));
}

apart_push : (l m : ℕ) (ws : List Watch) (w : Watch) → l < m → w.number ≡ m → AllByRecursion (λ y. nat_eq l y ≡ false) (numbers ws) → AllByRecursion (λ y. nat_eq l y ≡ false) (numbers (ws ++ w ∷ []))
apart_push l m [] w lt e h = (grind (arith, nat_tests, lt, e), tt)
apart_push l m (x ∷ ws) w lt e h = (h.0, apart_push l m ws w lt e h.1)

distinct_push : (ws : List Watch) (w : Watch) (m : ℕ) → w.number ≡ m → All (λ x. x.number < m) ws → IsDistinct nat_eq (numbers ws) → IsDistinct nat_eq (numbers (ws ++ w ∷ []))
unfolding IsDistinct
distinct_push [] w m e b h = (tt, tt)
distinct_push (x ∷ ws) w m e b h = (apart_push x.number m ws w (b 0 x (omega arith)) e h.0, distinct_push ws w m e (λ k d l. b (suc k) d (omega arith)) h.1)

sound_add : (s : State) (e fd d mask tag : ℕ) → Sound s → Sound (with_watch s (new_watch s e fd d mask tag))
sound_add s e fd d mask tag h =
    let x = new_watch s e fd d mask tag in record {
      numbers = distinct_push s.watches x (s.added + 1) refl (λ k c lt. let b = h.below k c lt in omega arith) h.numbers;
      positive = All-push (λ y. 1 ≤ y.number) s.watches x h.positive (omega arith);
      below = All-push (λ y. y.number ≤ s.added + 1) s.watches x (λ k c lt. let b = h.below k c lt in omega arith) (omega arith);
      fair = All-push (λ y. y.rep ≤ y.from) s.watches x h.fair (omega arith);
      past = All-push (λ y. y.from ≤ s.n) s.watches x h.past (omega arith);
    }

-- a registration that keeps number, rep and from
follows_same : (n : ℕ) (x y : Watch) → y.number ≡ x.number → y.rep ≡ x.rep → y.from ≡ x.from → Follows n x y
follows_same n x y num r f = record { number = num; fair = λ p q. omega (arith, r, f, p); past = λ q. omega (arith, f, q) }

follows_modified : (n e fd d mask tag : ℕ) (x : Watch) → Follows n x (modified e fd d mask tag x)
follows_modified n e fd d mask tag x = elim (has_key e fd d x) as (λ b. Follows n x (cond b (record x { mask = mask; tag = tag; armed = true; seen = None }) x)) [
  | true ↦ follows_same n x (record x { mask = mask; tag = tag; armed = true; seen = None }) refl refl refl
  | false ↦ follows_same n x x refl refl refl
]

follows_reported : (s : State) (ks : List ℕ) (x : Watch) → Follows s.n x (reported s ks x)
follows_reported s ks x =
    let y : Watch = record x { seen = Some (counts_of s x.target); rep = s.n; from = s.n; armed = x.armed && not (has_bit x.mask ONESHOT) } in
    elim (is_among ks x.number) as (λ b. Follows s.n x (cond b y x)) [
      | true ↦ record { number = refl; fair = λ p q. omega arith; past = λ q. omega arith }
      | false ↦ follows_same s.n x x refl refl refl
    ]

follows_came : (earlier : List ℕ) (s : State) (x : Watch) → Follows s.n x (came earlier s x)
follows_came earlier s x = elim (not (is_among earlier x.number) && is_reportable s x) as (λ b. Follows s.n x (cond b (record x { from = s.n }) x)) [
  | true ↦ record { number = refl; fair = λ p q. omega (arith, p, q); past = λ q. omega arith }
  | false ↦ follows_same s.n x x refl refl refl
]

Fine : Option Change → Type 0
Fine c = MatchOption c (Unit {0}) (λ o. Sound o.1)

fine_plainly : (ks : List ℕ) (c : Change) → Sound c.1 → Fine (plainly ks c)
unfolding Fine
fine_plainly [] c h = h
fine_plainly (k ∷ ks) c h = tt

sound_if : (b : Bool) (c d : Change) → Sound c.1 → Sound d.1 → Sound (cond b c d).1
sound_if true c d h k = h
sound_if false c d h k = k

fine_if : (b : Bool) (c d : Option Change) → Fine c → Fine d → Fine (cond b c d)
fine_if true c d h k = h
fine_if false c d h k = k

fine_option_if : (b : Bool) (c : Change) → Sound c.1 → Fine (cond b (Some c) None)
unfolding Fine
fine_option_if true c h = h
fine_option_if false c h = tt

fine_report : (s : State) (e most : ℕ) (ks : List ℕ) → Sound s → Fine (report s e most ks)
fine_report s e most ks h =
    let c : Change = (Events (map (report_of s) (watches_at s.watches ks)), record s { watches = map (reported s ks) s.watches }, []) in
    fine_option_if (is_pick s e most ks) c (sound_map s (reported s ks) (follows_reported s ks) h)

sound_wait_for : (s : State) (caller p e most : ℕ) (timeout : ℤ) → Sound s → Sound (wait_for s caller p e most timeout).1
sound_wait_for s caller p e most (pos zero) h = h
sound_wait_for s caller p e most (pos (suc k)) h = same_watches s _ refl refl refl h
sound_wait_for s caller p e most (negsuc k) h = same_watches s _ refl refl refl h

fine_wait : (s : State) (caller p e most : ℕ) (timeout : ℤ) (ks : List ℕ) → Sound s → Fine (wait s caller p e most timeout ks)
fine_wait s caller p e most timeout ks h = fine_if (is_ready s e) _ _ (fine_report s e most ks h) (fine_plainly ks _ (sound_wait_for s caller p e most timeout h))

sound_ctl : (s : State) (p : ℕ) (epfd op fd : ℤ) (mask tag : ℕ) → Sound s → Sound (ctl s p epfd op fd mask tag).1
sound_ctl s p epfd op fd mask tag h =
    let e = named_by s.files p epfd in
    let d = named_by s.files p fd in
    let k = number_in fd in
    sound_if (is_add op) _ _ (sound_add s e k d mask tag h) (sound_if (is_del op) _ _ (sound_filter s (λ x. not (has_key e k d x)) h) (sound_map s (modified e k d mask tag) (follows_modified s.n e k d mask tag) h))

fine_call : (limits : Limits) (s : State) (caller p : ℕ) (call : Call) (ks : List ℕ) → Sound s → Fine (call_change limits s caller p call ks)
fine_call limits s caller p (EpollCtl epfd op fd mask tag) ks h = fine_plainly ks _ (sound_ctl s p epfd.0 op fd.0 mask.0 tag h)
fine_call limits s caller p (EpollWait epfd most timeout) ks h = fine_wait s caller p (named_by s.files p epfd.0) (number_in most) timeout ks h
fine_call limits s caller p call ks h =
    let only = only_files limits s p call (asks s.files.objects call) in
    fine_plainly ks _ (subst Sound (sym only.1) (same_watches s (record s { files = only.0 }) refl refl refl h))

fine_left : (caller : ℕ) (o : Option Change) → Fine o → Fine (leave_after caller o)
unfolding Fine
fine_left caller o h = left_after Sound (λ t ws l. same_watches t _ refl refl refl l) caller o h

fine_change : (limits : Limits) (s : State) (caller : ℕ) (event : Event) (ks : List ℕ) → Sound s → Fine (change limits s caller event ks)
fine_change limits s caller (CallOf p call) ks h = fine_call limits s caller p.0 call ks h
fine_change limits s caller Resume ks h =
    resumes Fine s caller ks (fine_plainly ks _ h) (λ w. fine_left w.caller _ (fine_report s w.instance w.most ks h)) (λ w. fine_plainly ks _ (same_watches s _ refl refl refl h)) (λ w. fine_plainly ks _ (same_watches s _ refl refl refl h))
fine_change limits s caller (Tick k) ks h = fine_plainly ks _ (same_watches s _ refl refl refl h)

pub sound_change : (limits : Limits) (s : State) (caller : ℕ) (event : Event) (ks : List ℕ) (c : Change) → change limits s caller event ks ≡ Some c → Sound s → Sound c.1
unfolding Fine
sound_change limits s caller event ks c is h = subst Fine is (fine_change limits s caller event ks h)

pub sound_settle : (before after : State) (raised : List (ℕ × ℕ)) → Sound after → Sound (settle before after raised)
sound_settle before after raised h =
    let files = (die_all (after.files, raised) (dying after)).0 in
    let left = without_dead_watches (record after { files = files }) in
    let t = arrived left (buried after raised).1 in
    let sound_left : Sound left = sound_filter (record after { files = files }) (is_kept (record after { files = files })) (same_watches after (record after { files = files }) refl refl refl h) in
    same_watches (record t { watches = map (came (reportable_numbers before) t) t.watches }) (settle before after raised) refl refl refl
    (sound_map t (came (reportable_numbers before) t) (follows_came (reportable_numbers before) t) (same_watches left t refl refl refl sound_left))

IsStep : Option (Answer × State) → Type 0
IsStep o = MatchOption o (Unit {0}) (λ c. Sound c.1)

fine_settled : (before : State) (c : Option Change) → Fine c → IsStep (settled before c)
unfolding Fine IsStep
fine_settled before None h = tt
fine_settled before (Some c) h = sound_settle before c.1 c.2 h

fine_refused : (e : Option Errno) (s : State) (ks : List ℕ) (c : Option Change) → Sound s → Fine c → IsStep (refused_or e s ks c)
unfolding IsStep
fine_refused None s ks c h k = fine_settled s c k
fine_refused (Some e) s [] c h k = h
fine_refused (Some e) s (x ∷ ks) c h k = tt

pub sound_begun : (s : State) → Sound s → Sound (next_event s)
sound_begun s h = record { numbers = h.numbers; positive = h.positive; below = h.below; fair = h.fair; past = λ k d lt. let p = h.past k d lt in omega arith }

pub sound_opening : Sound opening
unfolding IsDistinct
sound_opening = record { numbers = tt; positive = λ k d lt. absurd (omega arith); below = λ k d lt. absurd (omega arith); fair = λ k d lt. absurd (omega arith); past = λ k d lt. absurd (omega arith) }

pub sound_step : (limits : Limits) (s t : State) (caller : ℕ) (event : Event) (picked : List ℕ) (a : Answer) → Sound s → step limits s caller event picked ≡ Some (a, t) → Sound t
unfolding IsStep
sound_step limits s t caller event picked a h e =
    let now = next_event s in
    let start = sound_begun s h in
    subst IsStep e (fine_refused (first (refusals limits now caller event)) now picked (change limits now caller event picked) start (fine_change limits now caller event picked start))

-- each state of a run
pub sound_run : (limits : Limits) (past : List Record) (s : State) → run limits opening past ≡ Some s → Sound s
sound_run limits past s e = run_keeps Sound limits (sound_step limits) opening s past sound_opening e
