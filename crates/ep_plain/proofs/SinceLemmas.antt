-- What is kept of each registration is the event since which the machine has it as reportable.
use Rattle.std.proofs.Common.{get_or, ◌≡◌, ◌<◌, ◌≤◌, ◌+◌, ◌==◌, ◌||◌, ◌∙◌, ◌⊎◌, ℕ, suc, zero, All, Bool, true, false, List, [], ◌∷◌, Some, ap, arith, filter, if◌then◌else◌, inl, inr, nat_lt, refl, subst, sym}
use Rattle.std.proofs.lemmas.Bool.{cases_Bool, false≢true}
use Rattle.std.proofs.lemmas.List.Elements.{All-from_recursion, All-map, All-nil}
use Rattle.std.specs.List.{AllByRecursion}
use Rattle.ep_facts.proofs.NatFacts.{above_none, is_positive as above, same_test, test_apart, zero_of}
use Rattle.ep_facts.proofs.BoolFacts.{same_bools}
use Rattle.ep_base.specs.Limits.{Limits}
use Rattle.ep_base.specs.declared.answer.Answer.{Answer}
use Rattle.ep_base.specs.declared.call.Event.{Event}
use Rattle.ep_interest.specs.Registrations.{Registrations}
use Rattle.ep_law.specs.Laws.{Member}
use Rattle.ep_law.specs.Sound.{Sound}
use Rattle.ep_law.proofs.ListLemmas.{all_member, among, among_member, filtered_member, filtered_passes, mapped_member, member_filter, member_map, one_number}
use Rattle.ep_machine.specs.Lists.{is_among}
use Rattle.ep_machine.specs.Readiness.{is_reportable}
use Rattle.ep_machine.specs.Settle.{reportable_numbers}
use Rattle.ep_machine.specs.State.{State, Waiter, Watch, opening}
use Rattle.ep_machine.specs.Step.{next_event, step}
use Rattle.ep_order.specs.Step.{HasTurn, StepAddsOne, StepKeepsTurns}
use Rattle.ep_view.specs.KernelView.{KernelWatch, kernel_watch, kernel_watches, ready_now, shows}
use Rattle.ep_view.proofs.KernelViewLemmas.{readiness as machine_readiness, reportable_kept}
use Rattle.ep_calls.specs.Readiness.{entry_shows, readiness}
use Rattle.ep_calls.specs.Stands.{Stands, watch_at}
use Rattle.ep_dates.specs.Dates.{event_at}
use Rattle.ep_dates.specs.Touched.{date_of}
use Rattle.ep_plain.specs.Since.{AreDated, IsDated}
use Rattle.ep_table.specs.Value.{Seen}

-- what holds of each member holds of all
pub all_by : {X : Type 0} (P : X → Type 0) (xs : List X) → ((x : X) → Member x xs → P x) → AllByRecursion P xs
all_by P [] h = tt
all_by P (x ∷ xs) h = (h x (inl refl), all_by P xs (λ y m. h y (inr m)))

-- nothing is kept at first
pub opening_dated : (since : List ℕ) → since ≡ [] → IsDated opening since
opening_dated since is = subst (λ (xs : List ℕ). IsDated opening xs) (sym is) (record {
  later = none;
  shown = All-nil _;
  from = All-nil _;
}) where
  none : (k : ℕ) → 0 < k → event_at [] k ≡ 0
  none zero lt = refl
  none (suc k) lt = refl

-- and so where each number keeps its date
pub same_dated : (s : State) (since more : List ℕ) → ((k : ℕ) → event_at more k ≡ event_at since k) → IsDated s since → IsDated s more
same_dated s since more same h = record {
  later = λ k lt. same k ∙ h.later k lt;
  shown = λ i d lt. ap (nat_lt 0) (same (get_or s.watches i d).number) ∙ h.shown i d lt;
  from = λ i d lt r. same (get_or s.watches i d).number ∙ h.from i d lt r;
}

-- what is kept of a reportable one is no 0
pub up_where : (n : ℕ) (b : Bool) (rep e : ℕ) → 0 < n → nat_lt 0 (date_of n b rep e) ≡ b
up_where n false rep e lt = refl
up_where n true rep e lt = elim (cases_Bool (e == 0)) [
  | inl t ↦ ap (λ (b : Bool). nat_lt 0 (if b || rep == n then n else e)) t ∙ above n lt
  | inr f ↦ ap (λ (b : Bool). nat_lt 0 (if b || rep == n then n else e)) f ∙ elim (rep == n) as (λ b. nat_lt 0 (if b then n else e) ≡ true) [
    | true ↦ above n lt
    | false ↦ above e (above_none e f)
  ]
]

pub comes : (n rep e : ℕ) → e ≡ 0 → date_of n true rep e ≡ n
comes n rep e h = ap (λ (k : ℕ). date_of n true rep k) h

reported_now : (n rep e : ℕ) → rep ≡ n → date_of n true rep e ≡ n
reported_now n rep e h = elim (cases_Bool (e == 0)) [
  | inl t ↦ ap (λ (b : Bool). if b || rep == n then n else e) t
  | inr f ↦ ap (λ (b : Bool). if b || rep == n then n else e) f ∙ ap (λ (b : Bool). if b then n else e) (same_test rep n h)
]

stays : (n rep e : ℕ) → (e ≡ 0 → ⊥) → (rep ≡ n → ⊥) → date_of n true rep e ≡ e
stays n rep e h k = λ i. if test_apart e 0 h i || test_apart rep n k i then n else e

begun_reportable : (s : State) (x : Watch) → is_reportable (next_event s) x ≡ is_reportable s x
begun_reportable s x = reportable_kept (next_event s) x ∙ sym (reportable_kept s x)

-- and so at the beginning of the next event
pub begun_dated : (s : State) (since : List ℕ) → IsDated s since → IsDated (next_event s) since
begun_dated s since h = record {
  later = h.later;
  shown = λ i d lt. h.shown i d lt ∙ sym (begun_reportable s (get_or s.watches i d));
  from = λ i d lt r. h.from i d lt (sym (begun_reportable s (get_or s.watches i d)) ∙ r);
}

-- its number is among those of the reportable ones exactly where it is reportable
among_is : (s : State) (w : Watch) → Sound s → Member w s.watches → is_among (reportable_numbers (next_event s)) w.number ≡ is_reportable s w
among_is s w sound m =
    let b = next_event s in
    same_bools _ _
    (λ t.
    let x = mapped_member (λ y. y.number) (filter (is_reportable b) s.watches) w.number (among_member (reportable_numbers b) w.number t) in
    let is : x.0 ≡ w = one_number s.watches x.0 w sound.numbers (filtered_member (is_reportable b) s.watches x.0 x.1) m x.2 in
    sym (begun_reportable s w) ∙ (ap (is_reportable b) (sym is) ∙ filtered_passes (is_reportable b) s.watches x.0 x.1))
    (λ r. among w.number (reportable_numbers b) (member_map (λ y. y.number) w (filter (is_reportable b) s.watches) (member_filter (is_reportable b) w s.watches m (begun_reportable s w ∙ r))))

-- a number above all is not among them
none_among : (s : State) (k : ℕ) → Sound s → s.added < k → is_among (reportable_numbers (next_event s)) k ≡ false
none_among s k sound lt = elim (cases_Bool (is_among (reportable_numbers (next_event s)) k)) [
  | inr f ↦ f
  | inl t ↦
      let x = mapped_member (λ y. y.number) (filter (is_reportable (next_event s)) s.watches) k (among_member (reportable_numbers (next_event s)) k t) in
      let le : x.0.number ≤ s.added = all_member (λ y. y.number ≤ s.added) s.watches x.0 sound.below (filtered_member (is_reportable (next_event s)) s.watches x.0 x.1) in
      absurd (omega (arith, le, lt, x.2))
]

module _ (s : State) (since : List ℕ) (sound : Sound s) (dated : IsDated s since) where
  abbrev b : State
  b = next_event s

  abbrev n : ℕ
  n = s.n + 1

  -- of one that was there
  from_was : (ks : List ℕ) (t : State) (y : Watch) (turn : HasTurn b t ks y) (w : Watch) → Member w s.watches → turn.x.number ≡ w.number → (from : y.from ≡ (if is_among (reportable_numbers b) y.number then turn.x.from else n))
      → ((turn.x.rep ≡ w.rep) × (turn.x.from ≡ w.from)) ⊎ ((is_among ks turn.x.number ≡ true) × (turn.x.rep ≡ n) × (turn.x.from ≡ n)) → date_of n true y.rep (event_at since y.number) ≡ y.from
  from_was ks t y turn w m number from how =
      let same : y.number ≡ w.number = turn.number ∙ number in
      let kept : event_at since y.number ≡ event_at since w.number = ap (event_at since) same in
      let up : nat_lt 0 (event_at since w.number) ≡ is_reportable s w = all_member (λ x. nat_lt 0 (event_at since x.number) ≡ is_reportable s x) s.watches w dated.shown m in
      let there : is_among (reportable_numbers b) y.number ≡ is_reportable s w = ap (is_among (reportable_numbers b)) same ∙ among_is s w sound m in
      elim (cases_Bool (is_reportable s w)) [
        | inr f ↦
            comes n y.rep (event_at since y.number) (kept ∙ zero_of (event_at since w.number) (up ∙ f))
            ∙ sym (from ∙ ap (λ (c : Bool). if c then turn.x.from else n) (there ∙ f))
        | inl r ↦
            let on : y.from ≡ turn.x.from = from ∙ ap (λ (c : Bool). if c then turn.x.from else n) (there ∙ r) in
            let at : event_at since w.number ≡ w.from = all_member (λ x. is_reportable s x ≡ true → event_at since x.number ≡ x.from) s.watches w dated.from m r in
            let le : w.rep ≤ w.from = all_member (λ x. x.rep ≤ x.from) s.watches w sound.fair m in
            let past : w.from ≤ s.n = all_member (λ x. x.from ≤ s.n) s.watches w sound.past m in
            elim how [
              | inr told ↦ reported_now n y.rep (event_at since y.number) (turn.rep ∙ told.1) ∙ sym (on ∙ told.2)
              | inl old ↦
                  stays n y.rep (event_at since y.number)
                  (λ e. false≢true (ap (λ (k : ℕ). nat_lt 0 k) (sym (sym kept ∙ e)) ∙ (up ∙ r)))
                  (λ e. omega (arith, le, past, e, turn.rep, old.0))
                  ∙ (kept ∙ (at ∙ sym (on ∙ old.1)))
            ]
      ]

  -- the event since which one is reportable at the end
  from_is : (limits : Limits) (t : State) (caller : ℕ) (event : Event) (ks : List ℕ) (a : Answer) → StepKeepsTurns → step limits s caller event ks ≡ Some (a, t)
      → (y : Watch) → Member y t.watches → is_reportable t y ≡ true → date_of n true y.rep (event_at since y.number) ≡ y.from
  from_is limits t caller event ks a law goes y m r =
      let turn = law limits s t caller event ks a goes y m r in
      let from = turn.from r in
      elim turn.source [
        | inl was ↦ from_was ks t y turn was.was was.there was.number from was.turn
        | inr new ↦
            let above : s.added < y.number = omega (arith, turn.number, new.number) in
            comes n y.rep (event_at since y.number) (dated.later y.number above) ∙ sym (from ∙ ap (λ (c : Bool). if c then turn.x.from else n) (none_among s y.number sound above))
      ]

  -- what is kept at the end of the event
  pub next_dated : {ws : List Waiter} (limits : Limits) (t : State) (caller : ℕ) (event : Event) (ks : List ℕ) (a : Answer) (v : Seen) (r : Registrations) (now k : ℕ) (new : List ℕ) → StepKeepsTurns → StepAddsOne → step limits s caller event ks ≡ Some (a, t)
      → Stands v r ws now t → k ≡ n → AreDated (entry_shows (readiness v now r) v now) k r since new → IsDated t new
  next_dated limits t caller event ks a v r now k new turns adds goes stands at dates =
      let P : KernelWatch → Type 0 = λ w. event_at new w.number ≡ date_of n (shows (readiness v now r) v.files now w) w.reported_in (event_at since w.number) in
      let each : All (λ x. P (watch_at v.keys x)) r.entries = λ i d lt. dates.each i d lt ∙ (λ j. date_of (at j) (entry_shows (readiness v now r) v now (get_or r.entries i d)) (get_or r.entries i d).reported_in (event_at since (get_or r.entries i d).number)) in
      let kept : All P (kernel_watches t t.watches) = subst (λ (xs : List KernelWatch). All P xs) (sym stands.watches) (All-map P (watch_at v.keys) r.entries each) in
      let same_ready : machine_readiness t ≡ readiness v now r = λ i. ready_now (stands.files i) (stands.now i) (stands.watches i) in
      let one : (y : Watch) → Member y t.watches → event_at new y.number ≡ date_of n (is_reportable t y) y.rep (event_at since y.number) = λ y m.
      let up : is_reportable t y ≡ shows (readiness v now r) v.files now (kernel_watch t y) = reportable_kept t y ∙ λ i. shows (same_ready i) (stands.files i) (stands.now i) (kernel_watch t y) in
      all_member P (kernel_watches t t.watches) (kernel_watch t y) kept (member_map (kernel_watch t) y t.watches m) ∙ ap (λ (c : Bool). date_of n c y.rep (event_at since y.number)) (sym up) in
      let added = adds limits s t caller event ks a goes in
      record {
        later = λ j lt. dates.later j (omega (arith, lt, stands.added)) ∙ dated.later j (omega (arith, lt, added.0));
        shown = All-from_recursion _ t.watches (all_by (λ y. nat_lt 0 (event_at new y.number) ≡ is_reportable t y) t.watches (λ y m. ap (λ (e : ℕ). nat_lt 0 e) (one y m) ∙ up_where n (is_reportable t y) y.rep (event_at since y.number) (omega arith)));
        from = All-from_recursion _ t.watches (all_by (λ y. is_reportable t y ≡ true → event_at new y.number ≡ y.from) t.watches (λ y m q.
            one y m ∙ (ap (λ (c : Bool). date_of n c y.rep (event_at since y.number)) q ∙ from_is limits t caller event ks a turns goes y m q)));
      }
