-- What a step does to the events by which registrations are reported in turn.
use Rattle.std.proofs.Common.{◌≡◌, ℕ, ◌&&◌, ◌⊎◌, ◌∙◌, Bool, List, [], ◌∷◌, MatchOption, None, Option, Some, true, false, not, ap, cond, filter, inl, inr, map, refl, subst, sym}
use Rattle.std.proofs.lemmas.Bool.{cases_Bool, false≢true}
use Rattle.ep_base.specs.Limits.{Limits}
use Rattle.ep_base.specs.declared.answer.Answer.{Answer}
use Rattle.ep_base.specs.declared.call.Event.{Event}
use Rattle.ep_base.specs.declared.errno.Errno.{Errno}
use Rattle.ep_machine.specs.Deaths.{buried, die_all, dying, is_kept}
use Rattle.ep_machine.specs.Effect.{first}
use Rattle.ep_view.specs.KernelView.{kernel_watches, kernel_watch, ready_now, shows}
use Rattle.ep_law.specs.Laws.{IsNoted, Member}
use Rattle.ep_machine.specs.Lists.{is_among}
use Rattle.ep_machine.specs.Readiness.{is_reportable}
use Rattle.ep_machine.specs.Refusal.{refusals}
use Rattle.ep_machine.specs.Settle.{came, reportable_numbers, settle}
use Rattle.ep_machine.specs.Spread.{arrived}
use Rattle.ep_machine.specs.State.{Change, State, Watch}
use Rattle.ep_machine.specs.Step.{next_event, change, refused_or, settled}
use Rattle.ep_law.proofs.GraphLemmas.{member_of_map}
use Rattle.ep_law.proofs.ListLemmas.{filtered_member, among, member_filter, member_map}
use Rattle.ep_view.proofs.KernelViewLemmas.{readiness, reportable_kept}
use Rattle.ep_order.proofs.OriginLemmas.{Adds, Origin, adds_none, origins}
use Rattle.ep_order.specs.Step.{Source, StepAddsOne, StepKeepsTurns, HasTurn}

same : (b : State) (ks : List ℕ) (x : Watch) → Member x b.watches → Source b ks x
same b ks x m = inl (record { was = x; there = m; number = refl; instance = refl; turn = inl (refl, refl) })

source : (b : State) (event : Event) (ks : List ℕ) (x : Watch) → Origin b event ks x → Source b ks x
source b event ks x (inl h) = inl (record { was = h.was; there = h.there; number = h.number; instance = h.instance; turn = inr (h.told, h.rep, h.from) })
source b event ks x (inr (out, inl m)) = same b ks x m
source b event ks x (inr (out, inr (inl h))) = inl (record { was = h.was; there = h.there; number = h.number; instance = h.instance; turn = inl (h.rep, h.from) })
source b event ks x (inr (out, inr (inr h))) = inr (record { number = h.number; rep = h.rep })

-- a registration at the end of an event is one that the change left
pub record Stood (b after : State) (rises : List (ℕ × ℕ)) (y : Watch) : Type 0 where
  pub x : Watch
  pub there : Member x after.watches
  pub number : y.number ≡ x.number
  pub instance : y.instance ≡ x.instance
  pub rep : y.rep ≡ x.rep
  pub noted : IsNoted x y
  pub from : is_reportable (settle b after rises) y ≡ true → y.from ≡ cond (is_among (reportable_numbers b) y.number) x.from after.n

-- the end of the event
module _ (b after : State) (rises : List (ℕ × ℕ)) where
  abbrev left : State × List (ℕ × ℕ)
  left = buried after rises

  abbrev mid : State
  mid = arrived left.0 left.1

  abbrev t : State
  t = settle b after rises

  abbrev earlier : List ℕ
  earlier = reportable_numbers b

  kept_came : (xs : List Watch) → kernel_watches mid (map (came earlier mid) xs) ≡ kernel_watches mid xs
  kept_came [] = refl
  kept_came (x ∷ xs) =
      let one : kernel_watch mid (came earlier mid x) ≡ kernel_watch mid x = elim (not (is_among earlier x.number) && is_reportable mid x) as (λ c. kernel_watch mid (cond c (record x { from = mid.n }) x) ≡ kernel_watch mid x) [ true ↦ refl | false ↦ refl ] in
      let rest = kept_came xs in
      λ i. one i ∷ rest i

  same_ready : readiness t ≡ readiness mid
  same_ready = ap (ready_now mid.files mid.now) (kept_came mid.watches)

  shows_as : (y x : Watch) → kernel_watch t y ≡ kernel_watch mid x → is_reportable t y ≡ is_reportable mid x
  shows_as y x e = reportable_kept t y ∙ ((λ i. shows (same_ready i) mid.files mid.now (e i)) ∙ sym (reportable_kept mid x))

  pub was_left : (x : Watch) → Member x left.0.watches → Member x after.watches
  was_left x m = filtered_member (is_kept (record after { files = (die_all (after.files, rises) (dying after)).0 })) after.watches x m

  pub stood : (y : Watch) → Member y t.watches → Stood b after rises y
  stood y m =
      let from = member_of_map (came earlier mid) left.0.watches y m in
      let x = from.0 in
      let there = was_left x from.1 in
      let z : Watch = record x { from = mid.n } in
      let P : Watch → Type 0 = λ w. Stood b after rises w in
      elim (cases_Bool (not (is_among earlier x.number) && is_reportable mid x)) [
        | inl new ↦ subst P (ap (λ (c : Bool). cond c z x) (sym new) ∙ from.2) (record { x = x; there = there; number = refl; instance = refl; rep = refl; noted = (mid.n, refl); from = λ r. sym (ap (λ (c : Bool). cond c x.from after.n) (not_among _ _ new)) })
        | inr old ↦
            let ready : is_reportable t x ≡ true → is_reportable mid x ≡ true = λ r. sym (shows_as x x refl) ∙ r in
            subst P (ap (λ (c : Bool). cond c z x) (sym old) ∙ from.2)
            (record { x = x; there = there; number = refl; instance = refl; rep = refl; noted = (x.from, refl); from = λ r. sym (ap (λ (c : Bool). cond c x.from after.n) (was_among (is_among earlier x.number) (is_reportable mid x) old (ready r))) })
      ] where
        not_among : (a r : Bool) → (not a && r) ≡ true → a ≡ false
        not_among false r h = refl
        not_among true r h = absurd (false≢true h)

        was_among : (a r : Bool) → (not a && r) ≡ false → r ≡ true → a ≡ true
        was_among true r h e = refl
        was_among false r h e = absurd (false≢true (sym h ∙ e))

  -- since this event, or since before
  pub since_when : (y : Watch) (h : Stood b after rises y) → is_reportable t y ≡ true → (y.from ≡ after.n) ⊎ ((y.from ≡ h.x.from) × (is_among earlier y.number ≡ true))
  since_when y h r = elim (cases_Bool (is_among earlier y.number)) [
    | inl was ↦ inr (h.from r ∙ ap (λ (c : Bool). cond c h.x.from after.n) was, was)
    | inr new ↦ inl (h.from r ∙ ap (λ (c : Bool). cond c h.x.from after.n) new)
  ]

  ends : (ks : List ℕ) (y : Watch) → after.n ≡ b.n → ((x : Watch) → Member x after.watches → Source b ks x) → Member y t.watches → is_reportable t y ≡ true → HasTurn b t ks y
  ends ks y at each m shown =
      let h = stood y m in
      record {
        x = h.x;
        source = each h.x h.there;
        number = h.number;
        instance = h.instance;
        rep = h.rep;
        from = λ r. h.from r ∙ ap (λ (n : ℕ). cond (is_among earlier y.number) h.x.from n) at;
      }

-- One event.
module _ (limits : Limits) (b : State) where
  IsStep : List ℕ → Option (Answer × State) → Type 0
  IsStep ks o = MatchOption o (Unit {0}) (λ c. (y : Watch) → Member y c.1.watches → is_reportable c.1 y ≡ true → HasTurn b c.1 ks y)

  step_settled : (ks : List ℕ) (o : Option Change) → ((c : Change) → o ≡ Some c → (c.1.n ≡ b.n) × ((x : Watch) → Member x c.1.watches → Source b ks x)) → IsStep ks (settled b o)
  unfolding IsStep
  step_settled ks None g = tt
  step_settled ks (Some c) g = λ y m r. let h = g c refl in ends b c.1 c.2 ks y h.0 h.1 m r

  -- where nothing changes
  turn_kept : (ks : List ℕ) (y : Watch) → Member y b.watches → is_reportable b y ≡ true → HasTurn b b ks y
  turn_kept ks y m r = record { x = y; source = same b ks y m; number = refl; instance = refl; rep = refl; from = λ q. sym (ap (λ (c : Bool). cond c y.from b.n) (among y.number _ (member_map (λ w. w.number) y (filter (is_reportable b) b.watches) (member_filter (is_reportable b) y b.watches m r)))) }

  step_refused : (errno : Option Errno) (ks : List ℕ) (o : Option Change) → ((c : Change) → o ≡ Some c → (c.1.n ≡ b.n) × ((x : Watch) → Member x c.1.watches → Source b ks x)) → IsStep ks (refused_or errno b ks o)
  unfolding IsStep
  step_refused None ks o g = step_settled ks o g
  step_refused (Some errno) [] o g = λ y m r. turn_kept [] y m r
  step_refused (Some errno) (k ∷ ks) o g = tt

  step_event : (caller : ℕ) (event : Event) (ks : List ℕ) → IsStep ks (refused_or (first (refusals limits b caller event)) b ks (change limits b caller event ks))
  step_event caller event ks =
      step_refused (first (refusals limits b caller event)) ks (change limits b caller event ks)
      (λ c made. let from = origins limits b caller event ks c made in (from.0, λ x m. source b event ks x (from.2 x m)))

  pub goes_on : (t : State) (caller : ℕ) (event : Event) (ks : List ℕ) (a : Answer) → refused_or (first (refusals limits b caller event)) b ks (change limits b caller event ks) ≡ Some (a, t) → (y : Watch) → Member y t.watches → is_reportable t y ≡ true → HasTurn b t ks y
  unfolding IsStep
  goes_on t caller event ks a is = subst (IsStep ks) is (step_event caller event ks)

  AddsOne : Event → Option (Answer × State) → Type 0
  AddsOne event o = MatchOption o (Unit {0}) (λ c. Adds b event c.1)

  settled_adds : (caller : ℕ) (event : Event) (ks : List ℕ) (o : Option Change) → ((c : Change) → o ≡ Some c → Adds b event c.1) → AddsOne event (settled b o)
  unfolding AddsOne
  settled_adds caller event ks None g = tt
  settled_adds caller event ks (Some c) g = g c refl

  refused_adds : (errno : Option Errno) (caller : ℕ) (event : Event) (ks : List ℕ) (o : Option Change) → ((c : Change) → o ≡ Some c → Adds b event c.1) → AddsOne event (refused_or errno b ks o)
  unfolding AddsOne
  refused_adds None caller event ks o g = settled_adds caller event ks o g
  refused_adds (Some errno) caller event [] o g = adds_none b event b refl
  refused_adds (Some errno) caller event (k ∷ ks) o g = tt

  pub adds_one : (t : State) (caller : ℕ) (event : Event) (ks : List ℕ) (a : Answer) → refused_or (first (refusals limits b caller event)) b ks (change limits b caller event ks) ≡ Some (a, t) → Adds b event t
  unfolding AddsOne
  adds_one t caller event ks a is =
      subst (AddsOne event) is (refused_adds (first (refusals limits b caller event)) caller event ks (change limits b caller event ks) (λ c made. (origins limits b caller event ks c made).1))

pub step_keeps_turns : StepKeepsTurns
step_keeps_turns limits s t caller event picked a is = goes_on limits (next_event s) t caller event picked a is

pub step_adds_one : StepAddsOne
step_adds_one limits s t caller event picked a is = adds_one limits (next_event s) t caller event picked a is
