-- A list that is complete and in a fair order is so after an event.
use Rattle.std.proofs.Common.{◌≡◌, ◌≤◌, ◌+◌, ◌++◌, ◌⊎◌, ◌∙◌, ◌&&◌, ◌==◌, ℕ, Bool, true, false, List, None, Option, Some, ap, arith, filter, inl, inr, map, refl, subst, sym, unwrap_or}
use Rattle.std.specs.Option.{option_map}
use Rattle.std.proofs.lemmas.Bool.{cases_Bool, false≢true}
use Rattle.ep_facts.proofs.NatFacts.{from_test, same_test}
use Rattle.ep_facts.proofs.BoolFacts.{first_of_and, or_left, second_of_and}
use Rattle.ep_facts.proofs.AmongFacts.{among_append}
use Rattle.ep_base.specs.declared.call.Event.{Event}
use Rattle.ep_law.specs.Laws.{HasCause, Member, is_reportable_in, passes_on_of}
use Rattle.ep_law.specs.Sound.{Sound}
use Rattle.ep_law.proofs.BeginningLemmas.{reportables_are_spread}
use Rattle.ep_law.proofs.ChangeLemmas.{kept_same}
use Rattle.ep_law.proofs.ListLemmas.{all_member, among, among_member, filtered_member, filtered_passes, find_member, mapped_member, member_filter, member_map, one_number}
use Rattle.ep_law.proofs.MarkLemmas.{ready_same}
use Rattle.ep_law.proofs.SoundLemmas.{sound_begun, sound_run, sound_step}
use Rattle.ep_law.proofs.StepLemmas.{step_changed}
use Rattle.ep_machine.specs.Deaths.{buried}
use Rattle.ep_machine.specs.Files.{is_live}
use Rattle.ep_machine.specs.Lists.{is_among}
use Rattle.ep_machine.specs.Readiness.{is_reportable, is_reportable_by, reportables}
use Rattle.ep_machine.specs.Report.{find_watch}
use Rattle.ep_machine.specs.Settle.{reportable_numbers, settle}
use Rattle.ep_machine.specs.State.{Change, State, Watch}
use Rattle.ep_machine.specs.Step.{next_event}
use Rattle.ep_object.specs.Law.{AdvanceLaw, ApplyLaw, CloseLaw}
use Rattle.ep_view.specs.AtRest.{IsSteady}
use Rattle.ep_order.specs.Event.{BeginningKeepsTurns, DeadListsAreEmpty, EndsReportable, IsAltered, ListsGoOn, end_of}
use Rattle.ep_order.specs.Order.{IsComplete, IsFairOrder, Reorders, Stays, Turns}
use Rattle.ep_order.specs.Pick.{of_number, turns_of}
use Rattle.ep_order.proofs.OrderLemmas.{stays_fair}
use Rattle.ep_order.proofs.OriginLemmas.{Origin, Untold, origins}
use Rattle.ep_order.proofs.PickLemmas.{by_number}
use Rattle.ep_order.proofs.StepLemmas.{since_when, stood, was_left}

same_reportable : (s : State) (x : Watch) → is_reportable (next_event s) x ≡ is_reportable s x
same_reportable s x = λ i. is_reportable_by (λ e. ready_same s (s.n + 1) s.waiters e i) s x

pub beginning_keeps_turns : BeginningKeepsTurns
beginning_keeps_turns s e = λ i. record {
  ready = λ k. is_among (map (λ (x : Watch). x.number) (filter (λ x. x.instance == e && same_reportable s x i) s.watches)) k;
  rep = of_number s (λ x. x.rep);
  from = of_number s (λ x. x.from);
}

-- a number that is reportable at an instance, by its registration
record Shows (t : State) (e k : ℕ) : Type 0 where
  pub y : Watch
  pub there : Member y t.watches
  pub number : y.number ≡ k
  pub instance : y.instance ≡ e
  pub ready : is_reportable t y ≡ true

shows_of : (t : State) (e k : ℕ) → is_reportable_in t e k ≡ true → Shows t e k
shows_of t e k r =
    let p : Watch → Bool = λ x. x.instance == e && is_reportable t x in
    let w = mapped_member (λ x. x.number) (reportables t e) k (among_member (map (λ x. x.number) (reportables t e)) k r) in
    let passes = filtered_passes p t.watches w.0 w.1 in
    record {
      y = w.0;
      there = filtered_member p t.watches w.0 w.1;
      number = w.2;
      instance = from_test w.0.instance e (first_of_and _ _ passes);
      ready = second_of_and _ _ passes;
    }

ready_in : (t : State) (e : ℕ) (y : Watch) → Member y t.watches → y.instance ≡ e → is_reportable t y ≡ true → is_reportable_in t e y.number ≡ true
ready_in t e y m at r =
    let p : Watch → Bool = λ x. x.instance == e && is_reportable t x in
    let same = same_test y.instance e at in
    among y.number (map (λ x. x.number) (reportables t e)) (member_map (λ x. x.number) y (reportables t e) (member_filter p y t.watches m (λ i. same i && r i)))

pub dead_lists_are_empty : DeadListsAreEmpty
dead_lists_are_empty s e rest dead k r =
    let h = shows_of s e k r in
    let lives = (all_member (λ x. IsSteady s.files x.instance x.target) s.watches h.y rest.watches h.there).instance_lives in
    absurd (false≢true (sym dead ∙ (ap (is_live s.files) (sym h.instance) ∙ lives)))

not_both : (a : Bool) → a ≡ false → a ≡ true → ⊥
not_both a h k = absurd (false≢true (sym h ∙ k))

-- a field of a registration that is there or not
field_at : (t : State) (f : Watch → ℕ) (k : ℕ) (P : ℕ → Type 0) → P 0 → ((y : Watch) → Member y t.watches → y.number ≡ k → P (f y)) → P (of_number t f k)
field_at t f k P none some = by (find_watch t.watches k) refl where
  by : (o : Option Watch) → find_watch t.watches k ≡ o → P (unwrap_or (option_map f o) 0)
  by None is = none
  by (Some y) is = let m = find_member t.watches k y is in some y m.0 m.1

-- One event.
module _ (b : State) (event : Event) (picked : List ℕ) (c : Change) (e : ℕ) (sound : Sound b) (at : c.1.n ≡ b.n) (origin : (x : Watch) → Member x c.1.watches → Origin b event picked x) where
  -- one that was reportable before and is not reported
  module _ (x : Watch) (here : x.instance ≡ e) (was : is_among (reportable_numbers b) x.number ≡ true) where
    earlier : (w : Watch) × Member w b.watches × (is_reportable b w ≡ true) × (w.number ≡ x.number)
    earlier =
        let ready = filter (is_reportable b) b.watches in
        let w = mapped_member (λ x. x.number) ready x.number (among_member (map (λ x. x.number) ready) x.number was) in
        (w.0, filtered_member (is_reportable b) b.watches w.0 w.1, filtered_passes (is_reportable b) b.watches w.0 w.1, w.2)

    ready_before : (w : Watch) → Member w b.watches → w.number ≡ x.number → w.instance ≡ x.instance → is_reportable_in b e x.number ≡ true
    ready_before w m number instance =
        let v = earlier in
        let same : v.0 ≡ w = one_number b.watches v.0 w sound.numbers v.1 m (v.3 ∙ sym number) in
        subst (λ (k : ℕ). is_reportable_in b e k ≡ true) number
        (ready_in b e w m (instance ∙ here) (subst (λ (u : Watch). is_reportable b u ≡ true) same v.2))

    early : Untold b event x → (is_reportable_in b e x.number ≡ true) × (of_number b (λ w. w.from) x.number ≡ x.from)
    early (inl m) = (ready_before x m refl refl, by_number b (λ w. w.from) x sound m)
    early (inr (inl h)) = (
      ready_before h.was h.there (sym h.number) (sym h.instance),
      ap (of_number b (λ w. w.from)) h.number ∙ (by_number b (λ w. w.from) h.was sound h.there ∙ sym h.from),
    )
    early (inr (inr h)) =
        let v = earlier in
        let le = all_member (λ w. w.number ≤ b.added) b.watches v.0 sound.below v.1 in
        let number = v.3 ∙ h.number in
        absurd (omega (arith, le, number))

  abbrev t : State
  t = settle b c.1 c.2

  -- one at the end: it was reportable, or is reportable since this event
  record Since (y : Watch) : Type 0 where
    pub unpicked : is_among picked y.number ≡ false
    pub ready : is_reportable_in b e y.number ≡ true
    pub from : of_number b (λ w. w.from) y.number ≡ y.from

  since : (y : Watch) → Member y t.watches → y.instance ≡ e → is_reportable t y ≡ true → (y.from ≡ b.n) ⊎ Since y
  since y m here shown =
      let h = stood b c.1 c.2 y m in
      elim (since_when b c.1 c.2 y h shown) [
        | inl now ↦ inl (now ∙ at)
        | inr was ↦ elim (origin h.x h.there) [
          | inl told ↦ inl (was.0 ∙ told.from)
          | inr out ↦
              let before = early h.x (sym h.instance ∙ here) (subst (λ (k : ℕ). is_among (reportable_numbers b) k ≡ true) h.number was.1) out.1 in
              inr (record {
                unpicked = ap (is_among picked) h.number ∙ out.0;
                ready = ap (is_reportable_in b e) h.number ∙ before.0;
                from = ap (of_number b (λ w. w.from)) h.number ∙ (before.1 ∙ sym was.0);
              })
        ]
      ]

  -- what was not reported was reported no later
  rep_untold : (x : Watch) → Untold b event x → x.rep ≤ of_number b (λ w. w.rep) x.number
  rep_untold x (inl m) = let is = by_number b (λ w. w.rep) x sound m in omega (arith, is)
  rep_untold x (inr (inl h)) =
      let is = ap (of_number b (λ w. w.rep)) h.number ∙ by_number b (λ w. w.rep) h.was sound h.there in
      let rep = h.rep in
      omega (arith, is, rep)
  rep_untold x (inr (inr h)) = let rep = h.rep in omega (arith, rep)

  rep_stays : (k : ℕ) → is_among picked k ≡ false → of_number t (λ w. w.rep) k ≤ of_number b (λ w. w.rep) k
  rep_stays k out = field_at t (λ w. w.rep) k (λ rep. rep ≤ of_number b (λ w. w.rep) k) (omega arith) (λ y m number.
      let h = stood b c.1 c.2 y m in
      let same : h.x.number ≡ k = sym h.number ∙ number in
      elim (origin h.x h.there) [
        | inl told ↦ absurd (not_both (is_among picked k) out (ap (is_among picked) (sym same) ∙ told.told))
        | inr kept ↦
            let le = rep_untold h.x kept.1 in
            let rep = h.rep in
            let by = ap (of_number b (λ w. w.rep)) same in
            omega (arith, le, rep, by)
      ])

  module _ (sound_end : Sound t) where
    past : (k : ℕ) → of_number t (λ w. w.rep) k ≤ b.n
    past k = field_at t (λ w. w.rep) k (λ rep. rep ≤ b.n) (omega arith) (λ y m number.
        let fair = all_member (λ x. x.rep ≤ x.from) t.watches y sound_end.fair m in
        let le = all_member (λ x. x.from ≤ t.n) t.watches y sound_end.past m in
        omega (arith, fair, le, at))

    -- by number
    from_since : (k : ℕ) → is_reportable_in t e k ≡ true → (of_number t (λ w. w.from) k ≡ b.n) ⊎ ((is_among picked k ≡ false) × (is_reportable_in b e k ≡ true) × (of_number t (λ w. w.from) k ≡ of_number b (λ w. w.from) k))
    from_since k r =
        let h = shows_of t e k r in
        let is : of_number t (λ w. w.from) k ≡ h.y.from = ap (of_number t (λ w. w.from)) (sym h.number) ∙ by_number t (λ w. w.from) h.y sound_end h.there in
        elim (since h.y h.there h.instance h.ready) [
          | inl now ↦ inl (is ∙ now)
          | inr was ↦ inr (ap (is_among picked) (sym h.number) ∙ was.unpicked, ap (is_reportable_in b e) (sym h.number) ∙ was.ready, is ∙ (sym was.from ∙ ap (of_number b (λ w. w.from)) h.number))
        ]

    module _ (old new : List ℕ) (complete : IsComplete (turns_of b e) old) (keeps : ℕ → Bool) (more : List ℕ) (unpicked : (k : ℕ) → is_among old k ≡ true → keeps k ≡ true → is_among picked k ≡ false)
        (leaves : (k : ℕ) → is_among old k ≡ true → keeps k ≡ false → is_reportable_in b e k ≡ true → is_reportable_in t e k ≡ true → is_among picked k ≡ true)
        (comes : (k : ℕ) → is_among more k ≡ true → is_among (filter keeps old) k ≡ false) where
      -- one that was reportable, is, and was not reported, stayed
      stayed : (k : ℕ) → is_reportable_in b e k ≡ true → is_reportable_in t e k ≡ true → is_among picked k ≡ false → is_among (filter keeps old) k ≡ true
      stayed k was r out =
          let there = complete k was in
          elim (cases_Bool (keeps k)) [
            | inl stays ↦ among k (filter keeps old) (member_filter keeps k old (among_member old k there) stays)
            | inr goes ↦ absurd (not_both (is_among picked k) out (leaves k there goes was r))
          ]

      come_now : (k : ℕ) → Member k more → is_reportable_in t e k ≡ true → of_number t (λ w. w.from) k ≡ b.n
      come_now k m r = elim (from_since k r) [
        | inl now ↦ now
        | inr was ↦ absurd (not_both (is_among (filter keeps old) k) (comes k (among k more m)) (stayed k was.1 r was.0))
      ]

      stays_there : (k : ℕ) → Member k old → keeps k ≡ true → Stays b.n (turns_of b e) (turns_of t e) k
      stays_there k m stays = record {
        rep = rep_stays k (unpicked k (among k old m) stays);
        from = λ r. elim (from_since k r) [ inl now ↦ inr now | inr was ↦ inl (was.1, was.2) ];
      }

      reorders : Reorders b.n (turns_of b e) (turns_of t e) keeps old more
      reorders = record { stay = stays_there; come = come_now; past = past }

      -- one that is reportable at the end, by its cause
      module _ (passes : (x : Watch) → Member x c.1.watches → Member x (buried c.1 c.2).0.watches → x.instance ≡ e → is_reportable_in t e x.number ≡ true → passes_on_of c x ≡ true → is_among (filter keeps old ++ more) x.number ≡ true)
          (changed : (x : Watch) → Member x c.1.watches → Member x (buried c.1 c.2).0.watches → x.instance ≡ e → is_reportable_in t e x.number ≡ true → is_reportable c.1 x ≡ true → (is_among picked x.number ≡ true) ⊎ IsAltered b event x → is_among (filter keeps old ++ more) x.number ≡ true) where
        stands : (y : Watch) → HasCause b c y → y.instance ≡ e → is_reportable_in t e y.number ≡ true → is_among (filter keeps old ++ more) y.number ≡ true
        stands y cause here r =
            let x = cause.x in
            let there = was_left b c.1 c.2 x cause.left in
            let number : y.number ≡ x.number = ap (λ (w : Watch). w.number) cause.noted.1 in
            let instance : x.instance ≡ e = sym (ap (λ (w : Watch). w.instance) cause.noted.1) ∙ here in
            let ends = ap (is_reportable_in t e) (sym number) ∙ r in
            let passing = passes x there cause.left instance ends in
            let changing = changed x there cause.left instance ends in
            ap (is_among (filter keeps old ++ more)) number ∙ elim cause.changed [
              | inr on ↦ passing on
              | inl ready ↦ elim (origin x there) [
                | inl told ↦ changing ready (inl told.told)
                | inr (out, inl m) ↦ elim (cause.kept (kept_same b x m)) [
                  | inr on ↦ passing on
                  | inl was ↦ among_append (filter keeps old) more x.number ∙ or_left _ _ (stayed x.number (ready_in b e x m instance was) ends out)
                ]
                | inr (out, inr (inl h)) ↦ changing ready (inr h.altered)
                | inr (out, inr (inr h)) ↦ changing ready (inr h.altered)
              ]
            ]

pub lists_go_on : ApplyLaw → CloseLaw → AdvanceLaw → ListsGoOn
lists_go_on apply close clock limits past s caller event picked c is allowed made e old new fair complete h =
    let b = next_event s in
    let t = end_of s c in
    let turns = beginning_keeps_turns s e in
    let begun = sound_run limits past s is in
    let sound = sound_begun s begun in
    let sound_end = sound_step limits s t caller event picked c.0 begun (step_changed limits s caller event picked c allowed made) in
    let from = origins limits b caller event picked c made in
    let fair_b : IsFairOrder (turns_of b e) old = subst (λ (u : Turns). IsFairOrder u old) (sym turns) fair in
    let complete_b : IsComplete (turns_of b e) old = subst (λ (u : Turns). IsComplete u old) (sym turns) complete in
    let leaves : (k : ℕ) → is_among old k ≡ true → h.keeps k ≡ false → is_reportable_in b e k ≡ true → is_reportable_in t e k ≡ true → is_among picked k ≡ true =
    λ k there goes was r. h.leaves k there goes (ap (λ (u : Turns). u.ready k) (sym turns) ∙ was) r in
    let order = reorders b event picked c e sound from.0 from.2 sound_end old new complete_b h.keeps h.more h.unpicked leaves h.comes in (
      subst (λ (ks : List ℕ). IsFairOrder (turns_of t e) ks) (sym h.is) (stays_fair b.n (turns_of b e) (turns_of t e) h.keeps old h.more fair_b order),
      λ k r.
          let y = shows_of t e k r in
          let cause = reportables_are_spread apply close clock limits past s caller event picked c y.y is allowed made y.there y.ready in
          ap (λ (ks : List ℕ). is_among ks k) h.is ∙ (ap (is_among (filter h.keeps old ++ h.more)) (sym y.number)
          ∙ stands b event picked c e sound from.0 from.2 sound_end old new complete_b h.keeps h.more h.unpicked leaves h.comes
          (λ x there left at ends on. ap (λ (ks : List ℕ). is_among ks x.number) (sym h.is) ∙ h.passes x (record { there = there; left = left; instance = at; ready = ends }) on)
          (λ x there left at ends ready why.
          let end : EndsReportable s c e x = record { there = there; left = left; instance = at; ready = ends } in
          ap (λ (ks : List ℕ). is_among ks x.number) (sym h.is) ∙ elim why [ inl told ↦ h.again x end ready told | inr altered ↦ h.alters x end ready altered ])
          y.y cause y.instance (ap (is_reportable_in t e) y.number ∙ r)),
    )
