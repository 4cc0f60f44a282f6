-- The instances above one, by their keys, and who waits there.
use Rattle.std.proofs.Common.{◌≡◌, ◌∙◌, ◌==◌, ◌&&◌, ◌||◌, ◌↔◌, ◌⊎◌, ℕ, suc, All, Bool, true, false, List, ap, inl, inr, not, refl, subst, sym}
use Rattle.std.specs.List.{list_any}
use Rattle.std.proofs.lemmas.Bool.{false≢true}
use Rattle.ep_facts.proofs.NatFacts.{from_test, same_test}
use Rattle.ep_facts.proofs.BoolFacts.{first_of_and, or_cases, or_left, or_right, same_bools, second_of_and}
use Rattle.ep_calls.proofs.GraphLemmas.{Lives, number, numbers_apart}
use Rattle.ep_calls.proofs.HoldLemmas.{numbers_apart_at}
use Rattle.ep_calls.specs.Climb.{AreNested}
use Rattle.ep_calls.specs.Readiness.{watches_of}
use Rattle.ep_calls.specs.Stands.{AreLinked, IsPlaced, waiters_at}
use Rattle.ep_climb.proofs.ReachLemmas.{all_open, back, ends_live, forth, short}
use Rattle.ep_climb.specs.Reach.{IsFrom, open_edges}
use Rattle.ep_interest.specs.Registrations.{IsSound, Registrations}
use Rattle.ep_law.proofs.GraphLemmas.{member_of_map}
use Rattle.ep_law.proofs.ListLemmas.{all_member, among, among_member, any_has, any_member, member_map}
use Rattle.ep_law.specs.Laws.{Member, has_instance}
use Rattle.ep_machine.specs.Lists.{is_among}
use Rattle.ep_machine.specs.State.{Waiter}
use Rattle.ep_machine.specs.Waits.{is_marked_at, waits_at}
use Rattle.ep_machine.specs.Watches.{is_legal}
use Rattle.ep_nest.specs.Chains.{IsAbove, LeadsBy}
use Rattle.ep_nest.specs.Links.{edges}
use Rattle.ep_nest.specs.declared.link.Link.{Link}
use Rattle.ep_order.proofs.AboveLemmas.{above_is_above}
use Rattle.ep_order.specs.Reach.{open_links}
use Rattle.ep_table.specs.Value.{Seen, Sound as SoundTables}
use Rattle.ep_view.proofs.WaiterLemmas.{marked_where, waits_where}
use Rattle.ep_view.specs.KernelView.{KernelWatch, at_number}
use Rattle.ep_view.specs.Marking.{above_now, finds_now, is_awaited_by}

module _ (v : Seen) (tables : SoundTables v) (r : Registrations) (sound : IsSound r) (linked : AreLinked v r) (graph : List Link) (nested : AreNested v r graph) where
  abbrev es : List (ℕ × ℕ)
  es = open_edges r graph

  abbrev watches : List KernelWatch
  watches = watches_of v r

  module _ (legal : is_legal (edges graph) ≡ true) (inner : ℕ) (lives : Lives v inner) (holds : has_instance v.files (number v inner) ≡ true) where
    above_law : (k : ℕ) → (above_now v.files watches (number v inner) (number v k) ≡ true) ↔ IsAbove (open_links v.files watches) (number v k) (number v inner)
    above_law k = above_is_above v.files watches (number v inner) (number v k) (short v tables r sound linked graph nested legal) holds

    above_up : (k : ℕ) → IsAbove es k inner → above_now v.files watches (number v inner) (number v k) ≡ true
    above_up k up =
        (above_law k).1 (
          up.0,
          subst (λ (ls : List (ℕ × ℕ)). LeadsBy ls (suc up.0) (number v k) (number v inner)) (sym (all_open v tables r sound linked graph nested))
              (forth (number v) (Lives v) (numbers_apart v tables) es (ends_live v tables r sound linked graph nested) (suc up.0) k inner up.1),
        )

    above_down : (k : ℕ) → Lives v k → above_now v.files watches (number v inner) (number v k) ≡ true → IsAbove es k inner
    above_down k here t =
        let up = (above_law k).0 t in
        let chain = back (number v) (Lives v) (numbers_apart v tables) es (ends_live v tables r sound linked graph nested) (suc up.0) k (number v k) (number v inner) here refl
        (subst (λ (ls : List (ℕ × ℕ)). LeadsBy ls (suc up.0) (number v k) (number v inner)) (all_open v tables r sound linked graph nested) up.1) in
        (up.0, subst (LeadsBy es (suc up.0) k) (numbers_apart v tables chain.0 inner chain.1 lives chain.2) chain.3)

    -- Who is found there.
    module _ (ready : ℕ → Bool) (ws : List Waiter) (placed : All (IsPlaced v.keys) ws) where
      abbrev awaited : ℕ → Bool
      awaited k = ready (number v k) && waits_at ws k && not (is_marked_at ws k)

      abbrev there : List Waiter
      there = waiters_at v.keys ws

      abbrev awaited_there : ℕ → Bool
      awaited_there e = is_awaited_by ready there e

      placed_at : (w : Waiter) → Member w ws → Lives v w.instance
      placed_at w m = (all_member (IsPlaced v.keys) ws w placed m).instance

      same_awaited : (w : Waiter) → Member w ws → awaited_there (number v w.instance) ≡ awaited w.instance
      same_awaited w m =
          let apart = numbers_apart_at v tables ws placed in
          λ i. ready (number v w.instance) && waits_where (number v) ready ws apart ws w (λ u n. n) m i && not (marked_where (number v) ready ws apart w m i)

      who_waits : (k : ℕ) → awaited k ≡ true → (w : Waiter) × Member w ws × (w.instance ≡ k)
      who_waits k h =
          let some = any_member (λ w. w.instance == k) ws (second_of_and (ready (number v k)) (waits_at ws k) (first_of_and (ready (number v k) && waits_at ws k) _ h)) in
          (some.0, some.1, from_test some.0.instance k some.2)

      module _ (asked rs : List ℕ) (vain : list_any awaited asked ≡ false) (found : (k : ℕ) → (is_among rs k ≡ true) ↔ ((is_among asked k ≡ true) ⊎ IsFrom es k inner)) (z : KernelWatch) (at : z.instance ≡ number v inner) where
        abbrev asks : Waiter → Bool
        asks u = (z.instance == u.instance || above_now v.files watches z.instance u.instance) && awaited_there u.instance

        find_one : (k : ℕ) → awaited k ≡ true → (z.instance == number v k || above_now v.files watches z.instance (number v k)) ≡ true → list_any asks there ≡ true
        find_one k h near =
            let w = who_waits k h in
            let same : awaited_there (number v w.0.instance) ≡ true = same_awaited w.0 w.1 ∙ (ap awaited w.2 ∙ h) in
            any_has asks there (at_number (number v) w.0) (member_map (at_number (number v)) w.0 ws w.1)
            (λ i. (ap (λ (j : ℕ). z.instance == number v j || above_now v.files watches z.instance (number v j)) w.2 ∙ near) i && same i)

        to : list_any awaited rs ≡ true → list_any asks there ≡ true
        to h =
            let some = any_member awaited rs h in
            by some.0 some.2 ((found some.0).0 (among some.0 rs some.1)) where
              by : (k : ℕ) → awaited k ≡ true → (is_among asked k ≡ true) ⊎ IsFrom es k inner → list_any asks there ≡ true
              by k waits (inl before) = absurd (false≢true (sym vain ∙ any_has awaited asked k (among_member asked k before) waits))
              by k waits (inr (inl here)) = find_one k waits (or_left _ _ (same_test z.instance (number v k) (at ∙ ap (number v) (sym here))))
              by k waits (inr (inr above)) = find_one k waits (or_right _ _ (ap (λ (e : ℕ). above_now v.files watches e (number v k)) at ∙ above_up k above))

        from : list_any asks there ≡ true → list_any awaited rs ≡ true
        from h =
            let some = any_member asks there h in
            let u = member_of_map (at_number (number v)) ws some.0 some.1 in
            let w = u.0 in
            let finds : asks (at_number (number v) w) ≡ true = ap asks u.2 ∙ some.2 in
            let waits : awaited w.instance ≡ true = sym (same_awaited w u.1) ∙ second_of_and (z.instance == number v w.instance || above_now v.files watches z.instance (number v w.instance)) _ finds in
            let lives_there = placed_at w u.1 in
            let reached : is_among rs w.instance ≡ true = (found w.instance).1 (inr (elim (or_cases (z.instance == number v w.instance) (above_now v.files watches z.instance (number v w.instance)) (first_of_and _ _ finds)) [
              | inl here ↦ inl (numbers_apart v tables w.instance inner lives_there lives (sym (from_test z.instance (number v w.instance) here) ∙ at))
              | inr above ↦ inr (above_down w.instance lives_there (ap (λ (e : ℕ). above_now v.files watches e (number v w.instance)) (sym at) ∙ above))
            ])) in
            any_has awaited rs w.instance (among_member rs w.instance reached) waits

        -- what is reached and awaited is what a registration of the instance finds, if what was reached before was asked in
        -- vain
        pub finds_walk : list_any awaited rs ≡ finds_now v.files watches ready there z
        finds_walk = same_bools (list_any awaited rs) (list_any asks there) to from
