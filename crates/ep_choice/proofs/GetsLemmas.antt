-- Who gets a mark by keys gets one by numbers.
use Rattle.std.proofs.Common.{◌≡◌, ◌∙◌, ◌&&◌, ◌||◌, Bool, List, [], ◌∷◌, Option, ap, map, not, refl, sym, true, false, ℕ}
use Rattle.ep_base.specs.declared.ids.DescId.{DescId}
use Rattle.ep_calls.specs.Moves.{gets_mark_in}
use Rattle.ep_calls.specs.Parts.{Parts}
use Rattle.ep_calls.specs.Readiness.{watches_of}
use Rattle.ep_calls.specs.Stands.{number_at, waiters_at}
use Rattle.ep_choice.specs.Marking.{gets_mark_key}
use Rattle.ep_climb.specs.Mark.{attended}
use Rattle.ep_machine.specs.Lists.{is_among}
use Rattle.ep_machine.specs.State.{Waiter}
use Rattle.ep_machine.specs.Waits.{marked_if_due}
use Rattle.ep_view.specs.KernelView.{KernelWatch, at_number, climbing_all, reached_now, ready_now}
use Rattle.ep_view.specs.Marking.{guarded_now, left_now, narrowed_now}

pub due_there : (keys : List (Option ℕ)) (now : ℕ) (ws : List Waiter) → waiters_at keys (map (marked_if_due now) ws) ≡ map (marked_if_due now) (waiters_at keys ws)
due_there keys now [] = refl
due_there keys now (w ∷ ws) = ap (λ (us : List Waiter). marked_if_due now (at_number (λ k. number_at keys (record { 0 = k })) w) ∷ us) (due_there keys now ws)

swapped : (r g l : Bool) → (r || (g || l)) ≡ ((g || r) || l)
swapped true true l = refl
swapped true false l = refl
swapped false true l = refl
swapped false false l = refl

-- Where what arrived has climbed, and who is attended is where the event raised IN or whom a caller left.
pub gets_same : (n : ℕ) (p q : Parts) (waited : List Waiter) (raised : ℕ → Bool) (attend : Option DescId) (k : ℕ) → q ≡ record p { interest = q.interest }
    → watches_of p.tables q.interest ≡ climbing_all n p.tables.files (watches_of p.tables p.interest)
    → (raised (number_at p.tables.keys (record { 0 = k })) || left_now waited (waiters_at p.tables.keys p.parked) (number_at p.tables.keys (record { 0 = k }))) ≡ is_among (attended attend) k
    → gets_mark_key n q attend k ≡ gets_mark_in n waited raised p (number_at p.tables.keys (record { 0 = k }))
gets_same n p q waited raised attend k others climbs attends =
    ap (λ (u : Parts). gets_mark_key n u attend k) others
    ∙ (ap (λ (xs : List KernelWatch). ready_now p.tables.files p.clock xs (number_at p.tables.keys (record { 0 = k })) && (not (guarded_now xs (number_at p.tables.keys (record { 0 = k }))) || (reached_now p.tables.files n (narrowed_now p.tables.files n xs (ready_now p.tables.files p.clock xs) (waiters_at p.tables.keys (map (marked_if_due p.clock) p.parked))) (number_at p.tables.keys (record { 0 = k })) || is_among (attended attend) k))) climbs
    ∙ both (climbing_all n p.tables.files (watches_of p.tables p.interest))) where
      both : (xs : List KernelWatch) → (ready_now p.tables.files p.clock xs (number_at p.tables.keys (record { 0 = k }))
          && (not (guarded_now xs (number_at p.tables.keys (record { 0 = k })))
          || (reached_now p.tables.files n (narrowed_now p.tables.files n xs (ready_now p.tables.files p.clock xs) (waiters_at p.tables.keys (map (marked_if_due p.clock) p.parked))) (number_at p.tables.keys (record { 0 = k }))
          || is_among (attended attend) k)))
          ≡ (ready_now p.tables.files p.clock xs (number_at p.tables.keys (record { 0 = k }))
          && (not (guarded_now xs (number_at p.tables.keys (record { 0 = k })))
          || ((raised (number_at p.tables.keys (record { 0 = k }))
          || reached_now p.tables.files n (narrowed_now p.tables.files n xs (ready_now p.tables.files p.clock xs) (map (marked_if_due p.clock) (waiters_at p.tables.keys p.parked))) (number_at p.tables.keys (record { 0 = k })))
          || left_now waited (waiters_at p.tables.keys p.parked) (number_at p.tables.keys (record { 0 = k })))))
      both xs =
          let d = number_at p.tables.keys (record { 0 = k }) in
          let reaches : List Waiter → Bool = λ ws. reached_now p.tables.files n (narrowed_now p.tables.files n xs (ready_now p.tables.files p.clock xs) ws) d in
          (λ i. ready_now p.tables.files p.clock xs d && (not (guarded_now xs d) || (reaches (due_there p.tables.keys p.clock p.parked i) || sym attends i)))
          ∙ ap (λ (b : Bool). ready_now p.tables.files p.clock xs d && (not (guarded_now xs d) || b)) (swapped (reaches (map (marked_if_due p.clock) (waiters_at p.tables.keys p.parked))) (raised d) (left_now waited (waiters_at p.tables.keys p.parked) d))
