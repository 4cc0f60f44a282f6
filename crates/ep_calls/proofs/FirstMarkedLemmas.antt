-- The marked caller that was parked first, by the parts.
use Rattle.std.proofs.Common.{◌≡◌, ◌∙◌, ℕ, true, false, List, [], ◌∷◌, Option, Some, ap, cond, map, refl, sym}
use Rattle.std.specs.List.{find}
use Rattle.std.specs.Option.{option_map}
use Rattle.ep_machine.specs.State.{State, Waiter}
use Rattle.ep_view.specs.KernelView.{at_number}
use Rattle.ep_calls.specs.Driver.{first_marked}
use Rattle.ep_calls.specs.Moves.{StandFor}
use Rattle.ep_calls.specs.Parts.{Parts}
use Rattle.ep_calls.specs.Stands.{number_at}

abbrev marked_of : List Waiter → Option ℕ
marked_of ws = option_map (λ (w : Waiter). w.caller) (find (λ w. w.marked) ws)

marked_at : (number : ℕ → ℕ) (ws : List Waiter) → marked_of (map (at_number number) ws) ≡ marked_of ws
marked_at number [] = refl
marked_at number (w ∷ ws) =
    elim w.marked as (λ b. option_map (λ (u : Waiter). u.caller) (cond b (Some (at_number number w)) (find (λ u. u.marked) (map (at_number number) ws))) ≡ option_map (λ (u : Waiter). u.caller) (cond b (Some w) (find (λ u. u.marked) ws))) [
      | true ↦ refl
      | false ↦ marked_at number ws
    ]

pub marked_in : (p : Parts) (s : State) → StandFor p s → marked_of p.parked ≡ first_marked s
marked_in p s stands = sym (ap marked_of stands.waiters ∙ marked_at (λ k. number_at p.tables.keys (record { 0 = k })) p.parked)
