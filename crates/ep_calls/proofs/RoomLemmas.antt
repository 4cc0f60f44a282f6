-- Room for what is reported.
use Rattle.std.proofs.Common.{◌≡◌, ◌+◌, ◌<◌, ◌≤◌, ◌∙◌, ℕ, List, ap, arith, length, map, max, take}
use Rattle.std.proofs.Math.Nat.{le-max_right}
use Rattle.std.proofs.lemmas.List.{length-map, length-take-le}

-- room for all has room for the next one
pub room_for_next : {X Y : Type 0} (f : X → Y) (xs : List X) (ys : List Y) (i room : ℕ) → ys ≡ map f (take i xs) → room ≡ max 4 (length xs) → i < length xs → length ys + 1 ≤ room
room_for_next f xs ys i room is all lt =
    let told = ap length is ∙ (length-map (take i xs) f ∙ length-take-le i xs (omega (arith, lt))) in
    let most = le-max_right 4 (length xs) in
    omega (arith, told, all, most, lt)
