-- Lists of values and of members, by their length; lists that read back as what they were printed from.
use Rattle.std.proofs.Common.{List, None, Option, Some, [], ap, length, map, refl, string_bytes, ◌∷◌, ◌≡◌, ℕ}
use Rattle.std.specs.List.{AllByRecursion, slice_get}
use Rattle.serde_json.specs.Data.{Data}
use Rattle.serde_json.specs.View.{items_of, items_view, members_view, view}
use Rattle.serde_json.specs.declared.value.Value.{Value}
use Rattle.serde_json.proofs.Views.{Entry}
use Rattle.ep_history.specs.Fields.{meanings, natural, only_member, two_items, u64_value}

pub two_items-other : (vs : List Value) → (length vs ≡ 2 → ⊥) → None ≡ two_items (items_view vs)
two_items-other [] h = refl
two_items-other (a ∷ []) h = refl
two_items-other (a ∷ b ∷ []) h = absurd (h refl)
two_items-other (a ∷ b ∷ c ∷ vs) h = refl

pub only_member-other : (es : List Entry) → (length es ≡ 1 → ⊥) → None ≡ only_member (members_view es)
only_member-other [] h = refl
only_member-other (e ∷ []) h = absurd (h refl)
only_member-other (e ∷ f ∷ es) h = refl

pub only_member-first : (es : List Entry) (first : Entry) → length es ≡ 1 → slice_get es 0 ≡ Some first → Some (string_bytes first.0, view first.1) ≡ only_member (members_view es)
only_member-first [] first l e = absurd cc
only_member-first (x ∷ []) first l e = let same : first ≡ x = cc in ap (λ (m : Entry). Some (string_bytes m.0, view m.1)) same
only_member-first (x ∷ y ∷ es) first l e = absurd cc

pub read_back : {A : Type 0} (print : A → Data) (meaning : Data → Option A) (xs : List A) → AllByRecursion (λ x. meaning (print x) ≡ Some x) xs → meanings meaning (items_of (map print xs)) ≡ Some xs
read_back print meaning [] h = refl
read_back print meaning (x ∷ xs) h = rw (h.0, read_back print meaning xs h.1) refl

pub naturals_printed : (ns : List ℕ) → meanings u64_value (items_of (map natural ns)) ≡ Some ns
naturals_printed [] = refl
naturals_printed (n ∷ ns) = rw (naturals_printed ns) refl
