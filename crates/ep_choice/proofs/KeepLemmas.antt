-- What registrations keep that pass nothing on any more.
use Rattle.std.proofs.Common.{◌≡◌, All, Bool, true, false, List, [], ◌∷◌, Option, cond, map, refl, ℕ}
use Rattle.std.proofs.lemmas.List.Elements.{All-cons, All-head, All-nil, All-tail}
use Rattle.ep_base.specs.declared.ids.DescId.{DescId}
use Rattle.ep_calls.specs.Climb.{is_nested, link_of}
use Rattle.ep_interest.specs.Exclusive.{kept_passing, stops}
use Rattle.ep_interest.specs.Registrations.{Registrations}
use Rattle.ep_interest.specs.declared.entry.Entry.{Entry}
use Rattle.ep_table.specs.Value.{Seen}

module _ (target : DescId) (chosen : Option ℕ) where
  pub kept_has : (P : Entry → Type 0) → ((x : Entry) → P x → P (record x { passes_in = 0 })) → (xs : List Entry) → All P xs → All P (map (kept_passing target chosen) xs)
  kept_has P same [] h = All-nil P
  kept_has P same (x ∷ xs) h = All-cons P (kept_passing target chosen x) (map (kept_passing target chosen) xs) (by (stops target chosen x) (All-head P x xs h)) (kept_has P same xs (All-tail P x xs h)) where
    by : (b : Bool) → P x → P (cond b (record x { passes_in = 0 }) x)
    by true p = same x p
    by false p = p

  pub kept_link : (r : Registrations) (x : Entry) → link_of r (kept_passing target chosen x) ≡ link_of r x
  kept_link r x = by (stops target chosen x) where
    by : (b : Bool) → link_of r (cond b (record x { passes_in = 0 }) x) ≡ link_of r x
    by true = refl
    by false = refl

  pub kept_nested : (v : Seen) (x : Entry) → is_nested v (kept_passing target chosen x) ≡ is_nested v x
  kept_nested v x = by (stops target chosen x) where
    by : (b : Bool) → is_nested v (cond b (record x { passes_in = 0 }) x) ≡ is_nested v x
    by true = refl
    by false = refl
