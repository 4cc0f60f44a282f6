-- What watches an instance that a walk reached is fresh.
use Rattle.std.proofs.Common.{◌≡◌, ◌∙◌, ◌==◌, ◌&&◌, ◌||◌, ◌++◌, ◌<◌, ◌+◌, ℕ, Bool, true, false, List, [], ◌∷◌, ap, get_or, inl, inr, is_some, length, map, refl, sym, take, unwrap_or}
use Rattle.std.proofs.lemmas.List.{map_more}
use Rattle.std.proofs.lemmas.List.Recursion.{or_at}
use Rattle.ep_facts.proofs.NatFacts.{same_nat}
use Rattle.ep_facts.proofs.BoolFacts.{both_true}
use Rattle.ep_base.specs.declared.ids.DescId.{DescId}
use Rattle.ep_calls.proofs.ClimbLemmas.{among_keys, climbs_on}
use Rattle.ep_calls.specs.Climb.{is_reached_key, risen}
use Rattle.ep_calls.specs.Stands.{AreLinked, IsLinked, number_at, watch_at}
use Rattle.ep_climb.specs.Reach.{AreLive, AreReached}
use Rattle.ep_interest.specs.Registrations.{Registrations}
use Rattle.ep_interest.specs.declared.entry.Entry.{Entry}
use Rattle.ep_law.proofs.ListLemmas.{all_member}
use Rattle.ep_law.specs.Laws.{Member}
use Rattle.ep_machine.specs.Bits.{IN}
use Rattle.ep_machine.specs.Counts.{brings}
use Rattle.ep_machine.specs.Files.{object_of}
use Rattle.ep_machine.specs.Lists.{is_among}
use Rattle.ep_machine.specs.Objects.{is_instance, plain}
use Rattle.ep_table.specs.Value.{Seen, number_under}
use Rattle.ep_view.specs.KernelView.{reached_now}

-- what is reached lives
pub live_of : (n : ℕ) (v : Seen) (r : Registrations) (ks : List ℕ) → AreReached n v r ks → AreLive v ks
live_of n v r ks exact i t = (both_true (is_some (number_under v i)) (is_reached_key n v r i) (sym (exact i) ∙ t)).0

pub among_here : (ks : List ℕ) (i : ℕ) → i < length ks → is_among ks (get_or ks i 0) ≡ true
among_here ks i lt = let k = get_or ks i 0 in or_at (λ js. is_among js k) (λ j. k == j) refl (λ j js. refl) ks i 0 lt (same_nat k)

abbrev pub desc_ids : List ℕ → List DescId
desc_ids ks = map (λ (k : ℕ). record { 0 = k }) ks

-- a number is that of an instance
abbrev pub is_kind : Seen → ℕ → Bool
is_kind v e = is_instance (unwrap_or (object_of v.files e) plain)

-- once what watches these was looked at
abbrev pub fresh_on : Seen → List ℕ → Entry → Entry
fresh_on v ks x = climbs_on (is_kind v) v.keys (desc_ids ks) x

among_descs : (ks : List ℕ) (d : DescId) → among_keys (desc_ids ks) d ≡ is_among ks d.0
among_descs [] d = refl
among_descs (k ∷ ks) d = ap (λ (b : Bool). d.0 == k || b) (among_descs ks d)

pub descs_more : (ks : List ℕ) (i : ℕ) → i < length ks → desc_ids (take (i + 1) ks) ≡ desc_ids (take i ks) ++ record { 0 = get_or ks i 0 } ∷ []
descs_more ks i lt = map_more (λ (k : ℕ). record { 0 = k }) ks i 0 lt

fresh_same : (a r k b f : Bool) → a ≡ r → (a && k && b || f) ≡ (k && r && b || f)
fresh_same a r k b f e = ap (λ (t : Bool). t && k && b || f) e ∙ swap r k where
  swap : (r k : Bool) → (r && k && b || f) ≡ (k && r && b || f)
  swap true true = refl
  swap true false = refl
  swap false true = refl
  swap false false = refl

module _ (v : Seen) (reached : ℕ → Bool) (ks : List ℕ) where
  fresh_is : (xs : List Entry) → ((x : Entry) → Member x xs → is_among ks x.desc.0 ≡ reached (number_at v.keys x.desc)) → map (fresh_on v ks) xs ≡ map (risen reached v) xs
  fresh_is [] h = refl
  fresh_is (x ∷ xs) h =
      let rest = fresh_is xs (λ y m. h y (inr m)) in
      let one = fresh_same (among_keys (desc_ids ks) x.desc) (reached (number_at v.keys x.desc)) (is_kind v (number_at v.keys x.desc)) (brings x.mask.0 IN) x.fresh (among_descs ks x.desc ∙ h x (inl refl)) in
      λ i. record x { fresh = one i } ∷ rest i

pub freshened_is : (n : ℕ) (v : Seen) (old : Registrations) (ks : List ℕ) → AreLinked v old → AreReached n v old ks → map (fresh_on v ks) old.entries ≡ map (risen (reached_now v.files n (map (watch_at v.keys) old.entries)) v) old.entries
freshened_is n v old ks linked exact =
    fresh_is v (reached_now v.files n (map (watch_at v.keys) old.entries)) ks old.entries (λ x m.
    exact x.desc ∙ ap (λ (b : Bool). b && is_reached_key n v old x.desc) (all_member (IsLinked v.keys) old.entries x linked m).desc)
