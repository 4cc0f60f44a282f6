-- What climbs through instances, and what is left once it is forgotten.
use Rattle.std.proofs.Common.{◌≡◌, ◌∙◌, ◌==◌, ◌&&◌, ◌||◌, ◌++◌, ℕ, Bool, true, false, All, List, [], ◌∷◌, Option, ap, cond, map, refl, sym}
use Rattle.std.specs.List.{list_any}
use Rattle.std.proofs.lemmas.List.Elements.{All-cons, All-head, All-tail}
use Rattle.std.proofs.Math.Bool.{or-false}
use Rattle.ep_facts.proofs.NatFacts.{from_test}
use Rattle.ep_facts.proofs.BoolFacts.{or_assoc}
use Rattle.ep_base.specs.declared.ids.DescId.{DescId}
use Rattle.ep_interest.specs.Registrations.{settled}
use Rattle.ep_interest.specs.declared.entry.Entry.{Entry}
use Rattle.ep_machine.specs.Bits.{IN}
use Rattle.ep_machine.specs.Counts.{brings}
use Rattle.ep_machine.specs.Files.{Files}
use Rattle.ep_view.specs.KernelView.{KernelWatch, watches_instance}
use Rattle.ep_calls.specs.Climb.{climbs_to, risen}
use Rattle.ep_calls.specs.Stands.{IsLinked, number_at, watch_at}
use Rattle.ep_table.specs.Value.{Seen}

abbrev pub among_keys : List DescId → DescId → Bool
among_keys ds k = list_any (λ d. k.0 == d.0) ds

-- after these instances were looked at
abbrev pub fresh_after : (ℕ → Bool) → List (Option ℕ) → List DescId → Entry → Bool
fresh_after reached keys ds x = among_keys ds x.desc && reached (number_at keys x.desc) && brings x.mask.0 IN || x.fresh

abbrev pub climbs_on : (ℕ → Bool) → List (Option ℕ) → List DescId → Entry → Entry
climbs_on reached keys ds x = record x { fresh = fresh_after reached keys ds x }

among_more : (ds : List DescId) (d k : DescId) → among_keys (ds ++ d ∷ []) k ≡ (among_keys ds k || (k.0 == d.0))
among_more [] d k = or-false (k.0 == d.0)
among_more (c ∷ ds) d k = ap (λ (b : Bool). k.0 == c.0 || b) (among_more ds d k) ∙ or_assoc (k.0 == c.0) (among_keys ds k) (k.0 == d.0)

-- one instance more
fresh_more : (a o p r b s : Bool) → (o ≡ true → p ≡ r) → (o && b && r || (a && p && b || s)) ≡ ((a || o) && p && b || s)
fresh_more a true p r b s h = ap (λ (t : Bool). b && t || (a && p && b || s)) (sym (h refl)) ∙ on a p b s where
  on : (a p b s : Bool) → (b && p || (a && p && b || s)) ≡ ((a || true) && p && b || s)
  on true true true s = refl
  on true true false s = refl
  on true false true s = refl
  on true false false s = refl
  on false true true s = refl
  on false true false s = refl
  on false false true s = refl
  on false false false s = refl
fresh_more true false p r b s h = refl
fresh_more false false p r b s h = refl

with_fresh_of : (r o b : Bool) (y : Entry) → cond r (cond (o && b) (record y { fresh = true }) y) y ≡ record y { fresh = o && b && r || y.fresh }
with_fresh_of true true true y = refl
with_fresh_of true true false y = refl
with_fresh_of true false b y = refl
with_fresh_of false true true y = refl
with_fresh_of false true false y = refl
with_fresh_of false false b y = refl

climbs_more : (reached : ℕ → Bool) (keys : List (Option ℕ)) (ds : List DescId) (d : DescId) (x : Entry) → climbs_to (reached (number_at keys d)) d (climbs_on reached keys ds x) ≡ climbs_on reached keys (ds ++ d ∷ []) x
climbs_more reached keys ds d x =
    let o = x.desc.0 == d.0 in
    with_fresh_of (reached (number_at keys d)) o (brings x.mask.0 IN) (climbs_on reached keys ds x)
    ∙ ap (λ (s : Bool). record x { fresh = s })
    (fresh_more (among_keys ds x.desc) o (reached (number_at keys x.desc)) (reached (number_at keys d)) (brings x.mask.0 IN) x.fresh (λ on. ap (λ (k : ℕ). reached (number_at keys (record { 0 = k }))) (from_test x.desc.0 d.0 on))
    ∙ ap (λ (b : Bool). b && reached (number_at keys x.desc) && brings x.mask.0 IN || x.fresh) (sym (among_more ds d x.desc)))

pub map_climbs_more : (reached : ℕ → Bool) (keys : List (Option ℕ)) (ds : List DescId) (d : DescId) (xs : List Entry) → map (climbs_to (reached (number_at keys d)) d) (map (climbs_on reached keys ds) xs) ≡ map (climbs_on reached keys (ds ++ d ∷ [])) xs
map_climbs_more reached keys ds d [] = refl
map_climbs_more reached keys ds d (x ∷ xs) = let one = climbs_more reached keys ds d x in let rest = map_climbs_more reached keys ds d xs in λ i. one i ∷ rest i

pub climbs_none : (reached : ℕ → Bool) (keys : List (Option ℕ)) (xs : List Entry) → map (climbs_on reached keys []) xs ≡ xs
climbs_none reached keys [] = refl
climbs_none reached keys (x ∷ xs) = ap (λ (ys : List Entry). x ∷ ys) (climbs_none reached keys xs)

pub linked_climbs : (reached : ℕ → Bool) (keys : List (Option ℕ)) (ds : List DescId) (xs : List Entry) → All (IsLinked keys) xs → All (IsLinked keys) (map (climbs_on reached keys ds) xs)
linked_climbs reached keys ds [] h = h
linked_climbs reached keys ds (x ∷ xs) h =
    let link = All-head (IsLinked keys) x xs h in
    All-cons (IsLinked keys) (climbs_on reached keys ds x) (map (climbs_on reached keys ds) xs) (record { instance = link.instance; desc = link.desc; fd = link.fd }) (linked_climbs reached keys ds xs (All-tail (IsLinked keys) x xs h))

-- what is passed on is forgotten
pub linked_settled : (keys : List (Option ℕ)) (xs : List Entry) → All (IsLinked keys) xs → All (IsLinked keys) (map settled xs)
linked_settled keys [] h = h
linked_settled keys (x ∷ xs) h =
    let link = All-head (IsLinked keys) x xs h in
    All-cons (IsLinked keys) (settled x) (map settled xs) (record { instance = link.instance; desc = link.desc; fd = link.fd }) (linked_settled keys xs (All-tail (IsLinked keys) x xs h))

-- what is risen, as the machine has it
abbrev pub risen_watch : (ℕ → Bool) → Files → KernelWatch → KernelWatch
risen_watch reached files w = record w { fresh = watches_instance files w && reached w.target && brings w.mask IN || w.fresh }

pub risen_watches : (reached : ℕ → Bool) (v : Seen) (xs : List Entry) → map (watch_at v.keys) (map (risen reached v) xs) ≡ map (risen_watch reached v.files) (map (watch_at v.keys) xs)
risen_watches reached v [] = refl
risen_watches reached v (x ∷ xs) = ap (λ (ws : List KernelWatch). risen_watch reached v.files (watch_at v.keys x) ∷ ws) (risen_watches reached v xs)

-- what is passed on is forgotten, as the machine has it
abbrev pub settled_watch : KernelWatch → KernelWatch
settled_watch w = record w { passes_in = 0 }

pub settled_watches : (keys : List (Option ℕ)) (xs : List Entry) → map (watch_at keys) (map settled xs) ≡ map settled_watch (map (watch_at keys) xs)
settled_watches keys [] = refl
settled_watches keys (x ∷ xs) = ap (λ (ws : List KernelWatch). settled_watch (watch_at keys x) ∷ ws) (settled_watches keys xs)

pub climbs_not : (d : DescId) (xs : List Entry) → xs ≡ map (climbs_to false d) xs
climbs_not d [] = refl
climbs_not d (x ∷ xs) = ap (λ (ys : List Entry). x ∷ ys) (climbs_not d xs)
