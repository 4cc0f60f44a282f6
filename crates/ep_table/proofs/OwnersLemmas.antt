-- Whose a name is, as objects come, change and go.
use Rattle.std.proofs.Common.{IsSome, ◌≡◌, ◌≢◌, ◌<◌, ◌∙◌, Bool, List, None, Option, Some, ap, false, get_or, inl, inr, is_some, length, refl, slice_set, sym, true, ℕ}
use Rattle.std.proofs.lemmas.Bool.{false≢true}
use Rattle.std.proofs.lemmas.List.{get_or-set_other, get_or-set_same, get_or_past}
use Rattle.std.specs.Prelude.{if◌then◌else◌}
use Rattle.ep_base.specs.declared.object.End.{End}
use Rattle.ep_base.specs.declared.socket.Name.{Name}
use Rattle.ep_facts.proofs.NatFacts.{below_or, same_or_not}
use Rattle.ep_machine.specs.Names.{is_there}
use Rattle.ep_machine.specs.Objects.{close_end, has_name, name_in}
use Rattle.ep_names.specs.Names.{Taken, owner_of}
use Rattle.ep_object.proofs.NamingLemmas.{close_keeps_or_frees}
use Rattle.ep_object.specs.Naming.{Gains}
use Rattle.ep_table.proofs.CloseLemmas.{closed_object}
use Rattle.ep_table.proofs.InsertLemmas.{Inserted}
use Rattle.ep_table.proofs.TakingLemmas.{stays_named}
use Rattle.ep_table.specs.Closing.{closed_in, closed_slot, kept_if, remains}
use Rattle.ep_table.specs.Taking.{AreOwners, freed_if, object_slot}
use Rattle.ep_table.specs.declared.words.Shared.{Shared}

-- an object more
pub owners_more : (names : Taken) (os os1 : List (Option Shared)) (at : ℕ) (s : Shared) → Inserted os os1 at s → AreOwners names os → AreOwners names os1
owners_more names os os1 at s ins h name i e = elim (same_or_not i at) [
  | inl here ↦ absurd (false≢true (sym (ap (λ (o : Option Shared). has_name name (object_slot o)) (ap (λ (j : ℕ). get_or os j None) here ∙ ins.was)) ∙ h name i e))
  | inr ne ↦ ap (λ (o : Option Shared). has_name name (object_slot o)) (ins.others i ne) ∙ h name i e
]

module _ (names new : Taken) (os : List (Option Shared)) (h : AreOwners names os) (at : ℕ) (s : Shared) (is : get_or os at None ≡ Some s) where
  within : at < length os
  within = elim (below_or at (length os)) [ inl l ↦ l | inr l ↦ let e : None ≡ Some s = sym (get_or_past os at None l) ∙ is in absurd cc ]

  -- what stands under a key once another thing stands under this one
  put : (o : Option Shared) (name : Name) (i : ℕ) → (i ≡ at → has_name name (object_slot o) ≡ true) → (i ≢ at → has_name name (object_slot (get_or os i None)) ≡ true)
      → has_name name (object_slot (get_or (slice_set os at o) i None)) ≡ true
  put o name i here there = elim (same_or_not i at) [
    | inl e ↦ ap (λ (x : Option Shared). has_name name (object_slot x)) (ap (λ (j : ℕ). get_or (slice_set os at o) j None) e ∙ get_or-set_same os at o None within) ∙ here e
    | inr ne ↦ ap (λ (x : Option Shared). has_name name (object_slot x)) (get_or-set_other os at i o None ne) ∙ there ne
  ]

  -- what this key owned, its object has
  own : (name : Name) (i : ℕ) → i ≡ at → owner_of names name ≡ Some i → is_there name (name_in s.object) ≡ true
  own name i e o = sym (ap (λ (x : Option Shared). has_name name (object_slot x)) (ap (λ (j : ℕ). get_or os j None) e ∙ is)) ∙ h name i o

  -- the object changes, and not its name
  pub owners_kept : (t : Shared) → name_in t.object ≡ name_in s.object → AreOwners names (slice_set os at (Some t))
  owners_kept t same name i o = put (Some t) name i (λ e. ap (is_there name) same ∙ own name i e o) (λ ne. h name i o)

  -- it may get a name
  pub owners_named : (t : Shared) (gained : Option Name) → Gains s.object t.object gained
      → ((n : Name) → owner_of new n ≡ (if is_there n gained then Some at else owner_of names n)) → AreOwners new (slice_set os at (Some t))
  owners_named t gained gains more name i o = by_test (is_there name gained) refl where
    by_test : (b : Bool) → is_there name gained ≡ b → has_name name (object_slot (get_or (slice_set os at (Some t)) i None)) ≡ true
    by_test true g =
        let to : Some at ≡ Some i = sym (more name ∙ ap (λ (b : Bool). if b then Some at else owner_of names name) g) ∙ o in
        let e : i ≡ at = cc in
        put (Some t) name i (λ f. gets gained gains g) (λ ne. absurd (ne e)) where
          gets : (n : Option Name) → Gains s.object t.object n → is_there name n ≡ true → is_there name (name_in t.object) ≡ true
          gets None gains g = cc
          gets (Some n) gains g = ap (is_there name) gains.1 ∙ g
    by_test false g =
        let was : owner_of names name ≡ Some i = sym (more name ∙ ap (λ (b : Bool). if b then Some at else owner_of names name) g) ∙ o in
        put (Some t) name i (λ e. had gained gains (own name i e was)) (λ ne. h name i was) where
          had : (n : Option Name) → Gains s.object t.object n → is_there name (name_in s.object) ≡ true → is_there name (name_in t.object) ≡ true
          had None gains own = ap (is_there name) gains ∙ own
          had (Some n) gains own = absurd (false≢true (sym (ap (is_there name) gains.0) ∙ own))

  -- an end of it closes, and it goes with the last, and its name with it, or with the end
  pub owners_closed : (e : End) (freed : Option Name) → freed ≡ freed_if (remains s e) s.object (closed_in s e).object
      → ((n : Name) → owner_of new n ≡ (if is_there n freed then None else owner_of names n)) → AreOwners new (slice_set os at (closed_slot (Some s) e))
  owners_closed e freed f less name i o = by_test (remains s e) f where
    left : name_in (closed_in s e).object ≡ name_in (close_end s.object e).0
    left = ap name_in (closed_object s e)

    was : (m : Option Name) → freed ≡ m → (b : Bool) → is_there name m ≡ b → (owner_of names name ≡ Some i) × (b ≡ false)
    was m g true h =
        let gone : None ≡ Some i = sym (less name ∙ ap (λ (b : Bool). if b then None else owner_of names name) (ap (is_there name) g ∙ h)) ∙ o in absurd cc
    was m g false h = (sym (less name ∙ ap (λ (b : Bool). if b then None else owner_of names name) (ap (is_there name) g ∙ h)) ∙ o, refl)

    -- all of its name went
    without : (t : Option Shared) → freed ≡ name_in s.object → has_name name (object_slot (get_or (slice_set os at t) i None)) ≡ true
    without t g =
        let w = was (name_in s.object) g (is_there name (name_in s.object)) refl in
        put t name i (λ same. absurd (false≢true (sym w.1 ∙ own name i same w.0))) (λ ne. h name i w.0)

    by_test : (b : Bool) → freed ≡ freed_if b s.object (closed_in s e).object → has_name name (object_slot (get_or (slice_set os at (kept_if b (closed_in s e))) i None)) ≡ true
    by_test false g = without None g
    by_test true g = elim (close_keeps_or_frees s.object e) [
      | inl same ↦
          let w = was None (g ∙ stays_named (name_in s.object) (name_in (closed_in s e).object) (left ∙ same)) false refl in
          put (Some (closed_in s e)) name i (λ here. ap (is_there name) (left ∙ same) ∙ own name i here w.0) (λ ne. h name i w.0)
      | inr none ↦ without (Some (closed_in s e)) (g ∙ ap (λ (o : Option Name). if is_some o then None else name_in s.object) (left ∙ none))
    ]

-- the owner of a name is there, and has it
pub owner_there : (names : Taken) (os : List (Option Shared)) → AreOwners names os → (name : Name) (at : ℕ) → owner_of names name ≡ Some at → IsSome (get_or os at None)
owner_there names os h name at e = by_slot (get_or os at None) (h name at e) where
  by_slot : (o : Option Shared) → has_name name (object_slot o) ≡ true → IsSome o
  by_slot None a = cc
  by_slot (Some s) a = refl
