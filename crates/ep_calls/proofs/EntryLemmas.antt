-- The registration under a key.
use Rattle.std.proofs.Common.{◌≡◌, ◌∙◌, ◌==◌, ◌≤◌, ℕ, All, Bool, IsSome, List, [], ◌∷◌, None, Option, Some, ap, cond, inl, inr, refl, sym}
use Rattle.std.proofs.lemmas.Bool.{cases_Bool, false≢true}
use Rattle.std.proofs.lemmas.List.Elements.{All-from_recursion}
use Rattle.ep_facts.proofs.OptionFacts.{some_same}
use Rattle.ep_base.specs.declared.ids.EntryId.{EntryId}
use Rattle.ep_calls.proofs.AdditionLemmas.{found_passes}
use Rattle.ep_calls.proofs.FindLemmas.{each_numbered}
use Rattle.ep_interest.proofs.PurgeLemmas.{numbered_number}
use Rattle.ep_interest.specs.Registrations.{IsSound, Registrations, entry_found, entry_under, number_under, numbered}
use Rattle.ep_interest.specs.declared.entry.Entry.{Entry}
use Rattle.ep_law.proofs.ListLemmas.{all_member}
use Rattle.ep_law.specs.Laws.{Member}

found_under : (xs : List Entry) (o : Option ℕ) (x : Entry) → entry_found xs o ≡ Some x → (o ≡ Some x.number) × (numbered xs x.number ≡ Some x)
found_under xs None x h = absurd (cc)
found_under xs (Some n) x h = let is = numbered_number xs n x h in (ap (λ (k : ℕ). Some k) (sym is), ap (numbered xs) is ∙ h)

-- its number stands there
pub number_of : (r : Registrations) (id : EntryId) (x : Entry) → entry_under r id ≡ Some x → number_under r id ≡ Some x.number
number_of r id x h = (found_under r.entries (number_under r id) x h).0

-- and finds it
pub found_by : (r : Registrations) (id : EntryId) (x : Entry) → entry_under r id ≡ Some x → numbered r.entries x.number ≡ Some x
found_by r id x h = (found_under r.entries (number_under r id) x h).1

pub holds_under : (P : Entry → Type 0) (r : Registrations) (id : EntryId) (x : Entry) → All P r.entries → entry_under r id ≡ Some x → P x
holds_under P r id x all h = found_passes P (λ y. y.number == x.number) x r.entries all (found_by r id x h)

some_found : (o : Option Entry) → IsSome o → (x : Entry) × (o ≡ Some x)
some_found None h = absurd (false≢true h)
some_found (Some x) h = (x, refl)

find_entry : (xs : List Entry) (n : ℕ) (x : Entry) → numbered xs n ≡ Some x → Member x xs
find_entry [] n x h = absurd (cc)
find_entry (y ∷ ys) n x h = elim (cases_Bool (y.number == n)) [
  | inl t ↦ inl (some_same x y (sym h ∙ ap (λ (b : Bool). cond b (Some y) (numbered ys n)) t))
  | inr f ↦ inr (find_entry ys n x (sym (ap (λ (b : Bool). cond b (Some y) (numbered ys n)) f) ∙ h))
]

pub member_of : (r : Registrations) (id : EntryId) (x : Entry) → entry_under r id ≡ Some x → Member x r.entries
member_of r id x h = find_entry r.entries x.number x (found_by r id x h)

module _ (r : Registrations) (sound : IsSound r) where
  -- a member is the one that its number finds
  pub own : (x : Entry) → Member x r.entries → numbered r.entries x.number ≡ Some x
  own x m = all_member (λ (y : Entry). numbered r.entries y.number ≡ Some y) r.entries x (All-from_recursion (λ (y : Entry). numbered r.entries y.number ≡ Some y) r.entries (each_numbered 0 r.entries sound.rises)) m

  -- members with one number are the same
  pub one_member : (x y : Entry) → Member x r.entries → Member y r.entries → x.number ≡ y.number → x ≡ y
  one_member x y a b e = some_same x y (sym (own x a) ∙ (ap (numbered r.entries) e ∙ own y b))

  -- a key with a number has a registration
  pub some_entry : (id : EntryId) (k : ℕ) → number_under r id ≡ Some k → (x : Entry) × (entry_under r id ≡ Some x) × (x.number ≡ k)
  some_entry id k h =
      let f = some_found (numbered r.entries k) (sound.keyed id k h) in
      (f.0, ap (entry_found r.entries) h ∙ f.1, numbered_number r.entries k f.0 f.1)

  -- one number has one key, and one registration
  pub one_under : (a b : EntryId) (x y : Entry) → entry_under r a ≡ Some x → entry_under r b ≡ Some y → x.number ≡ y.number → (a ≡ b) × (x ≡ y)
  one_under a b x y h k e = (
    sound.one_key a b y.number (number_of r a x h ∙ ap (λ (n : ℕ). Some n) e) (number_of r b y k),
    some_same x y (sym (found_by r a x h) ∙ (ap (numbered r.entries) e ∙ found_by r b y k)),
  )

  -- a member has a key
  pub key_of : (x : Entry) → Member x r.entries → (id : EntryId) × (entry_under r id ≡ Some x)
  key_of x m =
      let one = sound.has_one x.number x (own x m) in
      (one.0, ap (entry_found r.entries) one.1 ∙ own x m)

  pub within : (id : EntryId) (x : Entry) → entry_under r id ≡ Some x → x.number ≤ r.added
  within id x h = holds_under (λ y. y.number ≤ r.added) r id x sound.within h
