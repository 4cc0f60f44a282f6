-- What arrives at timers, by the keys of the descriptions that live and by their numbers.
use Rattle.std.proofs.Common.{◌≡◌, ◌∙◌, ◌+◌, ◌||◌, ℕ, zero, suc, Bool, true, false, List, [], ◌∷◌, None, Option, Some, ap, get_or, inl, inr, is_some, nat_lt, refl, sym, unwrap_or}
use Rattle.std.specs.List.{list_any}
use Rattle.std.proofs.lemmas.Bool.{cases_Bool, false≢true}
use Rattle.std.proofs.Math.Nat.{zero-add}
use Rattle.ep_facts.proofs.BoolFacts.{or_right}
use Rattle.ep_facts.proofs.OptionFacts.{value_of}
use Rattle.ep_facts.proofs.NatFacts.{plus_none, shift}
use Rattle.ep_base.specs.declared.ids.DescId.{DescId}
use Rattle.ep_counters.specs.Law.{NextTellsAdvance, is_by}
use Rattle.ep_machine.specs.Bits.{IN, when}
use Rattle.ep_machine.specs.Files.{Place, object_at, place_of}
use Rattle.ep_machine.specs.Lists.{numbered}
use Rattle.ep_machine.specs.Objects.{Object, advance}
use Rattle.ep_machine.specs.Waits.{is_due}
use Rattle.ep_calls.specs.Arrivals.{arrives_at, arrives_by}
use Rattle.ep_calls.specs.Raising.{clock_bits}
use Rattle.ep_object.proofs.TimerLemmas.{next_tells}
use Rattle.ep_object.specs.Next.{IsNextMoment}
use Rattle.ep_table.specs.Live.{key_of}
use Rattle.ep_table.specs.Value.{Seen, Sound, number_under, unwrapped}

-- What is there, each with its number.

module _ {X : Type 0} (test : ℕ × X → Bool) where
  -- some passes a test
  pub record Passes (j : ℕ) (xs : List (Option X)) : Type 0 where
    pub place : ℕ
    pub thing : X
    pub there : get_or xs place None ≡ Some thing
    pub passes : test (j + place, thing) ≡ true

  later : (j : ℕ) (o : Option X) (xs : List (Option X)) → Passes (j + 1) xs → Passes j (o ∷ xs)
  later j o xs h = record { place = suc h.place; thing = h.thing; there = h.there; passes = ap (λ (k : ℕ). test (k, h.thing)) (sym (shift j h.place)) ∙ h.passes }

  pub passing : (j : ℕ) (xs : List (Option X)) → list_any test (numbered j xs) ≡ true → Passes j xs
  passing j [] h = absurd (false≢true h)
  passing j (None ∷ xs) h = later j None xs (passing (j + 1) xs h)
  passing j (Some x ∷ xs) h = elim (cases_Bool (test (j, x))) [
    | inl e ↦ record { place = 0; thing = x; there = refl; passes = ap (λ (k : ℕ). test (k, x)) (sym (plus_none j)) ∙ e }
    | inr e ↦ later j (Some x) xs (passing (j + 1) xs (ap (λ (b : Bool). b || list_any test (numbered (j + 1) xs)) (sym e) ∙ h))
  ]

  pub any_passing : (j i : ℕ) (x : X) (xs : List (Option X)) → get_or xs i None ≡ Some x → test (j + i, x) ≡ true → list_any test (numbered j xs) ≡ true
  any_passing j i x [] there h = absurd (cc)
  any_passing j zero x (None ∷ xs) there h = absurd (cc)
  any_passing j zero x (Some y ∷ xs) there h =
      let is : y ≡ x = cc in
      ap (λ (b : Bool). b || list_any test (numbered (j + 1) xs)) (ap (λ (z : X). test (j, z)) is ∙ (ap (λ (k : ℕ). test (k, x)) (plus_none j) ∙ h))
  any_passing j (suc i) x (None ∷ xs) there h = any_passing (j + 1) i x xs there (ap (λ (k : ℕ). test (k, x)) (shift j i) ∙ h)
  any_passing j (suc i) x (Some y ∷ xs) there h =
      or_right (test (j, y)) (list_any test (numbered (j + 1) xs)) (any_passing (j + 1) i x xs there (ap (λ (k : ℕ). test (k, x)) (shift j i) ∙ h))

-- a bit arrives at the description under a key
pub record ArrivesUnder (v : Seen) (since now : ℕ) : Type 0 where
  pub key : ℕ
  pub number : ℕ
  pub is : number_under v (key_of key) ≡ Some number
  pub arrives : arrives_at v since now (key_of key) ≡ true

module _ (v : Seen) (since now : ℕ) (sound : Sound v) where
  abbrev of_place : ℕ × Place → Bool
  of_place x = nat_lt 0 (clock_bits v.files since now (Some x.1))

  abbrev of_key : ℕ × ℕ → Bool
  of_key x = arrives_at v since now (key_of x.0)

  same_bit : (desc : DescId) (n : ℕ) (p : Place) → number_under v desc ≡ Some n → place_of v.files n ≡ Some p → arrives_at v since now desc ≡ of_place (n, p)
  same_bit desc n p is at =
      ap (λ (o : Option ℕ). nat_lt 0 (advance (unwrapped (object_at v.files (place_of v.files (unwrap_or o 0)))) since now)) is
      ∙ ap (λ (o : Option Place). nat_lt 0 (advance (unwrapped (object_at v.files o)) since now)) at

  to_numbers : list_any of_key (numbered 0 v.keys) ≡ true → arrives_by v.files since now ≡ true
  to_numbers h =
      let key = passing of_key 0 v.keys h in
      let desc = key_of key.place in
      let is : number_under v desc ≡ Some key.thing = key.there in
      let at = value_of (place_of v.files key.thing) (sound.place desc key.thing is) in
      let passes : arrives_at v since now desc ≡ true = ap (λ (k : ℕ). arrives_at v since now (key_of k)) (sym (zero-add key.place)) ∙ key.passes in
      any_passing of_place 0 key.thing at.0 v.files.descriptions at.1
      (ap (λ (k : ℕ). of_place (k, at.0)) (zero-add key.thing) ∙ (sym (same_bit desc key.thing at.0 is at.1) ∙ passes))

  to_keys : arrives_by v.files since now ≡ true → list_any of_key (numbered 0 v.keys) ≡ true
  to_keys h =
      let one = passing of_place 0 v.files.descriptions h in
      let at : place_of v.files one.place ≡ Some one.thing = one.there in
      let key = sound.keyed one.place (ap (λ (o : Option Place). is_some o) at) in
      any_passing of_key 0 key.0.0 one.place v.keys key.1
      (ap (λ (k : ℕ). of_key (k, one.place)) (zero-add key.0.0)
      ∙ (same_bit key.0 one.place one.thing key.1 at ∙ (ap (λ (k : ℕ). of_place (k, one.thing)) (sym (zero-add one.place)) ∙ one.passes)))

  pub under_arrives : ArrivesUnder v since now → arrives_by v.files since now ≡ true
  under_arrives h = to_numbers (any_passing of_key 0 h.key h.number v.keys h.is (ap (λ (k : ℕ). of_key (k, h.number)) (zero-add h.key) ∙ h.arrives))

  pub arrives_under : arrives_by v.files since now ≡ true → ArrivesUnder v since now
  arrives_under h =
      let one = passing of_key 0 v.keys (to_keys h) in
      record { key = one.place; number = one.thing; is = one.there; arrives = ap (λ (k : ℕ). arrives_at v since now (key_of k)) (sym (zero-add one.place)) ∙ one.passes }

-- What one object tells of its next moment.
bit_is : (b : Bool) → nat_lt 0 (when b IN) ≡ b
bit_is true = refl
bit_is false = refl

by_is_due : (next : Option ℕ) (now : ℕ) → is_by next now ≡ is_due now next
by_is_due None now = refl
by_is_due (Some moment) now = refl

pub arrival_told : NextTellsAdvance → (x : Object) (since now : ℕ) (next : Option ℕ) → IsNextMoment x since next → nat_lt 0 (advance x since now) ≡ is_due now next
arrival_told law x since now next h = ap (nat_lt 0) (next_tells law x since now next h) ∙ (bit_is (is_by next now) ∙ by_is_due next now)
