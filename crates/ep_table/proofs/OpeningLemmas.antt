-- The tables of the opening state.
use Rattle.std.proofs.Common.{IsSome, List, None, Option, Some, [], ap, arith, false, length, refl, subst, suc, sym, unwrap_or, zero, ℕ, ◌++◌, ◌+◌, ◌==◌, ◌∙◌, ◌∷◌, ◌≡◌}
use Rattle.std.proofs.lemmas.Bool.Decides.{nat_tests}
use Rattle.ep_base.specs.declared.ids.DescId.{DescId}
use Rattle.ep_machine.specs.Deaths.{named_in_tables}
use Rattle.ep_machine.specs.Files.{Slot, Table}
use Rattle.ep_machine.specs.Lists.{numbered}
use Rattle.ep_machine.specs.Objects.{Object}
use Rattle.ep_machine.specs.Tables.{slot}
use Rattle.ep_table.specs.Processes.{Process}
use Rattle.ep_table.specs.Value.{InsertsOne, Things, count_at, more_at, number_at, thing_number, times}
use Rattle.ep_table.specs.View.{slot_in, tables_in}
use Rattle.ep_table.specs.declared.words.Descriptor.{Descriptor}
use Rattle.ep_table.proofs.AddLemmas.{Fits}

three : (d : ℕ) → count_at (3 ∷ []) d ≡ times d (0 ∷ 0 ∷ 0 ∷ [])
three zero = refl
three (suc d) = let apart : (suc d == 0) ≡ false = grind (arith, nat_tests) in rw apart refl

abbrev pub named_as : DescId → Descriptor
named_as key = record { description = key; cloexec = false }

abbrev pub three_names : DescId → List Process
three_names key = None ∷ Some (Some (named_as key) ∷ Some (named_as key) ∷ Some (named_as key) ∷ []) ∷ []

module _ (s : Things) (key : DescId) (number : number_at s.keys key ≡ Some 0) where
  abbrev seen_slot : Option Slot
  seen_slot = Some (slot 0 false)

  slot_seen : slot_in s.keys (Some (named_as key)) ≡ seen_slot
  slot_seen = ap (λ (o : Option ℕ). Some (slot (unwrap_or o 0) false)) number

  tables_seen : tables_in s.keys (three_names key) ≡ None ∷ Some (seen_slot ∷ seen_slot ∷ seen_slot ∷ []) ∷ []
  tables_seen = λ i. None ∷ Some (slot_seen i ∷ slot_seen i ∷ slot_seen i ∷ []) ∷ []

  fits_three : s.names ≡ 3 ∷ [] → Fits 1 s (three_names key)
  fits_three names =
      let live : IsSome (number_at s.keys key) = subst (λ (o : Option ℕ). IsSome o) (sym number) refl in
      record {
        live = (tt, ((live, (live, (live, tt))), tt));
        counts = λ d. ap (λ (xs : List ℕ). count_at xs d) names ∙ (three d ∙ sym (ap (λ (ts : List (Option Table)). times d (named_in_tables ts)) tables_seen));
        living = sym (ap (λ (ts : List (Option Table)). length (numbered 0 ts)) tables_seen);
      }

-- one description, which is named three times
pub fits_opening : (none one two all : Things) (key : DescId) (o : Object) (ps : List Process)
    → none ≡ record { descriptions = []; objects = []; keys = []; names = []; holds = []; dying = []; named = 0; losses = [] }
    → InsertsOne none one key o
    → two ≡ record one { names = more_at one.names (thing_number one key); named = one.named + 1 }
    → all ≡ record two { names = more_at two.names (thing_number two key); named = two.named + 1 }
    → ps ≡ three_names key → Fits 1 all ps
fits_opening none one two all key o ps is_none adds second third e =
    let found : number_at one.keys key ≡ Some 0 = adds.keys.here ∙ ap (λ (s : Things). Some (length s.descriptions)) is_none in
    let keys_two : two.keys ≡ one.keys = ap (λ (s : Things). s.keys) second in
    let keys_all : all.keys ≡ one.keys = ap (λ (s : Things). s.keys) third ∙ keys_two in
    let first : thing_number one key ≡ 0 = ap (λ (n : Option ℕ). unwrap_or n 0) found in
    let again : thing_number two key ≡ 0 = ap (λ (ks : List (Option ℕ)). unwrap_or (number_at ks key) 0) keys_two ∙ first in
    let names_one : one.names ≡ 1 ∷ [] = adds.names ∙ ap (λ (s : Things). s.names ++ 1 ∷ []) is_none in
    let names_two : two.names ≡ 2 ∷ [] = ap (λ (s : Things). s.names) second ∙ (λ i. more_at (names_one i) (first i)) in
    let names_all : all.names ≡ 3 ∷ [] = ap (λ (s : Things). s.names) third ∙ (λ i. more_at (names_two i) (again i)) in
    let number : number_at all.keys key ≡ Some 0 = ap (λ (ks : List (Option ℕ)). number_at ks key) keys_all ∙ found in
    subst (λ (qs : List Process). Fits 1 all qs) (sym e) (fits_three all key number names_all)
