-- Names are told apart by their numbers, and what is free by which are taken.
use Rattle.std.proofs.Common.{Bool, None, Option, Some, ap, false, if◌then◌else◌, refl, suc, sym, true, zero, ℕ, ◌&&◌, ◌+◌, ◌==◌, ◌≡◌, ◌≢◌, ◌∙◌}
use Rattle.std.proofs.lemmas.Bool.{and_parts}
use Rattle.ep_base.specs.declared.socket.Name.{Name}
use Rattle.ep_base.specs.declared.socket.Space.{Space}
use Rattle.ep_base.specs.declared.socket.Space.TheVariants as spaces
use Rattle.ep_facts.proofs.NatFacts.{from_test, same_nat, same_test, test_apart, test_turned}
use Rattle.ep_machine.specs.Names.{free_from, free_name, given, same_name, space_number}
use Rattle.ep_names.specs.Names.{named}

-- a space is told by its number
pub same_space : (a b : Space) → space_number a ≡ space_number b → a ≡ b
same_space spaces.V4 spaces.V4 e = refl
same_space spaces.V4 spaces.V6 e = cc
same_space spaces.V4 spaces.Local e = cc
same_space spaces.V6 spaces.V4 e = cc
same_space spaces.V6 spaces.V6 e = refl
same_space spaces.V6 spaces.Local e = cc
same_space spaces.Local spaces.V4 e = cc
same_space spaces.Local spaces.V6 e = cc
same_space spaces.Local spaces.Local e = refl

-- only a name is the same as itself
pub same_is : (a b : Name) → same_name a b ≡ true → a ≡ b
same_is a b h =
    let both = and_parts (space_number a.space == space_number b.space) (a.number == b.number) h in
    let space = same_space a.space b.space (from_test _ _ both.0) in
    let number = from_test a.number b.number both.1 in
    λ i. named (space i) (number i)

pub same_itself : (a : Name) → same_name a a ≡ true
same_itself a = ap (λ (t : Bool). t && (a.number == a.number)) (same_nat (space_number a.space)) ∙ same_nat a.number

pub same_turned : (a b : Name) → same_name a b ≡ same_name b a
same_turned a b = ap (λ (t : Bool). t && (a.number == b.number)) (test_turned (space_number a.space) (space_number b.space)) ∙ ap (λ (t : Bool). (space_number b.space == space_number a.space) && t) (test_turned a.number b.number)

-- what is given and what is free go by which names are taken
module _ (f g : Name → Bool) (same : (n : Name) → f n ≡ g n) where
  free_from_same : (left k : ℕ) (space : Space) → free_from f left k space ≡ free_from g left k space
  free_from_same zero k space = refl
  free_from_same (suc left) k space =
      ap (λ (t : Bool). if t then free_from f left (k + 1) space else Some (named space k)) (same (named space k))
      ∙ ap (λ (rest : Option Name). if g (named space k) then rest else Some (named space k)) (free_from_same left (k + 1) space)

  pub given_same : (space : Space) → given f space ≡ given g space
  given_same space = free_from_same 28232 32768 space

  pub free_same : (name : Name) → free_name f name ≡ free_name g name
  free_same name =
      ap (λ (any : Option Name). if name.number == 0 then any else if f name then None else Some name) (given_same name.space)
      ∙ ap (λ (t : Bool). if name.number == 0 then given g name.space else if t then None else Some name) (same name)

-- what is free, by what is asked for
module _ (taken : Name → Bool) (name : Name) where
  pub free_any : name.number ≡ 0 → given taken name.space ≡ free_name taken name
  free_any e = sym (ap (λ (b : Bool). if b then given taken name.space else if taken name then None else Some name) (same_test name.number 0 e))

  asked : name.number ≢ 0 → free_name taken name ≡ (if taken name then None else Some name)
  asked ne = ap (λ (b : Bool). if b then given taken name.space else if taken name then None else Some name) (test_apart name.number 0 ne)

  pub free_taken : name.number ≢ 0 → taken name ≡ true → None ≡ free_name taken name
  free_taken ne t = sym (asked ne ∙ ap (λ (b : Bool). if b then None else Some name) t)

  pub free_itself : name.number ≢ 0 → taken name ≡ false → Some name ≡ free_name taken name
  free_itself ne t = sym (asked ne ∙ ap (λ (b : Bool). if b then None else Some name) t)
