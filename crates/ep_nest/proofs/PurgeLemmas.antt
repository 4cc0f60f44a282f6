-- Links that are taken away one after another.
use Rattle.ep_machine.specs.Lists.{are_distinct, is_among}
use Rattle.ep_nest.proofs.KeptLemmas.{length_part}
use Rattle.ep_nest.proofs.TurnLemmas.{none_without}
use Rattle.ep_nest.specs.Links.{entries, is_apart_from, is_of, starting_at, starts_at, without}
use Rattle.ep_nest.specs.declared.link.Link.{Link}
use Rattle.ep_nest.specs.declared.link.Way.{Way}
use Rattle.ep_nest.specs.declared.link.Way.TheVariants.{Down, Up}
use Rattle.std.proofs.Common.{List, None, Some, [], ap, arith, eq-eqb, eqb, false, filter, inl, inr, length, not, refl, slice_get, sym, true, ℕ, ◌<◌, ◌==◌, ◌∙◌, ◌∷◌, ◌≡◌, ◌≤◌}
use Rattle.std.proofs.lemmas.Bool.{and_parts, cases_Bool, eqb-true, not-true}

-- the links that don't start at the instance
abbrev pub staying : Way → ℕ → List Link → List Link
staying way k ls = filter (λ l. not (starts_at way k l)) ls

-- where the first that starts there is taken away, the others stay
pub cut_one : (way : Way) (k : ℕ) (l : Link) (ls : List Link) → are_distinct (entries ls) ≡ true → slice_get (starting_at way k ls) 0 ≡ Some l → staying way k (without l.entry.0 ls) ≡ staying way k ls
cut_one way k l [] distinct at = refl
cut_one way k l (m ∷ ls) distinct at =
    let parts = and_parts (not (is_among (entries ls) m.entry.0)) (are_distinct (entries ls)) distinct in
    elim (cases_Bool (starts_at way k m)) [
      | inl is ↦
          let here : Some m ≡ Some l = rw is at at in
          let same : m ≡ l = cc in
          let own : is_of l.entry.0 m ≡ true = eq-eqb m.entry.0 l.entry.0 (ap (λ (n : Link). n.entry.0) same) in
          let none : is_among (entries ls) l.entry.0 ≡ false = ap (λ (n : Link). is_among (entries ls) n.entry.0) (sym same) ∙ not-true (is_among (entries ls) m.entry.0) parts.0 in
          rw (own, is) (ap (staying way k) (sym (none_without l.entry.0 ls none)))
      | inr off ↦
          let rest : slice_get (starting_at way k ls) 0 ≡ Some l = rw off at at in
          let apart : is_of l.entry.0 m ≡ false = elim (cases_Bool (is_of l.entry.0 m)) [
            | inl is ↦
                let there = first_entry way k l ls rest in
                let again : is_among (entries ls) m.entry.0 ≡ true = ap (is_among (entries ls)) (eqb-true m.entry.0 l.entry.0 is) ∙ there in
                let bad : true ≡ false = sym again ∙ not-true (is_among (entries ls) m.entry.0) parts.0 in
                absurd (cc)
            | inr away ↦ away
          ] in
          rw (apart, off) (ap (λ xs. m ∷ xs) (cut_one way k l ls parts.1 rest))
    ]
  where
    first_entry : (way : Way) (k : ℕ) (l : Link) (ls : List Link) → slice_get (starting_at way k ls) 0 ≡ Some l → is_among (entries ls) l.entry.0 ≡ true
    first_entry way k l [] at = absurd (cc)
    first_entry way k l (m ∷ ls) at = elim (cases_Bool (starts_at way k m)) [
      | inl is ↦
          let here : Some m ≡ Some l = rw is at at in
          let same : m ≡ l = cc in
          let own : eqb l.entry.0 m.entry.0 ≡ true = eq-eqb l.entry.0 m.entry.0 (ap (λ (n : Link). n.entry.0) (sym same)) in
          rw own refl
      | inr off ↦
          let rest = first_entry way k l ls (rw off at at) in
          elim (cases_Bool (eqb l.entry.0 m.entry.0)) [ inl is ↦ rw is refl | inr away ↦ rw away rest ]
    ]

-- where none starts there, all stay
pub cut_none : (way : Way) (k : ℕ) (ls : List Link) → slice_get (starting_at way k ls) 0 ≡ None → ls ≡ staying way k ls
cut_none way k [] none = refl
cut_none way k (m ∷ ls) none = elim (cases_Bool (starts_at way k m)) [
  | inl is ↦ let bad : Some m ≡ None = rw is at none in absurd (cc)
  | inr off ↦ rw off (ap (λ xs. m ∷ xs) (cut_none way k ls (rw off at none)))
]

-- fewer links each time
pub cut_fewer : (way : Way) (k : ℕ) (l : Link) (ls : List Link) → slice_get (starting_at way k ls) 0 ≡ Some l → length (without l.entry.0 ls) < length ls
cut_fewer way k l [] at = absurd (cc)
cut_fewer way k l (m ∷ ls) at = elim (cases_Bool (is_of l.entry.0 m)) [
  | inl is ↦ rw is (let few = part l.entry.0 ls in omega (arith, few))
  | inr away ↦ elim (cases_Bool (starts_at way k m)) [
    | inl is ↦
        let here : Some m ≡ Some l = rw is at at in
        let same : m ≡ l = cc in
        let bad : true ≡ false = sym (eq-eqb m.entry.0 l.entry.0 (ap (λ (n : Link). n.entry.0) same)) ∙ away in
        absurd (cc)
    | inr off ↦ rw away (let few = cut_fewer way k l ls (rw off at at) in omega (arith, few))
  ]
]
  where
    part : (q : ℕ) (ls : List Link) → length (without q ls) ≤ length ls
    part q ls = length_part (λ l. not (is_of q l)) ls

-- both ways together
pub cut_both : (k : ℕ) (ls : List Link) → staying Up k (staying Down k ls) ≡ filter (is_apart_from k) ls
cut_both k [] = refl
cut_both k (l ∷ ls) =
    let rest = cut_both k ls in
    elim (cases_Bool (l.outer.0 == k)) [
      | inl is ↦ rw is rest
      | inr off ↦ elim (cases_Bool (l.inner.0 == k)) [
        | inl too ↦ rw (off, too) rest
        | inr away ↦ rw (off, away) (ap (λ xs. l ∷ xs) rest)
      ]
    ]
