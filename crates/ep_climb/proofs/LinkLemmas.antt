-- If no instance watches another: nothing climbs, and no registration is on an instance.
use Rattle.std.proofs.Common.{◌≡◌, ◌∙◌, ◌&&◌, ◌||◌, ◌∷◌, [], ℕ, Bool, true, false, List, arith, inl, inr, length, map, nat_lt, refl, sym}
use Rattle.std.proofs.lemmas.Bool.{cases_Bool, false≢true}
use Rattle.std.proofs.lemmas.Bool.Decides.{nat_tests}
use Rattle.ep_calls.proofs.IsBelowLemmas.{link_there}
use Rattle.ep_calls.specs.Climb.{AreNested, is_nested, risen}
use Rattle.ep_calls.specs.Stands.{number_at}
use Rattle.ep_interest.specs.Registrations.{Registrations}
use Rattle.ep_interest.specs.declared.entry.Entry.{Entry}
use Rattle.ep_law.specs.Laws.{Member}
use Rattle.ep_machine.specs.Bits.{IN}
use Rattle.ep_machine.specs.Counts.{brings}
use Rattle.ep_nest.proofs.ElementLemmas.{Contains-nil}
use Rattle.ep_nest.specs.declared.link.Link.{Link}
use Rattle.ep_table.specs.Value.{Seen}

pub no_links : (ls : List Link) → nat_lt 0 (length ls) ≡ false → ls ≡ []
no_links [] h = refl
no_links (l ∷ ls) h = let some : nat_lt 0 (length (l ∷ ls)) ≡ true = grind (arith, nat_tests) in absurd (false≢true (sym h ∙ some))

module _ (v : Seen) (r : Registrations) (nested : AreNested v r []) where
  pub is_on_none : (x : Entry) → Member x r.entries → is_nested v x ≡ false
  is_on_none x m = elim (cases_Bool (is_nested v x)) [
    | inl t ↦ absurd (Contains-nil (x.instance.0, x.desc.0) (link_there v r [] nested x m t))
    | inr f ↦ f
  ]

  none_risen : (reached : ℕ → Bool) (xs : List Entry) → ((x : Entry) → Member x xs → is_nested v x ≡ false) → map (risen reached v) xs ≡ xs
  none_risen reached [] h = refl
  none_risen reached (x ∷ xs) h =
      let apart = h x (inl refl) in
      let rest = none_risen reached xs (λ y m. h y (inr m)) in
      λ i. record x { fresh = apart i && reached (number_at v.keys x.desc) && brings x.mask.0 IN || x.fresh } ∷ rest i

  pub risen_none : (reached : ℕ → Bool) → map (risen reached v) r.entries ≡ r.entries
  risen_none reached = none_risen reached r.entries is_on_none
