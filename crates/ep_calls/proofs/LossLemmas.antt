-- What is raised where connections were let go, at each registration.
use Rattle.std.proofs.Common.{nat_lt, Bool, true, false, IsSome, List, [], ◌∷◌, ap, bit_or, cond, if◌then◌else◌, map, refl, sym, ℕ, ◌++◌, ◌&&◌, ◌||◌, ◌==◌, ◌∙◌, ◌≡◌}
use Rattle.ep_facts.proofs.NatFacts.{test_turned}
use Rattle.ep_interest.specs.Registrations.{is_on, raised_on}
use Rattle.ep_interest.specs.declared.entry.Entry.{Entry}
use Rattle.ep_machine.specs.Bits.{asked, when}
use Rattle.ep_machine.specs.Counts.{brings}
use Rattle.ep_machine.specs.Spread.{raised_of}
use Rattle.ep_view.proofs.FreshLemmas.{asked_either, brings_either}
use Rattle.ep_calls.specs.Raising.{raised_where}
use Rattle.ep_calls.specs.Stands.{IsLinked, number_at}
use Rattle.ep_calls.proofs.KeyLemmas.{same_keys}
use Rattle.ep_calls.proofs.OtherEndLemmas.{link_noted, noted, zero_noted}
use Rattle.ep_table.specs.Value.{AreLive, Seen, Sound, losses_of, number_of, number_under}
use Rattle.ep_table.specs.declared.words.Loss.{Loss}

pub map_same : (ys : List Entry) → map (λ y. y) ys ≡ ys
map_same [] = refl
map_same (y ∷ ys) = ap (λ (zs : List Entry). y ∷ zs) (map_same ys)

pub map_twice : (f g : Entry → Entry) (xs : List Entry) → map g (map f xs) ≡ map (λ x. g (f x)) xs
map_twice f g [] = refl
map_twice f g (x ∷ xs) = ap (λ (ys : List Entry). g (f x) ∷ ys) (map_twice f g xs)

-- one more
pub where_more : (n : ℕ) (ls : List Loss) (l : Loss) (xs : List Entry) → raised_where n (ls ++ l ∷ []) xs ≡ map (raised_on l.desc l.raised n) (raised_where n ls xs)
where_more n [] l xs = refl
where_more n (k ∷ ls) l xs = where_more n ls l (map (raised_on k.desc k.raised n) xs)

-- of all at one registration
abbrev pub lose_each : ℕ → List Loss → Entry → Entry
lose_each n [] x = x
lose_each n (l ∷ ls) x = lose_each n ls (raised_on l.desc l.raised n x)

pub where_map : (n : ℕ) (ls : List Loss) (xs : List Entry) → raised_where n ls xs ≡ map (lose_each n ls) xs
where_map n [] xs = sym (map_same xs)
where_map n (l ∷ ls) xs = where_map n ls (map (raised_on l.desc l.raised n) xs) ∙ map_twice (raised_on l.desc l.raised n) (lose_each n ls) xs

-- bits that are noted one after another are noted together
noted_both : (n a b : ℕ) (x : Entry) → noted n b (noted n a x) ≡ noted n (bit_or a b) x
noted_both n a b x = λ i. record x {
  fresh = (fresh_either (brings x.mask.0 a) (brings x.mask.0 b) x.fresh ∙ ap (λ (c : Bool). c || x.fresh) (sym (brings_either x.mask.0 a b))) i;
  passes_in = (passes_either x.armed (nat_lt 0 (asked x.mask.0 a)) (nat_lt 0 (asked x.mask.0 b)) x.passes_in
      ∙ ap (λ (c : Bool). if x.armed && c then n else x.passes_in) (sym (asked_either x.mask.0 a b))) i;
} where
  fresh_either : (p q r : Bool) → (q || (p || r)) ≡ ((p || q) || r)
  fresh_either true true r = refl
  fresh_either true false r = refl
  fresh_either false true r = refl
  fresh_either false false r = refl

  passes_either : (p q r : Bool) (m : ℕ) → (if p && r then n else if p && q then n else m) ≡ (if p && (q || r) then n else m)
  passes_either true true true m = refl
  passes_either true true false m = refl
  passes_either true false true m = refl
  passes_either true false false m = refl
  passes_either false q r m = refl

module _ (v : Seen) (n : ℕ) (sound : Sound v) where
  -- one, at a registration
  one_lost : (l : Loss) (x : Entry) → IsLinked v.keys x → IsSome (number_under v l.desc) → raised_on l.desc l.raised n x ≡ noted n (when (number_of v l.desc == number_at v.keys x.desc) l.raised.0) x
  one_lost l x link lives =
      let turned : is_on l.desc x ≡ (number_of v l.desc == number_at v.keys x.desc) =
      sym (same_keys v x.desc l.desc sound link.desc lives) ∙ test_turned (number_at v.keys x.desc) (number_of v l.desc) in
      ap (λ (b : Bool). cond b (noted n l.raised.0 x) x) turned ∙ by_test (number_of v l.desc == number_at v.keys x.desc) where
        by_test : (b : Bool) → cond b (noted n l.raised.0 x) x ≡ noted n (when b l.raised.0) x
        by_test true = refl
        by_test false = sym (zero_noted n x)

  pub losses_each : (ls : List Loss) → AreLive v.keys ls → (x : Entry) → IsLinked v.keys x → lose_each n ls x ≡ noted n (raised_of (losses_of v.keys ls) (number_at v.keys x.desc)) x
  losses_each [] live x link = sym (zero_noted n x)
  losses_each (l ∷ ls) live x link =
      let a = when (number_of v l.desc == number_at v.keys x.desc) l.raised.0 in
      ap (lose_each n ls) (one_lost l x link live.0)
      ∙ (losses_each ls live.1 (noted n a x) (link_noted v.keys n a x link)
      ∙ noted_both n a (raised_of (losses_of v.keys ls) (number_at v.keys x.desc)) x)
