-- The description of the other end.
use Rattle.std.proofs.Common.{List, None, Option, Some, ap, get_or, map, sym, ℕ, ◌∙◌, ◌≡◌, ◌≢◌}
use Rattle.ep_base.specs.declared.ids.DescId.{DescId}
use Rattle.ep_machine.specs.Files.{Files, Place}
use Rattle.ep_table.specs.ByNumber.{NumberedBy}
use Rattle.ep_table.specs.Closing.{IsAt, across, opposite, other_key}
use Rattle.ep_table.specs.Stored.{AllBacked, AllOwned, Backs, Owns, key_number, number_in, object_number_in, place_in, places}
use Rattle.ep_table.specs.Value.{number_at}
use Rattle.ep_table.specs.declared.words.Description.{Description}
use Rattle.ep_table.specs.declared.words.Shared.{Shared}
use Rattle.ep_table.proofs.CloseLemmas.{contents_has, ds1, left_was, numbered_left, opposite_apart, other_is, shares, stays}
use Rattle.ep_table.proofs.ByNumberLemmas.{content_there}
use Rattle.ep_table.proofs.StoreLemmas.{key_at}

no_key : (o : Option DescId) (k : DescId) → o ≡ None → o ≡ Some k → ⊥
no_key o k e f = absurd cc

module _ (ds : List (Option Description)) (os : List (Option Shared)) (n m : ℕ) (nd : NumberedBy number_in ds n) (no : NumberedBy object_number_in os m) (backed : AllBacked ds os) (owned : AllOwned ds os)
    (key : DescId) (d : Description) (is : get_or ds key.0 None ≡ Some d) where
  abbrev b : Backs os key.0 d
  b = backed key.0 d is

  abbrev s : Shared
  s = b.it

  abbrev p : Place
  p = across (Some (place_in d))

  owner : (k : DescId) → other_key s d.end ≡ Some k → Owns ds d.object (opposite d.end) k
  owner k e = owned d.object s (opposite d.end) k b.is (other_is s d.end ∙ e)

  apart : (k : DescId) (e : other_key s d.end ≡ Some k) → k.0 ≢ key.0
  apart k e to =
      let w = owner k e in
      let y : w.it ≡ d = (let u = w.is in let v = ap (λ (j : ℕ). get_or ds j None) to in cc) in
      opposite_apart d.end (sym w.end ∙ ap (λ (z : Description). z.end) y)

  place_there : (k : DescId) (e : other_key s d.end ≡ Some k) → place_in (owner k e).it ≡ p
  place_there k e =
      let w = owner k e in
      let x = backed k.0 w.it w.is in
      let same : x.it ≡ s = (let u = x.is in let v = b.is in let t = ap (λ (j : ℕ). get_or os j None) w.object in cc) in
      let num : w.it.object_number ≡ d.object_number = sym x.number ∙ (ap object_number_in same ∙ b.number) in
      λ i. record { object = num i; side = w.end i }

  not_there : (k : ℕ) (x : Description) → get_or ds k None ≡ Some x → other_key s d.end ≡ None → place_in x ≡ p → ⊥
  not_there k x h e q =
      let w = backed k x h in
      let num : x.object_number ≡ d.object_number = ap (λ (y : Place). y.object) q in
      let end : x.end ≡ opposite d.end = ap (λ (y : Place). y.side) q in
      let ne : k ≢ key.0 = λ to. (let y : x ≡ d = (let v = ap (λ (j : ℕ). get_or ds j None) to in cc) in opposite_apart d.end (sym end ∙ ap (λ (z : Description). z.end) y)) in
      let at : x.object ≡ d.object = no.one x.object d.object w.it s w.is b.is (w.number ∙ (num ∙ sym b.number)) in
      let r : other_key s d.end ≡ Some (record { 0 = k }) = (shares ds os n m nd no backed owned key d is k x h ne at).1 in
      no_key (other_key s d.end) (record { 0 = k }) e r

  -- of a living description
  pub other_at : (files : Files) (keys : List (Option ℕ)) (o : Option DescId) → places ds n ≡ files.descriptions → map key_number ds ≡ keys → o ≡ other_key s d.end → IsAt files keys p o
  other_at files keys o f g e = record {
    some = λ k q.
        let w = owner k (sym e ∙ q) in (
          w.it.number,
          ap (λ (ks : List (Option ℕ)). number_at ks k) (sym g) ∙ (key_at ds k.0 ∙ ap key_number w.is),
          ap (λ (xs : List (Option Place)). get_or xs w.it.number None) (sym f) ∙ (content_there number_in place_in ds n nd k.0 w.it w.is ∙ ap (λ (y : Place). Some y) (place_there k (sym e ∙ q))),
        );
    none = λ q i h.
        let g = contents_has ds n nd i p (ap (λ (xs : List (Option Place)). get_or xs i None) f ∙ h) in
        not_there g.0.key g.0.it g.0.is (sym e ∙ q) g.1;
  }

  -- of one that died
  pub other_left : (files : Files) (keys : List (Option ℕ)) (o : Option DescId) → places (ds1 ds os n m nd no backed owned key d is) n ≡ files.descriptions → map key_number (ds1 ds os n m nd no backed owned key d is) ≡ keys → o ≡ other_key s d.end → IsAt files keys p o
  other_left files keys o f g e =
      let left = numbered_left ds os n m nd no backed owned key d is in
      let rest = ds1 ds os n m nd no backed owned key d is in
      record {
        some = λ k q.
            let w = owner k (sym e ∙ q) in
            let there = stays ds os n m nd no backed owned key d is k.0 w.it (apart k (sym e ∙ q)) w.is in (
              w.it.number,
              ap (λ (ks : List (Option ℕ)). number_at ks k) (sym g) ∙ (key_at rest k.0 ∙ ap key_number there),
              ap (λ (xs : List (Option Place)). get_or xs w.it.number None) (sym f) ∙ (content_there number_in place_in rest n left k.0 w.it there ∙ ap (λ (y : Place). Some y) (place_there k (sym e ∙ q))),
            );
        none = λ q i h.
            let g = contents_has rest n left i p (ap (λ (xs : List (Option Place)). get_or xs i None) f ∙ h) in
            not_there g.0.key g.0.it (left_was ds os n m nd no backed owned key d is g.0.key g.0.it g.0.is) (sym e ∙ q) g.1;
      }
