-- A line that is read piece by piece, where the reader's bytes are known.
use Rattle.std.proofs.Common.{List, None, Option, Some, IfSome, ap, append-nil, append_assoc, arith, drop, inl, inr, length, length-append, length-take, sym, ℕ, ◌-◌, ◌++◌, ◌≡◌, ◌≤◌, ◌∙◌, ◌∷◌}
use Rattle.std.specs.Io.KnownBytes.{prepend_known}
use Rattle.ep_script.specs.declared.chunk.Input.{Input}
use Rattle.ep_script.specs.Known.{Leads}
use Rattle.ep_script.specs.Lines.{IsPlain, most_read}
use Rattle.ep_script.specs.Outcome.{IsHeldOf}
use Rattle.ep_script.specs.Steps.{Behind, IsTooLong, TakesLine}
use Rattle.ep_script.specs.Unread.{unread}

-- a piece that ends the line
pub ends : (k l m : Option (List ℕ)) (line u line' v : List ℕ) → Leads k l (λ xs ys. xs ≡ line ++ ys) → Leads l (prepend_known u m) (λ xs ys. xs ≡ ys)
    → line ++ u ≡ line' ++ 10 ∷ v → IsPlain line' → Leads k (prepend_known v m) (λ xs ys. TakesLine xs line' ys)
ends None l m line u line' v p q e plain = tt
ends (Some xs) None m line u line' v p q e plain = absurd p
ends (Some xs) (Some ys) None line u line' v p q e plain = q
ends (Some xs) (Some ys) (Some zs) line u line' v p q e plain = record {
  plain = plain;
  cut = inl (p ∙ ap (λ y. line ++ y) q ∙ sym (append_assoc line u zs) ∙ ap (λ y. y ++ zs) e ∙ append_assoc line' (10 ∷ v) zs);
}

pub unread_few : (i : Input) → length (unread i) ≤ most_read
unread_few i = omega (arith, length-take (i.end - i.start) (drop i.start i.chunk.items), i.within, i.is_full_size)

-- a piece for which there was no memory
pub holds_back : (most : ℕ) (k l m : Option (List ℕ)) (line : List ℕ) (i : Input) → Leads k l (λ xs ys. xs ≡ line ++ ys) → Leads l (prepend_known (unread i) m) (λ xs ys. xs ≡ ys)
    → length line ≤ most → Leads k m (λ xs ys. Behind (IsHeldOf most) xs ys)
holds_back most None l m line i p q short = tt
holds_back most (Some xs) None m line i p q short = absurd p
holds_back most (Some xs) (Some ys) None line i p q short = q
holds_back most (Some xs) (Some ys) (Some zs) line i p q short = (
  line ++ unread i,
  omega (arith, short, length-append line (unread i), unread_few i),
  p ∙ ap (λ y. line ++ y) q ∙ sym (append_assoc line (unread i) zs),
)

held_line : (most : ℕ) (xs line ys : List ℕ) (i : Input) → TakesLine xs line (unread i ++ ys) → length line ≤ most → Behind (IsHeldOf most) xs ys
held_line most xs line ys i t short = elim t.cut [
  | inl e ↦ (line ++ 10 ∷ unread i, omega (arith, short, length-append line (10 ∷ unread i), unread_few i), e ∙ sym (append_assoc line (10 ∷ unread i) ys))
  | inr e ↦ (
    line ++ unread i,
    omega (arith, short, length-append line (unread i), unread_few i),
    e.0 ∙ sym (append-nil line) ∙ ap (λ y. line ++ y) (sym e.1) ∙ sym (append_assoc line (unread i) ys),
  )
]

-- a line that was not answered
pub holds_line : (most : ℕ) (k m : Option (List ℕ)) (line : List ℕ) (i : Input) → Leads k (prepend_known (unread i) m) (λ xs ys. TakesLine xs line ys) → length line ≤ most
    → Leads k m (λ xs ys. Behind (IsHeldOf most) xs ys)
holds_line most None m line i p short = tt
holds_line most (Some xs) None line i p short = p
holds_line most (Some xs) (Some ys) line i p short = held_line most xs line ys i p short

too_long : (most : ℕ) (xs us zs : List ℕ) → IsTooLong most us → xs ≡ us ++ zs → IsTooLong most xs
too_long most xs us zs h e = record {
  front = h.front;
  rest = h.rest ++ zs;
  plain = h.plain;
  long = h.long;
  cut = e ∙ ap (λ u. u ++ zs) h.cut ∙ append_assoc h.front h.rest zs;
}

-- a piece that is too long
pub overflows : (most : ℕ) (k l m : Option (List ℕ)) (line u : List ℕ) → Leads k l (λ xs ys. xs ≡ line ++ ys) → Leads l (prepend_known u m) (λ xs ys. xs ≡ ys) → IsTooLong most (line ++ u)
    → IfSome k (λ xs. IsTooLong most xs)
overflows most None l m line u p q h = tt
overflows most (Some xs) None m line u p q h = absurd p
overflows most (Some xs) (Some ys) None line u p q h = absurd q
overflows most (Some xs) (Some ys) (Some zs) line u p q h = too_long most xs (line ++ u) zs h (p ∙ ap (λ y. line ++ y) q ∙ sym (append_assoc line u zs))

-- ---- a line that is at hand to its end

pub comes_at_hand : (u v line : List ℕ) (m : Option (List ℕ)) → u ≡ line ++ 10 ∷ v → IsPlain line → Leads (prepend_known u m) (prepend_known v m) (λ xs ys. TakesLine xs line ys)
comes_at_hand u v line None e plain = tt
comes_at_hand u v line (Some zs) e plain = record {
  plain = plain;
  cut = inl (ap (λ y. y ++ zs) e ∙ append_assoc line (10 ∷ v) zs);
}

pub fits_at_hand : (i : Input) (line v : List ℕ) → unread i ≡ line ++ 10 ∷ v → length line ≤ most_read
fits_at_hand i line v e = omega (arith, unread_few i, ap length e, length-append line (10 ∷ v))
