-- The part of one caller, from a place on.
use Rattle.std.proofs.Common.{◌≡◌, ℕ, ◌+◌, ◌<◌, List, ◌∷◌, length, drop, get_or, cond, Bool, ap, ◌∙◌, eq-eqb, ne_eqb, drop-cons, add-one}
use Rattle.ep_base.specs.declared.record.Record.{Record}
use Rattle.ep_shared.specs.Parts.{part}

pub from_here : (c : ℕ) (h : List Record) (i : ℕ) (d : Record) → i < length h → (get_or h i d).caller.0 ≡ c → part c (drop i h) ≡ get_or h i d ∷ part c (drop (i + 1) h)
from_here c h i d low is =
    let rest = part c (drop (i + 1) h) in
    let e : drop i h ≡ get_or h i d ∷ drop (i + 1) h = rw add-one (drop-cons h i d low) in
    ap (part c) e ∙ ap (λ (b : Bool). cond b (get_or h i d ∷ rest) rest) (eq-eqb _ _ is)

pub not_here : (c : ℕ) (h : List Record) (i : ℕ) (d : Record) → i < length h → ((get_or h i d).caller.0 ≡ c → ⊥) → part c (drop i h) ≡ part c (drop (i + 1) h)
not_here c h i d low is =
    let rest = part c (drop (i + 1) h) in
    let e : drop i h ≡ get_or h i d ∷ drop (i + 1) h = rw add-one (drop-cons h i d low) in
    ap (part c) e ∙ ap (λ (b : Bool). cond b (get_or h i d ∷ rest) rest) (ne_eqb _ _ is)

pub step_here : (xs ys zs ws : List Record) (x y : Record) (P : Type 0) → (xs ≡ ys → P) × (P → xs ≡ ys) → xs ≡ x ∷ zs → ys ≡ y ∷ ws → x ≡ y → (zs ≡ ws → P) × (P → zs ≡ ws)
step_here xs ys zs ws x y P inv is are same = ((λ e. inv.0 (let p : xs ≡ ys = cc in p)), λ p. let q : xs ≡ ys = inv.1 p in cc)
