-- The text of a value has no byte below 32.
use Rattle.std.proofs.Common.{Bool, List, [], arith, cond, false, inl, inr, if◌then◌else◌, nat_lt, refl, true, ℕ, negsuc, pos, suc, zero, ◌+◌, ◌++◌, ◌/◌, ◌%◌, ◌==◌, ◌||◌, ◌∷◌, ◌≡◌, ◌≤◌, ◌<◌, decimal}
use Rattle.std.specs.Char.{digit_char}
use Rattle.std.specs.Fmt.{digit_glyph, digits, digits_onto}
use Rattle.std.specs.List.{AllByRecursion}
use Rattle.std.proofs.lemmas.Bool.{eqb-true, ltb-false, ltb-true, or_cases}
use Rattle.std.proofs.lemmas.List.Concat.{flat_map-cons}
use Rattle.json.specs.Print.{escape, escape_byte, escape_letter, quoted}
use Rattle.serde_json.specs.Data.{Data, Items, Members, Num, array, boolean, float, item, member, negative, no_items, no_members, null, number, object, string, unsigned}
use Rattle.serde_json.specs.Written.{comma_if, compact_text, items_text, members_text, number_text}

abbrev pub IsVisible : List ℕ → Type 0
IsVisible = AllByRecursion (λ b. 32 ≤ b)

both : (xs ys : List ℕ) → IsVisible xs → IsVisible ys → IsVisible (xs ++ ys)
both [] ys h k = k
both (x ∷ xs) ys h k = (h.0, both xs ys h.1 k)

either : (b : Bool) (xs ys : List ℕ) → IsVisible xs → IsVisible ys → IsVisible (cond b xs ys)
either true xs ys h k = h
either false xs ys h k = k

-- ---- numbers

glyph : (d : ℕ) → 32 ≤ digit_glyph false d
glyph d = cases (nat_lt d 10) where
  cases : (b : Bool) → 32 ≤ (if b then 48 + d else 87 + d)
  cases true = omega arith
  cases false = omega arith

digit_visible : (d : ℕ) → 32 ≤ digit_char d
digit_visible d = cases (nat_lt d 10) where
  cases : (b : Bool) → 32 ≤ cond b (48 + d) (87 + d)
  cases true = omega arith
  cases false = omega arith

digits_visible : (k n : ℕ) (after : List ℕ) → IsVisible after → IsVisible (digits_onto k 10 false n after)
digits_visible zero n after h = h
digits_visible (suc k) n after h =
    either (n / 10 == 0) (digit_glyph false (n % 10) ∷ after) _ (glyph (n % 10), h)
    (digits_visible k (n / 10) (digit_glyph false (n % 10) ∷ after) (glyph (n % 10), h))

decimal_visible : (n : ℕ) → IsVisible (decimal n)
unfolding digits
decimal_visible n = digits_visible 64 n [] tt

number_visible : (n : Num) → IsVisible (number_text n)
number_visible (unsigned n) = decimal_visible n
number_visible (negative (pos n)) = decimal_visible n
number_visible (negative (negsuc n)) = (omega arith, decimal_visible (suc n))
number_visible (float x) = tt

-- ---- texts

-- 34 and 92 stand for themselves, and the other letters are lower case ones
itself : (x : ℕ) → ((x == 34) || (x == 92)) ≡ true → 32 ≤ x
itself x e = elim (or_cases (x == 34) (x == 92) e) [
  | inl h ↦ omega (arith, eqb-true x 34 h)
  | inr h ↦ omega (arith, eqb-true x 92 h)
]

small : (b c d e f : Bool) → 0 < cond b 98 (cond c 102 (cond d 110 (cond e 114 (cond f 116 0)))) → 32 ≤ cond b 98 (cond c 102 (cond d 110 (cond e 114 (cond f 116 0))))
small true c d e f h = omega arith
small false true d e f h = omega arith
small false false true e f h = omega arith
small false false false true f h = omega arith
small false false false false true h = omega arith
small false false false false false h = omega (arith, h)

letter_or : (b : Bool) (x l : ℕ) → (b ≡ true → 32 ≤ x) → (0 < l → 32 ≤ l) → 0 < cond b x l → 32 ≤ cond b x l
letter_or true x l h k p = h refl
letter_or false x l h k p = k p

letter_visible : (x : ℕ) → 0 < escape_letter x → 32 ≤ escape_letter x
letter_visible x = letter_or ((x == 34) || (x == 92)) x _ (itself x) (small (x == 8) (x == 12) (x == 10) (x == 13) (x == 9))

short : (b : Bool) (l : ℕ) (rest : List ℕ) → (b ≡ true → 32 ≤ l) → IsVisible rest → IsVisible (cond b (92 ∷ l ∷ []) rest)
short true l rest h k = (omega arith, (h refl, tt))
short false l rest h k = k

long : (b : Bool) (x p q : ℕ) → (b ≡ false → 32 ≤ x) → 32 ≤ p → 32 ≤ q → IsVisible (cond b (92 ∷ 117 ∷ 48 ∷ 48 ∷ p ∷ q ∷ []) (x ∷ []))
long true x p q h i j = (omega arith, (omega arith, (omega arith, (omega arith, (i, (j, tt))))))
long false x p q h i j = (h refl, tt)

byte_visible : (x : ℕ) → IsVisible (escape_byte x)
unfolding escape_byte
byte_visible x =
    short (nat_lt 0 (escape_letter x)) (escape_letter x) _ (λ e. letter_visible x (ltb-true 0 (escape_letter x) e))
    (long (nat_lt x 32) x (digit_char (x / 16)) (digit_char (x % 16)) (λ e. ltb-false x 32 e) (digit_visible (x / 16)) (digit_visible (x % 16)))

escape_visible : (s : List ℕ) → IsVisible (escape s)
escape_visible [] = tt
escape_visible (x ∷ s) = rw (flat_map-cons escape_byte x s) (both (escape_byte x) (escape s) (byte_visible x) (escape_visible s))

quoted_visible : (s : List ℕ) → IsVisible (quoted s)
quoted_visible s = (omega arith, both (escape s) (34 ∷ []) (escape_visible s) (omega arith, tt))

-- ---- values

comma_visible : (later : Bool) → IsVisible (comma_if later)
comma_visible true = (omega arith, tt)
comma_visible false = tt

mutual
  pub value_visible : (d : Data) → IsVisible (compact_text d)
  value_visible null = (omega arith, (omega arith, (omega arith, (omega arith, tt))))
  value_visible (boolean true) = (omega arith, (omega arith, (omega arith, (omega arith, tt))))
  value_visible (boolean false) = (omega arith, (omega arith, (omega arith, (omega arith, (omega arith, tt)))))
  value_visible (number n) = number_visible n
  value_visible (string s) = quoted_visible s
  value_visible (array ds) = (omega arith, items_visible false ds)
  value_visible (object ms) = (omega arith, members_visible false ms)

  items_visible : (later : Bool) (ds : Items) → IsVisible (items_text later ds)
  items_visible later no_items = (omega arith, tt)
  items_visible later (item d ds) =
      both (comma_if later) _ (comma_visible later) (both (compact_text d) _ (value_visible d) (items_visible true ds))

  members_visible : (later : Bool) (ms : Members) → IsVisible (members_text later ms)
  members_visible later no_members = (omega arith, tt)
  members_visible later (member k d ms) =
      both (comma_if later) _ (comma_visible later)
      (both (quoted k) _ (quoted_visible k) (omega arith, both (compact_text d) _ (value_visible d) (members_visible true ms)))
