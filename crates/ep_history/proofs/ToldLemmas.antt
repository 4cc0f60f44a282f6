-- Values that are read back from their text: their texts are ASCII, their numbers have 64 bits, their keys are in order.
use Rattle.std.proofs.Common.{Bool, Equal, Greater, IsUtf8, Less, Ordering, decimal, suc, List, SFits, Some, [], ap, arith, false, nat_lt, option_map, option_and_then, pos, negsuc, refl, sym, true, w64, ℕ, ℤ, ◌++◌, ◌&&◌, ◌<◌, ◌^◌, ◌∷◌, ◌≡◌, ◌∙◌}
use Rattle.std.specs.Cmp.Lexicographic.{slice_cmp}
use Rattle.std.specs.Ordering.{nat_cmp}
use Rattle.std.proofs.lemmas.Bool.{and_parts, lt-ltb, ltb-true}
use Rattle.std.proofs.lemmas.Fmt.{IsAscii-decimal}
use Rattle.std.proofs.lemmas.Str.{IsUtf8-append, IsUtf8-from_ascii}
use Rattle.std.proofs.lemmas.Str.Ascii.{IsAscii-cons}
use Rattle.json.specs.Print.{IsNumber, quoted}
use Rattle.json.specs.Tree.{HasNumbers, ItemsHaveNumbers, MembersHaveNumbers}
use Rattle.json.proofs.Printed.Decimals.{IsNumber-decimal, IsNumber-signed_decimal}
use Rattle.json.proofs.Printed.Utf8.{IsUtf8-are_ascii, IsUtf8-boolean, IsUtf8-quoted, are_ascii}
use Rattle.serde_json.specs.Data.{Data, Items, Members, Num, array, boolean, float, item, member, negative, no_items, no_members, null, number, object, put, string, unsigned}
use Rattle.serde_json.specs.Find.{of_integer}
use Rattle.serde_json.specs.Read.{number_of, of_items, of_json, of_members}
use Rattle.serde_json.specs.Written.{comma_if, compact_text, items_outline, items_text, members_outline, members_text, number_text, outline}
use Rattle.serde_json.proofs.Numbers.{number_of-decimal, number_of-negative}

-- ---- numbers

abbrev pub fits_64 : Num → Bool
fits_64 (unsigned n) = nat_lt n (2 ^ 64)
fits_64 (negative (pos n)) = false
fits_64 (negative (negsuc n)) = nat_lt n (2 ^ 63)
fits_64 (float x) = false

pub integer_fits : (z : ℤ) → SFits w64 z → fits_64 (of_integer z) ≡ true
integer_fits (pos n) h = let less : n < 2 ^ 63 = grind arith in lt-ltb n (2 ^ 64) (omega arith)
integer_fits (negsuc n) h = let less : n < 2 ^ 63 = grind arith in lt-ltb n (2 ^ 63) less

number_read : (n : Num) → fits_64 n ≡ true → number_of (number_text n) ≡ Some n
number_read (unsigned n) h = number_of-decimal n (ltb-true n (2 ^ 64) h)
number_read (negative (pos n)) h = absurd cc
number_read (negative (negsuc n)) h = number_of-negative n (ltb-true n (2 ^ 63) h)
number_read (float x) h = absurd cc

number_spelled : (n : Num) → fits_64 n ≡ true → IsNumber (number_text n)
number_spelled (unsigned n) h = IsNumber-decimal n (ltb-true n (2 ^ 64) h)
number_spelled (negative (pos n)) h = absurd cc
number_spelled (negative (negsuc n)) h = IsNumber-signed_decimal (negsuc n) (ltb-true n (2 ^ 63) h)
number_spelled (float x) h = absurd cc

number_utf8 : (n : Num) → fits_64 n ≡ true → IsUtf8 (number_text n)
number_utf8 (unsigned n) h = IsUtf8-from_ascii (decimal n) (IsAscii-decimal n (ltb-true n (2 ^ 64) h))
number_utf8 (negative (pos n)) h = absurd cc
number_utf8 (negative (negsuc n)) h =
    let less : n < 2 ^ 63 = ltb-true n (2 ^ 63) h in
    IsUtf8-from_ascii (45 ∷ decimal (suc n)) (IsAscii-cons 45 (decimal (suc n)) (omega arith) (IsAscii-decimal (suc n) (omega arith)))
number_utf8 (float x) h = absurd cc

-- ---- the order of the keys

abbrev is_behind : Ordering → Bool
is_behind Less = false
is_behind Equal = false
is_behind Greater = true

-- the key is behind each of these
abbrev behind : List ℕ → Members → Bool
behind k no_members = true
behind k (member l e ms) = is_behind (slice_cmp nat_cmp k l) && behind k ms

abbrev joined : Members → Members → Members
joined no_members ms = ms
joined (member k d found) ms = member k d (joined found ms)

-- the keys of the members are in order, behind those that were found
abbrev ordered : Members → Members → Bool
ordered found no_members = true
ordered found (member k d ms) = behind k found && ordered (joined found (member k d no_members)) ms

put_last : (k : List ℕ) (d : Data) (l : List ℕ) (e : Data) (ms : Members) (o : Ordering) → slice_cmp nat_cmp k l ≡ o → is_behind o ≡ true → put k d (member l e ms) ≡ member l e (put k d ms)
put_last k d l e ms Less is h = absurd cc
put_last k d l e ms Equal is h = absurd cc
put_last k d l e ms Greater is h = rw is refl

put_behind : (k : List ℕ) (d : Data) (found : Members) → behind k found ≡ true → put k d found ≡ joined found (member k d no_members)
put_behind k d no_members h = refl
put_behind k d (member l e ms) h =
    let parts = and_parts (is_behind (slice_cmp nat_cmp k l)) (behind k ms) h in
    put_last k d l e ms (slice_cmp nat_cmp k l) refl parts.0 ∙ ap (member l e) (put_behind k d ms parts.1)

joined_none : (found : Members) → joined found no_members ≡ found
joined_none no_members = refl
joined_none (member k d found) = ap (member k d) (joined_none found)

joined_one : (found : Members) (k : List ℕ) (d : Data) (ms : Members) → joined (joined found (member k d no_members)) ms ≡ joined found (member k d ms)
joined_one no_members k d ms = refl
joined_one (member l e found) k d ms = ap (member l e) (joined_one found k d ms)

-- ---- values

abbrev mutual
  pub is_told : Data → Bool
  is_told null = true
  is_told (boolean b) = true
  is_told (number n) = fits_64 n
  is_told (string s) = are_ascii s
  is_told (array ds) = items_told ds
  is_told (object ms) = ordered no_members ms && members_told ms

  pub items_told : Items → Bool
  items_told no_items = true
  items_told (item d ds) = is_told d && items_told ds

  pub members_told : Members → Bool
  members_told no_members = true
  members_told (member k d ms) = are_ascii k && (is_told d && members_told ms)

mutual
  pub told_numbers : (d : Data) → is_told d ≡ true → HasNumbers (outline d)
  told_numbers null h = tt
  told_numbers (boolean b) h = tt
  told_numbers (number n) h = number_spelled n h
  told_numbers (string s) h = tt
  told_numbers (array ds) h = items_numbers ds h
  told_numbers (object ms) h = members_numbers ms (and_parts (ordered no_members ms) (members_told ms) h).1

  items_numbers : (ds : Items) → items_told ds ≡ true → ItemsHaveNumbers (items_outline ds)
  items_numbers no_items h = tt
  items_numbers (item d ds) h = let parts = and_parts (is_told d) (items_told ds) h in (told_numbers d parts.0, items_numbers ds parts.1)

  members_numbers : (ms : Members) → members_told ms ≡ true → MembersHaveNumbers (members_outline ms)
  members_numbers no_members h = tt
  members_numbers (member k d ms) h =
      let parts = and_parts (is_told d) (members_told ms) (and_parts (are_ascii k) (is_told d && members_told ms) h).1 in
      (told_numbers d parts.0, members_numbers ms parts.1)

mutual
  pub told_read : (d : Data) → is_told d ≡ true → of_json (outline d) ≡ Some d
  told_read null h = refl
  told_read (boolean b) h = refl
  told_read (number n) h = ap (option_map number) (number_read n h)
  told_read (string s) h = refl
  told_read (array ds) h = ap (option_map array) (items_read ds h)
  told_read (object ms) h =
      let parts = and_parts (ordered no_members ms) (members_told ms) h in
      ap (option_map object) (members_read no_members ms parts.0 parts.1)

  items_read : (ds : Items) → items_told ds ≡ true → of_items (items_outline ds) ≡ Some ds
  items_read no_items h = refl
  items_read (item d ds) h =
      let parts = and_parts (is_told d) (items_told ds) h in
      rw (told_read d parts.0, items_read ds parts.1) refl

  members_read : (found ms : Members) → ordered found ms ≡ true → members_told ms ≡ true → of_members (members_outline ms) found ≡ Some (joined found ms)
  members_read found no_members o h = ap Some (sym (joined_none found))
  members_read found (member k d ms) o h =
      let order = and_parts (behind k found) (ordered (joined found (member k d no_members)) ms) o in
      let parts = and_parts (is_told d) (members_told ms) (and_parts (are_ascii k) (is_told d && members_told ms) h).1 in
      ap (option_and_then (λ (e : Data). of_members (members_outline ms) (put k e found))) (told_read d parts.0)
      ∙ ap (of_members (members_outline ms)) (put_behind k d found order.0)
      ∙ members_read (joined found (member k d no_members)) ms order.1 parts.1
      ∙ ap Some (joined_one found k d ms)

one_byte : (b : ℕ) (s : List ℕ) → are_ascii (b ∷ []) ≡ true → IsUtf8 s → IsUtf8 (b ∷ s)
one_byte b s h u = IsUtf8-append (b ∷ []) s (IsUtf8-are_ascii (b ∷ []) h) u

comma_utf8 : (later : Bool) (s : List ℕ) → IsUtf8 s → IsUtf8 (comma_if later ++ s)
comma_utf8 true s u = one_byte 44 s refl u
comma_utf8 false s u = u

mutual
  pub told_utf8 : (d : Data) → is_told d ≡ true → IsUtf8 (compact_text d)
  told_utf8 null h = IsUtf8-are_ascii (compact_text null) refl
  told_utf8 (boolean b) h = IsUtf8-boolean b
  told_utf8 (number n) h = number_utf8 n h
  told_utf8 (string s) h = IsUtf8-quoted s (IsUtf8-are_ascii s h)
  told_utf8 (array ds) h = one_byte 91 (items_text false ds) refl (items_utf8 false ds h)
  told_utf8 (object ms) h = one_byte 123 (members_text false ms) refl (members_utf8 false ms (and_parts (ordered no_members ms) (members_told ms) h).1)

  items_utf8 : (later : Bool) (ds : Items) → items_told ds ≡ true → IsUtf8 (items_text later ds)
  items_utf8 later no_items h = IsUtf8-are_ascii (93 ∷ []) refl
  items_utf8 later (item d ds) h =
      let parts = and_parts (is_told d) (items_told ds) h in
      comma_utf8 later _ (IsUtf8-append (compact_text d) (items_text true ds) (told_utf8 d parts.0) (items_utf8 true ds parts.1))

  members_utf8 : (later : Bool) (ms : Members) → members_told ms ≡ true → IsUtf8 (members_text later ms)
  members_utf8 later no_members h = IsUtf8-are_ascii (125 ∷ []) refl
  members_utf8 later (member k d ms) h =
      let key = and_parts (are_ascii k) (is_told d && members_told ms) h in
      let parts = and_parts (is_told d) (members_told ms) key.1 in
      comma_utf8 later _ (IsUtf8-append (quoted k) _ (IsUtf8-quoted k (IsUtf8-are_ascii k key.0))
      (one_byte 58 _ refl (IsUtf8-append (compact_text d) (members_text true ms) (told_utf8 d parts.0) (members_utf8 true ms parts.1))))
