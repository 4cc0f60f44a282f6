-- Texts that JSON writes as they are: hexadecimal digits and the names of errors.
use Rattle.std.proofs.Common.{Bool, List, [], arith, get_or, inl, inr, length, nat_lt, refl, suc, true, zero, ℕ, ◌%◌, ◌&&◌, ◌/◌, ◌<◌, ◌∷◌, ◌≡◌}
use Rattle.std.specs.List.{slice_index}
use Rattle.std.proofs.lemmas.Bool.{and_from, and_parts, cases_lt}
use Rattle.hex.specs.Hex.{IsBytes, encode_lower, encode_with, lower_digits}
use Rattle.json.specs.Print.{escape, escape_byte}
use Rattle.json.specs.Run.{is_plain}
use Rattle.json.proofs.Printed.Plain.{escape_on_plain}
use Rattle.json.proofs.Printed.Utf8.{are_ascii}
use Rattle.ep_base.specs.Errno.{errno_name}
use Rattle.ep_base.specs.declared.errno.Errno.{Errno}
use Rattle.ep_base.specs.declared.errno.Errno.TheVariants.{Eaddrinuse, Eaddrnotavail, Eafnosupport, Eagain, Ealready, Ebadf, Ebusy, Econnaborted, Econnrefused, Econnreset, Eexist, Einval, Eisconn, Eloop, Emfile, Enfile, Enoent, Enomem, Enospc, Enotconn, Enotsock, Eperm, Epipe, Esrch}

-- the first n digits pass the test
abbrev pass : (ℕ → Bool) → ℕ → Bool
pass p zero = true
pass p (suc n) = p (slice_index lower_digits n) && pass p n

below : (p : ℕ → Bool) (n d : ℕ) → pass p n ≡ true → d < n → p (slice_index lower_digits d) ≡ true
below p zero d h lt = absurd (omega arith)
below p (suc n) d h lt =
    let parts = and_parts (p (slice_index lower_digits n)) (pass p n) h in
    elim (cases_lt d n) [
      | inl less ↦ below p n d parts.1 less
      | inr top ↦
          let e : d ≡ n = omega arith in
          rw e parts.0
    ]

digit_plain : (d : ℕ) → d < 16 → is_plain (slice_index lower_digits d) ≡ true
digit_plain d lt = below is_plain 16 d refl lt

digit_ascii : (d : ℕ) → d < 16 → nat_lt (slice_index lower_digits d) 128 ≡ true
digit_ascii d lt = below (λ x. nat_lt x 128) 16 d refl lt

hex_plain : (bytes : List ℕ) → IsBytes bytes → (k : ℕ) → k < length (encode_lower bytes) → is_plain (get_or (encode_lower bytes) k 0) ≡ true
unfolding encode_with
hex_plain [] fits k lt = absurd (omega arith)
hex_plain (b ∷ bs) fits zero lt = let small : b < 256 = fits 0 in digit_plain (b / 16) (omega arith)
hex_plain (b ∷ bs) fits (suc zero) lt = let small : b < 256 = fits 0 in digit_plain (b % 16) (omega arith)
hex_plain (b ∷ bs) fits (suc (suc k)) lt = hex_plain bs (λ i. fits (suc i)) k (omega arith)

pub escape_hex : (bytes : List ℕ) → IsBytes bytes → escape (encode_lower bytes) ≡ encode_lower bytes
escape_hex bytes fits = escape_on_plain true (encode_lower bytes) (λ k p q. hex_plain bytes fits k q)

pub hex_ascii : (bytes : List ℕ) → IsBytes bytes → are_ascii (encode_lower bytes) ≡ true
unfolding encode_with
hex_ascii [] fits = refl
hex_ascii (b ∷ bs) fits =
    let small : b < 256 = fits 0 in
    and_from _ _ (digit_ascii (b / 16) (omega arith)) (and_from _ _ (digit_ascii (b % 16) (omega arith)) (hex_ascii bs (λ i. fits (suc i))))

pub escape_name : (e : Errno) → escape (errno_name e) ≡ errno_name e
unfolding escape_byte
escape_name Eperm = refl
escape_name Enoent = refl
escape_name Esrch = refl
escape_name Ebadf = refl
escape_name Eagain = refl
escape_name Enomem = refl
escape_name Ebusy = refl
escape_name Eexist = refl
escape_name Einval = refl
escape_name Enfile = refl
escape_name Emfile = refl
escape_name Enospc = refl
escape_name Epipe = refl
escape_name Eloop = refl
escape_name Enotsock = refl
escape_name Eafnosupport = refl
escape_name Eaddrinuse = refl
escape_name Eaddrnotavail = refl
escape_name Econnaborted = refl
escape_name Econnreset = refl
escape_name Eisconn = refl
escape_name Enotconn = refl
escape_name Econnrefused = refl
escape_name Ealready = refl
