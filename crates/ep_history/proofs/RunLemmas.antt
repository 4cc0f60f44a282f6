-- Runs of one byte.
use Rattle.std.proofs.Common.{List, ap, ap₂, arith, bytes_eq, false, length, replicate, slice_index, sym, true, ℕ, ◌&&◌, ◌≡◌, ◌<◌, ◌≤◌}
use Rattle.std.proofs.lemmas.Bool.{and_parts, le-leb, lt-leb}
use Rattle.std.proofs.lemmas.List.{get_or-replicate, length-replicate}
use Rattle.std.proofs.lemmas.Slice.Eq.{bytes_eq-Decides}
use Rattle.ep_history.specs.Bytes.{is_run}

pub run_is_filled : (bytes : List ℕ) → is_run bytes ≡ true → replicate (length bytes) (slice_index bytes 0) ≡ bytes
run_is_filled bytes e = sym ((bytes_eq-Decides bytes _).0 (and_parts _ _ e).1)

pub few_are_no_run : (bytes : List ℕ) → length bytes < 16 → is_run bytes ≡ false
few_are_no_run bytes short = ap (λ b. b && bytes_eq bytes (replicate (length bytes) (slice_index bytes 0))) (lt-leb 16 (length bytes) short)

pub fill_is_a_run : (count byte : ℕ) → 16 ≤ count → is_run (replicate count byte) ≡ true
fill_is_a_run count byte long =
    let bytes = replicate count byte in
    let len = length-replicate count byte in
    let first : slice_index bytes 0 ≡ byte = get_or-replicate count 0 byte 0 (omega (arith, long)) in
    let same : bytes ≡ replicate (length bytes) (slice_index bytes 0) = sym (ap₂ replicate len first) in
    ap₂ ◌&&◌ (le-leb 16 (length bytes) (omega (arith, long, len))) ((bytes_eq-Decides bytes _).1 same)
