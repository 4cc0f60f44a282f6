-- How often each bit arrived at a description.
use Rattle.std.specs.Prelude.{Bool, [], nat_lt, ℕ, ◌&&◌, ◌+◌, ◌||◌, ◌∷◌}
use Rattle.ep_base.specs.declared.counts.Counts.{Counts}
use Rattle.ep_machine.specs.Bits.{ERR, HUP, IN, OUT, RDHUP, asked, has_bit, union, when}

abbrev pub no_counts : Counts
no_counts = record { of_in = 0; of_out = 0; of_err = 0; of_hup = 0; of_rdhup = 0 }

-- the bits that can be shown, which alone arrive
abbrev pub every_shown_bit : ℕ
every_shown_bit = union (IN ∷ OUT ∷ ERR ∷ HUP ∷ RDHUP ∷ [])

abbrev pub counted : ℕ → Counts → Counts
counted bits c = record {
  of_in = c.of_in + when (has_bit bits IN) 1;
  of_out = c.of_out + when (has_bit bits OUT) 1;
  of_err = c.of_err + when (has_bit bits ERR) 1;
  of_hup = c.of_hup + when (has_bit bits HUP) 1;
  of_rdhup = c.of_rdhup + when (has_bit bits RDHUP) 1;
}

-- some of these bits arrived since the counts were the old ones
abbrev pub arrived_since : ℕ → Counts → Counts → Bool
arrived_since bits old c =
    has_bit bits IN && nat_lt old.of_in c.of_in
    || has_bit bits OUT && nat_lt old.of_out c.of_out
    || has_bit bits ERR && nat_lt old.of_err c.of_err
    || has_bit bits HUP && nat_lt old.of_hup c.of_hup
    || has_bit bits RDHUP && nat_lt old.of_rdhup c.of_rdhup

-- some bit that is wanted is among these
abbrev pub holds_wanted : ℕ → ℕ → Bool
holds_wanted wanted bits =
    has_bit wanted IN && has_bit bits IN
    || has_bit wanted OUT && has_bit bits OUT
    || has_bit wanted ERR && has_bit bits ERR
    || has_bit wanted HUP && has_bit bits HUP
    || has_bit wanted RDHUP && has_bit bits RDHUP

-- some bit that the mask asks for is among these
abbrev pub brings : ℕ → ℕ → Bool
brings mask bits = holds_wanted (asked mask every_shown_bit) bits
