-- The law of what pipes raise.
use Rattle.std.proofs.Common.{Bool, List, None, Option, Some, [], arith, false, length, length-append, refl, subst, take, drop, true, ℕ, ◌&&◌, ◌++◌, ◌+◌, ◌-◌, ◌==◌, ◌∷◌, ◌≡◌}
use Rattle.std.proofs.Math.Seq.{drop-nil, take-nil}
use Rattle.std.proofs.lemmas.Bool.{eqb-true}
use Rattle.std.proofs.lemmas.List.{append-nil}
use Rattle.std.proofs.lemmas.Bool.Decides.{nat_tests}
use Rattle.std.specs.Int.Bits.{and_self}
use Rattle.std.specs.Prelude.{bit_and, nat_le, not}
use Rattle.ep_base.specs.declared.errno.Errno.{Errno}
use Rattle.ep_base.specs.declared.object.End.TheVariants.{First, Second}
use Rattle.ep_base.specs.declared.object.End.{End}
use Rattle.ep_machine.specs.Bits.{IsCovered, ERR, HUP, IN, OUT, at_end, beginning, nothing, union, when}
use Rattle.ep_machine.specs.Effect.{Effect, attempt, first, unless}
use Rattle.ep_machine.specs.Lists.{is_empty}
use Rattle.ep_machine.specs.Pipe.{Pipe, pipe_present, pipe_read, pipe_read_refusals, pipe_room, pipe_taken, pipe_write, pipe_write_refusals}
use Rattle.ep_stream.specs.Law.{PipeCloseLaw, PipeReadLaw, PipeWriteLaw, RaisesArrivals, pipe_has}
use Rattle.ep_stream.proofs.Truths.{narrowed, of_three, of_two}

-- what doesn't change begins nowhere
pub unchanged : (bits raised : ℕ) → IsCovered bits bits raised
unchanged bits raised =
    let none : bits - bit_and bits bits ≡ 0 = rw and_self (omega arith) in
    rw none refl

decided : {X : Type 0} (has : X → End → Bool) (present : X → End → ℕ) (x : X) (f : Effect X) (refusal : Option Errno) → RaisesArrivals has present x f.1 f.2 → RaisesArrivals has present x (unless refusal x f).1 (unless refusal x f).2
decided has present x f None law = law
decided has present x f (Some e) law = λ end before after. unchanged (present x end) (at_end nothing end)

-- where nothing is refused it is enough to look at the effect
pub attempted : {X : Type 0} (has : X → End → Bool) (present : X → End → ℕ) (x : X) (f : Effect X) (refusals : List (Bool × Errno)) → RaisesArrivals has present x f.1 f.2 → RaisesArrivals has present x (attempt refusals x f).1 (attempt refusals x f).2
attempted has present x f refusals law = decided has present x f (first refusals) law

abbrev pub covers : ℕ → ℕ → ℕ → Bool
covers before after raised = bit_and (beginning before after) raised == beginning before after

pub covered : (before after raised : ℕ) → covers before after raised ≡ true → IsCovered before after raised
covered before after raised test = eqb-true _ _ test

-- the bits of the end that is read, and of the end that is written
abbrev read_bits : Bool → Bool → ℕ
read_bits waits has_writer = union (when waits IN ∷ when (not has_writer) HUP ∷ [])

abbrev write_bits : Bool → Bool → ℕ
write_bits has_room has_reader = union (when has_room OUT ∷ when (not has_reader) ERR ∷ [])

fewer_wait : (a b w : Bool) → IsCovered (read_bits a w) (read_bits (a && b) w) 0
fewer_wait a b w = covered _ _ _ (of_three (λ a b w. covers (read_bits a w) (read_bits (a && b) w) 0) refl a b w)

more_wait : (a b w : Bool) → IsCovered (read_bits a w) (read_bits b w) IN
more_wait a b w = covered _ _ _ (of_three (λ a b w. covers (read_bits a w) (read_bits b w) IN) refl a b w)

writer_goes : (a w : Bool) → IsCovered (read_bits a w) (read_bits a false) HUP
writer_goes a w = covered _ _ _ (of_two (λ a w. covers (read_bits a w) (read_bits a false) HUP) refl a w)

less_room : (a b r : Bool) → IsCovered (write_bits a r) (write_bits (a && b) r) 0
less_room a b r = covered _ _ _ (of_three (λ a b r. covers (write_bits a r) (write_bits (a && b) r) 0) refl a b r)

more_room : (a b r : Bool) → IsCovered (write_bits a r) (write_bits b r) (bit_and OUT (beginning (write_bits a r) (write_bits b r)))
more_room a b r = covered _ _ _ (of_three (λ a b r. covers (write_bits a r) (write_bits b r) (bit_and OUT (beginning (write_bits a r) (write_bits b r)))) refl a b r)

reader_goes : (a r : Bool) → IsCovered (write_bits a r) (write_bits a false) ERR
reader_goes a r = covered _ _ _ (of_two (λ a r. covers (write_bits a r) (write_bits a false) ERR) refl a r)

-- what is left waited before
pub waited : (bytes : List ℕ) (n : ℕ) → not (is_empty (drop n bytes)) ≡ true → not (is_empty bytes) ≡ true
waited [] n waits = rw (drop-nil {A = ℕ}) at waits
waited (b ∷ bs) n waits = refl

read_raises : (p : Pipe) (n : ℕ) → RaisesArrivals pipe_has pipe_present p (pipe_read p n).1 (pipe_read p n).2
read_raises p n First before after =
    let waits = not (is_empty p.bytes) in
    let left = not (is_empty (drop n p.bytes)) in
    subst (λ (v : Bool). IsCovered (read_bits waits p.has_writer) (read_bits v p.has_writer) 0) (narrowed waits left (waited p.bytes n)) (fewer_wait waits left p.has_writer)
read_raises p n Second before after = more_room (nat_le 4096 (pipe_room p)) (nat_le 4096 (pipe_room (pipe_taken p n))) p.has_reader

pub pipe_read_law : PipeReadLaw
pipe_read_law p e n = attempted pipe_has pipe_present p (pipe_read p n) (pipe_read_refusals p e n) (read_raises p n)

had_room : (c n m : ℕ) → nat_le 4096 (c - (n + m)) ≡ true → nat_le 4096 (c - n) ≡ true
had_room c n m enough = grind (arith, nat_tests, enough)

write_raises : (p : Pipe) (bytes : List ℕ) → RaisesArrivals pipe_has pipe_present p (pipe_write p bytes).1 (pipe_write p bytes).2
write_raises p [] First before after =
    rw (take-nil {A = ℕ}, append-nil {A = ℕ}) (unchanged (pipe_present p First) 0)
write_raises p (b ∷ bs) First before after = more_wait (not (is_empty p.bytes)) (not (is_empty (p.bytes ++ take (pipe_room p) (b ∷ bs)))) p.has_writer
write_raises p bytes Second before after =
    let more = take (pipe_room p) bytes in
    let had = nat_le 4096 (pipe_room p) in
    let has = nat_le 4096 (p.capacity - length (p.bytes ++ more)) in
    let falls : has ≡ true → had ≡ true = λ enough. had_room p.capacity (length p.bytes) (length more) (rw length-append at enough) in
    subst (λ (v : Bool). IsCovered (write_bits had p.has_reader) (write_bits v p.has_reader) 0) (narrowed had has falls) (less_room had has p.has_reader)

pub pipe_write_law : PipeWriteLaw
pipe_write_law p e bytes = attempted pipe_has pipe_present p (pipe_write p bytes) (pipe_write_refusals p e bytes) (write_raises p bytes)

pub pipe_close_law : PipeCloseLaw
pipe_close_law p First First before after = cc
pipe_close_law p First Second before after = reader_goes (nat_le 4096 (pipe_room p)) p.has_reader
pipe_close_law p Second First before after = writer_goes (not (is_empty p.bytes)) p.has_writer
pipe_close_law p Second Second before after = cc
