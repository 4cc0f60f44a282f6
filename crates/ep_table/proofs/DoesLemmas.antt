-- What a call on the tables does.
use Rattle.std.proofs.Common.{Bool, IsSome, List, None, Option, Some, [], ap, arith, false, get_or, is_none, length, nat_le, pos, refl, subst, suc, sym, true, unwrap_or, zero, ℕ, ℤ, ◌++◌, ◌<◌, ◌∙◌, ◌∷◌, ◌≡◌, ◌≢◌, ◌≤◌}
use Rattle.std.specs.Prelude.{MatchOption}
use Rattle.ep_base.specs.declared.answer.Answer.{Answer}
use Rattle.ep_base.specs.declared.answer.Answer.TheVariants.{Num, Refused, Two}
use Rattle.ep_base.specs.declared.errno.Errno.{Errno}
use Rattle.ep_base.specs.declared.errno.Errno.TheVariants.{Ebadf, Emfile}
use Rattle.ep_base.specs.declared.ids.DescId.{DescId}
use Rattle.ep_base.specs.declared.ids.Fd.{Fd}
use Rattle.std.proofs.lemmas.Bool.Decides.{nat_tests}
use Rattle.std.proofs.lemmas.Option.{none-some}
use Rattle.ep_facts.proofs.OptionFacts.{number_of as some_is}
use Rattle.ep_machine.specs.Effect.{first}
use Rattle.ep_machine.specs.Files.{named_by, numbers_of, under}
use Rattle.ep_machine.specs.FilesCalls.{FilesCall, dup_of, fork_of, one_of, two_of}
use Rattle.ep_machine.specs.Objects.{Object}
use Rattle.ep_machine.specs.Tables.{answer_one, answer_two, dup, fork, one_free, second_free, slot}
use Rattle.ep_table.specs.Value.{AddsKey, CreatesOne, CreatesTwo, Does, Refuses, Seen, Succeeds, count_at, holds_of, number_at, number_of, number_under}
use Rattle.ep_table.proofs.LowestFreeLemmas.{low_enter}

-- a refusal leaves the tables
pub does_refused : (call : FilesCall) (v : Seen) (e : Errno) → first call.refusals ≡ Some e → Does call (Refused e) v v
does_refused call v e h =
    let P : Option Errno → Type 0 = λ o. MatchOption o (Succeeds call (Refused e) v v) (λ f. Refuses f (Refused e) v v) in
    subst P (sym h) (record { answers = refl; tables = refl })

pub does_done : (call : FilesCall) (answer : Answer) (old new : Seen) → first call.refusals ≡ None → Succeeds call answer old new → Does call answer old new
does_done call answer old new h done =
    let P : Option Errno → Type 0 = λ o. MatchOption o (Succeeds call answer old new) (λ f. Refuses f answer old new) in
    subst P (sym h) done

-- a new key takes none that has a number
pub keeps_gained : (old new : List (Option ℕ)) (key : DescId) (n : ℕ) → AddsKey old new key n → (k : DescId) (d : ℕ) → number_at old k ≡ Some d → number_at new k ≡ Some d
keeps_gained old new key n adds k d h =
    let apart : k.0 ≢ key.0 = λ e. none-some d (sym adds.free ∙ (ap (λ (i : ℕ). get_or old i None) (sym e) ∙ h)) in
    adds.others k apart ∙ h

-- a description more is held by none
pub counts_appended : (hs : List ℕ) (d : ℕ) → count_at (hs ++ 0 ∷ []) d ≡ count_at hs d
counts_appended [] zero = refl
counts_appended [] (suc d) = refl
counts_appended (h ∷ hs) zero = refl
counts_appended (h ∷ hs) (suc d) = counts_appended hs d

pub succeeds_one : (old new : Seen) (p : ℕ) (x : Object) (cloexec : Bool) (answer : Answer) → answer ≡ answer_one old.files p → CreatesOne old new p x cloexec → Succeeds (one_of old.limits old.files p x cloexec) answer old new
succeeds_one old new p x cloexec answer a c = record {
  answers = a;
  files = c.files;
  limits = c.limits;
  keys = keeps_gained old.keys new.keys c.keys.key _ c.keys.adds;
  holds = λ d. ap (λ (hs : List ℕ). count_at hs d) c.holds ∙ counts_appended old.holds d;
}

pub succeeds_two : (old new : Seen) (p : ℕ) (x : Object) (cloexec : Bool) (answer : Answer) → answer ≡ answer_two old.files p → CreatesTwo old new p x cloexec → Succeeds (two_of old.limits old.files p x cloexec) answer old new
succeeds_two old new p x cloexec answer a c = record {
  answers = a;
  files = c.files;
  limits = c.limits;
  keys = λ k d h. keeps_gained c.keys.middle new.keys c.keys.second.key _ c.keys.second.adds k d (keeps_gained old.keys c.keys.middle c.keys.first.key _ c.keys.first.adds k d h);
  holds = λ d. ap (λ (hs : List ℕ). count_at hs d) c.holds ∙ (counts_appended (old.holds ++ 0 ∷ []) d ∙ counts_appended old.holds d);
}

pub one_below : (v : Seen) (p : ℕ) → one_free (numbers_of v.files p) < second_free (numbers_of v.files p)
one_below v p = omega (arith, low_enter (numbers_of v.files p) (slot 0 false))

pub two_is : (v : Seen) (p m n : ℕ) (a b : Fd) → m ≡ one_free (numbers_of v.files p) → n ≡ second_free (numbers_of v.files p) → a.0 ≡ pos m → b.0 ≡ pos n → Two a b ≡ answer_two v.files p
two_is v p m n a b e f g h = λ i. Two (record { 0 = (g ∙ ap (λ (k : ℕ). pos k) e) i }) (record { 0 = (h ∙ ap (λ (k : ℕ). pos k) f) i })

-- dup of what is there
pub dup_rest : (v : Seen) (p n x : ℕ) (fd : ℤ) → Some x ≡ under v.files p fd → n ≡ one_free (numbers_of v.files p) → first (dup_of v.limits v.files p fd).refusals ≡ first ((nat_le v.limits.descriptors n, Emfile) ∷ [])
dup_rest v p n x fd e f =
    let rest = (nat_le v.limits.descriptors (one_free (numbers_of v.files p)), Emfile) ∷ [] in
    sym (ap (λ (m : ℕ). first ((nat_le v.limits.descriptors m, Emfile) ∷ [])) f ∙ ap (λ (o : Option ℕ). first ((is_none o, Ebadf) ∷ rest)) e)

pub succeeds_dup : (old new : Seen) (p n d : ℕ) (fd : ℤ) → Some d ≡ under old.files p fd → n ≡ one_free (numbers_of old.files p) → new ≡ record old { files = dup old.files p d; losses = [] } → Succeeds (dup_of old.limits old.files p fd) (Num n) old new
succeeds_dup old new p n d fd e f g =
    let same : d ≡ named_by old.files p fd = ap (λ (o : Option ℕ). unwrap_or o 0) e in
    record {
      answers = ap Num f;
      files = ap (λ (w : Seen). w.files) g ∙ ap (λ (m : ℕ). dup old.files p m) same;
      limits = ap (λ (w : Seen). w.limits) g;
      keys = λ key m h. ap (λ (w : Seen). number_under w key) g ∙ h;
      holds = λ m. ap (λ (w : Seen). holds_of w m) g;
    }

pub succeeds_fork : (old new : Seen) (p n : ℕ) → n ≡ length old.files.tables → new ≡ record old { files = fork old.files p; losses = [] } → Succeeds (fork_of old.limits old.files p) (Num n) old new
succeeds_fork old new p n is g = record {
  answers = ap Num is;
  files = ap (λ (w : Seen). w.files) g;
  limits = ap (λ (w : Seen). w.limits) g;
  keys = λ key m h. ap (λ (w : Seen). number_under w key) g ∙ h;
  holds = λ m. ap (λ (w : Seen). holds_of w m) g;
}

pub full_is : (m n : ℕ) → m ≤ n → first ((nat_le m n, Emfile) ∷ []) ≡ Some Emfile
full_is m n h = let e : nat_le m n ≡ true = grind (arith, nat_tests, h) in ap (λ (b : Bool). first ((b, Emfile) ∷ [])) e

pub free_is : (m n : ℕ) → n < m → first ((nat_le m n, Emfile) ∷ []) ≡ None
free_is m n h = let e : nat_le m n ≡ false = grind (arith, nat_tests, h) in ap (λ (b : Bool). first ((b, Emfile) ∷ [])) e

-- what a key that was found stands for
pub found_is : (v : Seen) (p : ℕ) (fd : ℤ) (key : DescId) → number_under v key ≡ under v.files p fd → IsSome (number_under v key) → Some (number_of v key) ≡ under v.files p fd
found_is v p fd key e h = sym (some_is (number_under v key) h) ∙ e
