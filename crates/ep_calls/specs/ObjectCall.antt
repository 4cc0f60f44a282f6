-- What a call on an object answers, and the room for a copy of it.
use Rattle.std.specs.Prelude.{[], length, ℕ, ℤ, ◌∷◌, ◌≡◌}
use Rattle.ep_base.specs.declared.ids.Fd.{Fd}
use Rattle.std.specs.declared.alloc.Global.{Global}
use Rattle.smallvec.specs.SmallVec.{HasRoomFor}
use Rattle.smallvec.specs.declared.SmallVec.{SmallVec}
use Rattle.ep_base.specs.declared.answer.Answer.{Answer}
use Rattle.ep_base.specs.declared.answer.Answer.TheVariants.{Bytes, Connecting, Done, Failed, Named, Num, Refused, Time}
use Rattle.ep_machine.specs.Effect.{Effect}
use Rattle.ep_base.specs.declared.ids.DescId.{DescId}
use Rattle.ep_machine.specs.Files.{Files, named_by, names_nothing, object_under, side_of, side_under}
use Rattle.ep_machine.specs.FilesCalls.{FilesCall, quietly}
use Rattle.ep_object.specs.Memory.{object_waiting}
use Rattle.ep_table.specs.Value.{Does, Seen, content_of, effect_under, files_after, number_of}
use Rattle.ep_base.specs.declared.errno.Errno.TheVariants.{Ebadf}
use Rattle.ep_calls.specs.declared.outcome.Outcome.{Outcome}
use Rattle.ep_calls.specs.declared.raising.Raising.TheVariants.{Object as AtObject}
use Rattle.ep_machine.specs.Objects.{Object, ObjectCall, object_effect, object_refusals}
use Rattle.ep_machine.specs.Tables.{affected}

-- what it gives where it isn't refused
abbrev pub object_effect_of : Files → ℕ → ℤ → ℕ → ObjectCall → Effect Object
object_effect_of files p fd now asked = object_effect (object_under files p fd) (side_under files p fd) now asked

-- what the machine has of such a call
abbrev pub object_call_of : Files → ℕ → ℤ → ℕ → ObjectCall → FilesCall
object_call_of files p fd now asked =
    let effect = object_effect_of files p fd now asked in
    quietly
    ((names_nothing files p fd, Ebadf) ∷ object_refusals (object_under files p fd) (side_under files p fd) now asked)
    effect.0
    (affected files (named_by files p fd) effect)

-- it is made at this moment, with this answer
abbrev pub CallsObject : ℕ → Fd → ℕ → ObjectCall → Answer → Seen → Seen → Type 0
CallsObject p fd now asked answer old new = Does (object_call_of old.files p fd.0 now asked) answer old new

-- an answer of such a call, with room for its bytes
abbrev pub FitsRoom : Answer → SmallVec ℕ 16 Global → Type 0
FitsRoom (Bytes bytes) room = HasRoomFor room (length bytes)
FitsRoom (Num k) room = Unit {0}
FitsRoom (Time value interval) room = Unit {0}
FitsRoom (Failed e) room = Unit {0}
FitsRoom (Named name) room = Unit {0}
FitsRoom Connecting room = Unit {0}
FitsRoom (Refused e) room = Unit {0}
FitsRoom Done room = Unit {0}
FitsRoom answer room = ⊥

-- how many of the bytes that wait at a description a call could give
abbrev pub waiting_at : Seen → DescId → ObjectCall → ℕ
waiting_at tables desc asked = object_waiting (content_of tables.files (number_of tables desc)) (side_of tables.files (number_of tables desc)) asked

-- such a call is made of the object of a description, which stays under its key, and reports nothing
pub record AppliesAt (desc : DescId) (now : ℕ) (asked : ObjectCall) (outcome : Outcome) (old new : Seen) : Type 0 where
  pub answer : outcome.answer ≡ (effect_under old desc now asked).0
  pub raising : outcome.raising ≡ AtObject desc (effect_under old desc now asked).2
  pub files : new ≡ record old { files = files_after old desc now asked }
  pub picked : outcome.picked ≡ []
