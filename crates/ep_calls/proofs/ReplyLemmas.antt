-- Which answers take no memory, and make no report.
use Rattle.std.proofs.Common.{arith, subst, sym, ℕ, List}
use Rattle.smallvec.specs.declared.SmallVec.{SmallVec}
use Rattle.std.specs.declared.alloc.Global.{Global}
use Rattle.ep_base.specs.Answer.{FitsInline}
use Rattle.ep_base.specs.declared.answer.Answer.{Answer}
use Rattle.ep_base.specs.declared.answer.Answer.TheVariants.{Bytes, Events}
use Rattle.ep_base.specs.declared.answer.Report.{Report}
use Rattle.ep_calls.specs.ObjectCall.{FitsRoom}
use Rattle.ep_calls.specs.Reply.{IsSettled, IsSilent}

pub settled_inline : (answer : Answer) → IsSettled answer → FitsInline answer
settled_inline (Bytes bytes) h = h
settled_inline (Events reports) h = subst (λ (rs : List Report). FitsInline (Events rs)) (sym h) (omega arith)
settled_inline answer h = tt

pub settled_silent : (answer : Answer) → IsSettled answer → IsSilent answer
settled_silent (Events reports) h = h
settled_silent answer h = tt

-- what a call on an object answers makes none
pub room_silent : (answer : Answer) (room : SmallVec ℕ 16 Global) → FitsRoom answer room → IsSilent answer
room_silent (Events reports) room h = absurd h
room_silent answer room h = tt
