-- Which answer is want of memory, and which take no memory beside themselves.
use Rattle.std.specs.Prelude.{Bool, false, length, true, ◌≤◌}
use Rattle.ep_base.specs.declared.answer.Answer.{Answer}
use Rattle.ep_base.specs.declared.answer.Answer.TheVariants.{Bytes, Events, Refused}
use Rattle.ep_base.specs.declared.errno.Errno.TheVariants.{Enomem}

abbrev pub is_no_memory : Answer → Bool
is_no_memory (Refused Enomem) = true
is_no_memory answer = false

-- its list has at most as many elements as are kept in the answer itself
abbrev pub FitsInline : Answer → Type 0
FitsInline (Bytes bytes) = length bytes ≤ 16
FitsInline (Events reports) = length reports ≤ 4
FitsInline answer = Unit {0}
