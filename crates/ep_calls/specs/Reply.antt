-- The answer that a reply stands for, and the registrations that picks stand for.
use Rattle.std.specs.Prelude.{List, None, Option, Some, [], length, ℕ, ◌∷◌, ◌≡◌, ◌≤◌}
use Rattle.ep_base.specs.declared.answer.Answer.{Answer}
use Rattle.ep_base.specs.declared.answer.Answer.TheVariants as answers
use Rattle.ep_calls.specs.declared.picks.Few.{Few}
use Rattle.ep_calls.specs.declared.picks.Few.TheVariants as few
use Rattle.ep_calls.specs.declared.reply.Kept.{Kept}
use Rattle.ep_calls.specs.declared.reply.Kept.TheVariants as kinds

abbrev pub answer_in : Kept → Answer
answer_in kinds.Done = answers.Done
answer_in (kinds.Num n) = answers.Num n
answer_in (kinds.Two first second) = answers.Two first second
answer_in (kinds.Bytes bytes) = answers.Bytes bytes
answer_in kinds.NoReports = answers.Events []
answer_in (kinds.OneReport report) = answers.Events (report ∷ [])
answer_in (kinds.Reports reports) = answers.Events reports.value
answer_in (kinds.Time value interval) = answers.Time value interval
answer_in kinds.Parked = answers.Parked
answer_in kinds.Still = answers.Still
answer_in kinds.Connecting = answers.Connecting
answer_in (kinds.Failed e) = answers.Failed e
answer_in (kinds.Named name) = answers.Named name
answer_in (kinds.Refused e) = answers.Refused e

abbrev pub numbers_in : Few → List ℕ
numbers_in few.None = []
numbers_in (few.One n) = n ∷ []
numbers_in (few.Many picked) = picked.value

-- it makes no report
abbrev pub IsSilent : Answer → Type 0
IsSilent (answers.Events reports) = reports ≡ []
IsSilent answer = Unit {0}

-- it takes no memory, and makes no report
abbrev pub IsSettled : Answer → Type 0
IsSettled (answers.Bytes bytes) = length bytes ≤ 16
IsSettled answer = IsSilent answer

-- the number that is answered
abbrev pub number_in : Answer → Option ℕ
number_in (answers.Num n) = Some n
number_in answer = None
