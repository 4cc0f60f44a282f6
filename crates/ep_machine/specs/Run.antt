-- Whole runs.
use Rattle.std.specs.Prelude.{Bool, List, None, Option, Some, [], false, if◌then◌else◌, is_some, true, ◌&&◌, ◌==◌, ◌∷◌}
use Rattle.ep_base.specs.declared.answer.Answer.{Answer}
use Rattle.ep_base.specs.declared.answer.Answer.TheVariants.{Bytes, Connecting, Done, Events, Failed, Named, Num, Parked, Refused, Still, Time, Two}
use Rattle.ep_base.specs.Errno.{errno_number}
use Rattle.ep_base.specs.Limits.{Limits}
use Rattle.ep_base.specs.declared.record.Record.{Record}
use Rattle.ep_base.specs.declared.answer.Report.{Report}
use Rattle.ep_base.specs.declared.socket.Name.{Name}
use Rattle.ep_machine.specs.Names.{same_name}
use Rattle.ep_machine.specs.State.{State, opening}
use Rattle.ep_machine.specs.Step.{step}
use Rattle.ep_machine.specs.Tables.{same_number}

abbrev pub same_list : {X : Type 0} → (X → X → Bool) → List X → List X → Bool
same_list same [] [] = true
same_list same [] (y ∷ ys) = false
same_list same (x ∷ xs) [] = false
same_list same (x ∷ xs) (y ∷ ys) = same x y && same_list same xs ys

abbrev pub same_report : Report → Report → Bool
same_report x y = x.bits.0 == y.bits.0 && x.tag == y.tag

abbrev pub same_name_or_none : Option Name → Option Name → Bool
same_name_or_none None None = true
same_name_or_none (Some a) (Some b) = same_name a b
same_name_or_none a b = false

abbrev pub same_answer : Answer → Answer → Bool
same_answer Done Done = true
same_answer (Num a) (Num b) = a == b
same_answer (Two a b) (Two c d) = same_number a.0 c.0 && same_number b.0 d.0
same_answer (Bytes a) (Bytes b) = same_list ◌==◌ a b
same_answer (Events a) (Events b) = same_list same_report a b
same_answer (Time a b) (Time c d) = a == c && b == d
same_answer Parked Parked = true
same_answer Still Still = true
same_answer Connecting Connecting = true
same_answer (Failed a) (Failed b) = errno_number a == errno_number b
same_answer (Named a) (Named b) = same_name_or_none a b
same_answer (Refused a) (Refused b) = errno_number a == errno_number b
same_answer a b = false

abbrev pub checked : Answer → Option (Answer × State) → Option State
checked a None = None
checked a (Some o) = if same_answer o.0 a then Some o.1 else None

abbrev pub go_on : Limits → Option State → Record → Option State
go_on limits None r = None
go_on limits (Some s) r = checked r.answer (step limits s r.caller.0 r.event r.picked)

abbrev pub run_on : Limits → Option State → List Record → Option State
run_on limits o [] = o
run_on limits o (r ∷ rs) = run_on limits (go_on limits o r) rs

abbrev pub run : Limits → State → List Record → Option State
run limits s rs = run_on limits (Some s) rs

abbrev pub is_run : Limits → List Record → Bool
is_run limits rs = is_some (run limits opening rs)
