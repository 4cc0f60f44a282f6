-- How deep a record nests.
use Rattle.std.proofs.Common.{Bool, List, None, Some, [], arith, false, map, true, ℕ, ℤ, ◌∷◌, ◌≤◌}
use Rattle.serde_json.specs.Data.{depth}
use Rattle.serde_json.specs.Read.{max_depth}
use Rattle.ep_base.specs.declared.answer.Answer.{Answer}
use Rattle.ep_base.specs.declared.answer.Answer.TheVariants.{Bytes, Connecting, Done, Events, Failed, Named, Num, Parked, Refused, Still, Time, Two}
use Rattle.ep_base.specs.declared.answer.Report.{Report}
use Rattle.ep_base.specs.declared.call.Call.{Call}
use Rattle.ep_base.specs.declared.call.Call.TheVariants.{Shutdown, SocketName, Write}
use Rattle.ep_base.specs.declared.call.Event.{Event}
use Rattle.ep_base.specs.declared.call.Event.TheVariants.{Call as CallOf, Resume, Tick}
use Rattle.ep_base.specs.declared.record.Record.{Record}
use Rattle.ep_base.specs.declared.socket.How.TheVariants as hows
use Rattle.ep_history.specs.Answers.{answer_data, report_data}
use Rattle.ep_history.specs.Calls.{call_data, of_write}
use Rattle.ep_history.specs.Bytes.{is_run}
use Rattle.ep_history.specs.Fields.{array_of, natural}
use Rattle.ep_history.specs.Records.{event_data, record_data}

write_nests : (fd : ℤ) (bytes : List ℕ) (b : Bool) → depth (of_write fd bytes b) ≤ 2
write_nests fd bytes true = omega arith
write_nests fd bytes false = omega arith

call_nests : (c : Call) → depth (call_data c) ≤ 2
call_nests (Write fd bytes) = write_nests fd.0 bytes (is_run bytes)
call_nests (Shutdown fd hows.Read) = omega arith
call_nests (Shutdown fd hows.Write) = omega arith
call_nests (Shutdown fd hows.Both) = omega arith
call_nests (SocketName fd false) = omega arith
call_nests (SocketName fd true) = omega arith
call_nests call = omega arith

event_nests : (e : Event) → depth (event_data e) ≤ 3
event_nests (CallOf pid call) =
    let inner = call_nests call in
    omega (arith, inner)
event_nests Resume = omega arith
event_nests (Tick n) = omega arith

naturals_nests : (ns : List ℕ) → depth (array_of (map natural ns)) ≤ 2
naturals_nests [] = omega arith
naturals_nests (n ∷ ns) =
    let rest = naturals_nests ns in
    omega (arith, rest)

reports_nests : (rs : List Report) → depth (array_of (map report_data rs)) ≤ 2
reports_nests [] = omega arith
reports_nests (r ∷ rs) =
    let rest = reports_nests rs in
    omega (arith, rest)

answer_nests : (a : Answer) → depth (answer_data a) ≤ 3
answer_nests Done = omega arith
answer_nests (Num n) = omega arith
answer_nests (Two first second) = omega arith
answer_nests (Bytes bytes) = omega arith
answer_nests (Events reports) =
    let list = reports_nests reports in
    omega (arith, list)
answer_nests (Time value interval) = omega arith
answer_nests Parked = omega arith
answer_nests Still = omega arith
answer_nests Connecting = omega arith
answer_nests (Failed errno) = omega arith
answer_nests (Named None) = omega arith
answer_nests (Named (Some name)) = omega arith
answer_nests (Refused errno) = omega arith

pub record_nests : (r : Record) → depth (record_data r) ≤ max_depth
record_nests r =
    let event = event_nests r.event in
    let answer = answer_nests r.answer in
    let picked = naturals_nests r.picked in
    omega (arith, event, answer, picked)
