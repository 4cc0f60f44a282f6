-- Connections, worked out on the files that a run leaves, and by lists of records that are runs but for one clause: a
-- connect to a listener is refused.
use Rattle.std.specs.Prelude.{Bool, List, None, Option, Some, [], false, if◌then◌else◌, is_some, not, pos, unwrap_or, ℕ, ◌&&◌, ◌∷◌}
use Rattle.ep_base.specs.Limits.{default_limits}
use Rattle.ep_base.specs.Limits.{Limits}
use Rattle.ep_base.specs.declared.answer.Answer.{Answer}
use Rattle.ep_base.specs.declared.answer.Answer.TheVariants.{Bytes, Done, Failed, Num}
use Rattle.ep_base.specs.declared.call.Call.TheVariants.{Connect}
use Rattle.ep_base.specs.declared.call.Event.{Event}
use Rattle.ep_base.specs.declared.call.Event.TheVariants.{Call as CallOf}
use Rattle.ep_base.specs.declared.errno.Errno.{Errno}
use Rattle.ep_base.specs.declared.errno.Errno.TheVariants.{Eaddrinuse, Econnreset, Epipe}
use Rattle.ep_base.specs.declared.record.Record.{Record}
use Rattle.ep_base.specs.declared.socket.Family.TheVariants as families
use Rattle.ep_base.specs.declared.socket.Hearing.{Hearing}
use Rattle.ep_base.specs.declared.socket.Name.{Name}
use Rattle.ep_base.specs.declared.socket.Space.TheVariants as spaces
use Rattle.ep_machine.specs.Connections.{accept, first_waiting, join, pending_in, without_abandoned}
use Rattle.ep_machine.specs.Files.{Files, content_at, object_of, object_under, side_of}
use Rattle.ep_machine.specs.Objects.{hearing_in, is_idle, object_present, plain}
use Rattle.ep_machine.specs.Run.{checked, run}
use Rattle.ep_machine.specs.State.{State, opening}
use Rattle.ep_machine.specs.Step.{change, next_event, settled, step}
use Rattle.ep_machine.specs.Tables.{close}
use Rattle.ep_machine.specs.Unconnected.{is_full, is_nobody, new_idle}
use Rattle.ep_runs.specs.Records.{accept_call, add_call, answered, bind_call, close_call, connect_call, create_call, dup_call}
use Rattle.ep_runs.specs.Records.{error_call, listen_call, name_at, read_call, refused, report, reporting, socket_call}
use Rattle.ep_runs.specs.Records.{wait_call, write_call}

-- 3 listens, and 4 has no name: objects 1 and 2 of descriptions 1 and 2
abbrev pub heard_run : List Record
heard_run =
    answered (socket_call families.Unix) (Num 3)
    ∷ answered (bind_call (pos 3) spaces.Local 7) Done
    ∷ answered (listen_call (pos 3) (pos 4)) Done
    ∷ answered (socket_call families.Unix) (Num 4)
    ∷ []

abbrev pub heard : Files
heard = (unwrap_or (run default_limits opening heard_run) opening).files

abbrev pub the_name : Name
the_name = name_at spaces.Local 7

-- 4 has connected to 3
abbrev pub connected : Files × List (ℕ × ℕ)
connected = join 4 heard 2 (new_idle families.Unix) the_name 1

-- process 1 has accepted that
abbrev pub served : Files
served = accept connected.0 1 1 (first_waiting connected.0 (pending_in (content_at connected.0 1))) false

-- or it has closed 3
abbrev pub deserted : Files × List (ℕ × ℕ)
deserted = without_abandoned (close connected.0 1 (pos 3))

-- the bits at a description
abbrev pub shown : Files → ℕ → ℕ
shown s d = object_present (unwrap_or (object_of s d) plain) (side_of s d) 0

-- Without the clause that refuses it, a connect of an idle socket is made where one more may wait.
abbrev pub is_somebody : Hearing → Bool
is_somebody heard = not (is_nobody heard) && not (is_full heard)

abbrev pub gets_through : State → Event → Bool
gets_through s (CallOf p (Connect fd name)) = is_idle (object_under s.files p.0 fd.0) && is_somebody (hearing_in s.files.objects name)
gets_through s event = false

abbrev pub step_through : Limits → State → ℕ → Event → List ℕ → Option (Answer × State)
step_through limits s caller event picked =
    let now = next_event s in
    if gets_through s event then settled now (change limits now caller event picked) else step limits s caller event picked

abbrev pub goes_through : Limits → Option State → List Record → Bool
goes_through limits o [] = is_some o
goes_through limits None (r ∷ rs) = false
goes_through limits (Some s) (r ∷ rs) = goes_through limits (checked r.answer (step_through limits s r.caller.0 r.event r.picked)) rs

-- A server's first turn: what the client wrote, and that it went.
abbrev pub turn_run : Errno → List Record
turn_run of_write =
    answered (socket_call families.Unix) (Num 3)
    ∷ answered (bind_call (pos 3) spaces.Local 7) Done
    ∷ answered (listen_call (pos 3) (pos 16)) Done
    ∷ answered create_call (Num 4)
    ∷ answered (add_call 4 3 1 3) Done
    ∷ answered (socket_call families.Unix) (Num 5)
    ∷ answered (connect_call (pos 5) spaces.Local 7) Done
    ∷ reporting (wait_call 4 8) (report 1 3 ∷ []) (1 ∷ [])
    ∷ answered (accept_call (pos 3)) (Num 6)
    ∷ reporting (wait_call 4 8) [] []
    ∷ answered (add_call 4 6 8193 6) Done
    ∷ answered (write_call (pos 5) (104 ∷ 105 ∷ [])) (Num 2)
    ∷ reporting (wait_call 4 8) (report 1 6 ∷ []) (2 ∷ [])
    ∷ answered (read_call (pos 6) 8) (Bytes (104 ∷ 105 ∷ []))
    ∷ answered (close_call (pos 5)) Done
    ∷ reporting (wait_call 4 8) (report 8209 6 ∷ []) (2 ∷ [])
    ∷ refused (write_call (pos 6) (97 ∷ [])) of_write
    ∷ []

-- What the server never read is a loss, and the client is told once.
abbrev pub loss_run : Errno → List Record
loss_run of_read =
    answered (socket_call families.Unix) (Num 3)
    ∷ answered (bind_call (pos 3) spaces.Local 7) Done
    ∷ answered (listen_call (pos 3) (pos 4)) Done
    ∷ answered (socket_call families.Unix) (Num 4)
    ∷ answered (connect_call (pos 4) spaces.Local 7) Done
    ∷ answered (accept_call (pos 3)) (Num 5)
    ∷ answered create_call (Num 6)
    ∷ answered (add_call 6 4 4 4) Done
    ∷ answered (write_call (pos 4) (97 ∷ 98 ∷ [])) (Num 2)
    ∷ answered (close_call (pos 5)) Done
    ∷ reporting (wait_call 6 8) (report 28 4 ∷ []) (1 ∷ [])
    ∷ refused (write_call (pos 4) (97 ∷ [])) Epipe
    ∷ answered (read_call (pos 4) 8) (Failed of_read)
    ∷ answered (read_call (pos 4) 8) (Bytes [])
    ∷ answered (error_call (pos 4)) (Num 0)
    ∷ reporting (wait_call 6 8) (report 20 4 ∷ []) (1 ∷ [])
    ∷ []

-- A listener closes while a client waits: that is told once, too, and the name is free.
abbrev pub desert_run : Errno → List Record
desert_run of_connect =
    answered (socket_call families.Unix) (Num 3)
    ∷ answered (bind_call (pos 3) spaces.Local 1) Done
    ∷ answered (listen_call (pos 3) (pos 0)) Done
    ∷ answered (socket_call families.Unix) (Num 4)
    ∷ answered (socket_call families.Unix) (Num 5)
    ∷ refused (bind_call (pos 5) spaces.Local 1) Eaddrinuse
    ∷ answered (connect_call (pos 4) spaces.Local 1) Done
    ∷ answered create_call (Num 6)
    ∷ answered (add_call 6 4 2147483653 4) Done
    ∷ reporting (wait_call 6 8) (report 4 4 ∷ []) (1 ∷ [])
    ∷ answered (close_call (pos 3)) Done
    ∷ reporting (wait_call 6 8) (report 29 4 ∷ []) (1 ∷ [])
    ∷ refused (write_call (pos 4) (97 ∷ [])) Epipe
    ∷ answered (read_call (pos 4) 8) (Failed Econnreset)
    ∷ answered (read_call (pos 4) 8) (Bytes [])
    ∷ refused (connect_call (pos 5) spaces.Local 1) of_connect
    ∷ answered (bind_call (pos 5) spaces.Local 1) Done
    ∷ []

-- A client goes before it is accepted: what it wrote is read, and then the end.
abbrev pub early_run : Errno → List Record
early_run of_write =
    answered (socket_call families.Unix) (Num 3)
    ∷ answered (bind_call (pos 3) spaces.Local 7) Done
    ∷ answered (listen_call (pos 3) (pos 16)) Done
    ∷ answered (socket_call families.Unix) (Num 4)
    ∷ answered (connect_call (pos 4) spaces.Local 7) Done
    ∷ answered (write_call (pos 4) (97 ∷ 98 ∷ [])) (Num 2)
    ∷ answered (close_call (pos 4)) Done
    ∷ answered (accept_call (pos 3)) (Num 4)
    ∷ answered create_call (Num 5)
    ∷ answered (add_call 5 4 8197 4) Done
    ∷ reporting (wait_call 5 8) (report 8213 4 ∷ []) (1 ∷ [])
    ∷ answered (read_call (pos 4) 8) (Bytes (97 ∷ 98 ∷ []))
    ∷ answered (read_call (pos 4) 8) (Bytes [])
    ∷ refused (write_call (pos 4) (97 ∷ [])) of_write
    ∷ []

-- Two clients wait: the one that came first is accepted first, and a listener that has another number still listens.
abbrev pub queue_run : Errno → List Record
queue_run of_third =
    answered (socket_call families.Unix) (Num 3)
    ∷ answered (bind_call (pos 3) spaces.Local 7) Done
    ∷ answered (listen_call (pos 3) (pos 16)) Done
    ∷ answered (socket_call families.Unix) (Num 4)
    ∷ answered (socket_call families.Unix) (Num 5)
    ∷ answered (connect_call (pos 5) spaces.Local 7) Done
    ∷ answered (connect_call (pos 4) spaces.Local 7) Done
    ∷ answered (write_call (pos 4) (97 ∷ [])) (Num 1)
    ∷ answered (write_call (pos 5) (98 ∷ [])) (Num 1)
    ∷ answered (dup_call (pos 3)) (Num 6)
    ∷ answered (close_call (pos 3)) Done
    ∷ answered (accept_call (pos 6)) (Num 3)
    ∷ answered (read_call (pos 3) 8) (Bytes (98 ∷ []))
    ∷ answered (accept_call (pos 6)) (Num 7)
    ∷ answered (read_call (pos 7) 8) (Bytes (97 ∷ []))
    ∷ refused (accept_call (pos 6)) of_third
    ∷ []
