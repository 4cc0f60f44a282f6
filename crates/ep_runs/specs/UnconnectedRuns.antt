-- Sockets without a connection: a connect that finds nobody, what is answered before one, and names.
use Rattle.std.specs.Prelude.{List, None, Some, [], false, pos, true, ℕ, ◌∷◌}
use Rattle.ep_base.specs.declared.answer.Answer.TheVariants.{Bytes, Connecting, Done, Failed, Named, Num}
use Rattle.ep_base.specs.declared.errno.Errno.{Errno}
use Rattle.ep_base.specs.declared.errno.Errno.TheVariants.{Eaddrinuse, Eafnosupport, Econnrefused, Einval, Enotconn, Epipe}
use Rattle.ep_base.specs.declared.record.Record.{Record}
use Rattle.ep_base.specs.declared.socket.Family.TheVariants as families
use Rattle.ep_base.specs.declared.socket.How.TheVariants as hows
use Rattle.ep_base.specs.declared.socket.Space.TheVariants as spaces
use Rattle.ep_runs.specs.Records.{accept_call, add_call, answered, bind_call, close_call, connect_call, create_call}
use Rattle.ep_runs.specs.Records.{error_call, name_at, name_call, read_call, refused, report, reporting, shut_call}
use Rattle.ep_runs.specs.Records.{socket_call, wait_call, write_call}

-- What a connect told is told once, by what asks first: 111 is ECONNREFUSED.
abbrev pub refused_connect : Errno → List Record
refused_connect of_second =
    answered create_call (Num 3)
    ∷ answered (socket_call families.Tcp) (Num 4)
    ∷ answered (add_call 3 4 2147491845 4) Done
    ∷ reporting (wait_call 3 8) (report 20 4 ∷ []) (1 ∷ [])
    ∷ reporting (wait_call 3 8) [] []
    ∷ answered (connect_call (pos 4) spaces.V4 80) Connecting
    ∷ reporting (wait_call 3 8) (report 8221 4 ∷ []) (1 ∷ [])
    ∷ answered (error_call (pos 4)) (Num 111)
    ∷ answered (error_call (pos 4)) (Num 0)
    ∷ answered (read_call (pos 4) 8) (Bytes [])
    ∷ refused (write_call (pos 4) (97 ∷ [])) Epipe
    ∷ answered (connect_call (pos 4) spaces.V4 80) (Failed of_second)
    ∷ answered (connect_call (pos 4) spaces.V4 80) Connecting
    ∷ answered (read_call (pos 4) 8) (Failed Econnrefused)
    ∷ []

-- what both families show, and answer where no connection ever was
abbrev pub fresh_run : Errno → List Record
fresh_run of_read =
    answered create_call (Num 3)
    ∷ answered (socket_call families.Tcp) (Num 4)
    ∷ answered (socket_call families.Unix) (Num 5)
    ∷ answered (add_call 3 4 8197 4) Done
    ∷ reporting (wait_call 3 8) (report 20 4 ∷ []) (1 ∷ [])
    ∷ answered (bind_call (pos 4) spaces.V4 80) Done
    ∷ answered (add_call 3 5 8197 5) Done
    ∷ reporting (wait_call 3 8) (report 20 4 ∷ report 20 5 ∷ []) (1 ∷ 2 ∷ [])
    ∷ refused (read_call (pos 4) 8) Enotconn
    ∷ refused (write_call (pos 4) (97 ∷ [])) Epipe
    ∷ refused (read_call (pos 5) 8) of_read
    ∷ refused (write_call (pos 5) (97 ∷ [])) Enotconn
    ∷ answered (read_call (pos 4) 0) (Bytes [])
    ∷ answered (write_call (pos 5) []) (Num 0)
    ∷ refused (shut_call (pos 4) hows.Both) Enotconn
    ∷ refused (name_call (pos 4) true) Enotconn
    ∷ answered (name_call (pos 5) false) (Named None)
    ∷ answered (error_call (pos 4)) (Num 0)
    ∷ refused (connect_call (pos 5) spaces.Local 7) Econnrefused
    ∷ reporting (wait_call 3 8) (report 20 4 ∷ report 20 5 ∷ []) (1 ∷ 2 ∷ [])
    ∷ refused (accept_call (pos 4)) Einval
    ∷ []

-- Which names are free: the lowest is given, by connect too, and one is free again once its socket is gone.
abbrev pub names_run : ℕ → List Record
names_run again =
    answered (socket_call families.Tcp) (Num 3)
    ∷ answered (socket_call families.Tcp) (Num 4)
    ∷ answered (socket_call families.Unix) (Num 5)
    ∷ answered (bind_call (pos 3) spaces.V4 0) Done
    ∷ answered (name_call (pos 3) false) (Named (Some (name_at spaces.V4 32768)))
    ∷ refused (bind_call (pos 4) spaces.V4 32768) Eaddrinuse
    ∷ refused (bind_call (pos 3) spaces.V4 80) Einval
    ∷ refused (bind_call (pos 4) spaces.Local 1) Eafnosupport
    ∷ refused (bind_call (pos 5) spaces.V4 1) Einval
    ∷ answered (connect_call (pos 4) spaces.V4 80) Connecting
    ∷ answered (name_call (pos 4) false) (Named (Some (name_at spaces.V4 32769)))
    ∷ answered (close_call (pos 3)) Done
    ∷ answered (socket_call families.Tcp) (Num 3)
    ∷ answered (bind_call (pos 3) spaces.V4 0) Done
    ∷ answered (name_call (pos 3) false) (Named (Some (name_at spaces.V4 again)))
    ∷ answered (bind_call (pos 5) spaces.Local 0) Done
    ∷ answered (name_call (pos 5) false) (Named (Some (name_at spaces.Local 32768)))
    ∷ []
