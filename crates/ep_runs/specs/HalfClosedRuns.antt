-- Socket pairs of which an end reads no more, and what is left unread.
use Rattle.std.specs.Prelude.{List, None, [], false, pos, true, ℕ, ◌∷◌}
use Rattle.ep_base.specs.declared.answer.Answer.TheVariants.{Bytes, Done, Named, Num}
use Rattle.ep_base.specs.declared.errno.Errno.{Errno}
use Rattle.ep_base.specs.declared.errno.Errno.TheVariants.{Epipe}
use Rattle.ep_base.specs.declared.record.Record.{Record}
use Rattle.ep_base.specs.declared.socket.How.TheVariants as hows
use Rattle.ep_runs.specs.Records.{add_call, answered, close_call, create_call, error_call, name_call, pair_call}
use Rattle.ep_runs.specs.Records.{peek_call, read_call, refused, report, reporting, shut_call, two, wait_call}
use Rattle.ep_runs.specs.Records.{write_call}

-- A peer can't write to an end that reads no more; that one sees the end.
abbrev pub deaf_run : Errno → List Record
deaf_run of_write =
    answered pair_call (two 3 4)
    ∷ answered create_call (Num 5)
    ∷ answered (add_call 5 3 8197 3) Done
    ∷ answered (shut_call (pos 3) hows.Read) Done
    ∷ reporting (wait_call 5 8) (report 8197 3 ∷ []) (1 ∷ [])
    ∷ refused (write_call (pos 4) (97 ∷ [])) of_write
    ∷ answered (read_call (pos 3) 8) (Bytes [])
    ∷ answered (shut_call (pos 3) hows.Read) Done
    ∷ answered (shut_call (pos 3) hows.Write) Done
    ∷ reporting (wait_call 5 8) (report 8213 3 ∷ []) (1 ∷ [])
    ∷ answered (name_call (pos 3) false) (Named None)
    ∷ answered (name_call (pos 4) true) (Named None)
    ∷ answered (error_call (pos 3)) (Num 0)
    ∷ []

-- What came before is still read, and what is left unread is no error.
abbrev pub unread_run : ℕ → List Record
unread_run error =
    answered pair_call (two 3 4)
    ∷ answered create_call (Num 5)
    ∷ answered (add_call 5 3 8197 3) Done
    ∷ reporting (wait_call 5 8) (report 4 3 ∷ []) (1 ∷ [])
    ∷ answered (write_call (pos 3) (97 ∷ 98 ∷ [])) (Num 2)
    ∷ answered (shut_call (pos 4) hows.Read) Done
    ∷ reporting (wait_call 5 8) (report 4 3 ∷ []) (1 ∷ [])
    ∷ refused (write_call (pos 3) (99 ∷ [])) Epipe
    ∷ answered (peek_call (pos 4) 1) (Bytes (97 ∷ []))
    ∷ answered (read_call (pos 4) 1) (Bytes (97 ∷ []))
    ∷ answered (close_call (pos 4)) Done
    ∷ reporting (wait_call 5 8) (report 8213 3 ∷ []) (1 ∷ [])
    ∷ answered (error_call (pos 3)) (Num error)
    ∷ answered (read_call (pos 3) 8) (Bytes [])
    ∷ answered (name_call (pos 3) true) (Named None)
    ∷ []
