use Rattle.std.proofs.Common.{OnOk, subst, sym, ◌++◌, ◌≡◌}
use Rattle.serde_json.specs.Written.{compact_text}
use Rattle.ep_base.specs.declared.call.Call.TheVariants.{Socket}
use Rattle.ep_history.specs.Calls.{call_data}
use Rattle.ep_history.proofs.CallTextLemmas.{tcp_text, unix_text}
use Rattle.ep_history.proofs.print_socket.push_socket.Goals as goal

pub returns-in-Tcp-clause-text : goal.returns-in-Tcp-clause-text
returns-in-Tcp-clause-text c =
    let made = c.push_cloexec in
    subst (λ family. OnOk made.result (made.new.out.items ≡ c.args.out.now.items ++ compact_text (call_data (Socket family c.args.cloexec)))) (sym c.in-Tcp.is)
    (subst (λ text. OnOk made.result (made.new.out.items ≡ c.args.out.now.items ++ text)) (sym (tcp_text c.args.cloexec)) made.ensures)

pub returns-in-Unix-clause-text : goal.returns-in-Unix-clause-text
returns-in-Unix-clause-text c =
    let made = c.push_cloexec-in-Unix in
    subst (λ family. OnOk made.result (made.new.out.items ≡ c.args.out.now.items ++ compact_text (call_data (Socket family c.args.cloexec)))) (sym c.in-Unix.is)
    (subst (λ text. OnOk made.result (made.new.out.items ≡ c.args.out.now.items ++ text)) (sym (unix_text c.args.cloexec)) made.ensures)
