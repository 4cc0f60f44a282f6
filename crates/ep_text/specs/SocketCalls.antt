-- The calls of sockets, each with what its keys mean.
use Rattle.std.specs.Prelude.{Ok, Result, false, true}
use Rattle.serde_json.specs.Data.{Data}
use Rattle.ep_base.specs.declared.call.Call.{Call}
use Rattle.ep_base.specs.declared.call.Call.TheVariants.{Accept, Bind, Connect, Listen, Peek, Shutdown, Socket, SocketName, TakeError}
use Rattle.ep_base.specs.declared.ids.Fd.{Fd}
use Rattle.ep_base.specs.declared.socket.How.TheVariants as hows
use Rattle.ep_base.specs.declared.socket.Name.{Name}
use Rattle.ep_text.specs.declared.key.Key.TheVariants as key
use Rattle.ep_text.specs.declared.reason.Reason.{Reason}
use Rattle.ep_text.specs.Keys.{flag, optional, required, signed32, unsigned32, ◌>>=◌}
use Rattle.ep_text.specs.Sockets.{family, how, name_in}

-- what goes out is shut where nothing says otherwise
abbrev pub shutdown_call : Data → Result Call Reason
shutdown_call d = do
  fd ← required signed32 key.Fd d
  how ← optional how hows.Write key.How d
  Ok (Shutdown (record { 0 = fd }) how)

abbrev pub socket_call : Data → Result Call Reason
socket_call d = do
  family ← required family key.Family d
  cloexec ← flag key.Cloexec d
  Ok (Socket family cloexec)

-- what a descriptor and a name say all of
abbrev pub at_name : (Fd → Name → Call) → Data → Result Call Reason
at_name make d = do
  fd ← required signed32 key.Fd d
  name ← name_in d
  Ok (make (record { 0 = fd }) name)

abbrev pub bind_call : Data → Result Call Reason
bind_call = at_name (λ fd name. Bind fd name)

abbrev pub connect_call : Data → Result Call Reason
connect_call = at_name (λ fd name. Connect fd name)

abbrev pub listen_call : Data → Result Call Reason
listen_call d = do
  fd ← required signed32 key.Fd d
  backlog ← required signed32 key.Backlog d
  Ok (Listen (record { 0 = fd }) backlog)

abbrev pub accept_call : Data → Result Call Reason
accept_call d = do
  fd ← required signed32 key.Fd d
  cloexec ← flag key.Cloexec d
  Ok (Accept (record { 0 = fd }) cloexec)

abbrev pub peek_call : Data → Result Call Reason
peek_call d = do
  fd ← required signed32 key.Fd d
  n ← required unsigned32 key.N d
  Ok (Peek (record { 0 = fd }) n)

abbrev pub sockname_call : Data → Result Call Reason
sockname_call d = do
  fd ← required signed32 key.Fd d
  Ok (SocketName (record { 0 = fd }) false)

abbrev pub peername_call : Data → Result Call Reason
peername_call d = do
  fd ← required signed32 key.Fd d
  Ok (SocketName (record { 0 = fd }) true)

abbrev pub sockerr_call : Data → Result Call Reason
sockerr_call d = do
  fd ← required signed32 key.Fd d
  Ok (TakeError (record { 0 = fd }))
