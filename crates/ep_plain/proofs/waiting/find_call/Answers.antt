use Rattle.ep_plain.proofs.WaitingLemmas.{no_wait}
use Rattle.ep_plain.proofs.waiting.find_call.Goals as goal

pub returns-in_default : goal.returns-in_default
returns-in_default c = λ s sound legal stands caller picks. no_wait c.args.parts.now.tables.limits s caller c.args.pid.0 picks c.args.call.now c.in_default.not-EpollWait
