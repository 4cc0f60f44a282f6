use Rattle.ep_history.proofs.AnswerTextLemmas.{failed_text}
use Rattle.ep_history.proofs.EscapeLemmas.{escape_name}
use Rattle.ep_history.proofs.print_answer.push_failed.Goals as goal

pub returns : goal.returns
returns c = rw (failed_text c.args.errno, escape_name c.args.errno) c.push_errno.ensures
