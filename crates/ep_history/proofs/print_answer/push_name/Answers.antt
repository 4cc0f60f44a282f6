use Rattle.std.proofs.Common.{append_assoc}
use Rattle.ep_history.proofs.AnswerTextLemmas.{name_text}
use Rattle.ep_history.proofs.print_answer.push_name.Goals as goal

pub returns-clause-text : goal.returns-clause-text
returns-clause-text c =
    rw (c.in_ok-extend_from_slice-3.ensures.items, c.in_ok-push_natural.ensures, c.in_ok-extend_from_slice-2.ensures.items, c.in_ok-extend_from_slice.ensures.items, c.as_bytes.ensures.value, c.space_text.ensures, c.from.ensures, name_text c.args.name.space c.args.name.number) (simp append_assoc)
