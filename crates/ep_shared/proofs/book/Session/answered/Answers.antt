use Rattle.ep_shared.proofs.book.Session.answered.Goals as goal

pub returns : goal.returns
returns g c = c.len.ensures
