use Rattle.std.proofs.lemmas.Bool.Decides.{Decides-eqb}
use Rattle.std.proofs.lemmas.Slice.Eq.{slice_eq-Decides}
use Rattle.ep_text.proofs.PlainLemmas.{end_is}
use Rattle.ep_text.proofs.plain.before.Goals as goal

pub returns-then-eq : goal.returns-then-eq
returns-then-eq g c =
    let front = c.in_ok-left in
    let text = c.args.text.now in
    end_is _ c.args.rest.now front.left.now front.end.now text front.ensures.cases.0 front.ensures.cases.1 ((slice_eq-Decides Decides-eqb front.end.now text c.eq.result c.eq.ensures).0 c.if-eq.true)
