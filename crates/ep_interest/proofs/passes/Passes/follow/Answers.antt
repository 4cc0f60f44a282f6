use Rattle.std.proofs.Common.{◌≡◌, false, ◌∙◌}
use Rattle.ep_interest.proofs.PassesLemmas.{once_more, was_off}
use Rattle.ep_interest.proofs.passes.Passes.follow.Goals as goal

pub returns-then-after-clause-once : goal.returns-then-after-clause-once
returns-then-after-clause-once g c =
    let before : c.args.before ≡ false = was_off c.args.before c.args.after c.if-after.true c.if-before-after.false in
    rw c.push.ensures.keys (once_more c.args.self.now.keys.items c.args.id c.requires.once (c.requires.noted ∙ before))
