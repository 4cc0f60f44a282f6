use Rattle.std.proofs.Common.{ap, arith, sym, take, ◌+◌, ◌-◌, ◌∙◌, ◌≡◌}
use Rattle.serde_json.specs.Data.{no_members}
use Rattle.serde_json.specs.Find.{get_member}
use Rattle.ep_text.specs.Key.{key_name}
use Rattle.ep_text.specs.Source.{put_all}
use Rattle.ep_text.proofs.FlatLemmas.{found_before, found_here}
use Rattle.ep_text.proofs.source.last_of.Goals as goal

pub returns-then-number : goal.returns-then-number
returns-then-number c =
    let ms = c.args.members.now in
    let one_less : c.members.left - 1 + 1 ≡ c.members.left = omega (arith, c.members-test.true) in
    sym (found_here ms (c.members.left - 1) c.index-members-left.result c.args.key (omega (arith, c.members-test.true, c.members.invariant.0)) (sym c.index-members-left.is)
    (sym c.number.ensures ∙ c.if-number.true ∙ c.number-in-members.ensures))
    ∙ ap (λ n. get_member (key_name c.args.key) (put_all no_members (take n ms))) one_less ∙ c.members.invariant.1

pub members-preserved : goal.members-preserved
members-preserved c =
    let ms = c.args.members.now in
    let one_less : c.members.left - 1 + 1 ≡ c.members.left = omega (arith, c.members-test.true) in (
      omega (arith, c.members.invariant.0),
      found_before ms (c.members.left - 1) c.index-members-left.result c.args.key (omega (arith, c.members-test.true, c.members.invariant.0)) (sym c.index-members-left.is)
          (λ e. c.if-number.false (c.number.ensures ∙ e ∙ sym c.number-in-members.ensures))
          ∙ ap (λ n. get_member (key_name c.args.key) (put_all no_members (take n ms))) one_less ∙ c.members.invariant.1,
    )
