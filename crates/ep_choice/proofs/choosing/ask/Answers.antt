use Rattle.std.proofs.Common.{◌∙◌, sym}
use Rattle.ep_choice.proofs.WalkLemmas.{still_vain}
use Rattle.ep_choice.proofs.AnswersLemmas.{vain_none}
use Rattle.ep_choice.specs.Choose.{awaited_key}
use Rattle.ep_choice.proofs.choosing.ask.Goals as goal

pub is_any_awaited-requires-clause-asked : goal.is_any_awaited-requires-clause-asked
is_any_awaited-requires-clause-asked g c =
    let p = c.args.parts.now in
    still_vain (awaited_key p.tables p.clock p.interest p.parked) c.args.reached.now.reached c.climb_from.new.reached.reached c.count-asked.result c.climb_from.ensures.grown c.count-asked.ensures c.requires.vain.none

pub returns-then-not-is_any_awaited-clause-vain : goal.returns-then-not-is_any_awaited-clause-vain
returns-then-not-is_any_awaited-clause-vain g c = record {
  closed = c.climb_from.ensures.closed;
  none = sym c.is_any_awaited.ensures.exact ∙ c.if-not-is_any_awaited.true;
}

pub returns-then-not-is_any_awaited-clause-exact : goal.returns-then-not-is_any_awaited-clause-exact
returns-then-not-is_any_awaited-clause-exact g c = sym c.if-not-is_any_awaited.true ∙ (c.is_any_awaited.ensures.exact ∙ c.climb_from.ensures.exact)

pub returns-clause-vain : goal.returns-clause-vain
returns-clause-vain g c = vain_none c.args.parts.now c.forget.new.self c.forget.ensures.reached

pub returns-clause-exact : goal.returns-clause-exact
returns-clause-exact g c = sym c.if-not-is_any_awaited.false ∙ (c.is_any_awaited.ensures.exact ∙ c.climb_from.ensures.exact)
