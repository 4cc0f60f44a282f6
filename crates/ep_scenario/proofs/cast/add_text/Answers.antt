use Rattle.std.proofs.Common.{◌++◌, ◌∙◌, ◌∷◌, [], ap, arith}
use Rattle.ep_scenario.specs.Reading.{texts_in}
use Rattle.ep_scenario.proofs.PutLemmas.{text_new, text_within}
use Rattle.ep_scenario.proofs.cast.add_text.Goals as goal

pub returns-then-number-len : goal.returns-then-number-len
returns-then-number-len c =
    text_within c.args.texts.now.items c.args.number c.index_mut.result.now c.push.new.self c.in_ok-copy.copy c.args.text.now
    (omega (arith, c.if-number-len.true, c.len.ensures)) c.index_mut.ensures.value c.in_ok-push.ensures.items c.in_ok-copy.ensures

pub returns : goal.returns
returns c =
    ap texts_in c.in_ok-push-3.ensures.items
    ∙ text_new c.args.texts.now.items c.args.number c.push-2.new.self c.in_ok-copy.copy c.args.text.now
    (omega (arith, c.if-number-len.false, c.len.ensures))
    (c.in_ok-push-2.ensures.items ∙ ap (λ ts. ts ++ c.in_ok-copy.copy ∷ []) c.new-first.ensures.items) c.in_ok-copy.ensures
