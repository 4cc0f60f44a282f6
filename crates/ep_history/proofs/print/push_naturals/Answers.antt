use Rattle.std.proofs.Common.{ap, arith, decimal, drop, map, slice_index, true, ℕ, ◌++◌, ◌+◌, ◌<◌, ◌≡◌, ◌∙◌}
use Rattle.std.proofs.lemmas.List.{get_or_default}
use Rattle.serde_json.specs.View.{items_of}
use Rattle.serde_json.specs.Written.{comma_if, items_text}
use Rattle.ep_history.specs.Fields.{natural}
use Rattle.ep_history.proofs.FitsLemmas.{longs_all, longs_more}
use Rattle.ep_history.proofs.RecordTextLemmas.{next_natural}
use Rattle.ep_history.proofs.print.push_naturals.Goals as goal

pub loop-number-preserved : goal.loop-number-preserved
loop-number-preserved c =
    let l = c.loop-number in
    let ns = c.args.numbers.now in
    let k = l.number-index in
    let n = c.number-item.result in
    let inside = c.loop-number-test.true in
    let rest = items_text true (items_of (map natural (drop (k + 1) ns))) in
    let it : n ≡ slice_index ns k = c.number-item.is ∙ get_or_default ns k n 0 inside in
    record {
      text =
          ap (λ cs. cs ++ rest) (c.in_ok-push_next.ensures.text ∙ ap (λ (m : ℕ). l.out.items ++ (comma_if l.is_later ++ decimal m)) it)
          ∙ next_natural l.out.items _ l.is_later ns k 0 inside l.invariant.text;
      fits = longs_more ns k l.invariant.fits (rw (← it) c.in_ok-push_next.ensures.fits);
    }

pub returns-clause-fits : goal.returns-clause-fits
returns-clause-fits c = longs_all c.args.numbers.now c.loop-number.number-index c.loop-number-test.false c.loop-number.invariant.fits
