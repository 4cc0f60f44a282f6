use Rattle.std.proofs.Common.{List, ap, get_or, map, refl, sym, take, ◌∙◌}
use Rattle.std.proofs.lemmas.List.{take_more}
use Rattle.ep_interest.specs.Registrations.{raised_on}
use Rattle.ep_calls.specs.Raising.{raised_where}
use Rattle.ep_calls.proofs.LossLemmas.{where_more}
use Rattle.ep_table.specs.declared.words.Loss.{Loss}
use Rattle.ep_calls.proofs.raising.raise_losses.Goals as goal

pub loop-loss-init : goal.loop-loss-init
loop-loss-init c = record { entries = refl; keys = refl; added = refl }

pub loop-loss-preserved : goal.loop-loss-preserved
loop-loss-preserved c = record {
  entries =
      let i = c.loop-loss.loss-index in
      let xs = c.args.losses.now in
      let none : Loss = record { desc = record { 0 = 0 }; raised = record { 0 = 0 } } in
      let x = get_or xs i none in
      let n = c.args.step in
      c.raise_at.ensures.entries
      ∙ (ap (map (raised_on x.desc x.raised n)) c.loop-loss.invariant.entries
      ∙ (sym (where_more n (take i xs) x c.args.interest.now.entries)
      ∙ ap (λ (ls : List Loss). raised_where n ls c.args.interest.now.entries) (sym (take_more xs i none c.loop-loss-test.true))));
  keys = c.raise_at.ensures.keys ∙ c.loop-loss.invariant.keys;
  added = c.raise_at.ensures.added ∙ c.loop-loss.invariant.added;
}
