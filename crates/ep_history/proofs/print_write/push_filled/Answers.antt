use Rattle.std.proofs.Common.{OnOk, arith, subst, sym, replicate}
use Rattle.std.proofs.lemmas.List.{length-replicate, take-replicate}
use Rattle.ep_base.specs.declared.call.Call.TheVariants.{Write}
use Rattle.ep_history.specs.Fits.{CallFits}
use Rattle.ep_history.proofs.RunLemmas.{few_are_no_run, fill_is_a_run}
use Rattle.ep_history.proofs.print_write.push_filled.Goals as goal

pub returns-then-count-lt-SHORTEST_RUN-clause-text : goal.returns-then-count-lt-SHORTEST_RUN-clause-text
returns-then-count-lt-SHORTEST_RUN-clause-text c =
    let count = c.args.count in
    let byte = c.args.byte in
    let few = c.if-count-lt-SHORTEST_RUN.true in
    rw (few_are_no_run (replicate count byte) (omega (arith, length-replicate count byte, few)), sym (take-replicate count 16 byte (omega (arith, few)))) c.push_digits.ensures.text

pub returns-then-count-lt-SHORTEST_RUN-clause-fits : goal.returns-then-count-lt-SHORTEST_RUN-clause-fits
returns-then-count-lt-SHORTEST_RUN-clause-fits c =
    let few = c.if-count-lt-SHORTEST_RUN.true in
    subst (λ bytes. OnOk c.push_digits.result (CallFits (Write c.args.fd bytes))) (take-replicate c.args.count 16 c.args.byte (omega (arith, few))) c.push_digits.ensures.fits

pub returns-else-count-lt-SHORTEST_RUN-clause-text : goal.returns-else-count-lt-SHORTEST_RUN-clause-text
returns-else-count-lt-SHORTEST_RUN-clause-text c =
    rw (fill_is_a_run c.args.count c.args.byte c.if-count-lt-SHORTEST_RUN.false) c.push_run.ensures.text
