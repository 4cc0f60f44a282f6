use Rattle.ep_calls.specs.Parts.{AreOpening, Parts}
use Rattle.ep_calls.proofs.PartsLemmas.{coherent_opening}
use Rattle.ep_calls.proofs.parts.Parts.new.Goals as goal

pub invariant_of-result : goal.invariant_of-result
invariant_of-result c =
    let t = c.in_ok-new.ensures in
    let r = c.new-2.ensures in
    let p : Parts = record { tables = c.in_ok-new.field-0; interest = c.new-2.result; graph = c.new-3.result; parked = c.new-4.result; clock = c.first.result } in
    let opening : AreOpening c.args.limits p = record {
      limits = t.limits;
      files = t.files;
      keys = t.keys;
      holds = t.holds;
      dying = t.dying;
      interest = λ i. record { entries = r.entries i; keys = r.keys i; added = r.added i; next = r.next i };
      graph = c.new-3.ensures;
      parked = c.new-4.ensures;
      clock = c.first.ensures;
    } in
    coherent_opening c.args.limits p opening

pub returns : goal.returns
returns c =
    let t = c.in_ok-new.ensures in
    let r = c.new-2.ensures in
    record {
      limits = t.limits;
      files = t.files;
      keys = t.keys;
      holds = t.holds;
      dying = t.dying;
      interest = λ i. record { entries = r.entries i; keys = r.keys i; added = r.added i; next = r.next i };
      graph = c.new-3.ensures;
      parked = c.new-4.ensures;
      clock = c.first.ensures;
    }
