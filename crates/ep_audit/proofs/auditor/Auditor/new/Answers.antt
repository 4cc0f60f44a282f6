use Rattle.std.proofs.Common.{ap}
use Rattle.ep_calls.specs.Book.{Book}
use Rattle.ep_records.specs.Past.{Past}
use Rattle.ep_audit.proofs.KeptLemmas.{keeps_none}
use Rattle.ep_audit.proofs.auditor.Auditor.new.Goals as goal

pub invariant_of-result : goal.invariant_of-result
invariant_of-result c =
    record {
      last = keeps_none c.in_ok-new.field-0 c.new-2.result (ap (λ (b : Book). b.taken) c.in_ok-new.ensures) (ap (λ (b : Book). b.past) c.in_ok-new.ensures) (ap (λ (h : Past). h.items) c.new-2.ensures);
    }
