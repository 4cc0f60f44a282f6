use Rattle.std.proofs.Common.{codes, decimal, false, map, subst}
use Rattle.serde_json.specs.View.{items_of}
use Rattle.serde_json.specs.Written.{compact_text, items_text}
use Rattle.ep_history.specs.Answers.{answer_data}
use Rattle.ep_history.specs.Fields.{natural}
use Rattle.ep_history.specs.Fits.{AreLongs}
use Rattle.ep_history.specs.Records.{event_data}
use Rattle.ep_history.proofs.RecordTextLemmas.{eight_joined, record_text}
use Rattle.ep_history.proofs.print.push_record.Goals as goal

pub returns-clause-text : goal.returns-clause-text
returns-clause-text c =
    let r = c.args.entry.now in
    rw (c.in_ok-push.ensures.items, c.in_ok-push_naturals.ensures.text, c.as_slice.ensures, c.in_ok-extend_from_slice-3.ensures.items, c.in_ok-push_event.ensures.text, c.in_ok-extend_from_slice-2.ensures.items, c.in_ok-push_caller.ensures.text, c.in_ok-push_answer.ensures.text, c.in_ok-extend_from_slice.ensures.items)
    (rw (record_text r) (
    eight_joined c.args.out.now.items (codes "{\"answer\":") (compact_text (answer_data r.answer)) (codes ",\"caller\":") (decimal r.caller.0) (codes ",\"event\":") (compact_text (event_data r.event)) (codes ",\"picked\":[")
    (items_text false (items_of (map natural r.picked))) (codes "}")
    ))

pub returns-clause-fits : goal.returns-clause-fits
returns-clause-fits c =
    record { caller = c.in_ok-push_caller.ensures.fits; event = c.in_ok-push_event.ensures.fits; answer = c.in_ok-push_answer.ensures.fits; picked = subst AreLongs c.as_slice.ensures c.in_ok-push_naturals.ensures.fits }
