use Rattle.std.proofs.Common.{◌≡◌, ◌∙◌, Option, Some, ap, refl, subst, sym}
use Rattle.std.specs.Prelude.{IfSome}
use Rattle.std.proofs.lemmas.Bool.{false≢true}
use Rattle.ep_base.specs.declared.call.Event.TheVariants.{Call as CallOf}
use Rattle.ep_base.specs.declared.ids.EntryId.{EntryId}
use Rattle.ep_calls.specs.Control.{control_call}
use Rattle.ep_calls.specs.declared.control.Plan.{Plan}
use Rattle.ep_dates.specs.Dates.{Dates}
use Rattle.ep_interest.specs.declared.entry.Entry.{Entry}
use Rattle.ep_nest.proofs.AdjacentLemmas.{on_err}
use Rattle.ep_plain.proofs.ControlLemmas.{control_follow, deleted_in_row, grows_adding, grows_altered}
use Rattle.ep_plain.proofs.FollowsLemmas.{refused_follow}
use Rattle.ep_plain.proofs.RoomLemmas.{fits_grown, kept_grown}
use Rattle.ep_plain.specs.Control.{IsInRow, deleted_in, without_deleted}
use Rattle.ep_plain.specs.Exact.{Follows}
use Rattle.ep_plain.proofs.control.epoll_ctl.Goals as goal

pub returns-in-Err-clause-follows : goal.returns-in-Err-clause-follows
returns-in-Err-clause-follows c = λ n counted exact.
    let args = c.args.args in
    let p = c.args.parts.now in
    let refused = c.in-Err.refused in
    refused_follow n (CallOf c.args.pid (control_call args)) refused.answer refused.picked p p c.args.dating.now exact refl c.in-Err.ensures.picked c.in-Err.ensures.refused

pub drop_deleted-requires : goal.drop_deleted-requires
drop_deleted-requires c =
    let p = c.args.parts.now in
    let e = c.make_room.new.dating in
    let kept = kept_grown c.args.dating.now.dates e.dates c.make_room.ensures.grows.dates p.interest c.requires.exact.1.fits.kept in
    subst (λ (o : Option (EntryId × Entry)). IfSome o (λ w. IsInRow e.dates w.0 w.1)) (sym c.find_deleted-deleted.ensures) (deleted_in_row p.interest e.dates kept c.in-Ok.plan.operation c.in-Ok.plan.found)

pub note_deleted-requires : goal.note_deleted-requires
note_deleted-requires c =
    let p = c.args.parts.now in
    let d = c.args.dating.now in
    let e = c.make_room.new.dating in
    record { room = (fits_grown p.interest d e (grows_altered d e _ c.make_room.ensures.grows) c.requires.exact.1.fits).choice.lost }

-- want of memory comes of an ADD alone, which loses nothing
pub returns-in_err-outcome-clause-grows : goal.returns-in_err-outcome-clause-grows
returns-in_err-outcome-clause-grows c =
    let p = c.args.parts.now in
    let d = c.args.dating.now in
    let e = c.make_room.new.dating in
    let plan : Plan = record c.in-Ok.plan { below = c.is_ready.result; has_room = c.make_room.result } in
    on_err c.from_residual.result (grows_adding plan p d e c.note_deleted.new.lost (λ other. false≢true (c.in_err-outcome.ensures.spared other)) (grows_altered d e _ c.make_room.ensures.grows) c.note_deleted.ensures)

pub returns-clause-follows : goal.returns-clause-follows
returns-clause-follows c = λ n counted exact.
    let args = c.args.args in
    let plan : Plan = record c.in-Ok.plan { below = c.is_ready.result; has_room = c.make_room.result } in
    let p = c.args.parts.now in
    let q = c.control.new.self in
    let d = c.args.dating.now in
    let e = c.make_room.new.dating in
    let x = c.in_ok-outcome in
    let plans = c.in-Ok.ensures.ok in
    let f : c.drop_deleted.new.dates ≡ without_deleted (deleted_in plan.operation plan.found p.interest) e.dates =
    c.drop_deleted.ensures ∙ ap (λ (o : Option (EntryId × Entry)). without_deleted o e.dates) c.find_deleted-deleted.ensures in
    subst (λ (g : Dates). Follows n (CallOf c.args.pid (control_call args)) x.outcome.answer x.outcome.picked p d q (record e { dates = g; choice = record e.choice { lost = c.note_deleted.new.lost } })) (sym f)
    (control_follow n counted c.args.pid args plan x.outcome p q d e exact (grows_altered d e _ c.make_room.ensures.grows) c.know.ensures.tables c.know.ensures.interest c.know-2.ensures.interest
    (record { names = plans.names; code = plans.code; accepted = plans.accepted; found = plans.found }) x.ensures.controls x.ensures.added x.ensures.room x.ensures.deletes
    (λ add none has. c.make_room.ensures.room add none has) (c.make_room.ensures.altered ∙ ap (λ (k : EntryId). Some k) c.key_of.ensures) c.note_deleted.new.lost c.note_deleted.ensures)
