use Rattle.std.proofs.Common.{ap, arith, set, subst, sym, true, ◌∙◌}
use Rattle.std.proofs.lemmas.List.{length-map}
use Rattle.ep_base.specs.declared.ids.DescId.{DescId}
use Rattle.ep_nest.proofs.GatherLemmas.{keys_push}
use Rattle.ep_nest.proofs.NoteLemmas.{noted_more, room_for}
use Rattle.ep_nest.specs.Marks.{AreNoted}
use Rattle.ep_nest.specs.Links.{keys}
use Rattle.ep_nest.proofs.reach.note.Goals as goal

pub put-requires : goal.put-requires
put-requires g c =
    let ds = c.args.reached.now.items in
    let room = room_for c.args.marks.now (keys ds) c.args.desc.0 c.requires.noted c.requires.place c.if-marks-desc.false in
    omega (arith, room, length-map ds (λ (d : DescId). d.0), c.args.reached.now.ok.0, c.requires.fits)

pub returns-clause-noted : goal.returns-clause-noted
returns-clause-noted g c =
    let ds = c.args.reached.now.items in
    let more = noted_more c.args.marks.now (keys ds) c.args.desc.0 c.requires.noted c.requires.place c.if-marks-desc.false in
    subst (AreNoted (set c.args.marks.now c.args.desc.0 true)) (sym (ap keys c.put.ensures.items ∙ keys_push ds c.args.desc)) more
