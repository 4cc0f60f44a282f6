use Rattle.std.proofs.Common.{◌∙◌}
use Rattle.ep_interest.specs.Heads.{circle_at}
use Rattle.ep_interest.specs.Rows.{circle_of}
use Rattle.ep_rings.proofs.OwnerLemmas.{circles_alike, row_alike}
use Rattle.ep_interest.proofs.rows.Rows.remove.Given.{Over}
use Rattle.ep_interest.proofs.rows.Rows.remove.Goals as goal
use Rattle.ep_rings.specs.Circles.{Leaves, Whose, own_head, shortened, with_head}

pub unlink-next-requires : goal.unlink-next-requires
unlink-next-requires g c = (record { heads = circle_of c.args.self.now; owner = c.args.owner.0 }, record { sound = c.requires.sound; there = c.requires.there })

pub shorten-requires : goal.shorten-requires
shorten-requires g c = c.unlink-next.ensures.only (record { heads = circle_of c.args.self.now; owner = c.args.owner.0 }) (record { sound = c.requires.sound; there = c.requires.there })

-- whose circle it is
abbrev whose : (g : Over) (c : goal.After-shorten g) → Whose
whose g c = record { heads = circle_of c.args.self.now; owner = c.args.owner.0 }

left : (g : Over) (c : goal.After-shorten g) → Leaves c.args.self.now.circles c.unlink-next.new.self (whose g c) (shortened c.args.id.0 c.unlink-next.result (own_head (whose g c))) c.args.id.0
left g c = c.unlink-next.ensures.leaves (whose g c) (record { sound = c.requires.sound; there = c.requires.there })

pub returns-clause-sound : goal.returns-clause-sound
returns-clause-sound g c =
    let after = with_head (circle_of c.args.self.now) c.args.owner.0 (shortened c.args.id.0 c.unlink-next.result (own_head (whose g c))) in
    circles_alike c.unlink-next.new.self after (circle_at c.shorten.new.heads) c.shorten.ensures (left g c).sound

pub returns-clause-rows : goal.returns-clause-rows
returns-clause-rows g c i =
    let after = with_head (circle_of c.args.self.now) c.args.owner.0 (shortened c.args.id.0 c.unlink-next.result (own_head (whose g c))) in
    row_alike c.unlink-next.new.self after (circle_at c.shorten.new.heads) c.shorten.ensures i ∙ (left g c).rows i
