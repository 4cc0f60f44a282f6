use Rattle.std.proofs.Common.{◌∙◌, Some}
use Rattle.ep_interest.specs.Heads.{circle_at}
use Rattle.ep_interest.specs.Rows.{circle_of}
use Rattle.ep_rings.proofs.OwnerLemmas.{circles_alike, row_alike}
use Rattle.ep_interest.proofs.rows.Rows.push.Given.{Over}
use Rattle.ep_interest.proofs.rows.Rows.push.Goals as goal
use Rattle.ep_rings.specs.Circles.{Joins, Whose, lengthened, own_head, with_head}

-- no memory for a circle
pub returns-in_err-first-clause-sound : goal.returns-in_err-first-clause-sound
returns-in_err-first-clause-sound g c = circles_alike c.args.self.now.circles (circle_of c.args.self.now) (circle_at c.lengthen.new.heads) c.in_err-first.ensures.kept c.requires.sound

pub append-requires-clause-joins : goal.append-requires-clause-joins
append-requires-clause-joins g c = (
  record { heads = circle_of c.args.self.now; owner = c.args.owner.0 },
  record { sound = c.requires.sound; fresh = c.requires.fresh },
  c.in_ok-first.ensures.first,
)

-- whose circle it is
abbrev whose : (g : Over) (c : goal.After-append g) → Whose
whose g c = record { heads = circle_of c.args.self.now; owner = c.args.owner.0 }

joined : (g : Over) (c : goal.After-append g) → Joins c.args.self.now.circles c.append.new.self (whose g c) (Some (lengthened c.args.id.0 (own_head (whose g c)))) c.args.id.0
joined g c = c.append.ensures (whose g c) (record { sound = c.requires.sound; fresh = c.requires.fresh }) c.in_ok-first.ensures.first

pub returns-clause-sound : goal.returns-clause-sound
returns-clause-sound g c =
    let after = with_head (circle_of c.args.self.now) c.args.owner.0 (Some (lengthened c.args.id.0 (own_head (whose g c)))) in
    circles_alike c.append.new.self after (circle_at c.lengthen.new.heads) c.in_ok-first.ensures.heads (joined g c).sound

pub returns-clause-rows : goal.returns-clause-rows
returns-clause-rows g c i =
    let after = with_head (circle_of c.args.self.now) c.args.owner.0 (Some (lengthened c.args.id.0 (own_head (whose g c)))) in
    row_alike c.append.new.self after (circle_at c.lengthen.new.heads) c.in_ok-first.ensures.heads i ∙ (joined g c).rows i
