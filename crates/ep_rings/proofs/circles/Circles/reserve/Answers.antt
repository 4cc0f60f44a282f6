use Rattle.std.proofs.Common.{◌≡◌, ◌++◌, ◌-◌, List, ap, arith, replicate, take, vec_len, ◌∙◌}
use Rattle.std.proofs.lemmas.List.{take_all}
use Rattle.ep_rings.specs.Links.{no_link}
use Rattle.ep_rings.specs.declared.link.Link.{Link}
use Rattle.ep_rings.proofs.OwnerLemmas.{circles_more, row_more}
use Rattle.ep_rings.proofs.circles.Circles.reserve.Given.{Over}
use Rattle.ep_rings.proofs.circles.Circles.reserve.Goals as goal

more : (g : Over) (c : goal.In_ok-resize g) → c.resize.new.self.items ≡ c.args.self.now ++ replicate (c.args.many - vec_len c.self.inside.links) no_link
more g c =
    let v = c.self.inside.links in
    let all : take c.args.many v.items ≡ v.items = take_all c.args.many v.items (omega (arith, v.ok.0, c.len.ensures, c.if-len-many.true)) in
    let new = ap (λ (xs : List Link). xs ++ replicate (c.args.many - vec_len v) no_link) (all ∙ c.self.view_is) in
    c.in_ok-resize.ensures.items ∙ new

pub returns-in_ok-resize-clause-sound : goal.returns-in_ok-resize-clause-sound
returns-in_ok-resize-clause-sound g c heads h = circles_more c.args.self.now c.resize.new.self.items _ heads (more g c) h

pub returns-in_ok-resize-clause-kept : goal.returns-in_ok-resize-clause-kept
returns-in_ok-resize-clause-kept g c heads i = row_more c.args.self.now c.resize.new.self.items _ heads i (more g c)
