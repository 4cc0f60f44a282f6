use Rattle.std.proofs.Common.{List, ap, filter, get_or, subst, sym, true, ℕ, ◌∙◌, ◌≡◌}
use Rattle.std.proofs.lemmas.List.Elements.{Contains-get_or}
use Rattle.std.specs.List.{All}
use Rattle.ep_nest.proofs.DepthLemmas.{deep_left}
use Rattle.ep_nest.proofs.ElementLemmas.{Contains-from_filter}
use Rattle.ep_nest.proofs.KeptLemmas.{kept_left}
use Rattle.ep_nest.proofs.PurgeLemmas.{cut_both, staying}
use Rattle.ep_nest.specs.Links.{is_apart_from}
use Rattle.ep_nest.specs.declared.link.Link.{Link}
use Rattle.ep_nest.specs.declared.link.Way.TheVariants.{Up}
use Rattle.ep_nest.proofs.graph.Graph.purge.Goals as goal

left_are : (k : ℕ) (ls left : List Link) → left ≡ filter (is_apart_from k) ls → All (λ l. is_apart_from k l ≡ true) left
left_are k ls left is = subst (All (λ l. is_apart_from k l ≡ true)) (sym is) (λ i d lt. (Contains-from_filter (is_apart_from k) ls (get_or (filter (is_apart_from k) ls) i d) (Contains-get_or (filter (is_apart_from k) ls) i d lt)).1)

pub invariant_of-self : goal.invariant_of-self
invariant_of-self g c =
    let k = c.args.instance.0 in
    let ls = c.self.inside.links in
    let is = c.cut-2.ensures ∙ (ap (staying Up k) c.cut.ensures ∙ cut_both k ls) in
    record {
      kept = kept_left (is_apart_from k) ls c.cut-2.new.links c.self.inside.walk is c.self.invariant.kept;
      deep = c.forget.ensures c.cut-2.new.links (deep_left (is_apart_from k) ls c.cut-2.new.links c.self.inside.depths is c.self.invariant.deep) (left_are k ls c.cut-2.new.links is);
    }

pub returns : goal.returns
returns g c =
    let k = c.args.instance.0 in
    c.cut-2.ensures ∙ (ap (staying Up k) c.cut.ensures ∙ (cut_both k c.self.inside.links ∙ ap (λ (ls : List Link). filter (is_apart_from k) ls) c.self.view_is))
