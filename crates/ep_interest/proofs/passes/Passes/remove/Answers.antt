use Rattle.std.proofs.Common.{◌≡◌, filter, rules}
use Rattle.std.proofs.lemmas.Fn.{filter_same}
use Rattle.ep_interest.proofs.PassesLemmas.{noted_less, noted_moved, once_less, once_moved, other_than}
use Rattle.ep_interest.proofs.passes.Passes.remove.Goals as goal

pub returns-in-Some-clause-once : goal.returns-in-Some-clause-once
returns-in-Some-clause-once g c = rw c.remove_at.ensures.keys (once_moved c.args.self.now.keys.items c.in-Some.place c.args.id c.remove_at.result c.in-Some.ensures c.remove_at.ensures.key c.requires)

pub returns-in-Some-clause-noted : goal.returns-in-Some-clause-noted
returns-in-Some-clause-noted g c k = rw c.remove_at.ensures.keys (noted_moved c.args.self.now.keys.items c.in-Some.place c.args.id c.remove_at.result c.in-Some.ensures c.remove_at.ensures.key c.requires k)

pub returns-in-None-clause-once : goal.returns-in-None-clause-once
returns-in-None-clause-once g c =
    let left : c.retain.new.self.items ≡ filter (other_than c.args.id) c.args.self.now.keys.items = filter_same _ (other_than c.args.id) _ (λ x b f' k. search rules) _ _ c.retain.ensures.filtered in
    rw left (once_less c.args.id c.args.self.now.keys.items c.requires)

pub returns-in-None-clause-noted : goal.returns-in-None-clause-noted
returns-in-None-clause-noted g c k =
    let left : c.retain.new.self.items ≡ filter (other_than c.args.id) c.args.self.now.keys.items = filter_same _ (other_than c.args.id) _ (λ x b f' k. search rules) _ _ c.retain.ensures.filtered in
    rw left (noted_less c.args.id c.args.self.now.keys.items k)
