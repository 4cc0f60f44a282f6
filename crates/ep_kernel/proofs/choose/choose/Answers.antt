use Rattle.std.proofs.Common.{◌≡◌, ◌+◌, ◌<◌, ◌∙◌, List, arith, length, rules, subst, sym, true}
use Rattle.ep_base.specs.declared.ids.EntryId.{EntryId}
use Rattle.ep_calls.specs.declared.wait.Reportable.{Reportable}
use Rattle.ep_kernel.specs.Listed.{key_shows}
use Rattle.ep_kernel.proofs.AskedLemmas.{knows_forgotten}
use Rattle.ep_kernel.proofs.ChooseLemmas.{Finds, finds_more, finds_none, finds_same, walked_less}
use Rattle.ep_kernel.proofs.choose.choose.Goals as goal
use Rattle.ep_ready.specs.ReadyLists.{list_at}

pub loop-id-init : goal.loop-id-init
loop-id-init c =
    let p = c.args.parts.now in
    let keys = list_at c.args.lists.now c.args.instance.0 in
    record {
      finds =
          subst (λ (rest : List EntryId). Finds p keys c.args.most c.clear.new.self.items 0 rest) (sym (c.into_iter-id-iterator.ensures.into_iter_gives ∙ c.iter-id-items.ensures.exact))
          (finds_none p keys c.args.most c.clear.new.self.items c.clear.ensures.items);
      knows = knows_forgotten p c.args.asked.now.hopes c.forget.new.self c.requires c.forget.ensures.hopes c.forget.ensures.ready c.forget.ensures.idle;
    }

pub overflow_add-walked : goal.overflow_add-walked
overflow_add-walked c =
    let keys = list_at c.args.lists.now c.args.instance.0 in
    let f = subst (λ (rest : List EntryId). Finds c.args.parts.now keys c.args.most c.loop-id.chosen.items c.loop-id.walked rest) c.in-Some.ensures.steps c.loop-id.invariant.finds in
    let less = walked_less c.args.parts.now keys c.args.most c.loop-id.chosen.items c.loop-id.walked c.in-Some.id c.next.new.self f in
    let bound : c.len-length.result < 18446744073709551616 = search rules in
    omega (arith, less, c.len-length.ensures, bound)

pub loop-id-preserved-in-Continue-1 : goal.loop-id-preserved-in-Continue-1
loop-id-preserved-in-Continue-1 c =
    let p = c.args.parts.now in
    let keys = list_at c.args.lists.now c.args.instance.0 in
    let most = c.args.most in
    let found = c.loop-id.chosen.items in
    let n = c.loop-id.walked in
    let f = subst (λ (rest : List EntryId). Finds p keys most found n rest) c.in-Some.ensures.steps c.loop-id.invariant.finds in
    let room : length found < most = search rules in
    let shows : key_shows p c.in-Some.id.0 ≡ true = search rules in
    record {
      finds =
          subst (λ (xs : List Reportable). Finds p keys most xs (n + 1) c.next.new.self) (sym c.in_ok-push.ensures.items)
          (finds_more p keys most found n c.in-Some.id c.next.new.self c.in-Some-reportable_at.x f c.in-Some-reportable_at.ensures.id shows c.in-Some-reportable_at.ensures.keyed room);
      knows = c.reportable_at.ensures.knows;
    }

pub loop-id-preserved : goal.loop-id-preserved
loop-id-preserved c =
    let p = c.args.parts.now in
    let keys = list_at c.args.lists.now c.args.instance.0 in
    let most = c.args.most in
    let found = c.loop-id.chosen.items in
    let n = c.loop-id.walked in
    let f = subst (λ (rest : List EntryId). Finds p keys most found n rest) c.in-Some.ensures.steps c.loop-id.invariant.finds in
    record { finds = finds_same p keys most found n c.in-Some.id c.next.new.self f (search rules); knows = c.reportable_at.ensures.knows }
