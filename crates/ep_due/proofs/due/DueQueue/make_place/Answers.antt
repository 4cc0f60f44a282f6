use Rattle.std.proofs.Common.{sym, ◌≡◌, ◌<◌, ◌≤◌, ◌+◌, length, set, ap, subst, ◌∙◌, arith, None, refl, rules, ◌++◌, ◌∷◌, [], is_ok, true, vec_len, vec_capacity, if◌then◌else◌}
use Rattle.std.proofs.lemmas.List.{get_or_read}
use Rattle.ep_due.specs.declared.heap.Item.{Item}
use Rattle.ep_due.specs.Heap.{item_at}
use Rattle.ep_due.specs.DueQueue.{HasFreePlace, moments}
use Rattle.ep_due.proofs.MapLemmas.{Extends, gains_place}
use Rattle.ep_due.proofs.PlaceLemmas.{reuse_made, grow_made_by, none_free}
use Rattle.ep_due.proofs.due.DueQueue.make_place.Goals as goal

pub returns-then-self-len-clause-made : goal.returns-then-self-len-clause-made
returns-then-self-len-clause-made g c =
    let room : c.self.inside.live < length c.self.inside.heap.items = search rules in
    let is : c.index.result.now ≡ item_at c.self.inside.heap.items c.self.inside.live = get_or_read _ _ _ room c.index.ensures _ in
    let t : Item = record { moment = None; place = c.index.result.now.place } in
    gains_place _ _ _ (subst (λ v. Extends v (moments (c.self.inside.live + 1) (set c.self.inside.heap.items c.self.inside.live t) c.self.inside.places.items) c.index.result.now.place) c.self.view_is (reuse_made c.self.inside.live c.self.inside.heap.items c.self.inside.places.items c.self.invariant room t (ap (λ (u : Item). u.place) is) refl))

pub returns-clause-made : goal.returns-clause-made
returns-clause-made g c =
    let full : length c.self.inside.heap.items ≤ c.self.inside.live = search rules in
    let own : c.len-place.result ≡ length c.self.inside.heap.items = search rules in
    let t : Item = record { moment = None; place = c.len-place.result } in
    let spare : vec_len c.try_reserve.new.self + 1 ≤ vec_capacity c.try_reserve.new.self = c.in_ok-try_reserve.ensures.ok in
    let ok : is_ok c.push-pushed.result ≡ true = c.push-pushed.ensures.succeeds (omega arith) in
    let heap : c.push-pushed.new.self.items ≡ c.self.inside.heap.items ++ t ∷ [] = c.push-pushed.ensures.items ∙ (ap (λ b. if b then c.try_reserve.new.self.items ++ t ∷ [] else c.try_reserve.new.self.items) ok ∙ ap (λ xs. xs ++ t ∷ []) c.try_reserve.ensures.items) in
    let places : c.push.new.self.items ≡ c.self.inside.places.items ++ c.len-place.result ∷ [] = c.in_ok-push.ensures.items in
    gains_place _ _ _ (subst (λ v. Extends v (moments (c.self.inside.live + 1) c.push-pushed.new.self.items c.push.new.self.items) c.len-place.result) c.self.view_is (grow_made_by c.self.inside.live c.self.inside.heap.items c.push-pushed.new.self.items c.self.inside.places.items c.push.new.self.items c.len-place.result c.self.invariant full own heap places))

pub returns-in_err-try_reserve-clause-again : goal.returns-in_err-try_reserve-clause-again
returns-in_err-try_reserve-clause-again g c =
    let full : length c.self.inside.heap.items ≤ c.self.inside.live = search rules in
    λ free. absurd (none_free c.self.inside.live c.self.inside.heap.items c.self.inside.places.items c.self.invariant full (subst (λ v. HasFreePlace v) (sym c.self.view_is) free))

pub returns-in_err-push-clause-again : goal.returns-in_err-push-clause-again
returns-in_err-push-clause-again g c =
    let full : length c.self.inside.heap.items ≤ c.self.inside.live = search rules in
    λ free. absurd (none_free c.self.inside.live c.self.inside.heap.items c.self.inside.places.items c.self.invariant full (subst (λ v. HasFreePlace v) (sym c.self.view_is) free))
