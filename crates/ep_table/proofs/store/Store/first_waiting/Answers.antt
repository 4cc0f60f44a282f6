use Rattle.std.proofs.Common.{None, Option, Some, ap, arith, slice_get, sym, ℕ, ◌∙◌, ◌≡◌}
use Rattle.ep_machine.specs.Connections.{first_waiting, pending_in}
use Rattle.ep_machine.specs.Objects.{Object}
use Rattle.ep_table.proofs.AcceptingLemmas.{drop_past, found_here, not_here}
use Rattle.ep_table.proofs.LettingGoLemmas.{within}
use Rattle.ep_table.specs.Value.{Things, content_of, files_in, thing_number, unwrapped}
use Rattle.ep_machine.specs.Files.{object_of}
use Rattle.ep_base.specs.declared.ids.DescId.{DescId}
use Rattle.ep_table.proofs.store.Store.first_waiting.Goals as goal

-- what stands there at an index
at_index : (v : Things) (key : DescId) (x : Object) (i : ℕ) (o : Option ℕ) → Some x ≡ object_of (files_in v) (thing_number v key) → o ≡ slice_get (pending_in x) i → slice_get (pending_in (content_of (files_in v) (thing_number v key))) i ≡ o
at_index v key x i o is h = ap (λ (y : Option Object). slice_get (pending_in (unwrapped y)) i) (sym is) ∙ sym h

pub returns-then-is_waiting-clause-some : goal.returns-then-is_waiting-clause-some
returns-then-is_waiting-clause-some g c =
    let v = c.args.self.now in
    let at = at_index v c.args.key c.object.result.now c.loop-number.index (Some c.in-Some.number) c.object.ensures (sym c.in-Some.is ∙ c.pending.ensures.number) in
    let pending = pending_in (content_of (files_in v) (thing_number v c.args.key)) in
    record { first = found_here (files_in v) pending c.loop-number.index c.in-Some.number c.loop-number.invariant at (sym c.is_waiting.ensures ∙ c.if-is_waiting.true); place = at }

pub loop-number-smaller : goal.loop-number-smaller
loop-number-smaller g c =
    let v = c.args.self.now in
    let at = at_index v c.args.key c.object.result.now c.loop-number.index (Some c.in-Some.number) c.object.ensures (sym c.in-Some.is ∙ c.pending.ensures.number) in
    omega (arith, within (pending_in (content_of (files_in v) (thing_number v c.args.key))) c.loop-number.index c.in-Some.number at)

pub loop-number-preserved : goal.loop-number-preserved
loop-number-preserved g c =
    let v = c.args.self.now in
    let at = at_index v c.args.key c.object.result.now c.loop-number.index (Some c.in-Some.number) c.object.ensures (sym c.in-Some.is ∙ c.pending.ensures.number) in
    let pending = pending_in (content_of (files_in v) (thing_number v c.args.key)) in
    not_here (files_in v) pending c.loop-number.index c.in-Some.number c.loop-number.invariant at (sym c.is_waiting.ensures ∙ c.if-is_waiting.false)

pub returns-clause-none : goal.returns-clause-none
returns-clause-none g c =
    let v = c.args.self.now in
    let at = at_index v c.args.key c.object.result.now c.loop-number.index None c.object.ensures (sym c.in_default.is ∙ c.pending.ensures.number) in
    let pending = pending_in (content_of (files_in v) (thing_number v c.args.key)) in
    c.loop-number.invariant ∙ ap (first_waiting (files_in v)) (drop_past pending c.loop-number.index at)
