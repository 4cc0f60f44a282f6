use Rattle.std.proofs.Common.{List, [], ap, arith, if◌then◌else◌, length, subst, sym, ℕ, ◌++◌, ◌<◌, ◌==◌, ◌∙◌, ◌≡◌, ◌∷◌}
use Rattle.std.specs.Map.{keys_of}
use Rattle.ep_nest.proofs.AdjacentLemmas.{map_kept, map_more, on_err}
use Rattle.ep_nest.proofs.TurnLemmas.{AreBelow}
use Rattle.ep_nest.specs.Adjacent.{entries_at, turns_at}
use Rattle.ep_nest.specs.declared.link.Link.{Link}
use Rattle.ep_nest.proofs.adjacent.Adjacent.add.Goals as goal

pub returns-in_err-insert-clause-kept : goal.returns-in_err-insert-clause-kept
returns-in_err-insert-clause-kept g c =
    let maps = c.open.new.maps.items in
    let i = c.args.instance.0 in
    let placed : i < length maps = omega (arith, c.open.new.maps.ok.0, c.in_ok-open.ensures.placed) in
    let before : (k : ℕ) → entries_at maps k ≡ turns_at c.args.self.now k = λ k. c.open.ensures.kept k ∙ ap (λ tss. turns_at tss k) c.self.view_is in
    let same = map_kept maps i c.index_mut.result.now c.insert.new.self placed c.index_mut.ensures.value c.in_err-insert.ensures.err in
    on_err c.from_residual-in_err-insert.result (λ k. same k ∙ before k)

pub returns-clause-added : goal.returns-clause-added
returns-clause-added g c =
    let maps = c.open.new.maps.items in
    let i = c.args.instance.0 in
    let t = c.args.ticket in
    let l = c.args.link in
    let placed : i < length maps = omega (arith, c.open.new.maps.ok.0, c.in_ok-open.ensures.placed) in
    let before : (k : ℕ) → entries_at maps k ≡ turns_at c.args.self.now k = λ k. c.open.ensures.kept k ∙ ap (λ tss. turns_at tss k) c.self.view_is in
    let under = subst (λ (ts : List (ℕ × Link)). AreBelow t (keys_of ts)) (sym (before i)) c.requires in
    let more = map_more maps i c.index_mut.result.now c.insert.new.self placed c.index_mut.ensures.value t l under c.in_ok-insert.ensures.entries in
    λ k. more k ∙ ap (λ (ts : List (ℕ × Link)). ts ++ (if i == k then (t, l) ∷ [] else [])) (before k)
