use Rattle.std.proofs.Common.{◌≡◌, ◌∙◌, ◌<◌, ℕ, Bool, List, Some, ap, arith, get_or, length, slice_get, subst, sym, take, take_all}
use Rattle.std.specs.List.{list_any}
use Rattle.std.proofs.lemmas.Option.{get_or_from_slice_get}
use Rattle.ep_climb.proofs.ClimbLemmas.{among_here}
use Rattle.ep_kernel.proofs.BesideLemmas.{both_then, each_start, each_then}
use Rattle.ep_kernel.proofs.PushLemmas.{any_next, gains_none, have_still}
use Rattle.ep_kernel.specs.Beside.{Each}
use Rattle.ep_kernel.specs.Push.{Gains, comes_on}
use Rattle.ep_kernel.specs.declared.beside.Beside.{Beside}
use Rattle.ep_kernel.proofs.push.push_nested.Goals as goal
use Rattle.ep_machine.specs.Lists.{is_among}
use Rattle.ep_ready.specs.ReadyLists.{Lists}

-- what is reached stays
reached_still : (b c : Beside) {R : Lists → Lists → Type 0} → Each R b c → c.reached.reached ≡ b.reached.reached
reached_still b c each = ap (λ (x : Beside). x.reached.reached) each.rest

pub loop-index-init : goal.loop-index-init
loop-index-init c = each_start gains_none

pub at-requires : goal.at-requires
at-requires c =
    let i = c.loop-index.index in
    let less : i < length c.args.beside.now.reached.reached = omega (arith, c.loop-index-test.true, c.count-index-end.ensures) in
    subst (λ (ks : List ℕ). i < length ks) (sym (reached_still c.args.beside.now c.loop-index.beside c.loop-index.invariant)) less

pub push_above-requires-clause-places : goal.push_above-requires-clause-places
push_above-requires-clause-places c = both_then (have_still c.args.parts.now.interest _) c.requires.places c.loop-index.invariant.alike

-- the instance that is next
next_at : (b l : Beside) (i n : ℕ) → l.reached.reached ≡ b.reached.reached → slice_get l.reached.reached i ≡ Some n → get_or b.reached.reached i 0 ≡ n
next_at b l i n same at = get_or_from_slice_get b.reached.reached i n 0 (subst (λ (ks : List ℕ). slice_get ks i ≡ Some n) same at)

pub push_above-requires-clause-live : goal.push_above-requires-clause-live
push_above-requires-clause-live c =
    let b = c.args.beside.now in
    let ks = b.reached.reached in
    let i = c.loop-index.index in
    let less : i < length ks = omega (arith, c.loop-index-test.true, c.count-index-end.ensures) in
    let here = next_at b c.loop-index.beside i c.at.result (reached_still b c.loop-index.beside c.loop-index.invariant) c.at.ensures in
    c.requires.live (record { 0 = c.at.result }) (ap (is_among ks) (sym here) ∙ among_here ks i less)

pub loop-index-preserved : goal.loop-index-preserved
loop-index-preserved c =
    let b = c.args.beside.now in
    let ks = b.reached.reached in
    let i = c.loop-index.index in
    let less : i < length ks = omega (arith, c.loop-index-test.true, c.count-index-end.ensures) in
    let here = next_at b c.loop-index.beside i c.at.result (reached_still b c.loop-index.beside c.loop-index.invariant) c.at.ensures in
    let f : ℕ → ℕ → Bool = λ j k. comes_on c.args.parts.now (record { 0 = j }) k in
    each_then (λ l m n. any_next f ks i 0 l m n less) c.loop-index.invariant (subst (λ (j : ℕ). Each (Gains (f j)) c.loop-index.beside c.push_above.new.beside) (sym here) c.push_above.ensures)

pub returns : goal.returns
returns c =
    let ks = c.args.beside.now.reached.reached in
    let whole : take c.loop-index.index ks ≡ ks = take_all c.loop-index.index ks (omega (arith, c.loop-index-test.false, c.count-index-end.ensures)) in
    subst (λ (xs : List ℕ). Each (Gains (λ k. list_any (λ i. comes_on c.args.parts.now (record { 0 = i }) k) xs)) c.args.beside.now c.loop-index.beside) whole c.loop-index.invariant
