use Rattle.std.proofs.Common.{All, Bool, List, ap, arith, false, get_or, inl, inr, length, set, subst, sym, take, take_all, true, ℕ, ◌<◌, ◌∙◌, ◌≡◌}
use Rattle.std.proofs.lemmas.Bool.{cases_Bool}
use Rattle.std.proofs.lemmas.List.{length-set}
use Rattle.std.proofs.lemmas.List.Elements.{All-contains, All-more, All-weaker, Contains-get_or}
use Rattle.ep_base.specs.declared.ids.DescId.{DescId}
use Rattle.ep_nest.proofs.ElementLemmas.{Contains-from_map, Contains-map, among, from_among}
use Rattle.ep_nest.proofs.GatherLemmas.{marked_before, unmarked_here, unmarked_still}
use Rattle.ep_nest.proofs.NoteLemmas.{below_marks}
use Rattle.ep_nest.specs.Marks.{AreNoted}
use Rattle.ep_nest.specs.Links.{keys}
use Rattle.ep_nest.proofs.reach.unmark.Goals as goal

-- what is reached has a place in the table
inside : (rs : List DescId) (ms : List Bool) (i : ℕ) → AreNoted ms (keys rs) → i < length rs → (get_or rs i (record { 0 = 0 })).0 < length ms
inside rs ms i noted lt =
    let d = get_or rs i (record { 0 = 0 }) in
    below_marks ms d.0 (noted.each d.0 ∙ among (keys rs) d.0 (Contains-map (λ (d : DescId). d.0) rs d (Contains-get_or rs i (record { 0 = 0 }) lt)))

pub bounds-marks-desc : goal.bounds-marks-desc
bounds-marks-desc c =
    let room = c.loop-desc.invariant.room in
    let lt = inside c.args.reached.now c.args.marks.now c.loop-desc.desc-index c.requires c.loop-desc-test.true in omega (arith, room, lt)

pub loop-desc-preserved : goal.loop-desc-preserved
loop-desc-preserved c =
    let rs = c.args.reached.now in
    let i = c.loop-desc.desc-index in
    let ms = c.loop-desc.marks in
    let o = (get_or rs i (record { 0 = 0 })).0 in
    let before = c.loop-desc.invariant in
    let room = before.room in
    let first = inside rs c.args.marks.now i c.requires c.loop-desc-test.true in
    let lt : o < length ms = omega (arith, room, first) in
    record {
      some = λ x h. before.some x (marked_before ms o x lt h);
      done =
          All-more (λ (d : DescId). get_or (set ms o false) d.0 false ≡ false) rs i (record { 0 = 0 }) c.loop-desc-test.true
          (All-weaker (λ (d : DescId). get_or ms d.0 false ≡ false) (λ (d : DescId). get_or (set ms o false) d.0 false ≡ false) (λ d h. unmarked_still ms o d.0 lt h) (take i rs) before.done)
          (unmarked_here ms o lt);
      room = let long = length-set ms o false in omega (arith, long, room);
    }

pub returns-clause-clear : goal.returns-clause-clear
returns-clause-clear c = λ x.
    let rs = c.args.reached.now in
    let ms = c.loop-desc.marks in
    let P : DescId → Type 0 = λ d. get_or ms d.0 false ≡ false in
    let all : take c.loop-desc.desc-index rs ≡ rs = take_all c.loop-desc.desc-index rs (omega (arith, c.loop-desc-test.false)) in
    elim (cases_Bool (get_or ms x false)) [
      | inl on ↦
          let there = sym (c.requires.each x) ∙ c.loop-desc.invariant.some x on in
          let from = Contains-from_map (λ (d : DescId). d.0) rs x (from_among (keys rs) x there) in
          let off = All-contains P rs from.0 (subst (All P) all c.loop-desc.invariant.done) from.1 in
          absurd (let bad : false ≡ true = sym off ∙ (ap (λ (y : ℕ). get_or ms y false) from.2 ∙ on) in cc)
      | inr off ↦ off
    ]
