use Rattle.std.proofs.Common.{◌++◌, ◌∷◌, ◌+◌, [], refl, ap, ◌∙◌, arith, length-append, zip}
use Rattle.ep_paths.proofs.EveryLemmas.{Before, at_end, came, follows_more, pairs_at, went_on}
use Rattle.ep_paths.proofs.runs.run_all.Goals as goal

pub loop-init : goal.loop-init
loop-init g c = ([], refl, refl, Before refl c.new-path.ensures.items)

pub loop-preserved : goal.loop-preserved
loop-preserved g c =
    let i = c.loop.invariant in
    let e = c.in_ok-run.ensures in
    let run = zip c.run.new.path.items (g.R.Runs.given c.run.new.self) in
    let sofar = came i.0 _ _ _ _ i.3 e.comes in (
      i.0 ++ run ∷ [],
      follows_more g.R.Runs.told _ i.0 _ run _ i.1 e.told,
      length-append i.0 (run ∷ []) ∙ ap (λ n. n + 1) i.2,
      went_on (i.0 ++ run ∷ []) _ _ _ e.comes.each sofar (c.next_path.ensures.moved c.if-not-next_path.false),
    )

pub returns-then-not-next_path : goal.returns-then-not-next_path
returns-then-not-next_path g c =
    let i = c.loop.invariant in
    let e = c.in_ok-run.ensures in
    let run = zip c.run.new.path.items (g.R.Runs.given c.run.new.self) in
    let sofar = came i.0 _ _ _ _ i.3 e.comes in
    record {
      made = (
        i.0 ++ run ∷ [],
        follows_more g.R.Runs.told _ i.0 _ run _ i.1 e.told,
        sofar.pairs,
        λ h. absurd (cc),
        λ h. at_end (i.0 ++ run ∷ []) _ _ e.comes.each sofar (c.next_path.ensures.ended c.if-not-next_path.true),
      );
    }

pub returns : goal.returns
returns g c =
    let i = c.loop.invariant in
    record { made = (i.0, i.1, pairs_at i.0 _ _ i.3, λ h. i.2 ∙ omega arith, λ h. absurd (cc)) }
