use Rattle.std.proofs.Common.{◌∙◌, length, min, sym}
use Rattle.std.proofs.lemmas.Bool.{false≢true}
use Rattle.ep_facts.proofs.NatFacts.{same_test}
use Rattle.ep_dates.proofs.PickLemmas.{pick_late}
use Rattle.ep_rings.specs.PlacedRows.{keys_at}
use Rattle.ep_dates.proofs.pick.is_pick.Goals.{in-Some+then-has_as_many, in-Some+else-has_as_many, in-None}
use Rattle.ep_dates.proofs.pick.is_pick.Goals as goal

pub returns-clause-all : goal.returns-clause-all
returns-clause-all c pick =
    let r = c.args.interest.now in
    let d = c.args.dates.now in
    let ks = c.args.picks.now in
    elim c.match-latest.branch [
      | in-Some+then-has_as_many w ↦
          let late = pick_late r c.known.ensures d c.requires.kept c.args.instance.0 c.args.most ks w.in-Some.latest c.flag_each-latest.new.flags w.in-Some.ensures.some pick in
          w.is_pick-is ∙ w.are_late.ensures.all late
      | in-Some+else-has_as_many w ↦
          let many = same_test (length ks) (min c.args.most (length (keys_at d.rows c.args.instance.0))) pick.many in
          absurd (false≢true (sym w.if-has_as_many.false ∙ (w.has_as_many.ensures ∙ many)))
      | in-None w ↦ absurd (false≢true (w.in-None.ensures.none c.args.most pick))
    ]
