use Rattle.std.proofs.Common.{◌≡◌, ◌<◌, ◌∙◌, IfNone, List, Option, arith, false, refl, subst, sym, take, take_all, true, ℕ}
use Rattle.std.proofs.lemmas.List.{get_or_default}
use Rattle.ep_dates.proofs.PickLemmas.{flags_more, flags_none, no_pick}
use Rattle.ep_dates.specs.Pick.{Flags, FlagsNone, FlagsOne, IsPick}
use Rattle.ep_dates.proofs.pick.flag_each.Goals as goal

pub loop-number-init : goal.loop-number-init
loop-number-init c = record { flags = flags_none c.args.interest.now c.known.ensures c.args.dates.now c.args.instance.0 c.args.flags.now c.requires.none; room = refl }

pub flag-requires-clause-room : goal.flag-requires-clause-room
flag-requires-clause-room c = λ id x at. subst (λ (n : ℕ). id.0 < n) (sym c.loop-number.invariant.room) (c.requires.room id x at)

pub returns-in_err-event-clause-none : goal.returns-in_err-event-clause-none
returns-in_err-event-clause-none c =
    let ks = c.args.picks.now in
    let it = c.number-item.is ∙ get_or_default ks c.loop-number.number-index c.number-item.result 0 c.loop-number-test.true in
    subst (λ (o : Option ℕ). IfNone o ((most : ℕ) → IsPick c.args.interest.now c.args.dates.now c.args.instance.0 most ks → false ≡ true)) (sym c.from_residual.ensures)
    (λ most pick. absurd (no_pick c.args.interest.now c.known.ensures c.args.dates.now c.args.instance.0 ks c.loop-number.number-index c.loop-number.latest most c.loop-number.flags c.loop-number-test.true c.loop-number.invariant.flags
    (subst (λ (k : ℕ). FlagsNone c.args.interest.now c.args.dates.now c.args.instance.0 k c.loop-number.flags) it c.in_err-event.ensures.none) pick))

pub returns-in_err-event-clause-room : goal.returns-in_err-event-clause-room
returns-in_err-event-clause-room c = c.flag.ensures.room ∙ c.loop-number.invariant.room

pub loop-number-preserved : goal.loop-number-preserved
loop-number-preserved c =
    let i = c.loop-number.invariant in
    let it = c.number-item.is ∙ get_or_default c.args.picks.now c.loop-number.number-index c.number-item.result 0 c.loop-number-test.true in
    record {
      flags =
          flags_more c.args.interest.now c.known.ensures c.args.dates.now c.args.instance.0 c.args.picks.now c.loop-number.number-index c.loop-number.latest c.in_ok-event.event c.later-latest.result c.loop-number.flags c.flag.new.flags
          c.loop-number-test.true i.flags (subst (λ (k : ℕ). FlagsOne c.args.interest.now c.args.dates.now c.args.instance.0 k c.in_ok-event.event c.loop-number.flags c.flag.new.flags) it c.in_ok-event.ensures.some)
          c.later-latest.ensures.one c.later-latest.ensures.other c.later-latest.ensures.least;
      room = c.flag.ensures.room ∙ i.room;
    }

pub returns-clause-some : goal.returns-clause-some
returns-clause-some c =
    let all = c.args.picks.now in
    let whole : take c.loop-number.number-index all ≡ all = take_all c.loop-number.number-index all (omega (arith, c.loop-number-test.false)) in
    subst (λ (l : List ℕ). Flags c.args.interest.now c.args.dates.now c.args.instance.0 l c.loop-number.latest c.loop-number.flags) whole c.loop-number.invariant.flags

pub returns-clause-room : goal.returns-clause-room
returns-clause-room c = c.loop-number.invariant.room
