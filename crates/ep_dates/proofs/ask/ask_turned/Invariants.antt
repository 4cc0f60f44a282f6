use Rattle.std.proofs.Common.{◌≡◌, ◌-◌, Bool, drop, false, take, true, ℕ}
use Rattle.ep_dates.specs.Ask.{AreSettled, AreWatched, Asks, shows_over}
use Rattle.ep_machine.specs.Lists.{are_distinct}
use Rattle.ep_dates.proofs.ask.ask_turned.Given as goal

abbrev pub invariant-loop-index : goal.invariant-loop-index
invariant-loop-index l = record {
  turns : Asks l.question.comes l.question.event l.parts (λ k. false) l.fn.dates l.dates;
  once : are_distinct l.dates.turned.reached ≡ true;
  settled : (asked : ℕ → Bool) → AreSettled l.question.comes l.parts.interest (shows_over l.parts) l.fn.dates (drop l.fn.from l.fn.dates.turned.reached) asked
      → AreSettled l.question.comes l.parts.interest (shows_over l.parts) l.dates (drop l.index l.dates.turned.reached) asked;
  watched : AreWatched l.question.comes l.parts l.fn.dates (take l.fn.from l.fn.dates.turned.reached) → AreWatched l.question.comes l.parts l.dates (take l.index l.dates.turned.reached);
}

abbrev pub decreases-loop-index : goal.decreases-loop-index
decreases-loop-index l = l.dates.turned.room - l.index
