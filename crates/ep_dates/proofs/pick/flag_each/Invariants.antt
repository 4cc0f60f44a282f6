use Rattle.std.proofs.Common.{◌≡◌, take}
use Rattle.ep_dates.specs.Pick.{Flags}
use Rattle.ep_dates.proofs.pick.flag_each.Given as goal

abbrev pub invariant-loop-number : goal.invariant-loop-number
invariant-loop-number l = record {
  flags : Flags l.interest l.dates l.instance.0 (take l.number-index l.picks) l.latest l.flags;
  room : l.flags.room ≡ l.fn.flags.room;
}
