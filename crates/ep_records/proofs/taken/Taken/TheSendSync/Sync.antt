-- It owns nothing, so any thread may share it.
use denote.Param.Send.{IsSync, part_keyless}
use Rattle.ep_records.specs.contracts.taken.Taken.{the_row}
use Rattle.ep_records.proofs.taken.Taken.TheSendSync.Send.{send}

pub sync : IsSync the_row
sync = record { shared = λ d b o κ q. part_keyless the_row send q d b o }
