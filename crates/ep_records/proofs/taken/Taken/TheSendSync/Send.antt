-- It owns nothing, so it may go to any thread.
use denote.Param.Send.{IsSend, owning_send}
use Rattle.ep_records.specs.contracts.taken.Taken.{the_row, the_type}

pub send : IsSend the_row
send = owning_send the_type tt (λ d. tt) (λ k x w. tt)
