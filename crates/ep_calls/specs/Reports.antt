-- What a wait that isn't refused does.
use Rattle.std.specs.Prelude.{◌≡◌, List, map, ℕ}
use Rattle.ep_base.specs.declared.answer.Answer.{Answer}
use Rattle.ep_base.specs.declared.answer.Answer.TheVariants.{Events}
use Rattle.ep_interest.specs.Registrations.{Registrations}
use Rattle.ep_calls.specs.Wait.{with_report, numbers_of, report_of}
use Rattle.ep_calls.specs.declared.wait.Reportable.{Reportable}

-- it reports what was chosen, and notes that it did
pub record Reports (old new : Registrations) (step : ℕ) (chosen : List Reportable) (answer : Answer) (picked : List ℕ) : Type 0 where
  pub answers : answer ≡ Events (map report_of chosen)
  pub picks : picked ≡ numbers_of chosen
  pub entries : new.entries ≡ map (with_report step (numbers_of chosen)) old.entries
  pub keys : new.keys ≡ old.keys
  pub added : new.added ≡ old.added
