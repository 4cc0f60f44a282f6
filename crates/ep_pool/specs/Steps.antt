-- What the steps of a job add to the records of its session.
use Rattle.std.specs.Prelude.{◌≡◌, ◌++◌, ◌∷◌, ◌⊎◌, [], List, MatchOption, Option, false, length, ℕ}
use Rattle.ep_base.specs.declared.answer.Answer.{Answer}
use Rattle.ep_base.specs.declared.answer.Answer.TheVariants.{Refused}
use Rattle.ep_base.specs.declared.call.Call.TheVariants.{EpollWait}
use Rattle.ep_base.specs.declared.call.Event.TheVariants.{Call as CallOf, Tick as TickOf}
use Rattle.ep_base.specs.declared.errno.Errno.TheVariants.{Enomem}
use Rattle.ep_base.specs.declared.record.Record.{Record}
use Rattle.ep_calls.specs.Acts.{is_no_memory}
use Rattle.ep_pool.specs.declared.job.Step.{Step}
use Rattle.ep_pool.specs.declared.job.Step.TheVariants.{Call, Tick, Wait}
use Rattle.ep_shared.specs.Told.{Adds, WaitAdds}

-- a step that was answered so
abbrev pub Makes : ℕ → List Record → List Record → Step → Answer → Type 0
Makes caller old new (Call pid call) answer = Adds caller (CallOf pid call) answer old new
Makes caller old new (Wait pid epfd most timeout) answer = WaitAdds caller (CallOf pid (EpollWait epfd most timeout)) answer old new
Makes caller old new (Tick n) answer = Adds caller (TickOf n) answer old new

-- a step that was made
pub record StepAdds (caller : ℕ) (old new : List Record) (step : Step) : Type 0 where
  pub answer : Answer
  pub real : is_no_memory answer ≡ false
  pub makes : Makes caller old new step answer

-- a step that wanted memory
abbrev pub StopAdds : ℕ → List Record → List Record → Step → Type 0
StopAdds caller old new step = Makes caller old new step (Refused Enomem)

-- one step after another
abbrev pub StepsAdd : ℕ → List Record → List Record → List Step → Type 0
StepsAdd caller old new [] = new ≡ old
StepsAdd caller old new (step ∷ steps) = (mid : List Record) × StepAdds caller old mid step × StepsAdd caller mid new steps

-- the first k steps, and then at most what the next one adds where it wants memory
pub record Stops (caller : ℕ) (old new : List Record) (steps : List Step) (k : ℕ) : Type 0 where
  pub made : List Step
  pub next : Step
  pub rest : List Step
  pub parts : steps ≡ made ++ next ∷ rest
  pub count : length made ≡ k
  pub mid : List Record
  pub adds : StepsAdd caller old mid made
  pub last : (new ≡ mid) ⊎ StopAdds caller mid new next

-- all steps, or those before it stopped
abbrev pub JobAdds : ℕ → List Record → List Record → List Step → Option ℕ → Type 0
JobAdds caller old new steps stopped = MatchOption stopped (StepsAdd caller old new steps) (Stops caller old new steps)
