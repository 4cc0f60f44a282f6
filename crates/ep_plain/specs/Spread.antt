-- What spreads in an event, with the dates.
use Rattle.std.specs.Prelude.{◌≡◌, ℕ}
use Rattle.ep_calls.specs.Ends.{Spreads}
use Rattle.ep_calls.specs.Parts.{Parts}
use Rattle.ep_calls.specs.declared.raising.Raising.{Raising}
use Rattle.ep_choice.specs.Lost.{NotesLost}
use Rattle.ep_climb.specs.Reach.{AreReached}
use Rattle.ep_plain.specs.Dating.{Fits}
use Rattle.ep_plain.specs.Loses.{Loses}
use Rattle.ep_plain.specs.declared.dating.Dating.{Dating}

-- what goes loses its date; the instances that lost their last are the `gone`, and those that IN reached the `reached`
pub record SpreadsTo (n : ℕ) (raising : Raising) (old : Parts) (d : Dating) (new : Parts) (e : Dating) : Type 0 where
  pub spreads : Spreads n raising old new
  pub reached : AreReached n spreads.buried.tables spreads.buried.interest e.reached.reached
  pub loses : Loses old.interest new.interest d.dates (record e.dates { turned = e.gone })
  pub fits : Fits new.interest e
  pub altered : e.altered ≡ d.altered
  pub lost : NotesLost old new d.choice.lost.reached e.choice.lost.reached
