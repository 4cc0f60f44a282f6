-- Room for what is asked of exclusive registrations.
use Rattle.std.specs.Prelude.{List, true, ℕ, ◌<◌, ◌≡◌, ◌≤◌}
use Rattle.ep_base.specs.declared.mask.Mask.{Mask}
use Rattle.ep_calls.specs.declared.control.Named.{Named}
use Rattle.ep_choice.specs.Choose.{HasKeys}
use Rattle.ep_choice.specs.Narrow.{HasTargets}
use Rattle.ep_choice.specs.declared.choice.Choice.{Choice}
use Rattle.ep_climb.specs.Reach.{AreRoomy}
use Rattle.ep_interest.specs.Registrations.{Registrations}
use Rattle.ep_machine.specs.Bits.{EXCLUSIVE, has_bit}
use Rattle.ep_machine.specs.Lists.{is_among}
use Rattle.ep_walk.specs.Walk.{Walk}

-- there is room for the key and the target of each exclusive registration, and for the instance of any
pub record Suits (r : Registrations) (c : Choice) : Type 0 where
  pub candidates : HasKeys r c.candidates.keys
  pub targets : HasTargets r c.targets
  pub lost : AreRoomy r c.lost

-- a walk has room for these
abbrev pub HaveRoom : List ℕ → Walk → Type 0
HaveRoom ks w = (i : ℕ) → is_among ks i ≡ true → i < w.room

-- no less room, and nothing is lost that was not
pub record Widens (old new : Choice) : Type 0 where
  pub candidates : old.candidates.keys.room ≤ new.candidates.keys.room
  pub targets : old.targets.room ≤ new.targets.room
  pub lost : old.lost.room ≤ new.lost.room
  pub kept : new.lost.reached ≡ old.lost.reached

-- room for a registration of these two with a mask, under a key
pub record HasRoomFor (c : Choice) (named : Named) (mask : Mask) (key : ℕ) : Type 0 where
  pub lost : named.instance.0 < c.lost.room
  pub targets : has_bit mask.0 EXCLUSIVE ≡ true → named.desc.0 < c.targets.room
  pub candidates : has_bit mask.0 EXCLUSIVE ≡ true → key < c.candidates.keys.room
