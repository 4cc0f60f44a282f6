-- What goes on by itself: who is resumed first, and the moment to which the clock is moved where nobody is.
use Rattle.std.specs.List.{find, list_any}
use Rattle.std.specs.Option.{option_map}
use Rattle.std.specs.Prelude.{◌≡◌, ◌<◌, ◌≤◌, ◌+◌, ◌-◌, ◌&&◌, ◌||◌, Bool, MatchOption, Option, false, nat_lt, not, true, ℕ}
use Rattle.ep_machine.specs.State.{State}
use Rattle.ep_machine.specs.Timer.{last_moment}
use Rattle.ep_machine.specs.Waits.{is_due, tick}

-- of the marked callers the one that was parked first
abbrev pub first_marked : State → Option ℕ
first_marked s = option_map (λ w. w.caller) (find (λ w. w.marked) s.waiters)

-- a tick of k raises a bit
abbrev pub tick_raises : State → ℕ → Bool
tick_raises s k = list_any (λ x. nat_lt 0 x.1) (tick s k).2

-- it marks a caller, whose deadline it reaches
abbrev pub tick_marks : State → ℕ → Bool
tick_marks s k = let after = (tick s k).1 in list_any (λ w. not w.marked && is_due after.now w.deadline) after.waiters

-- it does either
abbrev pub has_effect : State → ℕ → Bool
has_effect s k = tick_raises s k || tick_marks s k

-- no tick does, of those that aren't refused
abbrev pub HasNoEffect : State → Type 0
HasNoEffect s = (k : ℕ) → s.now + k ≤ last_moment → has_effect s k ≡ false

-- the tick to this moment does, and no shorter one
pub record IsNextEffect (s : State) (moment : ℕ) : Type 0 where
  pub later : s.now < moment
  pub comes : moment ≤ last_moment
  pub effect : has_effect s (moment - s.now) ≡ true
  pub first : (k : ℕ) → s.now + k < moment → has_effect s k ≡ false

abbrev pub TellsNext : State → Option ℕ → Type 0
TellsNext s o = MatchOption o (HasNoEffect s) (IsNextEffect s)
