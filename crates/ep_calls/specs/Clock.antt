-- The clock going on.
use Rattle.std.specs.Prelude.{MatchOption, [], nat_lt, ℕ, ◌+◌, ◌∷◌, ◌≡◌}
use Rattle.ep_base.specs.declared.answer.Answer.{Answer}
use Rattle.ep_base.specs.declared.answer.Answer.TheVariants.{Done, Refused}
use Rattle.ep_base.specs.declared.errno.Errno.TheVariants.{Einval}
use Rattle.ep_machine.specs.Effect.{first}
use Rattle.ep_machine.specs.Timer.{last_moment}
use Rattle.ep_calls.specs.declared.raising.Raising.{Raising}
use Rattle.ep_calls.specs.declared.raising.Raising.TheVariants.{Clock, Nowhere}

-- it goes on by so much, or is refused to and stays
abbrev pub Ticks : ℕ → ℕ → ℕ → Answer → Type 0
Ticks now k then answer = MatchOption (first ((nat_lt last_moment (now + k), Einval) ∷ []))
    ((answer ≡ Done) × (then ≡ now + k)) (λ e. (answer ≡ Refused e) × (then ≡ now))

-- what that raises is raised since the moment before
abbrev pub Sets : ℕ → ℕ → Raising → Type 0
Sets now k raising = MatchOption (first ((nat_lt last_moment (now + k), Einval) ∷ [])) (raising ≡ Clock now) (λ e. raising ≡ Nowhere)

-- the clock stays, and raises nothing
abbrev pub ClockStays : Raising → ℕ → ℕ → Type 0
ClockStays (Clock since) before now = ⊥
ClockStays raising before now = now ≡ before
