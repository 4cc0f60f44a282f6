-- What instances answered in an event: whether they find somebody.
use Rattle.std.specs.Prelude.{Bool, List, [], false, if◌then◌else◌, true, ℕ, ◌≡◌}
use Rattle.ep_choice.specs.Choose.{finds_entry}
use Rattle.ep_choice.specs.declared.candidates.Candidates.{Candidates}
use Rattle.ep_interest.specs.Registrations.{Registrations}
use Rattle.ep_interest.specs.declared.entry.Entry.{Entry}
use Rattle.ep_machine.specs.Lists.{is_among}
use Rattle.ep_machine.specs.State.{Waiter}
use Rattle.ep_walk.specs.Walk.{with_noted}
use Rattle.ep_table.specs.Value.{Seen}

-- with the answer of an instance, if there is room for it
abbrev pub with_answer : Candidates → ℕ → Bool → Candidates
with_answer c key finds =
    if finds then record c { found = with_noted c.found key } else record c { vain = with_noted c.vain key }

-- no instance answered yet
pub record KnowsNone (c : Candidates) : Type 0 where
  pub found : c.found.reached ≡ []
  pub vain : c.vain.reached ≡ []

-- what instances answered is what registrations of theirs find
pub record AreAnswers (v : Seen) (now : ℕ) (r : Registrations) (ws : List Waiter) (c : Candidates) : Type 0 where
  pub found : (x : Entry) → is_among c.found.reached x.instance.0 ≡ true → finds_entry v now r ws x ≡ true
  pub vain : (x : Entry) → is_among c.vain.reached x.instance.0 ≡ true → finds_entry v now r ws x ≡ false
