-- What orders come to, and how they are counted.
use Rattle.std.specs.Prelude.{List, [], bytes_eq, flat_map, get_or, if◌then◌else◌, length, map, set, string_bytes, ℕ, ◌+◌, ◌++◌, ◌<◌, ◌==◌, ◌≡◌, ◌∷◌}
use Rattle.std.specs.List.{range_with_len}
use Rattle.ep_base.specs.declared.answer.Answer.{Answer}
use Rattle.ep_base.specs.declared.answer.Answer.TheVariants.{Parked, Still}
use Rattle.ep_base.specs.declared.call.Event.{Event}
use Rattle.ep_base.specs.declared.call.Event.TheVariants.{Resume, Tick}
use Rattle.ep_orders.specs.declared.turn.Turn.{Turn}
use Rattle.ep_orders.specs.declared.turn.Turn.TheVariants as turn
use Rattle.ep_orders.specs.Place.{Move}
use Rattle.ep_version.specs.declared.version.Version.{Version}
use Rattle.ep_text.specs.Line.{line_of}
use Rattle.ep_scenario.specs.declared.step.Step.{Step}
use Rattle.ep_scenario.specs.declared.step.Step.TheVariants as step
use Rattle.ep_scenario.specs.declared.tally.Outcome.{Outcome}
use Rattle.ep_scenario.specs.declared.tally.Tally.{Tally}

-- ---- what callers are told

-- the line of an answer; one that is parked is told nothing before its wait ends
abbrev pub told : Version → Answer → List ℕ
told version Parked = []
told version Still = []
told version answer = line_of version answer

-- what a turn tells the caller of this line
abbrev pub told_to : Version → ℕ → Move → List ℕ
told_to version number (turn.Line n, r) = if n == number then told version r.answer else []
told_to version number (turn.Clock, r) = []

-- an empty line is behind it
abbrev pub told_all : Version → List Move → ℕ → List ℕ
told_all version moves number = flat_map (told_to version number) moves ++ 10 ∷ []

-- of so many callers
abbrev pub outcome : Version → ℕ → List Move → List ℕ
outcome version lines moves = flat_map (told_all version moves) (range_with_len 0 lines)

-- ---- what is done in an order

abbrev pub does : ℕ → Event → Step
does number Resume = step.Resume number
does number e = step.Event number

abbrev pub span_of : Event → ℕ
span_of (Tick n) = n
span_of e = 0

abbrev pub step_of : Move → Step
step_of (turn.Line n, r) = does n r.event
step_of (turn.Clock, r) = step.Tick (span_of r.event)

-- ---- counts

pub record Seen : Type 0 where
  pub told : List ℕ
  pub steps : List Step
  pub first : ℕ
  pub orders : ℕ

abbrev pub seen_of : Outcome → Seen
seen_of o = record { told = string_bytes o.told; steps = o.steps.items; first = o.first; orders = o.orders }

abbrev pub one_more : Seen → Seen
one_more s = record s { orders = s.orders + 1 }

abbrev pub first_of : List ℕ → List Step → ℕ → Seen
first_of told steps number = record { told = told; steps = steps; first = number; orders = 1 }

-- one order more that comes to this; the first such is kept
abbrev pub counted : List ℕ → List Step → ℕ → List Seen → List Seen
counted told steps number [] = first_of told steps number ∷ []
counted told steps number (s ∷ ss) =
    if bytes_eq s.told told then one_more s ∷ ss else s ∷ counted told steps number ss

abbrev pub no_outcome : Seen
no_outcome = record { told = []; steps = []; first = 0; orders = 0 }

-- it is the first of them in which callers were told this
abbrev pub IsSeen : List ℕ → List Seen → ℕ → Type 0
IsSeen told seen place =
    (place < length seen) × ((steps : List Step) (number : ℕ) → counted told steps number seen ≡ set seen place (one_more (get_or seen place no_outcome)))

-- none of them is
abbrev pub IsUnseen : List ℕ → List Seen → Type 0
IsUnseen told seen =
    (steps : List Step) (number : ℕ) → counted told steps number seen ≡ seen ++ first_of told steps number ∷ []

-- what an order does to a tally
pub record Notes (t : Tally) (moves : List Move) (u : Tally) : Type 0 where
  pub version : u.version ≡ t.version
  pub lines : u.lines ≡ t.lines
  pub orders : u.orders ≡ t.orders + 1
  pub outcomes : map seen_of u.outcomes.items ≡ counted (outcome t.version t.lines moves) (map step_of moves) (t.orders + 1) (map seen_of t.outcomes.items)

-- no order yet
pub record IsFresh (version : Version) (lines : ℕ) (t : Tally) : Type 0 where
  pub version_is : t.version ≡ version
  pub lines_are : t.lines ≡ lines
  pub orders : t.orders ≡ 0
  pub outcomes : t.outcomes.items ≡ []
