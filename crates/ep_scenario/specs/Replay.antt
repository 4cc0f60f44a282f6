-- A script that plays an order again.
use Rattle.std.specs.Prelude.{List, None, Option, Some, [], codes, decimal, length, option_and_then, replicate, slice_get, slice_index, slice_set, ℕ, ◌+◌, ◌++◌, ◌∷◌}
use Rattle.ep_scenario.specs.Reading.{Part, Plan, Text}
use Rattle.ep_scenario.specs.declared.step.Step.{Step}
use Rattle.ep_scenario.specs.declared.step.Step.TheVariants as step
use Rattle.ep_version.specs.Version.{shown_in}

-- of the event of this place, in the line of this number
abbrev pub text_at : List (List Text) → ℕ → ℕ → Option Text
text_at texts number place = option_and_then (λ ts. slice_get ts place) (slice_get texts number)

abbrev pub text_line : Option Text → List ℕ
text_line None = []
text_line (Some text) = text ++ 10 ∷ []

abbrev pub resumption_of : Option Part → List ℕ
resumption_of None = []
resumption_of (Some p) = codes "{\"op\":\"resume\",\"by\":" ++ decimal p.0.0 ++ codes "}\n"

-- the caller of this line goes on in its wait
abbrev pub resumption : List Part → ℕ → List ℕ
resumption parts number = resumption_of (slice_get parts number)

abbrev pub tick : ℕ → List ℕ
tick n = codes "{\"op\":\"tick\",\"n\":" ++ decimal n ++ codes "}\n"

-- `done` has of each line how many of its events stand before
abbrev pub step_text : Plan → List ℕ → Step → List ℕ
step_text p done (step.Event number) = text_line (text_at p.texts number (slice_index done number))
step_text p done (step.Resume number) = resumption p.lines number
step_text p done (step.Tick span) = tick (shown_in p.version span)

abbrev pub done_by : List ℕ → Step → List ℕ
done_by done (step.Event number) = slice_set done number (slice_index done number + 1)
done_by done (step.Resume number) = done
done_by done (step.Tick span) = done

abbrev pub played : Plan → List ℕ → List Step → List ℕ
played p done [] = []
played p done (s ∷ ss) = step_text p done s ++ played p (done_by done s) ss

-- the header and the setup, and a line for each step
abbrev pub play : Plan → List Step → List ℕ
play p steps = p.head ++ played p (replicate (length p.texts) 0) steps
