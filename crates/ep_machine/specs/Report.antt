-- Reports and their fairness.
use Rattle.std.specs.List.{filter_map, find, list_all}
use Rattle.std.specs.Prelude.{Bool, List, None, Option, Some, [], if◌then◌else◌, length, map, min, nat_le}
use Rattle.std.specs.Prelude.{not, ℕ, ◌&&◌, ◌==◌, ◌||◌, ◌∷◌}
use Rattle.ep_base.specs.declared.answer.Answer.TheVariants.{Events}
use Rattle.ep_base.specs.declared.answer.Report.{Report}
use Rattle.ep_machine.specs.Bits.{ONESHOT, has_bit}
use Rattle.ep_machine.specs.Readiness.{reportables, shown}
use Rattle.ep_machine.specs.State.{Change, State, Watch, counts_of}
use Rattle.ep_machine.specs.Lists.{are_distinct, is_among}

abbrev pub find_watch : List Watch → ℕ → Option Watch
find_watch xs k = find (λ x. x.number == k) xs

-- the registrations of these numbers that are there
abbrev pub watches_at : List Watch → List ℕ → List Watch
watches_at xs ks = filter_map (find_watch xs) ks

-- where y is left out, nobody reported was reported since y came to be reportable
abbrev pub is_fair_to : List Watch → List ℕ → Watch → Bool
is_fair_to told ks y = is_among ks y.number || list_all (λ x. nat_le x.rep y.from) told

abbrev pub is_pick : State → ℕ → ℕ → List ℕ → Bool
is_pick s e most ks =
    let ready = reportables s e in
    let told = watches_at ready ks in
    are_distinct ks && length told == length ks && length ks == min most (length ready) && list_all (is_fair_to told ks) ready

abbrev pub report_of : State → Watch → Report
report_of s x = record { bits = record { 0 = shown s x }; tag = x.tag }

-- a one-shot is disarmed
abbrev pub reported : State → List ℕ → Watch → Watch
reported s ks x =
    if is_among ks x.number then
    record x { seen = Some (counts_of s x.target); rep = s.n; from = s.n; armed = x.armed && not (has_bit x.mask ONESHOT) }
    else x

abbrev pub report : State → ℕ → ℕ → List ℕ → Option Change
report s e most ks =
    if is_pick s e most ks
    then Some (Events (map (report_of s) (watches_at s.watches ks)), record s { watches = map (reported s ks) s.watches }, [])
    else None

-- an event that makes no report picks nothing
abbrev pub plainly : {X : Type 0} → List ℕ → X → Option X
plainly [] x = Some x
plainly (k ∷ ks) x = None
