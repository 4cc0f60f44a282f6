-- What a script says, as a scenario.
use Rattle.std.specs.Prelude.{Bool, List, None, Option, Some, [], false, get_or, if◌then◌else◌, length, map, option_and_then, set, suc, true, zero, ℕ, ◌+◌, ◌++◌, ◌<◌, ◌&&◌, ◌==◌, ◌≡◌, ◌∷◌}
use Rattle.std.specs.declared.vec.Vec.{Vec}
use Rattle.ep_base.specs.declared.call.Event.{Event}
use Rattle.ep_base.specs.declared.call.Event.TheVariants.{Call as CallOf, Resume, Tick}
use Rattle.ep_base.specs.declared.ids.CallerId.{CallerId}
use Rattle.ep_orders.specs.declared.scenario.Line.{Line}
use Rattle.ep_version.specs.declared.version.Version.{Version}
use Rattle.ep_version.specs.declared.version.Version.TheVariants.{V1}
use Rattle.ep_text.specs.Event.{Command, event}
use Rattle.ep_text.specs.Header.{header}
use Rattle.ep_scenario.specs.declared.fault.ScriptFault.{ScriptFault}
use Rattle.ep_scenario.specs.declared.fault.ScriptFault.TheVariants as fault
use Rattle.ep_scenario.specs.declared.script.Script.{Script}

abbrev pub Text : Type 0
Text = List ℕ

-- a caller, and what it asks for
abbrev pub Part : Type 0
Part = CallerId × List Event

abbrev pub part_of : Line → Part
part_of l = (l.caller, l.events.items)

-- of each event its text
abbrev pub texts_in : {A B : Type 0} → List (Vec (Vec ℕ B) A) → List (List Text)
texts_in tss = map (λ ts. map (λ t. t.items) ts.items) tss

-- what a script says
pub record Plan : Type 0 where
  pub version : Version
  pub setup : List Command
  pub lines : List Part
  pub head : Text  -- the header and the setup, as they stand
  pub texts : List (List Text)  -- of each line, those of its events

abbrev pub plan_of : Script → Plan
plan_of s = record {
  version = s.version;
  setup = s.scenario.setup.items;
  lines = map part_of s.scenario.lines.items;
  head = s.head.items;
  texts = texts_in s.texts.items;
}

-- before the first line
abbrev pub blank : Plan
blank = record { version = V1; setup = []; lines = []; head = []; texts = [] }

abbrev pub no_part : Part
no_part = (record { 0 = 0 }, [])

abbrev pub more_of : Event → Part → Part
more_of e p = (p.0, p.1 ++ e ∷ [])

-- behind the events of this caller
abbrev pub put : CallerId → Event → List Part → List Part
put caller e [] = (caller, e ∷ []) ∷ []
put caller e (p ∷ ps) = if p.0.0 == caller.0 then more_of e p ∷ ps else p ∷ put caller e ps

-- the number of this caller's line, and of the next line if it has none
abbrev pub number_of : CallerId → List Part → ℕ
number_of caller [] = 0
number_of caller (p ∷ ps) = if p.0.0 == caller.0 then 0 else number_of caller ps + 1

-- the line of this number is the first that is the caller's
abbrev pub IsAt : CallerId → List Part → ℕ → Type 0
IsAt caller parts number =
    (number < length parts) × (number_of caller parts ≡ number)
    × ((e : Event) → put caller e parts ≡ set parts number (more_of e (get_or parts number no_part)))

-- no line is the caller's
abbrev pub IsNew : CallerId → List Part → Type 0
IsNew caller parts =
    (number_of caller parts ≡ length parts) × ((e : Event) → put caller e parts ≡ parts ++ (caller, e ∷ []) ∷ [])

-- behind the texts of the line of this number, or as the first of a new one
abbrev pub put_text : ℕ → Text → List (List Text) → List (List Text)
put_text number t [] = (t ∷ []) ∷ []
put_text zero t (ts ∷ tss) = (ts ++ t ∷ []) ∷ tss
put_text (suc number) t (ts ∷ tss) = ts ∷ put_text number t tss

-- a line of the header or of the setup
abbrev pub with_head : Text → Plan → Plan
with_head t p = record p { head = p.head ++ (t ++ 10 ∷ []) }

abbrev pub is_nothing : List Part → Bool
is_nothing [] = true
is_nothing (p ∷ ps) = false

-- what caller 0 asks for before anybody else does is the setup
abbrev pub placed : CallerId → Event → Text → Plan → Plan
placed caller e t p =
    if (caller.0 == 0) && is_nothing p.lines then with_head t (record p { setup = p.setup ++ (caller, e) ∷ [] })
    else record p { lines = put caller e p.lines; texts = put_text (number_of caller p.lines) t p.texts }

abbrev pub is_call : Event → Bool
is_call (CallOf pid call) = true
is_call Resume = false
is_call (Tick n) = false

abbrev pub versioned : Version → Text → Plan → Plan
versioned version t p = with_head t (record p { version = version })

abbrev pub with_line : Plan → Text → Option Version → Option Command → Option Plan
with_line p t (Some version) c = Some (versioned version t p)
with_line p t None None = None
with_line p t None (Some c) = if is_call c.1 then Some (placed c.0 c.1 t p) else None

-- the line of this number: only the first can be a header
abbrev pub with_text : ℕ → Plan → Text → Option Plan
with_text number p line = with_line p line (if number == 1 then header line else None) (event p.version line)

-- lines from this number on
abbrev pub with_texts : ℕ → Plan → List Text → Option Plan
with_texts number p [] = Some p
with_texts number p (l ∷ ls) = option_and_then (λ q. with_texts (number + 1) q ls) (with_text number p l)

-- it says of a line that it is no call
abbrev pub is_no_call : ScriptFault → Bool
is_no_call fault.Memory = false
is_no_call (fault.NoCommand line reason) = true
is_no_call (fault.Resumption line) = true
is_no_call (fault.Tick line) = true
is_no_call (fault.Long line) = false
is_no_call fault.Lines = false
