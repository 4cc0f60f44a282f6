-- A second record of one event, in a list of the caller's.
use Rattle.std.specs.Prelude.{◌≡◌, ◌≤◌, List, [], ◌∷◌, ◌++◌, MatchBool, None, Option, Some, length, ℕ}
use Rattle.std.specs.declared.alloc.Global.{Global}
use Rattle.std.specs.declared.boxed.Box.{Box}
use Rattle.std.specs.Coded.{le_prop}
use Rattle.std.specs.Option.{ForSome}
use Rattle.ep_base.specs.Answer.{FitsInline}
use Rattle.ep_base.specs.declared.answer.Answer.{Answer}
use Rattle.ep_base.specs.declared.answer.Answer.TheVariants.{Bytes, Events}
use Rattle.ep_base.specs.declared.call.Event.{Event}
use Rattle.ep_base.specs.declared.ids.CallerId.{CallerId}
use Rattle.ep_base.specs.declared.record.Record.{Record}
use Rattle.ep_calls.specs.Acts.{is_no_memory}
use Rattle.ep_calls.specs.declared.copies.Copies.{Copies}
use Rattle.ep_calls.specs.declared.spare.Spare.{Spare}

-- what takes no memory to copy
abbrev pub IsInline : Answer → List ℕ → Type 0
IsInline answer picked = FitsInline answer × (length picked ≤ 4)

-- the copy, if there is one
abbrev pub IsCopied : Option Spare → Answer → List ℕ → Type 0
IsCopied spare answer picked = ForSome spare (λ s. (s.answer ≡ answer) × (s.picked ≡ picked))

-- those that were made for a second record
abbrev pub spare_in : Option (Box Copies Global) → Option Spare
spare_in None = None
spare_in (Some made) = made.value.spare

-- if none were made, the answer takes no memory to copy
abbrev pub IsInlineWithout : Option (Box Copies Global) → Answer → Type 0
IsInlineWithout copies answer = copies ≡ None → FitsInline answer

-- and that is a fact, of which there is one proof
pub inline_prop : (copies : Option (Box Copies Global)) (answer : Answer) → IsProp (IsInlineWithout copies answer)
inline_prop copies (Bytes bytes) = hlevel le_prop
inline_prop copies (Events reports) = hlevel le_prop
inline_prop copies answer = hlevel le_prop

-- the copies that were made of an answer
pub record AreCopies (copies : Option (Box Copies Global)) (answer : Answer) (picked : List ℕ) : Type 0 where
  pub recorded : ForSome copies (λ made. made.value.recorded ≡ answer)
  pub spare : IsCopied (spare_in copies) answer picked
  pub inline : IsInlineWithout copies answer

-- there is a copy
pub record HasCopy (spare : Option Spare) (answer : Answer) (picked : List ℕ) : Type 0 where
  pub copy : Spare
  pub is : spare ≡ Some copy
  pub answers : copy.answer ≡ answer
  pub picks : copy.picked ≡ picked

-- there is what the record that the history gains is made of
pub record HasRecord (caller : CallerId) (event : Event) (spare : Option Spare) (past now : List Record) : Type 0 where
  pub copy : Spare
  pub is : spare ≡ Some copy
  pub added : now ≡ past ++ record { caller = caller; event = event; answer = copy.answer; picked = copy.picked } ∷ []

-- the list of the caller's gains the record that the history gains, if it gains one
pub record Gains (past now kept then : List Record) : Type 0 where
  pub more : Record
  pub history : now ≡ past ++ more ∷ []
  pub list : then ≡ kept ++ more ∷ []

abbrev pub KeepsRecord : Answer → List Record → List Record → List Record → List Record → Type 0
KeepsRecord answer past now kept then = MatchBool (is_no_memory answer) (then ≡ kept) (Gains past now kept then)
