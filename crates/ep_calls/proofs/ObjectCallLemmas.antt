-- Calls on the object that a descriptor names.
use Rattle.std.proofs.Common.{◌≡◌, ◌≤◌, ℕ, ℤ, Bool, false, true, List, ◌∷◌, Option, Some, None, IsSome, is_none, max, min, slice_index_or, slice_set, unwrap_or, refl, ap, sym, ◌∙◌, arith, subst}
use Rattle.std.specs.Prelude.{MatchOption}
use Rattle.std.specs.declared.alloc.Global.{Global}
use Rattle.std.proofs.lemmas.Bool.{false≢true}
use Rattle.std.proofs.lemmas.List.{set-get_or}
use Rattle.std.proofs.lemmas.Option.{none-some}
use Rattle.smallvec.specs.SmallVec.{HasRoomFor}
use Rattle.smallvec.specs.declared.SmallVec.{SmallVec}
use Rattle.ep_calls.specs.Reply.{IsSettled}
use Rattle.ep_base.specs.declared.socket.Hearing.{Hearing}
use Rattle.ep_base.specs.declared.answer.Answer.{Answer}
use Rattle.ep_base.specs.declared.answer.Answer.TheVariants.{Bytes, Connecting, Done, Events, Failed, Named, Num, Refused, Time}
use Rattle.ep_base.specs.declared.errno.Errno.{Errno}
use Rattle.ep_base.specs.declared.errno.Errno.TheVariants.{Ebadf}
use Rattle.ep_base.specs.declared.object.End.{End}
use Rattle.ep_machine.specs.Effect.{Effect, attempt, first, unless}
use Rattle.ep_machine.specs.Files.{Files, Place, named_by, names_nothing, object_at, object_number, object_of, object_under, place_of, side_of, side_under, under, with_object}
use Rattle.ep_machine.specs.Objects.{Object, ObjectCall, object_effect, object_refusals, plain}
use Rattle.ep_machine.specs.Tables.{affected}
use Rattle.ep_object.proofs.AnswerLemmas.{gives_few}
use Rattle.ep_object.specs.Memory.{GivesAtMost, asked_of, object_waiting}
use Rattle.ep_machine.specs.FilesCalls.{FilesCall}
use Rattle.ep_calls.specs.ObjectCall.{FitsRoom, object_call_of}
use Rattle.ep_table.specs.Value.{Does, Refuses, Seen, Succeeds, content_of, effect_at, holds_of, number_of, number_under}
use Rattle.ep_base.specs.declared.ids.DescId.{DescId}
use Rattle.ep_base.specs.declared.call.Call.{Call}
use Rattle.ep_base.specs.declared.socket.Name.{Name}
use Rattle.ep_base.specs.declared.ids.Fd.{Fd}
use Rattle.ep_object.specs.Asked.{asked_in, naming_call}
use Rattle.ep_base.specs.declared.call.Call.TheVariants.{Bind, Connect, Listen}

-- what is given has room for a copy
given_fits : (answer : Answer) (asked waiting : ℕ) (room : SmallVec ℕ 16 Global) → GivesAtMost (min asked (max 16 waiting)) answer → HasRoomFor room 16 → HasRoomFor room (min asked waiting) → FitsRoom answer room
given_fits (Bytes bytes) asked waiting room few h i = omega (arith, few, h, i)
given_fits (Num k) asked waiting room few h i = tt
given_fits (Time value interval) asked waiting room few h i = tt
given_fits (Failed e) asked waiting room few h i = tt
given_fits (Named name) asked waiting room few h i = tt
given_fits Connecting asked waiting room few h i = tt
given_fits (Refused e) asked waiting room few h i = tt
given_fits Done asked waiting room few h i = tt
given_fits answer asked waiting room few h i = few

-- and so has a refusal
unless_fits : (refusal : Option Errno) (x : Object) (f : Effect Object) (room : SmallVec ℕ 16 Global) → (refusal ≡ None → FitsRoom f.0 room) → FitsRoom (unless refusal x f).0 room
unless_fits (Some e) x f room h = tt
unless_fits None x f room h = h refl

-- what such a call answers has room for a copy
pub fits : (x : Object) (e : End) (now : ℕ) (asked : ObjectCall) (room : SmallVec ℕ 16 Global) → HasRoomFor room 16 → HasRoomFor room (min (asked_of asked) (object_waiting x e asked))
    → FitsRoom (attempt (object_refusals x e now asked) x (object_effect x e now asked)).0 room
fits x e now asked room h i =
    unless_fits (first (object_refusals x e now asked)) x (object_effect x e now asked) room
    (λ none. given_fits (object_effect x e now asked).0 (asked_of asked) (object_waiting x e asked) room (gives_few x e now asked none) h i)

-- few bytes take no memory
given_settled : (answer : Answer) (asked waiting : ℕ) → GivesAtMost (min asked (max 16 waiting)) answer → min asked waiting ≤ 16 → IsSettled answer
given_settled (Bytes bytes) asked waiting few h = omega (arith, few, h)
given_settled (Events reports) asked waiting few h = absurd few
given_settled answer asked waiting few h = tt

unless_settled : (refusal : Option Errno) (x : Object) (f : Effect Object) → (refusal ≡ None → IsSettled f.0) → IsSettled (unless refusal x f).0
unless_settled (Some e) x f h = tt
unless_settled None x f h = h refl

pub fits_settled : (x : Object) (e : End) (now : ℕ) (asked : ObjectCall) → min (asked_of asked) (object_waiting x e asked) ≤ 16 → IsSettled (attempt (object_refusals x e now asked) x (object_effect x e now asked)).0
fits_settled x e now asked h =
    unless_settled (first (object_refusals x e now asked)) x (object_effect x e now asked)
    (λ none. given_settled (object_effect x e now asked).0 (asked_of asked) (object_waiting x e asked) (gives_few x e now asked none) h)

-- a bind, a listen or a connect asks for no bytes
names_for_none : (found : Option Name) (heard : Hearing) (call : Call) (on : Fd × ObjectCall) → naming_call found heard call ≡ Some on → asked_of on.1 ≡ 0
names_for_none found heard (Bind fd name) on h = ap (λ (o : Option (Fd × ObjectCall)). asked_of (asked_in o)) (sym h)
names_for_none found heard (Listen fd backlog) on h = ap (λ (o : Option (Fd × ObjectCall)). asked_of (asked_in o)) (sym h)
names_for_none found heard (Connect fd name) on h = ap (λ (o : Option (Fd × ObjectCall)). asked_of (asked_in o)) (sym h)
names_for_none found heard call on h = cc

pub naming_settled : (x : Object) (e : End) (now : ℕ) (call : Call) (found : Option Name) (heard : Hearing) (on : Fd × ObjectCall) → naming_call found heard call ≡ Some on
    → IsSettled (attempt (object_refusals x e now on.1) x (object_effect x e now on.1)).0
naming_settled x e now call found heard on h = let none = names_for_none found heard call on h in fits_settled x e now on.1 (omega (arith, none))

-- writing back what stands there changes nothing
set_same : (xs : List (Option Object)) (k : ℕ) (x : Object) → slice_index_or xs k None ≡ Some x → slice_set xs k (Some x) ≡ xs
set_same xs k x h = ap (λ (o : Option Object). slice_set xs k o) (sym h) ∙ set-get_or xs k None

object_back : (files : Files) (place : Option Place) (x : Object) → object_at files place ≡ Some x → with_object files (object_number place) x ≡ files
object_back files None x h = absurd (none-some x h)
object_back files (Some place) x h = ap (λ (xs : List (Option Object)). record files { objects = xs }) (set_same files.objects place.object x h)

content_is : (o : Option Object) → IsSome o → o ≡ Some (unwrap_or o plain)
content_is None h = absurd (false≢true h)
content_is (Some x) h = refl

-- after a call on the object of a description, what stands there
module _ (old new : Seen) (d now : ℕ) (asked : ObjectCall) (answer : Answer) (lives : IsSome (object_of old.files d)) where
  abbrev content : Object
  content = content_of old.files d

  abbrev side : End
  side = side_of old.files d

  abbrev effect : Effect Object
  effect = object_effect content side now asked

  abbrev after : Effect Object → Seen
  after f = record old { files = with_object old.files (object_number (place_of old.files d)) f.1 }

  -- where this is the call
  does_by : (c : FilesCall) → c.answer ≡ effect.0 → c.after ≡ affected old.files d effect → (refusal : Option Errno) → answer ≡ (unless refusal content effect).0 → new ≡ after (unless refusal content effect)
      → MatchOption refusal (Succeeds c answer old new) (λ e. Refuses e answer old new)
  does_by c told left (Some e) is tables = record {
    answers = is;
    tables = tables ∙ ap (λ (f : Files). record old { files = f }) (object_back old.files (place_of old.files d) content (content_is (object_of old.files d) lives));
  }
  does_by c told left None is tables = record {
    answers = is ∙ sym told;
    files = ap (λ (v : Seen). v.files) tables ∙ sym left;
    limits = ap (λ (v : Seen). v.limits) tables;
    keys = λ key k h. ap (λ (v : Seen). slice_index_or v.keys key.0 None) tables ∙ h;
    holds = λ k. ap (λ (v : Seen). holds_of v k) tables;
  }

-- what a descriptor that is found names
pub named_some : (n : Option ℕ) → IsSome n → is_none n ≡ false
named_some None h = absurd (false≢true h)
named_some (Some d) h = refl

pub past_first : (b : Bool) (e : Errno) (rest : List (Bool × Errno)) → b ≡ false → first ((b, e) ∷ rest) ≡ first rest
past_first false e rest h = refl
past_first true e rest h = absurd (false≢true (sym h))

-- and so the call is one on the object of the description under its number
module _ (v : Seen) (p : ℕ) (fd : ℤ) (desc : DescId) (found : number_under v desc ≡ under v.files p fd) (there : IsSome (number_under v desc)) where
  number_is : named_by v.files p fd ≡ number_of v desc
  number_is = ap (λ (o : Option ℕ). unwrap_or o 0) (sym found)

  names_some : names_nothing v.files p fd ≡ false
  names_some = ap (λ (o : Option ℕ). is_none o) (sym found) ∙ named_some (number_under v desc) there

  pub refusals_are : (now : ℕ) (asked : ObjectCall) → first (object_call_of v.files p fd now asked).refusals ≡ first (object_refusals (content_of v.files (number_of v desc)) (side_of v.files (number_of v desc)) now asked)
  refusals_are now asked =
      let f = v.files in
      past_first (names_nothing f p fd) Ebadf (object_refusals (object_under f p fd) (side_under f p fd) now asked) names_some
      ∙ ap (λ (d : ℕ). first (object_refusals (content_of f d) (side_of f d) now asked)) number_is

pub calls_object : (old new : Seen) (p : ℕ) (fd : ℤ) (desc : DescId) (now : ℕ) (asked : ObjectCall) (answer : Answer) → number_under old desc ≡ under old.files p fd → IsSome (number_under old desc) → IsSome (object_of old.files (number_of old desc))
    → answer ≡ (effect_at old.files (number_of old desc) now asked).0
    → new ≡ record old { files = with_object old.files (object_number (place_of old.files (number_of old desc))) (effect_at old.files (number_of old desc) now asked).1 }
    → Does (object_call_of old.files p fd now asked) answer old new
calls_object old new p fd desc now asked answer found there lives is tables =
    let c = object_call_of old.files p fd now asked in
    let f = old.files in
    let number = number_is old p fd desc found there in
    let told = ap (λ (d : ℕ). (object_effect (content_of f d) (side_of f d) now asked).0) number in
    let left = ap (λ (d : ℕ). affected f d (object_effect (content_of f d) (side_of f d) now asked)) number in
    let P : Option Errno → Type 0 = λ r. MatchOption r (Succeeds c answer old new) (λ e. Refuses e answer old new) in
    subst P (sym (refusals_are old p fd desc found there now asked)) (does_by old new (number_of old desc) now asked answer lives c told left _ is tables)
