-- What holds of the definitions, over all runs.
use Rattle.std.specs.List.{AllByRecursion, list_any}
use Rattle.std.specs.Prelude.{Bool, List, None, Option, Some, [], bit_or, false, filter, is_some, map, nat_lt, slice_index_or}
use Rattle.std.specs.Prelude.{not, true, unwrap_or, ℕ, ◌&&◌, ◌++◌, ◌==◌, ◌≡◌, ◌⊎◌, ◌∷◌}
use Rattle.ep_base.specs.Limits.{Limits}
use Rattle.ep_base.specs.declared.answer.Answer.TheVariants.{Refused}
use Rattle.ep_base.specs.declared.call.Event.{Event}
use Rattle.ep_base.specs.declared.errno.Errno.{Errno}
use Rattle.ep_base.specs.declared.record.Record.{Record}
use Rattle.ep_machine.specs.Bits.{IN, ONESHOT, asked, has_bit, IsCovered}
use Rattle.ep_machine.specs.Deaths.{buried, die_all, named}
use Rattle.ep_machine.specs.Effect.{first}
use Rattle.ep_machine.specs.Exclusive.{is_guarded, is_spread_plainly, is_spread_to, is_woken}
use Rattle.ep_machine.specs.Files.{Files, Place, is_live, object_of, place_of}
use Rattle.ep_machine.specs.Lists.{are_distinct, is_among}
use Rattle.ep_machine.specs.Marks.{with_marks}
use Rattle.ep_machine.specs.Objects.{is_instance, plain, is_plain}
use Rattle.ep_machine.specs.Readiness.{is_ready, is_reportable, reportables, present}
use Rattle.ep_machine.specs.Refusal.{refusals}
use Rattle.ep_machine.specs.Run.{go_on, run}
use Rattle.ep_law.specs.Sound.{Sound}
use Rattle.ep_machine.specs.Spread.{is_reached, passes_on, spread, raised_alive}
use Rattle.ep_machine.specs.State.{State, Watch, counts_of, opening, Change}
use Rattle.ep_machine.specs.Step.{next_event, step, change}
use Rattle.ep_machine.specs.Waits.{is_marked_at, marked_if_due, waits_at}
use Rattle.ep_machine.specs.Watches.{is_exclusive, is_legal, links}
use Rattle.ep_machine.specs.Settle.{settle}
use Rattle.ep_object.specs.Law.{object_has}
use Rattle.std.specs.Prelude.{◌<◌, length}

abbrev pub Member : {X : Type 0} → X → List X → Type 0
Member x [] = ⊥
Member x (y ∷ ys) = (x ≡ y) ⊎ Member x ys

-- an instance is ready exactly where one of its registrations is reportable
abbrev pub ReadyEquation : Type 0
ReadyEquation = (s : State) (e : ℕ) → is_legal (links s) ≡ true → is_ready s e ≡ list_any (λ x. x.instance == e && is_reportable s x) s.watches

-- the spread is closed
abbrev pub SpreadEquation : Type 0
SpreadEquation = (s : State) (raised : List (ℕ × ℕ)) (e : ℕ) → is_legal (links s) ≡ true
    → is_reached s raised e ≡ list_any (λ x. x.instance == e && passes_on s raised x) s.watches

-- a test of bits at a description that what is raised passes, and what registrations pass on
pub record IsClosed (test : ℕ → ℕ → Bool) (xs : List Watch) (raised : List (ℕ × ℕ)) : Type 0 where
  pub starts : (r : ℕ × ℕ) → Member r raised → test r.0 r.1 ≡ true
  pub none : (d : ℕ) → test d 0 ≡ true
  pub both : (d a b : ℕ) → test d a ≡ true → test d b ≡ true → test d (bit_or a b) ≡ true
  pub above : (x : Watch) (bits : ℕ) → Member x xs → x.armed ≡ true
      → nat_lt 0 (asked x.mask bits) ≡ true → test x.target bits ≡ true → test x.instance IN ≡ true

-- and the least
abbrev pub SpreadLeast : Type 0
SpreadLeast = (test : ℕ → ℕ → Bool) (s : State) (raised : List (ℕ × ℕ)) (d : ℕ)
    → IsClosed test s.watches raised → test d (spread s raised d) ≡ true

-- a refusal changes n alone
abbrev pub RefusalChangesNothing : Type 0
RefusalChangesNothing = (limits : Limits) (s : State) (caller : ℕ) (event : Event) (e : Errno)
    → first (refusals limits (next_event s) caller event) ≡ Some e
    → step limits s caller event [] ≡ Some (Refused e, next_event s)

-- a run leads to one state
abbrev pub Determined : Type 0
Determined = (limits : Limits) (past : List Record) (s t : State) → run limits opening past ≡ Some s → run limits opening past ≡ Some t → s ≡ t

-- in each state of a run registrations have numbers of their own, and none was reported after it came to be reportable
abbrev pub EachSound : Type 0
EachSound = (limits : Limits) (past : List Record) (s : State) → run limits opening past ≡ Some s → Sound s

-- in each state of a run an unguarded ready instance with waiters has a marked one
abbrev pub ReadyMarked : Type 0
ReadyMarked = (limits : Limits) (past : List Record) (s : State) (e : ℕ)
    → run limits opening past ≡ Some s → waits_at s.waiters e ≡ true → is_ready s e ≡ true → is_guarded s e ≡ false
    → is_marked_at s.waiters e ≡ true

-- at the end of an event that sets marks in state s, a ready instance that it wakes has a marked one if it has waiters
abbrev pub WokenMarked : Type 0
WokenMarked = (before s : State) (raised : List (ℕ × ℕ)) (e : ℕ) → let t = with_marks before raised s in
    waits_at t.waiters e ≡ true → is_ready t e ≡ true → is_woken before s raised (map (marked_if_due s.now) s.waiters) e ≡ true
    → is_marked_at t.waiters e ≡ true

-- what the spread reaches of the unguarded instances it reaches with exclusive registrations left out: so it wakes them
abbrev pub UnguardedSpread : Type 0
UnguardedSpread = (s : State) (raised : List (ℕ × ℕ)) (e : ℕ) → is_guarded s e ≡ false → is_spread_to s raised e ≡ is_spread_plainly s raised e

-- an instance is at this description
abbrev pub has_instance : Files → ℕ → Bool
has_instance f d = is_instance (unwrap_or (object_of f d) plain)

-- on no instance, and armed for good
pub record IsApart (f : Files) (x : Watch) : Type 0 where
  pub target : has_instance f x.target ≡ false
  pub armed : x.armed ≡ true
  pub always : has_bit x.mask ONESHOT ≡ false

-- in each state of a run no exclusive registration is on an instance, and each is armed
abbrev pub ExclusiveTargets : Type 0
ExclusiveTargets = (limits : Limits) (past : List Record) (s : State) (x : Watch) → run limits opening past ≡ Some s → Member x s.watches → is_exclusive x ≡ true → IsApart s.files x

-- in each state of a run no chain has more than five instances, and none is a loop
abbrev pub GraphStaysLegal : Type 0
GraphStaysLegal = (limits : Limits) (past : List Record) (s : State) → run limits opening past ≡ Some s → is_legal (links s) ≡ true

-- at the end of an event a description lives exactly where a table or a waiter names it
abbrev pub NamedLives : Type 0
NamedLives = (s : State) (raised : List (ℕ × ℕ))
    → ((d : ℕ) → is_among (named s) d ≡ true → is_live s.files d ≡ true) → (d : ℕ)
    → is_live (buried s raised).0.files d ≡ is_among (named s) d

-- which description dies first plays no part in the files that are left
abbrev pub DeathsInAnyOrder : Type 0
DeathsInAnyOrder = (files : Files) (xs ys : List (ℕ × Place))
    → are_distinct (map (λ x. x.0) xs) ≡ true → are_distinct (map (λ y. y.0) ys) ≡ true
    → AllByRecursion (λ x. place_of files x.0 ≡ Some x.1) xs
    → AllByRecursion (λ y. place_of files y.0 ≡ Some y.1) ys
    → ((d : ℕ) → is_among (map (λ x. x.0) xs) d ≡ is_among (map (λ y. y.0) ys) d) → (die_all (files, []) xs).0 ≡ (die_all (files, []) ys).0

-- a registration of this number is there, in this instance
abbrev pub is_in : State → ℕ → ℕ → Bool
is_in s e k = list_any (λ x. x.instance == e && x.number == k) s.watches

-- and is reportable
abbrev pub is_reportable_in : State → ℕ → ℕ → Bool
is_reportable_in s e k = is_among (map (λ x. x.number) (reportables s e)) k

-- the records lead on, before each of them it is reportable, and none reports it
abbrev pub is_left_out : Limits → ℕ → ℕ → Option State → List Record → Bool
is_left_out limits e k o [] = is_some o
is_left_out limits e k None (r ∷ rs) = false
is_left_out limits e k (Some s) (r ∷ rs) = is_reportable_in s e k && not (is_among r.picked k) && is_left_out limits e k (go_on limits (Some s) r) rs

-- the numbers that the records report of an instance
abbrev pub told_of : Limits → ℕ → Option State → List Record → List ℕ
told_of limits e o [] = []
told_of limits e None (r ∷ rs) = []
told_of limits e (Some s) (r ∷ rs) = filter (is_in s e) r.picked ++ told_of limits e (go_on limits (Some s) r) rs

-- while a registration stays reportable and unreported, none of its instance is reported twice
abbrev pub FairRounds : Type 0
FairRounds = (limits : Limits) (past later : List Record) (s : State) (e k : ℕ)
    → run limits opening past ≡ Some s → is_left_out limits e k (Some s) later ≡ true
    → are_distinct (told_of limits e (Some s) later) ≡ true

-- the spread of an event's change at a description
abbrev pub spread_of : Change → ℕ → ℕ
spread_of c d = let left = buried c.1 c.2 in spread left.0 (raised_alive left.0 left.1) d

-- each description has an end of an object of its own, and that end is there; object 0 is the plain one of the opening
pub record HaveOwnEnds (f : Files) : Type 0 where
  pub made : (d : ℕ) (p : Place) → place_of f d ≡ Some p → p.object < length f.objects
  pub first : (0 < length f.objects) × (is_plain (unwrap_or (slice_index_or f.objects 0 None) plain) ≡ true)
  pub apart : (d e : ℕ) (p : Place) → place_of f d ≡ Some p → place_of f e ≡ Some p → d ≡ e
  pub ends : (d : ℕ) (p : Place) → place_of f d ≡ Some p → object_has (unwrap_or (slice_index_or f.objects p.object None) plain) p.side ≡ true

abbrev pub EndsAreApart : Type 0
EndsAreApart = (limits : Limits) (past : List Record) (s : State) → run limits opening past ≡ Some s → HaveOwnEnds s.files

-- a bit that begins to hold at a description that lives before and after an event is in the event's spread
abbrev pub BeginningsAreSpread : Type 0
BeginningsAreSpread = (limits : Limits) (past : List Record) (s : State) (caller : ℕ)
    (event : Event) (picked : List ℕ) (c : Change) (d : ℕ)
    → run limits opening past ≡ Some s
    → first (refusals limits (next_event s) caller event) ≡ None
    → change limits (next_event s) caller event picked ≡ Some c
    → is_live s.files d ≡ true → is_live (settle (next_event s) c.1 c.2).files d ≡ true
    → IsCovered (present s d) (present (settle (next_event s) c.1 c.2) d) (spread_of c d)

-- a registration of the later state, but for the event since which it is reportable
abbrev pub IsNoted : Watch → Watch → Type 0
IsNoted x y = (f : ℕ) × (y ≡ record x { from = f })

-- a registration that was there before: it may have been disarmed, and reported
pub record Kept (u : State) (x : Watch) : Type 0 where
  pub was : Watch
  pub there : Member was u.watches
  pub instance : was.instance ≡ x.instance
  pub target : was.target ≡ x.target
  pub mask : was.mask ≡ x.mask
  pub armed : x.armed ≡ true → was.armed ≡ true
  pub seen : (x.seen ≡ was.seen) ⊎ (x.seen ≡ Some (counts_of u x.target))

-- whether a registration passes on something of the spread of an event's change
abbrev pub passes_on_of : Change → Watch → Bool
passes_on_of c x = let left = buried c.1 c.2 in passes_on left.0 (raised_alive left.0 left.1) x

-- why y is reportable at the end of an event that began at state b: what the change left of it was reportable, or
-- passes on something; where it was there before, the same of how it was then
pub record HasCause (b : State) (c : Change) (y : Watch) : Type 0 where
  pub x : Watch
  pub left : Member x (buried c.1 c.2).0.watches
  pub noted : IsNoted x y
  pub changed : (is_reportable c.1 x ≡ true) ⊎ (passes_on_of c x ≡ true)
  pub kept : (k : Kept b x) → (is_reportable b k.was ≡ true) ⊎ (passes_on_of c x ≡ true)

-- a registration that is reportable after an event was so before, or passes on something of the event's spread
abbrev pub ReportablesAreSpread : Type 0
ReportablesAreSpread = (limits : Limits) (past : List Record) (s : State) (caller : ℕ) (event : Event) (picked : List ℕ) (c : Change) (y : Watch)
    → run limits opening past ≡ Some s → first (refusals limits (next_event s) caller event) ≡ None
    → change limits (next_event s) caller event picked ≡ Some c → Member y (settle (next_event s) c.1 c.2).watches
    → is_reportable (settle (next_event s) c.1 c.2) y ≡ true → HasCause (next_event s) c y
