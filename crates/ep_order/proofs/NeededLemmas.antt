-- Each premise of the law of what an event leaves untouched is needed: without it, a run refutes the law.
use Rattle.std.proofs.Common.{◌≡◌, ◌++◌, ℕ, pos, Bool, true, false, List, [], ◌∷◌, None, Some, inl, refl, ◌∙◌, unwrap_or, sym}
use Rattle.std.proofs.lemmas.Bool.{false≢true}
use Rattle.ep_base.specs.Limits.{Limits, default_limits}
use Rattle.ep_base.specs.declared.answer.Answer.{Answer}
use Rattle.ep_base.specs.declared.answer.Answer.TheVariants.{Done, Num, Time}
use Rattle.ep_base.specs.declared.call.Call.{Call}
use Rattle.ep_base.specs.declared.call.Call.TheVariants.{EpollCreate, EpollCtl, EpollWait, EventFd, Read, SetTime, TimerFd, Write}
use Rattle.ep_base.specs.declared.call.Event.{Event}
use Rattle.ep_base.specs.declared.call.Event.TheVariants.{Call as CallOf, Tick}
use Rattle.ep_base.specs.declared.ids.Fd.{Fd}
use Rattle.ep_base.specs.declared.record.Record.{Record}
use Rattle.ep_law.specs.Laws.{Member}
use Rattle.ep_machine.specs.Effect.{first}
use Rattle.ep_machine.specs.Files.{object_of}
use Rattle.ep_machine.specs.Lists.{is_among}
use Rattle.ep_machine.specs.Objects.{instance}
use Rattle.ep_machine.specs.Readiness.{is_ready, is_reportable_by}
use Rattle.ep_machine.specs.Refusal.{refusals}
use Rattle.ep_machine.specs.Run.{run}
use Rattle.ep_machine.specs.Spread.{is_reached}
use Rattle.ep_machine.specs.State.{Change, State, Watch, opening}
use Rattle.ep_machine.specs.Step.{change, next_event}
use Rattle.ep_order.specs.Ending.{is_called}
use Rattle.ep_order.specs.Event.{IsAltered, end_of}

abbrev fd : ℕ → Fd
fd k = record { 0 = pos k }

-- The law under other premises on what an event leaves untouched.
abbrev Premises : Type 1
Premises = State → Event → List ℕ → (ℕ → Bool) → Watch → Type 0

abbrev With : Premises → Type 0
With Q = (limits : Limits) (past : List Record) (s : State) (caller : ℕ) (event : Event)
    (picked : List ℕ) (c : Change) (ready later : ℕ → Bool) (x y : Watch)
    → run limits opening past ≡ Some s → first (refusals limits (next_event s) caller event) ≡ None
    → change limits (next_event s) caller event picked ≡ Some c
    → Member x s.watches → Member y (end_of s c).watches → y.number ≡ x.number
    → Q s event picked later x
    → is_reportable_by ready s x ≡ true → is_reportable_by later (end_of s c) y ≡ true

abbrev did : Call → Answer → Record
did call answer = record { caller = record { 0 = 0 }; event = CallOf (record { 0 = 1 }) call; answer = answer; picked = [] }

abbrev by : Call → Event
by call = CallOf (record { 0 = 1 }) call

abbrev state_of : List Record → State
state_of past = unwrap_or (run default_limits opening past) opening

abbrev change_of : List Record → Event → List ℕ → Change
change_of past event picked = unwrap_or (change default_limits (next_event (state_of past)) 0 event picked) (Done, opening, [])

abbrev none_watch : Watch
none_watch = record { number = 0; instance = 0; fd = 0; target = 0; mask = 0; tag = 0; armed = false; seen = None; rep = 0; from = 0 }

abbrev head_of : List Watch → Watch
head_of [] = none_watch
head_of (x ∷ xs) = x

abbrev x_of : List Record → Watch
x_of past = head_of (state_of past).watches

abbrev y_of : List Record → Event → List ℕ → Watch
y_of past event picked = head_of (end_of (state_of past) (change_of past event picked)).watches

abbrev always : ℕ → Bool
always e = true

abbrev never : ℕ → Bool
never e = false

abbrev Uncalled : Premises
Uncalled s event picked later x = (is_among picked x.number ≡ false) × (IsAltered s event x → ⊥) × (object_of s.files x.target ≡ Some instance → later x.target ≡ true)

abbrev Below : Premises
Below s event picked later x = (is_among picked x.number ≡ false) × (IsAltered s event x → ⊥) × (is_called s event x.target ≡ false)

abbrev Unpicked : Premises
Unpicked s event picked later x = (IsAltered s event x → ⊥) × (is_called s event x.target ≡ false) × (object_of s.files x.target ≡ Some instance → later x.target ≡ true)

abbrev Unaltered : Premises
Unaltered s event picked later x = (is_among picked x.number ≡ false) × (is_called s event x.target ≡ false) × (object_of s.files x.target ≡ Some instance → later x.target ≡ true)

abbrev made_by : Call → ℕ → List Record
made_by call mask = did call (Num 3) ∷ did (EpollCreate false) (Num 4) ∷ did (EpollCtl (fd 4) (pos 1) (fd 3) (record { 0 = mask }) 7) Done ∷ []

abbrev ticked : Record
ticked = record { caller = record { 0 = 0 }; event = Tick 1; answer = Done; picked = [] }

module _ (Q : Premises) (past : List Record) (event : Event) (picked : List ℕ) (later : ℕ → Bool) where
  abbrev Case : Type 0
  Case = With Q → run default_limits opening past ≡ Some (state_of past) → first (refusals default_limits (next_event (state_of past)) 0 event) ≡ None
      → change default_limits (next_event (state_of past)) 0 event picked ≡ Some (change_of past event picked)
      → Member (x_of past) (state_of past).watches → Member (y_of past event picked) (end_of (state_of past) (change_of past event picked)).watches → (y_of past event picked).number ≡ (x_of past).number
      → Q (state_of past) event picked later (x_of past)
      → is_reportable_by always (state_of past) (x_of past) ≡ true → is_reportable_by later (end_of (state_of past) (change_of past event picked)) (y_of past event picked) ≡ false → ⊥

case : (Q : Premises) (past : List Record) (event : Event) (picked : List ℕ) (later : ℕ → Bool) → Case Q past event picked later
case Q past event picked later law is allowed made there stays number untouched before after =
    absurd (false≢true (sym after ∙ law default_limits past (state_of past) 0 event picked (change_of past event picked) always later (x_of past) (y_of past event picked) is allowed made there stays number untouched before))

itself : (n : ℕ) → n ≡ n
itself n = refl

-- a counter is read
no_uncalled : With Uncalled → ⊥
unfolding is_ready is_reached
no_uncalled law = case Uncalled (made_by (EventFd 1 false false) 1) (by (Read (fd 3) 8)) [] always law refl refl refl (inl refl) (inl refl) (itself 1) (refl, λ h. h, λ h. refl) refl refl

-- an instance is not ready at the end
no_below : With Below → ⊥
unfolding is_ready is_reached
no_below law = case Below (made_by (EpollCreate false) 1) (Tick 1) [] never law refl refl refl (inl refl) (inl refl) (itself 1) (refl, λ h. h, refl) refl refl

-- a one-shot is reported
no_unpicked : With Unpicked → ⊥
unfolding is_ready is_reached
no_unpicked law = case Unpicked (made_by (EventFd 1 false false) 1073741825) (by (EpollWait (fd 4) (pos 1) (pos 0))) (1 ∷ []) always law refl refl refl (inl refl) (inl refl) (itself 1) (λ h. h, refl, λ h. refl) refl refl

-- its mask is taken away
no_unaltered : With Unaltered → ⊥
unfolding is_ready is_reached
no_unaltered law = case Unaltered (made_by (EventFd 1 false false) 1) (by (EpollCtl (fd 4) (pos 3) (fd 3) (record { 0 = 0 }) 7)) [] always law refl refl refl (inl refl) (inl refl) (itself 1) (refl, refl, λ h. refl) refl refl

-- a counter is written full
abbrev nearly_full : List Record
nearly_full = made_by (EventFd 0 false false) 4 ++ did (Write (fd 3) (253 ∷ 255 ∷ 255 ∷ 255 ∷ 255 ∷ 255 ∷ 255 ∷ 255 ∷ [])) (Num 8) ∷ []

no_write : With Uncalled → ⊥
unfolding is_ready is_reached
no_write law = case Uncalled nearly_full (by (Write (fd 3) (1 ∷ 0 ∷ 0 ∷ 0 ∷ 0 ∷ 0 ∷ 0 ∷ 0 ∷ []))) [] always law refl refl refl (inl refl) (inl refl) (itself 1) (refl, λ h. h, λ h. refl) refl refl

-- a timer that has expired is set anew
abbrev expired : List Record
expired = made_by (TimerFd (pos 0) false) 1 ++ did (SetTime (fd 3) false 1 0) (Time 0 0) ∷ ticked ∷ []

no_settime : With Uncalled → ⊥
unfolding is_ready is_reached
no_settime law = case Uncalled expired (by (SetTime (fd 3) false 5 0)) [] always law refl refl refl (inl refl) (inl refl) (itself 1) (refl, λ h. h, λ h. refl) refl refl
