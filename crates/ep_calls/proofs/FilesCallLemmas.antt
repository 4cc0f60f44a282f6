-- A call on the tables, as the machine makes it.
use Rattle.std.proofs.Common.{◌≡◌, ℕ, Bool, List, [], Option, Some, None, refl, ap, sym, subst, ◌∙◌}
use Rattle.std.specs.Prelude.{MatchOption}
use Rattle.std.proofs.lemmas.Option.{none-some}
use Rattle.ep_base.specs.Limits.{Limits}
use Rattle.ep_base.specs.declared.answer.Answer.{Answer}
use Rattle.ep_base.specs.declared.call.Call.{Call}
use Rattle.ep_base.specs.declared.call.Call.TheVariants.{EpollCtl, EpollWait}
use Rattle.ep_base.specs.declared.errno.Errno.{Errno}
use Rattle.ep_base.specs.declared.ids.Fd.{Fd}
use Rattle.ep_interest.specs.Registrations.{Registrations}
use Rattle.ep_machine.specs.Effect.{first}
use Rattle.ep_machine.specs.Files.{Files, named_by}
use Rattle.ep_machine.specs.FilesCalls.{FilesCall}
use Rattle.ep_machine.specs.Objects.{Object, ObjectCall, asks}
use Rattle.ep_machine.specs.Refusal.{call_refusals, on_object, refusals_on}
use Rattle.ep_machine.specs.State.{Change, State, Waiter}
use Rattle.ep_machine.specs.Step.{call_change, change_on, object_change}
use Rattle.ep_machine.specs.Tables.{affected_raises}
use Rattle.ep_calls.specs.Moves.{Goes, Makes, Refuses as Refused}
use Rattle.ep_calls.specs.Parts.{Parts}
use Rattle.ep_calls.specs.Stands.{AreLinked, ArePlaced, KeepsHolds, KeepsKeys, KeepsKinds, Stands}
use Rattle.ep_calls.specs.ObjectCall.{CallsObject, object_call_of, object_effect_of}
use Rattle.ep_calls.proofs.RegistrationLemmas.{stands_kept}
use Rattle.ep_nest.specs.declared.link.Link.{Link}
use Rattle.ep_table.specs.Value.{Does, Refuses, Seen, Succeeds}
use Rattle.ep_calls.proofs.JoinLemmas.{joined_none}

match_map : (o : Option Errno) (A B : Type 0) (F G : Errno → Type 0) → (A → B) → ((e : Errno) → F e → G e) → MatchOption o A F → MatchOption o B G
match_map None A B F G f g h = f h
match_map (Some e) A B F G f g h = g e h

match_one : (o : Option Errno) (A C : Type 0) (F : Errno → Type 0) → (A → C) → ((e : Errno) → F e → C) → MatchOption o A F → C
match_one None A C F f g h = f h
match_one (Some e) A C F f g h = g e h

module _ (call : FilesCall) (answer : Answer) (v new : Seen) (does : Does call answer v new) where
  either : (C : Type 0) → (Succeeds call answer v new → C) → ((e : Errno) → Refuses e answer v new → C) → C
  either C done refused = match_one (first call.refusals) (Succeeds call answer v new) C (λ e. Refuses e answer v new) done refused does

  pub does_keys : KeepsKeys v new
  does_keys = either (KeepsKeys v new) (λ d. d.keys) (λ e r. subst (λ (x : Seen). KeepsKeys v x) (sym r.tables) (λ key n h. h))

  pub does_holds : KeepsHolds v new
  does_holds = either (KeepsHolds v new) (λ d. d.holds) (λ e r. subst (λ (x : Seen). KeepsHolds v x) (sym r.tables) (λ n. refl))

  pub does_limits : new.limits ≡ v.limits
  does_limits = either (new.limits ≡ v.limits) (λ d. d.limits) (λ e r. ap (λ (x : Seen). x.limits) r.tables)

  pub does_kinds : KeepsKinds v.files call.after → KeepsKinds v.files new.files
  does_kinds kinds = either (KeepsKinds v.files new.files) (λ d. subst (KeepsKinds v.files) (sym d.files) kinds) (λ e r. subst (λ (x : Seen). KeepsKinds v.files x.files) (sym r.tables) (λ d h. refl))

  pub does_goes : {ws : List Waiter} (g : List Link) (r : Registrations) → AreLinked v r → ArePlaced v ws → (now : ℕ) (s : State) (raised : List (ℕ × ℕ)) → Stands v r ws now s
      → Goes call.refusals (Some (call.answer, record s { files = call.after }, raised)) s answer [] (record { tables = new; interest = r; graph = g; parked = ws; clock = now })
  does_goes {ws = ws} g r linked placed now s raised stands =
      let parts : Parts = record { tables = new; interest = r; graph = g; parked = ws; clock = now } in
      let made : Change = (call.answer, record s { files = call.after }, raised) in
      match_map (first call.refusals) (Succeeds call answer v new) (Makes (Some made) answer parts) (λ e. Refuses e answer v new) (λ e. Refused s e answer [] parts)
      (λ d. record {
        made = made;
        is = refl;
        answers = sym d.answers;
        stands = stands_kept v new r now s (record s { files = call.after }) does_keys linked placed stands refl (sym d.files) refl refl refl refl;
      })
      (λ e q. record {
        answers = q.answers;
        unpicked = refl;
        stands = subst (λ (x : Seen). Stands x r ws now s) (sym q.tables) stands;
      })
      does

-- what the machine asks of such a call and does, beside these objects
abbrev pub IsOnObject : List (Option Object) → Fd → ObjectCall → Call → Type 0
IsOnObject objects fd asked call = (limits : Limits) (s : State) (caller p : ℕ) → s.files.objects ≡ objects
    → (call_refusals limits s p call ≡ on_object s p fd.0 asked) × (first (on_object s p fd.0 asked) ≡ None → call_change limits s caller p call [] ≡ Some (object_change s p fd.0 asked))

pub on_object_is : (objects : List (Option Object)) (call : Call) (fd : Fd) (asked : ObjectCall) → asks objects call ≡ Some (fd, asked) → IsOnObject objects fd asked call
on_object_is objects (EpollCtl epfd op at mask tag) fd asked h = absurd (none-some (fd, asked) h)
on_object_is objects (EpollWait epfd most timeout) fd asked h = absurd (none-some (fd, asked) h)
on_object_is objects call fd asked h = λ limits s caller p same.
    let is : asks s.files.objects call ≡ Some (fd, asked) = ap (λ (os : List (Option Object)). asks os call) same ∙ h in (
      ap (refusals_on limits s p call) is,
      λ allowed. ap (λ (on : Option (Fd × ObjectCall)). Some (change_on limits s p call on)) is ∙ ap Some (joined_none limits s p call fd asked is allowed),
    )

-- the same of what a call asks that isn't refused
goes_asked : (tests : List (Bool × Errno)) (o made : Option Change) (s : State) (answer : Answer) (picked : List ℕ) (parts : Parts) → (first tests ≡ None → o ≡ made) → Goes tests made s answer picked parts → Goes tests o s answer picked parts
goes_asked tests o made s answer picked parts same h = by (first tests) refl h where
  by : (e : Option Errno) → first tests ≡ e → MatchOption e (Makes made answer parts) (λ x. Refused s x answer picked parts) → MatchOption e (Makes o answer parts) (λ x. Refused s x answer picked parts)
  by None is m = subst (λ (c : Option Change). Makes c answer parts) (sym (same is)) m
  by (Some e) is m = m

module _ (v new : Seen) (p : ℕ) (fd : Fd) (now : ℕ) (asked : ObjectCall) (answer : Answer) (calls : CallsObject p fd now asked answer v new) where
  pub object_limits : new.limits ≡ v.limits
  object_limits = does_limits (object_call_of v.files p fd.0 now asked) answer v new calls

  pub object_keys : KeepsKeys v new
  object_keys = does_keys (object_call_of v.files p fd.0 now asked) answer v new calls

  object_goes : {ws : List Waiter} (g : List Link) (r : Registrations) (s : State) → AreLinked v r → ArePlaced v ws → Stands v r ws now s
      → Goes (on_object s p fd.0 asked) (Some (object_change s p fd.0 asked)) s answer [] (record { tables = new; interest = r; graph = g; parked = ws; clock = now })
  object_goes {ws = ws} g r s linked placed stands =
      let parts : Parts = record { tables = new; interest = r; graph = g; parked = ws; clock = now } in
      let P : ℕ → Files → Type 0 = λ at f.
      let c = object_call_of f p fd.0 at asked in
      Goes c.refusals (Some (c.answer, record s { files = c.after }, affected_raises f (named_by f p fd.0) (object_effect_of f p fd.0 at asked))) s answer [] parts in
      subst (λ (n : ℕ). P n s.files) (sym stands.now) (subst (P now) (sym stands.files)
      (does_goes (object_call_of v.files p fd.0 now asked) answer v new calls g r linked placed now s (affected_raises v.files (named_by v.files p fd.0) (object_effect_of v.files p fd.0 now asked)) stands))

  pub object_called : {ws : List Waiter} (call : Call) (g : List Link) (limits : Limits) (r : Registrations) (s : State) (caller : ℕ) → AreLinked v r → ArePlaced v ws → Stands v r ws now s → v.limits ≡ limits → IsOnObject v.files.objects fd asked call
      → Goes (call_refusals limits s p call) (call_change limits s caller p call []) s answer [] (record { tables = new; interest = r; graph = g; parked = ws; clock = now })
  object_called {ws = ws} call g limits r s caller linked placed stands same is =
      let both = is limits s caller p (ap (λ (f : Files). f.objects) stands.files) in
      let P : List (Bool × Errno) → Option Change → Type 0 = λ tests o. Goes tests o s answer [] (record { tables = new; interest = r; graph = g; parked = ws; clock = now }) in
      subst (λ (tests : List (Bool × Errno)). P tests (call_change limits s caller p call [])) (sym both.0)
      (goes_asked (on_object s p fd.0 asked) (call_change limits s caller p call []) (Some (object_change s p fd.0 asked)) s answer [] _ both.1 (object_goes g r s linked placed stands))
