-- The moments of timers over an event.
use Rattle.std.proofs.Common.{◌≡◌, ◌≢◌, ◌≤◌, ◌+◌, ◌<◌, ◌^◌, ◌∙◌, ℕ, ℤ, pos, zero, suc, false, true, IsSome, Bool, List, [], ◌∷◌, None, Option, Some, add-one, ap, arith, get_or, inl, inr, is_none, is_some, length, nat_le, nat_lt, not, refl, slice_index_or, subst, sym, unwrap_or}
use Rattle.std.specs.Prelude.{IfSome, MatchOption}
use Rattle.std.specs.List.{list_any}
use Rattle.std.proofs.lemmas.Bool.{cases_lt, false≢true, leb-false}
use Rattle.std.proofs.lemmas.List.{get_or-set_same, get_or_past}
use Rattle.std.proofs.lemmas.Option.{none-some}
use Rattle.ep_facts.proofs.OptionFacts.{value_of}
use Rattle.ep_base.specs.declared.call.Call.TheVariants.{Accept, EpollCtl, EpollWait, TimerFd}
use Rattle.ep_base.specs.declared.call.Event.{Event}
use Rattle.ep_base.specs.declared.call.Event.TheVariants.{Call as CallOf, Resume, Tick}
use Rattle.ep_base.specs.declared.ids.Pid.{Pid}
use Rattle.ep_base.specs.declared.mask.Mask.{Mask}
use Rattle.ep_calls.proofs.ClockLemmas.{controls_stay, nowhere_stays}
use Rattle.ep_calls.proofs.FilesCallLemmas.{does_limits}
use Rattle.ep_calls.specs.FileCall.{CallsAsked, CallsFiles, IsFileCall}
use Rattle.ep_calls.specs.TableCall.{called}
use Rattle.ep_park.specs.Waiters.{is_of}
use Rattle.ep_calls.specs.Control.{Controls}
use Rattle.ep_calls.specs.declared.control.Control.{Control}
use Rattle.ep_calls.specs.declared.control.Plan.{Plan}
use Rattle.ep_calls.specs.declared.outcome.Outcome.{Outcome}
use Rattle.ep_machine.specs.Objects.{ObjectCall, asks, object_refusals, plain}
use Rattle.ep_machine.specs.Tables.{create_one, one_free, one_refusals, slot}
use Rattle.ep_alarms.proofs.AreSetLemmas.{set_but, set_kept, timer_in}
use Rattle.ep_alarms.proofs.FilesCallLemmas.{MakesNoTimer, made_alone, others_left, timer_made}
use Rattle.ep_alarms.proofs.MadeLemmas.{HaveObjects}
use Rattle.ep_alarms.proofs.ObjectEffectLemmas.{object_calls_leave, own_kept}
use Rattle.ep_alarms.specs.Alarms.{AreSet, AreSetBut, IsKept, IsSetFor}
use Rattle.ep_alarms.specs.Called.{IsCalled, asked_in, called_in}
use Rattle.ep_alarms.specs.Timers.{timer_at, timer_under}
use Rattle.ep_base.specs.Limits.{Limits}
use Rattle.ep_base.specs.declared.answer.Answer.{Answer}
use Rattle.ep_base.specs.declared.answer.Answer.TheVariants.{Done, Refused}
use Rattle.ep_base.specs.declared.call.Call.{Call}
use Rattle.ep_base.specs.declared.errno.Errno.{Errno}
use Rattle.ep_base.specs.declared.errno.Errno.TheVariants.{Ebadf, Einval, Emfile, Enfile}
use Rattle.ep_base.specs.declared.ids.DescId.{DescId}
use Rattle.ep_base.specs.declared.ids.Fd.{Fd}
use Rattle.ep_calls.specs.Clock.{ClockStays, Sets, Ticks}
use Rattle.ep_calls.specs.ObjectCall.{object_call_of}
use Rattle.ep_calls.specs.Parts.{AreOpening, Parts}
use Rattle.ep_calls.specs.declared.raising.Raising.{Raising}
use Rattle.ep_calls.specs.declared.raising.Raising.TheVariants.{Clock, Instance, Losses, Nowhere, Object as ObjectOf}
use Rattle.ep_due.specs.DueMap.{Moments, SameMoments, moment_of}
use Rattle.ep_alarms.specs.Changes.{AreSetSince, CallsTables, CreatesTimer, GoesOn, IsCreated, IsRefused, LeavesFiles, MovesClock, TouchesTables, WereSet}
use Rattle.ep_law.specs.Laws.{HaveOwnEnds}
use Rattle.ep_machine.specs.Effect.{first}
use Rattle.ep_machine.specs.Files.{Files, Place, Slot, Table, description_in, is_live, live, named_by, names_nothing, numbers_of, object_at, opening_files, object_under, place_of, side_under, table_of, under}
use Rattle.ep_machine.specs.FilesCalls.{FilesCall, files_call, is_clock}
use Rattle.ep_machine.specs.Lists.{enter, lowest_free}
use Rattle.ep_machine.specs.Timer.{Timer, last_moment}
use Rattle.ep_table.specs.Live.{key_of}
use Rattle.ep_table.specs.Value.{Does, KeepsKeys, Refuses, Seen, Sound as SoundTables, Succeeds, number_under}

-- Each timer is among them, and nothing else is.
kept_for : (now : ℕ) (t : Option Timer) (m : Option (Option ℕ)) → IsSetFor t now m → is_some m ≡ is_some t
kept_for now None m h = ap (λ (o : Option (Option ℕ)). is_some o) h
kept_for now (Some t) None h = absurd h
kept_for now (Some t) (Some next) h = refl

pub set_keeps : (v : Seen) (now : ℕ) (a : Moments) (key : ℕ) → AreSet v now a → IsKept v key a
set_keeps v now a key are_set = kept_for now (timer_under v key) (moment_of a key) (are_set key)

-- where no moment changed
pub set_same : (v : Seen) (now : ℕ) (a b : Moments) → SameMoments a b → AreSet v now a → AreSet v now b
set_same v now a b same are_set k = subst (λ (m : Option (Option ℕ)). IsSetFor (timer_under v k) now m) (sym (same k)) (are_set k)

-- The clock.
pub since_stays : (raising : Raising) (v : Seen) (before now : ℕ) (a : Moments) → ClockStays raising before now → AreSet v now a → AreSetSince raising v now a
since_stays Nowhere v before now a stays are_set = are_set
since_stays (ObjectOf desc raised) v before now a stays are_set = are_set
since_stays (Instance desc) v before now a stays are_set = are_set
since_stays Losses v before now a stays are_set = are_set
since_stays (Clock since) v before now a stays are_set = absurd stays

pub clock_same : (raising : Raising) (before now : ℕ) → ClockStays raising before now → now ≡ before
clock_same Nowhere before now stays = stays
clock_same (ObjectOf desc raised) before now stays = stays
clock_same (Instance desc) before now stays = stays
clock_same Losses before now stays = stays
clock_same (Clock since) before now stays = absurd stays

-- what a call makes of the tables that isn't refused
by_call : {C : Type 0} (call : FilesCall) (answer : Answer) (v w : Seen) → Does call answer v w
    → ((e : Errno) → Refuses e answer v w → C) → (first call.refusals ≡ None → Succeeds call answer v w → C) → C
by_call {C = C} call answer v w does refused done = by (first call.refusals) refl does where
  by : (o : Option Errno) → first call.refusals ≡ o → MatchOption o (Succeeds call answer v w) (λ e. Refuses e answer v w) → C
  by None is h = done is h
  by (Some e) is h = refused e h

past_one : (b : Bool) (e : Errno) (rest : List (Bool × Errno)) → first ((b, e) ∷ rest) ≡ None → (b ≡ false) × (first rest ≡ None)
past_one true e rest h = absurd (none-some e (sym h))
past_one false e rest h = (refl, h)

pub is_none_of : {X : Type 0} (o : Option X) → ((x : X) → o ≡ Some x → ⊥) → o ≡ None
is_none_of None not_some = refl
is_none_of (Some x) not_some = absurd (not_some x refl)

some_is : {X : Type 0} (o : Option X) → is_none o ≡ false → (x : X) × (o ≡ Some x)
some_is None h = absurd (false≢true (sym h))
some_is (Some x) h = (x, refl)

-- What leaves the files.
pub controls_leave : (plan : Plan) (args : Control) (outcome : Outcome) (p q : Parts) → Controls plan args outcome p q → LeavesFiles outcome.raising p q
controls_leave plan args outcome p q controls = record {
  files = ap (λ (v : Seen). v.files) controls.tables;
  clock = controls_stay plan args outcome p q controls;
}

pub nowhere_leaves : (raising : Raising) (p : Parts) → raising ≡ Nowhere → LeavesFiles raising p p
nowhere_leaves raising p is = record { files = refl; clock = nowhere_stays raising p.clock is }

-- A number that a new description got.
entered : {X : Type 0} (xs : List (Option X)) (x : X) → get_or (enter xs x) (lowest_free xs) None ≡ Some x
entered [] x = refl
entered (None ∷ xs) x = refl
entered (Some y ∷ xs) x = rw (add-one) (entered xs x)

table_within : (ts : List (Option Table)) (p : ℕ) → is_some (slice_index_or ts p None) ≡ true → p < length ts
table_within ts p h = elim (cases_lt p (length ts)) [
  | inl l ↦ l
  | inr past ↦ absurd (false≢true (sym (ap (λ (o : Option Table). is_some o) (get_or_past ts p None past)) ∙ h))
]

-- which object it has plays no part
created_under : (f : Files) (p : ℕ) (cloexec : Bool) → is_some (table_of f p) ≡ true → under (create_one f p plain cloexec) p (pos (one_free (numbers_of f p))) ≡ Some (length f.descriptions)
created_under f p cloexec there =
    let entry = slot (length f.descriptions) cloexec in
    ap (λ (o : Option Table). description_in (slice_index_or (unwrap_or o []) (one_free (numbers_of f p)) None)) (get_or-set_same f.tables p (Some (enter (numbers_of f p) entry)) None (table_within f.tables p there))
    ∙ ap (λ (o : Option Slot). description_in o) (entered (numbers_of f p) entry)

small_number : (n most : ℕ) → nat_le most n ≡ false → most ≤ 65536 → n < 2 ^ 31
small_number n most over h = omega (arith, leb-false most n over, h)

-- From parts p to parts q.
module _ (p q : Parts) (a : Moments) (sound : SoundTables p.tables) (sound_now : SoundTables q.tables) (keys : KeepsKeys p.tables q.tables) (are_set : AreSet p.tables p.clock a) (clock : q.clock ≡ p.clock) where
  pub refused_set : q.tables ≡ p.tables → AreSet q.tables q.clock a
  refused_set same = subst (λ (n : ℕ). AreSet q.tables n a) (sym clock) (subst (λ (v : Seen). AreSet v p.clock a) (sym same) are_set)

  pub left_set : ((d : ℕ) → timer_in q.tables.files d ≡ timer_in p.tables.files d) → AreSet q.tables q.clock a
  left_set same = subst (λ (n : ℕ). AreSet q.tables n a) (sym clock) (set_kept p.tables q.tables p.clock a sound sound_now keys same are_set)

  but_one : (key number : ℕ) → number_under q.tables (key_of key) ≡ Some number → ((d : ℕ) → d ≢ number → timer_in q.tables.files d ≡ timer_in p.tables.files d) → AreSetBut q.tables q.clock key a
  but_one key number is same = subst (λ (n : ℕ). AreSetBut q.tables n key a) (sym clock) (set_but p.tables q.tables p.clock a key number sound sound_now keys is same are_set)

  have_objects : HaveObjects p.tables.files
  have_objects d place is =
      let key = sound.keyed d (ap (λ (o : Option Place). is_some o) is) in
      subst (λ (o : Option Place). IsSome (object_at p.tables.files o)) is (sound.object key.0 d key.1)

  -- a call on the tables that makes no timer
  pub others_set : (limits : Limits) (pid : ℕ) (busy : Bool) (call : Call) (answer : Answer) → MakesNoTimer call → Does (files_call limits p.tables.files pid busy call) answer p.tables q.tables → AreSet q.tables q.clock a
  others_set limits pid busy call answer is does =
      by_call (files_call limits p.tables.files pid busy call) answer p.tables q.tables does
      (λ e refuses. refused_set refuses.tables)
      (λ accepted done. left_set (λ d. ap (λ (f : Files). timer_in f d) done.files ∙ others_left limits p.tables.files pid busy call have_objects is d))

  -- a call on the object that a descriptor names
  module _ (ends : HaveOwnEnds p.tables.files) (pid : ℕ) (fd : Fd) (asked : ObjectCall) (answer : Answer) where
    abbrev made : FilesCall
    made = object_call_of p.tables.files pid fd.0 p.clock asked

    abbrev number : ℕ
    number = named_by p.tables.files pid fd.0

    own_is_kept : (desc : DescId) → number_under p.tables desc ≡ Some number → number_under q.tables desc ≡ Some number → q.tables.files ≡ made.after → IsKept q.tables desc.0 a
    own_is_kept desc was is files =
        set_keeps p.tables p.clock a desc.0 are_set
        ∙ (ap (λ (o : Option ℕ). is_some (timer_at p.tables.files o)) was
        ∙ (sym (own_kept p.tables.files number p.clock asked)
        ∙ (ap (λ (f : Files). is_some (timer_in f number)) (sym files)
        ∙ sym (ap (λ (o : Option ℕ). is_some (timer_at q.tables.files o)) is))))

    named_before : first made.refusals ≡ None → under p.tables.files pid fd.0 ≡ Some number
    named_before accepted =
        let names = past_one (names_nothing p.tables.files pid fd.0) Ebadf (object_refusals (object_under p.tables.files pid fd.0) (side_under p.tables.files pid fd.0) p.clock asked) accepted in
        let there = some_is (under p.tables.files pid fd.0) names.0 in
        there.1 ∙ sym (ap (λ (o : Option ℕ). Some (unwrap_or o 0)) there.1)

    -- the description that the descriptor named before is kept, and each other timer has its moment
    pub object_leaves : Does made answer p.tables q.tables → (desc : DescId) → number_under p.tables desc ≡ under p.tables.files pid fd.0 → IsKept q.tables desc.0 a × AreSetBut q.tables q.clock desc.0 a
    object_leaves does desc named =
        by_call made answer p.tables q.tables does
        (λ e refuses.
        let all = refused_set refuses.tables in
        (set_keeps q.tables q.clock a desc.0 all, λ k ne. all k))
        (λ accepted done.
        let was : number_under p.tables desc ≡ Some number = named ∙ named_before accepted in
        let is : number_under q.tables desc ≡ Some number = keys desc number was in
        let lives : is_live p.tables.files number ≡ true = sound.place desc number was in (
          own_is_kept desc was is done.files,
          but_one desc.0 number is (λ d ne. ap (λ (f : Files). timer_in f d) done.files ∙ object_calls_leave p.tables.files number p.clock asked ends lives d ne),
        ))

    -- it named nothing
    pub object_none : Does made answer p.tables q.tables → under p.tables.files pid fd.0 ≡ None → AreSet q.tables q.clock a
    object_none does none =
        by_call made answer p.tables q.tables does
        (λ e refuses. refused_set refuses.tables)
        (λ accepted done. absurd (none-some number (sym none ∙ named_before accepted)))

  -- timerfd_create
  module _ (limits : Limits) (pid : ℕ) (busy : Bool) (kind : ℤ) (cloexec : Bool) (answer : Answer) where
    abbrev f : Files
    f = p.tables.files

    abbrev creation : FilesCall
    creation = files_call limits f pid busy (TimerFd kind cloexec)

    abbrev n : ℕ
    n = one_free (numbers_of f pid)

    -- its key was free
    was_free : (desc : DescId) → number_under q.tables desc ≡ Some (length f.descriptions) → (o : Option ℕ) → number_under p.tables desc ≡ o → number_under p.tables desc ≡ None
    was_free desc is None was = was
    was_free desc is (Some d) was =
        let both : Some d ≡ Some (length f.descriptions) = sym (keys desc d was) ∙ is in
        let same : d ≡ length f.descriptions = cc in
        let past : place_of f d ≡ None = get_or_past f.descriptions d None (omega (arith, same)) in
        absurd (false≢true (sym (ap (λ (o : Option Place). is_some o) past) ∙ sound.place desc d was))

    created : limits.descriptors ≤ 65536 → is_some (table_of f pid) ≡ true → first creation.refusals ≡ None → q.tables.files ≡ creation.after → IsCreated q pid n a
    created few there accepted files =
        let clocks = past_one (not (is_clock kind)) Einval (one_refusals limits f pid) accepted in
        let free = past_one (nat_le limits.descriptors n) Emfile ((nat_lt limits.files (length (live f) + 1), Enfile) ∷ []) clocks.1 in
        let now : under q.tables.files pid (pos n) ≡ Some (length f.descriptions) = ap (λ (g : Files). under g pid (pos n)) files ∙ created_under f pid cloexec there in
        record {
          small = small_number n limits.descriptors free.0 few;
          there = ap (λ (o : Option ℕ). is_some o) now;
          timer = λ desc is.
              ap (λ (o : Option ℕ). is_some (timer_at q.tables.files o)) (is ∙ now)
              ∙ ap (λ (t : Option Timer). is_some t) (ap (λ (g : Files). timer_in g (length f.descriptions)) files ∙ timer_made limits f pid busy kind cloexec);
          none = λ desc is.
              let free_key = was_free desc (is ∙ now) (number_under p.tables desc) refl in
              subst (λ (t : Option Timer). IsSetFor t p.clock (moment_of a desc.0)) (ap (timer_at f) free_key) (are_set desc.0);
          others = λ desc is. but_one desc.0 (length f.descriptions) (is ∙ now) (λ d ne. ap (λ (g : Files). timer_in g d) files ∙ made_alone limits f pid busy kind cloexec have_objects d ne);
        }

    pub creation_set : limits.descriptors ≤ 65536 → is_some (table_of f pid) ≡ true → Does creation answer p.tables q.tables → CreatesTimer answer q pid a
    creation_set few there does =
        by_call creation answer p.tables q.tables does
        (λ e refuses. subst (λ (r : Answer). CreatesTimer r q pid a) (sym refuses.answers) (refused_set refuses.tables))
        (λ accepted done. subst (λ (r : Answer). CreatesTimer r q pid a) (sym done.answers) (created few there accepted done.files))

-- any call but an epoll_ctl and a wait is on files
pub is_file_call : (call : Call) → ((epfd : Fd) (op : ℤ) (fd : Fd) (mask : Mask) (tag : ℕ) → call ≡ EpollCtl epfd op fd mask tag → ⊥)
    → ((epfd : Fd) (most timeout : ℤ) → call ≡ EpollWait epfd most timeout → ⊥) → IsFileCall call
is_file_call (EpollCtl epfd op fd mask tag) no_ctl no_wait = no_ctl epfd op fd mask tag refl
is_file_call (EpollWait epfd most timeout) no_ctl no_wait = no_wait epfd most timeout refl
is_file_call call no_ctl no_wait = tt

-- What a call does to the tables.
pub as_files : (pid : ℕ) (call : Call) (answer : Answer) (p q : Parts) → IsFileCall call → CallsFiles pid call answer p q → CallsTables pid call answer p q
as_files pid (EpollCtl epfd op fd mask tag) answer p q is did = absurd is
as_files pid (EpollWait epfd most timeout) answer p q is did = absurd is
as_files pid call answer p q is did = did

-- Once an event has changed the parts.
module _ (event : Event) (found : Option DescId) (outcome : Outcome) (has_room : Bool) (q : Parts) (a : Moments) (were : WereSet event found outcome has_room q a) (sound_now : SoundTables q.tables) where
  abbrev p : Parts
  p = were.before

  -- by a call
  module _ (pid : Pid) (call : Call) (is : event ≡ CallOf pid call) where
    touches : TouchesTables (CallOf pid call) outcome.answer p q
    touches = subst (λ (e : Event). TouchesTables e outcome.answer p q) is were.tables

    stays : ClockStays outcome.raising p.clock q.clock
    stays = subst (λ (e : Event). MovesClock e outcome.raising p.clock q.clock) is were.clock

    clock : q.clock ≡ p.clock
    clock = clock_same outcome.raising p.clock q.clock stays

    pub since_call : (b : Moments) → AreSet q.tables q.clock b → AreSetSince outcome.raising q.tables q.clock b
    since_call b are_set = since_stays outcome.raising q.tables p.clock q.clock b stays are_set

    refused_call : IsRefused outcome.answer p.tables q.tables → AreSet q.tables q.clock a
    refused_call refused = refused_set p q a were.sound sound_now were.keys were.set clock refused.1.tables

    pub call_creates : (kind : ℤ) (cloexec : Bool) → call ≡ TimerFd kind cloexec → q.tables.limits.descriptors ≤ 65536 → CreatesTimer outcome.answer q pid.0 a
    call_creates kind cloexec creates few = elim touches [
      | inl refused ↦ subst (λ (r : Answer). CreatesTimer r q pid.0 a) (sym refused.1.answers) (refused_call refused)
      | inr did ↦
          let limits = p.tables.limits in
          let busy = list_any (is_of pid.0) p.parked in
          let does : Does (files_call limits p.tables.files pid.0 busy (TimerFd kind cloexec)) outcome.answer p.tables q.tables = subst (λ (k : Call). CallsTables pid.0 k outcome.answer p q) creates did.1 in
          let same = does_limits (files_call limits p.tables.files pid.0 busy (TimerFd kind cloexec)) outcome.answer p.tables q.tables does in
          creation_set p q a were.sound sound_now were.keys were.set clock limits pid.0 busy kind cloexec outcome.answer (subst (λ (l : Limits). l.descriptors ≤ 65536) same few) did.0 does
    ]

    on_tables : (call : Call) → MakesNoTimer call → Does (called p.tables p.parked pid.0 call) outcome.answer p.tables q.tables → AreSet q.tables q.clock a
    on_tables call none does = others_set p q a were.sound sound_now were.keys were.set clock p.tables.limits pid.0 (list_any (is_of pid.0) p.parked) call outcome.answer none does

    on_files : q.tables.files ≡ p.tables.files → AreSet q.tables q.clock a
    on_files same = left_set p q a were.sound sound_now were.keys were.set clock (λ d. ap (λ (f : Files). timer_in f d) same)

    -- on the object of a description
    on_asked : (call : Call) (on : Option (Fd × ObjectCall)) (desc : DescId) (d : ℕ) → number_under p.tables desc ≡ Some d → number_under p.tables desc ≡ asked_in p.tables.files pid.0 on → CallsAsked pid.0 call on outcome.answer p q
        → IsKept q.tables desc.0 a × AreSetBut q.tables q.clock desc.0 a
    on_asked call None desc d at named did = absurd (none-some d (sym named ∙ at))
    on_asked call (Some on) desc d at named did = object_leaves p q a were.sound sound_now were.keys were.set clock were.ends pid.0 on.0 on.1 outcome.answer did desc named

    on_object : (call : Call) (desc : DescId) (d : ℕ) → number_under p.tables desc ≡ Some d → number_under p.tables desc ≡ called_in p.tables.files (CallOf pid call) → CallsTables pid.0 call outcome.answer p q
        → IsKept q.tables desc.0 a × AreSetBut q.tables q.clock desc.0 a
    on_object (EpollCtl epfd op fd mask tag) desc d at named did = absurd (none-some d (sym named ∙ at))
    on_object (EpollWait epfd most timeout) desc d at named did = absurd (none-some d (sym named ∙ at))
    on_object (Accept fd cloexec) desc d at named did =
        let all = on_tables (Accept fd cloexec) tt did in
        (set_keeps q.tables q.clock a desc.0 all, λ k ne. all k)
    on_object call desc d at named did = on_asked call (asks p.tables.files.objects call) desc d at named did

    call_sets : (desc : DescId) (d : ℕ) → number_under p.tables desc ≡ Some d → number_under p.tables desc ≡ called_in p.tables.files (CallOf pid call)
        → (b : Moments) → (IsKept q.tables desc.0 a → AreSetBut q.tables q.clock desc.0 a → AreSet q.tables q.clock b) → AreSetSince outcome.raising q.tables q.clock b
    call_sets desc d at named b sets = since_call b (elim touches [
      | inl refused ↦
          let all = refused_call refused in
          sets (set_keeps q.tables q.clock a desc.0 all) (λ k ne. all k)
      | inr did ↦
          let left = on_object call desc d at named did.1 in
          sets left.0 left.1
    ])

    -- on none, and it creates no timer
    by_asked : (call : Call) (on : Option (Fd × ObjectCall)) → MakesNoTimer call → asked_in p.tables.files pid.0 on ≡ None → CallsAsked pid.0 call on outcome.answer p q → AreSet q.tables q.clock a
    by_asked call None creates none did = on_tables call creates did
    by_asked call (Some on) creates none did = object_none p q a were.sound sound_now were.keys were.set clock were.ends pid.0 on.0 on.1 outcome.answer did none

    by_other : (call : Call) → ((kind : ℤ) (cloexec : Bool) → call ≡ TimerFd kind cloexec → ⊥) → called_in p.tables.files (CallOf pid call) ≡ None → CallsTables pid.0 call outcome.answer p q → AreSet q.tables q.clock a
    by_other (EpollCtl epfd op fd mask tag) creates none did = on_files did
    by_other (EpollWait epfd most timeout) creates none did = on_files did
    by_other (TimerFd kind cloexec) creates none did = absurd (creates kind cloexec refl)
    by_other (Accept fd cloexec) creates none did = on_tables (Accept fd cloexec) tt did
    by_other call creates none did = by_asked call (asks p.tables.files.objects call) tt none did

    none_in : found ≡ None → called_in p.tables.files (CallOf pid call) ≡ None
    none_in none =
        let nothing : called_in p.tables.files event ≡ None = subst (λ (o : Option DescId). IsCalled p.tables event o) none were.called in
        subst (λ (e : Event). called_in p.tables.files e ≡ None) is nothing

    pub other_call : found ≡ None → ((kind : ℤ) (cloexec : Bool) → call ≡ TimerFd kind cloexec → ⊥) → AreSetSince outcome.raising q.tables q.clock a
    other_call none creates = since_call a (elim touches [
      | inl refused ↦ refused_call refused
      | inr did ↦ by_other call creates (none_in none) did.1
    ])

  -- What was found.
  found_number : (desc : DescId) → found ≡ Some desc → (d : ℕ) × (number_under p.tables desc ≡ Some d)
  found_number desc is = value_of (number_under p.tables desc) (subst (λ (o : Option DescId). IfSome o (λ x. IsSome (number_under p.tables x))) is were.live)

  pub found_lives : (desc : DescId) → found ≡ Some desc → IsSome (number_under q.tables desc)
  found_lives desc is =
      let number = found_number desc is in
      ap (λ (o : Option ℕ). is_some o) (were.keys desc number.0 number.1)

  found_by : (e : Event) → event ≡ e → (desc : DescId) (d : ℕ) → number_under p.tables desc ≡ Some d → number_under p.tables desc ≡ called_in p.tables.files e
      → (b : Moments) → (IsKept q.tables desc.0 a → AreSetBut q.tables q.clock desc.0 a → AreSet q.tables q.clock b) → AreSetSince outcome.raising q.tables q.clock b
  found_by (CallOf pid call) is desc d at named b sets = call_sets pid call is desc d at named b sets
  found_by Resume is desc d at named b sets = absurd (none-some d (sym named ∙ at))
  found_by (Tick n) is desc d at named b sets = absurd (none-some d (sym named ∙ at))

  -- its moment is given anew
  pub found_set : (desc : DescId) → found ≡ Some desc → (b : Moments) → (IsKept q.tables desc.0 a → AreSetBut q.tables q.clock desc.0 a → AreSet q.tables q.clock b) → AreSetSince outcome.raising q.tables q.clock b
  found_set desc is b sets =
      let number = found_number desc is in
      let named : number_under p.tables desc ≡ called_in p.tables.files event = subst (λ (o : Option DescId). IsCalled p.tables event o) is were.called in
      found_by event refl desc number.0 number.1 named b sets

  -- the clock goes on
  moved : (raising : Raising) → GoesOn raising p.clock q.clock → q.tables.files ≡ p.tables.files → AreSetSince raising q.tables q.clock a
  moved (Clock since) on same =
      let kept = set_kept p.tables q.tables p.clock a were.sound sound_now were.keys (λ d. ap (λ (f : Files). timer_in f d) same) were.set in
      (subst (λ (n : ℕ). n ≤ q.clock) (sym on.0) on.1, subst (λ (n : ℕ). AreSet q.tables n a) (sym on.0) kept)
  moved Nowhere on same = left_set p q a were.sound sound_now were.keys were.set on (λ d. ap (λ (f : Files). timer_in f d) same)
  moved (ObjectOf desc raised) on same = left_set p q a were.sound sound_now were.keys were.set on (λ d. ap (λ (f : Files). timer_in f d) same)
  moved (Instance desc) on same = left_set p q a were.sound sound_now were.keys were.set on (λ d. ap (λ (f : Files). timer_in f d) same)
  moved Losses on same = left_set p q a were.sound sound_now were.keys were.set on (λ d. ap (λ (f : Files). timer_in f d) same)

  stayed : ClockStays outcome.raising p.clock q.clock → q.tables.files ≡ p.tables.files → AreSetSince outcome.raising q.tables q.clock a
  stayed stays same =
      since_stays outcome.raising q.tables p.clock q.clock a stays
      (left_set p q a were.sound sound_now were.keys were.set (clock_same outcome.raising p.clock q.clock stays) (λ d. ap (λ (f : Files). timer_in f d) same))

  by_event : (e : Event) → ((pid : Pid) (call : Call) → e ≡ CallOf pid call → ⊥) → TouchesTables e outcome.answer p q → MovesClock e outcome.raising p.clock q.clock → AreSetSince outcome.raising q.tables q.clock a
  by_event (CallOf pid call) none did moves = absurd (none pid call refl)
  by_event Resume none same moves = stayed moves same
  by_event (Tick n) none same moves = moved outcome.raising moves same

  pub other_event : ((pid : Pid) (call : Call) → event ≡ CallOf pid call → ⊥) → AreSetSince outcome.raising q.tables q.clock a
  other_event none = by_event event none were.tables were.clock

-- At the start.
opening_none : (d : ℕ) → timer_in opening_files d ≡ None
opening_none zero = refl
opening_none (suc d) = refl

pub set_opening : (limits : Limits) (p : Parts) (a : Moments) → AreOpening limits p → ((k : ℕ) → moment_of a k ≡ None) → AreSet p.tables p.clock a
set_opening limits p a opens none k = subst (λ (t : Option Timer). IsSetFor t p.clock (moment_of a k)) (sym (by (number_under p.tables (key_of k)))) (none k) where
  by : (o : Option ℕ) → timer_at p.tables.files o ≡ None
  by None = refl
  by (Some d) = ap (λ (f : Files). timer_in f d) opens.files ∙ opening_none d

-- A tick.
pub tick_moves : (n before now : ℕ) (answer : Answer) (raising : Raising) → Ticks before n now answer → Sets before n raising → GoesOn raising before now
tick_moves n before now answer raising = by (first ((nat_lt last_moment (before + n), Einval) ∷ [])) where
  by : (o : Option Errno) → MatchOption o ((answer ≡ Done) × (now ≡ before + n)) (λ e. (answer ≡ Refused e) × (now ≡ before)) → MatchOption o (raising ≡ Clock before) (λ e. raising ≡ Nowhere) → GoesOn raising before now
  by None ticks sets = subst (λ (r : Raising). GoesOn r before now) (sym sets) (refl, subst (λ (k : ℕ). before ≤ k) (sym ticks.1) (omega arith))
  by (Some e) ticks sets = subst (λ (r : Raising). GoesOn r before now) (sym sets) ticks.1

-- A call that is refused.
pub refused_moves : (event : Event) (pid : Pid) (call : Call) (raising : Raising) (now : ℕ) → event ≡ CallOf pid call → raising ≡ Nowhere → MovesClock event raising now now
refused_moves event pid call raising now is nowhere = subst (λ (e : Event). MovesClock e raising now now) (sym is) (nowhere_stays raising now nowhere)
