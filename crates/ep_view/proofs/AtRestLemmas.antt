-- In each state of a run what holds at the end of each event holds, and no waiter is forgotten.
use Rattle.std.proofs.Common.{ap, ◌≡◌, ◌==◌, ℕ, zero, suc, ◌+◌, ◌≤◌, ◌&&◌, ◌++◌, All, Bool, List, [], ◌∷◌, MatchOption, None, Option, Some, ℤ, pos, negsuc, true, false, not, arith, cond, filter, get_or, inl, inr, if◌then◌else◌, is_none, map, nat_eq, nat_lt, refl, subst, sym, ◌∙◌, unwrap_or}
use Rattle.std.specs.List.{AllByRecursion, IsDistinct}
use Rattle.std.proofs.lemmas.Bool.{not-false}
use Rattle.std.proofs.lemmas.Bool.Decides.{nat_tests}
use Rattle.std.proofs.lemmas.List.Elements.{All-filter, All-map, All-push, All-weaker}
use Rattle.ep_base.specs.Limits.{Limits}
use Rattle.ep_base.specs.declared.answer.Answer.{Answer}
use Rattle.ep_base.specs.declared.answer.Answer.TheVariants.{Events}
use Rattle.ep_base.specs.declared.call.Call.{Call}
use Rattle.ep_base.specs.declared.call.Call.TheVariants.{Close, Dup, Dup2, EpollCreate, EventFd, Exec, Exit, Fork, Pipe as PipeCall, Plain, Socket, SocketPair, TimerFd}
use Rattle.ep_base.specs.declared.call.Event.{Event}
use Rattle.ep_base.specs.declared.call.Event.TheVariants.{Call as CallOf, Resume, Tick}
use Rattle.ep_base.specs.declared.errno.Errno.{Errno}
use Rattle.ep_base.specs.declared.errno.Errno.TheVariants.{Esrch, Ebusy}
use Rattle.ep_base.specs.declared.record.Record.{Record}
use Rattle.ep_machine.specs.Run.{run}
use Rattle.ep_machine.specs.Settle.{settle}
use Rattle.ep_law.proofs.ShapeLemmas.{by_making, by_shape, by_joined}
use Rattle.ep_law.proofs.StepLemmas.{run_keeps, resumes, change_counted}
use Rattle.ep_machine.specs.Bits.{ONESHOT, has_bit}
use Rattle.ep_machine.specs.Effect.{first}
use Rattle.ep_machine.specs.Files.{Files, Place, is_live, named_by, names_nothing, object_at, object_number, object_of, object_under, place_of, side_under, table_of}
use Rattle.ep_machine.specs.FilesCalls.{FilesCall, files_call}
use Rattle.ep_machine.specs.Lists.{is_among}
use Rattle.ep_view.proofs.KindLemmas.{effect_kind, kind_of_instance, watched_unless_plain}
use Rattle.ep_machine.specs.Objects.{Object, ObjectCall, object_effect, plain}
use Rattle.ep_view.specs.AtRest.{Changed, HasSeen, IsSteady, AtRest, kind_of}
use Rattle.ep_machine.specs.Readiness.{is_ready}
use Rattle.ep_machine.specs.Refusal.{call_refusals, ctl_refusals, on_object, refusals, wait_refusals}
use Rattle.ep_machine.specs.Report.{is_pick, plainly, report, report_of, reported, watches_at}
use Rattle.ep_machine.specs.State.{Change, State, Waiter, Watch, counts_of, opening}
use Rattle.ep_machine.specs.Step.{next_event, call_change, change, files_change, object_change, refused_or, settled, step, joined}
use Rattle.ep_machine.specs.Timer.{last_moment}
use Rattle.ep_machine.specs.Waits.{has_parked, is_parked, leave_after, resume, tick, unmark, unmarked, wait, wait_for, leave}
use Rattle.ep_machine.specs.Watches.{add, ctl, delete, has_key, is_add, is_del, modified, modify, new_watch, number_in}
use Rattle.ep_machine.specs.Deaths.{named_in_tables}
use Rattle.ep_view.proofs.WaiterLemmas.{callers_filter, callers_push, instance_filter, instance_push, unmarked_part}
use Rattle.ep_view.proofs.FilesLemmas.{Extends, Filed, among_either, among_first, among_second, extends_dup2, extends_one, extends_two, extends_with_object, filed_close, filed_dup, filed_dup2, filed_exec, filed_exit, filed_fork, filed_one, filed_opening, filed_two, filed_with_object, instance_stays, named_lives, named_opening, same_tables, watched_same}
use Rattle.ep_view.proofs.FreshLemmas.{past_itself}
use Rattle.ep_view.proofs.SettleLemmas.{quiet_settled, settle_changed}
use Rattle.std.proofs.lemmas.Option.{none-some}
use Rattle.ep_facts.proofs.OptionFacts.{some_not_none}
use Rattle.ep_law.specs.Narrow.{IsRegular}
use Rattle.ep_law.proofs.RegularLemmas.{WellMade, regular_settle, well_made_opening, well_made_step}
use Rattle.ep_law.proofs.ReplaceLemmas.{found_listens}
use Rattle.ep_view.proofs.FilesLemmas.{filed_join, extends_join, filed_abandoned, extends_abandoned, extends_trans, filed_accept, extends_accept}
use Rattle.ep_machine.specs.Connections.{accept, first_waiting, pending_in, join, without_abandoned}
use Rattle.ep_law.proofs.InstanceLemmas.{first_waits}
use Rattle.ep_base.specs.declared.call.Call.TheVariants.{Accept}
use Rattle.ep_machine.specs.Unconnected.{Idle}
use Rattle.ep_machine.specs.Tables.{close, dup2, exec, exit}
use Rattle.ep_object.specs.Connecting.{IsIdle}

-- In each state of a run no waiter is forgotten, and the rest of what holds at the end of each event holds.

-- no test of a list that refuses nothing holds
pub none_holds : (tests : List (Bool × Errno)) → first tests ≡ None → AllByRecursion (λ t. t.0 ≡ false) tests
none_holds [] h = tt
none_holds ((true, e) ∷ tests) h = cc
none_holds ((false, e) ∷ tests) h = (refl, none_holds tests h)

-- Other files under the same registrations.
steady_in : (f g : Files) → Extends f g → (x : Watch) → IsSteady f x.instance x.target → IsSteady g x.instance x.target
steady_in f g e x h = record { instance_lives = e.lives x.instance h.instance_lives; target_lives = e.lives x.target h.target_lives; target_shows = watched_same _ _ (e.shows x.target h.target_shows) h.target_shows }

filed : (s : State) → AtRest s → Filed s.files
filed s h = record { placed = h.placed; lives = λ d e. sym (h.named d) ∙ among_first (named_in_tables s.files.tables) (map (λ w. w.instance) s.waiters) d e }

-- what waiters wait at
waited_lives : (s : State) → AtRest s → (d : ℕ) → is_among (map (λ w. w.instance) s.waiters) d ≡ true → is_live s.files d ≡ true
waited_lives s h d e = sym (h.named d) ∙ among_second (named_in_tables s.files.tables) (map (λ w. w.instance) s.waiters) d e

pub weaken : (s : State) → AtRest s → Changed s
weaken s h = record { now = h.now; placed = h.placed; lives = λ d e. sym (h.named d) ∙ e; watches = h.watches; seen = h.seen; waiting = h.waiting; callers = h.callers }

quiet_files : (s : State) (g : Files) → AtRest s → Filed g → Extends s.files g → Changed (record s { files = g })
quiet_files s g h k e = record {
  now = h.now;
  placed = k.placed;
  lives = λ d n. elim (among_either (named_in_tables g.tables) (map (λ w. w.instance) s.waiters) d n) [ inl table ↦ k.lives d table | inr waits ↦ e.lives d (waited_lives s h d waits) ];
  watches = All-weaker (λ x. IsSteady s.files x.instance x.target) (λ x. IsSteady g x.instance x.target) (steady_in s.files g e) s.watches h.watches;
  seen = h.seen;
  waiting = All-weaker (λ w. kind_of (object_of s.files w.instance) ≡ 1) (λ w. kind_of (object_of g w.instance) ≡ 1) (λ w. instance_stays s.files g e w.instance) s.waiters h.waiting;
  callers = h.callers;
}

-- A call on an object keeps its kind.
pub kind_there : (o : Option Object) → kind_of (Some (unwrap_or o plain)) ≡ kind_of o
kind_there None = refl
kind_there (Some x) = refl

pub kind_at : (f : Files) (p : Option Place) → is_none p ≡ false → kind_of (object_at f p) ≡ kind_of (get_or f.objects (object_number p) None)
kind_at f None live = cc
kind_at f (Some p) live = refl

pub object_extends : (s : State) (p : ℕ) (fd : ℤ) (asked : ObjectCall) → AtRest s → names_nothing s.files p fd ≡ false → Extends s.files (object_change s p fd asked).1.files
object_extends s p fd asked h there =
    let d = named_by s.files p fd in
    let k = object_number (place_of s.files d) in
    let x = (object_effect (object_under s.files p fd) (side_under s.files p fd) s.now asked).1 in
    let live = some_not_none (place_of s.files d) (named_lives s.files p fd (filed s h) there) in
    extends_with_object s.files k x (λ shows. effect_kind _ (side_under s.files p fd) s.now asked ∙ (kind_there (object_of s.files d) ∙ kind_at s.files (place_of s.files d) live))

-- a change of the files only
record IsFiled (s : State) (c : Change) : Type 0 where
  pub after : Files
  pub is : c.1 ≡ record s { files = after }
  pub filed : Filed after
  pub extends : Extends s.files after

idle_under : (f : Files) (o : Option Place) (x : Idle) → IsIdle (unwrap_or (object_at f o) plain) x → IsIdle (unwrap_or (get_or f.objects (object_number o) None) plain) x
idle_under f None x h = cc
idle_under f (Some p) x h = h

-- a call on an object, with the join that a connect is
filed_object_change : (limits : Limits) (s : State) (p : ℕ) (call : Call) (fd : ℤ) (asked : ObjectCall) → AtRest s → names_nothing s.files p fd ≡ false → IsFiled s (joined limits p call (object_change s p fd asked))
filed_object_change limits s p call fd asked h there =
    let k = object_number (place_of s.files (named_by s.files p fd)) in
    let x = (object_effect (object_under s.files p fd) (side_under s.files p fd) s.now asked).1 in
    let c = object_change s p fd asked in
    let g = c.1.files in
    let one : IsFiled s c = record { after = g; is = refl; filed = filed_with_object s.files k x (filed s h); extends = object_extends s p fd asked h there } in
    by_joined limits p (IsFiled s) call c one (λ at name i m same under found unix.
    let o = place_of g (named_by g p at.0) in
    let listens = found_listens g name m found in
    let is_idle = idle_under g o i under in
    record {
      after = (join limits.sock_bytes g (object_number o) i name m).0;
      is = refl;
      filed = filed_join limits.sock_bytes g (object_number o) m i listens.0 name is_idle listens.1 one.filed;
      extends = extends_trans s.files g _ one.extends (extends_join limits.sock_bytes g (object_number o) m i listens.0 name is_idle listens.1);
    })

quiet_object_change : (limits : Limits) (s : State) (p : ℕ) (call : Call) (fd : ℤ) (asked : ObjectCall) → AtRest s → names_nothing s.files p fd ≡ false → Changed (joined limits p call (object_change s p fd asked)).1
quiet_object_change limits s p call fd asked h there =
    let c = filed_object_change limits s p call fd asked h there in
    subst Changed (sym c.is) (quiet_files s c.after h c.filed c.extends)

quiet_watches : (s : State) (xs : List Watch) (added : ℕ) → AtRest s → All (λ x. IsSteady s.files x.instance x.target) xs → All (λ x. HasSeen x.seen (counts_of s x.target)) xs → Changed (record s { watches = xs; added = added })
quiet_watches s xs added h steady seen = let was = weaken s h in record { now = h.now; placed = h.placed; lives = was.lives; watches = steady; seen = seen; waiting = h.waiting; callers = h.callers }

quiet_add : (s : State) (e fd d mask tag : ℕ) → AtRest s → IsSteady s.files e d → Changed (add s e fd d mask tag).1
quiet_add s e fd d mask tag h steady =
    let x = new_watch s e fd d mask tag in
    quiet_watches s _ (s.added + 1) h (All-push (λ y. IsSteady s.files y.instance y.target) s.watches x h.watches steady) (All-push (λ y. HasSeen y.seen (counts_of s y.target)) s.watches x h.seen tt)

-- DEL.
quiet_delete : (s : State) (e fd d : ℕ) → AtRest s → Changed (delete s e fd d).1
quiet_delete s e fd d h =
    let stays : Watch → Bool = λ x. not (has_key e fd d x) in
    quiet_watches s _ s.added h (All-filter stays (λ y. IsSteady s.files y.instance y.target) s.watches h.watches) (All-filter stays (λ y. HasSeen y.seen (counts_of s y.target)) s.watches h.seen)

-- MOD.
steady_modified : (s : State) (e fd d mask tag : ℕ) (x : Watch) → IsSteady s.files x.instance x.target → let y : Watch = modified e fd d mask tag x in IsSteady s.files y.instance y.target
steady_modified s e fd d mask tag x h =
    elim (has_key e fd d x) as (λ b. let y : Watch = cond b (record x { mask = mask; tag = tag; armed = true; seen = None }) x in IsSteady s.files y.instance y.target) [
      | true ↦ h
      | false ↦ h
    ]

seen_modified : (s : State) (e fd d mask tag : ℕ) (x : Watch) → HasSeen x.seen (counts_of s x.target) → HasSeen (modified e fd d mask tag x).seen (counts_of s (modified e fd d mask tag x).target)
seen_modified s e fd d mask tag x h =
    elim (has_key e fd d x) as (λ b. let y : Watch = cond b (record x { mask = mask; tag = tag; armed = true; seen = None }) x in HasSeen y.seen (counts_of s y.target)) [
      | true ↦ tt
      | false ↦ h
    ]

quiet_modify : (s : State) (e fd d mask tag : ℕ) → AtRest s → Changed (modify s e fd d mask tag).1
quiet_modify s e fd d mask tag h =
    quiet_watches s _ s.added h (All-map (λ y. IsSteady s.files y.instance y.target) (modified e fd d mask tag) s.watches (λ k x lt. steady_modified s e fd d mask tag (get_or s.watches k x) (h.watches k x lt)))
    (All-map (λ y. HasSeen y.seen (counts_of s y.target)) (modified e fd d mask tag) s.watches (λ k x lt. seen_modified s e fd d mask tag (get_or s.watches k x) (h.seen k x lt)))

quiet_if : (b : Bool) (c d : Change) → (b ≡ true → Changed c.1) → (b ≡ false → Changed d.1) → Changed (cond b c d).1
quiet_if true c d h k = h refl
quiet_if false c d h k = k refl

quiet_ctl : (limits : Limits) (s : State) (p : ℕ) (epfd op fd : ℤ) (mask tag : ℕ) → AtRest s → AllByRecursion (λ t. t.0 ≡ false) (ctl_refusals limits s p epfd op fd mask) → Changed (ctl s p epfd op fd mask tag).1
quiet_ctl limits s p epfd op fd mask tag h tests =
    let e = named_by s.files p epfd in
    let d = named_by s.files p fd in
    let k = number_in fd in
    let steady : IsSteady s.files e d = record {
      instance_lives = named_lives s.files p epfd (filed s h) tests.0;
      target_lives = named_lives s.files p fd (filed s h) tests.1.0;
      target_shows = watched_unless_plain (object_of s.files d) tests.1.1.0;
    } in
    quiet_if (is_add op) (add s e k d mask tag) (if is_del op then delete s e k d else modify s e k d mask tag)
    (λ _. quiet_add s e k d mask tag h steady)
    (λ _. quiet_if (is_del op) (delete s e k d) (modify s e k d mask tag) (λ _. quiet_delete s e k d h) (λ _. quiet_modify s e k d mask tag h))

-- A wait.
reported_steady : (s : State) (ks : List ℕ) (x : Watch) → IsSteady s.files x.instance x.target → let y : Watch = reported s ks x in IsSteady s.files y.instance y.target
reported_steady s ks x h =
    let y : Watch = record x { seen = Some (counts_of s x.target); rep = s.n; from = s.n; armed = x.armed && not (has_bit x.mask ONESHOT) } in
    elim (is_among ks x.number) as (λ b. let z : Watch = cond b y x in IsSteady s.files z.instance z.target) [
      | true ↦ h
      | false ↦ h
    ]

reported_seen : (s : State) (ks : List ℕ) (x : Watch) → HasSeen x.seen (counts_of s x.target) → HasSeen (reported s ks x).seen (counts_of s (reported s ks x).target)
reported_seen s ks x h =
    elim (is_among ks x.number) as (λ b. let y : Watch = cond b (record x { seen = Some (counts_of s x.target); rep = s.n; from = s.n; armed = x.armed && not (has_bit x.mask ONESHOT) }) x in HasSeen y.seen (counts_of s y.target)) [
      | true ↦ past_itself (counts_of s x.target)
      | false ↦ h
    ]

quiet_reported : (s : State) (ks : List ℕ) → AtRest s → Changed (record s { watches = map (reported s ks) s.watches })
quiet_reported s ks h =
    quiet_watches s _ s.added h (All-map (λ y. IsSteady s.files y.instance y.target) (reported s ks) s.watches (λ k d lt. reported_steady s ks (get_or s.watches k d) (h.watches k d lt)))
    (All-map (λ y. HasSeen y.seen (counts_of s y.target)) (reported s ks) s.watches (λ k d lt. reported_seen s ks (get_or s.watches k d) (h.seen k d lt)))

Fine : Option Change → Type 0
Fine c = MatchOption c (Unit {0}) (λ o. Changed o.1)

fine_plainly : (ks : List ℕ) (c : Change) → Changed c.1 → Fine (plainly ks c)
unfolding Fine
fine_plainly [] c h = h
fine_plainly (k ∷ ks) c h = tt

fine_option_if : (b : Bool) (c : Change) → Changed c.1 → Fine (cond b (Some c) None)
unfolding Fine
fine_option_if true c h = h
fine_option_if false c h = tt

fine_if : (b : Bool) (c d : Option Change) → Fine c → Fine d → Fine (cond b c d)
fine_if true c d h k = h
fine_if false c d h k = k

fine_report : (s : State) (e most : ℕ) (ks : List ℕ) → AtRest s → Fine (report s e most ks)
fine_report s e most ks h =
    let c : Change = (Events (map (report_of s) (watches_at s.watches ks)), record s { watches = map (reported s ks) s.watches }, []) in
    fine_option_if (is_pick s e most ks) c (quiet_reported s ks h)

-- Other waiters.
changed_waiters : (s : State) (ws : List Waiter) → Changed s → ((d : ℕ) → is_among (map (λ w. w.instance) ws) d ≡ true → is_live s.files d ≡ true) → All (λ w. kind_of (object_of s.files w.instance) ≡ 1) ws → IsDistinct nat_eq (map (λ w. w.caller) ws)
    → Changed (record s { waiters = ws })
changed_waiters s ws h lives waiting callers = record {
  now = h.now;
  placed = h.placed;
  lives = λ d n. elim (among_either (named_in_tables s.files.tables) (map (λ w. w.instance) ws) d n) [
    | inl table ↦ h.lives d (among_first (named_in_tables s.files.tables) (map (λ w. w.instance) s.waiters) d table)
    | inr waits ↦ lives d waits
  ];
  watches = h.watches;
  seen = h.seen;
  waiting = waiting;
  callers = callers;
}

held_lives : (s : State) → Changed s → (d : ℕ) → is_among (map (λ w. w.instance) s.waiters) d ≡ true → is_live s.files d ≡ true
held_lives s h d e = h.lives d (among_second (named_in_tables s.files.tables) (map (λ w. w.instance) s.waiters) d e)

changed_left : (s : State) (p : Waiter → Bool) → Changed s → Changed (record s { waiters = filter p s.waiters })
changed_left s p h =
    changed_waiters s (filter p s.waiters) h (λ d e. held_lives s h d (instance_filter p s.waiters d e)) (All-filter p (λ w. kind_of (object_of s.files w.instance) ≡ 1) s.waiters h.waiting) (callers_filter p s.waiters h.callers)

changed_unmarked : (s : State) (caller : ℕ) → Changed s → Changed (unmarked s caller)
changed_unmarked s caller h =
    changed_waiters s (map (unmark caller) s.waiters) h (λ d e. held_lives s h d (ap (λ (ds : List ℕ). is_among ds d) (sym (unmarked_part (λ w. w.instance) (λ w b. refl) caller s.waiters)) ∙ e))
    (All-map (λ w. kind_of (object_of s.files w.instance) ≡ 1) (unmark caller) s.waiters (λ k w lt. h.waiting k w lt))
    (subst (IsDistinct nat_eq) (sym (unmarked_part (λ w. w.caller) (λ w b. refl) caller s.waiters)) h.callers)

-- a caller that isn't parked, at an instance that lives
changed_parked : (s : State) (w : Waiter) → Changed s → is_parked s w.caller ≡ false → is_live s.files w.instance ≡ true → kind_of (object_of s.files w.instance) ≡ 1 → Changed (record s { waiters = s.waiters ++ w ∷ [] })
changed_parked s w h free lives one =
    changed_waiters s (s.waiters ++ w ∷ []) h
    (λ d e. elim (instance_push s.waiters w d e) [ inl before ↦ held_lives s h d before | inr same ↦ subst (λ (k : ℕ). is_live s.files k ≡ true) (sym same) lives ])
    (All-push (λ v. kind_of (object_of s.files v.instance) ≡ 1) s.waiters w h.waiting one)
    (callers_push s.waiters w free h.callers)

quiet_wait_for : (s : State) (caller p e most : ℕ) (timeout : ℤ) → AtRest s → is_parked s caller ≡ false → is_live s.files e ≡ true → kind_of (object_of s.files e) ≡ 1 → Changed (wait_for s caller p e most timeout).1
quiet_wait_for s caller p e most (pos zero) h free lives one = weaken s h
quiet_wait_for s caller p e most (pos (suc k)) h free lives one = changed_parked s _ (weaken s h) free lives one
quiet_wait_for s caller p e most (negsuc k) h free lives one = changed_parked s _ (weaken s h) free lives one

fine_wait : (s : State) (caller p : ℕ) (epfd most timeout : ℤ) (ks : List ℕ) → AtRest s → is_parked s caller ≡ false → AllByRecursion (λ t. t.0 ≡ false) (wait_refusals s p epfd most) → Fine (wait s caller p (named_by s.files p epfd) (number_in most) timeout ks)
fine_wait s caller p epfd most timeout ks h free tests =
    let e = named_by s.files p epfd in
    let lives = named_lives s.files p epfd (filed s h) tests.1.0 in
    let one = kind_of_instance (object_of s.files e) (not-false _ tests.1.1.0) in
    fine_if (is_ready s e) _ _ (fine_report s e (number_in most) ks h) (fine_plainly ks _ (quiet_wait_for s caller p e (number_in most) timeout h free lives one))

-- A resumption.
fine_left : (caller : ℕ) (o : Option Change) → Fine o → Fine (leave_after caller o)
unfolding Fine
fine_left caller None h = tt
fine_left caller (Some c) h = changed_left c.1 (λ w. not (w.caller == caller)) h

fine_resume : (s : State) (caller : ℕ) (ks : List ℕ) → AtRest s → Fine (resume s caller ks)
fine_resume s caller ks h =
    let was = weaken s h in
    resumes Fine s caller ks (fine_plainly ks _ was) (λ w. fine_left w.caller _ (fine_report s w.instance w.most ks h)) (λ w. fine_plainly ks _ (changed_left s (λ v. not (v.caller == w.caller)) was)) (λ w. fine_plainly ks _ (changed_unmarked s w.caller was))

-- A call on the tables alone.
fine_files : (s : State) (c : FilesCall) (ks : List ℕ) → AtRest s → Filed c.after → Extends s.files c.after → Fine (plainly ks (files_change s c))
fine_files s c ks h filed extends = fine_plainly ks _ (quiet_files s c.after h filed extends)

-- The calls.
module _ (limits : Limits) (s : State) (caller p : ℕ) (ks : List ℕ) (h : AtRest s) (f : Filed s.files) (free : is_parked s caller ≡ false) where
  abbrev IsFine : Call → List (Bool × Errno) → Option Change → Type 0
  IsFine call tests c = AllByRecursion (λ t. t.0 ≡ false) ((is_none (get_or s.files.tables p None), Esrch) ∷ tests) → Fine c

  abbrev on_files : Call → FilesCall
  on_files call = files_call limits s.files p (has_parked s p) call

  fine_on_files : (call : Call) → Filed (on_files call).after → Extends s.files (on_files call).after → Fine (plainly ks (files_change s (on_files call)))
  fine_on_files call = fine_files s (on_files call) ks h

  accept_is_filed : (fd : ℤ) (cloexec : Bool) → is_none (get_or s.files.tables p None) ≡ false → (o : Option ℕ) → first_waiting s.files (pending_in (object_under s.files p fd)) ≡ o
      → let g = accept s.files p (object_number (place_of s.files (named_by s.files p fd))) o cloexec in Filed g × Extends s.files g
  accept_is_filed fd cloexec there None is = (f, same_tables s.files s.files.tables)
  accept_is_filed fd cloexec there (Some k) is =
      let m = object_number (place_of s.files (named_by s.files p fd)) in
      let waits = first_waits s.files _ k is in
      (filed_accept s.files m k waits p cloexec there f, extends_accept s.files m k waits p cloexec)

  -- with what is left waiting gone
  let_go_filed : (g : Files) → Filed g → Extends s.files g → Filed (without_abandoned g).0 × Extends s.files (without_abandoned g).0
  let_go_filed g k e = (filed_abandoned g k, extends_trans s.files g _ e (extends_abandoned g))

  files_are_fine : (call : Call) → IsFine call (on_files call).refusals (plainly ks (files_change s (on_files call)))
  files_are_fine (PipeCall cloexec) tests = fine_on_files (PipeCall cloexec) (filed_two s.files p _ cloexec tests.0 f) (extends_two s.files p _ cloexec)
  files_are_fine (EventFd init semaphore cloexec) tests = fine_on_files (EventFd init semaphore cloexec) (filed_one s.files p _ cloexec tests.0 f) (extends_one s.files p _ cloexec)
  files_are_fine (TimerFd clock cloexec) tests = fine_on_files (TimerFd clock cloexec) (filed_one s.files p _ cloexec tests.0 f) (extends_one s.files p _ cloexec)
  files_are_fine (SocketPair cloexec) tests = fine_on_files (SocketPair cloexec) (filed_two s.files p _ cloexec tests.0 f) (extends_two s.files p _ cloexec)
  files_are_fine (Socket family cloexec) tests = fine_on_files (Socket family cloexec) (filed_one s.files p _ cloexec tests.0 f) (extends_one s.files p _ cloexec)
  files_are_fine (Plain cloexec) tests = fine_on_files (Plain cloexec) (filed_one s.files p _ cloexec tests.0 f) (extends_one s.files p _ cloexec)
  files_are_fine (EpollCreate cloexec) tests = fine_on_files (EpollCreate cloexec) (filed_one s.files p _ cloexec tests.0 f) (extends_one s.files p _ cloexec)
  files_are_fine (Dup fd) tests = fine_on_files (Dup fd) (filed_dup s.files p (named_by s.files p fd.0) f (named_lives s.files p fd.0 f tests.1.0)) (same_tables s.files _)
  files_are_fine (Dup2 fd to) tests =
      let d = named_by s.files p fd.0 in
      let lives = named_lives s.files p fd.0 f tests.1.0 in
      let left = let_go_filed (dup2 s.files p fd.0 to.0 d) (filed_dup2 s.files p fd.0 to.0 d f lives) (extends_dup2 s.files p fd.0 to.0 d) in
      fine_on_files (Dup2 fd to) left.0 left.1
  files_are_fine (Accept fd cloexec) tests =
      let both = accept_is_filed fd.0 cloexec tests.0 (first_waiting s.files (pending_in (object_under s.files p fd.0))) refl in
      fine_on_files (Accept fd cloexec) both.0 both.1
  files_are_fine (Close fd) tests = let left = let_go_filed (close s.files p fd.0) (filed_close s.files p fd.0 f) (same_tables s.files _) in fine_on_files (Close fd) left.0 left.1
  files_are_fine Fork tests = fine_on_files Fork (filed_fork s.files p f) (same_tables s.files _)
  files_are_fine Exec tests = let left = let_go_filed (exec s.files p) (filed_exec s.files p f) (same_tables s.files _) in fine_on_files Exec left.0 left.1
  files_are_fine Exit tests = let left = let_go_filed (exit s.files p) (filed_exit s.files p f) (same_tables s.files _) in fine_on_files Exit left.0 left.1
  files_are_fine call tests = fine_on_files call f (same_tables s.files s.files.tables)

  fine_call : (call : Call) → IsFine call (call_refusals limits s p call) (call_change limits s caller p call ks)
  fine_call call =
      by_shape limits s caller p ks IsFine
      (λ epfd op fd mask tag tests. fine_plainly ks _ (quiet_ctl limits s p epfd.0 op fd.0 mask.0 tag h tests.1))
      (λ epfd most timeout tests. fine_wait s caller p epfd.0 most timeout ks h free tests.1)
      (λ on fd asked is tests. fine_plainly ks _ (quiet_object_change limits s p on fd.0 asked h tests.1.0))
      (λ on is tests. files_are_fine on tests)
      call

-- The clock goes on within its range.
not_above : (a b : ℕ) → nat_lt a b ≡ false → b ≤ a
not_above a b h = grind (arith, nat_tests)

fine_tick : (s : State) (k : ℕ) (ks : List ℕ) → AtRest s → nat_lt last_moment (s.now + k) ≡ false → Fine (plainly ks (tick s k))
fine_tick s k ks h allowed =
    let was = weaken s h in fine_plainly ks (tick s k) (record { now = not_above last_moment (s.now + k) allowed; placed = h.placed; lives = was.lives; watches = h.watches; seen = h.seen; waiting = h.waiting; callers = h.callers })

fine_change : (limits : Limits) (s : State) (caller : ℕ) (event : Event) (ks : List ℕ) → AtRest s → first (refusals limits s caller event) ≡ None → Fine (change limits s caller event ks)
fine_change limits s caller (CallOf p call) ks h allowed =
    let tests = none_holds (refusals limits s caller (CallOf p call)) allowed in
    fine_call limits s caller p.0 ks h (filed s h) tests.1.0 call (tests.0, tests.1.1)
fine_change limits s caller Resume ks h allowed = fine_resume s caller ks h
fine_change limits s caller (Tick k) ks h allowed = fine_tick s k ks h (none_holds (refusals limits s caller (Tick k)) allowed).0

-- a change that isn't refused
pub quiet_change : (limits : Limits) (s : State) (caller : ℕ) (event : Event) (picked : List ℕ) (c : Change) → AtRest s → first (refusals limits s caller event) ≡ None → change limits s caller event picked ≡ Some c → Changed c.1
unfolding Fine
quiet_change limits s caller event picked c h allowed e = subst Fine e (fine_change limits s caller event picked h allowed)

IsStep : Option (Answer × State) → Type 0
IsStep o = MatchOption o (Unit {0}) (λ c. AtRest c.1)

-- of an event
abbrev IsCounted : Option Change → Type 0
IsCounted c = (made : Change) → c ≡ Some made → (0 == made.1.n) ≡ false

-- and leads to a regular state
abbrev IsRegularAfter : State → Option Change → Type 0
IsRegularAfter before c = (made : Change) → c ≡ Some made → IsRegular (settle before made.1 made.2)

fine_settled : (before : State) (c : Option Change) → IsCounted c → IsRegularAfter before c → Fine c → IsStep (settled before c)
unfolding Fine IsStep
fine_settled before None k r h = tt
fine_settled before (Some c) k r h = quiet_settled c.1 h before.waiters c.2 (settle before c.1 c.2) (settle_changed before c.1 c.2 (k c refl) h (r c refl))

fine_refused : (e : Option Errno) (s : State) (ks : List ℕ) (c : Option Change) → AtRest s → IsCounted c → (e ≡ None → IsRegularAfter s c) → (e ≡ None → Fine c) → IsStep (refused_or e s ks c)
unfolding IsStep
fine_refused None s ks c h n r k = fine_settled s c n (r refl) (k refl)
fine_refused (Some e) s [] c h n r k = h
fine_refused (Some e) s (x ∷ ks) c h n r k = tt

pub quiet_begun : (s : State) → AtRest s → AtRest (next_event s)
quiet_begun s h = record { now = h.now; placed = h.placed; named = h.named; watches = h.watches; seen = h.seen; waiting = h.waiting; callers = h.callers; marks = h.marks }

pub quiet_opening : AtRest opening
unfolding IsDistinct
quiet_opening = record {
  now = omega arith;
  placed = filed_opening.placed;
  named = named_opening;
  watches = λ k d lt. absurd (omega arith);
  seen = λ k d lt. absurd (omega arith);
  waiting = λ k d lt. absurd (omega arith);
  callers = tt;
  marks = refl;
}

pub quiet_step : (limits : Limits) (s t : State) (caller : ℕ) (event : Event) (picked : List ℕ) (a : Answer) → WellMade s → AtRest s → step limits s caller event picked ≡ Some (a, t) → AtRest t
unfolding IsStep
quiet_step limits s t caller event picked a well h e =
    let now = next_event s in
    let start = quiet_begun s h in
    subst IsStep e (fine_refused (first (refusals limits now caller event)) now picked (change limits now caller event picked) start (change_counted limits s caller event picked)
    (λ allowed c made. regular_settle limits s caller event picked c well allowed made) (fine_change limits now caller event picked start))

-- each state of a run
pub quiet_run : (limits : Limits) (past : List Record) (s : State) → run limits opening past ≡ Some s → AtRest s
quiet_run limits past s e = (run_keeps (λ t. WellMade t × AtRest t) limits (λ u t caller event picked a h is. (well_made_step limits u t caller event picked a h.0 is, quiet_step limits u t caller event picked a h.0 h.1 is)) opening s past (well_made_opening, quiet_opening) e).1

-- What a change leaves of the files: what lives and what can be watched stays.

pub extends_self : (f : Files) → Extends f f
extends_self f = record { lives = λ d e. e; shows = λ d e. refl }

extends_same : (f g : Files) → g.descriptions ≡ f.descriptions → g.objects ≡ f.objects → Extends f g
extends_same f g places objects = subst (Extends f) (λ i. record g { descriptions = sym places i; objects = sym objects i }) (same_tables f g.tables)

-- a call on the tables alone leaves what is there as it was
pub extends_call : (limits : Limits) (f : Files) (p : ℕ) (busy : Bool) (call : Call) → Extends f (files_call limits f p busy call).after
extends_call limits f p busy =
    by_making limits f p busy (λ of g raised. Extends f g) (λ of x cloexec has. extends_one f p x cloexec) (λ of x cloexec has also. extends_two f p x cloexec) (λ of. extends_same f)
    (λ of g places objects. extends_trans f g _ (extends_same f g places objects) (extends_abandoned g))
    (λ fd cloexec k is. extends_accept f (object_number (place_of f (named_by f p fd.0))) k (first_waits f _ k is) p cloexec)

abbrev Reaches : Files → Option Change → Type 0
Reaches f o = (made : Change) → o ≡ Some made → Extends f made.1.files

reaches_some : (f : Files) (c : Change) → Extends f c.1.files → Reaches f (Some c)
reaches_some f c h made e = subst (λ (b : Change). Extends f b.1.files) (ap (λ (o : Option Change). unwrap_or o c) e) h

reaches_none : (f : Files) → Reaches f None
reaches_none f made e = absurd (none-some made e)

reaches_plainly : (f : Files) (ks : List ℕ) (c : Change) → Extends f c.1.files → Reaches f (plainly ks c)
reaches_plainly f [] c h = reaches_some f c h
reaches_plainly f (k ∷ ks) c h = reaches_none f

reaches_if : (f : Files) (b : Bool) (x y : Option Change) → Reaches f x → Reaches f y → Reaches f (cond b x y)
reaches_if f true x y h i = h
reaches_if f false x y h i = i

one_of : (f : Files) (a b : Bool) (x y z : Change) → Extends f x.1.files → Extends f y.1.files → Extends f z.1.files → Extends f (cond a x (cond b y z)).1.files
one_of f true b x y z h i j = h
one_of f false true x y z h i j = i
one_of f false false x y z h i j = j

waits_extend : (s : State) (caller p e most : ℕ) (timeout : ℤ) → Extends s.files (wait_for s caller p e most timeout).1.files
waits_extend s caller p e most (pos zero) = extends_self s.files
waits_extend s caller p e most (pos (suc k)) = extends_self s.files
waits_extend s caller p e most (negsuc k) = extends_self s.files

reports_reach : (s : State) (e most : ℕ) (ks : List ℕ) → Reaches s.files (report s e most ks)
reports_reach s e most ks = reaches_if s.files (is_pick s e most ks) _ None (reaches_some s.files _ (extends_self s.files)) (reaches_none s.files)

call_reaches : (limits : Limits) (s : State) (caller p : ℕ) (call : Call) (ks : List ℕ) → AtRest s → first (call_refusals limits s p call) ≡ None → Reaches s.files (call_change limits s caller p call ks)
call_reaches limits s caller p call ks h =
    by_shape limits s caller p ks (λ on tests c. first tests ≡ None → Reaches s.files c)
    (λ epfd op fd mask tag allowed. reaches_plainly s.files ks _ (one_of s.files (is_add op) (is_del op) _ _ _ (extends_self s.files) (extends_self s.files) (extends_self s.files)))
    (λ epfd most timeout allowed.
    let e = named_by s.files p epfd.0 in
    reaches_if s.files (is_ready s e) (report s e (number_in most) ks) (plainly ks (wait_for s caller p e (number_in most) timeout))
    (reports_reach s e (number_in most) ks)
    (reaches_plainly s.files ks _ (waits_extend s caller p e (number_in most) timeout)))
    (λ on fd asked is allowed.
    let c = filed_object_change limits s p on fd.0 asked h (none_holds (on_object s p fd.0 asked) allowed).0 in
    reaches_plainly s.files ks _ (subst (λ (t : State). Extends s.files t.files) (sym c.is) c.extends))
    (λ on is allowed. reaches_plainly s.files ks _ (extends_call limits s.files p (has_parked s p) on))
    call

reaches_left : (f : Files) (caller : ℕ) (o : Option Change) → Reaches f o → Reaches f (leave_after caller o)
reaches_left f caller None h = reaches_none f
reaches_left f caller (Some c) h = reaches_some f (leave caller c) (h c refl)

past_two : (a b : Bool × Errno) (rest : List (Bool × Errno)) → first (a ∷ b ∷ rest) ≡ None → first rest ≡ None
past_two (true, e) b rest h = absurd (none-some e (sym h))
past_two (false, e) (true, g) rest h = absurd (none-some g (sym h))
past_two (false, e) (false, g) rest h = h

pub change_extends : (limits : Limits) (s : State) (caller : ℕ) (event : Event) (ks : List ℕ) (made : Change) → AtRest s → first (refusals limits s caller event) ≡ None → change limits s caller event ks ≡ Some made → Extends s.files made.1.files
change_extends limits s caller (CallOf p call) ks made h allowed e = call_reaches limits s caller p.0 call ks h (past_two (is_none (table_of s.files p.0), Esrch) (is_parked s caller, Ebusy) (call_refusals limits s p.0 call) allowed) made e
change_extends limits s caller Resume ks made h allowed e =
    let same = extends_self s.files in
    resumes (Reaches s.files) s caller ks (reaches_plainly s.files ks _ same) (λ w. reaches_left s.files w.caller _ (reports_reach s w.instance w.most ks)) (λ w. reaches_plainly s.files ks _ same) (λ w. reaches_plainly s.files ks _ same) made e
change_extends limits s caller (Tick k) ks made h allowed e = reaches_plainly s.files ks _ (extends_self s.files) made e
