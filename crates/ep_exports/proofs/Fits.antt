-- A read gives at most as many bytes as it asks for, and a wait at most as many reports, also at its resumption.
use Rattle.std.specs.List.{filter_map, cons_option, list_all}
use Rattle.ep_machine.specs.Lists.{are_distinct}
use Rattle.std.specs.Option.{is_some}
use Rattle.std.proofs.lemmas.Bool.{ltb-false, eqb-true}
use Rattle.std.specs.Prelude.{is_none}
use Rattle.std.proofs.Common.{arith, refl, sym, ap, subst, true≢false, ◌≡◌, ◌≤◌, ◌==◌, ◌&&◌, ◌||◌, nat_lt, Bool, true, false, if◌then◌else◌, List, [], ◌∷◌, length, map, min, ℕ, ℤ, pos, negsuc, suc, zero, Option, None, Some, not}
use Rattle.ep_facts.proofs.BoolFacts.{first_of_or, second_of_or}
use Rattle.ep_base.specs.Limits.{Limits}
use Rattle.ep_base.specs.declared.answer.Answer.{Answer}
use Rattle.ep_base.specs.declared.answer.Answer.TheVariants.{Done, Num, Two, Refused, Bytes, Events, Time, Parked, Still, Connecting, Failed, Named}
use Rattle.ep_base.specs.declared.answer.Report.{Report as Told}
use Rattle.ep_base.specs.declared.errno.Errno.{Errno}
use Rattle.ep_base.specs.declared.object.End.{End}
use Rattle.ep_base.specs.declared.ids.Fd.{Fd}
use Rattle.ep_base.specs.declared.ids.Pid.{Pid}
use Rattle.ep_base.specs.declared.call.Call.TheVariants.{EpollWait, Peek, Read, Fork, Exec, Exit}
use Rattle.ep_base.specs.declared.call.Call.{Call}
use Rattle.ep_base.specs.declared.call.Event.{Event}
use Rattle.ep_base.specs.declared.ids.CallerId.{CallerId}
use Rattle.ep_base.specs.declared.record.Record.{Record}
use Rattle.ep_calls.specs.Acts.{Acts}
use Rattle.ep_flat.specs.declared.flat.FlatRequest.{FlatRequest}
use Rattle.ep_base.specs.declared.call.Event.TheVariants.{Call as CallOf, Resume, Tick}
use Rattle.ep_machine.specs.Effect.{first}
use Rattle.ep_machine.specs.Objects.{Object, object_effect, object_refusals, peeks, read, read_refusals, reads}
use Rattle.ep_object.proofs.AnswerLemmas.{gives_few}
use Rattle.ep_object.specs.Memory.{GivesAtMost}
use Rattle.ep_machine.specs.Report.{is_pick, is_fair_to, plainly, report, find_watch, watches_at, report_of}
use Rattle.ep_machine.specs.State.{Change, State, Waiter, Watch}
use Rattle.ep_machine.specs.Step.{next_event, refused_or, step}
use Rattle.ep_machine.specs.Refusal.{refusals}
use Rattle.ep_machine.specs.Waits.{is_due, is_parked, leave, leave_after, resume_by, unmarked, wait, wait_for, waiter_of}
use Rattle.ep_machine.specs.Readiness.{is_ready, reportables}
use Rattle.ep_base.specs.declared.errno.Errno.TheVariants.{Ebadf, Ebusy, Enomem, Esrch}
use Rattle.ep_machine.specs.Watches.{number_in}
use Rattle.ep_machine.specs.Files.{named_by, names_nothing, table_of, object_under, side_under}
use Rattle.ep_flat.specs.Flat.{Asks, AsksCall, bytes_of, count_of, lacks_room, reports_of}
use Rattle.ep_exports.specs.Events.{Fits}

first_rest : (b : Bool) (e : Errno) (rest : List (Bool × Errno)) → first ((b, e) ∷ rest) ≡ None → first rest ≡ None
first_rest true e rest h = absurd (true≢false (ap is_some h))
first_rest false e rest h = h

short : (most : ℕ) (answer : Answer) → GivesAtMost most answer → length (bytes_of answer) ≤ most
short most (Bytes xs) few = few
short most answer few = omega arith

read_short : (x : Object) (e : End) (n now : ℕ) → first (read_refusals x e n now) ≡ None → length (bytes_of (read x e n now).0) ≤ n
read_short x e n now h =
    let few = short _ (read x e n now).0 (gives_few x e now (reads n) h) in
    omega (arith, few)

peek_short : (x : Object) (e : End) (n now : ℕ) → first (object_refusals x e now (peeks n)) ≡ None → length (bytes_of (object_effect x e now (peeks n)).0) ≤ n
peek_short x e n now h =
    let few = short _ (object_effect x e now (peeks n)).0 (gives_few x e now (peeks n) h) in
    omega (arith, few)

abbrev answer_in : Option (Answer × State) → Answer
answer_in None = Done
answer_in (Some r) = r.0

-- what holds of each change's answer holds of the step's, if it holds of a refusal
goes : (P : Answer → Type 0) (r : Option Errno) (s t : State) (picked : List ℕ) (c : Option Change) (answer : Answer)
    → ((e : Errno) → P (Refused e)) → ((made : Change) → r ≡ None → c ≡ Some made → P made.0)
    → refused_or r s picked c ≡ Some (answer, t) → P answer
goes P (Some e) s t [] c answer refusal change h = subst P (ap answer_in h) (refusal e)
goes P (Some e) s t (k ∷ ks) c answer refusal change h = absurd (true≢false (sym (ap is_some h)))
goes P None s t picked None answer refusal change h = absurd (true≢false (sym (ap is_some h)))
goes P None s t picked (Some made) answer refusal change h = subst P (ap answer_in h) (change made refl refl)

abbrev change_in : Change → Option Change → Change
change_in d None = d
change_in d (Some c) = c

plain_change : (picked : List ℕ) (c made : Change) → plainly picked c ≡ Some made → c ≡ made
plain_change [] c made h = ap (change_in c) h
plain_change (k ∷ ks) c made h = absurd (true≢false (sym (ap is_some h)))

step_read : (limits : Limits) (s t : State) (caller : ℕ) (p : Pid) (fd : Fd) (n : ℕ) (picked : List ℕ) (answer : Answer)
    → step limits s caller (CallOf p (Read fd n)) picked ≡ Some (answer, t) → length (bytes_of answer) ≤ n
step_read limits s t caller p fd n picked answer h =
    let now = next_event s in
    goes (λ a. length (bytes_of a) ≤ n) (first (refusals limits now caller (CallOf p (Read fd n)))) now t picked _ answer (λ e. omega arith)
    (λ made none is. subst (λ (c : Change). length (bytes_of c.0) ≤ n) (plain_change picked _ made is)
    (read_short (object_under now.files p.0 fd.0) (side_under now.files p.0 fd.0) n now.now
    (first_rest (names_nothing now.files p.0 fd.0) Ebadf (read_refusals (object_under now.files p.0 fd.0) (side_under now.files p.0 fd.0) n now.now)
    (first_rest (is_parked now caller) Ebusy _ (first_rest (is_none (table_of now.files p.0)) Esrch _ none))))) h

step_peek : (limits : Limits) (s t : State) (caller : ℕ) (p : Pid) (fd : Fd) (n : ℕ) (picked : List ℕ) (answer : Answer)
    → step limits s caller (CallOf p (Peek fd n)) picked ≡ Some (answer, t) → length (bytes_of answer) ≤ n
step_peek limits s t caller p fd n picked answer h =
    let now = next_event s in
    let x = object_under now.files p.0 fd.0 in
    let e = side_under now.files p.0 fd.0 in
    goes (λ a. length (bytes_of a) ≤ n) (first (refusals limits now caller (CallOf p (Peek fd n)))) now t picked _ answer (λ e. omega arith)
    (λ made none is. subst (λ (c : Change). length (bytes_of c.0) ≤ n) (plain_change picked _ made is)
    (peek_short x e n now.now
    (first_rest (names_nothing now.files p.0 fd.0) Ebadf (object_refusals x e now.now (peeks n))
    (first_rest (is_parked now caller) Ebusy _ (first_rest (is_none (table_of now.files p.0)) Esrch _ none))))) h

cons_few : (o : Option Watch) (xs : List Watch) → length (cons_option o xs) ≤ suc (length xs)
cons_few None xs = omega arith
cons_few (Some x) xs = omega arith

found_few : (f : ℕ → Option Watch) (ks : List ℕ) → length (filter_map f ks) ≤ length ks
found_few f [] = omega arith
found_few f (k ∷ ks) = omega (arith, cons_few (f k) (filter_map f ks), found_few f ks)

same_length : (f : Watch → Told) (xs : List Watch) → length (map f xs) ≡ length xs
same_length f [] = refl
same_length f (x ∷ xs) = ap suc (same_length f xs)

third : (a b c d : Bool) → (a && b && c && d) ≡ true → c ≡ true
third true true true d h = refl
third true true false d h = absurd (true≢false (sym h))
third true false c d h = absurd (true≢false (sym h))
third false b c d h = absurd (true≢false (sym h))

-- what a change answers has at most so many reports
abbrev Few : ℕ → Option Change → Type 0
Few most None = Unit {0}
Few most (Some c) = length (reports_of c.0) ≤ most

if_few : (most : ℕ) (b : Bool) (x y : Option Change) → (b ≡ true → Few most x) → Few most y → Few most (if b then x else y)
if_few most true x y p q = p refl
if_few most false x y p q = q

plain_few : (most : ℕ) (picked : List ℕ) (c : Change) → length (reports_of c.0) ≤ most → Few most (plainly picked c)
plain_few most [] c p = p
plain_few most (k ∷ ks) c p = tt

wait_for_few : (s : State) (caller p e most : ℕ) (timeout : ℤ) → length (reports_of (wait_for s caller p e most timeout).0) ≤ most
wait_for_few s caller p e most (pos zero) = omega arith
wait_for_few s caller p e most (pos (suc k)) = omega arith
wait_for_few s caller p e most (negsuc k) = omega arith

report_few : (s : State) (e most : ℕ) (ks : List ℕ) → Few most (report s e most ks)
report_few s e most ks =
    let ready = reportables s e in let told = watches_at ready ks in
    if_few most (is_pick s e most ks) _ None (λ h.
    let count : length ks ≡ min most (length ready) = eqb-true (length ks) (min most (length ready)) (third (are_distinct ks) (length told == length ks) (length ks == min most (length ready)) (list_all (is_fair_to told ks) ready) h) in
    omega (arith, count, found_few (find_watch s.watches) ks, same_length (report_of s) (watches_at s.watches ks))) tt

wait_few : (s : State) (caller p e most : ℕ) (timeout : ℤ) (picked : List ℕ) → Few most (wait s caller p e most timeout picked)
wait_few s caller p e most timeout picked =
    if_few most (is_ready s e) _ _ (λ _. report_few s e most picked) (plain_few most picked _ (wait_for_few s caller p e most timeout))

due_few : (b : Bool) (s : State) (w : Waiter)
    → length (reports_of (if b then leave w.caller (Events [], s, []) else (Still, unmarked s w.caller, [])).0) ≤ w.most
due_few true s w = omega arith
due_few false s w = omega arith

left_few : (caller most : ℕ) (c : Option Change) → Few most c → Few most (leave_after caller c)
left_few caller most None h = tt
left_few caller most (Some c) h = h

resume_few : (s : State) (w : Waiter) (picked : List ℕ) → Few w.most (resume_by s (Some w) picked)
resume_few s w picked =
    if_few w.most (not w.marked) _ _ (λ _. plain_few w.most picked _ (omega arith))
    (if_few w.most (is_ready s w.instance) _ _ (λ _. left_few w.caller w.most _ (report_few s w.instance w.most picked))
    (plain_few w.most picked _ (due_few (is_due s.now w.deadline) s w)))

some_few : (most : ℕ) (c : Option Change) (made : Change) → c ≡ Some made → Few most c → length (reports_of made.0) ≤ most
some_few most c made e h = subst (Few most) e h

step_wait : (limits : Limits) (s t : State) (caller : ℕ) (p : Pid) (epfd : Fd) (max timeout : ℤ) (picked : List ℕ) (answer : Answer)
    → step limits s caller (CallOf p (EpollWait epfd max timeout)) picked ≡ Some (answer, t) → length (reports_of answer) ≤ number_in max
step_wait limits s t caller p epfd max timeout picked answer h =
    let now = next_event s in let most = number_in max in
    goes (λ a. length (reports_of a) ≤ most) (first (refusals limits now caller (CallOf p (EpollWait epfd max timeout)))) now t picked _ answer (λ e. omega arith)
    (λ made none is. some_few most _ made is (wait_few now caller p.0 (named_by now.files p.0 epfd.0) most timeout picked)) h

step_resume : (limits : Limits) (s t : State) (caller : ℕ) (w : Waiter) (picked : List ℕ) (answer : Answer)
    → waiter_of s caller ≡ Some w → step limits s caller Resume picked ≡ Some (answer, t) → length (reports_of answer) ≤ w.most
step_resume limits s t caller w picked answer found h =
    let now = next_event s in
    goes (λ a. length (reports_of a) ≤ w.most) (first (refusals limits now caller Resume)) now t picked _ answer (λ e. omega arith)
    (λ made none is. some_few w.most _ made is (subst (λ (o : Option Waiter). Few w.most (resume_by now o picked)) (sym found) (resume_few now w picked))) h

-- the answer of a step, whether it was want of memory or not
by_step : (P : Answer → Type 0) (limits : Limits) (caller : CallerId) (event : Event) (answer : Answer) (s t : State) (past now : List Record)
    → P (Refused Enomem) → ((picked : List ℕ) → step limits s caller.0 event picked ≡ Some (answer, t) → P answer)
    → Acts limits caller event answer s t past now → P answer
by_step P limits caller event (Refused Enomem) s t past now none some acts = none
by_step P limits caller event (Refused e) s t past now none some acts = some acts.picked acts.goes
by_step P limits caller event answer s t past now none some acts = some acts.picked acts.goes

read_fits_of : (r : FlatRequest) (given : List ℕ) (call : Call) (p : Pid) (limits : Limits) (caller : CallerId) (answer : Answer) (s t : State) (past now : List Record) (room : ℕ)
    → AsksCall r given call → r.event ≡ 9 → r.count ≤ room → Acts limits caller (CallOf p call) answer s t past now → length (bytes_of answer) ≤ room
read_fits_of r given (Read fd n) p limits caller answer s t past now room asks is fits acts =
    let short : length (bytes_of answer) ≤ n = by_step (λ a. length (bytes_of a) ≤ n) limits caller (CallOf p (Read fd n)) answer s t past now (omega arith) (λ picked h. step_read limits s t caller.0 p fd n picked answer h) acts in
    omega (arith, short, asks.2, fits)
read_fits_of r given Fork p limits caller answer s t past now room asks is fits acts = absurd (omega (arith, asks, is))
read_fits_of r given Exec p limits caller answer s t past now room asks is fits acts = absurd (omega (arith, asks, is))
read_fits_of r given Exit p limits caller answer s t past now room asks is fits acts = absurd (omega (arith, asks, is))
read_fits_of r given call p limits caller answer s t past now room asks is fits acts = absurd (omega (arith, asks.0, is))

peek_fits_of : (r : FlatRequest) (given : List ℕ) (call : Call) (p : Pid) (limits : Limits) (caller : CallerId) (answer : Answer) (s t : State) (past now : List Record) (room : ℕ)
    → AsksCall r given call → r.event ≡ 27 → r.count ≤ room → Acts limits caller (CallOf p call) answer s t past now → length (bytes_of answer) ≤ room
peek_fits_of r given (Peek fd n) p limits caller answer s t past now room asks is fits acts =
    let short : length (bytes_of answer) ≤ n = by_step (λ a. length (bytes_of a) ≤ n) limits caller (CallOf p (Peek fd n)) answer s t past now (omega arith) (λ picked h. step_peek limits s t caller.0 p fd n picked answer h) acts in
    omega (arith, short, asks.2, fits)
peek_fits_of r given Fork p limits caller answer s t past now room asks is fits acts = absurd (omega (arith, asks, is))
peek_fits_of r given Exec p limits caller answer s t past now room asks is fits acts = absurd (omega (arith, asks, is))
peek_fits_of r given Exit p limits caller answer s t past now room asks is fits acts = absurd (omega (arith, asks, is))
peek_fits_of r given call p limits caller answer s t past now room asks is fits acts = absurd (omega (arith, asks.0, is))

wait_fits_of : (r : FlatRequest) (given : List ℕ) (call : Call) (p : Pid) (limits : Limits) (caller : CallerId) (answer : Answer) (s t : State) (past now : List Record) (room : ℕ)
    → AsksCall r given call → r.event ≡ 8 → number_in r.number ≤ room → Acts limits caller (CallOf p call) answer s t past now → length (reports_of answer) ≤ room
wait_fits_of r given (EpollWait epfd max timeout) p limits caller answer s t past now room asks is fits acts =
    let short : length (reports_of answer) ≤ number_in max = by_step (λ a. length (reports_of a) ≤ number_in max) limits caller (CallOf p (EpollWait epfd max timeout)) answer s t past now (omega arith) (λ picked h. step_wait limits s t caller.0 p epfd max timeout picked answer h) acts in
    omega (arith, short, ap number_in asks.2, fits)
wait_fits_of r given Fork p limits caller answer s t past now room asks is fits acts = absurd (omega (arith, asks, is))
wait_fits_of r given Exec p limits caller answer s t past now room asks is fits acts = absurd (omega (arith, asks, is))
wait_fits_of r given Exit p limits caller answer s t past now room asks is fits acts = absurd (omega (arith, asks, is))
wait_fits_of r given call p limits caller answer s t past now room asks is fits acts = absurd (omega (arith, asks.0, is))

read_fits_event : (r : FlatRequest) (given : List ℕ) (event : Event) (limits : Limits) (caller : CallerId) (answer : Answer) (s t : State) (past now : List Record) (room : ℕ)
    → Asks r given event → r.event ≡ 9 → r.count ≤ room → Acts limits caller event answer s t past now → length (bytes_of answer) ≤ room
read_fits_event r given (CallOf p call) limits caller answer s t past now room asks is fits acts = read_fits_of r given call p limits caller answer s t past now room asks.1 is fits acts
read_fits_event r given Resume limits caller answer s t past now room asks is fits acts = absurd (omega (arith, asks, is))
read_fits_event r given (Tick n) limits caller answer s t past now room asks is fits acts = absurd (omega (arith, asks.0, is))

peek_fits_event : (r : FlatRequest) (given : List ℕ) (event : Event) (limits : Limits) (caller : CallerId) (answer : Answer) (s t : State) (past now : List Record) (room : ℕ)
    → Asks r given event → r.event ≡ 27 → r.count ≤ room → Acts limits caller event answer s t past now → length (bytes_of answer) ≤ room
peek_fits_event r given (CallOf p call) limits caller answer s t past now room asks is fits acts = peek_fits_of r given call p limits caller answer s t past now room asks.1 is fits acts
peek_fits_event r given Resume limits caller answer s t past now room asks is fits acts = absurd (omega (arith, asks, is))
peek_fits_event r given (Tick n) limits caller answer s t past now room asks is fits acts = absurd (omega (arith, asks.0, is))

wait_fits_event : (r : FlatRequest) (given : List ℕ) (event : Event) (limits : Limits) (caller : CallerId) (answer : Answer) (s t : State) (past now : List Record) (room : ℕ)
    → Asks r given event → r.event ≡ 8 → number_in r.number ≤ room → Acts limits caller event answer s t past now → length (reports_of answer) ≤ room
wait_fits_event r given (CallOf p call) limits caller answer s t past now room asks is fits acts = wait_fits_of r given call p limits caller answer s t past now room asks.1 is fits acts
wait_fits_event r given Resume limits caller answer s t past now room asks is fits acts = absurd (omega (arith, asks, is))
wait_fits_event r given (Tick n) limits caller answer s t past now room asks is fits acts = absurd (omega (arith, asks.0, is))

not_call : (r : FlatRequest) (given : List ℕ) (call : Call) → AsksCall r given call → r.event ≡ 20 → ⊥
not_call r given Fork asks is = absurd (omega (arith, asks, is))
not_call r given Exec asks is = absurd (omega (arith, asks, is))
not_call r given Exit asks is = absurd (omega (arith, asks, is))
not_call r given call asks is = absurd (omega (arith, asks.0, is))

resumption_fits_event : (r : FlatRequest) (given : List ℕ) (event : Event) (limits : Limits) (answer : Answer) (s t : State) (past now : List Record) (w : Waiter)
    → Asks r given event → r.event ≡ 20 → waiter_of s r.caller ≡ Some w → Acts limits (record { 0 = r.caller }) event answer s t past now → length (reports_of answer) ≤ w.most
resumption_fits_event r given (CallOf p call) limits answer s t past now w asks is found acts = absurd (not_call r given call asks.1 is)
resumption_fits_event r given Resume limits answer s t past now w asks is found acts =
    by_step (λ a. length (reports_of a) ≤ w.most) limits (record { 0 = r.caller }) Resume answer s t past now (omega arith) (λ picked h. step_resume limits s t r.caller w picked answer found h) acts
resumption_fits_event r given (Tick n) limits answer s t past now w asks is found acts = absurd (omega (arith, asks.0, is))

and_right : (x y : Bool) → x ≡ true → (x && y) ≡ false → y ≡ false
and_right true y t h = h
and_right false y t h = absurd (true≢false (sym t))

same_count : (z : ℤ) → number_in z ≡ count_of z
same_count (pos n) = refl
same_count (negsuc n) = refl

pub fits : (r : FlatRequest) (given : List ℕ) (event : Event) (limits : Limits) (answer : Answer) (s t : State) (past now : List Record) (bytes reports : ℕ)
    → Asks r given event → Acts limits (record { 0 = r.caller }) event answer s t past now → lacks_room r bytes reports ≡ false → Fits s r answer bytes reports
fits r given event limits answer s t past now bytes reports asks acts room =
    let caller : CallerId = record { 0 = r.caller } in
    let reads = (r.event == 9 || r.event == 27) && nat_lt bytes r.count in
    let waits = r.event == 8 && nat_lt reports (count_of r.number) in record {
      read = λ is. read_fits_event r given event limits caller answer s t past now bytes asks is
          (ltb-false bytes r.count (and_right (r.event == 9 || r.event == 27) (nat_lt bytes r.count) (ap (λ k. k == 9 || k == 27) is) (first_of_or reads waits room))) acts;
      peek = λ is. peek_fits_event r given event limits caller answer s t past now bytes asks is
          (ltb-false bytes r.count (and_right (r.event == 9 || r.event == 27) (nat_lt bytes r.count) (ap (λ k. k == 9 || k == 27) is) (first_of_or reads waits room))) acts;
      wait = λ is. wait_fits_event r given event limits caller answer s t past now reports asks is
          (subst (λ (k : ℕ). k ≤ reports) (sym (same_count r.number)) (ltb-false reports (count_of r.number)
          (and_right (r.event == 8) (nat_lt reports (count_of r.number)) (ap (λ k. k == 8) is) (second_of_or reads waits room)))) acts;
      resumption = λ is w found most.
          let few = resumption_fits_event r given event limits answer s t past now w asks is found acts in omega (arith, few, most);
    }
