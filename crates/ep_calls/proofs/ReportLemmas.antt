-- A wait of the machine and one of the kernel.
use Rattle.std.proofs.Common.{min, unwrap_or, ◌||◌, ◌≡◌, ◌==◌, ◌&&◌, ◌<◌, ℕ, ℤ, zero, suc, pos, Bool, false, true, List, [], ◌∷◌, Option, Some, None, All, cond, filter, length, map, not, if◌then◌else◌, refl, ap, sym, ◌∙◌, arith}
use Rattle.std.proofs.lemmas.Bool.{false≢true}
use Rattle.std.proofs.lemmas.List.{length-map}
use Rattle.std.proofs.lemmas.List.Elements.{All-cons, All-head, All-tail}
use Rattle.std.specs.Option.{option_map}
use Rattle.std.proofs.lemmas.Option.{none-some}
use Rattle.std.specs.List.{cons_option, list_all, list_any}
use Rattle.ep_facts.proofs.BoolFacts.{both_true}
use Rattle.ep_facts.proofs.NatFacts.{from_test, same_nat, suc_is_not_zero}
use Rattle.ep_base.specs.declared.answer.Report.{Report}
use Rattle.ep_machine.specs.Readiness.{is_ready, is_reportable, reportables}
use Rattle.ep_law.proofs.ReadinessLemmas.{ready_equation}
use Rattle.ep_base.specs.declared.answer.Answer.TheVariants.{Events, Still}
use Rattle.ep_base.specs.declared.ids.DescId.{DescId}
use Rattle.ep_interest.specs.Registrations.{Registrations, numbered}
use Rattle.ep_interest.specs.declared.entry.Entry.{Entry}
use Rattle.ep_machine.specs.Bits.{ONESHOT, has_bit}
use Rattle.ep_machine.specs.Lists.{are_distinct, is_among}
use Rattle.ep_view.specs.KernelView.{KernelWatch, kernel_reported, kernel_watches, kernel_watch, ready_now, report_at, view_of}
use Rattle.ep_machine.specs.Report.{find_watch, is_fair_to, plainly, report, report_of as machine_report, reported, watches_at}
use Rattle.ep_machine.specs.State.{Change, State, Waiter, Watch}
use Rattle.ep_machine.specs.Waits.{is_due, leave, leave_after, resume, resume_by, resume_empty, unmarked, wait, wait_for, waiter_of}
use Rattle.ep_view.proofs.SettleLemmas.{reported_kept}
use Rattle.ep_view.proofs.KernelViewLemmas.{readiness as machine_readiness, report_one}
use Rattle.ep_machine.specs.Watches.{is_legal, links}
use Rattle.ep_calls.specs.Stands.{IsLinked, Stands, number_at, watch_at}
use Rattle.ep_calls.specs.Readiness.{readiness}
use Rattle.ep_calls.specs.Wait.{AreKeyed, IsKeyed, IsPick, with_report, numbers_of, report_of}
use Rattle.ep_calls.specs.declared.wait.Reportable.{Reportable}
use Rattle.ep_table.specs.Value.{Seen}

-- a registration is noted as the machine reports it
noted_is : (keys : List (Option ℕ)) (n : ℕ) (b : Bool) (x : Entry)
    → (if b then record (watch_at keys x) { armed = x.armed && not (has_bit x.mask.0 ONESHOT); fresh = false; reported_in = n } else watch_at keys x) ≡ watch_at keys (if b then record x { armed = x.armed && not (has_bit x.mask.0 ONESHOT); fresh = false; reported_in = n } else x)
noted_is keys n true x = refl
noted_is keys n false x = refl

pub noted_all : (keys : List (Option ℕ)) (n : ℕ) (ks : List ℕ) (xs : List Entry) → map (kernel_reported n ks) (map (watch_at keys) xs) ≡ map (watch_at keys) (map (with_report n ks) xs)
noted_all keys n ks [] = refl
noted_all keys n ks (x ∷ xs) =
    let one = noted_is keys n (is_among ks x.number) x in
    let rest = noted_all keys n ks xs in λ i. one i ∷ rest i

link_noted : (keys : List (Option ℕ)) (n : ℕ) (b : Bool) (x : Entry) → IsLinked keys x → IsLinked keys (if b then record x { armed = x.armed && not (has_bit x.mask.0 ONESHOT); fresh = false; reported_in = n } else x)
link_noted keys n true x h = record { instance = h.instance; desc = h.desc; fd = h.fd }
link_noted keys n false x h = h

pub linked_noted : (keys : List (Option ℕ)) (n : ℕ) (ks : List ℕ) (xs : List Entry) → All (IsLinked keys) xs → All (IsLinked keys) (map (with_report n ks) xs)
linked_noted keys n ks [] h = h
linked_noted keys n ks (x ∷ xs) h =
    All-cons (IsLinked keys) (with_report n ks x) (map (with_report n ks) xs) (link_noted keys n (is_among ks x.number) x (All-head (IsLinked keys) x xs h)) (linked_noted keys n ks xs (All-tail (IsLinked keys) x xs h))

-- where nothing is chosen nothing is picked
pub no_numbers : (xs : List Reportable) → (length xs == 0) ≡ true → numbers_of xs ≡ []
no_numbers [] h = refl
no_numbers (x ∷ xs) h = absurd (false≢true (sym (suc_is_not_zero (length xs)) ∙ h))

-- Of a registration that is there the machine finds its own.
pub find_kept : (s : State) (xs : List Watch) (k : ℕ) → view_of (kernel_watches s xs) k ≡ option_map (kernel_watch s) (find_watch xs k)
find_kept s [] k = refl
find_kept s (x ∷ xs) k =
    let rest = find_kept s xs k in
    elim (x.number == k) as (λ b. cond b (Some (kernel_watch s x)) (view_of (kernel_watches s xs) k) ≡ option_map (kernel_watch s) (cond b (Some x) (find_watch xs k))) [ true ↦ refl | false ↦ rest ]

pub find_at : (keys : List (Option ℕ)) (xs : List Entry) (k : ℕ) → view_of (map (watch_at keys) xs) k ≡ option_map (watch_at keys) (numbered xs k)
find_at keys [] k = refl
find_at keys (x ∷ xs) k =
    let rest = find_at keys xs k in
    elim (x.number == k) as (λ b. cond b (Some (watch_at keys x)) (view_of (map (watch_at keys) xs) k) ≡ option_map (watch_at keys) (cond b (Some x) (numbered xs k))) [ true ↦ refl | false ↦ rest ]

made_of : (f : Watch → KernelWatch) (o : Option Watch) (y : KernelWatch) → option_map f o ≡ Some y → (x : Watch) × (o ≡ Some x) × (f x ≡ y)
made_of f None y h = absurd (none-some y h)
made_of f (Some x) y h = (x, refl, ap (λ (o : Option KernelWatch). unwrap_or o y) h)

module _ {ws : List Waiter} (v : Seen) (now : ℕ) (r : Registrations) (s : State) (stands : Stands v r ws now s) where
  -- the machine finds the same instances ready
  same_ready : machine_readiness s ≡ readiness v now r
  same_ready = λ i. ready_now (stands.files i) (stands.now i) (stands.watches i)

  found_there : (x : Entry) → numbered r.entries x.number ≡ Some x → (w : Watch) × (find_watch s.watches x.number ≡ Some w) × (kernel_watch s w ≡ watch_at v.keys x)
  found_there x h =
      made_of (kernel_watch s) (find_watch s.watches x.number) (watch_at v.keys x)
      (sym (find_kept s s.watches x.number) ∙ (ap (λ (xs : List KernelWatch). view_of xs x.number) stands.watches ∙ (find_at v.keys r.entries x.number ∙ ap (option_map (watch_at v.keys)) h)))

  reports_are : (xs : List Reportable) → AreKeyed v now r xs → map (machine_report s) (watches_at s.watches (numbers_of xs)) ≡ map report_of xs
  reports_are [] h = refl
  reports_are (x ∷ xs) h =
      let one = All-head (IsKeyed v now r) x xs h in
      let found = found_there x.entry one.there in
      let rest = reports_are xs (All-tail (IsKeyed v now r) x xs h) in
      let bits : report_at (machine_readiness s) s.files s.now (kernel_watch s found.0) ≡ report_at (readiness v now r) v.files now (watch_at v.keys x.entry) = λ i. report_at (same_ready i) (stands.files i) (stands.now i) (found.2 i) in
      let told : machine_report s found.0 ≡ report_of x = report_one s found.0 ∙ (bits ∙ λ i. record { bits = record { 0 = sym one.bits i }; tag = x.entry.tag }) in
      ap (λ (o : Option Watch). map (machine_report s) (cons_option o (watches_at s.watches (numbers_of xs)))) found.1 ∙ λ i. told i ∷ rest i

reported_none : (s : State) (xs : List Watch) → map (reported s []) xs ≡ xs
reported_none s [] = refl
reported_none s (x ∷ xs) = ap (λ (ys : List Watch). x ∷ ys) (reported_none s xs)

-- the change that reports these
abbrev pub told_change : State → List Reportable → Change
told_change s chosen = (Events (map report_of chosen), record s { watches = map (reported s (numbers_of chosen)) s.watches }, [])

-- a report of nothing is no events
none_told : (s : State) (xs : List Reportable) → (length xs == 0) ≡ true → (Events [], s, []) ≡ told_change s xs
none_told s [] h = ap (λ (ws : List Watch). let c : Change = (Events [], record s { watches = ws }, []) in c) (sym (reported_none s s.watches))
none_told s (x ∷ xs) h = absurd (false≢true (sym (suc_is_not_zero (length xs)) ∙ h))

pub any_found : (p : Watch → Bool) (xs : List Watch) → list_any p xs ≡ not (length (filter p xs) == 0)
any_found p [] = ap not (sym (same_nat 0))
any_found p (x ∷ xs) =
    let rest = any_found p xs in
    elim (p x) as (λ b. (b || list_any p xs) ≡ not (length (cond b (x ∷ filter p xs) (filter p xs)) == 0)) [ true ↦ ap not (sym (suc_is_not_zero (length (filter p xs)))) | false ↦ rest ]

both_none : (a b m : ℕ) → 0 < m → a ≡ min m b → (b == 0) ≡ (a == 0)
both_none zero zero m some e = refl
both_none (suc a) zero m some e = absurd (omega (arith, some, e))
both_none zero (suc b) m some e = absurd (omega (arith, some, e))
both_none (suc a) (suc b) m some e = suc_is_not_zero b ∙ sym (suc_is_not_zero a)

module _ {ws : List Waiter} (v : Seen) (now : ℕ) (r : Registrations) (s : State) (instance : DescId) (most : ℕ) (chosen : List Reportable)
    (legal : is_legal (links s) ≡ true) (stands : Stands v r ws now s) (keyed : AreKeyed v now r chosen) (pick : IsPick v instance most chosen s) where
  abbrev e : ℕ
  e = number_at v.keys instance

  abbrev ks : List ℕ
  ks = numbers_of chosen

  report_is : report s e most ks ≡ Some (told_change s chosen)
  report_is =
      let out : List Report → Option Change = λ rs. Some (Events rs, record s { watches = map (reported s ks) s.watches }, []) in
      ap (λ (b : Bool). if b then out (map (machine_report s) (watches_at s.watches ks)) else None) pick ∙ ap out (reports_are v now r s stands chosen keyed)

  -- something is picked exactly where the instance is ready
  long : length ks ≡ min most (length (reportables s e))
  long =
      let told = watches_at (reportables s e) ks in
      let three = both_true (are_distinct ks && length told == length ks && length ks == min most (length (reportables s e))) (list_all (is_fair_to told ks) (reportables s e)) pick in
      from_test (length ks) (min most (length (reportables s e))) (both_true (are_distinct ks && length told == length ks) (length ks == min most (length (reportables s e))) three.0).1

  ready_is : 0 < most → is_ready s e ≡ not (length chosen == 0)
  ready_is positive =
      ready_equation s e legal
      ∙ (any_found (λ x. x.instance == e && is_reportable s x) s.watches
      ∙ ap not (both_none (length ks) (length (reportables s e)) most positive long ∙ ap (λ (n : ℕ). n == 0) (length-map chosen (λ x. x.entry.number))))

  -- what a wait comes to
  pub waits : (caller p : ℕ) (timeout : ℤ) → 0 < most → wait s caller p e most timeout ks ≡ Some (if length chosen == 0 then wait_for s caller p e most timeout else told_change s chosen)
  waits caller p timeout positive = by_none (length chosen == 0) refl where
    by_none : (b : Bool) → (length chosen == 0) ≡ b → wait s caller p e most timeout ks ≡ Some (if b then wait_for s caller p e most timeout else told_change s chosen)
    by_none true h =
        let idle : is_ready s e ≡ false = ready_is positive ∙ ap not h in
        let none = no_numbers chosen h in
        λ i. if idle i then report s e most (none i) else plainly (none i) (wait_for s caller p e most timeout)
    by_none false h =
        let ready : is_ready s e ≡ true = ready_is positive ∙ ap not h in
        ap (λ (b : Bool). if b then report s e most ks else plainly ks (wait_for s caller p e most timeout)) ready ∙ report_is

  -- a wait of no time reports them, or nothing
  pub waits_now : (caller p : ℕ) → 0 < most → wait s caller p e most (pos 0) ks ≡ Some (told_change s chosen)
  waits_now caller p positive = waits caller p (pos 0) positive ∙ by_none (length chosen == 0) refl where
    by_none : (b : Bool) → (length chosen == 0) ≡ b → Some (if b then (Events [], s, []) else told_change s chosen) ≡ Some (told_change s chosen)
    by_none true h = ap (λ (c : Change). let o : Option Change = Some c in o) (none_told s chosen h)
    by_none false h = refl

  -- what a resumption of a marked waiter comes to
  pub resumes : (caller : ℕ) (w : Waiter) → w.instance ≡ e → w.most ≡ most → waiter_of s caller ≡ Some w → w.marked ≡ true → 0 < most
      → resume s caller ks ≡ Some (if length chosen == 0 then resume_empty s w else leave w.caller (told_change s chosen))
  resumes caller w at_e takes parked marked positive =
      ap (λ (o : Option Waiter). resume_by s o ks) parked
      ∙ ((λ i. if not (marked i) then plainly ks (Still, s, []) else if is_ready s (at_e i) then leave_after w.caller (report s (at_e i) (takes i) ks) else plainly ks (resume_empty s w))
      ∙ by_none (length chosen == 0) refl) where
        by_none : (b : Bool) → (length chosen == 0) ≡ b → (if is_ready s e then leave_after w.caller (report s e most ks) else plainly ks (resume_empty s w)) ≡ Some (if b then resume_empty s w else leave w.caller (told_change s chosen))
        by_none true h =
            let idle : is_ready s e ≡ false = ready_is positive ∙ ap not h in
            let none = no_numbers chosen h in
            λ i. if idle i then leave_after w.caller (report s e most (none i)) else plainly (none i) (resume_empty s w)
        by_none false h =
            let ready : is_ready s e ≡ true = ready_is positive ∙ ap not h in
            ap (λ (b : Bool). if b then leave_after w.caller (report s e most ks) else plainly ks (resume_empty s w)) ready ∙ ap (leave_after w.caller) report_is

  -- and of one that is due
  pub resumes_due : (caller : ℕ) (w : Waiter) → w.instance ≡ e → w.most ≡ most → waiter_of s caller ≡ Some w → w.marked ≡ true → 0 < most → is_due s.now w.deadline ≡ true
      → resume s caller ks ≡ Some (leave w.caller (told_change s chosen))
  resumes_due caller w at_e takes parked marked positive due =
      let out : Change → Option Change = λ c. Some c in
      resumes caller w at_e takes parked marked positive
      ∙ (ap (λ (b : Bool). out (if length chosen == 0 then (if b then leave w.caller (Events [], s, []) else (Still, unmarked s w.caller, [])) else leave w.caller (told_change s chosen))) due
      ∙ by_none (length chosen == 0) refl) where
        by_none : (b : Bool) → (length chosen == 0) ≡ b → Some (if b then leave w.caller (Events [], s, []) else leave w.caller (told_change s chosen)) ≡ Some (leave w.caller (told_change s chosen))
        by_none true h = ap (λ (c : Change). let o : Option Change = Some (leave w.caller c) in o) (none_told s chosen h)
        by_none false h = refl

-- what is left of a report
pub after : {ws : List Waiter} (v : Seen) (now : ℕ) (r new : Registrations) (s : State) (n : ℕ) (chosen : List Reportable) → s.n ≡ n → Stands v r ws now s
    → new.entries ≡ map (with_report n (numbers_of chosen)) r.entries → new.added ≡ r.added → Stands v new ws now (record s { watches = map (reported s (numbers_of chosen)) s.watches })
after v now r new s n chosen at stands entries added = record {
  now = stands.now;
  files = stands.files;
  watches =
      reported_kept s (numbers_of chosen)
      ∙ ((λ i. map (kernel_reported (at i) (numbers_of chosen)) (stands.watches i))
      ∙ (noted_all v.keys n (numbers_of chosen) r.entries ∙ ap (map (watch_at v.keys)) (sym entries)));
  added = stands.added ∙ sym added;
  waiters = stands.waiters;
}
