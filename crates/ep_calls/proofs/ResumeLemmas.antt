-- A resumption, as the machine makes it.
use Rattle.std.proofs.Common.{◌≡◌, ◌∙◌, ◌==◌, ◌⊎◌, ℕ, Bool, true, false, List, [], Option, None, Some, filter, find, if◌then◌else◌, inl, inr, is_some, length, map, not, refl, ap, sym}
use Rattle.std.specs.Option.{option_map}
use Rattle.ep_base.specs.Limits.{Limits}
use Rattle.ep_base.specs.declared.answer.Answer.{Answer}
use Rattle.ep_base.specs.declared.answer.Answer.TheVariants.{Events, Refused, Still}
use Rattle.ep_base.specs.declared.call.Event.TheVariants.{Resume}
use Rattle.ep_base.specs.declared.errno.Errno.TheVariants.{Einval}
use Rattle.ep_interest.specs.Registrations.{Registrations}
use Rattle.ep_view.specs.KernelView.{at_number}
use Rattle.ep_machine.specs.Refusal.{refusals}
use Rattle.ep_machine.specs.State.{Change, State, Waiter}
use Rattle.ep_machine.specs.Waits.{is_due, leave, resume, unmark, unmarked, waiter_of}
use Rattle.ep_machine.specs.Watches.{is_legal, links, number_in}
use Rattle.ep_view.proofs.WaiterLemmas.{find_at, left_at, unmarked_at}
use Rattle.ep_view.proofs.ResumeLemmas.{parked_found, resume_allowed, resume_refused, resume_unmarked}
use Rattle.ep_park.specs.Waiters.{is_caller, parked, without}
use Rattle.ep_park.specs.declared.waiter.Waiter.{Waiter as ParkedWaiter}
use Rattle.ep_calls.specs.Moves.{Goes, StandFor}
use Rattle.ep_nest.specs.declared.link.Link.{Link}
use Rattle.ep_calls.specs.Parts.{Parts}
use Rattle.ep_calls.specs.Reports.{Reports}
use Rattle.ep_calls.specs.Stands.{IsPlaced, Stands, number_at, waiters_at, watch_at}
use Rattle.ep_calls.specs.Wait.{AreKeyed, IsPick, numbers_of}
use Rattle.ep_calls.specs.declared.wait.Reportable.{Reportable}
use Rattle.ep_calls.proofs.OutcomeLemmas.{goes_made, goes_refused}
use Rattle.ep_calls.proofs.ReportLemmas.{told_change, after, no_numbers, resumes, resumes_due}
use Rattle.ep_table.specs.Value.{Seen}

module _ (g : List Link) (v : Seen) (r : Registrations) (ws : List Waiter) (now caller : ℕ) (limits : Limits) (s : State) (stands : Stands v r ws now s) where
  abbrev number : ℕ → ℕ
  number k = number_at v.keys (record { 0 = k })

  abbrev same : Parts
  same = record { tables = v; interest = r; graph = g; parked = ws; clock = now }

  -- who is parked
  pub found : waiter_of s caller ≡ option_map (at_number number) (find (is_caller caller) ws)
  found = ap (find (is_caller caller)) stands.waiters ∙ find_at number caller ws

  pub goes_unparked : find (is_caller caller) ws ≡ None → Goes (refusals limits s caller Resume) (resume s caller []) s (Refused Einval) [] same
  goes_unparked none =
      goes_refused (refusals limits s caller Resume) (resume s caller []) s same Einval
      (resume_refused limits s caller (parked_found s caller ∙ ap (λ (o : Option Waiter). is_some o) (found ∙ ap (option_map (at_number number)) none))) stands

  module _ (w : ParkedWaiter) (is : find (is_caller caller) ws ≡ Some (parked caller w)) where
    abbrev own : Waiter
    own = at_number number (parked caller w)

    pub there : waiter_of s caller ≡ Some own
    there = found ∙ ap (option_map (at_number number)) is

    goes : (c : Change) (answer : Answer) (picked : List ℕ) (new : Parts) → resume s caller picked ≡ Some c → c.0 ≡ answer → StandFor new c.1 → Goes (refusals limits s caller Resume) (resume s caller picked) s answer picked new
    goes c answer picked new comes answers stand =
        goes_made (refusals limits s caller Resume) (resume s caller picked) s answer picked new
        (resume_allowed limits s caller (parked_found s caller ∙ ap (λ (o : Option Waiter). is_some o) there)) (record { made = c; is = comes; answers = answers; stands = stand })

    -- without a mark
    pub goes_still : w.marked ≡ false → Goes (refusals limits s caller Resume) (resume s caller []) s Still [] same
    goes_still unmarked = goes (Still, s, []) Still [] same (resume_unmarked s caller own there unmarked) refl stands

    module _ (n : ℕ) (chosen : List Reportable) (at : s.n ≡ n) (legal : is_legal (links s) ≡ true) (placed : IsPlaced v.keys (parked caller w)) (keyed : AreKeyed v now r chosen)
        (pick : IsPick v w.instance (number_in w.max) chosen s) (marked : w.marked ≡ true) where
      due_then : is_due s.now w.deadline ≡ is_due now w.deadline
      due_then = ap (λ (t : ℕ). is_due t w.deadline) stands.now

      abbrev told : Change
      told = told_change s chosen

      -- what it comes to, by whether nothing is chosen and by whether the deadline is there
      abbrev comes_to : Bool → Bool → Option Change
      comes_to none due = Some (if none then (if due then leave caller (Events [], s, []) else (Still, unmarked s caller, [])) else leave caller told)

      comes : resume s caller (numbers_of chosen) ≡ comes_to (length chosen == 0) (is_due s.now w.deadline)
      comes = resumes v now r s w.instance (number_in w.max) chosen legal stands keyed pick caller own refl refl there marked placed.most

      -- with nothing to report, before the deadline
      pub goes_unmarked : (us : List Waiter) → (length chosen == 0) ≡ true → is_due now w.deadline ≡ false → us ≡ map (unmark caller) ws → Goes (refusals limits s caller Resume) (resume s caller []) s Still [] (record { tables = v; interest = r; graph = g; parked = us; clock = now })
      goes_unmarked us none early gone =
          goes (Still, unmarked s caller, []) Still [] (record { tables = v; interest = r; graph = g; parked = us; clock = now })
          (ap (resume s caller) (sym (no_numbers chosen none)) ∙ (comes ∙ λ i. comes_to (none i) ((due_then ∙ early) i))) refl
          (record {
            now = stands.now;
            files = stands.files;
            watches = stands.watches;
            added = stands.added;
            waiters = ap (map (unmark caller)) stands.waiters ∙ (unmarked_at number caller ws ∙ ap (waiters_at v.keys) (sym gone));
          })

      -- with something to report, or at the deadline
      pub goes_left : (new : Registrations) (answer : Answer) (picked : List ℕ) (t : Seen) (us : List Waiter) → Reports r new n chosen answer picked → ((length chosen == 0) ≡ false) ⊎ (is_due now w.deadline ≡ true) → t.files ≡ v.files → t.keys ≡ v.keys → us ≡ without caller ws
          → Goes (refusals limits s caller Resume) (resume s caller picked) s answer picked (record { tables = t; interest = new; graph = g; parked = us; clock = now })
      goes_left new answer picked t us told_is why files keys gone =
          let reports = after v now r new s n chosen at stands told_is.entries told_is.added in
          let left : resume s caller (numbers_of chosen) ≡ Some (leave caller told) = elim why [
            | inl some ↦ comes ∙ ap (λ (b : Bool). comes_to b (is_due s.now w.deadline)) some
            | inr due ↦ resumes_due v now r s w.instance (number_in w.max) chosen legal stands keyed pick caller own refl refl there marked placed.most (due_then ∙ due)
          ] in
          goes (leave caller told) answer picked (record { tables = t; interest = new; graph = g; parked = us; clock = now })
          (ap (resume s caller) told_is.picks ∙ left) (sym told_is.answers)
          (record {
            now = reports.now;
            files = reports.files ∙ sym files;
            watches = reports.watches ∙ ap (λ (ks : List (Option ℕ)). map (watch_at ks) new.entries) (sym keys);
            added = reports.added;
            waiters = ap (filter (λ u. not (u.caller == caller))) stands.waiters ∙ (left_at number caller ws ∙ λ i. waiters_at (sym keys i) (sym gone i));
          })
