-- What a change leaves: an epoll_ctl the files and waiters, and any other all registrations, but that it may report
-- them.
use Rattle.std.proofs.Common.{◌≡◌, ℕ, ◌&&◌, ◌||◌, ◌++◌, ◌∙◌, ◌⊎◌, Bool, true, false, List, [], ◌∷◌, MatchOption, None, Option, Some, ℤ, pos, negsuc, zero, suc, ap, cond, filter, inl, inr, map, not, refl, subst, sym}
use Rattle.std.proofs.lemmas.Bool.{false≢true}
use Rattle.ep_facts.proofs.NatFacts.{same_nat}
use Rattle.ep_facts.proofs.BoolFacts.{and_not_itself}
use Rattle.ep_base.specs.Limits.{Limits}
use Rattle.ep_base.specs.declared.answer.Answer.TheVariants.{Events}
use Rattle.ep_base.specs.declared.call.Call.{Call}
use Rattle.ep_base.specs.declared.call.Call.TheVariants.{EpollCtl, EpollWait}
use Rattle.ep_base.specs.declared.call.Event.{Event}
use Rattle.ep_base.specs.declared.call.Event.TheVariants.{Call as CallOf, Resume, Tick}
use Rattle.ep_law.proofs.StepLemmas.{left_after, only_files, resumes}
use Rattle.ep_machine.specs.Bits.{ONESHOT, has_bit}
use Rattle.ep_machine.specs.Deaths.{dying, named_in_tables}
use Rattle.ep_machine.specs.Files.{Place, is_live, live, named_by}
use Rattle.ep_machine.specs.Lists.{is_among}
use Rattle.ep_machine.specs.Objects.{asks}
use Rattle.ep_machine.specs.Readiness.{is_ready}
use Rattle.ep_machine.specs.Report.{is_pick, plainly, report, report_of, reported, watches_at}
use Rattle.ep_machine.specs.State.{Change, State, Watch, counts_of}
use Rattle.ep_machine.specs.Step.{call_change, change}
use Rattle.ep_machine.specs.Waits.{leave_after, resume, tick, wait_for}
use Rattle.ep_machine.specs.Watches.{ctl, is_add, is_del, number_in}
use Rattle.ep_view.proofs.SettleLemmas.{dying_test}
use Rattle.ep_view.specs.AtRest.{AtRest}

-- a registration without what a report changes
abbrev pub core : Watch → Watch
core x = record x { seen = None; rep = 0; from = 0; armed = true }

abbrev pub SameCores : State → State → Type 0
SameCores b u = map core u.watches ≡ map core b.watches

pub record SameNames (b u : State) : Type 0 where
  pub files : u.files ≡ b.files
  pub waiters : u.waiters ≡ b.waiters

-- One event.
module _ (b : State) where
  After : Option Change → Type 0
  After c = MatchOption c (Unit {0}) (λ o. SameCores b o.1)

  after_plainly : (ks : List ℕ) (c : Change) → SameCores b c.1 → After (plainly ks c)
  unfolding After
  after_plainly [] c g = g
  after_plainly (k ∷ ks) c g = tt

  core_reported : (ks : List ℕ) (xs : List Watch) → map core (map (reported b ks) xs) ≡ map core xs
  core_reported ks [] = refl
  core_reported ks (x ∷ xs) =
      let rest = core_reported ks xs in
      let told : Watch = record x { seen = Some (counts_of b x.target); rep = b.n; from = b.n; armed = x.armed && not (has_bit x.mask ONESHOT) } in
      elim (is_among ks x.number) as (λ d. core (cond d told x) ∷ map core (map (reported b ks) xs) ≡ core x ∷ map core xs) [
        | true ↦ ap (λ (ys : List Watch). core x ∷ ys) rest
        | false ↦ ap (λ (ys : List Watch). core x ∷ ys) rest
      ]

  after_report : (e most : ℕ) (ks : List ℕ) → After (report b e most ks)
  unfolding After
  after_report e most ks =
      let c : Change = (Events (map (report_of b) (watches_at b.watches ks)), record b { watches = map (reported b ks) b.watches }, []) in
      elim (is_pick b e most ks) as (λ d. After (cond d (Some c) None)) [ true ↦ core_reported ks b.watches | false ↦ tt ]

  same_wait_for : (caller p e most : ℕ) (timeout : ℤ) → SameCores b (wait_for b caller p e most timeout).1
  same_wait_for caller p e most (pos zero) = refl
  same_wait_for caller p e most (pos (suc i)) = refl
  same_wait_for caller p e most (negsuc i) = refl

  after_wait : (caller p e most : ℕ) (timeout : ℤ) (ks : List ℕ) (d : Bool) → After (cond d (report b e most ks) (plainly ks (wait_for b caller p e most timeout)))
  after_wait caller p e most timeout ks true = after_report e most ks
  after_wait caller p e most timeout ks false = after_plainly ks _ (same_wait_for caller p e most timeout)

  after_left : (caller : ℕ) (o : Option Change) → After o → After (leave_after caller o)
  unfolding After
  after_left caller o g = left_after (SameCores b) (λ u ws f. f) caller o g

  after_resume : (caller : ℕ) (ks : List ℕ) → After (resume b caller ks)
  after_resume caller ks =
      resumes After b caller ks (after_plainly ks _ refl) (λ w. after_left w.caller _ (after_report w.instance w.most ks)) (λ w. after_plainly ks _ refl) (λ w. after_plainly ks _ refl)

  from_after : (o : Option Change) (c : Change) → o ≡ Some c → After o → SameCores b c.1
  unfolding After
  from_after o c is f = subst (λ (q : Option Change). MatchOption q (Unit {0}) (λ x. SameCores b x.1)) is f

  same_ctl : (p : ℕ) (epfd op fd : ℤ) (mask tag : ℕ) → SameNames b (ctl b p epfd op fd mask tag).1
  same_ctl p epfd op fd mask tag = by (is_add op) (is_del op) _ _ _ (record { files = refl; waiters = refl }) (record { files = refl; waiters = refl }) (record { files = refl; waiters = refl }) where
    by : (x y : Bool) (a d m : Change) → SameNames b a.1 → SameNames b d.1 → SameNames b m.1 → SameNames b (cond x a (cond y d m)).1
    by true y a d m p q r = p
    by false true a d m p q r = q
    by false false a d m p q r = r

  from_plainly : (ks : List ℕ) (a c : Change) → plainly ks a ≡ Some c → SameNames b a.1 → SameNames b c.1
  from_plainly [] a c is h = subst (λ (o : Option Change). MatchOption o (Unit {0}) (λ x. SameNames b x.1)) is h
  from_plainly (k ∷ ks) a c is h = absurd cc

  Leaves : Change → Type 0
  Leaves c = SameNames b c.1 ⊎ SameCores b c.1

  module _ (limits : Limits) (caller : ℕ) (ks : List ℕ) (c : Change) where
    same : (a : Change) → plainly ks a ≡ Some c → SameCores b a.1 → Leaves c
    unfolding Leaves
    same a is h = inr (from_after (plainly ks a) c is (after_plainly ks a h))

    call_leaves : (p : ℕ) (call : Call) → call_change limits b caller p call ks ≡ Some c → Leaves c
    unfolding Leaves
    call_leaves p (EpollCtl epfd op fd mask tag) is = inl (from_plainly ks (ctl b p epfd.0 op fd.0 mask.0 tag) c is (same_ctl p epfd.0 op fd.0 mask.0 tag))
    call_leaves p (EpollWait epfd most timeout) is = inr (from_after _ c is (after_wait caller p (named_by b.files p epfd.0) (number_in most) timeout ks (is_ready b (named_by b.files p epfd.0))))
    call_leaves p call is = same _ is (ap (λ (t : State). map core t.watches) (only_files limits b p call (asks b.files.objects call)).1)

    event_leaves : (event : Event) → change limits b caller event ks ≡ Some c → Leaves c
    unfolding Leaves
    event_leaves (CallOf p call) is = call_leaves p.0 call is
    event_leaves Resume is = inr (from_after (resume b caller ks) c is (after_resume caller ks))
    event_leaves (Tick k) is = same (tick b k) is refl

pub change_leaves : (limits : Limits) (b : State) (caller : ℕ) (event : Event) (ks : List ℕ) (c : Change) → change limits b caller event ks ≡ Some c → SameNames b c.1 ⊎ SameCores b c.1
unfolding Leaves
change_leaves limits b caller event ks c is = event_leaves b limits caller ks c event is

-- Where files and waiters are those of a state at rest nothing dies.
no_pairs : (xs : List (ℕ × Place)) → ((d : ℕ) → is_among (map (λ x. x.0) xs) d ≡ false) → xs ≡ []
no_pairs [] h = refl
no_pairs (x ∷ xs) h = absurd (false≢true (sym (h x.0) ∙ (λ i. same_nat x.0 i || is_among (map (λ y. y.0) xs) x.0)))

pub none_dies : (b u : State) → AtRest b → SameNames b u → dying u ≡ []
none_dies b u rest same =
    (λ i. filter (λ x. not (is_among (named_in_tables (same.files i).tables ++ map (λ w. w.instance) (same.waiters i)) x.0)) (live (same.files i)))
    ∙ no_pairs (dying b) (λ d. dying_test b d ∙ (ap (λ (a : Bool). is_live b.files d && not a) (rest.named d) ∙ and_not_itself (is_live b.files d)))
