-- What passes something of an event on, in the machine and in the registrations that are left.
use Rattle.std.proofs.Common.{◌≡◌, ◌∙◌, ◌==◌, ℕ, Bool, true, false, List, ap, filter, map, subst}
use Rattle.ep_calls.proofs.DeathLemmas.{all_noted}
use Rattle.ep_calls.proofs.PartsLemmas.{coherent_raised}
use Rattle.ep_calls.proofs.StepLemmas.{raised_stands}
use Rattle.ep_calls.specs.Ends.{Leaves}
use Rattle.ep_calls.specs.Moves.{StandFor, StandsRaised}
use Rattle.ep_calls.specs.Parts.{Parts}
use Rattle.ep_calls.specs.Raising.{AsRaisedIn}
use Rattle.ep_calls.specs.Stands.{watch_at}
use Rattle.ep_calls.specs.declared.raising.Raising.{Raising}
use Rattle.ep_interest.specs.Registrations.{Registrations}
use Rattle.ep_law.proofs.ListLemmas.{filtered_passes, member_map}
use Rattle.ep_law.specs.Laws.{Member, passes_on_of}
use Rattle.ep_machine.specs.Deaths.{buried as buried_of, die_all, dying, is_kept}
use Rattle.ep_machine.specs.Files.{Files}
use Rattle.ep_machine.specs.Settle.{settle}
use Rattle.ep_machine.specs.Spread.{passes_on_by, raised_alive}
use Rattle.ep_machine.specs.State.{Change, State, Watch}
use Rattle.ep_view.proofs.ClimbLemmas.{passes_as_noted, reached_same}
use Rattle.ep_view.proofs.KernelViewLemmas.{kept_filter}
use Rattle.ep_view.specs.AtRest.{Changed, Remains}
use Rattle.ep_view.specs.KernelView.{KernelWatch, carries, freshened, kernel_watch, kernel_watches, reached_now, stays_in}

module _ (n : ℕ) (raising : Raising) (mid : Parts) (noted : Registrations) (buried : Parts) (leaves : Leaves n raising mid noted buried)
    (b : State) (c : Change) (stands : StandFor mid c.1) (changed : Changed c.1) (settled : Remains c.1 c.2 (settle b c.1 c.2)) (at : c.1.n ≡ n) (counted : (0 == n) ≡ false)
    (as_raised : AsRaisedIn c.1.files raising mid.tables mid.clock c.2) (same_files : (settle b c.1 c.2).files ≡ buried.tables.files) where
  -- what the event and the deaths of the machine raised
  abbrev pub by_machine : List (ℕ × ℕ)
  by_machine = (die_all (c.1.files, c.2) (dying c.1)).1

  abbrev files : Files
  files = (die_all (c.1.files, c.2) (dying c.1)).0

  abbrev pub noted_watch : Watch → KernelWatch
  noted_watch x = freshened n by_machine (kernel_watch c.1 x)

  stirred_stands : StandsRaised n (record mid { interest = noted }) c.2 c.1
  stirred_stands = raised_stands n mid noted raising leaves.coherent leaves.tables leaves.raises leaves.stirs c.1 c.2 as_raised stands changed.watches

  left_watches : map (freshened n by_machine) (filter (stays_in files) (kernel_watches c.1 c.1.watches)) ≡ map (watch_at buried.tables.keys) buried.interest.entries
  left_watches =
      all_noted n (record mid { interest = noted }) buried (coherent_raised n mid raising noted leaves.coherent leaves.tables leaves.raises leaves.stirs) leaves.burial leaves.parked leaves.clock leaves.tables_buried
      c.1 (settle b c.1 c.2) c.2 settled at stirred_stands

  pub kept_watches : map (freshened n by_machine) (kernel_watches c.1 (buried_of c.1 c.2).0.watches) ≡ map (watch_at buried.tables.keys) buried.interest.entries
  kept_watches = ap (map (freshened n by_machine)) (kept_filter c.1 (stays_in files) c.1.watches) ∙ left_watches

  -- a registration that outlives the deaths
  pub left_member : (x : Watch) → Member x (buried_of c.1 c.2).0.watches → Member (noted_watch x) (map (watch_at buried.tables.keys) buried.interest.entries)
  left_member x m =
      let kept : List Watch = (buried_of c.1 c.2).0.watches in
      subst (Member (noted_watch x)) kept_watches (member_map (freshened n by_machine) (kernel_watch c.1 x) (kernel_watches c.1 kept) (member_map (kernel_watch c.1) x kept m))

  -- it passes something on where its registration carries something
  pub passes_is : (x : Watch) → Member x (buried_of c.1 c.2).0.watches → passes_on_of c x ≡ carries (reached_now buried.tables.files n (map (watch_at buried.tables.keys) buried.interest.entries)) buried.tables.files n (noted_watch x)
  passes_is x m =
      let kept = buried_of c.1 c.2 in
      let holds : stays_in files (kernel_watch c.1 x) ≡ true = filtered_passes (is_kept (record c.1 { files = files })) c.1.watches x m in
      let same = reached_same c.1 files n by_machine counted in
      let reach : ℕ → Bool = reached_now files n (map (freshened n by_machine) (kernel_watches c.1 kept.0.watches)) in
      ap (λ (r : ℕ → Bool). passes_on_by r kept.0 (raised_alive kept.0 by_machine) x) same
      ∙ (passes_as_noted c.1 files n by_machine counted reach x holds
      ∙ (λ i. carries (reached_now (same_files i) n (kept_watches i)) (same_files i) n (noted_watch x)))
