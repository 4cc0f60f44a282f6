-- What an event does to the hopes, before the dead go and before what it raised climbs.
use Rattle.std.proofs.Common.{◌≡◌, ◌≢◌, ◌==◌, ◌∙◌, ◌+◌, ℕ, Bool, true, false, None, Option, Some, ap, IfOk, OnErr, Ok, Err, Result, refl, subst, sym}
use Rattle.std.specs.Option.{option_map}
use Rattle.std.specs.Prelude.{MatchBool}
use Rattle.ep_base.specs.declared.call.Call.TheVariants.{EpollCtl}
use Rattle.ep_base.specs.declared.call.Event.{Event}
use Rattle.ep_base.specs.declared.call.Event.TheVariants.{Call as CallOf}
use Rattle.ep_base.specs.declared.ids.EntryId.{EntryId}
use Rattle.ep_base.specs.declared.ids.Pid.{Pid}
use Rattle.ep_calls.proofs.ControlLemmas.{found_as}
use Rattle.ep_calls.specs.Control.{Changes, Controls, IsPlan, code_of, control_call, is_done, next_entry}
use Rattle.ep_calls.specs.Parts.{AreCoherent, Parts}
use Rattle.ep_calls.specs.declared.control.Control.{Control}
use Rattle.ep_calls.specs.declared.control.Operation.{Operation}
use Rattle.ep_calls.specs.declared.control.Operation.TheVariants.{Add, Delete, Modify}
use Rattle.ep_calls.specs.declared.control.Plan.{Plan}
use Rattle.ep_calls.specs.declared.outcome.Outcome.{Outcome}
use Rattle.ep_interest.specs.Registrations.{GainsKey, IsSound, Registrations, entry_found, entry_under, number_under}
use Rattle.ep_interest.specs.declared.entry.Entry.{Entry}
use Rattle.ep_kernel.proofs.ControlLemmas.{IsNamed, hopes_cleared, hopes_set, hopes_still}
use Rattle.ep_kernel.proofs.ControlTurnsLemmas.{IsThere, added_places, modified_places, none_placed, nowhere, raises, same_again, same_lists, there_by}
use Rattle.ep_kernel.proofs.EntryLemmas.{is_under}
use Rattle.ep_climb.proofs.SetLemmas.{clears_deleted, renewed, sets_added, sets_modified}
use Rattle.ep_kernel.specs.Control.{Settles}
use Rattle.ep_kernel.specs.Listed.{HavePlaces, HopesFor, key_shows, shows_found}
use Rattle.ep_kernel.specs.Push.{Gains}
use Rattle.ep_kernel.specs.Turns.{AlteredStand, HopesGo}
use Rattle.ep_rings.specs.KeyWalk.{entry_id}
use Rattle.ep_ready.specs.ReadyLists.{GainsPlace, IsSound as AreSound, Lists, LosesPlace, Same, instance_at, stands}
use Rattle.ep_table.specs.Value.{Sound}

-- what holds of either result
pub either_way : {T E P : Type 0} (r : Result T E) → IfOk r (λ x. P) → OnErr r P → P
either_way (Ok x) h e = h
either_way (Err x) h e = e

-- Where the hopes stay.
pub hopes_kept : (event : Event) (p q : Parts) (h : Lists) → HopesFor p h → HavePlaces q.interest h → AlteredStand event p q h → HopesGo event p q h
hopes_kept event p q h hopes places altered = record { stays = λ k x u shows number. hopes.complete k shows; altered = altered; places = places }

still_altered : (event : Event) (p : Parts) (h : Lists) → HopesFor p h → AlteredStand event p p h
still_altered (CallOf pid (EpollCtl epfd op fd mask tag)) p h hopes = λ k x u adds at under target shows. hopes.complete k shows
still_altered event p h hopes = tt

-- where the parts stay, too
pub hopes_stay : (event : Event) (p q : Parts) (h : Lists) → q ≡ p → HopesFor p h → HopesGo event p q h
hopes_stay event p q h same hopes = subst (λ (r : Parts). HopesGo event p r h) (sym same) (hopes_kept event p p h hopes hopes.places (still_altered event p h hopes))

-- and registrations alone
pub hopes_same : (event : Event) (p q : Parts) (h : Lists) → HopesFor p h → q.interest ≡ p.interest → AlteredStand event p q h → HopesGo event p q h
hopes_same event p q h hopes same altered = hopes_kept event p q h hopes (subst (λ (r : Registrations). HavePlaces r h) (sym same) hopes.places) altered

-- what was reportable, where the parts are the same, stands
pub hopes_again : (event : Event) (p q : Parts) (h : Lists) → q ≡ p → HopesGo event p q h → HopesFor q h
hopes_again event p q h same goes = record { places = goes.places; complete = λ k shows. stood k (subst (λ (r : Parts). key_shows r k ≡ true) same shows) } where
  stood : (k : ℕ) → key_shows p k ≡ true → stands h (entry_id k) ≡ true
  stood k shows = by (entry_under p.interest (entry_id k)) refl where
    by : (o : Option Entry) → entry_under p.interest (entry_id k) ≡ o → stands h (entry_id k) ≡ true
    by None is = absurd (let no : false ≡ true = sym (ap (shows_found p) is) ∙ shows in cc)
    by (Some x) is = goes.stays k x is shows (subst (λ (r : Parts). number_under r.interest (entry_id k) ≡ Some x.number) (sym same) (is_under p.interest (entry_id k) x is).number)

-- where an epoll_ctl leaves the parts and each list
pub hopes_refused : (pid : Pid) (args : Control) (p q : Parts) (l m : Lists) → q ≡ p → Same l m → HopesFor p l → HopesGo (CallOf pid (control_call args)) p q m
hopes_refused pid args p q l m same lists hopes = subst (λ (r : Parts). HopesGo (CallOf pid (control_call args)) p r m) (sym same) (hopes_still p p l m refl refl refl lists pid args hopes)

-- An epoll_ctl.
module _ (pid : Pid) (args : Control) (plan : Plan) (outcome : Outcome) (p q : Parts) (l : Lists) (hopes : HopesFor p l) (controls : Controls plan args outcome p q) where
  abbrev Done : Lists → Type 0
  Done m = HopesGo (CallOf pid (control_call args)) p q m

  still : (m : Lists) → q.interest ≡ p.interest → Same l m → Done m
  still m interest same = hopes_still p q l m controls.tables controls.clock interest same pid args hopes

  -- what can't be done where there is none
  pub hopes_missed : plan.found ≡ None → (op : Operation) → plan.operation ≡ op → (Changes op None plan.named args p.interest q.interest → ⊥) → Done l
  hopes_missed absent op of never = none (is_done outcome.answer)
      (subst (λ (o : Operation). MatchBool (is_done outcome.answer) (Changes o None plan.named args p.interest q.interest) (q.interest ≡ p.interest)) of
      (subst (λ (o : Option EntryId). MatchBool (is_done outcome.answer) (Changes plan.operation o plan.named args p.interest q.interest) (q.interest ≡ p.interest)) absent controls.interest))
    where
      none : (b : Bool) → MatchBool b (Changes op None plan.named args p.interest q.interest) (q.interest ≡ p.interest) → Done l
      none true h = absurd (never h)
      none false h = still l h (same_lists l l refl)

  module _ (sound : Sound p.tables) (was : IsSound p.interest) (coherent : AreCoherent q) (is : IsSound q.interest) (plans : IsPlan p pid.0 args plan) where
    -- Of a registration that is there.
    module _ (m : Lists) (id : EntryId) (found : plan.found ≡ Some id) (settles : Settles id (entry_under q.interest id) outcome.raising l m) where
      there : IsThere p.interest plan.named args.fd id
      there = there_by p.interest plan.named args.fd id (found_as p.interest plan.named args.fd plan.found (Some id) plans.found found)

      refused : is_done outcome.answer ≡ false → q.interest ≡ p.interest → Done m
      refused h interest =
          let now : entry_under q.interest id ≡ Some there.it = ap (λ (r : Registrations). entry_under r id) interest ∙ there.here in
          let settled : Settles id (Some there.it) outcome.raising l m = subst (λ (o : Option Entry). Settles id o outcome.raising l m) now settles in
          still m interest (same_lists l m (subst (λ (b : Bool). MatchBool b (Gains (λ k. k == id.0) l m) (m ≡ l)) (nowhere args plan outcome p q controls h) settled))

      deleted : plan.operation ≡ Delete → Changes Delete (Some id) plan.named args p.interest q.interest → Done m
      deleted op changes =
          let clears = clears_deleted p.interest q.interest was id there.it there.here changes.0 changes.1 in
          let loses : LosesPlace l m id = subst (λ (o : Option Entry). Settles id o outcome.raising l m) (ap (entry_found q.interest.entries) clears.gone) settles in
          hopes_cleared pid args p q l m (plans.code ∙ ap code_of op) id clears loses hopes

      changed : is_done outcome.answer ≡ true → Changes Modify (Some id) plan.named args p.interest q.interest → Done m
      changed h changes =
          let y : Entry = renewed args.mask args.tag there.it in
          let sets = sets_modified p.interest q.interest was id there.it there.here args.mask args.tag changes.0 changes.1 in
          let named : IsNamed plan.named args.fd y = record { instance = there.named.instance; fd = there.named.fd; desc = there.named.desc } in
          let settled : Settles id (Some y) outcome.raising l m = subst (λ (o : Option Entry). Settles id o outcome.raising l m) sets.here settles in
          hopes_set pid args p q l m controls.tables sound coherent.linked is plan.named plans.names id y sets named (modified_places args plan p q l hopes.places id there sets) outcome.raising (raises args plan outcome p q controls h) settled l hopes (λ i. refl)
          (λ k x u. hopes.places (entry_id k) ∙ ap (option_map (λ (z : Entry). z.instance.0)) u)

      by_case : (b : Bool) → is_done outcome.answer ≡ b → (op : Operation) → plan.operation ≡ op → MatchBool b (Changes op (Some id) plan.named args p.interest q.interest) (q.interest ≡ p.interest) → Done m
      by_case false h op of changes = refused h changes
      by_case true h Add of changes = absurd changes
      by_case true h Delete of changes = deleted of changes
      by_case true h Modify of changes = changed h changes

      pub hopes_altered : Done m
      hopes_altered = by_case (is_done outcome.answer) refl plan.operation refl (subst (λ (o : Option EntryId). MatchBool (is_done outcome.answer) (Changes plan.operation o plan.named args p.interest q.interest) (q.interest ≡ p.interest)) found controls.interest)

    -- Of one that is not.
    module _ (absent : plan.found ≡ None) (mid m : Lists) (lists : AreSound l) (id : EntryId) (next : id.0 ≡ p.interest.next) (vacant : number_under p.interest id ≡ None) (adds : plan.operation ≡ Add) (gains : GainsPlace l mid plan.named.instance.0 id) (settles : Settles id (entry_under q.interest id) outcome.raising mid m) where
      none_under : entry_under p.interest id ≡ None
      none_under = ap (entry_found p.interest.entries) vacant

      not_added : q.interest ≡ p.interest → Done m
      not_added interest =
          let loses : LosesPlace mid m id = subst (λ (o : Option Entry). Settles id o outcome.raising mid m) (ap (λ (r : Registrations). entry_under r id) interest ∙ none_under) settles in
          still m interest (same_again l mid m id plan.named.instance.0 lists (none_placed p l hopes.places id vacant) gains loses)

      -- what was there keeps its place
      home : (k : ℕ) (x : Entry) → entry_under p.interest (entry_id k) ≡ Some x → instance_at mid (entry_id k) ≡ Some x.instance.0
      home k x u =
          let other : k ≢ id.0 = λ e. let no : None ≡ Some x = sym none_under ∙ (ap (λ (n : ℕ). entry_under p.interest (record { 0 = n })) (sym e) ∙ u) in absurd (cc) in
          gains.others (entry_id k) other ∙ (hopes.places (entry_id k) ∙ ap (option_map (λ (z : Entry). z.instance.0)) u)

      added : is_done outcome.answer ≡ true → Changes Add None plan.named args p.interest q.interest → Done m
      added h changes =
          let y : Entry = next_entry p.interest plan.named args in
          let keys : GainsKey p.interest q.interest id (p.interest.added + 1) = subst (λ (n : ℕ). GainsKey p.interest q.interest (record { 0 = n }) (p.interest.added + 1)) (sym next) changes.1 in
          let sets = sets_added p.interest q.interest was id y refl changes.0 keys in
          let named : IsNamed plan.named args.fd y = record { instance = refl; fd = refl; desc = refl } in
          let settled : Settles id (Some y) outcome.raising mid m = subst (λ (o : Option Entry). Settles id o outcome.raising mid m) sets.here settles in
          hopes_set pid args p q mid m controls.tables sound coherent.linked is plan.named plans.names id y sets named (added_places args plan p q l hopes.places mid id gains sets) outcome.raising (raises args plan outcome p q controls h) settled l hopes gains.lists home

      add_case : (b : Bool) → is_done outcome.answer ≡ b → MatchBool b (Changes Add None plan.named args p.interest q.interest) (q.interest ≡ p.interest) → Done m
      add_case true h changes = added h changes
      add_case false h changes = not_added changes

      pub hopes_added : Done m
      hopes_added =
          add_case (is_done outcome.answer) refl
          (subst (λ (o : Operation). MatchBool (is_done outcome.answer) (Changes o None plan.named args p.interest q.interest) (q.interest ≡ p.interest)) adds
          (subst (λ (o : Option EntryId). MatchBool (is_done outcome.answer) (Changes plan.operation o plan.named args p.interest q.interest) (q.interest ≡ p.interest)) absent controls.interest))
