-- An epoll_ctl over the parts and the ready lists: a registration that is there, and one that is not.
use Rattle.std.proofs.Common.{◌≡◌, ◌&&◌, ◌==◌, ◌∙◌, ◌+◌, ℕ, Bool, true, false, IsSome, List, None, Option, Some, ap, cond, filter, inl, inr, not, refl, subst, sym, unwrap_or}
use Rattle.std.specs.Option.{option_map}
use Rattle.std.specs.Ordering.{int_eq}
use Rattle.std.specs.Prelude.{MatchBool}
use Rattle.std.proofs.lemmas.Bool.{cases_eq, false≢true}
use Rattle.std.proofs.lemmas.Bool.Decides.{Decides-int_eq}
use Rattle.std.proofs.Math.Bool.{or-true}
use Rattle.ep_facts.proofs.NatFacts.{from_test}
use Rattle.ep_facts.proofs.OptionFacts.{value_of}
use Rattle.ep_base.specs.declared.call.Event.TheVariants.{Call as CallOf}
use Rattle.ep_base.specs.declared.ids.EntryId.{EntryId}
use Rattle.ep_base.specs.declared.ids.Fd.{Fd}
use Rattle.ep_base.specs.declared.ids.Pid.{Pid}
use Rattle.ep_calls.specs.Control.{Changes, Controls, IsFound, IsPlan, code_of, control_call, is_done, next_entry, raising_of_ctl}
use Rattle.ep_calls.specs.Parts.{AreCoherent, Parts}
use Rattle.ep_calls.specs.declared.control.Control.{Control}
use Rattle.ep_calls.specs.declared.control.Named.{Named}
use Rattle.ep_calls.specs.declared.control.Operation.{Operation}
use Rattle.ep_calls.specs.declared.control.Operation.TheVariants.{Add, Delete, Modify}
use Rattle.ep_calls.specs.declared.control.Plan.{Plan}
use Rattle.ep_calls.specs.declared.outcome.Outcome.{Outcome}
use Rattle.ep_calls.specs.declared.raising.Raising.{Raising}
use Rattle.ep_calls.specs.declared.raising.Raising.TheVariants.{Nowhere}
use Rattle.ep_calls.proofs.ControlLemmas.{found_as}
use Rattle.ep_calls.proofs.FindLemmas.{found_by_test}
use Rattle.ep_interest.specs.Registrations.{GainsKey, IsSound, Registrations, entry_found, entry_under, has_key, number_under, numbered}
use Rattle.ep_interest.specs.declared.entry.Entry.{Entry}
use Rattle.ep_kernel.specs.Control.{Settles, is_at_instance}
use Rattle.ep_kernel.specs.Listed.{HavePlaces, IsListed}
use Rattle.ep_kernel.specs.Push.{Gains}
use Rattle.ep_kernel.specs.Turns.{Turns}
use Rattle.ep_kernel.proofs.ControlLemmas.{IsNamed, turns_cleared, turns_set, turns_still}
use Rattle.ep_kernel.proofs.PlacesLemmas.{loses_nothing}
use Rattle.ep_climb.proofs.SetLemmas.{Sets, clears_deleted, renewed, sets_added, sets_modified}
use Rattle.ep_machine.specs.Bits.{ET, has_bit}
use Rattle.ep_machine.specs.Watches.{is_del}
use Rattle.ep_ready.specs.ReadyLists.{GainsPlace, IsSound as AreSound, Lists, LosesPlace, Same, instance_at}
use Rattle.ep_table.specs.Value.{Sound}

and_all : (a b c : Bool) → (a && b && c) ≡ true → (a ≡ true) × (b ≡ true) × (c ≡ true)
and_all true true true h = (refl, refl, refl)
and_all true true false h = absurd (false≢true h)
and_all true false c h = absurd (false≢true h)
and_all false b c h = absurd (false≢true h)

named_by_test : (named : Named) (fd : Fd) (x : Entry) → has_key named.instance fd named.desc x ≡ true → IsNamed named fd x
named_by_test named fd x h =
    let parts = and_all (x.instance.0 == named.instance.0) (int_eq x.fd.0 fd.0) (x.desc.0 == named.desc.0) h in
    record { instance = from_test x.instance.0 named.instance.0 parts.0; fd = (Decides-int_eq x.fd.0 fd.0).0 parts.1; desc = from_test x.desc.0 named.desc.0 parts.2 }

pub same_lists : (l m : Lists) → m ≡ l → Same l m
same_lists l m h = subst (Same l) (sym h) (record { places = λ id. refl; lists = λ i. refl })

-- a place that was made and dropped again leaves the lists
pub same_again : (l mid m : Lists) (id : EntryId) (i : ℕ) → AreSound l → instance_at l id ≡ None → GainsPlace l mid i id → LosesPlace mid m id → Same l m
same_again l mid m id i sound none gains loses = record {
  places = λ k. elim (cases_eq k.0 id.0) [
    | inl e ↦ ap (λ (n : ℕ). instance_at l (record { 0 = n })) e ∙ (none ∙ (sym loses.gone ∙ ap (λ (n : ℕ). instance_at m (record { 0 = n })) (sym e)))
    | inr ne ↦ sym (loses.others k ne ∙ gains.others k ne)
  ];
  lists = λ j. (loses_nothing l id sound none).lists j ∙ sym (loses.lists j ∙ ap (filter (λ k. not (k == id.0))) (gains.lists j));
}

-- the registration that is named, under the key that is found
pub record IsThere (r : Registrations) (by : Named) (under : Fd) (id : EntryId) : Type 0 where
  pub it : Entry
  pub here : entry_under r id ≡ Some it
  pub named : IsNamed by under it

pub there_by : (r : Registrations) (named : Named) (fd : Fd) (id : EntryId) → IsFound r named fd (Some id) → IsThere r named fd id
there_by r named fd id found =
    let n = value_of (number_under r id) found.key in
    let x = found_by_test (has_key named.instance fd named.desc) r.entries (sym found.there) in
    record {
      it = x.0;
      here = ap (entry_found r.entries) n.1 ∙ (ap (λ (o : Option ℕ). numbered r.entries (unwrap_or o 0)) (sym n.1) ∙ (found.entry ∙ x.1));
      named = named_by_test named fd x.0 x.2;
    }

-- it has a place
pub found_placed : (pid : ℕ) (args : Control) (plan : Plan) (p : Parts) (l : Lists) → HavePlaces p.interest l → IsPlan p pid args plan → (id : EntryId) → plan.found ≡ Some id → IsSome (instance_at l id)
found_placed pid args plan p l have plans id found =
    let there = there_by p.interest plan.named args.fd id (found_as p.interest plan.named args.fd plan.found (Some id) plans.found found) in
    subst (λ (o : Option ℕ). IsSome o) (sym (have id ∙ ap (option_map (λ (z : Entry). z.instance.0)) there.here)) refl

-- what has no registration has no place
pub none_placed : (p : Parts) (l : Lists) → HavePlaces p.interest l → (id : EntryId) → number_under p.interest id ≡ None → instance_at l id ≡ None
none_placed p l have id vacant = have id ∙ ap (option_map (λ (z : Entry). z.instance.0)) (ap (entry_found p.interest.entries) vacant)

pub some_placed : (l : Lists) (id : EntryId) (i : ℕ) → instance_at l id ≡ Some i → IsSome (instance_at l id)
some_placed l id i h = subst (λ (o : Option ℕ). IsSome o) (sym h) refl

-- Of parts that are the same.
pub sound_at : (p q : Parts) → p ≡ q → IsSound p.interest → IsSound q.interest
sound_at p q e h = subst (λ (r : Parts). IsSound r.interest) e h

pub vacant_at : (p q : Parts) (id : EntryId) → p ≡ q → number_under p.interest id ≡ None → number_under q.interest id ≡ None
vacant_at p q id e h = subst (λ (r : Parts). number_under r.interest id ≡ None) e h

pub next_at : (p q : Parts) (n : ℕ) → p ≡ q → n ≡ p.interest.next → n ≡ q.interest.next
next_at p q n e h = h ∙ ap (λ (r : Parts). r.interest.next) e

pub settled_at : (p q : Parts) (id : EntryId) (raising : Raising) (old new : Lists) → p ≡ q → Settles id (entry_under p.interest id) raising old new → Settles id (entry_under q.interest id) raising old new
settled_at p q id raising old new e h = subst (λ (r : Parts). Settles id (entry_under r.interest id) raising old new) e h

-- What is known before and after the call.
module _ (args : Control) (plan : Plan) (outcome : Outcome) (p q : Parts) (controls : Controls plan args outcome p q) where
  -- a change that is refused raises nothing
  pub nowhere : is_done outcome.answer ≡ false → is_at_instance outcome.raising ≡ false
  nowhere h = ap is_at_instance controls.raising ∙ ap (λ (b : Bool). is_at_instance (cond b (raising_of_ctl q.tables q.clock q.interest plan.named args.fd) Nowhere)) h

  pub raises : is_done outcome.answer ≡ true → outcome.raising ≡ raising_of_ctl q.tables q.clock q.interest plan.named args.fd
  raises h = controls.raising ∙ ap (λ (b : Bool). cond b (raising_of_ctl q.tables q.clock q.interest plan.named args.fd) Nowhere) h

-- the places of one that was modified
pub modified_places : (args : Control) (plan : Plan) (p q : Parts) (l : Lists) → HavePlaces p.interest l → (id : EntryId) (there : IsThere p.interest plan.named args.fd id) → Sets p.interest q.interest id (renewed args.mask args.tag there.it) → HavePlaces q.interest l
modified_places args plan p q l have id there sets k = elim (cases_eq k.0 id.0) [
  | inl e ↦
      ap (λ (n : ℕ). instance_at l (record { 0 = n })) e
      ∙ (have id
      ∙ (ap (option_map (λ (z : Entry). z.instance.0)) there.here
      ∙ sym (ap (λ (n : ℕ). option_map (λ (z : Entry). z.instance.0) (entry_under q.interest (record { 0 = n }))) e ∙ ap (option_map (λ (z : Entry). z.instance.0)) sets.here)))
  | inr ne ↦ have k ∙ ap (option_map (λ (z : Entry). z.instance.0)) (sym (sets.others k ne))
]

-- and of one that was added
pub added_places : (args : Control) (plan : Plan) (p q : Parts) (l : Lists) → HavePlaces p.interest l → (mid : Lists) (id : EntryId) → GainsPlace l mid plan.named.instance.0 id → Sets p.interest q.interest id (next_entry p.interest plan.named args) → HavePlaces q.interest mid
added_places args plan p q l have mid id gains sets k = elim (cases_eq k.0 id.0) [
  | inl e ↦
      ap (λ (n : ℕ). instance_at mid (record { 0 = n })) e
      ∙ (gains.here
      ∙ sym (ap (λ (n : ℕ). option_map (λ (z : Entry). z.instance.0) (entry_under q.interest (record { 0 = n }))) e ∙ ap (option_map (λ (z : Entry). z.instance.0)) sets.here))
  | inr ne ↦ gains.others k ne ∙ (have k ∙ ap (option_map (λ (z : Entry). z.instance.0)) (sym (sets.others k ne)))
]

-- Of the ready lists.
module _ (pid : Pid) (args : Control) (plan : Plan) (outcome : Outcome) (p q : Parts) (l : Lists) (listed : IsListed p l) (controls : Controls plan args outcome p q) where
  abbrev Done : Lists → Type 0
  Done m = Turns (CallOf pid (control_call args)) outcome.picked p l q m

  pub still : (m : Lists) → q.interest ≡ p.interest → Same l m → Done m
  still m interest same = subst (λ (ks : List ℕ). Turns (CallOf pid (control_call args)) ks p l q m) (sym controls.picked) (turns_still p q l m controls.tables controls.clock interest same pid args listed)

  -- what can't be done where there is none
  pub turns_missed : plan.found ≡ None → (op : Operation) → plan.operation ≡ op → (Changes op None plan.named args p.interest q.interest → ⊥) → Done l
  turns_missed absent op of never = none (is_done outcome.answer)
      (subst (λ (o : Operation). MatchBool (is_done outcome.answer) (Changes o None plan.named args p.interest q.interest) (q.interest ≡ p.interest)) of
      (subst (λ (o : Option EntryId). MatchBool (is_done outcome.answer) (Changes plan.operation o plan.named args p.interest q.interest) (q.interest ≡ p.interest)) absent controls.interest))
    where
      none : (b : Bool) → MatchBool b (Changes op None plan.named args p.interest q.interest) (q.interest ≡ p.interest) → Done l
      none true h = absurd (never h)
      none false h = still l h (same_lists l l refl)

  module _ (sound : Sound p.tables) (was : IsSound p.interest) (coherent : AreCoherent q) (is : IsSound q.interest) (plans : IsPlan p pid.0 args plan) where
    -- Of a registration that is there.
    module _ (m : Lists) (id : EntryId) (found : plan.found ≡ Some id) (settles : Settles id (entry_under q.interest id) outcome.raising l m) where
      there : IsThere p.interest plan.named args.fd id
      there = there_by p.interest plan.named args.fd id (found_as p.interest plan.named args.fd plan.found (Some id) plans.found found)

      refused : is_done outcome.answer ≡ false → q.interest ≡ p.interest → Done m
      refused h interest =
          let now : entry_under q.interest id ≡ Some there.it = ap (λ (r : Registrations). entry_under r id) interest ∙ there.here in
          let settled : Settles id (Some there.it) outcome.raising l m = subst (λ (o : Option Entry). Settles id o outcome.raising l m) now settles in
          still m interest (same_lists l m (subst (λ (b : Bool). MatchBool b (Gains (λ k. k == id.0) l m) (m ≡ l)) (nowhere args plan outcome p q controls h) settled))

      deleted : plan.operation ≡ Delete → Changes Delete (Some id) plan.named args p.interest q.interest → Done m
      deleted op changes =
          let clears = clears_deleted p.interest q.interest was id there.it there.here changes.0 changes.1 in
          let loses : LosesPlace l m id = subst (λ (o : Option Entry). Settles id o outcome.raising l m) (ap (entry_found q.interest.entries) clears.gone) settles in
          subst (λ (ks : List ℕ). Turns (CallOf pid (control_call args)) ks p l q m) (sym controls.picked) (turns_cleared pid args p q l m (plans.code ∙ ap code_of op) id clears loses listed)

      changed : plan.operation ≡ Modify → is_done outcome.answer ≡ true → Changes Modify (Some id) plan.named args p.interest q.interest → Done m
      changed of h changes =
          let y : Entry = renewed args.mask args.tag there.it in
          let sets = sets_modified p.interest q.interest was id there.it there.here args.mask args.tag changes.0 changes.1 in
          let named : IsNamed plan.named args.fd y = record { instance = there.named.instance; fd = there.named.fd; desc = there.named.desc } in
          let settled : Settles id (Some y) outcome.raising l m = subst (λ (o : Option Entry). Settles id o outcome.raising l m) sets.here settles in
          subst (λ (ks : List ℕ). Turns (CallOf pid (control_call args)) ks p l q m) (sym controls.picked)
          (turns_set pid args p q l m controls.tables sound coherent.linked is plan.named plans.names id y sets named (modified_places args plan p q l listed.places id there sets) outcome.raising (raises args plan outcome p q controls h) settled l listed (or-true (not (has_bit args.mask.0 ET))) (λ i. refl) (ap is_del (plans.code ∙ ap code_of of)))

      by_case : (b : Bool) → is_done outcome.answer ≡ b → (op : Operation) → plan.operation ≡ op → MatchBool b (Changes op (Some id) plan.named args p.interest q.interest) (q.interest ≡ p.interest) → Done m
      by_case false h op of changes = refused h changes
      by_case true h Add of changes = absurd changes
      by_case true h Delete of changes = deleted of changes
      by_case true h Modify of changes = changed of h changes

      pub turns_altered : Done m
      turns_altered = by_case (is_done outcome.answer) refl plan.operation refl (subst (λ (o : Option EntryId). MatchBool (is_done outcome.answer) (Changes plan.operation o plan.named args p.interest q.interest) (q.interest ≡ p.interest)) found controls.interest)

    -- Of one that is not.
    module _ (absent : plan.found ≡ None) where
      module _ (mid m : Lists) (lists : AreSound l) (id : EntryId) (next : id.0 ≡ p.interest.next) (vacant : number_under p.interest id ≡ None) (adds : plan.operation ≡ Add) (gains : GainsPlace l mid plan.named.instance.0 id) (settles : Settles id (entry_under q.interest id) outcome.raising mid m) where
        none_under : entry_under p.interest id ≡ None
        none_under = ap (entry_found p.interest.entries) vacant

        not_added : q.interest ≡ p.interest → Done m
        not_added interest =
            let loses : LosesPlace mid m id = subst (λ (o : Option Entry). Settles id o outcome.raising mid m) (ap (λ (r : Registrations). entry_under r id) interest ∙ none_under) settles in
            still m interest (same_again l mid m id plan.named.instance.0 lists (none_placed p l listed.places id vacant) gains loses)

        added : is_done outcome.answer ≡ true → Changes Add None plan.named args p.interest q.interest → Done m
        added h changes =
            let y : Entry = next_entry p.interest plan.named args in
            let keys : GainsKey p.interest q.interest id (p.interest.added + 1) = subst (λ (n : ℕ). GainsKey p.interest q.interest (record { 0 = n }) (p.interest.added + 1)) (sym next) changes.1 in
            let sets = sets_added p.interest q.interest was id y refl changes.0 keys in
            let named : IsNamed plan.named args.fd y = record { instance = refl; fd = refl; desc = refl } in
            let settled : Settles id (Some y) outcome.raising mid m = subst (λ (o : Option Entry). Settles id o outcome.raising mid m) sets.here settles in
            subst (λ (ks : List ℕ). Turns (CallOf pid (control_call args)) ks p l q m) (sym controls.picked)
            (turns_set pid args p q mid m controls.tables sound coherent.linked is plan.named plans.names id y sets named (added_places args plan p q l listed.places mid id gains sets) outcome.raising (raises args plan outcome p q controls h) settled l listed (or-true (not (has_bit args.mask.0 ET))) gains.lists (ap is_del (plans.code ∙ ap code_of adds)))

        add_case : (b : Bool) → is_done outcome.answer ≡ b → MatchBool b (Changes Add None plan.named args p.interest q.interest) (q.interest ≡ p.interest) → Done m
        add_case true h changes = added h changes
        add_case false h changes = not_added changes

        pub turns_added : Done m
        turns_added =
            add_case (is_done outcome.answer) refl
            (subst (λ (o : Operation). MatchBool (is_done outcome.answer) (Changes o None plan.named args p.interest q.interest) (q.interest ≡ p.interest)) adds
            (subst (λ (o : Option EntryId). MatchBool (is_done outcome.answer) (Changes plan.operation o plan.named args p.interest q.interest) (q.interest ≡ p.interest)) absent controls.interest))
