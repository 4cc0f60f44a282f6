-- epoll_ctl over the parts.
use Rattle.std.proofs.Common.{◌≡◌, ◌∙◌, ◌+◌, ◌++◌, ◌==◌, ℕ, All, Bool, List, [], ◌∷◌, Option, true, false, ap, cond, length, map, nat_le, refl, subst, sym, unwrap_or}
use Rattle.std.specs.Prelude.{MatchBool}
use Rattle.std.proofs.lemmas.List.Elements.{All-append, All-cons, All-filter, All-map, All-nil, All-weaker}
use Rattle.ep_base.specs.declared.answer.Answer.{Answer}
use Rattle.ep_base.specs.declared.answer.Answer.TheVariants.{Done, Refused}
use Rattle.ep_base.specs.declared.errno.Errno.TheVariants.{Einval, Enospc}
use Rattle.ep_base.specs.declared.mask.Mask.{Mask}
use Rattle.ep_interest.specs.Registrations.{Registrations, is_other, modified, new_entry}
use Rattle.ep_interest.specs.declared.entry.Entry.{Entry}
use Rattle.ep_machine.specs.Files.{named_by, object_of}
use Rattle.ep_view.proofs.KindLemmas.{watched_unless_plain}
use Rattle.ep_view.specs.AtRest.{can_be_watched}
use Rattle.ep_machine.specs.Refusal.{ctl_refusals}
use Rattle.ep_machine.specs.Step.{call_change}
use Rattle.ep_view.proofs.AtRestLemmas.{none_holds}
use Rattle.ep_calls.specs.Does.{DoesCall}
use Rattle.ep_calls.specs.Parts.{AreWatched, Parts}
use Rattle.ep_calls.specs.declared.outcome.Outcome.{Outcome}
use Rattle.ep_nest.specs.declared.link.Link.{Link}
use Rattle.ep_calls.specs.Control.{Alters, ChangesIf, Controls, Enters, IsFound, Names, is_exclusive_at, raising_after, control_call, naming_refusals}
use Rattle.ep_calls.specs.Moves.{Goes, MovesBy}
use Rattle.ep_calls.specs.Raising.{IsRaising, Raises}
use Rattle.ep_calls.specs.Stands.{number_at}
use Rattle.ep_calls.specs.declared.control.Control.{Control}
use Rattle.ep_calls.specs.declared.control.Named.{Named}
use Rattle.ep_calls.specs.declared.control.Operation.{Operation}
use Rattle.ep_calls.specs.declared.control.Plan.{Plan}
use Rattle.ep_base.specs.declared.ids.EntryId.{EntryId}
use Rattle.ep_base.specs.declared.ids.Fd.{Fd}
use Rattle.ep_calls.specs.declared.control.Operation.TheVariants.{Add, Delete, Modify}
use Rattle.ep_calls.proofs.OutcomeLemmas.{goes_told, raises_told}
use Rattle.ep_table.specs.Value.{Seen}

module _ (v : Seen) (r : Registrations) (p : ℕ) (args : Control) (named : Named) (names : Names v p args.epfd.0 args.fd.0 named) (watched : AreWatched v r) where
  abbrev IsShown : Entry → Type 0
  IsShown x = can_be_watched (object_of v.files (number_at v.keys x.desc)) ≡ true

  target : can_be_watched (object_of v.files (number_at v.keys named.desc)) ≡ true
  target =
      let number : number_at v.keys named.desc ≡ named_by v.files p args.fd.0 = ap (λ (o : Option ℕ). unwrap_or o 0) names.desc in
      ap (λ (d : ℕ). can_be_watched (object_of v.files d)) number ∙ watched_unless_plain (object_of v.files (named_by v.files p args.fd.0)) (none_holds (naming_refusals v.files p args.epfd.0 args.fd.0) names.accepted).1.1.0

  modified_shown : (k : ℕ) (m : Mask) (tag : ℕ) (x : Entry) → IsShown x → IsShown (modified k m tag x)
  modified_shown k m tag x h = elim (x.number == k) as (λ b. IsShown (cond b (record x { mask = m; tag = tag; armed = true; fresh = true }) x)) [ true ↦ h | false ↦ h ]

  pub watched_altered : (k : ℕ) (operation : Operation) (new : Registrations) (answer : Answer) → Alters operation k args.mask args.tag r new answer → AreWatched v new
  watched_altered k Add new answer h = subst (λ (q : Registrations). AreWatched v q) (sym h.1) watched
  watched_altered k Delete new answer h = subst (All IsShown) (sym h.1) (All-filter (is_other k) IsShown r.entries watched)
  watched_altered k Modify new answer h = by (is_exclusive_at r k) h where
    by : (b : Bool) → MatchBool b ((answer ≡ Refused Einval) × (new ≡ r)) ((answer ≡ Done) × (new.entries ≡ map (modified k args.mask args.tag) r.entries) × (new.added ≡ r.added)) → AreWatched v new
    by true h = subst (λ (q : Registrations). AreWatched v q) (sym h.1) watched
    by false h =
        subst (All IsShown) (sym h.1) (All-map IsShown (modified k args.mask args.tag) r.entries (All-weaker IsShown (λ x. IsShown (modified k args.mask args.tag x)) (modified_shown k args.mask args.tag) r.entries watched))

  abbrev added_entry : Entry
  added_entry = new_entry (r.added + 1) named.instance args.fd named.desc args.mask args.tag

  watched_added : (new : Registrations) (answer : Answer) (full : Bool) → MatchBool full ((answer ≡ Refused Enospc) × (new ≡ r)) ((answer ≡ Done) × (new.entries ≡ r.entries ++ added_entry ∷ []) × (new.added ≡ r.added + 1)) → AreWatched v new
  watched_added new answer true h = subst (λ (q : Registrations). AreWatched v q) (sym h.1) watched
  watched_added new answer false h = subst (All IsShown) (sym h.1) (All-append IsShown r.entries _ watched (All-cons IsShown added_entry [] target (All-nil IsShown)))

  watched_deep : (watches : ℕ) (new : Registrations) (answer : Answer) (deep : Bool) → Enters Add deep watches added_entry r new answer → AreWatched v new
  watched_deep watches new answer true h = subst (λ (q : Registrations). AreWatched v q) (sym h.1) watched
  watched_deep watches new answer false h = watched_added new answer (nat_le watches (length r.entries)) h

  pub watched_entered : (deep : Bool) (watches : ℕ) (operation : Operation) (new : Registrations) (answer : Answer) → Enters operation deep watches added_entry r new answer → AreWatched v new
  watched_entered deep watches Add new answer h = watched_deep watches new answer deep h
  watched_entered deep watches Delete new answer h = subst (λ (q : Registrations). AreWatched v q) (sym h.1) watched
  watched_entered deep watches Modify new answer h = subst (λ (q : Registrations). AreWatched v q) (sym h.1) watched

-- with this answer, nothing picked and this raised, the parts do what the machine does
pub ctl_does : (p : Parts) (interest : Registrations) (graph : List Link) (pid : ℕ) (args : Control) (answer : Answer) (outcome : Outcome) → outcome.answer ≡ answer → outcome.picked ≡ [] → IsRaising outcome.raising p.tables → (n caller : ℕ)
    → MovesBy n p (λ s. Goes (ctl_refusals p.tables.limits s pid args.epfd.0 args.op args.fd.0 args.mask.0) (call_change p.tables.limits s caller pid (control_call args) []) s answer [] (record p { interest = interest; graph = graph })
    × Raises (ctl_refusals p.tables.limits s pid args.epfd.0 args.op args.fd.0 args.mask.0) (call_change p.tables.limits s caller pid (control_call args) []) outcome.raising p.tables p.clock)
    → DoesCall n caller pid (control_call args) outcome p (record p { interest = interest; graph = graph })
ctl_does p interest graph pid args answer outcome told none is n caller both =
    let limits = p.tables.limits in
    record {
      moves = λ s at sound quiet legal stands.
          goes_told (ctl_refusals limits s pid args.epfd.0 args.op args.fd.0 args.mask.0) (call_change limits s caller pid (control_call args)) s outcome.answer answer outcome.picked (record p { interest = interest; graph = graph }) told none (both s at sound quiet legal stands).0;
      raises = λ s at sound quiet legal stands.
          raises_told (ctl_refusals limits s pid args.epfd.0 args.op args.fd.0 args.mask.0) (call_change limits s caller pid (control_call args)) p.tables p.clock outcome.raising outcome.picked none (both s at sound quiet legal stands).1;
      raising = is;
      limits = refl;
      keys = λ key d h. h;
    }

-- what is known of the registration that is named, where it is this
pub found_as : (r : Registrations) (named : Named) (fd : Fd) (found is : Option EntryId) → IsFound r named fd found → found ≡ is → IsFound r named fd is
found_as r named fd found is h e = subst (IsFound r named fd) e h

-- with this answer, nothing picked and this raised, the registrations change as the plan says
pub controls_told : (plan : Plan) (args : Control) (outcome : Outcome) (answer : Answer) (p : Parts) (interest : Registrations) (graph : List Link) → outcome.answer ≡ answer → outcome.picked ≡ []
    → outcome.raising ≡ raising_after answer p.tables p.clock interest plan.named args.fd
    → (found : Option EntryId) → plan.found ≡ found → ChangesIf answer plan.operation found plan.named args p.interest interest
    → Controls plan args outcome p (record p { interest = interest; graph = graph })
controls_told plan args outcome answer p interest graph told none raising found is changes = record {
  tables = refl;
  clock = refl;
  picked = none;
  raising = raising ∙ ap (λ (a : Answer). raising_after a p.tables p.clock interest plan.named args.fd) (sym told);
  interest = subst (λ (a : Answer). ChangesIf a plan.operation plan.found plan.named args p.interest interest) (sym told)
      (subst (λ (o : Option EntryId). ChangesIf answer plan.operation o plan.named args p.interest interest) (sym is) changes);
}
