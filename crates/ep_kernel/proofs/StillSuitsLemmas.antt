-- What a call leaves of the room for a choice, and of what is noted as lost.
use Rattle.std.proofs.Common.{◌≡◌, ◌≢◌, ◌<◌, ◌⊎◌, ◌&&◌, ◌+◌, ◌∙◌, ℕ, ℤ, Bool, true, false, List, [], ◌∷◌, None, Option, Some, IsOk, OnErr, Ok, Err, Result, ap, cond, inl, inr, map, not, refl, subst, sym}
use Rattle.std.specs.Prelude.{MatchBool}
use Rattle.std.proofs.lemmas.Bool.{cases_eq, false≢true}
use Rattle.ep_base.specs.Limits.{Limits}
use Rattle.ep_base.specs.declared.ids.DescId.{DescId}
use Rattle.ep_base.specs.declared.ids.EntryId.{EntryId}
use Rattle.ep_base.specs.declared.ids.Pid.{Pid}
use Rattle.ep_calls.proofs.ControlLemmas.{found_as}
use Rattle.ep_calls.specs.Climb.{is_nested_key}
use Rattle.ep_calls.specs.Control.{Changes, Controls, IsPlan, code_of, is_done, is_refused_op, next_entry}
use Rattle.ep_calls.specs.Parts.{AreOpening, Parts}
use Rattle.ep_calls.specs.Wait.{with_report}
use Rattle.ep_calls.specs.declared.control.Control.{Control}
use Rattle.ep_calls.specs.declared.control.Operation.{Operation}
use Rattle.ep_calls.specs.declared.control.Operation.TheVariants.{Add, Delete, Modify}
use Rattle.ep_calls.specs.declared.control.Plan.{Plan}
use Rattle.ep_calls.specs.declared.outcome.Outcome.{Outcome}
use Rattle.ep_choice.proofs.LosingLemmas.{reaches_home}
use Rattle.ep_choice.proofs.NotesLostLemmas.{notes_controlled, notes_mapped, notes_none, notes_same, stay_all, stay_more}
use Rattle.ep_choice.proofs.SuitsLemmas.{Keeps, suits_left, were_mapped, were_same}
use Rattle.ep_choice.specs.Lost.{NotesLost, deleted_by, deleted_home, with_home}
use Rattle.ep_choice.specs.Room.{HasRoomFor, Suits}
use Rattle.ep_choice.specs.declared.choice.Choice.{Choice}
use Rattle.ep_climb.proofs.SetLemmas.{Sets, clears_deleted, renewed, sets_added, sets_modified}
use Rattle.ep_interest.specs.Exclusive.{is_exclusive}
use Rattle.ep_interest.specs.Registrations.{GainsKey, IsSound, Registrations, entry_found, entry_under}
use Rattle.ep_interest.specs.declared.entry.Entry.{Entry}
use Rattle.ep_kernel.proofs.ControlTurnsLemmas.{IsThere, there_by}
use Rattle.ep_machine.specs.Bits.{EXCLUSIVE, ONESHOT, has_bit}
use Rattle.ep_machine.specs.Lists.{is_among}
use Rattle.ep_walk.specs.Walk.{Walk}

-- what has room for the registrations before has room for those after
abbrev pub StillSuits : Registrations → Registrations → Type 0
StillSuits old new = (c : Choice) → Suits old c → Suits new c

-- nothing is lost
abbrev pub LosesNone : Parts → Parts → Type 0
LosesNone old new = (ks : List ℕ) → NotesLost old new ks ks

-- nothing is lost but what a call of this plan deletes
abbrev pub LosesDeleted : Plan → Parts → Parts → Type 0
LosesDeleted plan old new = (w : Walk) → NotesLost old new w.reached (with_home (deleted_by plan old) w).reached

-- Where registrations stay.
pub suits_same : (old new : Registrations) → new ≡ old → StillSuits old new
suits_same old new same c h = subst (λ (r : Registrations). Suits r c) (sym same) h

pub suits_stay : (p q : Parts) → q ≡ p → StillSuits p.interest q.interest
suits_stay p q same = suits_same p.interest q.interest (ap (λ (r : Parts). r.interest) same)

pub loses_same : (p q : Parts) → q.interest ≡ p.interest → LosesNone p q
loses_same p q same ks = notes_none p q ks (stay_all p.interest q.interest (ap (λ (r : Registrations). r.entries) same))

pub loses_stay : (p q : Parts) → q ≡ p → LosesNone p q
loses_stay p q same = loses_same p q (ap (λ (r : Parts). r.interest) same)

-- Where some are reported.
keeps_reported : (n : ℕ) (ks : List ℕ) → Keeps (with_report n ks)
keeps_reported n ks = record {
  number = λ x. elim (is_among ks x.number) as (λ b. (cond b (told x) x).number ≡ x.number) [ true ↦ refl | false ↦ refl ];
  instance = λ x. elim (is_among ks x.number) as (λ b. (cond b (told x) x).instance.0 ≡ x.instance.0) [ true ↦ refl | false ↦ refl ];
  desc = λ x. elim (is_among ks x.number) as (λ b. (cond b (told x) x).desc.0 ≡ x.desc.0) [ true ↦ refl | false ↦ refl ];
  mask = λ x. elim (is_among ks x.number) as (λ b. (cond b (told x) x).mask.0 ≡ x.mask.0) [ true ↦ refl | false ↦ refl ];
} where
  told : Entry → Entry
  told x = record x { armed = x.armed && not (has_bit x.mask.0 ONESHOT); fresh = false; reported_in = n }

module _ (p q : Parts) (n : ℕ) (ks : List ℕ) (entries : q.interest.entries ≡ map (with_report n ks) p.interest.entries) where
  pub suits_reported : q.interest.keys ≡ p.interest.keys → StillSuits p.interest q.interest
  suits_reported keys c = suits_left p.interest q.interest c c (were_mapped (with_report n ks) (keeps_reported n ks) p.interest q.interest entries keys) refl refl refl

  pub loses_reported : LosesNone p q
  loses_reported = notes_mapped (with_report n ks) (keeps_reported n ks).number p q entries

-- A registration was there under its key, of the same two, and exclusive if it is now.
record Remained (old : Registrations) (id : EntryId) (x : Entry) : Type 0 where
  was : Entry
  there : entry_under old id ≡ Some was
  instance : was.instance.0 ≡ x.instance.0
  desc : was.desc.0 ≡ x.desc.0
  exclusive : is_exclusive x ≡ true → is_exclusive was ≡ true

-- There is room for it.
record IsRoomy (c : Choice) (id : EntryId) (x : Entry) : Type 0 where
  lost : x.instance.0 < c.lost.room
  targets : is_exclusive x ≡ true → x.desc.0 < c.targets.room
  candidates : is_exclusive x ≡ true → id.0 < c.candidates.keys.room

suits_by : (old new : Registrations) (c : Choice) → Suits old c → ((id : EntryId) (x : Entry) → entry_under new id ≡ Some x → Remained old id x ⊎ IsRoomy c id x) → Suits new c
suits_by old new c suits from = record {
  candidates = λ id x at is. elim (from id x at) [ inl w ↦ suits.candidates id w.was w.there (w.exclusive is) | inr r ↦ r.candidates is ];
  targets = λ id x at is. elim (from id x at) [ inl w ↦ subst (λ (k : ℕ). k < c.targets.room) w.desc (suits.targets id w.was w.there (w.exclusive is)) | inr r ↦ r.targets is ];
  lost = λ id x at. elim (from id x at) [ inl w ↦ subst (λ (k : ℕ). k < c.lost.room) w.instance (suits.lost id w.was w.there) | inr r ↦ r.lost ];
}

remained_there : (old : Registrations) (id : EntryId) (x : Entry) → entry_under old id ≡ Some x → Remained old id x
remained_there old id x at = record { was = x; there = at; instance = refl; desc = refl; exclusive = λ t. t }

-- one is set
suits_set : (old new : Registrations) (c : Choice) (id : EntryId) (y : Entry) → Sets old new id y → Suits old c → Remained old id y ⊎ IsRoomy c id y → Suits new c
suits_set old new c id y sets suits here = suits_by old new c suits (λ k x at. elim (cases_eq k.0 id.0) [
  | inl e ↦
      let one : Some y ≡ Some x = sym sets.here ∙ (ap (λ (n : ℕ). entry_under new (record { 0 = n })) (sym e) ∙ at) in
      let same : y ≡ x = cc in
      subst (λ (n : ℕ). Remained old (record { 0 = n }) x ⊎ IsRoomy c (record { 0 = n }) x) (sym e) (subst (λ (z : Entry). Remained old id z ⊎ IsRoomy c id z) same here)
  | inr ne ↦ inl (remained_there old k x (sym (sets.others k ne) ∙ at))
])

-- An epoll_ctl.
module _ (pid : Pid) (args : Control) (plan : Plan) (outcome : Outcome) (p q : Parts) (controls : Controls plan args outcome p q) where
  abbrev Done : Operation → Option EntryId → Bool → Type 0
  Done op found b = MatchBool b (Changes op found plan.named args p.interest q.interest) (q.interest ≡ p.interest)

  -- what is found
  done_found : (found : Option EntryId) → plan.found ≡ found → Done plan.operation found (is_done outcome.answer)
  done_found found is = subst (λ (o : Option EntryId). Done plan.operation o (is_done outcome.answer)) is controls.interest

  -- and of which operation
  done_as : (op : Operation) (found : Option EntryId) → plan.operation ≡ op → plan.found ≡ found → Done op found (is_done outcome.answer)
  done_as op found of is = subst (λ (o : Operation). Done o found (is_done outcome.answer)) of (done_found found is)

  -- where nothing is there
  module _ (absent : plan.found ≡ None) where
    pub loses_missed : LosesNone p q
    loses_missed ks = by (is_done outcome.answer) plan.operation (done_found None absent) where
      by : (b : Bool) (op : Operation) → Done op None b → NotesLost p q ks ks
      by false op same = loses_same p q same ks
      by true Add h = notes_none p q ks (stay_more p.interest q.interest (next_entry p.interest plan.named args ∷ []) h.0)
      by true Delete h = absurd h
      by true Modify h = absurd h

    -- what is no ADD is refused
    pub suits_missed : (op : Operation) → plan.operation ≡ op → (Changes op None plan.named args p.interest q.interest → ⊥) → StillSuits p.interest q.interest
    suits_missed op of never = suits_same p.interest q.interest (by (is_done outcome.answer) (done_as op None of absent)) where
      by : (b : Bool) → Done op None b → q.interest ≡ p.interest
      by true h = absurd (never h)
      by false h = h

  module _ (was : IsSound p.interest) where
    pub loses_controlled : LosesDeleted plan p q
    loses_controlled = notes_controlled outcome.answer plan.operation plan.found plan.named args p q was controls.interest

    -- what is added
    pub suits_added : (id : EntryId) → id.0 ≡ p.interest.next → plan.operation ≡ Add → plan.found ≡ None → (c : Choice) → HasRoomFor c plan.named args.mask id.0 → Suits p.interest c → Suits q.interest c
    suits_added id next adds absent c room suits = by (is_done outcome.answer) (done_as Add None adds absent) where
      by : (b : Bool) → Done Add None b → Suits q.interest c
      by false same = suits_same p.interest q.interest same c suits
      by true h =
          let y : Entry = next_entry p.interest plan.named args in
          let keys : GainsKey p.interest q.interest id (p.interest.added + 1) = subst (λ (n : ℕ). GainsKey p.interest q.interest (record { 0 = n }) (p.interest.added + 1)) (sym next) h.1 in
          suits_set p.interest q.interest c id y (sets_added p.interest q.interest was id y refl h.0 keys) suits (inr (record { lost = room.lost; targets = room.targets; candidates = room.candidates }))

    -- where it is there
    module _ (plans : IsPlan p pid.0 args plan) (id : EntryId) (found : plan.found ≡ Some id) where
      there : IsThere p.interest plan.named args.fd id
      there = there_by p.interest plan.named args.fd id (found_as p.interest plan.named args.fd plan.found (Some id) plans.found found)

      -- a MOD makes nothing exclusive
      not_exclusive : plan.operation ≡ Modify → has_bit args.mask.0 EXCLUSIVE ≡ false
      not_exclusive of = ap (λ (z : ℤ). is_refused_op (is_nested_key p.tables plan.named.desc) z args.mask.0) (sym (plans.code ∙ ap code_of of)) ∙ plans.accepted

      pub suits_altered : StillSuits p.interest q.interest
      suits_altered c suits = by (is_done outcome.answer) plan.operation refl (done_found (Some id) found) where
        by : (b : Bool) (op : Operation) → plan.operation ≡ op → Done op (Some id) b → Suits q.interest c
        by false op of same = suits_same p.interest q.interest same c suits
        by true Add of h = absurd h
        by true Delete of h =
            let clears = clears_deleted p.interest q.interest was id there.it there.here h.0 h.1 in
            suits_by p.interest q.interest c suits (λ k x at. elim (cases_eq k.0 id.0) [
              | inl e ↦ absurd (let no : None ≡ Some x = sym (ap (λ (n : ℕ). entry_under q.interest (record { 0 = n })) e ∙ ap (entry_found q.interest.entries) clears.gone) ∙ at in cc)
              | inr ne ↦ inl (remained_there p.interest k x (sym (clears.others k ne) ∙ at))
            ])
        by true Modify of h =
            let y : Entry = renewed args.mask args.tag there.it in
            let sets = sets_modified p.interest q.interest was id there.it there.here args.mask args.tag h.0 h.1 in
            suits_set p.interest q.interest c id y sets suits (inl (record { was = there.it; there = there.here; instance = refl; desc = refl; exclusive = λ t. absurd (false≢true (sym (not_exclusive of) ∙ t)) }))

-- where it fails
pub loses_failed : (plan : Plan) (p q : Parts) → q ≡ p → LosesDeleted plan p q
loses_failed plan p q same = notes_same plan.operation plan.found p q (ap (λ (r : Parts). r.interest) same)

-- Once what a DEL takes is noted.
pub suits_noted : (r : Registrations) (c : Choice) (o : Option DescId) (lost : Walk) → lost ≡ with_home o c.lost → Suits r c → Suits r (record c { lost = lost })
suits_noted r c o lost is = suits_left r r c (record c { lost = lost }) (were_same r r refl refl) refl refl (ap (λ (w : Walk). w.room) is ∙ (reaches_home o c.lost (with_home o c.lost) refl).room)

-- What is not done takes nothing.
no_err : {T E : Type 0} (P : Type 0) (r : Result T E) → IsOk r → OnErr r P
no_err P (Ok x) h = tt
no_err P (Err e) h = absurd (false≢true h)

pub at_err : {T E P : Type 0} (r : Result T E) (e : E) → r ≡ Err e → OnErr r P → P
at_err {P = P} r e is h = subst (λ x. OnErr x P) is h

pub kept_on_err : {T E : Type 0} (op : Operation) (found : Option EntryId) (p : Parts) (w lost : Walk) → lost ≡ with_home (deleted_home op found p) w → (r : Result T E) → (op ≢ Add → IsOk r) → OnErr r (lost.reached ≡ w.reached)
kept_on_err Add found p w lost is (Ok x) spared = tt
kept_on_err Add found p w lost is (Err e) spared = ap (λ (v : Walk). v.reached) is
kept_on_err Delete found p w lost is r spared = no_err _ r (spared (λ e. absurd (cc)))
kept_on_err Modify found p w lost is r spared = no_err _ r (spared (λ e. absurd (cc)))

-- and at the start
pub suits_opening : (limits : Limits) (p : Parts) → AreOpening limits p → (c : Choice) → Suits p.interest c
suits_opening limits p opens c =
    let none : (id : EntryId) (x : Entry) → entry_under p.interest id ≡ Some x → ⊥ = λ id x at. absurd (let no : None ≡ Some x = sym (ap (λ (r : Registrations). entry_under r id) opens.interest) ∙ at in cc) in
    record { candidates = λ id x at. absurd (none id x at); targets = λ id x at. absurd (none id x at); lost = λ id x at. absurd (none id x at) }
