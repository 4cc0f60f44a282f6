-- What an epoll_ctl leaves of the dates.
use Rattle.std.proofs.Common.{◌≡◌, ◌≢◌, ◌<◌, ◌≤◌, ◌+◌, ◌==◌, ◌&&◌, ◌∙◌, ◌⊎◌, ℕ, ℤ, All, Bool, true, false, IsSome, List, [], ◌∷◌, None, Option, Some, ap, arith, cond, inl, inr, nat_lt, refl, subst, sym, unwrap_or}
use Rattle.std.specs.Option.{option_map}
use Rattle.std.specs.Ordering.{int_eq}
use Rattle.std.specs.Prelude.{IfSome, MatchBool}
use Rattle.std.proofs.lemmas.Bool.{cases_Bool, cases_eq, false≢true}
use Rattle.std.proofs.lemmas.Bool.Decides.{nat_tests}
use Rattle.std.proofs.lemmas.List.Elements.{All-append, All-cons, All-filter, All-from_recursion, All-map, All-nil, All-weaker}
use Rattle.std.proofs.lemmas.Option.{none-some}
use Rattle.ep_facts.proofs.OptionFacts.{some_same, value_of}
use Rattle.ep_facts.proofs.NatFacts.{from_test, same_int, same_nat, test_apart, zero_of as undated}
use Rattle.ep_law.proofs.ListLemmas.{any_has}
use Rattle.ep_base.specs.declared.answer.Answer.{Answer}
use Rattle.ep_base.specs.declared.answer.Answer.TheVariants.{Done as Answered}
use Rattle.ep_base.specs.declared.call.Event.TheVariants.{Call as CallOf}
use Rattle.ep_base.specs.declared.ids.DescId.{DescId}
use Rattle.ep_base.specs.declared.ids.EntryId.{EntryId}
use Rattle.ep_base.specs.declared.ids.Fd.{Fd}
use Rattle.ep_base.specs.declared.ids.Pid.{Pid}
use Rattle.ep_base.specs.declared.mask.Mask.{Mask}
use Rattle.ep_calls.proofs.ControlLemmas.{found_as}
use Rattle.ep_calls.proofs.EntryLemmas.{holds_under, member_of, number_of, some_entry, within}
use Rattle.ep_calls.proofs.FindLemmas.{has_number}
use Rattle.ep_calls.specs.Climb.{is_nested_key}
use Rattle.ep_calls.specs.Control.{Changes, Controls, IsFound, IsPlan, Names, code_of, control_call, is_done, is_refused_op, next_entry}
use Rattle.ep_calls.specs.Parts.{Parts}
use Rattle.ep_calls.specs.declared.control.Control.{Control}
use Rattle.ep_calls.specs.declared.control.Named.{Named}
use Rattle.ep_calls.specs.declared.control.Operation.{Operation}
use Rattle.ep_calls.specs.declared.control.Operation.TheVariants.{Add, Delete, Modify}
use Rattle.ep_calls.specs.declared.control.Plan.{Plan}
use Rattle.ep_calls.specs.declared.outcome.Outcome.{Outcome}
use Rattle.ep_choice.proofs.LosingLemmas.{reaches_home}
use Rattle.ep_choice.proofs.NotesLostLemmas.{notes_controlled}
use Rattle.ep_choice.proofs.SuitsLemmas.{room_deleted}
use Rattle.ep_choice.specs.Lost.{NotesLost, deleted_by, deleted_home, with_home}
use Rattle.ep_choice.specs.Room.{HaveRoom}
use Rattle.ep_climb.proofs.SetLemmas.{clears_deleted, renewed, sets_added, sets_modified}
use Rattle.ep_dates.proofs.DropLemmas.{drops_none, drops_one}
use Rattle.ep_dates.specs.Dates.{Dates, ended, event_at, is_dated}
use Rattle.ep_dates.specs.Drop.{Drops}
use Rattle.ep_dates.specs.Kept.{AreKept}
use Rattle.ep_dates.specs.Moves.{IsAdded, Moves}
use Rattle.ep_interest.specs.Exclusive.{is_exclusive}
use Rattle.ep_interest.specs.Registrations.{IsSound, Registrations, entry_found, entry_under, has_key, is_other, modified, number_under, numbered}
use Rattle.ep_interest.specs.declared.entry.Entry.{Entry}
use Rattle.ep_machine.specs.Bits.{EXCLUSIVE, has_bit}
use Rattle.ep_machine.specs.Files.{under}
use Rattle.ep_machine.specs.Lists.{is_among}
use Rattle.ep_plain.proofs.FitsLemmas.{IsRoomy, fits_from}
use Rattle.ep_plain.proofs.LosesLemmas.{loses_moves}
use Rattle.ep_plain.proofs.RoomLemmas.{fits_grown, kept_grown, loses_grown, same_event}
use Rattle.ep_plain.specs.Control.{IsInRow, deleted_in, key_of, without_deleted}
use Rattle.ep_plain.specs.Dating.{Fits, Grows, HasRoomFor}
use Rattle.ep_plain.specs.Exact.{Follows, IsExact, IsNamed, TellsReports}
use Rattle.ep_plain.specs.Loses.{Loses}
use Rattle.ep_plain.specs.declared.dating.Dating.{Dating}
use Rattle.ep_walk.specs.Walk.{Walk}
use Rattle.ep_rings.specs.PlacedRows.{keys_at}
use Rattle.ep_table.specs.Value.{Seen, Sound, number_under as desc_number}

id_is : (a b : EntryId) → a.0 ≡ b.0 → a ≡ b
id_is a b e = λ i. record { 0 = e i }

-- Which registration an epoll_ctl names.

-- the registration with these descriptions is the one that was found
pub found_is : (r : Registrations) → IsSound r → (named : Named) (fd : Fd) (found : Option EntryId) → IsFound r named fd found
    → (id : EntryId) (x : Entry) → entry_under r id ≡ Some x → has_key named.instance fd named.desc x ≡ true → found ≡ Some id
found_is r sound named fd None is id x at has = absurd (false≢true (is.there ∙ any_has (has_key named.instance fd named.desc) r.entries x (member_of r id x at) has))
found_is r sound named fd (Some key) is id x at has =
    let n = value_of (number_under r key) is.key in
    let P : Entry → Type 0 = λ y. has_key named.instance fd named.desc y ≡ (y.number == n.0) in
    let each = has_number r named.instance fd named.desc n.0 sound (sym is.there) (ap (λ (o : Option ℕ). numbered r.entries (unwrap_or o 0)) (sym n.1) ∙ is.entry) in
    let number : x.number ≡ n.0 = from_test x.number n.0 (sym (holds_under P r id x (All-from_recursion P r.entries each) at) ∙ has) in
    ap (λ (k : EntryId). Some k) (sound.one_key key id n.0 n.1 (number_of r id x at ∙ ap (λ (k : ℕ). Some k) number))

module _ (v : Seen) (sound : Sound v) where
  -- keys with one number are the same
  key_is : (a b : DescId) → desc_number v a ≡ desc_number v b → IsSome (desc_number v b) → a.0 ≡ b.0
  key_is a b same lives = let n = value_of (desc_number v b) lives in sound.one a b n.0 (same ∙ n.1) n.1

  -- it has these descriptions
  module _ (pid : ℕ) (epfd fd : Fd) (named : Named) (instance : desc_number v named.instance ≡ under v.files pid epfd.0) (desc : desc_number v named.desc ≡ under v.files pid fd.0)
      (instance_lives : IsSome (desc_number v named.instance)) (desc_lives : IsSome (desc_number v named.desc))
    where
      pub keyed : (x : Entry) → desc_number v x.instance ≡ under v.files pid epfd.0 → x.fd ≡ fd → desc_number v x.desc ≡ under v.files pid fd.0 → has_key named.instance fd named.desc x ≡ true
      keyed x at is on =
          let one = key_is x.instance named.instance (at ∙ sym instance) instance_lives in
          let other = key_is x.desc named.desc (on ∙ sym desc) desc_lives in
          (λ i. one i == named.instance.0 && int_eq (is i).0 fd.0 && other i == named.desc.0)
          ∙ (λ i. same_nat named.instance.0 i && same_int fd.0 i && same_nat named.desc.0 i)

-- Registrations as an epoll_ctl leaves them.

-- it was there under its key, with the same number, of the same instance, and on the same
pub record WasAbout (r : Registrations) (id : EntryId) (x : Entry) : Type 0 where
  pub was : Entry
  pub there : entry_under r id ≡ Some was
  pub number : was.number ≡ x.number
  pub instance : was.instance ≡ x.instance
  pub fd : was.fd ≡ x.fd
  pub desc : was.desc ≡ x.desc
  pub exclusive : is_exclusive x ≡ true → is_exclusive was ≡ true

-- each was there and stays, or is added, and no other goes
pub record Edits (old new : Registrations) (gone : ℕ → Bool) (Added : EntryId → Entry → Type 0) : Type 0 where
  pub each : (id : EntryId) (x : Entry) → entry_under new id ≡ Some x → (WasAbout old id x × (gone id.0 ≡ false)) ⊎ Added id x
  pub left : (id : EntryId) (x : Entry) → entry_under old id ≡ Some x → gone id.0 ≡ false → (y : Entry) × (entry_under new id ≡ Some y) × (y.instance.0 ≡ x.instance.0)
  pub more : old.added ≤ new.added

-- it is the one with the next key
abbrev pub IsNext : Registrations → Named → Control → EntryId → Entry → Type 0
IsNext r named args id x = (id.0 ≡ r.next) × (x ≡ next_entry r named args)

same_about : (r : Registrations) (id : EntryId) (x : Entry) → entry_under r id ≡ Some x → WasAbout r id x
same_about r id x at = record { was = x; there = at; number = refl; instance = refl; fd = refl; desc = refl; exclusive = λ h. h }

edits_none : (old new : Registrations) → new ≡ old → Edits old new (λ k. false) (λ id x. ⊥)
edits_none old new same = subst (λ (r : Registrations). Edits old r (λ k. false) (λ id x. ⊥)) (sym same) (record {
  each = λ id x at. inl (same_about old id x at, refl);
  left = λ id x at h. (x, at, refl);
  more = omega arith;
})

module _ (old new : Registrations) (was : IsSound old) (is : IsSound new) (named : Named) (args : Control) where
  abbrev next : EntryId
  next = record { 0 = old.next }

  edits_added : Changes Add None named args old new → Edits old new (λ k. false) (IsNext old named args)
  edits_added changes =
      let y = next_entry old named args in
      let sets = sets_added old new was next y refl changes.0 changes.1 in
      record {
        each = λ id x at. elim (cases_eq id.0 old.next) [
          | inl e ↦ inr (e, some_same x y (sym at ∙ (ap (entry_under new) (id_is id next e) ∙ sets.here)))
          | inr ne ↦ inl (same_about old id x (sym (sets.others id ne) ∙ at), refl)
        ];
        left = λ id x at h. elim (cases_eq id.0 old.next) [
          | inl e ↦ absurd (none-some x (sym (ap (entry_found old.entries) changes.1.was) ∙ (ap (entry_under old) (sym (id_is id next e)) ∙ at)))
          | inr ne ↦ (x, sets.others id ne ∙ at, refl)
        ];
        more = let le : y.number ≤ new.added = within new is next y sets.here in omega (arith, le);
      }

  module _ (key : EntryId) (it : Entry) (here : entry_under old key ≡ Some it) (added : new.added ≡ old.added) where
    -- a MOD to an exclusive one is refused
    edits_modified : has_bit args.mask.0 EXCLUSIVE ≡ false → Changes Modify (Some key) named args old new → Edits old new (λ k. false) (λ id x. ⊥)
    edits_modified plain changes =
        let sets = sets_modified old new was key it here args.mask args.tag changes.0 changes.1 in
        record {
          each = λ id x at. elim (cases_eq id.0 key.0) [
            | inl e ↦
                let same : renewed args.mask args.tag it ≡ x = sym (some_same x (renewed args.mask args.tag it) (sym at ∙ (ap (entry_under new) (id_is id key e) ∙ sets.here))) in
                inl (
                  record {
                    was = it;
                    there = ap (entry_under old) (id_is id key e) ∙ here;
                    number = ap (λ (z : Entry). z.number) same;
                    instance = ap (λ (z : Entry). z.instance) same;
                    fd = ap (λ (z : Entry). z.fd) same;
                    desc = ap (λ (z : Entry). z.desc) same;
                    exclusive = λ h. absurd (false≢true (sym plain ∙ (ap (λ (z : Entry). is_exclusive z) same ∙ h)));
                  },
                  refl,
                )
            | inr ne ↦ inl (same_about old id x (sym (sets.others id ne) ∙ at), refl)
          ];
          left = λ id x at h. elim (cases_eq id.0 key.0) [
            | inl e ↦
                let same : it ≡ x = some_same it x (sym here ∙ (ap (entry_under old) (sym (id_is id key e)) ∙ at)) in
                (renewed args.mask args.tag it, ap (entry_under new) (id_is id key e) ∙ sets.here, ap (λ (z : Entry). z.instance.0) same)
            | inr ne ↦ (x, sets.others id ne ∙ at, refl)
          ];
          more = omega (arith, added);
        }

    edits_deleted : Changes Delete (Some key) named args old new → Edits old new (λ k. k == key.0) (λ id x. ⊥)
    edits_deleted changes =
        let clears = clears_deleted old new was key it here changes.0 changes.1 in
        record {
          each = λ id x at. elim (cases_eq id.0 key.0) [
            | inl e ↦ absurd (none-some x (sym (ap (entry_found new.entries) clears.gone) ∙ (ap (entry_under new) (sym (id_is id key e)) ∙ at)))
            | inr ne ↦ inl (same_about old id x (sym (clears.others id ne) ∙ at), test_apart id.0 key.0 ne)
          ];
          left = λ id x at h. (x, clears.others id (λ e. false≢true (sym h ∙ (ap (λ (k : ℕ). k == key.0) e ∙ same_nat key.0))) ∙ at, refl);
          more = omega (arith, added);
        }

-- None is reported in the event of an epoll_ctl.

abbrev Past : ℕ → Entry → Type 0
Past n x = x.reported_in < n

modified_past : (n k : ℕ) (mask : Mask) (tag : ℕ) (x : Entry) → Past n x → Past n (modified k mask tag x)
modified_past n k mask tag x h = elim (x.number == k) as (λ b. Past n (cond b (record x { mask = mask; tag = tag; armed = true; fresh = true }) x)) [ true ↦ h | false ↦ h ]

past_changed : (n : ℕ) → 0 < n → (operation : Operation) (found : Option EntryId) (named : Named) (args : Control) (old new : Registrations) → Changes operation found named args old new → All (Past n) old.entries → All (Past n) new.entries
past_changed n counted Add None named args old new changes past =
    subst (All (Past n)) (sym changes.0) (All-append (Past n) old.entries (next_entry old named args ∷ []) past (All-cons (Past n) (next_entry old named args) [] counted (All-nil (Past n))))
past_changed n counted Add (Some key) named args old new changes past = absurd changes
past_changed n counted Delete None named args old new changes past = absurd changes
past_changed n counted Delete (Some key) named args old new changes past =
    subst (All (Past n)) (sym changes.0) (All-filter (is_other (unwrap_or (number_under old key) 0)) (Past n) old.entries past)
past_changed n counted Modify None named args old new changes past = absurd changes
past_changed n counted Modify (Some key) named args old new changes past =
    let k = unwrap_or (number_under old key) 0 in
    subst (All (Past n)) (sym changes.0) (All-map (Past n) (modified k args.mask args.tag) old.entries (All-weaker (Past n) (λ x. Past n (modified k args.mask args.tag x)) (modified_past n k args.mask args.tag) old.entries past))

tells_none : (n : ℕ) (r : Registrations) → All (Past n) r.entries → TellsReports n [] r
tells_none n r past = All-weaker (Past n) (λ x. false ≡ (x.reported_in == n)) (λ x lt. grind (arith, nat_tests, lt)) r.entries past

-- The date of what was deleted.

module _ (r : Registrations) (d : Dates) (kept : AreKept r d) where
  in_row : (id : EntryId) (o : Option Entry) → entry_under r id ≡ o → IfSome {T = EntryId × Entry} (option_map (λ (x : Entry). (id, x)) o) (λ w. IsInRow d w.0 w.1)
  in_row id None at = tt
  in_row id (Some x) at = record { place = kept.places id x at; listed = kept.listed id x at }

  pub deleted_in_row : (operation : Operation) (found : Option EntryId) → IfSome (deleted_in operation found r) (λ w. IsInRow d w.0 w.1)
  deleted_in_row Add found = tt
  deleted_in_row Modify found = tt
  deleted_in_row Delete None = tt
  deleted_in_row Delete (Some id) = in_row id (entry_under r id) refl

  -- where nothing was deleted, none is dropped
  none_deleted : (operation : Operation) (found : Option EntryId) → (operation ≡ Delete → IsSome found → ⊥) → without_deleted (deleted_in operation found r) d ≡ d
  none_deleted Add found stays = refl
  none_deleted Modify found stays = refl
  none_deleted Delete None stays = refl
  none_deleted Delete (Some id) stays = absurd (stays refl refl)

  pub drops_nothing : Drops r (λ k. false) d d
  drops_nothing = drops_none r (λ k. false) d kept (λ id x at h. absurd (false≢true h))

  module _ (sound : IsSound r) (id : EntryId) (x : Entry) (at : entry_under r id ≡ Some x) where
    drops_or_not : (b : Bool) → is_dated d x ≡ b → Drops r (λ k. k == id.0) d (cond b (ended id x d) d)
    drops_or_not true h = drops_one r sound d kept id x at
    drops_or_not false h = drops_none r (λ k. k == id.0) d kept (λ j y there e.
        let same : y ≡ x = ap (λ (o : Option Entry). unwrap_or o y) (sym there ∙ (ap (entry_under r) (id_is j id (from_test j.0 id.0 e)) ∙ at)) in
        undated (event_at d.since y.number) (ap (λ (z : Entry). is_dated d z) same ∙ h))

    drops_deleted : Drops r (λ k. k == id.0) d (without_deleted (deleted_in Delete (Some id) r) d)
    drops_deleted =
        let there : deleted_in Delete (Some id) r ≡ Some (id, x) = ap (option_map (λ (y : Entry). (id, y))) at in
        let is : without_deleted (deleted_in Delete (Some id) r) d ≡ cond (is_dated d x) (ended id x d) d = ap (λ (o : Option (EntryId × Entry)). without_deleted o d) there in
        subst (Drops r (λ k. k == id.0) d) (sym is) (drops_or_not (is_dated d x) refl)

-- What follows once registrations are edited.
module _ (n : ℕ) (event_pid : Pid) (args : Control) (answer : Answer) (old new : Parts) (d e : Dating) (exact : IsExact n old d) (grows : Grows d e) where
  fits : Fits old.interest e
  fits = fits_grown old.interest d e grows exact.fits

  module _ (gone : ℕ → Bool) (Added : EntryId → Entry → Type 0) (edits : Edits old.interest new.interest gone Added) (f : Dates) (drops : Drops old.interest gone e.dates f)
      (added : (id : EntryId) (x : Entry) → Added id x → IsAdded f id x × (old.interest.added < x.number) × IsRoomy e id x)
      (named : (id : EntryId) (x : Entry) → entry_under new.interest id ≡ Some x → IsNamed old.tables (CallOf event_pid (control_call args)) x → e.altered ≡ Some id)
      (told : TellsReports n [] new.interest) (lost : Walk) (room : lost.room ≡ e.choice.lost.room) (roomy : HaveRoom lost.reached e.reached) (notes : NotesLost old new d.choice.lost.reached lost.reached)
    where
      moves : Moves f old.interest new.interest
      moves = record {
        each = λ id x at. elim (edits.each id x at) [
          | inl stays ↦ let was = stays.0 in inl (record { was = was.was; there = was.there; number = was.number; instance = ap (λ (i : DescId). i.0) was.instance })
          | inr new ↦ inr (added id x new).0
        ];
        left = λ id x at dated. elim (cases_Bool (gone id.0)) [
          | inl t ↦ absurd (false≢true (ap (λ (k : ℕ). nat_lt 0 k) (sym (drops.goes id x at t)) ∙ dated))
          | inr stays ↦ edits.left id x at stays
        ];
      }

      loses : Loses old.interest new.interest d.dates f
      loses = loses_grown d.dates e.dates grows.dates old.interest new.interest f (loses_moves old.interest new.interest gone e.dates f drops moves edits.more (λ id x at. elim (edits.each id x at) [
        | inl stays ↦ let was = stays.0 in inl (was.was, was.there, was.number, stays.1)
        | inr new ↦ inr (added id x new).1
      ]))

      edited_follow : Follows n (CallOf event_pid (control_call args)) answer [] old d new (record e { dates = f; choice = record e.choice { lost = lost } })
      edited_follow = record {
        loses = loses;
        fits = fits_from old.interest new.interest e (record e { dates = f; choice = record e.choice { lost = lost } }) fits loses.kept
            (record { reached = refl; gone = refl; flags = refl; lost = room; targets = refl; candidates = refl }) roomy (λ id x at. elim (edits.each id x at) [
              | inl stays ↦
                  let was = stays.0 in
                  inl (record { was = was.was; there = was.there; instance = ap (λ (i : DescId). i.0) was.instance; desc = ap (λ (i : DescId). i.0) was.desc; exclusive = was.exclusive })
              | inr new ↦ inr (added id x new).2
            ]);
        told = told;
        altered = λ done. named;
        lost = notes;
      }

  -- the one that is added has a place, and no date
  next_added : (r_sound : IsSound old.interest) (named : Named) (is : number_under old.interest (record { 0 = old.interest.next }) ≡ None) → HasRoomFor e (old.interest.added + 1) named args.mask old.interest.next
      → (id : EntryId) (x : Entry) → IsNext old.interest named args id x → IsAdded e.dates id x × (old.interest.added < x.number) × IsRoomy e id x
  next_added r_sound named is room id x next =
      let y = next_entry old.interest named args in
      let key : EntryId = record { 0 = old.interest.next } in
      let undated : event_at e.dates.since y.number ≡ 0 = same_event d.dates e.dates grows.dates y.number ∙ exact.later y.number (omega arith) in
      let free : (i : ℕ) → is_among (keys_at e.dates.rows i) key.0 ≡ false = λ i. elim (cases_Bool (is_among (keys_at e.dates.rows i) key.0)) [
        | inl t ↦ let found = fits.kept.only i key.0 t in absurd (none-some found.0 (sym (ap (entry_found old.interest.entries) is) ∙ found.1))
        | inr f ↦ f
      ] in
      let P : EntryId → Entry → Type 0 = λ j z. IsAdded e.dates j z × (old.interest.added < z.number) × IsRoomy e j z in
      let here : P key y = (
        record { place = room.dates; undated = ap (λ (k : ℕ). nat_lt 0 k) undated; absent = free },
        omega arith,
        record { reached = room.reached; gone = room.gone; flags = room.flags; lost = room.choice.lost; targets = room.choice.targets; candidates = room.choice.candidates },
      ) in
      subst (λ (z : Entry). P id z) (sym next.1) (subst (λ (j : EntryId). P j y) (sym (id_is id key next.0)) here)

-- What an epoll_ctl that its arguments alone don't refuse leaves.
module _ (n : ℕ) (counted : 0 < n) (pid : Pid) (args : Control) (plan : Plan) (outcome : Outcome) (old new : Parts) (d e : Dating) (exact : IsExact n old d) (grows : Grows d e)
    (sound : Sound old.tables) (was : IsSound old.interest) (is : IsSound new.interest) (plans : IsPlan old pid.0 args plan) (controls : Controls plan args outcome old new)
    (others : plan.operation ≢ Add → new.interest.added ≡ old.interest.added) (without : plan.operation ≡ Add → plan.has_room ≡ false → new ≡ old)
    (deletes : plan.operation ≡ Delete → IsSome plan.found → outcome.answer ≡ Answered)
    (room : plan.operation ≡ Add → plan.found ≡ None → plan.has_room ≡ true → HasRoomFor e (old.interest.added + 1) plan.named args.mask old.interest.next)
    (altered : e.altered ≡ Some (key_of old.interest plan.found)) (lost : Walk) (noted_lost : lost ≡ with_home (deleted_by plan old) e.choice.lost)
  where
    abbrev names : Names old.tables pid.0 args.epfd.0 args.fd.0 plan.named
    names = plans.names

    abbrev found_by : IsFound old.interest plan.named args.fd plan.found
    found_by = plans.found

    -- with these dates, and what was lost
    abbrev Done : Dates → Type 0
    Done f = Follows n (CallOf pid (control_call args)) outcome.answer [] old d new (record e { dates = f; choice = record e.choice { lost = lost } })

    -- there is room for what is lost
    lost_room : lost.room ≡ e.choice.lost.room
    lost_room = (reaches_home (deleted_by plan old) e.choice.lost lost noted_lost).room

    lost_roomy : HaveRoom lost.reached e.reached
    lost_roomy =
        let fits_now = fits_grown old.interest d e grows exact.fits in
        subst (λ (w : Walk). HaveRoom w.reached e.reached) (sym noted_lost) (room_deleted plan.operation plan.found old e.choice.lost e.reached fits_now.reached fits_now.lost)

    -- and it is noted
    notes : NotesLost old new d.choice.lost.reached lost.reached
    notes =
        subst (λ (w : Walk). NotesLost old new d.choice.lost.reached w.reached) (sym noted_lost)
        (subst (λ (ks : List ℕ). NotesLost old new ks (with_home (deleted_by plan old) e.choice.lost).reached) grows.choice.kept
        (notes_controlled outcome.answer plan.operation plan.found plan.named args old new was controls.interest e.choice.lost))

    kept : AreKept old.interest e.dates
    kept = kept_grown d.dates e.dates grows.dates old.interest exact.fits.kept

    -- what it names is noted
    noted : (gone : ℕ → Bool) (Added : EntryId → Entry → Type 0) → Edits old.interest new.interest gone Added → ((id : EntryId) (x : Entry) → Added id x → key_of old.interest plan.found ≡ id)
        → (id : EntryId) (x : Entry) → entry_under new.interest id ≡ Some x → IsNamed old.tables (CallOf pid (control_call args)) x → e.altered ≡ Some id
    noted gone Added edits key id x at named = elim (edits.each id x at) [
      | inl stays ↦
          let w = stays.0 in
          let has = keyed old.tables sound pid.0 args.epfd args.fd plan.named names.instance names.desc names.instance_lives names.desc_lives w.was (ap (desc_number old.tables) w.instance ∙ named.0) (w.fd ∙ named.1) (ap (desc_number old.tables) w.desc ∙ named.2) in
          altered ∙ ap (λ (o : Option EntryId). Some (key_of old.interest o)) (found_is old.interest was plan.named args.fd plan.found found_by id w.was w.there has)
      | inr new ↦ altered ∙ ap (λ (j : EntryId). Some j) (key id x new)
    ]

    edited : (gone : ℕ → Bool) → Edits old.interest new.interest gone (λ id x. ⊥) → (f : Dates) → Drops old.interest gone e.dates f → TellsReports n [] new.interest → Done f
    edited gone edits f drops told =
        edited_follow n pid args outcome.answer old new d e exact grows gone (λ id x. ⊥) edits f drops (λ id x none. absurd none) (noted gone (λ id x. ⊥) edits (λ id x none. absurd none)) told lost lost_room lost_roomy notes

    refused : (operation : Operation) (found : Option EntryId) → (operation ≡ Delete → IsSome found → ⊥) → new.interest ≡ old.interest → Done (without_deleted (deleted_in operation found old.interest) e.dates)
    refused operation found undeleted same =
        let stays : without_deleted (deleted_in operation found old.interest) e.dates ≡ e.dates = none_deleted old.interest e.dates kept operation found undeleted in
        let told = tells_none n new.interest (subst (λ (r : Registrations). All (Past n) r.entries) (sym same) exact.past) in
        edited (λ k. false) (edits_none old.interest new.interest same) (without_deleted (deleted_in operation found old.interest) e.dates)
        (subst (Drops old.interest (λ k. false) e.dates) (sym stays) (drops_nothing old.interest e.dates kept)) told

    it : (key : EntryId) → plan.found ≡ Some key → (x : Entry) × (entry_under old.interest key ≡ Some x) × (x.number ≡ unwrap_or (number_under old.interest key) 0)
    it key found =
        let here = found_as old.interest plan.named args.fd plan.found (Some key) found_by found in
        let m = value_of (number_under old.interest key) here.key in
        let x = some_entry old.interest was key m.0 m.1 in
        (x.0, x.1, x.2 ∙ sym (ap (λ (o : Option ℕ). unwrap_or o 0) m.1))

    done : (operation : Operation) → plan.operation ≡ operation → (found : Option EntryId) → plan.found ≡ found → Changes operation found plan.named args old.interest new.interest
        → Done (without_deleted (deleted_in operation found old.interest) e.dates)
    done Add is_add None none changes = elim (cases_Bool plan.has_room) [
      | inr f ↦ refused Add None (λ del some. false≢true some) (ap (λ (p : Parts). p.interest) (without is_add f))
      | inl t ↦
          let edits = edits_added old.interest new.interest was is plan.named args changes in
          let told = tells_none n new.interest (past_changed n counted Add None plan.named args old.interest new.interest changes exact.past) in
          edited_follow n pid args outcome.answer old new d e exact grows (λ k. false) (IsNext old.interest plan.named args) edits e.dates (drops_nothing old.interest e.dates kept)
          (next_added n pid args outcome.answer old new d e exact grows was plan.named changes.1.was (room is_add none t))
          (noted (λ k. false) (IsNext old.interest plan.named args) edits (λ id x next. ap (key_of old.interest) none ∙ id_is (record { 0 = old.interest.next }) id (sym next.0))) told
          lost lost_room lost_roomy notes
    ]
    done Delete is_del (Some key) found changes =
        let x = it key found in
        let edits = edits_deleted old.interest new.interest was is plan.named args key x.0 x.1 (others (λ add. differ (sym is_del ∙ add))) changes in
        let told = tells_none n new.interest (past_changed n counted Delete (Some key) plan.named args old.interest new.interest changes exact.past) in
        edited (λ k. k == key.0) edits (without_deleted (deleted_in Delete (Some key) old.interest) e.dates) (drops_deleted old.interest e.dates kept was key x.0 x.1) told
      where
        differ : Delete ≡ Add → ⊥
        differ h = cc
    done Modify is_mod (Some key) found changes =
        let x = it key found in
        let plain : has_bit args.mask.0 EXCLUSIVE ≡ false =
        ap (λ (z : ℤ). is_refused_op (is_nested_key old.tables plan.named.desc) z args.mask.0) (ap code_of (sym is_mod) ∙ sym plans.code) ∙ plans.accepted in
        let edits = edits_modified old.interest new.interest was is plan.named args key x.0 x.1 (others (λ add. differ (sym is_mod ∙ add))) plain changes in
        let told = tells_none n new.interest (past_changed n counted Modify (Some key) plan.named args old.interest new.interest changes exact.past) in
        edited (λ k. false) edits e.dates (drops_nothing old.interest e.dates kept) told
      where
        differ : Modify ≡ Add → ⊥
        differ h = cc
    done Add is_add (Some key) found changes = absurd changes
    done Delete is_del None found changes = absurd changes
    done Modify is_mod None found changes = absurd changes

    either : (b : Bool) → is_done outcome.answer ≡ b → MatchBool b (Changes plan.operation plan.found plan.named args old.interest new.interest) (new.interest ≡ old.interest) → Done (without_deleted (deleted_in plan.operation plan.found old.interest) e.dates)
    either true is changes = done plan.operation refl plan.found refl changes
    either false is same = refused plan.operation plan.found (λ del some. false≢true (sym is ∙ ap is_done (deletes del some))) same

    pub control_follow : Follows n (CallOf pid (control_call args)) outcome.answer outcome.picked old d new
        (record e { dates = without_deleted (deleted_in plan.operation plan.found old.interest) e.dates; choice = record e.choice { lost = lost } })
    control_follow =
        subst
        (λ (ks : List ℕ). Follows n (CallOf pid (control_call args)) outcome.answer ks old d new
        (record e { dates = without_deleted (deleted_in plan.operation plan.found old.interest) e.dates; choice = record e.choice { lost = lost } }))
        (sym controls.picked)
        (either (is_done outcome.answer) refl controls.interest)

-- whatever was noted as altered before
pub grows_altered : (d e : Dating) (a : Option EntryId) → Grows (record d { altered = a }) e → Grows d e
grows_altered d e a g = record { dates = g.dates; reached = g.reached; gone = g.gone; flags = g.flags; flagged = g.flagged; choice = g.choice }

-- an ADD loses nothing
adds : (operation : Operation) → (operation ≢ Add → ⊥) → operation ≡ Add
adds Add h = refl
adds Delete h = absurd (h (λ e. let differ : Delete ≡ Add = e in cc))
adds Modify h = absurd (h (λ e. let differ : Modify ≡ Add = e in cc))

pub grows_adding : (plan : Plan) (p : Parts) (d e : Dating) (lost : Walk) → (plan.operation ≢ Add → ⊥) → Grows d e → lost ≡ with_home (deleted_by plan p) e.choice.lost → Grows d (record e { choice = record e.choice { lost = lost } })
grows_adding plan p d e lost add g noted =
    let none : lost ≡ e.choice.lost = noted ∙ ap (λ (o : Operation). with_home (deleted_home o plan.found p) e.choice.lost) (adds plan.operation add) in
    subst (λ (w : Walk). Grows d (record e { choice = record e.choice { lost = w } })) (sym none) g
