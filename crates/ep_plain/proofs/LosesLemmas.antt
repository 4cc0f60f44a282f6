-- Registrations change, and those that go lose their dates.
use Rattle.std.proofs.Common.{◌≡◌, ◌<◌, ◌≤◌, ◌∙◌, ◌⊎◌, ℕ, Bool, true, false, None, Option, Some, ap, arith, inl, inr, map, refl, subst, sym}
use Rattle.std.specs.Option.{option_map}
use Rattle.std.proofs.lemmas.Bool.{false≢true}
use Rattle.ep_facts.proofs.OptionFacts.{some_same}
use Rattle.ep_facts.proofs.AmongFacts.{map_same}
use Rattle.ep_base.specs.declared.ids.EntryId.{EntryId}
use Rattle.ep_calls.proofs.MappedLemmas.{under_mapped}
use Rattle.ep_dates.proofs.DropLemmas.{drops_none}
use Rattle.ep_dates.proofs.MovesLemmas.{kept_moves}
use Rattle.ep_dates.specs.Dates.{Dates, event_at, is_dated}
use Rattle.ep_dates.specs.Drop.{Drops}
use Rattle.ep_dates.specs.Kept.{AreKept}
use Rattle.ep_dates.specs.Moves.{Moves, WasThere}
use Rattle.ep_dates.specs.Order.{AreInTurn, Rise, date_found, date_under}
use Rattle.ep_interest.specs.Registrations.{Registrations, entry_under}
use Rattle.ep_interest.specs.declared.entry.Entry.{Entry}
use Rattle.ep_machine.specs.Lists.{is_among}
use Rattle.ep_plain.specs.Loses.{Loses}
use Rattle.ep_rings.specs.KeyWalk.{entry_id as key_of}
use Rattle.ep_rings.specs.PlacedRows.{keys_at}

-- Along a row dates don't sink as registrations change.
module _ (old new : Registrations) (e : Dates) (kept : AreKept old e) (moves : Moves e old new) where
  -- what stands in a row keeps its date
  same_date : (i k : ℕ) → is_among (keys_at e.rows i) k ≡ true → date_under old e k ≡ date_under new e k
  same_date i k t =
      let found = kept.only i k t in
      let dated : is_dated e found.0 ≡ true = sym (kept.listed (key_of k) found.0 found.1) ∙ (ap (λ (j : ℕ). is_among (keys_at e.rows j) k) found.2 ∙ t) in
      let left = moves.left (key_of k) found.0 found.1 dated in
      elim (moves.each (key_of k) left.0 left.1) [
        | inl was ↦ ap (date_found e) was.there ∙ (ap (event_at e.since) was.number ∙ sym (ap (date_found e) left.1))
        | inr added ↦ absurd (false≢true (sym (added.absent i) ∙ t))
      ]

  pub order_moves : (n : ℕ) → AreInTurn n old e → AreInTurn n new e
  order_moves n order = record {
    rise = λ i. subst Rise (map_same (date_under old e) (date_under new e) (keys_at e.rows i) (same_date i)) (order.rise i);
    past = λ i k t. subst (λ (m : ℕ). m ≤ n) (same_date i k t) (order.past i k t);
  }

-- What goes loses its date, and then registrations go, or are added.
pub loses_moves : (old new : Registrations) (gone : ℕ → Bool) (d e : Dates) → Drops old gone d e → Moves e old new → old.added ≤ new.added
    → ((id : EntryId) (x : Entry) → entry_under new id ≡ Some x → ((w : Entry) × (entry_under old id ≡ Some w) × (w.number ≡ x.number) × (gone id.0 ≡ false)) ⊎ (old.added < x.number))
    → Loses old new d e
loses_moves old new gone d e drops moves more from = record {
  kept = kept_moves e old new drops.kept moves;
  stays = λ id x at. elim (from id x at) [
    | inl was ↦ subst (λ (k : ℕ). event_at e.since k ≡ event_at d.since k) was.2 (drops.stays id was.0 was.1 was.3)
    | inr above ↦ drops.later x.number above
  ];
  later = λ k lt. drops.later k (omega (arith, more, lt));
  noted = drops.noted;
  still = drops.still;
  order = λ n order. order_moves old new e drops.kept moves n (drops.order n order);
}

-- One change after another, of which the second adds none.
pub loses_both : (r s t : Registrations) (d e f : Dates) → ((id : EntryId) (x : Entry) → entry_under t id ≡ Some x → (w : Entry) × (entry_under s id ≡ Some w) × (w.number ≡ x.number)) → s.added ≤ t.added
    → Loses r s d e → Loses s t e f → Loses r t d f
loses_both r s t d e f from more first second = record {
  kept = second.kept;
  stays = λ id x at.
      let was = from id x at in
      second.stays id x at ∙ subst (λ (k : ℕ). event_at e.since k ≡ event_at d.since k) was.2 (first.stays id was.0 was.1);
  later = λ k lt. second.later k lt ∙ first.later k (omega (arith, more, lt));
  noted = λ i h. elim (first.noted i h) [ inl up ↦ second.noted i up | inr there ↦ inr (second.still i there) ];
  still = λ i h. second.still i (first.still i h);
  order = λ n order. second.order n (first.order n order);
}

-- Each registration stays under its key, with its number and its instance.
pub record Stay (old new : Registrations) : Type 0 where
  pub each : (id : EntryId) (x : Entry) → entry_under new id ≡ Some x → WasThere old id x
  pub left : (id : EntryId) (x : Entry) → entry_under old id ≡ Some x → (y : Entry) × (entry_under new id ≡ Some y) × (y.instance.0 ≡ x.instance.0)
  pub added : new.added ≡ old.added

module _ (old new : Registrations) (stay : Stay old new) where
  pub stay_number : (id : EntryId) (x : Entry) → entry_under new id ≡ Some x → (w : Entry) × (entry_under old id ≡ Some w) × (w.number ≡ x.number)
  stay_number id x at = let was = stay.each id x at in (was.was, was.there, was.number)

  -- no date changes
  pub loses_none : (d : Dates) → AreKept old d → Loses old new d d
  loses_none d kept =
      loses_moves old new (λ k. false) d d (drops_none old (λ k. false) d kept (λ id x at h. absurd (false≢true h))) (record { each = λ id x at. inl (stay.each id x at); left = λ id x at dated. stay.left id x at }) (let e = stay.added in omega (arith, e))
      (λ id x at. let was = stay.each id x at in inl (was.was, was.there, was.number, refl))

-- so do they where each is changed, and keeps these
pub stay_mapped : (f : Entry → Entry) → ((x : Entry) → (f x).number ≡ x.number) → ((x : Entry) → (f x).instance.0 ≡ x.instance.0) → (old new : Registrations) → new.entries ≡ map f old.entries → new.keys ≡ old.keys → new.added ≡ old.added → Stay old new
stay_mapped f number instance old new entries keys added = record {
  each = λ id x at. was_there id x (entry_under old id) refl (sym (under id) ∙ at);
  left = λ id x at. (f x, under id ∙ ap (option_map f) at, instance x);
  added = added;
} where
  under : (id : EntryId) → entry_under new id ≡ option_map f (entry_under old id)
  under = under_mapped f number old new entries keys

  was_there : (id : EntryId) (x : Entry) (o : Option Entry) → entry_under old id ≡ o → option_map f o ≡ Some x → WasThere old id x
  was_there id x None is h = absurd (let e : None ≡ Some x = h in cc)
  was_there id x (Some w) is h =
      let same = some_same (f w) x h in record { was = w; there = is; number = sym (number w) ∙ ap (λ (y : Entry). y.number) same; instance = sym (instance w) ∙ ap (λ (y : Entry). y.instance.0) same }
