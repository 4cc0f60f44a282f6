-- A registration that is dated, or is so no more, leaves the dates those of the registrations.
use Rattle.std.proofs.Common.{◌≡◌, ◌≢◌, ◌<◌, ◌==◌, ◌∙◌, ℕ, Bool, true, false, cond, length, List, [], ◌∷◌, ◌++◌, Some, ap, filter, inl, inr, nat_lt, not, refl, set, subst, sym}
use Rattle.std.proofs.lemmas.Bool.{cases_eq, false≢true}
use Rattle.std.proofs.lemmas.List.{get_or-set_other, get_or-set_same, length-set}
use Rattle.ep_facts.proofs.AmongFacts.{among_last, among_push_other}
use Rattle.ep_facts.proofs.OptionFacts.{some_same}
use Rattle.ep_base.specs.declared.ids.EntryId.{EntryId}
use Rattle.ep_dates.proofs.RowLemmas.{row_here, row_home, row_other}
use Rattle.ep_dates.specs.Dates.{Dates, HasPlace, begun, ended, event_at, id_at, is_ready, noted, renewed}
use Rattle.ep_dates.specs.Kept.{AreKept}
use Rattle.ep_interest.specs.Registrations.{Registrations, entry_under}
use Rattle.ep_interest.specs.declared.entry.Entry.{Entry}
use Rattle.ep_machine.specs.Lists.{is_among}
use Rattle.ep_walk.specs.Walk.{Walk, with_reached}
use Rattle.ep_rings.proofs.AmongLemmas.{among_gone, among_left}
use Rattle.ep_rings.specs.KeyWalk.{entry_id as key_of}
use Rattle.ep_rings.specs.PlacedRows.{PlacedRows, keys_at, without_key}

-- two registrations with one number are one
abbrev pub AreOne : Registrations → Type 0
AreOne r = (a b : EntryId) (x y : Entry) → entry_under r a ≡ Some x → entry_under r b ≡ Some y → x.number ≡ y.number → (a ≡ b) × (x ≡ y)

-- the registration under a key has this event, and its key stands in its instance's row exactly if that isn't 0
pub record Changes (d : Dates) (id : EntryId) (x : Entry) (event : ℕ) (new : Dates) : Type 0 where
  pub since : new.since ≡ set d.since x.number event
  pub ids_long : length new.ids ≡ length d.ids
  pub id_here : nat_lt 0 event ≡ true → id_at new.ids x.number ≡ id
  pub id_else : (k : ℕ) → k ≢ x.number → id_at new.ids k ≡ id_at d.ids k
  pub rows : length new.rows.rows ≡ length d.rows.rows
  pub keys : new.rows.keys ≡ d.rows.keys
  pub room : new.turned.room ≡ d.turned.room
  pub here : is_among (keys_at new.rows x.instance.0) id.0 ≡ nat_lt 0 event
  pub other : (i j : ℕ) → j ≢ id.0 → is_among (keys_at new.rows i) j ≡ is_among (keys_at d.rows i) j
  pub home : (i : ℕ) → is_among (keys_at new.rows i) id.0 ≡ true → i ≡ x.instance.0

id_is : (a b : EntryId) → a.0 ≡ b.0 → a ≡ b
id_is a b e = λ i. record { 0 = e i }

module _ (r : Registrations) (one : AreOne r) (d : Dates) (kept : AreKept r d) (id : EntryId) (x : Entry) (is : entry_under r id ≡ Some x) (event : ℕ) (new : Dates) (c : Changes d id x event new) where
  place : HasPlace d id x
  place = kept.places id x is

  pub event_here : event_at new.since x.number ≡ event
  event_here = ap (λ (s : List ℕ). event_at s x.number) c.since ∙ get_or-set_same d.since x.number event 0 place.since

  pub event_else : (k : ℕ) → k ≢ x.number → event_at new.since k ≡ event_at d.since k
  event_else k apart = ap (λ (s : List ℕ). event_at s k) c.since ∙ get_or-set_other d.since x.number k event 0 apart

  pub same_one : (j : EntryId) (y : Entry) → entry_under r j ≡ Some y → j.0 ≡ id.0 → y ≡ x
  same_one j y at e = some_same y x (sym at ∙ (ap (entry_under r) (id_is j id e) ∙ is))

  pub apart_one : (j : EntryId) (y : Entry) → entry_under r j ≡ Some y → j.0 ≢ id.0 → y.number ≢ x.number
  apart_one j y at ne e = ne (ap (λ (i : EntryId). i.0) (one j id y x at is e).0)

  pub kept_changed : AreKept r new
  kept_changed = record {
    places = λ j y at. let p = kept.places j y at in record {
      since = subst (λ (n : ℕ). y.number < n) (sym (ap (λ (s : List ℕ). length s) c.since ∙ length-set d.since x.number event)) p.since;
      ids = subst (λ (n : ℕ). y.number < n) (sym c.ids_long) p.ids;
      row = subst (λ (n : ℕ). y.instance.0 < n) (sym c.rows) p.row;
      key = subst (λ (n : ℕ). j.0 < n) (sym c.keys) p.key;
      turn = subst (λ (n : ℕ). y.instance.0 < n) (sym c.room) p.turn;
    };
    listed = λ j y at. elim (cases_eq j.0 id.0) [
      | inl e ↦
          let y_is = same_one j y at e in
          (λ i. is_among (keys_at new.rows (y_is i).instance.0) (e i)) ∙ (c.here ∙ ap (λ (n : ℕ). nat_lt 0 n) (sym (ap (λ (z : Entry). event_at new.since z.number) y_is ∙ event_here)))
      | inr ne ↦ c.other y.instance.0 j.0 ne ∙ (kept.listed j y at ∙ ap (λ (n : ℕ). nat_lt 0 n) (sym (event_else y.number (apart_one j y at ne))))
    ];
    only = λ i k t. elim (cases_eq k id.0) [
      | inl e ↦ (x, ap (entry_under r) (id_is (key_of k) id e) ∙ is, sym (c.home i (ap (is_among (keys_at new.rows i)) (sym e) ∙ t)))
      | inr ne ↦ kept.only i k (sym (c.other i k ne) ∙ t)
    ];
    ids = λ j y at up. elim (cases_eq j.0 id.0) [
      | inl e ↦
          let y_is = same_one j y at e in
          ap (λ (z : Entry). id_at new.ids z.number) y_is ∙ (c.id_here (ap (λ (n : ℕ). nat_lt 0 n) (sym (ap (λ (z : Entry). event_at new.since z.number) y_is ∙ event_here)) ∙ up) ∙ sym (id_is j id e))
      | inr ne ↦
          let apart = apart_one j y at ne in
          c.id_else y.number apart ∙ kept.ids j y at (ap (λ (n : ℕ). nat_lt 0 n) (sym (event_else y.number apart)) ∙ up)
    ];
  }

noted_room : (b c : Bool) (i : ℕ) (w : Walk) → (noted b c i w).room ≡ w.room
noted_room true true i w = refl
noted_room true false i w = reached_room i w where
  reached_room : (i : ℕ) (w : Walk) → (with_reached w i).room ≡ w.room
  reached_room i w = elim (is_among w.reached i) as (λ b. (cond b w (record w { reached = w.reached ++ i ∷ [] })).room ≡ w.room) [ true ↦ refl | false ↦ refl ]
noted_room false true i w = elim (is_among w.reached i) as (λ b. (cond b w (record w { reached = w.reached ++ i ∷ [] })).room ≡ w.room) [ true ↦ refl | false ↦ refl ]
noted_room false false i w = refl

module _ (r : Registrations) (d : Dates) (kept : AreKept r d) (id : EntryId) (x : Entry) (is : entry_under r id ≡ Some x) where
  spot : HasPlace d id x
  spot = kept.places id x is

  abbrev i : ℕ
  i = x.instance.0

  pub only_home : (j : ℕ) → is_among (keys_at d.rows j) id.0 ≡ true → j ≡ i
  only_home j t =
      let found = kept.only j id.0 t in
      sym found.2 ∙ ap (λ (y : Entry). y.instance.0) (some_same found.0 x (sym found.1 ∙ (ap (entry_under r) (id_is (key_of id.0) id refl) ∙ is)))

  pub begun_changes : (n : ℕ) → nat_lt 0 n ≡ true → Changes d id x n (begun n id x d)
  begun_changes n up = record {
    since = refl;
    ids_long = length-set d.ids x.number id;
    id_here = λ h. get_or-set_same d.ids x.number id _ spot.ids;
    id_else = λ k apart. get_or-set_other d.ids x.number k id _ apart;
    rows = length-set d.rows.rows i (keys_at d.rows i ++ id.0 ∷ []);
    keys = refl;
    room = noted_room (is_ready d i) _ i d.turned;
    here = ap (λ (l : List ℕ). is_among l id.0) (row_here d.rows i (keys_at d.rows i ++ id.0 ∷ []) spot.row) ∙ (among_last (keys_at d.rows i) id.0 ∙ sym up);
    other = row_other d.rows i id.0 (keys_at d.rows i ++ id.0 ∷ []) spot.row (λ m apart. among_push_other (keys_at d.rows i) id.0 m apart);
    home = row_home d.rows i id.0 (keys_at d.rows i ++ id.0 ∷ []) only_home;
  }

  abbrev less : List ℕ
  less = filter (λ y. not (y == id.0)) (keys_at d.rows i)

  pub ended_changes : Changes d id x 0 (ended id x d)
  ended_changes = record {
    since = refl;
    ids_long = refl;
    id_here = λ h. absurd (false≢true h);
    id_else = λ k apart. refl;
    rows = length-set d.rows.rows i less;
    keys = refl;
    room = noted_room (is_ready d i) _ i d.turned;
    here = ap (λ (l : List ℕ). is_among l id.0) (row_here d.rows i less spot.row) ∙ among_gone (keys_at d.rows i) id.0;
    other = row_other d.rows i id.0 less spot.row (λ m apart. among_left (keys_at d.rows i) id.0 m apart);
    home = row_home d.rows i id.0 less only_home;
  }

-- It has the last turn.
module _ (r : Registrations) (d : Dates) (kept : AreKept r d) (id : EntryId) (x : Entry) (is : entry_under r id ≡ Some x) where
  abbrev at : ℕ
  at = x.instance.0

  abbrev others : List ℕ
  others = filter (λ y. not (y == id.0)) (keys_at d.rows at)

  abbrev middle : PlacedRows
  middle = without_key d.rows at id.0

  there : at < length middle.rows
  there = subst (λ (n : ℕ). at < n) (sym (length-set d.rows.rows at others)) (kept.places id x is).row

  pub turned_row : keys_at middle at ≡ others
  turned_row = row_here d.rows at others (kept.places id x is).row

  only_there : (j : ℕ) → is_among (keys_at middle j) id.0 ≡ true → j ≡ at
  only_there = row_home d.rows at id.0 others (only_home r d kept id x is)

  pub last_row : keys_at (renewed 0 id x d).rows at ≡ keys_at middle at ++ id.0 ∷ []
  last_row = row_here middle at (keys_at middle at ++ id.0 ∷ []) there

  pub renewed_changes : (n : ℕ) → nat_lt 0 n ≡ true → id_at d.ids x.number ≡ id → Changes d id x n (renewed n id x d)
  renewed_changes n up key = record {
    since = refl;
    ids_long = refl;
    id_here = λ h. key;
    id_else = λ k apart. refl;
    rows = length-set middle.rows at (keys_at middle at ++ id.0 ∷ []) ∙ length-set d.rows.rows at others;
    keys = refl;
    room = refl;
    here = ap (λ (l : List ℕ). is_among l id.0) last_row ∙ (among_last (keys_at middle at) id.0 ∙ sym up);
    other = λ j m apart.
        row_other middle at id.0 (keys_at middle at ++ id.0 ∷ []) there (λ k ne. among_push_other (keys_at middle at) id.0 k ne) j m apart
        ∙ row_other d.rows at id.0 others (kept.places id x is).row (λ k ne. among_left (keys_at d.rows at) id.0 k ne) j m apart;
    home = row_home middle at id.0 (keys_at middle at ++ id.0 ∷ []) only_there;
  }
