-- Dates go on to be those of the registrations as registrations change.
use Rattle.std.proofs.Common.{◌≡◌, ◌<◌, ◌∙◌, ℕ, true, length, ap, inl, inr, nat_lt, subst, sym}
use Rattle.std.proofs.lemmas.Bool.{false≢true}
use Rattle.ep_climb.specs.Reach.{AreRoomy}
use Rattle.ep_dates.specs.Dates.{Dates, event_at, id_at, is_dated}
use Rattle.ep_dates.specs.Kept.{AreKept}
use Rattle.ep_dates.specs.Moves.{Moves}
use Rattle.ep_interest.specs.Registrations.{Registrations}
use Rattle.ep_machine.specs.Lists.{is_among}
use Rattle.ep_walk.specs.Walk.{Walk}
use Rattle.ep_rings.specs.KeyWalk.{entry_id as key_of}
use Rattle.ep_rings.specs.PlacedRows.{keys_at}

pub kept_moves : (d : Dates) (old new : Registrations) → AreKept old d → Moves d old new → AreKept new d
kept_moves d old new kept moves = record {
  places = λ id x at. elim (moves.each id x at) [
    | inr added ↦ added.place
    | inl was ↦
        let p = kept.places id was.was was.there in record {
          since = subst (λ (n : ℕ). n < length d.since) was.number p.since;
          ids = subst (λ (n : ℕ). n < length d.ids) was.number p.ids;
          row = subst (λ (n : ℕ). n < length d.rows.rows) was.instance p.row;
          key = p.key;
          turn = subst (λ (n : ℕ). n < d.turned.room) was.instance p.turn;
        }
  ];
  listed = λ id x at. elim (moves.each id x at) [
    | inr added ↦ added.absent x.instance.0 ∙ sym added.undated
    | inl was ↦
        ap (λ (i : ℕ). is_among (keys_at d.rows i) id.0) (sym was.instance) ∙ (kept.listed id was.was was.there ∙ ap (λ (k : ℕ). nat_lt 0 (event_at d.since k)) was.number)
  ];
  only = λ i k t.
      let found = kept.only i k t in
      let dated : is_dated d found.0 ≡ true = sym (kept.listed (key_of k) found.0 found.1) ∙ (ap (λ (j : ℕ). is_among (keys_at d.rows j) k) found.2 ∙ t) in
      let left = moves.left (key_of k) found.0 found.1 dated in
      (left.0, left.1, left.2 ∙ found.2);
  ids = λ id x at up. elim (moves.each id x at) [
    | inr added ↦ absurd (false≢true (sym added.undated ∙ up))
    | inl was ↦ ap (id_at d.ids) (sym was.number) ∙ kept.ids id was.was was.there (ap (λ (k : ℕ). nat_lt 0 (event_at d.since k)) was.number ∙ up)
  ];
}

-- another walk notes what turns
pub kept_handed : (r : Registrations) (d : Dates) (w : Walk) → AreKept r d → AreRoomy r w → AreKept r (record d { turned = w })
kept_handed r d w kept roomy = record {
  places = λ id x at. let p = kept.places id x at in record { since = p.since; ids = p.ids; row = p.row; key = p.key; turn = roomy id x at };
  listed = kept.listed;
  only = kept.only;
  ids = kept.ids;
}

pub kept_roomy : (r : Registrations) (d : Dates) → AreKept r d → AreRoomy r d.turned
kept_roomy r d kept id x at = (kept.places id x at).turn
