-- Room that grows leaves what holds of the dates.
use Rattle.std.proofs.Common.{◌≡◌, ◌≤◌, ◌∙◌, ℕ, List, None, Option, Some, ap, arith, is_some, map, nat_lt, refl, subst, sym}
use Rattle.ep_choice.proofs.SuitsLemmas.{room_for, suits_widened}
use Rattle.ep_dates.specs.Dates.{Dates, Widens, event_at, is_ready}
use Rattle.ep_dates.specs.Kept.{AreKept}
use Rattle.ep_dates.specs.Order.{AreInTurn, Rise, date_found, date_under}
use Rattle.ep_interest.specs.Registrations.{Registrations, entry_under}
use Rattle.ep_interest.specs.declared.entry.Entry.{Entry}
use Rattle.ep_machine.specs.Lists.{is_among}
use Rattle.ep_plain.specs.Dating.{Fits, Grows}
use Rattle.ep_plain.specs.Loses.{Loses}
use Rattle.ep_plain.specs.declared.dating.Dating.{Dating}
use Rattle.ep_rings.specs.KeyWalk.{entry_id as key_of}
use Rattle.ep_rings.specs.PlacedRows.{first_in}

module _ (d e : Dates) (w : Widens d e) where
  pub same_event : (k : ℕ) → event_at e.since k ≡ event_at d.since k
  same_event k = w.since k

  same_ready : (i : ℕ) → is_ready e i ≡ is_ready d i
  same_ready i = ap (λ (ks : List ℕ). is_some (first_in ks)) (w.rows.rows i)

  same_date : (o : Option Entry) → date_found e o ≡ date_found d o
  same_date None = refl
  same_date (Some x) = same_event x.number

  module _ (r : Registrations) where
    same_dates : date_under r e ≡ date_under r d
    same_dates = λ i k. same_date (entry_under r (key_of k)) i

    pub kept_grown : AreKept r d → AreKept r e
    kept_grown kept = record {
      places = λ id x at. let p = kept.places id x at in record {
        since = let lt = p.since in let le = w.since_more in omega (arith, lt, le);
        ids = let lt = p.ids in let le = w.ids_more in omega (arith, lt, le);
        row = let lt = p.row in let le = w.rows.owners in omega (arith, lt, le);
        key = let lt = p.key in let le = w.rows.keys in omega (arith, lt, le);
        turn = let lt = p.turn in let le = w.room in omega (arith, lt, le);
      };
      listed = λ id x at. ap (λ (ks : List ℕ). is_among ks id.0) (w.rows.rows x.instance.0) ∙ (kept.listed id x at ∙ ap (λ (k : ℕ). nat_lt 0 k) (sym (same_event x.number)));
      only = λ i k t. kept.only i k (ap (λ (ks : List ℕ). is_among ks k) (sym (w.rows.rows i)) ∙ t);
      ids = λ id x at up. w.ids x.number ∙ kept.ids id x at (ap (λ (k : ℕ). nat_lt 0 k) (sym (same_event x.number)) ∙ up);
    }

    pub order_widened : (n : ℕ) → AreInTurn n r d → AreInTurn n r e
    order_widened n order = record {
      rise = λ i. subst Rise (sym (λ j. map (same_dates j) (w.rows.rows i j))) (order.rise i);
      past = λ i k t. subst (λ (m : ℕ). m ≤ n) (sym (same_date (entry_under r (key_of k)))) (order.past i k (ap (λ (ks : List ℕ). is_among ks k) (sym (w.rows.rows i)) ∙ t));
    }

  -- what goes once there is more room, goes from the dates of before
  pub loses_grown : (old new : Registrations) (f : Dates) → Loses old new e f → Loses old new d f
  loses_grown old new f l = record {
    kept = l.kept;
    stays = λ id x at. l.stays id x at ∙ same_event x.number;
    later = λ k lt. l.later k lt ∙ same_event k;
    noted = λ i h. l.noted i (same_ready i ∙ h);
    still = λ i h. l.still i (ap (λ (ks : List ℕ). is_among ks i) w.reached ∙ h);
    order = λ n order. l.order n (order_widened old n order);
  }

-- all fits that fitted before
pub fits_grown : (r : Registrations) (d e : Dating) → Grows d e → Fits r d → Fits r e
fits_grown r d e g fits = record {
  kept = kept_grown d.dates e.dates g.dates r fits.kept;
  reached = λ id x at. let lt = fits.reached id x at in let le = g.reached in omega (arith, lt, le);
  gone = λ id x at. let lt = fits.gone id x at in let le = g.gone in omega (arith, lt, le);
  flags = λ id x at. let lt = fits.flags id x at in let le = g.flags in omega (arith, lt, le);
  unflagged = g.flagged ∙ fits.unflagged;
  choice = suits_widened r d.choice e.choice g.choice fits.choice;
  lost = room_for d.choice.lost.reached e.choice.lost.reached d.reached e.reached g.choice.kept g.reached fits.lost;
}

-- dates are in turn as before
pub turn_grown : (n : ℕ) (r : Registrations) (d e : Dating) → Grows d e → AreInTurn n r d.dates → AreInTurn n r e.dates
turn_grown n r d e g order = order_widened d.dates e.dates g.dates r n order

-- no more room at all, whatever is altered
pub grows_none : (d e : Dating) → e ≡ record d { altered = e.altered } → Grows d e
grows_none d e is = subst (Grows d) (sym is) (record {
  dates = record {
    since = λ k. refl;
    since_more = omega arith;
    ids = λ k. refl;
    ids_more = omega arith;
    rows = record { rows = λ i. refl; owners = omega arith; keys = omega arith };
    reached = refl;
    room = omega arith;
  };
  reached = omega arith;
  gone = omega arith;
  flags = omega arith;
  flagged = refl;
  choice = record { candidates = omega arith; targets = omega arith; lost = omega arith; kept = refl };
})
