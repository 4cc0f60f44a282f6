-- The registrations that an event leaves keep their places, and the walks have room for them.
use Rattle.std.proofs.Common.{◌≡◌, ◌<◌, ◌≤◌, ◌∙◌, ◌∷◌, ℕ, true, false, List, [], None, Option, Some, ap, arith, cond, map, refl, slice_index_or, subst, sym}
use Rattle.ep_base.specs.declared.ids.DescId.{DescId}
use Rattle.ep_base.specs.declared.ids.EntryId.{EntryId}
use Rattle.ep_base.specs.declared.mask.Mask.{Mask}
use Rattle.ep_calls.proofs.OtherEndLemmas.{noted}
use Rattle.ep_calls.specs.Climb.{Rises, risen}
use Rattle.ep_calls.specs.Raising.{Stirs, bits_of, due_bits, raised_each, raised_there, raised_where}
use Rattle.ep_calls.specs.Stands.{watch_at}
use Rattle.ep_calls.specs.declared.raising.Raising.{Raising}
use Rattle.ep_calls.specs.declared.raising.Raising.TheVariants.{Clock, Instance, Losses, Nowhere, Object}
use Rattle.ep_choice.specs.Room.{HaveRoom, Suits}
use Rattle.ep_climb.specs.Reach.{AreRoomy}
use Rattle.ep_dates.proofs.MovesLemmas.{kept_handed, kept_roomy}
use Rattle.ep_dates.specs.Dates.{Dates}
use Rattle.ep_dates.specs.Kept.{AreKept}
use Rattle.ep_dates.specs.Moves.{WasThere}
use Rattle.ep_interest.specs.Registrations.{Registrations, entry_found, entry_under, is_on, raised_on, settled}
use Rattle.ep_interest.specs.declared.entry.Entry.{Entry}
use Rattle.ep_machine.specs.Bits.{IN, at_end}
use Rattle.ep_machine.specs.Files.{side_of}
use Rattle.ep_plain.proofs.LosesLemmas.{Stay, loses_both, loses_none, stay_mapped, stay_number}
use Rattle.ep_plain.specs.Dating.{Fits}
use Rattle.ep_plain.specs.Loses.{Loses}
use Rattle.ep_plain.specs.declared.dating.Dating.{Dating}
use Rattle.ep_walk.specs.Walk.{Walk}
use Rattle.ep_table.specs.Closing.{opposite}
use Rattle.ep_table.specs.Live.{live_ids}
use Rattle.ep_table.specs.Value.{Seen, number_of}
use Rattle.ep_table.specs.declared.words.Loss.{Loss}
use Rattle.ep_view.specs.KernelView.{reached_now}

-- what is the same stays
stay_same : (old new : Registrations) → new.entries ≡ old.entries → new.keys ≡ old.keys → new.added ≡ old.added → Stay old new
stay_same old new entries keys added = record {
  each = λ id x at. record { was = x; there = sym (under id) ∙ at; number = refl; instance = refl };
  left = λ id x at. (x, under id ∙ at, refl);
  added = added;
} where
  under : (id : EntryId) → entry_under new id ≡ entry_under old id
  under id = λ i. entry_found (entries i) (slice_index_or (keys i) id.0 None)

-- and what stays twice
stay_both : (r s t : Registrations) → Stay r s → Stay s t → Stay r t
stay_both r s t a b = record {
  each = λ id x at.
      let mid = b.each id x at in
      let was = a.each id mid.was mid.there in
      record { was = was.was; there = was.there; number = was.number ∙ mid.number; instance = was.instance ∙ mid.instance };
  left = λ id x at. let mid = a.left id x at in let last = b.left id mid.0 mid.1 in (last.0, last.1, last.2 ∙ mid.2);
  added = b.added ∙ a.added;
}

-- What is raised in an event.
raised_number : (d : DescId) (bits : Mask) (n : ℕ) (x : Entry) → (raised_on d bits n x).number ≡ x.number
raised_number d bits n x = elim (is_on d x) as (λ b. (cond b (noted n bits.0 x) x).number ≡ x.number) [ true ↦ refl | false ↦ refl ]

raised_instance : (d : DescId) (bits : Mask) (n : ℕ) (x : Entry) → (raised_on d bits n x).instance.0 ≡ x.instance.0
raised_instance d bits n x = elim (is_on d x) as (λ b. (cond b (noted n bits.0 x) x).instance.0 ≡ x.instance.0) [ true ↦ refl | false ↦ refl ]

stay_raised : (d : DescId) (bits : Mask) (n : ℕ) (old new : Registrations) → new.entries ≡ map (raised_on d bits n) old.entries → new.keys ≡ old.keys → new.added ≡ old.added → Stay old new
stay_raised d bits n old new entries keys added = stay_mapped (raised_on d bits n) (raised_number d bits n) (raised_instance d bits n) old new entries keys added

stay_there : (o : Option DescId) (bits : Mask) (n : ℕ) (old new : Registrations) → new.entries ≡ map (raised_there o bits n) old.entries → new.keys ≡ old.keys → new.added ≡ old.added → Stay old new
stay_there None bits n old new entries keys added = stay_mapped (λ x. x) (λ x. refl) (λ x. refl) old new entries keys added
stay_there (Some d) bits n old new entries keys added = stay_raised d bits n old new entries keys added

abbrev raised_once : DescId → Mask → ℕ → Registrations → Registrations
raised_once d bits n r = record r { entries = map (raised_on d bits n) r.entries }

stay_each : (bits : DescId → Mask) (n : ℕ) (ids : List DescId) (old new : Registrations) → new.entries ≡ raised_each bits n ids old.entries → new.keys ≡ old.keys → new.added ≡ old.added → Stay old new
stay_each bits n [] old new entries keys added = stay_same old new entries keys added
stay_each bits n (id ∷ ids) old new entries keys added =
    let mid = raised_once id (bits id) n old in
    stay_both old mid new (stay_raised id (bits id) n old mid refl refl refl) (stay_each bits n ids mid new entries keys added)

stay_where : (n : ℕ) (ls : List Loss) (old new : Registrations) → new.entries ≡ raised_where n ls old.entries → new.keys ≡ old.keys → new.added ≡ old.added → Stay old new
stay_where n [] old new entries keys added = stay_same old new entries keys added
stay_where n (l ∷ ls) old new entries keys added =
    let mid = raised_once l.desc l.raised n old in
    stay_both old mid new (stay_raised l.desc l.raised n old mid refl refl refl) (stay_where n ls mid new entries keys added)

pub stay_stirred : (raising : Raising) (v : Seen) (now n : ℕ) (old new : Registrations) → Stirs raising v now n old new → Stay old new
stay_stirred Nowhere v now n old new h = stay_same old new (ap (λ (r : Registrations). r.entries) h) (ap (λ (r : Registrations). r.keys) h) (ap (λ (r : Registrations). r.added) h)
stay_stirred (Object desc raised) v now n old new h =
    let here = bits_of (at_end raised (side_of v.files (number_of v desc))) in
    let across = bits_of (at_end raised (opposite (side_of v.files (number_of v desc)))) in
    let mid = raised_once desc here n old in
    stay_both old mid new (stay_raised desc here n old mid refl refl refl) (stay_there h.other across n mid new h.entries h.keys h.added)
stay_stirred (Instance desc) v now n old new h = stay_raised desc (bits_of IN) n old new h.0 h.2 h.1
stay_stirred Losses v now n old new h = stay_where n v.losses old new h.0 h.2 h.1
stay_stirred (Clock since) v now n old new h = stay_each (due_bits v since now) n (live_ids v.keys) old new h.0 h.2 h.1

-- What climbs.
pub stay_risen : (n : ℕ) (v : Seen) (old new : Registrations) → Rises n v old new → new.keys ≡ old.keys → Stay old new
stay_risen n v old new rises keys = stay_mapped (risen (reached_now v.files n (map (watch_at v.keys) old.entries)) v) (λ x. refl) (λ x. refl) old new rises.entries keys rises.added

-- Walks have room for registrations that were there.
module _ (old new : Registrations) (each : (id : EntryId) (x : Entry) → entry_under new id ≡ Some x → WasThere old id x) where
  roomy_left : (w : Walk) → AreRoomy old w → AreRoomy new w
  roomy_left w roomy id x at = let was = each id x at in subst (λ (i : ℕ). i < w.room) was.instance (roomy id was.was was.there)

  pub fits_left : (d e : Dating) → Fits old d → AreKept new e.dates → e.reached.room ≡ d.reached.room → AreRoomy new e.gone → e.flags ≡ d.flags → Suits new e.choice → HaveRoom e.choice.lost.reached d.reached → Fits new e
  fits_left d e fits kept reached gone flags suits lost = record {
    kept = kept;
    reached = λ id x at. subst (λ (k : ℕ). x.instance.0 < k) (sym reached) (roomy_left d.reached fits.reached id x at);
    gone = gone;
    flags = λ id x at. let was = each id x at in subst (λ (w : Walk). id.0 < w.room) (sym flags) (fits.flags id was.was was.there);
    unflagged = ap (λ (w : Walk). w.reached) flags ∙ fits.unflagged;
    choice = suits;
    lost = λ i t. subst (λ (k : ℕ). i < k) (sym reached) (lost i t);
  }

  -- dates change hands
  pub fits_handed : (d e : Dating) (dropped : Dates) → Fits old d → AreKept new dropped → e.dates ≡ record dropped { turned = d.gone } → e.gone ≡ dropped.turned → e.reached ≡ d.reached → e.flags ≡ d.flags
      → Suits new e.choice → HaveRoom e.choice.lost.reached d.reached → Fits new e
  fits_handed d e dropped fits kept dates gone reached flags suits lost =
      fits_left d e fits (subst (AreKept new) (sym dates) (kept_handed new dropped d.gone kept (roomy_left d.gone fits.gone))) (ap (λ (w : Walk). w.room) reached)
      (subst (AreRoomy new) (sym gone) (kept_roomy new dropped kept)) flags suits lost

-- the same where registrations stay
pub fits_stay : (old new : Registrations) → Stay old new → (d e : Dating) → Fits old d → e.dates ≡ d.dates → e.reached.room ≡ d.reached.room → e.gone ≡ d.gone → e.flags ≡ d.flags → Suits new e.choice
    → HaveRoom e.choice.lost.reached d.reached → Fits new e
fits_stay old new stay d e fits dates reached gone flags suits lost =
    fits_left old new stay.each d e fits (subst (AreKept new) (sym dates) (loses_none old new stay d.dates fits.kept).kept) reached
    (subst (AreRoomy new) (sym gone) (roomy_left old new stay.each d.gone fits.gone)) flags suits lost

-- and where what was reached is found anew
pub fits_rested : (old new : Registrations) → Stay old new → (d e : Dating) → Fits old d → e.dates ≡ d.dates → AreRoomy new e.reached → e.gone ≡ d.gone → e.flags ≡ d.flags → Suits new e.choice
    → HaveRoom e.choice.lost.reached e.reached → Fits new e
fits_rested old new stay d e fits dates reached gone flags suits lost = record {
  kept = subst (AreKept new) (sym dates) (loses_none old new stay d.dates fits.kept).kept;
  reached = reached;
  gone = subst (AreRoomy new) (sym gone) (roomy_left old new stay.each d.gone fits.gone);
  flags = λ id x at. let was = stay.each id x at in subst (λ (w : Walk). id.0 < w.room) (sym flags) (fits.flags id was.was was.there);
  unflagged = ap (λ (w : Walk). w.reached) flags ∙ fits.unflagged;
  choice = suits;
  lost = lost;
}

-- once the walks are handed back the dates are what they were
pub handed_back : (dropped e : Dates) (w noted : Walk) → e ≡ record dropped { turned = w } → noted ≡ dropped.turned → record e { turned = noted } ≡ dropped
handed_back dropped e w noted dates walk = λ i. record (dates i) { turned = walk i }

-- What goes while registrations stay before and after loses its date.
pub loses_between : (r s t u : Registrations) (d e : Dates) → Stay r s → ((id : EntryId) (x : Entry) → entry_under t id ≡ Some x → WasThere s id x) → s.added ≤ t.added → Stay t u → AreKept r d → Loses s t d e → Loses r u d e
loses_between r s t u d e first each more last kept loses =
    let begun = loses_both r s t d d e (λ id x at. let was = each id x at in (was.was, was.there, was.number)) more (loses_none r s first d kept) loses in
    let same = last.added in
    loses_both r t u d e e (stay_number t u last) (omega (arith, same)) begun (loses_none t u last e loses.kept)

-- what nothing is passed on by any more stays
settled_twice : (xs : List Entry) → map settled (map settled xs) ≡ map settled xs
settled_twice [] = refl
settled_twice (x ∷ xs) = λ i. settled x ∷ settled_twice xs i

pub settled_rest : (xs ys : List Entry) → ys ≡ map settled xs → map settled ys ≡ map settled xs
settled_rest xs ys is = ap (map settled) is ∙ settled_twice xs

pub stay_settled : (old new : Registrations) → new.entries ≡ map settled old.entries → new.keys ≡ old.keys → new.added ≡ old.added → Stay old new
stay_settled old new entries keys added = stay_mapped settled (λ x. refl) (λ x. refl) old new entries keys added
