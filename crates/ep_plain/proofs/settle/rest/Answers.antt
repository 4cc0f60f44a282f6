use Rattle.std.proofs.Common.{◌≡◌, ◌∙◌, ap, refl, sym}
use Rattle.ep_calls.specs.Parts.{Parts}
use Rattle.ep_choice.proofs.MarkingLemmas.{fits_settled, ready_lasts}
use Rattle.ep_dates.specs.Dates.{is_ready}
use Rattle.ep_plain.proofs.SpreadLemmas.{fits_rested, settled_rest, stay_settled}
use Rattle.ep_plain.proofs.settle.rest.Goals as goal

pub mark_woken-requires-clause-fits : goal.mark_woken-requires-clause-fits
mark_woken-requires-clause-fits c = record { instances = c.requires.instances; reached = c.requires.fits.reached; choice = c.requires.fits.choice; lost = c.requires.fits.lost }

pub mark_woken-requires-clause-lasts : goal.mark_woken-requires-clause-lasts
mark_woken-requires-clause-lasts c = ready_lasts (λ by. is_ready by.dates.now)

pub returns-clause-rests : goal.returns-clause-rests
returns-clause-rests c =
    let left = c.args.parts.now in
    let marked = c.mark_woken.new.parts in
    let rested = c.forget_passed.new.self in
    let narrowed = c.mark_woken.ensures.narrowed in
    let parked : rested.parked ≡ marked.parked = ap (λ (p : Parts). p.parked) c.forget_passed.ensures.others in
    record {
      marks = parked ∙ c.mark_woken.ensures.marks;
      entries = c.forget_passed.ensures.entries ∙ narrowed.entries;
      keys = c.forget_passed.ensures.keys ∙ narrowed.keys;
      added = c.forget_passed.ensures.added ∙ narrowed.added;
      others = c.forget_passed.ensures.others ∙ (λ i. record (narrowed.others i) { interest = rested.interest; parked = sym parked i });
    }

pub returns-clause-fits : goal.returns-clause-fits
returns-clause-fits c =
    let left = c.args.parts.now in
    let marked = c.mark_woken.new.parts in
    let rested = c.forget_passed.new.self in
    let narrowed = c.mark_woken.ensures.narrowed in
    let forgot = c.forget_passed.ensures in
    let w = c.mark_woken.new.reached in
    let d = c.mark_woken.new.choice in
    let fits = fits_settled marked rested w w d d (settled_rest marked.interest.entries rested.interest.entries forgot.entries) forgot.keys (ap (λ (p : Parts). p.tables) forgot.others) refl refl refl refl c.mark_woken.ensures.fits.lost c.mark_woken.ensures.fits in
    let stay = stay_settled left.interest rested.interest (forgot.entries ∙ narrowed.entries) (forgot.keys ∙ narrowed.keys) (forgot.added ∙ narrowed.added) in
    fits_rested left.interest rested.interest stay c.args.dating.now _ c.requires.fits refl fits.reached refl refl fits.choice fits.lost
