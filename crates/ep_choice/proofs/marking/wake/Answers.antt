use Rattle.std.proofs.Common.{◌∙◌, ◌<◌, refl, subst, sym, ℕ}
use Rattle.ep_choice.proofs.MarkingLemmas.{fits_settled, roomy_settled}
use Rattle.ep_choice.proofs.marking.wake.Goals as goal

pub reach-requires-clause-room : goal.reach-requires-clause-room
reach-requires-clause-room g c =
    let e = c.narrow.ensures in
    λ id x under. subst (λ (n : ℕ). x.instance.0 < n) (sym e.room) (roomy_settled c.args.parts.now.interest c.narrow.new.parts.interest e.entries e.keys c.args.reached.now c.requires.fits.reached id x under)

pub returns-then-count-gt0-clause-narrowed : goal.returns-then-count-gt0-clause-narrowed
returns-then-count-gt0-clause-narrowed g c =
    let e = c.narrow.ensures in
    let p = c.args.parts.now in
    let q = c.narrow.new.parts in
    record {
      watches = e.watches;
      entries = e.entries;
      keys = e.keys;
      added = e.added;
      next = e.next;
      others = e.others ∙ (λ i. record p { interest = q.interest; parked = (sym e.others i).parked });
    }

pub returns-then-count-gt0-clause-fits : goal.returns-then-count-gt0-clause-fits
returns-then-count-gt0-clause-fits g c =
    let e = c.narrow.ensures in
    let p = c.args.parts.now in
    let q = c.narrow.new.parts in
    fits_settled p q c.args.reached.now c.reach.new.reached c.args.choice.now (record { candidates = c.narrow.new.candidates; targets = c.narrow.new.targets; lost = c.args.choice.now.lost }) e.entries e.keys (λ i. (e.others i).tables) (c.reach.ensures.room ∙ e.room) e.candidates e.targets refl c.requires.fits.lost c.requires.fits

pub returns-then-count-gt0-clause-parked : goal.returns-then-count-gt0-clause-parked
returns-then-count-gt0-clause-parked g c = λ i. (c.narrow.ensures.others i).parked

pub returns-else-count-gt0-clause-parked : goal.returns-else-count-gt0-clause-parked
returns-else-count-gt0-clause-parked g c = λ i. (c.narrow.ensures.others i).parked
