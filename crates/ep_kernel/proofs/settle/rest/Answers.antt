use Rattle.std.proofs.Common.{◌≡◌, ◌∙◌, List, [], ◌∷◌, ap, map, refl, subst, sym}
use Rattle.ep_calls.specs.Parts.{Parts}
use Rattle.ep_choice.proofs.MarkingLemmas.{fits_settled}
use Rattle.ep_interest.specs.Registrations.{settled}
use Rattle.ep_interest.specs.declared.entry.Entry.{Entry}
use Rattle.ep_kernel.proofs.HopesForLemmas.{hopes_settled}
use Rattle.ep_kernel.specs.Listed.{HopesFor}
use Rattle.ep_machine.specs.State.{Waiter}
use Rattle.ep_kernel.proofs.settle.rest.Goals as goal

-- what is forgotten once is forgotten
settled_twice : (xs : List Entry) → map settled (map settled xs) ≡ map settled xs
settled_twice [] = refl
settled_twice (x ∷ xs) = ap (λ (ys : List Entry). settled x ∷ ys) (settled_twice xs)

pub returns-clause-rests : goal.returns-clause-rests
returns-clause-rests c =
    let left = c.args.parts.now in
    let mid = c.mark_by_hopes.new.parts in
    let new = c.forget_passed.new.self in
    let narrowed = c.mark_by_hopes.ensures.narrowed in
    let forgot = c.forget_passed.ensures in
    let parked : mid.parked ≡ new.parked = ap (λ (p : Parts). p.parked) (sym forgot.others) in
    record {
      marks = sym parked ∙ c.mark_by_hopes.ensures.marks;
      entries = forgot.entries ∙ narrowed.entries;
      keys = forgot.keys ∙ narrowed.keys;
      added = forgot.added ∙ narrowed.added;
      others = forgot.others ∙ (ap (λ (p : Parts). record p { interest = new.interest }) narrowed.others ∙ ap (λ (ws : List Waiter). record left { interest = new.interest; parked = ws }) parked);
    }

pub returns-clause-hopes : goal.returns-clause-hopes
returns-clause-hopes c =
    let mid = c.mark_by_hopes.new.parts in
    let new = c.forget_passed.new.self in
    let forgot = c.forget_passed.ensures in
    let hopes = c.mark_by_hopes.new.beside.asked.hopes in
    subst (λ (p : Parts). HopesFor p hopes) (sym forgot.others)
    (hopes_settled mid new.interest mid.parked (ap (map settled) forgot.entries ∙ settled_twice mid.interest.entries) forgot.keys hopes c.mark_by_hopes.ensures.hopes)

pub returns-clause-fits : goal.returns-clause-fits
returns-clause-fits c =
    let mid = c.mark_by_hopes.new.parts in
    let new = c.forget_passed.new.self in
    let forgot = c.forget_passed.ensures in
    let beside = c.mark_by_hopes.new.beside in
    let fits = c.mark_by_hopes.ensures.fits in
    fits_settled mid new beside.reached beside.reached beside.choice beside.choice (ap (map settled) forgot.entries ∙ settled_twice mid.interest.entries) forgot.keys (ap (λ (p : Parts). p.tables) forgot.others) refl refl refl refl fits.lost fits
