use Rattle.std.proofs.Common.{◌≡◌, ◌<◌, ◌∙◌, ℕ, ap, is_some, subst, sym}
use Rattle.ep_calls.proofs.KeepsLemmas.{state_is}
use Rattle.ep_calls.specs.Book.{Book, state_of}
use Rattle.ep_machine.specs.State.{State}
use Rattle.ep_machine.specs.Step.{step}
use Rattle.ep_plain.proofs.SinceLemmas.{begun_dated}
use Rattle.ep_plain.proofs.StandingLemmas.{begins_each}
use Rattle.ep_plain.specs.Since.{IsDated}
use Rattle.ep_plain.specs.Standing.{Standing, book_of}
use Rattle.ep_plain.specs.These.{goes_with}
use Rattle.ep_plain.specs.declared.dating.Dating.{Dating}
use Rattle.ep_plain.specs.declared.plain.PlainKernel.TheInside.{Inside}
use Rattle.ep_records.specs.Past.{whole}
use Rattle.ep_plain.proofs.plain.PlainKernel.has_step.Goals as goal

pub returns-clause-has : goal.returns-clause-has
returns-clause-has c =
    let k = c.self.inside in
    let standing = c.self.invariant.standing in
    let caller = c.args.caller.0 in
    let event = c.args.event.now in
    let picks = c.args.picks.now in
    let since = k.dating.dates.since in
    begins_each (whole k.history) k.parts standing.keeps (λ s. IsDated s since → c.allows.result ≡ goes_with k.parts.tables.limits caller event picks s) c.allows.ensures.goes (begun_dated standing.keeps.state since standing.dated)
    ∙ (ap (λ (s : State). is_some (step k.parts.tables.limits s caller event picks)) (sym (state_is (whole k.history) k.parts standing.keeps))
    ∙ ap (λ (b : Book). is_some (step b.limits (state_of b) caller event picks)) c.self.view_is)

pub returns-clause-stays : goal.returns-clause-stays
returns-clause-stays c =
    let k = c.self.inside in
    ap (λ (d : Dating). let inside : Inside = record { parts = k.parts; history = k.history; dating = d; alarms = k.alarms } in book_of inside) c.allows.ensures.others ∙ c.self.view_is

pub invariant_of-self : goal.invariant_of-self
invariant_of-self c =
    let k = c.self.inside in
    let standing = c.self.invariant.standing in
    let fits = standing.fits in
    record {
      standing = subst (λ (d : Dating). Standing (whole k.history) k.parts d) (sym c.allows.ensures.others) (record {
        keeps = standing.keeps;
        dated = standing.dated;
        ready = standing.ready;
        order = standing.order;
        fits = record {
          kept = fits.kept;
          reached = fits.reached;
          gone = fits.gone;
          flags = λ id x at. subst (λ (n : ℕ). id.0 < n) (sym c.allows.ensures.room) (fits.flags id x at);
          unflagged = c.allows.ensures.unflagged;
          choice = fits.choice;
          lost = fits.lost;
        };
        unlost = standing.unlost;
      });
      set = c.self.invariant.set;
    }
