use Rattle.std.proofs.Common.{◌≡◌, ◌∙◌, ◌&&◌, ◌||◌, ◌==◌, ℕ, Bool, Option, Some, None, ap, if◌then◌else◌, nat_lt, not, sym, unwrap_or}
use Rattle.ep_machine.specs.Bits.{ET, has_bit}
use Rattle.ep_interest.specs.Registrations.{has_key, number_under, numbered}
use Rattle.ep_calls.specs.Readiness.{entry_shows, readiness}
use Rattle.ep_calls.specs.Stands.{IsLinked}
use Rattle.ep_calls.specs.declared.raising.Raising.TheVariants.{Instance, Nowhere}
use Rattle.ep_calls.proofs.AdditionLemmas.{found_passes, none_looked, one_looked}
use Rattle.ep_calls.proofs.ControlLemmas.{found_as}
use Rattle.ep_calls.proofs.IsBelowLemmas.{shown_named}
use Rattle.ep_calls.proofs.control.look_at.Goals as goal

pub returns-in_default : goal.returns-in_default
returns-in_default c =
    let r = c.args.interest.now in
    let v = c.args.tables.now in
    let n = c.args.left.named in
    let found = found_as r n c.args.left.fd c.args.left.id None c.requires.found c.in_default.is in
    ap (λ (b : Bool). if b then Instance n.instance else Nowhere)
    (sym (none_looked (has_key n.instance c.args.left.fd n.desc) (entry_shows (readiness v c.args.now r) v c.args.now) r.entries (sym found.there)))

pub shown_at-requires : goal.shown_at-requires
shown_at-requires c =
    let r = c.args.interest.now in
    let x = c.entry-entry.result.now in
    record { target = (found_passes (IsLinked c.args.tables.now.keys) (λ y. y.number == x.number) x r.entries c.requires.linked c.entry-entry.ensures.entry).desc }

pub returns-then-not-is_reportable : goal.returns-then-not-is_reportable
returns-then-not-is_reportable c =
    let r = c.args.interest.now in
    let v = c.args.tables.now in
    let n = c.args.left.named in
    let x = c.entry-entry.result.now in
    let k = unwrap_or (number_under r c.in-Some.id) 0 in
    let is : k ≡ x.number = ap (λ (o : Option ℕ). unwrap_or o 0) c.entry-entry.ensures.number in
    let found = found_as r n c.args.left.fd c.args.left.id (Some c.in-Some.id) c.requires.found c.in-Some.is in
    let one = one_looked r n.instance c.args.left.fd n.desc k x (entry_shows (readiness v c.args.now r) v c.args.now) c.known.ensures (sym found.there) found.entry (ap (numbered r.entries) is ∙ c.entry-entry.ensures.entry) in
    let shown = shown_named v c.args.now r n c.args.left.fd c.args.left.below x c.requires.below (sym found.there) (sym found.entry ∙ (ap (numbered r.entries) is ∙ c.entry-entry.ensures.entry)) in
    ap (λ (b : Bool). if b then Instance n.instance else Nowhere)
    (sym (one
    ∙ (ap (λ (b : ℕ). nat_lt 0 b && (not (has_bit x.mask.0 ET) || x.fresh)) (sym (c.shown_at.ensures ∙ shown)) ∙ (sym c.is_reportable.ensures ∙ c.if-not-is_reportable.true))))

pub returns : goal.returns
returns c =
    let r = c.args.interest.now in
    let v = c.args.tables.now in
    let n = c.args.left.named in
    let x = c.entry-entry.result.now in
    let k = unwrap_or (number_under r c.in-Some.id) 0 in
    let is : k ≡ x.number = ap (λ (o : Option ℕ). unwrap_or o 0) c.entry-entry.ensures.number in
    let found = found_as r n c.args.left.fd c.args.left.id (Some c.in-Some.id) c.requires.found c.in-Some.is in
    let one = one_looked r n.instance c.args.left.fd n.desc k x (entry_shows (readiness v c.args.now r) v c.args.now) c.known.ensures (sym found.there) found.entry (ap (numbered r.entries) is ∙ c.entry-entry.ensures.entry) in
    let shown = shown_named v c.args.now r n c.args.left.fd c.args.left.below x c.requires.below (sym found.there) (sym found.entry ∙ (ap (numbered r.entries) is ∙ c.entry-entry.ensures.entry)) in
    ap (λ (b : Bool). if b then Instance n.instance else Nowhere)
    (sym (one
    ∙ (ap (λ (b : ℕ). nat_lt 0 b && (not (has_bit x.mask.0 ET) || x.fresh)) (sym (c.shown_at.ensures ∙ shown)) ∙ (sym c.is_reportable.ensures ∙ c.if-not-is_reportable.false))))
