use Rattle.std.proofs.Common.{◌≡◌, ◌∙◌, Bool, Option, true, false, ap, map, sym, unwrap_or}
use Rattle.ep_calls.proofs.ClimbLemmas.{climbs_not}
use Rattle.ep_calls.specs.Climb.{climbs_to, is_nested_key}
use Rattle.ep_machine.specs.Objects.{Object, is_instance, plain}
use Rattle.ep_climb.proofs.climbing.freshen_above.Goals as goal

pub returns-then-is_instance-clause-entries : goal.returns-then-is_instance-clause-entries
returns-then-is_instance-clause-entries c =
    let is : is_nested_key c.args.tables.now c.args.desc ≡ true = ap (λ (o : Option Object). is_instance (unwrap_or o plain)) (sym c.object.ensures) ∙ (sym c.is_instance.ensures ∙ c.if-is_instance.true) in
    c.freshen.ensures.entries ∙ ap (λ (b : Bool). map (climbs_to b c.args.desc) c.args.interest.now.entries) (sym is)

pub returns-else-is_instance-clause-entries : goal.returns-else-is_instance-clause-entries
returns-else-is_instance-clause-entries c =
    let is : is_nested_key c.args.tables.now c.args.desc ≡ false = ap (λ (o : Option Object). is_instance (unwrap_or o plain)) (sym c.object.ensures) ∙ (sym c.is_instance.ensures ∙ c.if-is_instance.false) in
    climbs_not c.args.desc c.args.interest.now.entries ∙ ap (λ (b : Bool). map (climbs_to b c.args.desc) c.args.interest.now.entries) (sym is)
