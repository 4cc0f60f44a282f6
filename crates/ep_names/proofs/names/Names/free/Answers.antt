use Rattle.std.proofs.Common.{ap, is_some, sym, ◌∙◌}
use Rattle.ep_names.specs.Names.{holds}
use Rattle.ep_names.proofs.NameLemmas.{free_any, free_itself, free_taken}
use Rattle.ep_names.proofs.names.Names.free.Goals as goal

pub returns-then-name-eq0 : goal.returns-then-name-eq0
returns-then-name-eq0 g c = c.given.ensures ∙ free_any (holds c.args.self.now) c.args.name c.if-name-eq0.true

pub returns-in-Some : goal.returns-in-Some
returns-in-Some g c = free_taken (holds c.args.self.now) c.args.name c.if-name-eq0.false (ap is_some (sym c.owner.ensures ∙ c.in-Some.is))

pub returns-in-None : goal.returns-in-None
returns-in-None g c = free_itself (holds c.args.self.now) c.args.name c.if-name-eq0.false (ap is_some (sym c.owner.ensures ∙ c.in-None.is))
