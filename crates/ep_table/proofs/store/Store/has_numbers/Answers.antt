use Rattle.std.proofs.Common.{ap, arith, length}
use Rattle.ep_table.specs.Stored.{number_in, object_in, object_number_in, place_in}
use Rattle.ep_table.specs.Value.{Things}
use Rattle.ep_table.proofs.ByNumberLemmas.{contents_length}
use Rattle.ep_table.proofs.store.Store.has_numbers.Goals as goal

pub returns-clause-descriptions : goal.returns-clause-descriptions
returns-clause-descriptions g c = omega (arith, c.if-self-additional.false, ap (λ (v : Things). length v.descriptions) c.self.view_is, contents_length number_in place_in c.self.inside.descriptions.slots c.self.inside.described)

pub returns-clause-objects : goal.returns-clause-objects
returns-clause-objects g c = omega (arith, c.if-self.false, ap (λ (v : Things). length v.objects) c.self.view_is, contents_length object_number_in object_in c.self.inside.objects.slots c.self.inside.made)
