use Rattle.std.proofs.Common.{◌∙◌, ap, sym}
use Rattle.std.specs.Prelude.{option_copied}
use Rattle.ep_kernel.specs.Control.{is_at_instance}
use Rattle.ep_kernel.proofs.ControlLemmas.{settled_end}
use Rattle.ep_kernel.proofs.beside.settle_one.Goals as goal

pub returns-in-Instance : goal.returns-in-Instance
returns-in-Instance c =
    settled_end c.args.lists.now c.push_back.new.self c.args.id _ c.in-Some.field-0.now c.args.raising c.known.ensures c.requires (sym c.get.ensures ∙ ap (λ o. option_copied o) c.in-Some.is) (ap is_at_instance c.in-Instance.is) c.push_back.ensures
