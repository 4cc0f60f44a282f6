-- The two ends.
use Rattle.ep_base.specs.declared.object.End.TheVariants.{First, Second}
use Rattle.ep_base.specs.declared.object.End.{End}

abbrev pub opposite : End → End
opposite First = Second
opposite Second = First
