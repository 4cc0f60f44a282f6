-- What a read past the end of the links would be.
use Rattle.ep_nest.specs.declared.link.Link.{Link}

abbrev pub nowhere : Link
nowhere = record { outer = record { 0 = 0 }; inner = record { 0 = 0 }; entry = record { 0 = 0 } }
