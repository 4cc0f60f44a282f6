-- The words of sockets: what is shut, families, and names.
use Rattle.std.specs.Prelude.{List, None, Ok, Option, Result, Some, bytes_eq, codes, if◌then◌else◌, option_and_then, ℕ}
use Rattle.serde_json.specs.Data.{Data}
use Rattle.serde_json.specs.Find.{as_str}
use Rattle.ep_base.specs.declared.socket.Family.{Family}
use Rattle.ep_base.specs.declared.socket.Family.TheVariants.{Tcp, Unix}
use Rattle.ep_base.specs.declared.socket.How.{How}
use Rattle.ep_base.specs.declared.socket.How.TheVariants as hows
use Rattle.ep_base.specs.declared.socket.Name.{Name}
use Rattle.ep_base.specs.declared.socket.Space.{Space}
use Rattle.ep_base.specs.declared.socket.Space.TheVariants.{Local, V4, V6}
use Rattle.ep_text.specs.declared.key.Key.TheVariants as key
use Rattle.ep_text.specs.declared.reason.Reason.{Reason}
use Rattle.ep_text.specs.declared.value_kind.ValueKind.TheVariants as kinds
use Rattle.ep_text.specs.Keys.{Meaning, required, unsigned32, ◌>>=◌}
use Rattle.ep_text.specs.Values.{below}

abbrev pub how_of_text : List ℕ → Option How
how_of_text text =
    if bytes_eq text (codes "rd") then Some hows.Read
    else if bytes_eq text (codes "wr") then Some hows.Write
    else if bytes_eq text (codes "rdwr") then Some hows.Both
    else None

abbrev pub how_value : Data → Option How
how_value d = option_and_then how_of_text (as_str d)

abbrev pub how : Meaning How
how = record { kind = kinds.How; value = how_value }

abbrev pub family_of_text : List ℕ → Option Family
family_of_text text =
    if bytes_eq text (codes "tcp") then Some Tcp
    else if bytes_eq text (codes "unix") then Some Unix
    else None

abbrev pub family_value : Data → Option Family
family_value d = option_and_then family_of_text (as_str d)

abbrev pub family : Meaning Family
family = record { kind = kinds.Family; value = family_value }

-- ---- names

abbrev pub space_text : Space → List ℕ
space_text V4 = codes "v4"
space_text V6 = codes "v6"
space_text Local = codes "local"

abbrev pub space_of_text : List ℕ → Option Space
space_of_text text =
    if bytes_eq text (codes "v4") then Some V4
    else if bytes_eq text (codes "v6") then Some V6
    else if bytes_eq text (codes "local") then Some Local
    else None

abbrev pub space_value : Data → Option Space
space_value d = option_and_then space_of_text (as_str d)

abbrev pub space : Meaning Space
space = record { kind = kinds.Space; value = space_value }

abbrev pub port_value : Data → Option ℕ
port_value = below 65536

abbrev pub port : Meaning ℕ
port = record { kind = kinds.Port; value = port_value }

-- a port, or the number that the driver gave to a text
abbrev pub number_in : Space → Meaning ℕ
number_in V4 = port
number_in V6 = port
number_in Local = unsigned32

abbrev pub name_in : Data → Result Name Reason
name_in d = do
  space ← required space key.Space d
  number ← required (number_in space) key.Name d
  Ok (record { space = space; number = number })
