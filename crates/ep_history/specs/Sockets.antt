-- The words of sockets: what is shut, families, and spaces of names.
use Rattle.std.specs.Prelude.{List, None, Option, Some, bytes_eq, codes, if◌then◌else◌, option_and_then, ℕ}
use Rattle.serde_json.specs.Data.{Data}
use Rattle.serde_json.specs.Find.{as_str}
use Rattle.ep_base.specs.declared.socket.Family.{Family}
use Rattle.ep_base.specs.declared.socket.Family.TheVariants.{Tcp, Unix}
use Rattle.ep_base.specs.declared.socket.How.{How}
use Rattle.ep_base.specs.declared.socket.How.TheVariants as hows
use Rattle.ep_base.specs.declared.socket.Space.{Space}
use Rattle.ep_base.specs.declared.socket.Space.TheVariants.{Local, V4, V6}

-- ---- what is printed

abbrev pub how_text : How → List ℕ
how_text hows.Read = codes "rd"
how_text hows.Write = codes "wr"
how_text hows.Both = codes "rdwr"

abbrev pub family_text : Family → List ℕ
family_text Tcp = codes "tcp"
family_text Unix = codes "unix"

abbrev pub space_text : Space → List ℕ
space_text V4 = codes "v4"
space_text V6 = codes "v6"
space_text Local = codes "local"

-- ---- what is read

abbrev pub how_of : List ℕ → Option How
how_of text =
    if bytes_eq text (codes "rd") then Some hows.Read
    else if bytes_eq text (codes "wr") then Some hows.Write
    else if bytes_eq text (codes "rdwr") then Some hows.Both
    else None

abbrev pub how_value : Data → Option How
how_value d = option_and_then how_of (as_str d)

abbrev pub family_of : List ℕ → Option Family
family_of text =
    if bytes_eq text (codes "tcp") then Some Tcp
    else if bytes_eq text (codes "unix") then Some Unix
    else None

abbrev pub family_value : Data → Option Family
family_value d = option_and_then family_of (as_str d)

abbrev pub space_of : List ℕ → Option Space
space_of text =
    if bytes_eq text (codes "v4") then Some V4
    else if bytes_eq text (codes "v6") then Some V6
    else if bytes_eq text (codes "local") then Some Local
    else None

abbrev pub space_value : Data → Option Space
space_value d = option_and_then space_of (as_str d)
