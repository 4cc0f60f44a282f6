-- The first line of a script, which may name a version.
use Rattle.std.specs.Prelude.{List, None, Option, codes, if◌then◌else◌, is_none, is_some, option_and_then, option_map, unwrap_or, ℕ, ◌==◌}
use Rattle.std.specs.Str.{is_utf8}
use Rattle.serde_json.specs.Data.{Data}
use Rattle.serde_json.specs.Events.{members_len}
use Rattle.serde_json.specs.Find.{as_object, get}
use Rattle.serde_json.specs.Read.{read as json}
use Rattle.ep_version.specs.declared.version.Version.{Version}
use Rattle.ep_version.specs.Version.{numbered}
use Rattle.ep_text.specs.declared.key.Key.TheVariants as key
use Rattle.ep_text.specs.declared.reason.Reason.{Reason}
use Rattle.ep_text.specs.declared.reason.Reason.TheVariants.{LateHeader, Missing, UnknownVersion}
use Rattle.ep_text.specs.Values.{u64_value}

abbrev pub member_count : Data → ℕ
member_count d = unwrap_or (option_map members_len (as_object d)) 0

-- one object with the one key `version`, whose value is the whole number 1 or 2
abbrev pub header_data : Data → Option Version
header_data d =
    if member_count d == 1 then option_and_then numbered (option_and_then u64_value (get (codes "version") d)) else None

-- the version that a line names by its form, whatever its place
abbrev pub header : List ℕ → Option Version
header line = if is_utf8 line then option_and_then header_data (json line) else None

-- why an object without `op` is no command
abbrev pub without_op : Data → Reason
without_op d =
    if is_none (get (codes "version") d) then Missing key.Op
    else if is_some (header_data d) then LateHeader
    else UnknownVersion
