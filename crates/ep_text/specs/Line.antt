-- The line that tells an answer, with the byte 10 that ends it.
use Rattle.std.specs.Fmt.{signed_decimal}
use Rattle.std.specs.Prelude.{Bool, List, None, Some, [], codes, decimal, false, if◌then◌else◌, true, ℕ, ◌++◌, ◌∷◌}
use Rattle.hex.specs.Hex.{encode_lower}
use Rattle.ep_base.specs.declared.answer.Answer.{Answer}
use Rattle.ep_base.specs.declared.answer.Answer.TheVariants.{Bytes, Connecting, Done, Events, Failed, Named, Num, Parked, Refused, Still, Time, Two}
use Rattle.ep_base.specs.declared.answer.Report.{Report}
use Rattle.ep_base.specs.Errno.{errno_name, errno_number}
use Rattle.ep_text.specs.Sockets.{space_text}
use Rattle.ep_version.specs.declared.version.Version.{Version}
use Rattle.ep_version.specs.declared.version.Version.TheVariants.{V1, V2}
use Rattle.ep_version.specs.Version.{shown_in}

-- its bits, then its data
abbrev pub report_text : Report → List ℕ
report_text report = codes "[" ++ decimal report.bits.0 ++ codes "," ++ decimal report.tag ++ codes "]"

-- with a comma before each but the first of all
abbrev pub reports_text : Bool → List Report → List ℕ
reports_text is_first [] = []
reports_text is_first (r ∷ rs) = (if is_first then [] else codes ",") ++ (report_text r ++ reports_text false rs)

unfoldable pub line_of : Version → Answer → List ℕ
line_of version Done = codes "{\"done\":true}\n"
line_of version (Num n) = codes "{\"num\":" ++ decimal n ++ codes "}\n"
line_of version (Two first second) = codes "{\"two\":[" ++ signed_decimal first.0 ++ codes "," ++ signed_decimal second.0 ++ codes "]}\n"
line_of version (Bytes bytes) = codes "{\"bytes\":\"" ++ encode_lower bytes ++ codes "\"}\n"
line_of version (Events reports) = codes "{\"events\":[" ++ reports_text true reports ++ codes "]}\n"
line_of version (Time value interval) = codes "{\"time\":[" ++ decimal (shown_in version value) ++ codes "," ++ decimal (shown_in version interval) ++ codes "]}\n"
line_of version Parked = codes "{\"parked\":true}\n"
line_of version Still = codes "{\"still\":true}\n"
line_of version Connecting = codes "{\"connecting\":true}\n"
line_of version (Failed errno) = codes "{\"failed\":[" ++ decimal (errno_number errno) ++ codes ",\"" ++ errno_name errno ++ codes "\"]}\n"
line_of version (Named None) = codes "{\"name\":null}\n"
line_of version (Named (Some name)) = codes "{\"name\":[\"" ++ space_text name.space ++ codes "\"," ++ decimal name.number ++ codes "]}\n"
line_of version (Refused errno) = codes "{\"err\":[" ++ decimal (errno_number errno) ++ codes ",\"" ++ errno_name errno ++ codes "\"]}\n"

-- of a header
unfoldable pub header_line : Version → List ℕ
header_line V1 = codes "{\"version\":1}\n"
header_line V2 = codes "{\"version\":2}\n"

-- of a line that is no command
unfoldable pub bad_line : ℕ → List ℕ
bad_line number = codes "{\"bad\":" ++ decimal number ++ codes "}\n"
