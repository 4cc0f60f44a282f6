-- The commonest commands as most lines write them: with no blank, `op` first, then `by` where it is there, then the
-- other keys in the order of docs/script.md, and no `pid`.
use Rattle.std.specs.Fmt.{signed_decimal}
use Rattle.std.specs.Prelude.{List, None, Option, Some, [], codes, decimal, negsuc, pos, unwrap_or, ◌++◌, ◌<◌, ◌^◌, ℕ, ℤ}
use Rattle.ep_base.specs.declared.call.Call.{Call}
use Rattle.ep_base.specs.declared.call.Event.TheVariants.{Call as CallOf}
use Rattle.ep_text.specs.Event.{Command}

-- so many digits have 64 bits
abbrev pub IsShort : ℤ → Type 0
IsShort (pos n) = n < 10 ^ 18
IsShort (negsuc n) = n < 10 ^ 18

-- ---- what stands behind the operation

abbrev pub by_text : Option ℕ → List ℕ
by_text None = []
by_text (Some n) = codes ",\"by\":" ++ decimal n

abbrev pub wait_rest : Option ℕ → ℤ → ℤ → ℤ → List ℕ
wait_rest by epfd max timeout =
    by_text by ++ (codes ",\"ep\":" ++ (signed_decimal epfd ++ (codes ",\"max\":" ++ (signed_decimal max ++ (codes ",\"timeout\":" ++ (signed_decimal timeout ++ codes "}"))))))

abbrev pub read_rest : Option ℕ → ℤ → ℕ → List ℕ
read_rest by fd n = by_text by ++ (codes ",\"fd\":" ++ (signed_decimal fd ++ (codes ",\"n\":" ++ (decimal n ++ codes "}"))))

abbrev pub write_rest : Option ℕ → ℤ → List ℕ → List ℕ
write_rest by fd digits = by_text by ++ (codes ",\"fd\":" ++ (signed_decimal fd ++ (codes ",\"hex\":\"" ++ (digits ++ codes "\"}"))))

-- ---- what such lines ask for

-- a call of the first process
abbrev pub call_command : Option ℕ → Call → Command
call_command by call = (record { 0 = unwrap_or by 0 }, CallOf (record { 0 = 1 }) call)
