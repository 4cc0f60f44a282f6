-- Lines of the commonest commands: the texts that their parts make are JSON, and are these commands.
use Rattle.std.proofs.Common.{IfSome, IsUtf8, List, None, Ok, Option, SFits, Some, [], ap, append-nil, append_assoc, arith, codes, decimal, drop, ap₂, false, negsuc, option_map, pos, refl, sym, take, take-append-drop, true, w32, w64, ℕ, ℤ, ◌+◌, ◌*◌, ◌++◌, ◌/◌, ◌%◌, ◌<◌, ◌∙◌, ◌∷◌, ◌^◌, ◌≡◌, ◌≤◌}
use Rattle.std.specs.Fmt.{signed_decimal}
use Rattle.std.specs.List.{AllPass}
use Rattle.std.proofs.lemmas.Bool.{and_from, false≢true, lt-ltb}
use Rattle.std.proofs.lemmas.Fmt.{IsAscii-decimal, IsAscii-signed, decimal_digit, decimal_step}
use Rattle.std.proofs.lemmas.Grind.{common_steps}
use Rattle.std.proofs.lemmas.List.Elements.{All-head, All-tail}
use Rattle.std.proofs.lemmas.Str.{IsUtf8-append, IsUtf8-from_ascii}
use Rattle.hex.specs.Hex.{decode_of, is_hex_digit}
use Rattle.hex.proofs.HexLemmas.{decode_of-ok}
use Rattle.json.specs.Json as json
use Rattle.json.specs.Print.{IsNumber, escape, escape_byte, print, print_from}
use Rattle.json.specs.Tree as tree
use Rattle.json.proofs.Printed.Decimals.{IsNumber-decimal, IsNumber-signed_decimal}
use Rattle.json.proofs.Printed.Strings.{escape_byte_plain}
use Rattle.json.proofs.Printed.Tokens.{tokens-print}
use Rattle.json.proofs.Printed.Trees.{ArePrintable-json_tokens, value-json_tokens}
use Rattle.json.proofs.Printed.Utf8.{IsUtf8-are_ascii, are_ascii}
use Rattle.serde_json.specs.Data.{Members, no_members, number, object, put, string, unsigned}
use Rattle.serde_json.specs.Find.{of_integer}
use Rattle.serde_json.specs.Read.{number_of, of_members, read}
use Rattle.serde_json.proofs.Numbers.{number_of-decimal, number_of-negative}
use Rattle.ep_json.specs.Text.{whole}
use Rattle.ep_base.specs.declared.call.Call.TheVariants.{EpollWait, Read, Write}
use Rattle.ep_text.specs.Bytes.{hex_value}
use Rattle.ep_text.specs.Event.{Command, as_written, command}
use Rattle.ep_text.specs.Mask.{accepted}
use Rattle.ep_text.specs.Plain.{IsShort, by_text, call_command, read_rest, wait_rest, write_rest}
use Rattle.ep_text.specs.Values.{i32_value, i64_value, u32_value}
use Rattle.ep_text.proofs.ReadLemmas.{command_read}

-- ---- a front and an end

pub front_is : (n : ℕ) (rest front left text : List ℕ) → front ≡ take n rest → left ≡ drop n rest → front ≡ text → rest ≡ text ++ left
front_is n rest front left text f l same = sym (take-append-drop n rest) ∙ ap₂ (λ (a b : List ℕ). a ++ b) (sym f ∙ same) (sym l)

pub end_is : (n : ℕ) (rest left end text : List ℕ) → left ≡ take n rest → end ≡ drop n rest → end ≡ text → rest ≡ left ++ text
end_is n rest left end text l e same = sym (take-append-drop n rest) ∙ ap₂ (λ (a b : List ℕ). a ++ b) (sym l) (sym e ∙ same)

-- ---- numbers

-- the number n is read of the digit d, the byte b
pub first_digit : (n d b : ℕ) (text after : List ℕ) → text ≡ b ∷ after → (d ≤ 9) × (b ≡ 48 + d) → n ≡ d → (text ≡ decimal n ++ after) × (n < 10 ^ 18)
first_digit n d b text after front digit same =
    let byte : b ≡ 48 + n = omega (arith, digit.1, same) in
    let less : n < 10 = omega (arith, digit.0, same) in
    (front ∙ ap (λ x. x ∷ after) byte ∙ sym (ap (λ l. l ++ after) (decimal_digit n less)), omega (arith, less))

-- of a digit more, the number m
pub next_digit : (n m d b : ℕ) (text left after : List ℕ) → text ≡ decimal n ++ left → left ≡ b ∷ after → (n ≡ 0 → ⊥) → n ≤ 99999999999999999 → (d ≤ 9) × (b ≡ 48 + d) → m ≡ d
    → (text ≡ decimal (n * 10 + m) ++ after) × (n * 10 + m < 10 ^ 18)
next_digit n m d b text left after begun front some small digit same =
    let k : ℕ = n * 10 + m in
    let upper : k / 10 ≡ n = omega (arith, digit.0, same) in
    let last : 48 + k % 10 ≡ b = omega (arith, digit.0, digit.1, same) in
    let ten : 10 ≤ k = omega (arith, some) in
    let less : k < 10 ^ 18 = omega (arith, digit.0, same, small) in (
      begun ∙ ap (λ l. decimal n ++ l) front
          ∙ sym (ap (λ l. l ++ after) (decimal_step k ten (omega (arith, less)) ∙ (λ i. decimal (upper i) ++ (last i ∷ []))) ∙ append_assoc (decimal n) (b ∷ []) after),
      less,
    )

signed_read : (z : ℤ) → IsShort z → number_of (signed_decimal z) ≡ Some (of_integer z)
signed_read (pos n) h = number_of-decimal n (omega arith)
signed_read (negsuc n) h = number_of-negative n (omega arith)

signed_number : (z : ℤ) → IsShort z → IsNumber (signed_decimal z)
signed_number (pos n) h = IsNumber-signed_decimal (pos n) (omega arith)
signed_number (negsuc n) h = IsNumber-signed_decimal (negsuc n) (omega arith)

signed_utf8 : (z : ℤ) → IsShort z → IsUtf8 (signed_decimal z)
signed_utf8 (pos n) h = IsUtf8-from_ascii (decimal n) (IsAscii-decimal n (omega arith))
signed_utf8 (negsuc n) h = IsUtf8-from_ascii (signed_decimal (negsuc n)) (IsAscii-signed (negsuc n) (omega arith))

short_i32 : (z : ℤ) → SFits w32 z → IsShort z
short_i32 (pos n) h = let less : n < 2 ^ 31 = grind arith in omega arith
short_i32 (negsuc n) h = let less : n < 2 ^ 31 = grind arith in omega arith

pub short_i64 : (z : ℤ) → IsShort z → SFits w64 z
short_i64 (pos n) h = grind arith
short_i64 (negsuc n) h = grind arith

again_i32 : (z : ℤ) → SFits w32 z → i32_value (number (of_integer z)) ≡ Some z
again_i32 (pos n) h = grind (arith, common_steps)
again_i32 (negsuc n) h = grind (arith, common_steps)

again_i64 : (z : ℤ) → IsShort z → i64_value (number (of_integer z)) ≡ Some z
again_i64 (pos n) h = rw (lt-ltb n (2 ^ 63) (omega arith)) refl
again_i64 (negsuc n) h = refl

again_u32 : (n : ℕ) → n < 2 ^ 32 → u32_value (number (unsigned n)) ≡ Some n
again_u32 n h = rw (lt-ltb n (2 ^ 32) h) refl

-- ---- an object that is a line

line_read : (ms : json.Members) (found : Members) → tree.MembersHaveNumbers ms → tree.members_depth ms ≤ 126 → of_members ms no_members ≡ Some found
    → read (print (tree.json_tokens (json.object ms))) ≡ Some (object found)
line_read ms found numbers shallow e =
    let j = json.object ms in
    ap whole (ap (json.value 127) (tokens-print (tree.json_tokens j) (ArePrintable-json_tokens j numbers) ∙ sym (append-nil (tree.json_tokens j))) ∙ value-json_tokens j 127 [] (omega arith))
    ∙ ap (option_map object) e

-- ---- hexadecimal digits

hex_byte : (x : ℕ) → is_hex_digit x ≡ true → (32 ≤ x) × (x < 128)
hex_byte x h = (grind arith, grind arith)

no_other : (x y : ℕ) → is_hex_digit y ≡ false → is_hex_digit x ≡ true → x ≡ y → ⊥
no_other x y none h e = false≢true (sym none ∙ ap is_hex_digit (sym e) ∙ h)

hex_escape : (s : List ℕ) → AllPass is_hex_digit s → escape s ≡ s
hex_escape [] h = refl
hex_escape (x ∷ s) h =
    let here = All-head (λ y. is_hex_digit y ≡ true) x s h in
    ap₂ (λ (a b : List ℕ). a ++ b) (escape_byte_plain x (no_other x 34 refl here) (no_other x 92 refl here) (hex_byte x here).0) (hex_escape s (All-tail (λ y. is_hex_digit y ≡ true) x s h))

hex_ascii : (s : List ℕ) → AllPass is_hex_digit s → are_ascii s ≡ true
hex_ascii [] h = refl
hex_ascii (x ∷ s) h =
    let here = All-head (λ y. is_hex_digit y ≡ true) x s h in
    and_from _ _ (lt-ltb x 128 (hex_byte x here).1) (hex_ascii s (All-tail (λ y. is_hex_digit y ≡ true) x s h))

-- ---- a line

-- the text of an object is the command that the object is
plain_is : (line : List ℕ) (ms : json.Members) (found : Members) (c : Command) → IsUtf8 line → print (tree.json_tokens (json.object ms)) ≡ line → tree.MembersHaveNumbers ms
    → tree.members_depth ms ≤ 126 → of_members ms no_members ≡ Some found → command (object found) ≡ Ok c → as_written line ≡ Some c
plain_is line ms found c utf8 printed numbers shallow is asked = command_read line (object found) c utf8 (ap read (sym printed) ∙ line_read ms found numbers shallow is) asked

-- the members of a line, with `by` where it is there
abbrev by_member : Option ℕ → json.Members → json.Members
by_member None ms = ms
by_member (Some n) ms = json.member (codes "by") (json.number (decimal n)) ms

abbrev put_by : Option ℕ → Members → Members
put_by None found = found
put_by (Some n) found = put (codes "by") (number (unsigned n)) found

abbrev opening : List ℕ → Option ℕ → json.Members → json.Members
opening op by ms = json.member (codes "op") (json.string op) (by_member by ms)

abbrev opened : List ℕ → Option ℕ → Members
opened op by = put_by by (put (codes "op") (string op) no_members)

-- a caller has 32 bits
abbrev IsCaller : Option ℕ → Type 0
IsCaller by = IfSome by (λ n. n < 2 ^ 32)

by_utf8 : (by : Option ℕ) → IsCaller by → IsUtf8 (by_text by)
by_utf8 None h = IsUtf8-are_ascii [] refl
by_utf8 (Some n) h = IsUtf8-append (codes ",\"by\":") (decimal n) (IsUtf8-are_ascii (codes ",\"by\":") refl) (IsUtf8-from_ascii (decimal n) (IsAscii-decimal n (omega (arith, h))))

-- texts, each before the next
then_utf8 : (t rest : List ℕ) → are_ascii t ≡ true → IsUtf8 rest → IsUtf8 (t ++ rest)
then_utf8 t rest h u = IsUtf8-append t rest (IsUtf8-are_ascii t h) u

-- ---- wait

abbrev wait_members : Option ℕ → ℤ → ℤ → ℤ → json.Members
wait_members by epfd max timeout =
    opening (codes "wait") by (json.member (codes "ep") (json.number (signed_decimal epfd))
    (json.member (codes "max") (json.number (signed_decimal max)) (json.member (codes "timeout") (json.number (signed_decimal timeout)) json.no_members)))

abbrev wait_data : Option ℕ → ℤ → ℤ → ℤ → Members
wait_data by epfd max timeout =
    put (codes "timeout") (number (of_integer timeout)) (put (codes "max") (number (of_integer max)) (put (codes "ep") (number (of_integer epfd)) (opened (codes "wait") by)))

abbrev wait_line : Option ℕ → ℤ → ℤ → ℤ → List ℕ
wait_line by epfd max timeout = codes "{\"op\":\"wait\"" ++ wait_rest by epfd max timeout

wait_print : (by : Option ℕ) (epfd max timeout : ℤ) → print (tree.json_tokens (json.object (wait_members by epfd max timeout))) ≡ wait_line by epfd max timeout
unfolding escape_byte print_from
wait_print None epfd max timeout = refl
wait_print (Some n) epfd max timeout = refl

wait_found : (by : Option ℕ) (epfd max timeout : ℤ) → IsCaller by → IsShort epfd → IsShort max → IsShort timeout → of_members (wait_members by epfd max timeout) no_members ≡ Some (wait_data by epfd max timeout)
wait_found None epfd max timeout b e m t = rw (signed_read epfd e, signed_read max m, signed_read timeout t) refl
wait_found (Some n) epfd max timeout b e m t = rw (number_of-decimal n (omega (arith, b)), signed_read epfd e, signed_read max m, signed_read timeout t) refl

wait_numbers : (by : Option ℕ) (epfd max timeout : ℤ) → IsCaller by → IsShort epfd → IsShort max → IsShort timeout → tree.MembersHaveNumbers (wait_members by epfd max timeout)
wait_numbers None epfd max timeout b e m t = (tt, (signed_number epfd e, (signed_number max m, (signed_number timeout t, tt))))
wait_numbers (Some n) epfd max timeout b e m t = (tt, (IsNumber-decimal n (omega (arith, b)), (signed_number epfd e, (signed_number max m, (signed_number timeout t, tt)))))

wait_shallow : (by : Option ℕ) (epfd max timeout : ℤ) → tree.members_depth (wait_members by epfd max timeout) ≤ 126
wait_shallow None epfd max timeout = omega arith
wait_shallow (Some n) epfd max timeout = omega arith

wait_utf8 : (by : Option ℕ) (epfd max timeout : ℤ) → IsCaller by → IsShort epfd → IsShort max → IsShort timeout → IsUtf8 (wait_line by epfd max timeout)
wait_utf8 by epfd max timeout b e m t =
    then_utf8 (codes "{\"op\":\"wait\"") _ refl
    (IsUtf8-append (by_text by) _ (by_utf8 by b)
    (then_utf8 (codes ",\"ep\":") _ refl
    (IsUtf8-append (signed_decimal epfd) _ (signed_utf8 epfd e)
    (then_utf8 (codes ",\"max\":") _ refl
    (IsUtf8-append (signed_decimal max) _ (signed_utf8 max m)
    (then_utf8 (codes ",\"timeout\":") _ refl
    (IsUtf8-append (signed_decimal timeout) _ (signed_utf8 timeout t) (IsUtf8-are_ascii (codes "}") refl))))))))

wait_asked : (by : Option ℕ) (epfd max timeout : ℤ) → IsCaller by → SFits w32 epfd → SFits w32 max → IsShort timeout
    → command (object (wait_data by epfd max timeout)) ≡ Ok (call_command by (EpollWait (record { 0 = epfd }) max timeout))
unfolding command
wait_asked None epfd max timeout b e m t = rw (again_i32 epfd e, again_i32 max m, again_i64 timeout t) refl
wait_asked (Some n) epfd max timeout b e m t = rw (again_u32 n b, again_i32 epfd e, again_i32 max m, again_i64 timeout t) refl

pub wait_is : (by : Option ℕ) (epfd max timeout : ℤ) → IsCaller by → SFits w32 epfd → SFits w32 max → IsShort timeout
    → as_written (wait_line by epfd max timeout) ≡ Some (call_command by (EpollWait (record { 0 = epfd }) max timeout))
wait_is by epfd max timeout b e m t =
    let ep = short_i32 epfd e in
    let most = short_i32 max m in
    plain_is (wait_line by epfd max timeout) (wait_members by epfd max timeout) (wait_data by epfd max timeout) _ (wait_utf8 by epfd max timeout b ep most t) (wait_print by epfd max timeout)
    (wait_numbers by epfd max timeout b ep most t) (wait_shallow by epfd max timeout) (wait_found by epfd max timeout b ep most t) (wait_asked by epfd max timeout b e m t)

-- ---- read

abbrev read_members : Option ℕ → ℤ → ℕ → json.Members
read_members by fd n =
    opening (codes "read") by (json.member (codes "fd") (json.number (signed_decimal fd)) (json.member (codes "n") (json.number (decimal n)) json.no_members))

abbrev read_data : Option ℕ → ℤ → ℕ → Members
read_data by fd n = put (codes "n") (number (unsigned n)) (put (codes "fd") (number (of_integer fd)) (opened (codes "read") by))

abbrev read_line : Option ℕ → ℤ → ℕ → List ℕ
read_line by fd n = codes "{\"op\":\"read\"" ++ read_rest by fd n

read_print : (by : Option ℕ) (fd : ℤ) (n : ℕ) → print (tree.json_tokens (json.object (read_members by fd n))) ≡ read_line by fd n
unfolding escape_byte print_from
read_print None fd n = refl
read_print (Some b) fd n = refl

read_found : (by : Option ℕ) (fd : ℤ) (n : ℕ) → IsCaller by → IsShort fd → n < 2 ^ 32 → of_members (read_members by fd n) no_members ≡ Some (read_data by fd n)
read_found None fd n b f h = rw (signed_read fd f, number_of-decimal n (omega (arith, h))) refl
read_found (Some m) fd n b f h = rw (number_of-decimal m (omega (arith, b)), signed_read fd f, number_of-decimal n (omega (arith, h))) refl

read_numbers : (by : Option ℕ) (fd : ℤ) (n : ℕ) → IsCaller by → IsShort fd → n < 2 ^ 32 → tree.MembersHaveNumbers (read_members by fd n)
read_numbers None fd n b f h = (tt, (signed_number fd f, (IsNumber-decimal n (omega (arith, h)), tt)))
read_numbers (Some m) fd n b f h = (tt, (IsNumber-decimal m (omega (arith, b)), (signed_number fd f, (IsNumber-decimal n (omega (arith, h)), tt))))

read_shallow : (by : Option ℕ) (fd : ℤ) (n : ℕ) → tree.members_depth (read_members by fd n) ≤ 126
read_shallow None fd n = omega arith
read_shallow (Some m) fd n = omega arith

read_utf8 : (by : Option ℕ) (fd : ℤ) (n : ℕ) → IsCaller by → IsShort fd → n < 2 ^ 32 → IsUtf8 (read_line by fd n)
read_utf8 by fd n b f h =
    then_utf8 (codes "{\"op\":\"read\"") _ refl
    (IsUtf8-append (by_text by) _ (by_utf8 by b)
    (then_utf8 (codes ",\"fd\":") _ refl
    (IsUtf8-append (signed_decimal fd) _ (signed_utf8 fd f)
    (then_utf8 (codes ",\"n\":") _ refl
    (IsUtf8-append (decimal n) _ (IsUtf8-from_ascii (decimal n) (IsAscii-decimal n (omega (arith, h)))) (IsUtf8-are_ascii (codes "}") refl))))))

read_asked : (by : Option ℕ) (fd : ℤ) (n : ℕ) → IsCaller by → SFits w32 fd → n < 2 ^ 32 → command (object (read_data by fd n)) ≡ Ok (call_command by (Read (record { 0 = fd }) n))
unfolding command
read_asked None fd n b f h = rw (again_i32 fd f, again_u32 n h) refl
read_asked (Some m) fd n b f h = rw (again_u32 m b, again_i32 fd f, again_u32 n h) refl

pub read_is : (by : Option ℕ) (fd : ℤ) (n : ℕ) → IsCaller by → SFits w32 fd → n < 2 ^ 32 → as_written (read_line by fd n) ≡ Some (call_command by (Read (record { 0 = fd }) n))
read_is by fd n b f h =
    let short = short_i32 fd f in
    plain_is (read_line by fd n) (read_members by fd n) (read_data by fd n) _ (read_utf8 by fd n b short h) (read_print by fd n)
    (read_numbers by fd n b short h) (read_shallow by fd n) (read_found by fd n b short h) (read_asked by fd n b f h)

-- ---- write

abbrev write_members : Option ℕ → ℤ → List ℕ → json.Members
write_members by fd digits =
    opening (codes "write") by (json.member (codes "fd") (json.number (signed_decimal fd)) (json.member (codes "hex") (json.string digits) json.no_members))

abbrev write_data : Option ℕ → ℤ → List ℕ → Members
write_data by fd digits = put (codes "hex") (string digits) (put (codes "fd") (number (of_integer fd)) (opened (codes "write") by))

abbrev write_line : Option ℕ → ℤ → List ℕ → List ℕ
write_line by fd digits = codes "{\"op\":\"write\"" ++ write_rest by fd digits

write_escaped : (by : Option ℕ) (fd : ℤ) (digits : List ℕ) → print (tree.json_tokens (json.object (write_members by fd digits))) ≡ write_line by fd (escape digits)
unfolding escape_byte print_from
write_escaped None fd digits = ap (λ t. codes "{\"op\":\"write\",\"fd\":" ++ (signed_decimal fd ++ (codes ",\"hex\":\"" ++ t))) (append_assoc (escape digits) (34 ∷ []) (codes "}"))
write_escaped (Some n) fd digits =
    ap (λ t. codes "{\"op\":\"write\",\"by\":" ++ (decimal n ++ (codes ",\"fd\":" ++ (signed_decimal fd ++ (codes ",\"hex\":\"" ++ t))))) (append_assoc (escape digits) (34 ∷ []) (codes "}"))

write_found : (by : Option ℕ) (fd : ℤ) (digits : List ℕ) → IsCaller by → IsShort fd → of_members (write_members by fd digits) no_members ≡ Some (write_data by fd digits)
write_found None fd digits b f = rw (signed_read fd f) refl
write_found (Some n) fd digits b f = rw (number_of-decimal n (omega (arith, b)), signed_read fd f) refl

write_numbers : (by : Option ℕ) (fd : ℤ) (digits : List ℕ) → IsCaller by → IsShort fd → tree.MembersHaveNumbers (write_members by fd digits)
write_numbers None fd digits b f = (tt, (signed_number fd f, (tt, tt)))
write_numbers (Some n) fd digits b f = (tt, (IsNumber-decimal n (omega (arith, b)), (signed_number fd f, (tt, tt))))

write_shallow : (by : Option ℕ) (fd : ℤ) (digits : List ℕ) → tree.members_depth (write_members by fd digits) ≤ 126
write_shallow None fd digits = omega arith
write_shallow (Some n) fd digits = omega arith

write_utf8 : (by : Option ℕ) (fd : ℤ) (digits : List ℕ) → IsCaller by → IsShort fd → AllPass is_hex_digit digits → IsUtf8 (write_line by fd digits)
write_utf8 by fd digits b f h =
    then_utf8 (codes "{\"op\":\"write\"") _ refl
    (IsUtf8-append (by_text by) _ (by_utf8 by b)
    (then_utf8 (codes ",\"fd\":") _ refl
    (IsUtf8-append (signed_decimal fd) _ (signed_utf8 fd f)
    (then_utf8 (codes ",\"hex\":\"") _ refl (then_utf8 digits (codes "\"}") (hex_ascii digits h) (IsUtf8-are_ascii (codes "\"}") refl))))))

write_asked : (by : Option ℕ) (fd : ℤ) (digits bytes : List ℕ) → IsCaller by → SFits w32 fd → hex_value (string digits) ≡ Some bytes
    → command (object (write_data by fd digits)) ≡ Ok (call_command by (Write (record { 0 = fd }) bytes))
unfolding command
write_asked None fd digits bytes b f h = rw (again_i32 fd f, h) refl
write_asked (Some n) fd digits bytes b f h = rw (again_u32 n b, again_i32 fd f, h) refl

pub write_is : (by : Option ℕ) (fd : ℤ) (digits bytes : List ℕ) → IsCaller by → SFits w32 fd → decode_of digits ≡ Ok bytes
    → as_written (write_line by fd digits) ≡ Some (call_command by (Write (record { 0 = fd }) bytes))
write_is by fd digits bytes b f decoded =
    let short = short_i32 fd f in
    let all = (decode_of-ok digits bytes decoded).1 in
    plain_is (write_line by fd digits) (write_members by fd digits) (write_data by fd digits) _ (write_utf8 by fd digits b short all)
    (write_escaped by fd digits ∙ ap (write_line by fd) (hex_escape digits all)) (write_numbers by fd digits b short) (write_shallow by fd digits)
    (write_found by fd digits b short) (write_asked by fd digits bytes b f (ap accepted decoded))
