-- The texts of answers and of lists.
use Rattle.std.proofs.Common.{Bool, List, Some, [], ap, append_assoc, codes, decimal, drop, false, get_or, length, map, refl, sym, true, ℕ, ◌++◌, ◌+◌, ◌<◌, ◌∷◌, ◌≡◌, ◌∙◌}
use Rattle.std.proofs.lemmas.List.{drop_more}
use Rattle.json.specs.Print.{escape, escape_byte}
use Rattle.hex.specs.Hex.{encode_lower}
use Rattle.serde_json.specs.View.{items_of}
use Rattle.serde_json.specs.Written.{comma_if, compact_text, items_text}
use Rattle.ep_base.specs.Errno.{errno_name, errno_number}
use Rattle.ep_base.specs.declared.answer.Answer.TheVariants.{Bytes, Events, Failed, Named, Num, Refused, Time, Two}
use Rattle.ep_base.specs.declared.answer.Report.{Report}
use Rattle.ep_base.specs.declared.errno.Errno.{Errno}
use Rattle.ep_base.specs.declared.ids.Fd.{Fd}
use Rattle.ep_base.specs.declared.socket.Space.{Space}
use Rattle.ep_base.specs.declared.socket.Space.TheVariants.{Local, V4, V6}
use Rattle.ep_history.specs.Answers.{answer_data, report_data}
use Rattle.ep_history.specs.Fields.{integer}
use Rattle.ep_history.specs.Sockets.{space_text}

pub num_text : (n : ℕ) → compact_text (answer_data (Num n)) ≡ codes "{\"num\":" ++ (decimal n ++ codes "}")
unfolding escape_byte
num_text n = refl

-- a list of two values, and the end of its object
pair_closed : (x y : List ℕ) → (x ++ (44 ∷ (y ++ 93 ∷ []))) ++ 125 ∷ [] ≡ x ++ (44 ∷ (y ++ 93 ∷ 125 ∷ []))
pair_closed x y = append_assoc x _ _ ∙ ap (λ t. x ++ (44 ∷ t)) (append_assoc y _ _)

pub two_text : (first second : Fd) → compact_text (answer_data (Two first second))
    ≡ codes "{\"two\":[" ++ (compact_text (integer first.0) ++ (codes "," ++ (compact_text (integer second.0) ++ codes "]}")))
unfolding escape_byte
two_text first second = ap (λ t. codes "{\"two\":[" ++ t) (pair_closed (compact_text (integer first.0)) (compact_text (integer second.0)))

pub bytes_text : (bytes : List ℕ) → compact_text (answer_data (Bytes bytes)) ≡ codes "{\"bytes\":\"" ++ (escape (encode_lower bytes) ++ codes "\"}")
unfolding escape_byte
bytes_text bytes = ap (λ t. codes "{\"bytes\":\"" ++ t) (append_assoc (escape (encode_lower bytes)) (34 ∷ []) (codes "}"))

pub events_text : (reports : List Report) → compact_text (answer_data (Events reports))
    ≡ codes "{\"events\":[" ++ (items_text false (items_of (map report_data reports)) ++ codes "}")
unfolding escape_byte
events_text reports = refl

pub time_text : (value interval : ℕ) → compact_text (answer_data (Time value interval))
    ≡ codes "{\"time\":[" ++ (decimal value ++ (codes "," ++ (decimal interval ++ codes "]}")))
unfolding escape_byte
time_text value interval = ap (λ t. codes "{\"time\":[" ++ t) (pair_closed (decimal value) (decimal interval))

pub err_text : (e : Errno) → compact_text (answer_data (Refused e))
    ≡ codes "{\"err\":[" ++ (decimal (errno_number e) ++ (codes ",\"" ++ (escape (errno_name e) ++ codes "\"]}")))
unfolding escape_byte
err_text e =
    let name = escape (errno_name e) in
    ap (λ t. codes "{\"err\":[" ++ t) (pair_closed (decimal (errno_number e)) (34 ∷ (name ++ 34 ∷ [])))
    ∙ ap (λ t. codes "{\"err\":[" ++ (decimal (errno_number e) ++ (44 ∷ 34 ∷ t))) (append_assoc name (34 ∷ []) (93 ∷ 125 ∷ []))

pub failed_text : (e : Errno) → compact_text (answer_data (Failed e))
    ≡ codes "{\"failed\":[" ++ (decimal (errno_number e) ++ (codes ",\"" ++ (escape (errno_name e) ++ codes "\"]}")))
unfolding escape_byte
failed_text e =
    let name = escape (errno_name e) in
    ap (λ t. codes "{\"failed\":[" ++ t) (pair_closed (decimal (errno_number e)) (34 ∷ (name ++ 34 ∷ [])))
    ∙ ap (λ t. codes "{\"failed\":[" ++ (decimal (errno_number e) ++ (44 ∷ 34 ∷ t))) (append_assoc name (34 ∷ []) (93 ∷ 125 ∷ []))

pub name_text : (space : Space) (n : ℕ) → compact_text (answer_data (Named (Some (record { space = space; number = n }))))
    ≡ codes "{\"name\":[\"" ++ (space_text space ++ (codes "\"," ++ (decimal n ++ codes "]}")))
unfolding escape_byte
name_text V4 n = ap (λ t. codes "{\"name\":[\"v4\"," ++ t) (append_assoc (decimal n) (93 ∷ []) (125 ∷ []))
name_text V6 n = ap (λ t. codes "{\"name\":[\"v6\"," ++ t) (append_assoc (decimal n) (93 ∷ []) (125 ∷ []))
name_text Local n = ap (λ t. codes "{\"name\":[\"local\"," ++ t) (append_assoc (decimal n) (93 ∷ []) (125 ∷ []))

-- the next report of a list
pub next_report : (s t : List ℕ) (later : Bool) (rs : List Report) (i : ℕ) (d : Report) → i < length rs → s ++ items_text later (items_of (map report_data (drop i rs))) ≡ t
    → (s ++ (comma_if later ++ compact_text (report_data (get_or rs i d)))) ++ items_text true (items_of (map report_data (drop (i + 1) rs))) ≡ t
next_report s t later rs i d lt before =
    append_assoc s _ _ ∙ ap (λ x. s ++ x) (append_assoc (comma_if later) (compact_text (report_data (get_or rs i d))) _)
    ∙ ap (λ ds. s ++ items_text later (items_of (map report_data ds))) (sym (drop_more rs i d lt)) ∙ before
