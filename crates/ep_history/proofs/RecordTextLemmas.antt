-- The texts of events and records, their members in the order of the keys.
use Rattle.std.proofs.Common.{Bool, List, ap, append_assoc, codes, decimal, drop, false, get_or, length, map, refl, sym, true, ℕ, ◌++◌, ◌+◌, ◌<◌, ◌≡◌, ◌∙◌}
use Rattle.std.proofs.lemmas.List.{drop_more}
use Rattle.json.specs.Print.{escape_byte}
use Rattle.serde_json.specs.View.{items_of}
use Rattle.serde_json.specs.Written.{comma_if, compact_text, items_text}
use Rattle.ep_base.specs.declared.call.Call.{Call}
use Rattle.ep_base.specs.declared.call.Event.TheVariants.{Call as CallOf, Tick}
use Rattle.ep_base.specs.declared.ids.Pid.{Pid}
use Rattle.ep_base.specs.declared.record.Record.{Record}
use Rattle.ep_history.specs.Answers.{answer_data}
use Rattle.ep_history.specs.Calls.{call_data}
use Rattle.ep_history.specs.Fields.{natural}
use Rattle.ep_history.specs.Records.{event_data, record_line}

pub call_event_text : (pid : Pid) (call : Call) → compact_text (event_data (CallOf pid call))
    ≡ codes "{\"call\":" ++ (compact_text (call_data call) ++ (codes ",\"pid\":" ++ (decimal pid.0 ++ codes "}")))
unfolding escape_byte
call_event_text pid call = refl

pub tick_text : (n : ℕ) → compact_text (event_data (Tick n)) ≡ codes "{\"tick\":" ++ (decimal n ++ codes "}")
unfolding escape_byte
tick_text n = refl

pub record_text : (r : Record) → record_line r
    ≡ codes "{\"answer\":" ++ (compact_text (answer_data r.answer) ++ (codes ",\"caller\":" ++ (decimal r.caller.0 ++ (codes ",\"event\":" ++ (compact_text (event_data r.event)
    ++ (codes ",\"picked\":[" ++ (items_text false (items_of (map natural r.picked)) ++ codes "}")))))))
unfolding escape_byte
record_text r = refl

-- eight parts, put one after another
pub eight_joined : (s a b c d e f g h i : List ℕ) → (((((((s ++ a) ++ b) ++ (c ++ d)) ++ e) ++ f) ++ g) ++ h) ++ i
    ≡ s ++ (a ++ (b ++ (c ++ (d ++ (e ++ (f ++ (g ++ (h ++ i))))))))
eight_joined s a b c d e f g h i = simp append_assoc

-- the next number of a list
pub next_natural : (s t : List ℕ) (later : Bool) (ns : List ℕ) (i d : ℕ) → i < length ns → s ++ items_text later (items_of (map natural (drop i ns))) ≡ t
    → (s ++ (comma_if later ++ decimal (get_or ns i d))) ++ items_text true (items_of (map natural (drop (i + 1) ns))) ≡ t
next_natural s t later ns i d lt before =
    append_assoc s _ _ ∙ ap (λ x. s ++ x) (append_assoc (comma_if later) (decimal (get_or ns i d)) _)
    ∙ ap (λ ms. s ++ items_text later (items_of (map natural ms))) (sym (drop_more ns i d lt)) ∙ before
