-- What a history gains by one line.
use Rattle.std.proofs.Common.{Bool, Err, List, None, Ok, OnErr, Result, Some, [], ap, append-nil, false, if◌then◌else◌, inr, map, refl, sym, true, ℕ, MatchBool, ◌++◌, ◌≡◌, ◌∷◌, ◌∙◌}
use Rattle.ep_base.specs.Limits.{Limits}
use Rattle.ep_base.specs.declared.answer.Answer.{Answer}
use Rattle.ep_base.specs.declared.call.Event.{Event}
use Rattle.ep_base.specs.declared.ids.CallerId.{CallerId}
use Rattle.ep_base.specs.declared.record.Record.{Record}
use Rattle.ep_machine.specs.State.{State}
use Rattle.ep_calls.specs.Acts.{Acts, Adds, Stays, is_no_memory}
use Rattle.ep_script.specs.declared.summary.LineKind.{LineKind}
use Rattle.ep_script.specs.declared.summary.LineKind.TheVariants as kind
use Rattle.ep_version.specs.declared.version.Version.{Version}
use Rattle.ep_text.specs.Event.{event as command}
use Rattle.ep_text.specs.Line.{header_line, line_of}
use Rattle.ep_script.specs.Steps.{MayBecome, Tells}
use Rattle.ep_script.specs.Transcript.{Exchange, Grows, answered, asks, head, header_at, header_or, names, then_in, told}

-- by one step
by_step : (b : Bool) (limits : Limits) (x : Exchange) (s t : State) (past now : List Record) → MatchBool b (Stays s t past now) (Adds limits x.caller x.event x.answer s t past now)
    → (gained : List Record) × (now ≡ past ++ gained) × (map told gained ≡ (if b then [] else x ∷ []) ++ [])
by_step true limits x s t past now a = ([], a.history ∙ sym (append-nil past), refl)
by_step false limits x s t past now a =
    (record { caller = x.caller; event = x.event; answer = x.answer; picked = a.picked } ∷ [], a.added, refl)

pub grows_by_step : (limits : Limits) (caller : CallerId) (event : Event) (answer : Answer) (s t : State) (past now : List Record) → Acts limits caller event answer s t past now
    → Grows past now (answered (record { caller = caller; event = event; answer = answer }) ∷ [])
grows_by_step limits caller event answer s t past now a =
    let r = by_step (is_no_memory answer) limits (record { caller = caller; event = event; answer = answer }) s t past now a in
    (r.0, r.1, r.2)

-- ---- what a line asks for

asks_for_version : (v w : Version) (n : ℕ) (line : List ℕ) → Some w ≡ header_at n line → asks v n line ≡ names w
asks_for_version v w n line e = ap (λ o. header_or o (command v line)) (sym e)

asks_no_version : (v : Version) (n : ℕ) (line : List ℕ) → None ≡ header_at n line → asks v n line ≡ header_or None (command v line)
asks_no_version v n line e = ap (λ o. header_or o (command v line)) (sym e)

-- ---- what the desk then has

pub tells_head : (v w : Version) (n : ℕ) (line text : List ℕ) (h : List Record) → Some w ≡ header_at n line → text ≡ header_line w → Tells (asks v n line) v w n kind.Head text h h
tells_head v w n line text h e t = let asked = asks_for_version v w n line e in record {
  outcome = head w;
  of_line = sym asked;
  next_is = ap (λ a. then_in v a) (sym asked);
  text_is = t;
  grows = ([], sym (append-nil h), refl);
  kind_is = refl;
}

pub tells_answer : (v : Version) (n : ℕ) (line : List ℕ) (k : LineKind) (text : List ℕ) (h h' : List Record) (limits : Limits) (caller : CallerId) (event : Event) (answer : Answer) (s t : State)
    → None ≡ header_at n line → Some (caller, event) ≡ command v line → k ≡ (if is_no_memory answer then kind.Unrecorded else kind.Recorded) → text ≡ line_of v answer
    → Acts limits caller event answer s t h h' → Tells (asks v n line) v v n k text h h'
tells_answer v n line k text h h' limits caller event answer s t e f g w a = let asked = asks_no_version v n line e ∙ ap (λ o. header_or None o) (sym f) in record {
  outcome = answered (record { caller = caller; event = event; answer = answer });
  of_line = sym asked;
  next_is = ap (λ a. then_in v a) (sym asked);
  text_is = w;
  grows = grows_by_step limits caller event answer s t h h' a;
  kind_is = g;
}

-- where there was no memory to tell the answer
pub becomes_untold : {A E : Type 0} (r : Result A E) (v : Version) (n : ℕ) (line : List ℕ) (h h' : List Record) (limits : Limits) (caller : CallerId) (event : Event) (answer : Answer) (s t : State)
    → None ≡ header_at n line → Some (caller, event) ≡ command v line → Acts limits caller event answer s t h h' → OnErr r (MayBecome (asks v n line) h h')
becomes_untold (Ok x) v n line h h' limits caller event answer s t e f a = tt
becomes_untold (Err x) v n line h h' limits caller event answer s t e f a = inr (record {
  outcome = answered (record { caller = caller; event = event; answer = answer });
  of_line = sym (asks_no_version v n line e ∙ ap (λ o. header_or None o) (sym f));
  grows = grows_by_step limits caller event answer s t h h' a;
})
