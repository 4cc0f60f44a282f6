-- One order, turn by turn.
use Rattle.std.proofs.Common.{◌≡◌, ◌++◌, ◌∷◌, ◌+◌, ◌<◌, ◌==◌, ◌∙◌, [], Bool, List, Option, Some, ap, arith, eqb-true, false, get_or, length, refl, subst, sym, take, true, ℕ}
use Rattle.std.specs.List.{slice_get}
use Rattle.std.proofs.lemmas.List.{append_assoc, take_more}
use Rattle.ep_base.specs.Limits.{Limits}
use Rattle.std.specs.Bool.{MatchBool}
use Rattle.ep_base.specs.declared.answer.Answer.{Answer}
use Rattle.ep_base.specs.declared.call.Event.{Event}
use Rattle.ep_base.specs.declared.ids.CallerId.{CallerId}
use Rattle.ep_base.specs.declared.record.Record.{Record}
use Rattle.ep_machine.specs.State.{State}
use Rattle.ep_calls.specs.Acts.{Acts, Adds, Stays, is_no_memory}
use Rattle.ep_calls.specs.Driver.{TellsNext}
use Rattle.ep_paths.specs.declared.choice.Choice.{Choice}
use Rattle.ep_orders.specs.declared.turn.Turn.{Turn}
use Rattle.ep_orders.specs.Orders.{SetsUp}
use Rattle.ep_orders.specs.Place.{Place, Steps, World, ways_at}
use Rattle.ep_orders.specs.Course.{Enters, GoesOn, PathGrows, Took}

-- ---- a step

pub entered : (limits : Limits) (caller : CallerId) (event : Event) (answer : Answer) (s t : State) (past now : List Record) (b : Bool)
    → is_no_memory answer ≡ b → b ≡ false → Acts limits caller event answer s t past now → Enters limits caller event s t past now
entered limits caller event answer s t past now b is isnt acts =
    let adds : Adds limits caller event answer s t past now =
    subst (λ z. MatchBool z (Stays s t past now) (Adds limits caller event answer s t past now)) (is ∙ isnt) acts in
    record {
      entry = record { caller = caller; event = event; answer = answer; picked = adds.picked };
      caller_is = refl;
      event_is = refl;
      steps = adds.goes;
      past_is = adds.added;
    }

-- ---- the setup

sets_up_last : (limits : Limits) (s : State) (es : List (CallerId × Event)) (rs : List Record) (t : State) (e : CallerId × Event) (r : Record) (u : State)
    → SetsUp limits s es rs t → r.caller ≡ e.0 → r.event ≡ e.1 → Steps limits t r u → SetsUp limits s (es ++ e ∷ []) (rs ++ r ∷ []) u
sets_up_last limits s [] [] t e r u up by does steps = (by, does, (u, subst (λ (z : State). Steps limits z r u) (sym up) steps, refl))
sets_up_last limits s [] (q ∷ rs) t e r u up by does steps = absurd up
sets_up_last limits s (d ∷ es) [] t e r u up by does steps = absurd up
sets_up_last limits s (d ∷ es) (q ∷ rs) t e r u up by does steps =
    (up.0, up.1, (up.2.0, up.2.1, sets_up_last limits up.2.0 es rs t e r u up.2.2 by does steps))

pub sets_up_next : (limits bounds : Limits) (s : State) (es : List (CallerId × Event)) (n : ℕ) (e : CallerId × Event) (event : Event) (rs : List Record) (t u : State)
    (start past now : List Record) → n < length es → e ≡ get_or es n e → event ≡ e.1 → bounds ≡ limits → past ≡ start ++ rs
    → SetsUp limits s (take n es) rs t → Enters bounds e.0 event t u past now
    → (more : List Record) × (now ≡ start ++ more) × SetsUp limits s (take (n + 1) es) more u
sets_up_next limits bounds s es n e event rs t u start past now lt is does same grown up enters =
    let r = enters.entry in (
      rs ++ r ∷ [],
      enters.past_is ∙ (ap (λ (z : List Record). z ++ r ∷ []) grown ∙ append_assoc start rs (r ∷ [])),
      subst (λ z. SetsUp limits s z (rs ++ r ∷ []) u) (ap (λ (z : CallerId × Event). take n es ++ z ∷ []) is ∙ sym (take_more es n e lt))
          (sets_up_last limits s (take n es) rs t e r u up enters.caller_is (enters.event_is ∙ does) (subst (λ z. Steps z t r u) same enters.steps)),
    )

-- ---- a turn

pub goes_on : (w : World) (p q : Place) (path then : List Choice) (place way count : ℕ) (turns later : List Turn) (past now : List Record) (moment : Option ℕ) (ways : List Turn) (t : Turn)
    → TellsNext p.state moment → ways ≡ ways_at w p moment → count ≡ length ways → PathGrows path place (record { way = way; ways = count }) then
    → slice_get ways way ≡ Some t → later ≡ turns ++ t ∷ []
    → (r : Record) × (now ≡ past ++ r ∷ []) × Took w p moment t q r → GoesOn w p q path then place turns later past now
goes_on w p q path then place way count turns later past now moment ways t tells ways_are counts grows gets turns_are took =
    let k = took.2 in
    record {
      choice = record { way = way; ways = count };
      turn = t;
      entry = took.0;
      goes = record {
        moment = moment;
        tells = tells;
        ways = counts ∙ ap length ways_are;
        way = subst (λ (z : List Turn). slice_get z way ≡ Some t) ways_are gets;
        asks = k.asks;
        steps = k.steps;
        after = k.after;
      };
      grows = grows;
      turns_are = turns_are;
      past_is = took.1;
    }

pub none_left : {X : Type 0} (xs ys : List X) (b : Bool) → b ≡ (length xs == 0) → b ≡ true → xs ≡ ys → ys ≡ []
none_left [] ys b is holds e = sym e
none_left (x ∷ xs) ys b is holds e =
    let none : length (x ∷ xs) ≡ 0 = eqb-true (length (x ∷ xs)) 0 (sym is ∙ holds) in
    absurd (omega (arith, none))
