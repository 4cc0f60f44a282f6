-- Which timers a call on an object leaves as they were.
use Rattle.std.proofs.Common.{◌≡◌, ◌≢◌, ◌∙◌, ℕ, false, true, None, Option, Some, ap, is_some, refl, slice_index_or, sym, unwrap_or}
use Rattle.ep_facts.proofs.OptionFacts.{value_of}
use Rattle.ep_base.specs.declared.object.End.{End}
use Rattle.ep_law.proofs.EndLemmas.{set_object}
use Rattle.ep_law.specs.Laws.{HaveOwnEnds}
use Rattle.ep_machine.specs.Files.{Files, Place, is_live, object_at, object_number, place_of, side_of}
use Rattle.ep_machine.specs.Objects.{Object, ObjectCall, object_effect, plain}
use Rattle.ep_machine.specs.Tables.{affected}
use Rattle.ep_machine.specs.Timer.{Timer}
use Rattle.ep_object.proofs.TimerLemmas.{call_keeps_timer, timer_has_first}
use Rattle.ep_object.specs.Next.{timer_of}
use Rattle.ep_alarms.proofs.AreSetLemmas.{timer_in}
use Rattle.ep_alarms.proofs.MadeLemmas.{placed_is, timer_placed}
use Rattle.ep_table.specs.Value.{content_of}

none_is : (o : Option Timer) → is_some o ≡ false → o ≡ None
none_is None h = refl
none_is (Some t) h = absurd cc

effect_none : (x : Object) (e : End) (now : ℕ) (asked : ObjectCall) → timer_of x ≡ None → timer_of (object_effect x e now asked).1 ≡ None
effect_none x e now asked h = none_is _ (call_keeps_timer x e now asked ∙ ap (λ (o : Option Timer). is_some o) h)

abbrev there : Files → ℕ → Object
there f k = unwrap_or (slice_index_or f.objects k None) plain

same_place : (p q : Place) → p.object ≡ q.object → p.side ≡ q.side → p ≡ q
same_place p q a b = λ i. record { object = a i; side = b i }

module _ (f : Files) (number now : ℕ) (asked : ObjectCall) (own : HaveOwnEnds f) (q : Place) (its : place_of f number ≡ Some q) where
  abbrev after : Object
  after = (object_effect (content_of f number) (side_of f number) now asked).1

  abbrev g : Files
  g = affected f number (object_effect (content_of f number) (side_of f number) now asked)

  content : content_of f number ≡ there f q.object
  content = ap (λ (o : Option Place). unwrap_or (object_at f o) plain) its

  no_timer : (d : ℕ) → d ≢ number → (p : Place) → place_of f d ≡ Some p → p.object ≡ q.object → (t : Option Timer) → timer_of (there f p.object) ≡ t → t ≡ None
  no_timer d ne p is same None at = refl
  no_timer d ne p is same (Some t) at =
      let at_q : timer_of (there f q.object) ≡ Some t = ap (λ (k : ℕ). timer_of (there f k)) (sym same) ∙ at in
      let sides : p.side ≡ q.side = timer_has_first (there f p.object) p.side t at (own.ends d p is) ∙ sym (timer_has_first (there f q.object) q.side t at_q (own.ends number q its)) in
      absurd (ne (own.apart d number q (is ∙ ap (λ (r : Place). Some r) (same_place p q same sides)) its))

  timer_stays : (d : ℕ) → d ≢ number → (p : Place) → place_of f d ≡ Some p → timer_of (there g p.object) ≡ timer_of (there f p.object)
  timer_stays d ne p is =
      let target = object_number (place_of f number) in
      set_object (λ (y : Object). timer_of y ≡ timer_of (there f p.object)) f.objects target p.object (Some after)
      (λ e.
      let same : p.object ≡ q.object = e ∙ ap object_number its in
      let none : timer_of (there f p.object) ≡ None = no_timer d ne p is same (timer_of (there f p.object)) refl in
      let held : timer_of (content_of f number) ≡ None = ap timer_of content ∙ (ap (λ (k : ℕ). timer_of (there f k)) (sym same) ∙ none) in
      effect_none (content_of f number) (side_of f number) now asked held ∙ sym none)
      refl

  by_place : (d : ℕ) → d ≢ number → (o : Option Place) → place_of f d ≡ o → timer_placed g.objects o ≡ timer_placed f.objects o
  by_place d ne None is = refl
  by_place d ne (Some p) is = timer_stays d ne p is

  other_stays : (d : ℕ) → d ≢ number → timer_in g d ≡ timer_in f d
  other_stays d ne = placed_is g (place_of f d) ∙ (by_place d ne (place_of f d) refl ∙ sym (placed_is f (place_of f d)))

-- a call on an object changes no other timer than that of its description
pub object_calls_leave : (f : Files) (number now : ℕ) (asked : ObjectCall) → HaveOwnEnds f → is_live f number ≡ true
    → (d : ℕ) → d ≢ number → timer_in (affected f number (object_effect (content_of f number) (side_of f number) now asked)) d ≡ timer_in f d
object_calls_leave f number now asked own lives d ne = let p = value_of (place_of f number) lives in other_stays f number now asked own p.0 p.1 d ne

-- the description of the call is a timer's where it was
pub own_kept : (f : Files) (number now : ℕ) (asked : ObjectCall) → is_some (timer_in (affected f number (object_effect (content_of f number) (side_of f number) now asked)) number) ≡ is_some (timer_in f number)
own_kept f number now asked = by_place (place_of f number) refl where
  after_call : Object
  after_call = (object_effect (content_of f number) (side_of f number) now asked).1

  left : Files
  left = affected f number (object_effect (content_of f number) (side_of f number) now asked)

  by_place : (o : Option Place) → place_of f number ≡ o → is_some (timer_in left number) ≡ is_some (timer_in f number)
  by_place None is =
      ap (λ (t : Option Timer). is_some t) (placed_is left (place_of f number) ∙ (ap (timer_placed left.objects) is ∙ sym (placed_is f (place_of f number) ∙ ap (timer_placed f.objects) is)))
  by_place (Some q) is =
      let content_is : content_of f number ≡ there f q.object = ap (λ (o : Option Place). unwrap_or (object_at f o) plain) is in
      let kept : is_some (timer_of (there left q.object)) ≡ is_some (timer_of (there f q.object)) =
      set_object (λ (y : Object). is_some (timer_of y) ≡ is_some (timer_of (there f q.object))) f.objects (object_number (place_of f number)) q.object (Some after_call)
      (λ e. call_keeps_timer (content_of f number) (side_of f number) now asked ∙ ap (λ (y : Object). is_some (timer_of y)) content_is)
      refl in
      ap (λ (t : Option Timer). is_some t) (placed_is left (place_of f number) ∙ ap (timer_placed left.objects) is)
      ∙ (kept ∙ sym (ap (λ (t : Option Timer). is_some t) (placed_is f (place_of f number) ∙ ap (timer_placed f.objects) is)))
