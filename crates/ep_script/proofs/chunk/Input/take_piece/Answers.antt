use Rattle.std.proofs.Common.{Bool, List, append_assoc, arith, drop, false, if◌then◌else◌, length, length-append, length-take, sym, take, true, ap, ℕ, ◌+◌, ◌++◌, ◌<◌, ◌≡◌, ◌≤◌, ◌∙◌}
use Rattle.std.proofs.lemmas.List.{take-append-drop}
use Rattle.ep_script.specs.Lines.{IsPlain}
use Rattle.ep_script.specs.Steps.{IsTooLong}
use Rattle.ep_script.proofs.Lines.{plain_append}
use Rattle.ep_script.proofs.chunk.Input.take_piece.Goals as goal

too_long : (most : ℕ) (l u : List ℕ) (n : ℕ) → IsPlain l → IsPlain (take n u) → n ≤ length u → most < length l + n → IsTooLong most (l ++ u)
too_long most l u n p q within h = record {
  front = l ++ take n u;
  rest = drop n u;
  plain = plain_append l (take n u) p q;
  long = omega (arith, length-append l (take n u), length-take n u);
  cut = ap (λ x. l ++ x) (sym (take-append-drop n u)) ∙ sym (append_assoc l (take n u) (drop n u));
}

extended : (is_ok : Bool) (new l u : List ℕ) → new ≡ (if is_ok then l ++ u else l) → IsPlain l → IsPlain u → IsPlain new
extended true new l u e p q = rw e (plain_append l u p q)
extended false new l u e p q = rw e p

pub returns-then-count-most-clause-long : goal.returns-then-count-most-clause-long
returns-then-count-most-clause-long c = λ _.
    rw (← c.unread-unread.ensures) (too_long _ _ _ c.plain_front-count.result c.requires.plain c.plain_front-count.ensures.plain c.plain_front-count.ensures.within (omega arith))

pub returns-clause-plain : goal.returns-clause-plain
returns-clause-plain c = extended _ _ _ _ c.extend_from_slice.ensures.items c.requires.plain c.plain_front-count.ensures.plain
