use Rattle.std.proofs.Common.{List, None, Option, Some, [], ap, arith, get_or, length, rules, sym, ℕ, ◌∙◌, ◌≡◌}
use Rattle.std.proofs.lemmas.Option.{none-some}
use Rattle.ep_table.specs.declared.words.Loss.{Loss}
use Rattle.ep_table.proofs.store.Store.new.Goals as goal

nothing : {X : Type 0} (xs : List (Option X)) (i : ℕ) (x : X) → xs ≡ [] → get_or xs i None ≡ Some x → ⊥
nothing {X} xs i x e h = none-some x (ap (λ (ys : List (Option X)). get_or ys i None) (sym e) ∙ h)

pub invariant_of-result : goal.invariant_of-result
invariant_of-result g c = record {
  descriptions = search rules;
  objects = search rules;
  backed = search rules;
  owned = search rules;
  counted = search rules;
  room = search rules;
  queue = search rules;
  keyed = search rules;
  fewer = search rules;
  taken = search rules;
  owners = search rules;
  instances = λ i d is. absurd (nothing c.new.result.slots i d c.new.ensures.empty is);
  connected = λ i s is. absurd (nothing c.new-2.result.slots i s c.new-2.ensures.empty is);
  loss_room = omega (arith, ap (λ (xs : List Loss). length xs) c.new-7.ensures.items, ap (λ (xs : List (ℕ × ℕ)). length xs) c.new-6.ensures);
}
