use Rattle.std.proofs.Common.{List, subst, ℕ}
use Rattle.ep_names.specs.Names.{holds}
use Rattle.ep_names.specs.Numbers.{IsLowest, is_taken}
use Rattle.ep_names.proofs.LowestLemmas.{given_none, given_some}
use Rattle.ep_names.proofs.names.Names.given.Goals as goal

pub returns-then-number-lt-GIVEN_END : goal.returns-then-number-lt-GIVEN_END
returns-then-number-lt-GIVEN_END g c =
    let it = subst (λ (es : List (ℕ × ℕ)). IsLowest (is_taken es) 32768 c.lowest-number.result) c.numbers.ensures c.lowest-number.ensures in
    given_some (holds c.args.self.now) c.args.space c.lowest-number.result it c.if-number-lt-GIVEN_END.true

pub returns-else-number-lt-GIVEN_END : goal.returns-else-number-lt-GIVEN_END
returns-else-number-lt-GIVEN_END g c =
    let it = subst (λ (es : List (ℕ × ℕ)). IsLowest (is_taken es) 32768 c.lowest-number.result) c.numbers.ensures c.lowest-number.ensures in
    given_none (holds c.args.self.now) c.args.space c.lowest-number.result it c.if-number-lt-GIVEN_END.false
