use Rattle.std.proofs.Common.{arith, refl}
use Rattle.std.proofs.lemmas.Fmt.{decimal_digit}
use Rattle.std.proofs.lemmas.List.{append_assoc}
use Rattle.ep_history.proofs.push.push_natural.Goals as goal

pub returns-then-n-lt10 : goal.returns-then-n-lt10
returns-then-n-lt10 c =
    rw (c.in_ok-push.ensures.items, c.in_ok-push_text.ensures, decimal_digit c.args.n (omega (arith, c.if-n-lt10.true)), append_assoc) refl
