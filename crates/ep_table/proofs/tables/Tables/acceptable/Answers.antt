use Rattle.std.proofs.Common.{ap, arith, false, sym, true, nat_le, ◌<◌, ◌∙◌, ◌≡◌, ◌≤◌, ℕ}
use Rattle.std.proofs.lemmas.Bool.Decides.{nat_tests}
use Rattle.ep_table.proofs.AcceptLemmas.{full_accept, other_accept}
use Rattle.ep_table.proofs.DoesLemmas.{found_is}
use Rattle.ep_table.proofs.LookupLemmas.{one_is}
use Rattle.ep_table.specs.Value.{Seen, number_of}
use Rattle.ep_table.proofs.tables.Tables.acceptable.Goals as goal

is_at_least : (m n : ℕ) → m ≤ n → nat_le m n ≡ true
is_at_least m n h = grind (arith, nat_tests, h)

is_below : (m n : ℕ) → n < m → nat_le m n ≡ false
is_below m n h = grind (arith, nat_tests, h)

pub returns-then-descriptors-lowest : goal.returns-then-descriptors-lowest
returns-then-descriptors-lowest g c =
    let v = c.args.self.now in
    let p = c.args.pid.0 in
    let n = one_is c.self.inside v p c.lowest.result c.deref.result.now c.self.view_is c.deref.ensures.value c.lowest.ensures in
    let x = found_is v p c.args.fd.0 c.in-Some.description c.in-Some.ensures.number c.in-Some.ensures.live in
    let h = is_at_least v.limits.descriptors c.lowest.result (omega (arith, c.descriptors.ensures.value, ap (λ (w : Seen). w.limits.descriptors) c.self.view_is)) in
    record { ok = tt; err = full_accept v p c.args.fd.0 (number_of v c.in-Some.description) x (ap (nat_le v.limits.descriptors) (sym n) ∙ h) }

pub returns-then-not-is_socket : goal.returns-then-not-is_socket
returns-then-not-is_socket g c =
    let v = c.args.self.now in
    let p = c.args.pid.0 in
    let n = one_is c.self.inside v p c.lowest.result c.deref.result.now c.self.view_is c.deref.ensures.value c.lowest.ensures in
    let x = found_is v p c.args.fd.0 c.in-Some.description c.in-Some.ensures.number c.in-Some.ensures.live in
    let below = c.if-descriptors-lowest.false in
    let h = is_below v.limits.descriptors c.lowest.result (omega (arith, below, c.descriptors.ensures.value, ap (λ (w : Seen). w.limits.descriptors) c.self.view_is)) in
    record { ok = tt; err = other_accept v p c.args.fd.0 (number_of v c.in-Some.description) x (ap (nat_le v.limits.descriptors) (sym n) ∙ h) c.object-object.result.now c.object-object.ensures (sym c.is_socket.ensures ∙ c.if-not-is_socket.true) }
