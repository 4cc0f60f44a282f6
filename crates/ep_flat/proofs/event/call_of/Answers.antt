use Rattle.std.proofs.Common.{MatchOption, None, Option, Some, arith, inl, inr}
use Rattle.ep_base.specs.declared.call.Call.{Call}
use Rattle.ep_flat.specs.Flat.{AsksCall}
use Rattle.ep_flat.proofs.event.call_of.Goals as goal

-- what is said of none may be said otherwise
of_none : {P Q : Type 0} (R : Call → Type 0) (o : Option Call) → (P → Q) → MatchOption o P R → MatchOption o Q R
of_none R None f h = f h
of_none R (Some x) f h = h

pub returns-then-request-lt7-clause-ok : goal.returns-then-request-lt7-clause-ok
returns-then-request-lt7-clause-ok c =
    of_none (AsksCall c.args.request.now c.args.bytes.now) c.creation_of.result
    (λ h. elim h [ inl low ↦ inl low | inr high ↦ absurd (omega (arith, high, c.if-request-lt7.true)) ])
    (c.creation_of.ensures c.args.bytes.now)

pub returns-then-request-eq11-clause-ok : goal.returns-then-request-eq11-clause-ok
returns-then-request-eq11-clause-ok c =
    of_none (AsksCall c.args.request.now c.args.bytes.now) c.shutdown_of.result
    (λ h. inr (inr (inr (inl (c.if-request-eq11.true, h)))))
    (c.shutdown_of.ensures c.args.bytes.now)

pub returns-then-request-gt21-clause-ok : goal.returns-then-request-gt21-clause-ok
returns-then-request-gt21-clause-ok c =
    of_none (AsksCall c.args.request.now c.args.bytes.now) c.socket_call_of.result
    (λ h. elim h [
      | inl low ↦ absurd (omega (arith, low, c.if-request-gt21.true))
      | inr more ↦ elim more [ inl high ↦ inr (inr (inl high)) | inr lacks ↦ inr (inr (inr (inr lacks))) ]
    ])
    (c.socket_call_of.ensures c.args.bytes.now)

pub returns-clause-ok : goal.returns-clause-ok
returns-clause-ok c =
    of_none (AsksCall c.args.request.now c.args.bytes.now) c.other_call_of.result
    (λ h. elim h [
      | inl low ↦ absurd (omega (arith, low, c.if-request-lt7.false))
      | inr more ↦ elim more [
        | inl ten ↦ absurd (c.if-request-eq10.false ten)
        | inr rest ↦ elim rest [
          | inl eleven ↦ absurd (c.if-request-eq11.false eleven)
          | inr high ↦ inr (inl (high, omega (arith, c.if-request-gt21.false)))
        ]
      ]
    ])
    (c.other_call_of.ensures c.args.bytes.now)
