use Rattle.std.proofs.Common.{◌≡◌, ◌+◌, ◌≤◌, List, ◌++◌, length, vec_capacity, vec_len}
use Rattle.ep_base.specs.declared.answer.Answer.{Answer}
use Rattle.ep_base.specs.declared.record.Record.{Record}
use Rattle.ep_machine.specs.State.{State}
use Rattle.ep_calls.specs.Acts.{Answers}
use Rattle.ep_calls.proofs.runs.run.Given as goal

-- answers to the events that are left make answers to all
abbrev pub invariant-loop-caller : goal.invariant-loop-caller
invariant-loop-caller g l =
    let k = g.K.Kernel in
    record {
      room : vec_len l.answers + l.caller-iterator.rest.len ≤ vec_capacity l.answers;
      left : length l.caller-iterator.rest.items ≡ l.caller-iterator.rest.len;
      bounds : k.bounds l.kernel ≡ k.bounds l.fn.kernel;
      told : (rs : List Answer) (t : State) (then : List Record) → Answers (k.bounds l.fn.kernel) l.caller-iterator.rest.items rs (k.state l.kernel) t (k.past l.kernel) then → Answers (k.bounds l.fn.kernel) l.fn.events.items (l.answers.items ++ rs) (k.state l.fn.kernel) t (k.past l.fn.kernel) then;
    }
