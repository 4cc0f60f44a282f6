use Rattle.std.proofs.Common.{arith, ◌∙◌}
use Rattle.ep_text.proofs.LimitsText.{before, found, last, only, step, stuck, written}
use Rattle.ep_text.proofs.limits.parse_limits.Goals as goal

pub returns-in_err-descriptors-clause-found : goal.returns-in_err-descriptors-clause-found
returns-in_err-descriptors-clause-found c = λ limits s.
    let w0 = s.written in
    absurd (stuck w0 (omega (arith, s.in_range.descriptors)) c.in_err-descriptors.ensures.found)

pub returns-in_err-files-clause-found : goal.returns-in_err-files-clause-found
returns-in_err-files-clause-found c = λ limits s.
    let w0 = s.written in
    let w1 = step c.in_ok-descriptors.descriptors c.in_ok-descriptors.rest.now w0 (omega (arith, s.in_range.descriptors)) c.in_ok-descriptors.ensures.found in
    absurd (stuck w1.1 (omega (arith, s.in_range.files)) c.in_err-files.ensures.found)

pub returns-in_err-processes-clause-found : goal.returns-in_err-processes-clause-found
returns-in_err-processes-clause-found c = λ limits s.
    let w0 = s.written in
    let w1 = step c.in_ok-descriptors.descriptors c.in_ok-descriptors.rest.now w0 (omega (arith, s.in_range.descriptors)) c.in_ok-descriptors.ensures.found in
    let w2 = step c.in_ok-files.files c.in_ok-files.rest.now w1.1 (omega (arith, s.in_range.files)) c.in_ok-files.ensures.found in
    absurd (stuck w2.1 (omega (arith, s.in_range.processes)) c.in_err-processes.ensures.found)

pub returns-in_err-watches-clause-found : goal.returns-in_err-watches-clause-found
returns-in_err-watches-clause-found c = λ limits s.
    let w0 = s.written in
    let w1 = step c.in_ok-descriptors.descriptors c.in_ok-descriptors.rest.now w0 (omega (arith, s.in_range.descriptors)) c.in_ok-descriptors.ensures.found in
    let w2 = step c.in_ok-files.files c.in_ok-files.rest.now w1.1 (omega (arith, s.in_range.files)) c.in_ok-files.ensures.found in
    let w3 = step c.in_ok-processes.processes c.in_ok-processes.rest.now w2.1 (omega (arith, s.in_range.processes)) c.in_ok-processes.ensures.found in
    absurd (stuck w3.1 (omega (arith, s.in_range.watches)) c.in_err-watches.ensures.found)

pub returns-in_err-pipe_bytes-clause-found : goal.returns-in_err-pipe_bytes-clause-found
returns-in_err-pipe_bytes-clause-found c = λ limits s.
    let w0 = s.written in
    let w1 = step c.in_ok-descriptors.descriptors c.in_ok-descriptors.rest.now w0 (omega (arith, s.in_range.descriptors)) c.in_ok-descriptors.ensures.found in
    let w2 = step c.in_ok-files.files c.in_ok-files.rest.now w1.1 (omega (arith, s.in_range.files)) c.in_ok-files.ensures.found in
    let w3 = step c.in_ok-processes.processes c.in_ok-processes.rest.now w2.1 (omega (arith, s.in_range.processes)) c.in_ok-processes.ensures.found in
    let w4 = step c.in_ok-watches.watches c.in_ok-watches.rest.now w3.1 (omega (arith, s.in_range.watches)) c.in_ok-watches.ensures.found in
    absurd (stuck w4.1 (omega (arith, s.in_range.pipe_bytes)) c.in_err-pipe_bytes.ensures.found)

pub returns-in_err-sock_bytes-clause-found : goal.returns-in_err-sock_bytes-clause-found
returns-in_err-sock_bytes-clause-found c = λ limits s.
    let w0 = s.written in
    let w1 = step c.in_ok-descriptors.descriptors c.in_ok-descriptors.rest.now w0 (omega (arith, s.in_range.descriptors)) c.in_ok-descriptors.ensures.found in
    let w2 = step c.in_ok-files.files c.in_ok-files.rest.now w1.1 (omega (arith, s.in_range.files)) c.in_ok-files.ensures.found in
    let w3 = step c.in_ok-processes.processes c.in_ok-processes.rest.now w2.1 (omega (arith, s.in_range.processes)) c.in_ok-processes.ensures.found in
    let w4 = step c.in_ok-watches.watches c.in_ok-watches.rest.now w3.1 (omega (arith, s.in_range.watches)) c.in_ok-watches.ensures.found in
    let w5 = step c.in_ok-pipe_bytes.pipe_bytes c.in_ok-pipe_bytes.rest.now w4.1 (omega (arith, s.in_range.pipe_bytes)) c.in_ok-pipe_bytes.ensures.found in
    let l = last w5.1 in
    absurd (c.in_err-sock_bytes.ensures (l.0, omega (arith, l.1, s.in_range.sock_bytes)))

pub returns-clause-read : goal.returns-clause-read
returns-clause-read c =
    written c.new.result c.args.text.now _ c.new.ensures.in_range c.new.ensures.value
    (before c.in_ok-descriptors.rest.now c.in_ok-descriptors.ensures.read (before c.in_ok-files.rest.now c.in_ok-files.ensures.read (before c.in_ok-processes.rest.now c.in_ok-processes.ensures.read (before c.in_ok-watches.rest.now c.in_ok-watches.ensures.read (before c.in_ok-pipe_bytes.rest.now c.in_ok-pipe_bytes.ensures.read (only c.in_ok-pipe_bytes.rest.now c.in_ok-sock_bytes.sock_bytes c.in_ok-sock_bytes.ensures.0.0 c.in_ok-sock_bytes.ensures.1))))))

pub returns-clause-found : goal.returns-clause-found
returns-clause-found c = λ limits s.
    let w0 = s.written in
    let w1 = step c.in_ok-descriptors.descriptors c.in_ok-descriptors.rest.now w0 (omega (arith, s.in_range.descriptors)) c.in_ok-descriptors.ensures.found in
    let w2 = step c.in_ok-files.files c.in_ok-files.rest.now w1.1 (omega (arith, s.in_range.files)) c.in_ok-files.ensures.found in
    let w3 = step c.in_ok-processes.processes c.in_ok-processes.rest.now w2.1 (omega (arith, s.in_range.processes)) c.in_ok-processes.ensures.found in
    let w4 = step c.in_ok-watches.watches c.in_ok-watches.rest.now w3.1 (omega (arith, s.in_range.watches)) c.in_ok-watches.ensures.found in
    let w5 = step c.in_ok-pipe_bytes.pipe_bytes c.in_ok-pipe_bytes.rest.now w4.1 (omega (arith, s.in_range.pipe_bytes)) c.in_ok-pipe_bytes.ensures.found in
    let l = last w5.1 in
    found c.new.result _ limits c.new.ensures.in_range c.new.ensures.value w1.0 w2.0 w3.0 w4.0 w5.0 (c.in_ok-sock_bytes.ensures.1 ∙ l.1) s.in_range
