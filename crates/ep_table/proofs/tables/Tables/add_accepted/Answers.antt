use Rattle.std.proofs.Common.{IsSome, None, get_or, rules, slice_set, subst, sym, ◌≡◌}
use Rattle.ep_machine.specs.Files.{table_of}
use Rattle.ep_table.specs.Processes.{Process, entered, lists}
use Rattle.ep_machine.specs.Connections.{pending_in}
use Rattle.ep_table.specs.Accepting.{FindsFirst}
use Rattle.ep_table.specs.Value.{Seen, content_of, files_in, number_at, thing_number}
use Rattle.ep_table.specs.View.{value_of}
use Rattle.ep_table.proofs.AcceptAtLemmas.{accepts_at, fits_accepted}
use Rattle.ep_table.proofs.CreateLemmas.{lists_entered}
use Rattle.ep_table.proofs.tables.Tables.add_accepted.Given.{Over}
use Rattle.ep_table.proofs.tables.Tables.add_accepted.Goals as goal

there : (g : Over) (c : goal.After-enter g) → IsSome (table_of (value_of c.self.inside).files c.args.pid.0)
there g c = subst (λ (v : Seen). IsSome (table_of v.files c.args.pid.0)) (sym c.self.view_is) c.requires.process

written : (g : Over) (c : goal.After-enter g) → lists c.enter.new.processes.items ≡ slice_set (lists c.self.inside.processes.items) c.args.pid.0 (entered (get_or (lists c.self.inside.processes.items) c.args.pid.0 None) (record { description = c.in_ok-description.description; cloexec = c.args.cloexec }))
written g c = lists_entered (λ (p : Process). entered p (record { description = c.in_ok-description.description; cloexec = c.args.cloexec })) c.self.inside.processes.items c.reserve.new.processes.items c.enter.new.processes.items c.args.pid.0 c.reserve.ensures.lists c.enter.ensures

lives : (g : Over) (c : goal.After-enter g) → IsSome (number_at c.self.inside.store.keys c.args.found.listener)
lives g c = subst (λ (v : Seen). IsSome (number_at v.keys c.args.found.listener)) (sym c.self.view_is) c.requires.live

finds : (g : Over) (c : goal.After-enter g) → FindsFirst (files_in c.self.inside.store) (pending_in (content_of (files_in c.self.inside.store) (thing_number c.self.inside.store c.args.found.listener))) c.args.found
finds g c = search rules

pub invariant_of-self-2 : goal.invariant_of-self-2
invariant_of-self-2 g c =
    let f = fits_accepted c.self.inside c.accept.new.self (lists c.enter.new.processes.items) c.args.pid.0 c.args.found c.in_ok-description.description c.args.cloexec c.self.invariant c.known.ensures (there g c) (lives g c) (finds g c) c.in_ok-description.ensures.ok (written g c) in
    record { live = f.live; counts = f.counts; living = f.living }

pub returns-clause-ok : goal.returns-clause-ok
returns-clause-ok g c = accepts_at c.self.inside c.accept.new.self (lists c.enter.new.processes.items) c.args.pid.0 c.args.found c.in_ok-description.description c.args.cloexec c.self.invariant c.known.ensures (there g c) (lives g c) (finds g c) c.in_ok-description.ensures.ok (written g c) c.args.self.now c.self.view_is
