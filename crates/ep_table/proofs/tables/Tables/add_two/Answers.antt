use Rattle.std.proofs.Common.{IsSome, None, get_or, slice_set, subst, sym, ◌≡◌}
use Rattle.ep_machine.specs.Files.{table_of}
use Rattle.ep_table.specs.Processes.{Process, entered, lists}
use Rattle.ep_table.specs.Value.{Seen}
use Rattle.ep_table.specs.View.{value_of}
use Rattle.ep_table.proofs.AddLemmas.{fits_two}
use Rattle.ep_table.proofs.CreateLemmas.{creates_two, lists_entered}
use Rattle.ep_table.proofs.tables.Tables.add_two.Given.{Over}
use Rattle.ep_table.proofs.tables.Tables.add_two.Goals as goal

there : (g : Over) (c : goal.After-enter_two g) → IsSome (table_of (value_of c.self.inside).files c.args.pid.0)
there g c = subst (λ (v : Seen). IsSome (table_of v.files c.args.pid.0)) (sym c.self.view_is) c.requires.process

written : (g : Over) (c : goal.After-enter_two g) → lists c.enter_two.new.processes.items
    ≡ slice_set (lists c.self.inside.processes.items) c.args.pid.0 (entered (entered (get_or (lists c.self.inside.processes.items) c.args.pid.0 None) (record { description = c.in_ok-first.first; cloexec = c.args.cloexec })) (record { description = c.in_ok-first.second; cloexec = c.args.cloexec }))
written g c = lists_entered (λ (p : Process). entered (entered p (record { description = c.in_ok-first.first; cloexec = c.args.cloexec })) (record { description = c.in_ok-first.second; cloexec = c.args.cloexec })) c.self.inside.processes.items c.reserve.new.processes.items c.enter_two.new.processes.items c.args.pid.0 c.reserve.ensures.lists c.enter_two.ensures

pub invariant_of-self-2 : goal.invariant_of-self-2
invariant_of-self-2 g c = let f = fits_two c.self.inside c.insert_two.new.self (lists c.enter_two.new.processes.items) c.args.pid.0 c.in_ok-first.first c.in_ok-first.second c.args.object c.args.cloexec c.self.invariant c.known.ensures.names_length (there g c) c.in_ok-first.ensures.ok (written g c) in record { live = f.live; counts = f.counts; living = f.living }

pub returns-clause-ok : goal.returns-clause-ok
returns-clause-ok g c = creates_two c.self.inside c.args.self.now c.insert_two.new.self (lists c.enter_two.new.processes.items) c.args.pid.0 c.in_ok-first.first c.in_ok-first.second c.args.object c.args.cloexec c.self.invariant.live c.self.view_is (there g c) c.in_ok-first.ensures.ok (written g c)
