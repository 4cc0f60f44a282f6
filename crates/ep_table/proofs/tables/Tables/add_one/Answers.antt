use Rattle.std.proofs.Common.{IsSome, None, get_or, slice_set, subst, sym, ◌≡◌}
use Rattle.ep_machine.specs.Files.{table_of}
use Rattle.ep_table.specs.Processes.{Process, entered, lists}
use Rattle.ep_table.specs.Value.{Seen}
use Rattle.ep_table.specs.View.{value_of}
use Rattle.ep_table.proofs.AddLemmas.{fits_one}
use Rattle.ep_table.proofs.CreateLemmas.{creates_one, lists_entered}
use Rattle.ep_table.proofs.tables.Tables.add_one.Given.{Over}
use Rattle.ep_table.proofs.tables.Tables.add_one.Goals as goal

there : (g : Over) (c : goal.After-enter g) → IsSome (table_of (value_of c.self.inside).files c.args.pid.0)
there g c = subst (λ (v : Seen). IsSome (table_of v.files c.args.pid.0)) (sym c.self.view_is) c.requires.process

written : (g : Over) (c : goal.After-enter g) → lists c.enter.new.processes.items ≡ slice_set (lists c.self.inside.processes.items) c.args.pid.0 (entered (get_or (lists c.self.inside.processes.items) c.args.pid.0 None) (record { description = c.in_ok-description.description; cloexec = c.args.cloexec }))
written g c = lists_entered (λ (p : Process). entered p (record { description = c.in_ok-description.description; cloexec = c.args.cloexec })) c.self.inside.processes.items c.reserve.new.processes.items c.enter.new.processes.items c.args.pid.0 c.reserve.ensures.lists c.enter.ensures

pub invariant_of-self-2 : goal.invariant_of-self-2
invariant_of-self-2 g c = let f = fits_one c.self.inside c.insert.new.self (lists c.enter.new.processes.items) c.args.pid.0 c.in_ok-description.description c.args.cloexec c.self.invariant c.known.ensures.names_length (there g c) c.in_ok-description.ensures.ok.keys c.in_ok-description.ensures.ok.names (written g c) in record { live = f.live; counts = f.counts; living = f.living }

pub returns-clause-ok : goal.returns-clause-ok
returns-clause-ok g c = creates_one c.self.inside c.args.self.now c.insert.new.self (lists c.enter.new.processes.items) c.args.pid.0 c.in_ok-description.description c.args.object c.args.cloexec c.self.invariant.live c.self.view_is (there g c) c.in_ok-description.ensures.ok (written g c)
