use Rattle.std.proofs.Common.{IsSome, false, subst, sym, ◌≡◌, true}
use Rattle.ep_machine.specs.Deaths.{named_in_tables}
use Rattle.ep_machine.specs.Files.{numbers_of}
use Rattle.ep_machine.specs.Lists.{enter, is_among}
use Rattle.ep_machine.specs.Tables.{dup, slot}
use Rattle.ep_table.specs.Value.{Things}
use Rattle.ep_table.specs.Processes.{Process, entered, lists}
use Rattle.ep_table.specs.Value.{Seen, number_of, number_under, thing_number}
use Rattle.ep_table.proofs.CreateLemmas.{lists_entered}
use Rattle.ep_table.proofs.UnnameLemmas.{named_counts}
use Rattle.ep_table.proofs.RenamesLemmas.{Renames, renames_dup}
use Rattle.std.proofs.Common.{ap, ◌∙◌}
use Rattle.ep_table.proofs.tables.Tables.add_name.Given.{Over}
use Rattle.ep_table.proofs.tables.Tables.add_name.Goals as goal

pub add_name-requires-clause-named : goal.add_name-requires-clause-named
add_name-requires-clause-named g c =
    named_counts c.self.inside c.self.invariant c.args.pid.0 (thing_number c.self.inside.store c.args.description)
    (subst (λ (v : Seen). is_among (named_in_tables v.files.tables) (number_of v c.args.description) ≡ true) (sym c.self.view_is) c.requires.named)

renames : (g : Over) (c : goal.After-add_name g) → Renames c.self.inside c.args.self.now c.args.pid.0 (enter (numbers_of c.args.self.now.files c.args.pid.0) (slot (thing_number c.self.inside.store c.args.description) false)) (lists c.enter.new.processes.items) c.add_name.new.self
renames g c =
    let k = c.self.inside in
    let live = subst (λ (v : Seen). IsSome (number_under v c.args.description)) (sym c.self.view_is) c.requires.live in
    let some = named_counts k c.self.invariant c.args.pid.0 (thing_number k.store c.args.description) (subst (λ (v : Seen). is_among (named_in_tables v.files.tables) (number_of v c.args.description) ≡ true) (sym c.self.view_is) c.requires.named) in
    let written = lists_entered (λ (p : Process). entered p (record { description = c.args.description; cloexec = false })) k.processes.items c.reserve.new.processes.items c.enter.new.processes.items c.args.pid.0 c.reserve.ensures.lists c.enter.ensures in
    renames_dup k c.args.self.now c.self.invariant c.self.view_is c.args.pid.0 c.requires.process (lists c.enter.new.processes.items) c.add_name.new.self (record { description = c.args.description; cloexec = false }) live some written c.add_name.ensures

pub invariant_of-self-2 : goal.invariant_of-self-2
invariant_of-self-2 g c = let f = (renames g c).fits in record { live = f.live; counts = f.counts; living = f.living }

pub returns-clause-ok : goal.returns-clause-ok
returns-clause-ok g c = (renames g c).value ∙ (λ i. record c.args.self.now {
  files = dup c.args.self.now.files c.args.pid.0 (number_of (c.self.view_is i) c.args.description);
  dying = (ap (λ (w : Things). w.dying) c.add_name.ensures ∙ ap (λ (w : Seen). w.dying) c.self.view_is) i;
})
