use Rattle.std.proofs.Common.{slice_set, IsSome, None, get_or, pos, refl, subst, sym, unwrap_or, ℕ}
use Rattle.ep_machine.specs.Files.{numbers_of, description_in, table_of, under}
use Rattle.ep_table.specs.Processes.{Process, left, lists}
use Rattle.ep_table.specs.Value.{Seen, number_found, number_under, thing_number}
use Rattle.ep_table.proofs.CreateLemmas.{lists_entered}
use Rattle.ep_table.proofs.UnnameLemmas.{slot_counts}
use Rattle.ep_table.proofs.RenamesLemmas.{Renames, renames_left}
use Rattle.ep_table.proofs.DoesLemmas.{found_is}
use Rattle.std.proofs.Common.{Some, ◌<◌, ◌≡◌, []}
use Rattle.ep_table.specs.Value.{count_at}
use Rattle.ep_table.specs.View.{IsTables, value_of}
use Rattle.ep_base.specs.declared.ids.DescId.{DescId}
use Rattle.ep_table.specs.declared.tables.Tables.TheInside.{Inside}
use Rattle.ep_table.proofs.tables.Tables.unname.Given.{Over}
use Rattle.ep_table.proofs.tables.Tables.unname.Goals as goal

-- what stands there, over plain variables
at : {A : Type 0} (k : Inside A) (v : Seen) (p i : ℕ) (key : DescId) → value_of k ≡ v → number_found v (Some key) ≡ under v.files p (pos i) → IsSome (number_under v key) → description_in (get_or (unwrap_or (get_or (value_of k).files.tables p None) []) i None) ≡ Some (thing_number k.store key)
at k v p i key same e h =
    let f = subst (λ (w : Seen). number_found w (Some key) ≡ under w.files p (pos i)) (sym same) e in
    let g = subst (λ (w : Seen). IsSome (number_under w key)) (sym same) h in
    sym (found_is (value_of k) p (pos i) key f g)

some : {A : Type 0} (k : Inside A) (v : Seen) (inv : IsTables k) (p i : ℕ) (key : DescId) → value_of k ≡ v → IsSome (table_of v.files p) → number_found v (Some key) ≡ under v.files p (pos i) → IsSome (number_under v key) → 0 < count_at k.store.names (thing_number k.store key)
some k v inv p i key same is e h = slot_counts k inv p (subst (λ (w : Seen). IsSome (table_of w.files p)) (sym same) is) i (thing_number k.store key) (at k v p i key same e h)

pub drop_name-requires-clause-named : goal.drop_name-requires-clause-named
drop_name-requires-clause-named g c = some c.self.inside c.args.self.now c.self.invariant c.args.pid.0 c.args.number c.args.description c.self.view_is c.requires.process c.requires.named c.requires.live

renames : (g : Over) (c : goal.After-drop_name g) → Renames c.self.inside c.args.self.now c.args.pid.0 (slice_set (numbers_of c.args.self.now.files c.args.pid.0) c.args.number None) (lists c.leave.new.processes.items) c.drop_name.new.self
renames g c =
    let k = c.self.inside in
    let v = c.args.self.now in
    let written = lists_entered (λ (p : Process). left p c.args.number) k.processes.items k.processes.items c.leave.new.processes.items c.args.pid.0 refl c.leave.ensures in
    renames_left k v c.self.invariant c.self.view_is c.args.pid.0 c.requires.process (lists c.leave.new.processes.items) c.drop_name.new.self c.args.number (thing_number k.store c.args.description)
    (at k v c.args.pid.0 c.args.number c.args.description c.self.view_is c.requires.named c.requires.live) (some k v c.self.invariant c.args.pid.0 c.args.number c.args.description c.self.view_is c.requires.process c.requires.named c.requires.live) written c.drop_name.ensures

pub invariant_of-self : goal.invariant_of-self
invariant_of-self g c = let f = (renames g c).fits in record { live = f.live; counts = f.counts; living = f.living }

pub returns : goal.returns
returns g c = (renames g c).value
