use Rattle.std.proofs.Common.{List, None, Option, Some, [], ap, ◌++◌, ◌∙◌, ◌∷◌, ◌≡◌}
use Rattle.ep_table.specs.Processes.{lists}
use Rattle.ep_table.specs.declared.table.Table.{Table}
use Rattle.ep_table.specs.declared.words.Descriptor.{Descriptor}
use Rattle.ep_table.proofs.OpeningLemmas.{fits_opening, three_names}
use Rattle.ep_table.proofs.tables.Tables.new_in.Goals as goal

pub invariant_of-result : goal.invariant_of-result
invariant_of-result g c =
    let key = c.in_ok-description.description in
    let t = c.in_ok-table.table in
    let one : c.push.new.self.items ≡ None ∷ [] = c.in_ok-push.ensures.items ∙ ap (λ (xs : List (Option (Table g.row.A.Denot))). xs ++ None ∷ []) c.new-processes.ensures.items in
    let two : c.push-2.new.self.items ≡ None ∷ Some t ∷ [] = c.in_ok-push-2.ensures.items ∙ ap (λ (xs : List (Option (Table g.row.A.Denot))). xs ++ Some t ∷ []) one in
    let e : lists c.push-2.new.self.items ≡ three_names key = ap lists two ∙ ap (λ (ds : List (Option Descriptor)). None ∷ Some ds ∷ []) c.in_ok-table.ensures in
    let f = fits_opening c.in_ok-store.store c.insert.new.self c.add_name.new.self c.add_name-2.new.self key c.plain.result (lists c.push-2.new.self.items) c.in_ok-store.ensures c.in_ok-description.ensures.ok c.add_name.ensures c.add_name-2.ensures e in
    record { live = f.live; counts = f.counts; living = f.living }
