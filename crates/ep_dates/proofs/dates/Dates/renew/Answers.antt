use Rattle.std.proofs.Common.{◌≡◌, ◌<◌, false, length, subst, sym, true}
use Rattle.ep_dates.proofs.RowLemmas.{gone}
use Rattle.ep_dates.specs.Dates.{Dates}
use Rattle.ep_machine.specs.Lists.{is_among}
use Rattle.ep_rings.specs.PlacedRows.{PlacedRows, keys_at}
use Rattle.ep_dates.proofs.dates.Dates.renew.Goals as goal

pub push-requires-clause-fresh : goal.push-requires-clause-fresh
push-requires-clause-fresh c = λ j.
    let rows = c.self.inside.rows in
    let i = c.args.entry.now.instance.0 in
    let k = c.args.id.0 in
    let lt : i < length rows.rows = subst (λ (d : Dates). i < length d.rows.rows) (sym c.self.view_is) c.requires.place.row in
    let there : is_among (keys_at rows i) k ≡ true = subst (λ (d : Dates). is_among (keys_at d.rows i) k ≡ true) (sym c.self.view_is) c.requires.dated in
    subst (λ (v : PlacedRows). is_among (keys_at v j) k ≡ false) (sym c.remove.ensures) (gone rows c.known.ensures i k lt there j)
