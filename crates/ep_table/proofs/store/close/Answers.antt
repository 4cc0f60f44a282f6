use Rattle.std.proofs.Common.{ap, false, is_some, sym, ◌||◌, ◌∙◌, ◌≡◌}
use Rattle.ep_machine.specs.Objects.{is_waiting}
use Rattle.ep_table.proofs.CloseLemmas.{gone, remains_by}
use Rattle.ep_table.specs.Closing.{other_key, remains}
use Rattle.ep_table.proofs.store.close.Goals as goal

pub returns-clause-slots : goal.returns-clause-slots
returns-clause-slots g c =
    let s = c.index_mut-shared.result.now in
    let t = c.close_shared-raised.new.shared in
    let e = c.args.end in
    let alone : is_some (other_key t e) ≡ false = ap is_some (sym c.other_in-other.ensures) ∙ (sym c.is_some.ensures ∙ c.if-is_some.false) in
    let accepted : is_waiting t.object ≡ false = sym c.is_waiting.ensures ∙ c.if-is_waiting.false in
    let goes : remains s e ≡ false = sym (remains_by s t e c.close_shared-raised.ensures.shared) ∙ (λ i. alone i || accepted i) in
    gone c.args.objects.now.slots c.remove.new.self.slots c.args.at s t e c.index_mut-shared.ensures.value c.remove.ensures.slots goes
