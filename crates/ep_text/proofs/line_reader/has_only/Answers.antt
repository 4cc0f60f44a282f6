use Rattle.std.proofs.Common.{ap, sym, take, ◌∙◌, ◌∷◌}
use Rattle.serde_json.specs.Data.{no_members}
use Rattle.ep_text.specs.declared.key.Key.TheVariants as key
use Rattle.ep_text.specs.Key.{key_name}
use Rattle.ep_text.specs.Keys.{first_other}
use Rattle.ep_text.specs.Source.{found_data, put_all}
use Rattle.ep_text.proofs.FlatLemmas.{other_put, put_last}
use Rattle.ep_text.proofs.line_reader.has_only.Goals as goal

pub loop-member-preserved : goal.loop-member-preserved
loop-member-preserved c =
    let ks = key.Op ∷ key.By ∷ c.args.keys.now in
    let m = c.member-item.result in
    let before = put_all no_members (take c.loop-member.member-index c.args.members.now) in
    ap (first_other ks) (put_last c.args.members.now c.loop-member.member-index m c.loop-member-test.true (sym c.member-item.is))
    ∙ other_put ks (key_name m.key) (found_data m.value) before (c.is_known.ensures c.if-not-is_known.false) c.loop-member.invariant
