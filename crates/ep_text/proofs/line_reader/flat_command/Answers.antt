use Rattle.std.proofs.Common.{None, Some, ap, option_map, sym, ◌∙◌, ◌∷◌, ◌≡◌}
use Rattle.serde_json.specs.Data.{no_members}
use Rattle.serde_json.specs.Find.{get}
use Rattle.ep_text.specs.declared.key.Key.TheVariants as key
use Rattle.ep_text.specs.Key.{key_name}
use Rattle.ep_text.specs.Keys.{first_other, ok_map}
use Rattle.ep_text.specs.Ops.{operation_of}
use Rattle.ep_text.specs.Source.{flat_data, found_data, put_all}
use Rattle.ep_text.proofs.ReadLemmas.{flat_asked}
use Rattle.ep_text.proofs.line_reader.flat_command.Goals as goal

pub returns-in-Ok-2 : goal.returns-in-Ok-2
returns-in-Ok-2 c =
    let ms = c.args.members.now in
    let there : get (key_name key.Op) (flat_data ms) ≡ Some (found_data c.in-Some.named) = sym c.get.ensures ∙ ap (option_map found_data) c.in-Some.is in
    let known : first_other (key.Op ∷ key.By ∷ (operation_of c.in-Ok.op).keys) (put_all no_members ms) ≡ None =
    ap (λ ks. first_other (key.Op ∷ key.By ∷ ks) (put_all no_members ms)) (sym c.keys.ensures) ∙ c.has_only.ensures c.if-not-has_only.false in
    flat_asked ms (found_data c.in-Some.named) (operation_of c.in-Ok.op) c.in-Ok-2.command
    there
    (sym c.in_ok-op.ensures ∙ ap (ok_map operation_of) c.in-Ok.is)
    known
    (sym c.in_ok-command.ensures ∙ c.in-Ok-2.is)
