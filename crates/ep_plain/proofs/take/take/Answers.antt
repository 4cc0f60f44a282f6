use Rattle.std.proofs.Common.{◌≡◌, ◌++◌, ◌+◌, ◌∙◌, [], ◌∷◌, Global, List, Vec, ap, drop, map, subst, sym}
use Rattle.std.specs.List.{filter_map}
use Rattle.std.proofs.lemmas.List.{get_or_default, map-append}
use Rattle.std.proofs.lemmas.List.Elements.{All-append}
use Rattle.ep_calls.specs.Wait.{AreKeyed, IsKeyed}
use Rattle.ep_calls.specs.declared.wait.Reportable.{Reportable}
use Rattle.ep_interest.specs.Registrations.{numbered}
use Rattle.ep_interest.specs.declared.entry.Entry.{Entry}
use Rattle.ep_plain.proofs.TakeLemmas.{taken_more, taken_none}
use Rattle.ep_plain.specs.Choose.{reportables_at}
use Rattle.ep_plain.proofs.take.take.Goals.{in-Some+in_ok-push, in_default}
use Rattle.ep_plain.proofs.take.take.Goals as goal

pub loop-pick-preserved : goal.loop-pick-preserved
loop-pick-preserved c =
    let p = c.args.parts.now in
    let ks = c.args.picks.now in
    let i = c.loop-pick.pick-index in
    let find = numbered (reportables_at p.tables p.clock p.interest c.args.instance) in
    let done = c.loop-pick.chosen.items in
    let it = c.pick-item.is ∙ get_or_default ks i c.pick-item.result 0 c.loop-pick-test.true in
    let P = IsKeyed p.tables p.clock p.interest in
    let entries : List Reportable → List Entry = map (λ x. x.entry) in
    elim c.match-find_number.branch [
      | in-Some+in_ok-push w ↦
          let x = w.in-Some.x in
          let items : c.match-find_number.chosen.items ≡ done ++ x ∷ [] = ap (λ (v : Vec Reportable Global). v.items) w.chosen-is ∙ w.in_ok-push.ensures.items in
          record {
            told =
                ap (λ (xs : List Reportable). entries xs ++ filter_map find (drop (i + 1) ks)) items
                ∙ (ap (λ (xs : List Entry). xs ++ filter_map find (drop (i + 1) ks)) (map-append (λ (y : Reportable). y.entry) done (x ∷ []))
                ∙ taken_more find (entries done) ks i c.loop-pick-test.true c.loop-pick.invariant.told x.entry (w.in-Some.ensures.entry ∙ ap find it));
            keyed = subst (λ (xs : List Reportable). AreKeyed p.tables p.clock p.interest xs) (sym items) (All-append P done (x ∷ []) c.loop-pick.invariant.keyed w.in-Some.ensures.keyed);
          }
      | in_default w ↦
          let same : c.match-find_number.chosen.items ≡ done = ap (λ (v : Vec Reportable Global). v.items) w.chosen-is in
          record {
            told =
                ap (λ (xs : List Reportable). entries xs ++ filter_map find (drop (i + 1) ks)) same
                ∙ taken_none find (entries done) ks i c.loop-pick-test.true c.loop-pick.invariant.told (w.in_default.ensures.entry ∙ ap find it);
            keyed = subst (λ (xs : List Reportable). AreKeyed p.tables p.clock p.interest xs) (sym same) c.loop-pick.invariant.keyed;
          }
    ]
