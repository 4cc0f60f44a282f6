use Rattle.std.proofs.Common.{◌≡◌, ℕ, Option, slice_index_or, List, [], ◌∷◌, None, get_or, map, take, refl, sym, ap, ◌∙◌, unwrap_or}
use Rattle.std.proofs.lemmas.List.{map_more}
use Rattle.ep_interest.specs.Registrations.{number_under, reported}
use Rattle.ep_interest.specs.declared.entry.Entry.{Entry}
use Rattle.ep_calls.specs.Wait.{with_report, numbers_of}
use Rattle.ep_calls.specs.declared.wait.Reportable.{Reportable}
use Rattle.ep_calls.proofs.PickLemmas.{noted_more, noted_none, reported_one}
use Rattle.ep_calls.proofs.report.note.Goals as goal

pub loop-x-init : goal.loop-x-init
loop-x-init c = record { entries = sym (noted_none c.args.step c.args.interest.now.entries); keys = refl; added = refl }

pub loop-x-preserved : goal.loop-x-preserved
loop-x-preserved c = record {
  entries =
      let i = c.loop-x.x-index in
      let xs = c.args.chosen.now in
      let none : Reportable = c.x-item.result in
      let x : Reportable = get_or xs i none in
      let n = c.args.step in
      let ks = numbers_of (take i xs) in
      let number : unwrap_or (slice_index_or c.loop-x.interest.keys x.id.0 None) 0 ≡ x.entry.number =
      ap (λ (keys : List (Option ℕ)). unwrap_or (slice_index_or keys x.id.0 None) 0) c.loop-x.invariant.keys
      ∙ ap (λ (o : Option ℕ). unwrap_or o 0) (c.requires i none c.loop-x-test.true) in
      c.report.ensures.entries
      ∙ (ap (λ (y : Reportable). map (reported (unwrap_or (number_under c.loop-x.interest y.id) 0) n) c.loop-x.interest.entries) c.x-item.is
      ∙ (ap (λ (k : ℕ). map (reported k n) c.loop-x.interest.entries) number
      ∙ (reported_one n x.entry.number c.loop-x.interest.entries
      ∙ (ap (λ (ys : List Entry). map (with_report n (x.entry.number ∷ [])) ys) c.loop-x.invariant.entries
      ∙ (noted_more n x.entry.number ks c.args.interest.now.entries
      ∙ ap (λ (ms : List ℕ). map (with_report n ms) c.args.interest.now.entries) (sym (map_more (λ (y : Reportable). y.entry.number) xs i none c.loop-x-test.true)))))));
  keys = c.report.ensures.keys ∙ c.loop-x.invariant.keys;
  added = c.report.ensures.added ∙ c.loop-x.invariant.added;
}
