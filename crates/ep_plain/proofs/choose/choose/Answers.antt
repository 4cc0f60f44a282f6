use Rattle.std.proofs.Common.{◌≡◌, ℕ, List, SFits, w32, rules, take, map, sym, ap, ◌∙◌, subst}
use Rattle.std.specs.List.Sorted.{IsPermutation}
use Rattle.std.proofs.lemmas.Int.{to_z-of_z}
use Rattle.std.proofs.lemmas.List.{take-map}
use Rattle.std.proofs.lemmas.List.Elements.{All-take}
use Rattle.std.proofs.lemmas.List.Sorted.{All-permutation, IsNonDecreasingBy-from_sort_by_key, IsPermutation-map}
use Rattle.ep_interest.specs.declared.entry.Entry.{Entry}
use Rattle.ep_calls.specs.Wait.{AreKeyed, IsKeyed}
use Rattle.ep_calls.specs.declared.wait.Reportable.{Reportable}
use Rattle.ep_machine.specs.Watches.{number_in}
use Rattle.ep_plain.proofs.ChooseLemmas.{sorted_entries}
use Rattle.ep_plain.proofs.choose.choose.Goals as goal

pub returns : goal.returns
returns c =
    let p = c.args.parts.now in
    let sorted = c.sort_by_key.new.self.items in
    let fits : SFits w32 c.args.max = search rules in
    let count : c.most.result ≡ number_in c.args.max = c.most.ensures ∙ ap number_in (to_z-of_z w32 c.args.max fits) in
    let cut : c.truncate.new.self.items ≡ take (number_in c.args.max) sorted = c.truncate.ensures.items ∙ ap (λ (n : ℕ). take n sorted) count in
    record {
      found = map (λ (x : Reportable). x.entry) sorted;
      moved = subst (λ (xs : List Entry). IsPermutation xs (map (λ (x : Reportable). x.entry) sorted)) c.in_ok-chosen.ensures.entries
          (IsPermutation-map (λ (x : Reportable). x.entry) c.in_ok-chosen.chosen.items sorted c.sort_by_key.ensures.permutation);
      sorted = sorted_entries sorted (IsNonDecreasingBy-from_sort_by_key (λ (x : Reportable). x.entry.reported_in) _ c.in_ok-sort_by_key.ensures.sorted (λ a r q k. search rules));
      taken = ap (map (λ (x : Reportable). x.entry)) cut ∙ sym (take-map (λ (x : Reportable). x.entry) (number_in c.args.max) sorted);
      keyed =
          let P = IsKeyed p.tables p.clock p.interest in
          subst (λ (xs : List Reportable). AreKeyed p.tables p.clock p.interest xs) (sym cut)
          (All-take P (number_in c.args.max) sorted (All-permutation P c.in_ok-chosen.chosen.items sorted c.sort_by_key.ensures.permutation c.in_ok-chosen.ensures.keyed));
    }
