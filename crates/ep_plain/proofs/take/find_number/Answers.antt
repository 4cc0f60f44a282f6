use Rattle.std.proofs.Common.{◌≡◌, ◌∙◌, [], None, Some, arith, ap, nat_lt, not, option_copied, subst, sym, true}
use Rattle.std.specs.Option.{option_map}
use Rattle.std.proofs.lemmas.Bool.{false≢true}
use Rattle.std.proofs.lemmas.Bool.Decides.{nat_tests}
use Rattle.std.proofs.lemmas.List.Elements.{All-cons, All-nil}
use Rattle.ep_facts.proofs.NatFacts.{same_test}
use Rattle.ep_calls.proofs.EntryLemmas.{found_by, holds_under, number_of}
use Rattle.ep_calls.specs.Parts.{Parts}
use Rattle.ep_calls.specs.Readiness.{entry_bits, readiness}
use Rattle.ep_calls.specs.Stands.{IsLinked}
use Rattle.ep_calls.specs.Wait.{IsKeyed}
use Rattle.ep_calls.specs.declared.wait.Reportable.{Reportable}
use Rattle.ep_dates.specs.Dates.{event_at, id_at}
use Rattle.ep_interest.specs.Registrations.{IsSound, entry_under, number_under, numbered}
use Rattle.ep_interest.specs.declared.entry.Entry.{Entry}
use Rattle.ep_plain.proofs.TakeLemmas.{absent_none, other_none, some_numbered, undated_none}
use Rattle.ep_plain.proofs.take.find_number.Goals as goal

pub returns-then-not-is_dated-clause-entry : goal.returns-then-not-is_dated-clause-entry
returns-then-not-is_dated-clause-entry c =
    let p = c.args.parts.now in
    let sound = subst (λ (q : Parts). IsSound q.interest) c.parts.view_is c.known-2.ensures in
    undated_none p c.args.dates.now c.args.instance sound c.requires.shown c.requires.kept c.args.number (sym c.is_dated.ensures ∙ c.if-not-is_dated.true)

pub returns-in_err-entry-clause-entry : goal.returns-in_err-entry-clause-entry
returns-in_err-entry-clause-entry c =
    let p = c.args.parts.now in
    let k = c.args.number in
    let sound = subst (λ (q : Parts). IsSound q.interest) c.parts.view_is c.known-2.ensures in
    let none : entry_under p.interest (id_at c.args.dates.now.ids k) ≡ None = ap (entry_under p.interest) (sym c.id-id.ensures) ∙ subst (λ (q : Parts). entry_under q.interest c.id-id.result ≡ None) c.parts.view_is (sym c.get.ensures ∙ ap option_copied c.in_err-entry.was) in
    ap (option_map (λ (x : Reportable). x.entry)) c.from_residual.ensures ∙ absent_none p c.args.dates.now c.args.instance sound c.requires.shown c.requires.kept k none

pub returns-then-found-number-clause-entry : goal.returns-then-found-number-clause-entry
returns-then-found-number-clause-entry c =
    let p = c.args.parts.now in
    let k = c.args.number in
    let x = c.in_ok-entry.entry.now in
    let sound = subst (λ (q : Parts). IsSound q.interest) c.parts.view_is c.known-2.ensures in
    let at : entry_under p.interest (id_at c.args.dates.now.ids k) ≡ Some x = ap (entry_under p.interest) (sym c.id-id.ensures) ∙ subst (λ (q : Parts). entry_under q.interest c.id-id.result ≡ Some x) c.parts.view_is (sym c.in_ok-entry.ensures) in
    other_none p c.args.dates.now c.args.instance sound c.requires.shown c.requires.kept k x at (λ number of. c.if-found-number.true (c.found.view_is ∙ (number ∙ sym c.number.view_is)))

pub returns-then-ne-clause-entry : goal.returns-then-ne-clause-entry
returns-then-ne-clause-entry c =
    let p = c.args.parts.now in
    let k = c.args.number in
    let x = c.in_ok-entry.entry.now in
    let sound = subst (λ (q : Parts). IsSound q.interest) c.parts.view_is c.known-2.ensures in
    let at : entry_under p.interest (id_at c.args.dates.now.ids k) ≡ Some x = ap (entry_under p.interest) (sym c.id-id.ensures) ∙ subst (λ (q : Parts). entry_under q.interest c.id-id.result ≡ Some x) c.parts.view_is (sym c.in_ok-entry.ensures) in
    other_none p c.args.dates.now c.args.instance sound c.requires.shown c.requires.kept k x at (λ number of. false≢true (ap not (sym (same_test x.instance.0 c.args.instance.0 of)) ∙ (sym c.ne.ensures ∙ c.if-ne.true)))

pub reportable-requires-clause-target : goal.reportable-requires-clause-target
reportable-requires-clause-target c =
    let p = c.args.parts.now in
    let x = c.in_ok-entry.entry.now in
    (holds_under (IsLinked p.tables.keys) p.interest c.id-id.result x c.known.ensures.coherent.linked (subst (λ (q : Parts). entry_under q.interest c.id-id.result ≡ Some x) c.parts.view_is (sym c.in_ok-entry.ensures))).desc

pub returns-clause-entry : goal.returns-clause-entry
returns-clause-entry c =
    let p = c.args.parts.now in
    let k = c.args.number in
    let x = c.in_ok-entry.entry.now in
    let sound = subst (λ (q : Parts). IsSound q.interest) c.parts.view_is c.known-2.ensures in
    let at : entry_under p.interest (id_at c.args.dates.now.ids k) ≡ Some x = ap (entry_under p.interest) (sym c.id-id.ensures) ∙ subst (λ (q : Parts). entry_under q.interest c.id-id.result ≡ Some x) c.parts.view_is (sym c.in_ok-entry.ensures) in
    let of : x.instance.0 ≡ c.args.instance.0 = grind (arith, nat_tests, c.ne.ensures, c.if-ne.false) in
    let after : nat_lt 0 (event_at c.args.dates.now.since k) ≡ true = sym c.is_dated.ensures ∙ c.if-not-is_dated.false in
    ap (λ (y : Entry). Some y) c.reportable.ensures.entry ∙ some_numbered p c.args.dates.now c.args.instance sound c.requires.shown c.requires.kept k x at (sym c.found.view_is ∙ (c.if-found-number.false ∙ c.number.view_is)) of after

pub returns-clause-keyed : goal.returns-clause-keyed
returns-clause-keyed c =
    let p = c.args.parts.now in
    let id = c.id-id.result in
    let x = c.in_ok-entry.entry.now in
    let one = c.reportable.ensures in
    let at = subst (λ (q : Parts). entry_under q.interest id ≡ Some x) c.parts.view_is (sym c.in_ok-entry.ensures) in
    let P = IsKeyed p.tables p.clock p.interest in
    All-cons P c.reportable.result [] (record {
      key = ap (number_under p.interest) one.id ∙ (number_of p.interest id x at ∙ ap (λ (y : Entry). Some y.number) (sym one.entry));
      there = subst (λ (y : Entry). numbered p.interest.entries y.number ≡ Some y) (sym one.entry) (found_by p.interest id x at);
      bits = one.bits ∙ ap (entry_bits (readiness p.tables p.clock p.interest) p.tables p.clock) (sym one.entry);
    }) (All-nil P)
