-- What instances answered is what registrations of theirs find.
use Rattle.std.proofs.Common.{◌≡◌, ◌∙◌, ◌⊎◌, ◌&&◌, ◌==◌, [], Bool, List, None, Option, Some, ap, cond, false, inl, inr, map, nat_lt, not, refl, slice_index_or, subst, sym, true, ℕ}
use Rattle.std.specs.List.{list_any}
use Rattle.std.specs.Option.{option_map}
use Rattle.std.proofs.lemmas.Bool.{false≢true}
use Rattle.ep_facts.proofs.NatFacts.{from_test}
use Rattle.ep_facts.proofs.BoolFacts.{or_cases}
use Rattle.ep_base.specs.declared.ids.DescId.{DescId}
use Rattle.ep_base.specs.declared.ids.EntryId.{EntryId}
use Rattle.ep_calls.specs.Parts.{Parts}
use Rattle.ep_calls.specs.Stands.{number_at}
use Rattle.ep_choice.proofs.NarrowLemmas.{finds_idle, numbered_map, ready_idle}
use Rattle.ep_choice.proofs.WalkLemmas.{closed_none}
use Rattle.ep_choice.specs.Answers.{AreAnswers, KnowsNone, with_answer}
use Rattle.ep_choice.specs.Choose.{IsVain, awaited_key, finds_entry, finds_key, finds_under}
use Rattle.ep_choice.specs.declared.candidates.Candidates.{Candidates}
use Rattle.ep_climb.proofs.WalkLemmas.{reaches_one}
use Rattle.ep_climb.specs.Reach.{IsClosed, open_edges}
use Rattle.ep_interest.specs.Exclusive.{kept_passing, stops}
use Rattle.ep_interest.specs.Registrations.{Registrations, entry_found, entry_under, lets_in, number_under, numbered}
use Rattle.ep_interest.specs.declared.entry.Entry.{Entry}
use Rattle.ep_machine.specs.Lists.{is_among}
use Rattle.ep_machine.specs.State.{Waiter}
use Rattle.ep_machine.specs.Waits.{is_marked_at, waits_at}
use Rattle.ep_nest.specs.Links.{admitted_by, edges}
use Rattle.ep_nest.specs.declared.link.Link.{Link}
use Rattle.ep_rings.specs.KeyWalk.{entry_id}
use Rattle.ep_walk.specs.Walk.{Walk, with_noted, with_reached}
use Rattle.ep_table.specs.Value.{Seen}

noted_either : (w : Walk) (i j : ℕ) → is_among (with_noted w i).reached j ≡ true → (is_among w.reached j ≡ true) ⊎ (j ≡ i)
noted_either w i j t = by (nat_lt i w.room) t where
  by : (b : Bool) → is_among (cond b (with_reached w i) w).reached j ≡ true → (is_among w.reached j ≡ true) ⊎ (j ≡ i)
  by true t = elim (or_cases (is_among w.reached j) (j == i) (sym ((reaches_one w i (with_reached w i) refl).each j) ∙ t)) [ inl before ↦ inl before | inr here ↦ inr (from_test j i here) ]
  by false t = inl t

module _ (v : Seen) (now : ℕ) (r : Registrations) (ws : List Waiter) where
  -- registrations of one instance find the same
  same_instance : (x y : Entry) → y.instance.0 ≡ x.instance.0 → finds_entry v now r ws y ≡ finds_entry v now r ws x
  same_instance x y e = ap (λ (k : ℕ). finds_entry v now r ws (record x { instance = record { 0 = k } })) e

  pub none_answered : (c : Candidates) → KnowsNone c → AreAnswers v now r ws c
  none_answered c none = record {
    found = λ x t. absurd (false≢true (sym (ap (λ (ks : List ℕ). is_among ks x.instance.0) none.found) ∙ t));
    vain = λ x t. absurd (false≢true (sym (ap (λ (ks : List ℕ). is_among ks x.instance.0) none.vain) ∙ t));
  }

  module _ (id : EntryId) (x : Entry) (under : entry_under r id ≡ Some x) where
    found_is : finds_key v now r ws id.0 ≡ finds_entry v now r ws x
    found_is = ap (finds_under v now r ws) under

    pub answered_found : (c : Candidates) → AreAnswers v now r ws c → is_among c.found.reached x.instance.0 ≡ true → true ≡ finds_key v now r ws id.0
    answered_found c h t = sym (found_is ∙ h.found x t)

    pub answered_vain : (c : Candidates) → AreAnswers v now r ws c → is_among c.vain.reached x.instance.0 ≡ true → false ≡ finds_key v now r ws id.0
    answered_vain c h t = sym (found_is ∙ h.vain x t)

    -- with one answer more
    pub answers_on : (c new : Candidates) (b : Bool) → AreAnswers v now r ws c → b ≡ finds_key v now r ws id.0 → new ≡ with_answer c x.instance.0 b → AreAnswers v now r ws new
    answers_on c new b h is made = subst (AreAnswers v now r ws) (sym made) (by b (is ∙ found_is)) where
      by : (b : Bool) → b ≡ finds_entry v now r ws x → AreAnswers v now r ws (with_answer c x.instance.0 b)
      by true e = record {
        found = λ y t. elim (noted_either c.found x.instance.0 y.instance.0 t) [ inl before ↦ h.found y before | inr here ↦ same_instance x y here ∙ sym e ];
        vain = h.vain;
      }
      by false e = record {
        found = h.found;
        vain = λ y t. elim (noted_either c.vain x.instance.0 y.instance.0 t) [ inl before ↦ h.vain y before | inr here ↦ same_instance x y here ∙ sym e ];
      }

-- once some registrations pass nothing on any more
pub answers_kept : (v : Seen) (now : ℕ) (r new : Registrations) (ws : List Waiter) (target : DescId) (chosen : Option ℕ) → new.entries ≡ map (kept_passing target chosen) r.entries → (c : Candidates) → AreAnswers v now r ws c → AreAnswers v now new ws c
answers_kept v now r new ws target chosen is c h = record {
  found = λ x t. finds_idle v now r new (stops target chosen) is ws x x refl ∙ h.found x t;
  vain = λ x t. finds_idle v now r new (stops target chosen) is ws x x refl ∙ h.vain x t;
}

-- A walk that was asked in vain.
pub vain_none : (p : Parts) (w : Walk) → w.reached ≡ [] → IsVain p w.reached
vain_none p w none = record {
  closed = closed_none (open_edges p.interest p.graph) w none;
  none = ap (list_any (awaited_key p.tables p.clock p.interest p.parked)) none;
}

let_in : (b : Bool) (x : Entry) → lets_in (Some (cond b (record x { passes_in = 0 }) x)) ≡ lets_in (Some x)
let_in true x = refl
let_in false x = refl

-- it still is once some registrations pass nothing on any more
pub vain_kept : (p new : Parts) (target : DescId) (chosen : Option ℕ) (ks : List ℕ) → new.interest.entries ≡ map (kept_passing target chosen) p.interest.entries → new.interest.keys ≡ p.interest.keys → new ≡ record p { interest = new.interest } → IsVain p ks → IsVain new ks
vain_kept p new target chosen ks entries keys others h = subst (λ (q : Parts). IsVain q ks) (sym others) (record {
  closed = subst (λ (es : List (ℕ × ℕ)). IsClosed es ks) (sym (open_same p.graph)) h.closed;
  none = (λ i. list_any (λ (k : ℕ). ready_idle p.tables p.clock p.interest new.interest (stops target chosen) entries i (number_at p.tables.keys (record { 0 = k })) && waits_at p.parked k && not (is_marked_at p.parked k)) ks) ∙ h.none;
}) where
  kept_number : (x : Entry) → (kept_passing target chosen x).number ≡ x.number
  kept_number x = by (stops target chosen x) where
    by : (b : Bool) → (cond b (record x { passes_in = 0 }) x).number ≡ x.number
    by true = refl
    by false = refl

  let_found : (o : Option Entry) → lets_in (option_map (kept_passing target chosen) o) ≡ lets_in o
  let_found None = refl
  let_found (Some x) = let_in (stops target chosen x) x

  let_number : (o : Option ℕ) → lets_in (entry_found new.interest.entries o) ≡ lets_in (entry_found p.interest.entries o)
  let_number None = refl
  let_number (Some n) = ap (λ (xs : List Entry). lets_in (numbered xs n)) entries ∙ (ap lets_in (numbered_map (kept_passing target chosen) kept_number p.interest.entries n) ∙ let_found (numbered p.interest.entries n))

  let_under : (id : EntryId) → lets_in (entry_under new.interest id) ≡ lets_in (entry_under p.interest id)
  let_under id = ap (λ (os : List (Option ℕ)). lets_in (entry_found new.interest.entries (slice_index_or os id.0 None))) keys ∙ let_number (number_under p.interest id)

  open_same : (ls : List Link) → open_edges new.interest ls ≡ open_edges p.interest ls
  open_same ls = λ i. edges (admitted_by (λ k. let_under (entry_id k) i) ls)
