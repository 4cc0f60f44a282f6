-- What comes through the instances that a walk reached.
use Rattle.ep_law.proofs.GraphLemmas.{member_of_map}
use Rattle.std.proofs.Common.{◌≡◌, ◌∙◌, ◌&&◌, ◌||◌, ℕ, Bool, true, List, None, Option, Some, ap, filter, is_some, refl, subst, sym}
use Rattle.std.specs.List.{list_any}
use Rattle.std.proofs.lemmas.Bool.{false≢true}
use Rattle.ep_facts.proofs.NatFacts.{from_test, same_nat}
use Rattle.ep_facts.proofs.BoolFacts.{both_true, same_bools}
use Rattle.ep_base.specs.declared.ids.DescId.{DescId}
use Rattle.ep_calls.specs.Climb.{is_nested, is_nested_key, link_of}
use Rattle.ep_calls.specs.Parts.{AreCoherent, Parts}
use Rattle.ep_calls.specs.Stands.{IsLinked}
use Rattle.ep_interest.specs.Passes.{has_id}
use Rattle.ep_interest.specs.Registrations.{IsSound, entry_under, ids, is_on, lets_in}
use Rattle.ep_interest.specs.declared.entry.Entry.{Entry}
use Rattle.ep_kernel.proofs.EntryLemmas.{is_under}
use Rattle.ep_kernel.proofs.PushLemmas.{gains_both, gains_same}
use Rattle.ep_kernel.proofs.ViewLemmas.{among_ids, find_entry}
use Rattle.ep_kernel.specs.Push.{Gains, comes_by, comes_in, comes_on, passes_found}
use Rattle.ep_climb.specs.Reach.{AreReached}
use Rattle.ep_law.proofs.ListLemmas.{all_member, among, among_member, any_has, any_member, filtered_member, filtered_passes, member_filter, member_map}
use Rattle.ep_law.specs.Laws.{Member}
use Rattle.ep_machine.specs.Lists.{is_among}
use Rattle.ep_nest.specs.declared.link.Link.{Link}
use Rattle.ep_calls.specs.Climb.{is_reached_key}
use Rattle.ep_rings.specs.KeyWalk.{entry_id}
use Rattle.ep_ready.specs.ReadyLists.{Lists}
use Rattle.ep_table.specs.Value.{number_under}

lets_some : (o : Option Entry) → lets_in o ≡ true → (x : Entry) × (o ≡ Some x)
lets_some None t = absurd (false≢true t)
lets_some (Some x) t = (x, refl)

module _ (n : ℕ) (p : Parts) (coherent : AreCoherent p) (sound : IsSound p.interest) (ks : List ℕ) (exact : AreReached n p.tables p.interest ks) where
  abbrev on : DescId → ℕ → Bool
  on d k = has_id (ids p.interest (filter (is_on d) p.interest.entries)) k

  abbrev lets : ℕ → Bool
  lets k = lets_in (entry_under p.interest (entry_id k))

  to : (k : ℕ) → list_any (λ i. comes_on p (record { 0 = i }) k) ks ≡ true → list_any (λ l. comes_by n p l k) p.graph ≡ true
  to k t =
      let r = p.interest in
      let found = any_member (λ i. comes_on p (record { 0 = i }) k) ks t in
      let d : DescId = record { 0 = found.0 } in
      let here = both_true (is_nested_key p.tables d) (on d k && lets k) found.2 in
      let more = both_true (on d k) (lets k) here.1 in
      let x = lets_some (entry_under r (entry_id k)) more.1 in
      let key : x.0.desc.0 ≡ d.0 = from_test x.0.desc.0 d.0 (sym (among_ids p.tables.keys r sound (is_on d) k x.0 x.1) ∙ more.0) in
      let nested : is_nested p.tables x.0 ≡ true = ap (λ (j : ℕ). is_nested_key p.tables (record { 0 = j })) key ∙ here.0 in
      let there = find_entry p.tables.keys r r.entries x.0.number x.0 (is_under r (entry_id k) x.0 x.1).there in
      let link = link_of r x.0 in
      let of : Member link p.graph = subst (Member link) (sym coherent.nested) (member_map (link_of r) x.0 (filter (is_nested p.tables) r.entries) (member_filter (is_nested p.tables) x.0 r.entries there nested)) in
      let reached = (both_true (is_some (number_under p.tables x.0.desc)) (is_reached_key n p.tables r x.0.desc) (sym (exact x.0.desc) ∙ (ap (is_among ks) key ∙ among found.0 ks found.1))).1 in
      let among_them : on x.0.desc k ≡ true = among_ids p.tables.keys r sound (is_on x.0.desc) k x.0 x.1 ∙ same_nat x.0.desc.0 in
      any_has (λ l. comes_by n p l k) p.graph link of (λ i. reached i && (among_them i && more.1 i))

  from : (k : ℕ) → list_any (λ l. comes_by n p l k) p.graph ≡ true → list_any (λ i. comes_on p (record { 0 = i }) k) ks ≡ true
  from k t =
      let r = p.interest in
      let found = any_member (λ l. comes_by n p l k) p.graph t in
      let l = found.0 in
      let here = both_true (is_reached_key n p.tables r l.inner) (on l.inner k && lets k) found.2 in
      let nests = filter (is_nested p.tables) r.entries in
      let y = member_of_map (link_of r) nests l (subst (Member l) coherent.nested found.1) in
      let inner : l.inner ≡ y.0.desc = ap (λ (j : Link). j.inner) (sym y.2) in
      let link = all_member (IsLinked p.tables.keys) r.entries y.0 coherent.linked (filtered_member (is_nested p.tables) r.entries y.0 y.1) in
      let lives : is_some (number_under p.tables l.inner) ≡ true = ap (λ (d : DescId). is_some (number_under p.tables d)) inner ∙ link.desc in
      let nested : is_nested_key p.tables l.inner ≡ true = ap (is_nested_key p.tables) inner ∙ filtered_passes (is_nested p.tables) r.entries y.0 y.1 in
      let reached : is_among ks l.inner.0 ≡ true = exact l.inner ∙ (λ j. lives j && here.0 j) in
      any_has (λ i. comes_on p (record { 0 = i }) k) ks l.inner.0 (among_member ks l.inner.0 reached) (λ j. nested j && here.1 j)

  pub gains_in : (old mid new : Lists) → Gains (λ k. passes_found (entry_under p.interest (entry_id k))) old mid → Gains (λ k. list_any (λ i. comes_on p (record { 0 = i }) k) ks) mid new → Gains (comes_in n p) old new
  gains_in old mid new a b =
      let passing : ℕ → Bool = λ k. passes_found (entry_under p.interest (entry_id k)) in
      gains_same (λ k. passing k || list_any (λ i. comes_on p (record { 0 = i }) k) ks) (comes_in n p) old new
      (λ k. ap (λ (b : Bool). passing k || b) (same_bools _ _ (to k) (from k)))
      (gains_both passing (λ k. list_any (λ i. comes_on p (record { 0 = i }) k) ks) old mid new a b)
