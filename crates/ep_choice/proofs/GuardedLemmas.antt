-- Which instances are guarded.
use Rattle.std.proofs.Common.{◌≡◌, ◌∙◌, ◌+◌, ◌<◌, ◌||◌, ◌⊎◌, ◌↔◌, ℕ, suc, Bool, true, false, Contains, List, [], ◌∷◌, ap, cond, filter, get_or, inl, inr, length, map, nat_lt, refl, subst, sym, take, arith}
use Rattle.std.specs.List.{list_any}
use Rattle.std.proofs.lemmas.Bool.{cases_Bool, false≢true}
use Rattle.std.proofs.lemmas.List.{take_more}
use Rattle.std.proofs.lemmas.List.Elements.{All-contains}
use Rattle.std.proofs.lemmas.List.Recursion.{or_at, or_push}
use Rattle.ep_facts.proofs.BoolFacts.{same_bools}
use Rattle.ep_facts.proofs.NatFacts.{from_test, is_positive, same_test}
use Rattle.ep_base.specs.declared.ids.DescId.{DescId}
use Rattle.ep_calls.proofs.GraphLemmas.{Lives, number, numbers_apart}
use Rattle.ep_calls.specs.Climb.{AreNested, is_nested, is_nested_key, link_of}
use Rattle.ep_calls.specs.Readiness.{watches_of}
use Rattle.ep_calls.specs.Stands.{AreLinked, IsLinked, watch_at}
use Rattle.ep_choice.specs.Choose.{AreOfInstances}
use Rattle.ep_choice.specs.Guarded.{guarded_key, has_exclusive}
use Rattle.ep_climb.proofs.ReachLemmas.{back, forth, short_both}
use Rattle.ep_climb.specs.Reach.{IsFrom}
use Rattle.ep_interest.specs.Exclusive.{is_exclusive}
use Rattle.ep_interest.specs.Registrations.{Registrations, is_of}
use Rattle.ep_interest.specs.declared.entry.Entry.{Entry}
use Rattle.ep_law.proofs.GraphLemmas.{member_of_map}
use Rattle.ep_law.proofs.ListLemmas.{all_member, among, among_member, any_has, any_member, filtered_member, filtered_passes, member_filter, member_map}
use Rattle.ep_law.specs.Laws.{Member, has_instance}
use Rattle.ep_machine.specs.Watches.{is_legal}
use Rattle.ep_nest.proofs.ElementLemmas.{Contains-from_filter, Contains-from_map}
use Rattle.ep_nest.proofs.LegalityLemmas.{short_from_is_legal}
use Rattle.ep_nest.specs.Chains.{IsAbove, IsShort, LeadsBy}
use Rattle.ep_nest.specs.Descent.{AreBeneath}
use Rattle.ep_nest.specs.Links.{edges, ends_of, keys}
use Rattle.ep_nest.specs.declared.link.Link.{Link}
use Rattle.ep_nest.specs.declared.link.Way.TheVariants.{Down}
use Rattle.ep_order.proofs.AboveLemmas.{guarded_is_above}
use Rattle.ep_order.specs.Reach.{IsGuardedBy, all_links}
use Rattle.ep_table.specs.Value.{Seen, Sound as SoundTables}
use Rattle.ep_view.specs.KernelView.{KernelWatch}
use Rattle.ep_view.specs.Marking.{guarded_now, is_guard}

-- Asking one after another.
module _ (p : DescId → Bool) (ds : List DescId) (i : ℕ) (z : DescId) (lt : i < length ds) where
  pub found_one : p (get_or ds i z) ≡ true → list_any p ds ≡ true
  found_one h = or_at (list_any p) p refl (λ x xs. refl) ds i z lt h

  pub none_more : list_any p (take i ds) ≡ false → p (get_or ds i z) ≡ false → list_any p (take (i + 1) ds) ≡ false
  none_more h n = ap (list_any p) (take_more ds i z lt) ∙ (or_push (list_any p) p refl (λ x xs. refl) (take i ds) (get_or ds i z) ∙ (λ j. h j || n j))

-- A list that has something.

long_some : {X : Type 0} (xs : List X) (x : X) → Member x xs → nat_lt 0 (length xs) ≡ true
long_some [] x m = absurd m
long_some (y ∷ xs) x m = is_positive (length (y ∷ xs)) (omega arith)

-- An instance is guarded exactly if an exclusive registration is in it, or in one to which links lead down from it.
module _ (v : Seen) (tables : SoundTables v) (r : Registrations) (linked : AreLinked v r) (graph : List Link) (nested : AreNested v r graph) (legal : is_legal (edges graph) ≡ true) (instances : AreOfInstances v r) where
  abbrev es : List (ℕ × ℕ)
  es = edges graph

  abbrev watches : List KernelWatch
  watches = watches_of v r

  abbrev by_number : ℕ × ℕ → ℕ × ℕ
  by_number e = (number v e.0, number v e.1)

  links_are : (xs : List Entry) → all_links v.files (map (watch_at v.keys) xs) ≡ map by_number (edges (map (link_of r) (filter (is_nested v) xs)))
  links_are [] = refl
  links_are (x ∷ xs) =
      let rest = links_are xs in
      let w = watch_at v.keys x in
      let others = filter (λ (y : KernelWatch). has_instance v.files y.target) (map (watch_at v.keys) xs) in
      let nests = filter (is_nested v) xs in
      elim (is_nested v x) as (λ (b : Bool). map (λ (y : KernelWatch). (y.instance, y.target)) (cond b (w ∷ others) others) ≡ map by_number (edges (map (link_of r) (cond b (x ∷ nests) nests)))) [
        | true ↦ ap (λ (ls : List (ℕ × ℕ)). (w.instance, w.target) ∷ ls) rest
        | false ↦ rest
      ]

  all_are : all_links v.files watches ≡ map by_number es
  all_are = links_are r.entries ∙ ap (λ (ls : List Link). map by_number (edges ls)) (sym nested)

  ends_live : (e : ℕ × ℕ) → Contains es e → Lives v e.0 × Lives v e.1
  ends_live e there =
      let l = Contains-from_map (ends_of Down) graph e there in
      let m = Contains-from_map (link_of r) (filter (is_nested v) r.entries) l.0 (subst (λ (ls : List Link). Contains ls l.0) nested l.1) in
      let x = Contains-from_filter (is_nested v) r.entries m.0 m.1 in
      let link = All-contains (IsLinked v.keys) r.entries m.0 linked x.0 in
      let whole : (m.0.instance.0, m.0.desc.0) ≡ e = ap (ends_of Down) m.2 ∙ l.2 in
      subst (λ (d : ℕ × ℕ). Lives v d.0 × Lives v d.1) whole (link.instance, link.desc)

  short_all : IsShort (all_links v.files watches)
  short_all = subst IsShort (sym all_are) (short_both (number v) (Lives v) (numbers_apart v tables) es ends_live (short_from_is_legal es legal))

  of_instances : (w : KernelWatch) → Member w watches → has_instance v.files w.instance ≡ true
  of_instances w m =
      let y = member_of_map (watch_at v.keys) r.entries w m in
      ap (λ (u : KernelWatch). has_instance v.files u.instance) (sym y.2) ∙ all_member (λ (z : Entry). is_nested_key v z.instance ≡ true) r.entries y.0 instances y.1

  law : (e : ℕ) → (guarded_now watches e ≡ true) ↔ IsGuardedBy v.files watches e
  law e = guarded_is_above v.files watches e short_all of_instances

  abbrev pub HasGuard : ℕ → Type 0
  HasGuard k = (x : Entry) × Member x r.entries × (is_exclusive x ≡ true) × IsFrom es k x.instance.0

  lives_at : (x : Entry) → Member x r.entries → Lives v x.instance.0
  lives_at x m = (all_member (IsLinked v.keys) r.entries x linked m).instance

  pub guarded_has : (k : ℕ) → Lives v k → guarded_key v r k ≡ true → HasGuard k
  guarded_has k lives h =
      let g = (law (number v k)).0 h in
      let y = member_of_map (watch_at v.keys) r.entries g.0 g.1 in
      let at : g.0.instance ≡ number v y.0.instance.0 = ap (λ (u : KernelWatch). u.instance) (sym y.2) in
      (y.0, y.1, ap is_guard y.2 ∙ g.2, by y.0 y.1 (subst (λ (e : ℕ). (number v k ≡ e) ⊎ IsAbove (all_links v.files watches) (number v k) e) at g.3)) where
        by : (x : Entry) → Member x r.entries → (number v k ≡ number v x.instance.0) ⊎ IsAbove (all_links v.files watches) (number v k) (number v x.instance.0) → IsFrom es k x.instance.0
        by x m (inl e) = inl (numbers_apart v tables k x.instance.0 lives (lives_at x m) e)
        by x m (inr up) =
            let chain = back (number v) (Lives v) (numbers_apart v tables) es ends_live (suc up.0) k (number v k) (number v x.instance.0) lives refl
            (subst (λ (ls : List (ℕ × ℕ)). LeadsBy ls (suc up.0) (number v k) (number v x.instance.0)) all_are up.1) in
            inr (up.0, subst (LeadsBy es (suc up.0) k) (numbers_apart v tables chain.0 x.instance.0 chain.1 (lives_at x m) chain.2) chain.3)

  pub has_guarded : (k : ℕ) → HasGuard k → guarded_key v r k ≡ true
  has_guarded k g = (law (number v k)).1 (watch_at v.keys g.0, member_map (watch_at v.keys) g.0 r.entries g.1, g.2, by g.3) where
    by : IsFrom es k g.0.instance.0 → (number v k ≡ number v g.0.instance.0) ⊎ IsAbove (all_links v.files watches) (number v k) (number v g.0.instance.0)
    by (inl e) = inl (ap (number v) e)
    by (inr up) =
        inr (up.0, subst (λ (ls : List (ℕ × ℕ)). LeadsBy ls (suc up.0) (number v k) (number v g.0.instance.0)) (sym all_are) (forth (number v) (Lives v) (numbers_apart v tables) es ends_live (suc up.0) k g.0.instance.0 up.1))

  -- where nothing is exclusive
  pub none_guarded : (k : ℕ) → Lives v k → nat_lt 0 (length (filter is_exclusive r.entries)) ≡ false → guarded_key v r k ≡ false
  none_guarded k lives none = elim (cases_Bool (guarded_key v r k)) [
    | inl t ↦ let g = guarded_has k lives t in absurd (false≢true (sym none ∙ long_some (filter is_exclusive r.entries) g.0 (member_filter is_exclusive g.0 r.entries g.1 g.2)))
    | inr f ↦ f
  ]

  -- an instance with an exclusive registration
  exclusive_in : (d : DescId) → has_exclusive r d ≡ true → (x : Entry) × Member x r.entries × (is_exclusive x ≡ true) × (x.instance.0 ≡ d.0)
  exclusive_in d h =
      let x = any_member is_exclusive (filter (is_of d) r.entries) h in
      (x.0, filtered_member (is_of d) r.entries x.0 x.1, x.2, from_test x.0.instance.0 d.0 (filtered_passes (is_of d) r.entries x.0 x.1))

  in_exclusive : (d : DescId) (x : Entry) → Member x r.entries → is_exclusive x ≡ true → x.instance.0 ≡ d.0 → has_exclusive r d ≡ true
  in_exclusive d x m e at = any_has is_exclusive (filter (is_of d) r.entries) x (member_filter (is_of d) x r.entries m (same_test x.instance.0 d.0 at)) e

  pub own_guard : (d : DescId) → has_exclusive r d ≡ true → guarded_key v r d.0 ≡ true
  own_guard d h = let x = exclusive_in d h in has_guarded d.0 (x.0, x.1, x.2, inl (sym x.3))

  pub guard_beneath : (d : DescId) → Lives v d.0 → (ds : List DescId) → AreBeneath graph d.0 (keys ds) → has_exclusive r d ≡ false → list_any (has_exclusive r) ds ≡ guarded_key v r d.0
  guard_beneath d lives ds beneath none = same_bools (list_any (has_exclusive r) ds) (guarded_key v r d.0) to from where
    to : list_any (has_exclusive r) ds ≡ true → guarded_key v r d.0 ≡ true
    to h =
        let some = any_member (has_exclusive r) ds h in
        let x = exclusive_in some.0 some.2 in
        let below = (beneath some.0.0).0 (among some.0.0 (keys ds) (member_map (λ (e : DescId). e.0) some.0 ds some.1)) in
        has_guarded d.0 (x.0, x.1, x.2, inr (subst (λ (e : ℕ). IsAbove es d.0 e) (sym x.3) below))

    from : guarded_key v r d.0 ≡ true → list_any (has_exclusive r) ds ≡ true
    from h = let g = guarded_has d.0 lives h in by g.0 g.1 g.2 g.3 where
      by : (x : Entry) → Member x r.entries → is_exclusive x ≡ true → IsFrom es d.0 x.instance.0 → list_any (has_exclusive r) ds ≡ true
      by x m e (inl at) = absurd (false≢true (sym none ∙ in_exclusive d x m e (sym at)))
      by x m e (inr up) =
          let y = member_of_map (λ (e : DescId). e.0) ds x.instance.0 (among_member (keys ds) x.instance.0 ((beneath x.instance.0).1 up)) in
          any_has (has_exclusive r) ds y.0 y.1 (in_exclusive y.0 x m e (sym y.2))
