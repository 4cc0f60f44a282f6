-- What a walk reaches is what IN reaches.
use Rattle.std.proofs.Common.{◌≡◌, ◌∙◌, ◌<◌, ◌==◌, ◌&&◌, ◌⊎◌, ◌↔◌, ℕ, zero, suc, Bool, true, false, Contains, List, [], ◌∷◌, None, Some, ap, cond, filter, inl, inr, is_some, map, nat_lt, refl, subst, sym}
use Rattle.std.proofs.lemmas.List.Elements.{All-contains}
use Rattle.ep_facts.proofs.BoolFacts.{both_true, same_bools}
use Rattle.ep_base.specs.declared.ids.DescId.{DescId}
use Rattle.ep_calls.proofs.EntryKeyLemmas.{IsFound, IsKeyed, each_found, each_keyed}
use Rattle.ep_calls.proofs.EntryLemmas.{holds_under, key_of, member_of}
use Rattle.ep_calls.proofs.GraphLemmas.{Lives, number, numbers_apart}
use Rattle.ep_calls.specs.Climb.{AreNested, is_nested, is_reached_key, link_of}
use Rattle.ep_calls.specs.Stands.{AreLinked, IsLinked, watch_at}
use Rattle.ep_climb.proofs.WalkLemmas.{passed_of}
use Rattle.ep_climb.specs.Reach.{AreHome, AreReached, AreRoomy, IsFrom, Walks, open_edges, passed_by}
use Rattle.ep_interest.specs.Registrations.{IsSound, Registrations, entry_found, entry_under, id_of, lets_in}
use Rattle.ep_interest.specs.declared.entry.Entry.{Entry}
use Rattle.ep_law.proofs.GraphLemmas.{member_of_map}
use Rattle.ep_law.proofs.ListLemmas.{all_member, member_map}
use Rattle.ep_law.specs.Laws.{Member}
use Rattle.ep_machine.specs.Bits.{IN, asked}
use Rattle.ep_machine.specs.Lists.{is_among}
use Rattle.ep_machine.specs.Watches.{is_legal}
use Rattle.ep_nest.proofs.ChainLemmas.{short_part}
use Rattle.ep_nest.proofs.ElementLemmas.{Contains-from_filter, Contains-from_map, Contains-map}
use Rattle.ep_nest.proofs.LegalityLemmas.{short_from_is_legal}
use Rattle.ep_nest.specs.Chains.{IsAbove, IsShort, LeadsBy}
use Rattle.ep_nest.specs.Links.{admitted_by, edges, ends_of}
use Rattle.ep_nest.specs.declared.link.Link.{Link}
use Rattle.ep_nest.specs.declared.link.Way.TheVariants.{Down}
use Rattle.ep_order.proofs.ReachLemmas.{all_reached}
use Rattle.ep_order.specs.Reach.{IsReachedFrom, lets_by, open_links}
use Rattle.ep_rings.specs.KeyWalk.{entry_id}
use Rattle.ep_walk.specs.Walk.{Walk}
use Rattle.ep_table.specs.Value.{Seen, Sound as SoundTables, number_under as desc_number}
use Rattle.ep_view.specs.KernelView.{KernelWatch, reached_now}

-- Chains under other names for instances.
module _ (f : ℕ → ℕ) (P : ℕ → Type 0) (apart : (a b : ℕ) → P a → P b → f a ≡ f b → a ≡ b) (es : List (ℕ × ℕ)) (named : (e : ℕ × ℕ) → Contains es e → P e.0 × P e.1) where
  abbrev both : ℕ × ℕ → ℕ × ℕ
  both e = (f e.0, f e.1)

  pub forth : (n x y : ℕ) → LeadsBy es n x y → LeadsBy (map both es) n (f x) (f y)
  forth zero x y p = ap f p
  forth (suc n) x y p = (f p.0, Contains-map both es (x, p.0) p.1, forth n p.0 y p.2)

  pub back : (n x u v : ℕ) → P x → f x ≡ u → LeadsBy (map both es) n u v → (y : ℕ) × P y × (f y ≡ v) × LeadsBy es n x y
  back zero x u v px e p = (x, px, e ∙ p, refl)
  back (suc n) x u v px e p =
      let m = Contains-from_map both es (u, p.0) p.1 in
      let from : f m.0.0 ≡ u = λ j. (m.2 j).0 in
      let to : f m.0.1 ≡ p.0 = λ j. (m.2 j).1 in
      let ends = named m.0 m.1 in
      let meets : x ≡ m.0.0 = apart x m.0.0 px ends.0 (e ∙ sym from) in
      let link : Contains es (x, m.0.1) = subst (λ (w : ℕ). Contains es (w, m.0.1)) (sym meets) m.1 in
      let rest = back n m.0.1 p.0 v ends.1 to p.2 in
      (rest.0, rest.1, rest.2, (m.0.1, link, rest.3))

  pub short_both : IsShort es → IsShort (map both es)
  short_both short u v p =
      let m = Contains-from_map both es (u, p.0) p.1 in
      let from : f m.0.0 ≡ u = λ j. (m.2 j).0 in
      let chain = back 5 m.0.0 u v (named m.0 m.1).0 from p in
      short m.0.0 chain.0 chain.3

-- Tests that a registration on an instance passes.
middle : (a q : Bool) → (a && true && q) ≡ (a && q)
middle true q = refl
middle false q = refl

never : (a q : Bool) → (a && false && q) ≡ false
never true q = refl
never false q = refl

module _ (v : Seen) (tables : SoundTables v) (r : Registrations) (sound : IsSound r) (linked : AreLinked v r) (graph : List Link) (nested : AreNested v r graph) where
  abbrev lets : ℕ → Bool
  lets k = lets_in (entry_under r (entry_id k))

  abbrev es : List (ℕ × ℕ)
  es = open_edges r graph

  abbrev watches : List KernelWatch
  watches = map (watch_at v.keys) r.entries

  abbrev by_number : ℕ × ℕ → ℕ × ℕ
  by_number e = (number v e.0, number v e.1)

  under : (x : Entry) → IsKeyed r x → IsFound r x → entry_under r (id_of r x.number) ≡ Some x
  under x keyed found = ap (entry_found r.entries) keyed ∙ found

  -- a link is that of a registration
  link_entry : (l : Link) → Contains graph l → (x : Entry) × Contains r.entries x × (link_of r x ≡ l)
  link_entry l there =
      let m = Contains-from_map (link_of r) (filter (is_nested v) r.entries) l (subst (λ (ls : List Link). Contains ls l) nested there) in
      let x = Contains-from_filter (is_nested v) r.entries m.0 m.1 in
      (m.0, x.0, m.2)

  pub all_home : (w : Walk) → AreRoomy r w → AreHome graph w
  all_home w roomy link there =
      let x = link_entry link there in
      let at = under x.0 (All-contains (IsKeyed r) r.entries x.0 (each_keyed r sound) x.1) (All-contains (IsFound r) r.entries x.0 (each_found r sound) x.1) in
      subst (λ (l : Link). l.outer.0 < w.room) x.2 (roomy (id_of r x.0.number) x.0 at)

  pub ends_live : (e : ℕ × ℕ) → Contains es e → Lives v e.0 × Lives v e.1
  ends_live e there =
      let m = Contains-from_map (ends_of Down) (admitted_by lets graph) e there in
      let w = Contains-from_filter (λ (l : Link). lets l.entry.0) graph m.0 m.1 in
      let x = link_entry m.0 w.0 in
      let link = All-contains (IsLinked v.keys) r.entries x.0 linked x.1 in
      let whole : (x.0.instance.0, x.0.desc.0) ≡ e = ap (ends_of Down) x.2 ∙ m.2 in
      subst (λ (d : ℕ × ℕ). Lives v d.0 × Lives v d.1) whole (link.instance, link.desc)

  open_is : (xs : List Entry) → ((x : Entry) → Member x xs → lets (id_of r x.number).0 ≡ lets_in (Some x))
      → open_links v.files (map (watch_at v.keys) xs) ≡ map by_number (edges (admitted_by lets (map (link_of r) (filter (is_nested v) xs))))
  open_is [] h = refl
  open_is (x ∷ xs) h =
      let rest = open_is xs (λ y m. h y (inr m)) in
      let w = watch_at v.keys x in
      let passes = x.armed && nat_lt 0 (asked x.mask.0 IN) in
      let others = filter (lets_by v.files) (map (watch_at v.keys) xs) in
      let nests = filter (is_nested v) xs in
      let links = admitted_by lets (map (link_of r) nests) in
      let one : (b : Bool) → map (λ (y : KernelWatch). (y.instance, y.target)) (cond b (w ∷ others) others) ≡ map by_number (edges (cond b (link_of r x ∷ links) links)) =
      λ b. elim b as (λ (b : Bool). map (λ (y : KernelWatch). (y.instance, y.target)) (cond b (w ∷ others) others) ≡ map by_number (edges (cond b (link_of r x ∷ links) links))) [
        | true ↦ ap (λ (ls : List (ℕ × ℕ)). (w.instance, w.target) ∷ ls) rest
        | false ↦ rest
      ] in
      elim (is_nested v x) as (λ (b : Bool). map (λ (y : KernelWatch). (y.instance, y.target)) (cond (x.armed && b && nat_lt 0 (asked x.mask.0 IN)) (w ∷ others) others) ≡ map by_number (edges (admitted_by lets (map (link_of r) (cond b (x ∷ nests) nests))))) [
        | true ↦
            ap (λ (b : Bool). map (λ (y : KernelWatch). (y.instance, y.target)) (cond b (w ∷ others) others)) (middle x.armed (nat_lt 0 (asked x.mask.0 IN)))
            ∙ (one passes ∙ ap (λ (b : Bool). map by_number (edges (cond b (link_of r x ∷ links) links))) (sym (h x (inl refl))))
        | false ↦ ap (λ (b : Bool). map (λ (y : KernelWatch). (y.instance, y.target)) (cond b (w ∷ others) others)) (never x.armed (nat_lt 0 (asked x.mask.0 IN))) ∙ rest
      ]

  pub all_open : open_links v.files watches ≡ map by_number es
  all_open =
      open_is r.entries (λ x m. ap lets_in (under x (all_member (IsKeyed r) r.entries x (each_keyed r sound) m) (all_member (IsFound r) r.entries x (each_found r sound) m)))
      ∙ ap (λ (ls : List Link). map by_number (edges (admitted_by lets ls))) (sym nested)

  module _ (legal : is_legal (edges graph) ≡ true) where
    short_edges : IsShort es
    short_edges = short_part es (edges graph) part (short_from_is_legal (edges graph) legal) where
      part : (a b : ℕ) → Contains es (a, b) → Contains (edges graph) (a, b)
      part a b there =
          let m = Contains-from_map (ends_of Down) (admitted_by lets graph) (a, b) there in
          let w = Contains-from_filter (λ (l : Link). lets l.entry.0) graph m.0 m.1 in
          subst (Contains (edges graph)) m.2 (Contains-map (ends_of Down) graph m.0 w.0)

    pub short : IsShort (open_links v.files watches)
    short = subst IsShort (sym all_open) (short_both (number v) (Lives v) (numbers_apart v tables) es ends_live short_edges)

    module _ (n : ℕ) (old new : Walk) (walks : Walks n r graph old new) where
      law : (e : ℕ) → (reached_now v.files n watches e ≡ true) ↔ IsReachedFrom v.files n watches e
      law e = all_reached v.files n watches e short

      to : (i : DescId) → is_among new.reached i.0 ≡ true → (is_some (desc_number v i) ≡ true) × (is_reached_key n v r i ≡ true)
      to i t =
          let w = walks.sound i.0 t in
          let x = passed_of n (entry_under r (entry_id w.0)) w.1 w.2 in
          let link = holds_under (IsLinked v.keys) r (entry_id w.0) x.0 linked x.1 in
          let there = member_map (watch_at v.keys) x.0 r.entries (member_of r (entry_id w.0) x.0 x.1) in
          let down : IsFrom es i.0 x.0.instance.0 = subst (λ (d : DescId). IsFrom es i.0 d.0) (sym x.3) w.3 in
          (live link.instance down, (law (number v i.0)).1 (watch_at v.keys x.0, there, x.2, numbers x.0 down)) where
            live : {j : ℕ} → Lives v j → IsFrom es i.0 j → is_some (desc_number v i) ≡ true
            live h (inl e) = subst (Lives v) (sym e) h
            live h (inr up) = (ends_live (i.0, up.1.0) up.1.1).0

            numbers : (x : Entry) → IsFrom es i.0 x.instance.0 → (number v i.0 ≡ number v x.instance.0) ⊎ IsAbove (open_links v.files watches) (number v i.0) (number v x.instance.0)
            numbers x (inl e) = inl (ap (number v) e)
            numbers x (inr up) = inr (up.0, subst (λ (ls : List (ℕ × ℕ)). LeadsBy ls (suc up.0) (number v i.0) (number v x.instance.0)) (sym all_open) (forth (number v) (Lives v) (numbers_apart v tables) es ends_live (suc up.0) i.0 x.instance.0 up.1))

      from : (i : DescId) → (is_some (desc_number v i) && is_reached_key n v r i) ≡ true → is_among new.reached i.0 ≡ true
      from i t =
          let holds = both_true (is_some (desc_number v i)) (is_reached_key n v r i) t in
          let w = (law (number v i.0)).0 holds.1 in
          let x = member_of_map (watch_at v.keys) r.entries w.0 w.1 in
          let key = key_of r sound x.0 x.1 in
          let link = all_member (IsLinked v.keys) r.entries x.0 linked x.1 in
          let same : w.0.instance ≡ number v x.0.instance.0 = ap (λ (u : KernelWatch). u.instance) (sym x.2) in
          let passes : (x.0.passes_in == n) ≡ true = ap (λ (u : KernelWatch). u.passes_in == n) x.2 ∙ w.2 in
          walks.complete i.0 key.0.0 x.0.instance (ap (passed_by n) key.1 ∙ ap (λ (b : Bool). cond b (Some x.0.instance) None) passes)
          (keys x.0 link.instance holds.0 (subst (λ (e : ℕ). (number v i.0 ≡ e) ⊎ IsAbove (open_links v.files watches) (number v i.0) e) same w.3)) where
            keys : (x : Entry) → Lives v x.instance.0 → Lives v i.0 → (number v i.0 ≡ number v x.instance.0) ⊎ IsAbove (open_links v.files watches) (number v i.0) (number v x.instance.0) → IsFrom es i.0 x.instance.0
            keys x h k (inl e) = inl (numbers_apart v tables i.0 x.instance.0 k h e)
            keys x h k (inr up) =
                let chain = back (number v) (Lives v) (numbers_apart v tables) es ends_live (suc up.0) i.0 (number v i.0) (number v x.instance.0) k refl
                (subst (λ (ls : List (ℕ × ℕ)). LeadsBy ls (suc up.0) (number v i.0) (number v x.instance.0)) all_open up.1) in
                inr (up.0, subst (LeadsBy es (suc up.0) i.0) (numbers_apart v tables chain.0 x.instance.0 chain.1 h chain.2) chain.3)

      pub are_reached : AreReached n v r new.reached
      are_reached i = same_bools (is_among new.reached i.0) (is_some (desc_number v i) && is_reached_key n v r i) (λ t. let h = to i t in λ j. h.0 j && h.1 j) (from i)
