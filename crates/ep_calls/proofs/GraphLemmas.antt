-- The graph of instances over keys, and over numbers.
use Rattle.std.proofs.Common.{◌≡◌, ◌∙◌, ◌==◌, ◌||◌, ◌++◌, ℕ, zero, suc, All, Bool, true, false, IsSome, List, [], ◌∷◌, None, Option, Some, ap, cond, filter, map, refl, slice_index_or, subst, sym, unwrap_or}
use Rattle.std.specs.List.{AllByRecursion}
use Rattle.std.proofs.lemmas.List.Elements.{All-head, All-tail}
use Rattle.ep_base.specs.declared.ids.DescId.{DescId}
use Rattle.ep_interest.specs.Registrations.{Registrations}
use Rattle.ep_interest.specs.declared.entry.Entry.{Entry}
use Rattle.ep_view.specs.KernelView.{KernelWatch, kernel_watches, kernel_watch, watches_instance}
use Rattle.ep_machine.specs.Lists.{is_among, is_empty}
use Rattle.ep_machine.specs.State.{State, Waiter, Watch}
use Rattle.ep_machine.specs.Watches.{ends_of_chains, is_legal, links}
use Rattle.ep_nest.specs.Links.{edges}
use Rattle.ep_nest.specs.declared.link.Link.{Link}
use Rattle.ep_calls.specs.Climb.{AreNested, is_nested, link_of}
use Rattle.ep_calls.specs.Stands.{AreLinked, IsLinked, Stands, number_at, watch_at}
use Rattle.ep_calls.proofs.KeyLemmas.{same_tests, under_key}
use Rattle.ep_table.specs.Value.{Seen, Sound}

-- A graph under other names for its instances.
module _ (f : ℕ → ℕ) (P : ℕ → Type 0) (apart : (a b : ℕ) → P a → P b → f a ≡ f b → a ≡ b) where
  abbrev pub both : ℕ × ℕ → ℕ × ℕ
  both e = (f e.0, f e.1)

  abbrev pub AreNamed : List (ℕ × ℕ) → Type 0
  AreNamed es = AllByRecursion (λ e. P e.0 × P e.1) es

  among_named : (ks : List ℕ) (k : ℕ) → AllByRecursion P ks → P k → is_among (map f ks) (f k) ≡ is_among ks k
  among_named [] k h p = refl
  among_named (x ∷ ks) k h p =
      let one : (f k == f x) ≡ (k == x) = same_tests (f k) (f x) k x (apart k x p h.0) (ap f) in
      let rest = among_named ks k h.1 p in λ i. one i || rest i

  firsts : (es : List (ℕ × ℕ)) → AreNamed es → AllByRecursion P (map (λ l. l.0) es)
  firsts [] h = tt
  firsts (e ∷ es) h = (h.0.0, firsts es h.1)

  firsts_named : (es : List (ℕ × ℕ)) → map (λ l. l.0) (map both es) ≡ map f (map (λ l. l.0) es)
  firsts_named [] = refl
  firsts_named (e ∷ es) = ap (λ (ks : List ℕ). f e.0 ∷ ks) (firsts_named es)

  lasts : (test : ℕ × ℕ → Bool) (es : List (ℕ × ℕ)) → AreNamed es → AllByRecursion P (map (λ l. l.1) (filter test es))
  lasts test [] h = tt
  lasts test (e ∷ es) h = with_one (test e) (lasts test es h.1) where
    with_one : (b : Bool) → AllByRecursion P (map (λ l. l.1) (filter test es)) → AllByRecursion P (map (λ l. l.1) (cond b (e ∷ filter test es) (filter test es)))
    with_one true rest = (h.0.1, rest)
    with_one false rest = rest

  lasts_named : (ends : List ℕ) (es : List (ℕ × ℕ)) → AllByRecursion P ends → AreNamed es → map (λ l. l.1) (filter (λ l. is_among (map f ends) l.0) (map both es)) ≡ map f (map (λ l. l.1) (filter (λ l. is_among ends l.0) es))
  lasts_named ends [] h k = refl
  lasts_named ends (e ∷ es) h k =
      let rest = lasts_named ends es h k.1 in
      let others = filter (λ l. is_among (map f ends) l.0) (map both es) in
      ap (λ (b : Bool). map (λ l. l.1) (cond b (both e ∷ others) others)) (among_named ends e.0 h k.0.0)
      ∙ with_one (is_among ends e.0) rest where
        with_one : (b : Bool) → map (λ l. l.1) (filter (λ l. is_among (map f ends) l.0) (map both es)) ≡ map f (map (λ l. l.1) (filter (λ l. is_among ends l.0) es))
            → map (λ l. l.1) (cond b (both e ∷ filter (λ l. is_among (map f ends) l.0) (map both es)) (filter (λ l. is_among (map f ends) l.0) (map both es))) ≡ map f (map (λ l. l.1) (cond b (e ∷ filter (λ l. is_among ends l.0) es) (filter (λ l. is_among ends l.0) es)))
        with_one true rest = ap (λ (ks : List ℕ). f e.1 ∷ ks) rest
        with_one false rest = rest

  ends_are : (k : ℕ) (es : List (ℕ × ℕ)) → AreNamed es → AllByRecursion P (ends_of_chains k es)
  ends_are zero es h = firsts es h
  ends_are (suc k) es h = lasts (λ l. is_among (ends_of_chains k es) l.0) es h

  ends_named : (k : ℕ) (es : List (ℕ × ℕ)) → AreNamed es → ends_of_chains k (map both es) ≡ map f (ends_of_chains k es)
  ends_named zero es h = firsts_named es
  ends_named (suc k) es h =
      ap (λ (ends : List ℕ). map (λ l. l.1) (filter (λ l. is_among ends l.0) (map both es))) (ends_named k es h)
      ∙ lasts_named (ends_of_chains k es) es (ends_are k es h) h

  empty_named : (ks : List ℕ) → is_empty (map f ks) ≡ is_empty ks
  empty_named [] = refl
  empty_named (k ∷ ks) = refl

  pub legal_named : (es : List (ℕ × ℕ)) → AreNamed es → is_legal (map both es) ≡ is_legal es
  legal_named es h = ap (λ (ks : List ℕ). is_empty ks) (ends_named 5 es h) ∙ empty_named (ends_of_chains 5 es)

-- The machine's links are those of the kernel's graph.
abbrev pair : KernelWatch → ℕ × ℕ
pair x = (x.instance, x.target)

links_kept : (s : State) (xs : List Watch) → map (λ x. (x.instance, x.target)) (filter (λ x. watches_instance s.files (kernel_watch s x)) xs) ≡ map pair (filter (watches_instance s.files) (kernel_watches s xs))
links_kept s [] = refl
links_kept s (x ∷ xs) =
    let rest = links_kept s xs in
    let others = filter (λ x. watches_instance s.files (kernel_watch s x)) xs in
    elim (watches_instance s.files (kernel_watch s x)) as (λ b. map (λ x. (x.instance, x.target)) (cond b (x ∷ others) others) ≡ map pair (cond b (kernel_watch s x ∷ filter (watches_instance s.files) (kernel_watches s xs)) (filter (watches_instance s.files) (kernel_watches s xs)))) [
      | true ↦ ap (λ (ls : List (ℕ × ℕ)). (x.instance, x.target) ∷ ls) rest
      | false ↦ rest
    ]

module _ (v : Seen) where
  abbrev pub number : ℕ → ℕ
  number k = number_at v.keys (record { 0 = k })

  abbrev pub Lives : ℕ → Type 0
  Lives k = IsSome (slice_index_or v.keys k None)

  pub numbers_apart : Sound v → (a b : ℕ) → Lives a → Lives b → number a ≡ number b → a ≡ b
  numbers_apart sound a b h k e =
      let p = under_key v.keys (record { 0 = a }) h in
      let q = under_key v.keys (record { 0 = b }) k in
      sound.one (record { 0 = a }) (record { 0 = b }) q.number (p.is ∙ ap (λ (n : ℕ). Some n) (sym (ap (λ (o : Option ℕ). unwrap_or o 0) p.is) ∙ (e ∙ ap (λ (o : Option ℕ). unwrap_or o 0) q.is))) q.is

  links_of : (r : Registrations) (xs : List Entry) → map pair (filter (watches_instance v.files) (map (watch_at v.keys) xs)) ≡ map (λ e. (number e.0, number e.1)) (edges (map (link_of r) (filter (is_nested v) xs)))
  links_of r [] = refl
  links_of r (x ∷ xs) =
      let rest = links_of r xs in
      elim (is_nested v x) as (λ b. map pair (cond b (watch_at v.keys x ∷ filter (watches_instance v.files) (map (watch_at v.keys) xs)) (filter (watches_instance v.files) (map (watch_at v.keys) xs))) ≡ map (λ e. (number e.0, number e.1)) (edges (map (link_of r) (cond b (x ∷ filter (is_nested v) xs) (filter (is_nested v) xs))))) [
        | true ↦ ap (λ (ls : List (ℕ × ℕ)). pair (watch_at v.keys x) ∷ ls) rest
        | false ↦ rest
      ]

  edges_live : (r : Registrations) (xs : List Entry) → All (IsLinked v.keys) xs → AllByRecursion (λ e. Lives e.0 × Lives e.1) (edges (map (link_of r) (filter (is_nested v) xs)))
  edges_live r [] h = tt
  edges_live r (x ∷ xs) h =
      let link = All-head (IsLinked v.keys) x xs h in
      with_one (is_nested v x) link (edges_live r xs (All-tail (IsLinked v.keys) x xs h)) where
        with_one : (b : Bool) → IsLinked v.keys x → AllByRecursion (λ e. Lives e.0 × Lives e.1) (edges (map (link_of r) (filter (is_nested v) xs))) → AllByRecursion (λ e. Lives e.0 × Lives e.1) (edges (map (link_of r) (cond b (x ∷ filter (is_nested v) xs) (filter (is_nested v) xs))))
        with_one true link rest = ((link.instance, link.desc), rest)
        with_one false link rest = rest

  module _ {ws : List Waiter} (r : Registrations) (now : ℕ) (s : State) (stands : Stands v r ws now s) (linked : AreLinked v r) (graph : List Link) (nested : AreNested v r graph) where
    pub links_are : links s ≡ map (λ e. (number e.0, number e.1)) (edges graph)
    links_are =
        links_kept s s.watches
        ∙ ((λ i. map pair (filter (watches_instance (stands.files i)) (stands.watches i)))
        ∙ (links_of r r.entries ∙ ap (λ (ls : List Link). map (λ e. (number e.0, number e.1)) (edges ls)) (sym nested)))

    -- one link more is legal for both or for neither
    pub legal_both : Sound v → (outer inner : DescId) → Lives outer.0 → Lives inner.0 → is_legal ((number outer.0, number inner.0) ∷ links s) ≡ is_legal ((outer.0, inner.0) ∷ edges graph)
    legal_both sound outer inner h k =
        ap (λ (ls : List (ℕ × ℕ)). is_legal ((number outer.0, number inner.0) ∷ ls)) links_are
        ∙ legal_named number Lives (numbers_apart sound) ((outer.0, inner.0) ∷ edges graph) ((h, k), subst (λ (ls : List Link). AllByRecursion (λ e. Lives e.0 × Lives e.1) (edges ls)) (sym nested) (edges_live r r.entries linked))

-- What is done to registrations is done to their links.
module _ (r : Registrations) (p : Entry → Bool) where
  abbrev linked_by : List Entry → List Link
  linked_by xs = map (link_of r) (filter p xs)

  pub links_filtered : (q : Link → Bool) (xs : List Entry) → filter q (linked_by xs) ≡ linked_by (filter (λ x. q (link_of r x)) xs)
  links_filtered q [] = refl
  links_filtered q (x ∷ xs) = both (p x) (q (link_of r x)) refl refl (links_filtered q xs) where
    both : (a b : Bool) → p x ≡ a → q (link_of r x) ≡ b → filter q (linked_by xs) ≡ linked_by (filter (λ y. q (link_of r y)) xs)
        → filter q (map (link_of r) (cond a (x ∷ filter p xs) (filter p xs))) ≡ map (link_of r) (filter p (cond b (x ∷ filter (λ y. q (link_of r y)) xs) (filter (λ y. q (link_of r y)) xs)))
    both true true e h rest =
        ap (λ (t : Bool). cond t (link_of r x ∷ filter q (linked_by xs)) (filter q (linked_by xs))) h
        ∙ (ap (λ (ls : List Link). link_of r x ∷ ls) rest
        ∙ sym (ap (λ (t : Bool). map (link_of r) (cond t (x ∷ filter p (filter (λ y. q (link_of r y)) xs)) (filter p (filter (λ y. q (link_of r y)) xs)))) e))
    both true false e h rest = ap (λ (t : Bool). cond t (link_of r x ∷ filter q (linked_by xs)) (filter q (linked_by xs))) h ∙ rest
    both false true e h rest = rest ∙ sym (ap (λ (t : Bool). map (link_of r) (cond t (x ∷ filter p (filter (λ y. q (link_of r y)) xs)) (filter p (filter (λ y. q (link_of r y)) xs)))) e)
    both false false e h rest = rest

  -- what keeps its link, and its kind
  pub links_mapped : (g : Entry → Entry) → ((x : Entry) → link_of r (g x) ≡ link_of r x) → ((x : Entry) → p (g x) ≡ p x) → (xs : List Entry) → linked_by (map g xs) ≡ linked_by xs
  links_mapped g link kind [] = refl
  links_mapped g link kind (x ∷ xs) =
      let rest = links_mapped g link kind xs in
      ap (λ (b : Bool). map (link_of r) (cond b (g x ∷ filter p (map g xs)) (filter p (map g xs)))) (kind x)
      ∙ elim (p x) as (λ b. map (link_of r) (cond b (g x ∷ filter p (map g xs)) (filter p (map g xs))) ≡ map (link_of r) (cond b (x ∷ filter p xs) (filter p xs))) [
        | true ↦ (λ i. link x i ∷ rest i)
        | false ↦ rest
      ]

  pub links_pushed : (x : Entry) (xs : List Entry) → linked_by (xs ++ x ∷ []) ≡ linked_by xs ++ cond (p x) (link_of r x ∷ []) []
  links_pushed x [] = elim (p x) as (λ b. map (link_of r) (cond b (x ∷ []) []) ≡ cond b (link_of r x ∷ []) []) [ true ↦ refl | false ↦ refl ]
  links_pushed x (y ∷ ys) =
      let rest = links_pushed x ys in
      elim (p y) as (λ b. map (link_of r) (cond b (y ∷ filter p (ys ++ x ∷ [])) (filter p (ys ++ x ∷ []))) ≡ map (link_of r) (cond b (y ∷ filter p ys) (filter p ys)) ++ cond (p x) (link_of r x ∷ []) []) [
        | true ↦ ap (λ (ls : List Link). link_of r y ∷ ls) rest
        | false ↦ rest
      ]

-- where each registration keeps its kind
pub links_same : (r : Registrations) (p q : Entry → Bool) (xs : List Entry) → All (λ x. p x ≡ q x) xs → map (link_of r) (filter p xs) ≡ map (link_of r) (filter q xs)
links_same r p q [] h = refl
links_same r p q (x ∷ xs) h =
    let one : p x ≡ q x = All-head (λ y. p y ≡ q y) x xs h in
    let rest = links_same r p q xs (All-tail (λ y. p y ≡ q y) x xs h) in
    ap (λ (b : Bool). map (link_of r) (cond b (x ∷ filter p xs) (filter p xs))) one
    ∙ elim (q x) as (λ b. map (link_of r) (cond b (x ∷ filter p xs) (filter p xs)) ≡ map (link_of r) (cond b (x ∷ filter q xs) (filter q xs))) [
      | true ↦ ap (λ (ls : List Link). link_of r x ∷ ls) rest
      | false ↦ rest
    ]

-- where the keys stay, so do the links
pub links_by_keys : (old new : Registrations) (p : Entry → Bool) (xs : List Entry) → new.keys ≡ old.keys → map (link_of new) (filter p xs) ≡ map (link_of old) (filter p xs)
links_by_keys old new p xs keys = λ i. map (link_of (record old { keys = keys i })) (filter p xs)
