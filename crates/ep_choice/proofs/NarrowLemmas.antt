-- Narrowing, one target after another.
use Rattle.std.proofs.Common.{◌≡◌, ◌∙◌, ◌==◌, ◌&&◌, ◌||◌, ◌++◌, ◌<◌, ℕ, zero, suc, All, Bool, true, false, IsSome, List, [], ◌∷◌, None, Option, Some, ap, arith, cond, find, inl, inr, map, nat_lt, not, refl, slice_index_or, subst, sym, unwrap_or}
use Rattle.std.specs.List.{list_any}
use Rattle.std.specs.Option.{option_map}
use Rattle.std.proofs.lemmas.Bool.{cases_Bool, false≢true}
use Rattle.std.proofs.lemmas.Bool.Decides.{nat_tests}
use Rattle.std.proofs.lemmas.List.Elements.{All-cons, All-head, All-nil, All-tail}
use Rattle.std.proofs.Math.Bool.{or-false}
use Rattle.ep_facts.proofs.NatFacts.{from_test, same_nat, zero_of}
use Rattle.ep_facts.proofs.BoolFacts.{or_assoc}
use Rattle.ep_base.specs.declared.ids.DescId.{DescId}
use Rattle.ep_calls.proofs.KeyLemmas.{same_keys}
use Rattle.ep_calls.specs.Climb.{is_nested_key}
use Rattle.ep_calls.specs.Parts.{Parts}
use Rattle.ep_calls.specs.Readiness.{readiness, watches_of}
use Rattle.ep_calls.specs.Stands.{AreLinked, IsLinked, number_at, waiters_at, watch_at}
use Rattle.ep_choice.specs.Choose.{HasKeys, HaveInstances, chosen_number, finds_entry}
use Rattle.ep_climb.specs.Reach.{AreRoomy}
use Rattle.ep_interest.specs.Exclusive.{is_exclusive, is_number, kept_passing}
use Rattle.ep_interest.specs.Registrations.{Registrations, entry_found, is_on, number_under as entry_number, numbered, settled}
use Rattle.ep_interest.specs.declared.entry.Entry.{Entry}
use Rattle.ep_law.specs.Laws.{Member}
use Rattle.ep_machine.specs.Lists.{is_among}
use Rattle.ep_machine.specs.State.{Waiter}
use Rattle.ep_walk.specs.Walk.{Walk}
use Rattle.ep_table.specs.Value.{Seen, Sound, number_of, number_under}
use Rattle.ep_view.specs.KernelView.{KernelWatch, any_within, ready_now, shows}
use Rattle.ep_view.specs.Marking.{above_now, choice_at, guarded_now, guards, has_number, is_awaited_by, is_candidate, keeps_passing, lets_up, narrowed_now, passing_if}

abbrev idle : Entry → Entry
idle x = record x { passes_in = 0 }

-- all but the chosen one at its target
abbrev pub stops_at : Seen → ℕ → Registrations → List Waiter → ℕ → Entry → Bool
stops_at v now r ws n x = is_exclusive x && not (is_number (chosen_number v now r ws n x.desc) x.number)

-- once these targets were gone through
abbrev pub partly : Seen → ℕ → Registrations → List Waiter → ℕ → List ℕ → Entry → Entry
partly v now r ws n done x = cond (is_among done x.desc.0 && stops_at v now r ws n x) (idle x) x

-- of the parts, with their registrations partly narrowed
pub record Narrows (p : Parts) (n : ℕ) (done : List ℕ) (q : Parts) : Type 0 where
  pub entries : q.interest.entries ≡ map (partly p.tables p.clock p.interest p.parked n done) p.interest.entries
  pub keys : q.interest.keys ≡ p.interest.keys
  pub added : q.interest.added ≡ p.interest.added
  pub next : q.interest.next ≡ p.interest.next
  pub others : q ≡ record p { interest = q.interest }

-- What is passed on plays no part in what is found.
module _ (keys : List (Option ℕ)) (f : Entry → Bool) where
  abbrev some_idle : Entry → Entry
  some_idle x = cond (f x) (idle x) x

  any_idle : (test : (ℕ → Bool) → KernelWatch → Bool) → ((r : ℕ → Bool) (x : Entry) → test r (watch_at keys (idle x)) ≡ test r (watch_at keys x)) → (k : ℕ) (xs : List Entry) (e : ℕ)
      → any_within test k (map (watch_at keys) (map some_idle xs)) e ≡ any_within test k (map (watch_at keys) xs) e
  any_idle test same zero xs e = refl
  any_idle test same (suc k) xs e = each (λ d. any_idle test same k xs d) xs where
    one : (r : ℕ → Bool) (x : Entry) (b : Bool) → ((watch_at keys (cond b (idle x) x)).instance == e && test r (watch_at keys (cond b (idle x) x))) ≡ (number_at keys x.instance == e && test r (watch_at keys x))
    one r x true = ap (λ (b : Bool). number_at keys x.instance == e && b) (same r x)
    one r x false = refl

    each : ((d : ℕ) → any_within test k (map (watch_at keys) (map some_idle xs)) d ≡ any_within test k (map (watch_at keys) xs) d) → (ys : List Entry)
        → list_any (λ w. w.instance == e && test (any_within test k (map (watch_at keys) (map some_idle xs))) w) (map (watch_at keys) (map some_idle ys)) ≡ list_any (λ w. w.instance == e && test (any_within test k (map (watch_at keys) xs)) w) (map (watch_at keys) ys)
    each below [] = refl
    each below (y ∷ ys) =
        let first = one (any_within test k (map (watch_at keys) (map some_idle xs))) y (f y) ∙ ap (λ (r : ℕ → Bool). number_at keys y.instance == e && test r (watch_at keys y)) (λ i d. below d i) in
        let rest = each below ys in
        λ i. first i || rest i

module _ (v : Seen) (now : ℕ) (r new : Registrations) (f : Entry → Bool) (is : new.entries ≡ map (some_idle v.keys f) r.entries) where
  pub ready_idle : readiness v now new ≡ readiness v now r
  unfolding ready_now
  ready_idle = λ i e. (ap (λ (xs : List Entry). any_within (λ ready x. shows ready v.files now x) 5 (map (watch_at v.keys) xs) e) is ∙ any_idle v.keys f (λ ready x. shows ready v.files now x) (λ q x. refl) 5 r.entries e) i

  above_idle : (from e : ℕ) → above_now v.files (watches_of v new) from e ≡ above_now v.files (watches_of v r) from e
  unfolding above_now
  above_idle from e = ap (λ (xs : List Entry). any_within (lets_up v.files from) 5 (map (watch_at v.keys) xs) e) is ∙ any_idle v.keys f (lets_up v.files from) (λ q x. refl) 5 r.entries e

  pub guarded_idle : (e : ℕ) → guarded_now (watches_of v new) e ≡ guarded_now (watches_of v r) e
  unfolding guarded_now
  guarded_idle e = ap (λ (xs : List Entry). any_within guards 5 (map (watch_at v.keys) xs) e) is ∙ any_idle v.keys f guards (λ q x. refl) 5 r.entries e

  pub finds_idle : (ws : List Waiter) (x y : Entry) → y.instance ≡ x.instance → finds_entry v now new ws y ≡ finds_entry v now r ws x
  finds_idle ws x y same = each (waiters_at v.keys ws) where
    each : (us : List Waiter) → list_any (λ w. (number_at v.keys y.instance == w.instance || above_now v.files (watches_of v new) (number_at v.keys y.instance) w.instance) && is_awaited_by (readiness v now new) (waiters_at v.keys ws) w.instance) us
        ≡ list_any (λ w. (number_at v.keys x.instance == w.instance || above_now v.files (watches_of v r) (number_at v.keys x.instance) w.instance) && is_awaited_by (readiness v now r) (waiters_at v.keys ws) w.instance) us
    each [] = refl
    each (u ∷ us) = λ i. (number_at v.keys (same i) == u.instance || above_idle (number_at v.keys (same i)) u.instance i) && is_awaited_by (ready_idle i) (waiters_at v.keys ws) u.instance || each us i

-- the choice, by the registrations as the kernel has them
abbrev may_choose : Seen → ℕ → Registrations → List Waiter → ℕ → DescId → Entry → Bool
may_choose v now r ws n desc x = is_exclusive x && is_on desc x && x.passes_in == n && finds_entry v now r ws x

choice_is : (v : Seen) (now : ℕ) (r : Registrations) (ws : List Waiter) (n : ℕ) (desc : DescId) → Sound v → IsSome (number_under v desc) → (xs : List Entry) → All (IsLinked v.keys) xs
    → option_map (λ (y : KernelWatch). y.number) (find (is_candidate v.files n (watches_of v r) (readiness v now r) (waiters_at v.keys ws) (number_of v desc)) (map (watch_at v.keys) xs)) ≡ option_map (λ (y : Entry). y.number) (find (may_choose v now r ws n desc) xs)
choice_is v now r ws n desc sound live [] h = refl
choice_is v now r ws n desc sound live (x ∷ xs) h =
    let on = same_keys v x.desc desc sound (All-head (IsLinked v.keys) x xs h).desc live in
    let finds = finds_entry v now r ws x in
    let rest = choice_is v now r ws n desc sound live xs (All-tail (IsLinked v.keys) x xs h) in
    ap (λ (b : Bool). option_map (λ (y : KernelWatch). y.number) (cond (is_exclusive x && b && x.passes_in == n && finds) (Some (watch_at v.keys x)) (find (is_candidate v.files n (watches_of v r) (readiness v now r) (waiters_at v.keys ws) (number_of v desc)) (map (watch_at v.keys) xs)))) on
    ∙ by (may_choose v now r ws n desc x) rest where
      by : (b : Bool) → option_map (λ (y : KernelWatch). y.number) (find (is_candidate v.files n (watches_of v r) (readiness v now r) (waiters_at v.keys ws) (number_of v desc)) (map (watch_at v.keys) xs)) ≡ option_map (λ (y : Entry). y.number) (find (may_choose v now r ws n desc) xs)
          → option_map (λ (y : KernelWatch). y.number) (cond b (Some (watch_at v.keys x)) (find (is_candidate v.files n (watches_of v r) (readiness v now r) (waiters_at v.keys ws) (number_of v desc)) (map (watch_at v.keys) xs))) ≡ option_map (λ (y : Entry). y.number) (cond b (Some x) (find (may_choose v now r ws n desc) xs))
      by true rest = refl
      by false rest = rest

-- what is found first is found still if what it passes over changes
find_same : (c d : Entry → Bool) (f : Entry → Entry) (o : Option ℕ) → ((x : Entry) → (f x).number ≡ x.number) → ((x : Entry) → c x ≡ false → d (f x) ≡ false) → ((x : Entry) → c x ≡ true → is_number o x.number ≡ true → d (f x) ≡ true)
    → (xs : List Entry) → option_map (λ (y : Entry). y.number) (find c xs) ≡ o → option_map (λ (y : Entry). y.number) (find d (map f xs)) ≡ o
find_same c d f o numbers none some [] h = h
find_same c d f o numbers none some (x ∷ xs) h = elim (cases_Bool (c x)) [
  | inl t ↦
      let is : Some x.number ≡ o = sym (ap (λ (b : Bool). option_map (λ (y : Entry). y.number) (cond b (Some x) (find c xs))) t) ∙ h in
      let there = some x t (ap (λ (q : Option ℕ). is_number q x.number) (sym is) ∙ same_nat x.number) in
      ap (λ (b : Bool). option_map (λ (y : Entry). y.number) (cond b (Some (f x)) (find d (map f xs)))) there ∙ (ap (λ (k : ℕ). Some k) (numbers x) ∙ is)
  | inr e ↦
      ap (λ (b : Bool). option_map (λ (y : Entry). y.number) (cond b (Some (f x)) (find d (map f xs)))) (none x e)
      ∙ find_same c d f o numbers none some xs (sym (ap (λ (b : Bool). option_map (λ (y : Entry). y.number) (cond b (Some x) (find c xs))) e) ∙ h)
]

pub numbered_map : (f : Entry → Entry) → ((x : Entry) → (f x).number ≡ x.number) → (xs : List Entry) (k : ℕ) → numbered (map f xs) k ≡ option_map f (numbered xs k)
numbered_map f same [] k = refl
numbered_map f same (x ∷ xs) k = (λ i. cond (same x i == k) (Some (f x)) (numbered_map f same xs k i)) ∙ by (x.number == k) where
  by : (b : Bool) → cond b (Some (f x)) (option_map f (numbered xs k)) ≡ option_map f (cond b (Some x) (numbered xs k))
  by true = refl
  by false = refl

not_zero : (n : ℕ) → nat_lt 0 n ≡ true → (0 == n) ≡ false
not_zero n h = grind (arith, nat_tests, h)

module _ (p : Parts) (n : ℕ) (sound : Sound p.tables) (positive : nat_lt 0 n ≡ true) (linked : AreLinked p.tables p.interest) where
  abbrev v : Seen
  v = p.tables

  abbrev now : ℕ
  now = p.clock

  abbrev old : Registrations
  old = p.interest

  abbrev ws : List Waiter
  ws = p.parked

  counted : (0 == n) ≡ false
  counted = not_zero n positive

  abbrev stopped_in : List ℕ → Entry → Bool
  stopped_in done x = is_among done x.desc.0 && stops_at v now old ws n x

  linked_partly : (done : List ℕ) (xs : List Entry) → All (IsLinked v.keys) xs → All (IsLinked v.keys) (map (partly v now old ws n done) xs)
  linked_partly done [] h = h
  linked_partly done (x ∷ xs) h = All-cons (IsLinked v.keys) (partly v now old ws n done x) (map (partly v now old ws n done) xs) (by (stopped_in done x) (All-head (IsLinked v.keys) x xs h)) (linked_partly done xs (All-tail (IsLinked v.keys) x xs h)) where
    by : (b : Bool) → IsLinked v.keys x → IsLinked v.keys (cond b (idle x) x)
    by true link = record { instance = link.instance; desc = link.desc; fd = link.fd }
    by false link = link

  narrows_linked : (done : List ℕ) (q : Parts) → Narrows p n done q → AreLinked v q.interest
  narrows_linked done q h = subst (λ (xs : List Entry). All (IsLinked v.keys) xs) (sym h.entries) (linked_partly done old.entries linked)

  -- what is kept under a key has the instance that it had
  kept_number : (done : List ℕ) (x : Entry) → (partly v now old ws n done x).number ≡ x.number
  kept_number done x = by (stopped_in done x) where
    by : (b : Bool) → (cond b (idle x) x).number ≡ x.number
    by true = refl
    by false = refl

  kept_instance : (done : List ℕ) (x : Entry) → (partly v now old ws n done x).instance ≡ x.instance
  kept_instance done x = by (stopped_in done x) where
    by : (b : Bool) → (cond b (idle x) x).instance ≡ x.instance
    by true = refl
    by false = refl

  kept_exclusive : (done : List ℕ) (x : Entry) → is_exclusive (partly v now old ws n done x) ≡ is_exclusive x
  kept_exclusive done x = by (stopped_in done x) where
    by : (b : Bool) → is_exclusive (cond b (idle x) x) ≡ is_exclusive x
    by true = refl
    by false = refl

  was_under : (done : List ℕ) (xs : List Entry) (m : Option ℕ) (y : Entry) → entry_found (map (partly v now old ws n done) xs) m ≡ Some y → (x : Entry) × (entry_found xs m ≡ Some x) × (is_exclusive y ≡ is_exclusive x) × (y.instance ≡ x.instance)
  was_under done xs None y h = absurd cc
  was_under done xs (Some k) y h = by (numbered xs k) refl (sym (numbered_map (partly v now old ws n done) (kept_number done) xs k) ∙ h) where
    by : (o : Option Entry) → numbered xs k ≡ o → option_map (partly v now old ws n done) o ≡ Some y → (x : Entry) × (numbered xs k ≡ Some x) × (is_exclusive y ≡ is_exclusive x) × (y.instance ≡ x.instance)
    by None none e = absurd cc
    by (Some x) is e =
        let same : partly v now old ws n done x ≡ y = ap (λ (o : Option Entry). unwrap_or o (partly v now old ws n done x)) e in
        (x, is, sym (ap is_exclusive same) ∙ kept_exclusive done x, sym (ap (λ (z : Entry). z.instance) same) ∙ kept_instance done x)

  pub narrows_roomy : (done : List ℕ) (q : Parts) (w : Walk) → Narrows p n done q → AreRoomy old w → AreRoomy q.interest w
  narrows_roomy done q w h roomy id y under =
      let at : entry_found (map (partly v now old ws n done) old.entries) (entry_number old id) ≡ Some y = (λ i. entry_found (sym h.entries i) (slice_index_or (sym h.keys i) id.0 None)) ∙ under in
      let x = was_under done old.entries (entry_number old id) y at in
      subst (λ (d : DescId). d.0 < w.room) (sym x.3) (roomy id x.0 x.1)

  pub narrows_keys : (done : List ℕ) (q : Parts) (w : Walk) → Narrows p n done q → HasKeys old w → HasKeys q.interest w
  narrows_keys done q w h keys id y under exclusive =
      let at : entry_found (map (partly v now old ws n done) old.entries) (entry_number old id) ≡ Some y = (λ i. entry_found (sym h.entries i) (slice_index_or (sym h.keys i) id.0 None)) ∙ under in
      let x = was_under done old.entries (entry_number old id) y at in
      keys id x.0 x.1 (sym x.2 ∙ exclusive)

  pub narrows_instances : (done : List ℕ) (q : Parts) → Narrows p n done q → HaveInstances p → HaveInstances q
  narrows_instances done q h instances =
      let Q : Entry → Type 0 = λ x. is_nested_key v x.instance ≡ true in
      let kept : All Q q.interest.entries = subst (All Q) (sym h.entries) (each old.entries instances) in
      subst (λ (u : Parts). All (λ x. is_nested_key u.tables x.instance ≡ true) q.interest.entries) (sym h.others) kept where
        each : (xs : List Entry) → All (λ (x : Entry). is_nested_key v x.instance ≡ true) xs → All (λ (x : Entry). is_nested_key v x.instance ≡ true) (map (partly v now old ws n done) xs)
        each [] g = All-nil (λ (x : Entry). is_nested_key v x.instance ≡ true)
        each (x ∷ xs) g =
            All-cons (λ (y : Entry). is_nested_key v y.instance ≡ true) (partly v now old ws n done x) (map (partly v now old ws n done) xs)
            (ap (λ (d : DescId). is_nested_key v d) (kept_instance done x) ∙ All-head (λ (y : Entry). is_nested_key v y.instance ≡ true) x xs g)
            (each xs (All-tail (λ (y : Entry). is_nested_key v y.instance ≡ true) x xs g))

  -- the choice at a target is the one of before
  same_choice : (done : List ℕ) (q : Parts) (desc : DescId) → IsSome (number_under v desc) → Narrows p n done q → chosen_number v now q.interest ws n desc ≡ chosen_number v now old ws n desc
  same_choice done q desc live h =
      let c = may_choose v now old ws n desc in
      let d = may_choose v now q.interest ws n desc in
      let f = partly v now old ws n done in
      let o = chosen_number v now old ws n desc in
      choice_is v now q.interest ws n desc sound live q.interest.entries (narrows_linked done q h)
      ∙ (ap (λ (xs : List Entry). option_map (λ (y : Entry). y.number) (find d xs)) h.entries
      ∙ find_same c d f o (λ x. number_kept (stopped_in done x) x)
      (λ x none. not_chosen (stopped_in done x) x none)
      (λ x t first. still_chosen (is_among done x.desc.0) (is_exclusive x) x (ap (λ (k : ℕ). is_number (chosen_number v now old ws n (record { 0 = k })) x.number) (from_test x.desc.0 desc.0 (on_of (is_exclusive x) (is_on desc x) (x.passes_in == n) (finds_entry v now old ws x) t)) ∙ first) t)
      old.entries (sym (choice_is v now old ws n desc sound live old.entries linked))) where
        number_kept : (b : Bool) (x : Entry) → (cond b (idle x) x).number ≡ x.number
        number_kept true x = refl
        number_kept false x = refl

        on_of : (a b p q : Bool) → (a && b && p && q) ≡ true → b ≡ true
        on_of true true p q t = refl
        on_of true false p q t = absurd (false≢true t)
        on_of false b p q t = absurd (false≢true t)

        never : (a b : Bool) → (a && b && false) ≡ false
        never true true = refl
        never true false = refl
        never false b = refl

        same_finds : (x y : Entry) → y.instance ≡ x.instance → finds_entry v now q.interest ws y ≡ finds_entry v now old ws x
        same_finds x y e = finds_idle v now old q.interest (stopped_in done) h.entries ws x y e

        not_chosen : (b : Bool) (x : Entry) → may_choose v now old ws n desc x ≡ false → may_choose v now q.interest ws n desc (cond b (idle x) x) ≡ false
        not_chosen true x none = (λ i. is_exclusive x && is_on desc x && counted i && finds_entry v now q.interest ws (idle x)) ∙ (λ i. never (is_exclusive x) (is_on desc x) i && finds_entry v now q.interest ws (idle x))
        not_chosen false x none = (λ i. is_exclusive x && is_on desc x && x.passes_in == n && same_finds x x refl i) ∙ none

        still_chosen : (a g : Bool) (x : Entry) → is_number (chosen_number v now old ws n x.desc) x.number ≡ true → may_choose v now old ws n desc x ≡ true
            → may_choose v now q.interest ws n desc (cond (a && (g && not (is_number (chosen_number v now old ws n x.desc) x.number))) (idle x) x) ≡ true
        still_chosen a g x first t =
            ap (λ (b : Bool). may_choose v now q.interest ws n desc (cond (a && (g && not b)) (idle x) x)) first
            ∙ (ap (λ (b : Bool). may_choose v now q.interest ws n desc (cond b (idle x) x)) (off a g) ∙ ((λ i. is_exclusive x && is_on desc x && x.passes_in == n && same_finds x x refl i) ∙ t)) where
              off : (a g : Bool) → (a && (g && false)) ≡ false
              off true true = refl
              off true false = refl
              off false g = refl

  pub narrows_begins : Narrows p n [] p
  narrows_begins = record { entries = same old.entries; keys = refl; added = refl; next = refl; others = refl } where
    same : (xs : List Entry) → xs ≡ map (partly v now old ws n []) xs
    same [] = refl
    same (x ∷ xs) = ap (λ (ys : List Entry). x ∷ ys) (same xs)

  among_end : (ds : List ℕ) (d k : ℕ) → is_among (ds ++ d ∷ []) k ≡ (is_among ds k || (k == d))
  among_end [] d k = or-false (k == d)
  among_end (c ∷ ds) d k = ap (λ (b : Bool). k == c || b) (among_end ds d k) ∙ or_assoc (k == c) (is_among ds k) (k == d)

  one_more : (a t g h k : Bool) (x : Entry) → (t ≡ true → k ≡ h) → cond (t && g && not k) (idle (cond (a && (g && not h)) (idle x) x)) (cond (a && (g && not h)) (idle x) x) ≡ cond ((a || t) && (g && not h)) (idle x) x
  one_more true true true true k x e = ap (λ (b : Bool). cond (not b) (idle x) x) (e refl)
  one_more true true true false k x e = ap (λ (b : Bool). cond (not b) (idle x) (idle x)) (e refl)
  one_more true true false h k x e = refl
  one_more false true true true k x e = ap (λ (b : Bool). cond (not b) (idle x) x) (e refl)
  one_more false true true false k x e = ap (λ (b : Bool). cond (not b) (idle x) x) (e refl)
  one_more false true false h k x e = refl
  one_more true false g h k x e = refl
  one_more false false g h k x e = refl

  -- one target more
  pub narrows_on : (done : List ℕ) (desc : DescId) (mid new : Parts) (chosen : Option ℕ) → IsSome (number_under v desc) → Narrows p n done mid → chosen ≡ chosen_number mid.tables mid.clock mid.interest mid.parked n desc
      → new.interest.entries ≡ map (kept_passing desc chosen) mid.interest.entries → new.interest.keys ≡ mid.interest.keys → new.interest.added ≡ mid.interest.added → new.interest.next ≡ mid.interest.next → new ≡ record mid { interest = new.interest }
      → Narrows p n (done ++ desc.0 ∷ []) new
  narrows_on done desc mid new chosen live h choice entries keys added next others = record {
    entries = entries ∙ (ap (map (kept_passing desc chosen)) h.entries ∙ each old.entries);
    keys = keys ∙ h.keys;
    added = added ∙ h.added;
    next = next ∙ h.next;
    others = others ∙ ap (λ (q : Parts). record q { interest = new.interest }) h.others;
  } where
    chosen_is : chosen ≡ chosen_number v now old ws n desc
    chosen_is = choice ∙ (ap (λ (q : Parts). chosen_number q.tables q.clock mid.interest q.parked n desc) h.others ∙ same_choice done mid desc live h)

    shape : (b : Bool) (x : Entry) → kept_passing desc chosen (cond b (idle x) x) ≡ cond (is_on desc x && is_exclusive x && not (is_number chosen x.number)) (idle (cond b (idle x) x)) (cond b (idle x) x)
    shape true x = refl
    shape false x = refl

    one : (x : Entry) → kept_passing desc chosen (partly v now old ws n done x) ≡ partly v now old ws n (done ++ desc.0 ∷ []) x
    one x =
        shape (stopped_in done x) x
        ∙ (one_more (is_among done x.desc.0) (is_on desc x) (is_exclusive x) (is_number (chosen_number v now old ws n x.desc) x.number) (is_number chosen x.number) x
        (λ on. ap (λ (o : Option ℕ). is_number o x.number) chosen_is ∙ ap (λ (k : ℕ). is_number (chosen_number v now old ws n (record { 0 = k })) x.number) (sym (from_test x.desc.0 desc.0 on)))
        ∙ ap (λ (b : Bool). cond (b && stops_at v now old ws n x) (idle x) x) (sym (among_end done desc.0 x.desc.0)))

    each : (xs : List Entry) → map (kept_passing desc chosen) (map (partly v now old ws n done) xs) ≡ map (partly v now old ws n (done ++ desc.0 ∷ [])) xs
    each [] = refl
    each (x ∷ xs) = let first = one x in let rest = each xs in λ i. first i ∷ rest i

  -- but for what they pass on they are the same
  pub narrows_settled : (done : List ℕ) (q : Parts) → Narrows p n done q → map settled q.interest.entries ≡ map settled old.entries
  narrows_settled done q h = ap (map settled) h.entries ∙ each old.entries where
    one : (b : Bool) (x : Entry) → settled (cond b (idle x) x) ≡ settled x
    one true x = refl
    one false x = refl

    each : (xs : List Entry) → map settled (map (partly v now old ws n done) xs) ≡ map settled xs
    each [] = refl
    each (x ∷ xs) = let first = one (stopped_in done x) x in let rest = each xs in λ i. first i ∷ rest i

  abbrev keeps : Entry → Bool
  keeps x = keeps_passing v.files n (watches_of v old) (readiness v now old) (waiters_at v.keys ws) (watch_at v.keys x)

  -- once all targets were gone through
  chosen_test : (o : Option KernelWatch) (k : ℕ) → is_number (option_map (λ (y : KernelWatch). y.number) o) k ≡ has_number k o
  chosen_test None k = refl
  chosen_test (Some y) k = refl

  stopped : (g h k : Bool) (x : Entry) → h ≡ k → watch_at v.keys (cond (g && not h) (idle x) x) ≡ passing_if (not g || k) (watch_at v.keys x)
  stopped true h k x e = ap (λ (b : Bool). watch_at v.keys (cond (not b) (idle x) x)) e ∙ by k where
    by : (b : Bool) → watch_at v.keys (cond (not b) (idle x) x) ≡ passing_if b (watch_at v.keys x)
    by true = refl
    by false = refl
  stopped false h k x e = refl

  -- one that passes nothing on stays as it is
  unpassed : (b : Bool) (x : Entry) → x.passes_in ≡ 0 → watch_at v.keys x ≡ passing_if b (watch_at v.keys x)
  unpassed true x e = refl
  unpassed false x e = ap (λ (m : ℕ). record (watch_at v.keys x) { passes_in = m }) e

  pub narrows_end : (done : List ℕ) (new : Parts) → ((x : Entry) → Member x old.entries → is_exclusive x ≡ true → nat_lt 0 x.passes_in ≡ true → is_among done x.desc.0 ≡ true) → Narrows p n done new
      → watches_of v new.interest ≡ narrowed_now v.files n (watches_of v old) (readiness v now old) (waiters_at v.keys ws)
  narrows_end done new all h = ap (map (watch_at v.keys)) h.entries ∙ each old.entries (λ x m. m) where
    whole : (x : Entry) → watch_at v.keys (cond (stops_at v now old ws n x) (idle x) x) ≡ passing_if (keeps x) (watch_at v.keys x)
    whole x =
        stopped (is_exclusive x) (is_number (chosen_number v now old ws n x.desc) x.number) (has_number x.number (choice_at v.files n (watches_of v old) (readiness v now old) (waiters_at v.keys ws) (number_at v.keys x.desc))) x
        (chosen_test (choice_at v.files n (watches_of v old) (readiness v now old) (waiters_at v.keys ws) (number_at v.keys x.desc)) x.number)

    one : (x : Entry) → Member x old.entries → watch_at v.keys (partly v now old ws n done x) ≡ passing_if (keeps x) (watch_at v.keys x)
    one x m = elim (cases_Bool (is_among done x.desc.0)) [
      | inl t ↦ ap (λ (b : Bool). watch_at v.keys (cond (b && stops_at v now old ws n x) (idle x) x)) t ∙ whole x
      | inr f ↦ elim (cases_Bool (is_exclusive x)) [
        | inl g ↦
            ap (λ (b : Bool). watch_at v.keys (cond (b && stops_at v now old ws n x) (idle x) x)) f
            ∙ unpassed (keeps x) x (elim (cases_Bool (nat_lt 0 x.passes_in)) [
              | inl passes ↦ absurd (false≢true (sym f ∙ all x m g passes))
              | inr none ↦ zero_of x.passes_in none
            ])
        | inr g ↦
            let idles : stops_at v now old ws n x ≡ false = ap (λ (b : Bool). b && not (is_number (chosen_number v now old ws n x.desc) x.number)) g in
            ap (λ (b : Bool). watch_at v.keys (cond (b && stops_at v now old ws n x) (idle x) x)) f
            ∙ (sym (ap (λ (b : Bool). watch_at v.keys (cond b (idle x) x)) idles) ∙ whole x)
      ]
    ]

    each : (xs : List Entry) → ((x : Entry) → Member x xs → Member x old.entries)
        → map (watch_at v.keys) (map (partly v now old ws n done) xs) ≡ map (λ x. passing_if (keeps_passing v.files n (watches_of v old) (readiness v now old) (waiters_at v.keys ws) x) x) (map (watch_at v.keys) xs)
    each [] within = refl
    each (x ∷ xs) within =
        let first = one x (within x (inl refl)) in
        let rest = each xs (λ y m. within y (inr m)) in
        λ i. first i ∷ rest i
