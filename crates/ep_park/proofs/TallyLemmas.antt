-- The tallies stay those of the list.
use Rattle.std.proofs.Common.{◌≡◌, ℕ, Bool, true, false, cond, ◌+◌, ◌-◌, ◌<◌, List, [], ◌∷◌, ◌++◌, Option, Some, None, refl, sym, ap, ◌∙◌, inl, inr, nat_eq, eqb, is_some, arith, length, zero-add, add-zero, nat_lt, if◌then◌else◌}
use Rattle.std.proofs.lemmas.Bool.{eq-eqb, lt-ltb}
use Rattle.std.proofs.lemmas.Bool.Decides.{eqb_tells}
use Rattle.std.proofs.lemmas.List.{length-map, map-append}
use Rattle.std.proofs.lemmas.List.Sums.{count_by-le-length, sum_by-append}
use Rattle.std.proofs.Math.Bool.{or-true}
use Rattle.std.specs.List.{count_by, list_any}
use Rattle.std.specs.Map.{lookup, remove_entry}
use Rattle.std.specs.Option.{IfSome, option_map, option_or}
use Rattle.ep_facts.proofs.OptionFacts.{some_mapped}
use Rattle.ep_base.specs.declared.ids.CallerId.{CallerId}
use Rattle.ep_machine.specs.State.{Waiter as Parked}
use Rattle.ep_machine.specs.Waits.{waits_at}
use Rattle.ep_park.proofs.ViewLemmas.{either}
use Rattle.ep_park.specs.Queue.{marked_in}
use Rattle.ep_park.specs.Tallies.{IsTallied, Rewrites, bit, first_at, is_marked_of, joined, left, remarked, tally_by, tally_of}
use Rattle.ep_park.specs.Waiters.{is_at, listed, parked}
use Rattle.ep_park.specs.declared.tally.Tally.{Tally}
use Rattle.ep_park.specs.declared.waiter.Waiter.{Waiter}

pub counted : (p : Parked → Bool) (w : Parked) (ws : List Parked) → count_by p (w ∷ ws) ≡ bit (p w) + count_by p ws
counted p w ws = sum_by-append (λ x. cond (p x) 1 0) (w ∷ []) ws ∙ ap (λ n. n + count_by p ws) (zero-add (bit (p w)))

pub counted_last : (p : Parked → Bool) (w : Parked) (ws : List Parked) → count_by p (ws ++ w ∷ []) ≡ count_by p ws + bit (p w)
counted_last p w ws = sum_by-append (λ x. cond (p x) 1 0) ws (w ∷ []) ∙ ap (λ n. count_by p ws + n) (zero-add (bit (p w)))

pub any_counted : (p : Parked → Bool) (ws : List Parked) → nat_lt 0 (count_by p ws) ≡ list_any p ws
any_counted p [] = refl
any_counted p (w ∷ ws) = elim (either (p w)) [
  | inl y ↦ rw (counted p w ws, y) (lt-ltb 0 (1 + count_by p ws) (omega arith))
  | inr n ↦ rw (counted p w ws, n, zero-add (count_by p ws)) (any_counted p ws)
]

-- nobody waits at the instance, so nobody is marked
pub none_counted : (e : ℕ) (ws : List Parked) → first_at e ws ≡ None → count_by (is_marked_of e) ws ≡ 0
none_counted e [] off = refl
none_counted e (w ∷ ws) off = elim (either (is_at e w)) [
  | inl y ↦ let bad : Some w.caller ≡ None = rw y at off in absurd (cc)
  | inr n ↦ let rest : first_at e ws ≡ None = rw n at off in rw (counted (is_marked_of e) w ws, n) (zero-add _ ∙ none_counted e ws rest)
]

pub any_first : (e : ℕ) (ws : List Parked) → is_some (first_at e ws) ≡ waits_at ws e
any_first e [] = refl
any_first e (w ∷ ws) = elim (either (is_at e w)) [ inl y ↦ rw y refl | inr n ↦ rw n (any_first e ws) ]

pub any_tally : (e : ℕ) (ws : List Parked) → is_some (tally_of e ws) ≡ waits_at ws e
any_tally e ws = some_mapped (tally_by (count_by (is_marked_of e) ws)) (first_at e ws) ∙ any_first e ws

tally_parts : (n : ℕ) (o : Option ℕ) (t : Tally) → Some t ≡ option_map (tally_by n) o → (t.marked ≡ n) × (o ≡ Some t.first.0)
tally_parts n None t is = absurd (cc)
tally_parts n (Some k) t is = let e : t ≡ tally_by n k = cc in (ap (λ (u : Tally). u.marked) e, ap (λ (u : Tally). Some u.first.0) (sym e))

-- what the tally of an instance says
pub marked_is : (e : ℕ) (ws : List Parked) (t : Tally) → Some t ≡ tally_of e ws → t.marked ≡ count_by (is_marked_of e) ws
marked_is e ws t is = (tally_parts (count_by (is_marked_of e) ws) (first_at e ws) t is).0

pub first_is : (e : ℕ) (ws : List Parked) (t : Tally) → Some t ≡ tally_of e ws → first_at e ws ≡ Some t.first.0
first_is e ws t is = (tally_parts (count_by (is_marked_of e) ws) (first_at e ws) t is).1

-- a waiter more
first_last : (e : ℕ) (w : Parked) (ws : List Parked) → first_at e (ws ++ w ∷ []) ≡ option_or (first_at e ws) (if is_at e w then Some w.caller else None)
first_last e w [] = elim (either (is_at e w)) [ inl y ↦ rw y refl | inr n ↦ rw n refl ]
first_last e w (x ∷ ws) = elim (either (is_at e x)) [ inl y ↦ rw y refl | inr n ↦ rw n (first_last e w ws) ]

or_none : (o : Option ℕ) → option_or o None ≡ o
or_none None = refl
or_none (Some x) = refl

joined_by : (n c : ℕ) (m : Bool) (o : Option ℕ) → (o ≡ None → n ≡ 0) → Some (joined (option_map (tally_by n) o) c m) ≡ option_map (tally_by (n + bit m)) (option_or o (Some c))
joined_by n c m None none = ap (λ k. Some (tally_by k c)) (sym (zero-add (bit m)) ∙ ap (λ k. k + bit m) (sym (none refl)))
joined_by n c m (Some k) none = refl

tally_last : (e : ℕ) (w : Parked) (ws : List Parked) → (if eqb w.instance e then Some (joined (tally_of e ws) w.caller w.marked) else tally_of e ws) ≡ tally_of e (ws ++ w ∷ [])
tally_last e w ws = elim (either (is_at e w)) [
  | inl y ↦ rw (counted_last (is_marked_of e) w ws, first_last e w ws, y) (joined_by (count_by (is_marked_of e) ws) w.caller w.marked (first_at e ws) (none_counted e ws))
  | inr n ↦ rw (counted_last (is_marked_of e) w ws, first_last e w ws, n, or_none (first_at e ws), add-zero (count_by (is_marked_of e) ws)) refl
]

-- one instance's tally as the list before and after says it, those of others untouched
pub retallied : (es es' : List (ℕ × Waiter)) (ts ts' : List (ℕ × Tally)) (n : ℕ) (t : Option Tally) → IsTallied es ts → Rewrites ts ts' n t → t ≡ tally_of n (listed es') → ((e : ℕ) → eqb n e ≡ false → tally_of e (listed es) ≡ tally_of e (listed es')) → IsTallied es' ts'
retallied es es' ts ts' n t h r own others = record {
  of = λ e. r e ∙ elim (eqb_tells n e) [
    | inl p ↦ rw p.0 (own ∙ ap (λ k. tally_of k (listed es')) p.1)
    | inr p ↦ rw p.0 (h.of e ∙ others e p.0)
  ];
}

last_own : (w : Parked) (ws : List Parked) → Some (joined (tally_of w.instance ws) w.caller w.marked) ≡ tally_of w.instance (ws ++ w ∷ [])
last_own w ws = let yes : eqb w.instance w.instance ≡ true = eq-eqb w.instance w.instance refl in rw yes at (tally_last w.instance w ws)

last_other : (e : ℕ) (w : Parked) (ws : List Parked) → eqb w.instance e ≡ false → tally_of e ws ≡ tally_of e (ws ++ w ∷ [])
last_other e w ws off = rw off at (tally_last e w ws)

pub tallied_last : (es : List (ℕ × Waiter)) (ts ts' : List (ℕ × Tally)) (c : ℕ) (w : Waiter) → IsTallied es ts → Rewrites ts ts' w.instance.0 (Some (joined (lookup (nat_eq w.instance.0) ts) c w.marked)) → IsTallied (es ++ (c, w) ∷ []) ts'
tallied_last es ts ts' c w h r =
    let n = w.instance.0 in
    let more : listed (es ++ (c, w) ∷ []) ≡ listed es ++ parked c w ∷ [] = map-append (λ (e : ℕ × Waiter). parked e.0 e.1) es ((c, w) ∷ []) in
    retallied es (es ++ (c, w) ∷ []) ts ts' n (Some (joined (lookup (nat_eq n) ts) c w.marked)) h r
    (ap (λ o. Some (joined o c w.marked)) (h.of n) ∙ (last_own (parked c w) (listed es) ∙ ap (tally_of n) (sym more)))
    (λ e off. last_other e (parked c w) (listed es) off ∙ ap (tally_of e) (sym more))

-- a waiter less
pub removed_count : (p : Parked → Bool) (c : ℕ) (w : Waiter) (es : List (ℕ × Waiter)) → lookup (nat_eq c) es ≡ Some w → count_by p (listed (remove_entry (nat_eq c) es)) + bit (p (parked c w)) ≡ count_by p (listed es)
removed_count p c w [] at = absurd (cc)
removed_count p c w (e ∷ es) at = elim (eqb_tells c e.0) [
  | inl y ↦
      let here : Some e.1 ≡ Some w = rw y.0 at at in
      let is : e.1 ≡ w = cc in
      let same : parked e.0 e.1 ≡ parked c w = ap (λ k. parked k e.1) (sym y.1) ∙ ap (parked c) is in
      rw (y.0, counted p (parked e.0 e.1) (listed es), same) (omega arith)
  | inr n ↦
      let rest : lookup (nat_eq c) es ≡ Some w = rw n.0 at at in
      rw (n.0, counted p (parked e.0 e.1) (listed es), counted p (parked e.0 e.1) (listed (remove_entry (nat_eq c) es))) (omega (arith, removed_count p c w es rest))
]

removed_first : (n c : ℕ) (w : Waiter) (es : List (ℕ × Waiter)) → lookup (nat_eq c) es ≡ Some w → eqb w.instance.0 n ≡ false → first_at n (listed es) ≡ first_at n (listed (remove_entry (nat_eq c) es))
removed_first n c w [] at off = absurd (cc)
removed_first n c w (e ∷ es) at off = elim (eqb_tells c e.0) [
  | inl y ↦
      let here : Some e.1 ≡ Some w = rw y.0 at at in
      let is : e.1 ≡ w = cc in
      let apart : eqb e.1.instance.0 n ≡ false = ap (λ (v : Waiter). eqb v.instance.0 n) is ∙ off in
      rw (y.0, apart) refl
  | inr m ↦
      let rest : lookup (nat_eq c) es ≡ Some w = rw m.0 at at in
      rw m.0 (elim (either (is_at n (parked e.0 e.1))) [ inl y ↦ rw y refl | inr k ↦ rw k (removed_first n c w es rest off) ])
]

left_by : (k : ℕ) (m : Bool) (t : Tally) (first : Option CallerId) (o : Option ℕ) → option_map (λ (c : CallerId). c.0) first ≡ o → t.marked - bit m ≡ k → left m t first ≡ option_map (tally_by k) o
left_by k m t None None same is = refl
left_by k m t None (Some x) same is = absurd (cc)
left_by k m t (Some f) None same is = absurd (cc)
left_by k m t (Some f) (Some x) same is = let e : f.0 ≡ x = cc in λ j. Some (record { first = record { 0 = e j }; marked = is j })

-- what an instance counts has the mark of each of its waiters
pub least_marked : (c : ℕ) (w : Waiter) (t : Tally) (es : List (ℕ × Waiter)) (ts : List (ℕ × Tally)) → IsTallied es ts → lookup (nat_eq c) es ≡ Some w → lookup (nat_eq w.instance.0) ts ≡ Some t → t.marked ≡ count_by (is_marked_of w.instance.0) (listed (remove_entry (nat_eq c) es)) + bit w.marked
least_marked c w t es ts h at is =
    let n = w.instance.0 in
    let yes : eqb n n ≡ true = eq-eqb n n refl in
    let own : bit (is_marked_of n (parked c w)) ≡ bit w.marked = rw yes refl in
    marked_is n (listed es) t (sym is ∙ h.of n) ∙ (sym (removed_count (is_marked_of n) c w es at) ∙ ap (λ k. count_by (is_marked_of n) (listed (remove_entry (nat_eq c) es)) + k) own)

pub tallied_less : (es : List (ℕ × Waiter)) (ts ts' : List (ℕ × Tally)) (c : ℕ) (w : Waiter) (t : Tally) (first : Option CallerId) → IsTallied es ts → lookup (nat_eq c) es ≡ Some w → lookup (nat_eq w.instance.0) ts ≡ Some t → option_map (λ (c : CallerId). c.0) first ≡ first_at w.instance.0 (listed (remove_entry (nat_eq c) es)) → Rewrites ts ts' w.instance.0 (left w.marked t first) → IsTallied (remove_entry (nat_eq c) es) ts'
tallied_less es ts ts' c w t first h at is same r =
    let n = w.instance.0 in
    let rest = remove_entry (nat_eq c) es in
    let count : t.marked - bit w.marked ≡ count_by (is_marked_of n) (listed rest) = omega (arith, least_marked c w t es ts h at is) in
    retallied es rest ts ts' n (left w.marked t first) h r
    (left_by (count_by (is_marked_of n) (listed rest)) w.marked t first (first_at n (listed rest)) same count)
    (λ e off. less_other e off)
  where
    less_other : (e : ℕ) → eqb w.instance.0 e ≡ false → tally_of e (listed es) ≡ tally_of e (listed (remove_entry (nat_eq c) es))
    less_other e off =
        let none : bit (is_marked_of e (parked c w)) ≡ 0 = rw off refl in
        let count : count_by (is_marked_of e) (listed es) ≡ count_by (is_marked_of e) (listed (remove_entry (nat_eq c) es)) = omega (arith, removed_count (is_marked_of e) c w es at, none) in
        λ j. option_map (tally_by (count j)) (removed_first e c w es at off j)

-- a waiter's instance has a tally
waits_found : (c : ℕ) (w : Waiter) (es : List (ℕ × Waiter)) → lookup (nat_eq c) es ≡ Some w → waits_at (listed es) w.instance.0 ≡ true
waits_found c w [] at = absurd (cc)
waits_found c w (e ∷ es) at = elim (eqb_tells c e.0) [
  | inl y ↦
      let here : Some e.1 ≡ Some w = rw y.0 at at in
      let is : e.1 ≡ w = cc in
      let same : eqb e.1.instance.0 w.instance.0 ≡ true = eq-eqb e.1.instance.0 w.instance.0 (ap (λ (v : Waiter). v.instance.0) is) in
      rw same refl
  | inr n ↦
      let rest : lookup (nat_eq c) es ≡ Some w = rw n.0 at at in
      rw (waits_found c w es rest) (or-true (eqb e.1.instance.0 w.instance.0))
]

pub tally_found : (c : ℕ) (w : Waiter) (es : List (ℕ × Waiter)) (ts : List (ℕ × Tally)) → IsTallied es ts → lookup (nat_eq c) es ≡ Some w → is_some (lookup (nat_eq w.instance.0) ts) ≡ true
tally_found c w es ts h at = ap is_some (h.of w.instance.0) ∙ (any_tally w.instance.0 (listed es) ∙ waits_found c w es at)

-- nobody is marked where there is no tally
pub none_marked : (e : ℕ) (ws : List Parked) → None ≡ tally_of e ws → false ≡ list_any (is_marked_of e) ws
none_marked e ws none = ap (nat_lt 0) (sym (none_counted e ws (off (first_at e ws) none))) ∙ any_counted (is_marked_of e) ws
  where
    off : (o : Option ℕ) → None ≡ option_map (tally_by (count_by (is_marked_of e) ws)) o → o ≡ None
    off None n = refl
    off (Some x) n = absurd (cc)

-- no more are marked than wait
pub few_marked : (n m : ℕ) (es : List (ℕ × Waiter)) (o : Option Tally) → o ≡ tally_of n (listed es) → length es < m → IfSome o (λ t. t.marked < m)
few_marked n m es None is few = tt
few_marked n m es (Some t) is few =
    omega (arith, marked_is n (listed es) t is, count_by-le-length (is_marked_of n) (listed es), length-map es (λ (e : ℕ × Waiter). parked e.0 e.1))

-- a waiter's mark changes
pub mark_count : (p : Parked → Bool) (a b : Bool) (c : ℕ) (v : Waiter) (m : Bool) (es : List (ℕ × Waiter)) → lookup (nat_eq c) es ≡ Some v → ((k : ℕ) → p (parked k v) ≡ a) → ((k : ℕ) → p (parked k (record v { marked = m })) ≡ b)
    → count_by p (listed (marked_in c m es)) + bit a ≡ count_by p (listed es) + bit b
mark_count p a b c v m [] at old new = absurd (cc)
mark_count p a b c v m (e ∷ es) at old new = elim (eqb_tells c e.0) [
  | inl y ↦
      let here : Some e.1 ≡ Some v = rw y.0 at at in
      let is : e.1 ≡ v = cc in
      let was : p (parked e.0 e.1) ≡ a = ap (λ u. p (parked e.0 u)) is ∙ old e.0 in
      let now : p (parked e.0 (record e.1 { marked = m })) ≡ b = ap (λ (u : Waiter). p (parked e.0 (record u { marked = m }))) is ∙ new e.0 in
      rw (y.0, counted p (parked e.0 e.1) (listed es), counted p (parked e.0 (record e.1 { marked = m })) (listed es), was, now) (omega arith)
  | inr n ↦
      let rest : lookup (nat_eq c) es ≡ Some v = rw n.0 at at in
      rw (n.0, counted p (parked e.0 e.1) (listed es), counted p (parked e.0 e.1) (listed (marked_in c m es)))
      (omega (arith, mark_count p a b c v m es rest old new))
]

mark_first : (n c : ℕ) (m : Bool) (es : List (ℕ × Waiter)) → first_at n (listed es) ≡ first_at n (listed (marked_in c m es))
mark_first n c m [] = refl
mark_first n c m (e ∷ es) = elim (eqb_tells c e.0) [
  | inl y ↦ rw y.0 (elim (either (is_at n (parked e.0 e.1))) [ inl z ↦ rw z refl | inr z ↦ rw z refl ])
  | inr k ↦ rw k.0 (elim (either (is_at n (parked e.0 e.1))) [ inl z ↦ rw z refl | inr z ↦ rw z (mark_first n c m es) ])
]

pub tallied_marked : (c : ℕ) (w : Waiter) (b : Bool) (t : Tally) (es : List (ℕ × Waiter)) (ts ts' : List (ℕ × Tally)) → IsTallied es ts → lookup (nat_eq c) es ≡ Some w → lookup (nat_eq w.instance.0) ts ≡ Some t → Rewrites ts ts' w.instance.0 (Some (remarked w.marked b t)) → IsTallied (marked_in c b es) ts'
tallied_marked c w b t es ts ts' h at is r =
    let n = w.instance.0 in
    let own_tally : Some t ≡ tally_of n (listed es) = sym is ∙ h.of n in
    retallied es (marked_in c b es) ts ts' n (Some (remarked w.marked b t)) h r
    (own own_tally)
    (λ e off. other e off)
  where
    own : Some t ≡ tally_of w.instance.0 (listed es) → Some (remarked w.marked b t) ≡ tally_of w.instance.0 (listed (marked_in c b es))
    own has =
        let n = w.instance.0 in
        let yes : eqb n n ≡ true = eq-eqb n n refl in
        let old = λ (k : ℕ). let same : is_marked_of n (parked k w) ≡ w.marked = rw yes refl in same in
        let new = λ (k : ℕ). let same : is_marked_of n (parked k (record w { marked = b })) ≡ b = rw yes refl in same in
        let count : (t.marked - bit w.marked) + bit b ≡ count_by (is_marked_of n) (listed (marked_in c b es)) =
        omega (arith, marked_is n (listed es) t has, least_marked c w t es ts h at is, mark_count (is_marked_of n) w.marked b c w b es at old new) in
        let first : Some t.first.0 ≡ first_at n (listed (marked_in c b es)) = sym (first_is n (listed es) t has) ∙ mark_first n c b es in
        λ j. option_map (tally_by (count j)) (first j)

    other : (e : ℕ) → eqb w.instance.0 e ≡ false → tally_of e (listed es) ≡ tally_of e (listed (marked_in c b es))
    other e off =
        let old = λ (k : ℕ). let same : is_marked_of e (parked k w) ≡ false = rw off refl in same in
        let new = λ (k : ℕ). let same : is_marked_of e (parked k (record w { marked = b })) ≡ false = rw off refl in same in
        let count : count_by (is_marked_of e) (listed es) ≡ count_by (is_marked_of e) (listed (marked_in c b es)) =
        omega (arith, mark_count (is_marked_of e) false false c w b es at old new) in
        λ j. option_map (tally_by (count j)) (mark_first e c b es j)
