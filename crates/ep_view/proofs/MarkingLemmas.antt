-- Whom the end of an event marks, by registrations as they are kept while it lasts.
use Rattle.std.proofs.Common.{◌≡◌, ℕ, zero, suc, ◌==◌, ◌&&◌, ◌||◌, ◌∙◌, Bool, true, false, List, [], ◌∷◌, Some, ap, bit_or, cond, filter, inl, inr, map, nat_lt, not, refl, sym}
use Rattle.std.specs.List.{find, list_any}
use Rattle.std.proofs.lemmas.Bool.{false≢true}
use Rattle.std.proofs.Math.Bool.{and-false}
use Rattle.ep_facts.proofs.NatFacts.{from_test}
use Rattle.ep_machine.specs.Bits.{EXCLUSIVE, IN, asked, has_bit, when}
use Rattle.ep_machine.specs.Exclusive.{finds_waiter, gets_mark, is_asked_at, is_guarded, is_guarded_within, is_left, is_spread_to, is_up_from, is_woken}
use Rattle.ep_machine.specs.Files.{Files, object_of}
use Rattle.ep_machine.specs.Marks.{first_marked, marked_by}
use Rattle.ep_machine.specs.Readiness.{is_ready}
use Rattle.ep_machine.specs.Spread.{is_reached, is_reached_within, passes_on_by, raised_of, reaching_of}
use Rattle.ep_machine.specs.State.{State, Waiter, Watch}
use Rattle.ep_machine.specs.Waits.{is_marked_at, marked_if_due, waits_at}
use Rattle.ep_machine.specs.Watches.{is_exclusive}
use Rattle.ep_law.specs.Laws.{Member, has_instance}
use Rattle.ep_law.specs.Narrow.{IsRegular, is_chosen, is_number_of, narrowed}
use Rattle.ep_law.proofs.ListLemmas.{any_same}
use Rattle.ep_law.proofs.NarrowLemmas.{woken_is_narrowed}
use Rattle.ep_view.specs.KernelView.{KernelWatch, any_within, carries, climbed, climbing, reached_now, reached_within, ready_now, resting, shows, watches_instance}
use Rattle.ep_view.specs.Marking.{above_now, choice_at, finds_now, guarded_now, guards, has_number, is_awaited_by, is_candidate, keeps_passing, lets_up, narrowed_now, passing_if}
use Rattle.ep_view.proofs.ClimbLemmas.{any_map, asked_when, passes, reaching_is}
use Rattle.ep_view.proofs.FreshLemmas.{asked_either, has_either}

-- Marks by tests that agree at each instance at which somebody waits.
pub first_same : (p q : ℕ → Bool) (all before ws : List Waiter) → ((w : Waiter) → Member w ws → p w.instance ≡ q w.instance) → first_marked p all before ws ≡ first_marked q all before ws
first_same p q all before [] h = refl
first_same p q all before (w ∷ ws) h =
    let one = h w (inl refl) in
    let rest = first_same p q all (w ∷ before) ws (λ v m. h v (inr m)) in
    λ i. record w { marked = w.marked || not (waits_at before w.instance) && not (is_marked_at all w.instance) && one i } ∷ rest i

pub due_member : (now : ℕ) (ws : List Waiter) (w : Waiter) → Member w (map (marked_if_due now) ws) → (v : Waiter) × Member v ws × (v.instance ≡ w.instance)
due_member now [] w m = absurd m
due_member now (v ∷ ws) w (inl e) = (v, inl refl, sym (ap (λ (u : Waiter). u.instance) e))
due_member now (v ∷ ws) w (inr m) = let r = due_member now ws w m in (r.0, inr r.1, r.2)

pub marks_same : (p q : ℕ → Bool) (now : ℕ) (ws : List Waiter) → ((w : Waiter) → Member w ws → p w.instance ≡ q w.instance) → marked_by p now ws ≡ marked_by q now ws
marks_same p q now ws h =
    let due = map (marked_if_due now) ws in
    first_same p q due [] due (λ w m. let v = due_member now ws w m in ap p (sym v.2) ∙ (h v.0 v.1 ∙ ap q v.2))

-- Bools.
shifted : (e t a b c f g : Bool) → (t ≡ true → b ≡ c) → f ≡ g → (e && t && a && b && f) ≡ (e && t && (a && c) && g)
shifted false t a b c f g h k = refl
shifted true false a b c f g h k = refl
shifted true true false b c f g h k = refl
shifted true true true b c f g h k = λ i. h refl i && k i

joined : (a b : Bool) → bit_or (bit_or (when a IN) 0) (when b IN) ≡ when (a || b) IN
joined true true = refl
joined true false = refl
joined false true = refl
joined false false = refl

in_when : (b : Bool) → has_bit (when b IN) IN ≡ b
in_when true = refl
in_when false = refl

holds_if : (i r : Bool) → i ≡ true → (i && r) ≡ r
holds_if true r h = refl
holds_if false r h = absurd (false≢true h)

any_filter : {X : Type 0} (p f : X → Bool) (xs : List X) → list_any f (filter p xs) ≡ list_any (λ x. p x && f x) xs
any_filter p f [] = refl
any_filter p f (x ∷ xs) = by (p x) ∙ ap (λ (b : Bool). p x && f x || b) (any_filter p f xs) where
  by : (b : Bool) → list_any f (cond b (x ∷ filter p xs) (filter p xs)) ≡ (b && f x || list_any f (filter p xs))
  by true = refl
  by false = refl

-- A registration as it is kept while event n lasts.
pub record IsSeen (n : ℕ) (raised : List (ℕ × ℕ)) (x : Watch) (z : KernelWatch) : Type 0 where
  pub number : x.number ≡ z.number
  pub instance_of : x.instance ≡ z.instance
  pub target : x.target ≡ z.target
  pub mask : x.mask ≡ z.mask
  pub armed : x.armed ≡ z.armed
  pub passes_on : (x.armed && nat_lt 0 (asked x.mask (raised_of raised x.target))) ≡ (z.passes_in == n)

abbrev pub AreSeen : ℕ → List (ℕ × ℕ) → List Watch → List KernelWatch → Type 0
AreSeen n raised [] [] = Unit {0}
AreSeen n raised [] (z ∷ zs) = ⊥
AreSeen n raised (x ∷ xs) [] = ⊥
AreSeen n raised (x ∷ xs) (z ∷ zs) = IsSeen n raised x z × AreSeen n raised xs zs

module _ (n : ℕ) (raised : List (ℕ × ℕ)) where
  any_seen : (f : Watch → Bool) (g : KernelWatch → Bool) (xs : List Watch) (zs : List KernelWatch) → AreSeen n raised xs zs → ((x : Watch) (z : KernelWatch) → Member x xs → IsSeen n raised x z → f x ≡ g z) → list_any f xs ≡ list_any g zs
  any_seen f g [] [] seen h = refl
  any_seen f g [] (z ∷ zs) seen h = absurd seen
  any_seen f g (x ∷ xs) [] seen h = absurd seen
  any_seen f g (x ∷ xs) (z ∷ zs) seen h =
      let one = h x z (inl refl) seen.0 in
      let rest = any_seen f g xs zs seen.1 (λ y v m. h y v (inr m)) in
      λ i. one i || rest i

  find_seen : (f : Watch → Bool) (g : KernelWatch → Bool) (xs : List Watch) (zs : List KernelWatch) → AreSeen n raised xs zs → ((x : Watch) (z : KernelWatch) → Member x xs → IsSeen n raised x z → f x ≡ g z)
      → (k : ℕ) → is_number_of k (find f xs) ≡ has_number k (find g zs)
  find_seen f g [] [] seen h k = refl
  find_seen f g [] (z ∷ zs) seen h k = absurd seen
  find_seen f g (x ∷ xs) [] seen h k = absurd seen
  find_seen f g (x ∷ xs) (z ∷ zs) seen h k =
      let one = h x z (inl refl) seen.0 in
      let rest = find_seen f g xs zs seen.1 (λ y v m. h y v (inr m)) k in
      ap (λ (b : Bool). is_number_of k (cond b (Some x) (find f xs))) one
      ∙ by (g z) rest where
        by : (b : Bool) → is_number_of k (find f xs) ≡ has_number k (find g zs) → is_number_of k (cond b (Some x) (find f xs)) ≡ has_number k (cond b (Some z) (find g zs))
        by true rest = ap (λ (j : ℕ). j == k) seen.0.number
        by false rest = rest

  module _ (s : State) (zs : List KernelWatch) (seen : AreSeen n raised s.watches zs) where
    -- what guards
    guarded_within : (k : ℕ) (e : ℕ) → is_guarded_within k s e ≡ any_within guards k zs e
    guarded_within zero e = refl
    guarded_within (suc k) e = any_seen (λ x. x.instance == e && (is_exclusive x || is_guarded_within k s x.target)) (λ z. z.instance == e && guards (any_within guards k zs) z) s.watches zs seen
        (λ x z m is i. is.instance_of i == e && (has_bit (is.mask i) EXCLUSIVE || guarded_within k (is.target i) i))

    pub guarded_seen : (e : ℕ) → is_guarded s e ≡ guarded_now zs e
    unfolding is_guarded guarded_now
    guarded_seen e = guarded_within 5 e

    -- what is above
    module _ (below : ℕ) where
      abbrev seeds : List (ℕ × ℕ)
      seeds = (below, IN) ∷ []

      lets : (r : ℕ → Bool) (x : Watch) → passes_on_by r s seeds x ≡ (x.armed && (below == x.target || has_instance s.files x.target && r x.target) && nat_lt 0 (asked x.mask IN))
      lets r x =
          ap (λ (b : ℕ). x.armed && nat_lt 0 (asked x.mask b)) (ap (bit_or (bit_or (when (below == x.target) IN) 0)) (reaching_is r x.target (object_of s.files x.target)) ∙ joined (below == x.target) (has_instance s.files x.target && r x.target))
          ∙ (ap (λ (b : Bool). x.armed && b) (asked_when x.mask IN (below == x.target || has_instance s.files x.target && r x.target))
          ∙ three x.armed (below == x.target || has_instance s.files x.target && r x.target) (nat_lt 0 (asked x.mask IN))) where
            three : (a b c : Bool) → (a && (b && c)) ≡ (a && b && c)
            three true b c = refl
            three false b c = refl

      above_within : (k : ℕ) (e : ℕ) → is_reached_within k s seeds e ≡ any_within (lets_up s.files below) k zs e
      above_within zero e = refl
      above_within (suc k) e = any_seen (λ x. x.instance == e && passes_on_by (is_reached_within k s seeds) s seeds x) (λ z. z.instance == e && lets_up s.files below (any_within (lets_up s.files below) k zs) z) s.watches zs seen
          (λ x z m is. ap (λ (b : Bool). x.instance == e && b) (lets (is_reached_within k s seeds) x)
          ∙ (λ i. is.instance_of i == e && (is.armed i && (below == is.target i || has_instance s.files (is.target i) && above_within k (is.target i) i) && nat_lt 0 (asked (is.mask i) IN))))

      above_seen : (e : ℕ) → is_reached s seeds e ≡ above_now s.files zs below e
      unfolding is_reached above_now
      above_seen e = above_within 5 e

      up_seen : (e : ℕ) → has_instance s.files e ≡ true → is_up_from s below e ≡ (below == e || above_now s.files zs below e)
      up_seen e holds =
          ap (λ (b : ℕ). has_bit b IN) (ap (bit_or (bit_or (when (below == e) IN) 0)) (reaching_is (is_reached s seeds) e (object_of s.files e) ∙ ap (λ (b : Bool). when b IN) (holds_if _ (is_reached s seeds e) holds)) ∙ joined (below == e) (is_reached s seeds e))
          ∙ (in_when (below == e || is_reached s seeds e) ∙ ap (λ (b : Bool). below == e || b) (above_seen e))

    -- which are chosen, if these wait
    module _ (regular : IsRegular s) (apart : (0 == n) ≡ false) (ready : ℕ → Bool) (same_ready : (e : ℕ) → is_ready s e ≡ ready e)
        (ws : List Waiter) (waits : (w : Waiter) → Member w ws → has_instance s.files w.instance ≡ true) where
      finds_seen : (x : Watch) (z : KernelWatch) → IsSeen n raised x z → finds_waiter s ws x ≡ finds_now s.files zs ready ws z
      finds_seen x z is =
          any_same (λ w. is_up_from s x.instance w.instance && (is_ready s w.instance && waits_at ws w.instance && not (is_marked_at ws w.instance)))
          (λ w. (z.instance == w.instance || above_now s.files zs z.instance w.instance) && is_awaited_by ready ws w.instance) ws
          (λ w m. (λ i. up_seen x.instance w.instance (waits w m) i && (same_ready w.instance i && waits_at ws w.instance && not (is_marked_at ws w.instance)))
          ∙ (λ i. (is.instance_of i == w.instance || above_now s.files zs (is.instance_of i) w.instance) && is_awaited_by ready ws w.instance))

      candidate : (d : ℕ) (x : Watch) (z : KernelWatch) → IsSeen n raised x z → (is_asked_at raised d x && finds_waiter s ws x) ≡ is_candidate s.files n zs ready ws d z
      candidate d x z is =
          shifted (is_exclusive x) (x.target == d) x.armed (nat_lt 0 (asked x.mask (raised_of raised d))) (nat_lt 0 (asked x.mask (raised_of raised x.target))) _ _
          (λ at. ap (λ (e : ℕ). nat_lt 0 (asked x.mask (raised_of raised e))) (sym (from_test x.target d at))) (finds_seen x z is)
          ∙ (λ i. has_bit (is.mask i) EXCLUSIVE && is.target i == d && is.passes_on i && finds_now s.files zs ready ws z)

      kept : (x : Watch) (z : KernelWatch) → IsSeen n raised x z → (not (is_exclusive x) || is_chosen s raised ws x) ≡ keeps_passing s.files n zs ready ws z
      kept x z is =
          ap (λ (b : Bool). not (is_exclusive x) || b) (find_seen (λ y. is_asked_at raised x.target y && finds_waiter s ws y) (is_candidate s.files n zs ready ws x.target) s.watches zs seen (λ y v m. candidate x.target y v) x.number)
          ∙ (λ i. not (has_bit (is.mask i) EXCLUSIVE) || has_number (is.number i) (choice_at s.files n zs ready ws (is.target i)))

      -- what is reached if only those pass on
      abbrev few : State
      few = narrowed s raised ws

      abbrev narrow : List KernelWatch
      narrow = narrowed_now s.files n zs ready ws

      one_passes : (r : ℕ → Bool) (x : Watch) (z : KernelWatch) → IsSeen n raised x z → passes_on_by r few raised x ≡ carries r s.files n z
      one_passes r x z is =
          ap (λ (b : ℕ). x.armed && nat_lt 0 (asked x.mask (bit_or (raised_of raised x.target) b))) (reaching_is r x.target (object_of s.files x.target))
          ∙ (ap (λ (b : Bool). x.armed && b) (asked_either x.mask (raised_of raised x.target) (when (has_instance s.files x.target && r x.target) IN) ∙ ap (λ (b : Bool). nat_lt 0 (asked x.mask (raised_of raised x.target)) || b) (asked_when x.mask IN (has_instance s.files x.target && r x.target)))
          ∙ (passes x.armed (nat_lt 0 (asked x.mask (raised_of raised x.target))) (has_instance s.files x.target) (r x.target) (nat_lt 0 (asked x.mask IN))
          ∙ (λ i. is.passes_on i || is.armed i && has_instance s.files (is.target i) && r (is.target i) && nat_lt 0 (asked (is.mask i) IN))))

      nothing : (a w r q : Bool) → w ≡ false → (a && w && r && q) ≡ false
      nothing true true r q h = absurd (false≢true (sym h))
      nothing true false r q h = refl
      nothing false w r q h = refl

      guard_if : (e c : Bool) → (not e || c) ≡ false → e ≡ true
      guard_if true c h = refl
      guard_if false c h = absurd (false≢true (sym h))

      narrowed_one : (e : ℕ) (r q : ℕ → Bool) → ((d : ℕ) → r d ≡ q d) → (x : Watch) (z : KernelWatch) → Member x s.watches → IsSeen n raised x z
          → ((not (is_exclusive x) || is_chosen s raised ws x) && (x.instance == e && passes_on_by r few raised x)) ≡ (z.instance == e && carries q s.files n (passing_if (keeps_passing s.files n zs ready ws z) z))
      narrowed_one e r q same x z m is =
          let passed : passes_on_by r few raised x ≡ carries q s.files n z = one_passes r x z is ∙ ap (λ (f : ℕ → Bool). carries f s.files n z) (λ i d. same d i) in
          (λ i. kept x z is i && (is.instance_of i == e && passed i)) ∙ by (keeps_passing s.files n zs ready ws z) refl where
            by : (b : Bool) → keeps_passing s.files n zs ready ws z ≡ b → (b && (z.instance == e && carries q s.files n z)) ≡ (z.instance == e && carries q s.files n (passing_if b z))
            by true is_kept = refl
            by false is_not =
                let guard : is_exclusive x ≡ true = guard_if (is_exclusive x) _ (kept x z is ∙ is_not) in
                let none : watches_instance s.files z ≡ false = ap (has_instance s.files) (sym is.target) ∙ regular.exclusive x m guard in
                sym (ap (λ (b : Bool). z.instance == e && b) ((λ i. apart i || nothing z.armed (watches_instance s.files z) (q z.target) (nat_lt 0 (asked z.mask IN)) none i)) ∙ and-false (z.instance == e))

      few_within : (k : ℕ) (e : ℕ) → is_reached_within k few raised e ≡ reached_within k s.files n narrow e
      few_within zero e = refl
      few_within (suc k) e =
          let r : ℕ → Bool = is_reached_within k few raised in
          let q : ℕ → Bool = reached_within k s.files n narrow in
          any_filter (λ x. not (is_exclusive x) || is_chosen s raised ws x) (λ x. x.instance == e && passes_on_by r few raised x) s.watches
          ∙ (any_seen (λ x. (not (is_exclusive x) || is_chosen s raised ws x) && (x.instance == e && passes_on_by r few raised x)) (λ z. z.instance == e && carries q s.files n (passing_if (keeps_passing s.files n zs ready ws z) z)) s.watches zs seen
          (λ x z m is. narrowed_one e r q (few_within k) x z m is)
          ∙ sym (any_map (λ z. z.instance == e && carries q s.files n z) (λ z. passing_if (keeps_passing s.files n zs ready ws z) z) zs))

      few_seen : (e : ℕ) → is_reached few raised e ≡ reached_now s.files n narrow e
      unfolding is_reached reached_now
      few_seen e = few_within 5 e

      spread_seen : (e : ℕ) → has_instance s.files e ≡ true → is_spread_to few raised e ≡ (has_bit (raised_of raised e) IN || reached_now s.files n narrow e)
      spread_seen e holds =
          has_either (raised_of raised e) (reaching_of (is_reached few raised) e (object_of s.files e)) IN
          ∙ ap (λ (b : Bool). has_bit (raised_of raised e) IN || b)
          (ap (λ (b : ℕ). has_bit b IN) (reaching_is (is_reached few raised) e (object_of s.files e)) ∙ (in_when (has_instance s.files e && is_reached few raised e) ∙ (holds_if _ (is_reached few raised e) holds ∙ few_seen e)))

      -- an instance is woken alike
      pub woken_seen : (before : State) (e : ℕ) → has_instance s.files e ≡ true → is_woken before s raised ws e ≡ (has_bit (raised_of raised e) IN || reached_now s.files n narrow e || is_left before s e)
      woken_seen before e holds = woken_is_narrowed s raised ws regular before e ∙ ap (λ (b : Bool). b || is_left before s e) (spread_seen e holds)

      -- so it gets a mark alike
      pub gets_seen : (before : State) (e : ℕ) → has_instance s.files e ≡ true
          → gets_mark before s raised ws e ≡ (ready e && (not (guarded_now zs e) || (has_bit (raised_of raised e) IN || reached_now s.files n narrow e || is_left before s e)))
      gets_seen before e holds =
          ap (λ (b : Bool). is_ready s e && (not (is_guarded s e) || b)) (woken_seen before e holds)
          ∙ (λ i. same_ready e i && (not (guarded_seen e i) || (has_bit (raised_of raised e) IN || reached_now s.files n narrow e || is_left before s e)))

-- Neither readiness nor guards see what is passed on.
any_rests : (test : (ℕ → Bool) → KernelWatch → Bool) → ((r : ℕ → Bool) (x : KernelWatch) → test r (resting x) ≡ test r x) → (k : ℕ) (xs : List KernelWatch) (e : ℕ) → any_within test k (map resting xs) e ≡ any_within test k xs e
any_rests test same zero xs e = refl
any_rests test same (suc k) xs e =
    let r : ℕ → Bool = any_within test k (map resting xs) in
    any_map (λ x. x.instance == e && test r x) resting xs
    ∙ any_where xs (λ x. ap (λ (b : Bool). x.instance == e && b) (same r x ∙ ap (λ (q : ℕ → Bool). test q x) (λ i d. any_rests test same k xs d i))) where
      any_where : {f g : KernelWatch → Bool} (ys : List KernelWatch) → ((y : KernelWatch) → f y ≡ g y) → list_any f ys ≡ list_any g ys
      any_where [] h = refl
      any_where (y ∷ ys) h = let one = h y in let rest = any_where ys h in λ i. one i || rest i

pub ready_rests : (files : Files) (now : ℕ) (xs : List KernelWatch) (e : ℕ) → ready_now files now (map resting xs) e ≡ ready_now files now xs e
unfolding ready_now
ready_rests files now xs e = any_rests (λ ready x. shows ready files now x) (λ r x. refl) 5 xs e

pub guarded_rests : (xs : List KernelWatch) (e : ℕ) → guarded_now (map resting xs) e ≡ guarded_now xs e
unfolding guarded_now
guarded_rests xs e = any_rests guards (λ r x. refl) 5 xs e

pub climbed_rests : (r : ℕ → Bool) (files : Files) (xs : List KernelWatch) → map (climbed r files) xs ≡ map resting (map (climbing r files) xs)
climbed_rests r files [] = refl
climbed_rests r files (x ∷ xs) = ap (λ (ys : List KernelWatch). climbed r files x ∷ ys) (climbed_rests r files xs)
