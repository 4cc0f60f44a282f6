-- The spread of what is raised, by what registrations note of it.
use Rattle.std.proofs.Common.{◌≡◌, ℕ, zero, suc, ◌==◌, ◌&&◌, ◌||◌, ◌∙◌, Bool, true, false, List, [], ◌∷◌, None, Option, Some, ap, bit_or, cond, filter, if◌then◌else◌, map, nat_lt, refl, sym, unwrap_or}
use Rattle.std.specs.List.{list_any}
use Rattle.std.specs.Int.Bits.{and_zero_l}
use Rattle.std.proofs.Math.Bool.{and-false}
use Rattle.ep_facts.proofs.NatFacts.{same_nat}
use Rattle.ep_facts.proofs.BoolFacts.{second_of_and}
use Rattle.ep_machine.specs.Bits.{ERR, HUP, IN, OUT, RDHUP, asked, has_bit, union, when}
use Rattle.ep_machine.specs.Counts.{brings, every_shown_bit, holds_wanted}
use Rattle.ep_machine.specs.Files.{Files, is_live, object_of}
use Rattle.ep_view.specs.KernelView.{KernelWatch, carries, climbed, freshened, kernel_watches, kernel_watch, reached_now, reached_within, stays_in, watches_instance}
use Rattle.ep_machine.specs.Objects.{Object, is_instance, plain}
use Rattle.ep_machine.specs.Readiness.{is_fresh}
use Rattle.ep_machine.specs.Spread.{arrived, is_reached, is_reached_within, passes_on_by, raised_alive, raised_of, reaching_of, spread}
use Rattle.ep_machine.specs.State.{State, Watch}
use Rattle.ep_view.proofs.FreshLemmas.{asked_either, brings_either, alive_raised}

-- IN reaches instances alone
pub reaching_is : (r : ℕ → Bool) (d : ℕ) (o : Option Object) → reaching_of r d o ≡ when (is_instance (unwrap_or o plain) && r d) IN
reaching_is r d None = refl
reaching_is r d (Some plain) = refl
reaching_is r d o = refl

-- no bits bring nothing
pub zero_brings : (mask : ℕ) → brings mask 0 ≡ false
zero_brings mask = none (asked mask every_shown_bit) where
  none : (w : ℕ) → holds_wanted w 0 ≡ false
  none w = λ i. and-false (has_bit w IN) i || and-false (has_bit w OUT) i || and-false (has_bit w ERR) i || and-false (has_bit w HUP) i || and-false (has_bit w RDHUP) i

pub zero_asked : (mask : ℕ) → nat_lt 0 (asked mask 0) ≡ false
zero_asked mask = ap (nat_lt 0) (and_zero_l (union (mask ∷ ERR ∷ HUP ∷ [])))

brings_when : (mask bits : ℕ) (b : Bool) → brings mask (when b bits) ≡ (b && brings mask bits)
brings_when mask bits true = refl
brings_when mask bits false = zero_brings mask

pub asked_when : (mask bits : ℕ) (b : Bool) → nat_lt 0 (asked mask (when b bits)) ≡ (b && nat_lt 0 (asked mask bits))
asked_when mask bits true = refl
asked_when mask bits false = zero_asked mask

pub passes : (a p i r q : Bool) → (a && (p || i && r && q)) ≡ (a && p || a && i && r && q)
passes false p i r q = refl
passes true p i r q = refl

-- a registration notes the event where it passes something on
pub noted_in : (n : ℕ) (c : Bool) → (0 == n) ≡ false → ((if c then n else 0) == n) ≡ c
noted_in n true apart = same_nat n
noted_in n false apart = apart

fresh_joined : (f d c : Bool) → (f || (d || c)) ≡ (c || (d || f))
fresh_joined true true true = refl
fresh_joined true true false = refl
fresh_joined true false true = refl
fresh_joined true false false = refl
fresh_joined false true true = refl
fresh_joined false true false = refl
fresh_joined false false true = refl
fresh_joined false false false = refl

-- of those that a filter leaves
any_left : (p f g : Watch → Bool) (xs : List Watch) → ((x : Watch) → p x ≡ true → f x ≡ g x) → list_any f (filter p xs) ≡ list_any g (filter p xs)
any_left p f g [] h = refl
any_left p f g (x ∷ xs) h = with_one (p x) (h x) (any_left p f g xs h) where
  with_one : (b : Bool) → (b ≡ true → f x ≡ g x) → list_any f (filter p xs) ≡ list_any g (filter p xs) → list_any f (cond b (x ∷ filter p xs) (filter p xs)) ≡ list_any g (cond b (x ∷ filter p xs) (filter p xs))
  with_one true one rest = let here = one refl in λ i. here i || rest i
  with_one false one rest = rest

pub any_map : {X Y : Type 0} (f : Y → Bool) (g : X → Y) (xs : List X) → list_any f (map g xs) ≡ list_any (λ x. f (g x)) xs
any_map f g [] = refl
any_map f g (x ∷ xs) = ap (λ (b : Bool). f (g x) || b) (any_map f g xs)

module _ (after : State) (g : Files) (n : ℕ) (raised : List (ℕ × ℕ)) (apart : (0 == n) ≡ false) where
  abbrev stays : Watch → Bool
  stays x = stays_in g (kernel_watch after x)

  abbrev left : List Watch
  left = filter stays after.watches

  abbrev b : State
  b = record after { files = g; watches = left }

  abbrev live : List (ℕ × ℕ)
  live = raised_alive b raised

  abbrev note : Watch → KernelWatch
  note x = freshened n raised (kernel_watch after x)

  target_lives : (x : Watch) → stays x ≡ true → is_live g x.target ≡ true
  target_lives x h = second_of_and (is_live g x.instance) (is_live g x.target) h

  -- the bits of the spread at its target
  bits_are : (r : ℕ → Bool) (x : Watch) → stays x ≡ true → bit_or (raised_of live x.target) (reaching_of r x.target (object_of g x.target)) ≡ bit_or (raised_of raised x.target) (when (watches_instance g (kernel_watch after x) && r x.target) IN)
  bits_are r x holds = λ i. bit_or (alive_raised g raised x.target (target_lives x holds) i) (reaching_is r x.target (object_of g x.target) i)

  pub passes_as_noted : (r : ℕ → Bool) (x : Watch) → stays x ≡ true → passes_on_by r b live x ≡ carries r g n (note x)
  passes_as_noted r x holds =
      let direct = nat_lt 0 (asked x.mask (raised_of raised x.target)) in
      let below = watches_instance g (kernel_watch after x) && r x.target in
      ap (λ (k : ℕ). x.armed && nat_lt 0 (asked x.mask k)) (bits_are r x holds)
      ∙ (ap (λ (t : Bool). x.armed && t) (asked_either x.mask (raised_of raised x.target) (when below IN) ∙ ap (λ (t : Bool). direct || t) (asked_when x.mask IN below))
      ∙ (passes x.armed direct (watches_instance g (kernel_watch after x)) (r x.target) (nat_lt 0 (asked x.mask IN))
      ∙ ap (λ (t : Bool). t || x.armed && watches_instance g (kernel_watch after x) && r x.target && nat_lt 0 (asked x.mask IN)) (sym (noted_in n (x.armed && direct) apart))))

  within_same : (k : ℕ) (e : ℕ) → is_reached_within k b live e ≡ reached_within k g n (map (freshened n raised) (kernel_watches after left)) e
  within_same zero e = refl
  within_same (suc k) e =
      let r : ℕ → Bool = reached_within k g n (map (freshened n raised) (kernel_watches after left)) in
      let same : is_reached_within k b live ≡ r = λ i d. within_same k d i in
      let carried : KernelWatch → Bool = λ y. y.instance == e && carries r g n y in
      any_left stays (λ x. x.instance == e && passes_on_by (is_reached_within k b live) b live x) (λ x. carried (note x)) after.watches
      (λ x holds. ap (λ (t : Bool). x.instance == e && t) (ap (λ (q : ℕ → Bool). passes_on_by q b live x) same ∙ passes_as_noted r x holds))
      ∙ (sym (any_map (λ y. carried (freshened n raised y)) (kernel_watch after) left) ∙ sym (any_map carried (freshened n raised) (kernel_watches after left)))

  abbrev pub reached : ℕ → Bool
  reached = reached_now g n (map (freshened n raised) (kernel_watches after left))

  pub reached_same : is_reached b live ≡ reached
  unfolding is_reached reached_now
  reached_same = λ i e. within_same 5 e i

  abbrev a : State
  a = arrived b raised

  -- a registration after arrivals
  pub kept_arrived : (x : Watch) → stays x ≡ true → is_fresh a x ≡ (is_fresh after x || brings x.mask (spread b live x.target)) → kernel_watch a x ≡ climbed reached g (note x)
  kept_arrived x holds fresh =
      let below = watches_instance g (kernel_watch after x) && reached x.target in
      let direct = raised_of raised x.target in
      let brought : brings x.mask (spread b live x.target) ≡ (brings x.mask direct || below && brings x.mask IN) =
      ap (brings x.mask) (ap (λ (r : ℕ → Bool). bit_or (raised_of live x.target) (reaching_of r x.target (object_of g x.target))) reached_same ∙ bits_are reached x holds)
      ∙ (brings_either x.mask direct (when below IN) ∙ ap (λ (t : Bool). brings x.mask direct || t) (brings_when x.mask IN below)) in
      ap (λ (t : Bool). record (kernel_watch after x) { fresh = t })
      (fresh ∙ ap (λ (t : Bool). is_fresh after x || t) brought ∙ fresh_joined (is_fresh after x) (brings x.mask direct) (below && brings x.mask IN))
