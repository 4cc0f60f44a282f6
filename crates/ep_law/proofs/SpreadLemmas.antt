-- The spread is closed, and within every closed family of sets that has what was raised.
use Rattle.std.proofs.Common.{◌≡◌, ℕ, zero, suc, ◌==◌, ◌&&◌, Bool, true, false, List, [], ◌∷◌, Option, Some, None, refl, ap, subst, inl, inr, nat_lt, unwrap_or}
use Rattle.std.specs.Prelude.{bit_or}
use Rattle.std.specs.List.{list_any}
use Rattle.ep_facts.proofs.NatFacts.{from_test}
use Rattle.ep_facts.proofs.BoolFacts.{first_of_and, second_of_and}
use Rattle.ep_machine.specs.Bits.{IN, asked, when}
use Rattle.ep_machine.specs.Objects.{Object, plain, instance, is_instance}
use Rattle.ep_machine.specs.State.{State, Watch}
use Rattle.ep_machine.specs.Files.{object_of}
use Rattle.ep_machine.specs.Watches.{links, is_legal}
use Rattle.ep_machine.specs.Spread.{raised_of, reaching_of, spread_by, passes_on_by, is_reached_within, is_reached, spread, passes_on}
use Rattle.ep_law.specs.Laws.{Member, SpreadLeast}
use Rattle.ep_law.proofs.ListLemmas.{any_same, any_member, member_map, member_filter}
use Rattle.ep_law.proofs.ReadinessLemmas.{Goes, no_long_chain, and_same}

pub reaching_same : (r q : ℕ → Bool) (d : ℕ) (o : Option Object) → (is_instance (unwrap_or o plain) ≡ true → r d ≡ q d) → reaching_of r d o ≡ reaching_of q d o
reaching_same r q d None h = refl
reaching_same r q d (Some instance) h = ap (λ (b : Bool). when b IN) (h refl)
reaching_same r q d o h = refl

pub passes_same : (r q : ℕ → Bool) (s : State) (raised : List (ℕ × ℕ)) (x : Watch) → (is_instance (unwrap_or (object_of s.files x.target) plain) ≡ true → r x.target ≡ q x.target) → passes_on_by r s raised x ≡ passes_on_by q s raised x
passes_same r q s raised x h =
    let same = reaching_same r q x.target (object_of s.files x.target) h in
    λ i. x.armed && nat_lt 0 (asked x.mask (bit_or (raised_of raised x.target) (same i)))

enough : (k : ℕ) (s : State) (raised : List (ℕ × ℕ)) (e : ℕ) → (Goes k (links s) e → ⊥) → is_reached_within k s raised e ≡ is_reached_within (suc k) s raised e
enough zero s raised e h = absurd (h tt)
enough (suc k) s raised e h = any_same _ _ s.watches (λ x m.
    and_same (x.instance == e) _ _ (λ at. passes_same (is_reached_within k s raised) (is_reached_within (suc k) s raised) s raised x (λ inst.
    enough k s raised x.target (λ goes. h ((x.instance, x.target), member_map (λ y. (y.instance, y.target)) x _ (member_filter (λ y. is_instance (unwrap_or (object_of s.files y.target) plain)) x s.watches m inst), from_test x.instance e at, goes)))))

-- IN reaches an instance exactly where one of its registrations passes on what is in the spread
pub reached_equation : (s : State) (raised : List (ℕ × ℕ)) (e : ℕ) → is_legal (links s) ≡ true → is_reached s raised e ≡ list_any (λ x. x.instance == e && passes_on s raised x) s.watches
unfolding is_reached
reached_equation s raised e legal = enough 5 s raised e (λ goes. no_long_chain (links s) e legal goes)

-- closed under union, and under what a registration passes on
pub record Closed (P : ℕ → ℕ → Type 0) (xs : List Watch) (raised : List (ℕ × ℕ)) : Type 0 where
  pub starts : (r : ℕ × ℕ) → Member r raised → P r.0 r.1
  pub none : (d : ℕ) → P d 0
  pub both : (d a b : ℕ) → P d a → P d b → P d (bit_or a b)
  pub above : (x : Watch) (bits : ℕ) → Member x xs → x.armed ≡ true → nat_lt 0 (asked x.mask bits) ≡ true → P x.target bits → P x.instance IN

has_raised : (P : ℕ → ℕ → Type 0) (xs : List Watch) (all raised : List (ℕ × ℕ)) (d : ℕ) → Closed P xs all → ((r : ℕ × ℕ) → Member r raised → P r.0 r.1) → P d (raised_of raised d)
has_raised P xs all [] d c h = c.none d
has_raised P xs all (r ∷ rest) d c h =
    let Q : Bool → Type 0 = λ b. (r.0 == d) ≡ b → P d (when b r.1) in
    let one : (b : Bool) → Q b = λ b. elim b as Q [
      | true ↦ λ t. subst (λ (k : ℕ). P k r.1) (from_test r.0 d t) (h r (inl refl))
      | false ↦ λ t. c.none d
    ] in
    c.both d (when (r.0 == d) r.1) (raised_of rest d) (one (r.0 == d) refl) (has_raised P xs all rest d c (λ q m. h q (inr m)))

has_reaching : (P : ℕ → ℕ → Type 0) (r : ℕ → Bool) (d : ℕ) (o : Option Object) → P d 0 → (r d ≡ true → P d IN) → P d (reaching_of r d o)
has_reaching P r d None z h = z
has_reaching P r d (Some instance) z h =
    let Q : Bool → Type 0 = λ b. r d ≡ b → P d (when b IN) in
    let one : (b : Bool) → Q b = λ b. elim b as Q [ true ↦ λ t. h t | false ↦ λ t. z ] in
    one (r d) refl
has_reaching P r d o z h = z

has_spread : (P : ℕ → ℕ → Type 0) (r : ℕ → Bool) (s : State) (raised : List (ℕ × ℕ)) (d : ℕ) → Closed P s.watches raised → (r d ≡ true → P d IN) → P d (spread_by r s raised d)
has_spread P r s raised d c h =
    c.both d (raised_of raised d) (reaching_of r d (object_of s.files d)) (has_raised P s.watches raised raised d c c.starts) (has_reaching P r d (object_of s.files d) (c.none d) h)

has_reached : (P : ℕ → ℕ → Type 0) (k : ℕ) (s : State) (raised : List (ℕ × ℕ)) (e : ℕ) → Closed P s.watches raised → is_reached_within k s raised e ≡ true → P e IN
has_reached P zero s raised e c t = cc
has_reached P (suc k) s raised e c t =
    let some = any_member (λ x. x.instance == e && passes_on_by (is_reached_within k s raised) s raised x) s.watches t in
    let x = some.0 in
    let at = first_of_and (x.instance == e) _ some.2 in
    let passes = second_of_and (x.instance == e) _ some.2 in
    let bits = spread_by (is_reached_within k s raised) s raised x.target in
    let below = has_spread P (is_reached_within k s raised) s raised x.target c (λ u. has_reached P k s raised x.target c u) in
    subst (λ (d : ℕ). P d IN) (from_test x.instance e at) (c.above x bits some.1 (first_of_and x.armed _ passes) (second_of_and x.armed _ passes) below)

pub spread_least : (P : ℕ → ℕ → Type 0) (s : State) (raised : List (ℕ × ℕ)) (d : ℕ) → Closed P s.watches raised → P d (spread s raised d)
unfolding is_reached
spread_least P s raised d c = has_spread P (is_reached s raised) s raised d c (λ t. has_reached P 5 s raised d c t)

-- the same for a test
pub least : SpreadLeast
least P s raised d c =
    let closed : Closed (λ k bits. P k bits ≡ true) s.watches raised = record { starts = c.starts; none = c.none; both = c.both; above = c.above } in
    spread_least (λ k bits. P k bits ≡ true) s raised d closed
