-- Between two states: where an instance begins to be ready, what was raised reaches it.
use Rattle.std.proofs.Common.{◌≡◌, ℕ, zero, suc, ◌==◌, ◌<◌, ◌&&◌, ◌||◌, ◌∙◌, ◌⊎◌, Bool, true, false, List, None, Option, Some, not, nat_lt, inl, inr, max, refl, ap, arith, subst, sym, unwrap_or}
use Rattle.std.specs.Int.{bit_at}
use Rattle.std.proofs.lemmas.Bool.{cases_Bool, false≢true}
use Rattle.std.proofs.lemmas.Bool.Decides.{nat_tests}
use Rattle.std.proofs.lemmas.Nat.Bits.{bit_at_or, bit_at-lt, bit_at-zero, bit_at-pow_other}
use Rattle.ep_facts.proofs.BoolFacts.{first_of_and, second_of_and}
use Rattle.ep_facts.proofs.NatFacts.{from_test, same_nat, zero_of}
use Rattle.ep_base.specs.declared.counts.Counts.{Counts}
use Rattle.ep_machine.specs.Bits.{ET, IN, asked, has_bit, when}
use Rattle.ep_machine.specs.Counts.{counted, every_shown_bit}
use Rattle.ep_machine.specs.Files.{is_live, object_of, side_of}
use Rattle.ep_law.specs.Laws.{IsNoted, Kept, Member, has_instance}
use Rattle.ep_machine.specs.Objects.{Object, instance, is_instance, plain}
use Rattle.ep_machine.specs.Readiness.{is_fresh_since, is_ready, is_ready_within, is_reportable, is_reportable_by, present, present_by, present_of}
use Rattle.ep_machine.specs.Spread.{is_reached, passes_on, raised_of, reaching_of, spread}
use Rattle.ep_machine.specs.State.{State, Watch, counts_of}
use Rattle.ep_machine.specs.Watches.{is_legal, links}
use Rattle.ep_law.proofs.SpreadLemmas.{reached_equation}
use Rattle.ep_law.proofs.ReadinessLemmas.{ready_equation}
use Rattle.ep_law.proofs.ListLemmas.{any_has, any_member}
use Rattle.ep_object.proofs.BitLemmas.{Covers}
use Rattle.ep_law.proofs.MaskLemmas.{asked_begins, fresh_begins, not_fresh}

-- what was raised holds IN at this instance
abbrev pub HasIn : State → List (ℕ × ℕ) → ℕ → Type 0
HasIn left raised e = bit_at (spread left raised e) 0 ≡ 1

-- one that was looked at, as it was made or changed
abbrev pub IsLookedAt : State → List (ℕ × ℕ) → State → Watch → Type 0
IsLookedAt left raised t x = (k : ℕ) → is_reportable_by (is_ready_within k t) t x ≡ true → (passes_on left raised x ≡ true) ⊎ HasIn left raised x.instance

-- from state u, through the state that is left of a change and what was raised there, to state t
pub record Leads (u left t : State) (raised : List (ℕ × ℕ)) : Type 0 where
  pub legal : is_legal (links u) ≡ true
  pub legal_left : is_legal (links left) ≡ true
  pub noted : (y : Watch) → Member y t.watches → (x : Watch) × Member x left.watches × IsNoted x y
  pub origin : (x : Watch) → Member x left.watches → Kept u x ⊎ IsLookedAt left raised t x
  pub lived : (x : Watch) → Member x left.watches → Kept u x → is_live u.files x.target ≡ true
  pub lives : (x : Watch) → Member x left.watches → is_live t.files x.target ≡ true
  pub counts : (d : ℕ) → is_live t.files d ≡ true → counts_of t d ≡ counted (spread left raised d) (counts_of u d)
  pub kinds : (d : ℕ) → is_live u.files d ≡ true → is_live t.files d ≡ true → object_of t.files d ≡ Some instance → object_of u.files d ≡ Some instance
  pub same : (d : ℕ) → object_of t.files d ≡ object_of left.files d
  pub shows : (d : ℕ) (r : ℕ → Bool) → is_live u.files d ≡ true → is_live t.files d ≡ true → has_instance t.files d ≡ false → Covers (present u d) (present_by r t d) (spread left raised d)

pub instance_is : (o : Option Object) → is_instance (unwrap_or o plain) ≡ true → o ≡ Some instance
instance_is None h = cc
instance_is (Some instance) h = refl
instance_is o h = cc

not_zero_one : (b : ℕ) → b ≡ 0 → b ≡ 1 → ⊥
not_zero_one b p q = absurd (omega (arith, p, q))

pub in_bit : (i : ℕ) → bit_at IN i ≡ 1 → i ≡ 0
in_bit zero h = refl
in_bit (suc i) h = absurd (not_zero_one (bit_at IN (suc i)) (bit_at-pow_other 0 (suc i) (λ e. absurd (omega (arith, e)))) h)

ready_covers : (a b : Bool) (raised : ℕ) → (b ≡ true → a ≡ false → bit_at raised 0 ≡ 1) → Covers (when a IN) (when b IN) raised
ready_covers a false raised h i e = absurd (not_zero_one (bit_at 0 i) (bit_at-zero i) e)
ready_covers true true raised h i e = inl e
ready_covers false true raised h i e = inr (subst (λ (j : ℕ). bit_at raised j ≡ 1) (sym (in_bit i e)) (h refl refl))

second_max : (a : ℕ) → a < 2 → max a 1 ≡ 1
second_max zero lt = refl
second_max (suc zero) lt = refl
second_max (suc (suc a)) lt = absurd (omega (arith, lt))

if_some : (b : Bool) (n : ℕ) → nat_lt 0 (when b n) ≡ true → (b ≡ true) × (nat_lt 0 n ≡ true)
if_some true n h = (refl, h)
if_some false n h = absurd (false≢true h)

neither : (a b : Bool) → (not a || b) ≡ false → (a ≡ true) × (b ≡ false)
neither true b h = (refl, h)
neither false b h = absurd (false≢true (sym h))

and_first : (a b : Bool) → (a && b) ≡ false → a ≡ true → b ≡ false
and_first true b h e = h
and_first false b h e = absurd (false≢true e)

module _ (u left t : State) (raised : List (ℕ × ℕ)) (given : Leads u left t raised) where
  -- readiness at this depth, where it begins, is reached
  abbrev IsReachedBy : (ℕ → Bool) → Type 0
  IsReachedBy r = (e : ℕ) → object_of t.files e ≡ Some instance → r e ≡ true → is_ready u e ≡ false → HasIn left raised e

  pub covers : (r : ℕ → Bool) → IsReachedBy r → (d : ℕ) → is_live u.files d ≡ true → is_live t.files d ≡ true → Covers (present u d) (present_by r t d) (spread left raised d)
  covers r below d lived lives = elim (cases_Bool (has_instance t.files d)) [
    | inl holds ↦
        let here = instance_is (object_of t.files d) holds in
        let before = given.kinds d lived lives here in
        let after_is : when (r d) IN ≡ present_by r t d = ap (λ (o : Option Object). present_of r d o (side_of t.files d) t.now) (sym here) in
        let before_is : when (is_ready u d) IN ≡ present u d = ap (λ (o : Option Object). present_of (is_ready u) d o (side_of u.files d) u.now) (sym before) in
        subst (λ (n : ℕ). Covers n (present_by r t d) (spread left raised d)) before_is
        (subst (λ (n : ℕ). Covers (when (is_ready u d) IN) n (spread left raised d)) after_is
        (ready_covers (is_ready u d) (r d) (spread left raised d) (below d here)))
    | inr fails ↦ given.shows d r lived lives fails
  ]

  pub passes : (r : ℕ → Bool) → IsReachedBy r → (x : Watch) → Member x left.watches → (k : Kept u x) → is_reportable_by r t x ≡ true → is_reportable u k.was ≡ false → passes_on left raised x ≡ true
  passes r below x m k shows silent =
      let d = x.target in
      let up = spread left raised d in
      let lived = given.lived x m k in
      let lives = given.lives x m in
      let armed_some = if_some x.armed (asked x.mask (present_by r t d)) (first_of_and _ _ shows) in
      let was_armed = k.armed armed_some.0 in
      let before : (nat_lt 0 (asked x.mask (present u d)) && (not (has_bit x.mask ET) || is_fresh_since k.was.seen (asked x.mask every_shown_bit) (counts_of u d))) ≡ false =
      (λ i. nat_lt 0 (when (sym was_armed i) (asked (sym k.mask i) (present u (sym k.target i)))) && (not (has_bit (sym k.mask i) ET) || is_fresh_since k.was.seen (asked (sym k.mask i) every_shown_bit) (counts_of u (sym k.target i)))) ∙ silent in
      let now : (not (has_bit x.mask ET) || is_fresh_since x.seen (asked x.mask every_shown_bit) (counted up (counts_of u d))) ≡ true =
      ap (λ (c : Counts). not (has_bit x.mask ET) || is_fresh_since x.seen (asked x.mask every_shown_bit) c) (sym (given.counts d lives)) ∙ second_of_and _ _ shows in
      let asks : nat_lt 0 (asked x.mask up) ≡ true = elim (cases_Bool (nat_lt 0 (asked x.mask (present u d)))) [
        | inl held ↦
            let stale = neither (has_bit x.mask ET) _ (and_first _ _ before held) in
            let fresh : is_fresh_since x.seen (asked x.mask every_shown_bit) (counted up (counts_of u d)) ≡ true = ap (λ (b : Bool). not b || is_fresh_since x.seen (asked x.mask every_shown_bit) (counted up (counts_of u d))) (sym stale.0) ∙ now in
            elim (fresh_begins x.mask up x.seen (counts_of u d) fresh) [
              | inl old ↦ elim k.seen [
                | inl same ↦ absurd (false≢true (sym stale.1 ∙ (ap (λ (o : Option Counts). is_fresh_since o (asked x.mask every_shown_bit) (counts_of u d)) (sym same) ∙ old)))
                | inr told ↦ absurd (false≢true (sym (not_fresh (asked x.mask every_shown_bit) (counts_of u d)) ∙ (ap (λ (o : Option Counts). is_fresh_since o (asked x.mask every_shown_bit) (counts_of u d)) (sym told) ∙ old)))
              ]
              | inr asks ↦ asks
            ]
        | inr none ↦ asked_begins _ (present u d) (present_by r t d) up (covers r below d lived lives) (zero_of _ none) armed_some.1
      ] in
      λ i. armed_some.0 i && asks i

  -- what a registration passes on is at its instance
  climbs : (x : Watch) → Member x left.watches → passes_on left raised x ≡ true → object_of t.files x.instance ≡ Some instance → HasIn left raised x.instance
  climbs x m passes here =
      let e = x.instance in
      let reached : is_reached left raised e ≡ true = reached_equation left raised e given.legal_left ∙ any_has _ left.watches x m (λ i. same_nat e i && passes i) in
      let reaching : reaching_of (is_reached left raised) e (object_of left.files e) ≡ IN =
      ap (reaching_of (is_reached left raised) e) (sym (given.same e) ∙ here) ∙ ap (λ (b : Bool). when b IN) reached in
      bit_at_or (raised_of raised e) (reaching_of (is_reached left raised) e (object_of left.files e)) 0
      ∙ (ap (λ (n : ℕ). max (bit_at (raised_of raised e) 0) (bit_at n 0)) reaching
      ∙ second_max (bit_at (raised_of raised e) 0) (bit_at-lt (raised_of raised e) 0))

  pub reach : (k : ℕ) → IsReachedBy (is_ready_within k t)
  reach zero e here ready silent = absurd (false≢true ready)
  reach (suc k) e here ready silent =
      let r = is_ready_within k t in
      let some = any_member (λ y. y.instance == e && is_reportable_by r t y) t.watches ready in
      let noted = given.noted some.0 some.1 in
      let x = noted.0 in
      let f = noted.2.0 in
      let both : (x.instance == e && is_reportable_by r t x) ≡ true = subst (λ (y : Watch). (y.instance == e && is_reportable_by r t y) ≡ true) noted.2.1 some.2 in
      let at : x.instance ≡ e = from_test x.instance e (first_of_and _ _ both) in
      let shows = second_of_and (x.instance == e) _ both in
      let there : object_of t.files x.instance ≡ Some instance = ap (object_of t.files) at ∙ here in
      subst (HasIn left raised) at (elim (given.origin x noted.1) [
        | inl kept ↦ climbs x noted.1 (passes r (reach k) x noted.1 kept shows (quiet x kept at)) there
        | inr looked ↦ elim (looked k shows) [ inl passed ↦ climbs x noted.1 passed there | inr has ↦ has ]
      ]) where
        quiet : (x : Watch) (kept : Kept u x) → x.instance ≡ e → is_reportable u kept.was ≡ false
        quiet x kept at = elim (cases_Bool (is_reportable u kept.was)) [
          | inl t ↦
              absurd (false≢true (sym silent ∙ (ready_equation u e given.legal ∙ any_has _ u.watches kept.was kept.there (λ i. same_nat (kept.instance ∙ at) i && t i))))
          | inr f ↦ f
        ] where
          same_nat : {a b : ℕ} → a ≡ b → (a == b) ≡ true
          same_nat h = grind (arith, nat_tests, h)

  -- what begins to hold is in the spread
  pub all_covered : (d : ℕ) → is_live u.files d ≡ true → is_live t.files d ≡ true → Covers (present u d) (present t d) (spread left raised d)
  unfolding is_ready
  all_covered d lived lives = covers (is_ready_within 5 t) (reach 5) d lived lives
