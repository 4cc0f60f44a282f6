-- What an event wakes is what its spread reaches if only the chosen ones of the exclusive registrations pass on.
use Rattle.std.proofs.Common.{◌≡◌, ℕ, ◌==◌, ◌&&◌, ◌||◌, ◌∙◌, ◌*◌, ◌^◌, Bool, true, false, List, [], ◌∷◌, None, Option, Some, not, nat_lt, inl, inr, refl, ap, arith, cond, filter, subst, sym}
use Rattle.std.specs.List.{find, list_any}
use Rattle.std.specs.Int.{bit_at}
use Rattle.std.specs.Int.Bits.{and_zero_l}
use Rattle.std.proofs.lemmas.Bool.{cases_Bool, false≢true}
use Rattle.std.proofs.lemmas.Nat.Bits.{and_pow, bit_at-zero}
use Rattle.ep_facts.proofs.NatFacts.{from_test, same_nat}
use Rattle.ep_facts.proofs.BoolFacts.{first_of_and, or_cases, or_left, or_right, same_bools, second_of_and}
use Rattle.ep_machine.specs.Bits.{ERR, HUP, IN, asked, has_bit, union, when}
use Rattle.ep_machine.specs.Exclusive.{chosen_at, finds_waiter, is_asked_at, is_left, is_spread_plainly, is_spread_to, is_up_from, is_up_from_chosen, is_woken}
use Rattle.ep_machine.specs.Files.{object_of}
use Rattle.ep_machine.specs.Spread.{is_reached, passes_on, raised_of, reaching_of, spread}
use Rattle.ep_machine.specs.State.{State, Waiter, Watch}
use Rattle.ep_machine.specs.Watches.{is_exclusive, is_legal, links}
use Rattle.ep_law.specs.Laws.{Member, has_instance}
use Rattle.ep_law.specs.Narrow.{IsRegular, WokenIsNarrowed, is_chosen, is_number_of, narrowed}
use Rattle.ep_object.proofs.BitLemmas.{Covers, either_bit, first_bit, last_bit}
use Rattle.ep_law.proofs.GraphLemmas.{legal_within, link_from, link_in}
use Rattle.ep_law.proofs.ListLemmas.{any_has, any_member, filtered_member, filtered_passes, member_filter, one_number}
use Rattle.ep_law.proofs.MaskLemmas.{asked_begins, bit_of, none_or_some}
use Rattle.ep_law.proofs.RaiseLemmas.{raised_member}
use Rattle.ep_law.proofs.ReachLemmas.{in_bit, instance_is}
use Rattle.ep_law.proofs.SpreadLemmas.{reached_equation, spread_least}

-- Bits.
not_set : (n i : ℕ) → n ≡ 0 → bit_at n i ≡ 1 → ⊥
not_set n i e h = let none : bit_at n i ≡ 0 = ap (λ (k : ℕ). bit_at k i) e ∙ bit_at-zero i in absurd (omega (arith, none, h))

pub has_in : (n : ℕ) → has_bit n IN ≡ true → bit_at n 0 ≡ 1
has_in n h = bit_of n 0 IN refl h

pub in_has : (n : ℕ) → bit_at n 0 ≡ 1 → has_bit n IN ≡ true
in_has n h = ap (λ (k : ℕ). not (k == 0)) (and_pow n 0 ∙ ap (λ (b : ℕ). b * 2 ^ 0) h)

-- what is asked for of some bits is asked for of more
more_asked : (mask bits more : ℕ) → ((i : ℕ) → bit_at bits i ≡ 1 → bit_at more i ≡ 1) → nat_lt 0 (asked mask bits) ≡ true → nat_lt 0 (asked mask more) ≡ true
more_asked mask bits more within h = let m = union (mask ∷ ERR ∷ HUP ∷ []) in asked_begins m 0 bits more (λ i t. inr (within i t)) (and_zero_l m) h

none_asked : (mask : ℕ) → nat_lt 0 (asked mask 0) ≡ true → ⊥
none_asked mask h = false≢true (ap (nat_lt 0) (sym (and_zero_l (union (mask ∷ ERR ∷ HUP ∷ [])))) ∙ h)

-- some of the registrations make a legal graph, too
legal_left : (s : State) (p : Watch → Bool) → is_legal (links s) ≡ true → is_legal (links (record s { watches = filter p s.watches })) ≡ true
legal_left s p legal =
    let t = record s { watches = filter p s.watches } in
    legal_within (links t) (links s) (λ l m. let y = link_from t l m in subst (λ (k : ℕ × ℕ). Member k (links s)) y.3 (link_in s y.0 (filtered_member p s.watches y.0 y.1) y.2)) legal

-- what a registration passes on is at its instance
climbs_to : (t : State) (raised : List (ℕ × ℕ)) (x : Watch) → is_legal (links t) ≡ true → Member x t.watches → has_instance t.files x.instance ≡ true → passes_on t raised x ≡ true → bit_at (spread t raised x.instance) 0 ≡ 1
climbs_to t raised x legal m holds passes =
    let e = x.instance in
    let reached : is_reached t raised e ≡ true = reached_equation t raised e legal ∙ any_has _ t.watches x m (λ i. same_nat e i && passes i) in
    let reaching : reaching_of (is_reached t raised) e (object_of t.files e) ≡ IN =
    ap (reaching_of (is_reached t raised) e) (instance_is (object_of t.files e) holds) ∙ ap (λ (b : Bool). when b IN) reached in
    last_bit (raised_of raised e) (reaching_of (is_reached t raised) e (object_of t.files e)) 0 (ap (λ (n : ℕ). bit_at n 0) reaching)

found : (p : Watch → Bool) (xs : List Watch) (x : Watch) → find p xs ≡ Some x → Member x xs × (p x ≡ true)
found p [] x h = cc
found p (y ∷ ys) x h = elim (cases_Bool (p y)) [
  | inl t ↦ let same : Some y ≡ Some x = sym (ap (λ (b : Bool). cond b (Some y) (find p ys)) t) ∙ h in let e : x ≡ y = cc in (inl e, ap p e ∙ t)
  | inr f ↦ let r = found p ys x (sym (ap (λ (b : Bool). cond b (Some y) (find p ys)) f) ∙ h) in (inr r.0, r.1)
]

-- what is asked for at a description was raised there
some_raised : (mask : ℕ) (raised : List (ℕ × ℕ)) (d : ℕ) → nat_lt 0 (asked mask (raised_of raised d)) ≡ true → (r : ℕ × ℕ) × Member r raised × (r.0 ≡ d)
some_raised mask [] d h = absurd (none_asked mask h)
some_raised mask (r ∷ rest) d h = elim (cases_Bool (r.0 == d)) [
  | inl t ↦ (r, inl refl, from_test r.0 d t)
  | inr f ↦
      let less : nat_lt 0 (asked mask (raised_of rest d)) ≡ true = more_asked mask (raised_of (r ∷ rest) d) (raised_of rest d) (λ i t. elim (either_bit (when (r.0 == d) r.1) (raised_of rest d) i t) [
        | inl l ↦ absurd (not_set (when (r.0 == d) r.1) i (ap (λ (b : Bool). when b r.1) f) l)
        | inr l ↦ l
      ]) h in
      let more = some_raised mask rest d less in
      (more.0, inr more.1, more.2)
]

module _ (s : State) (raised : List (ℕ × ℕ)) (ws : List Waiter) (regular : IsRegular s) where
  abbrev plain : State
  plain = record s { watches = filter (λ x. not (is_exclusive x)) s.watches }

  abbrev few : State
  few = narrowed s raised ws

  -- above one that is chosen
  abbrev up : ℕ → Bool
  up e = list_any (λ r. is_up_from_chosen s (chosen_at s raised ws r.0) e) raised

  abbrev Chosen : Watch → Type 0
  Chosen c = (r : ℕ × ℕ) × Member r raised × (chosen_at s raised ws r.0 ≡ Some c)

  from_up : (e : ℕ) → up e ≡ true → (c : Watch) × Chosen c × (is_up_from s c.instance e ≡ true)
  from_up e h =
      let some = any_member (λ r. is_up_from_chosen s (chosen_at s raised ws r.0) e) raised h in
      by some.0 some.1 (chosen_at s raised ws some.0.0) refl some.2 where
        by : (r : ℕ × ℕ) → Member r raised → (o : Option Watch) → chosen_at s raised ws r.0 ≡ o → is_up_from_chosen s o e ≡ true → (c : Watch) × Chosen c × (is_up_from s c.instance e ≡ true)
        by r m None is h = absurd (false≢true h)
        by r m (Some c) is h = (c, (r, m, is), h)

  to_up : (c : Watch) (e : ℕ) → Chosen c → is_up_from s c.instance e ≡ true → up e ≡ true
  to_up c e (r, m, is) h = any_has (λ r. is_up_from_chosen s (chosen_at s raised ws r.0) e) raised r m (ap (λ (o : Option Watch). is_up_from_chosen s o e) is ∙ h)

  -- Forwards.
  covers_raised : (r : ℕ × ℕ) → Member r raised → Covers (spread plain raised r.0) r.1 (when (up r.0) IN)
  covers_raised r m i h = inl (first_bit (raised_of raised r.0) (reaching_of (is_reached plain raised) r.0 (object_of s.files r.0)) i (raised_member raised r.0 r.1 i m h))

  up_here : (c : Watch) → Chosen c → up c.instance ≡ true
  up_here c chosen =
      let e = c.instance in
      let seeds : List (ℕ × ℕ) = (e, IN) ∷ [] in
      to_up c e chosen (in_has (spread s seeds e) (first_bit (raised_of seeds e) (reaching_of (is_reached s seeds) e (object_of s.files e)) 0 (raised_member seeds e IN 0 (inl refl) refl)))

  -- a step up from what is above a chosen one
  up_further : (x : Watch) → Member x s.watches → x.armed ≡ true → nat_lt 0 (asked x.mask IN) ≡ true → up x.target ≡ true → up x.instance ≡ true
  up_further x m armed asks h =
      let from = from_up x.target h in
      let c = from.0 in
      let seeds : List (ℕ × ℕ) = (c.instance, IN) ∷ [] in
      let more : nat_lt 0 (asked x.mask (spread s seeds x.target)) ≡ true =
      more_asked x.mask IN (spread s seeds x.target) (λ i t. subst (λ (j : ℕ). bit_at (spread s seeds x.target) j ≡ 1) (sym (in_bit i t)) (has_in _ from.2)) asks in
      to_up c x.instance from.1 (in_has _ (climbs_to s seeds x regular.legal m (regular.instances x m) (λ i. armed i && more i)))

  is_chosen_one : (x : Watch) → Member x s.watches → is_chosen s raised ws x ≡ true → Chosen x
  is_chosen_one x m h = by (chosen_at s raised ws x.target) refl h where
    by : (o : Option Watch) → chosen_at s raised ws x.target ≡ o → is_number_of x.number o ≡ true → Chosen x
    by None is h = absurd (false≢true h)
    by (Some c) is h =
        let there = found (λ y. is_asked_at raised x.target y && finds_waiter s ws y) s.watches c is in
        let asks = second_of_and (is_exclusive c && c.target == x.target && c.armed) _ (first_of_and (is_asked_at raised x.target c) _ there.1) in
        let r = some_raised c.mask raised x.target asks in
        let same : c ≡ x = one_number s.watches c x regular.numbers there.0 m (from_test c.number x.number h) in
        (r.0, r.1, ap (chosen_at s raised ws) r.2 ∙ (is ∙ ap Some same))

  when_in : (b : Bool) (i : ℕ) → b ≡ true → bit_at IN i ≡ 1 → bit_at (when b IN) i ≡ 1
  when_in b i t h = ap (λ (c : Bool). bit_at (when c IN) i) t ∙ h

  when_asked : (mask : ℕ) (b : Bool) → nat_lt 0 (asked mask (when b IN)) ≡ true → (b ≡ true) × (nat_lt 0 (asked mask IN) ≡ true)
  when_asked mask true h = (refl, h)
  when_asked mask false h = absurd (none_asked mask h)

  covers_above : (x : Watch) (bits : ℕ) → Member x few.watches → x.armed ≡ true → nat_lt 0 (asked x.mask bits) ≡ true
      → Covers (spread plain raised x.target) bits (when (up x.target) IN) → Covers (spread plain raised x.instance) IN (when (up x.instance) IN)
  covers_above x bits n armed asks below i at_in =
      let m = filtered_member (λ y. not (is_exclusive y) || is_chosen s raised ws y) s.watches x n in
      let passes = filtered_passes (λ y. not (is_exclusive y) || is_chosen s raised ws y) s.watches x n in
      elim (or_cases (not (is_exclusive x)) (is_chosen s raised ws x) passes) [
        | inr chosen ↦ inr (when_in (up x.instance) i (up_here x (is_chosen_one x m chosen)) at_in)
        | inl plainly ↦ elim (none_or_some (asked x.mask (spread plain raised x.target))) [
          | inr some ↦
              let there : Member x plain.watches = member_filter (λ y. not (is_exclusive y)) x s.watches m plainly in
              inl (subst (λ (j : ℕ). bit_at (spread plain raised x.instance) j ≡ 1) (sym (in_bit i at_in)) (climbs_to plain raised x (legal_left s (λ y. not (is_exclusive y)) regular.legal) there (regular.instances x m) (λ j. armed j && some j)))
          | inl none ↦
              let from = when_asked x.mask (up x.target) (asked_begins (union (x.mask ∷ ERR ∷ HUP ∷ [])) (spread plain raised x.target) bits (when (up x.target) IN) below none asks) in
              inr (when_in (up x.instance) i (up_further x m armed from.1 from.0) at_in)
        ]
      ]

  forwards : (e : ℕ) → is_spread_to few raised e ≡ true → (is_spread_plainly s raised e || up e) ≡ true
  forwards e h =
      let all = spread_least (λ d bits. Covers (spread plain raised d) bits (when (up d) IN)) few raised e (record {
        starts = covers_raised;
        none = λ d i t. absurd (not_set 0 i refl t);
        both = λ d a b f g i t. elim (either_bit a b i t) [ inl l ↦ f i l | inr r ↦ g i r ];
        above = covers_above;
      }) in
      elim (all 0 (has_in (spread few raised e) h)) [
        | inl plainly ↦ or_left _ _ (in_has (spread plain raised e) plainly)
        | inr above ↦ or_right _ _ (set_when (up e) above)
      ] where
        set_when : (b : Bool) → bit_at (when b IN) 0 ≡ 1 → b ≡ true
        set_when true t = refl
        set_when false t = absurd (not_set 0 0 refl t)

  -- Backwards.
  abbrev IsIn : ℕ → ℕ → Type 0
  IsIn d bits = (i : ℕ) → bit_at bits i ≡ 1 → bit_at (spread few raised d) i ≡ 1

  few_raised : (d : ℕ) → IsIn d (raised_of raised d)
  few_raised d i h = first_bit (raised_of raised d) (reaching_of (is_reached few raised) d (object_of s.files d)) i h

  few_above : (x : Watch) (bits : ℕ) → Member x few.watches → Member x s.watches → x.armed ≡ true → nat_lt 0 (asked x.mask bits) ≡ true → IsIn x.target bits → IsIn x.instance IN
  few_above x bits n m armed asks below i at_in =
      let more = more_asked x.mask bits (spread few raised x.target) below asks in
      subst (λ (j : ℕ). bit_at (spread few raised x.instance) j ≡ 1) (sym (in_bit i at_in))
      (climbs_to few raised x (legal_left s (λ y. not (is_exclusive y) || is_chosen s raised ws y) regular.legal) n (regular.instances x m) (λ j. armed j && more j))

  in_few : (x : Watch) → Member x s.watches → (not (is_exclusive x) || is_chosen s raised ws x) ≡ true → Member x few.watches
  in_few x m t = member_filter (λ y. not (is_exclusive y) || is_chosen s raised ws y) x s.watches m t

  plain_above : (x : Watch) (bits : ℕ) → Member x plain.watches → x.armed ≡ true → nat_lt 0 (asked x.mask bits) ≡ true → IsIn x.target bits → IsIn x.instance IN
  plain_above x bits n armed asks below =
      let m = filtered_member (λ y. not (is_exclusive y)) s.watches x n in
      few_above x bits (in_few x m (or_left _ _ (filtered_passes (λ y. not (is_exclusive y)) s.watches x n))) m armed asks below

  from_plainly : (e : ℕ) → is_spread_plainly s raised e ≡ true → is_spread_to few raised e ≡ true
  from_plainly e h =
      let all = spread_least IsIn plain raised e (record {
        starts = λ r m i t. few_raised r.0 i (raised_member raised r.0 r.1 i m t);
        none = λ d i t. absurd (not_set 0 i refl t);
        both = λ d a b f g i t. elim (either_bit a b i t) [ inl l ↦ f i l | inr r ↦ g i r ];
        above = plain_above;
      }) in
      in_has (spread few raised e) (all 0 (has_in (spread plain raised e) h))

  -- a chosen one passes on
  chosen_passes : (c : Watch) → Chosen c → Member c s.watches × (IsIn c.instance IN)
  chosen_passes c (r, m, is) =
      let there = found (λ y. is_asked_at raised r.0 y && finds_waiter s ws y) s.watches c is in
      let asks = first_of_and (is_asked_at raised r.0 c) _ there.1 in
      let three = first_of_and (is_exclusive c && c.target == r.0 && c.armed) _ asks in
      let armed = second_of_and (is_exclusive c && c.target == r.0) c.armed three in
      let at : c.target ≡ r.0 = from_test c.target r.0 (second_of_and (is_exclusive c) _ (first_of_and (is_exclusive c && c.target == r.0) c.armed three)) in
      let bits : nat_lt 0 (asked c.mask (raised_of raised c.target)) ≡ true = ap (λ (d : ℕ). nat_lt 0 (asked c.mask (raised_of raised d))) at ∙ second_of_and (is_exclusive c && c.target == r.0 && c.armed) _ asks in
      let chosen : is_chosen s raised ws c ≡ true = ap (is_number_of c.number) (ap (chosen_at s raised ws) at ∙ is) ∙ same_nat c.number in
      (there.0, few_above c (raised_of raised c.target) (in_few c there.0 (or_right _ _ chosen)) there.0 armed bits (few_raised c.target))

  -- in the spread, and at an instance
  abbrev IsInAt : ℕ → ℕ → Type 0
  IsInAt d bits = (i : ℕ) → bit_at bits i ≡ 1 → (bit_at (spread few raised d) i ≡ 1) × (has_instance s.files d ≡ true)

  up_above : (x : Watch) (bits : ℕ) → Member x s.watches → x.armed ≡ true → nat_lt 0 (asked x.mask bits) ≡ true → IsInAt x.target bits → IsInAt x.instance IN
  up_above x bits m armed asks below i at_in =
      let plainly : (not (is_exclusive x)) ≡ true = elim (cases_Bool (is_exclusive x)) [
        | inr f ↦ ap not f
        | inl t ↦ absurd (none_asked x.mask (more_asked x.mask bits 0 (λ j h. absurd (false≢true (sym (regular.exclusive x m t) ∙ (below j h).1))) asks))
      ] in
      (few_above x bits (in_few x m (or_left _ _ plainly)) m armed asks (λ j h. (below j h).0) i at_in, regular.instances x m)

  from_chosen : (e : ℕ) → up e ≡ true → is_spread_to few raised e ≡ true
  from_chosen e h =
      let from = from_up e h in
      let c = from.0 in
      let passes = chosen_passes c from.1 in
      let seeds : List (ℕ × ℕ) = (c.instance, IN) ∷ [] in
      let all = spread_least IsInAt s seeds e (record {
        starts = λ r m i t. elim m [
          | inl same ↦ let at : (j : ℕ) → bit_at r.1 j ≡ 1 → bit_at IN j ≡ 1 = λ j u. ap (λ (q : ℕ × ℕ). bit_at q.1 j) (sym same) ∙ u in
              subst (λ (d : ℕ). (bit_at (spread few raised d) i ≡ 1) × (has_instance s.files d ≡ true)) (sym (ap (λ (q : ℕ × ℕ). q.0) same)) (passes.1 i (at i t), regular.instances c passes.0)
          | inr none ↦ absurd none
        ];
        none = λ d i t. absurd (not_set 0 i refl t);
        both = λ d a b f g i t. elim (either_bit a b i t) [ inl l ↦ f i l | inr r ↦ g i r ];
        above = up_above;
      }) in
      in_has (spread few raised e) (all 0 (has_in (spread s seeds e) from.2)).0

  pub woken_is_narrowed : (before : State) (e : ℕ) → is_woken before s raised ws e ≡ (is_spread_to few raised e || is_left before s e)
  woken_is_narrowed before e = ap (λ (b : Bool). b || is_left before s e)
      (same_bools (is_spread_plainly s raised e || up e) (is_spread_to few raised e) (λ h. elim (or_cases (is_spread_plainly s raised e) (up e) h) [ inl a ↦ from_plainly e a | inr b ↦ from_chosen e b ]) (forwards e))

pub narrowed_law : WokenIsNarrowed
narrowed_law before s raised ws e regular = woken_is_narrowed s raised ws regular before e
