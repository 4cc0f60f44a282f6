-- Fair orders.
use Rattle.std.proofs.Common.{◌≡◌, ◌≤◌, ◌++◌, ◌∙◌, ◌==◌, ℕ, zero, suc, Bool, true, false, List, [], ◌∷◌, ap, arith, cond, filter, inl, inr, refl, subst, sym, take}
use Rattle.std.proofs.lemmas.Bool.{cases_Bool, false≢true}
use Rattle.ep_facts.proofs.AmongFacts.{among_append}
use Rattle.ep_facts.proofs.BoolFacts.{or_left, or_right, second_of_or}
use Rattle.ep_law.specs.Laws.{Member}
use Rattle.ep_machine.specs.Lists.{is_among}
use Rattle.ep_law.proofs.ListLemmas.{among, among_member, filtered_member, filtered_passes, member_filter, member_split}
use Rattle.ep_order.specs.Order.{StaysFair, FirstAreFair, IsFairOrder, StaysComplete, Turns}

-- what comes in event n is fair among itself
come_fair : (n : ℕ) (t : Turns) (more : List ℕ) → ((k : ℕ) → Member k more → t.ready k ≡ true → t.from k ≡ n) → ((k : ℕ) → t.rep k ≤ n) → IsFairOrder t more
come_fair n t [] come past = tt
come_fair n t (x ∷ xs) come past = ((λ y m r. let e = come y (inr m) r in let le = past x in omega (arith, e, le)), come_fair n t xs (λ k m. come k (inr m)) past)

pub stays_fair : StaysFair
stays_fair n s t keeps [] more fair h = come_fair n t more h.come h.past
stays_fair n s t keeps (x ∷ xs) more fair h =
    let rest = stays_fair n s t keeps xs more fair.1 (record { stay = λ k m. h.stay k (inr m); come = h.come; past = h.past }) in
    elim (cases_Bool (keeps x)) [
      | inl stays ↦
          let here = h.stay x (inl refl) stays in
          let le = h.past x in
          let ahead : (y : ℕ) → Member y (filter keeps xs ++ more) → t.ready y ≡ true → t.rep x ≤ t.from y = λ y m r. elim (member_split y (filter keeps xs) more m) [
            | inl there ↦
                let was = filtered_member keeps xs y there in
                elim ((h.stay y (inr was) (filtered_passes keeps xs y there)).from r) [
                  | inl same ↦ let old = fair.0 y was same.0 in let e = same.1 in let f = here.rep in omega (arith, old, e, f)
                  | inr new ↦ omega (arith, new, le)
                ]
            | inr comes ↦ let e = h.come y comes r in omega (arith, e, le)
          ] in
          subst (λ (b : Bool). IsFairOrder t (cond b (x ∷ filter keeps xs) (filter keeps xs) ++ more)) (sym stays) (ahead, rest)
      | inr goes ↦ subst (λ (b : Bool). IsFairOrder t (cond b (x ∷ filter keeps xs) (filter keeps xs) ++ more)) (sym goes) rest
    ]

pub stays_complete : StaysComplete
stays_complete s t keeps old more was each k r =
    among_append (filter keeps old) more k
    ∙ elim (each k r) [
      | inl there ↦ or_left _ _ (among k (filter keeps old) (member_filter keeps k old (among_member old k (was k there.0)) there.1))
      | inr comes ↦ or_right _ _ comes
    ]

-- one that is not among the first so many stands behind them
behind : (t : Turns) (most : ℕ) (order : List ℕ) → IsFairOrder t order → (x y : ℕ) → Member x (take most (filter t.ready order)) → t.ready y ≡ true → Member y order → is_among (take most (filter t.ready order)) y ≡ false → t.rep x ≤ t.from y
behind t zero order fair x y m r there out = absurd m
behind t (suc most) [] fair x y m r there out = absurd m
behind t (suc most) (z ∷ zs) fair x y m r there out =
    let both : (b : Bool) → t.ready z ≡ b → Member x (take (suc most) (cond b (z ∷ filter t.ready zs) (filter t.ready zs))) → is_among (take (suc most) (cond b (z ∷ filter t.ready zs) (filter t.ready zs))) y ≡ false → t.rep x ≤ t.from y =
    λ b. elim b as (λ c. t.ready z ≡ c → Member x (take (suc most) (cond c (z ∷ filter t.ready zs) (filter t.ready zs))) → is_among (take (suc most) (cond c (z ∷ filter t.ready zs) (filter t.ready zs))) y ≡ false → t.rep x ≤ t.from y) [
      | true ↦ λ is n o.
          let later : Member y zs = elim there [
            | inl e ↦ absurd (false≢true (sym o ∙ among y (z ∷ take most (filter t.ready zs)) (inl e)))
            | inr a ↦ a
          ] in
          elim n [
            | inl e ↦ let le = fair.0 y later r in subst (λ (k : ℕ). t.rep k ≤ t.from y) (sym e) le
            | inr a ↦ behind t most zs fair.1 x y a r later (second_of_or (y == z) _ o)
          ]
      | false ↦ λ is n o.
          let later : Member y zs = elim there [
            | inl e ↦ absurd (false≢true (sym is ∙ (ap t.ready (sym e) ∙ r)))
            | inr a ↦ a
          ] in
          behind t (suc most) zs fair.1 x y n r later o
    ] in
    both (t.ready z) refl m out

pub first_are_fair : FirstAreFair
first_are_fair t most order fair complete x y m r out = behind t most order fair x y m r (among_member order y (complete y r)) out
