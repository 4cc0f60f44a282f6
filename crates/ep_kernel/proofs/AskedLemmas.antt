-- Answers of instances that are noted, and forgotten.
use Rattle.std.proofs.Common.{◌≡◌, ◌∙◌, ◌++◌, ◌⊎◌, ℕ, Bool, true, false, List, [], ◌∷◌, None, Option, Some, ap, if◌then◌else◌, inl, inr, nat_lt, refl, subst, sym, unwrap_or}
use Rattle.std.proofs.lemmas.Bool.{cases_Bool, false≢true}
use Rattle.ep_facts.proofs.AmongFacts.{among_push}
use Rattle.ep_calls.specs.Parking.{ready_key}
use Rattle.ep_calls.specs.Parts.{Parts}
use Rattle.ep_kernel.specs.Asked.{AreOf, Knows, answer_of, noted}
use Rattle.ep_kernel.specs.Listed.{HopesFor}
use Rattle.ep_kernel.specs.declared.asked.Asked.{Asked}
use Rattle.ep_machine.specs.Lists.{is_among}
use Rattle.ep_ready.specs.ReadyLists.{Lists}
use Rattle.ep_walk.specs.Walk.{Walk, with_noted}

-- what is noted was so before, or it is the one
noted_one : (w : Walk) (i j : ℕ) → is_among (with_noted w i).reached j ≡ true → (is_among w.reached j ≡ true) ⊎ (j ≡ i)
noted_one w i j t = by (nat_lt i w.room) (is_among w.reached i) t where
  by : (a b : Bool) → is_among (if a then (if b then w else record w { reached = w.reached ++ i ∷ [] }) else w).reached j ≡ true → (is_among w.reached j ≡ true) ⊎ (j ≡ i)
  by false b h = inl h
  by true true h = inl h
  by true false h = among_push w.reached i j h

module _ (test : ℕ → Bool) (a : Asked) where
  pub answered : (i : ℕ) (b : Bool) → AreOf test a → answer_of a i ≡ Some b → b ≡ test i
  answered i b h is = elim (cases_Bool (is_among a.ready.reached i)) [
    | inl ready ↦
        let one : Some true ≡ Some b = sym (ap (λ (c : Bool). if c then Some true else if is_among a.idle.reached i then Some false else None) ready) ∙ is in
        sym (ap (λ (o : Option Bool). unwrap_or o b) one) ∙ sym (h.ready i ready)
    | inr other ↦
        let rest : (if is_among a.idle.reached i then Some false else None) ≡ Some b = sym (ap (λ (c : Bool). if c then Some true else if is_among a.idle.reached i then Some false else None) other) ∙ is in
        elim (cases_Bool (is_among a.idle.reached i)) [
          | inl idle ↦
              let one : Some false ≡ Some b = sym (ap (λ (c : Bool). if c then Some false else None) idle) ∙ rest in
              sym (ap (λ (o : Option Bool). unwrap_or o b) one) ∙ sym (h.idle i idle)
          | inr unasked ↦ absurd (let none : None ≡ Some b = sym (ap (λ (c : Bool). if c then Some false else None) unasked) ∙ rest in cc)
        ]
  ]

  pub true_noted : (i : ℕ) (b : Bool) → AreOf test a → b ≡ test i → AreOf test (noted a i b)
  true_noted i true h is = record {
    ready = λ j t. elim (noted_one a.ready i j t) [ inl was ↦ h.ready j was | inr same ↦ ap test same ∙ sym is ];
    idle = h.idle;
  }
  true_noted i false h is = record {
    ready = h.ready;
    idle = λ j t. elim (noted_one a.idle i j t) [ inl was ↦ h.idle j was | inr same ↦ ap test same ∙ sym is ];
  }

  pub true_forgotten : a.ready.reached ≡ [] → a.idle.reached ≡ [] → AreOf test a
  true_forgotten ready idle = record {
    ready = λ i t. absurd (false≢true (sym (ap (λ (ks : List ℕ). is_among ks i) ready) ∙ t));
    idle = λ i t. absurd (false≢true (sym (ap (λ (ks : List ℕ). is_among ks i) idle) ∙ t));
  }

-- With the hopes.
-- an answer leaves them
pub noted_hopes : (a : Asked) (i : ℕ) (b : Bool) → (noted a i b).hopes ≡ a.hopes
noted_hopes a i true = refl
noted_hopes a i false = refl

pub knows_noted : (p : Parts) (a : Asked) (i : ℕ) (b : Bool) → Knows p a → b ≡ ready_key p.tables p.clock p.interest i → Knows p (noted a i b)
knows_noted p a i b h is = record {
  told = true_noted (ready_key p.tables p.clock p.interest) a i b h.told is;
  hopes = subst (HopesFor p) (sym (noted_hopes a i b)) h.hopes;
}

pub knows_forgotten : (p : Parts) (h : Lists) (a : Asked) → HopesFor p h → a.hopes ≡ h → a.ready.reached ≡ [] → a.idle.reached ≡ [] → Knows p a
knows_forgotten p h a hopes same ready idle = record {
  told = true_forgotten (ready_key p.tables p.clock p.interest) a ready idle;
  hopes = subst (HopesFor p) (sym same) hopes;
}
