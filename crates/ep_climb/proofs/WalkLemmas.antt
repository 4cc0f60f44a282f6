-- A walk that reaches instances, one after another.
use Rattle.std.proofs.Common.{◌≡◌, ◌<◌, ◌+◌, ◌++◌, ◌||◌, ◌==◌, ◌⊎◌, ◌∙◌, ℕ, suc, Bool, true, false, List, [], ◌∷◌, None, Option, Some, ap, append-nil, append_assoc, arith, cond, get_or, inl, inr, length, nat_lt, refl, rules, subst, sym, take}
use Rattle.std.proofs.Math.Bool.{or-false, or_assoc}
use Rattle.std.proofs.lemmas.Bool.{cases_Bool, cases_eq}
use Rattle.std.proofs.lemmas.List.{take_more}
use Rattle.std.proofs.lemmas.List.Recursion.{or_push}
use Rattle.ep_facts.proofs.NatFacts.{from_test}
use Rattle.ep_facts.proofs.AmongFacts.{among_end}
use Rattle.ep_facts.proofs.BoolFacts.{or_cases, or_left}
use Rattle.ep_base.specs.declared.ids.DescId.{DescId}
use Rattle.ep_base.specs.declared.ids.EntryId.{EntryId}
use Rattle.ep_interest.specs.Passes.{has_id, passes_on}
use Rattle.ep_interest.specs.declared.entry.Entry.{Entry}
use Rattle.ep_interest.specs.Registrations.{Registrations, entry_under}
use Rattle.ep_machine.specs.Lists.{is_among}
use Rattle.ep_nest.proofs.ChainLemmas.{joined}
use Rattle.ep_nest.specs.Chains.{IsAbove}
use Rattle.ep_nest.specs.declared.link.Link.{Link}
use Rattle.ep_rings.specs.KeyWalk.{entry_id}
use Rattle.ep_walk.specs.Walk.{Walk, with_reached}
use Rattle.ep_climb.specs.Reach.{AreHome, AreRoomy, Ascends, AscendsFrom, IsClosed, IsFrom, IsGrown, PassesTo, Reaches, Walks, open_edges, passed_by}

-- One after another.
pub not_grown : (ks : List ℕ) → IsGrown ks ks
not_grown ks = ([], sym (append-nil ks))

pub reaches_none : (w : Walk) → Reaches (λ i. false) w w
reaches_none w = record { room = refl; grown = not_grown w.reached; each = λ i. sym (or-false (is_among w.reached i)) }

reaches_both : (f g : ℕ → Bool) (old mid new : Walk) → Reaches f old mid → Reaches g mid new → Reaches (λ i. f i || g i) old new
reaches_both f g old mid new a b = record {
  room = b.room ∙ a.room;
  grown = (a.grown.0 ++ b.grown.0, b.grown.1 ∙ (ap (λ (ks : List ℕ). ks ++ b.grown.0) a.grown.1 ∙ append_assoc old.reached a.grown.0 b.grown.0));
  each = λ i. b.each i ∙ (ap (λ (t : Bool). t || g i) (a.each i) ∙ or_assoc (is_among old.reached i) (f i) (g i));
}

pub reaches_same : (f g : ℕ → Bool) (old new : Walk) → ((i : ℕ) → f i ≡ g i) → Reaches f old new → Reaches g old new
reaches_same f g old new same a = record { room = a.room; grown = a.grown; each = λ i. a.each i ∙ ap (λ (t : Bool). is_among old.reached i || t) (same i) }

pub reaches_one : (w : Walk) (j : ℕ) (new : Walk) → new ≡ with_reached w j → Reaches (λ i. i == j) w new
reaches_one w j new is = subst (Reaches (λ i. i == j) w) (sym is) (by_case (is_among w.reached j) refl) where
  stood : is_among w.reached j ≡ true → (i : ℕ) → is_among w.reached i ≡ (is_among w.reached i || i == j)
  stood t i = elim (cases_eq i j) [
    | inl e ↦ let here : is_among w.reached i ≡ true = ap (is_among w.reached) e ∙ t in here ∙ sym (or_left (is_among w.reached i) (i == j) here)
    | inr ne ↦ let apart : (i == j) ≡ false = search rules in sym (ap (λ (b : Bool). is_among w.reached i || b) apart ∙ or-false (is_among w.reached i))
  ]

  by_case : (b : Bool) → is_among w.reached j ≡ b → Reaches (λ i. i == j) w (cond b w (record w { reached = w.reached ++ j ∷ [] }))
  by_case true t = record { room = refl; grown = not_grown w.reached; each = stood t }
  by_case false f = record { room = refl; grown = (j ∷ [], refl); each = among_end w.reached j }

-- Once some of these were reached, with those that are still to be.
pub record Reaching (f left : ℕ → Bool) (old new : Walk) : Type 0 where
  pub room : new.room ≡ old.room
  pub grown : IsGrown old.reached new.reached
  pub each : (i : ℕ) → (is_among new.reached i || left i) ≡ (is_among old.reached i || f i)

pub reaching_first : (f left : ℕ → Bool) (w : Walk) → ((i : ℕ) → left i ≡ f i) → Reaching f left w w
reaching_first f left w same = record { room = refl; grown = not_grown w.reached; each = λ i. ap (λ (t : Bool). is_among w.reached i || t) (same i) }

pub reaching_next : (f g left : ℕ → Bool) (old mid new : Walk) → Reaches g mid new → Reaching f (λ i. g i || left i) old mid → Reaching f left old new
reaching_next f g left old mid new a h = record {
  room = a.room ∙ h.room;
  grown = (h.grown.0 ++ a.grown.0, a.grown.1 ∙ (ap (λ (ks : List ℕ). ks ++ a.grown.0) h.grown.1 ∙ append_assoc old.reached h.grown.0 a.grown.0));
  each = λ i. ap (λ (t : Bool). t || left i) (a.each i) ∙ (or_assoc (is_among mid.reached i) (g i) (left i) ∙ h.each i);
}

pub reaching_all : (f left : ℕ → Bool) (old new : Walk) → ((i : ℕ) → left i ≡ false) → Reaching f left old new → Reaches f old new
reaching_all f left old new none h = record {
  room = h.room;
  grown = h.grown;
  each = λ i. sym (or-false (is_among new.reached i)) ∙ (ap (λ (t : Bool). is_among new.reached i || t) (sym (none i)) ∙ h.each i);
}

-- The room stays.
pub room_still : (r : Registrations) (old new : Walk) → new.room ≡ old.room → AreRoomy r old → AreRoomy r new
room_still r old new same h id x at = subst (λ (n : ℕ). x.instance.0 < n) (sym same) (h id x at)

pub home_still : (ls : List Link) (old new : Walk) → new.room ≡ old.room → AreHome ls old → AreHome ls new
home_still ls old new same h link there = subst (λ (n : ℕ). link.outer.0 < n) (sym same) (h link there)

-- Upwards.
module _ (es : List (ℕ × ℕ)) where
  join : (i k j : ℕ) → IsAbove es i k → IsAbove es k j → IsAbove es i j
  join i k j a b = (a.0 + suc b.0, joined es (suc a.0) (suc b.0) (suc (a.0 + suc b.0)) i k j (omega arith) a.1 b.1)

  pub over : (i k j : ℕ) → IsAbove es i k → IsFrom es k j → IsAbove es i j
  over i k j a (inl e) = subst (IsAbove es i) e a
  over i k j a (inr b) = join i k j a b

  closed_from : (o : Option DescId) (old new : Walk) → IsClosed es old.reached → AscendsFrom es o old new → IsClosed es new.reached
  closed_from o old new closed a i j t up = (a.exact i).1 (by ((a.exact j).0 t)) where
    by : (is_among old.reached j ≡ true) ⊎ ((e : DescId) × (o ≡ Some e) × IsFrom es j e.0) → (is_among old.reached i ≡ true) ⊎ ((e : DescId) × (o ≡ Some e) × IsFrom es i e.0)
    by (inl h) = inl (closed i j h up)
    by (inr f) = inr (f.0, f.1, inr (over i j f.0.0 up f.2))

  pub ascends_closed : (k : ℕ) (old new : Walk) → IsClosed es old.reached → Ascends es k old new → IsClosed es new.reached
  ascends_closed k old new closed a i j t up = (a.exact i).1 (by ((a.exact j).0 t)) where
    by : (is_among old.reached j ≡ true) ⊎ IsFrom es j k → (is_among old.reached i ≡ true) ⊎ IsFrom es i k
    by (inl h) = inl (closed i j h up)
    by (inr f) = inr (inr (over i j k up f))

-- The instance to which a registration passes something on.
pub passed_of : (n : ℕ) (o : Option Entry) (d : DescId) → passed_by n o ≡ Some d → (x : Entry) × (o ≡ Some x) × ((x.passes_in == n) ≡ true) × (x.instance ≡ d)
passed_of n None d p = absurd (cc)
passed_of n (Some x) d p = elim (cases_Bool (x.passes_in == n)) [
  | inl t ↦ (x, refl, t, (let s : Some x.instance ≡ Some d = sym (ap (λ (b : Bool). cond b (Some x.instance) None) t) ∙ p in cc))
  | inr g ↦ absurd (let s : None ≡ Some d = sym (ap (λ (b : Bool). cond b (Some x.instance) None) g) ∙ p in cc)
]

-- the walk over these of the registrations that pass something on
pub record Walked (n : ℕ) (r : Registrations) (es : List (ℕ × ℕ)) (done : List EntryId) (old new : Walk) : Type 0 where
  pub room : new.room ≡ old.room
  pub closed : IsClosed es new.reached
  pub sound : (i : ℕ) → is_among new.reached i ≡ true → (k : ℕ) × (d : DescId) × PassesTo n r k d × IsFrom es i d.0
  pub found : (i k : ℕ) (d : DescId) → has_id done k ≡ true → PassesTo n r k d → IsFrom es i d.0 → is_among new.reached i ≡ true

pub walked_next : (n : ℕ) (r : Registrations) (es : List (ℕ × ℕ)) (ids : List EntryId) (i : ℕ) (z : EntryId) (old mid new : Walk) → i < length ids → Walked n r es (take i ids) old mid
    → AscendsFrom es (passed_by n (entry_under r (get_or ids i z))) mid new → Walked n r es (take (i + 1) ids) old new
walked_next n r es ids i z old mid new lt w a = record {
  room = a.room ∙ w.room;
  closed = closed_from es (passed_by n (entry_under r id)) mid new w.closed a;
  sound = λ j t. from j ((a.exact j).0 t);
  found = λ j k d t p f. elim (or_cases (has_id (take i ids) k) (k == id.0) (sym (has_more k) ∙ t)) [
    | inl before ↦ (a.exact j).1 (inl (w.found j k d before p f))
    | inr here ↦ (a.exact j).1 (inr (d, ap (λ (m : ℕ). passed_by n (entry_under r (entry_id m))) (sym (from_test k id.0 here)) ∙ p, f))
  ];
} where
  id : EntryId
  id = get_or ids i z

  has_more : (k : ℕ) → has_id (take (i + 1) ids) k ≡ (has_id (take i ids) k || k == id.0)
  has_more k = ap (λ (xs : List EntryId). has_id xs k) (take_more ids i z lt) ∙ or_push (λ xs. has_id xs k) (λ x. k == x.0) refl (λ x xs. refl) (take i ids) id

  from : (j : ℕ) → (is_among mid.reached j ≡ true) ⊎ ((d : DescId) × (passed_by n (entry_under r id) ≡ Some d) × IsFrom es j d.0) → (k : ℕ) × (d : DescId) × PassesTo n r k d × IsFrom es j d.0
  from j (inl h) = w.sound j h
  from j (inr f) = (id.0, f.0, f.1, f.2)

-- once all of them were visited
pub walked_all : (n : ℕ) (r : Registrations) (ls : List Link) (ids : List EntryId) (old new : Walk) → nat_lt 0 n ≡ true → ((id : EntryId) → has_id ids id.0 ≡ passes_on (entry_under r id)) → Walked n r (open_edges r ls) ids old new → Walks n r ls old new
walked_all n r ls ids old new positive each w = record {
  room = w.room;
  sound = w.sound;
  complete = λ i k d p f. w.found i k d (each (entry_id k) ∙ passing (entry_under r (entry_id k)) p) p f;
} where
  passing : {d : DescId} (o : Option Entry) → passed_by n o ≡ Some d → passes_on o ≡ true
  passing None p = absurd (cc)
  passing (Some x) p = elim (cases_Bool (x.passes_in == n)) [
    | inl t ↦ ap (λ (m : ℕ). nat_lt 0 m) (from_test x.passes_in n t) ∙ positive
    | inr f ↦ absurd (let no = sym (ap (λ (b : Bool). cond b (Some x.instance) None) f) ∙ p in cc)
  ]
