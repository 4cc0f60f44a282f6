-- The exclusive registrations on a description that pass something on.
use Rattle.std.proofs.Common.{◌≡◌, ◌∙◌, ◌==◌, ◌&&◌, ◌++◌, ℕ, All, Bool, true, false, IsSome, List, [], ◌∷◌, None, Option, Some, ap, cond, filter, find, inl, inr, map, refl, subst, sym}
use Rattle.std.specs.Option.{option_map}
use Rattle.std.proofs.lemmas.Bool.{false≢true}
use Rattle.std.proofs.lemmas.List.Elements.{All-cons, All-filter, All-head, All-nil, All-tail}
use Rattle.ep_facts.proofs.NatFacts.{from_test}
use Rattle.ep_facts.proofs.BoolFacts.{or_cases}
use Rattle.ep_base.specs.declared.ids.DescId.{DescId}
use Rattle.ep_base.specs.declared.ids.EntryId.{EntryId}
use Rattle.ep_calls.proofs.EntryKeyLemmas.{IsFound, IsKeyed, each_found, each_keyed}
use Rattle.ep_choice.proofs.ChoiceLemmas.{IsKept, choose_begins, first_found}
use Rattle.ep_calls.specs.Stands.{AreLinked}
use Rattle.ep_choice.proofs.WalkLemmas.{reached_alike}
use Rattle.ep_choice.specs.Choose.{AreCandidates, AreKeys, finds_entry, finds_key, finds_under, is_found, passing_keys, with_candidate, AreOfInstances, chosen_number}
use Rattle.ep_climb.proofs.WalkLemmas.{reaches_one}
use Rattle.ep_interest.specs.Exclusive.{exclusive_of, is_exclusive}
use Rattle.ep_interest.specs.Registrations.{IsSound, Registrations, entry_found, entry_under, id_of, is_on, number_under as entry_number, with_ids}
use Rattle.ep_interest.specs.declared.entry.Entry.{Entry}
use Rattle.ep_machine.specs.State.{Waiter}
use Rattle.ep_law.proofs.ListLemmas.{all_member, filtered_member}
use Rattle.ep_law.specs.Laws.{Member}
use Rattle.ep_machine.specs.Lists.{is_among}
use Rattle.ep_walk.specs.Walk.{Walk, with_reached}
use Rattle.ep_table.specs.Value.{Seen, Sound, number_under}

-- once some of them were asked, with what is left
pub record Gathers (r : Registrations) (target : DescId) (n : ℕ) (old : Walk) (left : List (EntryId × Entry)) (new : Walk) : Type 0 where
  pub room : new.room ≡ old.room
  pub told : (test : ℕ → Bool) → find test (new.reached ++ passing_keys n left) ≡ find test (passing_keys n (exclusive_of (with_ids r (filter (is_on target) r.entries))))
  pub under : All (λ (p : EntryId × Entry). entry_under r p.0 ≡ Some p.1) left
  pub each : All (λ (p : EntryId × Entry). is_exclusive p.1 ≡ true) left
  pub sound : AreKeys r new.reached

numbered_under : (r : Registrations) (id : EntryId) (x : Entry) → entry_under r id ≡ Some x → IsSome (entry_number r id)
numbered_under r id x h = by (entry_number r id) h where
  by : (o : Option ℕ) → entry_found r.entries o ≡ Some x → IsSome o
  by None e = absurd cc
  by (Some m) e = refl

module _ (r : Registrations) (target : DescId) (n : ℕ) (old : Walk) where
  abbrev IsThere : EntryId × Entry → Type 0
  IsThere p = entry_under r p.0 ≡ Some p.1

  abbrev IsExclusive : EntryId × Entry → Type 0
  IsExclusive p = is_exclusive p.1 ≡ true

  -- those that are left by a test pass it
  all_pass : (ps : List (EntryId × Entry)) → All IsExclusive (exclusive_of ps)
  all_pass [] = All-nil IsExclusive
  all_pass (p ∷ ps) = by (all_pass ps) (is_exclusive p.1) refl where
    by : All IsExclusive (exclusive_of ps) → (b : Bool) → is_exclusive p.1 ≡ b → All IsExclusive (cond b (p ∷ exclusive_of ps) (exclusive_of ps))
    by rest true t = All-cons IsExclusive p (exclusive_of ps) t rest
    by rest false f = rest

  pub gathers_begin : IsSound r → (items : List (EntryId × Entry)) → items ≡ exclusive_of (with_ids r (filter (is_on target) r.entries)) → old.reached ≡ [] → Gathers r target n old items old
  gathers_begin sound items is none = record {
    room = refl;
    told = λ test. ap (λ (ks : List ℕ). find test (ks ++ passing_keys n items)) none ∙ ap (λ (ps : List (EntryId × Entry)). find test (passing_keys n ps)) is;
    under =
        subst (All IsThere) (sym is)
        (All-filter (λ (p : EntryId × Entry). is_exclusive p.1) IsThere (with_ids r (filter (is_on target) r.entries)) (all_there (filter (is_on target) r.entries) (λ x m. filtered_member (is_on target) r.entries x m)));
    each = subst (All IsExclusive) (sym is) (all_pass (with_ids r (filter (is_on target) r.entries)));
    sound = λ k t. absurd (false≢true (sym (ap (λ (ks : List ℕ). is_among ks k) none) ∙ t));
  } where
    all_there : (xs : List Entry) → ((x : Entry) → Member x xs → Member x r.entries) → All IsThere (with_ids r xs)
    all_there [] within = All-nil IsThere
    all_there (x ∷ xs) within =
        let m = within x (inl refl) in
        All-cons IsThere (id_of r x.number, x) (with_ids r xs)
        (ap (entry_found r.entries) (all_member (IsKeyed r) r.entries x (each_keyed r sound) m) ∙ all_member (IsFound r) r.entries x (each_found r sound) m)
        (all_there xs (λ y n. within y (inr n)))

  room_same : (b : Bool) (k : ℕ) (w : Walk) → (cond b (with_reached w k) w).room ≡ w.room
  room_same true k w = by (is_among w.reached k) where
    by : (b : Bool) → (cond b w (record w { reached = w.reached ++ k ∷ [] })).room ≡ w.room
    by true = refl
    by false = refl
  room_same false k w = refl

  pub gathers_next : (p : EntryId × Entry) (left : List (EntryId × Entry)) (mid new : Walk) → Gathers r target n old (p ∷ left) mid → new ≡ with_candidate n p mid → Gathers r target n old left new
  gathers_next p left mid new h is = record {
    room = ap (λ (w : Walk). w.room) is ∙ (room_same (p.1.passes_in == n) p.0.0 mid ∙ h.room);
    told = λ test. ap (λ (w : Walk). find test (w.reached ++ passing_keys n left)) is ∙ (by test (p.1.passes_in == n) ∙ h.told test);
    under = All-tail (λ (q : EntryId × Entry). entry_under r q.0 ≡ Some q.1) p left h.under;
    each = All-tail IsExclusive p left h.each;
    sound = subst (λ (w : Walk). AreKeys r w.reached) (sym is) (keys (p.1.passes_in == n));
  } where
    keys : (b : Bool) → AreKeys r (cond b (with_reached mid p.0.0) mid).reached
    keys true k t = elim (or_cases (is_among mid.reached k) (k == p.0.0) (sym ((reaches_one mid p.0.0 (with_reached mid p.0.0) refl).each k) ∙ t)) [
      | inl before ↦ h.sound k before
      | inr here ↦ subst (λ (m : ℕ). IsSome (entry_number r (record { 0 = m }))) (sym (from_test k p.0.0 here)) (numbered_under r p.0 p.1 (All-head (λ (q : EntryId × Entry). entry_under r q.0 ≡ Some q.1) p left h.under))
    ]
    keys false k t = h.sound k t

    by : (test : ℕ → Bool) (b : Bool) → find test ((cond b (with_reached mid p.0.0) mid).reached ++ passing_keys n left)
        ≡ find test (mid.reached ++ map (λ (q : EntryId × Entry). q.0.0) (cond b (p ∷ filter (λ (q : EntryId × Entry). q.1.passes_in == n) left) (filter (λ (q : EntryId × Entry). q.1.passes_in == n) left)))
    by test true = reached_alike test p.0.0 mid (passing_keys n left)
    by test false = refl

-- The number of the registration under a key.
abbrev pub key_number : Registrations → Option ℕ → Option ℕ
key_number r None = None
key_number r (Some k) = option_map (λ (x : Entry). x.number) (entry_under r (record { 0 = k }))

-- found by keys as by registrations
pub found_keys : (v : Seen) (now : ℕ) (r : Registrations) (ws : List Waiter) (n : ℕ) (items : List (EntryId × Entry)) → All (IsKept v r) items
    → first_found v now r ws n items ≡ key_number r (find (finds_key v now r ws) (passing_keys n items))
found_keys v now r ws n [] h = refl
found_keys v now r ws n (p ∷ ps) h = by (found_keys v now r ws n ps (All-tail (IsKept v r) p ps h)) (p.1.passes_in == n) where
  kept : IsKept v r p
  kept = All-head (IsKept v r) p ps h

  same : finds_key v now r ws p.0.0 ≡ finds_entry v now r ws p.1
  same = ap (finds_under v now r ws) kept.under

  here : (first_found v now r ws n ps ≡ key_number r (find (finds_key v now r ws) (passing_keys n ps))) → (b : Bool) → option_map (λ (q : EntryId × Entry). q.1.number) (cond b (Some p) (find (λ (q : EntryId × Entry). is_found v now r ws n q.1) ps)) ≡ key_number r (cond b (Some p.0.0) (find (finds_key v now r ws) (passing_keys n ps)))
  here rest true = sym (ap (option_map (λ (x : Entry). x.number)) kept.under)
  here rest false = rest

  by : (first_found v now r ws n ps ≡ key_number r (find (finds_key v now r ws) (passing_keys n ps))) → (b : Bool) → option_map (λ (q : EntryId × Entry). q.1.number) (cond (b && finds_entry v now r ws p.1) (Some p) (find (λ (q : EntryId × Entry). is_found v now r ws n q.1) ps))
      ≡ key_number r (find (finds_key v now r ws) (map (λ (q : EntryId × Entry). q.0.0) (cond b (p ∷ filter (λ (q : EntryId × Entry). q.1.passes_in == n) ps) (filter (λ (q : EntryId × Entry). q.1.passes_in == n) ps))))
  by rest true = here rest (finds_entry v now r ws p.1) ∙ ap (λ (c : Bool). key_number r (cond c (Some p.0.0) (find (finds_key v now r ws) (passing_keys n ps)))) (sym same)
  by rest false = rest

-- Among the keys of the candidates the first that finds somebody is the chosen one's.
pub chosen_of : (v : Seen) (now : ℕ) (r : Registrations) (ws : List Waiter) (n : ℕ) (target : DescId) → Sound v → IsSome (number_under v target) → IsSound r → AreLinked v r → AreOfInstances v r → (ks : List ℕ) → AreCandidates r target n ks
    → key_number r (find (finds_key v now r ws) ks) ≡ chosen_number v now r ws n target
chosen_of v now r ws n target sound live sound_r linked instances ks candidates =
    let items = exclusive_of (with_ids r (filter (is_on target) r.entries)) in
    let begins = choose_begins v now r ws n target sound live sound_r linked instances items refl in
    ap (key_number r) (candidates (finds_key v now r ws)) ∙ (sym (found_keys v now r ws n items begins.each) ∙ begins.told)
