-- What an event raises, at each registration.
use Rattle.std.proofs.Common.{nat_lt, ◌≡◌, ◌≢◌, ◌==◌, ◌&&◌, ◌||◌, ◌+◌, ◌∙◌, ℕ, zero, suc, All, Bool, true, false, IsSome, List, [], ◌∷◌, None, Option, Some, ap, arith, cond, get_or, if◌then◌else◌, inl, inr, map, refl, subst, sym, unwrap_or}
use Rattle.std.specs.List.{list_any}
use Rattle.std.proofs.lemmas.List.Elements.{All-cons, All-head, All-tail}
use Rattle.std.proofs.lemmas.Option.{none-some}
use Rattle.ep_facts.proofs.BoolFacts.{or_again, or_right}
use Rattle.ep_facts.proofs.NatFacts.{from_test, same_nat, same_or_not, same_test, shift, test_apart, test_turned}
use Rattle.ep_base.specs.declared.ids.DescId.{DescId}
use Rattle.ep_base.specs.declared.mask.Mask.{Mask}
use Rattle.ep_base.specs.declared.object.End.{End}
use Rattle.ep_base.specs.declared.object.End.TheVariants.{First}
use Rattle.ep_base.specs.declared.object.Raised.{Raised}
use Rattle.ep_interest.specs.Registrations.{Registrations, is_on, raised_on}
use Rattle.ep_interest.specs.declared.entry.Entry.{Entry}
use Rattle.ep_machine.specs.Bits.{IN, asked, at_end, when}
use Rattle.ep_machine.specs.Counts.{brings}
use Rattle.ep_machine.specs.Files.{Place, object_at, object_number, place_of, side_of}
use Rattle.ep_machine.specs.Objects.{advance, plain}
use Rattle.ep_calls.specs.Raising.{IsRaising, IsUntimed, Stirs, bits_of, clock_bits, due_bits, object_bits, raised_bits, raised_each, raised_there}
use Rattle.ep_calls.specs.Stands.{AreLinked, IsLinked, number_at, watch_at}
use Rattle.ep_calls.specs.declared.raising.Raising.{Raising}
use Rattle.ep_calls.specs.declared.raising.Raising.TheVariants.{Clock, Instance, Losses, Nowhere, Object}
use Rattle.ep_view.specs.KernelView.{freshened_by}
use Rattle.ep_calls.proofs.OtherEndLemmas.{a_place, elsewhere, link_noted, noted, off_own, some_place, watch_noted, zero_noted}
use Rattle.ep_calls.proofs.KeyLemmas.{same_keys, under_key}
use Rattle.ep_calls.proofs.LossLemmas.{lose_each, losses_each, map_same, map_twice, where_map}
use Rattle.ep_table.specs.Closing.{IsAt, across, opposite}
use Rattle.ep_table.specs.Live.{live_from, live_ids}
use Rattle.ep_table.specs.Value.{Seen, Sound, number_of, number_under}

-- where each registration is freshened by what is raised at its target
pub record Freshens (v : Seen) (n : ℕ) (bits : ℕ → ℕ) (old new : List Entry) : Type 0 where
  pub watches : map (watch_at v.keys) new ≡ map (freshened_by n bits) (map (watch_at v.keys) old)
  pub linked : All (IsLinked v.keys) new

module _ (v : Seen) (n : ℕ) (bits : ℕ → ℕ) (f : Entry → Entry) (each : (x : Entry) → IsLinked v.keys x → f x ≡ noted n (bits (number_at v.keys x.desc)) x) where
  freshens : (xs : List Entry) → All (IsLinked v.keys) xs → Freshens v n bits xs (map f xs)
  freshens [] h = record { watches = refl; linked = h }
  freshens (x ∷ xs) h =
      let link = All-head (IsLinked v.keys) x xs h in
      let rest = freshens xs (All-tail (IsLinked v.keys) x xs h) in
      let b = bits (number_at v.keys x.desc) in
      let one : watch_at v.keys (f x) ≡ freshened_by n bits (watch_at v.keys x) = ap (watch_at v.keys) (each x link) ∙ watch_noted v.keys n b x in
      record {
        watches = λ i. one i ∷ rest.watches i;
        linked = All-cons (IsLinked v.keys) (f x) (map f xs) (subst (IsLinked v.keys) (sym (each x link)) (link_noted v.keys n b x link)) rest.linked;
      }

-- At the two ends of an object.
abbrev side_at : Option Place → End
side_at None = First
side_at (Some q) = q.side

module _ (v : Seen) (desc : DescId) (raised : Raised) (n : ℕ) (sound : Sound v) (lives : IsSome (number_under v desc)) (other : Option DescId) (is_at : IsAt v.files v.keys (across (place_of v.files (number_of v desc))) other) where
  abbrev d : ℕ
  d = number_of v desc

  placed : (key : DescId) → IsSome (number_under v key) → (p : Place) × (place_of v.files (number_at v.keys key) ≡ Some p)
  placed key h =
      let u = under_key v.keys key h in
      let e : number_at v.keys key ≡ u.number = ap (λ (o : Option ℕ). unwrap_or o 0) u.is in
      subst (λ (n : ℕ). (p : Place) × (place_of v.files n ≡ Some p)) (sym e) (a_place (place_of v.files u.number) (sound.place key u.number u.is))

  place : (p : Place) × (place_of v.files d ≡ Some p)
  place = placed desc lives

  abbrev p : Place
  p = place.0

  abbrev at_own : Mask
  at_own = bits_of (at_end raised (side_of v.files d))

  abbrev at_other : Mask
  at_other = bits_of (at_end raised (opposite (side_of v.files d)))

  side_is : side_of v.files d ≡ p.side
  side_is = ap side_at place.1

  there_at : IsAt v.files v.keys (across (Some p)) other
  there_at = subst (λ (o : Option Place). IsAt v.files v.keys (across o) other) place.1 is_at

  object_each : (x : Entry) → IsLinked v.keys x → raised_there other at_other n (raised_on desc at_own n x) ≡ noted n (object_bits (object_number (place_of v.files d)) raised (place_of v.files (number_at v.keys x.desc))) x
  object_each x link =
      let t = number_at v.keys x.desc in
      let target = placed x.desc link.desc in
      let q = target.0 in
      let on_own : (t == d) ≡ is_on desc x = same_keys v x.desc desc sound link.desc lives in
      let m_is : at_other.0 ≡ at_end raised (opposite p.side) = ap (λ (z : End). at_end raised (opposite z)) side_is in
      let bits : object_bits (object_number (place_of v.files d)) raised (place_of v.files t) ≡ when (q.object == p.object) (at_end raised q.side) = λ i. object_bits (object_number (place.1 i)) raised (target.1 i) in
      elim (same_or_not t d) [
        | inl same ↦
            let qp : q ≡ p = some_place q p (sym target.1 ∙ (ap (place_of v.files) same ∙ place.1)) in
            let own : raised_on desc at_own n x ≡ noted n at_own.0 x = ap (λ (b : Bool). cond b (noted n at_own.0 x) x) (sym on_own ∙ same_test t d same) in
            let here : when (q.object == p.object) (at_end raised q.side) ≡ at_own.0 =
            (λ i. when ((qp i).object == p.object) (at_end raised (qp i).side)) ∙ (ap (λ (b : Bool). when b (at_end raised p.side)) (same_nat p.object) ∙ ap (at_end raised) (sym side_is)) in
            ap (raised_there other at_other n) own
            ∙ (off_own v.keys v.files p raised other there_at sound.one sound.apart n at_other m_is x link q target.1 qp (noted n at_own.0 x) refl
            ∙ ap (λ (k : ℕ). noted n k x) (sym (bits ∙ here)))
        | inr ne ↦
            let off : raised_on desc at_own n x ≡ x = ap (λ (b : Bool). cond b (noted n at_own.0 x) x) (sym on_own ∙ test_apart t d ne) in
            let not_same : q ≢ p = λ e. ne (sound.apart t d p (target.1 ∙ ap (λ (z : Place). Some z) e) place.1) in
            ap (raised_there other at_other n) off
            ∙ (elsewhere v.keys v.files p raised other there_at sound.one sound.apart n at_other m_is x link q target.1 not_same
            ∙ ap (λ (k : ℕ). noted n k x) (sym bits))
      ]

-- At timers, one after another.
abbrev arrive_each : (DescId → Mask) → ℕ → List DescId → Entry → Entry
arrive_each f n [] x = x
arrive_each f n (id ∷ ids) x = arrive_each f n ids (raised_on id (f id) n x)

each_map : (f : DescId → Mask) (n : ℕ) (ids : List DescId) (xs : List Entry) → raised_each f n ids xs ≡ map (arrive_each f n ids) xs
each_map f n [] xs = sym (map_same xs)
each_map f n (id ∷ ids) xs = each_map f n ids (map (raised_on id (f id) n) xs) ∙ map_twice (raised_on id (f id) n) (arrive_each f n ids) xs

abbrev pub among_ids : List DescId → ℕ → Bool
among_ids ids k = list_any (λ id. k == id.0) ids

-- noted twice is noted once
noted_again : (n k : ℕ) (x : Entry) → noted n k (noted n k x) ≡ noted n k x
noted_again n k x = λ i. record x { fresh = or_again (brings x.mask.0 k) x.fresh i; passes_in = passes_again (x.armed && nat_lt 0 (asked x.mask.0 k)) x.passes_in i } where
  passes_again : (b : Bool) (m : ℕ) → (if b then n else if b then n else m) ≡ (if b then n else m)
  passes_again true m = refl
  passes_again false m = refl

noted_either : (a b : Bool) (n k : ℕ) (x : Entry) → cond b (noted n k (cond a (noted n k x) x)) (cond a (noted n k x) x) ≡ cond (a || b) (noted n k x) x
noted_either true true n k x = noted_again n k x
noted_either true false n k x = refl
noted_either false b n k x = refl

same_desc : (a : Bool) (n k : ℕ) (x : Entry) → (cond a (noted n k x) x).desc ≡ x.desc
same_desc true n k x = refl
same_desc false n k x = refl

on_same : (n : ℕ) (x : Entry) (b : Bool) (m k : ℕ) → (b ≡ true → m ≡ k) → cond b (noted n m x) x ≡ cond b (noted n k x) x
on_same n x true m k h = ap (λ (j : ℕ). noted n j x) (h refl)
on_same n x false m k h = refl

arrive_is : (f : DescId → Mask) (n : ℕ) (ids : List DescId) (x : Entry) → arrive_each f n ids x ≡ cond (among_ids ids x.desc.0) (noted n (f x.desc).0 x) x
arrive_is f n [] x = refl
arrive_is f n (id ∷ ids) x =
    let a = x.desc.0 == id.0 in
    let k = (f x.desc).0 in
    let y = cond a (noted n k x) x in
    let one : raised_on id (f id) n x ≡ y = on_same n x a (f id).0 k (λ on. let e = from_test x.desc.0 id.0 on in λ i. (f (record { 0 = sym e i })).0) in
    let d = same_desc a n k x in
    ap (arrive_each f n ids) one
    ∙ (arrive_is f n ids y
    ∙ ((λ i. cond (among_ids ids (d i).0) (noted n (f (d i)).0 y) y) ∙ noted_either a (among_ids ids x.desc.0) n k x))

pub in_live : (j i : ℕ) (keys : List (Option ℕ)) (n : ℕ) → get_or keys i None ≡ Some n → among_ids (live_from j keys) (j + i) ≡ true
in_live j i [] n h = absurd (none-some n h)
in_live j zero (None ∷ keys) n h = absurd (none-some n h)
in_live j (suc i) (None ∷ keys) n h = ap (among_ids (live_from (j + 1) keys)) (sym (shift j i)) ∙ in_live (j + 1) i keys n h
in_live j zero (Some m ∷ keys) n h = ap (λ (b : Bool). b || among_ids (live_from (j + 1) keys) (j + 0)) (same_test (j + 0) j (omega arith))
in_live j (suc i) (Some m ∷ keys) n h =
    or_right (j + suc i == j) (among_ids (live_from (j + 1) keys) (j + suc i)) (ap (among_ids (live_from (j + 1) keys)) (sym (shift j i)) ∙ in_live (j + 1) i keys n h)

module _ (v : Seen) (since now n : ℕ) (sound : Sound v) where
  clock_each : (x : Entry) → IsLinked v.keys x → arrive_each (due_bits v since now) n (live_ids v.keys) x ≡ noted n (clock_bits v.files since now (place_of v.files (number_at v.keys x.desc))) x
  clock_each x link =
      let u = under_key v.keys x.desc link.desc in
      let t_is : number_at v.keys x.desc ≡ u.number = ap (λ (o : Option ℕ). unwrap_or o 0) u.is in
      let q = a_place (place_of v.files u.number) (sound.place x.desc u.number u.is) in
      let there : place_of v.files (number_at v.keys x.desc) ≡ Some q.0 = ap (place_of v.files) t_is ∙ q.1 in
      let among : among_ids (live_ids v.keys) x.desc.0 ≡ true = ap (among_ids (live_ids v.keys)) (zero_plus x.desc.0) ∙ in_live 0 x.desc.0 v.keys u.number u.is in
      arrive_is (due_bits v since now) n (live_ids v.keys) x
      ∙ (ap (λ (b : Bool). cond b (noted n (due_bits v since now x.desc).0 x) x) among
      ∙ (λ i. noted n (clock_at (there i)) x)
      ∙ ap (λ (o : Option Place). noted n (clock_bits v.files since now o) x) (sym there)) where
        zero_plus : (k : ℕ) → k ≡ 0 + k
        zero_plus k = omega arith

        clock_at : Option Place → ℕ
        clock_at o = advance (unwrap_or (object_at v.files o) plain) since now

-- at an instance
instance_each : (v : Seen) (desc : DescId) (n : ℕ) → Sound v → IsSome (number_under v desc) → (x : Entry) → IsLinked v.keys x → raised_on desc (bits_of IN) n x ≡ noted n (when (number_of v desc == number_at v.keys x.desc) IN) x
instance_each v desc n sound lives x link =
    let on : (number_at v.keys x.desc == number_of v desc) ≡ is_on desc x = same_keys v x.desc desc sound link.desc lives in
    let turned : is_on desc x ≡ (number_of v desc == number_at v.keys x.desc) = sym on ∙ test_turned (number_at v.keys x.desc) (number_of v desc) in
    ap (λ (b : Bool). cond b (noted n IN x) x) turned ∙ by_test (number_of v desc == number_at v.keys x.desc) where
      by_test : (b : Bool) → cond b (noted n IN x) x ≡ noted n (when b IN) x
      by_test true = refl
      by_test false = sym (zero_noted n x)

pub stirs_watches : (raising : Raising) (v : Seen) (now n : ℕ) (old new : Registrations) → Stirs raising v now n old new → Sound v → IsRaising raising v → AreLinked v old → Freshens v n (raised_bits raising v now) old.entries new.entries
stirs_watches Nowhere v now n old new h sound is linked =
    subst (λ (xs : List Entry). Freshens v n (λ d. 0) old.entries xs) (map_same old.entries ∙ ap (λ (r : Registrations). r.entries) (sym h))
    (freshens v n (λ d. 0) (λ x. x) (λ x link. sym (zero_noted n x)) old.entries linked)
stirs_watches (Object desc raised) v now n old new h sound is linked =
    subst (λ (xs : List Entry). Freshens v n (raised_bits (Object desc raised) v now) old.entries xs) (sym (map_twice _ _ old.entries) ∙ sym h.entries)
    (freshens v n (raised_bits (Object desc raised) v now) _ (λ x link. object_each v desc raised n sound is.0 h.other h.is_at x link) old.entries linked)
stirs_watches (Instance desc) v now n old new h sound is linked =
    subst (λ (xs : List Entry). Freshens v n (raised_bits (Instance desc) v now) old.entries xs) (sym h.0)
    (freshens v n (raised_bits (Instance desc) v now) (raised_on desc (bits_of IN) n) (λ x link. instance_each v desc n sound is x link) old.entries linked)
stirs_watches Losses v now n old new h sound is linked =
    subst (λ (xs : List Entry). Freshens v n (raised_bits Losses v now) old.entries xs) (sym (where_map n v.losses old.entries) ∙ sym h.0)
    (freshens v n (raised_bits Losses v now) (lose_each n v.losses) (λ x link. losses_each v n sound v.losses is.0 x link) old.entries linked)
stirs_watches (Clock since) v now n old new h sound is linked =
    subst (λ (xs : List Entry). Freshens v n (raised_bits (Clock since) v now) old.entries xs) (sym (each_map (due_bits v since now) n (live_ids v.keys) old.entries) ∙ sym h.0)
    (freshens v n (raised_bits (Clock since) v now) (arrive_each (due_bits v since now) n (live_ids v.keys)) (λ x link. clock_each v since now n sound x link) old.entries linked)

pub stirs_added : (raising : Raising) (v : Seen) (now n : ℕ) (old new : Registrations) → Stirs raising v now n old new → new.added ≡ old.added
stirs_added Nowhere v now n old new h = ap (λ (r : Registrations). r.added) h
stirs_added (Object desc raised) v now n old new h = h.added
stirs_added (Instance desc) v now n old new h = h.1
stirs_added Losses v now n old new h = h.1
stirs_added (Clock since) v now n old new h = h.1

-- what isn't raised by the clock
pub untimed : (raising : Raising) → ((since : ℕ) → raising ≡ Clock since → ⊥) → IsUntimed raising
untimed Nowhere none = tt
untimed (Object desc raised) none = tt
untimed (Instance desc) none = tt
untimed Losses none = tt
untimed (Clock since) none = none since refl
