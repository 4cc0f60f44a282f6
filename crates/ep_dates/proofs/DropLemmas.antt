-- Registrations lose their dates, one after another.
use Rattle.std.proofs.Common.{◌≡◌, ◌≢◌, ◌==◌, ◌||◌, ◌∙◌, ◌⊎◌, ◌++◌, ℕ, Bool, true, false, append_assoc, cond, filter, is_some, map, nat_eq, List, [], ◌∷◌, Option, Some, ap, arith, inl, inr, not, refl, subst, sym}
use Rattle.std.proofs.lemmas.Bool.{cases_Bool, cases_eq, false≢true, or_parts}
use Rattle.std.proofs.lemmas.List.{length-set}
use Rattle.std.proofs.Math.Bool.{or-false}
use Rattle.ep_facts.proofs.NatFacts.{from_test, same_test}
use Rattle.ep_facts.proofs.AmongFacts.{among_append, among_last}
use Rattle.ep_facts.proofs.BoolFacts.{or_assoc, or_left, or_right, same_bools}
use Rattle.ep_facts.proofs.OptionFacts.{some_same}
use Rattle.ep_base.specs.declared.ids.DescId.{DescId}
use Rattle.ep_base.specs.declared.ids.EntryId.{EntryId}
use Rattle.ep_calls.proofs.EntryKeyLemmas.{id_is}
use Rattle.ep_calls.proofs.EntryLemmas.{key_of, member_of, number_of, one_under, within as number_within}
use Rattle.ep_dates.proofs.KeptLemmas.{apart_one, ended_changes, event_else, event_here, kept_changed, same_one}
use Rattle.ep_dates.proofs.OrderLemmas.{ended_rows, order_changed}
use Rattle.ep_dates.proofs.RowLemmas.{row_else}
use Rattle.ep_dates.specs.Dates.{Dates, ended, event_at, is_ready, noted}
use Rattle.ep_dates.specs.Ask.{is_on, watches}
use Rattle.ep_dates.specs.Drop.{Drops, is_in, is_in_found, touches, touches_any, touches_found}
use Rattle.ep_dates.specs.Kept.{AreKept}
use Rattle.ep_interest.specs.Passes.{has_id}
use Rattle.ep_interest.specs.Registrations.{IsSound, Registrations, entry_under, id_of, ids, with_ids}
use Rattle.ep_interest.specs.declared.entry.Entry.{Entry}
use Rattle.ep_law.proofs.ListLemmas.{filtered_member, filtered_passes, member_filter, member_map}
use Rattle.ep_law.specs.Laws.{Member}
use Rattle.ep_machine.specs.Lists.{is_among}
use Rattle.ep_walk.specs.Walk.{Walk, with_reached}
use Rattle.ep_rings.specs.PlacedRows.{first_in, keys_at}

-- what is reached stays, and one more is there
reached_still : (w : Walk) (i j : ℕ) → is_among w.reached j ≡ true → is_among (with_reached w i).reached j ≡ true
reached_still w i j h = elim (is_among w.reached i) as (λ b. is_among (cond b w (record w { reached = w.reached ++ i ∷ [] })).reached j ≡ true) [
  | true ↦ h
  | false ↦ among_append w.reached (i ∷ []) j ∙ or_left (is_among w.reached j) (is_among (i ∷ []) j) h
]

reached_here : (w : Walk) (i : ℕ) → is_among (with_reached w i).reached i ≡ true
reached_here w i = by (is_among w.reached i) refl where
  by : (b : Bool) → is_among w.reached i ≡ b → is_among (cond b w (record w { reached = w.reached ++ i ∷ [] })).reached i ≡ true
  by true h = h
  by false h = among_last w.reached i

noted_still : (b c : Bool) (w : Walk) (i j : ℕ) → is_among w.reached j ≡ true → is_among (noted b c i w).reached j ≡ true
noted_still true true w i j h = h
noted_still true false w i j h = reached_still w i j h
noted_still false true w i j h = reached_still w i j h
noted_still false false w i j h = h

noted_lost : (b c : Bool) (w : Walk) (i : ℕ) → b ≡ true → (c ≡ true) ⊎ (is_among (noted b c i w).reached i ≡ true)
noted_lost true true w i e = inl refl
noted_lost true false w i e = inr (reached_here w i)
noted_lost false c w i e = absurd (false≢true e)

module _ (r : Registrations) where
  pub drops_none : (gone : ℕ → Bool) (d : Dates) → AreKept r d → ((id : EntryId) (x : Entry) → entry_under r id ≡ Some x → gone id.0 ≡ true → event_at d.since x.number ≡ 0) → Drops r gone d d
  drops_none gone d kept none = record {
    kept = kept;
    rows = refl;
    since = refl;
    ids = refl;
    room = refl;
    later = λ k lt. refl;
    stays = λ id x at h. refl;
    goes = none;
    idle = λ i h. h;
    noted = λ i h. inl h;
    still = λ i h. h;
    order = λ n o. o;
  }

  pub drops_same : (f g : ℕ → Bool) (a b : Dates) → ((id : EntryId) (x : Entry) → entry_under r id ≡ Some x → g id.0 ≡ f id.0) → Drops r f a b → Drops r g a b
  drops_same f g a b same t = record {
    kept = t.kept;
    rows = t.rows;
    since = t.since;
    ids = t.ids;
    room = t.room;
    later = t.later;
    stays = λ id x at h. t.stays id x at (sym (same id x at) ∙ h);
    goes = λ id x at h. t.goes id x at (sym (same id x at) ∙ h);
    idle = t.idle;
    noted = t.noted;
    still = t.still;
    order = t.order;
  }

  pub drops_both : (f g : ℕ → Bool) (a b c : Dates) → Drops r f a b → Drops r g b c → Drops r (λ k. f k || g k) a c
  drops_both f g a b c s t = record {
    kept = t.kept;
    rows = t.rows ∙ s.rows;
    since = t.since ∙ s.since;
    ids = t.ids ∙ s.ids;
    room = t.room ∙ s.room;
    later = λ k lt. t.later k lt ∙ s.later k lt;
    stays = λ id x at h. let both = or_parts (f id.0) (g id.0) h in t.stays id x at both.1 ∙ s.stays id x at both.0;
    goes = λ id x at h. elim (cases_Bool (g id.0)) [
      | inl late ↦ t.goes id x at late
      | inr not_late ↦ t.stays id x at not_late ∙ s.goes id x at (first (f id.0) (g id.0) not_late h)
    ];
    idle = λ i h. t.idle i (s.idle i h);
    noted = λ i h. elim (s.noted i h) [ inl up ↦ t.noted i up | inr there ↦ inr (t.still i there) ];
    still = λ i h. t.still i (s.still i h);
    order = λ n o. t.order n (s.order n o);
  } where
    first : (x y : Bool) → y ≡ false → (x || y) ≡ true → x ≡ true
    first true y n h = refl
    first false y n h = absurd (false≢true (sym n ∙ h))

  -- One that is dated is so no more.
  module _ (sound : IsSound r) (d : Dates) (kept : AreKept r d) (id : EntryId) (x : Entry) (at : entry_under r id ≡ Some x) where
    abbrev new : Dates
    new = ended id x d

    abbrev i : ℕ
    i = x.instance.0

    changes : Rattle.ep_dates.proofs.KeptLemmas.Changes d id x 0 new
    changes = ended_changes r d kept id x at

    same_ready : (j : ℕ) → j ≢ i → is_ready new j ≡ is_ready d j
    same_ready j ne = ap (λ (l : List ℕ). is_some (first_in l)) (row_else d.rows i j (filter (λ y. not (y == id.0)) (keys_at d.rows i)) ne)

    none_left : (j : ℕ) → is_ready d j ≡ false → is_ready new j ≡ false
    none_left j h = ap (λ (l : List ℕ). is_some (first_in l)) (ended_rows r d kept id x at j) ∙ empty (keys_at d.rows j) h where
      empty : (ks : List ℕ) → is_some (first_in ks) ≡ false → is_some (first_in (filter (λ y. not (y == id.0)) ks)) ≡ false
      empty [] h = h
      empty (k ∷ ks) h = absurd (false≢true (sym h))

    pub drops_one : Drops r (λ k. k == id.0) d new
    drops_one = record {
      kept = kept_changed r (one_under r sound) d kept id x at 0 new changes;
      rows = changes.rows;
      since = length-set d.since x.number 0;
      ids = refl;
      room = changes.room;
      later = λ k lt. event_else r (one_under r sound) d kept id x at 0 new changes k (λ e. let le = number_within r sound id x at in omega (arith, le, lt, e));
      stays = λ j y there h. event_else r (one_under r sound) d kept id x at 0 new changes y.number (apart_one r (one_under r sound) d kept id x at 0 new changes j y there (λ e. false≢true (sym h ∙ same_test j.0 id.0 e)));
      goes = λ j y there h.
          ap (λ (z : Entry). event_at new.since z.number) (same_one r (one_under r sound) d kept id x at 0 new changes j y there (from_test j.0 id.0 h)) ∙ event_here r (one_under r sound) d kept id x at 0 new changes;
      idle = none_left;
      noted = λ j h. elim (cases_eq j i) [
        | inl e ↦ elim (noted_lost (is_ready d i) (is_ready new i) d.turned i (ap (is_ready d) (sym e) ∙ h)) [
          | inl up ↦ inl (ap (is_ready new) e ∙ up)
          | inr there ↦ inr (ap (is_among new.turned.reached) e ∙ there)
        ]
        | inr ne ↦ inl (same_ready j ne ∙ h)
      ];
      still = λ j h. noted_still (is_ready d i) (is_ready new i) d.turned i j h;
      order = λ n o. order_changed n r (one_under r sound) d kept o id x at 0 new changes (λ j. inl (ended_rows r d kept id x at j));
    }

-- Those whose keys are listed.
has_where : (f : Entry → EntryId) (xs : List Entry) (k : ℕ) → has_id (map f xs) k ≡ true → (y : Entry) × Member y xs × ((f y).0 ≡ k)
has_where f [] k h = absurd (false≢true h)
has_where f (y ∷ ys) k h = elim (cases_Bool (nat_eq k (f y).0)) [
  | inl t ↦ (y, inl refl, sym (from_test k (f y).0 t))
  | inr n ↦ let rest = has_where f ys k (sym (ap (λ (b : Bool). b || has_id (map f ys) k) n) ∙ h) in (rest.0, inr rest.1, rest.2)
]

has_member : (xs : List EntryId) (e : EntryId) → Member e xs → has_id xs e.0 ≡ true
has_member [] e m = absurd m
has_member (x ∷ xs) e (inl is) = or_left (e.0 == x.0) (has_id xs e.0) (same_test e.0 x.0 (ap (λ (k : EntryId). k.0) is))
has_member (x ∷ xs) e (inr m) = or_right (e.0 == x.0) (has_id xs e.0) (has_member xs e m)

pub listed_where : (r : Registrations) → IsSound r → (p : Entry → Bool) (id : EntryId) (x : Entry) → entry_under r id ≡ Some x → has_id (ids r (filter p r.entries)) id.0 ≡ p x
listed_where r sound p id x at = same_bools (has_id (ids r (filter p r.entries)) id.0) (p x) forth back where
  forth : has_id (ids r (filter p r.entries)) id.0 ≡ true → p x ≡ true
  forth h =
      let found = has_where (λ y. id_of r y.number) (filter p r.entries) id.0 h in
      let y = found.0 in
      let key = key_of r sound y (filtered_member p r.entries y found.1) in
      let same : key.0 ≡ id = let e : key.0.0 ≡ id.0 = ap (λ (j : EntryId). j.0) (sym (id_is r sound key.0 y.number (number_of r key.0 y key.1))) ∙ found.2 in λ q. record { 0 = e q } in
      let one : y ≡ x = some_same y x (sym key.1 ∙ (ap (entry_under r) same ∙ at)) in
      ap p (sym one) ∙ filtered_passes p r.entries y found.1

  back : p x ≡ true → has_id (ids r (filter p r.entries)) id.0 ≡ true
  back h =
      let there : Member (id_of r x.number) (ids r (filter p r.entries)) = member_map (λ (y : Entry). id_of r y.number) x (filter p r.entries) (member_filter p x r.entries (member_of r id x at) h) in
      ap (λ (e : EntryId). has_id (ids r (filter p r.entries)) e.0) (sym (id_is r sound id x.number (number_of r id x at))) ∙ has_member (ids r (filter p r.entries)) (id_of r x.number) there

-- the keys of pairs
abbrev pub firsts : {X : Type 0} → List (EntryId × X) → List EntryId
firsts qs = map (λ q. q.0) qs

pub keys_in_pairs : (r : Registrations) (xs : List Entry) → firsts (with_ids r xs) ≡ ids r xs
keys_in_pairs r [] = refl
keys_in_pairs r (x ∷ xs) = ap (λ (l : List EntryId). id_of r x.number ∷ l) (keys_in_pairs r xs)

has_more : (ids : List EntryId) (id : EntryId) (k : ℕ) → has_id (ids ++ id ∷ []) k ≡ (has_id ids k || k == id.0)
has_more [] id k = or-false (k == id.0)
has_more (x ∷ ids) id k = ap (λ (b : Bool). nat_eq k x.0 || b) (has_more ids id k) ∙ or_assoc (nat_eq k x.0) (has_id ids k) (k == id.0)

firsts_more : {X : Type 0} → (qs : List (EntryId × X)) (q : EntryId × X) → firsts (qs ++ q ∷ []) ≡ firsts qs ++ q.0 ∷ []
firsts_more [] q = refl
firsts_more (t ∷ qs) q = ap (λ (l : List EntryId). t.0 ∷ l) (firsts_more qs q)

module _ (r : Registrations) where
  pub listed_none : (d : Dates) → AreKept r d → Drops r (has_id []) d d
  listed_none d kept = drops_none r (has_id []) d kept (λ id x at h. absurd (false≢true h))

  pub listed_next : (done : List EntryId) (id : EntryId) (a b c : Dates) → Drops r (has_id done) a b → Drops r (λ k. k == id.0) b c → Drops r (has_id (done ++ id ∷ [])) a c
  listed_next done id a b c s t = drops_same r (λ k. has_id done k || k == id.0) (has_id (done ++ id ∷ [])) a c (λ j x at. has_more done id j.0) (drops_both r (has_id done) (λ k. k == id.0) a b c s t)

  pub paired_next : {X : Type 0} → (done : List (EntryId × X)) (q : EntryId × X) (a b c : Dates) → Drops r (has_id (firsts done)) a b → Drops r (λ k. k == q.0.0) b c → Drops r (has_id (firsts (done ++ q ∷ []))) a c
  paired_next done q a b c s t = subst (λ (l : List EntryId). Drops r (has_id l) a c) (sym (firsts_more done q)) (listed_next (firsts done) q.0 a b c s t)

  pub firsts_on : {X : Type 0} → (done : List (EntryId × X)) (q : EntryId × X) (rest : List EntryId) → firsts (done ++ q ∷ []) ++ rest ≡ firsts done ++ q.0 ∷ rest
  firsts_on done q rest = ap (λ (l : List EntryId). l ++ rest) (firsts_more done q) ∙ append_assoc (firsts done) (q.0 ∷ []) rest

  -- all that a test finds
  pub listed_all : IsSound r → (p : Entry → Bool) (f : ℕ → Bool) (a b : Dates) → ((id : EntryId) (x : Entry) → entry_under r id ≡ Some x → f id.0 ≡ p x) → Drops r (has_id (ids r (filter p r.entries))) a b → Drops r f a b
  listed_all sound p f a b same t = drops_same r (has_id (ids r (filter p r.entries))) f a b (λ id x at. same id x at ∙ sym (listed_where r sound p id x at)) t

-- Those that go with descriptions.
any_more : (r : Registrations) (done : List DescId) (desc : DescId) (k : ℕ) → touches_any r (done ++ desc ∷ []) k ≡ (touches_any r done k || touches r desc.0 k)
any_more r [] desc k = or-false (touches r desc.0 k)
any_more r (d ∷ done) desc k = ap (λ (b : Bool). touches r d.0 k || b) (any_more r done desc k) ∙ or_assoc (touches r d.0 k) (touches_any r done k) (touches r desc.0 k)

module _ (r : Registrations) where
  pub touching_both : (desc : ℕ) (a b c : Dates) → Drops r (is_in r desc) a b → Drops r (watches r desc) b c → Drops r (touches r desc) a c
  touching_both desc a b c s t =
      drops_same r (λ k. is_in r desc k || watches r desc k) (touches r desc) a c (λ id x at. ap (touches_found desc) at ∙ sym (ap (λ (o : Option Entry). is_in_found desc o || is_on desc o) at))
      (drops_both r (is_in r desc) (watches r desc) a b c s t)

  pub dying_next : (done : List DescId) (desc : DescId) (a b c : Dates) → Drops r (touches_any r done) a b → Drops r (touches r desc.0) b c → Drops r (touches_any r (done ++ desc ∷ [])) a c
  dying_next done desc a b c s t =
      drops_same r (λ k. touches_any r done k || touches r desc.0 k) (touches_any r (done ++ desc ∷ [])) a c (λ id x at. any_more r done desc id.0) (drops_both r (touches_any r done) (touches r desc.0) a b c s t)
