-- One registration is asked.
use Rattle.std.proofs.Common.{◌≡◌, ◌≢◌, ◌<◌, ◌≤◌, ◌==◌, ◌||◌, ◌&&◌, ◌∙◌, ◌⊎◌, ℕ, Bool, true, false, cond, length, List, [], ◌∷◌, ◌++◌, None, Option, Some, ap, append-nil, arith, inl, inr, is_some, nat_lt, not, refl, subst, sym}
use Rattle.std.proofs.lemmas.Bool.{cases_Bool, cases_eq, false≢true}
use Rattle.ep_facts.proofs.NatFacts.{from_test}
use Rattle.ep_facts.proofs.AmongFacts.{among_last}
use Rattle.ep_facts.proofs.OptionFacts.{some_same}
use Rattle.ep_facts.proofs.BoolFacts.{from_not, from_not_false, or_nothing}
use Rattle.ep_base.specs.declared.ids.EntryId.{EntryId}
use Rattle.ep_dates.proofs.KeptLemmas.{AreOne, Changes, apart_one, begun_changes, ended_changes, event_else, event_here, kept_changed, same_one}
use Rattle.ep_dates.proofs.OrderLemmas.{elsewhere, ended_rows, left, order_changed}
use Rattle.ep_dates.proofs.RowLemmas.{row_else, row_here, some_first}
use Rattle.ep_dates.proofs.TurnLemmas.{either_way, not_both, shows_kept, turns_none}
use Rattle.ep_dates.specs.Ask.{AreTurned, Asks, Turns, shows_by, shows_over}
use Rattle.ep_dates.specs.Dates.{Dates, begun, ended, event_at, is_dated, is_ready, noted}
use Rattle.ep_dates.specs.Kept.{AreKept}
use Rattle.ep_dates.specs.Order.{AreInTurn}
use Rattle.ep_rings.proofs.AmongLemmas.{filter_gone}
use Rattle.ep_interest.specs.Registrations.{Registrations, entry_under}
use Rattle.ep_interest.specs.declared.entry.Entry.{Entry}
use Rattle.ep_machine.specs.Lists.{is_among}
use Rattle.ep_base.specs.declared.object.End.{End}
use Rattle.ep_calls.proofs.EntryLemmas.{one_under, within as number_within}
use Rattle.ep_calls.specs.Parts.{Parts}
use Rattle.ep_calls.specs.Stands.{number_at}
use mathlib.Core.Bool.{beq}
use Rattle.ep_interest.specs.Registrations.{IsSound}
use Rattle.ep_machine.specs.Bits.{ET, asked, has_bit, when}
use Rattle.ep_machine.specs.Files.{object_of, side_of}
use Rattle.ep_machine.specs.Objects.{Object, instance}
use Rattle.ep_machine.specs.Readiness.{present_of}
use Rattle.ep_view.proofs.ClimbLemmas.{zero_asked}
use Rattle.ep_walk.specs.Walk.{Walk, with_reached}
use Rattle.ep_rings.specs.PlacedRows.{PlacedRows, first_in, keys_at, with_key, with_row}

not_twice : (way : Bool) → way ≡ not way → ⊥
not_twice true e = false≢true (sym e)
not_twice false e = false≢true e

-- an instance that is noted for the first time
first_noted : (w : Walk) (i : ℕ) → is_among w.reached i ≡ false → with_reached w i ≡ record w { reached = w.reached ++ i ∷ [] }
first_noted w i f = ap (λ (b : Bool). cond b w (record w { reached = w.reached ++ i ∷ [] })) f

noted_turned : (way : Bool) (i : ℕ) (w : Walk) → noted (not way) way i w ≡ with_reached w i
noted_turned true i w = refl
noted_turned false i w = refl

noted_same : (b : Bool) (i : ℕ) (w : Walk) → noted b b i w ≡ w
noted_same true i w = refl
noted_same false i w = refl

-- what an instance that may have turned adds to the noted
record Noted (way before after : Bool) (i : ℕ) (old new : Walk) : Type 0 where
  more : List ℕ
  is : new ≡ record old { reached = old.reached ++ more }
  flips : (j : ℕ) → is_among more j ≡ true → (j ≡ i) × (before ≡ not way) × (after ≡ way)
  has : before ≡ not way → after ≡ way → is_among more i ≡ true

nothing : (way before after : Bool) (i : ℕ) (w : Walk) → before ≡ after → Noted way before after i w w
nothing way before after i w same = record {
  more = [];
  is = ap (λ (ks : List ℕ). record w { reached = ks }) (sym (append-nil w.reached));
  flips = λ j t. absurd (false≢true t);
  has = λ was is. absurd (not_twice way (sym is ∙ (sym same ∙ was)));
}

is_noted : (way before after : Bool) (i : ℕ) (w : Walk) → (before ≡ way → after ≡ way) → (is_among w.reached i ≡ true → before ≡ way) → Noted way before after i w (noted before after i w)
is_noted way before after i w rises turned = elim (either_way before way) [
  | inl e ↦
      let same : before ≡ after = e ∙ sym (rises e) in
      subst (Noted way before after i w) (sym (ap (λ (b : Bool). noted b after i w) same ∙ noted_same after i w)) (nothing way before after i w same)
  | inr ne ↦ elim (either_way after way) [
    | inr still ↦
        let same : before ≡ after = ne ∙ sym still in
        subst (Noted way before after i w) (sym (ap (λ (b : Bool). noted b after i w) same ∙ noted_same after i w)) (nothing way before after i w same)
    | inl up ↦
        let fresh : is_among w.reached i ≡ false = elim (cases_Bool (is_among w.reached i)) [ inl t ↦ absurd (not_both before way (turned t) ne) | inr f ↦ f ] in
        let is : noted before after i w ≡ record w { reached = w.reached ++ i ∷ [] } = (λ k. noted (ne k) (up k) i w) ∙ (noted_turned way i w ∙ first_noted w i fresh) in
        record {
          more = i ∷ [];
          is = is;
          flips = λ j t. (only j t, ne, up);
          has = λ was now. one;
        }
  ]
] where
  only : (j : ℕ) → is_among (i ∷ []) j ≡ true → j ≡ i
  only j t = from_test j i (or_nothing (j == i) t)

  one : is_among (i ∷ []) i ≡ true
  one = among_last [] i

-- Readiness after a key joined or left a row.
row_ready : (v : PlacedRows) (i : ℕ) (ks : List ℕ) → (j : ℕ) → j ≢ i → is_some (first_in (keys_at (with_row v i ks) j)) ≡ is_some (first_in (keys_at v j))
row_ready v i ks j ne = ap (λ (l : List ℕ). is_some (first_in l)) (row_else v i j ks ne)

-- what shows something although what it watches is not ready shows it in any case
shows_by_object : (o : Option Object) (d : ℕ) (e : End) (now mask : ℕ) (armed rest : Bool) → (nat_lt 0 (when armed (asked mask (present_of (λ k. false) d o e now))) && rest) ≡ true → (nat_lt 0 (when armed (asked mask (present_of (λ k. true) d o e now))) && rest) ≡ true
shows_by_object None d e now mask armed rest h = h
shows_by_object (Some instance) d e now mask true rest h = absurd (false≢true (sym (ap (λ (b : Bool). b && rest) (zero_asked mask)) ∙ h))
shows_by_object (Some instance) d e now mask false rest h = absurd (false≢true h)
shows_by_object o d e now mask armed rest h = h

pub shows_rises : (p : Parts) (x : Entry) → shows_over p false x ≡ true → shows_over p true x ≡ true
shows_rises p x h =
    let d = number_at p.tables.keys x.desc in
    shows_by_object (object_of p.tables.files d) d (side_of p.tables.files d) p.clock x.mask.0 x.armed (not (has_bit x.mask.0 ET) || x.fresh) h

module _ (way : Bool) (n : ℕ) (r : Registrations) (shows : Bool → Entry → Bool) (mono : (x : Entry) → shows false x ≡ true → shows true x ≡ true)
    (one : AreOne r) (within : (id : EntryId) (x : Entry) → entry_under r id ≡ Some x → x.number ≤ r.added) (d : Dates) (kept : AreKept r d) (turned : AreTurned way d) where
  -- What one registration's turn is.
  module _ (id : EntryId) (x : Entry) (is : entry_under r id ≡ Some x) (was : is_dated d x ≡ not way) (up : shows_by shows d x ≡ way) (event : ℕ) (new : Dates) (c : Changes d id x event new)
      (dated : nat_lt 0 event ≡ way) (at : way ≡ true → event ≡ n) (walk : new.turned ≡ noted (is_ready d x.instance.0) (is_ready new x.instance.0) x.instance.0 d.turned)
      (rises : is_ready d x.instance.0 ≡ way → is_ready new x.instance.0 ≡ way) (others : (j : ℕ) → j ≢ x.instance.0 → is_ready new j ≡ is_ready d j) (order : AreInTurn n r d → AreInTurn n r new) where
    abbrev i : ℕ
    i = x.instance.0

    told : Noted way (is_ready d i) (is_ready new i) i d.turned new.turned
    told = subst (Noted way (is_ready d i) (is_ready new i) i d.turned) (sym walk) (is_noted way (is_ready d i) (is_ready new i) i d.turned rises (λ t. (turned i t).0))

    now : is_dated new x ≡ way
    now = ap (λ (k : ℕ). nat_lt 0 k) (event_here r one d kept id x is event new c) ∙ dated

    everywhere : (j : ℕ) → is_ready d j ≡ way → is_ready new j ≡ way
    everywhere j h = elim (cases_eq j i) [ inl e ↦ ap (is_ready new) e ∙ rises (ap (is_ready d) (sym e) ∙ h) | inr ne ↦ others j ne ∙ h ]

    same_else : (j : EntryId) (y : Entry) → entry_under r j ≡ Some y → j.0 ≢ id.0 → event_at new.since y.number ≡ event_at d.since y.number
    same_else j y there ne = event_else r one d kept id x is event new c y.number (apart_one r one d kept id x is event new c j y there ne)

    y_is : (j : EntryId) (y : Entry) → entry_under r j ≡ Some y → j.0 ≡ id.0 → y ≡ x
    y_is j y there e = same_one r one d kept id x is event new c j y there e

    pub turns_one : Turns way n r shows (λ k. k == id.0) d new
    turns_one = record {
      more = told.more;
      turned = told.is;
      kept = kept_changed r one d kept id x is event new c;
      rows = c.rows;
      since = ap (λ (s : List ℕ). length s) c.since ∙ long;
      later = λ k lt. event_else r one d kept id x is event new c k (λ e. let le = within id x is in omega (arith, le, lt, e));
      stays = λ j y there h. elim (cases_eq j.0 id.0) [
        | inl e ↦ ap (is_dated new) (y_is j y there e) ∙ now
        | inr ne ↦ ap (λ (k : ℕ). nat_lt 0 k) (same_else j y there ne) ∙ h
      ];
      turns = λ j y there before after. elim (cases_eq j.0 id.0) [
        | inl e ↦
            let same = y_is j y there e in
            ap (shows_by shows new) same ∙ shows_kept way (is_ready d x.desc.0) (is_ready new x.desc.0) (λ b. shows b x) (mono x) (everywhere x.desc.0) up
        | inr ne ↦ absurd (not_both (is_dated d y) way (ap (λ (k : ℕ). nat_lt 0 k) (sym (same_else j y there ne)) ∙ after) before)
      ];
      same = λ j y there before after. elim (cases_eq j.0 id.0) [
        | inl e ↦
            let same = y_is j y there e in
            absurd (not_twice way (sym now ∙ (ap (is_dated new) (sym same) ∙ (after ∙ (sym before ∙ (ap (is_dated d) same ∙ was))))))
        | inr ne ↦ same_else j y there ne
      ];
      begins = λ j y there before after. elim (cases_eq j.0 id.0) [
        | inl e ↦
            let same = y_is j y there e in
            ap (λ (z : Entry). event_at new.since z.number) same ∙ (event_here r one d kept id x is event new c ∙ at (sym now ∙ (ap (is_dated new) (sym same) ∙ after)))
        | inr ne ↦ absurd (false≢true (sym before ∙ (ap (λ (k : ℕ). nat_lt 0 k) (sym (same_else j y there ne)) ∙ after)))
      ];
      rises = everywhere;
      flips = λ j t. let f = told.flips j t in (ap (is_ready d) f.0 ∙ f.1, ap (is_ready new) f.0 ∙ f.2, subst (λ (k : ℕ). k < d.turned.room) (sym f.0) (kept.places id x is).turn);
      noted = λ j before after. elim (cases_eq j i) [
        | inl e ↦ ap (is_among told.more) e ∙ told.has (ap (is_ready d) (sym e) ∙ before) (ap (is_ready new) (sym e) ∙ after)
        | inr ne ↦ absurd (not_both (is_ready d j) way (sym (others j ne) ∙ after) before)
      ];
      order = order;
      settled = λ j y there h. inl (ap (is_dated new) (y_is j y there (from_test j.0 id.0 h)) ∙ now);
    } where
      long : length (Rattle.std.proofs.Common.set d.since x.number event) ≡ length d.since
      long = Rattle.std.proofs.lemmas.List.length-set d.since x.number event

-- One is asked.
module _ (p : Parts) (sound : IsSound p.interest) (way : Bool) (n : ℕ) (id : EntryId) (d : Dates) (kept : AreKept p.interest d) where
  abbrev Turned : Dates → Type 0
  Turned new = Asks way n p (λ k. k == id.0) d new

  abbrev r : Registrations
  r = p.interest

  key_is : (j : EntryId) → (j.0 == id.0) ≡ true → j ≡ id
  key_is j h = let e = from_test j.0 id.0 h in λ i. record { 0 = e i }

  pub asked_nothing : entry_under r id ≡ None → Turned d
  asked_nothing none =
      turns_none way n r (shows_over p) (shows_rises p) (λ k. k == id.0) d kept
      (λ j y at h. absurd (let e : Some y ≡ None = sym at ∙ (ap (entry_under r) (key_is j h) ∙ none) in cc))

  module _ (x : Entry) (at : entry_under r id ≡ Some x) where
    is_it : (j : EntryId) (y : Entry) → entry_under r j ≡ Some y → (j.0 == id.0) ≡ true → y ≡ x
    is_it j y there h = some_same y x (sym there ∙ (ap (entry_under r) (key_is j h) ∙ at))

    pub asked_same : is_dated d x ≡ way → Turned d
    asked_same dated =
        turns_none way n r (shows_over p) (shows_rises p) (λ k. k == id.0) d kept
        (λ j y there h. inl (ap (is_dated d) (is_it j y there h) ∙ dated))

    pub asked_idle : shows_by (shows_over p) d x ≡ not way → Turned d
    asked_idle idle =
        turns_none way n r (shows_over p) (shows_rises p) (λ k. k == id.0) d kept
        (λ j y there h. inr (inl (ap (shows_by (shows_over p) d) (is_it j y there h) ∙ idle)))

pub same_truth : (a b : Bool) → beq a b ≡ true → a ≡ b
same_truth true true h = refl
same_truth true false h = absurd (false≢true h)
same_truth false true h = absurd (false≢true h)
same_truth false false h = refl

pub other_truth : (a b : Bool) → beq a b ≡ false → a ≡ not b
other_truth true true h = absurd (false≢true (sym h))
other_truth true false h = refl
other_truth false true h = refl
other_truth false false h = absurd (false≢true (sym h))

pub unlike : (a b : Bool) → not (beq a b) ≡ true → a ≡ not b
unlike a b h = other_truth a b (from_not (beq a b) h)

pub alike : (a b : Bool) → not (beq a b) ≡ false → a ≡ b
alike a b h = same_truth a b (from_not_false (beq a b) h)

-- It came to be reportable.
module _ (p : Parts) (sound : IsSound p.interest) (n : ℕ) (up : nat_lt 0 n ≡ true) (id : EntryId) (d : Dates) (kept : AreKept p.interest d) (x : Entry) (at : entry_under p.interest id ≡ Some x) where
  abbrev own : ℕ
  own = x.instance.0

  begun_rows : is_dated d x ≡ false → (j : ℕ) → (keys_at (begun n id x d).rows j ≡ left p.interest d kept id x at j) ⊎ ((keys_at (begun n id x d).rows j ≡ left p.interest d kept id x at j ++ id.0 ∷ []) × (n ≡ n))
  begun_rows was j = elim (cases_eq j own) [
    | inl e ↦
        let here : keys_at d.rows own ≡ left p.interest d kept id x at own = sym (filter_gone (keys_at d.rows own) id.0 (kept.listed id x at ∙ was)) in
        inr (ap (λ (i : ℕ). keys_at (begun n id x d).rows i) e ∙ (row_here d.rows own (keys_at d.rows own ++ id.0 ∷ []) (kept.places id x at).row ∙ (ap (λ (l : List ℕ). l ++ id.0 ∷ []) here ∙ ap (λ (i : ℕ). left p.interest d kept id x at i ++ id.0 ∷ []) (sym e))), refl)
    | inr ne ↦ inl (row_else d.rows own j (keys_at d.rows own ++ id.0 ∷ []) ne ∙ elsewhere p.interest d kept id x at j ne)
  ]

  pub asked_begun : AreTurned true d → is_dated d x ≡ false → shows_by (shows_over p) d x ≡ true → Asks true n p (λ k. k == id.0) d (begun n id x d)
  asked_begun turned was shown =
      turns_one true n p.interest (shows_over p) (shows_rises p) (one_under p.interest sound) (number_within p.interest sound) d kept turned id x at was shown n (begun n id x d)
      (begun_changes p.interest d kept id x at n up) up (λ t. refl) refl
      (λ h. some_first (keys_at (with_key d.rows own id.0) own) id.0 (ap (λ (l : List ℕ). is_among l id.0) (row_here d.rows own (keys_at d.rows own ++ id.0 ∷ []) (kept.places id x at).row) ∙ among_last (keys_at d.rows own) id.0))
      (λ j ne. row_ready d.rows own (keys_at d.rows own ++ id.0 ∷ []) j ne)
      (λ o. order_changed n p.interest (one_under p.interest sound) d kept o id x at n (begun n id x d) (begun_changes p.interest d kept id x at n up) (begun_rows was))

  -- It is so no more.
  pub asked_ended : AreTurned false d → is_dated d x ≡ true → shows_by (shows_over p) d x ≡ false → Asks false n p (λ k. k == id.0) d (ended id x d)
  asked_ended turned was idle =
      turns_one false n p.interest (shows_over p) (shows_rises p) (one_under p.interest sound) (number_within p.interest sound) d kept turned id x at was idle 0 (ended id x d)
      (ended_changes p.interest d kept id x at) refl (λ f. absurd (false≢true f)) refl
      (λ h. absurd (false≢true (sym h ∙ some_first (keys_at d.rows own) id.0 (kept.listed id x at ∙ was))))
      (λ j ne. row_ready d.rows own _ j ne)
      (λ o. order_changed n p.interest (one_under p.interest sound) d kept o id x at 0 (ended id x d) (ended_changes p.interest d kept id x at) (λ j. inl (ended_rows p.interest d kept id x at j)))
