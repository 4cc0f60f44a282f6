-- Registrations are dated anew, one after another.
use Rattle.std.proofs.Common.{◌≡◌, ◌≢◌, ◌<◌, ◌+◌, ◌++◌, ◌==◌, ◌&&◌, ◌||◌, ◌∙◌, ◌⊎◌, ℕ, Bool, List, [], ◌∷◌, Some, ap, arith, cond, false, filter, get_or, inl, inr, is_some, length, nat_lt, not, refl, rules, subst, sym, take, true}
use Rattle.std.proofs.lemmas.Bool.{cases_eq, false≢true}
use Rattle.std.proofs.lemmas.List.{length-set, take_more}
use Rattle.std.proofs.Math.Bool.{and-false}
use Rattle.ep_facts.proofs.NatFacts.{same_test}
use Rattle.ep_facts.proofs.AmongFacts.{among_append, among_last}
use Rattle.ep_facts.proofs.BoolFacts.{and_none}
use Rattle.ep_base.specs.declared.ids.EntryId.{EntryId}
use Rattle.ep_calls.proofs.EntryLemmas.{one_under, within as number_within}
use Rattle.ep_dates.proofs.KeptLemmas.{apart_one, event_else, event_here, kept_changed, last_row, only_home, renewed_changes, same_one, turned_row}
use Rattle.ep_dates.proofs.OrderLemmas.{elsewhere, left, order_changed}
use Rattle.ep_dates.proofs.RowLemmas.{row_else, some_first}
use Rattle.ep_dates.specs.Dates.{Dates, event_at, id_at, is_dated, is_ready, renewed}
use Rattle.ep_dates.specs.Kept.{AreKept}
use Rattle.ep_dates.specs.Renew.{Renews}
use Rattle.ep_interest.specs.Registrations.{IsSound, Registrations, entry_under}
use Rattle.ep_interest.specs.declared.entry.Entry.{Entry}
use Rattle.ep_machine.specs.Lists.{is_among}
use Rattle.ep_rings.specs.PlacedRows.{first_in, keys_at, without_key}

if_not : (b : Bool) (n m : ℕ) → b ≡ false → m ≡ cond b n m
if_not b n m f = sym (ap (λ (c : Bool). cond c n m) f)

module _ (n : ℕ) (r : Registrations) where
  pub renews_none : (d : Dates) → AreKept r d → Renews n r [] d d
  renews_none d kept = record {
    kept = kept;
    turned = refl;
    rows = refl;
    since = refl;
    later = λ k lt. refl;
    order = λ o. o;
    ready = λ i. refl;
    each = λ id x at. if_not (is_dated d x && false) n (event_at d.since x.number) (and-false (is_dated d x));
  }

  module _ (sound : IsSound r) (up : nat_lt 0 n ≡ true) (d : Dates) (kept : AreKept r d) (id : EntryId) (x : Entry) (at : entry_under r id ≡ Some x) (dated : is_dated d x ≡ true) (key : id_at d.ids x.number ≡ id) where
    abbrev new : Dates
    new = renewed n id x d

    abbrev i : ℕ
    i = x.instance.0

    changes : Rattle.ep_dates.proofs.KeptLemmas.Changes d id x n new
    changes = renewed_changes r d kept id x at n up key

    was_ready : is_ready d i ≡ true
    was_ready = some_first (keys_at d.rows i) id.0 (kept.listed id x at ∙ dated)

    still_ready : is_ready new i ≡ true
    still_ready =
        some_first (keys_at new.rows i) id.0 (ap (λ (l : List ℕ). is_among l id.0) (last_row r d kept id x at) ∙ among_last (keys_at (without_key d.rows i id.0) i) id.0)

    new_rows : (j : ℕ) → (keys_at new.rows j ≡ left r d kept id x at j) ⊎ ((keys_at new.rows j ≡ left r d kept id x at j ++ id.0 ∷ []) × (n ≡ n))
    new_rows j = elim (cases_eq j i) [
      | inl e ↦ inr (ap (λ (m : ℕ). keys_at new.rows m) e ∙ (last_row r d kept id x at ∙ (ap (λ (l : List ℕ). l ++ id.0 ∷ []) (turned_row r d kept id x at) ∙ ap (λ (m : ℕ). left r d kept id x at m ++ id.0 ∷ []) (sym e))), refl)
      | inr ne ↦
          inl (row_else (without_key d.rows i id.0) i j (keys_at (without_key d.rows i id.0) i ++ id.0 ∷ []) ne
          ∙ (row_else d.rows i j (left r d kept id x at i) ne ∙ elsewhere r d kept id x at j ne))
    ]

    pub renews_one : (k : ℕ) → x.number ≡ k → Renews n r (k ∷ []) d new
    renews_one k number = record {
      kept = kept_changed r (one_under r sound) d kept id x at n new changes;
      turned = refl;
      rows = changes.rows;
      since = length-set d.since x.number n;
      later = λ j lt. event_else r (one_under r sound) d kept id x at n new changes j (λ e. let le = number_within r sound id x at in omega (arith, le, lt, e));
      order = λ o. order_changed n r (one_under r sound) d kept o id x at n new changes new_rows;
      ready = λ j. elim (cases_eq j i) [
        | inl e ↦ ap (is_ready new) e ∙ (still_ready ∙ sym (ap (is_ready d) e ∙ was_ready))
        | inr ne ↦
            ap (λ (l : List ℕ). is_some (first_in l)) (row_else (without_key d.rows i id.0) i j (keys_at (without_key d.rows i id.0) i ++ id.0 ∷ []) ne)
            ∙ ap (λ (l : List ℕ). is_some (first_in l)) (row_else d.rows i j (filter (λ y. not (y == id.0)) (keys_at d.rows i)) ne)
      ];
      each = λ j y there. elim (cases_eq j.0 id.0) [
        | inl e ↦
            let same : y ≡ x = same_one r (one_under r sound) d kept id x at n new changes j y there e in
            let holds : (is_dated d y && is_among (k ∷ []) y.number) ≡ true =
            (λ q. is_dated d (same q) && is_among (k ∷ []) (same q).number) ∙ (ap (λ (b : Bool). b && is_among (k ∷ []) x.number) dated ∙ ap (λ (b : Bool). b || false) (same_test x.number k number)) in
            ap (λ (z : Entry). event_at new.since z.number) same ∙ (event_here r (one_under r sound) d kept id x at n new changes ∙ sym (ap (λ (b : Bool). cond b n (event_at d.since y.number)) holds))
        | inr ne ↦
            let apart = apart_one r (one_under r sound) d kept id x at n new changes j y there ne in
            let other : (y.number == k) ≡ false = not_same (λ e. apart (e ∙ sym number)) in
            event_else r (one_under r sound) d kept id x at n new changes y.number apart
            ∙ if_not (is_dated d y && is_among (k ∷ []) y.number) n (event_at d.since y.number) (and_none (is_dated d y) (is_among (k ∷ []) y.number) (ap (λ (b : Bool). b || false) other))
      ];
    } where
      not_same : {a b : ℕ} → a ≢ b → (a == b) ≡ false
      not_same ne = search rules

  -- one after another
  pub renews_both : (ks ls : List ℕ) (a b c : Dates) → nat_lt 0 n ≡ true → Renews n r ks a b → Renews n r ls b c → Renews n r (ks ++ ls) a c
  renews_both ks ls a b c up s t = record {
    kept = t.kept;
    turned = t.turned ∙ s.turned;
    rows = t.rows ∙ s.rows;
    since = t.since ∙ s.since;
    later = λ k lt. t.later k lt ∙ s.later k lt;
    order = λ o. t.order (s.order o);
    ready = λ i. t.ready i ∙ s.ready i;
    each = λ id x at.
        t.each id x at
        ∙ (two (is_dated a x) (is_dated b x) (is_among ks x.number) (is_among ls x.number) (event_at b.since x.number) (event_at a.since x.number) (s.each id x at) refl refl
        ∙ ap (λ (f : Bool). cond (is_dated a x && f) n (event_at a.since x.number)) (sym (among_append ks ls x.number)));
  } where
    two : (da db f g : Bool) (m e : ℕ) → m ≡ cond (da && f) n e → nat_lt 0 m ≡ db → nat_lt 0 e ≡ da → cond (db && g) n m ≡ cond (da && (f || g)) n e
    two true true true true m e is h k = refl
    two true true true false m e is h k = is
    two true true false true m e is h k = refl
    two true true false false m e is h k = is
    two true false true g m e is h k = absurd (false≢true (sym h ∙ (ap (λ (j : ℕ). nat_lt 0 j) is ∙ up)))
    two true false false g m e is h k = absurd (false≢true (sym h ∙ (ap (λ (j : ℕ). nat_lt 0 j) is ∙ k)))
    two false true f g m e is h k = absurd (false≢true (sym k ∙ (ap (λ (j : ℕ). nat_lt 0 j) (sym is) ∙ h)))
    two false false f g m e is h k = is

  pub renews_more : (ks : List ℕ) (i : ℕ) (a b c : Dates) → nat_lt 0 n ≡ true → i < length ks → Renews n r (take i ks) a b → Renews n r (get_or ks i 0 ∷ []) b c → Renews n r (take (i + 1) ks) a c
  renews_more ks i a b c up lt s t = subst (λ (l : List ℕ). Renews n r l a c) (sym (take_more ks i 0 lt)) (renews_both (take i ks) (get_or ks i 0 ∷ []) a b c up s t)
