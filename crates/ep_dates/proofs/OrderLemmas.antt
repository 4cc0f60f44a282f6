-- Dates along a row go on not to sink.
use Rattle.std.proofs.Common.{◌≡◌, ◌≢◌, ◌≤◌, ◌==◌, ◌∙◌, ◌++◌, ◌⊎◌, ℕ, Bool, true, false, cond, filter, map, not, List, [], ◌∷◌, None, Option, Some, ap, arith, inl, inr, refl, subst, sym}
use Rattle.std.proofs.lemmas.Bool.{cases_Bool, cases_eq, false≢true}
use Rattle.std.specs.List.{AllByRecursion}
use Rattle.ep_facts.proofs.NatFacts.{same_test}
use Rattle.ep_facts.proofs.BoolFacts.{or_left, or_right}
use Rattle.ep_facts.proofs.AmongFacts.{among_push_other, map_same}
use Rattle.ep_base.specs.declared.ids.EntryId.{EntryId}
use Rattle.ep_dates.proofs.KeptLemmas.{AreOne, Changes, apart_one, event_else, event_here, only_home}
use Rattle.ep_dates.proofs.RowLemmas.{row_else, row_here}
use Rattle.ep_dates.specs.Dates.{Dates, ended}
use Rattle.ep_dates.specs.Kept.{AreKept}
use Rattle.ep_dates.specs.Order.{AreInTurn, Rise, date_found, date_under}
use Rattle.ep_interest.specs.Registrations.{Registrations, entry_under}
use Rattle.ep_interest.specs.declared.entry.Entry.{Entry}
use Rattle.ep_machine.specs.Lists.{is_among}
use Rattle.ep_rings.proofs.AmongLemmas.{among_gone, among_left, filter_gone}
use Rattle.ep_rings.specs.KeyWalk.{entry_id as key_of}
use Rattle.ep_rings.specs.PlacedRows.{keys_at}

-- What is left of a list that rises.
all_left : (m : ℕ) (f : ℕ → ℕ) (p : ℕ → Bool) (xs : List ℕ) → AllByRecursion (λ e. m ≤ e) (map f xs) → AllByRecursion (λ e. m ≤ e) (map f (filter p xs))
all_left m f p [] h = tt
all_left m f p (x ∷ xs) h = elim (p x) as (λ b. AllByRecursion (λ e. m ≤ e) (map f (cond b (x ∷ filter p xs) (filter p xs)))) [ true ↦ (h.0, all_left m f p xs h.1) | false ↦ all_left m f p xs h.1 ]

pub rise_left : (f : ℕ → ℕ) (p : ℕ → Bool) (xs : List ℕ) → Rise (map f xs) → Rise (map f (filter p xs))
rise_left f p [] h = tt
rise_left f p (x ∷ xs) h = elim (p x) as (λ b. Rise (map f (cond b (x ∷ filter p xs) (filter p xs)))) [ true ↦ (all_left (f x) f p xs h.0, rise_left f p xs h.1) | false ↦ rise_left f p xs h.1 ]

-- and with one more, which none is above
all_end : (m n : ℕ) (es : List ℕ) → m ≤ n → AllByRecursion (λ e. m ≤ e) es → AllByRecursion (λ e. m ≤ e) (es ++ n ∷ [])
all_end m n [] le h = (le, tt)
all_end m n (e ∷ es) le h = (h.0, all_end m n es le h.1)

pub rise_end : (n : ℕ) (es : List ℕ) → AllByRecursion (λ e. e ≤ n) es → Rise es → Rise (es ++ n ∷ [])
rise_end n [] below h = (tt, tt)
rise_end n (e ∷ es) below h = (all_end e n es below.0 h.0, rise_end n es below.1 h.1)

map_end : (f : ℕ → ℕ) (xs : List ℕ) (k : ℕ) → map f (xs ++ k ∷ []) ≡ map f xs ++ f k ∷ []
map_end f [] k = refl
map_end f (x ∷ xs) k = ap (λ (l : List ℕ). f x ∷ l) (map_end f xs k)

all_below : (n : ℕ) (f : ℕ → ℕ) (xs : List ℕ) → ((k : ℕ) → is_among xs k ≡ true → f k ≤ n) → AllByRecursion (λ e. e ≤ n) (map f xs)
all_below n f [] h = tt
all_below n f (x ∷ xs) h = (h x (or_left (x == x) (is_among xs x) (same_test x x refl)), all_below n f xs (λ k t. h k (or_right (k == x) (is_among xs k) t)))

-- A registration has another date, and its key leaves its row, or stands at the end.
module _ (n : ℕ) (r : Registrations) (one : AreOne r) (d : Dates) (kept : AreKept r d) (order : AreInTurn n r d) (id : EntryId) (x : Entry) (is : entry_under r id ≡ Some x) (event : ℕ) (new : Dates) (c : Changes d id x event new) where
  abbrev others : ℕ → List ℕ
  others i = filter (λ y. not (y == id.0)) (keys_at d.rows i)

  -- any other date is what it was
  date_else : (k : ℕ) → k ≢ id.0 → date_under r new k ≡ date_under r d k
  date_else k ne = by (entry_under r (key_of k)) refl where
    by : (o : Option Entry) → entry_under r (key_of k) ≡ o → date_found new o ≡ date_found d o
    by None e = refl
    by (Some y) e = event_else r one d kept id x is event new c y.number (apart_one r one d kept id x is event new c (key_of k) y e ne)

  date_here : date_under r new id.0 ≡ event
  date_here = ap (date_found new) is ∙ event_here r one d kept id x is event new c

  not_it : (i k : ℕ) → is_among (others i) k ≡ true → k ≢ id.0
  not_it i k t e = false≢true (sym (among_gone (keys_at d.rows i) id.0) ∙ (ap (is_among (others i)) (sym e) ∙ t))

  others_same : (i : ℕ) → map (date_under r new) (others i) ≡ map (date_under r d) (others i)
  others_same i = map_same (date_under r new) (date_under r d) (others i) (λ k t. date_else k (not_it i k t))

  others_rise : (i : ℕ) → Rise (map (date_under r new) (others i))
  others_rise i = subst Rise (sym (others_same i)) (rise_left (date_under r d) (λ y. not (y == id.0)) (keys_at d.rows i) (order.rise i))

  others_past : (i k : ℕ) → is_among (others i) k ≡ true → date_under r new k ≤ n
  others_past i k t =
      let ne = not_it i k t in
      let there : is_among (keys_at d.rows i) k ≡ true = sym (among_left (keys_at d.rows i) id.0 k ne) ∙ t in
      subst (λ (e : ℕ). e ≤ n) (sym (date_else k ne)) (order.past i k there)

  module _ (rows : (i : ℕ) → (keys_at new.rows i ≡ others i) ⊎ ((keys_at new.rows i ≡ others i ++ id.0 ∷ []) × (event ≡ n))) where
    rise_at : (i : ℕ) → Rise (map (date_under r new) (keys_at new.rows i))
    rise_at i = elim (rows i) [
      | inl e ↦ subst (λ (l : List ℕ). Rise (map (date_under r new) l)) (sym e) (others_rise i)
      | inr more ↦
          subst (λ (l : List ℕ). Rise (map (date_under r new) l)) (sym more.0)
          (subst Rise (sym (map_end (date_under r new) (others i) id.0))
          (subst (λ (e : ℕ). Rise (map (date_under r new) (others i) ++ e ∷ [])) (sym (date_here ∙ more.1))
          (rise_end n (map (date_under r new) (others i)) (all_below n (date_under r new) (others i) (others_past i)) (others_rise i))))
    ]

    past_at : (i k : ℕ) → is_among (keys_at new.rows i) k ≡ true → date_under r new k ≤ n
    past_at i k t = elim (rows i) [
      | inl e ↦ others_past i k (ap (λ (l : List ℕ). is_among l k) (sym e) ∙ t)
      | inr more ↦ elim (cases_eq k id.0) [
        | inl e ↦ let at : date_under r new k ≡ n = ap (date_under r new) e ∙ (date_here ∙ more.1) in omega (arith, at)
        | inr ne ↦ others_past i k (sym (among_push_other (others i) id.0 k ne) ∙ (ap (λ (l : List ℕ). is_among l k) (sym more.0) ∙ t))
      ]
    ]

    pub order_changed : AreInTurn n r new
    order_changed = record { rise = rise_at; past = past_at }

-- The rows once a registration is dated no more.
module _ (r : Registrations) (d : Dates) (kept : AreKept r d) (id : EntryId) (x : Entry) (is : entry_under r id ≡ Some x) where
  abbrev pub left : ℕ → List ℕ
  left j = filter (λ y. not (y == id.0)) (keys_at d.rows j)

  -- in another row its key doesn't stand
  pub elsewhere : (j : ℕ) → j ≢ x.instance.0 → keys_at d.rows j ≡ left j
  elsewhere j ne = sym (filter_gone (keys_at d.rows j) id.0 (elim (cases_Bool (is_among (keys_at d.rows j) id.0)) [ inl t ↦ absurd (ne (only_home r d kept id x is j t)) | inr f ↦ f ]))

  pub ended_rows : (j : ℕ) → keys_at (ended id x d).rows j ≡ left j
  ended_rows j = elim (cases_eq j x.instance.0) [
    | inl e ↦ ap (λ (i : ℕ). keys_at (ended id x d).rows i) e ∙ (row_here d.rows x.instance.0 (left x.instance.0) (kept.places id x is).row ∙ ap left (sym e))
    | inr ne ↦ row_else d.rows x.instance.0 j (left x.instance.0) ne ∙ elsewhere j ne
  ]
