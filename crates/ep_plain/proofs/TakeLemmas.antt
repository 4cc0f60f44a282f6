-- The registrations with given numbers.
use Rattle.std.proofs.Common.{false, ◌≡◌, ◌==◌, ◌&&◌, ◌<◌, ◌++◌, ◌+◌, ◌∙◌, ℕ, Bool, true, IsSome, List, [], ◌∷◌, None, Option, Some, ap, append_assoc, cond, drop, filter, get_or, inl, inr, is_some, length, map, min, nat_lt, refl, subst, sym}
use Rattle.std.specs.List.{cons_option, filter_map, list_all}
use Rattle.std.proofs.lemmas.Bool.{cases_Bool, false≢true}
use Rattle.std.proofs.lemmas.List.{drop_more}
use Rattle.std.proofs.lemmas.Option.{none-some}
use Rattle.ep_facts.proofs.NatFacts.{from_test, same_test}
use Rattle.ep_facts.proofs.BoolFacts.{both_true}
use Rattle.ep_facts.proofs.OptionFacts.{some_mapped, some_same as some_one}
use Rattle.ep_base.specs.declared.ids.DescId.{DescId}
use Rattle.ep_base.specs.declared.ids.EntryId.{EntryId}
use Rattle.ep_calls.proofs.EntryLemmas.{key_of, member_of, one_member}
use Rattle.ep_calls.proofs.ReportLemmas.{find_at, find_kept}
use Rattle.ep_calls.specs.Parts.{Parts}
use Rattle.ep_calls.specs.Readiness.{entry_shows, readiness}
use Rattle.ep_calls.specs.Stands.{AreLinked, Stands, number_at, watch_at}
use Rattle.ep_calls.specs.Wait.{numbers_of}
use Rattle.ep_calls.specs.declared.wait.Reportable.{Reportable}
use Rattle.ep_dates.specs.Dates.{Dates, event_at, id_at, is_dated}
use Rattle.ep_dates.specs.Kept.{AreKept}
use Rattle.ep_dates.specs.Pick.{IsReportable}
use Rattle.ep_interest.proofs.PurgeLemmas.{numbered_number}
use Rattle.ep_interest.specs.Registrations.{IsSound, Registrations, entry_under, is_of, numbered}
use Rattle.ep_interest.specs.declared.entry.Entry.{Entry}
use Rattle.ep_law.proofs.ListLemmas.{all_member, each_found, filtered_member, filtered_passes, member_filter}
use Rattle.ep_law.specs.Laws.{Member}
use Rattle.ep_machine.specs.Lists.{are_distinct}
use Rattle.ep_machine.specs.Readiness.{reportables}
use Rattle.ep_machine.specs.Report.{find_watch, is_fair_to, is_pick, watches_at}
use Rattle.ep_machine.specs.State.{State, Waiter}
use Rattle.ep_plain.proofs.ChooseLemmas.{scans}
use Rattle.ep_plain.specs.Choose.{reportables_at}
use Rattle.ep_plain.specs.Exact.{TellsShown}
use Rattle.ep_table.specs.Value.{Seen, Sound as SoundTables, number_under}
use Rattle.ep_view.specs.KernelView.{KernelWatch, kernel_watch, view_of}

-- what is found by its number is there
numbered_member : (xs : List Entry) (k : ℕ) (y : Entry) → numbered xs k ≡ Some y → Member y xs
numbered_member [] k y h = absurd (none-some y h)
numbered_member (x ∷ xs) k y h = elim (cases_Bool (x.number == k)) [
  | inl t ↦ inl (some_one y x (sym h ∙ ap (λ (b : Bool). cond b (Some x) (numbered xs k)) t))
  | inr f ↦ inr (numbered_member xs k y (sym (ap (λ (b : Bool). cond b (Some x) (numbered xs k)) f) ∙ h))
]

-- and what is there is found, if no other has its number
member_numbered : (xs : List Entry) (y : Entry) → ((x : Entry) → Member x xs → x.number ≡ y.number → x ≡ y) → Member y xs → numbered xs y.number ≡ Some y
member_numbered [] y one m = absurd m
member_numbered (x ∷ xs) y one m = elim (cases_Bool (x.number == y.number)) [
  | inl t ↦ ap (λ (b : Bool). cond b (Some x) (numbered xs y.number)) t ∙ ap (λ (z : Entry). Some z) (one x (inl refl) (from_test x.number y.number t))
  | inr f ↦
      let later : Member y xs = elim m [ inl e ↦ absurd (false≢true (sym f ∙ same_test x.number y.number (ap (λ (z : Entry). z.number) (sym e)))) | inr n ↦ n ] in
      ap (λ (b : Bool). cond b (Some x) (numbered xs y.number)) f ∙ member_numbered xs y (λ z n. one z (inr n)) later
]

-- what is reportable at an instance has a date, and is found by its number
module _ (p : Parts) (d : Dates) (instance : DescId) (sound : IsSound p.interest) (shown : TellsShown p d) where
  abbrev shows : Entry → Bool
  shows = entry_shows (readiness p.tables p.clock p.interest) p.tables p.clock

  abbrev own : List Entry
  own = filter (is_of instance) p.interest.entries

  abbrev found : List Entry
  found = reportables_at p.tables p.clock p.interest instance

  there : (y : Entry) → Member y found → Member y p.interest.entries
  there y m = filtered_member (is_of instance) p.interest.entries y (filtered_member shows own y m)

  date_shows : (y : Entry) → Member y p.interest.entries → is_dated d y ≡ shows y
  date_shows y m = all_member (λ x. is_dated d x ≡ shows x) p.interest.entries y shown m

  pub reportable_of : (y : Entry) → Member y found → (id : EntryId) × IsReportable p.interest d instance.0 y.number id y
  reportable_of y m =
      let key = key_of p.interest sound y (there y m) in (
        key.0,
        record {
          under = key.1;
          number = refl;
          instance = from_test y.instance.0 instance.0 (filtered_passes (is_of instance) p.interest.entries y (filtered_member shows own y m));
          dated = date_shows y (there y m) ∙ filtered_passes shows own y m;
        },
      )

  pub found_of : (k : ℕ) (id : EntryId) (y : Entry) → IsReportable p.interest d instance.0 k id y → Member y found
  found_of k id y it =
      let m = member_of p.interest id y it.under in
      member_filter shows y own (member_filter (is_of instance) y p.interest.entries m (same_test y.instance.0 instance.0 it.instance)) (sym (date_shows y m) ∙ it.dated)

  pub numbered_of : (k : ℕ) (id : EntryId) (y : Entry) → IsReportable p.interest d instance.0 k id y → numbered found k ≡ Some y
  numbered_of k id y it =
      let m = found_of k id y it in
      ap (numbered found) (sym it.number) ∙ member_numbered found y (λ x n e. one_member p.interest sound x y (there x n) (there y m) e) m

  -- by the key that is kept at a number
  module _ (kept : AreKept p.interest d) (k : ℕ) where
    under_kept : (y : Entry) → numbered found k ≡ Some y → IsReportable p.interest d instance.0 k (id_at d.ids k) y
    under_kept y is =
        let it = reportable_of y (numbered_member found k y is) in
        subst (λ (n : ℕ). IsReportable p.interest d instance.0 n (id_at d.ids n) y) (numbered_number found k y is)
        (subst (λ (id : EntryId). IsReportable p.interest d instance.0 y.number id y) (sym (kept.ids it.0 y it.1.under it.1.dated)) it.1)

    none_numbered : ((y : Entry) → IsReportable p.interest d instance.0 k (id_at d.ids k) y → ⊥) → None ≡ numbered found k
    none_numbered h = by (numbered found k) refl where
      by : (o : Option Entry) → numbered found k ≡ o → None ≡ o
      by None e = refl
      by (Some y) e = absurd (h y (under_kept y e))

    pub undated_none : nat_lt 0 (event_at d.since k) ≡ false → None ≡ numbered found k
    undated_none h = none_numbered (λ y it. false≢true (sym (ap (λ (n : ℕ). nat_lt 0 (event_at d.since n)) it.number ∙ h) ∙ it.dated))

    pub absent_none : entry_under p.interest (id_at d.ids k) ≡ None → None ≡ numbered found k
    absent_none h = none_numbered (λ y it. none-some y (sym h ∙ it.under))

    pub other_none : (x : Entry) → entry_under p.interest (id_at d.ids k) ≡ Some x → (x.number ≡ k → x.instance.0 ≡ instance.0 → ⊥) → None ≡ numbered found k
    other_none x at h = none_numbered (λ y it. let e : y ≡ x = some_one y x (sym it.under ∙ at) in h (ap (λ (z : Entry). z.number) (sym e) ∙ it.number) (ap (λ (z : Entry). z.instance.0) (sym e) ∙ it.instance))

    pub some_numbered : (x : Entry) → entry_under p.interest (id_at d.ids k) ≡ Some x → x.number ≡ k → x.instance.0 ≡ instance.0 → nat_lt 0 (event_at d.since k) ≡ true → Some x ≡ numbered found k
    some_numbered x at number of after =
        sym (numbered_of k (id_at d.ids k) x (record { under = at; number = number; instance = of; dated = ap (λ (n : ℕ). nat_lt 0 (event_at d.since n)) number ∙ after }))

-- one number more, of which nothing is found, or one
module _ (f : ℕ → Option Entry) (done : List Entry) (ks : List ℕ) (i : ℕ) (lt : i < length ks) (told : done ++ filter_map f (drop i ks) ≡ filter_map f ks) where
  next : (o : Option Entry) → f (get_or ks i 0) ≡ o → done ++ cons_option o (filter_map f (drop (i + 1) ks)) ≡ filter_map f ks
  next o h = ap (λ (q : Option Entry). done ++ cons_option q (filter_map f (drop (i + 1) ks))) (sym h) ∙ (ap (λ (l : List ℕ). done ++ filter_map f l) (sym (drop_more ks i 0 lt)) ∙ told)

  pub taken_none : None ≡ f (get_or ks i 0) → done ++ filter_map f (drop (i + 1) ks) ≡ filter_map f ks
  taken_none h = next None (sym h)

  pub taken_more : (x : Entry) → Some x ≡ f (get_or ks i 0) → (done ++ x ∷ []) ++ filter_map f (drop (i + 1) ks) ≡ filter_map f ks
  taken_more x h = append_assoc done (x ∷ []) (filter_map f (drop (i + 1) ks)) ∙ next (Some x) (sym h)

-- where each is there, their numbers are those that were asked for
all_numbers : (xs : List Entry) (ks : List ℕ) → ((k : ℕ) → Member k ks → is_some (numbered xs k) ≡ true) → map (λ x. x.number) (filter_map (numbered xs) ks) ≡ ks
all_numbers xs [] h = refl
all_numbers xs (k ∷ ks) h = one (numbered xs k) refl (h k (inl refl)) (all_numbers xs ks (λ j m. h j (inr m))) where
  one : (o : Option Entry) → numbered xs k ≡ o → is_some o ≡ true → map (λ x. x.number) (filter_map (numbered xs) ks) ≡ ks → map (λ x. x.number) (cons_option o (filter_map (numbered xs) ks)) ≡ k ∷ ks
  one None is some rest = absurd (false≢true some)
  one (Some y) is some rest = let here = numbered_number xs k y is in λ i. here i ∷ rest i

abbrev entries : List Reportable → List Entry
entries xs = map (λ x. x.entry) xs

numbers_in : (xs : List Reportable) → numbers_of xs ≡ map (λ x. x.number) (entries xs)
numbers_in [] = refl
numbers_in (x ∷ xs) = ap (λ (ks : List ℕ). x.entry.number ∷ ks) (numbers_in xs)

module _ {ws : List Waiter} (v : Seen) (now : ℕ) (r : Registrations) (s : State) (instance : DescId) (stands : Stands v r ws now s) (linked : AreLinked v r) (sound : SoundTables v) (lives : IsSome (number_under v instance)) where
  -- a number is found among what the kernel has if it is among what the machine has
  pub some_same : (k : ℕ) → is_some (numbered (reportables_at v now r instance) k) ≡ is_some (find_watch (reportables s (number_at v.keys instance)) k)
  some_same k =
      let found = reportables_at v now r instance in
      let ready = reportables s (number_at v.keys instance) in
      sym (sym (some_mapped (kernel_watch s) (find_watch ready k)) ∙ (ap (λ (o : Option KernelWatch). is_some o) (sym (find_kept s ready k)) ∙ (ap (λ (xs : List KernelWatch). is_some (view_of xs k)) (scans v now r s instance stands linked sound lives)
      ∙ (ap (λ (o : Option KernelWatch). is_some o) (find_at v.keys found k) ∙ some_mapped (watch_at v.keys) (numbered found k)))))

  -- where the machine may pick these, they are what is taken
  pub taken_numbers : (most : ℕ) (chosen : List Reportable) (ks : List ℕ) → is_pick s (number_at v.keys instance) most ks ≡ true → entries chosen ≡ filter_map (numbered (reportables_at v now r instance)) ks → numbers_of chosen ≡ ks
  taken_numbers most chosen ks pick taken =
      let found = reportables_at v now r instance in
      let ready = reportables s (number_at v.keys instance) in
      let told = watches_at ready ks in
      let three = both_true (are_distinct ks && length told == length ks && length ks == min most (length ready)) (list_all (is_fair_to told ks) ready) pick in
      let two = both_true (are_distinct ks && length told == length ks) (length ks == min most (length ready)) three.0 in
      let long = from_test (length told) (length ks) (both_true (are_distinct ks) (length told == length ks) two.0).1 in
      let each : (k : ℕ) → Member k ks → is_some (numbered found k) ≡ true = λ k m. some_same k ∙ each_found (find_watch ready) ks k long m in
      numbers_in chosen ∙ (ap (λ (xs : List Entry). map (λ x. x.number) xs) taken ∙ all_numbers found ks each)
