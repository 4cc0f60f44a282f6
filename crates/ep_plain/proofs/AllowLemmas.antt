-- What the dates allow of a report is what the machine allows.
use Rattle.std.proofs.Common.{get_or, ◌≡◌, ◌==◌, ◌&&◌, ◌||◌, ◌≤◌, ◌∙◌, ℕ, All, Bool, true, false, IsSome, List, [], ◌∷◌, Option, Some, ap, arith, inl, inr, is_some, length, map, min, nat_le, nat_lt, refl, subst, sym, unwrap_or}
use Rattle.std.specs.List.{list_all}
use Rattle.std.proofs.lemmas.Bool.{cases_Bool}
use Rattle.std.proofs.lemmas.Cmp.{nat_eq_equiv}
use Rattle.std.proofs.lemmas.List.{length-map}
use Rattle.std.proofs.lemmas.List.Elements.{All-cons, All-head, All-map, All-nil, All-tail}
use Rattle.std.proofs.lemmas.Map.Made.{length-le_from_is_member}
use Rattle.ep_facts.proofs.OptionFacts.{value_of}
use Rattle.ep_facts.proofs.BoolFacts.{both_true, or_left, or_right, same_bools, second_of_and}
use Rattle.ep_facts.proofs.NatFacts.{from_le, from_test, le_test, same_test}
use Rattle.ep_base.specs.declared.ids.DescId.{DescId}
use Rattle.ep_base.specs.declared.ids.EntryId.{EntryId}
use Rattle.ep_calls.proofs.EntryKeyLemmas.{id_is}
use Rattle.ep_calls.proofs.EntryLemmas.{number_of, one_under}
use Rattle.ep_calls.specs.Moves.{StandFor}
use Rattle.ep_calls.specs.Parts.{Parts}
use Rattle.ep_calls.specs.Readiness.{readiness}
use Rattle.ep_calls.specs.Stands.{AreLinked, number_at, watch_at}
use Rattle.ep_dates.proofs.RoundLemmas.{as_distinct}
use Rattle.ep_dates.specs.Dates.{Dates, event_at}
use Rattle.ep_dates.specs.Kept.{AreKept}
use Rattle.ep_dates.specs.Pick.{IsPick, IsReportable}
use Rattle.ep_interest.specs.Registrations.{IsSound, Registrations, id_of, number_under as number_of_key}
use Rattle.ep_interest.specs.declared.entry.Entry.{Entry}
use Rattle.ep_law.proofs.GraphLemmas.{member_of_map}
use Rattle.ep_law.proofs.ListLemmas.{all_member, among, among_member, each_found, filtered_member, filtered_passes, find_member, found_member, list_all_member, mapped_member, member_map}
use Rattle.ep_law.proofs.PickLemmas.{distinct_filter, numbers}
use Rattle.ep_law.specs.Laws.{Member}
use Rattle.ep_law.specs.Sound.{Sound}
use Rattle.ep_machine.specs.Lists.{are_distinct, is_among}
use Rattle.ep_machine.specs.Readiness.{is_reportable, reportables}
use Rattle.ep_machine.specs.Report.{find_watch, is_fair_to, is_pick, watches_at}
use Rattle.ep_machine.specs.State.{State, Watch}
use Rattle.ep_order.proofs.PickLemmas.{all_found, list_all_of, sought}
use Rattle.ep_plain.proofs.ChooseLemmas.{scans}
use Rattle.ep_plain.proofs.TakeLemmas.{found_of, numbered_of, reportable_of, some_same}
use Rattle.ep_plain.specs.Choose.{reportables_at}
use Rattle.ep_plain.specs.Exact.{TellsShown}
use Rattle.ep_plain.specs.Since.{IsDated}
use Rattle.ep_rings.specs.KeyWalk.{entry_id as key_of}
use Rattle.ep_rings.specs.PlacedRows.{keys_at}
use Rattle.ep_table.specs.Value.{Sound as SoundTables, number_under}
use Rattle.ep_view.proofs.KernelViewLemmas.{readiness as machine_readiness, reportable_kept}
use Rattle.ep_view.specs.KernelView.{KernelWatch, kernel_watch, kernel_watches, ready_now, shows}

pub all_below : (P : KernelWatch → Type 0) (f : Entry → KernelWatch) (xs : List Entry) → All P (map f xs) → All (λ x. P (f x)) xs
all_below P f [] h = All-nil (λ x. P (f x))
all_below P f (x ∷ xs) h = All-cons (λ y. P (f y)) x xs (All-head P (f x) (map f xs) h) (all_below P f xs (All-tail P (f x) (map f xs) h))

-- the dates at the end of an event tell which registrations are reportable
pub dated_shown : (p : Parts) (d : Dates) (s : State) → StandFor p s → IsDated s d.since → TellsShown p d
dated_shown p d s stands dated =
    let ready = readiness p.tables p.clock p.interest in
    let same_ready : machine_readiness s ≡ ready = λ i. ready_now (stands.files i) (stands.now i) (stands.watches i) in
    let P : KernelWatch → Type 0 = λ w. nat_lt 0 (event_at d.since w.number) ≡ shows ready p.tables.files p.clock w in
    let of_machine : All (λ x. P (kernel_watch s x)) s.watches = λ i e lt. dated.shown i e lt ∙ (reportable_kept s (get_or s.watches i e) ∙ λ j. shows (same_ready j) (stands.files j) (stands.now j) (kernel_watch s (get_or s.watches i e))) in
    all_below P (watch_at p.tables.keys) p.interest.entries (subst (λ (xs : List KernelWatch). All P xs) stands.watches (All-map P (kernel_watch s) s.watches of_machine))

-- lists that are the same once each is mapped have members that are
alike : {X Y Z : Type 0} (f : X → Z) (g : Y → Z) (xs : List X) (ys : List Y) → map f xs ≡ map g ys → (x : X) → Member x xs → (y : Y) × Member y ys × (g y ≡ f x)
alike {X} {Y} {Z} f g xs ys e x m = member_of_map g ys (f x) (subst (λ (zs : List Z). Member (f x) zs) e (member_map f x xs m))

-- A report at an instance, by the dates and by the machine.
module _ (p : Parts) (d : Dates) (s : State) (instance : DescId) (steady : Sound s) (stands : StandFor p s) (dated : IsDated s d.since) (linked : AreLinked p.tables p.interest) (tables : SoundTables p.tables) (lives : IsSome (number_under p.tables instance)) (sound : IsSound p.interest) (kept : AreKept p.interest d) where
  abbrev r : Registrations
  r = p.interest

  abbrev keys : List (Option ℕ)
  keys = p.tables.keys

  abbrev in_machine : Watch → Bool
  in_machine x = x.instance == number_at keys instance && is_reportable s x

  abbrev ready : List Watch
  ready = reportables s (number_at keys instance)

  abbrev found : List Entry
  found = reportables_at p.tables p.clock r instance

  abbrev row : List ℕ
  row = keys_at d.rows instance.0

  abbrev Is : ℕ → EntryId → Entry → Type 0
  Is k id y = IsReportable r d instance.0 k id y

  shown : TellsShown p d
  shown = dated_shown p d s stands dated

  same : kernel_watches s ready ≡ map (watch_at keys) found
  same = scans p.tables p.clock r s instance stands linked tables lives

  entry_of : (x : Watch) → Member x ready → (y : Entry) × Member y found × (watch_at keys y ≡ kernel_watch s x)
  entry_of = alike (kernel_watch s) (watch_at keys) ready found same

  watch_of : (y : Entry) → Member y found → (x : Watch) × Member x ready × (kernel_watch s x ≡ watch_at keys y)
  watch_of = alike (watch_at keys) (kernel_watch s) found ready (sym same)

  -- one of the machine is reportable by the dates
  record HasEntry (x : Watch) : Type 0 where
    id : EntryId
    entry : Entry
    it : Is x.number id entry
    rep : entry.reported_in ≡ x.rep
    from : event_at d.since entry.number ≡ x.from

  has_entry : (x : Watch) → Member x ready → HasEntry x
  has_entry x m =
      let y = entry_of x m in
      let key = reportable_of p d instance sound shown y.0 y.1 in
      let number : y.0.number ≡ x.number = ap (λ (w : KernelWatch). w.number) y.2 in
      let own = filtered_member in_machine s.watches x m in
      let since = all_member (λ z. is_reportable s z ≡ true → event_at d.since z.number ≡ z.from) s.watches x dated.from own (second_of_and (x.instance == number_at keys instance) (is_reportable s x) (filtered_passes in_machine s.watches x m)) in
      record {
        id = key.0;
        entry = y.0;
        it = subst (λ (k : ℕ). Is k key.0 y.0) number key.1;
        rep = ap (λ (w : KernelWatch). w.reported_in) y.2;
        from = ap (event_at d.since) number ∙ since;
      }

  -- as many are reportable as stand in the row
  abbrev number_in_row : ℕ → ℕ
  number_in_row k = unwrap_or (number_of_key r (key_of k)) 0

  in_row : (k : ℕ) (id : EntryId) (y : Entry) → Is k id y → is_among row id.0 ≡ true
  in_row k id y it = ap (λ (i : ℕ). is_among (keys_at d.rows i) id.0) (sym it.instance) ∙ (kept.listed id y it.under ∙ it.dated)

  of_row : (k : ℕ) → is_among row k ≡ true → (y : Entry) × Is y.number (key_of k) y
  of_row k on =
      let only = kept.only instance.0 k on in
      (only.0, record { under = only.1; number = refl; instance = only.2; dated = sym (kept.listed (key_of k) only.0 only.1) ∙ (ap (λ (i : ℕ). is_among (keys_at d.rows i) k) only.2 ∙ on) })

  row_le : are_distinct row ≡ true → length row ≤ length ready
  row_le once =
      let own : Entry → ℕ = λ y. (id_of r y.number).0 in
      let le = length-le_from_is_member nat_eq_equiv row (map own found) (as_distinct row once) (λ k on.
      let y = of_row k on in
      let key : own y.0 ≡ k = ap (λ (id : EntryId). id.0) (id_is r sound (key_of k) y.0.number (number_of r (key_of k) y.0 y.1.under)) in
      among k (map own found) (subst (λ (j : ℕ). Member j (map own found)) key (member_map own y.0 found (found_of p d instance sound shown y.0.number (key_of k) y.0 y.1)))) in
      omega (arith, le, length-map found own, ap length same, length-map ready (kernel_watch s), length-map found (watch_at keys))

  ready_le : length ready ≤ length row
  ready_le =
      let le = length-le_from_is_member nat_eq_equiv (numbers ready) (map number_in_row row) (distinct_filter in_machine s.watches steady.numbers) (λ k on.
      let x = mapped_member (λ w. w.number) ready k (among_member (numbers ready) k on) in
      let y = has_entry x.0 x.1 in
      let key : number_in_row y.id.0 ≡ k = ap (λ (o : Option ℕ). unwrap_or o 0) (number_of r y.id y.entry y.it.under) ∙ (y.it.number ∙ x.2) in
      among k (map number_in_row row) (subst (λ (j : ℕ). Member j (map number_in_row row)) key (member_map number_in_row y.id.0 row (among_member row y.id.0 (in_row x.0.number y.id y.entry y.it))))) in
      omega (arith, le, length-map ready (λ (w : Watch). w.number), length-map row number_in_row)

  as_many : are_distinct row ≡ true → length ready ≡ length row
  as_many once = let a = row_le once in let b = ready_le in omega (arith, a, b)

  module _ (once : are_distinct row ≡ true) (most : ℕ) (ks : List ℕ) where
    abbrev told : List Watch
    told = watches_at ready ks

    machine_allows : IsPick r d instance.0 most ks → is_pick s (number_at keys instance) most ks ≡ true
    machine_allows pick =
        let each : (k : ℕ) → Member k ks → is_some (find_watch ready k) ≡ true = λ k m.
        let it = pick.each k (among k ks m) in
        sym (some_same p.tables p.clock r s instance stands linked tables lives k) ∙ ap (λ (o : Option Entry). is_some o) (numbered_of p d instance sound shown k it.0 it.1 it.2) in
        let long = same_test (length told) (length ks) (all_found (find_watch ready) ks each) in
        let many = same_test (length ks) (min most (length ready)) (pick.many ∙ ap (min most) (sym (as_many once))) in
        let fair : list_all (is_fair_to told ks) ready ≡ true = list_all_of (is_fair_to told ks) ready (λ x m. elim (cases_Bool (is_among ks x.number)) [
          | inl inside ↦ or_left (is_among ks x.number) (list_all (λ z. nat_le z.rep x.from) told) inside
          | inr outside ↦ or_right (is_among ks x.number) (list_all (λ z. nat_le z.rep x.from) told) (list_all_of (λ z. nat_le z.rep x.from) told (λ z n.
              let k = sought (find_watch ready) ks z n in
              let w = find_member ready k.0 z k.2 in
              let y = has_entry x m in
              let v = has_entry z w.0 in
              let inside = subst (λ (j : ℕ). is_among ks j ≡ true) (sym (v.it.number ∙ w.1)) (among k.0 ks k.1) in
              let le = pick.fair y.id v.id y.entry v.entry (subst (λ (j : ℕ). Is j y.id y.entry) (sym y.it.number) y.it) (ap (is_among ks) y.it.number ∙ outside) v.it.under inside in
              le_test z.rep x.from (omega (arith, le, v.rep, y.from))))
        ]) in
        λ i. pick.distinct i && long i && many i && fair i

    dates_allow : is_pick s (number_at keys instance) most ks ≡ true → IsPick r d instance.0 most ks
    dates_allow pick =
        let three = both_true (are_distinct ks && length told == length ks && length ks == min most (length ready)) (list_all (is_fair_to told ks) ready) pick in
        let two = both_true (are_distinct ks && length told == length ks) (length ks == min most (length ready)) three.0 in
        let one = both_true (are_distinct ks) (length told == length ks) two.0 in
        let long = from_test (length told) (length ks) one.1 in
        let at : (k : ℕ) → is_among ks k ≡ true → (z : Watch) × (find_watch ready k ≡ Some z) = λ k on. value_of (find_watch ready k) (each_found (find_watch ready) ks k long (among_member ks k on)) in
        let entry : (k : ℕ) (z : Watch) → find_watch ready k ≡ Some z → HasEntry z = λ k z is. has_entry z (find_member ready k z is).0 in
        record {
          distinct = one.0;
          each = λ k on.
              let z = at k on in
              let y = entry k z.0 z.1 in
              (y.id, y.entry, subst (λ (j : ℕ). Is j y.id y.entry) (find_member ready k z.0 z.1).1 y.it);
          many = from_test (length ks) (min most (length ready)) two.1 ∙ ap (min most) (as_many once);
          fair = λ i j x y it outside under inside.
              let w = watch_of x (found_of p d instance sound shown x.number i x it) in
              let v = has_entry w.0 w.1 in
              let number : w.0.number ≡ x.number = ap (λ (k : KernelWatch). k.number) w.2 in
              let own : v.entry ≡ x = (one_under r sound v.id i v.entry x v.it.under it.under (v.it.number ∙ number)).1 in
              let z = at y.number inside in
              let u = entry y.number z.0 z.1 in
              let other : u.entry ≡ y = (one_under r sound u.id j u.entry y u.it.under under (u.it.number ∙ (find_member ready y.number z.0 z.1).1)).1 in
              let fair = list_all_member (is_fair_to told ks) ready w.0 three.1 w.1 in
              let out : is_among ks w.0.number ≡ false = ap (is_among ks) number ∙ outside in
              let late = list_all_member (λ k. nat_le k.rep w.0.from) told z.0 (sym (ap (λ (b : Bool). b || list_all (λ k. nat_le k.rep w.0.from) told) out) ∙ fair) (found_member (find_watch ready) ks y.number z.0 (among_member ks y.number inside) z.1) in
              let le = from_le z.0.rep w.0.from late in
              omega (arith, le, u.rep, v.from, ap (λ (k : Entry). k.reported_in) other, ap (λ (k : Entry). event_at d.since k.number) own);
        }

    -- what says exactly what the dates allow, says what the machine does
    pub allowed : (b : Bool) → (b ≡ true → IsPick r d instance.0 most ks) → (IsPick r d instance.0 most ks → b ≡ true) → b ≡ is_pick s (number_at keys instance) most ks
    allowed b forth back = same_bools b (is_pick s (number_at keys instance) most ks) (λ t. machine_allows (forth t)) (λ t. back (dates_allow t))
