-- What the kernel that scans chooses the machine may pick.
use Rattle.std.proofs.Common.{set, get_or, ◌≡◌, ◌==◌, ◌&&◌, ◌<◌, ℕ, pos, Bool, false, true, List, [], ◌∷◌, Option, Some, IsSome, All, cond, filter, length, map, nat_lt, take, refl, ap, sym, ◌∙◌, arith, subst, zero, suc}
use Rattle.std.specs.List.Sorted.{IsNonDecreasingBy, IsPermutation}
use Rattle.std.proofs.lemmas.List.{get_or-map, length-map, take-map}
use Rattle.std.proofs.lemmas.List.Elements.{All-head, All-tail}
use Rattle.std.proofs.lemmas.List.Sorted.{IsPermutation-map}
use Rattle.ep_machine.specs.Readiness.{reportables}
use Rattle.ep_base.specs.declared.ids.DescId.{DescId}
use Rattle.ep_base.specs.declared.ids.EntryId.{EntryId}
use Rattle.ep_interest.specs.Registrations.{Registrations, is_of, numbered}
use Rattle.ep_interest.specs.declared.entry.Entry.{Entry}
use Rattle.ep_view.specs.KernelView.{KernelWatch, kernel_watches, kernel_watch, ready_now, shows_in}
use Rattle.ep_machine.specs.Report.{is_pick}
use Rattle.ep_law.specs.Sound.{Sound}
use Rattle.ep_machine.specs.State.{State, Waiter, Watch}
use Rattle.ep_law.proofs.PickLemmas.{numbers, pick_sorted}
use Rattle.ep_view.proofs.KernelViewLemmas.{readiness as machine_readiness, reportables_kept}
use Rattle.ep_calls.specs.Stands.{AreLinked, IsLinked, Stands, number_at, watch_at}
use Rattle.ep_calls.specs.Readiness.{entry_shows, readiness}
use Rattle.ep_calls.specs.Wait.{IsPick, numbers_of}
use Rattle.ep_calls.specs.Parts.{Parts}
use Rattle.ep_dates.specs.Dates.{Dates, event_at}
use Rattle.ep_plain.specs.Choose.{IsChosen}
use Rattle.ep_plain.specs.Exact.{TellsShown}
use Rattle.ep_calls.specs.declared.wait.Reportable.{Reportable}
use Rattle.ep_calls.proofs.KeyLemmas.{same_keys}
use Rattle.ep_calls.proofs.AdditionLemmas.{found_passes}
use Rattle.ep_plain.proofs.CollectLemmas.{Collects, entries_in, entries_of}
use Rattle.ep_table.specs.Value.{Seen, Sound as SoundTables, number_under}
use Rattle.std.specs.List.{swap}
use Rattle.std.specs.List.Sorted.{SwapsInRange, apply_swaps}
use Rattle.std.proofs.lemmas.List.{map-set}
use Rattle.std.proofs.Math.ListN.{get_or-map as get_map}

-- what the machine scans is what the interest set gives
module _ (ready : ℕ → Bool) (v : Seen) (now : ℕ) (instance : DescId) (sound : SoundTables v) (lives : IsSome (number_under v instance)) where
  cond_map : (d : Bool) (x : Entry) (xs : List Entry) (ys : List KernelWatch) → map (watch_at v.keys) xs ≡ ys → cond d (watch_at v.keys x ∷ ys) ys ≡ map (watch_at v.keys) (cond d (x ∷ xs) xs)
  cond_map true x xs ys h = ap (λ (zs : List KernelWatch). watch_at v.keys x ∷ zs) (sym h)
  cond_map false x xs ys h = sym h

  filter_twice : (b c : Bool) (x : Entry) (xs : List Entry) (ys : List KernelWatch) → map (watch_at v.keys) (filter (entry_shows ready v now) xs) ≡ ys
      → c ≡ entry_shows ready v now x → cond (b && c) (watch_at v.keys x ∷ ys) ys ≡ map (watch_at v.keys) (filter (entry_shows ready v now) (cond b (x ∷ xs) xs))
  filter_twice true c x xs ys h e = ap (λ (b : Bool). cond b (watch_at v.keys x ∷ ys) ys) e ∙ cond_map (entry_shows ready v now x) x (filter (entry_shows ready v now) xs) ys h
  filter_twice false c x xs ys h e = sym h

  pub scanned : (xs : List Entry) → All (IsLinked v.keys) xs → filter (shows_in ready v.files now (number_at v.keys instance)) (map (watch_at v.keys) xs) ≡ map (watch_at v.keys) (filter (entry_shows ready v now) (filter (is_of instance) xs))
  scanned [] h = refl
  scanned (x ∷ xs) h =
      let rest = scanned xs (All-tail (IsLinked v.keys) x xs h) in
      let link = All-head (IsLinked v.keys) x xs h in
      let same : (number_at v.keys x.instance == number_at v.keys instance) ≡ is_of instance x = same_keys v x.instance instance sound link.instance lives in
      ap (λ (b : Bool). cond (b && entry_shows ready v now x) (watch_at v.keys x ∷ filter (shows_in ready v.files now (number_at v.keys instance)) (map (watch_at v.keys) xs)) (filter (shows_in ready v.files now (number_at v.keys instance)) (map (watch_at v.keys) xs))) same
      ∙ filter_twice (is_of instance x) (entry_shows ready v now x) x (filter (is_of instance) xs) _ (sym rest) refl

-- the registrations that the machine reports at an instance
pub scans : {ws : List Waiter} (v : Seen) (now : ℕ) (r : Registrations) (s : State) (instance : DescId) → Stands v r ws now s → AreLinked v r → SoundTables v → IsSome (number_under v instance)
    → kernel_watches s (reportables s (number_at v.keys instance)) ≡ map (watch_at v.keys) (filter (entry_shows (readiness v now r) v now) (filter (is_of instance) r.entries))
scans v now r s instance stands linked sound lives =
    let e = number_at v.keys instance in
    let same_ready : machine_readiness s ≡ readiness v now r = λ i. ready_now (stands.files i) (stands.now i) (stands.watches i) in
    reportables_kept s e
    ∙ ((λ i. filter (shows_in (same_ready i) (stands.files i) (stands.now i) e) (stands.watches i)) ∙ scanned (readiness v now r) v now instance sound lives r.entries linked)

sorted_watches : (keys : List (Option ℕ)) (xs : List Entry) → IsNonDecreasingBy (λ (x : Entry). x.reported_in) xs → IsNonDecreasingBy (λ (x : KernelWatch). x.reported_in) (map (watch_at keys) xs)
sorted_watches keys xs h = λ i j d le lt.
    let none : Entry = record { number = 0; instance = record { 0 = 0 }; fd = record { 0 = pos 0 }; desc = record { 0 = 0 }; mask = record { 0 = 0 }; tag = 0; armed = false; fresh = false; reported_in = 0; passes_in = 0 } in
    let l : j < length xs = omega (arith, length-map xs (watch_at keys), lt) in
    let x = h i j none le l in
    omega (arith, x, ap (λ (w : KernelWatch). w.reported_in) (get_or-map (watch_at keys) xs i none d (omega arith)), ap (λ (w : KernelWatch). w.reported_in) (get_or-map (watch_at keys) xs j none d l))

abbrev numbers_in : List KernelWatch → List ℕ
numbers_in xs = map (λ x. x.number) xs

numbers_are : (keys : List (Option ℕ)) (xs : List Reportable) → numbers_in (map (watch_at keys) (entries_in xs)) ≡ numbers_of xs
numbers_are keys [] = refl
numbers_are keys (x ∷ xs) = ap (λ (ks : List ℕ). x.entry.number ∷ ks) (numbers_are keys xs)

map_swap : (f : Watch → KernelWatch) (xs : List Watch) (i j : ℕ) → map f (swap xs i j) ≡ swap (map f xs) i j
map_swap f [] i j = refl
map_swap f (d ∷ xs) i j =
    let ys : List Watch = d ∷ xs in
    map-set f (set ys i (get_or ys j d)) j (get_or ys i d)
    ∙ (λ t. set ((map-set f ys i (get_or ys j d) ∙ ap (set (map f ys) i) (sym (get_map f ys j d))) t) j (sym (get_map f ys i d) t))

map_swaps : (f : Watch → KernelWatch) (xs : List Watch) (ps : List (ℕ × ℕ)) → map f (apply_swaps xs ps) ≡ apply_swaps (map f xs) ps
map_swaps f xs [] = refl
map_swaps f xs (p ∷ ps) = map_swap f (apply_swaps xs ps) p.0 p.1 ∙ ap (λ (ys : List KernelWatch). swap ys p.0 p.1) (map_swaps f xs ps)

-- another order of the kept ones is that of another order
lifted : (s : State) (xs : List Watch) (found : List KernelWatch) → IsPermutation (kernel_watches s xs) found → (ys : List Watch) × IsPermutation xs ys × (kernel_watches s ys ≡ found)
lifted s xs found moved =
    let below : SwapsInRange (length xs) moved.moves = subst (λ (n : ℕ). SwapsInRange n moved.moves) (length-map xs (kernel_watch s)) moved.below in
    (apply_swaps xs moved.moves, record { moves = moved.moves; below = below; is = refl }, map_swaps (kernel_watch s) xs moved.moves ∙ sym moved.is)

kept_numbers : (s : State) (xs : List Watch) → numbers_in (kernel_watches s xs) ≡ numbers xs
kept_numbers s [] = refl
kept_numbers s (x ∷ xs) = ap (λ (ks : List ℕ). x.number ∷ ks) (kept_numbers s xs)

kept_sorted : (s : State) (ys : List Watch) → IsNonDecreasingBy (λ x. x.reported_in) (kernel_watches s ys) → IsNonDecreasingBy (λ x. x.rep) ys
kept_sorted s ys h i j d le lt =
    let at : (k : ℕ) → (get_or (kernel_watches s ys) k (kernel_watch s d)).reported_in ≡ (get_or ys k d).rep = λ k. ap (λ (x : KernelWatch). x.reported_in) (get_map (kernel_watch s) ys k d) in
    let sorted = h i j (kernel_watch s d) le (omega (arith, lt, length-map ys (kernel_watch s))) in
    omega (arith, sorted, at i, at j)

-- by registrations as they are kept
pick_kept : (s : State) (e most : ℕ) (found : List KernelWatch) → Sound s → IsPermutation (filter (shows_in (machine_readiness s) s.files s.now e) (kernel_watches s s.watches)) found → IsNonDecreasingBy (λ x. x.reported_in) found
    → is_pick s e most (numbers_in (take most found)) ≡ true
pick_kept s e most found sound moved sorted =
    let real = lifted s (reportables s e) found (subst (λ (xs : List KernelWatch). IsPermutation xs found) (sym (reportables_kept s e)) moved) in
    let ys = real.0 in
    let same : kernel_watches s (take most ys) ≡ take most found = sym (take-map (kernel_watch s) most ys) ∙ ap (take most) real.2 in
    let told : numbers_in (take most found) ≡ numbers (take most ys) = ap numbers_in (sym same) ∙ kept_numbers s (take most ys) in
    ap (λ (ks : List ℕ). is_pick s e most ks) told ∙ pick_sorted s e most ys sound real.1 (kept_sorted s ys (subst (λ (xs : List KernelWatch). IsNonDecreasingBy (λ x. x.reported_in) xs) (sym real.2) sorted))

-- what is chosen is a pick
pub chosen_is_pick : {ws : List Waiter} (v : Seen) (now : ℕ) (r : Registrations) (s : State) (instance : DescId) (most : ℕ) (chosen : List Reportable) → Sound s → Stands v r ws now s → AreLinked v r → SoundTables v → IsSome (number_under v instance)
    → IsChosen v now r instance most chosen → IsPick v instance most chosen s
chosen_is_pick v now r s instance most chosen steady stands linked sound lives is =
    let e = number_at v.keys instance in
    let found = map (watch_at v.keys) is.found in
    let same_ready : machine_readiness s ≡ readiness v now r = λ i. ready_now (stands.files i) (stands.now i) (stands.watches i) in
    let scan : filter (shows_in (machine_readiness s) s.files s.now e) (kernel_watches s s.watches) ≡ map (watch_at v.keys) (filter (entry_shows (readiness v now r) v now) (filter (is_of instance) r.entries)) =
    (λ i. filter (shows_in (same_ready i) (stands.files i) (stands.now i) e) (stands.watches i)) ∙ scanned (readiness v now r) v now instance sound lives r.entries linked in
    let moved = subst (λ (xs : List KernelWatch). IsPermutation xs found) (sym scan) (IsPermutation-map (watch_at v.keys) _ is.found is.moved) in
    let told : take most found ≡ map (watch_at v.keys) (entries_in chosen) = take-map (watch_at v.keys) most is.found ∙ ap (map (watch_at v.keys)) (sym is.taken) in
    let ks : numbers_in (take most found) ≡ numbers_of chosen = ap numbers_in told ∙ numbers_are v.keys chosen in
    ap (λ (js : List ℕ). is_pick s e most js) (sym ks) ∙ pick_kept s e most found steady moved (sorted_watches v.keys is.found is.sorted)

-- by when they were last reported
get_entry : (xs : List Reportable) (k : ℕ) (d : Entry) (e : Reportable) → k < length xs → get_or (map (λ (x : Reportable). x.entry) xs) k d ≡ (get_or xs k e).entry
get_entry [] k d e lt = absurd (omega arith)
get_entry (x ∷ xs) zero d e lt = refl
get_entry (x ∷ xs) (suc k) d e lt = get_entry xs k d e (omega arith)

pub sorted_entries : (xs : List Reportable) → IsNonDecreasingBy (λ (x : Reportable). x.entry.reported_in) xs → IsNonDecreasingBy (λ (x : Entry). x.reported_in) (map (λ (x : Reportable). x.entry) xs)
sorted_entries xs h = λ i j d le lt.
    let e : Reportable = record { id = record { 0 = 0 }; entry = d; bits = record { 0 = 0 } } in
    let l : j < length xs = omega (arith, length-map xs (λ (x : Reportable). x.entry), lt) in
    let x = h i j e le l in
    omega (arith, x, ap (λ (y : Entry). y.reported_in) (get_entry xs i d e (omega arith)), ap (λ (y : Entry). y.reported_in) (get_entry xs j d e l))

-- a registration that a collection comes to has a date exactly if it is reportable
pub next_told : (p : Parts) (d : Dates) → TellsShown p d → (found : List Reportable) (id : EntryId) (x : Entry) (rest : List (EntryId × Entry)) (all : List Entry) → Collects p.tables p.clock p.interest found ((id, x) ∷ rest) all
    → nat_lt 0 (event_at d.since x.number) ≡ entry_shows (readiness p.tables p.clock p.interest) p.tables p.clock x
next_told p d told found id x rest all c =
    found_passes (λ y. nat_lt 0 (event_at d.since y.number) ≡ entry_shows (readiness p.tables p.clock p.interest) p.tables p.clock y) (λ y. y.number == x.number) x p.interest.entries told
    (All-head (λ (y : Entry). numbered p.interest.entries y.number ≡ Some y) x (entries_of rest) c.rest_there)
