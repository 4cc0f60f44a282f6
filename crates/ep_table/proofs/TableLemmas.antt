-- One table changes, and the counts with it.
use Rattle.std.proofs.Common.{Bool, IsSome, List, None, Option, Some, [], ap, arith, false, get_or, if◌then◌else◌, inl, inr, length, map, refl, slice_set, subst, suc, sym, true, unwrap_or, zero, ℕ, ◌++◌, ◌+◌, ◌∙◌, ◌∷◌, ◌≡◌, ◌≤◌, ◌||◌}
use Rattle.std.proofs.lemmas.Bool.{cases_Bool, false≢true}
use Rattle.ep_facts.proofs.ListFacts.{map_set}
use Rattle.ep_machine.specs.Deaths.{named_in_tables}
use Rattle.ep_machine.specs.Files.{Table, numbers_of, table_of}
use Rattle.ep_machine.specs.Lists.{numbered, place_at}
use Rattle.ep_machine.specs.Tables.{kept_by_exec, slot, with_table}
use Rattle.ep_table.specs.Counting.{numbers}
use Rattle.ep_table.specs.Flagged.{closing, kept}
use Rattle.ep_table.specs.Processes.{Process, kept_in, left, lists, put_at}
use Rattle.ep_table.specs.Value.{Seen, Things, count_at, number_at, times}
use Rattle.ep_table.specs.View.{IsTables, LiveAll, LiveProcess, LiveSlot, LiveTable, slot_in, table_in, tables_in, value_of}
use Rattle.ep_table.specs.declared.tables.Tables.TheInside.{Inside}
use Rattle.ep_table.specs.declared.words.Descriptor.{Descriptor}
use Rattle.ep_table.proofs.TimesLemmas.{all_push, all_set, process_times, slot_times, table_times, table_unset}
use Rattle.ep_table.proofs.CreateLemmas.{with_store}
use Rattle.ep_table.proofs.ViewLemmas.{live_at, live_set, tables_at}

table_some : (o : Option Table) → IsSome o → o ≡ Some (unwrap_or o [])
table_some None h = absurd (false≢true h)
table_some (Some t) h = refl

pub same_length : {A : Type 0} (j i : ℕ) (xs : List (Option A)) (y : A) → IsSome (get_or xs i None) → length (numbered j (slice_set xs i (Some y))) ≡ length (numbered j xs)
same_length j i [] y h = refl
same_length j zero (None ∷ xs) y h = absurd (false≢true h)
same_length j zero (Some x ∷ xs) y h = refl
same_length j (suc i) (None ∷ xs) y h = same_length (j + 1) i xs y h
same_length j (suc i) (Some x ∷ xs) y h = omega (arith, same_length (j + 1) i xs y h)

-- at the machine's tables
module _ (names : List ℕ) (ts : List (Option Table)) (p : ℕ) (there : IsSome (get_or ts p None)) (counts : (d : ℕ) → count_at names d ≡ times d (named_in_tables ts)) where
  abbrev pub numbers_at : Table
  numbers_at = unwrap_or (get_or ts p None) []

  here : (d : ℕ) → process_times d (get_or ts p None) ≡ table_times d numbers_at
  here d = ap (process_times d) (table_some (get_or ts p None) there)

  pub counts_written : (names1 : List ℕ) (y : Table) → ((d : ℕ) → count_at names1 d + table_times d numbers_at ≡ count_at names d + table_times d y) → (d : ℕ) → count_at names1 d ≡ times d (named_in_tables (slice_set ts p (Some y)))
  counts_written names1 y h d = omega (arith, h d, here d, counts d, all_set d ts p (Some y) there)

  pub counts_ended : (names1 : List ℕ) → ((d : ℕ) → count_at names1 d + table_times d numbers_at ≡ count_at names d) → (d : ℕ) → count_at names1 d ≡ times d (named_in_tables (slice_set ts p None))
  counts_ended names1 h d = omega (arith, h d, here d, counts d, all_set d ts p None there)

  pub counts_forked : (names1 : List ℕ) → ((d : ℕ) → count_at names1 d ≡ count_at names d + table_times d numbers_at) → (d : ℕ) → count_at names1 d ≡ times d (named_in_tables (ts ++ Some numbers_at ∷ []))
  counts_forked names1 h d = omega (arith, h d, counts d, all_push d ts (Some numbers_at))

  -- a table names no more than there are names
  pub table_within : (d : ℕ) → table_times d numbers_at ≤ count_at names d
  table_within d = omega (arith, counts d, here d, all_set d ts p None there)

  pub slot_within : (i d : ℕ) → slot_times d (get_or numbers_at i None) ≤ count_at names d
  slot_within i d = omega (arith, table_within d, table_unset d numbers_at i)

-- what one write to a process does to its table
module _ (keys : List (Option ℕ)) (qs : List Process) (p : ℕ) (there : IsSome (get_or (tables_in keys qs) p None)) (f : Process → Process) (g : Table → Table)
    (step : (q : Process) → IsSome (table_in keys q) → table_in keys (f q) ≡ Some (g (unwrap_or (table_in keys q) []))) where
  pub tables_written : tables_in keys (slice_set qs p (f (get_or qs p None))) ≡ slice_set (tables_in keys qs) p (Some (g (unwrap_or (get_or (tables_in keys qs) p None) [])))
  tables_written =
      let seen : get_or (tables_in keys qs) p None ≡ table_in keys (get_or qs p None) = tables_at keys qs p in
      let e : table_in keys (f (get_or qs p None)) ≡ Some (g (unwrap_or (get_or (tables_in keys qs) p None) [])) =
      step (get_or qs p None) (subst (λ (t : Option Table). IsSome t) seen there) ∙ (λ i. Some (g (unwrap_or (sym seen i) []))) in
      map_set (table_in keys) qs p (f (get_or qs p None)) ∙ ap (λ (y : Option Table). slice_set (tables_in keys qs) p y) e

-- in the tables as they are kept
module _ {A : Type 0} (k : Inside A) (v : Seen) (inv : IsTables k) (same : value_of k ≡ v) (p : ℕ) (is : IsSome (table_of v.files p)) (f : Process → Process) (g : Table → Table)
    (step : (q : Process) → IsSome (table_in k.store.keys q) → table_in k.store.keys (f q) ≡ Some (g (unwrap_or (table_in k.store.keys q) [])))
    (keeps : (q : Process) → LiveProcess k.store.keys q → LiveProcess k.store.keys (f q))
    (ps : List Process) (written : ps ≡ slice_set (lists k.processes.items) p (f (get_or (lists k.processes.items) p None)))
    (s : Things) (rest : s ≡ record k.store { names = s.names; dying = s.dying; named = s.named }) where
  abbrev ts : List (Option Table)
  ts = (value_of k).files.tables

  pub there : IsSome (get_or ts p None)
  there = subst (λ (w : Seen). IsSome (table_of w.files p)) (sym same) is

  abbrev pub was : Table
  was = unwrap_or (get_or ts p None) []

  new_tables : tables_in s.keys ps ≡ slice_set ts p (Some (g was))
  new_tables =
      ap (λ (w : Things). tables_in w.keys ps) rest
      ∙ (ap (λ (qs : List Process). tables_in k.store.keys qs) written
      ∙ tables_written k.store.keys (lists k.processes.items) p there f g step)

  pub new_value : with_store k ps s ≡ record v { files = with_table v.files p (g (numbers_of v.files p)); dying = s.dying }
  new_value =
      (λ i. record (value_of k) { files = record (value_of k).files { tables = new_tables i; descriptions = (rest i).descriptions; objects = (rest i).objects }; keys = (rest i).keys; holds = (rest i).holds; dying = s.dying; losses = (rest i).losses })
      ∙ ap (λ (w : Seen). record w { files = with_table w.files p (g (numbers_of w.files p)); dying = s.dying }) same

  pub new_counts : ((d : ℕ) → count_at s.names d + table_times d was ≡ count_at k.store.names d + table_times d (g was)) → (d : ℕ) → count_at s.names d ≡ times d (named_in_tables (tables_in s.keys ps))
  new_counts h d = counts_written k.store.names ts p there inv.counts s.names (g was) h d ∙ ap (λ (xs : List (Option Table)). times d (named_in_tables xs)) (sym new_tables)

  pub new_living : k.living ≡ length (numbered 0 (tables_in s.keys ps))
  new_living = inv.living ∙ (sym (same_length 0 p ts (g was) there) ∙ ap (λ (xs : List (Option Table)). length (numbered 0 xs)) (sym new_tables))

  pub new_live : LiveAll s.keys ps
  new_live =
      let qs = lists k.processes.items in
      let l : LiveAll k.store.keys (slice_set qs p (f (get_or qs p None))) = live_set k.store.keys qs p (f (get_or qs p None)) inv.live (keeps (get_or qs p None) (live_at k.store.keys qs p inv.live)) in
      subst (λ (w : Things). LiveAll w.keys ps) (sym rest) (subst (λ (rs : List Process). LiveAll k.store.keys rs) (sym written) l)

-- the steps
module _ (keys : List (Option ℕ)) where
  pub left_seen : (i : ℕ) (q : Process) → IsSome (table_in keys q) → table_in keys (left q i) ≡ Some (slice_set (unwrap_or (table_in keys q) []) i None)
  left_seen i None h = absurd (false≢true h)
  left_seen i (Some t) h = ap (λ (r : Table). Some r) (map_set (slot_in keys) t i None)

  place_seen : (t : List (Option Descriptor)) (i : ℕ) (x : Descriptor) → map (slot_in keys) (place_at t i x) ≡ place_at (map (slot_in keys) t) i (slot (unwrap_or (number_at keys x.description) 0) x.cloexec)
  place_seen [] zero x = refl
  place_seen [] (suc i) x = ap (λ (r : Table). None ∷ r) (place_seen [] i x)
  place_seen (y ∷ t) zero x = refl
  place_seen (y ∷ t) (suc i) x = ap (λ (r : Table). slot_in keys y ∷ r) (place_seen t i x)

  pub put_seen : (i : ℕ) (x : Descriptor) (q : Process) → IsSome (table_in keys q) → table_in keys (put_at q i x) ≡ Some (place_at (unwrap_or (table_in keys q) []) i (slot (unwrap_or (number_at keys x.description) 0) x.cloexec))
  put_seen i x None h = absurd (false≢true h)
  put_seen i x (Some t) h = ap (λ (r : Table). Some r) (place_seen t i x)

  kept_cases : (c : Bool) (x : Descriptor) (n : ℕ) → slot_in keys (if c then None else Some x) ≡ (if c then None else Some (slot (unwrap_or (number_at keys x.description) 0) x.cloexec))
  kept_cases true x n = refl
  kept_cases false x n = refl

  kept_slot : (x : Option Descriptor) → slot_in keys (kept x) ≡ kept_by_exec (slot_in keys x)
  kept_slot None = refl
  kept_slot (Some x) = kept_cases x.cloexec x (unwrap_or (number_at keys x.description) 0)

  pub kept_slots : (t : List (Option Descriptor)) → map (slot_in keys) (map kept t) ≡ map kept_by_exec (map (slot_in keys) t)
  kept_slots [] = refl
  kept_slots (x ∷ t) = let e = kept_slot x in let r = kept_slots t in λ i. e i ∷ r i

  pub kept_seen : (q : Process) → IsSome (table_in keys q) → table_in keys (kept_in q) ≡ Some (map kept_by_exec (unwrap_or (table_in keys q) []))
  kept_seen None h = absurd (false≢true h)
  kept_seen (Some t) h = ap (λ (r : Table). Some r) (kept_slots t)

  live_put : (t : List (Option Descriptor)) (i : ℕ) → LiveTable keys t → LiveTable keys (slice_set t i None)
  live_put [] i h = tt
  live_put (y ∷ t) zero h = (tt, h.1)
  live_put (y ∷ t) (suc i) h = (h.0, live_put t i h.1)

  pub live_left : (i : ℕ) (q : Process) → LiveProcess keys q → LiveProcess keys (left q i)
  live_left i None h = tt
  live_left i (Some t) h = live_put t i h

  live_place : (t : List (Option Descriptor)) (i : ℕ) (x : Descriptor) → IsSome (number_at keys x.description) → LiveTable keys t → LiveTable keys (place_at t i x)
  live_place [] zero x l h = (l, tt)
  live_place [] (suc i) x l h = (tt, live_place [] i x l tt)
  live_place (y ∷ t) zero x l h = (l, h.1)
  live_place (y ∷ t) (suc i) x l h = (h.0, live_place t i x l h.1)

  pub live_put_at : (i : ℕ) (x : Descriptor) → IsSome (number_at keys x.description) → (q : Process) → LiveProcess keys q → LiveProcess keys (put_at q i x)
  live_put_at i x l None h = tt
  live_put_at i x l (Some t) h = live_place t i x l h

  live_kept_slot : (x : Option Descriptor) → LiveSlot keys x → LiveSlot keys (kept x)
  live_kept_slot None h = tt
  live_kept_slot (Some x) h = elim (cases_Bool x.cloexec) [ inl e ↦ rw e tt | inr e ↦ rw e h ]

  live_kept_slots : (t : List (Option Descriptor)) → LiveTable keys t → LiveTable keys (map kept t)
  live_kept_slots [] h = tt
  live_kept_slots (x ∷ t) h = (live_kept_slot x h.0, live_kept_slots t h.1)

  pub live_kept : (q : Process) → LiveProcess keys q → LiveProcess keys (kept_in q)
  live_kept None h = tt
  live_kept (Some t) h = live_kept_slots t h

  closed_cases : (d : ℕ) (c : Bool) (x : Descriptor) → slot_times d (slot_in keys (if c then None else Some x)) + slot_times d (slot_in keys (if false || c then Some x else None)) ≡ slot_times d (slot_in keys (Some x))
  closed_cases d true x = omega arith
  closed_cases d false x = omega arith

  closed_slot_times : (d : ℕ) (x : Option Descriptor) → slot_times d (slot_in keys (kept x)) + slot_times d (slot_in keys (closing false x)) ≡ slot_times d (slot_in keys x)
  closed_slot_times d None = omega arith
  closed_slot_times d (Some x) = closed_cases d x.cloexec x

  cons_times : (d : ℕ) (x : Option Descriptor) (t : List (Option Descriptor)) → times d (numbers keys (x ∷ t)) ≡ slot_times d (slot_in keys x) + times d (numbers keys t)
  cons_times d None t = omega arith
  cons_times d (Some x) t = refl

  -- what exec closes and what it leaves
  pub exec_times : (d : ℕ) (t : List (Option Descriptor)) → times d (numbers keys (map kept t)) + times d (numbers keys (map (closing false) t)) ≡ times d (numbers keys t)
  exec_times d [] = omega arith
  exec_times d (x ∷ t) = omega (arith, exec_times d t, closed_slot_times d x, cons_times d x t, cons_times d (kept x) (map kept t), cons_times d (closing false x) (map (closing false) t))

  pub exit_same : (t : List (Option Descriptor)) → map (closing true) t ≡ t
  exit_same [] = refl
  exit_same (None ∷ t) = ap (λ (r : List (Option Descriptor)). None ∷ r) (exit_same t)
  exit_same (Some x ∷ t) = ap (λ (r : List (Option Descriptor)). Some x ∷ r) (exit_same t)
