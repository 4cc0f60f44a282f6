-- What stands under a number, as the machine has it.
use Rattle.std.proofs.Common.{IsSome, List, None, Option, Some, [], ap, false, get_or, map, refl, slice_set, subst, suc, sym, unwrap_or, zero, ℕ, ◌+◌, ◌∙◌, ◌∷◌, ◌≡◌, ◌≢◌}
use Rattle.std.proofs.lemmas.Bool.{false≢true}
use Rattle.ep_base.specs.declared.ids.DescId.{DescId}
use Rattle.ep_machine.specs.Files.{Slot, Table}
use Rattle.ep_machine.specs.Lists.{enter, lowest_free}
use Rattle.ep_machine.specs.Tables.{slot}
use Rattle.ep_table.specs.Processes.{Process, entered, lists, process_of, slots_of}
use Rattle.ep_table.specs.Value.{AddsKey, number_at}
use Rattle.ep_table.specs.View.{LiveAll, LiveProcess, LiveSlot, LiveTable, slot_in, table_in, tables_in}
use Rattle.ep_table.specs.declared.table.Table.{Table as Slots}
use Rattle.ep_table.specs.declared.words.Descriptor.{Descriptor}

pub lists_at : {A : Type 0} (xs : List (Option (Slots A))) (p : ℕ) → get_or (lists xs) p None ≡ process_of xs p
lists_at [] p = refl
lists_at (x ∷ xs) zero = refl
lists_at (x ∷ xs) (suc p) = lists_at xs p

module _ (keys : List (Option ℕ)) where
  pub tables_at : (ps : List Process) (p : ℕ) → get_or (tables_in keys ps) p None ≡ table_in keys (get_or ps p None)
  tables_at [] p = refl
  tables_at (q ∷ ps) zero = refl
  tables_at (q ∷ ps) (suc p) = tables_at ps p

  -- the table of a process
  pub table_seen : {A : Type 0} (xs : List (Option (Slots A))) (p : ℕ) → get_or (tables_in keys (lists xs)) p None ≡ table_in keys (process_of xs p)
  table_seen xs p = tables_at (lists xs) p ∙ ap (table_in keys) (lists_at xs p)

  unwrapped_table : (p : Process) → unwrap_or (table_in keys p) [] ≡ map (slot_in keys) (slots_of p)
  unwrapped_table None = refl
  unwrapped_table (Some t) = refl

  -- its numbers
  pub numbers_seen : {A : Type 0} (xs : List (Option (Slots A))) (p : ℕ) → unwrap_or (get_or (tables_in keys (lists xs)) p None) [] ≡ map (slot_in keys) (slots_of (process_of xs p))
  numbers_seen xs p = ap (λ (t : Option Table). unwrap_or t []) (table_seen xs p) ∙ unwrapped_table (process_of xs p)

  pub slots_at : (t : List (Option Descriptor)) (i : ℕ) → get_or (map (slot_in keys) t) i None ≡ slot_in keys (get_or t i None)
  slots_at [] i = refl
  slots_at (x ∷ t) zero = refl
  slots_at (x ∷ t) (suc i) = slots_at t i

  pub lowest_seen : (t : List (Option Descriptor)) → lowest_free (map (slot_in keys) t) ≡ lowest_free t
  lowest_seen [] = refl
  lowest_seen (None ∷ t) = refl
  lowest_seen (Some x ∷ t) = ap (λ n. n + 1) (lowest_seen t)

  pub enter_seen : (t : List (Option Descriptor)) (x : Descriptor) → map (slot_in keys) (enter t x) ≡ enter (map (slot_in keys) t) (slot (unwrap_or (number_at keys x.description) 0) x.cloexec)
  enter_seen [] x = refl
  enter_seen (None ∷ t) x = refl
  enter_seen (Some y ∷ t) x = ap (λ r. slot_in keys (Some y) ∷ r) (enter_seen t x)

-- which number is entered next doesn't hang on what is entered
pub lowest_any : {X : Type 0} (t : List (Option X)) (x y : X) → lowest_free (enter t x) ≡ lowest_free (enter t y)
lowest_any [] x y = refl
lowest_any (None ∷ t) x y = refl
lowest_any (Some z ∷ t) x y = ap (λ n. n + 1) (lowest_any t x y)

-- the second free number
pub second_seen : (keys : List (Option ℕ)) (t : List (Option Descriptor)) (x : Descriptor) → lowest_free (enter t x) ≡ lowest_free (enter (map (slot_in keys) t) (slot 0 false))
second_seen keys t x = sym (lowest_seen keys (enter t x)) ∙ (ap (λ (r : List (Option Slot)). lowest_free r) (enter_seen keys t x) ∙ lowest_any (map (slot_in keys) t) _ _)

-- Keys that are live.
module _ (keys : List (Option ℕ)) where
  pub live_at : (ps : List Process) (p : ℕ) → LiveAll keys ps → LiveProcess keys (get_or ps p None)
  live_at [] p h = tt
  live_at (q ∷ ps) zero h = h.0
  live_at (q ∷ ps) (suc p) h = live_at ps p h.1

  live_slots : (p : Process) → LiveProcess keys p → LiveTable keys (slots_of p)
  live_slots None h = tt
  live_slots (Some t) h = h

  live_slot : (t : List (Option Descriptor)) (i : ℕ) → LiveTable keys t → LiveSlot keys (get_or t i None)
  live_slot [] i h = tt
  live_slot (x ∷ t) zero h = h.0
  live_slot (x ∷ t) (suc i) h = live_slot t i h.1

  pub live_process : {A : Type 0} (xs : List (Option (Slots A))) (p : ℕ) → LiveAll keys (lists xs) → LiveProcess keys (process_of xs p)
  live_process xs p h = subst (λ (q : Process). LiveProcess keys q) (lists_at xs p) (live_at (lists xs) p h)

  pub live_found : {A : Type 0} (xs : List (Option (Slots A))) (p i : ℕ) → LiveAll keys (lists xs) → LiveSlot keys (get_or (slots_of (process_of xs p)) i None)
  live_found xs p i h = live_slot (slots_of (process_of xs p)) i (live_slots (process_of xs p) (live_process xs p h))

  pub live_set : (ps : List Process) (p : ℕ) (q : Process) → LiveAll keys ps → LiveProcess keys q → LiveAll keys (slice_set ps p q)
  live_set [] p q h k = tt
  live_set (r ∷ ps) zero q h k = (k, h.1)
  live_set (r ∷ ps) (suc p) q h k = (h.0, live_set ps p q h.1 k)

  live_enter : (t : List (Option Descriptor)) (x : Descriptor) → LiveTable keys t → IsSome (number_at keys x.description) → LiveTable keys (enter t x)
  live_enter [] x h k = (k, tt)
  live_enter (None ∷ t) x h k = (k, h.1)
  live_enter (Some y ∷ t) x h k = (h.0, live_enter t x h.1 k)

  pub live_entered : (p : Process) (x : Descriptor) → LiveProcess keys p → IsSome (number_at keys x.description) → LiveProcess keys (entered p x)
  live_entered None x h k = tt
  live_entered (Some t) x h k = live_enter t x h k

-- A key more changes nothing that was there.
module _ (old new : List (Option ℕ)) (key : DescId) (n : ℕ) (adds : AddsKey old new key n) where
  other : (k : DescId) → IsSome (number_at old k) → k.0 ≢ key.0
  other k h e = false≢true (subst (λ (o : Option ℕ). IsSome o) (ap (λ (i : ℕ). get_or old i None) e ∙ adds.free) h)

  same_number : (k : DescId) → IsSome (number_at old k) → number_at new k ≡ number_at old k
  same_number k h = adds.others k (other k h)

  pub still_live : (k : DescId) → IsSome (number_at old k) → IsSome (number_at new k)
  still_live k h = subst (λ (o : Option ℕ). IsSome o) (sym (same_number k h)) h

  same_slots : (t : List (Option Descriptor)) → LiveTable old t → map (slot_in new) t ≡ map (slot_in old) t
  same_slots [] h = refl
  same_slots (None ∷ t) h = ap (λ (r : List (Option Slot)). None ∷ r) (same_slots t h.1)
  same_slots (Some x ∷ t) h =
      let e = same_number x.description h.0 in
      let r = same_slots t h.1 in
      λ i. Some (slot (unwrap_or (e i) 0) x.cloexec) ∷ r i

  pub same_table : (p : Process) → LiveProcess old p → table_in new p ≡ table_in old p
  same_table None h = refl
  same_table (Some t) h = ap (λ (r : List (Option Slot)). Some r) (same_slots t h)

  pub same_tables : (ps : List Process) → LiveAll old ps → tables_in new ps ≡ tables_in old ps
  same_tables [] h = refl
  same_tables (p ∷ ps) h = let e = same_table p h.0 in let r = same_tables ps h.1 in λ i. e i ∷ r i

  more_slots : (t : List (Option Descriptor)) → LiveTable old t → LiveTable new t
  more_slots [] h = tt
  more_slots (None ∷ t) h = (tt, more_slots t h.1)
  more_slots (Some x ∷ t) h = (still_live x.description h.0, more_slots t h.1)

  more_table : (p : Process) → LiveProcess old p → LiveProcess new p
  more_table None h = tt
  more_table (Some t) h = more_slots t h

  pub more_live : (ps : List Process) → LiveAll old ps → LiveAll new ps
  more_live [] h = tt
  more_live (p ∷ ps) h = (more_table p h.0, more_live ps h.1)

  pub key_live : IsSome (number_at new key)
  key_live = subst (λ (o : Option ℕ). IsSome o) (sym adds.here) refl

  pub key_number_is : unwrap_or (number_at new key) 0 ≡ n
  key_number_is = ap (λ (o : Option ℕ). unwrap_or o 0) adds.here
