-- What calls on one table leave.
use Rattle.std.proofs.Common.{IsSome, List, None, Option, Some, [], ap, arith, false, get_or, map, slice_set, sym, unwrap_or, ℕ, ◌+◌, ◌<◌, ◌∙◌, ◌≡◌}
use Rattle.ep_machine.specs.Files.{Table, description_in, numbers_of, table_of}
use Rattle.ep_machine.specs.Lists.{enter, place_at}
use Rattle.ep_machine.specs.Tables.{kept_by_exec, slot, with_table}
use Rattle.ep_table.specs.Counting.{Lowers, numbers}
use Rattle.ep_table.specs.Flagged.{closing}
use Rattle.ep_table.specs.Processes.{Process, entered, kept_in, left, lists, process_of, put_at, slots_of}
use Rattle.ep_table.specs.Value.{Seen, Things, count_at, less_at, more_at, number_at, thing_number}
use Rattle.ep_table.specs.View.{IsTables, LiveProcess, slot_in, table_in, value_of}
use Rattle.ep_table.specs.declared.tables.Tables.TheInside.{Inside}
use Rattle.ep_table.specs.declared.words.Descriptor.{Descriptor}
use Rattle.ep_table.proofs.TimesLemmas.{count_less, count_more, once, slot_times, table_enter, table_place, table_times, table_unset}
use Rattle.ep_table.proofs.CreateLemmas.{entered_seen, with_store}
use Rattle.ep_table.proofs.AddLemmas.{Fits}
use Rattle.ep_table.proofs.UnnameLemmas.{lowers_rest, numbers_are, slot_named}
use Rattle.ep_table.proofs.ViewLemmas.{live_entered, numbers_seen, slots_at}
use Rattle.ep_table.proofs.TableLemmas.{exec_times, kept_seen, kept_slots, left_seen, live_kept, live_left, live_put_at, new_counts, new_live, new_living, new_value, put_seen}

-- the state after one table and the counts were written
pub record Renames {A : Type 0} (k : Inside A) (v : Seen) (p : ℕ) (y : Table) (ps : List Process) (s : Things) : Type 0 where
  pub fits : Fits k.living s ps
  pub value : with_store k ps s ≡ record v { files = with_table v.files p y; dying = s.dying }

module _ {A : Type 0} (k : Inside A) (v : Seen) (inv : IsTables k) (same : value_of k ≡ v) (p : ℕ) (is : IsSome (table_of v.files p)) (ps : List Process) (s : Things) where
  abbrev old : Table
  old = unwrap_or (get_or (value_of k).files.tables p None) []

  abbrev now : Process
  now = get_or (lists k.processes.items) p None

  general : (f : Process → Process) (g : Table → Table) → ((q : Process) → IsSome (table_in k.store.keys q) → table_in k.store.keys (f q) ≡ Some (g (unwrap_or (table_in k.store.keys q) []))) → ((q : Process) → LiveProcess k.store.keys q → LiveProcess k.store.keys (f q))
      → ps ≡ slice_set (lists k.processes.items) p (f now) → s ≡ record k.store { names = s.names; dying = s.dying; named = s.named }
      → ((d : ℕ) → count_at s.names d + table_times d old ≡ count_at k.store.names d + table_times d (g old)) → Renames k v p (g (numbers_of v.files p)) ps s
  general f g step keeps written rest counts = record {
    fits = record {
      live = new_live k v inv same p is f g step keeps ps written s rest;
      counts = new_counts k v inv same p is f g step keeps ps written s rest counts;
      living = new_living k v inv same p is f g step keeps ps written s rest;
    };
    value = new_value k v inv same p is f g step keeps ps written s rest;
  }

  pub renames_dup : (x : Descriptor) → IsSome (number_at k.store.keys x.description) → 0 < count_at k.store.names (thing_number k.store x.description)
      → ps ≡ slice_set (lists k.processes.items) p (entered now x) → s ≡ record k.store { names = more_at k.store.names (thing_number k.store x.description); named = k.store.named + 1 }
      → Renames k v p (enter (numbers_of v.files p) (slot (thing_number k.store x.description) x.cloexec)) ps s
  renames_dup x live some written e =
      let n = thing_number k.store x.description in
      let rest : s ≡ record k.store { names = s.names; dying = s.dying; named = s.named } = e ∙ (λ i. record k.store { names = (sym e i).names; dying = (sym e i).dying; named = (sym e i).named }) in
      general (λ q. entered q x) (λ t. enter t (slot n x.cloexec)) (λ q h. entered_seen k.store.keys q x h) (λ q h. live_entered k.store.keys q x h live) written rest
      (λ d. omega (arith, ap (λ (w : Things). count_at w.names d) e, count_more k.store.names n d some, table_enter d old (slot n x.cloexec)))

  pub renames_put : (i : ℕ) (x : Descriptor) → IsSome (number_at k.store.keys x.description) → ps ≡ slice_set (lists k.processes.items) p (put_at now i x) → s ≡ record k.store { names = s.names; dying = s.dying; named = s.named }
      → ((d : ℕ) → count_at s.names d + slot_times d (get_or old i None) ≡ count_at k.store.names d + once d (thing_number k.store x.description))
      → Renames k v p (place_at (numbers_of v.files p) i (slot (thing_number k.store x.description) x.cloexec)) ps s
  renames_put i x live written rest h =
      let n = thing_number k.store x.description in
      general (λ q. put_at q i x) (λ t. place_at t i (slot n x.cloexec)) (put_seen k.store.keys i x) (live_put_at k.store.keys i x live) written rest
      (λ d. omega (arith, h d, table_place d old i (slot n x.cloexec)))

  pub renames_left : (i n : ℕ) → description_in (get_or old i None) ≡ Some n → 0 < count_at k.store.names n → ps ≡ slice_set (lists k.processes.items) p (left now i) → s ≡ record k.store { names = less_at k.store.names n; dying = s.dying }
      → Renames k v p (slice_set (numbers_of v.files p) i None) ps s
  renames_left i n at some written e =
      let rest : s ≡ record k.store { names = s.names; dying = s.dying; named = s.named } = e ∙ (λ j. record k.store { names = (sym e j).names; dying = s.dying; named = (sym e j).named }) in
      general (λ q. left q i) (λ t. slice_set t i None) (left_seen k.store.keys i) (live_left k.store.keys i) written rest
      (λ d. omega (arith, ap (λ (w : Things). count_at w.names d) e, count_less k.store.names n d some, table_unset d old i, slot_named (get_or old i None) n d at))

  pub renames_exec : (t : List (Option Descriptor)) → Some t ≡ now → Lowers k.store s (numbers k.store.keys (map (closing false) t)) → ps ≡ slice_set (lists k.processes.items) p (kept_in now)
      → Renames k v p (map kept_by_exec (numbers_of v.files p)) ps s
  renames_exec t at l written =
      let a = numbers_are k inv p t at in
      general kept_in (λ u. map kept_by_exec u) (kept_seen k.store.keys) (live_kept k.store.keys) written (lowers_rest k.store s (numbers k.store.keys (map (closing false) t)) l)
      (λ d. omega (arith, l.names d, exec_times k.store.keys d t, ap (table_times d) a, ap (λ (u : Table). table_times d (map kept_by_exec u)) a, ap (table_times d) (kept_slots k.store.keys t)))

  pub old_slot : (i : ℕ) (o : Option Descriptor) → o ≡ get_or (slots_of (process_of k.processes.items p)) i None → get_or old i None ≡ slot_in k.store.keys o
  old_slot i o e = ap (λ (t : Table). get_or t i None) (numbers_seen k.store.keys k.processes.items p) ∙ (slots_at k.store.keys (slots_of (process_of k.processes.items p)) i ∙ ap (slot_in k.store.keys) (sym e))

  -- a number that named nothing, or something else
  module _ (i : ℕ) (x : Descriptor) (live : IsSome (number_at k.store.keys x.description)) (some : 0 < count_at k.store.names (thing_number k.store x.description)) (written : ps ≡ slice_set (lists k.processes.items) p (put_at now i x))
      (a : Things) (ea : a ≡ record k.store { names = more_at k.store.names (thing_number k.store x.description); named = k.store.named + 1 }) where
    pub renames_free : get_or old i None ≡ None → s ≡ a → Renames k v p (place_at (numbers_of v.files p) i (slot (thing_number k.store x.description) x.cloexec)) ps s
    renames_free at es =
        let rest : s ≡ record k.store { names = s.names; dying = s.dying; named = s.named } = (λ j. record (es j) { names = s.names; dying = s.dying; named = s.named }) ∙ (λ j. record (ea j) { names = s.names; dying = s.dying; named = s.named }) in
        renames_put i x live written rest (λ d. omega (arith, ap (λ (w : Things). count_at w.names d) es, ap (λ (w : Things). count_at w.names d) ea, count_more k.store.names (thing_number k.store x.description) d some, ap (slot_times d) at))

    pub renames_replaced : (r : Descriptor) → get_or old i None ≡ slot_in k.store.keys (Some r) → 0 < count_at a.names (thing_number a r.description) → s ≡ record a { names = less_at a.names (thing_number a r.description); dying = s.dying }
        → Renames k v p (place_at (numbers_of v.files p) i (slot (thing_number k.store x.description) x.cloexec)) ps s
    renames_replaced r at more es =
        let rest : s ≡ record k.store { names = s.names; dying = s.dying; named = s.named } = (λ j. record (es j) { names = s.names; dying = s.dying; named = s.named }) ∙ (λ j. record (ea j) { names = s.names; dying = s.dying; named = s.named }) in
        let n : thing_number a r.description ≡ thing_number k.store r.description = ap (λ (w : Things). thing_number w r.description) ea in
        renames_put i x live written rest (λ d. omega (
          arith,
          ap (λ (w : Things). count_at w.names d) es,
          count_less a.names (thing_number a r.description) d more,
          ap (λ (w : Things). count_at w.names d) ea,
          count_more k.store.names (thing_number k.store x.description) d some,
          ap (slot_times d) at,
          ap (once d) n,
        ))
