-- Names that go, and those that are there.
use Rattle.std.proofs.Common.{IfNone, IfSome, IsSome, List, None, Option, Some, [], ap, arith, get_or, length, map, nat_lt, negsuc, pos, refl, slice_set, subst, suc, sym, true, unwrap_or, zero, ℕ, ℤ, ◌-◌, ◌+◌, ◌<◌, ◌==◌, ◌∙◌, ◌∷◌, ◌≡◌, ◌≢◌, ◌≤◌}
use Rattle.std.proofs.lemmas.Bool.{false≢true}
use Rattle.std.proofs.lemmas.Bool.Decides.{nat_tests}
use Rattle.std.proofs.lemmas.List.{get_or-set_other}
use Rattle.ep_facts.proofs.ListFacts.{map_set}
use Rattle.ep_facts.proofs.NatFacts.{is_positive}
use Rattle.ep_base.specs.declared.ids.DescId.{DescId}
use Rattle.ep_machine.specs.Deaths.{named_in, named_in_tables}
use Rattle.ep_machine.specs.Files.{Files, Slot, Table, description_in, under}
use Rattle.ep_machine.specs.Lists.{is_among, numbered}
use Rattle.ep_machine.specs.Tables.{slot}
use Rattle.ep_table.specs.Closing.{Dies, Takes}
use Rattle.ep_table.specs.Counting.{Lowers, numbers}
use Rattle.ep_table.specs.Processes.{Process, lists}
use Rattle.ep_table.specs.Value.{Queue, Seen, SoundThings, Things, count_at, number_at, times}
use Rattle.ep_table.specs.View.{IsTables, LiveAll, LiveProcess, LiveTable, slot_in, table_in, tables_in, value_of}
use Rattle.ep_table.specs.declared.tables.Tables.TheInside.{Inside}
use Rattle.ep_table.specs.declared.words.Dead.{Dead}
use Rattle.ep_table.specs.declared.words.Descriptor.{Descriptor}
use Rattle.ep_table.proofs.CloseLemmas.{less_numbered}
use Rattle.ep_table.proofs.TimesLemmas.{all_set, among_times, once, process_times, slot_times, table_times, table_unset, times_append}
use Rattle.ep_table.proofs.CreateLemmas.{with_store}
use Rattle.ep_table.proofs.AddLemmas.{Fits}
use Rattle.ep_table.proofs.QueueLemmas.{no_names}
use Rattle.ep_table.proofs.ViewLemmas.{live_at, tables_at}
use Rattle.ep_table.proofs.TableLemmas.{counts_ended, numbers_at, slot_within, table_within}

pub slot_named : (o : Option Slot) (n d : ℕ) → description_in o ≡ Some n → slot_times d o ≡ once d n
slot_named None n d h = absurd cc
slot_named (Some x) n d h = let e : x.description ≡ n = cc in ap (λ (m : ℕ). once d m) e

once_one : (n : ℕ) → once n n ≡ 1
once_one n = rw (let e : (n == n) ≡ true = grind (arith, nat_tests) in e) refl

pub positive : (n : ℕ) → nat_lt 0 n ≡ true → 0 < n
positive n h = grind (arith, nat_tests, h)

module _ {A : Type 0} (k : Inside A) (inv : IsTables k) (p : ℕ) where
  abbrev ts : List (Option Table)
  ts = (value_of k).files.tables

  pub named_counts : (n : ℕ) → is_among (named_in_tables ts) n ≡ true → 0 < count_at k.store.names n
  named_counts n h = let l = positive (times n (named_in_tables ts)) (sym (among_times n (named_in_tables ts)) ∙ h) in omega (arith, l, inv.counts n)

  pub slot_counts : (is : IsSome (get_or ts p None)) (i n : ℕ) → description_in (get_or (numbers_at k.store.names ts p is inv.counts) i None) ≡ Some n → 0 < count_at k.store.names n
  slot_counts is i n h = omega (arith, slot_within k.store.names ts p is inv.counts i n, slot_named (get_or (numbers_at k.store.names ts p is inv.counts) i None) n n h, once_one n)

whole_table : (n : ℕ) (o : Option Table) → IsSome o → process_times n o ≡ table_times n (unwrap_or o [])
whole_table n None h = absurd (false≢true h)
whole_table n (Some t) h = refl

some_there : (o : Option Table) (i n : ℕ) → description_in (get_or (unwrap_or o []) i None) ≡ Some n → IsSome o
some_there None i n h = absurd cc
some_there (Some t) i n h = refl

-- what stands under a number is named
pub under_named : (s : Files) (p n : ℕ) (fd : ℤ) → Some n ≡ under s p fd → is_among (named_in_tables s.tables) n ≡ true
under_named s p n (negsuc i) h = absurd cc
under_named s p n (pos i) h =
    let o = get_or s.tables p None in
    let t = unwrap_or o [] in
    let there = some_there o i n (sym h) in
    let one = slot_named (get_or t i None) n n (sym h) in
    let whole : process_times n o ≡ table_times n t = whole_table n o there in
    among_times n (named_in_tables s.tables) ∙ is_positive (times n (named_in_tables s.tables)) (omega (arith, one, once_one n, table_unset n t i, whole, all_set n s.tables p None there))

-- the table of a process that is there
module _ {A : Type 0} (k : Inside A) (inv : IsTables k) (p : ℕ) (t : List (Option Descriptor)) (is : Some t ≡ get_or (lists k.processes.items) p None) where
  abbrev keys : List (Option ℕ)
  keys = k.store.keys

  abbrev tables : List (Option Table)
  tables = (value_of k).files.tables

  pub table_is : get_or tables p None ≡ Some (map (slot_in keys) t)
  table_is = tables_at keys (lists k.processes.items) p ∙ ap (table_in keys) (sym is)

  pub table_there : IsSome (get_or tables p None)
  table_there = subst (λ (o : Option Table). IsSome o) (sym table_is) refl

  pub numbers_are : numbers_at k.store.names tables p table_there inv.counts ≡ map (slot_in keys) t
  numbers_are = ap (λ (o : Option Table). unwrap_or o []) table_is

  pub table_live : LiveTable keys t
  table_live = subst (λ (q : Process). LiveProcess keys q) (sym is) (live_at keys (lists k.processes.items) p inv.live)

  pub names_within : (d : ℕ) → times d (numbers keys t) ≤ count_at k.store.names d
  names_within d = omega (arith, table_within k.store.names tables p table_there inv.counts d, ap (table_times d) numbers_are)

  ended : tables_in keys (slice_set (lists k.processes.items) p None) ≡ slice_set tables p None
  ended = map_set (table_in keys) (lists k.processes.items) p None

  pub lives_before : length (numbered 0 (slice_set tables p None)) + 1 ≡ k.living
  lives_before = less_numbered 0 p tables (map (slot_in keys) t) table_is ∙ sym inv.living

  live_none : (ps : List Process) (i : ℕ) → LiveAll keys ps → LiveAll keys (slice_set ps i None)
  live_none [] i h = tt
  live_none (q ∷ ps) zero h = (tt, h.1)
  live_none (q ∷ ps) (suc i) h = (h.0, live_none ps i h.1)

  -- all numbers go
  module _ (s : Things) (l : Lowers k.store s (numbers keys t)) (ps : List Process) (written : ps ≡ slice_set (lists k.processes.items) p None) where
    pub tables_ended : tables_in s.keys ps ≡ slice_set tables p None
    tables_ended = ap (λ (w : Things). tables_in w.keys ps) l.same ∙ (ap (λ (qs : List Process). tables_in keys qs) written ∙ ended)

    pub fits_ended : Fits (k.living - 1) s ps
    fits_ended = record {
      live = subst (λ (w : Things). LiveAll w.keys ps) (sym l.same) (subst (λ (qs : List Process). LiveAll keys qs) (sym written) (live_none (lists k.processes.items) p inv.live));
      counts = λ d. counts_ended k.store.names tables p table_there inv.counts s.names (λ e. omega (arith, l.names e, ap (table_times e) numbers_are)) d ∙ ap (λ (xs : List (Option Table)). times d (named_in_tables xs)) (sym tables_ended);
      living = omega (arith, lives_before, ap (λ (xs : List (Option Table)). length (numbered 0 xs)) tables_ended);
    }

-- a key under which nothing is named is free
module _ (old : List (Option ℕ)) (key : DescId) (n : ℕ) (is : number_at old key ≡ Some n) where
  abbrev new : List (Option ℕ)
  new = slice_set old key.0 None

  same_number : (k : DescId) → k.0 ≢ key.0 → number_at new k ≡ number_at old k
  same_number k ne = get_or-set_other old key.0 k.0 None None ne

  apart : (x : Descriptor) → once n (unwrap_or (number_at old x.description) 0) ≡ 0 → x.description.0 ≢ key.0
  apart x h e =
      let f : unwrap_or (number_at old x.description) 0 ≡ n = ap (λ (o : Option ℕ). unwrap_or o 0) (ap (λ (i : ℕ). get_or old i None) e ∙ is) in
      let g : once n n ≡ 0 = ap (once n) (sym f) ∙ h in
      omega (arith, g, once_one n)

  free_slots : (t : List (Option Descriptor)) → times n (numbers old t) ≡ 0 → map (slot_in new) t ≡ map (slot_in old) t
  free_slots [] h = refl
  free_slots (None ∷ t) h = ap (λ (r : Table). None ∷ r) (free_slots t h)
  free_slots (Some x ∷ t) h =
      let e = same_number x.description (apart x (omega (arith, h))) in
      let r = free_slots t (omega (arith, h)) in
      λ i. Some (slot (unwrap_or (e i) 0) x.cloexec) ∷ r i

  free_table : (q : Process) → process_times n (table_in old q) ≡ 0 → table_in new q ≡ table_in old q
  free_table None h = refl
  free_table (Some t) h = ap (λ (r : Table). Some r) (free_slots t h)

  pub free_tables : (ps : List Process) → times n (named_in_tables (tables_in old ps)) ≡ 0 → tables_in new ps ≡ tables_in old ps
  free_tables [] h = refl
  free_tables (q ∷ ps) h =
      let s = times_append n (named_in (table_in old q)) (named_in_tables (tables_in old ps)) in
      let e = free_table q (omega (arith, h, s)) in let r = free_tables ps (omega (arith, h, s)) in λ i. e i ∷ r i

  live_slots : (t : List (Option Descriptor)) → times n (numbers old t) ≡ 0 → LiveTable old t → LiveTable new t
  live_slots [] h l = tt
  live_slots (None ∷ t) h l = (tt, live_slots t h l.1)
  live_slots (Some x ∷ t) h l = (subst (λ (o : Option ℕ). IsSome o) (sym (same_number x.description (apart x (omega (arith, h))))) l.0, live_slots t (omega (arith, h)) l.1)

  live_table : (q : Process) → process_times n (table_in old q) ≡ 0 → LiveProcess old q → LiveProcess new q
  live_table None h l = tt
  live_table (Some t) h l = live_slots t h l

  pub free_live : (ps : List Process) → times n (named_in_tables (tables_in old ps)) ≡ 0 → LiveAll old ps → LiveAll new ps
  free_live [] h l = tt
  free_live (q ∷ ps) h l =
      let s = times_append n (named_in (table_in old q)) (named_in_tables (tables_in old ps)) in
      (live_table q (omega (arith, h, s)) l.0, free_live ps (omega (arith, h, s)) l.1)

-- one that nothing names died
module _ {A : Type 0} (k : Inside A) (v : Seen) (inv : IsTables k) (same : value_of k ≡ v) (sound : SoundThings k.store) (s : Things) where
  abbrev qs : List Process
  qs = lists k.processes.items

  unnamed : (dead : Dead) (dies : Dies k.store s dead) → times dies.number (named_in_tables (tables_in k.store.keys qs)) ≡ 0
  unnamed dead dies =
      let q : Queue k.store.descriptions k.store.names k.store.holds (dies.number ∷ s.dying) = subst (λ (xs : List ℕ). Queue k.store.descriptions k.store.names k.store.holds xs) dies.dying sound.queue in
      sym (inv.counts dies.number) ∙ no_names k.store.descriptions k.store.names k.store.holds s.dying dies.number q

  tables_same : (dead : Dead) (dies : Dies k.store s dead) → tables_in s.keys qs ≡ tables_in k.store.keys qs
  tables_same dead dies = ap (λ (keys : List (Option ℕ)). tables_in keys qs) dies.keys ∙ free_tables k.store.keys dead.desc dies.number dies.key_is qs (unnamed dead dies)

  pub fits_taken : (o : Option Dead) → IfNone o ((s ≡ k.store) × (k.store.dying ≡ [])) → IfSome o (λ dead. Dies k.store s dead) → Fits k.living s qs
  fits_taken None n d =
      let f : Fits k.living k.store qs = record { live = inv.live; counts = inv.counts; living = inv.living } in
      subst (λ (w : Things). Fits k.living w qs) (sym n.0) f
  fits_taken (Some dead) n d = record {
    live = subst (λ (keys : List (Option ℕ)). LiveAll keys qs) (sym d.keys) (free_live k.store.keys dead.desc d.number d.key_is qs (unnamed dead d) inv.live);
    counts = λ e. ap (λ (xs : List ℕ). count_at xs e) d.names ∙ (inv.counts e ∙ ap (λ (xs : List (Option Table)). times e (named_in_tables xs)) (sym (tables_same dead d)));
    living = inv.living ∙ ap (λ (xs : List (Option Table)). length (numbered 0 xs)) (sym (tables_same dead d));
  }

  takes : (dead : Dead) → Dies k.store s dead → Takes (value_of k) (with_store k qs s) dead
  takes dead d =
      let t = tables_same dead d in
      record {
        number = d.number;
        key_is = d.key_is;
        dying = d.dying;
        place = d.place;
        place_is = d.place_is;
        files = λ i. record (d.files i) { tables = t i };
        keys = d.keys;
        limits = refl;
        holds = d.holds;
        losses = d.losses;
        end_is = d.end_is;
        raised_is = d.raised_is;
        other = record { some = d.other.some; none = d.other.none };
      }

  pub takes_some : (o : Option Dead) → IfSome o (λ dead. Dies k.store s dead) → IfSome o (λ dead. Takes v (with_store k qs s) dead)
  takes_some None d = tt
  takes_some (Some dead) d = subst (λ (w : Seen). Takes w (with_store k qs s) dead) same (takes dead d)

pub lowers_rest : (old s : Things) (ns : List ℕ) → Lowers old s ns → s ≡ record old { names = s.names; dying = s.dying; named = s.named }
lowers_rest old s ns l = l.same ∙ (λ i. record old { names = s.names; dying = s.dying; named = ap (λ (w : Things). w.named) (sym l.same) i })
