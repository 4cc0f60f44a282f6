-- What a descriptor number names.
use Rattle.std.proofs.Common.{Bool, true, not, nat_lt, arith, ◌&&◌, ◌==◌, IsSome, List, None, Option, Some, Bor, ap, get_or, is_some, negsuc, option_copied, pos, refl, subst, sym, ℕ, ℤ, ◌∙◌, ◌≡◌, false}
use Rattle.ep_base.specs.declared.ids.DescId.{DescId}
use Rattle.ep_machine.specs.Files.{Table as Numbers, description_in, slot_under, under, table_of}
use Rattle.ep_table.specs.Processes.{items_of, process_of, slots_of}
use Rattle.std.proofs.lemmas.Bool.Decides.{nat_tests}
use Rattle.ep_facts.proofs.OptionFacts.{number_of}
use Rattle.ep_machine.specs.Deaths.{named_in_tables}
use Rattle.ep_machine.specs.Files.{is_live}
use Rattle.ep_machine.specs.Lists.{is_among}
use Rattle.ep_table.proofs.TimesLemmas.{among_times}
use Rattle.ep_table.specs.Value.{Seen, Sound, SoundThings, count_at, natural, times, number_at, number_found, number_under}
use Rattle.ep_table.specs.View.{IsTables, LiveSlot, slot_in, table_in, value_of}
use Rattle.ep_table.specs.declared.table.Table.{Table}
use Rattle.ep_table.specs.declared.tables.Tables.TheInside.{Inside}
use Rattle.ep_table.specs.declared.words.Descriptor.{Descriptor}
use Rattle.ep_table.proofs.ViewLemmas.{live_found, lowest_seen, numbers_seen, second_seen, slots_at, table_seen}
use Rattle.ep_machine.specs.Files.{numbers_of}
use Rattle.ep_machine.specs.Lists.{enter, lowest_free}
use Rattle.ep_machine.specs.Tables.{one_free, second_free}

copied_some : {T : Type 0} (o : Option (Bor T)) → is_some (option_copied o) ≡ is_some o
copied_some None = refl
copied_some (Some x) = refl

table_there : {A : Type 0} (keys : List (Option ℕ)) (t : Option (Table A)) → is_some (table_in keys (items_of t)) ≡ is_some t
table_there keys None = refl
table_there keys (Some t) = refl

-- whether a process is there
pub there_is : {A : Type 0} (k : Inside A) (v : Seen) (p : ℕ) (o : Option (Bor (Table A))) → value_of k ≡ v → option_copied o ≡ get_or k.processes.items p None → is_some o ≡ is_some (table_of v.files p)
there_is {A} k v p o same e =
    sym (copied_some o) ∙ (ap (λ (t : Option (Table A)). is_some t) e
    ∙ (sym (table_there k.store.keys (get_or k.processes.items p None))
    ∙ (ap (λ (t : Option Numbers). is_some t) (sym (table_seen k.store.keys k.processes.items p))
    ∙ ap (λ (w : Seen). is_some (table_of w.files p)) same)))

abbrev pub key_of : Option Descriptor → Option DescId
key_of None = None
key_of (Some x) = Some x.description

number_in : (keys : List (Option ℕ)) (v : Seen) (o : Option Descriptor) → keys ≡ v.keys → LiveSlot keys o → number_found v (key_of o) ≡ description_in (slot_in keys o)
number_in keys v None e h = refl
number_in keys v (Some x) e h = ap (λ (ks : List (Option ℕ)). number_at ks x.description) (sym e) ∙ number_of (number_at keys x.description) h

-- a number that is none below 0
under_at : {A : Type 0} (k : Inside A) (v : Seen) (p i : ℕ) (o : Option Descriptor) → IsTables k → value_of k ≡ v → o ≡ get_or (slots_of (process_of k.processes.items p)) i None → number_found v (key_of o) ≡ under v.files p (pos i)
under_at k v p i o inv same e =
    let keys = k.store.keys in
    let t = slots_of (process_of k.processes.items p) in
    let live : LiveSlot keys o = subst (λ (x : Option Descriptor). LiveSlot keys x) (sym e) (live_found keys k.processes.items p i inv.live) in
    number_in keys v o (ap (λ (w : Seen). w.keys) same) live
    ∙ (ap (λ (x : Option Descriptor). description_in (slot_in keys x)) e
    ∙ (ap description_in (sym (slots_at keys t i))
    ∙ (ap (λ (ns : Numbers). description_in (slot_under ns (pos i))) (sym (numbers_seen keys k.processes.items p))
    ∙ ap (λ (w : Seen). under w.files p (pos i)) same)))

pub under_is : {A : Type 0} (k : Inside A) (v : Seen) (p i : ℕ) (fd : ℤ) (o : Option Descriptor) → IsTables k → value_of k ≡ v → natural fd ≡ Some i → o ≡ get_or (slots_of (process_of k.processes.items p)) i None → number_found v (key_of o) ≡ under v.files p fd
under_is k v p i (pos j) o inv same n e = let f : j ≡ i = cc in under_at k v p i o inv same e ∙ ap (λ (m : ℕ). under v.files p (pos m)) (sym f)
under_is k v p i (negsuc j) o inv same n e = absurd cc

pub live_is : {A : Type 0} (k : Inside A) (v : Seen) (p i : ℕ) (x : Descriptor) → IsTables k → value_of k ≡ v → Some x ≡ get_or (slots_of (process_of k.processes.items p)) i None → IsSome (number_under v x.description)
live_is k v p i x inv same e =
    let keys = k.store.keys in
    let live : IsSome (number_at keys x.description) = subst (λ (o : Option Descriptor). LiveSlot keys o) (sym e) (live_found keys k.processes.items p i inv.live) in
    subst (λ (w : Seen). IsSome (number_at w.keys x.description)) same live

-- the lowest free number of a process
pub one_is : {A : Type 0} (k : Inside A) (v : Seen) (p n : ℕ) (xs : List (Option (Table A))) → value_of k ≡ v → xs ≡ k.processes.items → n ≡ lowest_free (slots_of (process_of xs p)) → n ≡ one_free (numbers_of v.files p)
one_is {A} k v p n xs same e h =
    h ∙ (ap (λ (ys : List (Option (Table A))). lowest_free (slots_of (process_of ys p))) e
    ∙ (sym (lowest_seen k.store.keys (slots_of (process_of k.processes.items p)))
    ∙ (ap (λ (t : Numbers). lowest_free t) (sym (numbers_seen k.store.keys k.processes.items p))
    ∙ ap (λ (w : Seen). one_free (numbers_of w.files p)) same)))

-- and the next one
pub second_is : {A : Type 0} (k : Inside A) (v : Seen) (p n : ℕ) (xs : List (Option (Table A))) → value_of k ≡ v → xs ≡ k.processes.items → ((x : Descriptor) → n ≡ lowest_free (enter (slots_of (process_of xs p)) x)) → n ≡ second_free (numbers_of v.files p)
second_is {A} k v p n xs same e h =
    let x : Descriptor = record { description = record { 0 = 0 }; cloexec = false } in
    h x ∙ (ap (λ (ys : List (Option (Table A))). lowest_free (enter (slots_of (process_of ys p)) x)) e
    ∙ (second_seen k.store.keys (slots_of (process_of k.processes.items p)) x
    ∙ (ap (λ (t : Numbers). second_free t) (sym (numbers_seen k.store.keys k.processes.items p))
    ∙ ap (λ (w : Seen). second_free (numbers_of w.files p)) same)))

key_for : (v : Seen) (d : ℕ) (o : Option DescId) → number_found v o ≡ Some d → (key : DescId) × (number_under v key ≡ Some d)
key_for v d None h = absurd cc
key_for v d (Some key) h = (key, h)

named_is : {A : Type 0} (k : Inside A) (v : Seen) → IsTables k → value_of k ≡ v → (p d : ℕ) (fd : ℤ) → under v.files p fd ≡ Some d → (key : DescId) × (number_under v key ≡ Some d)
named_is k v inv same p d (pos i) h = key_for v d (key_of (get_or (slots_of (process_of k.processes.items p)) i None)) (under_at k v p i (get_or (slots_of (process_of k.processes.items p)) i None) inv same refl ∙ h)
named_is k v inv same p d (negsuc i) h = absurd cc

not_among : (b : Bool) (n : ℕ) → b ≡ nat_lt 0 n → not b ≡ (n == 0)
not_among true n h = grind (arith, nat_tests, h)
not_among false n h = grind (arith, nat_tests, h)

-- what holds of every value
sound_inside : {A : Type 0} (k : Inside A) → IsTables k → SoundThings k.store → Sound (value_of k)
sound_inside k inv s = record {
  one = s.one;
  place = s.place;
  object = s.object;
  named = λ p d fd h. named_is k (value_of k) inv refl p d fd h;
  keyed = s.keyed;
  apart = s.apart;
  held = s.held;
  holds_length = s.holds_length;
  distinct = s.queue.distinct;
  dying = λ d.
      let names = named_in_tables (value_of k).files.tables in
      let e : not (is_among names d) ≡ (count_at k.store.names d == 0) = not_among (is_among names d) (times d names) (among_times d names) ∙ ap (λ (n : ℕ). n == 0) (sym (inv.counts d)) in
      s.queue.law d ∙ (λ i. is_live (value_of k).files d && (sym e i && count_at k.store.holds d == 0));
}

pub sound_is : {A : Type 0} (k : Inside A) (v : Seen) → IsTables k → value_of k ≡ v → SoundThings k.store → Sound v
sound_is k v inv same s = subst (λ (w : Seen). Sound w) same (sound_inside k inv s)
