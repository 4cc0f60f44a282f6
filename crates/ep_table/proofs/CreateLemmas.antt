-- New descriptions in the tables.
use Rattle.std.proofs.Common.{Bool, IsSome, List, None, Option, Some, [], ap, get_or, inl, inr, length, length-append, refl, slice_set, subst, sym, unwrap_or, ℕ, ◌++◌, ◌+◌, ◌<◌, ◌∙◌, ◌∷◌, ◌≡◌}
use Rattle.std.proofs.lemmas.Bool.{false≢true}
use Rattle.std.proofs.lemmas.List.{get_or-set_same, get_or_past}
use Rattle.ep_facts.proofs.NatFacts.{below_or}
use Rattle.ep_facts.proofs.ListFacts.{map_set, set_set}
use Rattle.ep_base.specs.declared.ids.DescId.{DescId}
use Rattle.ep_base.specs.declared.object.End.TheVariants.{First}
use Rattle.ep_machine.specs.Files.{Place, Table, table_of}
use Rattle.ep_machine.specs.Lists.{enter}
use Rattle.ep_machine.specs.Objects.{Object}
use Rattle.ep_machine.specs.Tables.{slot}
use Rattle.ep_table.specs.Processes.{Process, entered, lists, process_of}
use Rattle.ep_table.specs.Value.{AddsKey, CreatesOne, CreatesTwo, InsertsOne, InsertsTwo, Seen, Things, number_at}
use Rattle.ep_table.specs.View.{LiveAll, table_in, tables_in, value_of}
use Rattle.ep_table.specs.declared.table.Table.{Table as Slots}
use Rattle.ep_table.specs.declared.tables.Tables.TheInside.{Inside}
use Rattle.ep_table.specs.declared.words.Descriptor.{Descriptor}
use Rattle.ep_table.proofs.ViewLemmas.{enter_seen, key_live, key_number_is, lists_at, live_at, live_entered, live_set, more_live, same_table, same_tables, tables_at}

pub within : {X : Type 0} (xs : List (Option X)) (i : ℕ) → IsSome (get_or xs i None) → i < length xs
within {X} xs i h = elim (below_or i (length xs)) [ inl l ↦ l | inr le ↦ absurd (false≢true (subst (λ (o : Option X). IsSome o) (get_or_past xs i None le) h)) ]

pub process_some : (keys : List (Option ℕ)) (q : Process) → IsSome (table_in keys q) → IsSome q
process_some keys None h = h
process_some keys (Some t) h = refl

pub entered_seen : (keys : List (Option ℕ)) (q : Process) (x : Descriptor) → IsSome (table_in keys q)
    → table_in keys (entered q x) ≡ Some (enter (unwrap_or (table_in keys q) []) (slot (unwrap_or (number_at keys x.description) 0) x.cloexec))
entered_seen keys None x h = absurd (false≢true h)
entered_seen keys (Some t) x h = ap (λ (r : Table). Some r) (enter_seen keys t x)

-- a descriptor more, for a new key
module _ (old new : List (Option ℕ)) (key : DescId) (n : ℕ) (adds : AddsKey old new key n) (ps : List Process) (live : LiveAll old ps) (p : ℕ) (cloexec : Bool)
    (there : IsSome (get_or (tables_in old ps) p None)) where
  abbrev x : Descriptor
  x = record { description = key; cloexec = cloexec }

  abbrev q : Process
  q = get_or ps p None

  pub live_one : LiveAll new (slice_set ps p (entered q x))
  live_one = let l = more_live old new key n adds ps live in live_set new ps p (entered q x) l (live_entered new q x (live_at new ps p l) (key_live old new key n adds))

  seen_new : table_in new q ≡ get_or (tables_in old ps) p None
  seen_new = same_table old new key n adds q (live_at old ps p live) ∙ sym (tables_at old ps p)

  pub process_there : IsSome q
  process_there = process_some old q (subst (λ (t : Option Table). IsSome t) (tables_at old ps p) there)

  pub tables_one : tables_in new (slice_set ps p (entered q x)) ≡ slice_set (tables_in old ps) p (Some (enter (unwrap_or (get_or (tables_in old ps) p None) []) (slot n cloexec)))
  tables_one =
      let e = same_tables old new key n adds ps live in
      let s : IsSome (table_in new q) = subst (λ (t : Option Table). IsSome t) (sym seen_new) there in
      let m = key_number_is old new key n adds in
      let f : table_in new (entered q x) ≡ Some (enter (unwrap_or (get_or (tables_in old ps) p None) []) (slot n cloexec)) =
      entered_seen new q x s ∙ (λ i. Some (enter (unwrap_or (seen_new i) []) (slot (m i) cloexec))) in
      map_set (table_in new) ps p (entered q x) ∙ (λ i. slice_set (e i) p (f i))

-- two of them
module _ (old mid new : List (Option ℕ)) (first second : DescId) (n m : ℕ) (a : AddsKey old mid first n) (b : AddsKey mid new second m) (ps : List Process) (live : LiveAll old ps) (p : ℕ) (cloexec : Bool)
    (there : IsSome (get_or (tables_in old ps) p None)) where
  abbrev x1 : Descriptor
  x1 = record { description = first; cloexec = cloexec }

  abbrev x2 : Descriptor
  x2 = record { description = second; cloexec = cloexec }

  abbrev q1 : Process
  q1 = entered (get_or ps p None) x1

  abbrev ps1 : List Process
  ps1 = slice_set ps p q1

  abbrev tables1 : List (Option Table)
  tables1 = slice_set (tables_in old ps) p (Some (enter (unwrap_or (get_or (tables_in old ps) p None) []) (slot n cloexec)))

  first_tables : tables_in mid ps1 ≡ tables1
  first_tables = tables_one old mid first n a ps live p cloexec there

  first_live : LiveAll mid ps1
  first_live = live_one old mid first n a ps live p cloexec there

  first_here : get_or ps1 p None ≡ q1
  first_here = get_or-set_same ps p q1 None (within ps p (process_there old mid first n a ps live p cloexec there))

  still_there : IsSome (get_or (tables_in mid ps1) p None)
  still_there =
      let e = get_or-set_same (tables_in old ps) p (Some (enter (unwrap_or (get_or (tables_in old ps) p None) []) (slot n cloexec))) None (within (tables_in old ps) p there) in
      subst (λ (o : Option Table). IsSome o) (sym (ap (λ (ts : List (Option Table)). get_or ts p None) first_tables ∙ e)) refl

  last_is : slice_set ps p (entered q1 x2) ≡ slice_set ps1 p (entered (get_or ps1 p None) x2)
  last_is = sym (set_set ps p q1 (entered q1 x2)) ∙ ap (λ (r : Process). slice_set ps1 p (entered r x2)) (sym first_here)

  pub live_two : LiveAll new (slice_set ps p (entered q1 x2))
  live_two = subst (λ (rs : List Process). LiveAll new rs) (sym last_is) (live_one mid new second m b ps1 first_live p cloexec still_there)

  pub tables_two : tables_in new (slice_set ps p (entered q1 x2)) ≡ slice_set tables1 p (Some (enter (unwrap_or (get_or tables1 p None) []) (slot m cloexec)))
  tables_two =
      ap (λ (rs : List Process). tables_in new rs) last_is
      ∙ (tables_one mid new second m b ps1 first_live p cloexec still_there
      ∙ ap (λ (ts : List (Option Table)). slice_set ts p (Some (enter (unwrap_or (get_or ts p None) []) (slot m cloexec)))) first_tables)

-- what is entered into the lists of the tables
pub lists_entered : {A : Type 0} (f : Process → Process) (xs ys zs : List (Option (Slots A))) (p : ℕ) → lists ys ≡ lists xs → lists zs ≡ slice_set (lists ys) p (f (process_of ys p)) → lists zs ≡ slice_set (lists xs) p (f (get_or (lists xs) p None))
lists_entered f xs ys zs p e h = h ∙ (ap (λ (q : Process). slice_set (lists ys) p (f q)) (sym (lists_at ys p)) ∙ ap (λ (ps : List Process). slice_set ps p (f (get_or ps p None))) e)

abbrev pub with_store : {A : Type 0} → Inside A → List Process → Things → Seen
with_store k ps s = record {
  limits = k.limits;
  files = record { tables = tables_in s.keys ps; descriptions = s.descriptions; objects = s.objects };
  keys = s.keys;
  holds = s.holds;
  dying = s.dying;
  losses = s.losses;
}

pub live_creates_one : {A : Type 0} (k : Inside A) (s : Things) (ps : List Process) (p : ℕ) (key : DescId) (cloexec : Bool) → LiveAll k.store.keys (lists k.processes.items) → IsSome (table_of (value_of k).files p) → AddsKey k.store.keys s.keys key (length k.store.descriptions)
    → ps ≡ slice_set (lists k.processes.items) p (entered (get_or (lists k.processes.items) p None) (record { description = key; cloexec = cloexec })) → LiveAll s.keys ps
live_creates_one k s ps p key cloexec inv there adds e =
    subst (λ (qs : List Process). LiveAll s.keys qs) (sym e) (live_one k.store.keys s.keys key (length k.store.descriptions) adds (lists k.processes.items) inv p cloexec there)

pub creates_one : {A : Type 0} (k : Inside A) (v : Seen) (s : Things) (ps : List Process) (p : ℕ) (key : DescId) (o : Object) (cloexec : Bool) → LiveAll k.store.keys (lists k.processes.items) → value_of k ≡ v → IsSome (table_of (value_of k).files p) → InsertsOne k.store s key o
    → ps ≡ slice_set (lists k.processes.items) p (entered (get_or (lists k.processes.items) p None) (record { description = key; cloexec = cloexec })) → CreatesOne v (with_store k ps s) p o cloexec
creates_one k v s ps p key o cloexec inv same there ins e =
    let t = ap (λ (qs : List Process). tables_in s.keys qs) e ∙ tables_one k.store.keys s.keys key (length k.store.descriptions) ins.keys (lists k.processes.items) inv p cloexec there in
    let r : CreatesOne (value_of k) (with_store k ps s) p o cloexec = record {
      files = λ i. record { tables = t i; descriptions = ins.descriptions i; objects = ins.objects i };
      keys = record { key = key; adds = ins.keys };
      limits = refl;
      holds = ins.holds;
      dying = ins.dying;
      losses = ins.losses;
    } in
    subst (λ (w : Seen). CreatesOne w (with_store k ps s) p o cloexec) same r

pub live_creates_two : {A : Type 0} (k : Inside A) (s : Things) (ps : List Process) (p : ℕ) (first second : DescId) (o : Object) (cloexec : Bool) → LiveAll k.store.keys (lists k.processes.items) → IsSome (table_of (value_of k).files p) → InsertsTwo k.store s first second o
    → ps ≡ slice_set (lists k.processes.items) p (entered (entered (get_or (lists k.processes.items) p None) (record { description = first; cloexec = cloexec })) (record { description = second; cloexec = cloexec })) → LiveAll s.keys ps
live_creates_two k s ps p first second o cloexec inv there ins e =
    subst (λ (qs : List Process). LiveAll s.keys qs) (sym e) (live_two k.store.keys ins.middle s.keys first second (length k.store.descriptions) (length k.store.descriptions + 1) ins.first_key ins.second_key (lists k.processes.items) inv p cloexec there)

pub creates_two : {A : Type 0} (k : Inside A) (v : Seen) (s : Things) (ps : List Process) (p : ℕ) (first second : DescId) (o : Object) (cloexec : Bool) → LiveAll k.store.keys (lists k.processes.items) → value_of k ≡ v → IsSome (table_of (value_of k).files p) → InsertsTwo k.store s first second o
    → ps ≡ slice_set (lists k.processes.items) p (entered (entered (get_or (lists k.processes.items) p None) (record { description = first; cloexec = cloexec })) (record { description = second; cloexec = cloexec })) → CreatesTwo v (with_store k ps s) p o cloexec
creates_two k v s ps p first second o cloexec inv same there ins e =
    let n = length k.store.descriptions in
    let place : Place = record { object = length k.store.objects; side = First } in
    let old = tables_in k.store.keys (lists k.processes.items) in
    let tables : List (Option Table) = slice_set old p (Some (enter (unwrap_or (get_or old p None) []) (slot n cloexec))) in
    let l : n + 1 ≡ length (k.store.descriptions ++ Some place ∷ []) = sym (length-append k.store.descriptions (Some place ∷ [])) in
    let t = ap (λ (qs : List Process). tables_in s.keys qs) e
    ∙ (tables_two k.store.keys ins.middle s.keys first second n (n + 1) ins.first_key ins.second_key (lists k.processes.items) inv p cloexec there
    ∙ ap (λ (m : ℕ). slice_set tables p (Some (enter (unwrap_or (get_or tables p None) []) (slot m cloexec)))) l) in
    let r : CreatesTwo (value_of k) (with_store k ps s) p o cloexec = record {
      files = λ i. record { tables = t i; descriptions = ins.descriptions i; objects = ins.objects i };
      keys = record { middle = ins.middle; first = record { key = first; adds = ins.first_key }; second = record { key = second; adds = ins.second_key } };
      limits = refl;
      holds = ins.holds;
      dying = ins.dying;
      losses = ins.losses;
    } in
    subst (λ (w : Seen). CreatesTwo w (with_store k ps s) p o cloexec) same r
