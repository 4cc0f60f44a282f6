-- A process more.
use Rattle.std.proofs.Common.{IsSome, List, None, Option, Some, [], ap, arith, get_or, length, refl, subst, sym, unwrap_or, ℕ, ◌++◌, ◌+◌, ◌∙◌, ◌∷◌, ◌≡◌}
use Rattle.std.proofs.lemmas.Bool.{false≢true}
use Rattle.ep_facts.proofs.ListFacts.{map_push}
use Rattle.ep_machine.specs.Files.{Table}
use Rattle.ep_machine.specs.Lists.{numbered}
use Rattle.ep_machine.specs.Tables.{fork}
use Rattle.ep_table.specs.Processes.{Process, items_of, lists, process_of}
use Rattle.ep_table.specs.Value.{Seen}
use Rattle.ep_table.specs.View.{IsTables, LiveAll, LiveProcess, table_in, tables_in, value_of}
use Rattle.ep_table.specs.declared.table.Table.{Table as Slots}
use Rattle.ep_table.specs.declared.tables.Tables.TheInside.{Inside}
use Rattle.ep_machine.specs.Deaths.{named_in_tables}
use Rattle.ep_table.specs.Counting.{Raises, numbers}
use Rattle.ep_table.specs.Value.{Things, times}
use Rattle.ep_table.specs.declared.words.Descriptor.{Descriptor}
use Rattle.ep_table.proofs.TimesLemmas.{table_times}
use Rattle.ep_table.proofs.CreateLemmas.{with_store}
use Rattle.ep_table.proofs.AddLemmas.{Fits}
use Rattle.ep_table.proofs.InsertLemmas.{numbered_push}
use Rattle.ep_table.proofs.UnnameLemmas.{numbers_are, table_there}
use Rattle.ep_table.proofs.TableLemmas.{counts_forked}
use Rattle.ep_table.proofs.ViewLemmas.{live_process, table_seen}

live_push : (keys : List (Option ℕ)) (ps : List Process) (p : Process) → LiveAll keys ps → LiveProcess keys p → LiveAll keys (ps ++ p ∷ [])
live_push keys [] p h k = (k, tt)
live_push keys (q ∷ ps) p h k = (h.0, live_push keys ps p h.1 k)

pub live_forked : {A : Type 0} (k : Inside A) (xs : List (Option (Slots A))) (p : ℕ) (t : Option (Slots A)) → IsTables k → xs ≡ k.processes.items ++ t ∷ [] → items_of t ≡ process_of k.processes.items p → LiveAll k.store.keys (lists xs)
live_forked k xs p t inv e h =
    let keys = k.store.keys in
    let l : LiveProcess keys (items_of t) = subst (λ (q : Process). LiveProcess keys q) (sym h) (live_process keys k.processes.items p inv.live) in
    subst (λ (ys : List Process). LiveAll keys ys) (sym (ap lists e ∙ map_push items_of k.processes.items t)) (live_push keys (lists k.processes.items) (items_of t) inv.live l)

table_some : (keys : List (Option ℕ)) (t : Option Table) → IsSome t → t ≡ Some (unwrap_or t [])
table_some keys None h = absurd (false≢true h)
table_some keys (Some t) h = refl

-- a copy of a table that is there
module _ {A : Type 0} (k : Inside A) (v : Seen) (inv : IsTables k) (same : value_of k ≡ v) (p : ℕ) (u : List (Option Descriptor)) (is : Some u ≡ get_or (lists k.processes.items) p None) (xs : List (Option (Slots A))) (t : Option (Slots A))
    (e : xs ≡ k.processes.items ++ t ∷ []) (h : items_of t ≡ process_of k.processes.items p) (s : Things) (r : Raises k.store s (numbers k.store.keys u)) where
  abbrev keys : List (Option ℕ)
  keys = k.store.keys

  abbrev old : List (Option Table)
  old = tables_in keys (lists k.processes.items)

  there : IsSome (get_or old p None)
  there = table_there k inv p u is

  pushed : tables_in s.keys (lists xs) ≡ old ++ Some (unwrap_or (get_or old p None) []) ∷ []
  pushed =
      let f : table_in keys (items_of t) ≡ Some (unwrap_or (get_or old p None) []) = ap (table_in keys) h ∙ (sym (table_seen keys k.processes.items p) ∙ table_some keys (get_or old p None) there) in
      ap (λ (w : Things). tables_in w.keys (lists xs)) r.same ∙ (ap (λ (ys : List (Option (Slots A))). tables_in keys (lists ys)) e ∙ (ap (λ (qs : List Process). tables_in keys qs) (map_push items_of k.processes.items t)
      ∙ (map_push (table_in keys) (lists k.processes.items) (items_of t) ∙ ap (λ (y : Option Table). old ++ y ∷ []) f)))

  pub fits_forked : Fits (k.living + 1) s (lists xs)
  fits_forked = record {
    live = subst (λ (w : Things). LiveAll w.keys (lists xs)) (sym r.same) (live_forked k xs p t inv e h);
    counts = λ d. counts_forked k.store.names old p there inv.counts s.names (λ i. omega (arith, r.names i, ap (table_times i) (numbers_are k inv p u is))) d ∙ ap (λ (ts : List (Option Table)). times d (named_in_tables ts)) (sym pushed);
    living = omega (arith, inv.living, numbered_push 0 old (unwrap_or (get_or old p None) []), ap (λ (ts : List (Option Table)). length (numbered 0 ts)) pushed);
  }

  pub value_forked : with_store k (lists xs) s ≡ record v { files = fork v.files p }
  value_forked =
      let q = r.same in
      (λ i. record { limits = k.limits; files = record { tables = pushed i; descriptions = (q i).descriptions; objects = (q i).objects }; keys = (q i).keys; holds = (q i).holds; dying = (q i).dying; losses = (q i).losses })
      ∙ ap (λ (w : Seen). record w { files = fork w.files p }) same
