-- New descriptions count once.
use Rattle.std.proofs.Common.{Bool, IsSome, List, None, Option, Some, [], ap, arith, get_or, length, length-append, refl, slice_set, subst, sym, unwrap_or, ℕ, ◌++◌, ◌+◌, ◌∙◌, ◌∷◌, ◌≡◌}
use Rattle.std.proofs.lemmas.List.{get_or-set_same}
use Rattle.ep_base.specs.declared.ids.DescId.{DescId}
use Rattle.ep_machine.specs.Deaths.{named_in_tables}
use Rattle.ep_machine.specs.Files.{Table, table_of}
use Rattle.ep_machine.specs.Lists.{enter, numbered}
use Rattle.ep_machine.specs.Objects.{Object}
use Rattle.ep_machine.specs.Tables.{slot}
use Rattle.ep_table.specs.Processes.{Process, entered, lists}
use Rattle.ep_table.specs.Value.{AddsKey, InsertsTwo, Things, count_at, times}
use Rattle.ep_table.specs.View.{IsTables, LiveAll, tables_in, value_of}
use Rattle.ep_table.specs.declared.tables.Tables.TheInside.{Inside}
use Rattle.ep_table.proofs.TimesLemmas.{count_push, table_enter}
use Rattle.ep_table.proofs.CreateLemmas.{live_creates_one, live_creates_two, tables_one, tables_two, within}
use Rattle.ep_table.proofs.TableLemmas.{counts_written, same_length}

-- what the invariant asks, over plain variables
pub record Fits (processes : ℕ) (s : Things) (ps : List Process) : Type 0 where
  pub live : LiveAll s.keys ps
  pub counts : (d : ℕ) → count_at s.names d ≡ times d (named_in_tables (tables_in s.keys ps))
  pub living : processes ≡ length (numbered 0 (tables_in s.keys ps))

module _ (names : List ℕ) (ts : List (Option Table)) (p n : ℕ) (cloexec : Bool) (there : IsSome (get_or ts p None)) (counts : (d : ℕ) → count_at names d ≡ times d (named_in_tables ts)) (len : length names ≡ n) where
  abbrev pub entered_in : List (Option Table)
  entered_in = slice_set ts p (Some (enter (unwrap_or (get_or ts p None) []) (slot n cloexec)))

  pub counts_entered : (d : ℕ) → count_at (names ++ 1 ∷ []) d ≡ times d (named_in_tables entered_in)
  counts_entered d = counts_written names ts p there counts (names ++ 1 ∷ []) (enter (unwrap_or (get_or ts p None) []) (slot n cloexec))
      (λ e. omega (arith, count_push names n e len, table_enter e (unwrap_or (get_or ts p None) []) (slot n cloexec))) d

  pub there_entered : IsSome (get_or entered_in p None)
  there_entered = subst (λ (o : Option Table). IsSome o) (sym (get_or-set_same ts p (Some (enter (unwrap_or (get_or ts p None) []) (slot n cloexec))) None (within ts p there))) refl

  pub living_entered : length (numbered 0 entered_in) ≡ length (numbered 0 ts)
  living_entered = same_length 0 p ts (enter (unwrap_or (get_or ts p None) []) (slot n cloexec)) there

pub fits_one : {A : Type 0} (k : Inside A) (s : Things) (ps : List Process) (p : ℕ) (key : DescId) (cloexec : Bool) → IsTables k → length k.store.names ≡ length k.store.descriptions → IsSome (table_of (value_of k).files p)
    → AddsKey k.store.keys s.keys key (length k.store.descriptions) → s.names ≡ k.store.names ++ 1 ∷ []
    → ps ≡ slice_set (lists k.processes.items) p (entered (get_or (lists k.processes.items) p None) (record { description = key; cloexec = cloexec })) → Fits k.living s ps
fits_one k s ps p key cloexec inv len there adds names e =
    let n = length k.store.descriptions in
    let ts = tables_in k.store.keys (lists k.processes.items) in
    let t : tables_in s.keys ps ≡ entered_in k.store.names ts p n cloexec there inv.counts len = ap (λ (qs : List Process). tables_in s.keys qs) e ∙ tables_one k.store.keys s.keys key n adds (lists k.processes.items) inv.live p cloexec there in
    record {
      live = live_creates_one k s ps p key cloexec inv.live there adds e;
      counts = λ d. ap (λ (xs : List ℕ). count_at xs d) names ∙ (counts_entered k.store.names ts p n cloexec there inv.counts len d ∙ ap (λ (xs : List (Option Table)). times d (named_in_tables xs)) (sym t));
      living = inv.living ∙ (sym (living_entered k.store.names ts p n cloexec there inv.counts len) ∙ ap (λ (xs : List (Option Table)). length (numbered 0 xs)) (sym t));
    }

pub fits_two : {A : Type 0} (k : Inside A) (s : Things) (ps : List Process) (p : ℕ) (first second : DescId) (o : Object) (cloexec : Bool) → IsTables k → length k.store.names ≡ length k.store.descriptions → IsSome (table_of (value_of k).files p) → InsertsTwo k.store s first second o
    → ps ≡ slice_set (lists k.processes.items) p (entered (entered (get_or (lists k.processes.items) p None) (record { description = first; cloexec = cloexec })) (record { description = second; cloexec = cloexec })) → Fits k.living s ps
fits_two k s ps p first second o cloexec inv len there ins e =
    let n = length k.store.descriptions in
    let names = k.store.names in
    let ts = tables_in k.store.keys (lists k.processes.items) in
    let ts1 = entered_in names ts p n cloexec there inv.counts len in
    let there1 = there_entered names ts p n cloexec there inv.counts len in
    let counts1 = counts_entered names ts p n cloexec there inv.counts len in
    let len1 : length (names ++ 1 ∷ []) ≡ n + 1 = omega (arith, len, length-append names (1 ∷ [])) in
    let t : tables_in s.keys ps ≡ entered_in (names ++ 1 ∷ []) ts1 p (n + 1) cloexec there1 counts1 len1 =
    ap (λ (qs : List Process). tables_in s.keys qs) e ∙ tables_two k.store.keys ins.middle s.keys first second n (n + 1) ins.first_key ins.second_key (lists k.processes.items) inv.live p cloexec there in
    record {
      live = live_creates_two k s ps p first second o cloexec inv.live there ins e;
      counts = λ d. ap (λ (xs : List ℕ). count_at xs d) ins.names ∙ (counts_entered (names ++ 1 ∷ []) ts1 p (n + 1) cloexec there1 counts1 len1 d ∙ ap (λ (xs : List (Option Table)). times d (named_in_tables xs)) (sym t));
      living = inv.living ∙ (sym (living_entered names ts p n cloexec there inv.counts len) ∙ (sym (living_entered (names ++ 1 ∷ []) ts1 p (n + 1) cloexec there1 counts1 len1) ∙ ap (λ (xs : List (Option Table)). length (numbered 0 xs)) (sym t)));
    }
