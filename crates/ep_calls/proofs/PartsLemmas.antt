-- What holds of the parts stays so where the tables keep keys, kinds and holds.
use Rattle.std.proofs.Common.{◌≡◌, ◌∙◌, ◌==◌, ℕ, zero, suc, All, List, true, [], ◌∷◌, ap, arith, filter, refl, length, map, subst, sym}
use Rattle.std.proofs.lemmas.List.Elements.{All-cons, All-head, All-map, All-nil, All-tail, All-weaker}
use Rattle.ep_interest.specs.declared.entry.Entry.{Entry}
use Rattle.ep_machine.specs.Files.{object_of}
use Rattle.ep_view.specs.KernelView.{KernelWatch, freshened_by}
use Rattle.ep_view.specs.AtRest.{can_be_watched, kind_of}
use Rattle.ep_interest.specs.Registrations.{Registrations}
use Rattle.ep_machine.specs.State.{Waiter}
use Rattle.ep_view.proofs.FilesLemmas.{watched_same}
use Rattle.ep_base.specs.Limits.{Limits}
use Rattle.ep_calls.specs.Parts.{AreCoherent, AreOpening, AreWatched, Parts}
use Rattle.ep_calls.specs.Climb.{AreNested, is_nested, link_of}
use Rattle.ep_calls.specs.Stands.{KeepsHolds}
use Rattle.ep_calls.specs.Raising.{IsRaising, Stirs, raised_bits}
use Rattle.ep_calls.specs.declared.raising.Raising.{Raising}
use Rattle.ep_calls.specs.Stands.{IsLinked, IsPlaced, KeepsKeys, KeepsKinds, number_at, waiters_at, watch_at}
use Rattle.ep_calls.proofs.KeyLemmas.{number_kept}
use Rattle.ep_calls.proofs.RegistrationLemmas.{held_kept, linked_kept, placed_kept}
use Rattle.ep_calls.proofs.PurgeLemmas.{links_stirred}
use Rattle.ep_calls.proofs.RaiseLemmas.{stirs_watches}
use Rattle.ep_calls.proofs.KindLemmas.{nested_over}
use Rattle.ep_table.specs.Value.{Seen, Sound, count_at}

module _ (p : Parts) (new : Seen) (h : AreCoherent p) (keys : KeepsKeys p.tables new) (kinds : KeepsKinds p.tables.files new.files) where
  same_numbers : All (λ (x : Entry). number_at new.keys x.desc ≡ number_at p.tables.keys x.desc) p.interest.entries
  same_numbers = λ k d lt. number_kept p.tables new _ keys (h.linked k d lt).desc

  same_kinds : All (λ (x : Entry). kind_of (object_of new.files (number_at new.keys x.desc)) ≡ kind_of (object_of p.tables.files (number_at new.keys x.desc))) p.interest.entries
  same_kinds = λ k d lt. kinds _ (ap (λ (n : ℕ). can_be_watched (object_of p.tables.files n)) (same_numbers k d lt) ∙ h.watched k d lt)

  watched_kept : AreWatched new p.interest
  watched_kept = λ k d lt.
      watched_same _ _ (same_kinds k d lt) (ap (λ (n : ℕ). can_be_watched (object_of p.tables.files n)) (same_numbers k d lt) ∙ h.watched k d lt)

  nested_kept : AreNested new p.interest p.graph
  nested_kept =
      nested_over p.tables new p.interest p.graph (λ k d lt. sym (same_numbers k d lt))
      (All-map (λ (w : KernelWatch). kind_of (object_of new.files w.target) ≡ kind_of (object_of p.tables.files w.target)) (watch_at new.keys) p.interest.entries same_kinds) h.nested

  pub coherent_kept : KeepsHolds p.tables new → AreCoherent (record p { tables = new })
  coherent_kept holds = record {
    linked = linked_kept p.tables new p.interest keys h.linked;
    watched = watched_kept;
    nested = nested_kept;
    placed = placed_kept p.tables new p.parked keys h.placed;
    held = held_kept p.tables new p.parked holds keys h.placed h.held;
    clock = h.clock;
  }

-- what can be watched, by the machine's registrations and by the kernel's
abbrev pub Shows : Seen → KernelWatch → Type 0
Shows v w = can_be_watched (object_of v.files w.target) ≡ true

pub as_watches : (v : Seen) (xs : List Entry) → All (λ (x : Entry). can_be_watched (object_of v.files (number_at v.keys x.desc)) ≡ true) xs → All (Shows v) (map (watch_at v.keys) xs)
as_watches v xs h = All-map (Shows v) (watch_at v.keys) xs h

pub of_watches : (v : Seen) (xs : List Entry) → All (Shows v) (map (watch_at v.keys) xs) → All (λ (x : Entry). can_be_watched (object_of v.files (number_at v.keys x.desc)) ≡ true) xs
of_watches v [] h = All-nil (λ (x : Entry). can_be_watched (object_of v.files (number_at v.keys x.desc)) ≡ true)
of_watches v (x ∷ xs) h =
    All-cons (λ (y : Entry). can_be_watched (object_of v.files (number_at v.keys y.desc)) ≡ true) x xs (All-head (Shows v) (watch_at v.keys x) (map (watch_at v.keys) xs) h)
    (of_watches v xs (All-tail (Shows v) (watch_at v.keys x) (map (watch_at v.keys) xs) h))

-- registrations that are changed but in what they watch
pub watched_by : (v : Seen) (old new : List Entry) (f : KernelWatch → KernelWatch) → ((w : KernelWatch) → (f w).target ≡ w.target) → map (watch_at v.keys) new ≡ map f (map (watch_at v.keys) old)
    → All (λ (x : Entry). can_be_watched (object_of v.files (number_at v.keys x.desc)) ≡ true) old → All (λ (x : Entry). can_be_watched (object_of v.files (number_at v.keys x.desc)) ≡ true) new
watched_by v old new f keeps is h =
    let ws = map (watch_at v.keys) old in
    of_watches v new (subst (All (Shows v)) (sym is) (All-map (Shows v) f ws (All-weaker (Shows v) (λ w. Shows v (f w)) (λ w shows. ap (λ (d : ℕ). can_be_watched (object_of v.files d)) (keeps w) ∙ shows) ws (as_watches v old h))))

-- what an event raised is noted in the registrations
pub coherent_raised : (n : ℕ) (p : Parts) (raising : Raising) (noted : Registrations) → AreCoherent p → Sound p.tables → IsRaising raising p.tables → Stirs raising p.tables p.clock n p.interest noted → AreCoherent (record p { interest = noted })
coherent_raised n p raising noted h sound is stirs =
    let freshens = stirs_watches raising p.tables p.clock n p.interest noted stirs sound is h.linked in
    record {
      linked = freshens.linked;
      watched = watched_by p.tables p.interest.entries noted.entries (freshened_by n (raised_bits raising p.tables p.clock)) (λ w. refl) freshens.watches h.watched;
      nested = h.nested ∙ sym (links_stirred raising p.tables p.clock n p.interest noted stirs);
      placed = h.placed;
      held = h.held;
      clock = h.clock;
    }

-- what holds at the start
module _ (within : Limits) (p : Parts) (h : AreOpening within p) where
  none_there : p.interest.entries ≡ []
  none_there = ap (λ (r : Registrations). r.entries) h.interest

  none_held : (d : ℕ) → count_at (0 ∷ []) d ≡ 0
  none_held zero = refl
  none_held (suc d) = refl

  pub coherent_opening : AreCoherent p
  coherent_opening = record {
    linked = subst (All (IsLinked p.tables.keys)) (sym none_there) (All-nil (IsLinked p.tables.keys));
    watched =
        let IsShown : Entry → Type 0 = λ x. can_be_watched (object_of p.tables.files (number_at p.tables.keys x.desc)) ≡ true in
        subst (All IsShown) (sym none_there) (All-nil IsShown);
    nested = h.graph ∙ ap (λ (xs : List Entry). map (link_of p.interest) (filter (is_nested p.tables) xs)) (sym none_there);
    placed = subst (All (IsPlaced p.tables.keys)) (sym h.parked) (All-nil (IsPlaced p.tables.keys));
    held = λ d.
        ap (λ (hs : List ℕ). count_at hs d) h.holds
        ∙ (none_held d ∙ ap (λ (ws : List Waiter). length (filter (λ k. k == d) (map (λ w. w.instance) (waiters_at p.tables.keys ws)))) (sym h.parked));
    clock = omega (arith, h.clock);
  }
