-- The end of an event from what it raised to its marks.
use Rattle.std.proofs.Common.{◌≡◌, ◌∙◌, ◌==◌, ◌&&◌, ◌||◌, ℕ, zero, suc, All, Bool, List, [], ◌∷◌, Option, ap, map, refl, subst, sym}
use Rattle.std.specs.List.{list_any}
use Rattle.std.proofs.lemmas.List.Elements.{All-cons, All-head, All-tail}
use Rattle.ep_calls.proofs.ClimbLemmas.{linked_settled}
use Rattle.ep_calls.proofs.KeepsLemmas.{SettlesBy}
use Rattle.ep_calls.specs.Climb.{Climbs, risen}
use Rattle.ep_calls.specs.Ends.{RestsBy, Spreads}
use Rattle.ep_calls.specs.Parts.{Parts}
use Rattle.ep_calls.specs.Readiness.{entry_shows, readiness}
use Rattle.ep_calls.specs.Stands.{IsLinked, watch_at}
use Rattle.ep_calls.specs.declared.raising.Raising.{Raising}
use Rattle.ep_interest.specs.Registrations.{Registrations, settled}
use Rattle.ep_interest.specs.declared.entry.Entry.{Entry}
use Rattle.ep_machine.specs.Files.{Files}
use Rattle.ep_machine.specs.Marks.{marked_by}
use Rattle.ep_table.specs.Value.{Seen}
use Rattle.ep_view.specs.KernelView.{any_within, climbed, ready_now, reached_now, shows}

-- What is passed on plays no part in what shows.
module _ (keys : List (Option ℕ)) (files : Files) (now : ℕ) where
  any_settled : (r : ℕ → Bool) (e : ℕ) (xs : List Entry) → list_any (λ w. w.instance == e && shows r files now w) (map (watch_at keys) (map settled xs)) ≡ list_any (λ w. w.instance == e && shows r files now w) (map (watch_at keys) xs)
  any_settled r e [] = refl
  any_settled r e (x ∷ xs) = ap (λ (b : Bool). (watch_at keys x).instance == e && shows r files now (watch_at keys x) || b) (any_settled r e xs)

  within_settled : (k : ℕ) (xs : List Entry) → any_within (λ ready x. shows ready files now x) k (map (watch_at keys) (map settled xs)) ≡ any_within (λ ready x. shows ready files now x) k (map (watch_at keys) xs)
  within_settled zero xs = refl
  within_settled (suc k) xs = λ i e.
      (ap (λ (r : ℕ → Bool). list_any (λ w. w.instance == e && shows r files now w) (map (watch_at keys) (map settled xs))) (within_settled k xs)
      ∙ any_settled (any_within (λ ready x. shows ready files now x) k (map (watch_at keys) xs)) e xs) i

  pub ready_settled : (xs : List Entry) → ready_now files now (map (watch_at keys) (map settled xs)) ≡ ready_now files now (map (watch_at keys) xs)
  unfolding ready_now
  ready_settled xs = within_settled 5 xs

-- what is left once what was passed on is forgotten
pub shows_settled : (v : Seen) (now : ℕ) (r q : Registrations) → q.entries ≡ map settled r.entries → (x : Entry) → entry_shows (readiness v now q) v now (settled x) ≡ entry_shows (readiness v now r) v now x
shows_settled v now r q entries x =
    ap (λ (ready : ℕ → Bool). entry_shows ready v now x) (ap (λ (xs : List Entry). ready_now v.files now (map (watch_at v.keys) xs)) entries ∙ ready_settled v.keys v.files now r.entries)

-- What was raised has climbed, and is forgotten.
module _ (reached : ℕ → Bool) (v : Seen) where
  pub climbs_settled : (xs : List Entry) → map (watch_at v.keys) (map settled (map (risen reached v) xs)) ≡ map (climbed reached v.files) (map (watch_at v.keys) xs)
  climbs_settled [] = refl
  climbs_settled (x ∷ xs) = ap (λ ws. climbed reached v.files (watch_at v.keys x) ∷ ws) (climbs_settled xs)

  pub linked_risen : (xs : List Entry) → All (IsLinked v.keys) xs → All (IsLinked v.keys) (map (risen reached v) xs)
  linked_risen [] h = h
  linked_risen (x ∷ xs) h =
      let link = All-head (IsLinked v.keys) x xs h in
      All-cons (IsLinked v.keys) (risen reached v x) (map (risen reached v) xs) (record { instance = link.instance; desc = link.desc; fd = link.fd }) (linked_risen xs (All-tail (IsLinked v.keys) x xs h))

-- the same instances are ready
pub readiness_settled : (v : Seen) (now : ℕ) (r q : Registrations) → q.entries ≡ map settled r.entries → readiness v now q ≡ readiness v now r
readiness_settled v now r q entries = ap (λ (xs : List Entry). ready_now v.files now (map (watch_at v.keys) xs)) entries ∙ ready_settled v.keys v.files now r.entries

module _ (n : ℕ) (raising : Raising) (mid left new : Parts) (test : ℕ → Bool) (spreads : Spreads n raising mid left) (rests : RestsBy test left new) where
  abbrev v : Seen
  v = spreads.buried.tables

  abbrev was : List Entry
  was = spreads.buried.interest.entries

  abbrev reached : ℕ → Bool
  reached = reached_now v.files n (map (watch_at v.keys) was)

  entries : new.interest.entries ≡ map settled (map (risen reached v) was)
  entries = rests.entries ∙ ap (map settled) spreads.rises.entries

  pub climbs : Climbs n v spreads.buried.interest new.interest
  climbs = record {
    watches = ap (map (watch_at v.keys)) entries ∙ climbs_settled reached v was;
    linked = subst (All (IsLinked v.keys)) (sym entries) (linked_settled v.keys (map (risen reached v) was) (linked_risen reached v was spreads.leaves.coherent_buried.linked));
    added = rests.added ∙ spreads.rises.added;
  }

  -- before marks are set, what was passed on being forgotten
  abbrev pub forgotten : Parts
  forgotten = record left { interest = new.interest }

  -- once it was noted
  abbrev pub with_noted : Parts
  with_noted = record mid { interest = spreads.noted }

  pub settles : SettlesBy test n raising mid with_noted spreads.buried forgotten new
  settles = record {
    coherent = spreads.leaves.coherent;
    sound = spreads.leaves.tables;
    stirs = spreads.leaves.stirs;
    noted_others = refl;
    burial = spreads.leaves.burial;
    parked = spreads.leaves.parked;
    clock = spreads.leaves.clock;
    coherent_buried = spreads.leaves.coherent_buried;
    sound_buried = spreads.leaves.tables_buried;
    climbs = climbs;
    climbed_others = ap (λ (p : Parts). record p { interest = new.interest }) spreads.others;
    marks = rests.marks;
    marked_others = rests.others;
  }

-- the end of an event, made up before it comes
abbrev pub rested : (ℕ → Bool) → Parts → Parts
rested test p = record p {
  interest = record p.interest { entries = map settled p.interest.entries };
  parked = marked_by test p.clock p.parked;
}

pub rests_so : (test : ℕ → Bool) (p : Parts) → RestsBy test p (rested test p)
rests_so test p = record { marks = refl; entries = refl; keys = refl; added = refl; others = refl }
