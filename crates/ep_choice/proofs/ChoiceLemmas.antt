-- The choice among the exclusive registrations on a description.
use Rattle.std.proofs.Common.{◌≡◌, ◌∙◌, ◌==◌, ◌&&◌, ℕ, All, Bool, true, false, IsSome, List, [], ◌∷◌, Option, Some, ap, cond, filter, find, inl, inr, map, refl, subst, sym}
use Rattle.std.specs.Option.{option_map}
use Rattle.std.proofs.lemmas.List.Elements.{All-cons, All-filter, All-head, All-nil, All-tail}
use Rattle.ep_base.specs.declared.ids.DescId.{DescId}
use Rattle.ep_base.specs.declared.ids.EntryId.{EntryId}
use Rattle.ep_calls.proofs.EntryKeyLemmas.{IsFound, IsKeyed, each_found, each_keyed}
use Rattle.ep_calls.proofs.KeyLemmas.{same_keys}
use Rattle.ep_calls.specs.Climb.{is_nested_key}
use Rattle.ep_calls.specs.Readiness.{readiness, watches_of}
use Rattle.ep_calls.specs.Stands.{AreLinked, IsLinked, waiters_at, watch_at}
use Rattle.ep_choice.specs.Choose.{AreOfInstances, chosen_number, finds_entry, is_found}
use Rattle.ep_interest.specs.Exclusive.{exclusive_of, is_exclusive}
use Rattle.ep_interest.specs.Registrations.{IsSound, Registrations, entry_found, entry_under, id_of, is_on, with_ids}
use Rattle.ep_interest.specs.declared.entry.Entry.{Entry}
use Rattle.ep_law.proofs.ListLemmas.{all_member, filtered_member}
use Rattle.ep_law.specs.Laws.{Member}
use Rattle.ep_machine.specs.State.{Waiter}
use Rattle.ep_table.specs.Value.{Seen, Sound, number_of, number_under}
use Rattle.ep_view.specs.KernelView.{KernelWatch}
use Rattle.ep_view.specs.Marking.{is_candidate}

-- The first of them that passes something on and finds a waiter.
abbrev pub first_found : Seen → ℕ → Registrations → List Waiter → ℕ → List (EntryId × Entry) → Option ℕ
first_found v now r ws n xs = option_map (λ (p : EntryId × Entry). p.1.number) (find (λ p. is_found v now r ws n p.1) xs)

-- a registration that is kept under this key
pub record IsKept (v : Seen) (r : Registrations) (p : EntryId × Entry) : Type 0 where
  pub link : IsLinked v.keys p.1
  pub nested : is_nested_key v p.1.instance ≡ true
  pub under : entry_under r p.0 ≡ Some p.1

-- what is left tells what is chosen
pub record Chooses (v : Seen) (now : ℕ) (r : Registrations) (ws : List Waiter) (n : ℕ) (desc : DescId) (left : List (EntryId × Entry)) : Type 0 where
  pub told : first_found v now r ws n left ≡ chosen_number v now r ws n desc
  pub each : All (IsKept v r) left

logic : (o e p f : Bool) (s t : Option ℕ) → cond o (cond e (cond (p && f) s t) t) t ≡ cond (e && o && p && f) s t
logic true true true f s t = refl
logic true true false f s t = refl
logic true false p f s t = refl
logic false true p f s t = refl
logic false false p f s t = refl

module _ (v : Seen) (now : ℕ) (r : Registrations) (ws : List Waiter) (n : ℕ) (desc : DescId) where
  abbrev candidate : KernelWatch → Bool
  candidate x = is_candidate v.files n (watches_of v r) (readiness v now r) (waiters_at v.keys ws) (number_of v desc) x

  abbrev number_found : Option (EntryId × Entry) → Option ℕ
  number_found o = option_map (λ (p : EntryId × Entry). p.1.number) o

  one_on : (x : Entry) (ys : List Entry) (o : Bool) → first_found v now r ws n (exclusive_of (with_ids r (cond o (x ∷ ys) ys))) ≡ cond o (first_found v now r ws n (exclusive_of (with_ids r (x ∷ ys)))) (first_found v now r ws n (exclusive_of (with_ids r ys)))
  one_on x ys true = refl
  one_on x ys false = refl

  one_exclusive : (p : EntryId × Entry) (ps : List (EntryId × Entry)) (e : Bool) → first_found v now r ws n (cond e (p ∷ ps) ps) ≡ cond e (first_found v now r ws n (p ∷ ps)) (first_found v now r ws n ps)
  one_exclusive p ps true = refl
  one_exclusive p ps false = refl

  one_found : (p : EntryId × Entry) (ps : List (EntryId × Entry)) (b : Bool) → number_found (cond b (Some p) (find (λ q. is_found v now r ws n q.1) ps)) ≡ cond b (Some p.1.number) (first_found v now r ws n ps)
  one_found p ps true = refl
  one_found p ps false = refl

  one_watch : (y : KernelWatch) (o : Option KernelWatch) (b : Bool) → option_map (λ (x : KernelWatch). x.number) (cond b (Some y) o) ≡ cond b (Some y.number) (option_map (λ (x : KernelWatch). x.number) o)
  one_watch y o true = refl
  one_watch y o false = refl

  module _ (sound : Sound v) (live : IsSome (number_under v desc)) where
    same_found : (xs : List Entry) → All (IsLinked v.keys) xs → first_found v now r ws n (exclusive_of (with_ids r (filter (is_on desc) xs))) ≡ option_map (λ (x : KernelWatch). x.number) (find candidate (map (watch_at v.keys) xs))
    same_found [] h = refl
    same_found (x ∷ xs) h =
        let rest = same_found xs (All-tail (IsLinked v.keys) x xs h) in
        let on = same_keys v x.desc desc sound (All-head (IsLinked v.keys) x xs h).desc live in
        let ys = filter (is_on desc) xs in
        let others = first_found v now r ws n (exclusive_of (with_ids r ys)) in
        let finds = finds_entry v now r ws x in
        let more = option_map (λ (y : KernelWatch). y.number) (find candidate (map (watch_at v.keys) xs)) in
        one_on x ys (is_on desc x)
        ∙ (ap (λ (t : Option ℕ). cond (is_on desc x) t others) (one_exclusive (id_of r x.number, x) (exclusive_of (with_ids r ys)) (is_exclusive x) ∙ ap (λ (t : Option ℕ). cond (is_exclusive x) t others) (one_found (id_of r x.number, x) (exclusive_of (with_ids r ys)) (is_found v now r ws n x)))
        ∙ (logic (is_on desc x) (is_exclusive x) (x.passes_in == n) finds (Some x.number) others
        ∙ ((λ i. cond (is_exclusive x && sym on i && x.passes_in == n && finds) (Some x.number) (rest i))
        ∙ sym (one_watch (watch_at v.keys x) (find candidate (map (watch_at v.keys) xs)) (candidate (watch_at v.keys x))))))

    kept_all : IsSound r → AreLinked v r → AreOfInstances v r → (xs : List Entry) → ((x : Entry) → Member x xs → Member x r.entries) → All (IsKept v r) (with_ids r xs)
    kept_all sound_r linked instances [] within = All-nil (IsKept v r)
    kept_all sound_r linked instances (x ∷ xs) within =
        let m = within x (inl refl) in
        let one : IsKept v r (id_of r x.number, x) = record {
          link = all_member (IsLinked v.keys) r.entries x linked m;
          nested = all_member (λ y. is_nested_key v y.instance ≡ true) r.entries x instances m;
          under = ap (entry_found r.entries) (all_member (IsKeyed r) r.entries x (each_keyed r sound_r) m) ∙ all_member (IsFound r) r.entries x (each_found r sound_r) m;
        } in
        All-cons (IsKept v r) (id_of r x.number, x) (with_ids r xs) one (kept_all sound_r linked instances xs (λ y n. within y (inr n)))

    pub choose_begins : IsSound r → AreLinked v r → AreOfInstances v r → (items : List (EntryId × Entry)) → items ≡ exclusive_of (with_ids r (filter (is_on desc) r.entries)) → Chooses v now r ws n desc items
    choose_begins sound_r linked instances items is =
        subst (Chooses v now r ws n desc) (sym is) (record {
          told = same_found r.entries linked;
          each = All-filter (λ p. is_exclusive p.1) (IsKept v r) (with_ids r (filter (is_on desc) r.entries)) (kept_all sound_r linked instances (filter (is_on desc) r.entries) (λ x m. filtered_member (is_on desc) r.entries x m));
        })
