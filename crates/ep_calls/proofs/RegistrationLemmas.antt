-- Registrations as the machine has them.
use Rattle.std.proofs.Common.{slice_index_or, get_or, Bool, ◌≡◌, ◌==◌, ◌&&◌, ◌||◌, ℕ, ℤ, pos, List, [], ◌∷◌, IsSome, All, filter, length, map, refl, ap, sym, ◌∙◌}
use Rattle.std.specs.List.{list_any}
use Rattle.std.specs.Ordering.{int_eq}
use Rattle.std.proofs.lemmas.Bool.Decides.{Decides-int_eq, Decides-eqb, same_from_decides}
use Rattle.std.proofs.lemmas.List.{length-map}
use Rattle.std.proofs.lemmas.List.Elements.{All-head, All-tail}
use Rattle.ep_base.specs.declared.ids.DescId.{DescId}
use Rattle.ep_interest.specs.Exclusive.{is_exclusive}
use Rattle.ep_machine.specs.Bits.{EXCLUSIVE, asked, has_bit}
use Rattle.ep_machine.specs.Counts.{every_shown_bit, no_counts}
use Rattle.ep_view.specs.KernelView.{KernelWatch, at_number, is_at, kernel_watches, kernel_watch}
use Rattle.ep_machine.specs.Readiness.{is_fresh_since}
use Rattle.ep_machine.specs.State.{State, Waiter, Watch}
use Rattle.ep_machine.specs.Waits.{has_parked, is_marked, is_parked}
use Rattle.ep_view.proofs.WaiterLemmas.{any_at, of_process_at, parked_at}
use Rattle.ep_machine.specs.Watches.{has_key as has_numbers, is_exclusive as is_exclusive_watch, is_exclusive_there, is_there, number_in}
use Rattle.ep_interest.specs.Registrations.{Registrations, has_key}
use Rattle.ep_park.specs.Waiters.{is_caller, is_marked_caller, is_of}
use Rattle.ep_calls.specs.Stands.{AreHeld, KeepsHolds}
use Rattle.ep_calls.specs.Stands.{AreLinked, ArePlaced, IsLinked, IsPlaced, KeepsKeys, Stands, number_at, waiters_at, watch_at}
use Rattle.ep_table.specs.Value.{Seen, Sound, number_under}
use Rattle.ep_interest.specs.declared.entry.Entry.{Entry}
use Rattle.ep_calls.proofs.KeyLemmas.{number_kept, same_keys, some_kept}

-- the test of a key sees nothing of what a kernel keeps otherwise
there_kept : (s : State) (e fd d : ℕ) (xs : List Watch) → list_any (is_at e fd d) (kernel_watches s xs) ≡ list_any (has_numbers e fd d) xs
there_kept s e fd d [] = refl
there_kept s e fd d (x ∷ xs) = ap (λ (b : Bool). has_numbers e fd d x || b) (there_kept s e fd d xs)

same_descriptor : (x y : ℤ) → x ≡ pos (number_in x) → y ≡ pos (number_in y) → (number_in x == number_in y) ≡ int_eq x y
same_descriptor x y h i =
    let e = Decides-eqb (number_in x) (number_in y) in
    same_from_decides (number_in x == number_in y) (int_eq x y)
    (λ t. h ∙ (ap (λ (n : ℕ). pos n) (e.0 t) ∙ sym i), λ same. e.1 (ap number_in same)) (Decides-int_eq x y)

-- the test of the numbers is the test of the keys
pub same_key_test : (v : Seen) (instance desc : DescId) (fd : ℤ) → Sound v → IsSome (number_under v instance) → IsSome (number_under v desc) → fd ≡ pos (number_in fd) → (x : Entry) → IsLinked v.keys x
    → is_at (number_at v.keys instance) (number_in fd) (number_at v.keys desc) (watch_at v.keys x) ≡ has_key instance (record { 0 = fd }) desc x
same_key_test v instance desc fd sound hi hd hf x link =
    let a = same_keys v x.instance instance sound link.instance hi in
    let b = same_descriptor x.fd.0 fd link.fd hf in
    let c = same_keys v x.desc desc sound link.desc hd in λ i. a i && b i && c i

-- the machine has a registration of these numbers where the interest sets have one of these keys
there_linked : (v : Seen) (instance desc : DescId) (fd : ℤ) → Sound v → IsSome (number_under v instance) → IsSome (number_under v desc) → fd ≡ pos (number_in fd) → (xs : List Entry) → All (IsLinked v.keys) xs
    → list_any (is_at (number_at v.keys instance) (number_in fd) (number_at v.keys desc)) (map (watch_at v.keys) xs) ≡ list_any (has_key instance (record { 0 = fd }) desc) xs
there_linked v instance desc fd sound hi hd hf [] linked = refl
there_linked v instance desc fd sound hi hd hf (x ∷ xs) linked =
    let one = same_key_test v instance desc fd sound hi hd hf x (All-head (IsLinked v.keys) x xs linked) in
    let rest = there_linked v instance desc fd sound hi hd hf xs (All-tail (IsLinked v.keys) x xs linked) in λ i. one i || rest i

pub there_is : {ws : List Waiter} (v : Seen) (r : Registrations) (now : ℕ) (s : State) (instance desc : DescId) (fd : ℤ) → Sound v → Stands v r ws now s → AreLinked v r → IsSome (number_under v instance) → IsSome (number_under v desc) → fd ≡ pos (number_in fd)
    → is_there s (number_at v.keys instance) (number_in fd) (number_at v.keys desc) ≡ list_any (has_key instance (record { 0 = fd }) desc) r.entries
there_is v r now s instance desc fd sound h linked hi hd hf =
    let f = list_any (is_at (number_at v.keys instance) (number_in fd) (number_at v.keys desc)) in
    sym (there_kept s _ _ _ s.watches) ∙ (ap f h.watches ∙ there_linked v instance desc fd sound hi hd hf r.entries linked)

-- the same of exclusive ones
exclusive_kept : (s : State) (e fd d : ℕ) (xs : List Watch) → list_any (λ x. has_numbers e fd d x && is_exclusive_watch x) xs ≡ list_any (λ w. is_at e fd d w && has_bit w.mask EXCLUSIVE) (kernel_watches s xs)
exclusive_kept s e fd d [] = refl
exclusive_kept s e fd d (x ∷ xs) = ap (λ (b : Bool). has_numbers e fd d x && is_exclusive_watch x || b) (exclusive_kept s e fd d xs)

exclusive_linked : (v : Seen) (instance desc : DescId) (fd : ℤ) → Sound v → IsSome (number_under v instance) → IsSome (number_under v desc) → fd ≡ pos (number_in fd) → (xs : List Entry) → All (IsLinked v.keys) xs
    → list_any (λ w. is_at (number_at v.keys instance) (number_in fd) (number_at v.keys desc) w && has_bit w.mask EXCLUSIVE) (map (watch_at v.keys) xs) ≡ list_any (λ x. has_key instance (record { 0 = fd }) desc x && is_exclusive x) xs
exclusive_linked v instance desc fd sound hi hd hf [] linked = refl
exclusive_linked v instance desc fd sound hi hd hf (x ∷ xs) linked =
    let one = same_key_test v instance desc fd sound hi hd hf x (All-head (IsLinked v.keys) x xs linked) in
    let rest = exclusive_linked v instance desc fd sound hi hd hf xs (All-tail (IsLinked v.keys) x xs linked) in λ i. one i && is_exclusive x || rest i

pub exclusive_there_is : {ws : List Waiter} (v : Seen) (r : Registrations) (now : ℕ) (s : State) (instance desc : DescId) (fd : ℤ) → Sound v → Stands v r ws now s → AreLinked v r → IsSome (number_under v instance) → IsSome (number_under v desc) → fd ≡ pos (number_in fd)
    → is_exclusive_there s (number_at v.keys instance) (number_in fd) (number_at v.keys desc) ≡ list_any (λ x. has_key instance (record { 0 = fd }) desc x && is_exclusive x) r.entries
exclusive_there_is v r now s instance desc fd sound h linked hi hd hf =
    exclusive_kept s (number_at v.keys instance) (number_in fd) (number_at v.keys desc) s.watches
    ∙ (ap (list_any (λ w. is_at (number_at v.keys instance) (number_in fd) (number_at v.keys desc) w && has_bit w.mask EXCLUSIVE)) h.watches
    ∙ exclusive_linked v instance desc fd sound hi hd hf r.entries linked)

-- as many registrations
pub count_is : {ws : List Waiter} (v : Seen) (r : Registrations) (now : ℕ) (s : State) → Stands v r ws now s → length s.watches ≡ length r.entries
count_is v r now s h = sym (length-map s.watches (kernel_watch s)) ∙ (ap (λ (xs : List KernelWatch). length xs) h.watches ∙ length-map r.entries (watch_at v.keys))

watches_kept : (old new : Seen) → KeepsKeys old new → (xs : List Entry) → All (IsLinked old.keys) xs → map (watch_at new.keys) xs ≡ map (watch_at old.keys) xs
watches_kept old new keeps [] linked = refl
watches_kept old new keeps (x ∷ xs) linked =
    let link = All-head (IsLinked old.keys) x xs linked in
    let a = number_kept old new x.instance keeps link.instance in
    let b = number_kept old new x.desc keeps link.desc in
    let rest = watches_kept old new keeps xs (All-tail (IsLinked old.keys) x xs linked) in
    λ i. record { number = x.number; instance = a i; fd = number_in x.fd.0; target = b i; mask = x.mask.0; tag = x.tag; armed = x.armed; fresh = x.fresh; reported_in = x.reported_in; passes_in = x.passes_in } ∷ rest i

link_kept : (old new : Seen) → KeepsKeys old new → (x : Entry) → IsLinked old.keys x → IsLinked new.keys x
link_kept old new keeps x h = record { instance = some_kept old new x.instance keeps h.instance; desc = some_kept old new x.desc keeps h.desc; fd = h.fd }

pub linked_kept : (old new : Seen) (r : Registrations) → KeepsKeys old new → AreLinked old r → AreLinked new r
linked_kept old new r keeps h = λ k d lt. link_kept old new keeps _ (h k d lt)

-- what is fresh goes by arrivals alone
kept_same : (s t : State) → t.arrivals ≡ s.arrivals → (xs : List Watch) → kernel_watches t xs ≡ kernel_watches s xs
kept_same s t e [] = refl
kept_same s t e (x ∷ xs) = λ i. record (kernel_watch s x) { fresh = is_fresh_since x.seen (asked x.mask every_shown_bit) (slice_index_or (e i) x.target no_counts) } ∷ kept_same s t e xs i

-- a key that is there keeps its number
waiter_kept : (old new : Seen) → KeepsKeys old new → (w : Waiter) → IsPlaced old.keys w → at_number (λ k. number_at new.keys (record { 0 = k })) w ≡ at_number (λ k. number_at old.keys (record { 0 = k })) w
waiter_kept old new keeps w h = let e = number_kept old new (record { 0 = w.instance }) keeps h.instance in λ i. record w { instance = e i }

pub waiters_kept : (old new : Seen) → KeepsKeys old new → (ws : List Waiter) → ArePlaced old ws → waiters_at new.keys ws ≡ waiters_at old.keys ws
waiters_kept old new keeps [] h = refl
waiters_kept old new keeps (w ∷ ws) h =
    let one = waiter_kept old new keeps w (All-head (IsPlaced old.keys) w ws h) in
    let rest = waiters_kept old new keeps ws (All-tail (IsPlaced old.keys) w ws h) in
    λ i. one i ∷ rest i

pub placed_kept : (old new : Seen) (ws : List Waiter) → KeepsKeys old new → ArePlaced old ws → ArePlaced new ws
placed_kept old new ws keeps h = λ k d lt. let w = h k d lt in record { instance = some_kept old new (record { 0 = (get_or ws k d).instance }) keeps w.instance; most = w.most }

-- who waits is seen by keys as by numbers
pub process_waits : (v : Seen) (r : Registrations) (ws : List Waiter) (now : ℕ) (s : State) (p : ℕ) → Stands v r ws now s → has_parked s p ≡ list_any (is_of p) ws
process_waits v r ws now s p stands = ap (λ (us : List Waiter). list_any (is_of p) us) stands.waiters ∙ of_process_at (λ k. number_at v.keys (record { 0 = k })) p ws

pub caller_waits : (v : Seen) (r : Registrations) (ws : List Waiter) (now : ℕ) (s : State) (caller : ℕ) → Stands v r ws now s → is_parked s caller ≡ list_any (is_caller caller) ws
caller_waits v r ws now s caller stands = ap (λ (us : List Waiter). list_any (is_caller caller) us) stands.waiters ∙ parked_at (λ k. number_at v.keys (record { 0 = k })) caller ws

pub caller_marked : (v : Seen) (r : Registrations) (ws : List Waiter) (now : ℕ) (s : State) (caller : ℕ) → Stands v r ws now s → is_marked s caller ≡ list_any (is_marked_caller caller) ws
caller_marked v r ws now s caller stands = ap (λ (us : List Waiter). list_any (is_marked_caller caller) us) stands.waiters ∙ any_at (λ k. number_at v.keys (record { 0 = k })) (is_marked_caller caller) (is_marked_caller caller) (λ w. refl) ws

-- what waiters hold stays held
pub held_kept : (old new : Seen) (ws : List Waiter) → KeepsHolds old new → KeepsKeys old new → ArePlaced old ws → AreHeld old ws → AreHeld new ws
held_kept old new ws holds keeps placed held = λ d. holds d ∙ (held d ∙ ap (λ (us : List Waiter). length (filter (λ k. k == d) (map (λ w. w.instance) us))) (sym (waiters_kept old new keeps ws placed)))

-- a call on the tables that keeps each key keeps registrations and waiters
pub stands_kept : (old new : Seen) (r : Registrations) {ws : List Waiter} (now : ℕ) (s t : State) → KeepsKeys old new → AreLinked old r → ArePlaced old ws → Stands old r ws now s → t.now ≡ s.now → t.files ≡ new.files → t.watches ≡ s.watches → t.added ≡ s.added → t.arrivals ≡ s.arrivals → t.waiters ≡ s.waiters → Stands new r ws now t
stands_kept old new r now s t keeps linked placed h clock files watches added arrivals waiters = record {
  now = clock ∙ h.now;
  files = files;
  watches = ap (kernel_watches t) watches ∙ (kept_same s t arrivals s.watches ∙ (h.watches ∙ sym (watches_kept old new keeps r.entries linked)));
  added = added ∙ h.added;
  waiters = waiters ∙ (h.waiters ∙ sym (waiters_kept old new keeps _ placed));
}
