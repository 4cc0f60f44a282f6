-- The counts of a description change in the store.
use Rattle.std.proofs.Common.{Bool, List, None, Option, Some, ap, arith, cond, count_by, false, get_or, is_some, length, map, refl, slice_set, subst, suc, sym, true, vec_capacity, zero, ℕ, [], ◌&&◌, ◌++◌, ◌+◌, ◌-◌, ◌<◌, ◌==◌, ◌∙◌, ◌∷◌, ◌≡◌, ◌≤◌}
use Rattle.std.proofs.lemmas.Bool.Decides.{nat_tests}
use Rattle.std.proofs.lemmas.List.Sums.{sum_by-cons}
use Rattle.std.specs.declared.vec.Vec.{Vec}
use Rattle.std.proofs.Math.Bool.{and-false}
use Rattle.slab.specs.Slab.{slab_len, with_value}
use Rattle.ep_base.specs.declared.ids.DescId.{DescId}
use Rattle.ep_machine.specs.Lists.{is_among, numbered}
use Rattle.ep_machine.specs.Files.{Place}
use Rattle.ep_table.specs.Stored.{AllKeyed, IsStore, counts, holds_in, key_number, names_in, number_in, place_in, places, queued, things}
use Rattle.ep_table.specs.Value.{Queue, Things, count_at, is_unused, less_at, more_at, number_at, thing_number}
use Rattle.ep_table.specs.declared.store.Store.TheInside.{Inside}
use Rattle.ep_table.specs.declared.words.Description.{Description}
use Rattle.ep_table.specs.declared.words.Dying.{Dying}
use Rattle.ep_table.proofs.ByNumberLemmas.{content_there}
use Rattle.ep_table.proofs.QueueLemmas.{keyed_push, queue_fits, queue_kept, queue_put, queued_length, queued_push}
use Rattle.ep_table.proofs.CountsLemmas.{backed_counted, count_there, fewer_counted, holds_apart, holds_counted, holds_here, holds_kept, keys_counted, names_apart, names_counted, names_here, names_kept, numbered_counted, owned_counted, places_counted, recounted}
use Rattle.ep_object.specs.Kinds.{kind_number}
use Rattle.ep_table.proofs.ConnectedLemmas.{instances_counted}
use Rattle.ep_table.proofs.StoreLemmas.{key_at, thing_is}
use Rattle.ep_table.specs.declared.words.Shared.{Shared}

count_same : (xs : List (Option Description)) (i : ℕ) (d e : Description) → get_or xs i None ≡ Some d → count_by is_some (slice_set xs i (Some e)) ≡ count_by is_some xs
count_same [] i d e h = absurd cc
count_same (None ∷ xs) zero d e h = absurd cc
count_same (Some x ∷ xs) zero d e h = sum_by-cons (λ (y : Option Description). cond (is_some y) 1 0) (Some e) xs ∙ sym (sum_by-cons (λ (y : Option Description). cond (is_some y) 1 0) (Some x) xs)
count_same (x ∷ xs) (suc i) d e h =
    let f : Option Description → ℕ = λ y. cond (is_some y) 1 0 in
    sum_by-cons f x (slice_set xs i (Some e)) ∙ (ap (λ (m : ℕ). f x + m) (count_same xs i d e h) ∙ sym (sum_by-cons f x xs))

pub not_zero : (m : ℕ) → 0 < m → (m == 0) ≡ false
not_zero m h = grind (arith, nat_tests, h)

pub named_tests : (m : ℕ) (c : Bool) → 0 < m → (m == 0 && c) ≡ false
named_tests m c h = ap (λ (t : Bool). t && c) (not_zero m h)

pub held_tests : (c : Bool) (m : ℕ) → 0 < m → (c && m == 0) ≡ false
held_tests c m h = ap (λ (t : Bool). c && t) (not_zero m h) ∙ and-false c

module _ {A : Type 0} (k : Inside A) (v : Things) (inv : IsStore k) (same : things k ≡ v) (key : DescId) (d : Description) (is : get_or k.descriptions.slots key.0 None ≡ Some d) where
  abbrev ds : List (Option Description)
  ds = k.descriptions.slots

  abbrev n : ℕ
  n = k.described

  pub names_are : count_at v.names (thing_number v key) ≡ d.names
  names_are = ap (λ (m : ℕ). count_at v.names m) (thing_is k v inv same key d is) ∙ (ap (λ (w : Things). count_at w.names d.number) (sym same) ∙ count_there names_in ds n inv.descriptions key.0 d is)

  pub holds_are : count_at v.holds (thing_number v key) ≡ d.holds
  holds_are = ap (λ (m : ℕ). count_at v.holds m) (thing_is k v inv same key d is) ∙ (ap (λ (w : Things). count_at w.holds d.number) (sym same) ∙ count_there holds_in ds n inv.descriptions key.0 d is)

  place_there : is_some (get_or (places ds n) d.number None) ≡ true
  place_there = ap is_some (content_there number_in place_in ds n inv.descriptions key.0 d is)

  before : is_unused (places ds n) (counts names_in ds n) (counts holds_in ds n) d.number ≡ (d.names == 0 && d.holds == 0)
  before =
      let x = count_there names_in ds n inv.descriptions key.0 d is in
      let y = count_there holds_in ds n inv.descriptions key.0 d is in
      let p = place_there in
      λ i. p i && (x i == 0 && y i == 0)

  -- what is not on the queue is used
  pub used_tests : is_among v.dying (thing_number v key) ≡ false → (d.names == 0 && d.holds == 0) ≡ false
  used_tests h =
      let e : is_among (queued k.dying.items) d.number ≡ false = ap (λ (w : Things). is_among w.dying d.number) same ∙ (ap (is_among v.dying) (sym (thing_is k v inv same key d is)) ∙ h) in
      sym before ∙ (sym (inv.queue.law d.number) ∙ e)

  module _ (a b m : ℕ) where
    abbrev ds1 : List (Option Description)
    ds1 = recounted ds n key.0 d is inv.descriptions a b

    abbrev pub next : Vec Dying A → Inside A
    next dying = record k { named = m; descriptions = with_value k.descriptions key.0 (record d { names = a; holds = b }); dying = dying }

    after : is_unused (places ds n) (counts names_in ds1 n) (counts holds_in ds1 n) d.number ≡ (a == 0 && b == 0)
    after =
        let x = names_here ds n key.0 d is inv.descriptions a b in
        let y = holds_here ds n key.0 d is inv.descriptions a b in
        let p = place_there in
        λ i. p i && (x i == 0 && y i == 0)

    on_places : (dying : List ℕ) → Queue (places ds n) (counts names_in ds1 n) (counts holds_in ds1 n) dying → Queue (places ds1 n) (counts names_in ds1 n) (counts holds_in ds1 n) dying
    on_places dying q = subst (λ (xs : List (Option Place)). Queue xs (counts names_in ds1 n) (counts holds_in ds1 n) dying) (sym (places_counted ds n key.0 d is inv.descriptions a b)) q

    stays : (d.names == 0 && d.holds == 0) ≡ (a == 0 && b == 0) → Queue (places ds n) (counts names_in ds1 n) (counts holds_in ds1 n) (queued k.dying.items)
    stays h = queue_kept (places ds n) (counts names_in ds n) (counts holds_in ds n) (queued k.dying.items) inv.queue d.number (counts names_in ds1 n) (counts holds_in ds1 n)
        (names_apart ds n key.0 d is inv.descriptions a b) (holds_apart ds n key.0 d is inv.descriptions a b) (after ∙ (sym h ∙ sym before))

    goes : (d.names == 0 && d.holds == 0) ≡ false → (a == 0 && b == 0) ≡ true → Queue (places ds n) (counts names_in ds1 n) (counts holds_in ds1 n) (d.number ∷ queued k.dying.items)
    goes h l = queue_put (places ds n) (counts names_in ds n) (counts holds_in ds n) (queued k.dying.items) inv.queue d.number (counts names_in ds1 n) (counts holds_in ds1 n)
        (names_apart ds n key.0 d is inv.descriptions a b) (holds_apart ds n key.0 d is inv.descriptions a b) (before ∙ h) (after ∙ l)

    pub has_room : (d.names == 0 && d.holds == 0) ≡ false → (a == 0 && b == 0) ≡ true → length k.dying.items < vec_capacity k.dying
    has_room h l = omega (arith, queue_fits (places ds n) (counts names_in ds1 n) (counts holds_in ds1 n) (d.number ∷ queued k.dying.items) (goes h l), queued_length k.dying.items, inv.counted, inv.room)

    -- only an instance is held
    abbrev pub OnlyInstances : Type 0
    OnlyInstances = 0 < b → (t : Shared) → get_or k.objects.slots d.object None ≡ Some t → kind_number t.object ≡ 5

    -- as long as it is held no more often than it was
    pub still_instances : (0 < b → 0 < d.holds) → OnlyInstances
    still_instances h held t at = inv.instances key.0 d is (h held) t at

    len_same : slab_len (with_value k.descriptions key.0 (record d { names = a; holds = b })) ≡ slab_len k.descriptions
    len_same = count_same ds key.0 d (record d { names = a; holds = b }) is

    holds_store : (dying : Vec Dying A) → OnlyInstances → slab_len k.descriptions ≤ vec_capacity dying → k.named ≤ m → a ≤ m + 1
        → Queue (places ds n) (counts names_in ds1 n) (counts holds_in ds1 n) (queued dying.items) → AllKeyed (map key_number ds) dying.items → IsStore (next dying)
    holds_store dying only room le most q keyed = record {
      descriptions = numbered_counted ds n key.0 d is inv.descriptions a b;
      objects = inv.objects;
      backed = backed_counted ds n key.0 d is inv.descriptions a b k.objects.slots inv.backed;
      owned = owned_counted ds n key.0 d is inv.descriptions a b k.objects.slots inv.owned;
      counted = len_same ∙ (inv.counted ∙ ap (λ (xs : List (Option Place)). length (numbered 0 xs)) (sym (places_counted ds n key.0 d is inv.descriptions a b)));
      room = omega (arith, room, len_same);
      queue = on_places (queued dying.items) q;
      keyed = subst (λ (keys : List (Option ℕ)). AllKeyed keys dying.items) (sym (keys_counted ds n key.0 d is inv.descriptions a b)) keyed;
      fewer = fewer_counted ds n key.0 d is inv.descriptions a b k.named m inv.fewer le most;
      taken = inv.taken;
      owners = inv.owners;
      instances = instances_counted ds k.objects.slots key.0 d (record d { names = a; holds = b }) is refl only inv.instances;
      connected = inv.connected;
      loss_room = inv.loss_room;
    }

    -- it stays off the queue
    pub store_stays : OnlyInstances → k.named ≤ m → a ≤ m + 1 → (d.names == 0 && d.holds == 0) ≡ (a == 0 && b == 0) → IsStore (next k.dying)
    store_stays only le most h = holds_store k.dying only inv.room le most (stays h) inv.keyed

    -- it goes on the queue
    pub store_goes : (dying : Vec Dying A) → dying.items ≡ k.dying.items ++ record { key = key; number = d.number } ∷ [] → vec_capacity dying ≡ vec_capacity k.dying → OnlyInstances → k.named ≤ m → a ≤ m + 1
        → (d.names == 0 && d.holds == 0) ≡ false → (a == 0 && b == 0) ≡ true → IsStore (next dying)
    store_goes dying e cap only le most h l =
        let x : Dying = record { key = key; number = d.number } in
        let e1 : queued dying.items ≡ d.number ∷ queued k.dying.items = ap queued e ∙ queued_push k.dying.items x in
        let q = subst (λ (xs : List ℕ). Queue (places ds n) (counts names_in ds1 n) (counts holds_in ds1 n) xs) (sym e1) (goes h l) in
        let at : number_at (map key_number ds) key ≡ Some d.number = key_at ds key.0 ∙ ap key_number is in
        holds_store dying only (omega (arith, cap, inv.room)) le most q (subst (λ (xs : List Dying). AllKeyed (map key_number ds) xs) (sym e) (keyed_push (map key_number ds) k.dying.items x inv.keyed at))

    rest_same : (dying : Vec Dying A) (names holds : List ℕ) → counts names_in ds1 n ≡ names → counts holds_in ds1 n ≡ holds → things (next dying) ≡ record (things k) { names = names; holds = holds; dying = queued dying.items; named = m }
    rest_same dying names holds f g =
        let p = places_counted ds n key.0 d is inv.descriptions a b in
        let q = keys_counted ds n key.0 d is inv.descriptions a b in
        λ i. record (things k) { descriptions = p i; keys = q i; names = f i; holds = g i; dying = queued dying.items; named = m }

    pub things_names : (dying : Vec Dying A) → b ≡ d.holds → things (next dying) ≡ record v { names = slice_set v.names d.number a; dying = queued dying.items; named = m }
    things_names dying h =
        rest_same dying (slice_set (counts names_in ds n) d.number a) (counts holds_in ds n) (names_counted ds n key.0 d is inv.descriptions a b) (holds_kept ds n key.0 d is inv.descriptions a b h)
        ∙ ap (λ (w : Things). record w { names = slice_set w.names d.number a; dying = queued dying.items; named = m }) same

    pub things_holds : (dying : Vec Dying A) → a ≡ d.names → things (next dying) ≡ record v { holds = slice_set v.holds d.number b; dying = queued dying.items; named = m }
    things_holds dying h =
        rest_same dying (counts names_in ds n) (slice_set (counts holds_in ds n) d.number b) (names_kept ds n key.0 d is inv.descriptions a b h) (holds_counted ds n key.0 d is inv.descriptions a b)
        ∙ ap (λ (w : Things). record w { holds = slice_set w.holds d.number b; dying = queued dying.items; named = m }) same

  pub more_names : slice_set v.names d.number (d.names + 1) ≡ more_at v.names (thing_number v key)
  more_names = let e = thing_is k v inv same key d is in let f = names_are in λ i. slice_set v.names (sym e i) (sym f i + 1)

  pub less_names : slice_set v.names d.number (d.names - 1) ≡ less_at v.names (thing_number v key)
  less_names = let e = thing_is k v inv same key d is in let f = names_are in λ i. slice_set v.names (sym e i) (sym f i - 1)

  pub more_holds : slice_set v.holds d.number (d.holds + 1) ≡ more_at v.holds (thing_number v key)
  more_holds = let e = thing_is k v inv same key d is in let f = holds_are in λ i. slice_set v.holds (sym e i) (sym f i + 1)

  pub less_holds : slice_set v.holds d.number (d.holds - 1) ≡ less_at v.holds (thing_number v key)
  less_holds = let e = thing_is k v inv same key d is in let f = holds_are in λ i. slice_set v.holds (sym e i) (sym f i - 1)
