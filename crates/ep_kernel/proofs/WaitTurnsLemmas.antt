-- What a wait, or an event that is no wait and no epoll_ctl, does to the ready lists.
use Rattle.std.proofs.Common.{◌≡◌, ◌++◌, ◌∙◌, ◌==◌, ◌&&◌, ◌||◌, ℕ, zero, suc, Bool, true, false, List, [], ◌∷◌, None, Option, Some, ap, append-nil, cond, drop, filter, inl, inr, map, nat_lt, not, refl, slice_index_or, subst, sym, take}
use Rattle.std.specs.Option.{option_map}
use Rattle.std.proofs.lemmas.Bool.{cases_Bool, false_from_ne_true, false≢true}
use Rattle.std.proofs.lemmas.List.Elements.{All-head, All-tail}
use Rattle.ep_facts.proofs.NatFacts.{from_test, same_nat, same_test}
use Rattle.ep_facts.proofs.AmongFacts.{among_append}
use Rattle.ep_facts.proofs.ListFacts.{all_kept}
use Rattle.ep_facts.proofs.BoolFacts.{both_true, from_not, from_not_false, or_right}
use Rattle.ep_base.specs.declared.call.Call.{Call}
use Rattle.ep_base.specs.declared.call.Call.TheVariants.{EpollCtl}
use Rattle.ep_base.specs.declared.call.Event.{Event}
use Rattle.ep_base.specs.declared.call.Event.TheVariants.{Call as CallOf}
use Rattle.ep_base.specs.declared.ids.EntryId.{EntryId}
use Rattle.ep_base.specs.declared.ids.Pid.{Pid}
use Rattle.ep_calls.proofs.MappedLemmas.{numbered_mapped}
use Rattle.ep_calls.specs.FileCall.{IsFileCall}
use Rattle.ep_calls.specs.Parts.{Parts}
use Rattle.ep_calls.specs.Readiness.{entry_shows, readiness}
use Rattle.ep_calls.specs.Wait.{AreKeyed, IsKeyed, numbers_of, with_report}
use Rattle.ep_calls.specs.declared.wait.Reportable.{Reportable}
use Rattle.ep_interest.specs.Registrations.{IsSound, Registrations, entry_found, entry_under, number_under, numbered}
use Rattle.ep_interest.specs.declared.entry.Entry.{Entry}
use Rattle.ep_kernel.proofs.EntryLemmas.{is_under}
use Rattle.ep_kernel.specs.Choose.{IsFound, keys_of}
use Rattle.ep_kernel.specs.Listed.{HavePlaces, IsListed, MayStand, key_shows, may_stand, shows_found}
use Rattle.ep_kernel.specs.Take.{SetsList, key_stays, stays_found, taken}
use Rattle.ep_kernel.specs.Turns.{AlteredStand, Turns}
use Rattle.ep_law.proofs.ListLemmas.{among, among_member, filtered_member, filtered_passes, member_filter, taken_member}
use Rattle.ep_law.specs.Laws.{Member}
use Rattle.ep_machine.specs.Bits.{ET, ONESHOT, has_bit, when}
use Rattle.ep_machine.specs.Lists.{are_distinct, is_among}
use Rattle.ep_rings.specs.KeyWalk.{entry_id}
use Rattle.ep_ready.specs.ReadyLists.{IsSound as AreSoundLists, Lists, instance_at, list_at, stands, stands_by}

-- Lists of keys.

-- what is not among others stays
kept_apart : (ws xs : List ℕ) → ((k : ℕ) → Member k xs → is_among ws k ≡ false) → filter (λ k. not (is_among ws k)) xs ≡ xs
kept_apart ws [] h = refl
kept_apart ws (x ∷ xs) h =
    ap (λ (b : Bool). cond (not b) (x ∷ filter (λ k. not (is_among ws k)) xs) (filter (λ k. not (is_among ws k)) xs)) (h x (inl refl))
    ∙ ap (λ (ys : List ℕ). x ∷ ys) (kept_apart ws xs (λ k m. h k (inr m)))

-- of a list that has none twice, what is not among the first so many is what comes behind them
left_behind : (n : ℕ) (xs : List ℕ) → are_distinct xs ≡ true → filter (λ k. not (is_among (take n xs) k)) xs ≡ drop n xs
left_behind zero xs h = all_kept xs
left_behind (suc n) [] h = refl
left_behind (suc n) (x ∷ xs) h =
    let new = both_true (not (is_among xs x)) (are_distinct xs) h in
    ap (λ (b : Bool). cond (not (b || is_among (take n xs) x)) (x ∷ filter (λ k. not (is_among (x ∷ take n xs) k)) xs) (filter (λ k. not (is_among (x ∷ take n xs) k)) xs)) (same_nat x)
    ∙ (other (λ k. not (is_among (take n xs) k)) xs (λ k m. false_from_ne_true (k == x) (λ t. false≢true (sym (from_not _ new.0) ∙ subst (λ (j : ℕ). is_among xs j ≡ true) (from_test k x t) (among k xs m))))
    ∙ left_behind n xs new.1) where
      other : (q : ℕ → Bool) (ys : List ℕ) → ((k : ℕ) → Member k ys → (k == x) ≡ false) → filter (λ k. not (k == x || is_among (take n xs) k)) ys ≡ filter (λ k. not (is_among (take n xs) k)) ys
      other q [] h = refl
      other q (y ∷ ys) h =
          let rest = other q ys (λ k m. h k (inr m)) in
          λ i. cond (not (h y (inl refl) i || is_among (take n xs) y)) (y ∷ rest i) (rest i)

-- Tests.

-- what shows something though it isn't fresh is armed, and not edge-triggered
shows_stale : (armed : Bool) (bits : ℕ) (edge fresh : Bool) → fresh ≡ false → (nat_lt 0 (when armed bits) && (not edge || fresh)) ≡ true → (armed ≡ true) × (edge ≡ false)
shows_stale false bits edge fresh stale h = absurd (false≢true h)
shows_stale true bits false fresh stale h = (refl, refl)
shows_stale true bits true true stale h = absurd (false≢true (sym stale))
shows_stale true bits true false stale h = absurd (false≢true (both_true (nat_lt 0 bits) false h).1)

stays_all : (same armed edge : Bool) → same ≡ true → armed ≡ true → edge ≡ false → (same && armed && not edge) ≡ true
stays_all same armed edge s a e = λ i. s i && a i && not (e i)

stays_may : (same armed edge fresh : Bool) → (same && armed && not edge) ≡ true → (armed && (not edge || fresh)) ≡ true
stays_may true true false fresh h = refl
stays_may true true true fresh h = absurd (false≢true h)
stays_may true false edge fresh h = absurd (false≢true h)
stays_may false armed edge fresh h = absurd (false≢true h)

-- Registrations under a report.

abbrev disarmed : ℕ → Entry → Entry
disarmed n x = record x { armed = x.armed && not (has_bit x.mask.0 ONESHOT); fresh = false; reported_in = n }

is_disarmed : (n : ℕ) (ks : List ℕ) (x : Entry) → is_among ks x.number ≡ true → with_report n ks x ≡ disarmed n x
is_disarmed n ks x t = ap (λ (b : Bool). cond b (disarmed n x) x) t

is_same : (n : ℕ) (ks : List ℕ) (x : Entry) → is_among ks x.number ≡ false → with_report n ks x ≡ x
is_same n ks x f = ap (λ (b : Bool). cond b (disarmed n x) x) f

number_reported : (n : ℕ) (ks : List ℕ) (x : Entry) → (with_report n ks x).number ≡ x.number
number_reported n ks x = elim (is_among ks x.number) as (λ b. (let y : Entry = cond b (record x { armed = x.armed && not (has_bit x.mask.0 ONESHOT); fresh = false; reported_in = n }) x in y.number ≡ x.number)) [ true ↦ refl | false ↦ refl ]

instance_reported : (n : ℕ) (ks : List ℕ) (x : Entry) → (with_report n ks x).instance.0 ≡ x.instance.0
instance_reported n ks x = elim (is_among ks x.number) as (λ b. (let y : Entry = cond b (record x { armed = x.armed && not (has_bit x.mask.0 ONESHOT); fresh = false; reported_in = n }) x in y.instance.0 ≡ x.instance.0)) [ true ↦ refl | false ↦ refl ]

numbered_reported : (n : ℕ) (ks : List ℕ) (xs : List Entry) (j : ℕ) → numbered (map (with_report n ks) xs) j ≡ option_map (with_report n ks) (numbered xs j)
numbered_reported n ks = numbered_mapped (with_report n ks) (number_reported n ks)

found_reported : (n : ℕ) (ks : List ℕ) (xs : List Entry) (o : Option ℕ) → entry_found (map (with_report n ks) xs) o ≡ option_map (with_report n ks) (entry_found xs o)
found_reported n ks xs None = refl
found_reported n ks xs (Some j) = numbered_reported n ks xs j

-- it is one that was there
mapped_from : (f : Entry → Entry) (o : Option Entry) (x : Entry) → option_map f o ≡ Some x → (y : Entry) × (o ≡ Some y) × (f y ≡ x)
mapped_from f None x h = absurd (cc)
mapped_from f (Some y) x h = (y, refl, cc)

same_instance : (n : ℕ) (ks : List ℕ) (o : Option Entry) → option_map (λ x. x.instance.0) (option_map (with_report n ks) o) ≡ option_map (λ x. x.instance.0) o
same_instance n ks None = refl
same_instance n ks (Some x) = ap (λ (i : ℕ). Some i) (instance_reported n ks x)

-- registrations keep their places
pub places_reported : (p q : Parts) (l : Lists) (n : ℕ) (ks : List ℕ) → q.interest.keys ≡ p.interest.keys → q.interest.entries ≡ map (with_report n ks) p.interest.entries → HavePlaces p.interest l → HavePlaces q.interest l
places_reported p q l n ks keys entries have id =
    let under : entry_under q.interest id ≡ option_map (with_report n ks) (entry_under p.interest id) =
    (λ j. entry_found (entries j) (slice_index_or (keys j) id.0 None)) ∙ found_reported n ks p.interest.entries (number_under p.interest id) in
    have id ∙ (sym (same_instance n ks (entry_under p.interest id)) ∙ ap (option_map (λ (x : Entry). x.instance.0)) (sym under))

-- What is found.

found_key : (p : Parts) (xs : List Reportable) (k : ℕ) → AreKeyed p.tables p.clock p.interest xs → Member k (keys_of xs) → (y : Reportable) × (y.id.0 ≡ k) × Member y.entry.number (numbers_of xs) × (number_under p.interest y.id ≡ Some y.entry.number)
found_key p [] k keyed m = absurd m
found_key p (x ∷ xs) k keyed (inl e) = (x, sym e, inl refl, (All-head (IsKeyed p.tables p.clock p.interest) x xs keyed).key)
found_key p (x ∷ xs) k keyed (inr m) = let w = found_key p xs k (All-tail (IsKeyed p.tables p.clock p.interest) x xs keyed) m in (w.0, w.1, inr w.2, w.3)

found_number : (p : Parts) (xs : List Reportable) (n : ℕ) → AreKeyed p.tables p.clock p.interest xs → Member n (numbers_of xs) → (y : Reportable) × (y.entry.number ≡ n) × Member y.id.0 (keys_of xs) × (number_under p.interest y.id ≡ Some y.entry.number)
found_number p [] n keyed m = absurd m
found_number p (x ∷ xs) n keyed (inl e) = (x, sym e, inl refl, (All-head (IsKeyed p.tables p.clock p.interest) x xs keyed).key)
found_number p (x ∷ xs) n keyed (inr m) = let w = found_number p xs n (All-tail (IsKeyed p.tables p.clock p.interest) x xs keyed) m in (w.0, w.1, inr w.2, w.3)

-- A wait at instance i that found this of the first so many on its list.
module _ (p q : Parts) (l m : Lists) (i step most walked : ℕ) (found : List Reportable) (picked : List ℕ) where
  -- all that is known of it
  pub record IsWait : Type 0 where
    pub listed : IsListed p l
    pub sound : IsSound p.interest
    pub lists : AreSoundLists l
    pub finds : IsFound p (list_at l i) most found walked
    pub picks : picked ≡ numbers_of found
    pub keys : q.interest.keys ≡ p.interest.keys
    pub entries : q.interest.entries ≡ map (with_report step picked) p.interest.entries
    pub takes : SetsList l m i (taken (key_stays step q.interest) walked (list_at l i))

  abbrev front_keys : List ℕ
  front_keys = take walked (list_at l i)

  abbrev still : ℕ → Bool
  still k = not (is_among front_keys k)

  abbrev again_of : List ℕ
  again_of = filter (key_stays step q.interest) front_keys

  abbrev more_at : ℕ → List ℕ
  more_at j = cond (j == i) again_of []

  module _ (w : IsWait) where
    -- what it looked at is of its instance
    front_place : (k : ℕ) → is_among front_keys k ≡ true → instance_at l (entry_id k) ≡ Some i
    front_place k t = w.lists.own i (entry_id k) (among k (list_at l i) (taken_member walked (list_at l i) k (among_member front_keys k t)))

    lists_go_on : (j : ℕ) → list_at m j ≡ filter still (list_at l j) ++ more_at j
    lists_go_on j = elim (cases_Bool (j == i)) [
      | inl t ↦
          let same = from_test j i t in
          ap (list_at m) same ∙ (w.takes.here
          ∙ (ap (λ (ks : List ℕ). ks ++ again_of) (sym (left_behind walked (list_at l i) (w.lists.once i)) ∙ ap (λ (n : ℕ). filter still (list_at l n)) (sym same))
          ∙ ap (λ (b : Bool). filter still (list_at l j) ++ cond b again_of []) (sym t)))
      | inr f ↦
          let other : (k : ℕ) → Member k (list_at l j) → is_among front_keys k ≡ false = λ k has. false_from_ne_true (is_among front_keys k) (λ t.
          let one : Some j ≡ Some i = sym (w.lists.own j (entry_id k) (among k (list_at l j) has)) ∙ front_place k t in
          let same : j ≡ i = cc in
          false≢true (sym f ∙ same_test j i same)) in
          w.takes.others j (λ same. false≢true (sym f ∙ same_test j i same))
          ∙ (sym (kept_apart front_keys (list_at l j) other)
          ∙ (sym (append-nil (filter still (list_at l j))) ∙ ap (λ (b : Bool). filter still (list_at l j) ++ cond b again_of []) (sym f)))
    ]

    -- what it reports was looked at
    picked_in_front : (k n : ℕ) → number_under p.interest (entry_id k) ≡ Some n → is_among picked n ≡ true → is_among front_keys k ≡ true
    picked_in_front k n is t =
        let y = found_number p found n w.finds.keyed (among_member (numbers_of found) n (subst (λ (ks : List ℕ). is_among ks n ≡ true) w.picks t)) in
        let one = w.sound.one_key y.0.id (entry_id k) n (y.3 ∙ ap (λ (a : ℕ). Some a) y.1) is in
        let on : Member y.0.id.0 (filter (key_shows p) front_keys) = subst (λ (ks : List ℕ). Member y.0.id.0 ks) w.finds.first y.2 in
        subst (λ (id : EntryId). is_among front_keys id.0 ≡ true) one (among y.0.id.0 front_keys (filtered_member (key_shows p) front_keys y.0.id.0 on))

    -- what it looked at and shows something is reported
    shown_is_picked : (k n : ℕ) → number_under p.interest (entry_id k) ≡ Some n → is_among front_keys k ≡ true → key_shows p k ≡ true → is_among picked n ≡ true
    shown_is_picked k n is t shows =
        let on = member_filter (key_shows p) k front_keys (among_member front_keys k t) shows in
        let y = found_key p found k w.finds.keyed (subst (λ (ks : List ℕ). Member k ks) (sym w.finds.first) on) in
        let one : Some y.0.entry.number ≡ Some n = sym y.3 ∙ (ap (λ (a : ℕ). number_under p.interest (entry_id a)) y.1 ∙ is) in
        let number : y.0.entry.number ≡ n = cc in
        subst (λ (ks : List ℕ). is_among ks n ≡ true) (sym w.picks) (subst (λ (a : ℕ). is_among (numbers_of found) a ≡ true) number (among y.0.entry.number (numbers_of found) y.2))

    same_numbers : (id : EntryId) → number_under q.interest id ≡ number_under p.interest id
    same_numbers id = ap (λ (ks : List (Option ℕ)). number_under (record p.interest { keys = ks }) id) w.keys

    under_reported : (id : EntryId) → entry_under q.interest id ≡ option_map (with_report step picked) (entry_under p.interest id)
    under_reported id =
        (λ j. entry_found (w.entries j) (same_numbers id j))
        ∙ found_reported step picked p.interest.entries (number_under p.interest id)

    have_places : HavePlaces q.interest m
    have_places id =
        w.takes.places id
        ∙ (w.listed.places id
        ∙ (sym (same_instance step picked (entry_under p.interest id)) ∙ ap (option_map (λ (x : Entry). x.instance.0)) (sym (under_reported id))))

    -- of one that it had: what it reports of it
    entry_before : (id : EntryId) (x : Entry) → entry_under q.interest id ≡ Some x → (y : Entry) × (entry_under p.interest id ≡ Some y) × (with_report step picked y ≡ x) × (number_under p.interest id ≡ Some y.number)
    entry_before id x is =
        let b = mapped_from (with_report step picked) (entry_under p.interest id) x (sym (under_reported id) ∙ is) in
        (b.0, b.1, b.2, (is_under p.interest id b.0 b.1).number)

    stands_again : (k : ℕ) (x : Entry) → entry_under q.interest (entry_id k) ≡ Some x → is_among picked x.number ≡ true → key_shows q k ≡ true → stands m (entry_id k) ≡ true
    stands_again k x is t shows =
        let b = entry_before (entry_id k) x is in
        let picks : is_among picked b.0.number ≡ true = ap (λ (n : ℕ). is_among picked n) (sym (number_reported step picked b.0) ∙ ap (λ (y : Entry). y.number) b.2) ∙ t in
        let new : x ≡ disarmed step b.0 = sym b.2 ∙ is_disarmed step picked b.0 picks in
        let shown : entry_shows (readiness q.tables q.clock q.interest) q.tables q.clock x ≡ true = sym (ap (shows_found q) is) ∙ shows in
        let on = shows_stale x.armed _ (has_bit x.mask.0 ET) x.fresh (ap (λ (y : Entry). y.fresh) new) shown in
        let stays : key_stays step q.interest k ≡ true =
        ap (stays_found step) is
        ∙ stays_all (x.reported_in == step) x.armed (has_bit x.mask.0 ET) (ap (λ (y : Entry). y.reported_in == step) new ∙ same_nat step) on.0 on.1 in
        let seen = picked_in_front k b.0.number b.3 picks in
        let behind : is_among again_of k ≡ true = among k again_of (member_filter (key_stays step q.interest) k front_keys (among_member front_keys k seen) stays) in
        ap (stands_by m k) (w.takes.places (entry_id k) ∙ front_place k seen)
        ∙ (ap (λ (ks : List ℕ). is_among ks k) w.takes.here
        ∙ (among_append (drop walked (list_at l i)) again_of k
        ∙ or_right (is_among (drop walked (list_at l i)) k) (is_among again_of k) behind))

    -- what stays where it stood is as it was
    still_may_stand : (id : EntryId) (x : Entry) (j : ℕ) → entry_under q.interest id ≡ Some x → instance_at m id ≡ Some j → is_among (filter still (list_at l j)) id.0 ≡ true → may_stand x ≡ true
    still_may_stand id x j is at on =
        let b = entry_before id x is in
        let kept = among_member (filter still (list_at l j)) id.0 on in
        let stays = filtered_passes still (list_at l j) id.0 kept in
        let other : is_among picked b.0.number ≡ false = false_from_ne_true _ (λ t. false≢true (sym (from_not _ stays) ∙ picked_in_front id.0 b.0.number b.3 t)) in
        let same : b.0 ≡ x = sym (is_same step picked b.0 other) ∙ b.2 in
        let stand : stands l id ≡ true = ap (stands_by l id.0) (sym (w.takes.places id) ∙ at) ∙ among id.0 (list_at l j) (filtered_member still (list_at l j) id.0 kept) in
        subst (λ (y : Entry). may_stand y ≡ true) same (w.listed.sound id b.0 b.1 stand)

    again_may_stand : (id : EntryId) (x : Entry) (j : ℕ) → entry_under q.interest id ≡ Some x → is_among (more_at j) id.0 ≡ true → may_stand x ≡ true
    again_may_stand id x j is on = elim (cases_Bool (j == i)) [
      | inl t ↦
          let behind : is_among again_of id.0 ≡ true = ap (λ (b : Bool). is_among (cond b again_of []) id.0) (sym t) ∙ on in
          let stays = filtered_passes (key_stays step q.interest) front_keys id.0 (among_member again_of id.0 behind) in
          stays_may (x.reported_in == step) x.armed (has_bit x.mask.0 ET) x.fresh (sym (ap (stays_found step) is) ∙ stays)
      | inr f ↦ absurd (false≢true (ap (λ (b : Bool). is_among (cond b again_of []) id.0) (sym f) ∙ on))
    ]

    may_all_stand : MayStand q.interest m
    may_all_stand id x is stand = by (instance_at m id) refl stand where
      by : (o : Option ℕ) → instance_at m id ≡ o → stands_by m id.0 o ≡ true → may_stand x ≡ true
      by None at t = absurd (false≢true t)
      by (Some j) at t =
          let split = sym (among_append (filter still (list_at l j)) (more_at j) id.0) ∙ (ap (λ (ks : List ℕ). is_among ks id.0) (sym (lists_go_on j)) ∙ t) in
          elim (cases_Bool (is_among (filter still (list_at l j)) id.0)) [
            | inl on ↦ still_may_stand id x j is at on
            | inr off ↦ again_may_stand id x j is (ap (λ (b : Bool). b || is_among (more_at j) id.0) (sym off) ∙ split)
          ]

    comes_from : (j k : ℕ) → is_among (more_at j) k ≡ true → is_among (list_at l j) k ≡ true
    comes_from j k on = elim (cases_Bool (j == i)) [
      | inl t ↦
          let behind : is_among again_of k ≡ true = ap (λ (b : Bool). is_among (cond b again_of []) k) (sym t) ∙ on in
          let seen = filtered_member (key_stays step q.interest) front_keys k (among_member again_of k behind) in
          ap (λ (d : ℕ). is_among (list_at l d) k) (from_test j i t) ∙ among k (list_at l i) (taken_member walked (list_at l i) k seen)
      | inr f ↦ absurd (false≢true (ap (λ (b : Bool). is_among (cond b again_of []) k) (sym f) ∙ on))
    ]

    pub wait_turns : (event : Event) → AlteredStand event p q m → Turns event picked p l q m
    wait_turns event altered = record {
      keeps = still;
      more = more_at;
      lists = lists_go_on;
      comes = λ j k on. inl (comes_from j k on);
      unpicked = λ j k x on is keeps. false_from_ne_true (is_among picked x.number) (λ t.
          false≢true (sym (from_not (is_among front_keys k) keeps) ∙ picked_in_front k x.number (is_under p.interest (entry_id k) x is).number t));
      leaves = λ j k x on is goes shows. inl (shown_is_picked k x.number (is_under p.interest (entry_id k) x is).number (from_not_false (is_among front_keys k) goes) shows);
      again = stands_again;
      altered = altered;
      ids = λ id n is. inl (sym (same_numbers id) ∙ is);
      places = have_places;
      sound = may_all_stand;
    }

-- What changes no registration and no list.

pub same_turns : (event : Event) (picked : List ℕ) (p q : Parts) (l : Lists) → IsListed p l → q.interest ≡ p.interest → picked ≡ [] → AlteredStand event p q l → Turns event picked p l q l
same_turns event picked p q l listed same none altered = record {
  keeps = λ k. true;
  more = λ j. [];
  lists = λ j. sym (append-nil (filter (λ k. true) (list_at l j)) ∙ all_kept (list_at l j));
  comes = λ j k on. absurd (false≢true on);
  unpicked = λ j k x on is keeps. ap (λ (ks : List ℕ). is_among ks x.number) none;
  leaves = λ j k x on is goes shows. absurd (false≢true (sym goes));
  again = λ k x is t shows. absurd (false≢true (ap (λ (ks : List ℕ). is_among ks x.number) (sym none) ∙ t));
  altered = altered;
  ids = λ id n is. inl (subst (λ (r : Registrations). number_under r id ≡ Some n) same is);
  places = subst (λ (r : Registrations). HavePlaces r l) (sym same) listed.places;
  sound = subst (λ (r : Registrations). MayStand r l) (sym same) listed.sound;
}

-- where the parts stay, whatever stands on a list
pub refused_altered : (event : Event) (p : Parts) (l : Lists) → IsListed p l → AlteredStand event p p l
refused_altered (CallOf pid (EpollCtl epfd op fd mask tag)) p l listed = λ k x is adds at fd_is target shows. listed.complete k shows
refused_altered event p l listed = tt

pub refused_turns : (event : Event) (picked : List ℕ) (p : Parts) (l : Lists) → IsListed p l → picked ≡ [] → Turns event picked p l p l
refused_turns event picked p l listed none = same_turns event picked p p l listed refl none (refused_altered event p l listed)

pub files_altered : (pid : Pid) (call : Call) (p q : Parts) (l : Lists) → IsFileCall call → AlteredStand (CallOf pid call) p q l
files_altered pid (EpollCtl epfd op fd mask tag) p q l h = absurd h
files_altered pid call p q l h = tt
