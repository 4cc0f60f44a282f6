-- An event as a whole: what its phases do to the ready lists, one after another.
use Rattle.ep_calls.proofs.EntryLemmas.{holds_under}
use Rattle.std.proofs.Common.{◌≡◌, ◌∙◌, ◌+◌, ◌==◌, ◌&&◌, ◌||◌, ◌⊎◌, ◌++◌, ◌≤◌, ℕ, Bool, true, false, not, IsSome, List, [], ◌∷◌, None, Option, Some, ap, arith, cond, filter, inl, inr, map, nat_lt, refl, slice_index_or, subst, sym, unwrap_or}
use Rattle.std.specs.Option.{option_map}
use Rattle.std.proofs.lemmas.Bool.{cases_Bool, false≢true}
use Rattle.std.proofs.lemmas.List.{append_assoc}
use Rattle.std.proofs.lemmas.List.Elements.{filter-append}
use Rattle.ep_facts.proofs.NatFacts.{from_test, same_test}
use Rattle.ep_facts.proofs.AmongFacts.{among_append}
use Rattle.ep_facts.proofs.OptionFacts.{none_is_some}
use Rattle.ep_facts.proofs.BoolFacts.{first_of_and, from_not_and, or_left, or_right, second_of_and}
use Rattle.ep_facts.proofs.ListFacts.{filter_two}
use Rattle.ep_base.specs.declared.call.Event.{Event}
use Rattle.ep_base.specs.declared.ids.DescId.{DescId}
use Rattle.ep_base.specs.declared.ids.EntryId.{EntryId}
use Rattle.ep_calls.proofs.KeepsLemmas.{SettlesMarks}
use Rattle.ep_calls.proofs.KeyLemmas.{number_kept}
use Rattle.ep_calls.specs.Burial.{Burial}
use Rattle.ep_calls.specs.Moves.{StandFor}
use Rattle.ep_calls.specs.Parts.{AreCoherent, Parts}
use Rattle.ep_calls.specs.Stands.{IsLinked, KeepsKeys, number_at, watch_at}
use Rattle.ep_calls.specs.declared.outcome.Outcome.{Outcome}
use Rattle.ep_interest.specs.Registrations.{IsSound, Registrations, entry_under, number_under}
use Rattle.ep_interest.specs.declared.entry.Entry.{Entry}
use Rattle.ep_kernel.proofs.EntryLemmas.{is_under}
use Rattle.ep_kernel.proofs.NumberLemmas.{AreNumbered, among_numbers, distinct_order, entry_at, kept_numbers, key_is, list_numbered, number_member, numbers_at, same_numbers, shown_of, stays_by, stays_is}
use Rattle.ep_calls.specs.Ends.{Leaves}
use Rattle.ep_kernel.proofs.SurvivalLemmas.{gone, gone_is, places_climbed, places_left, sound_climbed, sound_left, was_under}
use Rattle.ep_kernel.proofs.ViewLemmas.{Views, entry_views, some_entry}
use Rattle.ep_kernel.specs.Listed.{HavePlaces, MayStand, key_shows, order_at}
use Rattle.ep_kernel.specs.Places.{LosesDying}
use Rattle.ep_kernel.specs.Push.{Gains, comes_in, is_home}
use Rattle.ep_kernel.specs.Turns.{Turns}
use Rattle.ep_law.proofs.ListLemmas.{among, among_member, filtered_member}
use Rattle.ep_law.specs.Laws.{Member, is_reportable_in}
use Rattle.ep_machine.specs.Lists.{are_distinct, is_among}
use Rattle.ep_machine.specs.State.{State}
use Rattle.ep_calls.proofs.KeyLemmas.{same_keys}
use Rattle.ep_calls.specs.Raising.{AsRaisedIn}
use Rattle.ep_calls.specs.Readiness.{entry_shows, readiness}
use Rattle.ep_interest.specs.Registrations.{entry_found}
use Rattle.ep_calls.proofs.PassLemmas.{left_member, noted_watch, passes_is}
use Rattle.ep_kernel.proofs.SurvivalLemmas.{climb, climbed_back, comes_if, may_watch}
use Rattle.ep_kernel.proofs.ViewLemmas.{one_view, view_at}
use Rattle.ep_kernel.specs.Listed.{shows_found}
use Rattle.ep_law.proofs.ListLemmas.{member_filter, member_map}
use Rattle.ep_law.specs.Laws.{passes_on_of}
use Rattle.ep_machine.specs.Bits.{ET, has_bit, when}
use Rattle.ep_machine.specs.Readiness.{is_reportable}
use Rattle.ep_machine.specs.State.{Change, Watch}
use Rattle.ep_machine.specs.Step.{next_event}
use Rattle.ep_order.specs.Event.{EndsReportable, IsAltered, Relists, end_of}
use Rattle.ep_view.proofs.KernelViewLemmas.{reportable_kept}
use Rattle.ep_view.specs.AtRest.{Changed, Remains}
use Rattle.ep_view.specs.KernelView.{KernelWatch, carries, kernel_watch, reached_now, ready_now, shows}
use Rattle.ep_rings.specs.KeyWalk.{entry_id}
use Rattle.ep_ready.specs.ReadyLists.{IsSound as AreSoundLists, Lists, instance_at, list_at, stands, stands_by}
use Rattle.ep_table.specs.Value.{Sound as SoundTables, number_under as desc_number}

-- Lists.

numbers_append : (r : Registrations) (xs ys : List ℕ) → numbers_at r (xs ++ ys) ≡ numbers_at r xs ++ numbers_at r ys
numbers_append r [] ys = refl
numbers_append r (x ∷ xs) ys = ap (λ (ks : List ℕ). unwrap_or (number_under r (entry_id x)) 0 ∷ ks) (numbers_append r xs ys)

pub member_first : {X : Type 0} (x : X) (xs ys : List X) → Member x xs → Member x (xs ++ ys)
member_first x [] ys m = absurd m
member_first x (y ∷ xs) ys (inl e) = inl e
member_first x (y ∷ xs) ys (inr m) = inr (member_first x xs ys m)

-- what stands in the second of two lists without repeats does not stand in the first
pub apart_lists : (xs ys : List ℕ) (k : ℕ) → are_distinct (xs ++ ys) ≡ true → is_among ys k ≡ true → is_among xs k ≡ false
apart_lists [] ys k h t = refl
apart_lists (x ∷ xs) ys k h t =
    let apart = from_not_and (is_among (xs ++ ys) x) (are_distinct (xs ++ ys)) h in
    let rest = apart_lists xs ys k apart.1 t in
    elim (cases_Bool (k == x)) [
      | inl same ↦ absurd (false≢true (sym apart.0 ∙ (ap (is_among (xs ++ ys)) (sym (from_test k x same)) ∙ (among_append xs ys k ∙ or_right _ _ t))))
      | inr other ↦ ap (λ (b : Bool). b || is_among xs k) other ∙ rest
    ]

-- from the parts and lists before an event to those after it
pub record Follows (n : ℕ) (event : Event) (outcome : Outcome) (old mid noted buried climbed new : Parts) (l0 l1 l2 l3 : Lists) : Type 0 where
  pub coherent : AreCoherent old
  pub tables : SoundTables old.tables
  pub keys : KeepsKeys old.tables mid.tables
  pub leaves : Leaves n outcome.raising mid noted.interest buried
  pub settles : SettlesMarks n outcome.raising old mid noted buried climbed new
  pub climbed_keys : climbed.interest.keys ≡ buried.interest.keys
  pub was : IsSound old.interest
  pub now : IsSound climbed.interest
  pub turns : Turns event outcome.picked old l0 mid l1
  pub loses : LosesDying noted.tables noted.interest l1 l2
  pub gains : Gains (comes_in n buried) l2 l3
  pub lists_before : AreSoundLists l0
  pub lists_after : AreSoundLists l3

module _ (n : ℕ) (event : Event) (outcome : Outcome) (old mid noted buried climbed new : Parts) (l0 l1 l2 l3 : Lists) (follows : Follows n event outcome old mid noted buried climbed new l0 l1 l2 l3) where
  abbrev settles : SettlesMarks n outcome.raising old mid noted buried climbed new
  settles = follows.settles

  pub burial : Burial n mid.tables noted.interest buried.tables buried.interest
  burial = follows.leaves.burial

  abbrev pub leaves : Leaves n outcome.raising mid noted.interest buried
  leaves = follows.leaves

  pub loses : LosesDying mid.tables noted.interest l1 l2
  loses = subst (λ (p : Parts). LosesDying p.tables p.interest l1 l2) settles.noted_others follows.loses

  abbrev pub is_gone : ℕ → Bool
  is_gone = gone n outcome.raising mid noted.interest buried leaves l1 l2 loses

  places_buried : HavePlaces buried.interest l2
  places_buried = places_left n outcome.raising mid noted.interest buried leaves l1 l2 loses follows.turns.places

  pub places_after : HavePlaces climbed.interest l3
  places_after =
      places_climbed n buried climbed.interest settles.climbs follows.climbed_keys follows.leaves.left follows.now settles.coherent_buried settles.sound_buried
      l3 (λ id. follows.gains.places id ∙ places_buried id)

  pub sound_after : MayStand climbed.interest l3
  sound_after =
      sound_climbed n buried climbed.interest settles.climbs follows.climbed_keys follows.leaves.left follows.now settles.coherent_buried settles.sound_buried
      l2 l3 places_buried (sound_left n outcome.raising mid noted.interest buried leaves l1 l2 loses follows.turns.places follows.turns.sound) follows.gains

  -- the parts that are left
  abbrev pub settled : Parts
  settled = record buried { interest = climbed.interest; parked = new.parked }

  pub settled_is : new ≡ settled
  settled_is = settles.marked_others ∙ ap (λ (p : Parts). record p { parked = new.parked }) settles.climbed_others

  -- a number under a key stood there after the change
  pub mid_number : (k m : ℕ) → number_under climbed.interest (entry_id k) ≡ Some m → number_under mid.interest (entry_id k) ≡ Some m
  mid_number k m h =
      let read = λ (ks : List (Option ℕ)). slice_index_or ks k None in
      let buried_number : number_under buried.interest (entry_id k) ≡ Some m = sym (ap read follows.climbed_keys) ∙ h in
      elim (follows.leaves.ids (entry_id k)) [
        | inl none ↦ absurd (none_is_some m _ none buried_number)
        | inr same ↦ sym (ap read follows.leaves.keys) ∙ (sym same ∙ buried_number)
      ]

  -- and before it, or is the one that was added
  pub old_number : (k m : ℕ) → number_under climbed.interest (entry_id k) ≡ Some m → (number_under old.interest (entry_id k) ≡ Some m) ⊎ ((number_under old.interest (entry_id k) ≡ None) × (m ≡ old.interest.added + 1))
  old_number k m h = follows.turns.ids (entry_id k) m (mid_number k m h)

  -- what has a registration at the end, did not die
  pub not_gone : (k m : ℕ) → number_under climbed.interest (entry_id k) ≡ Some m → is_gone k ≡ false
  not_gone k m h =
      let buried_number : number_under buried.interest (entry_id k) ≡ Some m = sym (ap (λ (ks : List (Option ℕ)). slice_index_or ks k None) follows.climbed_keys) ∙ h in
      let y = some_entry buried.tables.keys buried.interest follows.leaves.left k m buried_number in
      let w = was_under n outcome.raising mid noted.interest buried leaves (entry_id k) y.0 y.1 in
      gone_is n outcome.raising mid noted.interest buried leaves l1 l2 loses k (watch_at mid.tables.keys w.x) (entry_views mid.tables.keys mid.interest k w.x w.under) ∙ ap not w.untouched

  module _ (s t : State) (stands_before : StandFor old s) (stands_after : StandFor settled t) (places_before : HavePlaces old.interest l0) (i : DescId) where
    abbrev pub old_keys : List ℕ
    old_keys = list_at l0 i.0

    abbrev pub order_before : List ℕ
    order_before = order_at old.interest l0 i.0

    abbrev pub order_after : List ℕ
    order_after = order_at climbed.interest l3 i.0

    abbrev pub keeps_key : ℕ → Bool
    keeps_key k = follows.turns.keeps k && not (is_gone k)

    abbrev more_keys : List ℕ
    more_keys = filter (λ k. not (is_gone k)) (follows.turns.more i.0) ++ follows.gains.more i.0

    abbrev pub keeps_number : ℕ → Bool
    keeps_number = stays_by old.interest follows.was keeps_key old_keys

    abbrev pub more_numbers : List ℕ
    more_numbers = numbers_at climbed.interest more_keys

    list_is : list_at l3 i.0 ≡ filter keeps_key old_keys ++ more_keys
    list_is =
        let stay : ℕ → Bool = λ k. not (is_gone k) in
        let turned = follows.turns.more i.0 in
        follows.gains.lists i.0
        ∙ (ap (λ (ks : List ℕ). ks ++ follows.gains.more i.0)
        (loses.places.lists i.0 ∙ (ap (filter stay) (follows.turns.lists i.0) ∙ (filter-append stay (filter follows.turns.keeps old_keys) turned ∙ ap (λ (ks : List ℕ). ks ++ filter stay turned) (filter_two follows.turns.keeps stay old_keys))))
        ∙ append_assoc (filter keeps_key old_keys) (filter stay turned) (follows.gains.more i.0))

    old_entry : (k : ℕ) → Member k old_keys → (x : Entry) × (entry_under old.interest (entry_id k) ≡ Some x) × (x.instance.0 ≡ i.0)
    old_entry k m = entry_at old s stands_before follows.was follows.coherent.linked follows.tables l0 places_before follows.lists_before i.0 k m

    new_entry : (k : ℕ) → Member k (list_at l3 i.0) → (x : Entry) × (entry_under climbed.interest (entry_id k) ≡ Some x) × (x.instance.0 ≡ i.0)
    new_entry k m = entry_at settled t stands_after follows.now settles.climbs.linked settles.sound_buried l3 places_after follows.lists_after i.0 k m

    still : (k : ℕ) → Member k (filter keeps_key old_keys) → number_under climbed.interest (entry_id k) ≡ number_under old.interest (entry_id k)
    still k m =
        let x = old_entry k (filtered_member keeps_key old_keys k m) in
        let y = new_entry k (subst (Member k) (sym list_is) (member_first k (filter keeps_key old_keys) more_keys m)) in
        let before = (is_under old.interest (entry_id k) x.0 x.1).number in
        let after = (is_under climbed.interest (entry_id k) y.0 y.1).number in
        elim (old_number k y.0.number after) [
          | inl same ↦ after ∙ sym same
          | inr new ↦ absurd (none_is_some x.0.number _ new.0 before)
        ]

    numbered_before : AreNumbered old.interest old_keys
    numbered_before = list_numbered old s stands_before follows.was follows.coherent.linked follows.tables l0 places_before follows.lists_before i.0

    -- the list by numbers
    pub order_is : order_after ≡ filter keeps_number order_before ++ more_numbers
    order_is =
        ap (numbers_at climbed.interest) list_is
        ∙ (numbers_append climbed.interest (filter keeps_key old_keys) more_keys
        ∙ ap (λ (ks : List ℕ). ks ++ more_numbers) (same_numbers old.interest climbed.interest (filter keeps_key old_keys) still ∙ kept_numbers old.interest follows.was keeps_key old_keys numbered_before))

    -- a number on the list before
    pub record StoodBy (number : ℕ) : Type 0 where
      pub k : ℕ
      pub on : is_among old_keys k ≡ true
      pub x : Entry
      pub under : entry_under old.interest (entry_id k) ≡ Some x
      pub instance : x.instance.0 ≡ i.0
      pub is : x.number ≡ number
      pub keeps : keeps_number number ≡ keeps_key k

    pub stood_by : (number : ℕ) → is_among order_before number ≡ true → StoodBy number
    stood_by number h =
        let w = number_member old.interest old_keys number (among_member order_before number h) in
        let x = old_entry w.0 w.1 in
        let on = among w.0 old_keys w.1 in
        let under = (is_under old.interest (entry_id w.0) x.0 x.1).number in
        let is : x.0.number ≡ number = sym (ap (λ (o : Option ℕ). unwrap_or o 0) under) ∙ w.2 in
        record {
          k = w.0;
          on = on;
          x = x.0;
          under = x.1;
          instance = x.2;
          is = is;
          keeps = stays_is old.interest follows.was keeps_key old_keys w.0 number numbered_before on (under ∙ ap (λ (m : ℕ). Some m) is);
        }

    pub unpicked : (number : ℕ) → is_among order_before number ≡ true → keeps_number number ≡ true → is_among outcome.picked number ≡ false
    unpicked number h keeps =
        let w = stood_by number h in
        let stays = first_of_and (follows.turns.keeps w.k) _ (sym w.keeps ∙ keeps) in
        ap (is_among outcome.picked) (sym w.is) ∙ follows.turns.unpicked i.0 w.k w.x w.on w.under stays

    pub apart : (number : ℕ) → is_among more_numbers number ≡ true → is_among (filter keeps_number order_before) number ≡ false
    apart number h =
        let distinct = distinct_order settled t stands_after follows.now settles.climbs.linked settles.sound_buried l3 places_after follows.lists_after i.0 in
        apart_lists (filter keeps_number order_before) more_numbers number (subst (λ (ks : List ℕ). are_distinct ks ≡ true) order_is distinct) h

    module _ (lives : IsSome (desc_number buried.tables i)) where
      abbrev pub e : ℕ
      e = number_at buried.tables.keys i

      -- an instance that was there has its number
      pub same_instance : IsSome (desc_number old.tables i) → number_at old.tables.keys i ≡ e
      same_instance some = sym (number_kept old.tables mid.tables i follows.keys some) ∙ number_kept buried.tables mid.tables i burial.buries.keys lives

      -- what is reportable at the end under a key that had a registration of this number has it still
      pub key_now : (k number : ℕ) → number_under old.interest (entry_id k) ≡ Some number → is_reportable_in t e number ≡ true → number_under climbed.interest (entry_id k) ≡ Some number
      key_now k number before r =
          let y = shown_of settled t stands_after follows.now e number r in
          let key = follows.now.has_one number y.x y.there in
          let j = key.0.0 in
          let at : number_under old.interest (entry_id j) ≡ Some number = elim (old_number j number key.1) [
            | inl same ↦ same
            | inr new ↦ absurd (too_many number new.1 before)
          ] in
          let same : j ≡ k = ap (λ (id : EntryId). id.0) (follows.was.one_key (entry_id j) (entry_id k) number at before) in
          subst (λ (m : ℕ). number_under climbed.interest (entry_id m) ≡ Some number) same key.1
        where
          too_many : (m : ℕ) → m ≡ old.interest.added + 1 → number_under old.interest (entry_id k) ≡ Some m → ⊥
          too_many m is h =
              let x = some_entry old.tables.keys old.interest follows.was k m h in
              let below : x.0.number ≤ old.interest.added = holds_under (λ (z : Entry). z.number ≤ old.interest.added) old.interest (entry_id k) x.0 follows.was.within x.1 in
              let same = x.2 in
              absurd (omega (arith, below, same, is))

      and_not : (a b : Bool) → (a && not b) ≡ false → b ≡ false → a ≡ false
      and_not true true h f = absurd (false≢true (sym f))
      and_not true false h f = h
      and_not false b h f = refl

      -- what leaves though it is reportable before and after is reported
      pub left_picked : (number : ℕ) → is_among order_before number ≡ true → keeps_number number ≡ false → is_reportable_in s e number ≡ true → is_reportable_in t e number ≡ true → is_among outcome.picked number ≡ true
      left_picked number h leaves_here before after =
          let w = stood_by number h in
          let under = (is_under old.interest (entry_id w.k) w.x w.under).number ∙ ap (λ (m : ℕ). Some m) w.is in
          let now = key_now w.k number under after in
          let leaves_key = and_not (follows.turns.keeps w.k) (is_gone w.k) (sym w.keeps ∙ leaves_here) (not_gone w.k number now) in
          let live : IsSome (desc_number old.tables i) = subst (λ (j : ℕ). IsSome (desc_number old.tables (record { 0 = j }))) w.instance (holds_under (IsLinked old.tables.keys) old.interest (entry_id w.k) w.x follows.coherent.linked w.under).instance in
          let at : number_at old.tables.keys w.x.instance ≡ e = ap (λ (j : ℕ). number_at old.tables.keys (record { 0 = j })) w.instance ∙ same_instance live in
          let shows : key_shows old w.k ≡ true = key_is old s stands_before follows.was w.k w.x w.under ∙ ((λ j. is_reportable_in s (at j) (w.is j)) ∙ before) in
          elim (follows.turns.leaves i.0 w.k w.x w.on w.under leaves_key shows) [
            | inl picked ↦ ap (is_among outcome.picked) (sym w.is) ∙ picked
            | inr none ↦ absurd (none_is_some number _ none (mid_number w.k number now))
          ]

      -- after a change that is not refused
      module _ (c : Change) (made : StandFor mid c.1) (ends : t ≡ end_of s c) (changed : Changed c.1) (settled_change : Remains c.1 c.2 (end_of s c)) (at : c.1.n ≡ n) (counted : (0 == n) ≡ false) (as_raised : AsRaisedIn c.1.files outcome.raising mid.tables mid.clock c.2) where
        same_files : (end_of s c).files ≡ buried.tables.files
        same_files = ap (λ (u : State). u.files) (sym ends) ∙ stands_after.files

        -- a registration of the machine that is reportable at the end, by its key
        pub record Ends (x : Watch) : Type 0 where
          pub k : ℕ
          pub first : Views mid.tables.keys mid.interest k (kernel_watch c.1 x)
          pub now : number_under climbed.interest (entry_id k) ≡ Some x.number
          pub y : Entry
          pub under : entry_under climbed.interest (entry_id k) ≡ Some y
          pub instance : y.instance.0 ≡ i.0
          pub shows : entry_shows (readiness buried.tables buried.clock climbed.interest) buried.tables buried.clock y ≡ true

        pub ends_of : (x : Watch) → EndsReportable s c e x → Ends x
        ends_of x r =
            let y = shown_of settled t stands_after follows.now e x.number (ap (λ (u : State). is_reportable_in u e x.number) ends ∙ r.ready) in
            let key = follows.now.has_one x.number y.x y.there in
            let k = key.0.0 in
            let under : entry_under climbed.interest (entry_id k) ≡ Some y.x = ap (entry_found climbed.interest.entries) key.1 ∙ y.there in
            let link = holds_under (IsLinked buried.tables.keys) climbed.interest (entry_id k) y.x settles.climbs.linked under in
            let w : Member (kernel_watch c.1 x) (map (watch_at mid.tables.keys) mid.interest.entries) = subst (Member (kernel_watch c.1 x)) made.watches (member_map (kernel_watch c.1) x c.1.watches r.there) in
            record {
              k = k;
              first = view_at mid.tables.keys mid.interest follows.leaves.was k (kernel_watch c.1 x) w (mid_number k x.number key.1);
              now = key.1;
              y = y.x;
              under = under;
              instance = from_test _ _ (sym (same_keys buried.tables y.x.instance i settles.sound_buried link.instance lives) ∙ same_test _ _ y.instance);
              shows = y.shows;
            }

        stands_now : (x : Watch) (h : Ends x) → is_among (list_at l3 i.0) h.k ≡ true → is_among order_after x.number ≡ true
        stands_now x h there = among_numbers climbed.interest (list_at l3 i.0) h.k x.number h.now there

        place_left : (x : Watch) (h : Ends x) → instance_at l2 (entry_id h.k) ≡ Some i.0
        place_left x h =
            sym (follows.gains.places (entry_id h.k))
            ∙ (places_after (entry_id h.k) ∙ (ap (option_map (λ (z : Entry). z.instance.0)) h.under ∙ ap (λ (j : ℕ). Some j) h.instance))

        place_changed : (x : Watch) (h : Ends x) → instance_at l1 (entry_id h.k) ≡ Some i.0
        place_changed x h = sym (loses.places.places (entry_id h.k) ∙ ap (λ (b : Bool). cond b None (instance_at l1 (entry_id h.k))) (not_gone h.k x.number h.now)) ∙ place_left x h

        -- what stood after the change stands at the end
        stays_on : (x : Watch) (h : Ends x) → stands l1 (entry_id h.k) ≡ true → is_among order_after x.number ≡ true
        stays_on x h stood =
            let on : is_among (list_at l1 i.0) h.k ≡ true = sym (ap (stands_by l1 h.k) (place_changed x h)) ∙ stood in
            let stay : ℕ → Bool = λ k. not (is_gone k) in
            let left : is_among (list_at l2 i.0) h.k ≡ true =
            ap (λ (ks : List ℕ). is_among ks h.k) (loses.places.lists i.0)
            ∙ among h.k (filter stay (list_at l1 i.0)) (member_filter stay h.k (list_at l1 i.0) (among_member (list_at l1 i.0) h.k on) (ap not (not_gone h.k x.number h.now))) in
            stands_now x h (follows.gains.each i.0 h.k ∙ or_left (is_among (list_at l2 i.0) h.k) (comes_in n buried h.k && is_home i.0 (instance_at l2 (entry_id h.k))) left)

        may_of : (a : Bool) (bits : ℕ) (q : Bool) → (nat_lt 0 (when a bits) && q) ≡ true → (a && q) ≡ true
        may_of true bits q h = second_of_and (nat_lt 0 bits) q h
        may_of false bits q h = h

        -- what passes something on comes to the end
        pub comes_on : (x : Watch) (r : EndsReportable s c e x) → passes_on_of c x ≡ true → comes_in n buried (ends_of x r).k ≡ true
        comes_on x r on =
            let h = ends_of x r in
            let keys = buried.tables.keys in
            let climb_to = climb n buried climbed.interest settles.climbs follows.climbed_keys follows.leaves.left follows.now settles.coherent_buried settles.sound_buried in
            let w = noted_watch n outcome.raising mid noted.interest buried leaves (next_event s) c made changed settled_change at counted as_raised same_files x in
            let there = left_member n outcome.raising mid noted.interest buried leaves (next_event s) c made changed settled_change at counted as_raised same_files x r.left in
            let number : number_under buried.interest (entry_id h.k) ≡ Some x.number = sym (ap (λ (ks : List (Option ℕ)). slice_index_or ks h.k None) follows.climbed_keys) ∙ h.now in
            let v = view_at keys buried.interest follows.leaves.left h.k w there number in
            let z = climbed_back n buried climbed.interest settles.climbs follows.climbed_keys follows.leaves.left follows.now settles.coherent_buried settles.sound_buried h.k (watch_at keys h.y) (entry_views keys climbed.interest h.k h.y h.under) in
            let is : watch_at keys h.y ≡ climb_to (watch_at keys v.x) = z.3 ∙ ap climb_to (one_view keys buried.interest h.k z.0 w z.1 v ∙ sym v.is) in
            let may : may_watch (climb_to (watch_at keys v.x)) ≡ true = ap may_watch (sym is) ∙ may_of h.y.armed _ (not (has_bit h.y.mask.0 ET) || h.y.fresh) h.shows in
            let carried = ap (carries (reached_now buried.tables.files n (map (watch_at keys) buried.interest.entries)) buried.tables.files n) v.is
            ∙ (sym (passes_is n outcome.raising mid noted.interest buried leaves (next_event s) c made changed settled_change at counted as_raised same_files x r.left) ∙ on) in
            comes_if n buried climbed.interest settles.climbs follows.climbed_keys follows.leaves.left follows.now settles.coherent_buried settles.sound_buried h.k v.x counted v.under carried may

        passes : (x : Watch) → EndsReportable s c e x → passes_on_of c x ≡ true → is_among order_after x.number ≡ true
        passes x r on =
            let h = ends_of x r in
            let comes = comes_on x r on in
            let home : is_home i.0 (instance_at l2 (entry_id h.k)) ≡ true = ap (is_home i.0) (place_left x h) ∙ same_test i.0 i.0 refl in
            stands_now x h (follows.gains.each i.0 h.k ∙ or_right (is_among (list_at l2 i.0) h.k) (comes_in n buried h.k && is_home i.0 (instance_at l2 (entry_id h.k))) (λ j. comes j && home j))

        -- what is reportable right after the change
        pub shows_changed : (x : Watch) (h : Ends x) → is_reportable c.1 x ≡ true → key_shows mid h.k ≡ true
        shows_changed x h r =
            ap (shows_found mid) h.first.under
            ∙ (ap (shows (readiness mid.tables mid.clock mid.interest) mid.tables.files mid.clock) h.first.is
            ∙ ((λ j. shows (ready_now (sym made.files j) (sym made.now j) (sym made.watches j)) (sym made.files j) (sym made.now j) (kernel_watch c.1 x))
            ∙ (sym (reportable_kept c.1 x) ∙ r)))

        again : (x : Watch) → EndsReportable s c e x → is_reportable c.1 x ≡ true → is_among outcome.picked x.number ≡ true → is_among order_after x.number ≡ true
        again x r ready picked =
            let h = ends_of x r in
            let number : h.first.x.number ≡ x.number = ap (λ (w : KernelWatch). w.number) h.first.is in
            stays_on x h (follows.turns.again h.k h.first.x h.first.under (ap (is_among outcome.picked) number ∙ picked) (shows_changed x h ready))

        pub relists : ((k : ℕ) (x : Watch) → Views mid.tables.keys mid.interest k (kernel_watch c.1 x) → IsAltered s event x → key_shows mid k ≡ true → stands l1 (entry_id k) ≡ true) → Relists s event outcome.picked c e order_before order_after
        relists alters = record {
          keeps = keeps_number;
          more = more_numbers;
          is = order_is;
          unpicked = unpicked;
          leaves = λ k on gone_here before after. left_picked k on gone_here before (ap (λ (u : State). is_reportable_in u e k) ends ∙ after);
          comes = apart;
          passes = passes;
          again = again;
          alters = λ x r ready altered. let h = ends_of x r in stays_on x h (alters h.k x h.first altered (shows_changed x h ready));
        }
