-- What an event leaves of registrations and of their places, once the dead are gone.
use Rattle.ep_law.proofs.GraphLemmas.{member_of_map}
use Rattle.ep_calls.proofs.EntryLemmas.{holds_under}
use Rattle.std.proofs.Common.{◌≡◌, ◌∙◌, ◌==◌, ◌&&◌, ◌||◌, ◌++◌, ℕ, Bool, true, false, not, IsSome, List, [], ◌∷◌, None, Option, Some, ap, append-nil, arith, cond, filter, inl, inr, map, nat_lt, refl, slice_index_or, subst, sym, unwrap_or}
use Rattle.std.specs.List.{list_any}
use Rattle.std.specs.Option.{option_map}
use Rattle.std.proofs.lemmas.Bool.{cases_Bool, false≢true}
use Rattle.ep_base.specs.declared.ids.DescId.{DescId}
use Rattle.ep_base.specs.declared.ids.EntryId.{EntryId}
use Rattle.ep_calls.proofs.KeyLemmas.{number_kept, same_keys, some_kept}
use Rattle.ep_calls.proofs.RaiseLemmas.{Freshens, stirs_watches}
use Rattle.ep_calls.specs.Burial.{is_untouched}
use Rattle.ep_calls.specs.Ends.{Leaves}
use Rattle.ep_calls.specs.Ids.{KeepsIds}
use Rattle.ep_calls.specs.Parts.{AreCoherent, Parts}
use Rattle.ep_calls.specs.Raising.{raised_bits}
use Rattle.ep_calls.specs.Stands.{AreLinked, IsLinked, number_at, watch_at}
use Rattle.ep_calls.specs.declared.raising.Raising.{Raising}
use Rattle.ep_interest.specs.Registrations.{IsSound, Registrations, entry_under, is_of, is_on}
use Rattle.ep_interest.specs.declared.entry.Entry.{Entry}
use Rattle.ep_kernel.proofs.ViewLemmas.{Views, among_ids, back, entry_views, forth}
use Rattle.ep_kernel.specs.Listed.{HavePlaces, MayStand, may_stand}
use Rattle.ep_kernel.specs.Places.{LosesDying, touches}
use Rattle.ep_law.proofs.ListLemmas.{among, among_member, any_has, filtered_member}
use Rattle.ep_law.specs.Laws.{Member}
use Rattle.ep_machine.specs.Bits.{ET, has_bit}
use Rattle.ep_machine.specs.Counts.{brings}
use Rattle.ep_machine.specs.Deaths.{die_all}
use Rattle.ep_machine.specs.Files.{Place}
use Rattle.ep_machine.specs.Lists.{is_among}
use Rattle.ep_rings.specs.KeyWalk.{entry_id}
use Rattle.ep_ready.specs.ReadyLists.{Lists, instance_at, list_at, stands_by}
use Rattle.ep_table.specs.Value.{Seen, Sound as SoundTables, number_under as desc_number}
use Rattle.ep_view.specs.KernelView.{KernelWatch, climbed as climbed_by, freshened, freshened_by, reached_now, watches_instance}
use Rattle.ep_calls.specs.Climb.{Climbs, is_nested, link_of}
use Rattle.ep_interest.specs.Passes.{has_id}
use Rattle.ep_interest.specs.Registrations.{ids, lets_in}
use Rattle.ep_kernel.specs.Push.{Gains, comes_by, comes_in, is_home, passes_found}
use Rattle.ep_machine.specs.Objects.{is_instance, plain}
use Rattle.ep_machine.specs.Files.{object_of}
use Rattle.ep_machine.specs.Bits.{IN, asked}
use Rattle.ep_nest.specs.declared.link.Link.{Link}
use Rattle.ep_calls.specs.Climb.{is_reached_key}
use Rattle.ep_law.proofs.ListLemmas.{any_member, filtered_passes}
use Rattle.ep_kernel.proofs.ViewLemmas.{brings_asked, find_entry}
use Rattle.ep_law.proofs.ListLemmas.{member_filter, member_map}
use Rattle.ep_kernel.proofs.EntryLemmas.{is_under}
use Rattle.std.proofs.lemmas.Bool.Decides.{nat_tests}
use Rattle.ep_facts.proofs.NatFacts.{from_test, same_nat, same_test}
use Rattle.ep_facts.proofs.BoolFacts.{both_true, or_by_not, or_cases, or_left, or_right, or_swap}
use Rattle.ep_facts.proofs.ListFacts.{head_same, tail_same}
use Rattle.ep_view.specs.KernelView.{carries}

all_pass : {X : Type 0} (xs : List X) → xs ≡ filter (λ x. true) xs
all_pass [] = refl
all_pass (x ∷ xs) = ap (λ ys. x ∷ ys) (all_pass xs)

-- What dies by keys is what dies by numbers.

-- some of these descriptions has one of the two keys
any_desc : (v : Seen) → SoundTables v → (a b : DescId) → IsSome (desc_number v a) → IsSome (desc_number v b) → (descs : List DescId) (ds : List ℕ) → map (desc_number v) descs ≡ map Some ds
    → list_any (λ desc. a.0 == desc.0 || b.0 == desc.0) descs ≡ (is_among ds (number_at v.keys a) || is_among ds (number_at v.keys b))
any_desc v sound a b la lb [] [] e = refl
any_desc v sound a b la lb [] (d ∷ ds) e = absurd (cc)
any_desc v sound a b la lb (desc ∷ descs) [] e = absurd (cc)
any_desc v sound a b la lb (desc ∷ descs) (d ∷ ds) e =
    let here : desc_number v desc ≡ Some d = head_same _ _ _ _ e in
    let lives : IsSome (desc_number v desc) = subst (λ (o : Option ℕ). IsSome o) (sym here) refl in
    let number : number_at v.keys desc ≡ d = ap (λ (o : Option ℕ). unwrap_or o 0) here in
    let one = λ (x : DescId) (lx : IsSome (desc_number v x)). sym (same_keys v x desc sound lx lives) ∙ ap (λ (n : ℕ). number_at v.keys x == n) number in
    let rest = any_desc v sound a b la lb descs ds (tail_same _ _ _ _ e) in
    (λ i. (one a la i || one b lb i) || rest i) ∙ or_swap (number_at v.keys a == d) (number_at v.keys b == d) (is_among ds (number_at v.keys a)) (is_among ds (number_at v.keys b))

any_same : {X : Type 0} (f g : X → Bool) (xs : List X) → ((x : X) → f x ≡ g x) → list_any f xs ≡ list_any g xs
any_same f g [] h = refl
any_same f g (x ∷ xs) h = let one = h x in let rest = any_same f g xs h in λ i. one i || rest i

module _ (v : Seen) (r : Registrations) (tables : SoundTables v) (sound : IsSound r) (linked : AreLinked v r) (descs : List DescId) (ds : List ℕ) (same : map (desc_number v) descs ≡ map Some ds) where
  pub touched_is : (k : ℕ) (x : Entry) → entry_under r (entry_id k) ≡ Some x → list_any (λ desc. touches r desc k) descs ≡ not (is_untouched ds (watch_at v.keys x))
  touched_is k x h =
      let link = holds_under (IsLinked v.keys) r (entry_id k) x linked h in
      any_same (λ desc. touches r desc k) (λ desc. is_of desc x || is_on desc x) descs (λ desc. let of = among_ids v.keys r sound (is_of desc) k x h in let on = among_ids v.keys r sound (is_on desc) k x h in λ i. of i || on i)
      ∙ (any_desc v tables x.instance x.desc link.instance link.desc descs ds same ∙ or_by_not (is_among ds (number_at v.keys x.instance)) (is_among ds (number_at v.keys x.desc)))

none_either : (b : Bool) (o : Option ℕ) → o ≡ None → cond b None o ≡ None
none_either true o h = refl
none_either false o h = h

-- what may stand, of the machine's registration
abbrev pub may_watch : KernelWatch → Bool
may_watch w = w.armed && (not (has_bit w.mask ET) || w.fresh)

pub may_grow : (a m f g : Bool) → (f ≡ true → g ≡ true) → (a && (m || f)) ≡ true → (a && (m || g)) ≡ true
may_grow true true f g h t = refl
may_grow true false f g h t = h t
may_grow false m f g h t = absurd (false≢true t)

module _ (n : ℕ) (raising : Raising) (mid : Parts) (noted : Registrations) (buried : Parts) (leaves : Leaves n raising mid noted buried) where
  abbrev keys : List (Option ℕ)
  keys = mid.tables.keys

  abbrev pub bits : ℕ → ℕ
  bits = raised_bits raising mid.tables mid.clock

  abbrev pub dead : List ℕ
  dead = map (λ (x : ℕ × Place). x.0) leaves.burial.buries.dead

  abbrev pub by_deaths : List (ℕ × ℕ)
  by_deaths = (die_all (mid.tables.files, []) leaves.burial.buries.dead).1

  abbrev pub stir : KernelWatch → KernelWatch
  stir w = freshened_by n bits w

  abbrev pub note : KernelWatch → KernelWatch
  note w = freshened n by_deaths (stir w)

  freshens : Freshens mid.tables n bits mid.interest.entries noted.entries
  freshens = stirs_watches raising mid.tables mid.clock n mid.interest noted leaves.stirs leaves.tables leaves.raises leaves.coherent.linked

  stirred_watches : map (watch_at keys) noted.entries ≡ map stir (filter (λ w. true) (map (watch_at keys) mid.interest.entries))
  stirred_watches = freshens.watches ∙ ap (map stir) (all_pass (map (watch_at keys) mid.interest.entries))

  same_ids : KeepsIds mid.interest noted
  same_ids id = inr (ap (λ (ks : List (Option ℕ)). slice_index_or ks id.0 None) leaves.keys)

  stirred_back : (k : ℕ) (w : KernelWatch) → Views keys noted k w → (v : KernelWatch) × Views keys mid.interest k v × (true ≡ true) × (w ≡ stir v)
  stirred_back = back keys keys mid.interest noted leaves.was leaves.then_sound (λ w. true) stir (λ w. refl) stirred_watches same_ids

  stirred_forth : (k : ℕ) (v : KernelWatch) → Views keys mid.interest k v → Views keys noted k (stir v)
  stirred_forth k v h = forth keys keys mid.interest noted leaves.was leaves.then_sound (λ w. true) stir (λ w. refl) stirred_watches same_ids k v h refl

  pub left_back : (k : ℕ) (w : KernelWatch) → Views buried.tables.keys buried.interest k w → (v : KernelWatch) × Views keys mid.interest k v × (is_untouched dead v ≡ true) × (w ≡ note v)
  left_back k w h =
      let u = back keys buried.tables.keys noted buried.interest leaves.then_sound leaves.left (is_untouched dead) (freshened n by_deaths) (λ x. refl) leaves.burial.buries.watches leaves.ids k w h in
      let v = stirred_back k u.0 u.1 in
      (v.0, v.1, ap (is_untouched dead) (sym v.3) ∙ u.2, u.3 ∙ ap (freshened n by_deaths) v.3)

  pub left_forth : (k : ℕ) (v : KernelWatch) → Views keys mid.interest k v → is_untouched dead v ≡ true → Views buried.tables.keys buried.interest k (note v)
  left_forth k v h t = forth keys buried.tables.keys noted buried.interest leaves.then_sound leaves.left (is_untouched dead) (freshened n by_deaths) (λ x. refl) leaves.burial.buries.watches leaves.ids k (stir v) (stirred_forth k v h) t

  -- the key of an instance is what its number says
  pub one_instance : (x y : Entry) → IsLinked keys x → IsLinked buried.tables.keys y → number_at keys x.instance ≡ number_at buried.tables.keys y.instance → x.instance.0 ≡ y.instance.0
  one_instance x y lx ly e =
      let keeps = leaves.burial.buries.keys in
      let kept = number_kept buried.tables mid.tables y.instance keeps ly.instance in
      from_test x.instance.0 y.instance.0 (sym (same_keys mid.tables x.instance y.instance leaves.tables lx.instance (some_kept buried.tables mid.tables y.instance keeps ly.instance)) ∙ same_test _ _ (e ∙ sym kept))

  -- a registration that is left, as it was
  pub record WasUnder (id : EntryId) (y : Entry) : Type 0 where
    pub x : Entry
    pub under : entry_under mid.interest id ≡ Some x
    pub untouched : is_untouched dead (watch_at keys x) ≡ true
    pub watch : watch_at buried.tables.keys y ≡ note (watch_at keys x)
    pub instance : x.instance.0 ≡ y.instance.0

  pub was_under : (id : EntryId) (y : Entry) → entry_under buried.interest id ≡ Some y → WasUnder id y
  was_under id y is =
      let w = left_back id.0 (watch_at buried.tables.keys y) (entry_views buried.tables.keys buried.interest id.0 y is) in
      let x = w.1.x in
      let under : entry_under mid.interest id ≡ Some x = w.1.under in
      let number : number_at keys x.instance ≡ number_at buried.tables.keys y.instance = ap (λ (u : KernelWatch). u.instance) w.1.is ∙ ap (λ (u : KernelWatch). u.instance) (sym w.3) in
      record {
        x = x;
        under = under;
        untouched = ap (is_untouched dead) w.1.is ∙ w.2;
        watch = w.3 ∙ ap note (sym w.1.is);
        instance = one_instance x y (holds_under (IsLinked keys) mid.interest id x leaves.coherent.linked under) (holds_under (IsLinked buried.tables.keys) buried.interest id y leaves.burial.buries.linked is) number;
      }

  pub grows : (v : KernelWatch) → may_watch v ≡ true → may_watch (note v) ≡ true
  grows v t = may_grow v.armed (not (has_bit v.mask ET)) v.fresh (note v).fresh (λ f. or_right _ _ (or_right (brings v.mask (bits v.target)) v.fresh f)) t

  module _ (l m : Lists) (loses : LosesDying mid.tables noted l m) where
    abbrev pub gone : ℕ → Bool
    gone k = list_any (λ desc. touches noted desc k) loses.descs

    all_dead : map (desc_number mid.tables) loses.descs ≡ map Some dead
    all_dead = loses.dying ∙ ap (map Some) (sym (sym (append-nil dead) ∙ (ap (λ (ds : List ℕ). dead ++ ds) (sym leaves.burial.none) ∙ leaves.burial.buries.numbers)))

    pub gone_is : (k : ℕ) (v : KernelWatch) → Views keys mid.interest k v → gone k ≡ not (is_untouched dead v)
    gone_is k v h =
        let u = stirred_forth k v h in
        touched_is mid.tables noted leaves.tables leaves.then_sound freshens.linked loses.descs dead all_dead k u.x u.under ∙ ap (λ (w : KernelWatch). not (is_untouched dead w)) u.is

    pub not_gone : (k : ℕ) (v : KernelWatch) → Views keys mid.interest k v → is_untouched dead v ≡ true → gone k ≡ false
    not_gone k v h t = gone_is k v h ∙ ap not t

    module _ (places : HavePlaces mid.interest l) where
      place_under : (id : EntryId) (o : Option Entry) → entry_under buried.interest id ≡ o → instance_at m id ≡ option_map (λ y. y.instance.0) o
      place_under id (Some y) is =
          let w = was_under id y is in
          loses.places.places id
          ∙ (ap (λ (b : Bool). cond b None (instance_at l id)) (not_gone id.0 (watch_at keys w.x) (entry_views keys mid.interest id.0 w.x w.under) w.untouched)
          ∙ (places id ∙ (ap (option_map (λ (z : Entry). z.instance.0)) w.under ∙ ap (λ (i : ℕ). Some i) w.instance)))
      place_under id None is = loses.places.places id ∙ none (entry_under mid.interest id) refl where
        no_entry : (a : Bool) → a ≡ true → (x : Entry) → entry_under mid.interest id ≡ Some x → is_untouched dead (watch_at keys x) ≡ a → None ≡ Some x
        no_entry a t x h e =
            let left = left_forth id.0 (watch_at keys x) (entry_views keys mid.interest id.0 x h) (e ∙ t) in
            absurd (let no : None ≡ Some left.x = sym is ∙ left.under in cc)

        none : (o : Option Entry) → entry_under mid.interest id ≡ o → cond (gone id.0) None (instance_at l id) ≡ None
        none None h = none_either (gone id.0) (instance_at l id) (places id ∙ ap (option_map (λ (z : Entry). z.instance.0)) h)
        none (Some x) h = elim (cases_Bool (is_untouched dead (watch_at keys x))) [
          | inl t ↦ absurd (let no : None ≡ Some x = no_entry true refl x h t in cc)
          | inr f ↦ ap (λ (b : Bool). cond b None (instance_at l id)) (gone_is id.0 (watch_at keys x) (entry_views keys mid.interest id.0 x h) ∙ ap not f)
        ]

      pub places_left : HavePlaces buried.interest m
      places_left id = place_under id (entry_under buried.interest id) refl

      -- what stands stood
      pub stood : (i k : ℕ) → is_among (list_at m i) k ≡ true → is_among (list_at l i) k ≡ true
      stood i k t =
          let there = among_member (list_at m i) k t in
          among k (list_at l i) (filtered_member (λ j. not (gone j)) (list_at l i) k (subst (Member k) (loses.places.lists i) there))

      -- and may
      pub sound_left : MayStand mid.interest l → MayStand buried.interest m
      sound_left sound id y is t =
          let w = was_under id y is in
          let here : instance_at m id ≡ Some y.instance.0 = place_under id (Some y) is in
          let on : is_among (list_at m y.instance.0) id.0 ≡ true = sym (ap (stands_by m id.0) here) ∙ t in
          let place : instance_at l id ≡ Some y.instance.0 = places id ∙ (ap (option_map (λ (z : Entry). z.instance.0)) w.under ∙ ap (λ (i : ℕ). Some i) w.instance) in
          let may = sound id w.x w.under (ap (stands_by l id.0) place ∙ stood y.instance.0 id.0 on) in
          ap may_watch w.watch ∙ grows (watch_at keys w.x) may

-- What was raised climbs: each registration stays under its key.
module _ (n : ℕ) (buried : Parts) (climbed : Registrations) (climbs : Climbs n buried.tables buried.interest climbed) (same : climbed.keys ≡ buried.interest.keys) (was : IsSound buried.interest) (now : IsSound climbed) (coherent : AreCoherent buried) (tables : SoundTables buried.tables) where
  abbrev buried_keys : List (Option ℕ)
  buried_keys = buried.tables.keys

  abbrev pub watches : List KernelWatch
  watches = map (watch_at buried_keys) buried.interest.entries

  abbrev pub reached : ℕ → Bool
  reached = reached_now buried.tables.files n watches

  abbrev pub climb : KernelWatch → KernelWatch
  climb w = climbed_by reached buried.tables.files w

  climbed_watches : map (watch_at buried_keys) climbed.entries ≡ map climb (filter (λ w. true) watches)
  climbed_watches = climbs.watches ∙ ap (map climb) (all_pass watches)

  climbed_ids : KeepsIds buried.interest climbed
  climbed_ids id = inr (ap (λ (ks : List (Option ℕ)). slice_index_or ks id.0 None) same)

  pub climbed_back : (k : ℕ) (w : KernelWatch) → Views buried_keys climbed k w → (v : KernelWatch) × Views buried_keys buried.interest k v × (true ≡ true) × (w ≡ climb v)
  climbed_back = back buried_keys buried_keys buried.interest climbed was now (λ w. true) climb (λ w. refl) climbed_watches climbed_ids

  pub climbed_forth : (k : ℕ) (v : KernelWatch) → Views buried_keys buried.interest k v → Views buried_keys climbed k (climb v)
  climbed_forth k v h = forth buried_keys buried_keys buried.interest climbed was now (λ w. true) climb (λ w. refl) climbed_watches climbed_ids k v h refl

  -- a registration of a link of the graph is on an instance
  link_from : (l : Link) → Member l buried.graph → (x : Entry) × (l.inner ≡ x.desc) × (is_nested buried.tables x ≡ true)
  link_from l m =
      let nested = filter (is_nested buried.tables) buried.interest.entries in
      let y = member_of_map (link_of buried.interest) nested l (subst (Member l) coherent.nested m) in
      (y.0, ap (λ (j : Link). j.inner) (sym y.2), filtered_passes (is_nested buried.tables) buried.interest.entries y.0 y.1)

  four : (a b c d : Bool) → a ≡ true → b ≡ true → c ≡ true → (a && b && c || d) ≡ true
  four true true true d p q r = refl
  four true true false d p q r = absurd (false≢true r)
  four true false c d p q r = absurd (false≢true q)
  four false b c d p q r = absurd (false≢true p)

  climb_grows : (v : KernelWatch) → may_watch v ≡ true → may_watch (climb v) ≡ true
  climb_grows v t = may_grow v.armed (not (has_bit v.mask ET)) v.fresh (climb v).fresh (λ f. or_right _ _ f) t

  -- what comes, may stand once it has climbed
  may_come : (k : ℕ) (x : Entry) → entry_under buried.interest (entry_id k) ≡ Some x → comes_in n buried k ≡ true → may_watch (climb (watch_at buried_keys x)) ≡ true
  may_come k x is t = elim (or_cases (passes_found (entry_under buried.interest (entry_id k))) _ t) [
    | inl direct ↦
        let passes = both_true (nat_lt 0 x.passes_in) (may_stand x) (sym (ap passes_found is) ∙ direct) in
        climb_grows (watch_at buried_keys x) passes.1
    | inr above ↦
        let link = any_member (λ l. comes_by n buried l k) buried.graph above in
        let l = link.0 in
        let here = both_true (is_reached_key n buried.tables buried.interest l.inner) (has_id (ids buried.interest (filter (is_on l.inner) buried.interest.entries)) k && lets_in (entry_under buried.interest (entry_id k))) link.2 in
        let more = both_true (has_id (ids buried.interest (filter (is_on l.inner) buried.interest.entries)) k) (lets_in (entry_under buried.interest (entry_id k))) here.1 in
        let on : is_on l.inner x ≡ true = sym (among_ids buried_keys buried.interest was (is_on l.inner) k x is) ∙ more.0 in
        let lets = both_true x.armed (nat_lt 0 (asked x.mask.0 IN)) (sym (ap lets_in is) ∙ more.1) in
        let source = link_from l link.1 in
        let key : x.desc.0 ≡ l.inner.0 = from_test x.desc.0 l.inner.0 on in
        let number : number_at buried_keys x.desc ≡ number_at buried_keys l.inner = ap (λ (j : ℕ). number_at buried_keys (record { 0 = j })) key in
        let nested : watches_instance buried.tables.files (watch_at buried_keys x) ≡ true = ap (λ (d : ℕ). is_instance (unwrap_or (object_of buried.tables.files d) plain)) (number ∙ ap (number_at buried_keys) source.1) ∙ source.2 in
        let reaches : reached (number_at buried_keys x.desc) ≡ true = ap reached number ∙ here.0 in
        let fresh = four _ _ _ x.fresh nested reaches (brings_asked x.mask.0 ∙ lets.1) in
        (λ i. lets.0 i && (not (has_bit x.mask.0 ET) || fresh i)) ∙ last (not (has_bit x.mask.0 ET))
  ] where
    last : (b : Bool) → (true && (b || true)) ≡ true
    last true = refl
    last false = refl

  -- Places.
  climbed_instance : (x y : Entry) → IsLinked buried_keys x → IsLinked buried_keys y → number_at buried_keys x.instance ≡ number_at buried_keys y.instance → x.instance.0 ≡ y.instance.0
  climbed_instance x y lx ly e = from_test x.instance.0 y.instance.0 (sym (same_keys buried.tables x.instance y.instance tables lx.instance ly.instance) ∙ same_test _ _ e)

  place_climbed : (l : Lists) → HavePlaces buried.interest l → (id : EntryId) (o : Option Entry) → entry_under climbed id ≡ o → instance_at l id ≡ option_map (λ y. y.instance.0) o
  place_climbed l places id (Some y) is =
      let w = climbed_back id.0 (watch_at buried_keys y) (entry_views buried_keys climbed id.0 y is) in
      let x = w.1.x in
      let number : number_at buried_keys x.instance ≡ number_at buried_keys y.instance = ap (λ (u : KernelWatch). u.instance) w.1.is ∙ ap (λ (u : KernelWatch). u.instance) (sym w.3) in
      let instance = climbed_instance x y (holds_under (IsLinked buried_keys) buried.interest id x coherent.linked w.1.under) (holds_under (IsLinked buried_keys) climbed id y climbs.linked is) number in
      places id ∙ (ap (option_map (λ (z : Entry). z.instance.0)) w.1.under ∙ ap (λ (i : ℕ). Some i) instance)
  place_climbed l places id None is = none (entry_under buried.interest id) refl where
    none : (o : Option Entry) → entry_under buried.interest id ≡ o → instance_at l id ≡ None
    none None h = places id ∙ ap (option_map (λ (z : Entry). z.instance.0)) h
    none (Some x) h =
        let now_there = climbed_forth id.0 (watch_at buried_keys x) (entry_views buried_keys buried.interest id.0 x h) in
        absurd (let no : None ≡ Some now_there.x = sym is ∙ now_there.under in cc)

  pub places_climbed : (l : Lists) → HavePlaces buried.interest l → HavePlaces climbed l
  places_climbed l places id = place_climbed l places id (entry_under climbed id) refl

  pub sound_climbed : (l m : Lists) → HavePlaces buried.interest l → MayStand buried.interest l → Gains (comes_in n buried) l m → MayStand climbed m
  sound_climbed l m places sound gains id y is t =
      let w = climbed_back id.0 (watch_at buried_keys y) (entry_views buried_keys climbed id.0 y is) in
      let x = w.1.x in
      let i = x.instance.0 in
      let place : instance_at l id ≡ Some i = places id ∙ ap (option_map (λ (z : Entry). z.instance.0)) w.1.under in
      let there : is_among (list_at m i) id.0 ≡ true = sym (ap (stands_by m id.0) (gains.places id ∙ place)) ∙ t in
      let may : may_watch (climb (watch_at buried_keys x)) ≡ true = elim (or_cases (is_among (list_at l i) id.0) (comes_in n buried id.0 && is_home i (instance_at l (entry_id id.0))) (sym (gains.each i id.0) ∙ there)) [
        | inl stood ↦ climb_grows (watch_at buried_keys x) (sound id x w.1.under (ap (stands_by l id.0) place ∙ stood))
        | inr came ↦ may_come id.0 x w.1.under (both_true (comes_in n buried id.0) (is_home i (instance_at l (entry_id id.0))) came).0
      ] in
      ap may_watch (w.3 ∙ ap climb (sym w.1.is)) ∙ may

  -- What passes something on, comes.
  comes_below : (k : ℕ) (x : Entry) → entry_under buried.interest (entry_id k) ≡ Some x
      → (x.armed && watches_instance buried.tables.files (watch_at buried_keys x) && reached (number_at buried_keys x.desc) && nat_lt 0 (asked x.mask.0 IN)) ≡ true → comes_in n buried k ≡ true
  comes_below k x is t =
      let first = both_true (x.armed && watches_instance buried.tables.files (watch_at buried_keys x) && reached (number_at buried_keys x.desc)) (nat_lt 0 (asked x.mask.0 IN)) t in
      let second = both_true (x.armed && watches_instance buried.tables.files (watch_at buried_keys x)) (reached (number_at buried_keys x.desc)) first.0 in
      let third = both_true x.armed (watches_instance buried.tables.files (watch_at buried_keys x)) second.0 in
      let there = find_entry buried_keys buried.interest buried.interest.entries x.number x (is_under buried.interest (entry_id k) x is).there in
      let link = link_of buried.interest x in
      let of : Member link buried.graph = subst (Member link) (sym coherent.nested) (member_map (link_of buried.interest) x (filter (is_nested buried.tables) buried.interest.entries) (member_filter (is_nested buried.tables) x buried.interest.entries there third.1)) in
      let among_them : has_id (ids buried.interest (filter (is_on x.desc) buried.interest.entries)) k ≡ true = among_ids buried_keys buried.interest was (is_on x.desc) k x is ∙ same_nat x.desc.0 in
      let lets : lets_in (entry_under buried.interest (entry_id k)) ≡ true = ap lets_in is ∙ (λ i. third.0 i && first.1 i) in
      or_right (passes_found (entry_under buried.interest (entry_id k))) (list_any (λ l. comes_by n buried l k) buried.graph)
      (any_has (λ l. comes_by n buried l k) buried.graph link of (λ i. second.1 i && (among_them i && lets i)))

  positive_number : (a : ℕ) → (0 == n) ≡ false → (a == n) ≡ true → nat_lt 0 a ≡ true
  positive_number a counted e = grind (arith, nat_tests, counted, e)

  pub comes_if : (k : ℕ) (x : Entry) → (0 == n) ≡ false → entry_under buried.interest (entry_id k) ≡ Some x → carries reached buried.tables.files n (watch_at buried_keys x) ≡ true
      → may_watch (climb (watch_at buried_keys x)) ≡ true → comes_in n buried k ≡ true
  comes_if k x counted is t may = elim (cases_Bool (may_stand x)) [
    | inl stands_now ↦ elim (or_cases (x.passes_in == n) _ t) [
      | inl direct ↦
          let positive = positive_number x.passes_in counted direct in
          or_left (passes_found (entry_under buried.interest (entry_id k))) _ (ap passes_found is ∙ (λ i. positive i && stands_now i))
      | inr below ↦ comes_below k x is below
    ]
    | inr stale ↦
        let old_fresh = x.fresh in
        let instance = watches_instance buried.tables.files (watch_at buried_keys x) in
        let below = reached (number_at buried_keys x.desc) in
        let climbs_here = came_fresh x.armed (not (has_bit x.mask.0 ET)) (instance && below && brings x.mask.0 IN) x.fresh may stale in
        let armed = (both_true x.armed (not (has_bit x.mask.0 ET) || (instance && below && brings x.mask.0 IN || x.fresh)) may).0 in
        comes_below k x is (regroup x.armed instance below (brings x.mask.0 IN) (nat_lt 0 (asked x.mask.0 IN)) armed climbs_here (brings_asked x.mask.0))
  ] where
    came_fresh : (a m c f : Bool) → (a && (m || (c || f))) ≡ true → (a && (m || f)) ≡ false → c ≡ true
    came_fresh true true c f h s = absurd (false≢true (sym s))
    came_fresh true false true f h s = refl
    came_fresh true false false f h s = absurd (false≢true (sym s ∙ h))
    came_fresh false m c f h s = absurd (false≢true h)

    regroup : (a i r b q : Bool) → a ≡ true → (i && r && b) ≡ true → b ≡ q → (a && i && r && q) ≡ true
    regroup true i r b q p h e = (λ j. i && r && sym e j) ∙ h
    regroup false i r b q p h e = absurd (false≢true p)
