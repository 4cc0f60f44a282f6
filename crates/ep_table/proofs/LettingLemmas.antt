-- A connection that waits is let go in the store.
use Rattle.std.proofs.Common.{Bool, IsSome, List, None, Option, Some, [], ap, arith, bit_or, false, get_or, if◌then◌else◌, inl, inr, is_some, length, map, refl, slice_set, subst, sym, true, unwrap_or, vec_capacity, ℕ, ◌&&◌, ◌++◌, ◌+◌, ◌==◌, ◌∙◌, ◌∷◌, ◌≡◌, ◌≢◌, ◌≤◌, ◌||◌}
use Rattle.std.specs.Int.Bits.{or_zero_r}
use Rattle.std.specs.Prelude.{IfNone, IfSome}
use Rattle.std.specs.List.{list_any}
use Rattle.std.proofs.Math.Bool.{and-false}
use Rattle.std.proofs.lemmas.Bool.{cases_Bool, false≢true}
use Rattle.std.proofs.lemmas.List.{get_or_past}
use Rattle.std.proofs.lemmas.Option.{none-some}
use Rattle.std.proofs.lemmas.List.FromFn.{get_or-map-range_with_len}
use Rattle.ep_base.specs.declared.ids.DescId.{DescId}
use Rattle.ep_base.specs.declared.object.End.{End}
use Rattle.ep_base.specs.declared.object.End.TheVariants.{First, Second}
use Rattle.ep_base.specs.declared.object.Raised.{Raised}
use Rattle.ep_facts.proofs.NatFacts.{below_or, same_nat, same_or_not, same_test, test_apart}
use Rattle.ep_facts.proofs.RaisedFacts.{raised_parts}
use Rattle.ep_machine.specs.Bits.{at_end, when}
use Rattle.ep_machine.specs.Connections.{let_all_go}
use Rattle.ep_machine.specs.Files.{Files, Place}
use Rattle.ep_machine.specs.Lists.{numbered}
use Rattle.ep_machine.specs.Objects.{Object, close_end, is_waiting, name_in, plain}
use Rattle.ep_machine.specs.Spread.{raised_of}
use Rattle.ep_names.specs.Names.{Taken}
use Rattle.ep_names.specs.Numbers.{owner_at}
use Rattle.ep_object.proofs.NamingLemmas.{second_keeps_name}
use Rattle.ep_object.proofs.PendingLemmas.{second_closes_waiting}
use Rattle.ep_table.specs.ByNumber.{NumberedBy, with_by}
use Rattle.ep_table.specs.Closing.{closed_in, closed_slot, kept_if, remains}
use Rattle.std.specs.declared.vec.Vec.{Vec}
use Rattle.slab.specs.Slab.{Slab}
use Rattle.ep_table.specs.Connected.{AllStand, Stands, WaitsAt}
use Rattle.ep_table.specs.LettingGo.{LetsGo}
use Rattle.ep_table.proofs.ConnectedLemmas.{AllFollow, all_stand, closed_follow, instances_follow, stand_less}
use Rattle.ep_table.specs.Stored.{AllBacked, AllInstances, AllOwned, IsStore, key_at as end_key, key_number, number_in, object_in, object_number_in, objects, place_in, places, things}
use Rattle.ep_table.specs.Taking.{AreOwners, Taking, freed_if}
use Rattle.ep_table.specs.Value.{AreLive, Things, files_in, losses_of, number_at}
use Rattle.ep_table.specs.declared.store.Store.TheInside.{Inside}
use Rattle.ep_table.specs.declared.words.Description.{Description}
use Rattle.ep_table.specs.declared.words.Loss.{Loss}
use Rattle.ep_table.specs.declared.words.Shared.{Shared}
use Rattle.ep_table.proofs.ByNumberLemmas.{content_there, contents_length, contents_next, has_or, next_here, next_other, numbered_next, with_none}
use Rattle.ep_table.proofs.CloseLemmas.{any_numbered, closed_object, contents_has, kept_is, kept_number, kept_value, none_numbered}
use Rattle.ep_table.proofs.LetGoLemmas.{all_go, at, gone, is_lost, loss_at, step, told_at}
use Rattle.ep_table.proofs.OwnersLemmas.{owners_closed}
use Rattle.ep_table.proofs.StoreLemmas.{key_at}
use Rattle.ep_table.proofs.TakingLemmas.{stays_named, taking_closed}

-- Nothing waits under a number that no key is kept for.
pub none_waits : (w : List (ℕ × ℕ)) (os : List (Option Shared)) (m : ℕ) → NumberedBy object_number_in os m → AllStand w os m → (n : ℕ)
    → ((key : ℕ) → WaitsAt os n key → owner_at w n ≡ Some key → ⊥) → is_waiting (at (objects os m) n) ≡ false
none_waits w os m num stand n none = elim (below_or n m) [
  | inl lt ↦
      let there = get_or-map-range_with_len (with_by object_number_in object_in os) 0 m n n None lt (omega arith) in
      elim (has_or object_number_in object_in os n) [
        | inl has ↦
            let is : get_or (objects os m) n None ≡ Some has.it.object = ap (λ (j : ℕ). get_or (objects os m) j None) (sym has.num) ∙ content_there object_number_in object_in os m num has.key has.it has.is in
            elim (cases_Bool (is_waiting has.it.object)) [
              | inl waits ↦ absurd (none has.key (record { it = has.it; is = has.is; number_is = has.num; waits = waits }) (ap (owner_at w) (sym has.num) ∙ (stand has.key has.it has.is).keyed waits))
              | inr rests ↦ ap (λ (o : Option Object). is_waiting (unwrap_or o plain)) is ∙ rests
            ]
        | inr lacks ↦ ap (λ (o : Option Object). is_waiting (unwrap_or o plain)) (there ∙ with_none object_number_in object_in os n lacks)
      ]
  | inr le ↦ ap (λ (o : Option Object). is_waiting (unwrap_or o plain)) (get_or_past (objects os m) n None (omega (arith, le, contents_length object_number_in object_in os m)))
]

-- and under the number of one that does, it does
pub whether_waits : (w : List (ℕ × ℕ)) (os : List (Option Shared)) (m : ℕ) → NumberedBy object_number_in os m → AllStand w os m → (n : ℕ) (o : Option ℕ) → IfSome o (λ key. WaitsAt os n key)
    → IfNone o ((key : ℕ) → WaitsAt os n key → owner_at w n ≡ Some key → ⊥) → is_some o ≡ is_waiting (at (objects os m) n)
whether_waits w os m num stand n None some none = sym (none_waits w os m num stand n none)
whether_waits w os m num stand n (Some key) some none =
    sym (ap (λ (j : ℕ). is_waiting (at (objects os m) j)) (sym some.number_is)
    ∙ (ap (λ (o : Option Object). is_waiting (unwrap_or o plain)) (content_there object_number_in object_in os m num key some.it some.is) ∙ some.waits))

-- so nothing goes
module _ (s : Files) (n : ℕ) (rests : is_waiting (at s.objects n) ≡ false) where
  one_rests : step s s.objects n ≡ s.objects
  one_rests = ap (λ (b : Bool). if b then slice_set s.objects n (gone s s.objects n) else s.objects) rests

  pub objects_rest : (let_all_go (s, []) (n ∷ [])).0.objects ≡ s.objects
  objects_rest = ap (λ (now : Files × List (ℕ × ℕ)). now.0.objects) (all_go s s.objects [] (n ∷ [])) ∙ one_rests

  pub none_told : (d : ℕ) → raised_of (let_all_go (s, []) (n ∷ [])).1 d ≡ 0
  none_told d =
      ap (λ (now : Files × List (ℕ × ℕ)). raised_of now.1 d) (all_go s s.objects [] (n ∷ []))
      ∙ (told_at s s.objects (n ∷ []) d ∙ by_place (get_or s.descriptions d None)) where
        by_place : (o : Option Place) → loss_at s s.objects (n ∷ []) o ≡ 0
        by_place None = refl
        by_place (Some p) = ap (λ (b : Bool). when b (at_end (close_end (at s.objects p.object) Second).1 p.side)) (of_lost p) where
          of_lost : (p : Place) → is_lost s s.objects (n ∷ []) p.object ≡ false
          of_lost p = elim (same_or_not p.object n) [
            | inl e ↦ (λ i. ((p.object == n) || false) && (ap (λ (j : ℕ). is_waiting (at s.objects j)) e ∙ rests) i) ∙ and-false ((p.object == n) || false)
            | inr ne ↦ ap (λ (b : Bool). (b || false) && is_waiting (at s.objects p.object)) (test_apart p.object n ne)
          ]

pub lets_none_go : (v : Things) (n : ℕ) → is_waiting (at v.objects n) ≡ false → LetsGo v v (n ∷ [])
lets_none_go v n rests = record {
  rest = (λ i. record v { objects = sym (objects_rest (files_in v) n rests) i });
  raised = λ d. sym ((λ i. bit_or (raised_of (losses_of v.keys v.losses) d) (none_told (files_in v) n rests d i)) ∙ or_zero_r (raised_of (losses_of v.keys v.losses) d));
  live = λ h. h;
}

-- One that waits, in its place.
module _ (ds : List (Option Description)) (os : List (Option Shared)) (n m : ℕ) (nd : NumberedBy number_in ds n) (no : NumberedBy object_number_in os m) (backed : AllBacked ds os) (owned : AllOwned ds os)
    (key : ℕ) (s : Shared) (is : get_or os key None ≡ Some s) (alone : s.second ≡ None) where
  abbrev o : Option Shared
  o = closed_slot (Some s) Second

  abbrev pub os1 : List (Option Shared)
  os1 = slice_set os key o

  keeps : (t : Shared) → o ≡ Some t → object_number_in t ≡ object_number_in s
  keeps t h = kept_number (remains s Second) s Second t h

  here : get_or os1 key None ≡ o
  here = next_here object_number_in object_in os key s is m no o keeps

  elsewhere : (i : ℕ) → i ≢ key → get_or os1 i None ≡ get_or os i None
  elsewhere i ne = next_other object_number_in object_in os key s is m no o keeps i ne

  pub numbered_shut : NumberedBy object_number_in os1 m
  numbered_shut = numbered_next object_number_in object_in os key s is m no o keeps

  pub objects_shut : objects os1 m ≡ slice_set (objects os m) s.number (if remains s Second then Some (close_end s.object Second).0 else None)
  objects_shut = contents_next object_number_in object_in os key s is m no o keeps ∙ ap (λ (x : Option Object). slice_set (objects os m) s.number x) (kept_value (remains s Second) s Second)

  -- a description of it is one of its first end
  at_first : (e : End) (k : DescId) → end_key s e ≡ Some k → (e ≡ First) × (s.first ≡ Some k)
  at_first First k h = (refl, h)
  at_first Second k h = let clash : None ≡ Some k = sym alone ∙ h in absurd cc

  stays : (k : DescId) → s.first ≡ Some k → o ≡ Some (closed_in s Second)
  stays k h = ap (λ (f : Option DescId). kept_if (is_some f || is_waiting (closed_in s Second).object) (closed_in s Second)) h

  pub backed_shut : AllBacked ds os1
  backed_shut i d h = let b = backed i d h in elim (same_or_not d.object key) [
    | inl to ↦
        let same : s ≡ b.it = (let y = b.is in let z = ap (λ (j : ℕ). get_or os j None) to in cc) in
        let f = at_first d.end (record { 0 = i }) (ap (λ (t : Shared). end_key t d.end) same ∙ b.key_is) in
        record {
          it = closed_in s Second;
          is = ap (λ (j : ℕ). get_or os1 j None) to ∙ (here ∙ stays (record { 0 = i }) f.1);
          number = ap object_number_in same ∙ b.number;
          key_is = ap (λ (e : End). end_key (closed_in s Second) e) f.0 ∙ f.1;
        }
    | inr ne ↦ record { it = b.it; is = elsewhere d.object ne ∙ b.is; number = b.number; key_is = b.key_is }
  ]

  closed_first : (e : End) (k : DescId) → end_key (closed_in s Second) e ≡ Some k → end_key s e ≡ Some k
  closed_first First k h = h
  closed_first Second k h = cc

  pub owned_shut : AllOwned ds os1
  owned_shut i x e k h has = elim (same_or_not i key) [
    | inl to ↦
        let q = kept_is (remains s Second) (closed_in s Second) x (sym here ∙ (ap (λ (j : ℕ). get_or os1 j None) (sym to) ∙ h)) in
        let w = owned key s e k is (closed_first e k (ap (λ (y : Shared). end_key y e) (sym q) ∙ has)) in
        record { it = w.it; is = w.is; object = w.object ∙ sym to; end = w.end }
    | inr ne ↦ owned i x e k (sym (elsewhere i ne) ∙ h) has
  ]

  -- a description of this object, by its number
  mine : (k : ℕ) (x : Description) → get_or ds k None ≡ Some x → x.object_number ≡ s.number → (x.end ≡ First) × (s.first ≡ Some (record { 0 = k }))
  mine k x h num =
      let b = backed k x h in
      let to : x.object ≡ key = no.one x.object key b.it s b.is is (b.number ∙ num) in
      let same : s ≡ b.it = (let y = b.is in let z = ap (λ (j : ℕ). get_or os j None) to in cc) in
      at_first x.end (record { 0 = k }) (ap (λ (t : Shared). end_key t x.end) same ∙ b.key_is)

  abbrev same_object : Place → Bool
  same_object p = p.object == s.number

  owned_number : (k : DescId) (w : Description) → get_or ds k.0 None ≡ Some w → w.object ≡ key → w.object_number ≡ s.number
  owned_number k w h to =
      let b = backed k.0 w h in
      let same : s ≡ b.it = (let y = b.is in let z = ap (λ (j : ℕ). get_or os j None) to in cc) in
      sym b.number ∙ ap object_number_in (sym same)

  -- it has a description while its first end has a key
  any_first : (f : Option DescId) → s.first ≡ f → list_any (λ y. same_object y.1) (numbered 0 (places ds n)) ≡ is_some f
  any_first (Some k) e =
      let w = owned key s First k is e in
      any_numbered same_object 0 w.it.number (places ds n) (place_in w.it) (content_there number_in place_in ds n nd k.0 w.it w.is) (same_test w.it.object_number s.number (owned_number k w.it w.is w.object))
  any_first None e = none_numbered same_object 0 (places ds n) (λ i p h.
      let g = contents_has ds n nd i p h in
      let apart : g.0.it.object_number ≢ s.number = λ num. none-some (record { 0 = g.0.key }) (sym e ∙ (mine g.0.key g.0.it g.0.is num).1) in
      ap same_object (sym g.1) ∙ test_apart g.0.it.object_number s.number apart)

  abbrev files : Files
  files = record { tables = []; descriptions = places ds n; objects = objects os m }

  content : at (objects os m) s.number ≡ s.object
  content = ap (λ (x : Option Object). unwrap_or x plain) (content_there object_number_in object_in os m no key s is)

  module _ (waits : is_waiting s.object ≡ true) where
    waits_there : is_waiting (at (objects os m) s.number) ≡ true
    waits_there = ap is_waiting content ∙ waits

    gone_is : gone files (objects os m) s.number ≡ (if remains s Second then Some (close_end s.object Second).0 else None)
    gone_is =
        let a = any_first s.first refl in
        (λ i. if a i || is_waiting (close_end (content i) Second).0 then Some (close_end (content i) Second).0 else None)
        ∙ ap (λ (y : Object). if is_some s.first || is_waiting y then Some (close_end s.object Second).0 else None) (sym (closed_object s Second))

    pub objects_go : (let_all_go (files, []) (s.number ∷ [])).0.objects ≡ objects os1 m
    objects_go =
        ap (λ (now : Files × List (ℕ × ℕ)). now.0.objects) (all_go files (objects os m) [] (s.number ∷ []))
        ∙ (ap (λ (b : Bool). if b then slice_set (objects os m) s.number (gone files (objects os m) s.number) else objects os m) waits_there
        ∙ (ap (λ (x : Option Object). slice_set (objects os m) s.number x) gone_is ∙ sym objects_shut))

    abbrev raised : Raised
    raised = (close_end s.object Second).1

    -- what is told of it
    told_here : (d : ℕ) → raised_of (let_all_go (files, []) (s.number ∷ [])).1 d ≡ loss_at files (objects os m) (s.number ∷ []) (get_or (places ds n) d None)
    told_here d = ap (λ (now : Files × List (ℕ × ℕ)). raised_of now.1 d) (all_go files (objects os m) [] (s.number ∷ [])) ∙ told_at files (objects os m) (s.number ∷ []) d

    other_lost : (p : Place) → p.object ≢ s.number → loss_at files (objects os m) (s.number ∷ []) (Some p) ≡ 0
    other_lost p ne = ap (λ (b : Bool). when ((b || false) && is_waiting (at (objects os m) p.object)) (at_end (close_end (at (objects os m) p.object) Second).1 p.side)) (test_apart p.object s.number ne)

    own_lost : (p : Place) → p.object ≡ s.number → loss_at files (objects os m) (s.number ∷ []) (Some p) ≡ at_end raised p.side
    own_lost p e =
        ap (λ (j : ℕ). when ((j == s.number || false) && is_waiting (at (objects os m) j)) (at_end (close_end (at (objects os m) j) Second).1 p.side)) e
        ∙ (λ i. when ((same_nat s.number i || false) && waits_there i) (at_end (close_end (content i) Second).1 p.side))

    -- of one without a first end, nothing
    pub none_lost : s.first ≡ None → (d : ℕ) → raised_of (let_all_go (files, []) (s.number ∷ [])).1 d ≡ 0
    none_lost none d = told_here d ∙ by_place (get_or (places ds n) d None) refl where
      by_place : (x : Option Place) → get_or (places ds n) d None ≡ x → loss_at files (objects os m) (s.number ∷ []) x ≡ 0
      by_place None e = refl
      by_place (Some p) e =
          let g = contents_has ds n nd d p e in
          let apart : p.object ≢ s.number = λ num. none-some (record { 0 = g.0.key }) (sym none ∙ (mine g.0.key g.0.it g.0.is (ap (λ (q : Place). q.object) g.1 ∙ num)).1) in
          other_lost p apart

    -- and else the bits at that
    module _ (k : DescId) (first : s.first ≡ Some k) where
      abbrev it : Description
      it = (owned key s First k is first).it

      its : get_or ds k.0 None ≡ Some it
      its = (owned key s First k is first).is

      number_there : number_at (map key_number ds) k ≡ Some it.number
      number_there = key_at ds k.0 ∙ ap key_number its

      pub first_lives : IsSome (number_at (map key_number ds) k)
      first_lives = subst (λ (x : Option ℕ). IsSome x) (sym number_there) refl

      its_object : it.object_number ≡ s.number
      its_object = owned_number k it its (owned key s First k is first).object

      its_place : get_or (places ds n) it.number None ≡ Some (place_in it)
      its_place = content_there number_in place_in ds n nd k.0 it its

      pub first_lost : (d : ℕ) → raised_of (losses_of (map key_number ds) (record { desc = k; raised = raised.first } ∷ [])) d ≡ raised_of (let_all_go (files, []) (s.number ∷ [])).1 d
      first_lost d =
          (λ i. bit_or (when (unwrap_or (number_there i) 0 == d) raised.first.0) 0)
          ∙ (or_zero_r (when (it.number == d) raised.first.0) ∙ (by_place (get_or (places ds n) d None) refl ∙ sym (told_here d))) where
            apart_from : (x : Option Place) → get_or (places ds n) d None ≡ x → x ≢ Some (place_in it) → when (it.number == d) raised.first.0 ≡ 0
            apart_from x e ne = ap (λ (b : Bool). when b raised.first.0) (test_apart it.number d (λ same. ne (sym e ∙ (ap (λ (j : ℕ). get_or (places ds n) j None) (sym same) ∙ its_place))))

            by_place : (x : Option Place) → get_or (places ds n) d None ≡ x → when (it.number == d) raised.first.0 ≡ loss_at files (objects os m) (s.number ∷ []) x
            by_place None e = apart_from None e (λ h. cc)
            by_place (Some p) e = elim (same_or_not p.object s.number) [
              | inl num ↦
                  let g = contents_has ds n nd d p e in
                  let f = mine g.0.key g.0.it g.0.is (ap (λ (q : Place). q.object) g.1 ∙ num) in
                  let keys : g.0.key ≡ k.0 = ap (λ (x : Option DescId). (unwrap_or x k).0) (sym f.1 ∙ first) in
                  let same : g.0.it ≡ it = (let y = g.0.is in let z = its in let w = ap (λ (j : ℕ). get_or ds j None) keys in cc) in
                  let own : it.number ≡ d = ap number_in (sym same) ∙ g.0.num in
                  let side : p.side ≡ First = ap (λ (q : Place). q.side) (sym g.1) ∙ f.0 in
                  ap (λ (b : Bool). when b raised.first.0) (same_test it.number d own) ∙ sym (own_lost p num ∙ ap (at_end raised) side)
              | inr off ↦
                  apart_from (Some p) e (λ h. off (ap (λ (x : Option Place). (unwrap_or x p).object) h ∙ its_object)) ∙ sym (other_lost p off)
            ]

    -- The name goes with the first end, so none is freed.
    none_freed : (s.first ≡ None → name_in s.object ≡ None) → (b : Bool) → remains s Second ≡ b → None ≡ freed_if b s.object (closed_in s Second).object
    none_freed nameless true h = sym (stays_named (name_in s.object) (name_in (close_end s.object Second).0) (second_keeps_name s.object))
    none_freed nameless false h = sym (nameless (by_first s.first refl)) where
      by_first : (f : Option DescId) → s.first ≡ f → s.first ≡ None
      by_first None e = e
      by_first (Some k) e = absurd (false≢true (sym h ∙ ap (λ (x : Option DescId). is_some x || is_waiting (closed_in s Second).object) e))

    pub taking_shut : (s.first ≡ None → name_in s.object ≡ None) → (names : Taken) → Taking names (objects os m) → Taking names (objects os1 m)
    taking_shut nameless names t =
        subst (λ (xs : List (Option Object)). Taking names xs) (sym objects_shut)
        (taking_closed names names (objects os m) t s.number s Second (content_there object_number_in object_in os m no key s is) None (none_freed nameless (remains s Second) refl) (λ name. refl))

    pub owners_shut : (s.first ≡ None → name_in s.object ≡ None) → (names : Taken) → AreOwners names os → AreOwners names os1
    owners_shut nameless names h = owners_closed names names os h key s is Second None (none_freed nameless (remains s Second) refl) (λ name. refl)

-- what is pushed behind others
pub losses_push : (keys : List (Option ℕ)) (xs : List Loss) (x : Loss) → losses_of keys (xs ++ x ∷ []) ≡ losses_of keys xs ++ losses_of keys (x ∷ [])
losses_push keys [] x = refl
losses_push keys (y ∷ xs) x = ap (λ (rs : List (ℕ × ℕ)). (unwrap_or (number_at keys y.desc) 0, y.raised.0) ∷ rs) (losses_push keys xs x)

pub live_push : (keys : List (Option ℕ)) (xs : List Loss) (x : Loss) → AreLive keys xs → IsSome (number_at keys x.desc) → AreLive keys (xs ++ x ∷ [])
live_push keys [] x h l = (l, tt)
live_push keys (y ∷ xs) x h l = (h.0, live_push keys xs x h.1 l)

-- The store without one that waited.
module _ {A : Type 0} (k : Inside A) (v : Things) (inv : IsStore k) (same : things k ≡ v) (key number : ℕ) (w : WaitsAt k.objects.slots number key) (kept : owner_at k.waiting number ≡ Some key) where
  abbrev s : Shared
  s = w.it

  abbrev ds : List (Option Description)
  ds = k.descriptions.slots

  abbrev os : List (Option Shared)
  os = k.objects.slots

  stands : Stands k.waiting os k.made key s
  stands = inv.connected key s w.is

  lone : s.second ≡ None
  lone = stands.alone w.waits

  unnamed : s.first ≡ None → name_in s.object ≡ None
  unnamed = stands.nameless w.waits

  abbrev shut : List (Option Shared)
  shut = slice_set os key (closed_slot (Some s) Second)

  -- none with its number waits any more
  none_left : (i : ℕ) (t : Shared) → get_or shut i None ≡ Some t → t.number ≡ number → is_waiting t.object ≡ false
  none_left i t is num = elim (same_or_not i key) [
    | inl to ↦
        let e = kept_is (remains s Second) (closed_in s Second) t (sym (here ds os k.described k.made inv.descriptions inv.objects inv.backed inv.owned key s w.is lone) ∙ (ap (λ (j : ℕ). get_or shut j None) (sym to) ∙ is)) in
        ap (λ (x : Shared). is_waiting x.object) e ∙ second_closes_waiting s.object
    | inr ne ↦
        let was = sym (elsewhere ds os k.described k.made inv.descriptions inv.objects inv.backed inv.owned key s w.is lone i ne) ∙ is in
        absurd (ne (inv.objects.one i key t s was w.is (num ∙ sym w.number_is)))
  ]

  module _ (slab : Slab Shared) (waiting : List (ℕ × ℕ)) (losses : Vec Loss A) (slots : slab.slots ≡ slice_set os key (closed_slot (get_or os key None) Second))
      (left : (n : ℕ) → owner_at waiting n ≡ (if number == n then None else owner_at k.waiting n)) where
    slots_are : slab.slots ≡ shut
    slots_are = slots ∙ ap (λ (x : Option Shared). slice_set os key (closed_slot x Second)) w.is

    abbrev pub lessened : Inside A
    lessened = record k { objects = slab; waiting = waiting; losses = losses }

    follow : AllFollow os shut
    follow = closed_follow os key s w.is Second

    pub store_lets : length losses.items + length waiting ≤ vec_capacity losses → IsStore lessened
    store_lets room = record {
      descriptions = inv.descriptions;
      objects = subst (λ (xs : List (Option Shared)). NumberedBy object_number_in xs k.made) (sym slots_are) (numbered_shut ds os k.described k.made inv.descriptions inv.objects inv.backed inv.owned key s w.is lone);
      backed = subst (λ (xs : List (Option Shared)). AllBacked ds xs) (sym slots_are) (backed_shut ds os k.described k.made inv.descriptions inv.objects inv.backed inv.owned key s w.is lone);
      owned = subst (λ (xs : List (Option Shared)). AllOwned ds xs) (sym slots_are) (owned_shut ds os k.described k.made inv.descriptions inv.objects inv.backed inv.owned key s w.is lone);
      counted = inv.counted;
      room = inv.room;
      queue = inv.queue;
      keyed = inv.keyed;
      fewer = inv.fewer;
      taken = subst (λ (xs : List (Option Shared)). Taking k.taken.value (objects xs k.made)) (sym slots_are)
          (taking_shut ds os k.described k.made inv.descriptions inv.objects inv.backed inv.owned key s w.is lone w.waits unnamed k.taken.value inv.taken);
      owners = subst (λ (xs : List (Option Shared)). AreOwners k.taken.value xs) (sym slots_are)
          (owners_shut ds os k.described k.made inv.descriptions inv.objects inv.backed inv.owned key s w.is lone w.waits unnamed k.taken.value inv.owners);
      instances = subst (λ (xs : List (Option Shared)). AllInstances ds xs) (sym slots_are) (instances_follow ds os shut follow inv.instances);
      connected = subst (λ (xs : List (Option Shared)). AllStand waiting xs k.made) (sym slots_are)
          (stand_less k.waiting shut k.made (all_stand k.waiting os shut k.made follow inv.connected) waiting number left none_left);
      loss_room = room;
    }

    objects_left : objects slab.slots k.made ≡ (let_all_go (files_in v, []) (number ∷ [])).0.objects
    objects_left =
        ap (λ (xs : List (Option Shared)). objects xs k.made) slots_are
        ∙ (sym (objects_go ds os k.described k.made inv.descriptions inv.objects inv.backed inv.owned key s w.is lone w.waits)
        ∙ (ap (λ (n : ℕ). (let_all_go (files_in (things k), []) (n ∷ [])).0.objects) w.number_is
        ∙ ap (λ (t : Things). (let_all_go (files_in t, []) (number ∷ [])).0.objects) same))

    rest_is : things lessened ≡ record v { objects = (let_all_go (files_in v, []) (number ∷ [])).0.objects; losses = losses.items }
    rest_is = (λ i. record (things k) { objects = objects_left i; losses = losses.items }) ∙ ap (λ (t : Things). record t { objects = (let_all_go (files_in v, []) (number ∷ [])).0.objects; losses = losses.items }) same

    to_number : (d : ℕ) → raised_of (let_all_go (files_in (things k), []) (s.number ∷ [])).1 d ≡ raised_of (let_all_go (files_in v, []) (number ∷ [])).1 d
    to_number d =
        ap (λ (n : ℕ). raised_of (let_all_go (files_in (things k), []) (n ∷ [])).1 d) w.number_is
        ∙ ap (λ (t : Things). raised_of (let_all_go (files_in t, []) (number ∷ [])).1 d) same

    pub lets_untold : s.first ≡ None → losses.items ≡ k.losses.items → LetsGo v (things lessened) (number ∷ [])
    lets_untold none still = record {
      rest = rest_is;
      raised = λ d.
          let nothing = sym (to_number d) ∙ none_lost ds os k.described k.made inv.descriptions inv.objects inv.backed inv.owned key s w.is lone w.waits none d in
          let as_before : losses.items ≡ v.losses = still ∙ ap (λ (t : Things). t.losses) same in
          ap (λ (xs : List Loss). raised_of (losses_of v.keys xs) d) as_before
          ∙ sym ((λ i. bit_or (raised_of (losses_of v.keys v.losses) d) (nothing i)) ∙ or_zero_r (raised_of (losses_of v.keys v.losses) d));
      live = λ h. subst (λ (xs : List Loss). AreLive v.keys xs) (sym (still ∙ ap (λ (t : Things). t.losses) same)) h;
    }

    pub lets_told : (desc : DescId) (x : Loss) → s.first ≡ Some desc → x ≡ record { desc = desc; raised = (close_end s.object Second).1.first } → losses.items ≡ k.losses.items ++ x ∷ [] → LetsGo v (things lessened) (number ∷ [])
    lets_told desc x first is more =
        let pushed : losses.items ≡ v.losses ++ x ∷ [] = more ∙ ap (λ (t : Things). t.losses ++ x ∷ []) same in
        let keys : map key_number ds ≡ v.keys = ap (λ (t : Things). t.keys) same in
        record {
          rest = rest_is;
          raised = λ d.
              let one : raised_of (losses_of v.keys (x ∷ [])) d ≡ raised_of (let_all_go (files_in v, []) (number ∷ [])).1 d =
              (λ i. raised_of (losses_of (sym keys i) (is i ∷ [])) d)
              ∙ (first_lost ds os k.described k.made inv.descriptions inv.objects inv.backed inv.owned key s w.is lone w.waits desc first d ∙ to_number d) in
              ap (λ (xs : List Loss). raised_of (losses_of v.keys xs) d) pushed
              ∙ (ap (λ (rs : List (ℕ × ℕ)). raised_of rs d) (losses_push v.keys v.losses x)
              ∙ (raised_parts (losses_of v.keys v.losses) (losses_of v.keys (x ∷ [])) d
              ∙ (λ i. bit_or (raised_of (losses_of v.keys v.losses) d) (one i))));
          live = λ h.
              let lives = first_lives ds os k.described k.made inv.descriptions inv.objects inv.backed inv.owned key s w.is lone w.waits desc first in
              let lives_there : IsSome (number_at v.keys x.desc) = subst (λ (ks : List (Option ℕ)). IsSome (number_at ks x.desc)) keys (subst (λ (y : Loss). IsSome (number_at (map key_number ds) y.desc)) (sym is) lives) in
              subst (λ (xs : List Loss). AreLive v.keys xs) (sym pushed) (live_push v.keys v.losses x h lives_there);
        }

-- one key fewer is kept
pub one_fewer : (o : Option ℕ) (key a b : ℕ) → o ≡ Some key → IfSome o (λ it. a + 1 ≡ b) → a + 1 ≡ b
one_fewer None key a b h f = cc
one_fewer (Some it) key a b h f = f
