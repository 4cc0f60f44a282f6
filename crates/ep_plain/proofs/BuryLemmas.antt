-- What is raised in an event, and what the dead take along, leaves the dates those of the registrations.
use Rattle.std.proofs.Common.{◌≡◌, ◌==◌, ◌||◌, ◌∙◌, ◌++◌, ◌∷◌, ℕ, Bool, true, IsSome, List, [], Option, Some, ap, append-nil, arith, filter, inl, inr, map, nat_lt, not, refl, subst, sym, unwrap_or}
use Rattle.std.specs.List.{list_any}
use Rattle.std.proofs.lemmas.Bool.{cases_Bool, false≢true}
use Rattle.ep_facts.proofs.NatFacts.{from_test, same_test}
use Rattle.ep_facts.proofs.OptionFacts.{none_is_some}
use Rattle.ep_facts.proofs.BoolFacts.{from_not_false, or_by_not, or_swap}
use Rattle.ep_facts.proofs.ListFacts.{head_same, tail_same}
use Rattle.ep_base.specs.declared.ids.DescId.{DescId}
use Rattle.ep_base.specs.declared.ids.EntryId.{EntryId}
use Rattle.ep_calls.proofs.EntryLemmas.{holds_under, key_of as key_of_member, member_of, number_of, one_under, own}
use Rattle.ep_calls.proofs.KeyLemmas.{number_kept, same_keys, some_kept}
use Rattle.ep_calls.specs.Burial.{Burial, is_untouched}
use Rattle.ep_calls.specs.Ids.{KeepsIds}
use Rattle.ep_calls.specs.Stands.{AreLinked, IsLinked, number_at, watch_at}
use Rattle.ep_dates.specs.Dates.{Dates}
use Rattle.ep_dates.specs.Drop.{Drops, touches_any, touches_found}
use Rattle.ep_dates.specs.Moves.{Moves, WasThere}
use Rattle.ep_interest.specs.Registrations.{IsSound, Registrations, entry_found, entry_under, number_under}
use Rattle.ep_interest.specs.declared.entry.Entry.{Entry}
use Rattle.ep_law.proofs.GraphLemmas.{member_of_map}
use Rattle.ep_law.proofs.ListLemmas.{filtered_member, filtered_passes, member_filter, member_map}
use Rattle.ep_law.specs.Laws.{Member}
use Rattle.ep_machine.specs.Deaths.{die_all}
use Rattle.ep_machine.specs.Files.{Place}
use Rattle.ep_machine.specs.Lists.{is_among}
use Rattle.ep_plain.proofs.LosesLemmas.{loses_moves}
use Rattle.ep_plain.specs.Loses.{Loses}
use Rattle.ep_table.specs.Value.{Seen, Sound as SoundTables, number_under as desc_number}
use Rattle.ep_view.specs.KernelView.{KernelWatch, freshened}

-- What dies by keys is what dies by numbers.

-- some of these descriptions has one of the two keys
any_desc : (v : Seen) → SoundTables v → (a b : DescId) → IsSome (desc_number v a) → IsSome (desc_number v b) → (descs : List DescId) (ds : List ℕ) → map (desc_number v) descs ≡ map Some ds
    → list_any (λ desc. a.0 == desc.0 || b.0 == desc.0) descs ≡ (is_among ds (number_at v.keys a) || is_among ds (number_at v.keys b))
any_desc v sound a b la lb [] [] e = refl
any_desc v sound a b la lb [] (d ∷ ds) e = absurd (cc)
any_desc v sound a b la lb (desc ∷ descs) [] e = absurd (cc)
any_desc v sound a b la lb (desc ∷ descs) (d ∷ ds) e =
    let here : desc_number v desc ≡ Some d = head_same _ _ _ _ e in
    let lives : IsSome (desc_number v desc) = subst (λ (o : Option ℕ). IsSome o) (sym here) refl in
    let number : number_at v.keys desc ≡ d = ap (λ (o : Option ℕ). unwrap_or o 0) here in
    let one = λ (x : DescId) (lx : IsSome (desc_number v x)). sym (same_keys v x desc sound lx lives) ∙ ap (λ (n : ℕ). number_at v.keys x == n) number in
    let rest = any_desc v sound a b la lb descs ds (tail_same _ _ _ _ e) in
    (λ i. (one a la i || one b lb i) || rest i) ∙ or_swap (number_at v.keys a == d) (number_at v.keys b == d) (is_among ds (number_at v.keys a)) (is_among ds (number_at v.keys b))

-- The dead are gone, with their registrations and those on them.
module _ (n : ℕ) (v w : Seen) (r q : Registrations) (burial : Burial n v r w q) (ids : KeepsIds r q) (was : IsSound r) (now : IsSound q) (linked : AreLinked v r) where
  abbrev dead : List ℕ
  dead = map (λ (x : ℕ × Place). x.0) burial.buries.dead

  abbrev stays : KernelWatch → Bool
  stays x = is_untouched dead x

  abbrev noted : KernelWatch → KernelWatch
  noted x = freshened n (die_all (v.files, []) burial.buries.dead).1 x

  abbrev watched : List KernelWatch
  watched = filter stays (map (watch_at v.keys) r.entries)

  -- the key of an instance is what its number says
  one_instance : (x y : Entry) → IsLinked v.keys x → IsLinked w.keys y → number_at v.keys x.instance ≡ number_at w.keys y.instance → x.instance.0 ≡ y.instance.0
  one_instance x y lx ly e =
      let keeps = burial.buries.keys in
      let kept = number_kept w v y.instance keeps ly.instance in
      from_test x.instance.0 y.instance.0 (sym (same_keys v x.instance y.instance burial.sound lx.instance (some_kept w v y.instance keeps ly.instance)) ∙ same_test _ _ (e ∙ sym kept))

  -- a registration that is left, as it was
  record WasLeft (id : EntryId) (y : Entry) : Type 0 where
    it : WasThere r id y
    untouched : stays (watch_at v.keys it.was) ≡ true

  was_left : (id : EntryId) (y : Entry) → entry_under q id ≡ Some y → WasLeft id y
  was_left id y at =
      let m : Member (watch_at w.keys y) (map noted watched) = subst (Member (watch_at w.keys y)) burial.buries.watches (member_map (watch_at w.keys) y q.entries (member_of q id y at)) in
      let u = member_of_map noted watched (watch_at w.keys y) m in
      let z = member_of_map (watch_at v.keys) r.entries u.0 (filtered_member stays (map (watch_at v.keys) r.entries) u.0 u.1) in
      let x = z.0 in
      let number : x.number ≡ y.number = ap (λ (k : KernelWatch). k.number) z.2 ∙ ap (λ (k : KernelWatch). k.number) u.2 in
      let numbers : number_at v.keys x.instance ≡ number_at w.keys y.instance = ap (λ (k : KernelWatch). k.instance) z.2 ∙ ap (λ (k : KernelWatch). k.instance) u.2 in
      let before : number_under r id ≡ Some y.number = elim (ids id) [ inl none ↦ absurd (none_is_some y.number _ none (number_of q id y at)) | inr same ↦ sym same ∙ number_of q id y at ] in
      let there : entry_under r id ≡ Some x = ap (entry_found r.entries) (before ∙ ap (λ (k : ℕ). Some k) (sym number)) ∙ own r was x z.1 in
      record {
        it = record {
          was = x;
          there = there;
          number = number;
          instance = one_instance x y (holds_under (IsLinked v.keys) r id x linked there) (holds_under (IsLinked w.keys) q id y burial.buries.linked at) numbers;
        };
        untouched = ap stays z.2 ∙ filtered_passes stays (map (watch_at v.keys) r.entries) u.0 u.1;
      }

  pub each_buried : (id : EntryId) (y : Entry) → entry_under q id ≡ Some y → WasThere r id y
  each_buried id y at = (was_left id y at).it

  -- one with its number stands under its key
  same_key : (id key : EntryId) (x y : Entry) → entry_under r id ≡ Some x → entry_under q key ≡ Some y → y.number ≡ x.number → (z : Entry) × (entry_under q id ≡ Some z) × (z.instance.0 ≡ x.instance.0)
  same_key id key x y at here number =
      let before = each_buried key y here in
      let one = one_under r was key id before.was x before.there at (before.number ∙ number) in
      (y, ap (entry_under q) (sym one.0) ∙ here, sym before.instance ∙ ap (λ (z : Entry). z.instance.0) one.1)

  -- what no death touches is left
  left_under : (id : EntryId) (x : Entry) → entry_under r id ≡ Some x → stays (watch_at v.keys x) ≡ true → (y : Entry) × (entry_under q id ≡ Some y) × (y.instance.0 ≡ x.instance.0)
  left_under id x at t =
      let here = watch_at v.keys x in
      let stayed : Member here watched = member_filter stays here (map (watch_at v.keys) r.entries) (member_map (watch_at v.keys) x r.entries (member_of r id x at)) t in
      let there : Member (noted here) (map (watch_at w.keys) q.entries) = subst (Member (noted here)) (sym burial.buries.watches) (member_map noted here watched stayed) in
      let y = member_of_map (watch_at w.keys) q.entries (noted here) there in
      let key = key_of_member q now y.0 y.1 in
      same_key id key.0 x y.0 at key.1 (ap (λ (k : KernelWatch). k.number) y.2)

  -- and that are the registrations that lose no date
  module _ (dying : List DescId) (named : map (desc_number v) dying ≡ map Some v.dying) where
    all_dead : map (desc_number v) dying ≡ map Some dead
    all_dead = named ∙ ap (map Some) (sym burial.buries.numbers ∙ (ap (λ (ds : List ℕ). dead ++ ds) burial.none ∙ append-nil dead))

    touched_is : (id : EntryId) (x : Entry) → entry_under r id ≡ Some x → touches_any r dying id.0 ≡ not (stays (watch_at v.keys x))
    touched_is id x at =
        let link = holds_under (IsLinked v.keys) r id x linked at in
        ap (λ (o : Option Entry). list_any (λ desc. touches_found desc.0 o) dying) at
        ∙ (any_desc v burial.sound x.instance x.desc link.instance link.desc dying dead all_dead ∙ or_by_not (is_among dead (number_at v.keys x.instance)) (is_among dead (number_at v.keys x.desc)))

    module _ (d e : Dates) (drops : Drops r (touches_any r dying) d e) where
      moves_buried : Moves e r q
      moves_buried = record {
        each = λ id y at. inl (each_buried id y at);
        left = λ id x at dated. elim (cases_Bool (touches_any r dying id.0)) [
          | inl gone ↦ absurd (false≢true (sym (ap (nat_lt 0) (drops.goes id x at gone)) ∙ dated))
          | inr stay ↦ left_under id x at (from_not_false (stays (watch_at v.keys x)) (sym (touched_is id x at) ∙ stay))
        ];
      }

      pub loses_buried : Loses r q d e
      loses_buried = loses_moves r q (touches_any r dying) d e drops moves_buried (let same = burial.buries.added in omega (arith, same)) (λ id y at.
          let left = was_left id y at in
          inl (left.it.was, left.it.there, left.it.number, touched_is id left.it.was left.it.there ∙ ap not left.untouched))
