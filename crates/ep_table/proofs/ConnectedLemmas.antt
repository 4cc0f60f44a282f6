-- Connections that wait, and listeners, as objects come, change and go.
use Rattle.std.proofs.Common.{Bool, Err, List, None, Ok, Option, Result, Some, [], ap, arith, false, get_or, if◌then◌else◌, inl, inr, length, refl, slice_set, subst, sym, true, ℕ, ◌+◌, ◌<◌, ◌∙◌, ◌≡◌, ◌≢◌}
use Rattle.std.proofs.lemmas.Bool.{cases_Bool, false≢true}
use Rattle.std.proofs.lemmas.List.{get_or-set_other, get_or-set_same, get_or_past}
use Rattle.std.specs.Prelude.{◌==◌, IfOk, OnErr}
use Rattle.std.specs.declared.alloc.AllocError.{AllocError}
use Rattle.ep_base.specs.declared.answer.Answer.{Answer}
use Rattle.ep_base.specs.declared.errno.Errno.{Errno}
use Rattle.ep_base.specs.declared.object.End.{End}
use Rattle.ep_base.specs.declared.object.End.TheVariants.{First, Second}
use Rattle.ep_base.specs.declared.object.Raised.{Raised}
use Rattle.ep_facts.proofs.NatFacts.{below_or, same_or_not, test_apart}
use Rattle.ep_machine.specs.Connections.{pending_in}
use Rattle.ep_machine.specs.Effect.{Effect, attempt, first, unless}
use Rattle.ep_machine.specs.Lists.{are_distinct, is_among}
use Rattle.ep_machine.specs.Objects.{Object, ObjectCall, close_end, is_waiting, name_in, object_effect, object_refusals}
use Rattle.ep_names.specs.Numbers.{owner_at}
use Rattle.ep_object.proofs.KindLemmas.{call_keeps_kind, close_keeps_kind}
use Rattle.ep_object.proofs.NamingLemmas.{first_closes_name}
use Rattle.ep_object.proofs.PendingLemmas.{call_keeps_pending, call_keeps_waiting, close_keeps_pending, close_leaves_accepted, second_closes_waiting}
use Rattle.ep_object.specs.Kinds.{kind_number}
use Rattle.ep_object.specs.Naming.{called}
use Rattle.ep_table.proofs.InsertLemmas.{Inserted}
use Rattle.ep_table.specs.Closing.{closed_in, closed_slot, kept_if, remains}
use Rattle.ep_table.specs.Connected.{AllStand, Stands}
use Rattle.std.proofs.lemmas.Option.{none-some}
use Rattle.ep_base.specs.declared.ids.DescId.{DescId}
use Rattle.ep_table.specs.Stored.{AllBacked, AllInstances, key_at as end_key}
use Rattle.ep_table.specs.declared.words.Description.{Description}
use Rattle.ep_table.specs.declared.words.Shared.{Shared}

-- an object as it was, or as something made it by which nothing comes to wait
pub record Follows (s t : Shared) : Type 0 where
  pub number : t.number ≡ s.number
  pub kind : kind_number t.object ≡ kind_number s.object
  pub pending : (n : ℕ) → is_among (pending_in t.object) n ≡ true → is_among (pending_in s.object) n ≡ true
  pub distinct : are_distinct (pending_in s.object) ≡ true → are_distinct (pending_in t.object) ≡ true
  pub waits : is_waiting t.object ≡ true → is_waiting s.object ≡ true
  pub alone : is_waiting t.object ≡ true → s.second ≡ None → t.second ≡ None
  pub nameless : is_waiting t.object ≡ true → (s.first ≡ None → name_in s.object ≡ None) → t.first ≡ None → name_in t.object ≡ None

follows_self : (s : Shared) → Follows s s
follows_self s = record { number = refl; kind = refl; pending = λ n h. h; distinct = λ h. h; waits = λ h. h; alone = λ w h. h; nameless = λ w h. h }

-- What an end's close leaves of it.
still_waits : (x : Object) (e : End) → is_waiting (close_end x e).0 ≡ true → is_waiting x ≡ true
still_waits x e h = elim (cases_Bool (is_waiting x)) [ inl it ↦ it | inr none ↦ absurd (false≢true (sym (close_leaves_accepted x e none) ∙ h)) ]

closed_follows : (s : Shared) (e : End) → Follows s (closed_in s e)
closed_follows s First = record {
  number = refl;
  kind = close_keeps_kind s.object First;
  pending = λ n h. ap (λ (ks : List ℕ). is_among ks n) (sym (close_keeps_pending s.object First)) ∙ h;
  distinct = λ h. ap are_distinct (close_keeps_pending s.object First) ∙ h;
  waits = still_waits s.object First;
  alone = λ w h. h;
  nameless = λ w h gone. first_closes_name s.object (still_waits s.object First w);
}
closed_follows s Second = record {
  number = refl;
  kind = close_keeps_kind s.object Second;
  pending = λ n h. ap (λ (ks : List ℕ). is_among ks n) (sym (close_keeps_pending s.object Second)) ∙ h;
  distinct = λ h. ap are_distinct (close_keeps_pending s.object Second) ∙ h;
  waits = still_waits s.object Second;
  alone = λ w h. refl;
  nameless = λ w h gone. absurd (false≢true (sym (second_closes_waiting s.object) ∙ w));
}

-- What a call leaves of it.
-- one that waits has a description of its first end, if it has one at all
pub first_is_there : (s : Shared) (e : End) (key : DescId) → end_key s e ≡ Some key → s.second ≡ None → s.first ≡ None → ⊥
first_is_there s First key at alone none = none-some key (sym none ∙ at)
first_is_there s Second key at alone none = none-some key (sym alone ∙ at)

module _ (s : Shared) (e : End) (now : ℕ) (asked : ObjectCall) (there : is_waiting s.object ≡ true → s.first ≡ None → ⊥) where
  abbrev left : Object
  left = called s.object e now asked

  of_effect : {X : Type 0} (f : Object → X) → f (object_effect s.object e now asked).1 ≡ f s.object → (o : Option Errno) → f (unless o s.object (object_effect s.object e now asked)).1 ≡ f s.object
  of_effect f h None = h
  of_effect f h (Some errno) = refl

  keeps : {X : Type 0} (f : Object → X) → f (object_effect s.object e now asked).1 ≡ f s.object → f left ≡ f s.object
  keeps f h = of_effect f h (first (object_refusals s.object e now asked))

  pub called_follows : (y : Object) → y ≡ left → Follows s (record s { object = y })
  called_follows y same = record {
    number = refl;
    kind = ap kind_number same ∙ keeps kind_number (call_keeps_kind s.object e now asked);
    pending = λ n h. ap (λ (ks : List ℕ). is_among ks n) (sym pends) ∙ h;
    distinct = λ h. ap are_distinct pends ∙ h;
    waits = λ h. sym waits_as ∙ h;
    alone = λ w h. h;
    nameless = λ w h gone. absurd (there (sym waits_as ∙ w) gone);
  } where
    pends : pending_in y ≡ pending_in s.object
    pends = ap pending_in same ∙ keeps pending_in (call_keeps_pending s.object e now asked)

    waits_as : is_waiting y ≡ is_waiting s.object
    waits_as = ap is_waiting same ∙ keeps is_waiting (call_keeps_waiting s.object e now asked)

  -- made or not
  pub left_follows : (r : Result (Answer × Raised) AllocError) (y : Object) → IfOk r (λ p. (p.0, y, p.1) ≡ attempt (object_refusals s.object e now asked) s.object (object_effect s.object e now asked)) → OnErr r (y ≡ s.object)
      → Follows s (record s { object = y })
  left_follows (Ok p) y ok err = called_follows y (ap (λ (f : Effect Object). f.1) ok)
  left_follows (Err p) y ok err = subst (λ (z : Object). Follows s (record s { object = z })) (sym err) (follows_self s)

-- each object there follows one under its key
abbrev pub AllFollow : List (Option Shared) → List (Option Shared) → Type 0
AllFollow os os1 = (i : ℕ) (t : Shared) → get_or os1 i None ≡ Some t → (s : Shared) × ((get_or os i None ≡ Some s) × Follows s t)

pub all_stand : (w : List (ℕ × ℕ)) (os os1 : List (Option Shared)) (m : ℕ) → AllFollow os os1 → AllStand w os m → AllStand w os1 m
all_stand w os os1 m follow h key t is =
    let f = follow key t is in
    let it = h key f.0 f.1.0 in
    let by = f.1.1 in
    record {
      keyed = λ q. ap (owner_at w) by.number ∙ it.keyed (by.waits q);
      alone = λ q. by.alone q (it.alone (by.waits q));
      nameless = λ q. by.nameless q (it.nameless (by.waits q));
      distinct = by.distinct it.distinct;
      below = λ n among. it.below n (by.pending n among);
      pairs = λ n among i u at num.
          let g = follow i u at in
          g.1.1.kind ∙ it.pairs n (by.pending n among) i g.0 g.1.0 (sym g.1.1.number ∙ num);
    }

-- so what is held stays an instance
pub instances_follow : (ds : List (Option Description)) (os os1 : List (Option Shared)) → AllFollow os os1 → AllInstances ds os → AllInstances ds os1
instances_follow ds os os1 follow h key d is held t at = let f = follow d.object t at in f.1.1.kind ∙ h key d is held f.0 f.1.0

module _ (os : List (Option Shared)) (at : ℕ) (s : Shared) (is : get_or os at None ≡ Some s) where
  within : at < length os
  within = elim (below_or at (length os)) [ inl l ↦ l | inr l ↦ let e : None ≡ Some s = sym (get_or_past os at None l) ∙ is in absurd cc ]

  -- another thing stands under this key, or nothing
  put : (o : Option Shared) → ((t : Shared) → o ≡ Some t → Follows s t) → AllFollow os (slice_set os at o)
  put o f i t e = elim (same_or_not i at) [
    | inl here ↦ (s, (ap (λ (j : ℕ). get_or os j None) here ∙ is, f t (sym (get_or-set_same os at o None within) ∙ (ap (λ (j : ℕ). get_or (slice_set os at o) j None) (sym here) ∙ e))))
    | inr ne ↦ (t, (sym (get_or-set_other os at i o None ne) ∙ e, follows_self t))
  ]

  -- the object changes
  pub kept_follow : (t : Shared) → Follows s t → AllFollow os (slice_set os at (Some t))
  kept_follow t f = put (Some t) (λ x e. let same : t ≡ x = cc in subst (λ (y : Shared). Follows s y) same f)

  -- an end of it closes, and it may go with that
  pub closed_follow : (e : End) → AllFollow os (slice_set os at (closed_slot (Some s) e))
  closed_follow e = put (closed_slot (Some s) e) (by_test (remains s e)) where
    by_test : (b : Bool) (t : Shared) → kept_if b (closed_in s e) ≡ Some t → Follows s t
    by_test false t f = absurd cc
    by_test true t f = let same : closed_in s e ≡ t = cc in subst (λ (y : Shared). Follows s y) same (closed_follows s e)

-- a description more, which none holds, and an object more
pub instances_more : (ds ds1 : List (Option Description)) (os os1 : List (Option Shared)) (key at : ℕ) (d : Description) (s : Shared) → Inserted ds ds1 key d → Inserted os os1 at s → d.holds ≡ 0 → AllBacked ds os → AllInstances ds os → AllInstances ds1 os1
instances_more ds ds1 os os1 key at d s in_ds in_os free backed h i x is held t there = elim (same_or_not i key) [
  | inl here ↦
      let e : d ≡ x = (let y = ap (λ (j : ℕ). get_or ds1 j None) here in let z = in_ds.here in cc) in
      absurd (omega (arith, free, held, ap (λ (y : Description). y.holds) e))
  | inr ne ↦
      let was = sym (in_ds.others i ne) ∙ is in
      let b = backed i x was in
      let apart : x.object ≢ at = λ same. (let y = ap (λ (j : ℕ). get_or os j None) same in let z = in_os.was in let w = b.is in absurd cc) in
      h i x was held t (sym (in_os.others x.object apart) ∙ there)
]

pub instances_another : (ds ds1 : List (Option Description)) (os : List (Option Shared)) (key : ℕ) (d : Description) → Inserted ds ds1 key d → d.holds ≡ 0 → AllInstances ds os → AllInstances ds1 os
instances_another ds ds1 os key d ins free h i x is held = elim (same_or_not i key) [
  | inl here ↦
      let e : d ≡ x = (let y = ap (λ (j : ℕ). get_or ds1 j None) here in let z = ins.here in cc) in
      absurd (omega (arith, free, held, ap (λ (y : Description). y.holds) e))
  | inr ne ↦ h i x (sym (ins.others i ne) ∙ is) held
]

-- and a description less
pub instances_fewer : (ds ds1 : List (Option Description)) (os : List (Option Shared)) → ((i : ℕ) (x : Description) → get_or ds1 i None ≡ Some x → get_or ds i None ≡ Some x) → AllInstances ds os → AllInstances ds1 os
instances_fewer ds ds1 os was h i x is = h i x (was i x is)

-- a description is held by another number of waiters
pub instances_counted : (ds : List (Option Description)) (os : List (Option Shared)) (key : ℕ) (d y : Description) → get_or ds key None ≡ Some d → y.object ≡ d.object
    → (0 < y.holds → (t : Shared) → get_or os d.object None ≡ Some t → kind_number t.object ≡ 5) → AllInstances ds os → AllInstances (slice_set ds key (Some y)) os
instances_counted ds os key d y is same only h i x at held t there = elim (same_or_not i key) [
  | inl here ↦
      let l : key < length ds = elim (below_or key (length ds)) [ inl l ↦ l | inr l ↦ let e : None ≡ Some d = sym (get_or_past ds key None l) ∙ is in absurd cc ] in
      let e : y ≡ x = (let p = get_or-set_same ds key (Some y) None l in let q = ap (λ (j : ℕ). get_or (slice_set ds key (Some y)) j None) here in cc) in
      only (omega (arith, held, ap (λ (z : Description). z.holds) e)) t (ap (λ (j : ℕ). get_or os j None) (sym same ∙ ap (λ (z : Description). z.object) e) ∙ there)
  | inr ne ↦ h i x (sym (get_or-set_other ds key i (Some y) None ne) ∙ at) held t there
]

module _ (w : List (ℕ × ℕ)) (os : List (Option Shared)) (m : ℕ) (h : AllStand w os m) where
  -- an object more, by which nothing waits
  pub stand_more : (os1 : List (Option Shared)) (at : ℕ) (s : Shared) → Inserted os os1 at s → s.number ≡ m → is_waiting s.object ≡ false → pending_in s.object ≡ [] → AllStand w os1 (m + 1)
  stand_more os1 at s ins num quiet none key t is = elim (same_or_not key at) [
    | inl here ↦
        let e : s ≡ t = (let y = ap (λ (j : ℕ). get_or os1 j None) here in let z = ins.here in cc) in
        subst (λ (y : Shared). Stands w os1 (m + 1) key y) e new
    | inr ne ↦
        let it = h key t (sym (ins.others key ne) ∙ is) in
        record {
          keyed = it.keyed;
          alone = it.alone;
          nameless = it.nameless;
          distinct = it.distinct;
          below = λ n among. omega (arith, it.below n among);
          pairs = λ n among i u q number. elim (same_or_not i at) [
            | inl to ↦
                let e : s ≡ u = (let y = ap (λ (j : ℕ). get_or os1 j None) to in let z = ins.here in cc) in
                let k : u.number ≡ m = ap (λ (y : Shared). y.number) (sym e) ∙ num in
                absurd (omega (arith, it.below n among, k, number))
            | inr off ↦ it.pairs n among i u (sym (ins.others i off) ∙ q) number
          ];
        }
  ] where
    waits_not : is_waiting s.object ≡ true → ⊥
    waits_not q = false≢true (sym quiet ∙ q)

    among_none : (n : ℕ) → is_among (pending_in s.object) n ≡ true → ⊥
    among_none n q = false≢true (ap (λ (ks : List ℕ). is_among ks n) (sym none) ∙ q)

    new : Stands w os1 (m + 1) key s
    new = record {
      keyed = λ q. absurd (waits_not q);
      alone = λ q. absurd (waits_not q);
      nameless = λ q. absurd (waits_not q);
      distinct = ap are_distinct none;
      below = λ n q. absurd (among_none n q);
      pairs = λ n q. absurd (among_none n q);
    }

  -- the key of one that waits no more is forgotten
  pub stand_less : (v : List (ℕ × ℕ)) (n : ℕ) → ((j : ℕ) → owner_at v j ≡ (if n == j then None else owner_at w j))
      → ((key : ℕ) (s : Shared) → get_or os key None ≡ Some s → s.number ≡ n → is_waiting s.object ≡ false) → AllStand v os m
  stand_less v n less none key s is =
      let it = h key s is in
      record {
        keyed = λ q.
            let ne : n ≢ s.number = λ e. false≢true (sym (none key s is (sym e)) ∙ q) in
            less s.number ∙ (ap (λ (b : Bool). if b then None else owner_at w s.number) (test_apart n s.number ne) ∙ it.keyed q);
        alone = it.alone;
        nameless = it.nameless;
        distinct = it.distinct;
        below = it.below;
        pairs = it.pairs;
      }
