-- Lists from which some leave, while all else stays.
use Rattle.std.proofs.Common.{◌≡◌, ◌≢◌, ◌≤◌, ◌<◌, ◌∙◌, ◌==◌, ◌&&◌, ℕ, Bool, true, false, List, [], ◌∷◌, None, Option, Some, ap, arith, cond, filter, inl, inr, length, not, refl, sym, unwrap_or}
use Rattle.std.proofs.lemmas.Bool.{cases_Bool, cases_eq, false≢true}
use Rattle.std.proofs.lemmas.List.{get_or-set_other, get_or-set_same}
use Rattle.std.proofs.Math.Bool.{and-false}
use Rattle.ep_facts.proofs.NatFacts.{same_nat, test_apart}
use Rattle.ep_facts.proofs.ListFacts.{filter_two}
use Rattle.ep_base.specs.declared.ids.EntryId.{EntryId}
use Rattle.ep_calls.specs.Parts.{Parts}
use Rattle.ep_kernel.specs.Listed.{HopesFor, key_shows}
use Rattle.ep_kernel.specs.Readiness.{Prunes}
use Rattle.ep_law.proofs.ListLemmas.{among, among_member, member_filter}
use Rattle.ep_machine.specs.Lists.{is_among}
use Rattle.ep_rings.specs.KeyWalk.{entry_id}
use Rattle.ep_ready.specs.ReadyLists.{IsSound as AreSound, Lists, after_removal, front_in, instance_at, list_at, removal_by, stands, stands_by, with_list}
use Rattle.ep_rings.proofs.AmongLemmas.{filter_gone}

-- Lists of keys.
all_kept : (xs : List ℕ) → xs ≡ filter (λ k. true) xs
all_kept [] = refl
all_kept (x ∷ xs) = ap (λ (ys : List ℕ). x ∷ ys) (all_kept xs)

no_longer : (f : ℕ → Bool) (xs : List ℕ) → length (filter f xs) ≤ length xs
no_longer f [] = omega arith
no_longer f (x ∷ xs) = with_one (f x) (no_longer f xs) where
  with_one : (b : Bool) → length (filter f xs) ≤ length xs → length (cond b (x ∷ filter f xs) (filter f xs)) ≤ length (x ∷ xs)
  with_one true rest = omega (arith, rest)
  with_one false rest = omega (arith, rest)

-- a list whose first leaves is shorter
pub shorter : (f : ℕ → Bool) (x : ℕ) (xs : List ℕ) → f x ≡ false → length (filter f (x ∷ xs)) < length (x ∷ xs)
shorter f x xs leaves =
    let rest = no_longer f xs in
    let is : length (filter f (x ∷ xs)) ≡ length (filter f xs) = ap (λ (b : Bool). length (cond b (x ∷ filter f xs) (filter f xs))) leaves in
    omega (arith, rest, is)

pub front_is : (ks : List ℕ) (id : EntryId) → front_in ks ≡ Some id → (rest : List ℕ) × (ks ≡ id.0 ∷ rest)
front_is [] id h = absurd (cc)
front_is (k ∷ ks) id h = (ks, ap (λ (o : Option EntryId). (unwrap_or o id).0 ∷ ks) h)

pub front_none : (ks : List ℕ) → front_in ks ≡ None → ks ≡ []
front_none [] h = refl
front_none (k ∷ ks) h = absurd (cc)

pub prunes_none : (l : Lists) → Prunes l l
prunes_none l = record { keeps = λ k. true; places = λ id. refl; lists = λ i. all_kept (list_at l i) }

pub prunes_both : (old mid new : Lists) → Prunes old mid → Prunes mid new → Prunes old new
prunes_both old mid new a b = record {
  keeps = λ k. a.keeps k && b.keeps k;
  places = λ id. b.places id ∙ a.places id;
  lists = λ i. b.lists i ∙ (ap (filter b.keeps) (a.lists i) ∙ filter_two a.keeps b.keeps (list_at old i));
}

-- what stays, stands
pub stands_left : (l m : Lists) (keeps : ℕ → Bool) (k : ℕ) → instance_at m (entry_id k) ≡ instance_at l (entry_id k) → ((i : ℕ) → list_at m i ≡ filter keeps (list_at l i)) → keeps k ≡ true → stands l (entry_id k) ≡ true → stands m (entry_id k) ≡ true
stands_left l m keeps k place lists stays t = ap (stands_by m k) place ∙ at (instance_at l (entry_id k)) t where
  at : (o : Option ℕ) → stands_by l k o ≡ true → stands_by m k o ≡ true
  at None s = s
  at (Some i) s = ap (λ (ks : List ℕ). is_among ks k) (lists i) ∙ among k (filter keeps (list_at l i)) (member_filter keeps k (list_at l i) (among_member (list_at l i) k s) stays)

-- One leaves.
module _ (l : Lists) (sound : AreSound l) (id : EntryId) where
  abbrev pub stays : ℕ → Bool
  stays k = not (k == id.0)

  not_on : (j : ℕ) → (instance_at l id ≡ Some j → ⊥) → is_among (list_at l j) id.0 ≡ false
  not_on j other = elim (cases_Bool (is_among (list_at l j) id.0)) [
    | inl on ↦ absurd (other (sound.own j id on))
    | inr off ↦ off
  ]

  same_place : (o : Option ℕ) (k : EntryId) → instance_at (removal_by l id.0 o) k ≡ instance_at l k
  same_place None k = refl
  same_place (Some i) k = refl

  lists_by : (o : Option ℕ) → instance_at l id ≡ o → (j : ℕ) → list_at (removal_by l id.0 o) j ≡ filter stays (list_at l j)
  lists_by None at j = sym (filter_gone (list_at l j) id.0 (not_on j (λ h. let no : None ≡ Some j = sym at ∙ h in cc)))
  lists_by (Some i) at j = elim (cases_eq j i) [
    | inl is ↦ ap (list_at (with_list l i (filter stays (list_at l i)))) is ∙ (get_or-set_same l.lists i (filter stays (list_at l i)) [] (sound.within id i at) ∙ ap (λ (n : ℕ). filter stays (list_at l n)) (sym is))
    | inr ne ↦
        get_or-set_other l.lists i j (filter stays (list_at l i)) [] ne
        ∙ sym (filter_gone (list_at l j) id.0 (not_on j (λ h. let one : Some i ≡ Some j = sym at ∙ h in ne (sym (ap (λ (o : Option ℕ). unwrap_or o i) one)))))
  ]

  pub prunes_one : (m : Lists) → m ≡ after_removal l id → Prunes l m
  prunes_one m is = record {
    keeps = stays;
    places = λ k. ap (λ (n : Lists). instance_at n k) is ∙ same_place (instance_at l id) k;
    lists = λ j. ap (λ (n : Lists). list_at n j) is ∙ lists_by (instance_at l id) refl j;
  }

  pub leaves_one : stays id.0 ≡ false
  leaves_one = ap not (same_nat id.0)

  -- what is not reportable may leave the hopes
  pub hopes_left : (p : Parts) (m : Lists) → m ≡ after_removal l id → HopesFor p l → key_shows p id.0 ≡ false → HopesFor p m
  unfolding prunes_one
  hopes_left p m is hopes hides =
      let prunes = prunes_one m is in
      record {
        places = λ k. prunes.places k ∙ hopes.places k;
        complete = λ k shows.
            let other : k ≢ id.0 = λ e. false≢true (sym hides ∙ (ap (key_shows p) (sym e) ∙ shows)) in
            stands_left l m stays k (prunes.places (entry_id k)) prunes.lists (ap not (test_apart k id.0 other)) (hopes.complete k shows);
      }

-- the list of the first is shorter without it, whatever else left it
pub shorter_without : (old mid new : Lists) (sound : AreSound mid) (id : EntryId) (i : ℕ) (rest : List ℕ) → list_at old i ≡ id.0 ∷ rest → Prunes old mid → new ≡ after_removal mid id → length (list_at new i) < length (list_at old i)
unfolding prunes_both prunes_one
shorter_without old mid new sound id i rest front prunes is =
    let both = prunes_both old mid new prunes (prunes_one mid sound id new is) in
    let goes : both.keeps id.0 ≡ false = ap (λ (b : Bool). prunes.keeps id.0 && b) (leaves_one mid sound id) ∙ and-false (prunes.keeps id.0) in
    let less = shorter both.keeps id.0 rest goes in
    let now : length (list_at new i) ≡ length (filter both.keeps (id.0 ∷ rest)) = ap length (both.lists i ∙ ap (filter both.keeps) front) in
    let was : length (list_at old i) ≡ length (id.0 ∷ rest) = ap length front in
    omega (arith, less, now, was)
