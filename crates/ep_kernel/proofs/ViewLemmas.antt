-- The registration under a key, as the machine has it.
use Rattle.ep_law.proofs.GraphLemmas.{member_of_map}
use Rattle.std.proofs.Common.{◌≡◌, ◌∙◌, ◌==◌, ◌&&◌, ◌||◌, ℕ, Bool, true, false, not, IsSome, List, [], ◌∷◌, None, Option, Some, ap, arith, bit_and, cond, filter, inl, inr, map, nat_eq, nat_lt, refl, subst, sym}
use Rattle.std.proofs.lemmas.Bool.{cases_Bool, false≢true}
use Rattle.std.proofs.lemmas.Bool.Decides.{nat_tests}
use Rattle.std.proofs.lemmas.Nat.{and_assoc, and_comm}
use Rattle.ep_base.specs.declared.ids.EntryId.{EntryId}
use Rattle.ep_calls.proofs.EntryKeyLemmas.{each_keyed, id_is}
use Rattle.ep_calls.proofs.FindLemmas.{each_numbered}
use Rattle.ep_calls.specs.Ids.{KeepsIds}
use Rattle.ep_calls.specs.Stands.{watch_at}
use Rattle.ep_interest.proofs.PurgeLemmas.{numbered_number}
use Rattle.ep_interest.specs.Passes.{has_id, key_numbers}
use Rattle.ep_interest.specs.Registrations.{IsSound, Registrations, entry_found, entry_under, id_of, ids, number_under, numbered}
use Rattle.ep_interest.specs.declared.entry.Entry.{Entry}
use Rattle.ep_kernel.proofs.EntryLemmas.{is_under}
use Rattle.ep_law.proofs.ListLemmas.{all_member, any_has, any_member, filtered_member, filtered_passes, member_filter, member_map}
use Rattle.ep_law.specs.Laws.{Member}
use Rattle.ep_machine.specs.Bits.{ERR, HUP, IN, OUT, RDHUP, asked, has_bit, union}
use Rattle.ep_machine.specs.Counts.{brings, every_shown_bit}
use Rattle.ep_rings.specs.KeyWalk.{entry_id}
use Rattle.ep_view.specs.KernelView.{KernelWatch}
use Rattle.std.proofs.lemmas.List.Elements.{All-from_recursion}
use Rattle.ep_facts.proofs.NatFacts.{from_test, same_test}
use Rattle.ep_facts.proofs.OptionFacts.{none_is_some, some_same}
use Rattle.ep_facts.proofs.BoolFacts.{same_bools}

-- Members.

some_found : (o : Option Entry) → IsSome o → (x : Entry) × (o ≡ Some x)
some_found None h = absurd (false≢true h)
some_found (Some x) h = (x, refl)

-- what asks for IN is what IN brings something to
pub brings_asked : (mask : ℕ) → brings mask IN ≡ nat_lt 0 (asked mask IN)
brings_asked mask =
    let all = union (mask ∷ ERR ∷ HUP ∷ []) in
    let wanted = asked mask every_shown_bit in
    let one : bit_and wanted IN ≡ bit_and IN all = ap (λ (n : ℕ). bit_and n IN) (and_comm every_shown_bit all) ∙ (and_assoc IN all every_shown_bit ∙ and_comm all IN) in
    only (has_bit wanted IN) (has_bit wanted OUT) (has_bit wanted ERR) (has_bit wanted HUP) (has_bit wanted RDHUP) ∙ (ap (λ (n : ℕ). not (n == 0)) one ∙ positive (bit_and IN all)) where
      only : (a b c d e : Bool) → (a && true || b && false || c && false || d && false || e && false) ≡ a
      only true b c d e = refl
      only false true true true true = refl
      only false true true true false = refl
      only false true true false true = refl
      only false true true false false = refl
      only false true false true true = refl
      only false true false true false = refl
      only false true false false true = refl
      only false true false false false = refl
      only false false true true true = refl
      only false false true true false = refl
      only false false true false true = refl
      only false false true false false = refl
      only false false false true true = refl
      only false false false true false = refl
      only false false false false true = refl
      only false false false false false = refl

      positive : (n : ℕ) → not (n == 0) ≡ nat_lt 0 n
      positive n = grind (arith, nat_tests)

-- under key k stands the registration w
pub record Views (keys : List (Option ℕ)) (r : Registrations) (k : ℕ) (w : KernelWatch) : Type 0 where
  pub x : Entry
  pub under : entry_under r (entry_id k) ≡ Some x
  pub is : watch_at keys x ≡ w

module _ (keys : List (Option ℕ)) (r : Registrations) where
  pub entry_views : (k : ℕ) (x : Entry) → entry_under r (entry_id k) ≡ Some x → Views keys r k (watch_at keys x)
  entry_views k x h = record { x = x; under = h; is = refl }

  pub view_number : (k : ℕ) (w : KernelWatch) → Views keys r k w → number_under r (entry_id k) ≡ Some w.number
  view_number k w v = (is_under r (entry_id k) v.x v.under).number ∙ ap (λ (u : KernelWatch). Some u.number) v.is

  pub one_view : (k : ℕ) (v w : KernelWatch) → Views keys r k v → Views keys r k w → v ≡ w
  one_view k v w a b = sym a.is ∙ (ap (watch_at keys) (some_same a.x b.x (sym a.under ∙ b.under)) ∙ b.is)

  pub find_entry : (xs : List Entry) (n : ℕ) (x : Entry) → numbered xs n ≡ Some x → Member x xs
  find_entry [] n x h = absurd (cc)
  find_entry (y ∷ ys) n x h = elim (cases_Bool (y.number == n)) [
    | inl t ↦ inl (some_same x y (sym h ∙ ap (λ (b : Bool). cond b (Some y) (numbered ys n)) t))
    | inr f ↦ inr (find_entry ys n x (sym (ap (λ (b : Bool). cond b (Some y) (numbered ys n)) f) ∙ h))
  ]

  pub view_member : (k : ℕ) (w : KernelWatch) → Views keys r k w → Member w (map (watch_at keys) r.entries)
  view_member k w v = subst (λ (u : KernelWatch). Member u (map (watch_at keys) r.entries)) v.is (member_map (watch_at keys) v.x r.entries (find_entry r.entries v.x.number v.x (is_under r (entry_id k) v.x v.under).there))

  module _ (sound : IsSound r) where
    found : (x : Entry) → Member x r.entries → numbered r.entries x.number ≡ Some x
    found x m = all_member (λ (y : Entry). numbered r.entries y.number ≡ Some y) r.entries x (All-from_recursion (λ (y : Entry). numbered r.entries y.number ≡ Some y) r.entries (each_numbered 0 r.entries sound.rises)) m

    pub view_at : (k : ℕ) (w : KernelWatch) → Member w (map (watch_at keys) r.entries) → number_under r (entry_id k) ≡ Some w.number → Views keys r k w
    view_at k w m h =
        let y = member_of_map (watch_at keys) r.entries w m in
        let number : y.0.number ≡ w.number = ap (λ (u : KernelWatch). u.number) y.2 in
        record { x = y.0; under = ap (entry_found r.entries) h ∙ (ap (numbered r.entries) (sym number) ∙ found y.0 y.1); is = y.2 }

    pub view_of : (w : KernelWatch) → Member w (map (watch_at keys) r.entries) → (k : ℕ) × Views keys r k w
    view_of w m =
        let y = member_of_map (watch_at keys) r.entries w m in
        let number : y.0.number ≡ w.number = ap (λ (u : KernelWatch). u.number) y.2 in
        let key = sound.has_one y.0.number y.0 (found y.0 y.1) in
        (key.0.0, view_at key.0.0 w m (key.1 ∙ ap (λ (n : ℕ). Some n) number))

    -- a number has one key
    pub one_key : (j k : ℕ) (v w : KernelWatch) → Views keys r j v → Views keys r k w → v.number ≡ w.number → j ≡ k
    one_key j k v w a b e = ap (λ (id : EntryId). id.0) (sound.one_key (entry_id j) (entry_id k) w.number (view_number j v a ∙ ap (λ (n : ℕ). Some n) e) (view_number k w b))

    pub some_entry : (k n : ℕ) → number_under r (entry_id k) ≡ Some n → (x : Entry) × (entry_under r (entry_id k) ≡ Some x) × (x.number ≡ n)
    some_entry k n h =
        let f = some_found (numbered r.entries n) (sound.keyed (entry_id k) n h) in
        (f.0, ap (entry_found r.entries) h ∙ f.1, numbered_number r.entries n f.0 f.1)

    -- whether the key of a registration is among those of the registrations that pass a test
    pub among_ids : (q : Entry → Bool) (k : ℕ) (x : Entry) → entry_under r (entry_id k) ≡ Some x → has_id (ids r (filter q r.entries)) k ≡ q x
    among_ids q k x h = same_bools _ _ there back where
      under : number_under r (entry_id k) ≡ Some x.number
      under = (is_under r (entry_id k) x h).number

      there : has_id (ids r (filter q r.entries)) k ≡ true → q x ≡ true
      there t =
          let m = any_member (nat_eq k) (key_numbers (ids r (filter q r.entries))) t in
          let i = member_of_map (λ (id : EntryId). id.0) (ids r (filter q r.entries)) m.0 m.1 in
          let y = member_of_map (λ (z : Entry). id_of r z.number) (filter q r.entries) i.0 i.1 in
          let key : k ≡ (id_of r y.0.number).0 = from_test k m.0 m.2 ∙ (sym i.2 ∙ ap (λ (id : EntryId). id.0) (sym y.2)) in
          let in_all = filtered_member q r.entries y.0 y.1 in
          let keyed : number_under r (id_of r y.0.number) ≡ Some y.0.number = all_member (λ (z : Entry). number_under r (id_of r z.number) ≡ Some z.number) r.entries y.0 (each_keyed r sound) in_all in
          let same : entry_under r (entry_id k) ≡ Some y.0 = ap (λ (j : ℕ). entry_under r (entry_id j)) key ∙ (ap (entry_found r.entries) keyed ∙ found y.0 in_all) in
          ap q (some_same x y.0 (sym h ∙ same)) ∙ filtered_passes q r.entries y.0 y.1

      back : q x ≡ true → has_id (ids r (filter q r.entries)) k ≡ true
      back t =
          let m = member_filter q x r.entries (find_entry r.entries x.number x (is_under r (entry_id k) x h).there) t in
          let i = member_map (λ (id : EntryId). id.0) (id_of r x.number) (ids r (filter q r.entries)) (member_map (λ (z : Entry). id_of r z.number) x (filter q r.entries) m) in
          any_has (nat_eq k) (key_numbers (ids r (filter q r.entries))) (id_of r x.number).0 i
          (same_test k (id_of r x.number).0 (ap (λ (id : EntryId). id.0) (sym (id_is r sound (entry_id k) x.number under))))

-- What registrations become: those that pass the test stay, each changed, under their keys.
module _ (olds news : List (Option ℕ)) (r q : Registrations) (was : IsSound r) (is : IsSound q) (p : KernelWatch → Bool) (f : KernelWatch → KernelWatch) (number : (w : KernelWatch) → (f w).number ≡ w.number)
    (watches : map (watch_at news) q.entries ≡ map f (filter p (map (watch_at olds) r.entries))) (keeps : KeepsIds r q) where
  pub back : (k : ℕ) (w : KernelWatch) → Views news q k w → (v : KernelWatch) × Views olds r k v × (p v ≡ true) × (w ≡ f v)
  back k w h =
      let m = subst (Member w) watches (view_member news q k w h) in
      let v = member_of_map f (filter p (map (watch_at olds) r.entries)) w m in
      let numbers : w.number ≡ v.0.number = ap (λ (u : KernelWatch). u.number) (sym v.2) ∙ number v.0 in
      let now = view_number news q k w h in
      let before : number_under r (entry_id k) ≡ Some w.number = elim (keeps (entry_id k)) [ inl none ↦ absurd (none_is_some w.number _ none now) | inr same ↦ sym same ∙ now ] in
      (v.0, view_at olds r was k v.0 (filtered_member p (map (watch_at olds) r.entries) v.0 v.1) (before ∙ ap (λ (n : ℕ). Some n) numbers), filtered_passes p (map (watch_at olds) r.entries) v.0 v.1, sym v.2)

  pub forth : (k : ℕ) (v : KernelWatch) → Views olds r k v → p v ≡ true → Views news q k (f v)
  forth k v h t =
      let m : Member (f v) (map (watch_at news) q.entries) = subst (Member (f v)) (sym watches) (member_map f v (filter p (map (watch_at olds) r.entries)) (member_filter p v (map (watch_at olds) r.entries) (view_member olds r k v h) t)) in
      let new = view_of news q is (f v) m in
      let old = back new.0 (f v) new.1 in
      let numbers : old.0.number ≡ v.number = sym (number old.0) ∙ (ap (λ (u : KernelWatch). u.number) (sym old.3) ∙ number v) in
      let same = one_key olds r was new.0 k old.0 v old.1 h numbers in
      subst (λ (j : ℕ). Views news q j (f v)) same new.1
