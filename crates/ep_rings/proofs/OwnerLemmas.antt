-- The rows of all owners, once a key joins one or leaves it.
use Rattle.std.proofs.Common.{◌≡◌, ◌≢◌, ◌⊎◌, ℕ, zero, suc, ◌<◌, ◌≤◌, ◌==◌, Bool, true, false, cond, not, All, Contains, List, [], ◌∷◌, ◌++◌, length, filter, get_or, nat_eq, replicate, Option, Some, None, IfSome, nat_lt, refl, sym, ap, subst, unwrap_or, ◌∙◌, inl, inr, arith, if◌then◌else◌}
use Rattle.std.proofs.lemmas.Bool.{cases_eq, cases_lt}
use Rattle.std.proofs.lemmas.List.{get_or_append_left, get_or_past, get_or_read, length-append}
use Rattle.std.proofs.lemmas.List.Elements.{All-contains, All-filter, All-head, All-tail, All-push, All-weaker}
use Rattle.ep_facts.proofs.NatFacts.{same_test, test_apart}
use Rattle.ep_rings.specs.Ring.{walk}
use Rattle.ep_rings.proofs.AmongLemmas.{filter_apart}
use Rattle.ep_rings.specs.Circles.{AreCircles, AreRows, CanJoin, CanLeave, IsCircle, Joins, Leaves, Whose, keys_in, lengthened, own_head, row_of, shortened, with_head}
use Rattle.ep_rings.specs.Links.{Joined, next_of, no_link, prev_of}
use Rattle.ep_rings.specs.declared.circle.Circle.{Circle}
use Rattle.ep_rings.specs.declared.link.Link.{Link}
use Rattle.ep_rings.specs.KeyWalk.{AreLinked}
use Rattle.ep_rings.proofs.CircleLemmas.{alone, begins, circle_kept, circle_left, ends, few, first_there, joined_last, joined_new, keys_are, last_of, next_there, prev_there}

-- the walks along the circles give the rows
pub rows_are : (next prev : ℕ → ℕ) (circle : ℕ → Option Circle) (many : ℕ) (row : ℕ → List ℕ) → AreRows next prev circle many row → (i : ℕ) → keys_in next (circle i) ≡ row i
rows_are next prev circle many row h i = keys_are next prev (circle i) (row i) (h.circles i)

pub rows_walked : (next prev : ℕ → ℕ) (circle : ℕ → Option Circle) (many : ℕ) (row : ℕ → List ℕ) → AreRows next prev circle many row → AreRows next prev circle many (λ i. keys_in next (circle i))
rows_walked next prev circle many row h =
    let e : row ≡ (λ i. keys_in next (circle i)) = (λ t i. sym (rows_are next prev circle many row h i) t) in
    subst (AreRows next prev circle many) e h

-- another owner has no key of this one
pub none_of : (row : ℕ → List ℕ) → ((i j : ℕ) → i ≢ j → All (λ k. All (λ l. l ≢ k) (row j)) (row i)) → (o i z : ℕ) → o ≢ i → Contains (row o) z → All (λ x. x ≢ z) (row i)
none_of row apart o i z ne c = All-contains (λ k. All (λ l. l ≢ k) (row i)) (row o) z (apart o i ne) c

both : (xs : List ℕ) (a b : ℕ) → All (λ x. x ≢ a) xs → All (λ x. x ≢ b) xs → (f g : ℕ → ℕ) → ((z : ℕ) → z ≢ a → z ≢ b → f z ≡ g z) → All (λ x. f x ≡ g x) xs
both xs a b h k f g same i d lt = same (get_or xs i d) (h i d lt) (k i d lt)

one : (xs : List ℕ) (a : ℕ) → All (λ x. x ≢ a) xs → (f g : ℕ → ℕ) → ((z : ℕ) → z ≢ a → f z ≡ g z) → All (λ x. f x ≡ g x) xs
one xs a h f g same i d lt = same (get_or xs i d) (h i d lt)

at_other : (row : ℕ → List ℕ) (o k i : ℕ) → o ≢ i → (if nat_eq o i then row i ++ k ∷ [] else row i) ≡ row i
at_other row o k i ne = ap (λ (b : Bool). cond b (row i ++ k ∷ []) (row i)) (test_apart o i ne)

at_own : (row : ℕ → List ℕ) (o k i : ℕ) → o ≡ i → (if nat_eq o i then row i ++ k ∷ [] else row i) ≡ row i ++ k ∷ []
at_own row o k i e = ap (λ (b : Bool). cond b (row i ++ k ∷ []) (row i)) (same_test o i e)

-- what holds of an owner's keys and of the one that joins
All_joined : (P : ℕ → Type 0) (row : ℕ → List ℕ) (o k i : ℕ) → All P (row i) → P k → All P (if nat_eq o i then row i ++ k ∷ [] else row i)
All_joined P row o k i h p = elim (nat_eq o i) as (λ b. All P (cond b (row i ++ k ∷ []) (row i))) [ true ↦ All-push P (row i) k h p | false ↦ h ]

-- A key that joins the end of a row.
module _ (s0 : List Link) (circle : ℕ → Option Circle) (many : ℕ) (row : ℕ → List ℕ) (h : AreRows (next_of s0) (prev_of s0) circle many row) (o k : ℕ) (fresh : (i : ℕ) → All (λ x. x ≢ k) (row i)) where
  abbrev first : ℕ
  first = (lengthened k (circle o)).first

  abbrev last : ℕ
  last = last_of (next_of s0) (prev_of s0) first k

  first_is : (Contains (row o) first) ⊎ (first ≡ k)
  first_is = begins (next_of s0) (prev_of s0) (circle o) (row o) k (h.circles o)

  last_is : (Contains (row o) last) ⊎ (last ≡ k)
  last_is = ends (next_of s0) (prev_of s0) (circle o) (row o) k (h.circles o)

  below : k < many → (z : ℕ) → (Contains (row o) z) ⊎ (z ≡ k) → z < many
  below lt z (inl c) = All-contains (λ x. x < many) (row o) z (h.within o) c
  below lt z (inr e) = subst (λ (x : ℕ). x < many) (sym e) lt

  first_below : k < many → first < many
  first_below lt = below lt first first_is

  last_below : k < many → last < many
  last_below lt = below lt last last_is

  apart_from : (i z : ℕ) → o ≢ i → (Contains (row o) z) ⊎ (z ≡ k) → All (λ x. x ≢ z) (row i)
  apart_from i z ne (inl c) = none_of row h.apart o i z ne c
  apart_from i z ne (inr e) = subst (λ (y : ℕ). All (λ x. x ≢ y) (row i)) (sym e) (fresh i)

  module _ (s1 s2 : List Link) (a : Joined s0 s1 last k) (b : Joined s1 s2 k first) (after : ℕ → Option Circle) (circles : (i : ℕ) → after i ≡ (if nat_eq o i then Some (lengthened k (circle o)) else circle i)) where
    next_else : (z : ℕ) → z ≢ last → z ≢ k → next_of s2 z ≡ next_of s0 z
    next_else z n m = b.next_else z m ∙ a.next_else z n

    prev_else : (z : ℕ) → z ≢ k → z ≢ first → prev_of s2 z ≡ prev_of s0 z
    prev_else z n m = b.prev_else z m ∙ a.prev_else z n

    own_joined : (c : Option Circle) (xs : List ℕ) → circle o ≡ c → row o ≡ xs → IsCircle (next_of s2) (prev_of s2) (Some (lengthened k c)) (xs ++ k ∷ [])
    own_joined None xs e f =
        let begin : first ≡ k = ap (λ (c : Option Circle). (lengthened k c).first) e in
        joined_new (next_of s0) (prev_of s0) (next_of s2) (prev_of s2) k xs (sym f ∙ subst (λ (c : Option Circle). IsCircle (next_of s0) (prev_of s0) c (row o)) e (h.circles o))
        (b.next_here ∙ begin)
        (ap (prev_of s2) (sym begin) ∙ b.prev_here)
    own_joined (Some t) xs e f =
        let begin : first ≡ t.first = ap (λ (c : Option Circle). (lengthened k c).first) e in
        let there : IsCircle (next_of s0) (prev_of s0) (Some t) xs = subst (λ (ys : List ℕ). IsCircle (next_of s0) (prev_of s0) (Some t) ys) f (subst (λ (c : Option Circle). IsCircle (next_of s0) (prev_of s0) c (row o)) e (h.circles o)) in
        let new = subst (λ (ys : List ℕ). All (λ x. x ≢ k) ys) f (fresh o) in
        let ahead : t.first ≢ k = All-head (λ x. x ≢ k) t.first there.0 (subst (λ (ys : List ℕ). All (λ x. x ≢ k) ys) there.1 new) in
        let is : last ≡ prev_of s0 t.first = ap (λ z. last_of (next_of s0) (prev_of s0) z k) begin ∙ ap (λ (c : Bool). cond c t.first (prev_of s0 t.first)) (test_apart t.first k ahead) in
        let behind : last ≢ k = (λ g. All-contains (λ x. x ≢ k) xs (prev_of s0 t.first) new (prev_there (next_of s0) (prev_of s0) (Some t) xs t.first there (first_there (next_of s0) (prev_of s0) t xs there)) (sym is ∙ g)) in
        joined_last (next_of s0) (prev_of s0) (next_of s2) (prev_of s2) k t xs last there new is
        (b.next_else last behind ∙ a.next_here)
        (b.next_here ∙ begin)
        (b.prev_else k (λ g. ahead (sym begin ∙ sym g)) ∙ a.prev_here)
        (ap (prev_of s2) (sym begin) ∙ b.prev_here)
        next_else
        (λ z n m. prev_else z n (λ g. m (g ∙ begin)))

    circles_joined : (i : ℕ) → IsCircle (next_of s2) (prev_of s2) (after i) (if nat_eq o i then row i ++ k ∷ [] else row i)
    circles_joined i = elim (cases_eq o i) [
      | inl e ↦
          let now : after i ≡ Some (lengthened k (circle i)) = circles i ∙ (ap (λ (b : Bool). cond b (Some (lengthened k (circle o))) (circle i)) (same_test o i e) ∙ ap (λ j. Some (lengthened k (circle j))) e) in
          rw (now, at_own row o k i e) (own_joined (circle i) (row i) (ap circle e) (ap row e))
      | inr ne ↦
          let now : after i ≡ circle i = circles i ∙ ap (λ (b : Bool). cond b (Some (lengthened k (circle o))) (circle i)) (test_apart o i ne) in
          let f = apart_from i first ne first_is in let l = apart_from i last ne last_is in
          rw (now, at_other row o k i ne) (circle_kept (next_of s0) (prev_of s0) (next_of s2) (prev_of s2) (circle i) (row i) (h.circles i) (both (row i) last k l (fresh i) (next_of s2) (next_of s0) next_else) (both (row i) k first (fresh i) f (prev_of s2) (prev_of s0) prev_else))
    ]

    apart_joined : (i j : ℕ) → i ≢ j → All (λ x. All (λ y. y ≢ x) (if nat_eq o j then row j ++ k ∷ [] else row j)) (if nat_eq o i then row i ++ k ∷ [] else row i)
    apart_joined i j ne =
        let old : All (λ x. All (λ y. y ≢ x) (if nat_eq o j then row j ++ k ∷ [] else row j)) (row i) = (λ z d lt. All_joined (λ y. y ≢ get_or (row i) z d) row o k j (h.apart i j ne z d lt) (λ g. fresh i z d lt (sym g))) in
        elim (cases_eq o i) [
          | inl e ↦
              let other : o ≢ j = (λ g. ne (sym e ∙ g)) in
              let last : All (λ y. y ≢ k) (if nat_eq o j then row j ++ k ∷ [] else row j) = rw (at_other row o k j other) (fresh j) in
              rw (at_own row o k i e) (All-push (λ x. All (λ y. y ≢ x) (if nat_eq o j then row j ++ k ∷ [] else row j)) (row i) k old last)
          | inr other ↦ rw (at_other row o k i other) old
        ]

    rows_joined : k < many → AreRows (next_of s2) (prev_of s2) after many (λ i. if nat_eq o i then row i ++ k ∷ [] else row i)
    rows_joined lt = record {
      circles = circles_joined;
      within = λ i. All_joined (λ x. x < many) row o k i (h.within i) lt;
      apart = apart_joined;
    }

-- A key that leaves its row.
module _ (s0 s1 : List Link) (circle after : ℕ → Option Circle) (many : ℕ) (row : ℕ → List ℕ) (h : AreRows (next_of s0) (prev_of s0) circle many row) (o k : ℕ) (there : Contains (row o) k) where
  next_below : next_of s0 k < many
  next_below = All-contains (λ x. x < many) (row o) (next_of s0 k) (h.within o) (next_there (next_of s0) (prev_of s0) (circle o) (row o) k (h.circles o) there)

  prev_below : prev_of s0 k < many
  prev_below = All-contains (λ x. x < many) (row o) (prev_of s0 k) (h.within o) (prev_there (next_of s0) (prev_of s0) (circle o) (row o) k (h.circles o) there)

  key_below : k < many
  key_below = All-contains (λ x. x < many) (row o) k (h.within o) there

  alone_there : IfSome (circle o) (λ c. nat_lt 1 c.len ≡ not (k == next_of s0 k))
  alone_there = alone (next_of s0) (prev_of s0) (circle o) (row o) k (h.circles o) there

  module _ (a : Joined s0 s1 (prev_of s0 k) (next_of s0 k)) (circles : (i : ℕ) → after i ≡ (if nat_eq o i then shortened k (next_of s0 k) (circle o) else circle i)) where
    circles_left : (i : ℕ) → IsCircle (next_of s1) (prev_of s1) (after i) (filter (λ x. not (x == k)) (row i))
    circles_left i = elim (cases_eq o i) [
      | inl e ↦
          let now : after i ≡ shortened k (next_of s0 k) (circle i) = circles i ∙ (ap (λ (b : Bool). cond b (shortened k (next_of s0 k) (circle o)) (circle i)) (same_test o i e) ∙ ap (λ j. shortened k (next_of s0 k) (circle j)) e) in
          rw now (circle_left (next_of s0) (prev_of s0) (next_of s1) (prev_of s1) k a.next_here a.prev_here a.next_else a.prev_else (circle i) (row i) (h.circles i) (subst (λ (j : ℕ). Contains (row j) k) e there))
      | inr ne ↦
          let now : after i ≡ circle i = circles i ∙ ap (λ (b : Bool). cond b (shortened k (next_of s0 k) (circle o)) (circle i)) (test_apart o i ne) in
          let all = filter_apart (row i) k k (λ j l. none_of row h.apart o i k ne there j k l) in
          let n = none_of row h.apart o i (next_of s0 k) ne (next_there (next_of s0) (prev_of s0) (circle o) (row o) k (h.circles o) there) in
          let p = none_of row h.apart o i (prev_of s0 k) ne (prev_there (next_of s0) (prev_of s0) (circle o) (row o) k (h.circles o) there) in
          rw (now, all) (circle_kept (next_of s0) (prev_of s0) (next_of s1) (prev_of s1) (circle i) (row i) (h.circles i) (one (row i) (prev_of s0 k) p (next_of s1) (next_of s0) a.next_else) (one (row i) (next_of s0 k) n (prev_of s1) (prev_of s0) a.prev_else))
    ]

    rows_left : AreRows (next_of s1) (prev_of s1) after many (λ i. filter (λ x. not (x == k)) (row i))
    rows_left = record {
      circles = circles_left;
      within = λ i. All-filter (λ x. not (x == k)) (λ x. x < many) (row i) (h.within i);
      apart = λ i j ne. All-filter (λ x. not (x == k)) (λ x. All (λ y. y ≢ x) (filter (λ x. not (x == k)) (row j))) (row i)
          (All-weaker (λ x. All (λ y. y ≢ x) (row j)) (λ x. All (λ y. y ≢ x) (filter (λ x. not (x == k)) (row j))) (λ x g. All-filter (λ x. not (x == k)) (λ y. y ≢ x) (row j) g) (row i) (h.apart i j ne));
    }

-- what indexing reads at a key of a row
pub link_read : (inside s : List Link) (w : Whose) (key : ℕ) (t : Link) → inside ≡ s → CanLeave s w key → t ≡ get_or inside key t → t ≡ get_or s key no_link
link_read inside s w key t e can is = get_or_read s key t (key_below s s w.heads w.heads (length s) (row_of s w.heads) can.sound w.owner key can.there) (is ∙ ap (λ (u : List Link). get_or u key t) e) no_link

-- reading at a new place
pub read_more : {X : Type 0} (s : List X) (n k : ℕ) (x : X) → get_or (s ++ replicate n x) k x ≡ get_or s k x
read_more {X = X} s n k x = elim (cases_lt k (length s)) [
  | inl l ↦ get_or_append_left s (replicate n x) x k l
  | inr g ↦ past s n k g ∙ sym (get_or_past s k x g)
]
  where
    none : (n k : ℕ) → get_or (replicate n x) k x ≡ x
    none zero k = refl
    none (suc n) zero = refl
    none (suc n) (suc k) = none n k

    past : (s : List X) (n k : ℕ) → length s ≤ k → get_or (s ++ replicate n x) k x ≡ x
    past [] n k le = none n k
    past (y ∷ s) n zero le = absurd (omega (arith, le))
    past (y ∷ s) n (suc k) le = past s n k (omega (arith, le))

-- new links for keys that had none
next_more : (s s' : List Link) (n : ℕ) → s' ≡ s ++ replicate n no_link → next_of s' ≡ next_of s
next_more s s' n e t k = ((ap (λ (u : List Link). get_or u k no_link) e ∙ read_more s n k no_link) t).next

prev_more : (s s' : List Link) (n : ℕ) → s' ≡ s ++ replicate n no_link → prev_of s' ≡ prev_of s
prev_more s s' n e t k = ((ap (λ (u : List Link). get_or u k no_link) e ∙ read_more s n k no_link) t).prev

pub row_more : (s s' : List Link) (n : ℕ) (heads : ℕ → Option Circle) (i : ℕ) → s' ≡ s ++ replicate n no_link → row_of s' heads i ≡ row_of s heads i
row_more s s' n heads i e = ap (λ (next : ℕ → ℕ). keys_in next (heads i)) (next_more s s' n e)

pub circles_more : (s s' : List Link) (n : ℕ) (heads : ℕ → Option Circle) → s' ≡ s ++ replicate n no_link → AreCircles s heads → AreCircles s' heads
circles_more s s' n heads e h =
    let nexts = next_more s s' n e in
    let prevs = prev_more s s' n e in
    let long : length s ≤ length s' = omega (arith, ap length e, length-append s (replicate n no_link)) in
    let it : AreRows (next_of s') (prev_of s') heads (length s') (row_of s heads) = record {
      circles = λ i. subst (λ (f : ℕ → ℕ). IsCircle f (prev_of s') (heads i) (row_of s heads i)) (sym nexts) (subst (λ (f : ℕ → ℕ). IsCircle (next_of s) f (heads i) (row_of s heads i)) (sym prevs) (h.circles i));
      within = λ i. All-weaker (λ k. k < length s) (λ k. k < length s') (λ k lt. omega (arith, lt, long)) (row_of s heads i) (h.within i);
      apart = h.apart;
    } in
    rows_walked (next_of s') (prev_of s') heads (length s') (row_of s heads) it

-- circles that begin alike
pub circles_alike : (s : List Link) (heads heads' : ℕ → Option Circle) → ((i : ℕ) → heads' i ≡ heads i) → AreCircles s heads → AreCircles s heads'
circles_alike s heads heads' same h = let e : heads ≡ heads' = (λ t i. sym (same i) t) in subst (λ (f : ℕ → Option Circle). AreCircles s f) e h

pub row_alike : (s : List Link) (heads heads' : ℕ → Option Circle) → ((i : ℕ) → heads' i ≡ heads i) → (i : ℕ) → row_of s heads' i ≡ row_of s heads i
row_alike s heads heads' same i = ap (λ (c : Option Circle). row_of s (λ j. c) i) (same i)

-- a walk whose keys all have links
linked : (s : List Link) (n k : ℕ) → All (λ x. x < length s) (walk (next_of s) n k) → AreLinked s n k
linked s zero k h = tt
linked s (suc n) k h = (All-head (λ x. x < length s) k (walk (next_of s) n (next_of s k)) h, linked s n (next_of s k) (All-tail (λ x. x < length s) k (walk (next_of s) n (next_of s k)) h))

pub circle_linked : (s : List Link) (o : Option Circle) (t : Circle) → t ≡ unwrap_or o (record { first = 0; len = 0 }) → All (λ x. x < length s) (keys_in (next_of s) o) → AreLinked s t.len t.first
circle_linked s None t e h = subst (λ (u : Circle). AreLinked s u.len u.first) (sym e) tt
circle_linked s (Some u) t e h = subst (λ (w : Circle). AreLinked s w.len w.first) (sym e) (linked s u.len u.first h)

-- what a call says that put a key in
pub joins : (s0 s1 s2 : List Link) (w : Whose) (key begin end : ℕ) → CanJoin s0 w key → key < length s0 → begin ≡ (lengthened key (own_head w)).first → end ≡ (if begin == key then begin else prev_of s0 begin) → Joined s0 s1 end key → Joined s1 s2 key begin → Joins s0 s2 w (Some (lengthened key (own_head w))) key
joins s0 s1 s2 w key begin end can below is_first is_last a b =
    let at : end ≡ last_of (next_of s0) (prev_of s0) (lengthened key (own_head w)).first key = is_last ∙ ap (λ (f : ℕ). if f == key then f else prev_of s0 f) is_first in
    let a' = subst (λ (z : ℕ). Joined s0 s1 z key) at a in
    let b' = subst (λ (z : ℕ). Joined s1 s2 key z) is_first b in
    let same = b.same ∙ a.same in
    let after : ℕ → Option Circle = with_head w.heads w.owner (Some (lengthened key (own_head w))) in
    let rows : ℕ → List ℕ = (λ i. if nat_eq w.owner i then row_of s0 w.heads i ++ key ∷ [] else row_of s0 w.heads i) in
    let it = subst (λ (m : ℕ). AreRows (next_of s2) (prev_of s2) after m rows) (sym same) (rows_joined s0 w.heads (length s0) (row_of s0 w.heads) can.sound w.owner key can.fresh s1 s2 a' b' after (λ i. refl) below) in
    record {
      sound = rows_walked (next_of s2) (prev_of s2) after (length s2) rows it;
      rows = rows_are (next_of s2) (prev_of s2) after (length s2) rows it;
      many = same;
    }

-- what a call says that took a key out
pub leaves : (s0 s1 : List Link) (w : Whose) (key : ℕ) (t : Link) → CanLeave s0 w key → t ≡ get_or s0 key no_link → Joined s0 s1 t.prev t.next → Leaves s0 s1 w (shortened key t.next (own_head w)) key
leaves s0 s1 w key t can is a =
    let a' = subst (λ (u : Link). Joined s0 s1 u.prev u.next) is a in
    let after : ℕ → Option Circle = with_head w.heads w.owner (shortened key t.next (own_head w)) in
    let rows : ℕ → List ℕ = (λ i. filter (λ x. not (x == key)) (row_of s0 w.heads i)) in
    let it = subst (λ (m : ℕ). AreRows (next_of s1) (prev_of s1) after m rows) (sym a.same) (rows_left s0 s1 w.heads after (length s0) (row_of s0 w.heads) can.sound w.owner key can.there a'
    (λ i. ap (λ (u : Link). cond (nat_eq w.owner i) (shortened key u.next (own_head w)) (w.heads i)) is)) in
    record {
      sound = rows_walked (next_of s1) (prev_of s1) after (length s1) rows it;
      rows = rows_are (next_of s1) (prev_of s1) after (length s1) rows it;
      many = a.same;
    }

-- no more keys than there are links, with the one that joins
pub room : (s : List Link) (w : Whose) (key : ℕ) → CanJoin s w key → key < length s → (most : ℕ) → length s ≤ most → IfSome (own_head w) (λ c. c.len < most)
room s w key can = few (next_of s) (prev_of s) (own_head w) (row_of s w.heads w.owner) (length s) key (can.sound.circles w.owner) (can.sound.within w.owner) (can.fresh w.owner)

-- what the calls read and write has links
pub begin_below : (s : List Link) (w : Whose) (key begin : ℕ) → CanJoin s w key → key < length s → begin ≡ (lengthened key (own_head w)).first → begin < length s
begin_below s w key begin can lt is = subst (λ (z : ℕ). z < length s) (sym is) (first_below s w.heads (length s) (row_of s w.heads) can.sound w.owner key can.fresh lt)

pub end_below : (s : List Link) (w : Whose) (key begin end : ℕ) → CanJoin s w key → key < length s → begin ≡ (lengthened key (own_head w)).first → end ≡ (if begin == key then begin else prev_of s begin) → end < length s
end_below s w key begin end can lt is_first is_last =
    let at : end ≡ last_of (next_of s) (prev_of s) (lengthened key (own_head w)).first key = is_last ∙ ap (λ (f : ℕ). if f == key then f else prev_of s f) is_first in
    subst (λ (z : ℕ). z < length s) (sym at) (last_below s w.heads (length s) (row_of s w.heads) can.sound w.owner key can.fresh lt)

module _ (s : List Link) (w : Whose) (key : ℕ) (t : Link) (can : CanLeave s w key) (is : t ≡ get_or s key no_link) where
  pub link_below : (t.prev < length s) × (t.next < length s)
  link_below = subst (λ (u : Link). (u.prev < length s) × (u.next < length s)) (sym is) (prev_below s s w.heads w.heads (length s) (row_of s w.heads) can.sound w.owner key can.there, next_below s s w.heads w.heads (length s) (row_of s w.heads) can.sound w.owner key can.there)

  pub only : IfSome (own_head w) (λ c. nat_lt 1 c.len ≡ not (key == t.next))
  only = subst (λ (u : Link). IfSome (own_head w) (λ c. nat_lt 1 c.len ≡ not (key == u.next))) (sym is) (alone_there s s w.heads w.heads (length s) (row_of s w.heads) can.sound w.owner key can.there)
