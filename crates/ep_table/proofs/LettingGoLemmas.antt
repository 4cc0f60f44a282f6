-- Letting go one after another.
use Rattle.std.proofs.Common.{List, None, Option, Some, [], ap, append-nil, append_assoc, arith, bit_or, get_or, length, refl, slice_get, subst, suc, sym, take, unwrap_or, zero, ℕ, ◌+◌, ◌++◌, ◌-◌, ◌<◌, ◌∙◌, ◌∷◌, ◌≡◌, ◌≤◌}
use Rattle.std.specs.Int.Bits.{or_zero_r}
use Rattle.ep_base.specs.declared.ids.DescId.{DescId}
use Rattle.ep_facts.proofs.RaisedFacts.{raised_parts}
use Rattle.ep_machine.specs.Connections.{let_all_go, pending_in}
use Rattle.ep_machine.specs.Files.{Files, Place, object_at, object_of, place_of}
use Rattle.ep_machine.specs.Objects.{Object}
use Rattle.ep_machine.specs.Spread.{raised_of}
use Rattle.ep_table.proofs.LetGoLemmas.{all_go, all_told, at, holding, pending_left, step, steps, told}
use Rattle.ep_table.proofs.QueueLemmas.{queued_length}
use Rattle.ep_table.specs.LettingGo.{LetsGo, pending_of}
use Rattle.ep_table.specs.Stored.{AllKeyed, queued, things}
use Rattle.ep_table.specs.declared.store.Store.TheInside.{Inside}
use Rattle.ep_table.specs.Value.{AreLive, Things, content_of, files_in, losses_of, number_at, thing_number, unwrapped}
use Rattle.ep_table.specs.declared.words.Dying.{Dying}

-- none goes
pub lets_nothing : (v : Things) → LetsGo v v []
lets_nothing v = record { rest = refl; raised = λ d. sym (or_zero_r (raised_of (losses_of v.keys v.losses) d)); live = λ h. h }

steps_append : (s : Files) (os : List (Option Object)) (ks js : List ℕ) → steps s os (ks ++ js) ≡ steps s (steps s os ks) js
steps_append s os [] js = refl
steps_append s os (k ∷ ks) js = steps_append s (step s os k) ks js

told_append : (s : Files) (os : List (Option Object)) (ks js : List ℕ) → all_told s os (ks ++ js) ≡ all_told s os ks ++ all_told s (steps s os ks) js
told_append s os [] js = refl
told_append s os (k ∷ ks) js =
    ap (λ (rs : List (ℕ × ℕ)). told s os k ++ rs) (told_append s (step s os k) ks js)
    ∙ sym (append_assoc (told s os k) (all_told s (step s os k) ks) (all_told s (steps s (step s os k) ks) js))

module _ (a b c : Things) (ks js : List ℕ) (first : LetsGo a b ks) (second : LetsGo b c js) where
  abbrev s : Files
  s = files_in a

  abbrev after : List ℕ → Files × List (ℕ × ℕ)
  after xs = let_all_go (s, []) xs

  are : (xs : List ℕ) → after xs ≡ (holding s (steps s a.objects xs), all_told s a.objects xs)
  are xs = all_go s a.objects [] xs

  middle : files_in b ≡ holding s (steps s a.objects ks)
  middle = ap files_in first.rest ∙ ap (λ (now : Files × List (ℕ × ℕ)). record s { objects = now.0.objects }) (are ks)

  -- what the second ones leave
  second_are : let_all_go (files_in b, []) js ≡ (holding s (steps s (steps s a.objects ks) js), all_told s (steps s a.objects ks) js)
  second_are = ap (λ (f : Files). let_all_go (f, []) js) middle ∙ all_go s (steps s a.objects ks) [] js

  objects_both : (let_all_go (files_in b, []) js).0.objects ≡ (after (ks ++ js)).0.objects
  objects_both =
      ap (λ (now : Files × List (ℕ × ℕ)). now.0.objects) second_are
      ∙ (sym (steps_append s a.objects ks js)
      ∙ sym (ap (λ (now : Files × List (ℕ × ℕ)). now.0.objects) (are (ks ++ js))))

  told_both : (d : ℕ) → bit_or (raised_of (after ks).1 d) (raised_of (let_all_go (files_in b, []) js).1 d) ≡ raised_of (after (ks ++ js)).1 d
  told_both d =
      sym (raised_parts (after ks).1 (let_all_go (files_in b, []) js).1 d)
      ∙ ((λ i. raised_of ((are ks i).1 ++ (second_are i).1) d)
      ∙ (ap (λ (rs : List (ℕ × ℕ)). raised_of rs d) (sym (told_append s a.objects ks js))
      ∙ ap (λ (now : Files × List (ℕ × ℕ)). raised_of now.1 d) (sym (are (ks ++ js)))))

  keys_are : b.keys ≡ a.keys
  keys_are = ap (λ (v : Things). v.keys) first.rest

  three : (l x y : List (ℕ × ℕ)) (d : ℕ) → bit_or (bit_or (raised_of l d) (raised_of x d)) (raised_of y d) ≡ bit_or (raised_of l d) (bit_or (raised_of x d) (raised_of y d))
  three l x y d =
      ap (λ (n : ℕ). bit_or n (raised_of y d)) (sym (raised_parts l x d))
      ∙ (sym (raised_parts (l ++ x) y d)
      ∙ (ap (λ (rs : List (ℕ × ℕ)). raised_of rs d) (append_assoc l x y)
      ∙ (raised_parts l (x ++ y) d ∙ ap (bit_or (raised_of l d)) (raised_parts x y d))))

  pub lets_both : LetsGo a c (ks ++ js)
  lets_both = record {
    rest =
        second.rest
        ∙ ((λ i. record (first.rest i) { objects = (let_all_go (files_in b, []) js).0.objects; losses = c.losses })
        ∙ (λ i. record a { objects = objects_both i; losses = c.losses }));
    raised = λ d.
        let l = losses_of a.keys a.losses in
        let there = subst (λ (keys : List (Option ℕ)). raised_of (losses_of keys c.losses) d ≡ bit_or (raised_of (losses_of keys b.losses) d) (raised_of (let_all_go (files_in b, []) js).1 d)) keys_are (second.raised d) in
        there
        ∙ ((λ i. bit_or (first.raised d i) (raised_of (let_all_go (files_in b, []) js).1 d))
        ∙ (three l (after ks).1 (let_all_go (files_in b, []) js).1 d ∙ ap (bit_or (raised_of l d)) (told_both d)));
    live = λ h. subst (λ (keys : List (Option ℕ)). AreLive keys b.losses → AreLive keys c.losses) keys_are second.live (first.live h);
  }

-- What waits at an object is the same afterwards.
pub lets_keep_pending : (a b : Things) (ks : List ℕ) → LetsGo a b ks → (d : ℕ) → pending_in (content_of (files_in b) d) ≡ pending_in (content_of (files_in a) d)
lets_keep_pending a b ks h d =
    let s = files_in a in
    let is : files_in b ≡ holding s (steps s a.objects ks) = ap files_in h.rest ∙ ap (λ (now : Files × List (ℕ × ℕ)). record s { objects = now.0.objects }) (all_go s a.objects [] ks) in
    ap (λ (f : Files). pending_in (content_of f d)) is ∙ by_place (place_of s d) where
      by_place : (o : Option Place) → pending_in (unwrapped (object_at (holding (files_in a) (steps (files_in a) a.objects ks)) o)) ≡ pending_in (unwrapped (object_at (files_in a) o))
      by_place None = refl
      by_place (Some p) = pending_left (files_in a) a.objects ks p.object

pub lets_keep_number : (a b : Things) (ks : List ℕ) → LetsGo a b ks → (key : DescId) → number_at b.keys key ≡ number_at a.keys key
lets_keep_number a b ks h key = ap (λ (v : Things). number_at v.keys key) h.rest

-- The first so many of a list, and one more.
pub take_next : {X : Type 0} (xs : List X) (i : ℕ) (x : X) → slice_get xs i ≡ Some x → take (i + 1) xs ≡ take i xs ++ x ∷ []
take_next [] i x h = cc
take_next (y ∷ xs) zero x h = let e : y ≡ x = cc in ap (λ z. z ∷ []) e
take_next {X} (y ∷ xs) (suc i) x h =
    let e : suc i + 1 ≡ suc (i + 1) = omega arith in
    ap (λ (n : ℕ). take n (y ∷ xs)) e ∙ ap (λ (r : List X). y ∷ r) (take_next xs i x h)

pub take_all : {X : Type 0} (xs : List X) (i : ℕ) → slice_get xs i ≡ None → take i xs ≡ xs
take_all [] zero h = refl
take_all [] (suc i) h = refl
take_all (y ∷ xs) zero h = cc
take_all (y ∷ xs) (suc i) h = ap (λ r. y ∷ r) (take_all xs i h)

pub pending_push : (s : Files) (ds : List ℕ) (d : ℕ) → pending_of s (ds ++ d ∷ []) ≡ pending_of s ds ++ pending_in (content_of s d)
pending_push s [] d = append-nil (pending_in (content_of s d))
pending_push s (x ∷ ds) d =
    ap (λ (ks : List ℕ). pending_in (content_of s x) ++ ks) (pending_push s ds d)
    ∙ sym (append_assoc (pending_in (content_of s x)) (pending_of s ds) (pending_in (content_of s d)))

-- what waits at an object still, in its place
pub pending_still : (a b : Things) (ks : List ℕ) → LetsGo a b ks → (key : DescId) (x : Object) → Some x ≡ object_of (files_in b) (thing_number b key) → pending_in x ≡ pending_in (content_of (files_in a) (thing_number a key))
pending_still a b ks h key x is =
    ap (λ (o : Option Object). pending_in (unwrapped o)) is
    ∙ (ap (λ (n : Option ℕ). pending_in (content_of (files_in b) (unwrap_or n 0))) (lets_keep_number a b ks h key)
    ∙ lets_keep_pending a b ks h (thing_number a key))

pub within : {X : Type 0} (xs : List X) (i : ℕ) (x : X) → slice_get xs i ≡ Some x → i < length xs
within [] i x h = cc
within (y ∷ xs) zero x h = omega arith
within (y ∷ xs) (suc i) x h = omega (arith, within xs i x h)

slice_get_end : (xs : List ℕ) (n : ℕ) → slice_get (xs ++ n ∷ []) (length xs) ≡ Some n
slice_get_end [] n = refl
slice_get_end (x ∷ xs) n = slice_get_end xs n

slice_get_before : (xs : List ℕ) (n i : ℕ) → i < length xs → slice_get (xs ++ n ∷ []) i ≡ slice_get xs i
slice_get_before [] n i l = absurd (omega (arith, l))
slice_get_before (x ∷ xs) n zero l = refl
slice_get_before (x ∷ xs) n (suc i) l = slice_get_before xs n i (omega (arith, l))

-- The queue from behind: its last entry comes first.
pub queued_at : (xs : List Dying) (i : ℕ) (x y : Dying) → i < length xs → get_or xs i y ≡ x → slice_get (queued xs) (length xs - (i + 1)) ≡ Some x.number
queued_at [] i x y l h = absurd (omega (arith, l))
queued_at (z ∷ xs) zero x y l h =
    let e : z ≡ x = h in
    let n : length (z ∷ xs) - (0 + 1) ≡ length (queued xs) = omega (arith, queued_length xs) in
    ap (slice_get (queued (z ∷ xs))) n ∙ (slice_get_end (queued xs) z.number ∙ ap (λ (w : Dying). Some w.number) e)
queued_at (z ∷ xs) (suc i) x y l h =
    let n : length (z ∷ xs) - (suc i + 1) ≡ length xs - (i + 1) = omega arith in
    let lt : length xs - (i + 1) < length (queued xs) = omega (arith, l, queued_length xs) in
    ap (slice_get (queued (z ∷ xs))) n ∙ (slice_get_before (queued xs) z.number (length xs - (i + 1)) lt ∙ queued_at xs i x y (omega (arith, l)) h)

-- each has its number under its key
pub keyed_at : (keys : List (Option ℕ)) (xs : List Dying) (i : ℕ) (x y : Dying) → i < length xs → get_or xs i y ≡ x → AllKeyed keys xs → number_at keys x.key ≡ Some x.number
keyed_at keys [] i x y l h all = absurd (omega (arith, l))
keyed_at keys (z ∷ xs) zero x y l h all = subst (λ (w : Dying). number_at keys w.key ≡ Some w.number) h all.0
keyed_at keys (z ∷ xs) (suc i) x y l h all = keyed_at keys xs i x y (omega (arith, l)) h all.1

-- What the next of the queue lets go.
pub next_goes : (v a b : Things) (left n : ℕ) → 0 < left → left ≤ length v.dying → slice_get v.dying (length v.dying - left) ≡ Some n
    → LetsGo (record v { losses = [] }) a (pending_of (files_in v) (take (length v.dying - left) v.dying)) → LetsGo a b (pending_in (content_of (files_in a) n))
    → LetsGo (record v { losses = [] }) b (pending_of (files_in v) (take (length v.dying - (left - 1)) v.dying))
next_goes v a b left n some within at before next =
    let u : Things = record v { losses = [] } in
    let m = length v.dying - left in
    let still = lets_keep_pending u a (pending_of (files_in v) (take m v.dying)) before n in
    let both = lets_both u a b (pending_of (files_in v) (take m v.dying)) (pending_in (content_of (files_in v) n)) before (subst (λ (ks : List ℕ). LetsGo a b ks) still next) in
    let more : length v.dying - (left - 1) ≡ m + 1 = omega (arith, some, within) in
    let taken : take (length v.dying - (left - 1)) v.dying ≡ take m v.dying ++ n ∷ [] = ap (λ (i : ℕ). take i v.dying) more ∙ take_next v.dying m n at in
    subst (λ (ks : List ℕ). LetsGo u b ks) (sym (ap (pending_of (files_in v)) taken ∙ pending_push (files_in v) (take m v.dying) n)) both

pub all_taken : (xs : List ℕ) → take (length xs - 0) xs ≡ xs
all_taken xs = let e : length xs - 0 ≡ length xs = omega arith in ap (λ (i : ℕ). take i xs) e ∙ take_whole xs where
  take_whole : (ys : List ℕ) → take (length ys) ys ≡ ys
  take_whole [] = refl
  take_whole (y ∷ ys) = ap (λ (r : List ℕ). y ∷ r) (take_whole ys)

pub none_taken : (xs : List ℕ) (n : ℕ) → n ≡ length xs → take (length xs - n) xs ≡ []
none_taken xs n h = let e : length xs - n ≡ 0 = omega (arith, h) in ap (λ (i : ℕ). take i xs) e

-- the queue stays as it was
pub queue_is : {A : Type 0} (k : Inside A) (v a : Things) (ks : List ℕ) → things k ≡ a → LetsGo (record v { losses = [] }) a ks → queued k.dying.items ≡ v.dying
queue_is k v a ks same h = ap (λ (w : Things). w.dying) same ∙ ap (λ (w : Things). w.dying) h.rest

pub queue_length : {A : Type 0} (k : Inside A) (v a : Things) (ks : List ℕ) → things k ≡ a → LetsGo (record v { losses = [] }) a ks → length k.dying.items ≡ length v.dying
queue_length k v a ks same h = omega (arith, queued_length k.dying.items, ap (λ (xs : List ℕ). length xs) (queue_is k v a ks same h))
