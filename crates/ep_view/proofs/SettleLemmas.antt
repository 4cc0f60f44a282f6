-- What a settling leaves.
use Rattle.std.proofs.Common.{◌≡◌, ℕ, zero, suc, ◌<◌, ◌≤◌, ◌==◌, ◌&&◌, ◌||◌, ◌++◌, ◌∙◌, All, Bool, List, [], ◌∷◌, Some, true, false, not, ap, arith, cond, filter, get_or, inl, inr, is_some, map, nat_eq, nat_lt, refl, subst, sym, if◌then◌else◌, None, Option, unwrap_or, length}
use Rattle.std.proofs.lemmas.Bool.{cases_Bool, false≢true}
use Rattle.std.proofs.lemmas.List.Elements.{All-cons, All-map}
use Rattle.std.proofs.lemmas.Bool.Decides.{nat_tests}
use Rattle.ep_base.specs.declared.counts.Counts.{Counts}
use Rattle.ep_machine.specs.Bits.{ERR, HUP, IN, ONESHOT, OUT, RDHUP, asked, has_bit}
use Rattle.ep_machine.specs.Counts.{arrived_since, brings, every_shown_bit}
use Rattle.ep_machine.specs.Deaths.{buried, die_all, dying, is_kept, named, named_in_tables}
use Rattle.ep_machine.specs.Files.{Files, Place, is_live, object_of, place_of, object_at}
use Rattle.ep_machine.specs.Lists.{is_among}
use Rattle.ep_view.specs.KernelView.{KernelWatch, carries, climbed, freshened, kernel_reported, kernel_watches, kernel_watch, reached_now, reached_within, settled_watches, stays_in, stirred, watches_instance, climbing, climbing_all, resting, ready_now}
use Rattle.ep_view.specs.AtRest.{Changed, HasSeen, Settles, IsSteady, AtRest, can_be_watched, is_backed, kind_of, marks_of, all_raised, standing, marks_at_end, needs_mark, wakes_at_end, Remains}
use Rattle.ep_machine.specs.Readiness.{is_fresh, is_ready, is_reportable}
use Rattle.ep_machine.specs.Report.{reported}
use Rattle.ep_machine.specs.Settle.{came, reportable_numbers, settle, with_from}
use Rattle.ep_machine.specs.Spread.{arrived, raised_alive, raised_of}
use Rattle.ep_machine.specs.State.{State, Waiter, Watch, counts_of}
use Rattle.ep_machine.specs.Timer.{last_moment}
use Rattle.ep_machine.specs.Marks.{marked_by}
use Rattle.ep_machine.specs.Waits.{marked_if_due}
use Rattle.ep_view.proofs.DeathLemmas.{Buried, all_buried}
use Rattle.ep_law.proofs.MarkLemmas.{marked_all, marked_parts, marks_stay, guarded_same, ready_same as law_ready_same}
use Rattle.ep_law.proofs.NamedLivesLemmas.{live_left, dying_distinct, dying_placed, dying_unnamed, unnamed_dying}
use Rattle.ep_law.proofs.DeathLemmas.{ArePlaced, after_all, numbers, raised_before}
use Rattle.ep_view.proofs.FilesLemmas.{among_second, among_waits, watched_same}
use Rattle.ep_view.proofs.FreshLemmas.{fresh_arrived, seen_arrived, alive_raised}
use Rattle.ep_view.proofs.ClimbLemmas.{kept_arrived, reached, zero_asked, zero_brings, noted_in}
use Rattle.ep_view.proofs.KernelViewLemmas.{kept_filter, ready_kept}
use Rattle.std.specs.List.{IsDistinct, list_any}
use Rattle.std.proofs.Math.Bool.{and-false as never}
use Rattle.ep_facts.proofs.NatFacts.{same_nat, same_or_not, test_apart}
use Rattle.ep_facts.proofs.BoolFacts.{and_false_or, and_not_itself, and_or_more, both_true}
use Rattle.ep_view.specs.Marking.{gets_mark_now, guarded_now, keeps_passing, left_now, narrowed_now, passing_if}
use Rattle.ep_law.specs.Laws.{Member, has_instance}
use Rattle.ep_law.specs.Narrow.{IsRegular}
use Rattle.ep_view.proofs.KindLemmas.{is_instance_of_kind}
use Rattle.ep_machine.specs.Objects.{Object, is_instance, plain}
use Rattle.ep_machine.specs.Exclusive.{gets_mark, is_guarded, is_left, is_woken}
use Rattle.ep_law.proofs.ListLemmas.{all_member, any_has}
use Rattle.ep_view.proofs.MarkingLemmas.{AreSeen, IsSeen, climbed_rests, due_member, first_same, gets_seen, guarded_rests, marks_same, ready_rests, guarded_seen, woken_seen}
use Rattle.ep_view.proofs.RaisedLemmas.{raised_in_same}
use Rattle.ep_law.proofs.InstanceLemmas.{AreMade}

kept_came : (earlier : List ℕ) (s : State) (xs : List Watch) → kernel_watches s (map (came earlier s) xs) ≡ kernel_watches s xs
kept_came earlier s [] = refl
kept_came earlier s (x ∷ xs) =
    let one : kernel_watch s (came earlier s x) ≡ kernel_watch s x = elim (not (is_among earlier x.number) && is_reportable s x) as (λ b. kernel_watch s (cond b (record x { from = s.n }) x) ≡ kernel_watch s x) [ true ↦ refl | false ↦ refl ] in
    let rest = kept_came earlier s xs in
    λ i. one i ∷ rest i

-- what says of a registration that it is steady is kept
abbrev AreSteady : Files → List KernelWatch → Type 0
AreSteady files xs = All (λ x. IsSteady files x.instance x.target) xs

all_from_kept : (files : Files) (s : State) (xs : List Watch) → AreSteady files (kernel_watches s xs) → All (λ x. IsSteady files x.instance x.target) xs
all_from_kept files s [] h k d lt = absurd (omega arith)
all_from_kept files s (x ∷ xs) h zero d lt = h 0 (kernel_watch s x) (omega arith)
all_from_kept files s (x ∷ xs) h (suc k) d lt = all_from_kept files s xs (λ j c l. h (suc j) c (omega arith)) k d (omega arith)

all_to_kept : (files : Files) (s : State) (xs : List Watch) → All (λ x. IsSteady files x.instance x.target) xs → AreSteady files (kernel_watches s xs)
all_to_kept files s xs h = All-map (λ x. IsSteady files x.instance x.target) (kernel_watch s) xs h

-- and what is noted in registrations leaves them steady
all_settled : (files : Files) (n : ℕ) (g : Files) (raised : List (ℕ × ℕ)) (xs : List KernelWatch) → AreSteady files xs → AreSteady files (settled_watches n g (freshened n raised) xs)
all_settled files n g raised xs h =
    let ys = map (freshened n raised) xs in
    let P : KernelWatch → Type 0 = λ x. IsSteady files x.instance x.target in
    All-map P (climbed (reached_now g n ys) g) ys (All-map P (freshened n raised) xs h)

-- the registrations whose instance and target live stay steady
steady_left : (f g : Files) (xs : List KernelWatch) → ((d : ℕ) → is_live g d ≡ true → can_be_watched (object_of f d) ≡ true → kind_of (object_of g d) ≡ kind_of (object_of f d))
    → AreSteady f xs → AreSteady g (filter (stays_in g) xs)
steady_left f g [] shows h = λ k d lt. absurd (omega arith)
steady_left f g (x ∷ xs) shows h =
    let rest = steady_left f g xs shows (λ j c l. h (suc j) c (omega arith)) in
    let one = h 0 x (omega arith) in
    elim (cases_Bool (stays_in g x)) [
      | inl holds ↦
          let both = both_true (is_live g x.instance) (is_live g x.target) holds in
          let steady : IsSteady g x.instance x.target = record { instance_lives = both.0; target_lives = both.1; target_shows = watched_same _ _ (shows x.target both.1 one.target_shows) one.target_shows } in
          subst (λ (b : Bool). AreSteady g (cond b (x ∷ filter (stays_in g) xs) (filter (stays_in g) xs))) (sym holds) (All-cons (λ y. IsSteady g y.instance y.target) x (filter (stays_in g) xs) steady rest)
      | inr fails ↦ subst (λ (b : Bool). AreSteady g (cond b (x ∷ filter (stays_in g) xs) (filter (stays_in g) xs))) (sym fails) rest
    ]

module _ (after : State) (h : Changed after) where
  abbrev f : Files
  f = after.files

  abbrev g : Files
  g = after_all f (dying after)

  left : Buried f g (dying after)
  left = all_buried f (dying after) (dying_distinct after) (dying_placed after) h.placed

  pub live_after : (d : ℕ) → is_live g d ≡ is_among (named after) d
  live_after d = live_left after h.lives d

  -- whoever waits still waits at an instance
  waits_on : All (λ w. kind_of (object_of g w.instance) ≡ 1) after.waiters
  waits_on = λ k w lt.
      let e = (get_or after.waiters k w).instance in
      let one = h.waiting k w lt in
      let lives = live_after e ∙ among_second (named_in_tables f.tables) (map (λ v. v.instance) after.waiters) e (among_waits after.waiters k w lt) in
      left.shows e lives (ap (nat_lt 0) one) ∙ one

  -- if a mark is needed then, one was set
  needs_at_end : (waited : List Waiter) (raised : List (ℕ × ℕ)) (t : State) → Settles waited after raised t → (e : ℕ) → needs_mark t e ≡ true → marks_at_end waited after raised t e ≡ true
  needs_at_end waited raised t same e h =
      let zs = standing after raised t.files in
      let ys = map (freshened after.n (all_raised after raised)) (filter (stays_in t.files) (kernel_watches after after.watches)) in
      let is : kernel_watches t t.watches ≡ map resting zs = same.watches ∙ climbed_rests (reached_now t.files after.n ys) t.files ys in
      let stands : needs_mark t e ≡ (ready_now t.files t.now zs e && not (guarded_now zs e)) =
      ap (λ (xs : List KernelWatch). ready_now t.files t.now xs e && not (guarded_now xs e)) is ∙ (λ i. ready_rests t.files t.now zs e i && not (guarded_rests zs e i)) in
      and_or_more (ready_now t.files t.now zs e) (not (guarded_now zs e)) _ (sym stands ∙ h)

  pub quiet_settled : (waited : List Waiter) (raised : List (ℕ × ℕ)) (t : State) → Settles waited after raised t → AtRest t
  quiet_settled waited raised t same =
      let files : (P : Files → Type 0) → P g → P t.files = λ P. subst P (sym same.files) in
      let came = all_raised after raised in
      let ready = marks_at_end waited after raised t in
      let places : map (λ w. w.instance) t.waiters ≡ map (λ w. w.instance) after.waiters = ap (map (λ (w : Waiter). w.instance)) same.waiters ∙ marked_parts ready (λ w. w.instance) (λ w b. refl) t.now after.waiters in
      let who : map (λ w. w.caller) t.waiters ≡ map (λ w. w.caller) after.waiters = ap (map (λ (w : Waiter). w.caller)) same.waiters ∙ marked_parts ready (λ w. w.caller) (λ w b. refl) t.now after.waiters in
      record {
        now = subst (λ (k : ℕ). k ≤ last_moment) (sym same.now) h.now;
        placed = files (λ u. (d : ℕ) → is_backed u (place_of u d) ≡ true) left.placed;
        named = files (λ u. (d : ℕ) → is_among (named_in_tables u.tables ++ map (λ w. w.instance) t.waiters) d ≡ is_live u d) (λ d. (λ i. is_among (named_in_tables (left.tables i) ++ places i) d) ∙ sym (live_after d));
        watches = all_from_kept t.files t t.watches (subst (AreSteady t.files) (sym same.watches)
            (files (λ u. AreSteady u (settled_watches after.n u (freshened after.n came) (filter (stays_in u) (kernel_watches after after.watches))))
            (all_settled g after.n g came _ (steady_left f g (kernel_watches after after.watches) left.shows (all_to_kept f after after.watches h.watches)))));
        seen = same.seen;
        waiting = subst (λ (ws : List Waiter). All (λ w. kind_of (object_of t.files w.instance) ≡ 1) ws) (sym same.waiters)
            (marked_all ready (λ e. kind_of (object_of t.files e) ≡ 1) t.now after.waiters (files (λ u. All (λ w. kind_of (object_of u w.instance) ≡ 1) after.waiters) waits_on));
        callers = subst (IsDistinct nat_eq) (sym who) h.callers;
        marks = ap (marks_of t) same.waiters ∙ (marks_stay ready (needs_mark t) (needs_at_end waited raised t same) t.now after.waiters ∙ sym same.waiters);
      }

-- the registrations after arrivals in a state of other files
module _ (after : State) (g : Files) (raised : List (ℕ × ℕ)) (counted : (0 == after.n) ≡ false) where
  abbrev stays : Watch → Bool
  stays x = stays_in g (kernel_watch after x)

  abbrev remaining : List Watch
  remaining = filter stays after.watches

  abbrev b : State
  b = record after { files = g; watches = remaining }

  abbrev a : State
  a = arrived b raised

  abbrev noted : Watch → KernelWatch
  noted x = climbed (reached after g after.n raised counted) g (freshened after.n raised (kernel_watch after x))

  lives_in : (x : Watch) → stays x ≡ true → is_live g x.target ≡ true
  lives_in x holds = (both_true (is_live g x.instance) (is_live g x.target) holds).1

  settled_kept : (xs : List Watch) → All (λ x. HasSeen x.seen (counts_of after x.target)) xs → kernel_watches a (filter stays xs) ≡ map noted (filter stays xs)
  settled_kept [] seen = refl
  settled_kept (x ∷ xs) seen =
      let rest = settled_kept xs (λ j c l. seen (suc j) c (omega arith)) in
      let sees = seen 0 x (omega arith) in
      with_one (stays x) (λ holds. kept_arrived after g after.n raised counted x holds (fresh_arrived b raised x.target (lives_in x holds) x refl sees)) rest where
        with_one : (t : Bool) → (t ≡ true → kernel_watch a x ≡ noted x) → kernel_watches a (filter stays xs) ≡ map noted (filter stays xs) → kernel_watches a (cond t (x ∷ filter stays xs) (filter stays xs)) ≡ map noted (cond t (x ∷ filter stays xs) (filter stays xs))
        with_one true one rest = λ i. one refl i ∷ rest i
        with_one false one rest = rest

  map_thrice : (xs : List Watch) → map noted xs ≡ map (climbed (reached after g after.n raised counted) g) (map (freshened after.n raised) (kernel_watches after xs))
  map_thrice [] = refl
  map_thrice (x ∷ xs) = ap (λ (ys : List KernelWatch). noted x ∷ ys) (map_thrice xs)

  -- by registrations as they are kept
  settled_all : All (λ x. HasSeen x.seen (counts_of after x.target)) after.watches → kernel_watches a remaining ≡ settled_watches after.n g (freshened after.n raised) (filter (stays_in g) (kernel_watches after after.watches))
  settled_all seen =
      settled_kept after.watches seen
      ∙ (map_thrice remaining
      ∙ ap (λ (xs : List KernelWatch). settled_watches after.n g (freshened after.n raised) xs) (kept_filter after (stays_in g) after.watches))

  settled_seen : (xs : List Watch) → All (λ x. HasSeen x.seen (counts_of after x.target)) xs → All (λ x. HasSeen x.seen (counts_of a x.target)) (filter stays xs)
  settled_seen [] seen = λ k d lt. absurd (omega arith)
  settled_seen (x ∷ xs) seen =
      let rest = settled_seen xs (λ j c l. seen (suc j) c (omega arith)) in
      with_one (stays x) refl (seen 0 x (omega arith)) rest where
        with_one : (t : Bool) → stays x ≡ t → HasSeen x.seen (counts_of after x.target) → All (λ y. HasSeen y.seen (counts_of a y.target)) (filter stays xs)
            → All (λ y. HasSeen y.seen (counts_of a y.target)) (cond t (x ∷ filter stays xs) (filter stays xs))
        with_one true holds sees rest = All-cons (λ y. HasSeen y.seen (counts_of a y.target)) x (filter stays xs) (seen_arrived b raised x.target (lives_in x holds) x refl sees) rest
        with_one false holds sees rest = rest

-- neither marks nor `from` show in what was seen
seen_came : (earlier : List ℕ) (a : State) (xs : List Watch) → All (λ x. HasSeen x.seen (counts_of a x.target)) xs → All (λ x. HasSeen x.seen (counts_of a x.target)) (map (came earlier a) xs)
seen_came earlier a xs h = All-map (λ x. HasSeen x.seen (counts_of a x.target)) (came earlier a) xs (λ k d lt. one (get_or xs k d) (h k d lt)) where
  one : (x : Watch) → HasSeen x.seen (counts_of a x.target) → HasSeen (came earlier a x).seen (counts_of a (came earlier a x).target)
  one x h = elim (not (is_among earlier x.number) && is_reportable a x) as (λ b. HasSeen (cond b (record x { from = a.n }) x).seen (counts_of a (cond b (record x { from = a.n }) x).target)) [ true ↦ h | false ↦ h ]

instance_lives : (f : Files) (d : ℕ) → has_instance f d ≡ true → is_live f d ≡ true
instance_lives f d h = by (place_of f d) h where
  by : (o : Option Place) → is_instance (unwrap_or (object_at f o) plain) ≡ true → is_some o ≡ true
  by None h = absurd (false≢true h)
  by (Some p) h = refl

-- what has its object was made
some_below : (os : List (Option Object)) (k : ℕ) → is_some (get_or os k None) ≡ true → k < length os
some_below [] k h = absurd (false≢true h)
some_below (o ∷ os) zero h = omega arith
some_below (o ∷ os) (suc k) h = let lt = some_below os k h in omega (arith, lt)

made_if_backed : (f : Files) → ((d : ℕ) → is_backed f (place_of f d) ≡ true) → AreMade f
made_if_backed f backed d p e = some_below f.objects p.object (ap (is_backed f) (sym e) ∙ backed d)

-- the registrations as they stand when marks are set
module _ (before after : State) (raised : List (ℕ × ℕ)) (counted : (0 == after.n) ≡ false) where
  abbrev left_files : Files
  left_files = (die_all (after.files, raised) (dying after)).0

  abbrev alive : List (ℕ × ℕ)
  alive = raised_alive (buried after raised).0 (all_raised after raised)

  abbrev unmarked : State
  unmarked = with_from before (arrived (buried after raised).0 (all_raised after raised))

  abbrev zs : List KernelWatch
  zs = standing after raised left_files

  seen_one : (r : ℕ → Bool) (x : Watch) → stays_in left_files (kernel_watch after x) ≡ true → (c : Bool) → IsSeen after.n alive (cond c (record x { from = after.n }) x) (climbing r left_files (freshened after.n (all_raised after raised) (kernel_watch after x)))
  seen_one r x holds c = by c where
    passes : (x.armed && nat_lt 0 (asked x.mask (raised_of alive x.target))) ≡ ((freshened after.n (all_raised after raised) (kernel_watch after x)).passes_in == after.n)
    passes =
        ap (λ (b : ℕ). x.armed && nat_lt 0 (asked x.mask b)) (alive_raised left_files (all_raised after raised) x.target (both_true (is_live left_files x.instance) (is_live left_files x.target) holds).1)
        ∙ sym (noted_in after.n (x.armed && nat_lt 0 (asked x.mask (raised_of (all_raised after raised) x.target))) counted)

    by : (c : Bool) → IsSeen after.n alive (cond c (record x { from = after.n }) x) (climbing r left_files (freshened after.n (all_raised after raised) (kernel_watch after x)))
    by true = record { number = refl; instance_of = refl; target = refl; mask = refl; armed = refl; passes_on = passes }
    by false = record { number = refl; instance_of = refl; target = refl; mask = refl; armed = refl; passes_on = passes }

  seen_all : (r : ℕ → Bool) (earlier : List ℕ) (a : State) → a.n ≡ after.n → (xs : List Watch)
      → AreSeen after.n alive (map (came earlier a) (filter (λ x. stays_in left_files (kernel_watch after x)) xs)) (map (climbing r left_files) (map (freshened after.n (all_raised after raised)) (filter (stays_in left_files) (kernel_watches after xs))))
  seen_all r earlier a at [] = tt
  seen_all r earlier a at (x ∷ xs) = with_one (stays_in left_files (kernel_watch after x)) refl (seen_all r earlier a at xs) where
    with_one : (b : Bool) → stays_in left_files (kernel_watch after x) ≡ b
        → AreSeen after.n alive (map (came earlier a) (filter (λ y. stays_in left_files (kernel_watch after y)) xs)) (map (climbing r left_files) (map (freshened after.n (all_raised after raised)) (filter (stays_in left_files) (kernel_watches after xs))))
        → AreSeen after.n alive (map (came earlier a) (cond b (x ∷ filter (λ y. stays_in left_files (kernel_watch after y)) xs) (filter (λ y. stays_in left_files (kernel_watch after y)) xs)))
        (map (climbing r left_files) (map (freshened after.n (all_raised after raised)) (cond b (kernel_watch after x ∷ filter (stays_in left_files) (kernel_watches after xs)) (filter (stays_in left_files) (kernel_watches after xs)))))
    with_one true holds rest = (subst (λ (n : ℕ). IsSeen after.n alive (cond (not (is_among earlier x.number) && is_reportable a x) (record x { from = n }) x) (climbing r left_files (freshened after.n (all_raised after raised) (kernel_watch after x)))) (sym at) (seen_one r x holds (not (is_among earlier x.number) && is_reportable a x)), rest)
    with_one false fails rest = rest

  -- what a change leaves but for its waiters
  pub settle_remains : Changed after → Remains after raised (settle before after raised)
  settle_remains h =
      let buried_now = buried after raised in
      let left = filter (is_kept (record after { files = left_files })) after.watches in
      record {
        n = refl;
        now = refl;
        files = raised_before after.files raised (dying after);
        watches = kept_came (reportable_numbers before) (arrived buried_now.0 buried_now.1) left ∙ settled_all after left_files buried_now.1 counted h.seen;
        added = refl;
        seen = seen_came (reportable_numbers before) (arrived buried_now.0 buried_now.1) left (settled_seen after left_files buried_now.1 counted after.watches h.seen);
      }

  module _ (h : Changed after) (regular : IsRegular (settle before after raised)) where
    abbrev t : State
    t = settle before after raised

    watches_are : kernel_watches t t.watches ≡ settled_watches after.n left_files (freshened after.n (all_raised after raised)) (filter (stays_in left_files) (kernel_watches after after.watches))
    watches_are =
        let buried_now = buried after raised in
        let left = filter (is_kept (record after { files = left_files })) after.watches in
        kept_came (reportable_numbers before) (arrived buried_now.0 buried_now.1) left ∙ settled_all after left_files buried_now.1 counted h.seen

    ready_same : (e : ℕ) → is_ready unmarked e ≡ ready_now left_files unmarked.now zs e
    ready_same e =
        let ys = map (freshened after.n (all_raised after raised)) (filter (stays_in left_files) (kernel_watches after after.watches)) in
        ready_kept unmarked e ∙ (ap (λ (xs : List KernelWatch). ready_now left_files unmarked.now xs e) (watches_are ∙ climbed_rests (reached_now left_files after.n ys) left_files ys) ∙ ready_rests left_files unmarked.now zs e)

    waits_in : (w : Waiter) → Member w (map (marked_if_due unmarked.now) after.waiters) → has_instance left_files w.instance ≡ true
    waits_in w m =
        let v = due_member unmarked.now after.waiters w m in
        let at = all_member (λ u. kind_of (object_of (after_all after.files (dying after)) u.instance) ≡ 1) after.waiters v.0 (waits_on after h) v.1 in
        let same : left_files ≡ after_all after.files (dying after) = raised_before after.files raised (dying after) in
        ap (has_instance left_files) (sym v.2) ∙ (ap (λ (f : Files). has_instance f v.0.instance) same ∙ is_instance_of_kind _ at)

    abbrev due_now : List Waiter
    due_now = map (marked_if_due unmarked.now) after.waiters

    seen_now : AreSeen after.n alive unmarked.watches zs
    seen_now = seen_all (reached_now left_files after.n (map (freshened after.n (all_raised after raised)) (filter (stays_in left_files) (kernel_watches after after.watches)))) (reportable_numbers before) (arrived (buried after raised).0 (all_raised after raised)) refl after.watches

    regular_now : IsRegular unmarked
    regular_now = record { legal = regular.legal; instances = regular.instances; exclusive = regular.exclusive; numbers = regular.numbers }

    raised_alike : (e : ℕ) → has_instance left_files e ≡ true → has_bit (raised_of alive e) IN ≡ has_bit (raised_of raised e) IN
    raised_alike e inst = ap (λ (k : ℕ). has_bit k IN) (alive_raised left_files (all_raised after raised) e (instance_lives left_files e inst)) ∙ raised_in_same after.files raised (dying after) e (made_if_backed after.files h.placed) inst

    -- what is ready, guarded and woken at the end, by registrations as they stand then
    pub ready_at_end : (e : ℕ) → is_ready t e ≡ ready_now t.files t.now (standing after raised t.files) e
    ready_at_end e = law_ready_same unmarked t.n t.waiters e ∙ ready_same e

    pub guarded_at_end : (e : ℕ) → is_guarded t e ≡ guarded_now (standing after raised t.files) e
    guarded_at_end e = guarded_same unmarked t.n t.waiters e ∙ guarded_seen after.n alive unmarked zs seen_now e

    pub woken_at_end : (e : ℕ) → has_instance t.files e ≡ true → is_woken before unmarked alive due_now e ≡ wakes_at_end before.waiters after raised t e
    woken_at_end e inst =
        woken_seen after.n alive unmarked zs seen_now regular_now counted (ready_now left_files unmarked.now zs) ready_same due_now waits_in before e inst
        ∙ ap (λ (b : Bool). b || reached_now left_files after.n (narrowed_now left_files after.n zs (ready_now left_files unmarked.now zs) due_now) e || is_left before unmarked e) (raised_alike e inst)

    -- marks, by registrations as they are kept
    kept_marks : t.waiters ≡ marked_by (marks_at_end before.waiters after raised t) t.now after.waiters
    kept_marks =
        let due = map (marked_if_due unmarked.now) after.waiters in
        let seen = seen_all (reached_now left_files after.n (map (freshened after.n (all_raised after raised)) (filter (stays_in left_files) (kernel_watches after after.watches)))) (reportable_numbers before) (arrived (buried after raised).0 (all_raised after raised)) refl after.watches in
        first_same (gets_mark before unmarked alive due) (marks_at_end before.waiters after raised t) due [] due (λ w m.
        let inst = waits_in w m in
        gets_seen after.n alive unmarked zs seen regular_before counted (ready_now left_files unmarked.now zs) ready_same due waits_in before w.instance inst
        ∙ ap (λ (b : Bool). ready_now left_files unmarked.now zs w.instance && (not (guarded_now zs w.instance) || (b || reached_now left_files after.n (narrowed_now left_files after.n zs (ready_now left_files unmarked.now zs) due) w.instance || is_left before unmarked w.instance)))
        (ap (λ (k : ℕ). has_bit k IN) (alive_raised left_files (all_raised after raised) w.instance (instance_lives left_files w.instance inst)) ∙ raised_in_same after.files raised (dying after) w.instance (made_if_backed after.files h.placed) inst)) where
          regular_before : IsRegular unmarked
          regular_before = record { legal = regular.legal; instances = regular.instances; exclusive = regular.exclusive; numbers = regular.numbers }

    -- the settling of a change
    pub settle_changed : Settles before.waiters after raised t
    settle_changed =
        let buried_now = buried after raised in
        let left = filter (is_kept (record after { files = left_files })) after.watches in
        record {
          n = refl;
          now = refl;
          files = raised_before after.files raised (dying after);
          watches = watches_are;
          added = refl;
          waiters = kept_marks;
          seen = seen_came (reportable_numbers before) (arrived buried_now.0 buried_now.1) left (settled_seen after left_files buried_now.1 counted after.watches h.seen);
        }

-- a report, by registrations as they are kept
no_news : (wanted : ℕ) (c : Counts) → arrived_since wanted c c ≡ false
no_news wanted c =
    (λ i. has_bit wanted IN && itself c.of_in i || has_bit wanted OUT && itself c.of_out i || has_bit wanted ERR && itself c.of_err i || has_bit wanted HUP && itself c.of_hup i || has_bit wanted RDHUP && itself c.of_rdhup i)
    ∙ none (has_bit wanted IN) (has_bit wanted OUT) (has_bit wanted ERR) (has_bit wanted HUP) (has_bit wanted RDHUP) where
      itself : (k : ℕ) → nat_lt k k ≡ false
      itself k = grind (arith, nat_tests)

      none : (p q r s t : Bool) → (p && false || q && false || r && false || s && false || t && false) ≡ false
      none p q r s t = λ i. never p i || never q i || never r i || never s i || never t i

reported_one : (s : State) (ks : List ℕ) (x : Watch) → kernel_watch s (reported s ks x) ≡ kernel_reported s.n ks (kernel_watch s x)
reported_one s ks x =
    elim (is_among ks x.number) as (λ b. kernel_watch s (cond b (record x { seen = Some (counts_of s x.target); rep = s.n; from = s.n; armed = x.armed && not (has_bit x.mask ONESHOT) }) x)
    ≡ cond b (record (kernel_watch s x) { armed = x.armed && not (has_bit x.mask ONESHOT); fresh = false; reported_in = s.n }) (kernel_watch s x)) [
      | true ↦ ap (λ (t : Bool). record (kernel_watch s x) { armed = x.armed && not (has_bit x.mask ONESHOT); fresh = t; reported_in = s.n }) (no_news (asked x.mask every_shown_bit) (counts_of s x.target))
      | false ↦ refl
    ]

reported_all : (s : State) (ks : List ℕ) (xs : List Watch) → kernel_watches s (map (reported s ks) xs) ≡ map (kernel_reported s.n ks) (kernel_watches s xs)
reported_all s ks [] = refl
reported_all s ks (x ∷ xs) = let one = reported_one s ks x in let rest = reported_all s ks xs in λ i. one i ∷ rest i

-- what a report does to registrations, as they are kept
pub reported_kept : (s : State) (ks : List ℕ) → kernel_watches s (map (reported s ks) s.watches) ≡ map (kernel_reported s.n ks) (kernel_watches s s.watches)
reported_kept s ks = reported_all s ks s.watches

-- Which descriptions die: those that live and that nothing names.
among_lives : (f : Files) (xs : List (ℕ × Place)) (d : ℕ) → ArePlaced f xs → is_among (numbers xs) d ≡ true → is_live f d ≡ true
among_lives f [] d p h = absurd (false≢true h)
among_lives f (x ∷ xs) d p h = elim (same_or_not d x.0) [
  | inl e ↦ subst (λ (m : ℕ). is_live f m ≡ true) (sym e) (ap is_some p.0)
  | inr ne ↦ among_lives f xs d p.1 (ap (λ (b : Bool). b || is_among (numbers xs) d) (sym (test_apart d x.0 ne)) ∙ h)
]

module _ (s : State) where
  pub dying_test : (d : ℕ) → is_among (numbers (dying s)) d ≡ (is_live s.files d && not (is_among (named s) d))
  dying_test d = elim (cases_Bool (is_among (numbers (dying s)) d)) [
    | inl dies ↦ dies ∙ sym (λ i. among_lives s.files (dying s) d (dying_placed s) dies i && not (dying_unnamed s d dies i))
    | inr stays ↦
        elim (cases_Bool (is_live s.files d)) [
          | inl lives ↦
              elim (cases_Bool (is_among (named s) d)) [
                | inl holds ↦ stays ∙ sym (λ i. lives i && not (holds i))
                | inr fails ↦ absurd (false≢true (sym stays ∙ unnamed_dying s d lives fails))
              ]
          | inr dead ↦ stays ∙ sym (ap (λ (b : Bool). b && not (is_among (named s) d)) dead)
        ]
  ]

-- a state in which no waiter is forgotten is settled
none_among : (xs : List (ℕ × Place)) → ((d : ℕ) → is_among (numbers xs) d ≡ false) → xs ≡ []
none_among [] h = refl
none_among (x ∷ xs) h = absurd (false≢true (sym (h x.0) ∙ ap (λ (b : Bool). b || is_among (numbers xs) x.0) (same_nat x.0)))

none_dying : (s : State) → AtRest s → dying s ≡ []
none_dying s h = none_among (dying s) (λ d. dying_test s d ∙ (ap (λ (b : Bool). is_live s.files d && not b) (h.named d) ∙ and_not_itself (is_live s.files d)))

all_stay : (f : Files) (xs : List KernelWatch) → AreSteady f xs → filter (stays_in f) xs ≡ xs
all_stay f [] h = refl
all_stay f (x ∷ xs) h =
    let one = h 0 x (omega arith) in
    let keeps : stays_in f x ≡ true = λ i. one.instance_lives i && one.target_lives i in
    let rest = all_stay f xs (λ k d lt. h (suc k) d (omega arith)) in
    ap (λ (b : Bool). cond b (x ∷ filter (stays_in f) xs) (filter (stays_in f) xs)) keeps ∙ ap (λ (ys : List KernelWatch). x ∷ ys) rest

-- what is raised nowhere is noted nowhere, and reaches no instance
module _ (s : State) (counted : (0 == s.n) ≡ false) where
  unnoted : (xs : List KernelWatch) → map (freshened s.n []) xs ≡ xs
  unnoted [] = refl
  unnoted (x ∷ xs) = λ i. nothing_new x i ∷ unnoted xs i where
    nothing_new : (y : KernelWatch) → freshened s.n [] y ≡ y
    nothing_new y = λ i. stirred s.n (zero_brings y.mask i) ((ap (λ (t : Bool). y.armed && t) (zero_asked y.mask) ∙ never y.armed) i) y

  carries_nothing : (files : Files) (x : Watch) → carries (λ d. false) files s.n (kernel_watch s x) ≡ false
  carries_nothing files x = λ i. counted i || none x.armed (watches_instance files (kernel_watch s x)) (nat_lt 0 (asked x.mask IN)) i where
    none : (a w q : Bool) → (a && w && false && q) ≡ false
    none true true q = refl
    none true false q = refl
    none false w q = refl

  nobody : (r : ℕ → Bool) (files : Files) (e : ℕ) (xs : List Watch) → r ≡ (λ d. false) → list_any (λ x. x.instance == e && carries r files s.n x) (kernel_watches s xs) ≡ false
  nobody r files e [] h = refl
  nobody r files e (x ∷ xs) h = λ i. never (x.instance == e) ((ap (λ (q : ℕ → Bool). carries q files s.n (kernel_watch s x)) h ∙ carries_nothing files x)) i || nobody r files e xs h i where
    never : (p : Bool) {q : Bool} → q ≡ false → (p && q) ≡ false
    never true e = e
    never false e = refl

  reaches_none : (k : ℕ) (files : Files) (xs : List Watch) → reached_within k files s.n (kernel_watches s xs) ≡ (λ d. false)
  reaches_none zero files xs = refl
  reaches_none (suc k) files xs = λ i e. nobody (reached_within k files s.n (kernel_watches s xs)) files e xs (reaches_none k files xs) i

  reached_none : (files : Files) (xs : List Watch) → reached_now files s.n (kernel_watches s xs) ≡ (λ d. false)
  unfolding reached_now
  reached_none files xs = reaches_none 5 files xs

  unclimbed : (files : Files) (xs : List Watch) → map (climbing (λ d. false) files) (kernel_watches s xs) ≡ kernel_watches s xs
  unclimbed files [] = refl
  unclimbed files (x ∷ xs) = λ i. still (watches_instance files (kernel_watch s x)) i ∷ unclimbed files xs i where
    still : (w : Bool) → record (kernel_watch s x) { fresh = w && false && brings x.mask IN || is_fresh s x } ≡ kernel_watch s x
    still true = refl
    still false = refl

  rested : (xs : List Watch) → map resting (kernel_watches s xs) ≡ kernel_watches s xs
  rested [] = refl
  rested (x ∷ xs) = ap (λ (ys : List KernelWatch). kernel_watch s x ∷ ys) (rested xs)

  quiet_climb : (files : Files) (xs : List Watch) → climbing_all s.n files (map (freshened s.n []) (kernel_watches s xs)) ≡ kernel_watches s xs
  quiet_climb files xs =
      ap (climbing_all s.n files) (unnoted (kernel_watches s xs))
      ∙ (ap (λ (r : ℕ → Bool). map (climbing r files) (kernel_watches s xs)) (reached_none files xs) ∙ unclimbed files xs)

  quiet_watches : (files : Files) (xs : List Watch) → settled_watches s.n files (freshened s.n []) (kernel_watches s xs) ≡ kernel_watches s xs
  quiet_watches files xs =
      let ys = map (freshened s.n []) (kernel_watches s xs) in
      climbed_rests (reached_now files s.n ys) files ys ∙ (ap (map resting) (quiet_climb files xs) ∙ rested xs)

  -- nothing passes anything on, so nothing is to be narrowed, and nobody leaves
  quiet_narrow : (k : KernelWatch → Bool) (xs : List Watch) → map (λ x. passing_if (k x) x) (kernel_watches s xs) ≡ kernel_watches s xs
  quiet_narrow k [] = refl
  quiet_narrow k (x ∷ xs) = λ i. zero_if (k (kernel_watch s x)) i ∷ quiet_narrow k xs i where
    zero_if : (b : Bool) → record (kernel_watch s x) { passes_in = if b then 0 else 0 } ≡ kernel_watch s x
    zero_if true = refl
    zero_if false = refl

  here_still : (all ws : List Waiter) → ((w : Waiter) → Member w ws → Member w all) → (e : ℕ) → left_now ws all e ≡ false
  here_still all [] within e = refl
  here_still all (w ∷ ws) within e =
      let there : list_any (λ v. v.caller == w.caller) all ≡ true = any_has (λ v. v.caller == w.caller) all w (within w (inl refl)) (same_nat w.caller) in
      let rest = here_still all ws (λ v m. within v (inr m)) e in
      (λ i. w.instance == e && not (there i) || rest i) ∙ and_false_or (w.instance == e)

  quiet_standing : AtRest s → standing s [] s.files ≡ kernel_watches s s.watches
  quiet_standing h =
      ap (λ (xs : List (ℕ × Place)). climbing_all s.n s.files (map (freshened s.n (die_all (s.files, []) xs).1) (filter (stays_in s.files) (kernel_watches s s.watches)))) (none_dying s h)
      ∙ (ap (λ (xs : List KernelWatch). climbing_all s.n s.files (map (freshened s.n []) xs)) (all_stay s.files (kernel_watches s s.watches) (all_to_kept s.files s s.watches h.watches))
      ∙ quiet_climb s.files s.watches)

  quiet_marks : AtRest s → (e : ℕ) → needs_mark s e ≡ marks_at_end s.waiters s [] s e
  quiet_marks h e =
      let xs = kernel_watches s s.watches in
      let due = map (marked_if_due s.now) s.waiters in
      let ready = ready_now s.files s.now xs in
      let reached : reached_now s.files s.n (narrowed_now s.files s.n xs ready due) e ≡ false =
      ap (λ (ys : List KernelWatch). reached_now s.files s.n ys e) (quiet_narrow (keeps_passing s.files s.n xs ready due) s.watches) ∙ ap (λ (f : ℕ → Bool). f e) (reached_none s.files s.watches) in
      sym ((λ i. gets_mark_now s.files s.now s.n (quiet_standing h i) due (λ d. false) (left_now s.waiters s.waiters) e)
      ∙ ((λ i. ready e && (not (guarded_now xs e) || (false || reached i || here_still s.waiters s.waiters (λ w m. m) e i))) ∙ last (ready e) (not (guarded_now xs e)))) where
        last : (r g : Bool) → (r && (g || (false || false || false))) ≡ (r && g)
        last true true = refl
        last true false = refl
        last false g = refl

pub settled_quiet : (s : State) → (0 == s.n) ≡ false → AtRest s → Settles s.waiters s [] s
settled_quiet s counted h = record {
  n = refl;
  now = refl;
  files = ap (λ (xs : List (ℕ × Place)). (die_all (s.files, []) xs).0) (sym (none_dying s h));
  watches =
      sym (quiet_watches s counted s.files s.watches)
      ∙ (ap (settled_watches s.n s.files (freshened s.n [])) (sym (all_stay s.files (kernel_watches s s.watches) (all_to_kept s.files s s.watches h.watches)))
      ∙ ap (λ (xs : List (ℕ × Place)). settled_watches s.n s.files (freshened s.n (die_all (s.files, []) xs).1) (filter (stays_in s.files) (kernel_watches s s.watches))) (sym (none_dying s h)));
  added = refl;
  waiters = sym h.marks ∙ marks_same (needs_mark s) (marks_at_end s.waiters s [] s) s.now s.waiters (λ w m. quiet_marks s counted h w.instance);
  seen = h.seen;
}
