-- What a change does to what holds at descriptions, and to registrations.
use Rattle.std.proofs.Common.{◌≡◌, ℕ, zero, suc, ◌+◌, ◌<◌, ◌==◌, ◌&&◌, ◌++◌, ◌∙◌, ◌⊎◌, Bool, true, false, List, [], ◌∷◌, None, Option, Some, MatchOption, ℤ, pos, negsuc, not, cond, filter, get_or, inl, inr, is_none, length, map, refl, ap, arith, subst, sym, unwrap_or}
use Rattle.std.specs.List.{list_any}
use Rattle.std.specs.Int.{bit_at}
use Rattle.std.proofs.lemmas.Bool.{cases_Bool}
use Rattle.std.proofs.lemmas.List.{get_or_append_left, get_or-set_same}
use Rattle.ep_facts.proofs.NatFacts.{from_test, same_or_not}
use Rattle.ep_facts.proofs.BoolFacts.{first_of_and}
use Rattle.ep_base.specs.Limits.{Limits}
use Rattle.ep_base.specs.declared.answer.Answer.TheVariants.{Events, Still}
use Rattle.ep_base.specs.declared.call.Call.{Call}
use Rattle.ep_law.proofs.ShapeLemmas.{by_making, by_shape, by_joined}
use Rattle.ep_base.specs.declared.call.Event.{Event}
use Rattle.ep_base.specs.declared.call.Event.TheVariants.{Call as CallOf, Resume, Tick}
use Rattle.ep_base.specs.declared.errno.Errno.{Errno}
use Rattle.ep_base.specs.declared.errno.Errno.TheVariants.{Ebadf, Ebusy, Esrch}
use Rattle.ep_base.specs.declared.object.End.{End}
use Rattle.ep_base.specs.declared.object.End.TheVariants.{First, Second}
use Rattle.ep_machine.specs.Bits.{IN, ONESHOT, at_end, has_bit, raises, when}
use Rattle.ep_machine.specs.Effect.{Effect, first, unless}
use Rattle.ep_machine.specs.Files.{Files, Place, live, named_by, names_nothing, object_at, object_number, object_under, place_of, raised_at, side_under, table_of}
use Rattle.ep_law.specs.Laws.{Kept, Member}
use Rattle.ep_machine.specs.Lists.{is_among}
use Rattle.ep_machine.specs.Objects.{Object, ObjectCall, advance, is_instance, is_plain, object_effect, object_present, object_refusals, plain}
use Rattle.ep_law.proofs.Present.{present_at}
use Rattle.ep_machine.specs.Readiness.{is_ready, is_reportable}
use Rattle.ep_machine.specs.Refusal.{call_refusals, on_object, refusals}
use Rattle.ep_machine.specs.Report.{is_pick, plainly, report, report_of, reported, watches_at}
use Rattle.ep_machine.specs.Spread.{raised_of}
use Rattle.ep_machine.specs.State.{Change, State, Waiter, Watch, counts_of}
use Rattle.ep_machine.specs.Step.{call_change, change, object_change, joined}
use Rattle.ep_machine.specs.Tables.{affected, create_one, create_two, new_object}
use Rattle.ep_machine.specs.FilesCalls.{files_call}
use Rattle.ep_machine.specs.Waits.{advance_at, has_parked, is_due, is_parked, leave, leave_after, resume_by, resume_empty, tick, unmarked, wait, wait_for, waiter_of}
use Rattle.ep_machine.specs.Watches.{add, ctl, delete, has_key, is_add, is_del, looked_at, modified, modify, new_watch, number_in, with_watch}
use Rattle.ep_law.proofs.GraphLemmas.{member_of_map}
use Rattle.ep_law.proofs.InstanceLemmas.{FirstIsNone, Narrows, narrows_affected, narrows_one, narrows_self, narrows_two, narrows_trans, first_waits, narrows_accept}
use Rattle.ep_law.proofs.ListLemmas.{any_has, filtered_member, member_filter, member_map}
use Rattle.ep_law.proofs.DeathLemmas.{get_other}
use Rattle.ep_object.specs.Law.{AdvanceLaw, ApplyLaw, object_has, CloseLaw}
use Rattle.ep_object.proofs.BitLemmas.{Covers, covers_more, covers_self, no_bit, to_bits, covers_then}
use Rattle.ep_object.proofs.KindLemmas.{call_keeps_plain, effect_has, plain_is}
use Rattle.ep_law.proofs.EndLemmas.{Own, object_there, own_one, own_two, own_with_object, own_describe}
use Rattle.ep_law.proofs.RaiseLemmas.{live_member, present_place, raised_member, raised_there, raised_first, raised_last}
use Rattle.ep_law.proofs.ReplaceLemmas.{narrows_replaced, own_replaced, still, found_listens, join_replaces, abandoned_go, accept_replaces}
use Rattle.ep_law.proofs.ReplaceLemmas.{accept_below, accept_has, accept_free, Replaces, have_ends}
use Rattle.ep_machine.specs.Connections.{accept, accepted, without_pending}
use Rattle.ep_machine.specs.Files.{with_object, side_in}
use Rattle.ep_machine.specs.Listening.{Listener}
use Rattle.ep_machine.specs.Objects.{is_waiting}
use Rattle.ep_object.specs.Connecting.{IsListener}
use Rattle.ep_object.proofs.ConnectionLemmas.{pending_listener}

-- one that was looked at, as it was made or changed
abbrev pub IsLooked : State → List (ℕ × ℕ) → Watch → Type 0
IsLooked after raised x = is_reportable after x ≡ true → bit_at (raised_of raised x.instance) 0 ≡ 1

pub record Moves (b after : State) (raised : List (ℕ × ℕ)) : Type 0 where
  pub arrivals : after.arrivals ≡ b.arrivals
  pub own : Own after.files
  pub narrows : Narrows b.files after.files
  pub shows : (d : ℕ) (p : Place) → place_of b.files d ≡ Some p → Covers (present_at b.files b.now d) (present_at after.files after.now d) (raised_of raised d)
  pub comes : (x : Watch) → Member x after.watches → Kept b x ⊎ IsLooked after raised x

abbrev pub kept_same : (b : State) (x : Watch) → Member x b.watches → Kept b x
kept_same b x m = record { was = x; there = m; instance = refl; target = refl; mask = refl; armed = λ a. a; seen = inl refl }

same_shows : (f g : Files) (now d : ℕ) (p : Place) (raised : List (ℕ × ℕ)) → place_of f d ≡ Some p → place_of g d ≡ Some p → object_there g p.object ≡ object_there f p.object → Covers (present_at f now d) (present_at g now d) (raised_of raised d)
same_shows f g now d p raised before after same =
    let e : present_at f now d ≡ present_at g now d = present_place f now d p before ∙ (ap (λ (y : Object). object_present y p.side now) (sym same) ∙ sym (present_place g now d p after)) in
    subst (λ (n : ℕ). Covers (present_at f now d) n (raised_of raised d)) e (covers_self _ _)

-- Registrations alone.
moves_watches : (b : State) (xs : List Watch) (added : ℕ) (raised : List (ℕ × ℕ)) → Own b.files → ((x : Watch) → Member x xs → Kept b x ⊎ IsLooked (record b { watches = xs; added = added }) raised x) → Moves b (record b { watches = xs; added = added }) raised
moves_watches b xs added raised own comes = record { arrivals = refl; own = own; narrows = narrows_self b.files own.made; shows = λ d p here. covers_self _ _; comes = comes }

kept_reported : (b : State) (ks : List ℕ) (w : Watch) → Member w b.watches → Kept b (reported b ks w)
kept_reported b ks w m =
    let y : Watch = record w { seen = Some (counts_of b w.target); rep = b.n; from = b.n; armed = w.armed && not (has_bit w.mask ONESHOT) } in
    elim (is_among ks w.number) as (λ c. Kept b (cond c y w)) [
      | true ↦ record { was = w; there = m; instance = refl; target = refl; mask = refl; armed = λ a. first_of_and w.armed _ a; seen = inr refl }
      | false ↦ kept_same b w m
    ]

looked_raises : (after : State) (e : ℕ) (xs : List Watch) (x : Watch) → Member x xs → x.instance ≡ e → IsLooked after (looked_at after e xs) x
looked_raises after e xs x m at shows =
    let any = any_has (is_reportable after) xs x m shows in
    raised_member (looked_at after e xs) x.instance (when (list_any (is_reportable after) xs) IN) 0 (inl (λ i. (at i, when (list_any (is_reportable after) xs) IN))) (ap (λ (b : Bool). bit_at (when b IN) 0) any)

pushed_member : (xs : List Watch) (x y : Watch) → Member y (xs ++ x ∷ []) → Member y xs ⊎ (y ≡ x)
pushed_member [] x y (inl e) = inr e
pushed_member [] x y (inr m) = absurd m
pushed_member (z ∷ xs) x y (inl e) = inl (inl e)
pushed_member (z ∷ xs) x y (inr m) = elim (pushed_member xs x y m) [ inl r ↦ inl (inr r) | inr e ↦ inr e ]

moves_add : (b : State) (e fd d mask tag : ℕ) → Own b.files → Moves b (add b e fd d mask tag).1 (add b e fd d mask tag).2
moves_add b e fd d mask tag own =
    let x = new_watch b e fd d mask tag in
    let after = with_watch b x in
    moves_watches b (b.watches ++ x ∷ []) (b.added + 1) (looked_at after e (x ∷ [])) own (λ y m. elim (pushed_member b.watches x y m) [
      | inl old ↦ inl (kept_same b y old)
      | inr new ↦ inr (subst (λ (z : Watch). IsLooked after (looked_at after e (x ∷ [])) z) (sym new) (looked_raises after e (x ∷ []) x (inl refl) refl))
    ])

moves_modify : (b : State) (e fd d mask tag : ℕ) → Own b.files → Moves b (modify b e fd d mask tag).1 (modify b e fd d mask tag).2
moves_modify b e fd d mask tag own =
    let xs = map (modified e fd d mask tag) b.watches in
    let after : State = record b { watches = xs } in
    let chosen = filter (has_key e fd d) xs in
    moves_watches b xs b.added (looked_at after e chosen) own (λ y m.
    let w = member_of_map (modified e fd d mask tag) b.watches y m in
    elim (cases_Bool (has_key e fd d w.0)) [
      | inl holds ↦
          let z : Watch = record w.0 { mask = mask; tag = tag; armed = true; seen = None } in
          let is : y ≡ z = sym w.2 ∙ ap (λ (c : Bool). cond c z w.0) holds in
          let key : has_key e fd d y ≡ true = ap (has_key e fd d) is ∙ holds in
          let at : y.instance ≡ e = from_test y.instance e (first_of_and (y.instance == e) _ (first_of_and _ _ key)) in
          inr (looked_raises after e chosen y (member_filter (has_key e fd d) y xs m key) at)
      | inr fails ↦
          let z : Watch = record w.0 { mask = mask; tag = tag; armed = true; seen = None } in
          let is : y ≡ w.0 = sym w.2 ∙ ap (λ (c : Bool). cond c z w.0) fails in
          inl (subst (Kept b) (sym is) (kept_same b w.0 w.1))
    ])

moves_delete : (b : State) (e fd d : ℕ) → Own b.files → Moves b (delete b e fd d).1 (delete b e fd d).2
moves_delete b e fd d own =
    let p : Watch → Bool = λ x. not (has_key e fd d x) in
    moves_watches b (filter p b.watches) b.added [] own (λ y m. inl (kept_same b y (filtered_member p b.watches y m)))

moves_if : (b : State) (t : Bool) (c d : Change) → Moves b c.1 c.2 → Moves b d.1 d.2 → Moves b (cond t c d).1 (cond t c d).2
moves_if b true c d h k = h
moves_if b false c d h k = k

moves_ctl : (b : State) (p : ℕ) (epfd op fd : ℤ) (mask tag : ℕ) → Own b.files → Moves b (ctl b p epfd op fd mask tag).1 (ctl b p epfd op fd mask tag).2
moves_ctl b p epfd op fd mask tag own =
    let e = named_by b.files p epfd in
    let d = named_by b.files p fd in
    let k = number_in fd in
    moves_if b (is_add op) (add b e k d mask tag) _ (moves_add b e k d mask tag own)
    (moves_if b (is_del op) (delete b e k d) (modify b e k d mask tag) (moves_delete b e k d own) (moves_modify b e k d mask tag own))

first_is_none : (f : Files) → Own f → FirstIsNone f
first_is_none f own = (own.some, ap is_instance (plain_is (object_there f 0) own.first))

-- Tables and waiters alone.
own_same : (f g : Files) → g.descriptions ≡ f.descriptions → g.objects ≡ f.objects → Own f → Own g
own_same f g d o own =
    let h : Files = record g { descriptions = f.descriptions; objects = f.objects } in
    let same : h ≡ g = λ i. record g { descriptions = sym d i; objects = sym o i } in
    subst Own same (record { made = own.made; some = own.some; first = own.first; apart = own.apart; ends = own.ends })

moves_tables : (b : State) (g : Files) (ws : List Waiter) → g.descriptions ≡ b.files.descriptions → g.objects ≡ b.files.objects → Own b.files → Moves b (record b { files = g; waiters = ws }) []
moves_tables b g ws d o own =
    let h : Files = record g { descriptions = b.files.descriptions; objects = b.files.objects } in
    let same : h ≡ g = λ i. record g { descriptions = sym d i; objects = sym o i } in
    record {
      arrivals = refl;
      own = own_same b.files g d o own;
      narrows = subst (λ (f : Files). Narrows b.files f) same (record { longer = omega arith; made = own.made; instances = λ k lt i. i; dead = λ k lt i. i; stays = λ k i l. i; first = λ i. i });
      shows = λ k p here. subst (λ (f : Files). Covers (present_at b.files b.now k) (present_at f b.now k) (raised_of [] k)) same (covers_self _ _);
      comes = λ x m. inl (kept_same b x m);
    }

-- New objects and descriptions.
place_below : (ds : List (Option Place)) (d : ℕ) (p : Place) → get_or ds d None ≡ Some p → d < length ds
place_below [] d p e = cc
place_below (x ∷ ds) zero p e = omega arith
place_below (x ∷ ds) (suc d) p e = let lt = place_below ds d p e in omega (arith, lt)

still_there : (ds : List (Option Place)) (new : Place) (d : ℕ) (p : Place) → get_or ds d None ≡ Some p → get_or (ds ++ Some new ∷ []) d None ≡ Some p
still_there ds new d p e = get_or_append_left ds (Some new ∷ []) None d (place_below ds d p e) ∙ e

module _ (b : State) (p : ℕ) (x : Object) (cloexec : Bool) (own : Own b.files) where
  same_object : (q : Place) (d : ℕ) → place_of b.files d ≡ Some q → object_there (new_object b.files x) q.object ≡ object_there b.files q.object
  same_object q d e = ap (λ (o : Option Object). unwrap_or o plain) (get_or_append_left b.files.objects (Some x ∷ []) None q.object (own.made d q e))

  moves_one : object_has x First ≡ true → Moves b (record b { files = create_one b.files p x cloexec }) []
  moves_one has = record {
    arrivals = refl;
    own = own_one b.files p x cloexec has own;
    narrows = narrows_one b.files p x cloexec own.made;
    shows = λ d q here. same_shows b.files (create_one b.files p x cloexec) b.now d q [] here (still_there b.files.descriptions _ d q here) (same_object q d here);
    comes = λ y m. inl (kept_same b y m);
  }

  moves_two : object_has x First ≡ true → object_has x Second ≡ true → Moves b (record b { files = create_two b.files p x cloexec }) []
  moves_two has also = record {
    arrivals = refl;
    own = own_two b.files p x cloexec has also own;
    narrows = narrows_two b.files p x cloexec own.made;
    shows = λ d q here. same_shows b.files (create_two b.files p x cloexec) b.now d q [] here (still_there (create_one b.files p x cloexec).descriptions _ d q (still_there b.files.descriptions _ d q here)) (same_object q d here);
    comes = λ y m. inl (kept_same b y m);
  }

-- A call on an object.
pub under_is : (f : Files) → Own f → (o : Option Place) → unwrap_or (object_at f o) plain ≡ object_there f (object_number o)
under_is f own None = sym (plain_is (object_there f 0) own.first)
under_is f own (Some p) = refl

module _ (apply : ApplyLaw) (b : State) (p : ℕ) (fd : ℤ) (asked : ObjectCall) (own : Own b.files) (allowed : first (object_refusals (object_under b.files p fd) (side_under b.files p fd) b.now asked) ≡ None) where
  abbrev x : Object
  x = object_under b.files p fd

  abbrev e : End
  e = side_under b.files p fd

  abbrev o : Option Place
  o = place_of b.files (named_by b.files p fd)

  abbrev k : ℕ
  k = object_number o

  abbrev made : Effect Object
  made = object_effect x e b.now asked

  abbrev g : Files
  g = affected b.files (named_by b.files p fd) made

  is_x : object_there b.files k ≡ x
  is_x = sym (under_is b.files own o)

  at_object : (d : ℕ) (q : Place) → place_of b.files d ≡ Some q → q.object ≡ k → Covers (object_present x q.side b.now) (object_present made.1 q.side b.now) (raised_of (raised_at b.files k made.2) d)
  at_object d q here at =
      let has : object_has x q.side ≡ true = ap (λ (y : Object). object_has y q.side) (sym is_x) ∙ subst (λ (j : ℕ). object_has (object_there b.files j) q.side ≡ true) at (own.ends d q here) in
      let law = subst (λ (r : Option Errno). (s : End) → object_has x s ≡ true → object_has (unless r x made).1 s ≡ true → Covers (object_present x s b.now) (object_present (unless r x made).1 s b.now) (at_end (unless r x made).2 s)) allowed
      (λ s was is. to_bits _ _ _ (apply x e b.now asked s was is)) in
      covers_more _ _ (at_end made.2 q.side) _ (λ i. raised_there b.files k made.2 d q i here at) (law q.side has (effect_has x e b.now asked q.side ∙ has))

  shows_affected : (d : ℕ) (q : Place) → place_of b.files d ≡ Some q → Covers (present_at b.files b.now d) (present_at g b.now d) (raised_of (raised_at b.files k made.2) d)
  shows_affected d q here = elim (same_or_not q.object k) [
    | inl at ↦
        let old : object_present x q.side b.now ≡ present_at b.files b.now d =
        ap (λ (y : Object). object_present y q.side b.now) (sym is_x ∙ ap (object_there b.files) (sym at)) ∙ sym (present_place b.files b.now d q here) in
        let lt : k < length b.files.objects = subst (λ (j : ℕ). j < length b.files.objects) at (own.made d q here) in
        let there : made.1 ≡ object_there g q.object = sym (ap (object_there g) at ∙ ap (λ (y : Option Object). unwrap_or y plain) (get_or-set_same b.files.objects k (Some made.1) None lt)) in
        let new : object_present made.1 q.side b.now ≡ present_at g b.now d = ap (λ (y : Object). object_present y q.side b.now) there ∙ sym (present_place g b.now d q here) in
        subst (λ (n : ℕ). Covers n (present_at g b.now d) (raised_of (raised_at b.files k made.2) d)) old
        (subst (λ (n : ℕ). Covers (object_present x q.side b.now) n (raised_of (raised_at b.files k made.2) d)) new (at_object d q here at))
    | inr other ↦
        same_shows b.files g b.now d q (raised_at b.files k made.2) here here (ap (λ (y : Option Object). unwrap_or y plain) (get_other b.files.objects k q.object (Some made.1) (λ i. other (sym i))))
  ]

  pub moves_object : Moves b (object_change b p fd asked).1 (object_change b p fd asked).2
  moves_object = record {
    arrivals = refl;
    own = own_with_object b.files k made.1 own (λ s h. effect_has x e b.now asked s ∙ (ap (λ (y : Object). object_has y s) (sym is_x) ∙ h)) (λ h. call_keeps_plain x e b.now asked ∙ (ap is_plain (sym is_x) ∙ h));
    narrows = narrows_affected b.files p fd b.now asked own.made (first_is_none b.files own);
    shows = shows_affected;
    comes = λ y m. inl (kept_same b y m);
  }

-- What connections change of objects that others have.
-- every description may be called
abbrev any : ℕ → Bool
any d = true

moves_then : (b after : State) (raised : List (ℕ × ℕ)) (g : Files) (more : List (ℕ × ℕ)) → after.now ≡ b.now → after.watches ≡ b.watches → Moves b after raised → Replaces any after.now after.files g more → Moves b (record after { files = g }) (raised ++ more)
moves_then b after raised g more same watches m r = record {
  arrivals = m.arrivals;
  own = own_replaced any after.now after.files g more r m.own;
  narrows = narrows_trans b.files after.files g m.narrows (narrows_replaced any after.now after.files g more r m.own);
  shows = λ d p here. covers_then _ _ _ (raised_of raised d) (raised_of more d) (raised_of (raised ++ more) d) (raised_first raised more d) (raised_last raised more d) (m.shows d p here) (at d (place_of after.files d) refl);
  comes = λ x y. inl (kept_same b x (subst (Member x) watches y));
} where
  at : (d : ℕ) (o : Option Place) → place_of after.files d ≡ o → Covers (present_at after.files after.now d) (present_at g after.now d) (raised_of more d)
  at d None is =
      let none : place_of g d ≡ None = ap (λ (ds : List (Option Place)). get_or ds d None) r.places ∙ is in
      let nothing : present_at g after.now d ≡ 0 = ap (λ (q : Option Place). object_present (unwrap_or (object_at g q) plain) (side_in q) after.now) none in
      λ i h. absurd (no_bit i (subst (λ (n : ℕ). bit_at n i ≡ 1) nothing h))
  at d (Some q) is =
      subst (λ (n : ℕ). Covers n (present_at g after.now d) (raised_of more d)) (sym (present_place after.files after.now d q is))
      (subst (λ (n : ℕ). Covers (object_present (object_there after.files q.object) q.side after.now) n (raised_of more d)) (sym (present_place g after.now d q (still any after.now after.files g more r d q is))) (r.like d q is).covers)

-- The clock.
module _ (clock : AdvanceLaw) (b : State) (later : ℕ) (own : Own b.files) where
  abbrev new : ℕ
  new = b.now + later

  abbrev raised : List (ℕ × ℕ)
  raised = map (advance_at b new) (live b.files)

  at_side : (d : ℕ) (q : Place) (s : End) (i : ℕ) → place_of b.files d ≡ Some q → bit_at (at_end (raises (advance (object_there b.files q.object) b.now new) 0) s) i ≡ 1 → bit_at (raised_of raised d) i ≡ 1
  at_side d q First i here h = raised_member raised d (advance (object_there b.files q.object) b.now new) i (member_map (advance_at b new) (d, q) (live b.files) (live_member b.files d q here)) h
  at_side d q Second i here h = absurd (no_bit i h)

  moves_tick : Moves b (tick b later).1 (tick b later).2
  moves_tick = record {
    arrivals = refl;
    own = own;
    narrows = narrows_self b.files own.made;
    shows = λ d q here.
        let y = object_there b.files q.object in
        let law = to_bits _ _ _ (clock y b.now new q.side (own.ends d q here)) in
        subst (λ (n : ℕ). Covers n (present_at b.files new d) (raised_of raised d)) (sym (present_place b.files b.now d q here))
        (subst (λ (n : ℕ). Covers (object_present y q.side b.now) n (raised_of raised d)) (sym (present_place b.files new d q here))
        (covers_more _ _ _ _ (λ i. at_side d q q.side i here) law));
    comes = λ x m. inl (kept_same b x m);
  }

-- Changes.
Fine : State → Option Change → Type 0
Fine b c = MatchOption c (Unit {0}) (λ o. Moves b o.1 o.2)

fine_plainly : (b : State) (ks : List ℕ) (c : Change) → Moves b c.1 c.2 → Fine b (plainly ks c)
unfolding Fine
fine_plainly b [] c h = h
fine_plainly b (k ∷ ks) c h = tt

fine_if : (b : State) (t : Bool) (c d : Option Change) → Fine b c → Fine b d → Fine b (cond t c d)
fine_if b true c d h k = h
fine_if b false c d h k = k

fine_option_if : (b : State) (t : Bool) (c : Change) → Moves b c.1 c.2 → Fine b (cond t (Some c) None)
unfolding Fine
fine_option_if b true c h = h
fine_option_if b false c h = tt

fine_report : (b : State) (e most : ℕ) (ks : List ℕ) → Own b.files → Fine b (report b e most ks)
fine_report b e most ks own =
    let c : Change = (Events (map (report_of b) (watches_at b.watches ks)), record b { watches = map (reported b ks) b.watches }, []) in
    fine_option_if b (is_pick b e most ks) c (moves_watches b (map (reported b ks) b.watches) b.added [] own (λ y m.
    let w = member_of_map (reported b ks) b.watches y m in
    inl (subst (Kept b) w.2 (kept_reported b ks w.0 w.1))))

moves_wait_for : (b : State) (caller p e most : ℕ) (timeout : ℤ) → Own b.files → Moves b (wait_for b caller p e most timeout).1 (wait_for b caller p e most timeout).2
moves_wait_for b caller p e most (pos zero) own = moves_tables b b.files b.waiters refl refl own
moves_wait_for b caller p e most (pos (suc k)) own = moves_tables b b.files _ refl refl own
moves_wait_for b caller p e most (negsuc k) own = moves_tables b b.files _ refl refl own

fine_wait : (b : State) (caller p e most : ℕ) (timeout : ℤ) (ks : List ℕ) → Own b.files → Fine b (wait b caller p e most timeout ks)
fine_wait b caller p e most timeout ks own = fine_if b (is_ready b e) _ _ (fine_report b e most ks own) (fine_plainly b ks _ (moves_wait_for b caller p e most timeout own))

-- a resumption reports and leaves, or is over, or goes on without its mark
fine_left : (b : State) (caller e most : ℕ) (ks : List ℕ) → Own b.files → Fine b (leave_after caller (report b e most ks))
unfolding Fine
fine_left b caller e most ks own =
    let c : Change = (Events (map (report_of b) (watches_at b.watches ks)), record b { watches = map (reported b ks) b.watches }, []) in
    let moves : Moves b (leave caller c).1 [] = record {
      arrivals = refl;
      own = own;
      narrows = narrows_self b.files own.made;
      shows = λ d p here. covers_self _ _;
      comes = λ y m. let w = member_of_map (reported b ks) b.watches y m in inl (subst (Kept b) w.2 (kept_reported b ks w.0 w.1));
    } in
    elim (is_pick b e most ks) as (λ t. Fine b (leave_after caller (cond t (Some c) None))) [ true ↦ moves | false ↦ tt ]

moves_resume_empty : (b : State) (w : Waiter) → Own b.files → Moves b (resume_empty b w).1 (resume_empty b w).2
moves_resume_empty b w own =
    moves_if b (is_due b.now w.deadline) (leave w.caller (Events [], b, [])) (Still, unmarked b w.caller, []) (moves_tables b b.files _ refl refl own) (moves_tables b b.files _ refl refl own)

fine_resume : (b : State) (o : Option Waiter) (ks : List ℕ) → Own b.files → Fine b (resume_by b o ks)
fine_resume b None ks own = fine_plainly b ks (Still, b, []) (moves_tables b b.files b.waiters refl refl own)
fine_resume b (Some w) ks own =
    fine_if b (not w.marked) _ _ (fine_plainly b ks (Still, b, []) (moves_tables b b.files b.waiters refl refl own))
    (fine_if b (is_ready b w.instance) _ _ (fine_left b w.caller w.instance w.most ks own) (fine_plainly b ks _ (moves_resume_empty b w own)))

first_rest : (t : Bool) (e : Errno) (rows : List (Bool × Errno)) → first ((t, e) ∷ rows) ≡ None → first rows ≡ None
first_rest true e rows h = cc
first_rest false e rows h = h

module _ (apply : ApplyLaw) (close : CloseLaw) (clock : AdvanceLaw) (limits : Limits) (b : State) (caller : ℕ) (ks : List ℕ) (own : Own b.files) where
  -- a connect joins who listens
  joins : (p : ℕ) (call : Call) (c : Change) → c.1.now ≡ b.now → c.1.watches ≡ b.watches → Moves b c.1 c.2 → Moves b (joined limits p call c).1 (joined limits p call c).2
  joins p call c now watches m =
      by_joined limits p (λ d. Moves b d.1 d.2) call c m (λ fd name x l same at is unix.
      let f = c.1.files in
      let o = place_of f (named_by f p fd.0) in
      let heard = found_listens f name l is in
      moves_then b c.1 c.2 _ _ now watches m
      (join_replaces any c.1.now limits.sock_bytes f (have_ends f m.own) (object_number o) l x heard.0 name (sym (under_is f m.own o) ∙ at) heard.1 unix (λ d p here also. refl)))

  on : (p : ℕ) (call : Call) (fd : ℤ) (asked : ObjectCall) → first (on_object b p fd asked) ≡ None → Fine b (plainly ks (joined limits p call (object_change b p fd asked)))
  on p call fd asked allowed =
      fine_plainly b ks _ (joins p call (object_change b p fd asked) refl refl
      (moves_object apply b p fd asked own (first_rest (names_nothing b.files p fd) Ebadf (object_refusals (object_under b.files p fd) (side_under b.files p fd) b.now asked) allowed)))

  abbrev IsFine : Call → List (Bool × Errno) → Option Change → Type 0
  IsFine call tests c = first tests ≡ None → Fine b c

  -- an accept describes the second end
  moves_accept : (p m k : ℕ) (cloexec : Bool) (l : Listener) → IsListener (object_there b.files m) l → is_waiting (object_there b.files k) ≡ true → Moves b (record b { files = accept b.files p m (Some k) cloexec }) []
  moves_accept p m k cloexec l is waits =
      let f = b.files in
      let r = accept_replaces any b.now f (have_ends f own) m k l is waits (λ d q here at. refl) in
      let made = with_object (with_object f m (without_pending k (object_there f m))) k (accepted (object_there f k)) in
      let owned = own_replaced any b.now f made [] r own in
      let below = accept_below any b.now f (have_ends f own) m k l is waits (λ d q here at. refl) in
      let shown = moves_then b b [] made [] refl refl (moves_tables b f b.waiters refl refl own) r in
      record {
        arrivals = refl;
        own = own_describe made p k Second cloexec below (accept_has any b.now f (have_ends f own) m k l is waits (λ d q here at. refl)) (accept_free any b.now f (have_ends f own) m k l is waits (λ d q here at. refl)) owned;
        narrows = narrows_accept f p m k cloexec own.made waits;
        shows = λ d q here.
            let at = still any b.now f made [] r d q here in
            covers_then _ _ _ 0 0 0 (λ i h. h) (λ i h. h) (shown.shows d q here) (same_shows made (accept f p m (Some k) cloexec) b.now d q [] at (still_there made.descriptions _ d q at) refl);
        comes = λ y w. inl (kept_same b y w);
      }

  moves_after : (p : ℕ) (call : Call) → Moves b (record b { files = (files_call limits b.files p (has_parked b p) call).after }) (files_call limits b.files p (has_parked b p) call).raised
  moves_after p call =
      by_making limits b.files p (has_parked b p) (λ of g raised. Moves b (record b { files = g }) raised)
      (λ of x cloexec has. moves_one b p x cloexec own has)
      (λ of x cloexec has also. moves_two b p x cloexec own has also)
      (λ of g d o. moves_tables b g b.waiters d o own)
      (λ of g d o. let m = moves_tables b g b.waiters d o own in moves_then b (record b { files = g }) [] _ _ refl refl m (abandoned_go close any b.now g (have_ends g m.own)))
      (λ fd cloexec k is.
      let o = place_of b.files (named_by b.files p fd.0) in
      let there = pending_listener (object_under b.files p fd.0) b.files k is in
      moves_accept p (object_number o) k cloexec there.0 (sym (under_is b.files own o) ∙ there.1) (first_waits b.files _ k is))
      call

  fine_call : (p : ℕ) (call : Call) → first (call_refusals limits b p call) ≡ None → Fine b (call_change limits b caller p call ks)
  fine_call p call =
      by_shape limits b caller p ks IsFine
      (λ epfd op fd mask tag allowed. fine_plainly b ks _ (moves_ctl b p epfd.0 op fd.0 mask.0 tag own))
      (λ epfd most timeout allowed. fine_wait b caller p (named_by b.files p epfd.0) (number_in most) timeout ks own)
      (λ of fd asked is allowed. on p of fd.0 asked allowed)
      (λ of is allowed. fine_plainly b ks _ (moves_after p of))
      call

  fine_change : (event : Event) → first (refusals limits b caller event) ≡ None → Fine b (change limits b caller event ks)
  fine_change (CallOf p call) allowed =
      let rows = call_refusals limits b p.0 call in
      fine_call p.0 call (first_rest (is_parked b caller) Ebusy rows (first_rest (is_none (table_of b.files p.0)) Esrch ((is_parked b caller, Ebusy) ∷ rows) allowed))
  fine_change Resume allowed = fine_resume b (waiter_of b caller) ks own
  fine_change (Tick k) allowed = fine_plainly b ks _ (moves_tick clock b k own)

  pub moves_change : (event : Event) (c : Change) → first (refusals limits b caller event) ≡ None → change limits b caller event ks ≡ Some c → Moves b c.1 c.2
  unfolding Fine
  moves_change event c allowed e = subst (Fine b) e (fine_change event allowed)
