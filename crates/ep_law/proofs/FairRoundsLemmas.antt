-- While a registration stays reportable and unreported, none of its instance is reported twice.
use Rattle.std.proofs.Common.{◌≡◌, ℕ, zero, suc, ◌+◌, ◌<◌, ◌≤◌, ◌==◌, ◌&&◌, ◌||◌, ◌++◌, ◌∙◌, All, Bool, List, [], ◌∷◌, MatchOption, None, Option, Some, ℤ, pos, negsuc, true, false, not, ap, arith, cond, filter, get_or, if◌then◌else◌, inl, inr, length, map, nat_le, refl, subst, sym, append_assoc}
use Rattle.std.specs.List.{list_all}
use Rattle.std.proofs.lemmas.Bool.{cases_Bool}
use Rattle.std.proofs.lemmas.List.{append-nil}
use Rattle.std.proofs.lemmas.List.Elements.{All-filter, All-map, All-push}
use Rattle.ep_facts.proofs.AmongFacts.{among_append}
use Rattle.ep_facts.proofs.OptionFacts.{value_of}
use Rattle.ep_facts.proofs.NatFacts.{from_le, from_test}
use Rattle.ep_facts.proofs.BoolFacts.{first_of_and, from_not, or_cases, second_of_and}
use Rattle.ep_base.specs.Limits.{Limits}
use Rattle.ep_base.specs.declared.answer.Answer.{Answer}
use Rattle.ep_base.specs.declared.answer.Answer.TheVariants.{Events}
use Rattle.ep_base.specs.declared.call.Call.{Call}
use Rattle.ep_base.specs.declared.call.Call.TheVariants.{EpollCtl, EpollWait}
use Rattle.ep_base.specs.declared.call.Event.{Event}
use Rattle.ep_base.specs.declared.call.Event.TheVariants.{Call as CallOf, Resume, Tick}
use Rattle.ep_base.specs.declared.errno.Errno.{Errno}
use Rattle.ep_base.specs.declared.record.Record.{Record}
use Rattle.ep_machine.specs.Bits.{ONESHOT, has_bit}
use Rattle.ep_machine.specs.Deaths.{buried, die_all, dying, is_kept, without_dead_watches}
use Rattle.ep_machine.specs.Effect.{first}
use Rattle.ep_machine.specs.Files.{named_by}
use Rattle.ep_law.specs.Laws.{FairRounds, Member, is_in, is_left_out, is_reportable_in, told_of}
use Rattle.ep_machine.specs.Lists.{are_distinct, is_among}
use Rattle.ep_machine.specs.Readiness.{is_ready, is_reportable, reportables}
use Rattle.ep_machine.specs.Refusal.{refusals}
use Rattle.ep_machine.specs.Report.{find_watch, is_fair_to, is_pick, plainly, report, report_of, reported, watches_at}
use Rattle.ep_machine.specs.Run.{checked, go_on, same_answer}
use Rattle.ep_machine.specs.Settle.{came, reportable_numbers, settle}
use Rattle.ep_law.specs.Sound.{Sound}
use Rattle.ep_machine.specs.Spread.{arrived}
use Rattle.ep_machine.specs.State.{Change, State, Watch, counts_of}
use Rattle.ep_machine.specs.Step.{next_event, call_change, change, refused_or, settled, step}
use Rattle.ep_machine.specs.Waits.{leave_after, resume, tick, wait_for}
use Rattle.ep_machine.specs.Watches.{ctl, has_key, is_add, is_del, modified, new_watch, number_in, with_watch}
use Rattle.ep_law.proofs.ListLemmas.{all_member, among_member, distinct_append, distinct_filtered, each_found, filtered_member, filtered_passes, find_member, found_member, list_all_member, mapped_member, one_number, among, any_member, member_filter, member_map}
use Rattle.ep_law.proofs.StepLemmas.{left_after, resumes, only_files}
use Rattle.ep_law.proofs.SoundLemmas.{sound_begun, sound_run, sound_step}
use Rattle.ep_machine.specs.Objects.{asks}
use Rattle.std.proofs.Common.{subst, sym}

-- k became reportable by event m; what was told was reported after it
record Tracks (k m : ℕ) (told : List ℕ) (s : State) : Type 0 where
  pub from : All (λ x. x.number ≡ k → x.from ≤ m) s.watches
  pub rep : All (λ x. is_among told x.number ≡ true → m < x.rep) s.watches
  pub below : (j : ℕ) → is_among told j ≡ true → j ≤ s.added
  pub there : k ≤ s.added
  pub past : m ≤ s.n

-- one registration and what becomes of it
record Keeps (k m : ℕ) (told : List ℕ) (x y : Watch) : Type 0 where
  pub number : y.number ≡ x.number
  pub from : (x.number ≡ k → x.from ≤ m) → y.number ≡ k → y.from ≤ m
  pub rep : (is_among told x.number ≡ true → m < x.rep) → is_among told y.number ≡ true → m < y.rep

module _ (k m : ℕ) (told : List ℕ) where
  same_watches : (s t : State) → t.watches ≡ s.watches → t.added ≡ s.added → t.n ≡ s.n → Tracks k m told s → Tracks k m told t
  same_watches s t w a n h = record {
    from = subst (λ (xs : List Watch). All (λ x. x.number ≡ k → x.from ≤ m) xs) (sym w) h.from;
    rep = subst (λ (xs : List Watch). All (λ x. is_among told x.number ≡ true → m < x.rep) xs) (sym w) h.rep;
    below = λ j t'. omega (arith, a, h.below j t');
    there = omega (arith, a, h.there);
    past = omega (arith, n, h.past);
  }

  tracks_filter : (s : State) (p : Watch → Bool) → Tracks k m told s → Tracks k m told (record s { watches = filter p s.watches })
  tracks_filter s p h = record {
    from = All-filter p (λ x. x.number ≡ k → x.from ≤ m) s.watches h.from;
    rep = All-filter p (λ x. is_among told x.number ≡ true → m < x.rep) s.watches h.rep;
    below = h.below;
    there = h.there;
    past = h.past;
  }

  tracks_map : (s : State) (f : Watch → Watch) → ((x : Watch) → Keeps k m told x (f x)) → Tracks k m told s → Tracks k m told (record s { watches = map f s.watches })
  tracks_map s f keeps h = record {
    from = All-map (λ x. x.number ≡ k → x.from ≤ m) f s.watches (λ i d lt. (keeps (get_or s.watches i d)).from (h.from i d lt));
    rep = All-map (λ x. is_among told x.number ≡ true → m < x.rep) f s.watches (λ i d lt. (keeps (get_or s.watches i d)).rep (h.rep i d lt));
    below = h.below;
    there = h.there;
    past = h.past;
  }

  keeps_same : (x y : Watch) → y.number ≡ x.number → y.rep ≡ x.rep → y.from ≡ x.from → Keeps k m told x y
  keeps_same x y n r f = record {
    number = n;
    from = λ h e. omega (arith, f, h (sym n ∙ e));
    rep = λ h t. omega (arith, r, h (ap (is_among told) (sym n) ∙ t));
  }

  tracks_add : (s : State) (e fd d mask tag : ℕ) → Tracks k m told s → Tracks k m told (with_watch s (new_watch s e fd d mask tag))
  tracks_add s e fd d mask tag h =
      let x = new_watch s e fd d mask tag in record {
        from = All-push (λ y. y.number ≡ k → y.from ≤ m) s.watches x h.from (λ n. omega arith);
        rep = All-push (λ y. is_among told y.number ≡ true → m < y.rep) s.watches x h.rep (λ t. absurd (let b = h.below (s.added + 1) t in omega arith));
        below = λ j t. let b = h.below j t in omega arith;
        there = let b = h.there in omega arith;
        past = h.past;
      }

  keeps_modified : (e fd d mask tag : ℕ) (x : Watch) → Keeps k m told x (modified e fd d mask tag x)
  keeps_modified e fd d mask tag x = elim (has_key e fd d x) as (λ b. Keeps k m told x (cond b (record x { mask = mask; tag = tag; armed = true; seen = None }) x)) [
    | true ↦ keeps_same x (record x { mask = mask; tag = tag; armed = true; seen = None }) refl refl refl
    | false ↦ keeps_same x x refl refl refl
  ]

  -- k was reportable before, so it doesn't come to be
  keeps_came : (earlier : List ℕ) (s : State) → is_among earlier k ≡ true → (x : Watch) → Keeps k m told x (came earlier s x)
  keeps_came earlier s was x =
      let y : Watch = record x { from = s.n } in
      let new : Bool = not (is_among earlier x.number) && is_reportable s x in
      elim (cases_Bool new) [
        | inl t ↦
            let other : x.number ≡ k → ⊥ = λ e. false_is (is_among earlier x.number) (ap (is_among earlier) e ∙ was) (first_of_and _ _ t) in
            subst (λ (b : Bool). Keeps k m told x (cond b y x)) (sym t) (record { number = refl; from = λ h e. absurd (other e); rep = λ h told'. h told' })
        | inr f ↦ subst (λ (b : Bool). Keeps k m told x (cond b y x)) (sym f) (keeps_same x x refl refl refl)
      ] where
        false_is : (a : Bool) → a ≡ true → not a ≡ true → ⊥
        false_is true h n = cc
        false_is false h n = cc

  tracks_settle : (before after : State) (raised : List (ℕ × ℕ)) → is_among (reportable_numbers before) k ≡ true → Tracks k m told after → Tracks k m told (settle before after raised)
  tracks_settle before after raised was h =
      let files = (die_all (after.files, raised) (dying after)).0 in
      let left = without_dead_watches (record after { files = files }) in
      let t = arrived left (buried after raised).1 in
      let kept : Tracks k m told left = tracks_filter (record after { files = files }) (is_kept (record after { files = files })) (same_watches after (record after { files = files }) refl refl refl h) in
      same_watches (record t { watches = map (came (reportable_numbers before) t) t.watches }) (settle before after raised) refl refl refl
      (tracks_map t (came (reportable_numbers before) t) (keeps_came (reportable_numbers before) t was) (same_watches left t refl refl refl kept))

-- What is told besides.

reported_from : (s : State) (ks : List ℕ) (x : Watch) → is_among ks x.number ≡ false → (reported s ks x).from ≡ x.from
reported_from s ks x h = ap (λ (b : Bool). (cond b (record x { seen = Some (counts_of s x.target); rep = s.n; from = s.n; armed = x.armed && not (has_bit x.mask ONESHOT) }) x).from) h

reported_number : (s : State) (ks : List ℕ) (x : Watch) → (reported s ks x).number ≡ x.number
reported_number s ks x = elim (is_among ks x.number) as (λ b. (cond b (record x { seen = Some (counts_of s x.target); rep = s.n; from = s.n; armed = x.armed && not (has_bit x.mask ONESHOT) }) x).number ≡ x.number) [ true ↦ refl | false ↦ refl ]

reported_rep : (s : State) (ks : List ℕ) (x : Watch) (m : ℕ) → m < s.n → (is_among ks x.number ≡ false → m < x.rep) → m < (reported s ks x).rep
reported_rep s ks x m lt h =
    elim (is_among ks x.number) as (λ b. (b ≡ false → m < x.rep) → m < (cond b (record x { seen = Some (counts_of s x.target); rep = s.n; from = s.n; armed = x.armed && not (has_bit x.mask ONESHOT) }) x).rep) [
      | true ↦ λ g. lt
      | false ↦ λ g. g refl
    ] h

module _ (k m : ℕ) (told ks more : List ℕ) (s : State) (now : m < s.n) (left : is_among ks k ≡ false) (each : (j : ℕ) → is_among more j ≡ true → (is_among ks j ≡ true) × (j ≤ s.added)) where
  tracks_report : Tracks k m told s → Tracks k m (told ++ more) (record s { watches = map (reported s ks) s.watches })
  tracks_report h = record {
    from = All-map (λ x. x.number ≡ k → x.from ≤ m) (reported s ks) s.watches (λ i d lt e.
        let x = get_or s.watches i d in
        let is : x.number ≡ k = sym (reported_number s ks x) ∙ e in
        omega (arith, reported_from s ks x (ap (is_among ks) is ∙ left), h.from i d lt is));
    rep = All-map (λ x. is_among (told ++ more) x.number ≡ true → m < x.rep) (reported s ks) s.watches (λ i d lt t.
        let x = get_or s.watches i d in
        reported_rep s ks x m now (λ f.
        elim (or_cases _ _ (sym (among_append told more x.number) ∙ (ap (is_among (told ++ more)) (sym (reported_number s ks x)) ∙ t))) [
          | inl old ↦ h.rep i d lt old
          | inr new ↦ absurd (let u : false ≡ true = sym f ∙ (each x.number new).0 in cc)
        ]));
    below = λ j t. elim (or_cases _ _ (sym (among_append told more j) ∙ t)) [ inl old ↦ h.below j old | inr new ↦ (each j new).1 ];
    there = h.there;
    past = h.past;
  }

or_false : (a b : Bool) → a ≡ false → (a || b) ≡ true → b ≡ true
or_false true b h t = cc
or_false false b h t = t

no_round : (a b c : ℕ) → a ≤ b → b ≤ c → c < a → ⊥
no_round a b c p q r = omega (arith, p, q, r)

-- where k of e is left out of a pick, nothing of e that is picked was told
module _ (k m e other most : ℕ) (told ks : List ℕ) (s : State) (sound : Sound s) (h : Tracks k m told s) (left : is_among ks k ≡ false) (stays : is_reportable_in s e k ≡ true) (pick : is_pick s other most ks ≡ true) where
  none_told : (j : ℕ) → is_in s e j ≡ true → is_among ks j ≡ true → is_among told j ≡ true → ⊥
  none_told j inside picked old =
      let ready = reportables s other in
      let reports = watches_at ready ks in
      let sizes = first_of_and _ _ (first_of_and _ _ pick) in
      let long : length reports ≡ length ks = from_test _ _ (second_of_and (are_distinct ks) (length reports == length ks) sizes) in
      let fair : list_all (is_fair_to reports ks) ready ≡ true = second_of_and _ _ pick in
      let there : Member j ks = among_member ks j picked in
      let found = value_of (find_watch ready j) (each_found (find_watch ready) ks j long there) in
      let x = found.0 in
      let at = find_member ready j x found.1 in
      let told_here : Member x reports = found_member (find_watch ready) ks j x there found.1 in
      let x_in : Member x s.watches = filtered_member _ s.watches x at.0 in
      let x_of : x.instance ≡ other = from_test _ _ (first_of_and _ _ (filtered_passes _ s.watches x at.0)) in
      let same = any_member (λ w. w.instance == e && w.number == j) s.watches inside in
      let number : same.0.number ≡ j = from_test _ _ (second_of_and _ _ same.2) in
      let is : x ≡ same.0 = one_number s.watches x same.0 sound.numbers x_in same.1 (at.1 ∙ sym number) in
      let one : e ≡ other = sym (from_test same.0.instance e (first_of_and _ _ same.2)) ∙ (ap (λ (w : Watch). w.instance) (sym is) ∙ x_of) in
      let waiting = mapped_member (λ w. w.number) (reportables s e) k (among_member _ k stays) in
      let y = waiting.0 in
      let y_ready : Member y ready = subst (λ (i : ℕ). Member y (reportables s i)) one waiting.1 in
      let y_fair = list_all_member (is_fair_to reports ks) ready y fair y_ready in
      let all = or_false (is_among ks y.number) _ (ap (is_among ks) waiting.2 ∙ left) y_fair in
      let less : x.rep ≤ y.from = from_le _ _ (list_all_member (λ w. nat_le w.rep y.from) reports x all told_here) in
      let late : y.from ≤ m = all_member (λ w. w.number ≡ k → w.from ≤ m) s.watches y h.from (filtered_member _ s.watches y waiting.1) waiting.2 in
      let after : m < x.rep = all_member (λ w. is_among told w.number ≡ true → m < w.rep) s.watches x h.rep x_in (ap (is_among told) at.1 ∙ old) in
      no_round x.rep y.from m less late after

  distinct_pick : are_distinct ks ≡ true
  distinct_pick = first_of_and (are_distinct ks) _ (first_of_and _ _ (first_of_and _ _ pick))

-- it is there
number_there : (s : State) (e k : ℕ) → Sound s → is_reportable_in s e k ≡ true → k ≤ s.added
number_there s e k sound stays =
    let waiting = mapped_member (λ w. w.number) (reportables s e) k (among_member _ k stays) in
    let most = all_member (λ w. w.number ≤ s.added) s.watches waiting.0 sound.below (filtered_member _ s.watches waiting.0 waiting.1) in
    subst (λ (n : ℕ). n ≤ s.added) waiting.2 most

number_reportable : (s : State) (e k : ℕ) → is_reportable_in s e k ≡ true → is_among (reportable_numbers s) k ≡ true
number_reportable s e k stays =
    let waiting = mapped_member (λ w. w.number) (reportables s e) k (among_member _ k stays) in
    let y = waiting.0 in
    let at = member_filter (is_reportable s) y s.watches (filtered_member _ s.watches y waiting.1) (second_of_and _ _ (filtered_passes _ s.watches y waiting.1)) in
    ap (is_among (reportable_numbers s)) (sym waiting.2) ∙ among y.number _ (member_map (λ w. w.number) y (filter (is_reportable s) s.watches) at)

-- One step, from the state at its beginning.
module _ (limits : Limits) (e k m : ℕ) (told : List ℕ) (s : State) (sound : Sound s) (h : Tracks k m told s) (now : m < s.n) (distinct : are_distinct told ≡ true) (stays : is_reportable_in s e k ≡ true) where
  Good : List ℕ → State → Type 0
  Good ks t = Tracks k m (told ++ filter (is_in s e) ks) t × (are_distinct (told ++ filter (is_in s e) ks) ≡ true)

  good_none : (t : State) → Tracks k m told t → Good [] t
  unfolding Good
  good_none t g = (subst (λ (js : List ℕ). Tracks k m js t) (sym (append-nil told)) g, ap are_distinct (append-nil told) ∙ distinct)

  Fine : List ℕ → Option Change → Type 0
  Fine ks c = MatchOption c (Unit {0}) (λ o. Good ks o.1)

  fine_plainly : (ks : List ℕ) (c : Change) → Tracks k m told c.1 → Fine ks (plainly ks c)
  unfolding Fine
  fine_plainly [] c g = good_none c.1 g
  fine_plainly (j ∷ ks) c g = tt

  fine_if : (ks : List ℕ) (b : Bool) (c d : Option Change) → Fine ks c → Fine ks d → Fine ks (cond b c d)
  fine_if ks true c d g f = g
  fine_if ks false c d g f = f

  in_and_below : (ks : List ℕ) (j : ℕ) → is_among (filter (is_in s e) ks) j ≡ true → (is_among ks j ≡ true) × (j ≤ s.added) × (is_in s e j ≡ true)
  in_and_below ks j t =
      let at = among_member (filter (is_in s e) ks) j t in
      let inside = filtered_passes (is_in s e) ks j at in
      let x = any_member (λ w. w.instance == e && w.number == j) s.watches inside in
      let number = from_test x.0.number j (second_of_and _ _ x.2) in
      let most = all_member (λ w. w.number ≤ s.added) s.watches x.0 sound.below x.1 in
      (among j ks (filtered_member (is_in s e) ks j at), subst (λ (n : ℕ). n ≤ s.added) number most, inside)

  fine_report : (other most : ℕ) (ks : List ℕ) → is_among ks k ≡ false → Fine ks (report s other most ks)
  unfolding Fine Good
  fine_report other most ks left =
      let more = filter (is_in s e) ks in
      let c : Change = (Events (map (report_of s) (watches_at s.watches ks)), record s { watches = map (reported s ks) s.watches }, []) in
      elim (cases_Bool (is_pick s other most ks)) [
        | inl pick ↦ subst (λ (b : Bool). Fine ks (cond b (Some c) None)) (sym pick) (
          tracks_report k m told ks more s now left (λ j t. let r = in_and_below ks j t in (r.0, r.1)) h,
          distinct_append told more distinct (distinct_filtered (is_in s e) ks (distinct_pick k m e other most told ks s sound h left stays pick))
              (λ j old new. let r = in_and_below ks j new in none_told k m e other most told ks s sound h left stays pick j r.2 r.0 old),
        )
        | inr none ↦ subst (λ (b : Bool). Fine ks (cond b (Some c) None)) (sym none) tt
      ]

  tracks_wait_for : (caller p other most : ℕ) (timeout : ℤ) → Tracks k m told (wait_for s caller p other most timeout).1
  tracks_wait_for caller p other most (pos zero) = h
  tracks_wait_for caller p other most (pos (suc i)) = same_watches k m told s _ refl refl refl h
  tracks_wait_for caller p other most (negsuc i) = same_watches k m told s _ refl refl refl h

  tracks_if : (b : Bool) (c d : Change) → Tracks k m told c.1 → Tracks k m told d.1 → Tracks k m told (cond b c d).1
  tracks_if true c d g f = g
  tracks_if false c d g f = f

  tracks_ctl : (p : ℕ) (epfd op fd : ℤ) (mask tag : ℕ) → Tracks k m told (ctl s p epfd op fd mask tag).1
  tracks_ctl p epfd op fd mask tag =
      let i = named_by s.files p epfd in
      let d = named_by s.files p fd in
      let n = number_in fd in
      tracks_if (is_add op) _ _ (tracks_add k m told s i n d mask tag h)
      (tracks_if (is_del op) _ _ (tracks_filter k m told s (λ x. not (has_key i n d x)) h) (tracks_map k m told s (modified i n d mask tag) (keeps_modified k m told i n d mask tag) h))

  fine_call : (caller p : ℕ) (call : Call) (ks : List ℕ) → is_among ks k ≡ false → Fine ks (call_change limits s caller p call ks)
  fine_call caller p (EpollCtl epfd op fd mask tag) ks left = fine_plainly ks _ (tracks_ctl p epfd.0 op fd.0 mask.0 tag)
  fine_call caller p (EpollWait epfd most timeout) ks left =
      let i = named_by s.files p epfd.0 in
      fine_if ks (is_ready s i) _ _ (fine_report i (number_in most) ks left) (fine_plainly ks _ (tracks_wait_for caller p i (number_in most) timeout))
  fine_call caller p call ks left =
      let only = only_files limits s p call (asks s.files.objects call) in
      fine_plainly ks _ (subst (Tracks k m told) (sym only.1) (same_watches k m told s (record s { files = only.0 }) refl refl refl h))

  IsStep : List ℕ → Option (Answer × State) → Type 0
  IsStep ks o = MatchOption o (Unit {0}) (λ c. Good ks c.1)

  fine_settled : (ks : List ℕ) (c : Option Change) → Fine ks c → IsStep ks (settled s c)
  unfolding Fine IsStep Good
  fine_settled ks None g = tt
  fine_settled ks (Some c) g = (tracks_settle k m (told ++ filter (is_in s e) ks) s c.1 c.2 (number_reportable s e k stays) g.0, g.1)

  fine_refused : (errno : Option Errno) (ks : List ℕ) (c : Option Change) → Fine ks c → IsStep ks (refused_or errno s ks c)
  unfolding IsStep
  fine_refused None ks c g = fine_settled ks c g
  fine_refused (Some errno) [] c g = good_none s h
  fine_refused (Some errno) (j ∷ ks) c g = tt

  fine_left : (caller : ℕ) (ks : List ℕ) (o : Option Change) → Fine ks o → Fine ks (leave_after caller o)
  unfolding Fine Good
  fine_left caller ks o g = left_after (Good ks) (λ t ws f. (same_watches k m (told ++ filter (is_in s e) ks) t _ refl refl refl f.0, f.1)) caller o g

  fine_event : (caller : ℕ) (event : Event) (ks : List ℕ) → is_among ks k ≡ false → IsStep ks (refused_or (first (refusals limits s caller event)) s ks (change limits s caller event ks))
  fine_event caller (CallOf p call) ks left = fine_refused (first (refusals limits s caller (CallOf p call))) ks (call_change limits s caller p.0 call ks) (fine_call caller p.0 call ks left)
  fine_event caller Resume ks left = fine_refused (first (refusals limits s caller Resume)) ks (resume s caller ks)
      (resumes (Fine ks) s caller ks (fine_plainly ks _ h) (λ w. fine_left w.caller ks _ (fine_report w.instance w.most ks left)) (λ w. fine_plainly ks _ (same_watches k m told s _ refl refl refl h)) (λ w. fine_plainly ks _ (same_watches k m told s _ refl refl refl h)))
  fine_event caller (Tick n) ks left = fine_refused (first (refusals limits s caller (Tick n))) ks (plainly ks (tick s n)) (fine_plainly ks _ (same_watches k m told s _ refl refl refl h))

  told_step : (t : State) (caller : ℕ) (event : Event) (ks : List ℕ) (a : Answer) → is_among ks k ≡ false → refused_or (first (refusals limits s caller event)) s ks (change limits s caller event ks) ≡ Some (a, t)
      → Tracks k m (told ++ filter (is_in s e) ks) t × (are_distinct (told ++ filter (is_in s e) ks) ≡ true)
  unfolding IsStep Good
  told_step t caller event ks a left is = subst (IsStep ks) is (fine_event caller event ks left)

-- The number of events plays no part in what is reportable.
reportable_begun : (s : State) (e k : ℕ) → is_reportable_in (next_event s) e k ≡ is_reportable_in s e k
unfolding is_ready
reportable_begun s e k = refl

le_next : (a b : ℕ) → a ≤ b → a ≤ b + 1
le_next a b h = omega (arith, h)

lt_next : (a b : ℕ) → a ≤ b → a < b + 1
lt_next a b h = omega (arith, h)

left_none : (limits : Limits) (e k : ℕ) (later : List Record) → is_left_out limits e k None later ≡ true → ⊥
left_none limits e k [] h = cc
left_none limits e k (r ∷ later) h = cc

rounds : (limits : Limits) (e k m : ℕ) (later : List Record) (told : List ℕ) (s : State) → Sound s → Tracks k m told s → are_distinct told ≡ true → is_left_out limits e k (Some s) later ≡ true → are_distinct (told ++ told_of limits e (Some s) later) ≡ true
rounds limits e k m [] told s sound h distinct left = ap are_distinct (append-nil told) ∙ distinct
rounds limits e k m (r ∷ later) told s sound h distinct left =
    let stays = first_of_and _ _ (first_of_and _ _ left) in
    let unpicked = from_not (is_among r.picked k) (second_of_and _ _ (first_of_and _ _ left)) in
    let rest : is_left_out limits e k (go_on limits (Some s) r) later ≡ true = second_of_and _ _ left in
    let more = filter (is_in s e) r.picked in
    let begin : Tracks k m told (next_event s) = record { from = h.from; rep = h.rep; below = h.below; there = h.there; past = le_next m s.n h.past } in
    let Q : Option (Answer × State) → Type 0 = λ o. step limits s r.caller.0 r.event r.picked ≡ o → is_left_out limits e k (checked r.answer o) later ≡ true → are_distinct ((told ++ more) ++ told_of limits e (checked r.answer o) later) ≡ true in
    let one : (o : Option (Answer × State)) → Q o = λ o. elim o as Q [
      | None ↦ λ is on. absurd (left_none limits e k later on)
      | Some c ↦ λ is on.
          let good = told_step limits e k m told (next_event s) (sound_begun s sound) begin (lt_next m s.n h.past) distinct (reportable_begun s e k ∙ stays) c.1 r.caller.0 r.event r.picked c.0 unpicked is in
          let sound_next = sound_step limits s c.1 r.caller.0 r.event r.picked c.0 sound is in
          let R : Bool → Type 0 = λ b. is_left_out limits e k (if b then Some c.1 else None) later ≡ true → are_distinct ((told ++ more) ++ told_of limits e (if b then Some c.1 else None) later) ≡ true in
          let next : (b : Bool) → R b = λ b. elim b as R [
            | true ↦ λ go. rounds limits e k m later (told ++ more) c.1 sound_next good.0 good.1 go
            | false ↦ λ go. absurd (left_none limits e k later go)
          ] in
          next (same_answer c.0 r.answer) on
    ] in
    ap are_distinct (sym (append_assoc told more (told_of limits e (go_on limits (Some s) r) later))) ∙ one (step limits s r.caller.0 r.event r.picked) refl rest

pub fair_rounds : FairRounds
fair_rounds limits past [] s e k runs left = refl
fair_rounds limits past (r ∷ later) s e k runs left =
    let sound = sound_run limits past s runs in
    let stays = first_of_and _ _ (first_of_and _ _ left) in
    let h : Tracks k s.n [] s = record { from = λ i d lt n. sound.past i d lt; rep = λ i d lt t. absurd (never t); below = λ j t. absurd (never t); there = number_there s e k sound stays; past = omega arith } in
    rounds limits e k s.n (r ∷ later) [] s sound h refl left where
      never : false ≡ true → ⊥
      never t = cc
