-- Registrations that differ in what they pass on alone.
use Rattle.std.proofs.Common.{◌≡◌, ◌∙◌, ◌<◌, ◌≤◌, ◌++◌, ◌==◌, ◌&&◌, ◌||◌, All, Bool, IsSome, List, [], ◌∷◌, None, Option, Some, ap, arith, cond, false, filter, inl, inr, is_some, length, map, not, refl, subst, sym, true, ℕ, slice_index_or, unwrap_or}
use Rattle.std.specs.List.{list_any}
use Rattle.std.proofs.lemmas.Bool.{false≢true, or_parts}
use Rattle.ep_calls.specs.Parking.{ready_key}
use Rattle.ep_calls.specs.Readiness.{readiness, watches_of}
use Rattle.ep_calls.specs.Stands.{number_at, waiters_at, watch_at}
use Rattle.ep_choice.specs.Guarded.{guarded_key}
use Rattle.ep_choice.specs.Lost.{AreAbove, is_loose}
use Rattle.ep_climb.proofs.MarkLemmas.{lives_where, ready_in, turn_both, with_parked}
use Rattle.ep_climb.specs.Mark.{attended}
use Rattle.ep_law.proofs.ListLemmas.{among, among_member, filtered_member, filtered_passes, member_filter}
use Rattle.ep_machine.specs.Lists.{is_among}
use Rattle.ep_machine.specs.Marks.{marked_by}
use Rattle.ep_machine.specs.State.{Waiter}
use Rattle.ep_machine.specs.Waits.{marked_if_due, waits_at}
use Rattle.ep_nest.specs.Links.{edges}
use Rattle.ep_nest.specs.declared.link.Link.{Link}
use Rattle.ep_park.proofs.TurnLemmas.{marks_agree_unmarked}
use Rattle.ep_park.specs.Turns.{NamesUnmarked, marked_in_turn}
use Rattle.ep_view.specs.KernelView.{KernelWatch, reached_now, ready_now}
use Rattle.ep_view.specs.Marking.{choice_at, guarded_now, has_number, is_guard, passing_if}
use Rattle.std.specs.Option.{option_map}
use Rattle.std.proofs.lemmas.List.Elements.{All-cons, All-head, All-nil, All-tail}
use Rattle.ep_facts.proofs.BoolFacts.{first_of_and, or_cases, or_left, or_right, same_bools, second_of_and}
use Rattle.ep_facts.proofs.AmongFacts.{among_append}
use Rattle.ep_base.specs.declared.ids.DescId.{DescId}
use Rattle.ep_base.specs.declared.ids.EntryId.{EntryId}
use Rattle.ep_calls.specs.Climb.{is_nested_key}
use Rattle.ep_calls.specs.Parts.{AreCoherent, Parts}
use Rattle.ep_choice.proofs.NarrowLemmas.{guarded_idle, numbered_map, ready_idle}
use Rattle.ep_choice.specs.Choose.{AreOfInstances, HasKeys}
use Rattle.ep_choice.specs.Marking.{AreLookedAt, Fits, IsNarrowed, due_in, gets_mark_key, narrowed_in, woken_key}
use Rattle.ep_choice.specs.Narrow.{HasTargets, Lasts}
use Rattle.ep_choice.specs.Room.{HaveRoom}
use Rattle.ep_choice.specs.declared.choice.Choice.{Choice}
use Rattle.ep_climb.specs.Reach.{AreReached, AreRoomy}
use Rattle.ep_interest.specs.Exclusive.{is_exclusive, kept_passing, stops}
use Rattle.ep_interest.specs.Registrations.{Registrations, entry_found, entry_under, number_under as entry_number, settled}
use Rattle.ep_interest.specs.declared.entry.Entry.{Entry}
use Rattle.ep_walk.specs.Walk.{Walk}
use Rattle.ep_table.specs.Value.{Seen, number_under}

module _ (old new : Registrations) (entries : map settled new.entries ≡ map settled old.entries) (keys : new.keys ≡ old.keys) where
  found_settled : (xs : List Entry) (o : Option ℕ) → entry_found (map settled xs) o ≡ option_map settled (entry_found xs o)
  found_settled xs None = refl
  found_settled xs (Some k) = numbered_map settled (λ x. refl) xs k

  of_settled : (o : Option Entry) (y : Entry) → option_map settled o ≡ Some y → (x : Entry) × (o ≡ Some x) × (settled x ≡ y)
  of_settled None y h = absurd cc
  of_settled (Some x) y h = (x, refl, ap (λ (q : Option Entry). unwrap_or q (settled x)) h)

  -- what is under a key was there, but for what it passes on
  pub under_settled : (id : EntryId) (y : Entry) → entry_under new id ≡ Some y → (x : Entry) × (entry_under old id ≡ Some x) × (settled x ≡ settled y)
  under_settled id y h =
      of_settled (entry_under old id) (settled y)
      (sym (found_settled old.entries (entry_number old id))
      ∙ ((λ i. entry_found (sym entries i) (slice_index_or (sym keys i) id.0 None))
      ∙ (found_settled new.entries (entry_number new id) ∙ ap (option_map settled) h)))

  pub roomy_settled : (w : Walk) → AreRoomy old w → AreRoomy new w
  roomy_settled w roomy id y under =
      let x = under_settled id y under in
      subst (λ (d : DescId). d.0 < w.room) (ap (λ (z : Entry). z.instance) x.2) (roomy id x.0 x.1)

  pub keys_settled : (w : Walk) → HasKeys old w → HasKeys new w
  keys_settled w has id y under exclusive = let x = under_settled id y under in has id x.0 x.1 (ap is_exclusive x.2 ∙ exclusive)

  pub targets_settled : (w : Walk) → HasTargets old w → HasTargets new w
  targets_settled w has id y under exclusive =
      let x = under_settled id y under in
      subst (λ (d : DescId). d.0 < w.room) (ap (λ (z : Entry). z.desc) x.2) (has id x.0 x.1 (ap is_exclusive x.2 ∙ exclusive))

  pub instances_settled : (v : Seen) → AreOfInstances v old → AreOfInstances v new
  instances_settled v h = back new.entries (subst (All P) (sym entries) (forth old.entries h)) where
    P : Entry → Type 0
    P x = is_nested_key v x.instance ≡ true

    forth : (xs : List Entry) → All P xs → All P (map settled xs)
    forth [] a = All-nil P
    forth (x ∷ xs) a = All-cons P (settled x) (map settled xs) (All-head P x xs a) (forth xs (All-tail P x xs a))

    back : (xs : List Entry) → All P (map settled xs) → All P xs
    back [] a = All-nil P
    back (x ∷ xs) a = All-cons P x xs (All-head P (settled x) (map settled xs) a) (back xs (All-tail P (settled x) (map settled xs) a))

-- what fits the registrations fits them still
pub fits_settled : (p q : Parts) (w u : Walk) (c d : Choice) → map settled q.interest.entries ≡ map settled p.interest.entries → q.interest.keys ≡ p.interest.keys → q.tables ≡ p.tables
    → u.room ≡ w.room → d.candidates.keys.room ≡ c.candidates.keys.room → d.targets.room ≡ c.targets.room → d.lost.room ≡ c.lost.room → HaveRoom d.lost.reached w → Fits p w c → Fits q u d
fits_settled p q w u c d entries keys tables room candidates targets lost left h = record {
  instances = subst (λ (v : Seen). AreOfInstances v q.interest) (sym tables) (instances_settled p.interest q.interest entries keys p.tables h.instances);
  reached = λ id x under. subst (λ (n : ℕ). x.instance.0 < n) (sym room) (roomy_settled p.interest q.interest entries keys w h.reached id x under);
  choice = record {
    candidates = λ id x under e. subst (λ (n : ℕ). id.0 < n) (sym candidates) (keys_settled p.interest q.interest entries keys c.candidates.keys h.choice.candidates id x under e);
    targets = λ id x under e. subst (λ (n : ℕ). x.desc.0 < n) (sym targets) (targets_settled p.interest q.interest entries keys c.targets h.choice.targets id x under e);
    lost = λ id x under. subst (λ (n : ℕ). x.instance.0 < n) (sym lost) (roomy_settled p.interest q.interest entries keys c.lost h.choice.lost id x under);
  };
  lost = λ i t. subst (λ (n : ℕ). i < n) (sym room) (left i t);
}

-- Readiness and guards don't see what is passed on.
abbrev at_rest : Registrations → Registrations
at_rest r = record r { entries = map settled r.entries }

module _ (v : Seen) (now : ℕ) (old new : Registrations) (entries : map settled new.entries ≡ map settled old.entries) where
  pub ready_settled : readiness v now new ≡ readiness v now old
  ready_settled =
      sym (ready_idle v now new (at_rest new) (λ x. true) refl)
      ∙ (ap (λ (xs : List Entry). ready_now v.files now (map (watch_at v.keys) xs)) entries ∙ ready_idle v now old (at_rest old) (λ x. true) refl)

  pub guarded_settled : (k : ℕ) → guarded_key v new k ≡ guarded_key v old k
  guarded_settled k =
      let e = number_at v.keys (record { 0 = k }) in
      sym (guarded_idle v now new (at_rest new) (λ x. true) refl e)
      ∙ (ap (λ (xs : List Entry). guarded_now (map (watch_at v.keys) xs) e) entries ∙ guarded_idle v now old (at_rest old) (λ x. true) refl e)

-- Where nothing is exclusive nothing is narrowed.
none_exclusive : (xs : List Entry) → length (filter is_exclusive xs) ≡ 0 → list_any is_exclusive xs ≡ false
none_exclusive [] h = refl
none_exclusive (x ∷ xs) h = by (is_exclusive x) refl (none_exclusive xs) where
  by : (b : Bool) → is_exclusive x ≡ b → (length (filter is_exclusive xs) ≡ 0 → list_any is_exclusive xs ≡ false) → (b || list_any is_exclusive xs) ≡ false
  by true t rest = let more : length (x ∷ filter is_exclusive xs) ≡ 0 = sym (ap (λ (c : Bool). length (cond c (x ∷ filter is_exclusive xs) (filter is_exclusive xs))) t) ∙ h in absurd (omega (arith, more))
  by false f rest = rest (sym (ap (λ (c : Bool). length (cond c (x ∷ filter is_exclusive xs) (filter is_exclusive xs))) f) ∙ h)

unnarrowed : (keys : List (Option ℕ)) (kept : KernelWatch → Bool) (xs : List Entry) → list_any is_exclusive xs ≡ false → map (λ w. passing_if (not (is_guard w) || kept w) w) (map (watch_at keys) xs) ≡ map (watch_at keys) xs
unnarrowed keys kept [] h = refl
unnarrowed keys kept (x ∷ xs) h =
    let none = or_parts (is_exclusive x) (list_any is_exclusive xs) h in
    let w = watch_at keys x in
    let one : passing_if (not (is_guard w) || kept w) w ≡ w = ap (λ (b : Bool). passing_if (not b || kept w) w) none.0 in
    let rest = unnarrowed keys kept xs none.1 in
    λ i. one i ∷ rest i

pub none_narrowed : (n : ℕ) (p q : Parts) → q ≡ with_parked p (due_in p) → length (filter is_exclusive p.interest.entries) ≡ 0 → IsNarrowed n (with_parked p (due_in p)) q
none_narrowed n p q is none =
    subst (IsNarrowed n (with_parked p (due_in p))) (sym is)
    (record {
      watches = sym (unnarrowed p.tables.keys (λ w. has_number w.number (choice_at p.tables.files n (watches_of p.tables p.interest) (readiness p.tables p.clock p.interest) (waiters_at p.tables.keys (due_in p)) w.target)) p.interest.entries (none_exclusive p.interest.entries none));
      entries = refl;
      keys = refl;
      added = refl;
      next = refl;
      others = refl;
    })

-- Who is marked.

waits_due : (now : ℕ) (us : List Waiter) (e : ℕ) → waits_at (map (marked_if_due now) us) e ≡ waits_at us e
waits_due now [] e = refl
waits_due now (u ∷ us) e = ap (λ (b : Bool). u.instance == e || b) (waits_due now us e)

module _ (n : ℕ) (p b : Parts) (coherent : AreCoherent p) (narrowed : IsNarrowed n (with_parked p (due_in p)) b) where
  abbrev number_in : ℕ → ℕ
  number_in k = number_at p.tables.keys (record { 0 = k })

  ready_same : ready_in b ≡ ready_in p
  ready_same = ap ready_in narrowed.others ∙ (λ i k. ready_settled p.tables p.clock p.interest b.interest narrowed.entries i (number_in k))

  loose_same : is_loose b ≡ is_loose p
  loose_same = ap is_loose narrowed.others ∙ (λ i k. ready_settled p.tables p.clock p.interest b.interest narrowed.entries i (number_in k) && not (guarded_settled p.tables p.clock p.interest b.interest narrowed.entries k i))

  module _ (attend : Option DescId) (rs lost ks : List ℕ) (reached : AreReached n b.tables b.interest rs) (looked : AreLookedAt n p lost attend) (above : AreAbove (edges p.graph) lost ks) where
    abbrev here : List ℕ
    here = rs ++ attended attend

    abbrev first : List ℕ
    first = filter (ready_in p) here

    abbrev second : List ℕ
    second = filter (is_loose p) ks

    abbrev gets : ℕ → Bool
    gets = gets_mark_key n p attend

    abbrev reaches : ℕ → Bool
    reaches e = reached_now p.tables.files n (narrowed_in n p) (number_in e)

    told : (e : ℕ) → is_among rs e ≡ (is_some (number_under p.tables (record { 0 = e })) && reaches e)
    told e =
        subst (λ (v : Seen). AreReached n v b.interest rs) (λ i. (narrowed.others i).tables) reached (record { 0 = e })
        ∙ ap (λ (xs : List KernelWatch). is_some (number_under p.tables (record { 0 = e })) && reached_now p.tables.files n xs (number_in e)) narrowed.watches

    woken_here : (e : ℕ) → is_some (number_under p.tables (record { 0 = e })) ≡ true → woken_key n p attend e ≡ true → is_among here e ≡ true
    woken_here e lives h = among_append rs (attended attend) e ∙ elim (or_cases (reaches e) (is_among (attended attend) e) h) [
      | inl r ↦ or_left (is_among rs e) (is_among (attended attend) e) (told e ∙ (λ i. lives i && r i))
      | inr a ↦ or_right (is_among rs e) (is_among (attended attend) e) a
    ]

    here_woken : (e : ℕ) → is_among here e ≡ true → woken_key n p attend e ≡ true
    here_woken e h = elim (or_cases (is_among rs e) (is_among (attended attend) e) (sym (among_append rs (attended attend) e) ∙ h)) [
      | inl r ↦ or_left (reaches e) (is_among (attended attend) e) (second_of_and (is_some (number_under p.tables (record { 0 = e }))) (reaches e) (sym (told e) ∙ r))
      | inr a ↦ or_right (reaches e) (is_among (attended attend) e) a
    ]

    names : NamesUnmarked gets (due_in p) (first ++ second)
    names e waits none = same_bools (gets e) (is_among (first ++ second) e) to from where
      to : gets e ≡ true → is_among (first ++ second) e ≡ true
      to h =
          let ready = first_of_and (ready_in p e) (not (guarded_key p.tables p.interest e) || woken_key n p attend e) h in
          let at : waits_at p.parked e ≡ true = sym (waits_due p.clock p.parked e) ∙ waits in
          let lives = lives_where p.tables p.parked e coherent.placed at in
          let one : woken_key n p attend e ≡ true → is_among (first ++ second) e ≡ true =
          λ w. among_append first second e ∙ or_left (is_among first e) (is_among second e) (among e first (member_filter (ready_in p) e here (among_member here e (woken_here e lives w)) ready)) in
          elim (or_cases (not (guarded_key p.tables p.interest e)) (woken_key n p attend e) (second_of_and (ready_in p e) (not (guarded_key p.tables p.interest e) || woken_key n p attend e) h)) [
            | inr w ↦ one w
            | inl f ↦ elim (looked e at none h) [
              | inl w ↦ one w
              | inr l ↦ among_append first second e ∙ or_right (is_among first e) (is_among second e) (among e second (member_filter (is_loose p) e ks (among_member ks e ((above e).1 l)) (λ i. ready i && f i)))
            ]
          ]

      from : is_among (first ++ second) e ≡ true → gets e ≡ true
      from h = elim (or_cases (is_among first e) (is_among second e) (sym (among_append first second e) ∙ h)) [
        | inl a ↦
            let m = among_member first e a in
            let ready = filtered_passes (ready_in p) here e m in
            let woken = or_right (not (guarded_key p.tables p.interest e)) (woken_key n p attend e) (here_woken e (among e here (filtered_member (ready_in p) here e m))) in
            λ i. ready i && woken i
        | inr l ↦
            let q = filtered_passes (is_loose p) ks e (among_member second e l) in
            let ready = first_of_and (ready_in p e) (not (guarded_key p.tables p.interest e)) q in
            let f = or_left (not (guarded_key p.tables p.interest e)) (woken_key n p attend e) (second_of_and (ready_in p e) (not (guarded_key p.tables p.interest e)) q) in
            λ i. ready i && f i
      ]

    pub all_marked : (c d : Parts) → b.parked ≡ due_in p → c.parked ≡ marked_in_turn (filter (ready_in b) here) b.parked → c ≡ with_parked b c.parked → d.parked ≡ marked_in_turn (filter (is_loose c) ks) c.parked → d.parked ≡ marked_by gets p.clock p.parked
    all_marked c d due one others two =
        two
        ∙ ((λ i. marked_in_turn (filter ((ap is_loose others ∙ loose_same) i) ks) (one i))
        ∙ ((λ i. marked_in_turn second (marked_in_turn (filter (ready_same i) here) (due i)))
        ∙ (sym (turn_both gets first second (due_in p)) ∙ marks_agree_unmarked gets (due_in p) (first ++ second) names)))

-- above nothing
pub above_no : (es : List (ℕ × ℕ)) (lost : List ℕ) → lost ≡ [] → AreAbove es lost []
above_no es lost none e = (λ t. absurd (false≢true t), λ h. absurd (false≢true (sym (ap (λ (ls : List ℕ). is_among ls h.0) none) ∙ h.1)))

-- what is woken is reached, and registrations pass it on
pub record Woke (n : ℕ) (p b : Parts) (w : Walk) : Type 0 where
  pub narrowed : IsNarrowed n (with_parked p (due_in p)) b
  pub due : b.parked ≡ due_in p
  pub reached : AreReached n b.tables b.interest w.reached

pub woke_then : (n : ℕ) (p a m b : Parts) (u w : Walk) → a ≡ with_parked p (due_in p) → b ≡ m → w ≡ u → IsNarrowed n a m → m.parked ≡ a.parked → AreReached n m.tables m.interest u.reached → Woke n p b w
woke_then n p a m b u w due is same narrowed parked reached = record {
  narrowed = subst (λ (q : Parts). IsNarrowed n q b) due (subst (IsNarrowed n a) (sym is) narrowed);
  due = (λ i. (is i).parked) ∙ (parked ∙ (λ i. (due i).parked));
  reached = subst (λ (q : Parts). AreReached n q.tables q.interest w.reached) (sym is) (subst (λ (x : Walk). AreReached n m.tables m.interest x.reached) (sym same) reached);
}

pub woke_else : (n : ℕ) (p a b : Parts) (u w : Walk) (guards : ℕ) → a ≡ with_parked p (due_in p) → b ≡ a → w ≡ u → guards ≡ length (filter is_exclusive a.interest.entries) → guards ≤ 0 → AreReached n p.tables p.interest u.reached → Woke n p b w
woke_else n p a b u w guards due is same counts none reached =
    let all = is ∙ due in
    record {
      narrowed = none_narrowed n p b all (no_more guards (length (filter is_exclusive p.interest.entries)) (counts ∙ (λ i. length (filter is_exclusive (due i).interest.entries))) none);
      due = λ i. (all i).parked;
      reached = subst (λ (q : Parts). AreReached n q.tables q.interest w.reached) (sym all) (subst (λ (x : Walk). AreReached n p.tables p.interest x.reached) (sym same) reached);
    } where
      no_more : (m k : ℕ) → m ≡ k → m ≤ 0 → k ≡ 0
      no_more m k e le = omega (arith, e, le)

-- where nobody waits, nobody is due, and nobody is marked
pub nobody_due : (p : Parts) → p.parked ≡ [] → p ≡ with_parked p (due_in p)
nobody_due p none = ap (with_parked p) (none ∙ sym (ap (map (marked_if_due p.clock)) none))

pub nobody_marked : (test : ℕ → Bool) (p : Parts) → p.parked ≡ [] → p.parked ≡ marked_by test p.clock p.parked
nobody_marked test p none = subst (λ (ws : List Waiter). ws ≡ marked_by test p.clock ws) (sym none) refl

pub none_lost : (xs : List ℕ) (n : ℕ) → n ≡ length xs → n ≤ 0 → xs ≡ []
none_lost [] n e le = refl
none_lost (x ∷ xs) n e le = absurd (omega (arith, e, le))

-- other marks leave that
parked_narrowed : (n : ℕ) (a b : Parts) (ws : List Waiter) → IsNarrowed n a b → IsNarrowed n a (with_parked b ws)
parked_narrowed n a b ws h = record { watches = h.watches; entries = h.entries; keys = h.keys; added = h.added; next = h.next; others = λ i. with_parked (h.others i) ws }

pub still_narrowed : (n : ℕ) (p b c d : Parts) (w : Walk) (ws : List Waiter) → Woke n p b w → c ≡ with_parked b c.parked → d ≡ with_parked c ws → IsNarrowed n (with_parked p (due_in p)) d
still_narrowed n p b c d w ws woke others is =
    subst (IsNarrowed n (with_parked p (due_in p))) (sym (is ∙ ap (λ (q : Parts). with_parked q ws) others)) (parked_narrowed n (with_parked p (due_in p)) b ws woke.narrowed)

pub marked_at_end : (n : ℕ) (p b c d : Parts) (w : Walk) (attend : Option DescId) (lost was : List ℕ) → AreCoherent p → Woke n p b w → lost ≡ was → AreLookedAt n p was attend
    → c.parked ≡ marked_in_turn (filter (ready_in b) (w.reached ++ attended attend)) b.parked → c ≡ with_parked b c.parked
    → (ks : List ℕ) × (AreAbove (edges c.graph) lost ks) × (d ≡ with_parked c (marked_in_turn (filter (is_loose c) ks) c.parked))
    → d.parked ≡ marked_by (gets_mark_key n p attend) p.clock p.parked
marked_at_end n p b c d w attend lost was coherent woke same looked one others marks =
    let graph : c.graph ≡ p.graph = (λ i. (others i).graph) ∙ (λ i. (woke.narrowed.others i).graph) in
    let above : AreAbove (edges p.graph) was marks.0 = subst (λ (ls : List Link). AreAbove (edges ls) was marks.0) graph (subst (λ (xs : List ℕ). AreAbove (edges c.graph) xs marks.0) same marks.1) in
    all_marked n p b coherent woke.narrowed attend w.reached was marks.0 woke.reached looked above c d woke.due one others (λ i. (marks.2 i).parked)

-- What tells of each live instance whether it is ready tells so still where registrations stop passing something on.
pub kept_settled : (target : DescId) (chosen : Option ℕ) (xs : List Entry) → map settled (map (kept_passing target chosen) xs) ≡ map settled xs
kept_settled target chosen [] = refl
kept_settled target chosen (x ∷ xs) = let first = one (stops target chosen x) in let rest = kept_settled target chosen xs in λ i. first i ∷ rest i where
  one : (b : Bool) → settled (cond b (record x { passes_in = 0 }) x) ≡ settled x
  one true = refl
  one false = refl

pub ready_kept : (v : Seen) (now : ℕ) (old new : Registrations) (target : DescId) (chosen : Option ℕ) → new.entries ≡ map (kept_passing target chosen) old.entries → (k : ℕ) → ready_key v now new k ≡ ready_key v now old k
ready_kept v now old new target chosen entries k =
    λ i. ready_settled v now old new (ap (map settled) entries ∙ kept_settled target chosen old.entries) i (number_at v.keys (record { 0 = k }))

pub ready_lasts : {T : Type 0} (tells : T → ℕ → Bool) → Lasts (λ (t : T) v now r. (i : DescId) → IsSome (number_under v i) → tells t i.0 ≡ ready_key v now r i.0)
ready_lasts {T} tells t v now old new target chosen entries keys added next h i lives = h i lives ∙ sym (ready_kept v now old new target chosen entries i.0)
