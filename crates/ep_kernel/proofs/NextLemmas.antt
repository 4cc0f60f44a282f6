-- What holds between two events, over one event.
use Rattle.ep_calls.proofs.EntryLemmas.{holds_under}
use Rattle.std.proofs.Common.{◌≡◌, ◌∙◌, ◌+◌, ◌==◌, ◌⊎◌, ◌++◌, ℕ, Bool, true, false, IsSome, List, [], ◌∷◌, None, Option, Some, ap, cond, filter, inl, inr, length, map, refl, subst, sym, unwrap_or}
use Rattle.std.specs.Option.{option_map}
use Rattle.std.specs.Prelude.{MatchOption}
use Rattle.std.proofs.lemmas.Bool.{cases_Bool, false_from_ne_true, false≢true}
use Rattle.ep_facts.proofs.BoolFacts.{or_left}
use Rattle.ep_facts.proofs.AmongFacts.{among_append}
use Rattle.ep_base.specs.declared.answer.Answer.{Answer}
use Rattle.ep_base.specs.declared.call.Event.{Event}
use Rattle.ep_base.specs.declared.errno.Errno.{Errno}
use Rattle.ep_base.specs.declared.ids.CallerId.{CallerId}
use Rattle.ep_base.specs.declared.ids.DescId.{DescId}
use Rattle.ep_base.specs.declared.record.Record.{Record}
use Rattle.ep_calls.proofs.KeepsLemmas.{DoesAt, adds_marked, keeps_marked, record_of, state_is}
use Rattle.ep_calls.specs.Keeps.{Keeps}
use Rattle.ep_calls.specs.Moves.{Makes, Refuses, StandFor}
use Rattle.ep_calls.specs.Parts.{Parts}
use Rattle.ep_calls.specs.Raising.{AsRaised, AsRaisedIn}
use Rattle.ep_calls.specs.Stands.{IsLinked, number_at}
use Rattle.ep_calls.specs.declared.outcome.Outcome.{Outcome}
use Rattle.ep_kernel.proofs.AlteredLemmas.{IsOf, altered_next, altered_stands}
use Rattle.ep_kernel.proofs.JoinLemmas.{Follows, apart, burial, keeps_number, left_picked, more_numbers, order_is, places_after, relists, same_instance, settled, settled_is, sound_after}
use Rattle.ep_kernel.proofs.NumberLemmas.{complete_order, entry_at, has_reportables}
use Rattle.ep_kernel.specs.Listed.{AreFair, HasReportables, IsListed, key_shows, order_at}
use Rattle.ep_kernel.specs.Running.{Runs}
use Rattle.ep_law.proofs.ListLemmas.{among, among_member, filtered_member, member_filter, member_split}
use Rattle.ep_law.proofs.StepLemmas.{after_first, change_counted, change_n, refused_step, step_changed}
use Rattle.ep_law.specs.Laws.{Member, is_reportable_in}
use Rattle.ep_machine.specs.Effect.{first}
use Rattle.ep_machine.specs.Files.{Files, is_live}
use Rattle.ep_machine.specs.Lists.{is_among}
use Rattle.ep_machine.specs.Refusal.{refusals}
use Rattle.ep_machine.specs.State.{Change, State, Watch}
use Rattle.ep_machine.specs.Step.{change, next_event, step}
use Rattle.ep_order.proofs.EventLemmas.{beginning_keeps_turns, dead_lists_are_empty}
use Rattle.ep_order.specs.Event.{IsAltered, ListsGoOn, end_of}
use Rattle.ep_order.specs.Order.{IsComplete, IsFairOrder, Turns}
use Rattle.ep_order.specs.Pick.{turns_of}
use Rattle.ep_kernel.proofs.ViewLemmas.{Views}
use Rattle.ep_view.specs.KernelView.{KernelWatch, kernel_watch}
use Rattle.ep_rings.specs.KeyWalk.{entry_id}
use Rattle.ep_ready.specs.ReadyLists.{Lists, list_at, stands}
use Rattle.ep_calls.proofs.KeyLemmas.{under_key}
use Rattle.ep_interest.specs.Registrations.{number_under}
use Rattle.ep_table.specs.Value.{number_under as desc_number}
use Rattle.ep_view.proofs.AtRestLemmas.{quiet_begun, quiet_change}
use Rattle.ep_view.proofs.SettleLemmas.{settle_remains}

-- An order behind whose end nothing reportable comes.

none_ready : (t : Turns) (ys : List ℕ) → ((y : ℕ) → Member y ys → t.ready y ≡ true → ⊥) → IsFairOrder t ys
none_ready t [] h = tt
none_ready t (y ∷ ys) h = (λ z m r. absurd (h z (inr m) r), none_ready t ys (λ z m r. h z (inr m) r))

fair_kept : (t : Turns) (keeps : ℕ → Bool) (xs ys : List ℕ) → ((y : ℕ) → Member y ys → t.ready y ≡ true → ⊥) → IsFairOrder t xs → IsFairOrder t (filter keeps xs ++ ys)
fair_kept t keeps [] ys none h = none_ready t ys none
fair_kept t keeps (x ∷ xs) ys none h = with_one (keeps x) (fair_kept t keeps xs ys none h.1) where
  with_one : (b : Bool) → IsFairOrder t (filter keeps xs ++ ys) → IsFairOrder t (cond b (x ∷ filter keeps xs) (filter keeps xs) ++ ys)
  with_one true rest = (λ y m r. elim (member_split y (filter keeps xs) ys m) [ inl a ↦ h.0 y (filtered_member keeps xs y a) r | inr b ↦ absurd (none y b r) ], rest)
  with_one false rest = rest

cons_tail : (x : Record) (xs ys : List Record) → x ∷ xs ≡ x ∷ ys → xs ≡ ys
cons_tail x xs ys e = cc

last_is : (xs : List Record) (a b : Record) → xs ++ a ∷ [] ≡ xs ++ b ∷ [] → a ≡ b
last_is [] a b e = cc
last_is (x ∷ xs) a b e = last_is xs a b (cons_tail x (xs ++ a ∷ []) (xs ++ b ∷ []) e)

some_is : (o : Option ℕ) → (IsSome o) ⊎ (o ≡ None)
some_is None = inr refl
some_is (Some n) = inl refl

module _ (law : ListsGoOn) (past : List Record) (n : ℕ) (event : Event) (outcome : Outcome) (old mid noted buried climbed new : Parts) (l0 l1 l2 l3 : Lists) (follows : Follows n event outcome old mid noted buried climbed new l0 l1 l2 l3)
    (caller : CallerId) (at : n ≡ length past + 1) (runs : Runs past old l0) (does : DoesAt (next_event runs.keeps.state) caller.0 event outcome old mid) where
  abbrev s : State
  s = runs.keeps.state

  abbrev after : List Record
  after = past ++ record_of caller event outcome ∷ []

  pub keeps_after : Keeps after new
  keeps_after = keeps_marked past old mid noted buried climbed new runs.keeps caller event outcome n at does follows.settles

  abbrev t : State
  t = keeps_after.state

  pub goes : step old.tables.limits s caller.0 event outcome.picked ≡ Some (outcome.answer, t)
  goes =
      let adds = adds_marked past old mid noted buried climbed new runs.keeps caller event outcome n at does follows.settles in
      let picked : outcome.picked ≡ adds.picked = ap (λ (r : Record). r.picked) (last_is past _ _ adds.added) in
      (λ i. step old.tables.limits (sym (state_is past old runs.keeps) i) caller.0 event (picked i))
      ∙ (adds.goes ∙ ap (λ (u : State). Some (outcome.answer, u)) (state_is after new keeps_after))

  abbrev left : Parts
  left = settled n event outcome old mid noted buried climbed new l0 l1 l2 l3 follows

  new_is : new ≡ left
  new_is = settled_is n event outcome old mid noted buried climbed new l0 l1 l2 l3 follows

  pub stands_after : StandFor left t
  stands_after = subst (λ (p : Parts). StandFor p t) new_is keeps_after.stands

  pub to_state : (o : Option (Answer × State)) (a b : Answer) (u v : State) → o ≡ Some (a, u) → o ≡ Some (b, v) → u ≡ v
  to_state o a b u v h k = ap (λ (q : Option (Answer × State)). unwrap_or (option_map (λ (r : Answer × State). r.1) q) u) (sym h ∙ k)

  -- At an instance that lives at the end.
  module _ (i : DescId) (lives : IsSome (desc_number buried.tables i)) where
    abbrev e : ℕ
    e = number_at buried.tables.keys i

    abbrev before : List ℕ
    before = order_at old.interest l0 i.0

    abbrev now : List ℕ
    now = order_at climbed.interest l3 i.0

    -- an instance that was not there had no list
    no_list : desc_number old.tables i ≡ None → before ≡ []
    no_list none = by (list_at l0 i.0) refl where
      by : (ks : List ℕ) → list_at l0 i.0 ≡ ks → before ≡ []
      by [] is = ap (λ (xs : List ℕ). map (λ k. unwrap_or (number_under old.interest (entry_id k)) 0) xs) is
      by (k ∷ ks) is =
          let x = entry_at old s runs.keeps.stands follows.was follows.coherent.linked follows.tables l0 runs.listed.places follows.lists_before i.0 k (subst (Member k) (sym is) (inl refl)) in
          let link = (holds_under (IsLinked old.tables.keys) old.interest (entry_id k) x.0 follows.coherent.linked x.1).instance in
          let some : IsSome (desc_number old.tables i) = subst (λ (j : ℕ). IsSome (desc_number old.tables (record { 0 = j }))) x.2 link in
          absurd (false≢true (subst (λ (o : Option ℕ). IsSome o) none some))

    not_live : desc_number old.tables i ≡ None → is_live s.files e ≡ false
    not_live none = false_from_ne_true _ (λ live.
        let key = follows.tables.keyed e (ap (λ (f : Files). is_live f e) (sym runs.keeps.stands.files) ∙ live) in
        let u = under_key buried.tables.keys i lives in
        let here : desc_number buried.tables i ≡ Some e = u.is ∙ ap (λ (m : ℕ). Some m) (sym (ap (λ (o : Option ℕ). unwrap_or o 0) u.is)) in
        let same : key.0.0 ≡ i.0 = follows.settles.sound.one key.0 i e (follows.keys key.0 e key.1) ((burial n event outcome old mid noted buried climbed new l0 l1 l2 l3 follows).buries.keys i e here) in
        let both : None ≡ Some e = sym none ∙ (ap (λ (j : ℕ). desc_number old.tables (record { 0 = j })) (sym same) ∙ key.1) in
        absurd (cc))

    fair_before : IsFairOrder (turns_of s e) before
    fair_before = elim (some_is (desc_number old.tables i)) [
      | inl some ↦ subst (λ (d : ℕ). IsFairOrder (turns_of s d) before) (same_instance n event outcome old mid noted buried climbed new l0 l1 l2 l3 follows s t runs.keeps.stands stands_after runs.listed.places i lives some) (runs.fair i.0)
      | inr none ↦ subst (IsFairOrder (turns_of s e)) (sym (no_list none)) tt
    ]

    complete_before : IsComplete (turns_of s e) before
    complete_before = elim (some_is (desc_number old.tables i)) [
      | inl some ↦
          subst (λ (d : ℕ). IsComplete (turns_of s d) before) (same_instance n event outcome old mid noted buried climbed new l0 l1 l2 l3 follows s t runs.keeps.stands stands_after runs.listed.places i lives some)
          (complete_order old s runs.keeps.stands follows.was follows.coherent.linked follows.tables l0 runs.listed.places runs.listed.complete i some)
      | inr none ↦ subst (IsComplete (turns_of s e)) (sym (no_list none)) (dead_lists_are_empty s e runs.keeps.quiet (not_live none))
    ]

    abbrev GoesOn : Type 0
    GoesOn = IsFairOrder (turns_of t e) now × IsComplete (turns_of t e) now

    by_change : first (refusals old.tables.limits (next_event s) caller.0 event) ≡ None → (m : Makes (change old.tables.limits (next_event s) caller.0 event outcome.picked) outcome.answer mid)
        → ((made : Change) → change old.tables.limits (next_event s) caller.0 event outcome.picked ≡ Some made → AsRaisedIn made.1.files outcome.raising mid.tables mid.clock made.2) → GoesOn
    by_change allowed m raises =
        let limits = old.tables.limits in
        let c = m.made in
        let ends : t ≡ end_of s c = to_state _ outcome.answer c.0 t (end_of s c) goes (step_changed limits s caller.0 event outcome.picked c allowed m.is) in
        let changed = quiet_change limits (next_event s) caller.0 event outcome.picked c (quiet_begun s runs.keeps.quiet) allowed m.is in
        let settled_change = settle_remains (next_event s) c.1 c.2 (change_counted limits s caller.0 event outcome.picked c m.is) changed in
        let begins : s.n + 1 ≡ n = ap (λ (k : ℕ). k + 1) runs.keeps.n ∙ sym at in
        let at_c : c.1.n ≡ n = change_n limits (next_event s) caller.0 event outcome.picked c m.is ∙ begins in
        let counted : (0 == n) ≡ false = ap (λ (k : ℕ). 0 == k) (sym begins) ∙ after_first s.n in
        let alters : (k : ℕ) (x : Watch) → Views mid.tables.keys mid.interest k (kernel_watch c.1 x) → IsAltered s event x → key_shows mid k ≡ true → stands l1 (entry_id k) ≡ true = λ k x view is.
        let of : IsOf mid view.x x = record { instance = ap (λ (w : KernelWatch). w.instance) view.is; fd = ap (λ (w : KernelWatch). w.fd) view.is; target = ap (λ (w : KernelWatch). w.target) view.is } in
        altered_stands old mid follows.keys follows.tables follows.settles.sound follows.settles.coherent.linked limits (next_event s) runs.keeps.stands.files caller.0 event l1 allowed follows.turns.altered k view.x view.under x of (altered_next s event x is) in
        let lists = relists n event outcome old mid noted buried climbed new l0 l1 l2 l3 follows s t runs.keeps.stands stands_after runs.listed.places i lives c m.stands ends changed settled_change at_c counted (raises c m.is) alters in
        let on = law limits past s caller.0 event outcome.picked c runs.keeps.leads allowed m.is e before now fair_before complete_before lists in
        subst (λ (u : State). IsFairOrder (turns_of u e) now × IsComplete (turns_of u e) now) (sym ends) on

    by_refusal : (error : Errno) → first (refusals old.tables.limits (next_event s) caller.0 event) ≡ Some error → Refuses (next_event s) error outcome.answer outcome.picked mid → GoesOn
    by_refusal error refused r =
        let limits = old.tables.limits in
        let stays : t ≡ next_event s = to_state _ outcome.answer _ t (next_event s) (ap (step limits s caller.0 event) (sym r.unpicked) ∙ goes) (refused_step limits s caller.0 event error refused) in
        let same : turns_of t e ≡ turns_of s e = ap (λ (u : State). turns_of u e) stays ∙ beginning_keeps_turns s e in
        let ready = λ (k : ℕ) (h : is_reportable_in s e k ≡ true). ap (λ (u : Turns). u.ready k) same ∙ h in
        let keeps = keeps_number n event outcome old mid noted buried climbed new l0 l1 l2 l3 follows s t runs.keeps.stands stands_after runs.listed.places i in
        let more = more_numbers n event outcome old mid noted buried climbed new l0 l1 l2 l3 follows s t runs.keeps.stands stands_after runs.listed.places i in
        let is : now ≡ filter keeps before ++ more = order_is n event outcome old mid noted buried climbed new l0 l1 l2 l3 follows s t runs.keeps.stands stands_after runs.listed.places i in
        let stays_on : (k : ℕ) → is_reportable_in s e k ≡ true → keeps k ≡ true = λ k h. elim (cases_Bool (keeps k)) [
          | inl kept ↦ kept
          | inr gone ↦
              let picked = left_picked n event outcome old mid noted buried climbed new l0 l1 l2 l3 follows s t runs.keeps.stands stands_after runs.listed.places i lives k (complete_before k h) gone h (ready k h) in
              absurd (false≢true (ap (λ (ks : List ℕ). is_among ks k) (sym r.unpicked) ∙ picked))
        ] in
        let there = λ (k : ℕ) (h : is_reportable_in s e k ≡ true). among k (filter keeps before) (member_filter keeps k before (among_member before k (complete_before k h)) (stays_on k h)) in
        let none = λ (k : ℕ) (m : Member k more) (h : is_reportable_in s e k ≡ true).
        false≢true (sym (apart n event outcome old mid noted buried climbed new l0 l1 l2 l3 follows s t runs.keeps.stands stands_after runs.listed.places i k (among k more m)) ∙ there k h) in
        let fair : IsFairOrder (turns_of s e) now = subst (IsFairOrder (turns_of s e)) (sym is) (fair_kept (turns_of s e) keeps before more none fair_before) in
        let complete : IsComplete (turns_of s e) now = subst (IsComplete (turns_of s e)) (sym is) (λ k h. among_append (filter keeps before) more k ∙ or_left _ _ (there k h)) in
        subst (λ (u : Turns). IsFairOrder u now × IsComplete u now) (sym same) (fair, complete)

    by_cases : (o : Option Errno) → first (refusals old.tables.limits (next_event s) caller.0 event) ≡ o
        → MatchOption o (Makes (change old.tables.limits (next_event s) caller.0 event outcome.picked) outcome.answer mid) (λ error. Refuses (next_event s) error outcome.answer outcome.picked mid)
        → MatchOption o ((made : Change) → change old.tables.limits (next_event s) caller.0 event outcome.picked ≡ Some made → AsRaisedIn made.1.files outcome.raising mid.tables mid.clock made.2) (λ error. AsRaised outcome.raising mid.tables mid.clock []) → GoesOn
    by_cases None h m raises = by_change h m raises
    by_cases (Some error) h r raises = by_refusal error h r

    goes_on : GoesOn
    goes_on = by_cases (first (refusals old.tables.limits (next_event s) caller.0 event)) refl does.goes does.raises

  complete_after : HasReportables left l3
  complete_after =
      has_reportables left t stands_after follows.now follows.settles.climbs.linked follows.settles.sound_buried l3
      (places_after n event outcome old mid noted buried climbed new l0 l1 l2 l3 follows) follows.lists_after (λ i lives. (goes_on i lives).1)

  -- a list of no instance is empty
  no_instance : (i : DescId) → desc_number buried.tables i ≡ None → order_at climbed.interest l3 i.0 ≡ []
  no_instance i none = by (list_at l3 i.0) refl where
    by : (ks : List ℕ) → list_at l3 i.0 ≡ ks → order_at climbed.interest l3 i.0 ≡ []
    by [] is = ap (λ (xs : List ℕ). map (λ k. unwrap_or (number_under climbed.interest (entry_id k)) 0) xs) is
    by (k ∷ ks) is =
        let x = entry_at left t stands_after follows.now follows.settles.climbs.linked follows.settles.sound_buried l3 (places_after n event outcome old mid noted buried climbed new l0 l1 l2 l3 follows) follows.lists_after i.0 k (subst (Member k) (sym is) (inl refl)) in
        let link = (holds_under (IsLinked buried.tables.keys) climbed.interest (entry_id k) x.0 follows.settles.climbs.linked x.1).instance in
        let some : IsSome (desc_number buried.tables i) = subst (λ (j : ℕ). IsSome (desc_number buried.tables (record { 0 = j }))) x.2 link in
        absurd (false≢true (subst (λ (o : Option ℕ). IsSome o) none some))

  fair_after : AreFair t left l3
  fair_after j =
      let i : DescId = record { 0 = j } in
      elim (some_is (desc_number buried.tables i)) [
        | inl lives ↦ (goes_on i lives).0
        | inr none ↦ subst (IsFairOrder (turns_of t (number_at buried.tables.keys i))) (sym (no_instance i none)) tt
      ]

  listed_after : IsListed left l3
  listed_after = record {
    places = places_after n event outcome old mid noted buried climbed new l0 l1 l2 l3 follows;
    sound = sound_after n event outcome old mid noted buried climbed new l0 l1 l2 l3 follows;
    complete = complete_after;
  }

  pub runs_next : Runs after new l3
  runs_next = record {
    keeps = keeps_after;
    listed = subst (λ (p : Parts). IsListed p l3) (sym new_is) listed_after;
    fair = subst (λ (p : Parts). AreFair t p l3) (sym new_is) fair_after;
  }
