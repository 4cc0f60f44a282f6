-- The hopes over one event: what is reportable at its end stands among them.
use Rattle.std.proofs.Common.{◌≡◌, ◌∙◌, ◌+◌, ◌&&◌, ◌||◌, ◌⊎◌, ◌≤◌, ℕ, Bool, true, false, not, List, None, Option, Some, ap, arith, cond, filter, inl, inr, length, map, nat_lt, refl, slice_index_or, subst, sym}
use Rattle.std.specs.Option.{option_map}
use Rattle.std.proofs.lemmas.Bool.{cases_Bool, false≢true}
use Rattle.ep_facts.proofs.NatFacts.{same_nat, same_test}
use Rattle.ep_facts.proofs.BoolFacts.{both_true, or_left, or_right}
use Rattle.ep_base.specs.declared.call.Event.{Event}
use Rattle.ep_base.specs.declared.ids.CallerId.{CallerId}
use Rattle.ep_base.specs.declared.ids.EntryId.{EntryId}
use Rattle.ep_base.specs.declared.record.Record.{Record}
use Rattle.ep_calls.proofs.CauseLemmas.{causes}
use Rattle.ep_calls.proofs.EntryLemmas.{holds_under, member_of, within}
use Rattle.ep_calls.proofs.KeepsLemmas.{DoesAt}
use Rattle.ep_calls.proofs.MappedLemmas.{under_mapped, under_settled}
use Rattle.ep_calls.specs.Causes.{WasAltered, WasReportable, is_above}
use Rattle.ep_calls.specs.Climb.{is_nested, link_of, risen}
use Rattle.ep_calls.specs.Ends.{Leaves, Spreads}
use Rattle.ep_calls.specs.Ids.{HadOrAdds}
use Rattle.ep_calls.specs.Keeps.{Keeps}
use Rattle.ep_calls.specs.Moves.{StandFor}
use Rattle.ep_calls.specs.Parts.{Parts}
use Rattle.ep_calls.specs.Readiness.{entry_shows, readiness}
use Rattle.ep_calls.specs.Stands.{IsLinked, KeepsKeys, number_at, watch_at}
use Rattle.ep_calls.specs.declared.outcome.Outcome.{Outcome}
use Rattle.ep_choice.proofs.MarkingLemmas.{ready_settled}
use Rattle.ep_interest.specs.Passes.{has_id}
use Rattle.ep_interest.specs.Registrations.{IsSound, Registrations, entry_found, entry_under, ids, is_on, lets_in, number_under, settled}
use Rattle.ep_interest.specs.declared.entry.Entry.{Entry}
use Rattle.ep_kernel.proofs.AlteredLemmas.{IsOf, altered_stands}
use Rattle.ep_kernel.proofs.EntryLemmas.{is_under}
use Rattle.ep_kernel.proofs.PrunesLemmas.{stands_left}
use Rattle.ep_kernel.proofs.SurvivalLemmas.{gone, gone_is, places_left, was_under}
use Rattle.ep_kernel.proofs.ViewLemmas.{among_ids, brings_asked, entry_views, view_of}
use Rattle.ep_kernel.specs.Listed.{HasReportables, HavePlaces, HopesFor, key_shows, may_stand, shows_found}
use Rattle.ep_kernel.specs.Push.{Gains, comes_by, comes_in, is_home, passes_found}
use Rattle.ep_kernel.specs.Running.{ListsSpread}
use Rattle.ep_kernel.specs.Turns.{HopesGo}
use Rattle.ep_law.proofs.ListLemmas.{any_has, member_filter, member_map}
use Rattle.ep_law.specs.Laws.{Member, ReportablesAreSpread}
use Rattle.ep_machine.specs.Bits.{ET, IN, asked, has_bit, when}
use Rattle.ep_machine.specs.Counts.{brings}
use Rattle.ep_machine.specs.Lists.{is_among}
use Rattle.ep_machine.specs.State.{State, Waiter}
use Rattle.ep_machine.specs.Step.{next_event}
use Rattle.ep_nest.specs.declared.link.Link.{Link}
use Rattle.ep_rings.specs.KeyWalk.{entry_id}
use Rattle.ep_ready.specs.ReadyLists.{Lists, instance_at, list_at, stands, stands_by}
use Rattle.ep_table.specs.Value.{Seen, Sound as SoundTables}
use Rattle.ep_view.proofs.KernelViewLemmas.{reportable_kept}
use Rattle.ep_view.specs.KernelView.{KernelWatch, kernel_watch, reached_now, ready_now, shows}

stands_on : (comes : ℕ → Bool) (l m : Lists) (k i : ℕ) → Gains comes l m → instance_at m (entry_id k) ≡ Some i → (is_among (list_at l i) k ≡ true) ⊎ (comes k ≡ true) → stands m (entry_id k) ≡ true
stands_on comes l m k i gains at why =
    let home : is_home i (instance_at l (entry_id k)) ≡ true = ap (is_home i) (sym (gains.places (entry_id k)) ∙ at) ∙ same_test i i refl in
    ap (stands_by m k) at ∙ (gains.each i k ∙ elim why [
      | inl on ↦ or_left (is_among (list_at l i) k) (comes k && is_home i (instance_at l (entry_id k))) on
      | inr come ↦ or_right (is_among (list_at l i) k) (comes k && is_home i (instance_at l (entry_id k))) (λ j. come j && home j)
    ])

-- What shows something is armed, and fresh where it is edge-triggered.
armed_where : (armed : Bool) (bits : ℕ) → nat_lt 0 (when armed bits) ≡ true → armed ≡ true
armed_where true bits h = refl
armed_where false bits h = absurd (false≢true h)

may_where : (ready : ℕ → Bool) (v : Seen) (now : ℕ) (x : Entry) → entry_shows ready v now x ≡ true → may_stand x ≡ true
may_where ready v now x h =
    let two = both_true _ (not (has_bit x.mask.0 ET) || x.fresh) h in
    let armed = armed_where x.armed _ two.0 in
    λ i. armed i && two.1 i

-- what may stand only once it rose, IN came to it
rose : (armed level above was : Bool) → (armed && (level || (above || was))) ≡ true → (armed && (level || was)) ≡ false → (armed ≡ true) × (above ≡ true)
rose true true above was h f = absurd (false≢true (sym f))
rose true false true was h f = (refl, refl)
rose true false false was h f = absurd (false≢true (sym f ∙ h))
rose false level above was h f = absurd (false≢true h)

-- One event, from the parts before it to those in which what it raised has climbed.
module _ (law : ReportablesAreSpread) (past : List Record) (old mid left : Parts) (keeps : Keeps past old) (tables : SoundTables old.tables) (was : IsSound old.interest)
    (caller : CallerId) (event : Event) (outcome : Outcome) (n : ℕ) (at : n ≡ length past + 1) (does : DoesAt (next_event keeps.state) caller.0 event outcome old mid)
    (numbers : HadOrAdds old.interest mid.interest) (keys : KeepsKeys old.tables mid.tables) (spreads : Spreads n outcome.raising mid left)
    (h1 h3 : Lists) (goes_on : HopesGo event old mid h1) (hopes : ListsSpread n mid spreads.noted spreads.buried h1 h3) where
  abbrev s : State
  s = keeps.state

  abbrev b : State
  b = next_event s

  abbrev buried : Parts
  buried = spreads.buried

  abbrev v : Seen
  v = buried.tables

  abbrev noted : Registrations
  noted = spreads.noted

  abbrev leaves : Leaves n outcome.raising mid noted buried
  leaves = spreads.leaves

  abbrev h2 : Lists
  h2 = hopes.between

  abbrev reached : ℕ → Bool
  reached = reached_now v.files n (map (watch_at v.keys) buried.interest.entries)

  abbrev rise : Entry → Entry
  rise = risen reached v

  tables_left : left.tables ≡ v
  tables_left = ap (λ (p : Parts). p.tables) spreads.others

  under_left : (id : EntryId) → entry_under left.interest id ≡ option_map rise (entry_under buried.interest id)
  under_left = under_mapped rise (λ x. refl) buried.interest left.interest spreads.rises.entries spreads.keys

  places_now : HavePlaces left.interest h3
  places_now id =
      hopes.gains.places id
      ∙ (places_left n outcome.raising mid noted buried leaves h1 h2 hopes.loses goes_on.places id
      ∙ sym (ap (option_map (λ (x : Entry). x.instance.0)) (under_left id) ∙ same (entry_under buried.interest id))) where
        same : (o : Option Entry) → option_map (λ (x : Entry). x.instance.0) (option_map rise o) ≡ option_map (λ (x : Entry). x.instance.0) o
        same None = refl
        same (Some x) = refl

  -- One that is reportable then.
  module _ (k : ℕ) (y : Entry) (under : entry_under buried.interest (entry_id k) ≡ Some y) (shown : key_shows left k ≡ true) where
    abbrev x : Entry
    x = rise y

    here : entry_under left.interest (entry_id k) ≡ Some x
    here = under_left (entry_id k) ∙ ap (option_map rise) under

    shows_x : entry_shows (readiness left.tables left.clock left.interest) left.tables left.clock x ≡ true
    shows_x = sym (ap (shows_found left) here) ∙ shown

    at_end : instance_at h3 (entry_id k) ≡ Some y.instance.0
    at_end = places_now (entry_id k) ∙ ap (option_map (λ (z : Entry). z.instance.0)) here

    -- its registration right after the change
    abbrev z : Entry
    z = (was_under n outcome.raising mid noted buried leaves (entry_id k) y under).x

    under_mid : entry_under mid.interest (entry_id k) ≡ Some z
    under_mid = (was_under n outcome.raising mid noted buried leaves (entry_id k) y under).under

    same_number : z.number ≡ y.number
    same_number = sym (ap (λ (u : KernelWatch). u.number) (was_under n outcome.raising mid noted buried leaves (entry_id k) y under).watch)

    number_mid : number_under mid.interest (entry_id k) ≡ Some y.number
    number_mid = (is_under mid.interest (entry_id k) z under_mid).number ∙ ap (λ (m : ℕ). Some m) same_number

    not_gone : gone n outcome.raising mid noted buried leaves h1 h2 hopes.loses k ≡ false
    not_gone =
        let w = was_under n outcome.raising mid noted buried leaves (entry_id k) y under in
        gone_is n outcome.raising mid noted buried leaves h1 h2 hopes.loses k (watch_at mid.tables.keys w.x) (entry_views mid.tables.keys mid.interest k w.x w.under) ∙ ap not w.untouched

    -- what stood after the change stands
    stays_on : stands h1 (entry_id k) ≡ true → stands h3 (entry_id k) ≡ true
    stays_on stood =
        let staying : ℕ → Bool = λ j. not (gone n outcome.raising mid noted buried leaves h1 h2 hopes.loses j) in
        let place : instance_at h2 (entry_id k) ≡ instance_at h1 (entry_id k) = hopes.loses.places.places (entry_id k) ∙ ap (λ (c : Bool). cond c None (instance_at h1 (entry_id k))) not_gone in
        let on : stands h2 (entry_id k) ≡ true = stands_left h1 h2 staying k place hopes.loses.places.lists (ap not not_gone) stood in
        stands_on (comes_in n buried) h2 h3 k y.instance.0 hopes.gains at_end (inl (sym (ap (stands_by h2 k) (sym (hopes.gains.places (entry_id k)) ∙ at_end)) ∙ on))

    -- what comes stands
    comes_to : comes_in n buried k ≡ true → stands h3 (entry_id k) ≡ true
    comes_to comes = stands_on (comes_in n buried) h2 h3 k y.instance.0 hopes.gains at_end (inr comes)

    -- it was reportable before the event
    earlier : WasReportable b y.number → stands h3 (entry_id k) ≡ true
    earlier h =
        let stands_b : StandFor old b = record { now = keeps.stands.now; files = keeps.stands.files; watches = keeps.stands.watches; added = keeps.stands.added; waiters = keeps.stands.waiters } in
        let u = view_of old.tables.keys old.interest was (kernel_watch b h.was) (subst (Member (kernel_watch b h.was)) stands_b.watches (member_map (kernel_watch b) h.was s.watches h.there)) in
        let shows_old : key_shows old u.0 ≡ true =
        ap (shows_found old) u.1.under
        ∙ (ap (shows (readiness old.tables old.clock old.interest) old.tables.files old.clock) u.1.is
        ∙ ((λ j. shows (ready_now (sym stands_b.files j) (sym stands_b.now j) (sym stands_b.watches j)) (sym stands_b.files j) (sym stands_b.now j) (kernel_watch b h.was))
        ∙ (sym (reportable_kept b h.was) ∙ h.shown))) in
        let is : u.1.x.number ≡ y.number = ap (λ (a : KernelWatch). a.number) u.1.is ∙ h.same in
        let before : number_under old.interest (entry_id u.0) ≡ Some y.number = (is_under old.interest (entry_id u.0) u.1.x u.1.under).number ∙ ap (λ (a : ℕ). Some a) is in
        let one : u.0 ≡ k = elim (numbers (entry_id k) y.number number_mid) [
          | inl had ↦ ap (λ (id : EntryId). id.0) (was.one_key (entry_id u.0) (entry_id k) y.number before had)
          | inr added ↦ absurd (too_many u.1.x.number is added.1 (within old.interest was (entry_id u.0) u.1.x u.1.under))
        ] in
        let still : number_under mid.interest (entry_id u.0) ≡ Some u.1.x.number = subst (λ (j : ℕ). number_under mid.interest (entry_id j) ≡ Some u.1.x.number) (sym one) (number_mid ∙ ap (λ (a : ℕ). Some a) (sym is)) in
        stays_on (subst (λ (j : ℕ). stands h1 (entry_id j) ≡ true) one (goes_on.stays u.0 u.1.x u.1.under shows_old still))
      where
        too_many : (m : ℕ) → m ≡ y.number → y.number ≡ old.interest.added + 1 → m ≤ old.interest.added → ⊥
        too_many m e f g = absurd (omega (arith, e, f, g))

    -- IN comes through it from an instance
    above : (y.armed ≡ true) → (nat_lt 0 (asked y.mask.0 IN) ≡ true) → (is_nested v y ≡ true) → (reached (number_at v.keys y.desc) ≡ true) → stands h3 (entry_id k) ≡ true
    above armed lets nested on =
        let r = buried.interest in
        let link : Link = link_of r y in
        let there : Member link buried.graph = subst (Member link) (sym leaves.coherent_buried.nested) (member_map (link_of r) y (filter (is_nested v) r.entries) (member_filter (is_nested v) y r.entries (member_of r (entry_id k) y under) nested)) in
        let among : has_id (ids r (filter (is_on y.desc) r.entries)) k ≡ true = among_ids v.keys r leaves.left (is_on y.desc) k y under ∙ same_nat y.desc.0 in
        let let_by : lets_in (entry_under r (entry_id k)) ≡ true = ap lets_in under ∙ (λ i. armed i && lets i) in
        comes_to (or_right (passes_found (entry_under r (entry_id k))) _ (any_has (λ (l : Link). comes_by n buried l k) buried.graph link there (λ i. on i && (among i && let_by i))))

    above_by : is_above reached left.tables x ≡ true → stands h3 (entry_id k) ≡ true
    above_by h =
        let is : is_above reached v x ≡ true = ap (λ (q : Seen). is_above reached q x) (sym tables_left) ∙ h in
        let lets = x.armed && nat_lt 0 (asked x.mask.0 IN) in
        let one = both_true (lets && is_nested v x) (reached (number_at v.keys x.desc)) is in
        let two = both_true lets (is_nested v x) one.0 in
        let three = both_true x.armed (nat_lt 0 (asked x.mask.0 IN)) two.0 in
        above three.0 three.1 two.1 one.1

    -- it passes something on
    passing : nat_lt 0 x.passes_in ≡ true → stands h3 (entry_id k) ≡ true
    passing positive = elim (cases_Bool (may_stand y)) [
      | inl may ↦ comes_to (or_left (passes_found (entry_under buried.interest (entry_id k))) _ (ap passes_found under ∙ (λ i. positive i && may i)))
      | inr not_yet ↦
          let may = may_where (readiness left.tables left.clock left.interest) left.tables left.clock x shows_x in
          let r = rose y.armed (not (has_bit y.mask.0 ET)) (is_nested v y && reached (number_at v.keys y.desc) && brings y.mask.0 IN) y.fresh may not_yet in
          let two = both_true (is_nested v y && reached (number_at v.keys y.desc)) (brings y.mask.0 IN) r.1 in
          let three = both_true (is_nested v y) (reached (number_at v.keys y.desc)) two.0 in
          above r.0 (sym (brings_asked y.mask.0) ∙ two.1) three.0 three.1
    ]

    -- the event added or modified it
    altering : WasAltered old.tables.limits b caller.0 event mid left.tables x → stands h3 (entry_id k) ≡ true
    altering h =
        let m = mid.interest in
        let w = was_under n outcome.raising mid noted buried leaves (entry_id k) y under in
        let link = holds_under (IsLinked v.keys) buried.interest (entry_id k) y leaves.coherent_buried.linked under in
        let kept = leaves.burial.buries.keys in
        let instance_left : number_at v.keys y.instance ≡ h.left.instance = ap (λ (q : Seen). number_at q.keys y.instance) (sym tables_left) ∙ h.instance in
        let target_left : number_at v.keys y.desc ≡ h.left.target = ap (λ (q : Seen). number_at q.keys y.desc) (sym tables_left) ∙ h.target in
        let of : IsOf mid z h.left = record {
          instance = sym (ap (λ (u : KernelWatch). u.instance) w.watch) ∙ instance_left;
          fd = sym (ap (λ (u : KernelWatch). u.fd) w.watch) ∙ h.fd;
          target = sym (ap (λ (u : KernelWatch). u.target) w.watch) ∙ target_left;
        } in
        let shows_mid : key_shows mid k ≡ true = ap (shows_found mid) under_mid ∙ h.shown z (member_of m (entry_id k) z under_mid) same_number in
        stays_on (altered_stands old mid keys tables leaves.tables leaves.coherent.linked old.tables.limits b keeps.stands.files caller.0 event h1 h.allowed goes_on.altered k z under_mid h.left of h.altered shows_mid)

    stands_now : stands h3 (entry_id k) ≡ true
    stands_now = elim (causes law past old mid left keeps caller event outcome n at does spreads x (member_of left.interest (entry_id k) x here) shows_x) [
      | inl h ↦ earlier h
      | inr now ↦ elim now [ inl h ↦ passing h | inr other ↦ elim other [ inl h ↦ above_by h | inr h ↦ altering h ] ]
    ]

  complete_now : HasReportables left h3
  complete_now k shown = by (entry_under buried.interest (entry_id k)) refl where
    by : (o : Option Entry) → entry_under buried.interest (entry_id k) ≡ o → stands h3 (entry_id k) ≡ true
    by None is = absurd (false≢true (sym (ap (shows_found left) (under_left (entry_id k) ∙ ap (option_map rise) is)) ∙ shown))
    by (Some y) is = stands_now k y is shown

  pub hopes_left : HopesFor left h3
  hopes_left = record { places = places_now; complete = complete_now }

-- What is passed on plays no part in what is reportable.
abbrev at_rest : Registrations → Registrations
at_rest r = record r { entries = map settled r.entries }

module _ (p : Parts) (r : Registrations) (ws : List Waiter) (entries : map settled r.entries ≡ map settled p.interest.entries) (keys : r.keys ≡ p.interest.keys) where
  abbrev q : Parts
  q = record p { interest = r; parked = ws }

  -- under a key stands what stood there, but for what it passes on
  under_same : (id : EntryId) → option_map settled (entry_under r id) ≡ option_map settled (entry_under p.interest id)
  under_same id =
      sym (under_settled r (at_rest r) refl refl id)
      ∙ ((λ i. entry_found (entries i) (slice_index_or (keys i) id.0 None)) ∙ under_settled p.interest (at_rest p.interest) refl refl id)

  shows_same : (k : ℕ) → key_shows q k ≡ key_shows p k
  shows_same k = over (entry_under r (entry_id k)) ∙ (ap (shows_found p) (under_same (entry_id k)) ∙ of (entry_under p.interest (entry_id k))) where
    over : (o : Option Entry) → shows_found q o ≡ shows_found p (option_map settled o)
    over None = refl
    over (Some x) = ap (λ (ready : ℕ → Bool). entry_shows ready p.tables p.clock x) (ready_settled p.tables p.clock p.interest r entries)

    of : (o : Option Entry) → shows_found p (option_map settled o) ≡ shows_found p o
    of None = refl
    of (Some x) = refl

  places_same : (id : EntryId) → option_map (λ (x : Entry). x.instance.0) (entry_under r id) ≡ option_map (λ (x : Entry). x.instance.0) (entry_under p.interest id)
  places_same id = sym (of (entry_under r id)) ∙ (ap (option_map (λ (x : Entry). x.instance.0)) (under_same id) ∙ of (entry_under p.interest id)) where
    of : (o : Option Entry) → option_map (λ (x : Entry). x.instance.0) (option_map settled o) ≡ option_map (λ (x : Entry). x.instance.0) o
    of None = refl
    of (Some x) = refl

  -- hopes that fit go on fitting
  pub hopes_settled : (l : Lists) → HopesFor p l → HopesFor q l
  hopes_settled l h = record {
    places = λ id. h.places id ∙ sym (places_same id);
    complete = λ k shown. h.complete k (sym (shows_same k) ∙ shown);
  }
