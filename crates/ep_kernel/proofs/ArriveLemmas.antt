-- What comes to the end of its list in the climb, passes something on in the machine.
use Rattle.ep_law.proofs.GraphLemmas.{member_of_map}
use Rattle.std.proofs.Common.{◌≡◌, ◌∙◌, ◌==◌, ◌&&◌, ℕ, Bool, true, false, List, Option, Some, ap, filter, if◌then◌else◌, inl, inr, map, nat_lt, subst, sym, unwrap_or}
use Rattle.std.proofs.lemmas.Bool.{false≢true}
use Rattle.ep_facts.proofs.NatFacts.{from_test, same_nat}
use Rattle.ep_facts.proofs.BoolFacts.{both_true, or_cases, or_left, or_right}
use Rattle.ep_calls.specs.Climb.{is_nested, link_of}
use Rattle.ep_calls.specs.Moves.{StandFor}
use Rattle.ep_calls.specs.Parts.{AreCoherent, Parts}
use Rattle.ep_calls.specs.Raising.{AsRaisedIn}
use Rattle.ep_calls.specs.Stands.{number_at, watch_at}
use Rattle.ep_calls.specs.declared.raising.Raising.{Raising}
use Rattle.ep_interest.specs.Passes.{has_id}
use Rattle.ep_interest.specs.Registrations.{Registrations, entry_under, ids, is_on, lets_in}
use Rattle.ep_interest.specs.declared.entry.Entry.{Entry}
use Rattle.ep_calls.proofs.PassLemmas.{by_machine, kept_watches, noted_watch, passes_is}
use Rattle.ep_calls.specs.Ends.{Leaves}
use Rattle.ep_kernel.proofs.ViewLemmas.{among_ids, entry_views, view_member}
use Rattle.ep_kernel.specs.Listed.{may_stand}
use Rattle.ep_kernel.specs.Push.{comes_by, comes_in, passes_found}
use Rattle.ep_law.proofs.ListLemmas.{any_member, filtered_passes}
use Rattle.ep_law.specs.Laws.{Member, passes_on_of}
use Rattle.ep_machine.specs.Bits.{IN, asked}
use Rattle.ep_machine.specs.Deaths.{buried as buried_of}
use Rattle.ep_machine.specs.Files.{object_of}
use Rattle.ep_machine.specs.Objects.{is_instance, plain}
use Rattle.ep_machine.specs.Settle.{settle}
use Rattle.ep_machine.specs.Spread.{raised_of}
use Rattle.ep_machine.specs.State.{Change, State, Watch}
use Rattle.ep_nest.specs.declared.link.Link.{Link}
use Rattle.ep_calls.specs.Climb.{is_reached_key}
use Rattle.ep_rings.specs.KeyWalk.{entry_id}
use Rattle.ep_view.specs.AtRest.{Changed, Remains}
use Rattle.ep_view.specs.KernelView.{KernelWatch, carries, freshened, kernel_watch, kernel_watches, reached_now, watches_instance}

-- a number that is the event's or none
stamped : (n : ℕ) (b : Bool) → nat_lt 0 (if b then n else 0) ≡ true → ((if b then n else 0) == n) ≡ true
stamped n true h = same_nat n
stamped n false h = absurd (false≢true h)

module _ (n : ℕ) (raising : Raising) (mid : Parts) (noted : Registrations) (buried : Parts) (leaves : Leaves n raising mid noted buried)
    (b : State) (c : Change) (stands : StandFor mid c.1) (changed : Changed c.1) (settled : Remains c.1 c.2 (settle b c.1 c.2)) (at : c.1.n ≡ n) (counted : (0 == n) ≡ false)
    (as_raised : AsRaisedIn c.1.files raising mid.tables mid.clock c.2) (same_files : (settle b c.1 c.2).files ≡ buried.tables.files) (coherent : AreCoherent buried) where
  abbrev keys : List (Option ℕ)
  keys = buried.tables.keys

  abbrev reached : ℕ → Bool
  reached = reached_now buried.tables.files n (map (watch_at keys) buried.interest.entries)

  abbrev note : Watch → KernelWatch
  note = noted_watch n raising mid noted buried leaves b c stands changed settled at counted as_raised same_files

  -- a registration of a link of the graph is on an instance
  link_from : (l : Link) → Member l buried.graph → (x : Entry) × (l.inner ≡ x.desc) × (is_nested buried.tables x ≡ true)
  link_from l m =
      let nested = filter (is_nested buried.tables) buried.interest.entries in
      let y = member_of_map (link_of buried.interest) nested l (subst (Member l) coherent.nested m) in
      (y.0, ap (λ (j : Link). j.inner) (sym y.2), filtered_passes (is_nested buried.tables) buried.interest.entries y.0 y.1)

  comes_carries : (k : ℕ) (x : Entry) → entry_under buried.interest (entry_id k) ≡ Some x → (nat_lt 0 x.passes_in ≡ true → (x.passes_in == n) ≡ true) → comes_in n buried k ≡ true → carries reached buried.tables.files n (watch_at keys x) ≡ true
  comes_carries k x is stamp t = elim (or_cases (passes_found (entry_under buried.interest (entry_id k))) _ t) [
    | inl direct ↦ or_left (x.passes_in == n) _ (stamp (both_true (nat_lt 0 x.passes_in) (may_stand x) (sym (ap passes_found is) ∙ direct)).0)
    | inr above ↦
        let link = any_member (λ l. comes_by n buried l k) buried.graph above in
        let l = link.0 in
        let here = both_true (is_reached_key n buried.tables buried.interest l.inner) (has_id (ids buried.interest (filter (is_on l.inner) buried.interest.entries)) k && lets_in (entry_under buried.interest (entry_id k))) link.2 in
        let more = both_true (has_id (ids buried.interest (filter (is_on l.inner) buried.interest.entries)) k) (lets_in (entry_under buried.interest (entry_id k))) here.1 in
        let on : is_on l.inner x ≡ true = sym (among_ids keys buried.interest leaves.left (is_on l.inner) k x is) ∙ more.0 in
        let lets = both_true x.armed (nat_lt 0 (asked x.mask.0 IN)) (sym (ap lets_in is) ∙ more.1) in
        let source = link_from l link.1 in
        let number : number_at keys x.desc ≡ number_at keys l.inner = ap (λ (j : ℕ). number_at keys (record { 0 = j })) (from_test x.desc.0 l.inner.0 on) in
        let nested : watches_instance buried.tables.files (watch_at keys x) ≡ true = ap (λ (d : ℕ). is_instance (unwrap_or (object_of buried.tables.files d) plain)) (number ∙ ap (number_at keys) source.1) ∙ source.2 in
        let reaches : reached (number_at keys x.desc) ≡ true = ap reached number ∙ here.0 in
        or_right (x.passes_in == n) _ (λ i. lets.0 i && nested i && reaches i && lets.1 i)
  ]

  -- a registration that came, as the machine had it after the change
  pub came_from : (k : ℕ) (x : Entry) → entry_under buried.interest (entry_id k) ≡ Some x → comes_in n buried k ≡ true
      → (w : Watch) × Member w (buried_of c.1 c.2).0.watches × (note w ≡ watch_at keys x) × (passes_on_of c w ≡ true)
  came_from k x is t =
      let kept : List Watch = (buried_of c.1 c.2).0.watches in
      let bits = by_machine n raising mid noted buried leaves b c stands changed settled at counted as_raised same_files in
      let there = view_member keys buried.interest k (watch_at keys x) (entry_views keys buried.interest k x is) in
      let same = kept_watches n raising mid noted buried leaves b c stands changed settled at counted as_raised same_files in
      let v = member_of_map (freshened n bits) (kernel_watches c.1 kept) (watch_at keys x) (subst (Member (watch_at keys x)) (sym same) there) in
      let w = member_of_map (kernel_watch c.1) kept v.0 v.1 in
      let view : note w.0 ≡ watch_at keys x = ap (freshened n bits) w.2 ∙ v.2 in
      let stamp : nat_lt 0 x.passes_in ≡ true → (x.passes_in == n) ≡ true = λ positive.
      subst (λ (u : KernelWatch). nat_lt 0 u.passes_in ≡ true → (u.passes_in == n) ≡ true) view (stamped n (w.0.armed && nat_lt 0 (asked w.0.mask (raised_of bits w.0.target)))) positive in (
        w.0,
        w.1,
        view,
        passes_is n raising mid noted buried leaves b c stands changed settled at counted as_raised same_files w.0 w.1
            ∙ (ap (carries reached buried.tables.files n) view ∙ comes_carries k x is stamp t),
      )
