-- Registrations on an instance that turned.
use Rattle.std.proofs.Common.{◌≡◌, ◌&&◌, ◌||◌, ◌∙◌, ◌++◌, ℕ, Bool, true, false, List, [], ◌∷◌, None, Option, Some, ap, filter, inl, inr, nat_lt, not, refl, subst, sym, unwrap_or}
use Rattle.std.specs.Prelude.{bit_and}
use Rattle.std.proofs.lemmas.Bool.{false≢true}
use Rattle.std.proofs.lemmas.Nat.{and_comm, and_or_apart}
use Rattle.ep_facts.proofs.AmongFacts.{among_append}
use Rattle.ep_facts.proofs.BoolFacts.{or_cases}
use Rattle.ep_facts.proofs.NatFacts.{from_test, positive}
use Rattle.ep_base.specs.declared.ids.DescId.{DescId}
use Rattle.ep_base.specs.declared.ids.EntryId.{EntryId}
use Rattle.ep_base.specs.declared.object.End.{End}
use Rattle.ep_calls.proofs.EntryKeyLemmas.{id_is}
use Rattle.ep_calls.proofs.EntryLemmas.{key_of, number_of}
use Rattle.ep_calls.specs.Climb.{is_nested, is_nested_key}
use Rattle.ep_calls.specs.Parts.{Parts}
use Rattle.ep_calls.specs.Stands.{number_at}
use Rattle.ep_dates.proofs.RowLemmas.{has_first}
use Rattle.ep_dates.specs.Ask.{AreHomes, AreInstances, Asks, shows_over, shows_ready}
use Rattle.ep_dates.specs.Dates.{Dates, forgot, is_ready}
use Rattle.ep_dates.specs.Kept.{AreKept}
use Rattle.ep_interest.specs.Registrations.{IsSound, Registrations, entry_under, id_of, ids, is_on}
use Rattle.ep_interest.specs.declared.entry.Entry.{Entry}
use Rattle.ep_law.proofs.GraphLemmas.{member_of_map}
use Rattle.ep_law.proofs.ListLemmas.{filtered_member, filtered_passes}
use Rattle.ep_law.specs.Laws.{Member}
use Rattle.ep_machine.specs.Bits.{ERR, ET, HUP, IN, asked, has_bit, union, when}
use Rattle.ep_machine.specs.Files.{object_of, side_of}
use Rattle.ep_machine.specs.Lists.{is_among}
use Rattle.ep_machine.specs.Objects.{Object, instance, is_instance, plain}
use Rattle.ep_machine.specs.Readiness.{present_of}
use Rattle.ep_walk.specs.Walk.{Walk}
use Rattle.ep_rings.specs.KeyWalk.{entry_id}
use Rattle.ep_rings.specs.PlacedRows.{keys_at}
use Rattle.ep_view.proofs.ClimbLemmas.{zero_asked}

-- a mask asks for IN exactly if it has that bit
asked_in : (mask : ℕ) → nat_lt 0 (asked mask IN) ≡ has_bit mask IN
asked_in mask =
    ap (nat_lt 0) (and_comm IN (union (mask ∷ ERR ∷ HUP ∷ [])) ∙ and_or_apart IN mask (union (ERR ∷ HUP ∷ [])) refl) ∙ positive (bit_and mask IN)

-- On an instance that is ready something shows where IN is asked for, on one that isn't nothing does.
module _ (d : ℕ) (e : End) (now mask : ℕ) (armed rest : Bool) where
  abbrev shows_at : Bool → Option Object → Bool
  shows_at below o = nat_lt 0 (when armed (asked mask (present_of (λ k. below) d o e now))) && rest

  shows_on_ready : (o : Option Object) → is_instance (unwrap_or o plain) ≡ true → shows_at true o ≡ (armed && has_bit mask IN && rest)
  shows_on_ready None h = absurd (false≢true h)
  shows_on_ready (Some instance) h = by armed where
    by : (a : Bool) → (nat_lt 0 (when a (asked mask IN)) && rest) ≡ (a && has_bit mask IN && rest)
    by true = ap (λ (b : Bool). b && rest) (asked_in mask)
    by false = refl
  shows_on_ready o h = absurd (false≢true h)

  shows_on_idle : (o : Option Object) → is_instance (unwrap_or o plain) ≡ true → shows_at false o ≡ false
  shows_on_idle None h = absurd (false≢true h)
  shows_on_idle (Some instance) h = by armed where
    by : (a : Bool) → (nat_lt 0 (when a (asked mask 0)) && rest) ≡ false
    by true = ap (λ (b : Bool). b && rest) (zero_asked mask)
    by false = refl
  shows_on_idle o h = absurd (false≢true h)

pub ready_shows : (p : Parts) (x : Entry) → is_nested p.tables x ≡ true → shows_over p true x ≡ shows_ready x
ready_shows p x nested =
    let d = number_at p.tables.keys x.desc in
    shows_on_ready d (side_of p.tables.files d) p.clock x.mask.0 x.armed (not (has_bit x.mask.0 ET) || x.fresh) (object_of p.tables.files d) nested

pub idle_shows : (p : Parts) (x : Entry) → is_nested p.tables x ≡ true → shows_over p false x ≡ false
idle_shows p x nested =
    let d = number_at p.tables.keys x.desc in
    shows_on_idle d (side_of p.tables.files d) p.clock x.mask.0 x.armed (not (has_bit x.mask.0 ET) || x.fresh) (object_of p.tables.files d) nested

-- what stands under the key of one on a description is on it
pub listed_on : (r : Registrations) → IsSound r → (desc : DescId) (id : EntryId) (x : Entry) → Member id (ids r (filter (is_on desc) r.entries)) → entry_under r id ≡ Some x → x.desc.0 ≡ desc.0
listed_on r sound desc id x m at =
    let found = member_of_map (λ (y : Entry). id_of r y.number) (filter (is_on desc) r.entries) id m in
    let y = found.0 in
    let key = key_of r sound y (filtered_member (is_on desc) r.entries y found.1) in
    let same : key.0 ≡ id = sym (id_is r sound key.0 y.number (number_of r key.0 y key.1)) ∙ found.2 in
    let both : Some y ≡ Some x = sym key.1 ∙ (ap (entry_under r) same ∙ at) in
    let one : y ≡ x = cc in
    ap (λ (z : Entry). z.desc.0) (sym one) ∙ from_test y.desc.0 desc.0 (filtered_passes (is_on desc) r.entries y found.1)

-- Instances that have a registration, or had one.
module _ (p : Parts) (homes : AreHomes p) where
  row_home : (d : Dates) → AreKept p.interest d → (i : ℕ) → is_ready d i ≡ true → is_nested_key p.tables (record { 0 = i }) ≡ true
  row_home d kept i h =
      let first = has_first (keys_at d.rows i) h in
      let found = kept.only i first.0 first.1 in
      subst (λ (k : ℕ). is_nested_key p.tables (record { 0 = k }) ≡ true) found.2 (homes (entry_id first.0) found.0 found.1)

  -- what turns is an instance
  turned_home : (way : Bool) (n : ℕ) (asked : ℕ → Bool) (a b : Dates) → AreKept p.interest a → (t : Asks way n p asked a b) → (i : ℕ) → is_among t.more i ≡ true → is_nested_key p.tables (record { 0 = i }) ≡ true
  turned_home true n asked a b kept t i h = row_home b t.kept i (t.flips i h).1
  turned_home false n asked a b kept t i h = row_home a kept i (t.flips i h).0

  -- so what is noted goes on to be instances
  pub instances_still : (way : Bool) (n : ℕ) (asked : ℕ → Bool) (a b : Dates) → AreKept p.interest a → Asks way n p asked a b → AreInstances p a.turned.reached → AreInstances p b.turned.reached
  instances_still way n asked a b kept t old i h =
      elim (or_cases (is_among a.turned.reached i) (is_among t.more i) (sym (among_append a.turned.reached t.more i) ∙ (ap (λ (w : Walk). is_among w.reached i) (sym t.turned) ∙ h))) [
        | inl was ↦ old i was
        | inr new ↦ turned_home way n asked a b kept t i new
      ]

  pub no_instances : (d : Dates) → d.turned.reached ≡ [] → AreInstances p d.turned.reached
  no_instances d none i h = absurd (false≢true (ap (λ (l : List ℕ). is_among l i) (sym none) ∙ h))

-- the next of a list that is gone through
pub next_listed : (done : List EntryId) (id : EntryId) (rest : List EntryId) → Member id (done ++ id ∷ rest)
next_listed [] id rest = inl refl
next_listed (x ∷ done) id rest = inr (next_listed done id rest)

-- what is noted plays no part in what is kept
pub kept_forgot : (r : Registrations) (d : Dates) → AreKept r d → AreKept r (forgot d)
kept_forgot r d kept = record {
  places = λ id x at.
      let h = kept.places id x at in
      record { since = h.since; ids = h.ids; row = h.row; key = h.key; turn = h.turn };
  listed = kept.listed;
  only = kept.only;
  ids = kept.ids;
}
