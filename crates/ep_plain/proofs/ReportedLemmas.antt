-- What an event leaves of a registration between its change and its end: its number, what it names, and its last report.
use Rattle.std.proofs.Common.{◌≡◌, ◌∙◌, ◌==◌, ℕ, Bool, List, [], None, Option, Some, ap, filter, inl, inr, map, refl, slice_index_or, subst, sym}
use Rattle.ep_base.specs.declared.ids.EntryId.{EntryId}
use Rattle.ep_calls.proofs.EntryLemmas.{holds_under, member_of, number_of, own}
use Rattle.ep_calls.proofs.RaiseLemmas.{Freshens, stirs_watches}
use Rattle.ep_calls.specs.Burial.{is_untouched}
use Rattle.ep_calls.specs.Climb.{risen}
use Rattle.ep_calls.specs.Ends.{Spreads}
use Rattle.ep_calls.specs.Parts.{Parts}
use Rattle.ep_calls.specs.Raising.{raised_bits}
use Rattle.ep_calls.specs.Stands.{number_at, watch_at}
use Rattle.ep_calls.specs.declared.raising.Raising.{Raising}
use Rattle.ep_interest.specs.Registrations.{entry_found, entry_under, number_under, numbered}
use Rattle.ep_interest.specs.declared.entry.Entry.{Entry}
use Rattle.ep_law.proofs.GraphLemmas.{member_of_map}
use Rattle.ep_law.proofs.ListLemmas.{filtered_member, member_map}
use Rattle.ep_law.specs.Laws.{Member}
use Rattle.ep_machine.specs.Deaths.{die_all}
use Rattle.ep_machine.specs.Files.{Place}
use Rattle.ep_machine.specs.Lists.{is_among}
use Rattle.ep_machine.specs.Spread.{raised_of}
use Rattle.ep_machine.specs.Watches.{number_in}
use Rattle.ep_plain.specs.Exact.{TellsReports}
use Rattle.ep_table.specs.Value.{Seen}
use Rattle.ep_view.specs.KernelView.{KernelWatch, freshened, freshened_by, reached_now}

-- a registration that is left, as the change left it
pub record WasThen (mid left : Parts) (id : EntryId) (x : Entry) : Type 0 where
  pub was : Entry
  pub under : entry_under mid.interest id ≡ Some was
  pub number : was.number ≡ x.number
  pub instance : number_at mid.tables.keys was.instance ≡ number_at left.tables.keys x.instance
  pub fd : number_in was.fd.0 ≡ number_in x.fd.0
  pub target : number_at mid.tables.keys was.desc ≡ number_at left.tables.keys x.desc
  pub reported : was.reported_in ≡ x.reported_in

-- what no spread changes
record Same (v w : KernelWatch) : Type 0 where
  number : v.number ≡ w.number
  instance : v.instance ≡ w.instance
  fd : v.fd ≡ w.fd
  target : v.target ≡ w.target
  reported : v.reported_in ≡ w.reported_in

same_by : (u v w x : KernelWatch) → Same u v → v ≡ w → Same w x → Same u x
same_by u v w x h e k = record {
  number = h.number ∙ (ap (λ (q : KernelWatch). q.number) e ∙ k.number);
  instance = h.instance ∙ (ap (λ (q : KernelWatch). q.instance) e ∙ k.instance);
  fd = h.fd ∙ (ap (λ (q : KernelWatch). q.fd) e ∙ k.fd);
  target = h.target ∙ (ap (λ (q : KernelWatch). q.target) e ∙ k.target);
  reported = h.reported ∙ (ap (λ (q : KernelWatch). q.reported_in) e ∙ k.reported);
}

-- it is what it is
itself : (w : KernelWatch) → Same w w
itself w = record { number = refl; instance = refl; fd = refl; target = refl; reported = refl }

stirred_same : (n : ℕ) (bits : ℕ → ℕ) (w : KernelWatch) → Same w (freshened_by n bits w)
stirred_same n bits w = record { number = refl; instance = refl; fd = refl; target = refl; reported = refl }

risen_same : (reached : ℕ → Bool) (v : Seen) (x : Entry) → Same (watch_at v.keys x) (watch_at v.keys (risen reached v x))
risen_same reached v x = record { number = refl; instance = refl; fd = refl; target = refl; reported = refl }

module _ (n : ℕ) (raising : Raising) (mid left : Parts) (spreads : Spreads n raising mid left) where
  abbrev buried : Parts
  buried = spreads.buried

  abbrev bits : ℕ → ℕ
  bits = raised_bits raising mid.tables mid.clock

  abbrev dead : List (ℕ × Place)
  dead = spreads.leaves.burial.buries.dead

  abbrev by_deaths : List (ℕ × ℕ)
  by_deaths = (die_all (mid.tables.files, []) dead).1

  abbrev reached : ℕ → Bool
  reached = reached_now buried.tables.files n (map (watch_at buried.tables.keys) buried.interest.entries)

  abbrev stays : KernelWatch → Bool
  stays = is_untouched (map (λ (x : ℕ × Place). x.0) dead)

  freshens : Freshens mid.tables n bits mid.interest.entries spreads.noted.entries
  freshens = stirs_watches raising mid.tables mid.clock n mid.interest spreads.noted spreads.leaves.stirs spreads.leaves.tables spreads.leaves.raises spreads.leaves.coherent.linked

  -- each that is left comes from one
  source : (x : Entry) → Member x left.interest.entries → (z : Entry) × Member z mid.interest.entries × Same (watch_at mid.tables.keys z) (watch_at left.tables.keys x)
  source x m =
      let v = buried.tables in
      let noted = map (watch_at mid.tables.keys) spreads.noted.entries in
      let u = member_of_map (risen reached v) buried.interest.entries x (subst (Member x) spreads.rises.entries m) in
      let w = watch_at v.keys u.0 in
      let k = member_of_map (freshened n by_deaths) (filter stays noted) w (subst (Member w) spreads.leaves.burial.buries.watches (member_map (watch_at v.keys) u.0 buried.interest.entries u.1)) in
      let then = map (watch_at mid.tables.keys) mid.interest.entries in
      let l = member_of_map (freshened_by n bits) then k.0 (subst (Member k.0) freshens.watches (filtered_member stays noted k.0 k.1)) in
      let z = member_of_map (watch_at mid.tables.keys) mid.interest.entries l.0 l.1 in
      let stirred = same_by (watch_at mid.tables.keys z.0) (watch_at mid.tables.keys z.0) l.0 (freshened_by n bits l.0) (itself (watch_at mid.tables.keys z.0)) z.2 (stirred_same n bits l.0) in
      let noted_so = same_by (watch_at mid.tables.keys z.0) (freshened_by n bits l.0) k.0 (freshened n by_deaths k.0) stirred l.2 (stirred_same n (raised_of by_deaths) k.0) in
      let left_so = same_by (watch_at mid.tables.keys z.0) (freshened n by_deaths k.0) w (watch_at v.keys (risen reached v u.0)) noted_so k.2 (risen_same reached v u.0) in
      let here : watch_at v.keys (risen reached v u.0) ≡ watch_at left.tables.keys x = ap (watch_at v.keys) u.2 ∙ ap (λ (p : Parts). watch_at p.tables.keys x) (sym spreads.others) in
      (z.0, z.1, same_by (watch_at mid.tables.keys z.0) (watch_at v.keys (risen reached v u.0)) (watch_at left.tables.keys x) (watch_at left.tables.keys x) left_so here (itself (watch_at left.tables.keys x)))

  -- a key that is left had its number
  number_then : (id : EntryId) (k : ℕ) → number_under left.interest id ≡ Some k → number_under mid.interest id ≡ Some k
  number_then id k is =
      let same : number_under left.interest id ≡ number_under buried.interest id = ap (λ (ks : List (Option ℕ)). slice_index_or ks id.0 None) spreads.keys in
      let noted : number_under spreads.noted id ≡ number_under mid.interest id = ap (λ (ks : List (Option ℕ)). slice_index_or ks id.0 None) spreads.leaves.keys in
      elim (spreads.leaves.ids id) [
        | inl none ↦ absurd (let no : None ≡ Some k = sym none ∙ (sym same ∙ is) in cc)
        | inr kept ↦ sym noted ∙ (sym kept ∙ (sym same ∙ is))
      ]

  pub was_then : (id : EntryId) (x : Entry) → entry_under left.interest id ≡ Some x → WasThen mid left id x
  was_then id x up =
      let z = source x (member_of left.interest id x up) in
      let found = number_then id x.number (number_of left.interest id x up) in
      record {
        was = z.0;
        under = ap (entry_found mid.interest.entries) found ∙ (ap (numbered mid.interest.entries) (sym z.2.number) ∙ own mid.interest spreads.leaves.was z.0 z.1);
        number = z.2.number;
        instance = z.2.instance;
        fd = z.2.fd;
        target = z.2.target;
        reported = z.2.reported;
      }

  -- exactly those that the event reported were last reported in it
  pub reported_left : (picked : List ℕ) → TellsReports n picked mid.interest → (id : EntryId) (x : Entry) → entry_under left.interest id ≡ Some x → is_among picked x.number ≡ (x.reported_in == n)
  reported_left picked told id x up =
      let w = was_then id x up in
      ap (is_among picked) (sym w.number)
      ∙ (holds_under (λ y. is_among picked y.number ≡ (y.reported_in == n)) mid.interest id w.was told w.under ∙ ap (λ (k : ℕ). k == n) w.reported)
