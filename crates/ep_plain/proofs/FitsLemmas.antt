-- What is kept of registrations fits those that a change leaves, and says which are lost.
use Rattle.std.proofs.Common.{◌≡◌, ◌<◌, ◌∙◌, ◌⊎◌, true, None, Option, Some, ap, arith, inl, inr, map, refl, subst, sym}
use Rattle.std.specs.Option.{option_map}
use Rattle.ep_facts.proofs.OptionFacts.{some_same}
use Rattle.ep_base.specs.declared.ids.DescId.{DescId}
use Rattle.ep_base.specs.declared.ids.EntryId.{EntryId}
use Rattle.ep_base.specs.declared.mask.Mask.{Mask}
use Rattle.ep_calls.proofs.MappedLemmas.{under_mapped}
use Rattle.ep_choice.specs.Room.{HaveRoom}
use Rattle.ep_dates.specs.Kept.{AreKept}
use Rattle.ep_interest.specs.Exclusive.{is_exclusive}
use Rattle.ep_interest.specs.Registrations.{Registrations, entry_under}
use Rattle.ep_interest.specs.declared.entry.Entry.{Entry}
use Rattle.ep_machine.specs.Bits.{EXCLUSIVE, has_bit}
use Rattle.ep_plain.specs.Dating.{Fits}
use Rattle.ep_plain.specs.declared.dating.Dating.{Dating}

-- it was there under its key, of the same instance and on the same, and exclusive if it is now
pub record Remained (old : Registrations) (id : EntryId) (x : Entry) : Type 0 where
  pub was : Entry
  pub there : entry_under old id ≡ Some was
  pub instance : was.instance.0 ≡ x.instance.0
  pub desc : was.desc.0 ≡ x.desc.0
  pub exclusive : is_exclusive x ≡ true → is_exclusive was ≡ true

-- there is room for it
pub record IsRoomy (e : Dating) (id : EntryId) (x : Entry) : Type 0 where
  pub reached : x.instance.0 < e.reached.room
  pub gone : x.instance.0 < e.gone.room
  pub flags : id.0 < e.flags.room
  pub lost : x.instance.0 < e.choice.lost.room
  pub targets : is_exclusive x ≡ true → x.desc.0 < e.choice.targets.room
  pub candidates : is_exclusive x ≡ true → id.0 < e.choice.candidates.keys.room

-- as much room as before
pub record SameRoom (d e : Dating) : Type 0 where
  pub reached : e.reached.room ≡ d.reached.room
  pub gone : e.gone.room ≡ d.gone.room
  pub flags : e.flags ≡ d.flags
  pub lost : e.choice.lost.room ≡ d.choice.lost.room
  pub targets : e.choice.targets.room ≡ d.choice.targets.room
  pub candidates : e.choice.candidates.keys.room ≡ d.choice.candidates.keys.room

-- each registration was there, or there is room for it
pub fits_from : (old new : Registrations) (d e : Dating) → Fits old d → AreKept new e.dates → SameRoom d e → HaveRoom e.choice.lost.reached e.reached
    → ((id : EntryId) (x : Entry) → entry_under new id ≡ Some x → Remained old id x ⊎ IsRoomy d id x) → Fits new e
fits_from old new d e fits kept same lost from = record {
  kept = kept;
  reached = λ id x at. let room = same.reached in elim (from id x at) [
    | inl w ↦ let lt = fits.reached id w.was w.there in let one = w.instance in omega (arith, lt, one, room)
    | inr r ↦ let lt = r.reached in omega (arith, lt, room)
  ];
  gone = λ id x at. let room = same.gone in elim (from id x at) [
    | inl w ↦ let lt = fits.gone id w.was w.there in let one = w.instance in omega (arith, lt, one, room)
    | inr r ↦ let lt = r.gone in omega (arith, lt, room)
  ];
  flags = λ id x at. subst (λ w. id.0 < w.room) (sym same.flags) (elim (from id x at) [
    | inl w ↦ fits.flags id w.was w.there
    | inr r ↦ r.flags
  ]);
  unflagged = ap (λ w. w.reached) same.flags ∙ fits.unflagged;
  choice = record {
    candidates = λ id x at is. let room = same.candidates in elim (from id x at) [
      | inl w ↦ let lt = fits.choice.candidates id w.was w.there (w.exclusive is) in omega (arith, lt, room)
      | inr r ↦ let lt = r.candidates is in omega (arith, lt, room)
    ];
    targets = λ id x at is. let room = same.targets in elim (from id x at) [
      | inl w ↦ let lt = fits.choice.targets id w.was w.there (w.exclusive is) in let one = w.desc in omega (arith, lt, one, room)
      | inr r ↦ let lt = r.targets is in omega (arith, lt, room)
    ];
    lost = λ id x at. let room = same.lost in elim (from id x at) [
      | inl w ↦ let lt = fits.choice.lost id w.was w.there in let one = w.instance in omega (arith, lt, one, room)
      | inr r ↦ let lt = r.lost in omega (arith, lt, room)
    ];
  };
  lost = lost;
}

-- each is changed, and keeps these
pub remained_mapped : (f : Entry → Entry) → ((x : Entry) → (f x).number ≡ x.number) → ((x : Entry) → (f x).instance ≡ x.instance) → ((x : Entry) → (f x).desc ≡ x.desc) → ((x : Entry) → (f x).mask ≡ x.mask) → (old new : Registrations) → new.entries ≡ map f old.entries → new.keys ≡ old.keys
    → (id : EntryId) (x : Entry) → entry_under new id ≡ Some x → Remained old id x
remained_mapped f number instance desc mask old new entries keys id x at = of (entry_under old id) refl (sym (under_mapped f number old new entries keys id) ∙ at) where
  of : (o : Option Entry) → entry_under old id ≡ o → option_map f o ≡ Some x → Remained old id x
  of None is h = absurd (let e : None ≡ Some x = h in cc)
  of (Some w) is h =
      let same = some_same (f w) x h in
      record {
        was = w;
        there = is;
        instance = ap (λ (i : DescId). i.0) (sym (instance w)) ∙ ap (λ (y : Entry). y.instance.0) same;
        desc = ap (λ (i : DescId). i.0) (sym (desc w)) ∙ ap (λ (y : Entry). y.desc.0) same;
        exclusive = λ e. ap (λ (m : Mask). has_bit m.0 EXCLUSIVE) (sym (mask w) ∙ ap (λ (y : Entry). y.mask) same) ∙ e;
      }
