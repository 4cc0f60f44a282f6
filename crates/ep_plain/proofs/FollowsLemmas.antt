-- What an event does to the dates that reports, or that changes no registration.
use Rattle.std.proofs.Common.{◌≡◌, ◌<◌, ◌∙◌, ◌==◌, ◌&&◌, ℕ, All, Bool, true, false, List, [], ◌∷◌, ap, arith, cond, inl, inr, map, not, refl, subst, sym}
use Rattle.std.proofs.lemmas.Bool.{cases_Bool, false≢true}
use Rattle.std.proofs.lemmas.Bool.Decides.{nat_tests}
use Rattle.std.proofs.lemmas.List.Elements.{All-map, All-weaker}
use Rattle.ep_facts.proofs.NatFacts.{same_nat}
use Rattle.ep_base.specs.declared.answer.Answer.{Answer}
use Rattle.ep_base.specs.declared.call.Call.{Call}
use Rattle.ep_base.specs.declared.call.Call.TheVariants.{EpollCtl}
use Rattle.ep_base.specs.declared.call.Event.{Event}
use Rattle.ep_base.specs.declared.call.Event.TheVariants.{Call as CallOf}
use Rattle.ep_base.specs.declared.ids.Pid.{Pid}
use Rattle.ep_calls.specs.FileCall.{IsFileCall}
use Rattle.ep_calls.specs.Control.{is_done}
use Rattle.ep_calls.specs.Parts.{Parts}
use Rattle.ep_calls.specs.Wait.{with_report}
use Rattle.ep_choice.proofs.NotesLostLemmas.{notes_mapped}
use Rattle.ep_dates.specs.Dates.{Dates}
use Rattle.ep_interest.specs.Registrations.{Registrations}
use Rattle.ep_interest.specs.declared.entry.Entry.{Entry}
use Rattle.ep_machine.specs.Bits.{ONESHOT, has_bit}
use Rattle.ep_machine.specs.Lists.{is_among}
use Rattle.ep_plain.proofs.FitsLemmas.{fits_from, remained_mapped}
use Rattle.ep_plain.proofs.LosesLemmas.{Stay, loses_none, stay_mapped}
use Rattle.ep_plain.specs.Exact.{Follows, IsExact, IsNamed, TellsReports}
use Rattle.ep_plain.specs.Loses.{Loses}
use Rattle.ep_plain.specs.declared.dating.Dating.{Dating}

-- Registrations under a report.
module _ (n : ℕ) (ks : List ℕ) where
  abbrev told : Entry → Entry
  told x = record x { armed = x.armed && not (has_bit x.mask.0 ONESHOT); fresh = false; reported_in = n }

  is_told : (x : Entry) → is_among ks x.number ≡ true → with_report n ks x ≡ told x
  is_told x t = ap (λ (b : Bool). cond b (told x) x) t

  is_same : (x : Entry) → is_among ks x.number ≡ false → with_report n ks x ≡ x
  is_same x f = ap (λ (b : Bool). cond b (told x) x) f

  number_told : (x : Entry) → (with_report n ks x).number ≡ x.number
  number_told x = elim (cases_Bool (is_among ks x.number)) [
    | inl t ↦ ap (λ (y : Entry). y.number) (is_told x t)
    | inr f ↦ ap (λ (y : Entry). y.number) (is_same x f)
  ]

  instance_told : (x : Entry) → (with_report n ks x).instance ≡ x.instance
  instance_told x = elim (cases_Bool (is_among ks x.number)) [
    | inl t ↦ ap (λ (y : Entry). y.instance) (is_told x t)
    | inr f ↦ ap (λ (y : Entry). y.instance) (is_same x f)
  ]

  desc_told : (x : Entry) → (with_report n ks x).desc ≡ x.desc
  desc_told x = elim (cases_Bool (is_among ks x.number)) [
    | inl t ↦ ap (λ (y : Entry). y.desc) (is_told x t)
    | inr f ↦ ap (λ (y : Entry). y.desc) (is_same x f)
  ]

  mask_told : (x : Entry) → (with_report n ks x).mask ≡ x.mask
  mask_told x = elim (cases_Bool (is_among ks x.number)) [
    | inl t ↦ ap (λ (y : Entry). y.mask) (is_told x t)
    | inr f ↦ ap (λ (y : Entry). y.mask) (is_same x f)
  ]

  -- it is reported in event n exactly if it is picked
  tells_one : (x : Entry) → x.reported_in < n → is_among ks (with_report n ks x).number ≡ ((with_report n ks x).reported_in == n)
  tells_one x lt = elim (cases_Bool (is_among ks x.number)) [
    | inl t ↦
        let e = is_told x t in
        ap (λ (y : Entry). is_among ks y.number) e ∙ (t ∙ sym (ap (λ (y : Entry). y.reported_in == n) e ∙ same_nat n))
    | inr f ↦
        let e = is_same x f in
        let before : (x.reported_in == n) ≡ false = grind (arith, nat_tests, lt) in
        ap (λ (y : Entry). is_among ks y.number) e ∙ (f ∙ sym (ap (λ (y : Entry). y.reported_in == n) e ∙ before))
  ]

  pub tells_picked : (old new : Registrations) → new.entries ≡ map (with_report n ks) old.entries → All (λ (x : Entry). x.reported_in < n) old.entries → TellsReports n ks new
  tells_picked old new entries past =
      let P : Entry → Type 0 = λ x. is_among ks x.number ≡ (x.reported_in == n) in
      subst (All P) (sym entries) (All-map P (with_report n ks) old.entries (All-weaker (λ (x : Entry). x.reported_in < n) (λ (x : Entry). P (with_report n ks x)) tells_one old.entries past))

-- nothing is reported
pub none_told : (n : ℕ) (xs : List Entry) → map (with_report n []) xs ≡ xs
none_told n [] = refl
none_told n (x ∷ xs) = ap (λ (ys : List Entry). x ∷ ys) (none_told n xs)

-- how many were ever added plays no part where no date changes
pub loses_aside : (old new : Registrations) (many : ℕ) (d : Dates) → Loses old (record new { added = many }) d d → Loses old new d d
loses_aside old new many d l = record {
  kept = record { places = l.kept.places; listed = l.kept.listed; only = l.kept.only; ids = l.kept.ids };
  stays = l.stays;
  later = λ k lt. refl;
  noted = λ i h. inl h;
  still = λ i h. h;
  order = λ n order. let o = l.order n order in record { rise = o.rise; past = o.past };
}

-- Of an event that reports these.
module _ (n : ℕ) (event : Event) (answer : Answer) (picked : List ℕ) (old new : Parts) (d : Dating) (exact : IsExact n old d) (keys : new.interest.keys ≡ old.interest.keys)
    (entries : new.interest.entries ≡ map (with_report n picked) old.interest.entries)
  where
    abbrev aside : Registrations
    aside = record new.interest { added = old.interest.added }

    stay : Stay old.interest aside
    stay = stay_mapped (with_report n picked) (number_told n picked) (λ x i. (instance_told n picked x i).0) old.interest aside entries keys refl

    loses : Loses old.interest new.interest d.dates d.dates
    loses = loses_aside old.interest new.interest old.interest.added d.dates (loses_none old.interest aside stay d.dates exact.fits.kept)

    -- and alters none, or is refused
    pub reports_follow : (is_done answer ≡ true → (x : Entry) → IsNamed old.tables event x → ⊥) → Follows n event answer picked old d new d
    reports_follow unnamed = record {
      loses = loses;
      fits = fits_from old.interest new.interest d d exact.fits loses.kept (record { reached = refl; gone = refl; flags = refl; lost = refl; targets = refl; candidates = refl }) exact.fits.lost
          (λ id x at. inl (remained_mapped (with_report n picked) (number_told n picked) (instance_told n picked) (desc_told n picked) (mask_told n picked) old.interest new.interest entries keys id x at));
      told = tells_picked n picked old.interest new.interest entries exact.past;
      altered = λ done id x at named. absurd (unnamed done x named);
      lost = notes_mapped (with_report n picked) (number_told n picked) old new entries d.choice.lost.reached;
    }

-- Of one that changes none, and reports nothing.
module _ (n : ℕ) (event : Event) (answer : Answer) (picked : List ℕ) (old new : Parts) (d : Dating) (exact : IsExact n old d) (same : new.interest ≡ old.interest) (none : picked ≡ []) where
  entries_same : new.interest.entries ≡ map (with_report n picked) old.interest.entries
  entries_same = ap (λ (r : Registrations). r.entries) same ∙ (sym (none_told n old.interest.entries) ∙ ap (λ (ks : List ℕ). map (with_report n ks) old.interest.entries) (sym none))

  pub same_follow : (is_done answer ≡ true → (x : Entry) → IsNamed old.tables event x → ⊥) → Follows n event answer picked old d new d
  same_follow unnamed = reports_follow n event answer picked old new d exact (ap (λ (r : Registrations). r.keys) same) entries_same unnamed

  pub refused_follow : is_done answer ≡ false → Follows n event answer picked old d new d
  refused_follow refused = same_follow (λ done. absurd (false≢true (sym refused ∙ done)))

-- What is no epoll_ctl names no registration.
pub files_unnamed : (p : Parts) (pid : Pid) (call : Call) → IsFileCall call → (x : Entry) → IsNamed p.tables (CallOf pid call) x → ⊥
files_unnamed p pid (EpollCtl epfd op fd mask tag) h x named = absurd h
files_unnamed p pid call h x named = named
