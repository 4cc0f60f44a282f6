-- Some registrations are asked, one after another.
use Rattle.std.proofs.Common.{◌≡◌, ◌<◌, ◌+◌, ◌==◌, ◌&&◌, ◌||◌, ◌∙◌, ℕ, Bool, true, false, get_or, length, List, [], ◌∷◌, ◌++◌, None, Option, Some, ap, filter, inl, inr, nat_eq, not, refl, subst, sym, take}
use Rattle.std.proofs.lemmas.Bool.{cases_Bool, false≢true}
use Rattle.std.proofs.lemmas.List.{take_more}
use Rattle.std.proofs.Math.Bool.{or-false}
use Rattle.ep_facts.proofs.NatFacts.{from_test, same_test}
use Rattle.ep_facts.proofs.AmongFacts.{among_append, among_end}
use Rattle.ep_facts.proofs.BoolFacts.{from_and_not as parts, or_assoc, or_cases, or_left, or_nothing, or_right}
use Rattle.ep_base.specs.declared.ids.DescId.{DescId}
use Rattle.ep_base.specs.declared.ids.EntryId.{EntryId}
use Rattle.ep_calls.proofs.EntryKeyLemmas.{id_is}
use Rattle.ep_calls.proofs.EntryLemmas.{member_of, number_of}
use Rattle.ep_calls.specs.Parts.{Parts}
use Rattle.ep_dates.proofs.AskLemmas.{shows_rises}
use Rattle.ep_dates.proofs.TurnLemmas.{more_of_both, turns_asking, turns_both, turns_less, turns_none}
use Rattle.ep_dates.specs.Ask.{Asks, is_on, shows_over, watches}
use Rattle.ep_dates.specs.Dates.{Dates}
use Rattle.ep_dates.specs.Kept.{AreKept}
use Rattle.ep_dates.specs.Touched.{is_fresh_on, watches_fresh}
use Rattle.ep_interest.specs.Passes.{has_id}
use Rattle.ep_interest.specs.Registrations.{IsSound, Registrations, entry_under, id_of, ids, is_on as watches_at}
use Rattle.ep_interest.specs.declared.entry.Entry.{Entry}
use Rattle.ep_law.proofs.ListLemmas.{member_filter, member_map}
use Rattle.ep_machine.specs.Lists.{is_among}
use Rattle.ep_walk.specs.Walk.{Walk}
use Rattle.ep_law.specs.Laws.{Member}
use Rattle.ep_rings.specs.KeyWalk.{entry_id as key_of}

has_more : (ids : List EntryId) (id : EntryId) (k : ℕ) → has_id (ids ++ id ∷ []) k ≡ (has_id ids k || k == id.0)
has_more [] id k = or-false (k == id.0)
has_more (x ∷ ids) id k = ap (λ (b : Bool). nat_eq k x.0 || b) (has_more ids id k) ∙ or_assoc (nat_eq k x.0) (has_id ids k) (k == id.0)

module _ (way : Bool) (n : ℕ) (p : Parts) where
  pub asks_none : (d : Dates) → AreKept p.interest d → Asks way n p (has_id []) d d
  asks_none d kept = turns_none way n p.interest (shows_over p) (shows_rises p) (has_id []) d kept (λ id x at h. absurd (false≢true h))

  -- one more
  pub asks_next : (done : List EntryId) (id : EntryId) (a b c : Dates) → Asks way n p (has_id done) a b → Asks way n p (λ k. k == id.0) b c → Asks way n p (has_id (done ++ id ∷ [])) a c
  asks_next done id a b c s t =
      turns_less way n p.interest (shows_over p) (shows_rises p) (λ k. has_id done k || k == id.0) (has_id (done ++ id ∷ [])) a c (λ k h. sym (has_more done id k) ∙ h)
      (turns_both way n p.interest (shows_over p) (shows_rises p) (has_id done) (λ k. k == id.0) a b c s t)

  pub asks_more : (ids : List EntryId) (i : ℕ) (e : EntryId) (a b c : Dates) → i < length ids → Asks way n p (has_id (take i ids)) a b → Asks way n p (λ k. k == (get_or ids i e).0) b c → Asks way n p (has_id (take (i + 1) ids)) a c
  asks_more ids i e a b c lt s t = subst (λ (done : List EntryId). Asks way n p (has_id done) a c) (sym (take_more ids i e lt)) (asks_next (take i ids) (get_or ids i e) a b c s t)

-- the keys of the registrations on a description
has_member : (xs : List EntryId) (e : EntryId) → Member e xs → has_id xs e.0 ≡ true
has_member [] e m = absurd m
has_member (x ∷ xs) e (inl is) = or_left (e.0 == x.0) (has_id xs e.0) (same_test e.0 x.0 (ap (λ (k : EntryId). k.0) is))
has_member (x ∷ xs) e (inr m) = or_right (e.0 == x.0) (has_id xs e.0) (has_member xs e m)

on_some : (desc : ℕ) (o : Option Entry) → is_on desc o ≡ true → (x : Entry) × (o ≡ Some x) × ((x.desc.0 == desc) ≡ true)
on_some desc None h = absurd (false≢true h)
on_some desc (Some x) h = (x, refl, h)

pub watchers_listed : (r : Registrations) → IsSound r → (desc : DescId) (k : ℕ) → watches r desc.0 k ≡ true → has_id (ids r (filter (watches_at desc) r.entries)) k ≡ true
watchers_listed r sound desc k h =
    let id : EntryId = key_of k in
    let found = on_some desc.0 (entry_under r id) h in
    let x = found.0 in
    let there : Member (id_of r x.number) (ids r (filter (watches_at desc) r.entries)) =
    member_map (λ (y : Entry). id_of r y.number) x (filter (watches_at desc) r.entries) (member_filter (watches_at desc) x r.entries (member_of r id x found.1) found.2) in
    ap (λ (e : EntryId). has_id (ids r (filter (watches_at desc) r.entries)) e.0) (sym (id_is r sound id x.number (number_of r id x found.1))) ∙ has_member (ids r (filter (watches_at desc) r.entries)) (id_of r x.number) there

-- Those on some instances that aren't noted.
fresh_none : (w : List ℕ) (o : Option Entry) → is_fresh_on w [] o ≡ true → ⊥
fresh_none w None h = false≢true h
fresh_none w (Some x) h = false≢true h

pub fresh_parts : (w ks : List ℕ) (x : Entry) (o : Option Entry) → o ≡ Some x → is_fresh_on w ks o ≡ true → (is_among ks x.desc.0 ≡ true) × (is_among w x.desc.0 ≡ false)
fresh_parts w ks x o is h = parts (is_among ks x.desc.0) (is_among w x.desc.0) (sym (ap (is_fresh_on w ks) is) ∙ h)

pub fresh_is : (w ks : List ℕ) (x : Entry) (o : Option Entry) → o ≡ Some x → is_among ks x.desc.0 ≡ true → is_among w x.desc.0 ≡ false → is_fresh_on w ks o ≡ true
fresh_is w ks x o is there absent = ap (is_fresh_on w ks) is ∙ (λ i. there i && not (absent i))

module _ (way : Bool) (n : ℕ) (p : Parts) where
  pub above_none : (d : Dates) (w : List ℕ) → AreKept p.interest d → Asks way n p (watches_fresh p.interest w []) d d
  above_none d w kept =
      turns_none way n p.interest (shows_over p) (shows_rises p) (watches_fresh p.interest w []) d kept (λ id x at h. absurd (fresh_none w (entry_under p.interest (key_of id.0)) h))

  -- an instance that is noted is not looked at
  pub above_noted : (d : Dates) (i : ℕ) → AreKept p.interest d → is_among d.turned.reached i ≡ true → Asks way n p (watches_fresh p.interest d.turned.reached (i ∷ [])) d d
  above_noted d i kept there =
      turns_none way n p.interest (shows_over p) (shows_rises p) (watches_fresh p.interest d.turned.reached (i ∷ [])) d kept (λ id x at h.
      let both = fresh_parts d.turned.reached (i ∷ []) x (entry_under p.interest id) at h in
      let one : x.desc.0 ≡ i = from_test x.desc.0 i (or_nothing (x.desc.0 == i) both.0) in
      absurd (false≢true (sym both.1 ∙ (ap (is_among d.turned.reached) one ∙ there))))

  pub above_more : (ks : List ℕ) (i desc : ℕ) (a b c : Dates) → i < length ks → get_or ks i 0 ≡ desc → Asks way n p (watches_fresh p.interest a.turned.reached (take i ks)) a b
      → Asks way n p (watches_fresh p.interest b.turned.reached (desc ∷ [])) b c → Asks way n p (watches_fresh p.interest a.turned.reached (take (i + 1) ks)) a c
  above_more ks i desc a b c lt here s t =
      let more : take (i + 1) ks ≡ take i ks ++ desc ∷ [] = take_more ks i 0 lt ∙ ap (λ (k : ℕ). take i ks ++ k ∷ []) here in
      let f : ℕ → Bool = watches_fresh p.interest a.turned.reached (take i ks) in
      let g : ℕ → Bool = watches_fresh p.interest b.turned.reached (desc ∷ []) in
      let both = turns_both way n p.interest (shows_over p) (shows_rises p) f g a b c s t in
      turns_asking way n p.interest (shows_over p) (λ k. f k || g k) (watches_fresh p.interest a.turned.reached (take (i + 1) ks)) a c both (λ id x at h.
      let parts = fresh_parts a.turned.reached (take (i + 1) ks) x (entry_under p.interest id) at h in
      elim (or_cases (is_among (take i ks) x.desc.0) (x.desc.0 == desc) (sym (ap (λ (l : List ℕ). is_among l x.desc.0) more ∙ among_end (take i ks) desc x.desc.0) ∙ parts.0)) [
        | inl early ↦ both.settled id x at (or_left (f id.0) (g id.0) (fresh_is a.turned.reached (take i ks) x (entry_under p.interest id) at early parts.1))
        | inr last ↦ elim (cases_Bool (is_among b.turned.reached x.desc.0)) [
          | inl noted ↦
              let split : (is_among a.turned.reached x.desc.0 || is_among s.more x.desc.0) ≡ true = sym (among_append a.turned.reached s.more x.desc.0) ∙ (ap (λ (w : Walk). is_among w.reached x.desc.0) (sym s.turned) ∙ noted) in
              let new : is_among s.more x.desc.0 ≡ true = sym (ap (λ (e : Bool). e || is_among s.more x.desc.0) parts.1) ∙ split in
              inr (inr (ap (λ (l : List ℕ). is_among l x.desc.0) (more_of_both way n p.interest (shows_over p) (shows_rises p) f g a b c s t) ∙ (among_append s.more t.more x.desc.0 ∙ or_left (is_among s.more x.desc.0) (is_among t.more x.desc.0) new)))
          | inr absent ↦ both.settled id x at (or_right (f id.0) (g id.0) (fresh_is b.turned.reached (desc ∷ []) x (entry_under p.interest id) at (or_left (x.desc.0 == desc) false last) absent))
        ]
      ])
