-- Registrations that were reported are asked, and then all are settled.
use Rattle.std.proofs.Common.{◌≡◌, ◌<◌, ◌+◌, ◌++◌, ◌==◌, ◌||◌, ◌∙◌, ℕ, Bool, List, [], ◌∷◌, None, Option, Some, ap, false, get_or, inl, inr, length, subst, sym, take, true}
use Rattle.std.proofs.lemmas.Bool.{cases_Bool, false≢true}
use Rattle.std.proofs.lemmas.List.{take_more}
use Rattle.std.proofs.Math.Bool.{or-false}
use Rattle.ep_facts.proofs.NatFacts.{from_test, same_test}
use Rattle.ep_facts.proofs.AmongFacts.{among_append, among_end}
use Rattle.ep_facts.proofs.BoolFacts.{or_left, or_nothing}
use Rattle.ep_base.specs.declared.ids.EntryId.{EntryId}
use Rattle.ep_calls.specs.Parts.{Parts}
use Rattle.ep_dates.proofs.AskLemmas.{shows_rises}
use Rattle.ep_dates.proofs.ComeLemmas.{both_stages}
use Rattle.ep_dates.proofs.EachLemmas.{fresh_is}
use Rattle.ep_dates.proofs.TurnLemmas.{settled_on, turns_asking, turns_less, turns_none}
use Rattle.ep_dates.specs.Ask.{AreSettled, Asks, IsSettled, shows_by, shows_over}
use Rattle.ep_dates.specs.Dates.{Dates, id_at, is_dated}
use Rattle.ep_dates.specs.Kept.{AreKept}
use Rattle.ep_dates.specs.Touched.{has_number, is_numbered, is_on_any, watches_any, watches_fresh}
use Rattle.ep_interest.specs.Registrations.{entry_under}
use Rattle.ep_interest.specs.declared.entry.Entry.{Entry}
use Rattle.ep_machine.specs.Lists.{is_among}
use Rattle.ep_walk.specs.Walk.{Walk}
use Rattle.ep_rings.specs.KeyWalk.{entry_id as key_of}

numbered_none : (o : Option Entry) → is_numbered [] o ≡ true → ⊥
numbered_none None h = false≢true h
numbered_none (Some x) h = false≢true h

numbered_more : (ks : List ℕ) (k : ℕ) (o : Option Entry) → is_numbered (ks ++ k ∷ []) o ≡ true → (is_numbered ks o || is_numbered (k ∷ []) o) ≡ true
numbered_more ks k None h = h
numbered_more ks k (Some x) h = ap (λ (b : Bool). is_among ks x.number || b) (or-false (x.number == k)) ∙ (sym (among_end ks k x.number) ∙ h)

numbered_one : (k : ℕ) (x : Entry) (o : Option Entry) → o ≡ Some x → is_numbered (k ∷ []) o ≡ true → x.number ≡ k
numbered_one k x o is h = from_test x.number k (or_nothing (x.number == k) (sym (ap (is_numbered (k ∷ [])) is) ∙ h))

module _ (n : ℕ) (p : Parts) where
  pub reported_none : (d : Dates) → AreKept p.interest d → Asks false n p (has_number p.interest []) d d
  reported_none d kept =
      turns_none false n p.interest (shows_over p) (shows_rises p) (has_number p.interest []) d kept (λ id x at h. absurd (numbered_none (entry_under p.interest (key_of id.0)) h))

  -- the key that is kept under a number is that of its registration, if that is dated
  reported_one : (k : ℕ) (b c : Dates) → AreKept p.interest b → Asks false n p (λ j. j == (id_at b.ids k).0) b c → Asks false n p (has_number p.interest (k ∷ [])) b c
  reported_one k b c kept t =
      turns_asking false n p.interest (shows_over p) (λ j. j == (id_at b.ids k).0) (has_number p.interest (k ∷ [])) b c t (λ id x at h.
      let number : x.number ≡ k = numbered_one k x (entry_under p.interest id) at h in
      elim (cases_Bool (is_dated b x)) [
        | inl dated ↦
            let key : id_at b.ids k ≡ id = ap (id_at b.ids) (sym number) ∙ kept.ids id x at dated in
            t.settled id x at (same_test id.0 (id_at b.ids k).0 (sym (ap (λ (e : EntryId). e.0) key)))
        | inr idle ↦ inl (t.stays id x at idle)
      ])

  pub reported_more : (ks : List ℕ) (i : ℕ) (a b c : Dates) → i < length ks → Asks false n p (has_number p.interest (take i ks)) a b → Asks false n p (λ j. j == (id_at b.ids (get_or ks i 0)).0) b c → Asks false n p (has_number p.interest (take (i + 1) ks)) a c
  reported_more ks i a b c lt s t =
      let k = get_or ks i 0 in
      turns_less false n p.interest (shows_over p) (shows_rises p) (λ j. has_number p.interest (take i ks) j || has_number p.interest (k ∷ []) j) (has_number p.interest (take (i + 1) ks)) a c
      (λ j h. numbered_more (take i ks) k (entry_under p.interest (key_of j)) (ap (λ (l : List ℕ). has_number p.interest l j) (sym (take_more ks i 0 lt)) ∙ h))
      (both_stages false n p (has_number p.interest (take i ks)) (has_number p.interest (k ∷ [])) a b c s (reported_one k b c s.kept t))

  -- once those were asked that may go, all are settled but for what is noted
  pub all_settled : (f : ℕ → Bool) (a b : Dates) → Asks false n p f a b → a.turned.reached ≡ []
      → ((id : EntryId) (x : Entry) → entry_under p.interest id ≡ Some x → f id.0 ≡ false → is_among b.turned.reached x.desc.0 ≡ false → is_dated a x ≡ true → shows_by (shows_over p) a x ≡ true)
      → AreSettled false p.interest (shows_over p) b b.turned.reached (λ k. true)
  all_settled f a b t none others id x at h = elim (cases_Bool (is_among b.turned.reached x.desc.0)) [
    | inl there ↦ inr (inr there)
    | inr absent ↦
        subst (λ (ks : List ℕ). IsSettled false (shows_over p) b ks x) (sym noted) (elim (cases_Bool (f id.0)) [
          | inl asked ↦ t.settled id x at asked
          | inr spared ↦
              settled_on false n p.interest (shows_over p) (shows_rises p) f a b t [] id x at (elim (cases_Bool (is_dated a x)) [
                | inl dated ↦ inr (inl (others id x at spared absent dated))
                | inr idle ↦ inl idle
              ])
        ])
  ] where
    noted : b.turned.reached ≡ t.more
    noted = ap (λ (w : Walk). w.reached) t.turned ∙ ap (λ (ks : List ℕ). ks ++ t.more) none

  -- what is on instances that lost something, and wasn't asked, is on one that is noted
  pub none_above : (w ks : List ℕ) (c d : Dates) (g : ℕ → Bool) → Asks false n p g c d → c.turned.reached ≡ w → (id : EntryId) (x : Entry) → entry_under p.interest id ≡ Some x → watches_fresh p.interest w ks id.0 ≡ false
      → is_among d.turned.reached x.desc.0 ≡ false → watches_any p.interest ks id.0 ≡ false
  none_above w ks c d g t same id x at unasked absent = elim (cases_Bool (watches_any p.interest ks id.0)) [
    | inr f ↦ f
    | inl any ↦
        let there : is_among ks x.desc.0 ≡ true = sym (ap (is_on_any ks) at) ∙ any in
        let early : is_among w x.desc.0 ≡ false = elim (cases_Bool (is_among w x.desc.0)) [
          | inl known ↦ absurd (false≢true (sym absent ∙ (ap (λ (q : Walk). is_among q.reached x.desc.0) t.turned ∙ (among_append c.turned.reached t.more x.desc.0 ∙ or_left (is_among c.turned.reached x.desc.0) (is_among t.more x.desc.0) (ap (λ (l : List ℕ). is_among l x.desc.0) same ∙ known)))))
          | inr f ↦ f
        ] in
        absurd (false≢true (sym unasked ∙ fresh_is w ks x (entry_under p.interest id) at there early))
  ]
