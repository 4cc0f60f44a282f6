-- All instances are gone through whose readiness turned, and those that turn by that.
use Rattle.std.proofs.Common.{◌≡◌, ◌≢◌, ◌<◌, ◌≤◌, ◌+◌, ◌==◌, ◌||◌, ◌∙◌, ℕ, zero, suc, Bool, true, false, drop, get_or, length, List, [], ◌∷◌, ◌++◌, ap, arith, eqb, inl, inr, not, refl, rules, subst, sym, take, take_all}
use Rattle.std.proofs.lemmas.Bool.{and_parts, cases_eq, false≢true, not-true}
use Rattle.std.proofs.lemmas.List.{drop-append-le, drop_all, drop_more, take-append-drop, take-append-le, take_more}
use Rattle.std.proofs.lemmas.Map.Steps.{length-le_from_distinct_below}
use Rattle.std.specs.List.{IsDistinct}
use Rattle.ep_facts.proofs.NatFacts.{from_test, same_test}
use Rattle.ep_facts.proofs.BoolFacts.{or_cases, or_left, or_right}
use Rattle.ep_facts.proofs.AmongFacts.{among_append, among_end, apart_from_all}
use Rattle.ep_base.specs.declared.ids.EntryId.{EntryId}
use Rattle.ep_calls.specs.Parts.{Parts}
use Rattle.ep_dates.proofs.AskLemmas.{shows_rises}
use Rattle.ep_dates.proofs.TurnLemmas.{not_both, settled_on, turns_both, turns_less}
use Rattle.ep_dates.specs.Ask.{AreSettled, AreTurned, AreWatched, Asks, IsSettled, is_on, shows_over, watches}
use Rattle.ep_dates.specs.Dates.{Dates, is_ready}
use Rattle.ep_interest.specs.Registrations.{Registrations}
use Rattle.ep_interest.specs.declared.entry.Entry.{Entry}
use Rattle.ep_machine.specs.Lists.{are_distinct, is_among}
use Rattle.ep_walk.specs.Walk.{Walk}

-- No more are noted than there is room for.

pub as_distinct : (ks : List ℕ) → are_distinct ks ≡ true → IsDistinct eqb ks
unfolding IsDistinct
as_distinct [] h = tt
as_distinct (k ∷ ks) h =
    let parts = and_parts (not (is_among ks k)) (are_distinct ks) h in (apart_from_all k ks (not-true (is_among ks k) parts.0), as_distinct ks parts.1)

take_among : (i : ℕ) (xs : List ℕ) (k : ℕ) → is_among (take i xs) k ≡ true → is_among xs k ≡ true
take_among i xs k h = ap (λ (l : List ℕ). is_among l k) (sym (take-append-drop i xs)) ∙ (among_append (take i xs) (drop i xs) k ∙ or_left (is_among (take i xs) k) (is_among (drop i xs) k) h)

pub among_at : (xs : List ℕ) (i : ℕ) → i < length xs → is_among xs (get_or xs i 0) ≡ true
among_at [] i lt = absurd (omega (arith, lt))
among_at (x ∷ xs) zero lt = or_left _ _ (same_test x x refl)
among_at (x ∷ xs) (suc i) lt = or_right _ _ (among_at xs i (omega (arith, lt)))

pub few_turned : (way : Bool) (d : Dates) → AreTurned way d → are_distinct d.turned.reached ≡ true → length d.turned.reached ≤ d.turned.room
few_turned way d turned once = length-le_from_distinct_below d.turned.reached d.turned.room (as_distinct d.turned.reached once) (λ q h. (turned q h).1)

module _ (way : Bool) (n : ℕ) (p : Parts) where
  abbrev r : Registrations
  r = p.interest

  abbrev shows : Bool → Entry → Bool
  shows = shows_over p

  pub round_turns : (a b c : Dates) (desc : ℕ) → Asks way n p (λ k. false) a b → Asks way n p (watches r desc) b c → Asks way n p (λ k. false) a c
  round_turns a b c desc s t =
      turns_less way n r shows (shows_rises p) (λ k. false || watches r desc k) (λ k. false) a c (λ k h. absurd (false≢true h)) (turns_both way n r shows (shows_rises p) (λ k. false) (watches r desc) a b c s t)

  -- what waited for the instance at an index was asked
  pub round_settled : (b c : Dates) (i desc : ℕ) (asked : ℕ → Bool) (t : Asks way n p (watches r desc) b c) → i < length b.turned.reached → get_or b.turned.reached i 0 ≡ desc
      → AreSettled way r shows b (drop i b.turned.reached) asked → AreSettled way r shows c (drop (i + 1) c.turned.reached) asked
  round_settled b c i desc asked t lt here settled id x at h =
      subst (λ (ks : List ℕ). IsSettled way shows c ks x) (sym left) (elim (cases_eq x.desc.0 desc) [
        | inl e ↦ wider (t.settled id x at (ap (is_on desc) at ∙ same_test x.desc.0 desc e))
        | inr ne ↦ narrower ne (settled_on way n r shows (shows_rises p) (watches r desc) b c t (drop i b.turned.reached) id x at (settled id x at h))
      ]) where
        rest : List ℕ
        rest = drop (i + 1) b.turned.reached

        left : drop (i + 1) c.turned.reached ≡ rest ++ t.more
        left = ap (λ (w : Walk). drop (i + 1) w.reached) t.turned ∙ drop-append-le (i + 1) b.turned.reached t.more (omega (arith, lt))

        wider : IsSettled way shows c t.more x → IsSettled way shows c (rest ++ t.more) x
        wider (inl dated) = inl dated
        wider (inr (inl idle)) = inr (inl idle)
        wider (inr (inr waits)) = inr (inr (among_append rest t.more x.desc.0 ∙ or_right (is_among rest x.desc.0) (is_among t.more x.desc.0) waits))

        first : drop i b.turned.reached ≡ desc ∷ rest
        first = drop_more b.turned.reached i 0 lt ∙ ap (λ (k : ℕ). k ∷ rest) here

        narrower : x.desc.0 ≢ desc → IsSettled way shows c (drop i b.turned.reached ++ t.more) x → IsSettled way shows c (rest ++ t.more) x
        narrower ne (inl dated) = inl dated
        narrower ne (inr (inl idle)) = inr (inl idle)
        narrower ne (inr (inr waits)) =
            let other : (x.desc.0 == desc) ≡ false = search rules in
            inr (inr (sym (ap (λ (ks : List ℕ). is_among (ks ++ t.more) x.desc.0) first ∙ ap (λ (b : Bool). b || is_among (rest ++ t.more) x.desc.0) other) ∙ waits))

  -- none is left
  pub round_ends : (d : Dates) (i : ℕ) (asked : ℕ → Bool) → length d.turned.reached ≤ i → AreSettled way r shows d (drop i d.turned.reached) asked → AreSettled way r shows d [] asked
  round_ends d i asked le settled id x at h = subst (λ (ks : List ℕ). IsSettled way shows d ks x) (drop_all i d.turned.reached le) (settled id x at h)

  -- Those on what turned are settled for good: its readiness stays as it is.
  settled_there : (b c : Dates) (asked : ℕ → Bool) (t : Asks way n p asked b c) → AreTurned way b → (id : EntryId) (x : Entry) → is_among b.turned.reached x.desc.0 ≡ true → IsSettled way shows c t.more x → IsSettled way shows c [] x
  settled_there b c asked t turned id x there (inl dated) = inl dated
  settled_there b c asked t turned id x there (inr (inl idle)) = inr (inl idle)
  settled_there b c asked t turned id x there (inr (inr waits)) = absurd (not_both (is_ready b x.desc.0) way (turned x.desc.0 there).0 (t.flips x.desc.0 waits).0)

  pub round_watched : (b c : Dates) (i desc : ℕ) (t : Asks way n p (watches r desc) b c) → AreTurned way b → i < length b.turned.reached → get_or b.turned.reached i 0 ≡ desc
      → AreWatched way p b (take i b.turned.reached) → AreWatched way p c (take (i + 1) c.turned.reached)
  round_watched b c i desc t turned lt here watched id x at h =
      elim (or_cases (is_among (take i b.turned.reached) x.desc.0) (x.desc.0 == desc) (sym (ap (λ (l : List ℕ). is_among l x.desc.0) seen ∙ among_end (take i b.turned.reached) desc x.desc.0) ∙ h)) [
        | inl early ↦ settled_there b c (watches r desc) t turned id x (take_among i b.turned.reached x.desc.0 early) (settled_on way n r shows (shows_rises p) (watches r desc) b c t [] id x at (watched id x at early))
        | inr last ↦
            let one = from_test x.desc.0 desc last in
            settled_there b c (watches r desc) t turned id x (ap (is_among b.turned.reached) (one ∙ sym here) ∙ among_at b.turned.reached i lt) (t.settled id x at (ap (is_on desc) at ∙ last))
      ] where
        seen : take (i + 1) c.turned.reached ≡ take i b.turned.reached ++ desc ∷ []
        seen =
            ap (λ (w : Walk). take (i + 1) w.reached) t.turned
            ∙ (take-append-le (i + 1) b.turned.reached t.more (omega (arith, lt)) ∙ (take_more b.turned.reached i 0 lt ∙ ap (λ (k : ℕ). take i b.turned.reached ++ k ∷ []) here))

  pub watched_ends : (d : Dates) (i : ℕ) → length d.turned.reached ≤ i → AreWatched way p d (take i d.turned.reached) → AreWatched way p d d.turned.reached
  watched_ends d i le watched id x at h = watched id x at (ap (λ (l : List ℕ). is_among l x.desc.0) (take_all i d.turned.reached le) ∙ h)
