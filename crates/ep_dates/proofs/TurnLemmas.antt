-- Registrations turn one way, one after another.
use Rattle.std.proofs.Common.{◌≡◌, ◌<◌, ◌||◌, ◌∙◌, ◌⊎◌, ℕ, Bool, true, false, List, [], ◌++◌, Some, ap, append-nil, append_assoc, inl, inr, not, refl, subst, sym}
use Rattle.std.proofs.lemmas.Bool.{cases_Bool, false≢true}
use Rattle.ep_facts.proofs.AmongFacts.{among_append}
use Rattle.ep_facts.proofs.BoolFacts.{or_cases, or_left, or_right}
use Rattle.ep_base.specs.declared.ids.EntryId.{EntryId}
use Rattle.ep_dates.specs.Ask.{AreSettled, AreTurned, IsSettled, Turns, shows_by}
use Rattle.ep_dates.specs.Dates.{Dates, is_dated, is_ready}
use Rattle.ep_dates.specs.Kept.{AreKept}
use Rattle.ep_interest.specs.Registrations.{Registrations, entry_under}
use Rattle.ep_interest.specs.declared.entry.Entry.{Entry}
use Rattle.ep_machine.specs.Lists.{is_among}
use Rattle.ep_walk.specs.Walk.{Walk}

-- Truth values.
pub either_way : (b way : Bool) → (b ≡ way) ⊎ (b ≡ not way)
either_way true true = inl refl
either_way true false = inr refl
either_way false true = inr refl
either_way false false = inl refl

pub not_both : (b way : Bool) → b ≡ way → b ≡ not way → ⊥
not_both b true t f = false≢true (sym f ∙ t)
not_both b false f t = false≢true (sym f ∙ t)

-- as more instances are ready (or fewer), what shows something (or nothing) goes on so
pub shows_kept : (way a b : Bool) (f : Bool → Bool) → (f false ≡ true → f true ≡ true) → (a ≡ way → b ≡ way) → f a ≡ way → f b ≡ way
shows_kept true true b f mono rises h = ap f (rises refl) ∙ h
shows_kept true false true f mono rises h = mono h
shows_kept true false false f mono rises h = h
shows_kept false false b f mono rises h = ap f (rises refl) ∙ h
shows_kept false true true f mono rises h = h
shows_kept false true false f mono rises h = elim (cases_Bool (f false)) [ inl t ↦ absurd (false≢true (sym h ∙ mono t)) | inr e ↦ e ]

-- and where it doesn't, what it watches has turned
pub shows_turned : (way a b : Bool) (f : Bool → Bool) → (a ≡ way → b ≡ way) → f a ≡ not way → f b ≡ way → (a ≡ not way) × (b ≡ way)
shows_turned way a b f rises was is = elim (either_way a way) [
  | inl e ↦ absurd (not_both (f a) way (ap f (e ∙ sym (rises e)) ∙ is) was)
  | inr ne ↦ elim (either_way b way) [
    | inl e ↦ (ne, e)
    | inr same ↦ absurd (not_both (f a) way (ap f (ne ∙ sym same) ∙ is) was)
  ]
]

module _ (way : Bool) (n : ℕ) (r : Registrations) (shows : Bool → Entry → Bool) (mono : (x : Entry) → shows false x ≡ true → shows true x ≡ true) where
  -- what is settled stays so, but for what is noted
  pub settled_on : (asked : ℕ → Bool) (b c : Dates) (t : Turns way n r shows asked b c) (pending : List ℕ) (id : EntryId) (x : Entry) → entry_under r id ≡ Some x → IsSettled way shows b pending x → IsSettled way shows c (pending ++ t.more) x
  settled_on asked b c t pending id x at (inl dated) = inl (t.stays id x at dated)
  settled_on asked b c t pending id x at (inr (inl idle)) = elim (either_way (shows_by shows c x) way) [
    | inl up ↦
        let both = shows_turned way (is_ready b x.desc.0) (is_ready c x.desc.0) (λ f. shows f x) (t.rises x.desc.0) idle up in
        inr (inr (among_append pending t.more x.desc.0 ∙ or_right (is_among pending x.desc.0) (is_among t.more x.desc.0) (t.noted x.desc.0 both.0 both.1)))
    | inr still ↦ inr (inl still)
  ]
  settled_on asked b c t pending id x at (inr (inr waits)) = inr (inr (among_append pending t.more x.desc.0 ∙ or_left (is_among pending x.desc.0) (is_among t.more x.desc.0) waits))

  -- nothing is done
  pub turns_none : (asked : ℕ → Bool) (d : Dates) → AreKept r d → AreSettled way r shows d [] asked → Turns way n r shows asked d d
  turns_none asked d kept settled = record {
    more = [];
    turned = ap (λ (ks : List ℕ). record d.turned { reached = ks }) (sym (append-nil d.turned.reached));
    kept = kept;
    rows = refl;
    since = refl;
    later = λ k lt. refl;
    stays = λ id x at h. h;
    turns = λ id x at was is. absurd (not_both (is_dated d x) way is was);
    same = λ id x at was is. refl;
    begins = λ id x at was is. absurd (false≢true (sym was ∙ is));
    rises = λ i h. h;
    flips = λ i h. absurd (false≢true h);
    noted = λ i was is. absurd (not_both (is_ready d i) way is was);
    order = λ o. o;
    settled = settled;
  }

  pub turns_less : (p q : ℕ → Bool) (a b : Dates) → ((k : ℕ) → q k ≡ true → p k ≡ true) → Turns way n r shows p a b → Turns way n r shows q a b
  turns_less p q a b less t = record {
    more = t.more;
    turned = t.turned;
    kept = t.kept;
    rows = t.rows;
    since = t.since;
    later = t.later;
    stays = t.stays;
    turns = t.turns;
    same = t.same;
    begins = t.begins;
    rises = t.rises;
    flips = t.flips;
    noted = t.noted;
    order = t.order;
    settled = λ id x at h. t.settled id x at (less id.0 h);
  }

  -- one after another
  module _ (p q : ℕ → Bool) (a b c : Dates) (s : Turns way n r shows p a b) (t : Turns way n r shows q b c) where
    abbrev all : List ℕ
    all = s.more ++ t.more

    in_between : (id : EntryId) (x : Entry) → entry_under r id ≡ Some x → is_dated a x ≡ true → is_dated c x ≡ true → is_dated b x ≡ true
    in_between id x at was is = elim (either_way (is_dated b x) way) [
      | inl e ↦ e ∙ (sym (t.stays id x at e) ∙ is)
      | inr ne ↦ elim (either_way (is_dated a x) way) [
        | inl e ↦ absurd (not_both (is_dated b x) way (s.stays id x at e) ne)
        | inr same ↦ ne ∙ (sym same ∙ was)
      ]
    ]

    pub turns_both : Turns way n r shows (λ k. p k || q k) a c
    turns_both = record {
      more = all;
      turned =
          t.turned
          ∙ (ap (λ (w : Walk). record w { reached = w.reached ++ t.more }) s.turned
          ∙ ap (λ (ks : List ℕ). record a.turned { reached = ks }) (append_assoc a.turned.reached s.more t.more));
      kept = t.kept;
      rows = t.rows ∙ s.rows;
      since = t.since ∙ s.since;
      later = λ k lt. t.later k lt ∙ s.later k lt;
      stays = λ id x at h. t.stays id x at (s.stays id x at h);
      turns = λ id x at was is. elim (either_way (is_dated b x) way) [
        | inl e ↦ shows_kept way (is_ready b x.desc.0) (is_ready c x.desc.0) (λ f. shows f x) (mono x) (t.rises x.desc.0) (s.turns id x at was e)
        | inr ne ↦ t.turns id x at ne is
      ];
      same = λ id x at was is. let mid = in_between id x at was is in t.same id x at mid is ∙ s.same id x at was mid;
      begins = λ id x at was is. elim (cases_Bool (is_dated b x)) [
        | inl up ↦ t.same id x at up is ∙ s.begins id x at was up
        | inr down ↦ t.begins id x at down is
      ];
      rises = λ i h. t.rises i (s.rises i h);
      flips = λ i h. elim (or_cases (is_among s.more i) (is_among t.more i) (sym (among_append s.more t.more i) ∙ h)) [
        | inl e ↦ let both = s.flips i e in (both.0, t.rises i both.1, both.2)
        | inr e ↦
            let both = t.flips i e in
            (elim (either_way (is_ready a i) way) [ inl up ↦ absurd (not_both (is_ready b i) way (s.rises i up) both.0) | inr ne ↦ ne ], both.1, subst (λ (w : Walk). i < w.room) s.turned both.2)
      ];
      noted = λ i was is. among_append s.more t.more i ∙ elim (either_way (is_ready b i) way) [
        | inl e ↦ or_left (is_among s.more i) (is_among t.more i) (s.noted i was e)
        | inr ne ↦ or_right (is_among s.more i) (is_among t.more i) (t.noted i ne is)
      ];
      order = λ o. t.order (s.order o);
      settled = λ id x at h. elim (or_cases (p id.0) (q id.0) h) [
        | inl e ↦ settled_on q b c t s.more id x at (s.settled id x at e)
        | inr e ↦ elim (t.settled id x at e) [
          | inl dated ↦ inl dated
          | inr rest ↦ elim rest [
            | inl idle ↦ inr (inl idle)
            | inr waits ↦ inr (inr (among_append s.more t.more x.desc.0 ∙ or_right (is_among s.more x.desc.0) (is_among t.more x.desc.0) waits))
          ]
        ]
      ];
    }

    pub more_of_both : turns_both.more ≡ s.more ++ t.more
    unfolding turns_both
    more_of_both = refl

-- what is noted goes on as it turned
pub turned_still : (way : Bool) (n : ℕ) (r : Registrations) (shows : Bool → Entry → Bool) (asked : ℕ → Bool) (a b : Dates) → AreTurned way a → Turns way n r shows asked a b → AreTurned way b
turned_still way n r shows asked a b turned t i h = elim (or_cases (is_among a.turned.reached i) (is_among t.more i) (sym (among_append a.turned.reached t.more i) ∙ (ap (λ (w : Walk). is_among w.reached i) (sym t.turned) ∙ h))) [
  | inl e ↦ let was = turned i e in (t.rises i was.0, subst (λ (w : Walk). i < w.room) (sym t.turned) was.1)
  | inr e ↦ let flip = t.flips i e in (flip.1, subst (λ (w : Walk). i < w.room) (sym t.turned) flip.2)
]

-- others were asked, too, if they are settled
pub turns_asking : (way : Bool) (n : ℕ) (r : Registrations) (shows : Bool → Entry → Bool) (f g : ℕ → Bool) (a b : Dates) (t : Turns way n r shows f a b) → AreSettled way r shows b t.more g → Turns way n r shows g a b
turns_asking way n r shows f g a b t settled = record {
  more = t.more;
  turned = t.turned;
  kept = t.kept;
  rows = t.rows;
  since = t.since;
  later = t.later;
  stays = t.stays;
  turns = t.turns;
  same = t.same;
  begins = t.begins;
  rises = t.rises;
  flips = t.flips;
  noted = t.noted;
  order = t.order;
  settled = settled;
}
