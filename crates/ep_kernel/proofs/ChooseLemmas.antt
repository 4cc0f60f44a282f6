-- Going along a ready list.
use Rattle.std.proofs.Common.{◌≡◌, ◌≤◌, ◌<◌, ◌++◌, ◌∙◌, ◌+◌, ℕ, Bool, true, false, List, [], ◌∷◌, ap, append-nil, arith, cond, filter, length, refl, subst, sym}
use Rattle.std.proofs.lemmas.List.{append_assoc, length-append, map-append}
use Rattle.std.proofs.lemmas.List.Elements.{All-append, All-cons, All-nil, filter-append}
use Rattle.ep_base.specs.declared.ids.EntryId.{EntryId}
use Rattle.ep_calls.specs.Parts.{Parts}
use Rattle.ep_calls.specs.Wait.{AreKeyed, IsKeyed}
use Rattle.ep_calls.specs.declared.wait.Reportable.{Reportable}
use Rattle.ep_kernel.specs.Choose.{keys_of}
use Rattle.ep_kernel.specs.Listed.{key_shows}
use Rattle.ep_ready.specs.ReadyLists.{ids}

-- of a list of keys so many are walked, and these are left
pub record IsAt (keys : List ℕ) (walked : ℕ) (rest : List EntryId) : Type 0 where
  pub before : List ℕ
  pub after : List ℕ
  pub split : keys ≡ before ++ after
  pub left : rest ≡ ids after
  pub len : length before ≡ walked

abbrev pub at_first : (keys : List ℕ) → IsAt keys 0 (ids keys)
at_first keys = record { before = []; after = keys; split = refl; left = refl; len = refl }

module _ (p : Parts) (keys : List ℕ) (most : ℕ) where
  pub record Finds (found : List Reportable) (walked : ℕ) (rest : List EntryId) : Type 0 where
    pub at : IsAt keys walked rest
    pub first : keys_of found ≡ filter (key_shows p) at.before
    pub few : length found ≤ most
    pub keyed : AreKeyed p.tables p.clock p.interest found

  pub finds_none : (found : List Reportable) → found ≡ [] → Finds found 0 (ids keys)
  finds_none found none = subst (λ xs. Finds xs 0 (ids keys)) (sym none) (record { at = at_first keys; first = refl; few = omega arith; keyed = All-nil (IsKeyed p.tables p.clock p.interest) })

  -- what is left begins with this key
  next_left : (after : List ℕ) (id : EntryId) (rest : List EntryId) → id ∷ rest ≡ ids after → (more : List ℕ) × (after ≡ id.0 ∷ more) × (rest ≡ ids more)
  next_left [] id rest h = absurd (cc)
  next_left (k ∷ more) id rest h = (more, (let e : id ≡ record { 0 = k } = cc in ap (λ (i : EntryId). i.0 ∷ more) (sym e)), cc)

  walk : (walked : ℕ) (id : EntryId) (rest : List EntryId) → (at : IsAt keys walked (id ∷ rest)) → (next : IsAt keys (walked + 1) rest) × (next.before ≡ at.before ++ id.0 ∷ [])
  walk walked id rest at =
      let n = next_left at.after id rest at.left in (
        record {
          before = at.before ++ id.0 ∷ [];
          after = n.0;
          split = at.split ∙ (ap (λ (xs : List ℕ). at.before ++ xs) n.1 ∙ sym (append_assoc at.before (id.0 ∷ []) n.0));
          left = n.2;
          len = length-append at.before (id.0 ∷ []) ∙ ap (λ (n : ℕ). n + 1) at.len;
        },
        refl,
      )

  shown_more : (b : Bool) (k : ℕ) (xs : List ℕ) → key_shows p k ≡ b → filter (key_shows p) (xs ++ k ∷ []) ≡ filter (key_shows p) xs ++ cond b (k ∷ []) []
  shown_more b k xs h = filter-append (key_shows p) xs (k ∷ []) ∙ ap (λ (c : Bool). filter (key_shows p) xs ++ cond c (k ∷ []) []) h

  pub finds_more : (found : List Reportable) (walked : ℕ) (id : EntryId) (rest : List EntryId) (x : Reportable) → Finds found walked (id ∷ rest) → x.id ≡ id → key_shows p id.0 ≡ true → IsKeyed p.tables p.clock p.interest x → length found < most
      → Finds (found ++ x ∷ []) (walked + 1) rest
  finds_more found walked id rest x f is shows keyed few =
      let w = walk walked id rest f.at in
      record {
        at = w.0;
        first =
            map-append (λ (y : Reportable). y.id.0) found (x ∷ [])
            ∙ ((λ i. f.first i ++ (is i).0 ∷ [])
            ∙ (sym (shown_more true id.0 f.at.before shows) ∙ ap (filter (key_shows p)) (sym w.1)));
        few = omega (arith, few, length-append found (x ∷ []));
        keyed = All-append (IsKeyed p.tables p.clock p.interest) found (x ∷ []) f.keyed (All-cons (IsKeyed p.tables p.clock p.interest) x [] keyed (All-nil (IsKeyed p.tables p.clock p.interest)));
      }

  pub finds_same : (found : List Reportable) (walked : ℕ) (id : EntryId) (rest : List EntryId) → Finds found walked (id ∷ rest) → key_shows p id.0 ≡ false → Finds found (walked + 1) rest
  finds_same found walked id rest f hides =
      let w = walk walked id rest f.at in
      record {
        at = w.0;
        first = f.first ∙ (sym (append-nil (filter (key_shows p) f.at.before)) ∙ (sym (shown_more false id.0 f.at.before hides) ∙ ap (filter (key_shows p)) (sym w.1)));
        few = f.few;
        keyed = f.keyed;
      }

  pub walked_less : (found : List Reportable) (walked : ℕ) (id : EntryId) (rest : List EntryId) → Finds found walked (id ∷ rest) → walked < length keys
  walked_less found walked id rest f =
      let n = next_left f.at.after id rest f.at.left in
      let more : length f.at.after ≡ length n.0 + 1 = ap length n.1 ∙ omega arith in
      omega (arith, f.at.len, ap length f.at.split, length-append f.at.before f.at.after, more)
