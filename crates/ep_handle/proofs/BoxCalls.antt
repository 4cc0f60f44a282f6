-- The two calls that turn a box into its pointer and back, at any type: what each asks for and gives, in a walk's words.
use Rattle.ep_handle.proofs.Steps.{◌≡◌, refl, sym, subst, ap, ◌∙◌, List, [], ◌∷◌, ◌++◌, ℕ, T, Ura, Val, vstruct, of_list, has_ty, WT, SProp, ent, id⊢, never, fst∗, ftrue, fsep, flft, Logic, sem, Item, ‵, raw, ◌⊛◌, some, later, given, mean, ◌$◌, ◌∵◌, !, qed, move, drop, use1, join, split, split3, pick, check, show, now, updating, rewrite, fsplit, fpick, feq_l, await, done, fact, RattleType, Ptr, RawPtr, block_ptr, null_ptr, ptr_val, in_a_block, heard, only, triple_of}
use mir.Raw.{raw as bare_type}
use mir.Syntax.{Dict}
use base.Logic.{ex, guard, sep}
use contract.Lifetimes.{Lfts, Shares}
use contract.Monad.{Fun}
use prog.Memory.{Memory}
use prog.Routine.{Routine}
use denote.Struct.Tuple.{Tuple}
use denote.Triple.Statement.{Contract}
use Rattle.std.proofs.alloc.Calls.{token, handle_tells, Fits}
use Rattle.std_alloc.specs.Box.Ownership.{box_owns}
use Rattle.std_alloc.proofs.BoxSteps.Form.{Bx, D, τ, R, P, B, box_ty, word, box_typed}
use Rattle.std_alloc.proofs.BoxSteps.Steps.{box_out, box_in}
use Rattle.std_alloc.specs.contracts.boxed.Box.into_raw_with_allocator as opening
use Rattle.std_alloc.specs.contracts.boxed.Box.from_raw as closing
use Rattle.ep_handle.specs.contracts.bare.Bare as bare

module _ (E : Bx) where
  -- a box taken apart, as a type
  abbrev pub Apart : RattleType
  Apart = bare.the_row (R E) (P E) E.al.g

  -- a box taken apart that lies at this block
  abbrev pub apart_at : E.al.row.Denot → E.row.Denot → ℕ → ℕ → (Apart).Denot
  apart_at alloc value b o = record { at = block_ptr b o; alloc = alloc; held = value }

  module _ {M : Type 1} {𝓤 : Ura M} (𝓛 : Logic 𝓤) (κs : Lfts 2) (qs : Shares 2) where
    -- the lifetimes of the two types last
    abbrev pub lasting : Item 𝓤
    lasting = ‵ (flft κs.0 qs.0) ⊛ ‵ (flft κs.1.0 qs.1.0) ⊛ ‵ ftrue

module _ (E : Bx) (dx : Dict) {M : Type 1} {𝓤 : Ura M} (𝓛 : Logic 𝓤) (at_mem : Memory → SProp 𝓤) (run : Routine → Fun 𝓤) where
  abbrev pub Opens : Contract 𝓤
  Opens = triple_of 𝓛 (opening.signature E.row E.al.row E.al.g E.al.d E.al.drops dx) (opening.spec E.row E.al.row E.al.g E.al.d E.al.drops dx 𝓛 at_mem run)

  module _ (κs : Lfts 2) (qs : Shares 2) (whole : D E) (w : Val) where
    abbrev pub at_opening : Opens.Ghost
    at_opening = ((κs, qs, tt, (whole, tt), (w ∷ [], tt)), tt)

    -- the pointer and the allocator of the box as one machine value, and they own what it did
    abbrev pub opened : Val → Item 𝓤
    opened u = later (some (λ (b : ℕ). some (λ (o : ℕ). some (λ (h : Val). given ((u ≡ word E h b o) × Fits E.al h)
        (‵ ((Apart E).own_val (apart_at E whole.alloc whole.value b o) (word E h b o ∷ [])) ⊛ lasting E 𝓛 κs qs)))))

    pub opening_gives : (u : Val) → ent 𝓤 (Opens.post at_opening u) (mean 𝓛 (opened u))
    opening_gives u =
        let a = whole.alloc in let x = whole.value in
        let Own = λ (b o : ℕ) (h : Val). sem 𝓛 ((Apart E).own_val (apart_at E a x b o) (word E h b o ∷ [])) in
        let Got = λ (b o : ℕ) (h : Val). guard 𝓤 ((u ≡ word E h b o) × Fits E.al h) (sep 𝓤 (Own b o h) (mean 𝓛 (lasting E 𝓛 κs qs))) in
        qed 𝓛 (raw (Opens.post at_opening u) ∷ []) ∵ updating ! $
        use1 𝓛 (later (some (λ (r : Ptr × E.al.row.Denot). (lasting E 𝓛 κs qs ⊛ ‵ ((Tuple (RawPtr ∷ P E ∷ [])).own_val r (u ∷ []))) ⊛ some (λ (_ : (Unit {0} × (Unit {0} × Unit {0})) × Unit {0}).
        ‵ (fsep (fsep ftrue (fsep ftrue ftrue)) ftrue) ⊛ (raw (fact 𝓤 (r.1 ≡ a)) ⊛ ‵ (box_owns (token E.al a) (R E) r.0 x)))))) (id⊢ 𝓤 _) $
        await ! tt $ pick ! (λ r. split ! $ move ! (1 ∷ []) $ pick ! (λ _. split3 ! $ drop ! $ heard ! (r.1 ≡ a) (λ same.
        -- nothing lies at null, so the pointer is to a block
        in_a_block ! r.0 (λ p. box_owns (token E.al a) (R E) p x) (fst∗ 𝓤 (never 𝓤) (sem 𝓛 (token E.al a (bare_type (τ E)) null_ptr))) (λ b o is_block.
        -- [what lies there; the lifetimes with the pair]
        move ! (1 ∷ []) $ split ! $ move ! (1 ∷ []) $ fpick ! (λ vss. fsplit ! $ feq_l ! (λ pair. fsplit ! $ feq_l ! (λ pointer. fsplit ! $
        rewrite ! 0 (λ (s : E.al.row.Denot). ‵ (E.al.row.own_val s vss.1.0)) same refl $ handle_tells E.al ! a vss.1.0 (λ h handle fits.
        -- [the handle; true; the lifetimes; what lies there]
        move ! (3 ∷ []) $ fsplit ! $ box_in E ! (record { ptr = block_ptr b o; alloc = a; value = x }) b o x refl refl $
        use1 𝓛 (‵ ((Apart E).own_val (apart_at E a x b o) (word E h b o ∷ []))) (id⊢ 𝓤 _) $ move ! (1 ∷ []) $ drop ! $ join ! $ now ! $
        show ! (λ (b' : ℕ). ex 𝓤 (λ (o' : ℕ). ex 𝓤 (λ (h' : Val). Got b' o' h'))) b $ show ! (λ (o' : ℕ). ex 𝓤 (λ (h' : Val). Got b o' h')) o $ show ! (λ (h' : Val). Got b o h') h $
        check ! (ap only (pair ∙ (λ j. vstruct (of_list ((pointer ∙ ap (λ (p : Ptr). ptr_val p ∷ []) is_block) j ++ (handle j ++ []))) ∷ [])), fits) $ done !))))))))

module _ (E : Bx) {M : Type 1} {𝓤 : Ura M} (𝓛 : Logic 𝓤) (at_mem : Memory → SProp 𝓤) (run : Routine → Fun 𝓤) where
  abbrev pub Closes : Contract 𝓤
  Closes = triple_of 𝓛 (closing.signature E.row E.al.row E.al.g E.al.d E.al.drops) (closing.spec E.row E.al.row E.al.g E.al.d E.al.drops 𝓛 at_mem run)

  module _ (κs : Lfts 2) (qs : Shares 2) (alloc : E.al.row.Denot) (value : E.row.Denot) (b o : ℕ) (h : Val) where
    abbrev pub at_closing : Closes.Ghost
    at_closing = ((κs, qs, tt, (alloc, (block_ptr b o, tt)), (h ∷ [], (Rattle.ep_handle.proofs.Steps.vptr b o ∷ [], tt))), value)

    -- a box of the value
    abbrev pub closed : Val → Item 𝓤
    closed u = later (some (λ (r : D E). given ((r.value ≡ value) × (T (has_ty (box_ty E) u) × WT u)) (‵ ((B E).own_val r (u ∷ [])) ⊛ lasting E 𝓛 κs qs)))

    pub closing_gives : (u : Val) → ent 𝓤 (Closes.post at_closing u) (mean 𝓛 (closed u))
    closing_gives u =
        let Got = λ (r : D E). guard 𝓤 ((r.value ≡ value) × (T (has_ty (box_ty E) u) × WT u)) (sep 𝓤 (sem 𝓛 ((B E).own_val r (u ∷ []))) (mean 𝓛 (lasting E 𝓛 κs qs))) in
        qed 𝓛 (raw (Closes.post at_closing u) ∷ []) ∵ updating ! $
        use1 𝓛 (later (some (λ (r : D E). (lasting E 𝓛 κs qs ⊛ ‵ ((B E).own_val r (u ∷ []))) ⊛ some (λ (_ : Unit {0} × (Unit {0} × Unit {0})). ‵ (fsep ftrue (fsep ftrue ftrue))
        ⊛ (raw (fact 𝓤 (r.value ≡ value)) ⊛ raw (fact 𝓤 (r.alloc ≡ alloc))))))) (id⊢ 𝓤 _) $
        await ! tt $ pick ! (λ r. split ! $ move ! (1 ∷ []) $ pick ! (λ _. split3 ! $ drop ! $ heard ! (r.value ≡ value) (λ same. drop ! $ split ! $ move ! (1 ∷ []) $
        -- [the box; the lifetimes]
        box_out E ! r (u ∷ []) (λ b' o' h' at is fits. box_in E ! r b' o' r.value at refl $ rewrite ! 0 (λ (us : List Val). ‵ ((B E).own_val r us)) (sym is) refl $ join ! $ now ! $
        show ! Got r $ check ! (same, subst (λ (v : Val). T (has_ty (box_ty E) v) × WT v) (sym (ap only is)) (box_typed E h' b' o' fits)) $ done !))))
