-- An empty slot owns its allocator, which is one value, and nothing else.
use Rattle.ep_handle.proofs.Steps.{refl, List, [], ◌∷◌, ◌++◌, Val, vstruct, vcons, vnil, WpFn, emp, id⊢, ftrue, fsep, ‵, raw, ◌⊛◌, prop, ◌$◌, ◌∵◌, !, qed, move, drop, use1, join, split, regoal, fsplit, fjoin, fpack, feq_i, suffices, done, agg, no_more, and_then, returns, enter, alloc_all, pass_all, free_all, look_at, get, sets, tables, yes, RawPtr, null_ptr, ptr_val, plain, nothing, says, Stays, stay_dropped, walk_of, ends_at, Goes-dropped, proved_at}
use mir.Syntax.{w64}
use mir.Val.{vint}
use types.Run.{lit}
use denote.RattleType.{Valss}
use denote.Struct.Struct.{within}
use denote.Struct.Owning.{shape}
use Rattle.std.specs.Prelude.{None}
use Rattle.std.proofs.Common.{lit<}
use Rattle.std.proofs.alloc.Calls.{handle_tells}
use Rattle.std_heap.specs.contracts.Global as Heap
use Rattle.std_alloc.proofs.BoxSteps.Form.{P, owning}
use Rattle.std_alloc.proofs.ResultValues.{and_tt}
use Rattle.ep_handle.proofs.SlotBox.{E}
use Rattle.ep_handle.specs.contracts.slot.Slot as Slots
use Rattle.ep_handle.specs.contracts.slot.Slot.empty as F
use Rattle.ep_handle.proofs.slot.Slot.empty.Statement.{statement}
use Rattle.ep_handle.proofs.slot.Slot.empty.Code as code

abbrev stayed : Stays F.ended.signature.params F.ended.kept
stayed = (stay_dropped (plain (λ _. Heap.the_row)) yes, tt)

pub empty_spec : {M : Type 1} → statement M
empty_spec 𝓤 𝓛 𝓜 𝓡 wired =
    let c = F.clauses 𝓛 𝓜.mem 𝓡.returns in let W = walk_of 𝓛 F.ended stayed c in let 𝓣 = tables 𝓤 𝓛.H 𝓜 𝓡 𝓡.env in
    proved_at 𝓛 F.ended stayed c 𝓜 𝓡 (Goes-dropped 𝓛 0 (plain (λ _. Heap.the_row)) yes (λ κs x f. refl), tt) F.Key.name code.function (code.unfolded 𝓤 𝓛.H 𝓜 𝓡 wired) (λ z are.
    let alloc = z.0.3.0 in let made : Slots.the_row.Denot = record { at = null_ptr; alloc = alloc; kernel = None } in
    qed 𝓛 ((‵ ftrue ⊛ ‵ (fsep (Heap.the_row.own_val alloc z.0.4.0) ftrue)) ∷ raw (emp 𝓤) ∷ []) ∵ split ! $ drop ! $ fsplit ! $ move ! (1 ∷ 2 ∷ []) $ drop ! $ drop ! $
    handle_tells E.al ! alloc z.0.4.0 (λ h is fits.
    regoal ! (λ (us : List Val). prop (WpFn 𝓤 𝓛.H 𝓣.C 𝓣.Λ code.function (us ++ []) (W.post z))) is refl $
    let null = vint w64 0 in let w = vstruct (vcons null (vcons h vnil)) in
    -- the two fields own the handle, and nothing lies at null
    nothing ! $ move ! (1 ∷ 0 ∷ []) $ fjoin ! $ feq_i ! (List Val) (null ∷ []) (ptr_val null_ptr ∷ []) refl $ fjoin ! $ feq_i ! (List Val) (w ∷ []) (w ∷ []) refl $ fjoin ! $
    fpack ! (Valss (RawPtr ∷ P E ∷ [])) (within (shape (owning E)) (null_ptr, (alloc, tt)) (w ∷ [])) (null ∷ [], (h ∷ [], tt)) $
    nothing ! $ move ! (1 ∷ 0 ∷ []) $ fjoin ! $ use1 𝓛 (‵ (Slots.the_row.own_val made (w ∷ []))) (id⊢ 𝓤 _) $
    enter ! _ _ _ _ _ $ alloc_all ! (λ l. pass_all ! refl (fits, tt) $
    sets ! (agg ! (and_then ! (lit ! tt) (and_then ! (get ! refl) (no_more !)))) refl (and_tt _ fits.0, (record { fits = lit< tt }, (fits.1, tt))) $
    returns ! (look_at ! 0 refl) $ free_all ! refl $
    suffices ! _ (ends_at 𝓛 F.ended stayed c z w made (tt, tt) (tt, tt)) $ says ! refl $
    nothing ! $ nothing ! $ fjoin ! $ join ! $ nothing ! $ join ! $ done !)))
