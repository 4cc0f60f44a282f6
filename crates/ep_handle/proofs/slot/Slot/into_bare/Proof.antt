-- `into_bare` moves the pointer and the allocator of a slot that has a kernel, and the kernel goes with them.
use Rattle.ep_handle.proofs.Steps.{refl, List, [], ◌∷◌, ◌++◌, Val, WpFn, id⊢, ftrue, fsep, fact, ‵, raw, ◌⊛◌, prop, ◌$◌, ◌∵◌, !, qed, move, drop, use1, join, split, rewrite, regoal, fsplit, fjoin, suffices, done, whole, sub, agg, stop, fld, no_more, and_then, of_opd, returns, enter, alloc_all, pass_all, free_all, look_at, get, get_in, sets, tables, yes, heard, nothing, says, Stays, stay_dropped, walk_of, ends_at, Goes-dropped, proved_at}
use Rattle.std.specs.Prelude.{IsSome, Option}
use Rattle.std_heap.specs.contracts.Global as Heap
use Rattle.std_heap.specs.contracts.GlobalAllocator.TheImpl.{ghosts}
use Rattle.std_alloc.proofs.BoxSteps.Form.{D, word, box_typed}
use Rattle.std_alloc.proofs.BoxSteps.Steps.{box_out, box_in}
use Rattle.ep_kernel.specs.contracts.ready.ReadyKernel as Kernel
use Rattle.ep_handle.proofs.SlotBox.{E, from_slot, value_of}
use Rattle.ep_handle.specs.contracts.bare.Bare as Bares
use Rattle.ep_handle.specs.contracts.slot.Slot as Slots
use Rattle.ep_handle.specs.contracts.slot.Slot.into_bare as F
use Rattle.ep_handle.proofs.slot.Slot.into_bare.Statement.{statement}
use Rattle.ep_handle.proofs.slot.Slot.into_bare.Code as code

abbrev stayed : Stays F.ended.signature.params F.ended.kept
stayed = (stay_dropped from_slot yes, tt)

pub into_bare_spec : {M : Type 1} → statement M
into_bare_spec 𝓤 𝓛 𝓜 𝓡 wired =
    let c = F.clauses 𝓛 𝓜.mem 𝓡.returns in let W = walk_of 𝓛 F.ended stayed c in let 𝓣 = tables 𝓤 𝓛.H 𝓜 𝓡 𝓡.env in
    let To = Bares.the_row Kernel.the_row Heap.the_row ghosts in
    proved_at 𝓛 F.ended stayed c 𝓜 𝓡 (Goes-dropped 𝓛 0 from_slot yes (λ κs x f. refl), tt) F.Key.name code.function (code.unfolded 𝓤 𝓛.H 𝓜 𝓡 wired) (λ z are.
    let slot = z.0.3.0 in
    qed 𝓛 ((‵ ftrue ⊛ ‵ (fsep (Slots.the_row.own_val slot z.0.4.0) ftrue)) ∷ raw (fact 𝓤 (IsSome slot.kernel)) ∷ []) ∵ move ! (1 ∷ []) $ heard ! (IsSome slot.kernel) (λ there.
    split ! $ drop ! $ fsplit ! $ move ! (1 ∷ []) $ drop ! $
    let x = (value_of slot.kernel there).0 in let same = (value_of slot.kernel there).1 in
    let box : D E = record { ptr = slot.at; alloc = slot.alloc; value = x } in
    let made : To.Denot = record { at = slot.at; alloc = slot.alloc; held = x } in
    rewrite ! 0 (λ (k : Option Kernel.the_row.Denot). ‵ (Slots.the_row.own_val (record slot { kernel = k }) z.0.4.0)) same refl $
    box_out E ! box z.0.4.0 (λ b o h at is fits. box_in E ! box b o box.value at refl $ use1 𝓛 (‵ (To.own_val made (word E h b o ∷ []))) (id⊢ 𝓤 _) $
    regoal ! (λ (us : List Val). prop (WpFn 𝓤 𝓛.H 𝓣.C 𝓣.Λ code.function (us ++ []) (W.post z))) is refl $
    let typed = box_typed E h b o fits in
    enter ! _ _ _ _ _ $ alloc_all ! (λ l. pass_all ! refl (typed, tt) $
    sets ! (of_opd ! (get_in ! (fld ! refl (stop !)) (sub ! 0 refl (whole !)))) refl (tt, tt) $ sets ! (of_opd ! (get_in ! (fld ! refl (stop !)) (sub ! 1 refl (whole !)))) refl fits $
    sets ! (of_opd ! (get ! refl)) refl (tt, tt) $ sets ! (agg ! (and_then ! (get ! refl) (and_then ! (get ! refl) (no_more !)))) refl typed $
    returns ! (look_at ! 0 refl) $ free_all ! refl $
    suffices ! _ (ends_at 𝓛 F.ended stayed c z (word E h b o) made (tt, tt) (tt, tt)) $ says ! same $
    nothing ! $ nothing ! $ fjoin ! $ join ! $ nothing ! $ join ! $ done !))))
