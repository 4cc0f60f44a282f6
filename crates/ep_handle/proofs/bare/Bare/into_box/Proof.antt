-- `into_box` makes a box of the pointer and the allocator that it has.
use Rattle.ep_handle.proofs.Steps.{refl, List, [], ◌∷◌, ◌++◌, Val, vptr, WpFn, id⊢, ftrue, fsep, ‵, raw, ◌⊛◌, prop, at_ret, ◌$◌, ◌∵◌, !, qed, move, drop, use1, join, split, split3, pick, learn, regoal, fsplit, fjoin, feq_i, suffices, await, done, whole, sub, stop, fld, no_more, and_then, of_opd, returns, enter, first, blocks, exec, alloc_all, pass_all, free_all, look_at, get, get_in, sets, lands_last, env, fact, tables, no, plain, nothing, calls_at_last, framed, says, Stays, stay_dropped, walk_of, ends_at, proved_at}
use mir.MapTy.{inst_fn}
use contract.BorrowLft.{◌⊑◌}
use denote.Triple.Clauses.{Ended}
use Rattle.std.proofs.VecSteps.Shapes.{after}
use Rattle.std.proofs.alloc.Calls.{Goes-blank}
use Rattle.std_alloc.proofs.BoxSteps.Form.{Bx, D, B, args, box_typed}
use Rattle.std_alloc.proofs.BoxSteps.Steps.{box_out}
use Rattle.std_alloc.proofs.boxed.Box.from_raw.Met as closing
use Rattle.ep_handle.proofs.BoxCalls.{Apart, Closes, at_closing, closed, closing_gives, lasting}
use Rattle.ep_handle.specs.contracts.bare.Bare.into_box as F
use Rattle.ep_handle.proofs.bare.Bare.into_box.Statement.{statement}
use Rattle.ep_handle.proofs.bare.Bare.into_box.Code as code

abbrev ended : Bx → Ended
ended E = F.ended E.row E.al.row E.al.g E.al.d E.al.drops

abbrev stayed : (E : Bx) → Stays (ended E).signature.params (ended E).kept
stayed E = (stay_dropped (plain (λ _. Apart E)) no, tt)

pub into_box_spec : {M : Type 1} → statement M
into_box_spec 𝓤 𝓛 𝓜 𝓡 wired X Z LX LZ g d dd allocator md =
    let E : Bx = record { row = X; laws = LX; al = record { row = Z; laws = LZ; g = g; d = d; drops = dd } } in
    let fn = inst_fn (args E) code.function in let c = F.clauses X Z g d dd 𝓛 𝓜.mem 𝓡.returns in
    let W = walk_of 𝓛 (ended E) (stayed E) c in let 𝓣 = tables 𝓤 𝓛.H 𝓜 𝓡 𝓡.env in let Called = Closes E 𝓛 𝓜.mem 𝓡.returns in
    proved_at 𝓛 (ended E) (stayed E) c 𝓜 𝓡 (Goes-blank 𝓛 2 (plain (λ _. Apart E)) no (λ κs x f. tt), tt)
    (F.Key.name (args E)) fn (code.unfolded 𝓤 𝓛.H 𝓜 𝓡 wired (X, (Z, tt)) d dd) (λ z are.
    let κs = z.0.0 in let qs = z.0.1 in let parts = z.0.3.0 in
    let box : D E = record { ptr = parts.at; alloc = parts.alloc; value = parts.held } in
    qed 𝓛 ((lasting E 𝓛 κs qs ⊛ ‵ (fsep ((B E).own_val box z.0.4.0) ftrue)) ∷ (raw (fact 𝓤 (κs.0 ⊑ X.lives)) ⊛ raw (fact 𝓤 (κs.1.0 ⊑ Z.lives)) ⊛ ‵ ftrue) ∷ []) ∵ split ! $ move ! (1 ∷ []) $ fsplit ! $
    box_out E ! box z.0.4.0 (λ b o h at is fits. fjoin ! $
    let y = at_closing E 𝓛 𝓜.mem 𝓡.returns κs qs box.alloc box.value b o h in let typed = box_typed E h b o fits in
    regoal ! (λ (us : List Val). prop (WpFn 𝓤 𝓛.H 𝓣.C 𝓣.Λ fn (us ++ []) (W.post z))) is refl $
    -- [what lies there; the handle; true; the lifetimes; what is asked]
    move ! (4 ∷ []) $ split3 ! $ move ! (2 ∷ []) $ drop ! $ move ! (1 ∷ 2 ∷ []) $ join ! $ move ! (1 ∷ 0 ∷ []) $ join ! $
    -- [what is asked with what lies there; the handle; true; the lifetimes]
    move ! (2 ∷ []) $ feq_i ! (List Val) (vptr b o ∷ []) (vptr b o ∷ []) refl $ fjoin ! $ move ! (2 ∷ 0 ∷ []) $ fjoin ! $ move ! (2 ∷ 0 ∷ []) $ join ! $ join ! $ use1 𝓛 (raw (Called.pre y)) (id⊢ 𝓤 _) $
    enter ! _ _ _ _ _ $ alloc_all ! (λ l. pass_all ! refl (typed, tt) $
    sets ! (of_opd ! (get_in ! (fld ! refl (stop !)) (sub ! 0 refl (whole !)))) refl (tt, tt) $ sets ! (of_opd ! (get_in ! (fld ! refl (stop !)) (sub ! 1 refl (whole !)))) refl fits $
    first ! $ blocks ! $ sets ! (of_opd ! (get ! refl)) refl fits $
    calls_at_last ! (framed 𝓤 𝓛.H 𝓜 𝓣) Called (closing.met 𝓤 𝓛 𝓜 𝓡 (code.calls-std_alloc::boxed::Box::from_raw 𝓡.env wired) X Z LX LZ g d dd allocator md) y
    (and_then ! (get ! refl) (and_then ! (get ! refl) (no_more !))) (λ u. use1 𝓛 (closed E 𝓛 𝓜.mem 𝓡.returns κs qs box.alloc box.value b o h u) (closing_gives E 𝓛 𝓜.mem 𝓡.returns κs qs box.alloc box.value b o h u) $
    await ! tt $ pick ! (λ r. learn ! (λ known. split ! $
    lands_last ! refl known.1 $ exec ! 𝓣.C 𝓣.Λ (env fn.locals l) (after 3 fn.body) (at_ret (env fn.locals l) (W.post z)) $
    sets ! (of_opd ! (get ! refl)) refl known.1 $ returns ! (look_at ! 0 refl) $ free_all ! refl $
    suffices ! _ (ends_at 𝓛 (ended E) (stayed E) c z u r ((tt, (tt, tt)), tt) (tt, tt)) $ says ! known.0 $
    nothing ! $ nothing ! $ fjoin ! $ join ! $ move ! (1 ∷ 0 ∷ []) $ join ! $ done !))))))
