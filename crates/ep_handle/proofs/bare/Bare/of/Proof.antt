-- `of` asks a box for its pointer and its allocator, and keeps both.
use Rattle.ep_handle.proofs.Steps.{refl, List, [], ◌∷◌, ◌++◌, Val, WpFn, id⊢, ftrue, fsep, ‵, raw, ◌⊛◌, prop, ◌$◌, ◌∵◌, !, qed, move, use1, join, split, pick, learn, regoal, fsplit, fjoin, suffices, await, done, whole, sub, agg, stop, fld, no_more, and_then, of_opd, returns, enter, alloc_all, pass_all, free_all, look_at, get, get_in, sets, lands_as, tables, no, plain, nothing, calls_at, framed, says, Stays, stay_dropped, walk_of, ends_at, proved_at}
use mir.Syntax.{Args, Dict, a_type, dcons, dnil}
use mir.MapTy.{inst_fn}
use denote.Param.{bounded}
use denote.Triple.Clauses.{Ended}
use Rattle.std.proofs.alloc.Calls.{Goes-blank}
use Rattle.std_alloc.proofs.BoxSteps.Form.{Bx, B, word, box_typed}
use Rattle.std_alloc.proofs.BoxSteps.Steps.{box_out, box_in}
use Rattle.std_alloc.proofs.boxed.Box.into_raw_with_allocator.Met as opening
use Rattle.ep_handle.proofs.BoxCalls.{Opens, apart_at, at_opening, lasting, opened, opening_gives}
use Rattle.ep_handle.specs.contracts.bare.Bare.of as F
use Rattle.ep_handle.proofs.bare.Bare.of.Statement.{statement}
use Rattle.ep_handle.proofs.bare.Bare.of.Code as code

abbrev types : Bx → Dict → Args
types E dx = bounded (a_type ∷ a_type ∷ []) (E.row, (E.al.row, tt)) (dcons E.al.d (dcons E.al.drops (dcons dx dnil)))

abbrev ended : Bx → Dict → Ended
ended E dx = F.ended E.row E.al.row E.al.g E.al.d E.al.drops dx

abbrev stayed : (E : Bx) (dx : Dict) → Stays (ended E dx).signature.params (ended E dx).kept
stayed E dx = (stay_dropped (plain (λ _. B E)) no, tt)

pub of_spec : {M : Type 1} → statement M
of_spec 𝓤 𝓛 𝓜 𝓡 wired X Z LX LZ g d dd dx allocator md glue =
    let E : Bx = record { row = X; laws = LX; al = record { row = Z; laws = LZ; g = g; d = d; drops = dd } } in
    let fn = inst_fn (types E dx) code.function in let c = F.clauses X Z g d dd dx 𝓛 𝓜.mem 𝓡.returns in
    let W = walk_of 𝓛 (ended E dx) (stayed E dx) c in let 𝓣 = tables 𝓤 𝓛.H 𝓜 𝓡 𝓡.env in let Called = Opens E dx 𝓛 𝓜.mem 𝓡.returns in
    proved_at 𝓛 (ended E dx) (stayed E dx) c 𝓜 𝓡 (Goes-blank 𝓛 2 (plain (λ _. B E)) no (λ κs x f. tt), tt)
    (F.Key.name (types E dx)) fn (code.unfolded 𝓤 𝓛.H 𝓜 𝓡 wired (X, (Z, tt)) d dd dx) (λ z are.
    let κs = z.0.0 in let qs = z.0.1 in let box = z.0.3.0 in
    qed 𝓛 ((lasting E 𝓛 κs qs ⊛ ‵ (fsep ((B E).own_val box z.0.4.0) ftrue)) ∷ raw ((c κs z.0.3).requires z.1) ∷ []) ∵ split ! $ move ! (1 ∷ []) $ fsplit ! $
    box_out E ! box z.0.4.0 (λ b o h at is fits. box_in E ! box b o box.value at refl $
    let y = at_opening E dx 𝓛 𝓜.mem 𝓡.returns κs qs box (word E h b o) in let typed = box_typed E h b o fits in
    regoal ! (λ (us : List Val). prop (WpFn 𝓤 𝓛.H 𝓣.C 𝓣.Λ fn (us ++ []) (W.post z))) is refl $
    -- [the box; true; the lifetimes; what is asked]
    fjoin ! $ move ! (1 ∷ 0 ∷ []) $ join ! $ join ! $ use1 𝓛 (raw (Called.pre y)) (id⊢ 𝓤 _) $
    enter ! _ _ _ _ _ $ alloc_all ! (λ l. pass_all ! refl (typed, tt) $ sets ! (of_opd ! (get ! refl)) refl typed $
    calls_at ! (framed 𝓤 𝓛.H 𝓜 𝓣) Called (opening.met 𝓤 𝓛 𝓜 𝓡 (code.calls-std_alloc::boxed::Box::into_raw_with_allocator 𝓡.env wired) X Z LX LZ g d dd dx allocator md glue) y
    (and_then ! (get ! refl) (no_more !)) (λ u. use1 𝓛 (opened E dx 𝓛 𝓜.mem 𝓡.returns κs qs box (word E h b o) u) (opening_gives E dx 𝓛 𝓜.mem 𝓡.returns κs qs box (word E h b o) u) $
    await ! tt $ pick ! (λ b'. pick ! (λ o'. pick ! (λ h'. learn ! (λ known. split ! $
    let made = box_typed E h' b' o' known.1 in
    lands_as ! known.0 refl made $ sets ! (of_opd ! (get_in ! (fld ! refl (stop !)) (sub ! 0 refl (whole !)))) refl (tt, tt) $
    sets ! (of_opd ! (get_in ! (fld ! refl (stop !)) (sub ! 1 refl (whole !)))) refl known.1 $ sets ! (of_opd ! (get ! refl)) refl known.1 $
    sets ! (agg ! (and_then ! (get ! refl) (and_then ! (get ! refl) (no_more !)))) refl made $ returns ! (look_at ! 0 refl) $ free_all ! refl $
    suffices ! _ (ends_at 𝓛 (ended E dx) (stayed E dx) c z (word E h' b' o') (apart_at E box.alloc box.value b' o') ((tt, (tt, tt)), tt) (tt, tt)) $ says ! refl $
    nothing ! $ nothing ! $ fjoin ! $ join ! $ move ! (1 ∷ 0 ∷ []) $ join ! $ done !))))))))
