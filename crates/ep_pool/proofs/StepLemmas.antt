-- A step more, and what a pool gives back.
use Rattle.std.proofs.Common.{◌≡◌, ◌+◌, ◌++◌, ◌<◌, ◌∷◌, ◌∙◌, ℕ, Bool, List, None, Option, [], ap, false, get_or, length, map, not, refl, subst, sym, true}
use Rattle.std.specs.Prelude.{flat_map, zip}
use Rattle.std.proofs.lemmas.List.{get_or-map}
use Rattle.ep_base.specs.declared.ids.CallerId.{CallerId}
use Rattle.ep_base.specs.declared.record.Record.{Record}
use Rattle.ep_pool.specs.Jobs.{stop_of}
use Rattle.ep_pool.specs.Steps.{StepAdds, StepsAdd}
use Rattle.ep_pool.specs.declared.job.Step.{Step}

pub steps_push : (c : ℕ) (old mid new : List Record) (xs : List Step) (s : Step) → StepsAdd c old mid xs → StepAdds c mid new s → StepsAdd c old new (xs ++ s ∷ [])
steps_push c old mid new [] s h t = (new, subst (λ (m : List Record). StepAdds c m new s) h t, refl)
steps_push c old mid new (x ∷ xs) s h t = (h.0, h.1, steps_push c h.0 mid new xs s h.2 t)

pub zip_maps : {X Y : Type 0} (name : Y → ℕ) (key : X → Y) (k : X → Option ℕ) (xs : List X) → flat_map (λ (r : X). stop_of (name (key r)) (k r)) xs ≡ flat_map (λ (x : ℕ × Option ℕ). stop_of x.0 x.1) (zip (map name (map key xs)) (map k xs))
zip_maps name key k [] = refl
zip_maps name key k (x ∷ xs) = ap (λ (t : List (CallerId × ℕ)). stop_of (name (key x)) (k x) ++ t) (zip_maps name key k xs)

pub lift_each : {R S : Type 0} (f : R → S) (k : R → Option ℕ) (ran : List R) (sessions : List S) (P : S → Option ℕ → Type 0) (i : ℕ) (s : S) (r : R) → sessions ≡ map f ran → i < length ran → P (f (get_or ran i r)) (k (get_or ran i r)) → P (get_or sessions i s) (get_or (map k ran) i None)
lift_each {R} {S} f k ran sessions P i s r is low h =
    let a : get_or sessions i s ≡ f (get_or ran i r) = ap (λ (xs : List S). get_or xs i s) is ∙ get_or-map f ran i r s low in
    let b : get_or (map k ran) i None ≡ k (get_or ran i r) = get_or-map k ran i r None low in
    subst (λ (x : S). P x (get_or (map k ran) i None)) (sym a) (subst (λ (o : Option ℕ). P (f (get_or ran i r)) o) (sym b) h)
