-- What was told of registrations, and is laid out for C.
use Rattle.std.proofs.Common.{◌≡◌, ◌≤◌, ◌∷◌, ◌∙◌, [], List, MatchOption, None, Ok, Option, Result, Some, ap, arith, length, map, refl, subst, suc, take, zero, ℕ, ℤ}
use Rattle.ep_base.specs.declared.errno.Errno.{Errno}
use Rattle.ep_base.specs.declared.errno.Errno.TheVariants.{Einval}
use Rattle.ep_exports.specs.Watches.{IsRefused, IsTold, Stands, WatchRoom, flat_watch}
use Rattle.ep_flat.specs.Flat.{overlaid}
use Rattle.ep_flat.specs.declared.flat.FlatWatch.{FlatWatch}
use Rattle.ep_kernel.specs.Watches.{Tells, TellsNone, laid_over, told_at}
use Rattle.ep_kernel.specs.declared.watches.Watch.{Watch}
use Rattle.ep_machine.specs.State.{State, Waiter}
use Rattle.ep_records.specs.Past.{Past}

-- Of more than there are, all are taken.
pub take_more : {X : Type 0} (n : ℕ) (xs : List X) → length xs ≤ n → take (length xs) xs ≡ take n xs
take_more zero [] h = refl
take_more (suc n) [] h = refl
take_more zero (x ∷ xs) h = absurd (omega (arith, h))
take_more (suc n) (x ∷ xs) h = ap (λ ys. x ∷ ys) (take_more n xs (omega (arith, h)))

-- Those that stand in room as long as C's are those that have room there.
pub laid_out : (f : Watch → FlatWatch) (watches told : List Watch) (room : List FlatWatch) → length told ≡ length room
    → overlaid room (map f (take (length watches) (laid_over watches told))) ≡ overlaid room (map f watches)
laid_out f [] told room same = refl
laid_out f (w ∷ watches) [] [] same = refl
laid_out f (w ∷ watches) [] (y ∷ room) same = absurd (omega (arith, same))
laid_out f (w ∷ watches) (x ∷ told) [] same = absurd (omega (arith, same))
laid_out f (w ∷ watches) (x ∷ told) (y ∷ room) same = ap (λ (ys : List FlatWatch). f w ∷ ys) (laid_out f watches told room (omega (arith, same)))

-- What was told of all registrations, or refused, and is laid out.
module _ (past : Past) (r : Result ℕ Errno) (blank told : List Watch) (before after : WatchRoom) (result : ℤ) (put : IsTold past r told before after result) where
  pub stands : (watches : List Watch) → length blank ≡ length before.watches → Tells watches r blank told → Stands past watches before after result
  stands watches same tells =
      let done : IsTold past (Ok (length watches)) told before after result = subst (λ (x : Result ℕ Errno). IsTold past x told before after result) tells.0 put in (
        done.0,
        done.1,
        done.2
            ∙ (ap (λ (ws : List Watch). overlaid before.watches (map (flat_watch past) (take (length watches) ws))) tells.1
            ∙ laid_out (flat_watch past) watches blank before.watches same),
      )

  pub refuses : (e : Errno) → TellsNone e r blank told → IsRefused e before after result
  refuses e tells = subst (λ (x : Result ℕ Errno). IsTold past x told before after result) tells.0 put

  -- by a descriptor number
  pub named : (o : Option Errno) (watches : List Watch) → length blank ≡ length before.watches
      → MatchOption o (Tells watches r blank told) (λ e. TellsNone e r blank told) → MatchOption o (Stands past watches before after result) (λ e. IsRefused e before after result)
  named None watches same tells = stands watches same tells
  named (Some e) watches same tells = refuses e tells

  -- by who is parked there
  pub awaited : (s : State) (o : Option Waiter) → length blank ≡ length before.watches
      → MatchOption o (TellsNone Einval r blank told) (λ w. Tells (told_at s w.instance) r blank told)
      → MatchOption o (IsRefused Einval before after result) (λ w. Stands past (told_at s w.instance) before after result)
  awaited s None same tells = refuses Einval tells
  awaited s (Some w) same tells = stands (told_at s w.instance) same tells
