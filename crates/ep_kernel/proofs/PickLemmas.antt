-- What a wait finds on a ready list is a pick of the machine.
use Rattle.std.proofs.Common.{◌≡◌, ◌∙◌, Bool, IsSome, Some, false, List, [], ◌∷◌, Option, ap, arith, cond, filter, inl, inr, length, suc, subst, sym, take, true, unwrap_or, zero, ℕ, refl}
use Rattle.std.proofs.lemmas.List.{length-map, take_all}
use Rattle.std.proofs.lemmas.List.Elements.{All-head, All-tail}
use Rattle.ep_base.specs.declared.errno.Errno.{Errno}
use Rattle.ep_base.specs.declared.ids.DescId.{DescId}
use Rattle.ep_base.specs.declared.call.Call.{Call}
use Rattle.ep_base.specs.declared.call.Event.{Event}
use Rattle.ep_calls.specs.Does.{Does, DoesCall, DoesCallIf, DoesEvent, DoesEventIf}
use Rattle.ep_machine.specs.Refusal.{call_refusals, refusals}
use Rattle.ep_machine.specs.Step.{call_change, change}
use Rattle.ep_calls.specs.Moves.{MovesBy, MovesIf, StandFor}
use Rattle.ep_calls.specs.Parts.{AreCoherent, Parts}
use Rattle.ep_calls.specs.Wait.{AreKeyed, IsKeyed, IsPick, numbers_of}
use Rattle.ep_calls.specs.declared.outcome.Outcome.{Outcome}
use Rattle.ep_calls.specs.declared.wait.Reportable.{Reportable}
use Rattle.ep_interest.specs.Registrations.{IsSound, Registrations, number_under}
use Rattle.ep_kernel.proofs.NumberLemmas.{complete_order, distinct_order, filter_numbers, numbers_at, shows_at}
use Rattle.ep_kernel.specs.Choose.{IsFound, keys_of}
use Rattle.ep_kernel.specs.Listed.{AreFair, IsListed, key_shows, order_at}
use Rattle.ep_law.specs.Laws.{is_reportable_in}
use Rattle.ep_machine.specs.Report.{is_pick}
use Rattle.ep_machine.specs.State.{Change, State}
use Rattle.ep_calls.specs.Stands.{number_at}
use Rattle.ep_order.proofs.PickLemmas.{first_are_pick}
use Rattle.ep_rings.specs.KeyWalk.{entry_id}
use Rattle.ep_ready.specs.ReadyLists.{IsSound as AreSoundLists, Lists, list_at}
use Rattle.ep_table.specs.Value.{Sound as SoundTables, number_under as desc_number}

-- from fewer states
pub does_from : (A B : State → Type 0) (n : ℕ) (tests : State → List (Bool × Errno)) (changed : State → List ℕ → Option Change) (outcome : Outcome) (old new : Parts)
    → Does (MovesIf B n old) tests changed outcome old new → MovesBy n old (λ s. A s → B s) → Does (MovesIf A n old) tests changed outcome old new
does_from A B n tests changed outcome old new does so = record {
  moves = λ s at sound quiet legal stands a. does.moves s at sound quiet legal stands (so s at sound quiet legal stands a);
  raises = λ s at sound quiet legal stands a. does.raises s at sound quiet legal stands (so s at sound quiet legal stands a);
  raising = does.raising;
  limits = does.limits;
  keys = does.keys;
}

-- what is done from each state is done from these
pub does_if : (A : State → Type 0) (n : ℕ) (tests : State → List (Bool × Errno)) (changed : State → List ℕ → Option Change) (outcome : Outcome) (old new : Parts)
    → Does (MovesBy n old) tests changed outcome old new → Does (MovesIf A n old) tests changed outcome old new
does_if A n tests changed outcome old new does = record {
  moves = λ s at sound quiet legal stands a. does.moves s at sound quiet legal stands;
  raises = λ s at sound quiet legal stands a. does.raises s at sound quiet legal stands;
  raising = does.raising;
  limits = does.limits;
  keys = does.keys;
}

-- a call, and an event
pub call_does_if : (A : State → Type 0) (n caller p : ℕ) (call : Call) (outcome : Outcome) (old new : Parts) → DoesCall n caller p call outcome old new → DoesCallIf A n caller p call outcome old new
call_does_if A n caller p call outcome old new does =
    does_if A n (λ s. call_refusals old.tables.limits s p call) (λ s picked. call_change old.tables.limits s caller p call picked) outcome old new does

pub event_does_if : (A : State → Type 0) (n caller : ℕ) (event : Event) (outcome : Outcome) (old new : Parts) → DoesEvent n caller event outcome old new → DoesEventIf A n caller event outcome old new
event_does_if A n caller event outcome old new does =
    does_if A n (λ s. refusals old.tables.limits s caller event) (λ s picked. change old.tables.limits s caller event picked) outcome old new does

-- What a walk finds.

found_one : (r : Registrations) (x : Reportable) (n : ℕ) → number_under r x.id ≡ Some n → n ≡ unwrap_or (number_under r (entry_id x.id.0)) 0
found_one r x n h = sym (ap (λ (o : Option ℕ). unwrap_or o 0) h)

-- by their keys and by their numbers
found_numbers : (p : Parts) (xs : List Reportable) → AreKeyed p.tables p.clock p.interest xs → numbers_of xs ≡ numbers_at p.interest (keys_of xs)
found_numbers p [] keyed = refl
found_numbers p (x ∷ xs) keyed =
    let one = found_one p.interest x x.entry.number (All-head (IsKeyed p.tables p.clock p.interest) x xs keyed).key in
    let rest = found_numbers p xs (All-tail (IsKeyed p.tables p.clock p.interest) x xs keyed) in
    λ i. one i ∷ rest i

take_numbers : (r : Registrations) (m : ℕ) (ks : List ℕ) → numbers_at r (take m ks) ≡ take m (numbers_at r ks)
take_numbers r zero ks = refl
take_numbers r (suc m) [] = refl
take_numbers r (suc m) (k ∷ ks) = ap (λ (ns : List ℕ). unwrap_or (number_under r (entry_id k)) 0 ∷ ns) (take_numbers r m ks)

-- what passes a test among the first is first of what passes it
filter_first : (test : ℕ → Bool) (w : ℕ) (ks : List ℕ) → filter test (take w ks) ≡ take (length (filter test (take w ks))) (filter test ks)
filter_first test zero ks = refl
filter_first test (suc w) [] = refl
filter_first test (suc w) (k ∷ ks) =
    elim (test k) as (λ b. cond b (k ∷ filter test (take w ks)) (filter test (take w ks)) ≡ take (length (cond b (k ∷ filter test (take w ks)) (filter test (take w ks)))) (cond b (k ∷ filter test ks) (filter test ks))) [
      | true ↦ ap (λ (xs : List ℕ). k ∷ xs) (filter_first test w ks)
      | false ↦ filter_first test w ks
    ]

first_shown : (p : Parts) (keys : List ℕ) (most : ℕ) (found : List Reportable) (walked : ℕ) → IsFound p keys most found walked → keys_of found ≡ take most (filter (key_shows p) keys)
first_shown p keys most found walked h = elim h.all [
  | inl full ↦
      let len : length (filter (key_shows p) (take walked keys)) ≡ most = ap length (sym h.first) ∙ (length-map found (λ (x : Reportable). x.id.0) ∙ full) in
      h.first ∙ (filter_first (key_shows p) walked keys ∙ ap (λ (n : ℕ). take n (filter (key_shows p) keys)) len)
  | inr end ↦
      let all : keys_of found ≡ filter (key_shows p) keys = h.first ∙ ap (filter (key_shows p)) (ap (λ (n : ℕ). take n keys) end ∙ take_all (length keys) keys (omega arith)) in
      let len : length (filter (key_shows p) keys) ≡ length found = ap length (sym all) ∙ length-map found (λ (x : Reportable). x.id.0) in
      let few = h.few in
      all ∙ sym (take_all most (filter (key_shows p) keys) (omega (arith, len, few)))
]

-- what a walk finds along the list of an instance, by the numbers of the machine
pub found_first : (p : Parts) (l : Lists) (i : DescId) (most walked : ℕ) (found : List Reportable) → AreCoherent p → SoundTables p.tables → IsSound p.interest → AreSoundLists l → IsListed p l
    → IsFound p (list_at l i.0) most found walked → (s : State) → StandFor p s → numbers_of found ≡ take most (filter (is_reportable_in s (number_at p.tables.keys i)) (order_at p.interest l i.0))
found_first p l i most walked found coherent tables sound lists listed h s stands =
    let e = number_at p.tables.keys i in
    let keys = list_at l i.0 in
    found_numbers p found h.keyed
    ∙ (ap (numbers_at p.interest) (first_shown p keys most found walked h)
    ∙ (take_numbers p.interest most (filter (key_shows p) keys)
    ∙ ap (take most) (filter_numbers p.interest (key_shows p) (is_reportable_in s e) keys (shows_at p s stands sound coherent.linked tables l listed.places lists i))))

-- the machine may pick it
pub found_is_pick : (p : Parts) (l : Lists) (i : DescId) (most walked : ℕ) (found : List Reportable) (n : ℕ) → AreCoherent p → SoundTables p.tables → IsSound p.interest → AreSoundLists l → IsListed p l
    → IsSome (desc_number p.tables i) → IsFound p (list_at l i.0) most found walked → MovesBy n p (λ s. AreFair s p l → IsPick p.tables i most found s)
found_is_pick p l i most walked found n coherent tables sound lists listed lives h = λ s at sound_state quiet legal stands fair.
    let e = number_at p.tables.keys i in
    subst (λ (ns : List ℕ). is_pick s e most ns ≡ true) (sym (found_first p l i most walked found coherent tables sound lists listed h s stands))
    (first_are_pick s e most (order_at p.interest l i.0) sound_state (distinct_order p s stands sound coherent.linked tables l listed.places lists i.0) (fair i.0)
    (complete_order p s stands sound coherent.linked tables l listed.places listed.complete i lives))

-- of the same registrations by another name, and of as many
pub same_found : (p : Parts) (keys : List ℕ) (n most walked : ℕ) (xs found : List Reportable) → IsFound p keys n xs walked → n ≡ most → found ≡ xs → IsFound p keys most found walked
same_found p keys n most walked xs found h same is = subst (λ (m : ℕ). IsFound p keys m found walked) same (subst (λ (ys : List Reportable). IsFound p keys n ys walked) (sym is) h)
