-- A process accepts.
use Rattle.std.proofs.Common.{Bool, IsSome, List, None, Option, Some, [], ap, get_or, is_some, length, refl, slice_get, slice_set, subst, suc, sym, true, unwrap_or, zero, ℕ, ℤ, ◌++◌, ◌∙◌, ◌∷◌, ◌≡◌, ◌≢◌}
use Rattle.std.proofs.lemmas.Bool.{false≢true}
use Rattle.ep_base.specs.declared.answer.Answer.{Answer}
use Rattle.ep_base.specs.declared.ids.DescId.{DescId}
use Rattle.ep_machine.specs.Connections.{accept, accepted, first_waiting, pending_in, without_pending}
use Rattle.ep_machine.specs.Files.{Files, Place, content_at, named_by, object_at, object_number, object_under, place_of, table_of}
use Rattle.ep_machine.specs.FilesCalls.{accept_of}
use Rattle.ep_machine.specs.Lists.{enter}
use Rattle.ep_machine.specs.Objects.{Object}
use Rattle.ep_machine.specs.Tables.{answer_one}
use Rattle.ep_table.proofs.AcceptingLemmas.{first_waits, listener_apart}
use Rattle.ep_table.proofs.AddLemmas.{Fits, fits_one}
use Rattle.ep_table.proofs.CreateLemmas.{tables_one, with_store}
use Rattle.ep_table.proofs.DoesLemmas.{counts_appended, keeps_gained}
use Rattle.ep_table.proofs.SoundLemmas.{place_under}
use Rattle.ep_table.specs.Accepting.{Accepts, AcceptsAt, FindsFirst, IsAcceptable}
use Rattle.ep_table.specs.Processes.{Process, entered, lists}
use Rattle.ep_table.specs.Value.{AddsKey, Seen, SoundThings, Succeeds, Things, content_of, count_at, files_in, number_at, number_of, thing_number, unwrapped}
use Rattle.ep_table.specs.View.{IsTables, tables_in, value_of}
use Rattle.ep_table.specs.declared.tables.Tables.TheInside.{Inside}
use Rattle.ep_table.specs.declared.words.Found.{Found}

-- two places of a list change in any order
sets_apart : {X : Type 0} (xs : List X) (i j : ℕ) (x y : X) → i ≢ j → slice_set (slice_set xs i x) j y ≡ slice_set (slice_set xs j y) i x
sets_apart [] i j x y ne = refl
sets_apart (z ∷ xs) zero zero x y ne = absurd (ne refl)
sets_apart (z ∷ xs) zero (suc j) x y ne = refl
sets_apart (z ∷ xs) (suc i) zero x y ne = refl
sets_apart {X} (z ∷ xs) (suc i) (suc j) x y ne = ap (λ (r : List X). z ∷ r) (sets_apart xs i j x y (λ e. ne (ap suc e)))

-- the object at a place
content_placed : (s : Files) (o : Option Place) → is_some o ≡ true → unwrapped (object_at s o) ≡ content_at s (object_number o)
content_placed s None h = absurd (false≢true h)
content_placed s (Some p) h = refl

module _ {A : Type 0} (k : Inside A) (s : Things) (ps : List Process) (p : ℕ) (found : Found) (key : DescId) (cloexec : Bool) (inv : IsTables k) (sound : SoundThings k.store) (there : IsSome (table_of (value_of k).files p))
    (live : IsSome (number_at k.store.keys found.listener)) (finds : FindsFirst (files_in k.store) (pending_in (content_of (files_in k.store) (thing_number k.store found.listener))) found)
    (h : Accepts k.store s found.listener found.number key) (e : ps ≡ slice_set (lists k.processes.items) p (entered (get_or (lists k.processes.items) p None) (record { description = key; cloexec = cloexec }))) where
  abbrev b : Files
  b = files_in k.store

  abbrev d : ℕ
  d = thing_number k.store found.listener

  abbrev m : ℕ
  m = object_number (place_of b d)

  adds : AddsKey k.store.keys s.keys key (length k.store.descriptions)
  adds = subst (λ (keys : List (Option ℕ)). AddsKey k.store.keys keys key (length k.store.descriptions)) (sym (ap (λ (t : Things). t.keys) h.left)) h.described.keys

  names : s.names ≡ k.store.names ++ 1 ∷ []
  names = ap (λ (t : Things). t.names) h.left ∙ h.described.names

  pub fits_accepted : Fits k.living s ps
  fits_accepted = fits_one k s ps p key cloexec inv sound.names_length there adds names e

  content : content_of b d ≡ content_at b m
  content = content_placed b (place_of b d) (place_under k.store found.listener sound live)

  apart : m ≢ found.number
  apart = listener_apart b m found.number found.index (first_waits b _ found.number finds.first) (ap (λ (x : Object). slice_get (pending_in x) found.index) (sym content) ∙ finds.place)

  objects_are : s.objects ≡ slice_set (slice_set k.store.objects m (Some (without_pending found.number (content_at b m)))) found.number (Some (accepted (content_at b found.number)))
  objects_are =
      ap (λ (t : Things). t.objects) h.left
      ∙ ((λ i. slice_set (h.described.objects i) m (Some (without_pending found.number (content i))))
      ∙ sets_apart k.store.objects found.number m (Some (accepted (content_at b found.number))) (Some (without_pending found.number (content_at b m))) (λ same. apart (sym same)))

  tables_are : tables_in s.keys ps ≡ slice_set (value_of k).files.tables p (Some (enter (unwrap_or (get_or (value_of k).files.tables p None) []) (record { description = length k.store.descriptions; cloexec = cloexec })))
  tables_are = ap (λ (qs : List Process). tables_in s.keys qs) e ∙ tables_one k.store.keys s.keys key (length k.store.descriptions) adds (lists k.processes.items) inv.live p cloexec there

  here : AcceptsAt (value_of k) (with_store k ps s) p found cloexec
  here = record {
    files =
        let ds = ap (λ (t : Things). t.descriptions) h.left ∙ h.described.descriptions in
        λ i. record { tables = tables_are i; descriptions = ds i; objects = objects_are i };
    keys = record { key = key; adds = adds };
    limits = refl;
    holds = ap (λ (t : Things). t.holds) h.left ∙ h.described.holds;
    dying = ap (λ (t : Things). t.dying) h.left ∙ h.described.dying;
    losses = ap (λ (t : Things). t.losses) h.left ∙ h.described.losses;
  }

  pub accepts_at : (v : Seen) → value_of k ≡ v → AcceptsAt v (with_store k ps s) p found cloexec
  accepts_at v same = subst (λ (w : Seen). AcceptsAt w (with_store k ps s) p found cloexec) same here

-- so the call is done
pub succeeds_accept : (old new : Seen) (p : ℕ) (fd : ℤ) (found : Found) (cloexec : Bool) (answer : Answer) → answer ≡ answer_one old.files p → IsAcceptable old p fd found → AcceptsAt old new p found cloexec → Succeeds (accept_of old.limits old.files p fd cloexec) answer old new
succeeds_accept old new p fd found cloexec answer a h c =
    let named : number_of old found.listener ≡ named_by old.files p fd = ap (λ (o : Option ℕ). unwrap_or o 0) h.named in
    let first_is : Some found.number ≡ first_waiting old.files (pending_in (object_under old.files p fd)) = sym h.first.first ∙ ap (λ (n : ℕ). first_waiting old.files (pending_in (content_of old.files n))) named in
    record {
      answers = a;
      files = c.files ∙ (λ i. accept old.files p (object_number (place_of old.files (named i))) (first_is i) cloexec);
      limits = c.limits;
      keys = keeps_gained old.keys new.keys c.keys.key _ c.keys.adds;
      holds = λ n. ap (λ (hs : List ℕ). count_at hs n) c.holds ∙ counts_appended old.holds n;
    }
