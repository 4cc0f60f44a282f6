-- What is lost is noted: by what loses nothing, by a DEL, by a burial, and by one after another.
use Rattle.std.proofs.Common.{◌≡◌, ◌<◌, ◌∙◌, ◌==◌, ◌&&◌, ◌++◌, ◌⊎◌, ℕ, Bool, true, false, Contains, IsSome, List, [], ◌∷◌, None, Option, Some, ap, append-nil, arith, cond, filter, if◌then◌else◌, inl, inr, is_some, map, not, refl, subst, sym, unwrap_or}
use Rattle.std.specs.List.{list_any}
use Rattle.std.specs.Prelude.{MatchBool}
use Rattle.std.proofs.lemmas.List.Elements.{All-from_recursion}
use Rattle.std.proofs.lemmas.Bool.{cases_Bool, false_from_ne_true, false≢true}
use Rattle.ep_facts.proofs.NatFacts.{from_test, same_nat, same_test}
use Rattle.ep_facts.proofs.ListFacts.{head_same, tail_same}
use Rattle.ep_facts.proofs.BoolFacts.{from_not_false, or_cases, or_left, or_right}
use Rattle.ep_base.specs.declared.answer.Answer.{Answer}
use Rattle.ep_base.specs.declared.ids.DescId.{DescId}
use Rattle.ep_base.specs.declared.ids.EntryId.{EntryId}
use Rattle.ep_base.specs.declared.mask.Mask.{Mask}
use Rattle.ep_calls.proofs.EntryLemmas.{member_of, one_member, some_entry}
use Rattle.ep_calls.proofs.FindLemmas.{rises_above}
use Rattle.ep_calls.proofs.KeyLemmas.{under_key}
use Rattle.ep_calls.proofs.OtherEndLemmas.{noted}
use Rattle.ep_calls.specs.Burial.{Burial, is_untouched}
use Rattle.ep_calls.specs.Climb.{Rises}
use Rattle.ep_calls.specs.Control.{Changes, ChangesIf, is_done, next_entry}
use Rattle.ep_calls.specs.Parts.{Parts}
use Rattle.ep_calls.specs.Raising.{Stirs, bits_of, due_bits, raised_each, raised_there, raised_where}
use Rattle.ep_calls.specs.Stands.{AreLinked, IsLinked, number_at, watch_at}
use Rattle.ep_calls.specs.declared.control.Control.{Control}
use Rattle.ep_calls.specs.declared.control.Named.{Named}
use Rattle.ep_calls.specs.declared.control.Operation.{Operation}
use Rattle.ep_calls.specs.declared.control.Operation.TheVariants.{Add, Delete, Modify}
use Rattle.ep_calls.specs.declared.raising.Raising.{Raising}
use Rattle.ep_calls.specs.declared.raising.Raising.TheVariants.{Clock, Instance, Losses, Nowhere, Object}
use Rattle.ep_choice.proofs.LosingLemmas.{is_home, reaches_home}
use Rattle.ep_choice.specs.Lost.{NotesLost, deleted_home, dying_homes, guard_home, guard_homes, has_guards, may_guard, with_home}
use Rattle.ep_climb.specs.Reach.{Reaches}
use Rattle.ep_interest.proofs.PurgeLemmas.{numbered_number}
use Rattle.ep_interest.specs.Exclusive.{is_exclusive}
use Rattle.ep_interest.specs.Registrations.{IsSound, Registrations, entry_under, is_on, is_other, modified, number_under as entry_number, numbered, raised_on}
use Rattle.ep_interest.specs.declared.entry.Entry.{Entry}
use Rattle.ep_law.proofs.GraphLemmas.{member_of_map}
use Rattle.ep_law.proofs.ListLemmas.{all_member, any_has, any_member, member_filter, member_map}
use Rattle.ep_law.proofs.NamedLivesLemmas.{places_left}
use Rattle.ep_law.specs.Laws.{Member}
use Rattle.ep_machine.specs.Bits.{IN, at_end}
use Rattle.ep_machine.specs.Deaths.{die_all}
use Rattle.ep_machine.specs.Files.{Files, Place, place_of, side_of}
use Rattle.ep_machine.specs.Lists.{are_distinct, is_among}
use Rattle.ep_nest.proofs.ElementLemmas.{Contains-cons, Contains-cons_cases, Contains-head, Contains-nil}
use Rattle.ep_walk.specs.Walk.{Walk}
use Rattle.ep_table.specs.Closing.{opposite}
use Rattle.ep_table.specs.Live.{live_ids}
use Rattle.ep_table.specs.Value.{Seen, Sound, number_of, number_under}
use Rattle.ep_table.specs.declared.words.Loss.{Loss}
use Rattle.ep_view.specs.KernelView.{KernelWatch, freshened}

member_there : (xs : List Entry) (x : Entry) → Contains xs x → Member x xs
member_there [] x h = Contains-nil x h
member_there (y ∷ ys) x h = elim (Contains-cons_cases y ys x h) [ inl e ↦ inl (sym e) | inr later ↦ inr (member_there ys x later) ]

any_desc : (f : DescId → Bool) (xs : List DescId) (x : DescId) → Member x xs → f x ≡ true → list_any f xs ≡ true
any_desc f [] x m h = absurd m
any_desc f (y ∷ ys) x (inl e) h = or_left (f y) (list_any f ys) (ap f (sym e) ∙ h)
any_desc f (y ∷ ys) x (inr m) h = or_right (f y) (list_any f ys) (any_desc f ys x m h)

-- the number of a member is found
has_number : (xs : List Entry) (y : Entry) (n : ℕ) → Member y xs → y.number ≡ n → IsSome (numbered xs n)
has_number [] y n m e = absurd m
has_number (z ∷ zs) y n (inl is) e = subst (λ (b : Bool). IsSome (cond b (Some z) (numbered zs n))) (sym (same_test z.number n (ap (λ (w : Entry). w.number) (sym is) ∙ e))) refl
has_number (z ∷ zs) y n (inr m) e = elim (z.number == n) as (λ b. IsSome (cond b (Some z) (numbered zs n))) [ true ↦ refl | false ↦ has_number zs y n m e ]

none_there : (o : Option Entry) → o ≡ None → IsSome o → ⊥
none_there o none some = false≢true (sym (ap (λ (p : Option Entry). is_some p) none) ∙ some)

-- Registrations stay.

-- each has its number among the new
abbrev pub AllStay : Registrations → Registrations → Type 0
AllStay old new = (x : Entry) → Member x old.entries → IsSome (numbered new.entries x.number)

pub stay_all : (old new : Registrations) → new.entries ≡ old.entries → AllStay old new
stay_all old new same x m = subst (λ (xs : List Entry). IsSome (numbered xs x.number)) (sym same) (has_number old.entries x x.number m refl)

pub stay_each : (f : Entry → Entry) → ((x : Entry) → (f x).number ≡ x.number) → (old new : Registrations) → new.entries ≡ map f old.entries → AllStay old new
stay_each f kept old new is x m = subst (λ (xs : List Entry). IsSome (numbered xs x.number)) (sym is) (has_number (map f old.entries) (f x) x.number (member_map f x old.entries m) (kept x))

member_more : (xs ys : List Entry) (x : Entry) → Member x xs → Member x (xs ++ ys)
member_more [] ys x m = absurd m
member_more (z ∷ zs) ys x (inl e) = inl e
member_more (z ∷ zs) ys x (inr m) = inr (member_more zs ys x m)

pub stay_more : (old new : Registrations) (more : List Entry) → new.entries ≡ old.entries ++ more → AllStay old new
stay_more old new more is x m = subst (λ (xs : List Entry). IsSome (numbered xs x.number)) (sym is) (has_number (old.entries ++ more) x x.number (member_more old.entries more x m) refl)

pub stay_risen : (n : ℕ) (v : Seen) (old new : Registrations) → Rises n v old new → AllStay old new
stay_risen n v old new rises = stay_each _ (λ x. refl) old new rises.entries

-- what loses nothing
pub notes_none : (old new : Parts) (ks : List ℕ) → AllStay old.interest new.interest → NotesLost old new ks ks
notes_none old new ks stay = record {
  noted = λ guards x there may gone lives. absurd (none_there _ gone (stay x (member_there old.interest.entries x there)));
  still = λ i t. t;
}

pub notes_mapped : (f : Entry → Entry) → ((x : Entry) → (f x).number ≡ x.number) → (old new : Parts) → new.interest.entries ≡ map f old.interest.entries → (ks : List ℕ) → NotesLost old new ks ks
notes_mapped f kept old new is ks = notes_none old new ks (stay_each f kept old.interest new.interest is)

-- nor does more that is noted harm
pub notes_more : (old new : Parts) (ks ls ms : List ℕ) → ((i : ℕ) → is_among ls i ≡ true → is_among ms i ≡ true) → NotesLost old new ks ls → NotesLost old new ks ms
notes_more old new ks ls ms more notes = record {
  noted = λ guards x there may gone lives. more x.instance.0 (notes.noted guards x there may gone lives);
  still = λ i t. more i (notes.still i t);
}

member_numbered : (xs : List Entry) (n : ℕ) (o : Option Entry) → numbered xs n ≡ o → ((x : Entry) → Member x xs → x.number ≡ n → ⊥) → o ≡ None
member_numbered xs n None is none = refl
member_numbered xs n (Some x) is none = absurd (none x (found xs is) (numbered_number xs n x is)) where
  some_is : (y : Entry) → Some y ≡ Some x → y ≡ x
  some_is y e = ap (λ (o : Option Entry). unwrap_or o y) e

  found : (ys : List Entry) → numbered ys n ≡ Some x → Member x ys
  found [] h = absurd (let e : None ≡ Some x = h in cc)
  found (y ∷ ys) h = elim (cases_Bool (y.number == n)) [
    | inl t ↦ inl (sym (some_is y (sym (ap (λ (b : Bool). cond b (Some y) (numbered ys n)) t) ∙ h)))
    | inr f ↦ inr (found ys (sym (ap (λ (b : Bool). cond b (Some y) (numbered ys n)) f) ∙ h))
  ]

-- then what loses nothing
pub notes_then : (old mid new : Parts) (ks ls : List ℕ) → ((d : DescId) → IsSome (number_under new.tables d) → IsSome (number_under mid.tables d)) → AllStay mid.interest new.interest → NotesLost old mid ks ls → NotesLost old new ks ls
notes_then old mid new ks ls keys stay notes = record {
  noted = λ guards x there may gone lives.
      let none = member_numbered mid.interest.entries x.number (numbered mid.interest.entries x.number) refl (λ y m e. none_there _ gone (subst (λ (n : ℕ). IsSome (numbered new.interest.entries n)) e (stay y m))) in
      notes.noted guards x there may none (keys x.instance lives);
  still = notes.still;
}

-- Those that may guard stay, each under its number, and of its instance.
pub record GuardsStay (old new : Parts) : Type 0 where
  pub any : has_guards old.interest ≡ true → has_guards new.interest ≡ true
  pub each : (x : Entry) → Member x old.interest.entries → may_guard old.tables x ≡ true
      → (y : Entry) × Member y new.interest.entries × (y.number ≡ x.number) × (y.instance ≡ x.instance) × (may_guard new.tables y ≡ true)

contains_there : (xs : List Entry) (x : Entry) → Member x xs → Contains xs x
contains_there [] x m = absurd m
contains_there (y ∷ ys) x (inl e) = subst (λ (z : Entry). Contains (y ∷ ys) z) (sym e) (Contains-head y ys)
contains_there (y ∷ ys) x (inr m) = Contains-cons y ys x (contains_there ys x m)

-- what loses something after such a change
pub notes_after : (old mid new : Parts) (ks ls : List ℕ) → GuardsStay old mid → NotesLost mid new ks ls → NotesLost old new ks ls
notes_after old mid new ks ls stay notes = record {
  noted = λ guards x there may gone lives.
      let y = stay.each x (member_there old.interest.entries x there) may in
      subst (λ (d : DescId). is_among ls d.0 ≡ true) y.3
      (notes.noted (stay.any guards) y.0 (contains_there mid.interest.entries y.0 y.1) y.4 (ap (numbered new.interest.entries) y.2 ∙ gone) (subst (λ (d : DescId). IsSome (number_under new.tables d)) (sym y.3) lives));
  still = notes.still;
}

-- a registration without what is raised at its target, reported or armed
abbrev pub placed : Entry → Entry
placed x = record x { tag = 0; armed = true; fresh = true; reported_in = 0; passes_in = 0 }

pub guards_placed : (old new : Parts) → new.tables ≡ old.tables → map placed new.interest.entries ≡ map placed old.interest.entries → GuardsStay old new
guards_placed old new tables same = record {
  any = λ t. let x = any_member is_exclusive old.interest.entries t in let y = left x.0 x.1 in any_has is_exclusive new.interest.entries y.0 y.1 (ap is_exclusive y.2 ∙ x.2);
  each = λ x m may. let y = left x m in (y.0, y.1, ap (λ (z : Entry). z.number) y.2, ap (λ (z : Entry). z.instance) y.2, (λ i. may_guard (tables i) (y.2 i)) ∙ may);
} where
  left : (x : Entry) → Member x old.interest.entries → (y : Entry) × Member y new.interest.entries × (placed y ≡ placed x)
  left x m = member_of_map placed new.interest.entries (placed x) (subst (Member (placed x)) (sym same) (member_map placed x old.interest.entries m))

placed_each : (f : Entry → Entry) → ((x : Entry) → placed (f x) ≡ placed x) → (xs : List Entry) → map placed (map f xs) ≡ map placed xs
placed_each f kept [] = refl
placed_each f kept (x ∷ xs) = λ i. kept x i ∷ placed_each f kept xs i

placed_raised : (d : DescId) (bits : Mask) (n : ℕ) (x : Entry) → placed (raised_on d bits n x) ≡ placed x
placed_raised d bits n x = elim (is_on d x) as (λ b. placed (cond b (noted n bits.0 x) x) ≡ placed x) [ true ↦ refl | false ↦ refl ]

placed_there : (o : Option DescId) (bits : Mask) (n : ℕ) (x : Entry) → placed (raised_there o bits n x) ≡ placed x
placed_there None bits n x = refl
placed_there (Some d) bits n x = placed_raised d bits n x

placed_turns : (bits : DescId → Mask) (n : ℕ) (ids : List DescId) (xs : List Entry) → map placed (raised_each bits n ids xs) ≡ map placed xs
placed_turns bits n [] xs = refl
placed_turns bits n (id ∷ ids) xs = placed_turns bits n ids (map (raised_on id (bits id) n) xs) ∙ placed_each (raised_on id (bits id) n) (placed_raised id (bits id) n) xs

placed_where : (n : ℕ) (ls : List Loss) (xs : List Entry) → map placed (raised_where n ls xs) ≡ map placed xs
placed_where n [] xs = refl
placed_where n (l ∷ ls) xs = placed_where n ls (map (raised_on l.desc l.raised n) xs) ∙ placed_each (raised_on l.desc l.raised n) (placed_raised l.desc l.raised n) xs

-- so they do in what an event raises
pub placed_stirred : (raising : Raising) (v : Seen) (now n : ℕ) (old new : Registrations) → Stirs raising v now n old new → map placed new.entries ≡ map placed old.entries
placed_stirred Nowhere v now n old new h = ap (λ (r : Registrations). map placed r.entries) h
placed_stirred (Object desc raised) v now n old new h =
    let here = bits_of (at_end raised (side_of v.files (number_of v desc))) in
    let across = bits_of (at_end raised (opposite (side_of v.files (number_of v desc)))) in
    ap (map placed) h.entries
    ∙ (placed_each (raised_there h.other across n) (placed_there h.other across n) (map (raised_on desc here n) old.entries)
    ∙ placed_each (raised_on desc here n) (placed_raised desc here n) old.entries)
placed_stirred (Instance desc) v now n old new h = ap (map placed) h.0 ∙ placed_each (raised_on desc (bits_of IN) n) (placed_raised desc (bits_of IN) n) old.entries
placed_stirred Losses v now n old new h = ap (map placed) h.0 ∙ placed_where n v.losses old.entries
placed_stirred (Clock since) v now n old new h = ap (map placed) h.0 ∙ placed_turns (due_bits v since now) n (live_ids v.keys) old.entries

-- An epoll_ctl.
home_more : (o : Option DescId) (w : Walk) (i : ℕ) → is_among w.reached i ≡ true → is_among (with_home o w).reached i ≡ true
home_more o w i t = (reaches_home o w (with_home o w) refl).each i ∙ or_left (is_among w.reached i) (is_home o i) t

home_there : (d : DescId) (o : Option DescId) (w : Walk) → o ≡ Some d → is_among (with_home o w).reached d.0 ≡ true
home_there d o w is =
    (reaches_home o w (with_home o w) refl).each d.0
    ∙ or_right (is_among w.reached d.0) (is_home o d.0) (ap (λ (p : Option DescId). is_home p d.0) is ∙ same_nat d.0)

pub notes_same : (operation : Operation) (found : Option EntryId) (old new : Parts) → new.interest ≡ old.interest → (w : Walk) → NotesLost old new w.reached (with_home (deleted_home operation found old) w).reached
notes_same operation found old new same w =
    let o = deleted_home operation found old in
    notes_more old new w.reached w.reached (with_home o w).reached (home_more o w) (notes_none old new w.reached (stay_all old.interest new.interest (ap (λ (r : Registrations). r.entries) same)))

modified_number : (k : ℕ) (mask : Mask) (tag : ℕ) (x : Entry) → (modified k mask tag x).number ≡ x.number
modified_number k mask tag x = elim (x.number == k) as (λ b. (cond b (record x { mask = mask; tag = tag; armed = true; fresh = true }) x).number ≡ x.number) [ true ↦ refl | false ↦ refl ]

-- what a DEL takes
module _ (old new : Parts) (sound : IsSound old.interest) (id : EntryId) (entries : new.interest.entries ≡ filter (is_other (unwrap_or (entry_number old.interest id) 0)) old.interest.entries) where
  -- what is gone has the number that goes
  gone_is : (k : ℕ) → unwrap_or (entry_number old.interest id) 0 ≡ k → (x : Entry) → Member x old.interest.entries → numbered new.interest.entries x.number ≡ None → x.number ≡ k
  gone_is k is x m gone = elim (cases_Bool (is_other k x)) [
    | inl other ↦
        let left : Member x (filter (is_other k) old.interest.entries) = member_filter (is_other k) x old.interest.entries m other in
        let there : Member x new.interest.entries = subst (Member x) (sym (entries ∙ ap (λ (n : ℕ). filter (is_other n) old.interest.entries) is)) left in
        absurd (none_there _ gone (has_number new.interest.entries x x.number there refl))
    | inr same ↦ from_test x.number k (from_not_false (x.number == k) same)
  ]

  home_is : (o : Option ℕ) → entry_number old.interest id ≡ o → (x : Entry) → Member x old.interest.entries → numbered new.interest.entries x.number ≡ None → entry_under old.interest id ≡ Some x
  home_is None is x m gone =
      let above = all_member (λ (y : Entry). 0 < y.number) old.interest.entries x (All-from_recursion (λ (y : Entry). 0 < y.number) old.interest.entries (rises_above 0 old.interest.entries sound.rises)) m in
      let none = gone_is 0 (ap (λ (p : Option ℕ). unwrap_or p 0) is) x m gone in
      absurd (omega (arith, above, none))
  home_is (Some k) is x m gone =
      let number = gone_is k (ap (λ (p : Option ℕ). unwrap_or p 0) is) x m gone in
      let y = some_entry old.interest sound id k is in
      y.1 ∙ ap (λ (z : Entry). Some z) (one_member old.interest sound y.0 x (member_of old.interest id y.0 y.1) m (y.2 ∙ sym number))

  pub notes_deleted : (w : Walk) → NotesLost old new w.reached (with_home (deleted_home Delete (Some id) old) w).reached
  notes_deleted w = record {
    noted = λ guards x there may gone lives.
        let m = member_there old.interest.entries x there in
        let at = home_is (entry_number old.interest id) refl x m gone in
        let home : guard_home old.tables (entry_under old.interest id) ≡ Some x.instance = ap (guard_home old.tables) at ∙ ap (λ (b : Bool). if b then Some x.instance else None) may in
        home_there x.instance (deleted_home Delete (Some id) old) w (ap (λ (b : Bool). if b then guard_home old.tables (entry_under old.interest id) else None) guards ∙ home);
    still = home_more (deleted_home Delete (Some id) old) w;
  }

pub notes_changed : (operation : Operation) (found : Option EntryId) (named : Named) (args : Control) (old new : Parts) → IsSound old.interest → Changes operation found named args old.interest new.interest
    → (w : Walk) → NotesLost old new w.reached (with_home (deleted_home operation found old) w).reached
notes_changed Add None named args old new sound h w = notes_none old new w.reached (stay_more old.interest new.interest (next_entry old.interest named args ∷ []) h.0)
notes_changed Delete (Some id) named args old new sound h w = notes_deleted old new sound id h.0 w
notes_changed Modify (Some id) named args old new sound h w =
    let k = unwrap_or (entry_number old.interest id) 0 in
    notes_mapped (modified k args.mask args.tag) (modified_number k args.mask args.tag) old new h.0 w.reached
notes_changed Add (Some id) named args old new sound h w = absurd h
notes_changed Delete None named args old new sound h w = absurd h
notes_changed Modify None named args old new sound h w = absurd h

pub notes_controlled : (answer : Answer) (operation : Operation) (found : Option EntryId) (named : Named) (args : Control) (old new : Parts) → IsSound old.interest → ChangesIf answer operation found named args old.interest new.interest
    → (w : Walk) → NotesLost old new w.reached (with_home (deleted_home operation found old) w).reached
notes_controlled answer operation found named args old new sound h w = of (is_done answer) h where
  of : (b : Bool) → MatchBool b (Changes operation found named args old.interest new.interest) (new.interest ≡ old.interest) → NotesLost old new w.reached (with_home (deleted_home operation found old) w).reached
  of true changes = notes_changed operation found named args old new sound changes w
  of false same = notes_same operation found old new same w

-- A burial.

touched : (a b : Bool) → (not a && not b) ≡ false → (a ≡ true) ⊎ (b ≡ true)
touched true b h = inl refl
touched false true h = inr refl
touched false false h = absurd (false≢true (sym h))

module _ (n : ℕ) (old new : Parts) (burial : Burial n old.tables old.interest new.tables new.interest) (now : Sound new.tables) (linked : AreLinked old.tables old.interest) where
  abbrev v : Seen
  v = old.tables

  abbrev dead : List ℕ
  dead = map (λ (x : ℕ × Place). x.0) burial.buries.dead

  abbrev stays : KernelWatch → Bool
  stays x = is_untouched dead x

  abbrev shown : KernelWatch → KernelWatch
  shown x = freshened n (die_all (v.files, []) burial.buries.dead).1 x

  all_dead : dead ≡ v.dying
  all_dead = sym (append-nil dead) ∙ (ap (λ (ds : List ℕ). dead ++ ds) (sym burial.none) ∙ burial.buries.numbers)

  -- what no death touches is left
  untouched_left : (x : Entry) → Member x old.interest.entries → stays (watch_at v.keys x) ≡ true → IsSome (numbered new.interest.entries x.number)
  untouched_left x m t =
      let here = watch_at v.keys x in
      let stayed : Member here (filter stays (map (watch_at v.keys) old.interest.entries)) = member_filter stays here (map (watch_at v.keys) old.interest.entries) (member_map (watch_at v.keys) x old.interest.entries m) t in
      let there : Member (shown here) (map (watch_at new.tables.keys) new.interest.entries) = subst (Member (shown here)) (sym burial.buries.watches) (member_map shown here _ stayed) in
      let y = member_of_map (watch_at new.tables.keys) new.interest.entries (shown here) there in
      has_number new.interest.entries y.0 x.number y.1 (ap (λ (k : KernelWatch). k.number) y.2)

  -- what is left is none of the dead
  left_lives : (d : DescId) → IsSome (number_under new.tables d) → is_among dead (number_at v.keys d) ≡ true → ⊥
  left_lives d lives t =
      let at = under_key new.tables.keys d lives in
      let was : number_at v.keys d ≡ at.number = ap (λ (o : Option ℕ). unwrap_or o 0) (burial.buries.keys d at.number at.is) in
      let distinct : are_distinct dead ≡ true = ap are_distinct all_dead ∙ burial.sound.distinct in
      let none : place_of new.tables.files at.number ≡ None =
      ap (λ (f : Files). place_of f at.number) burial.buries.files
      ∙ (places_left v.files burial.buries.dead distinct burial.buries.placed at.number
      ∙ ap (λ (b : Bool). if b then None else place_of v.files at.number) (ap (is_among dead) (sym was) ∙ t)) in
      false≢true (sym (ap (λ (o : Option Place). is_some o) none) ∙ now.place d at.number at.is)

  module _ (dying : List DescId) (named : map (number_under v) dying ≡ map (λ d. Some d) v.dying) where
    -- a key of the dying
    key_of : (ds : List ℕ) (descs : List DescId) → map (number_under v) descs ≡ map (λ d. Some d) ds → (k : ℕ) → is_among ds k ≡ true → (d : DescId) × Member d descs × (number_under v d ≡ Some k)
    key_of [] descs e k t = absurd (false≢true t)
    key_of (d ∷ ds) [] e k t = absurd cc
    key_of (d ∷ ds) (desc ∷ descs) e k t = elim (or_cases (k == d) (is_among ds k) t) [
      | inl here ↦ (desc, inl refl, head_same _ _ _ _ e ∙ ap (λ (m : ℕ). Some m) (sym (from_test k d here)))
      | inr later ↦ let rest = key_of ds descs (tail_same _ _ _ _ e) k later in (rest.0, inr rest.1, rest.2)
    ]

    target_dies : (x : Entry) → Member x old.interest.entries → has_guards old.interest ≡ true → may_guard v x ≡ true → is_among dead (number_at v.keys x.desc) ≡ true → dying_homes old dying x.instance.0 ≡ true
    target_dies x m guards may t =
        let link = all_member (IsLinked v.keys) old.interest.entries x linked m in
        let key = key_of v.dying dying named (number_at v.keys x.desc) (ap (λ (ds : List ℕ). is_among ds (number_at v.keys x.desc)) (sym all_dead) ∙ t) in
        let own = under_key v.keys x.desc link.desc in
        let same : x.desc.0 ≡ key.0.0 = burial.sound.one x.desc key.0 own.number own.is (key.2 ∙ ap (λ (o : Option ℕ). Some (unwrap_or o 0)) own.is) in
        let on : (is_on key.0 x && may_guard v x && x.instance.0 == x.instance.0) ≡ true = (λ i. same_test x.desc.0 key.0.0 same i && may i && same_nat x.instance.0 i) in
        let home = any_has (λ y. is_on key.0 y && may_guard v y && y.instance.0 == x.instance.0) old.interest.entries x m on in
        (λ i. guards i && any_desc (λ desc. guard_homes v old.interest desc x.instance.0) dying key.0 key.1 home i)

    pub notes_buried : (was is : Walk) → Reaches (dying_homes old dying) was is → NotesLost old new was.reached is.reached
    notes_buried was is reaches = record {
      noted = λ guards x there may gone lives.
          let m = member_there old.interest.entries x there in
          let goes = touched _ _ (false_from_ne_true _ (λ t. none_there _ gone (untouched_left x m t))) in
          elim goes [
            | inl instance ↦ absurd (left_lives x.instance lives instance)
            | inr desc ↦ reaches.each x.instance.0 ∙ or_right (is_among was.reached x.instance.0) _ (target_dies x m guards may desc)
          ];
      still = λ i t. reaches.each i ∙ or_left (is_among was.reached i) _ t;
    }
