-- Room for what is asked of exclusive registrations stays while registrations stay, or go.
use Rattle.std.proofs.Common.{◌≡◌, ◌<◌, ◌≤◌, ◌∙◌, ◌==◌, ◌&&◌, ℕ, Bool, true, false, IsSome, List, [], ◌∷◌, None, Option, Some, ap, arith, cond, filter, inl, inr, map, refl, slice_index_or, subst, sym}
use Rattle.std.specs.Option.{option_map}
use Rattle.std.proofs.lemmas.Bool.{false≢true}
use Rattle.ep_facts.proofs.NatFacts.{from_test, same_test}
use Rattle.ep_facts.proofs.BoolFacts.{or_cases, second_of_and}
use Rattle.ep_facts.proofs.OptionFacts.{none_is_some}
use Rattle.ep_base.specs.declared.ids.DescId.{DescId}
use Rattle.ep_base.specs.declared.ids.EntryId.{EntryId}
use Rattle.ep_base.specs.declared.mask.Mask.{Mask}
use Rattle.ep_calls.proofs.EntryLemmas.{holds_under, key_of, member_of, number_of, own}
use Rattle.ep_calls.proofs.KeyLemmas.{number_kept, same_keys, some_kept}
use Rattle.ep_calls.proofs.MappedLemmas.{under_mapped}
use Rattle.ep_calls.proofs.OtherEndLemmas.{noted}
use Rattle.ep_calls.specs.Burial.{Burial, is_untouched}
use Rattle.ep_calls.specs.Climb.{Rises, risen}
use Rattle.ep_calls.specs.Ids.{KeepsIds}
use Rattle.ep_calls.specs.Parts.{Parts}
use Rattle.ep_calls.specs.Raising.{Stirs, bits_of, due_bits, raised_each, raised_there, raised_where}
use Rattle.ep_calls.specs.Stands.{AreLinked, IsLinked, number_at, watch_at}
use Rattle.ep_calls.specs.declared.control.Operation.{Operation}
use Rattle.ep_calls.specs.declared.control.Operation.TheVariants.{Add, Delete, Modify}
use Rattle.ep_calls.specs.declared.raising.Raising.{Raising}
use Rattle.ep_calls.specs.declared.raising.Raising.TheVariants.{Clock, Instance, Losses, Nowhere, Object}
use Rattle.ep_choice.proofs.LosingLemmas.{is_home, reaches_home}
use Rattle.ep_choice.specs.Lost.{deleted_home, dying_homes, guard_home, guard_homes, has_guards, may_guard, with_home}
use Rattle.ep_choice.specs.Room.{HaveRoom, Suits, Widens}
use Rattle.ep_choice.specs.declared.choice.Choice.{Choice}
use Rattle.ep_climb.specs.Reach.{AreRoomy, Reaches}
use Rattle.ep_interest.specs.Exclusive.{is_exclusive}
use Rattle.ep_interest.specs.Registrations.{IsSound, Registrations, entry_found, entry_under, is_on, number_under as entry_number, raised_on}
use Rattle.ep_interest.specs.declared.entry.Entry.{Entry}
use Rattle.ep_law.proofs.GraphLemmas.{member_of_map}
use Rattle.ep_law.proofs.ListLemmas.{any_member, filtered_member, member_map}
use Rattle.ep_law.specs.Laws.{Member}
use Rattle.ep_machine.specs.Bits.{EXCLUSIVE, IN, at_end, has_bit}
use Rattle.ep_machine.specs.Deaths.{die_all}
use Rattle.ep_machine.specs.Files.{Place, side_of}
use Rattle.ep_machine.specs.Lists.{is_among}
use Rattle.ep_walk.specs.Walk.{Walk}
use Rattle.ep_table.specs.Closing.{opposite}
use Rattle.ep_table.specs.Live.{live_ids}
use Rattle.ep_table.specs.Value.{Seen, number_of as desc_number_of}
use Rattle.ep_table.specs.declared.words.Loss.{Loss}
use Rattle.ep_view.specs.KernelView.{KernelWatch, freshened, reached_now}

-- a registration was there under its key, of the same two and with the same mask
pub record WasIn (r : Registrations) (id : EntryId) (x : Entry) : Type 0 where
  pub was : Entry
  pub there : entry_under r id ≡ Some was
  pub instance : was.instance.0 ≡ x.instance.0
  pub desc : was.desc.0 ≡ x.desc.0
  pub mask : was.mask.0 ≡ x.mask.0

-- each was
abbrev pub WereIn : Registrations → Registrations → Type 0
WereIn old new = (id : EntryId) (x : Entry) → entry_under new id ≡ Some x → WasIn old id x

pub were_same : (old new : Registrations) → new.entries ≡ old.entries → new.keys ≡ old.keys → WereIn old new
were_same old new entries keys id x at =
    record { was = x; there = (λ i. entry_found (sym entries i) (slice_index_or (sym keys i) id.0 None)) ∙ at; instance = refl; desc = refl; mask = refl }

pub were_both : (r s t : Registrations) → WereIn r s → WereIn s t → WereIn r t
were_both r s t a b id x at =
    let mid = b id x at in
    let was = a id mid.was mid.there in
    record { was = was.was; there = was.there; instance = was.instance ∙ mid.instance; desc = was.desc ∙ mid.desc; mask = was.mask ∙ mid.mask }

-- a registration that is changed, and keeps these
pub record Keeps (f : Entry → Entry) : Type 0 where
  pub number : (x : Entry) → (f x).number ≡ x.number
  pub instance : (x : Entry) → (f x).instance.0 ≡ x.instance.0
  pub desc : (x : Entry) → (f x).desc.0 ≡ x.desc.0
  pub mask : (x : Entry) → (f x).mask.0 ≡ x.mask.0

some_mapped : (f : Entry → Entry) (o : Option Entry) (x : Entry) → option_map f o ≡ Some x → (w : Entry) × (o ≡ Some w) × (f w ≡ x)
some_mapped f None x h = absurd (let e : None ≡ Some x = h in cc)
some_mapped f (Some w) x h = (w, refl, (let e : Some (f w) ≡ Some x = h in cc))

pub were_mapped : (f : Entry → Entry) → Keeps f → (old new : Registrations) → new.entries ≡ map f old.entries → new.keys ≡ old.keys → WereIn old new
were_mapped f kept old new entries keys id x at =
    let w = some_mapped f (entry_under old id) x (sym (under_mapped f kept.number old new entries keys id) ∙ at) in
    record {
      was = w.0;
      there = w.1;
      instance = sym (kept.instance w.0) ∙ ap (λ (y : Entry). y.instance.0) w.2;
      desc = sym (kept.desc w.0) ∙ ap (λ (y : Entry). y.desc.0) w.2;
      mask = sym (kept.mask w.0) ∙ ap (λ (y : Entry). y.mask.0) w.2;
    }

-- what an event raises
pub keeps_raised : (d : DescId) (bits : Mask) (n : ℕ) → Keeps (raised_on d bits n)
keeps_raised d bits n = record {
  number = λ x. elim (is_on d x) as (λ b. (cond b (noted n bits.0 x) x).number ≡ x.number) [ true ↦ refl | false ↦ refl ];
  instance = λ x. elim (is_on d x) as (λ b. (cond b (noted n bits.0 x) x).instance.0 ≡ x.instance.0) [ true ↦ refl | false ↦ refl ];
  desc = λ x. elim (is_on d x) as (λ b. (cond b (noted n bits.0 x) x).desc.0 ≡ x.desc.0) [ true ↦ refl | false ↦ refl ];
  mask = λ x. elim (is_on d x) as (λ b. (cond b (noted n bits.0 x) x).mask.0 ≡ x.mask.0) [ true ↦ refl | false ↦ refl ];
}

were_there : (o : Option DescId) (bits : Mask) (n : ℕ) (old new : Registrations) → new.entries ≡ map (raised_there o bits n) old.entries → new.keys ≡ old.keys → WereIn old new
were_there None bits n old new entries keys = were_mapped (λ x. x) (record { number = λ x. refl; instance = λ x. refl; desc = λ x. refl; mask = λ x. refl }) old new entries keys
were_there (Some d) bits n old new entries keys = were_mapped (raised_on d bits n) (keeps_raised d bits n) old new entries keys

abbrev raised_once : DescId → Mask → ℕ → Registrations → Registrations
raised_once d bits n r = record r { entries = map (raised_on d bits n) r.entries }

were_raised : (d : DescId) (bits : Mask) (n : ℕ) (r : Registrations) → WereIn r (raised_once d bits n r)
were_raised d bits n r = were_mapped (raised_on d bits n) (keeps_raised d bits n) r (raised_once d bits n r) refl refl

were_turns : (bits : DescId → Mask) (n : ℕ) (ids : List DescId) (old new : Registrations) → new.entries ≡ raised_each bits n ids old.entries → new.keys ≡ old.keys → WereIn old new
were_turns bits n [] old new entries keys = were_same old new entries keys
were_turns bits n (id ∷ ids) old new entries keys =
    let mid = raised_once id (bits id) n old in
    were_both old mid new (were_raised id (bits id) n old) (were_turns bits n ids mid new entries keys)

were_where : (n : ℕ) (ls : List Loss) (old new : Registrations) → new.entries ≡ raised_where n ls old.entries → new.keys ≡ old.keys → WereIn old new
were_where n [] old new entries keys = were_same old new entries keys
were_where n (l ∷ ls) old new entries keys =
    let mid = raised_once l.desc l.raised n old in
    were_both old mid new (were_raised l.desc l.raised n old) (were_where n ls mid new entries keys)

pub were_stirred : (raising : Raising) (v : Seen) (now n : ℕ) (old new : Registrations) → Stirs raising v now n old new → WereIn old new
were_stirred Nowhere v now n old new h = were_same old new (ap (λ (r : Registrations). r.entries) h) (ap (λ (r : Registrations). r.keys) h)
were_stirred (Object desc raised) v now n old new h =
    let here = bits_of (at_end raised (side_of v.files (desc_number_of v desc))) in
    let across = bits_of (at_end raised (opposite (side_of v.files (desc_number_of v desc)))) in
    let mid = raised_once desc here n old in
    were_both old mid new (were_raised desc here n old) (were_there h.other across n mid new h.entries h.keys)
were_stirred (Instance desc) v now n old new h = were_mapped (raised_on desc (bits_of IN) n) (keeps_raised desc (bits_of IN) n) old new h.0 h.2
were_stirred Losses v now n old new h = were_where n v.losses old new h.0 h.2
were_stirred (Clock since) v now n old new h = were_turns (due_bits v since now) n (live_ids v.keys) old new h.0 h.2

-- and what climbs
pub were_risen : (n : ℕ) (v : Seen) (old new : Registrations) → Rises n v old new → new.keys ≡ old.keys → WereIn old new
were_risen n v old new rises keys =
    were_mapped (risen (reached_now v.files n (map (watch_at v.keys) old.entries)) v) (record { number = λ x. refl; instance = λ x. refl; desc = λ x. refl; mask = λ x. refl }) old new rises.entries keys

-- What no death takes.

module _ (n : ℕ) (v w : Seen) (r q : Registrations) (burial : Burial n v r w q) (ids : KeepsIds r q) (was : IsSound r) (linked : AreLinked v r) where
  -- keys are what their numbers say
  one_key : (a b : DescId) → IsSome (slice_index_or v.keys a.0 None) → IsSome (slice_index_or w.keys b.0 None) → number_at v.keys a ≡ number_at w.keys b → a.0 ≡ b.0
  one_key a b la lb e =
      let keeps = burial.buries.keys in
      from_test a.0 b.0 (sym (same_keys v a b burial.sound la (some_kept w v b keeps lb)) ∙ same_test _ _ (e ∙ sym (number_kept w v b keeps lb)))

  pub were_buried : WereIn r q
  were_buried id y at =
      let stays = is_untouched (map (λ (x : ℕ × Place). x.0) burial.buries.dead) in
      let shown = freshened n (die_all (v.files, []) burial.buries.dead).1 in
      let watched = map (watch_at v.keys) r.entries in
      let m : Member (watch_at w.keys y) (map shown (filter stays watched)) = subst (Member (watch_at w.keys y)) burial.buries.watches (member_map (watch_at w.keys) y q.entries (member_of q id y at)) in
      let u = member_of_map shown (filter stays watched) (watch_at w.keys y) m in
      let z = member_of_map (watch_at v.keys) r.entries u.0 (filtered_member stays watched u.0 u.1) in
      let x = z.0 in
      let number : x.number ≡ y.number = ap (λ (k : KernelWatch). k.number) z.2 ∙ ap (λ (k : KernelWatch). k.number) u.2 in
      let before : entry_number r id ≡ Some y.number = elim (ids id) [ inl none ↦ absurd (none_is_some y.number _ none (number_of q id y at)) | inr same ↦ sym same ∙ number_of q id y at ] in
      let there : entry_under r id ≡ Some x = ap (entry_found r.entries) (before ∙ ap (λ (k : ℕ). Some k) (sym number)) ∙ own r was x z.1 in
      let old = holds_under (IsLinked v.keys) r id x linked there in
      let new = holds_under (IsLinked w.keys) q id y burial.buries.linked at in
      record {
        was = x;
        there = there;
        instance = one_key x.instance y.instance old.instance new.instance (ap (λ (k : KernelWatch). k.instance) z.2 ∙ ap (λ (k : KernelWatch). k.instance) u.2);
        desc = one_key x.desc y.desc old.desc new.desc (ap (λ (k : KernelWatch). k.target) z.2 ∙ ap (λ (k : KernelWatch). k.target) u.2);
        mask = ap (λ (k : KernelWatch). k.mask) z.2 ∙ ap (λ (k : KernelWatch). k.mask) u.2;
      }

-- Room for all of them.
is_exclusive_of : (x y : Entry) → x.mask.0 ≡ y.mask.0 → is_exclusive y ≡ true → is_exclusive x ≡ true
is_exclusive_of x y same t = subst (λ (m : ℕ). has_bit m EXCLUSIVE ≡ true) (sym same) t

pub suits_left : (old new : Registrations) (c e : Choice) → WereIn old new → e.candidates.keys.room ≡ c.candidates.keys.room → e.targets.room ≡ c.targets.room → e.lost.room ≡ c.lost.room → Suits old c → Suits new e
suits_left old new c e were candidates targets lost h = record {
  candidates = λ id x at t. let w = were id x at in subst (λ (k : ℕ). id.0 < k) (sym candidates) (h.candidates id w.was w.there (is_exclusive_of w.was x w.mask t));
  targets = λ id x at t. let w = were id x at in let lt = h.targets id w.was w.there (is_exclusive_of w.was x w.mask t) in let same = w.desc in omega (arith, lt, same, targets);
  lost = λ id x at. let w = were id x at in let lt = h.lost id w.was w.there in let same = w.instance in omega (arith, lt, same, lost);
}

-- once there is more room
pub suits_widened : (r : Registrations) (c e : Choice) → Widens c e → Suits r c → Suits r e
suits_widened r c e w h = record {
  candidates = λ id x at t. let lt = h.candidates id x at t in let le = w.candidates in omega (arith, lt, le);
  targets = λ id x at t. let lt = h.targets id x at t in let le = w.targets in omega (arith, lt, le);
  lost = λ id x at. let lt = h.lost id x at in let le = w.lost in omega (arith, lt, le);
}

-- Room for what was lost.
pub room_for : (ks ls : List ℕ) (w u : Walk) → ls ≡ ks → w.room ≤ u.room → HaveRoom ks w → HaveRoom ls u
room_for ks ls w u same more h i t = let lt = h i (ap (λ (xs : List ℕ). is_among xs i) (sym same) ∙ t) in omega (arith, lt, more)

-- after a DEL
pub room_deleted : (operation : Operation) (found : Option EntryId) (p : Parts) (w u : Walk) → AreRoomy p.interest u → HaveRoom w.reached u → HaveRoom (with_home (deleted_home operation found p) w).reached u
room_deleted operation found p w u roomy h i t =
    elim (or_cases (is_among w.reached i) (is_home o i) (sym ((reaches_home o w (with_home o w) refl).each i) ∙ t)) [ inl before ↦ h i before | inr home ↦ at operation found home ] where
      o : Option DescId
      o = deleted_home operation found p

      under : (id : EntryId) (x : Option Entry) → entry_under p.interest id ≡ x → is_home (guard_home p.tables x) i ≡ true → i < u.room
      under id None is home = absurd (false≢true home)
      under id (Some x) is home = of (may_guard p.tables x) home where
        of : (b : Bool) → is_home (cond b (Some x.instance) None) i ≡ true → i < u.room
        of true t = subst (λ (k : ℕ). k < u.room) (from_test x.instance.0 i t) (roomy id x is)
        of false t = absurd (false≢true t)

      at : (operation : Operation) (found : Option EntryId) → is_home (deleted_home operation found p) i ≡ true → i < u.room
      at Delete (Some id) home = if_any (has_guards p.interest) home where
        if_any : (b : Bool) → is_home (cond b (guard_home p.tables (entry_under p.interest id)) None) i ≡ true → i < u.room
        if_any true t = under id (entry_under p.interest id) refl t
        if_any false t = absurd (false≢true t)
      at Delete None home = absurd (false≢true home)
      at Add found home = absurd (false≢true home)
      at Modify found home = absurd (false≢true home)

-- and after deaths
pub room_dying : (p : Parts) (dying : List DescId) (was is u : Walk) → IsSound p.interest → AreRoomy p.interest u → Reaches (dying_homes p dying) was is → HaveRoom was.reached u → HaveRoom is.reached u
room_dying p dying was is u sound roomy reaches h i t =
    elim (or_cases (is_among was.reached i) (dying_homes p dying i) (sym (reaches.each i) ∙ t)) [
      | inl before ↦ h i before
      | inr home ↦
          let d = any_member (λ desc. guard_homes p.tables p.interest desc i) dying (second_of_and (has_guards p.interest) _ home) in
          let x = any_member (λ x. is_on d.0 x && may_guard p.tables x && x.instance.0 == i) p.interest.entries d.2 in
          let key = key_of p.interest sound x.0 x.1 in
          subst (λ (k : ℕ). k < u.room) (from_test x.0.instance.0 i (second_of_and _ _ x.2)) (roomy key.0 x.0 key.1)
    ]
