-- Whether an instance is ready depends on no registration of an instance to which it doesn't lead down.
use Rattle.std.proofs.Common.{◌≡◌, ◌∙◌, ◌==◌, ◌&&◌, ◌||◌, ◌++◌, ℕ, zero, suc, Bool, true, false, Contains, IsSome, List, [], ◌∷◌, None, Option, Some, ap, cond, filter, inl, inr, map, nat_lt, not, refl, subst, sym, unwrap_or}
use Rattle.std.specs.List.{AllByRecursion, find as first_where, list_any}
use Rattle.std.proofs.lemmas.Bool.{cases_Bool, false≢true}
use Rattle.ep_facts.proofs.NatFacts.{from_test}
use Rattle.ep_facts.proofs.OptionFacts.{some_same}
use Rattle.ep_base.specs.declared.ids.DescId.{DescId}
use Rattle.ep_base.specs.declared.ids.EntryId.{EntryId}
use Rattle.ep_base.specs.declared.ids.Fd.{Fd}
use Rattle.ep_base.specs.declared.mask.Mask.{Mask}
use Rattle.ep_interest.specs.Registrations.{IsSound, Registrations, has_key, is_other, modified}
use Rattle.ep_interest.specs.declared.entry.Entry.{Entry}
use Rattle.ep_law.proofs.ListLemmas.{all_member, any_member, member_filter, member_map}
use Rattle.ep_law.proofs.ReadinessLemmas.{and_same}
use Rattle.ep_law.specs.Laws.{Member}
use Rattle.ep_machine.specs.Bits.{ET, has_bit}
use Rattle.ep_machine.specs.Files.{object_of}
use Rattle.ep_machine.specs.Objects.{is_instance, plain}
use Rattle.ep_machine.specs.Watches.{is_legal}
use Rattle.ep_nest.proofs.ChainLemmas.{legal_from_short}
use Rattle.ep_nest.proofs.ElementLemmas.{Contains-cons, Contains-head}
use Rattle.ep_nest.proofs.LegalityLemmas.{short_from_is_legal}
use Rattle.ep_nest.specs.Chains.{LeadsBy}
use Rattle.ep_nest.specs.Links.{edges, ends_of}
use Rattle.ep_nest.specs.declared.link.Link.{Link}
use Rattle.ep_nest.specs.declared.link.Way.TheVariants.{Down}
use Rattle.ep_table.specs.Value.{Seen, Sound as SoundTables, number_under}
use Rattle.ep_view.specs.KernelView.{KernelWatch, ready_now, ready_within, shows}
use Rattle.ep_calls.specs.Climb.{AreNested, is_nested, is_nested_key, link_of}
use Rattle.ep_calls.specs.Control.{Changes, IsBelow, IsFound, TellsBelow, next_entry}
use Rattle.ep_calls.specs.Parts.{Parts}
use Rattle.ep_calls.specs.Readiness.{entry_bits, entry_shows, readiness, shown_over, watches_of}
use Rattle.ep_calls.specs.Stands.{AreLinked, IsLinked, number_at, watch_at}
use Rattle.ep_calls.specs.declared.control.Control.{Control}
use Rattle.ep_calls.specs.declared.control.Named.{Named}
use Rattle.ep_calls.specs.declared.control.Operation.{Operation}
use Rattle.ep_calls.specs.declared.control.Operation.TheVariants.{Add, Delete, Modify}
use Rattle.ep_calls.proofs.FindLemmas.{found_by_test, has_number}
use Rattle.ep_calls.proofs.KeyLemmas.{same_keys}
use Rattle.ep_calls.proofs.ReadinessLemmas.{shown_below}

pub contains : (xs : List (ℕ × ℕ)) (x : ℕ × ℕ) → Member x xs → Contains xs x
contains [] x m = absurd m
contains (y ∷ ys) x (inl e) = subst (λ (z : ℕ × ℕ). Contains (y ∷ ys) z) (sym e) (Contains-head y ys)
contains (y ∷ ys) x (inr m) = Contains-cons y ys x (contains ys x m)

pub any_both : (keys : List (Option ℕ)) (f g : KernelWatch → Bool) (xs : List Entry) → ((x : Entry) → Member x xs → f (watch_at keys x) ≡ g (watch_at keys x)) → list_any f (map (watch_at keys) xs) ≡ list_any g (map (watch_at keys) xs)
any_both keys f g [] h = refl
any_both keys f g (x ∷ xs) h = let one = h x (inl refl) in let rest = any_both keys f g xs (λ y m. h y (inr m)) in λ i. one i || rest i

-- what a registration shows depends on nothing but the instance that it watches
pub shows_same : (r q : ℕ → Bool) (v : Seen) (now : ℕ) (x : Entry) → (is_nested v x ≡ true → r (number_at v.keys x.desc) ≡ q (number_at v.keys x.desc)) → entry_shows r v now x ≡ entry_shows q v now x
shows_same r q v now x h =
    let below = r (number_at v.keys x.desc) in
    let same = sym (shown_below r v now below x (λ nested. refl)) ∙ shown_below q v now below x h in
    ap (λ (bits : ℕ). nat_lt 0 bits && (not (has_bit x.mask.0 ET) || x.fresh)) same

-- the link of a registration on an instance
pub link_there : (v : Seen) (r : Registrations) (graph : List Link) → AreNested v r graph → (x : Entry) → Member x r.entries → is_nested v x ≡ true → Contains (edges graph) (x.instance.0, x.desc.0)
link_there v r graph nested x m is =
    let links = member_map (link_of r) x (filter (is_nested v) r.entries) (member_filter (is_nested v) x r.entries m is) in
    let there = subst (λ (ls : List Link). Member (link_of r x) ls) (sym nested) links in
    contains (edges graph) (x.instance.0, x.desc.0) (member_map (ends_of Down) (link_of r x) graph there)

-- Registrations of one instance come, go or change.

-- what none of that instance passes passes among the others as before
abbrev pub OthersStay : List (Option ℕ) → DescId → List Entry → List Entry → Type 0
OthersStay keys o old new =
    (f : KernelWatch → Bool) → ((x : Entry) → x.instance.0 ≡ o.0 → f (watch_at keys x) ≡ false)
    → list_any f (map (watch_at keys) new) ≡ list_any f (map (watch_at keys) old)

others_added : (keys : List (Option ℕ)) (o : DescId) (xs : List Entry) (x : Entry) → x.instance.0 ≡ o.0 → OthersStay keys o xs (xs ++ x ∷ [])
others_added keys o [] x own f none = ap (λ (b : Bool). b || false) (none x own)
others_added keys o (y ∷ ys) x own f none = ap (λ (b : Bool). f (watch_at keys y) || b) (others_added keys o ys x own f none)

of_named : (named : Named) (fd : Fd) (x : Entry) → has_key named.instance fd named.desc x ≡ true → (x.instance.0 ≡ named.instance.0) × (x.desc.0 ≡ named.desc.0)
of_named named fd x h = with_ends (x.instance.0 == named.instance.0) _ (x.desc.0 == named.desc.0) refl refl h where
  with_ends : (a b c : Bool) → (x.instance.0 == named.instance.0) ≡ a → (x.desc.0 == named.desc.0) ≡ c → (a && b && c) ≡ true → (x.instance.0 ≡ named.instance.0) × (x.desc.0 ≡ named.desc.0)
  with_ends true true true i d t = (from_test _ _ i, from_test _ _ d)
  with_ends true true false i d t = absurd (false≢true t)
  with_ends true false c i d t = absurd (false≢true t)
  with_ends false b c i d t = absurd (false≢true t)

others_modified : (keys : List (Option ℕ)) (named : Named) (fd : Fd) (k : ℕ) (mask : Mask) (tag : ℕ) (xs : List Entry) → AllByRecursion (λ x. has_key named.instance fd named.desc x ≡ (x.number == k)) xs → OthersStay keys named.instance xs (map (modified k mask tag) xs)
others_modified keys named fd k mask tag [] h f none = refl
others_modified keys named fd k mask tag (x ∷ xs) h f none = let first = one (x.number == k) h.0 in let rest = others_modified keys named fd k mask tag xs h.1 f none in λ i. first i || rest i where
  with_mask : Entry
  with_mask = record x { mask = mask; tag = tag; armed = true; fresh = true }

  one : (b : Bool) → has_key named.instance fd named.desc x ≡ b → f (watch_at keys (cond b with_mask x)) ≡ f (watch_at keys x)
  one true is = let own = (of_named named fd x is).0 in none with_mask own ∙ sym (none x own)
  one false is = refl

-- where each that has the key is taken, none that has it is left
pub none_left : (p : Entry → Bool) (k : ℕ) (xs : List Entry) → AllByRecursion (λ x. p x ≡ (x.number == k)) xs → list_any p (filter (is_other k) xs) ≡ false
none_left p k [] h = refl
none_left p k (x ∷ xs) h = one (x.number == k) h.0 (none_left p k xs h.1) where
  one : (b : Bool) → p x ≡ b → list_any p (filter (is_other k) xs) ≡ false → list_any p (cond (not b) (x ∷ filter (is_other k) xs) (filter (is_other k) xs)) ≡ false
  one true is rest = rest
  one false is rest = ap (λ (b : Bool). b || list_any p (filter (is_other k) xs)) is ∙ rest

-- the registration that is found under a key shows what it shows, where its target is as ready as is told
pub shown_named : (v : Seen) (now : ℕ) (r : Registrations) (named : Named) (fd : Fd) (below : Bool) (x : Entry) → IsBelow below v now r named fd → list_any (has_key named.instance fd named.desc) r.entries ≡ true → first_where (has_key named.instance fd named.desc) r.entries ≡ Some x
    → shown_over below v now x ≡ entry_bits (readiness v now r) v now x
shown_named v now r named fd below x is_below there is =
    let y = found_by_test (has_key named.instance fd named.desc) r.entries there in
    let has : has_key named.instance fd named.desc x ≡ true = subst (λ (z : Entry). has_key named.instance fd named.desc z ≡ true) (some_same y.0 x (sym y.1 ∙ is)) y.2 in
    let at : number_at v.keys x.desc ≡ number_at v.keys named.desc = ap (λ (n : ℕ). number_at v.keys (record { 0 = n })) (of_named named fd x has).1 in
    shown_below (readiness v now r) v now below x (λ nested.
    let nest : is_nested_key v named.desc ≡ true = ap (λ (d : ℕ). is_instance (unwrap_or (object_of v.files d) plain)) (sym at) ∙ nested in is_below there nest ∙ ap (readiness v now r) (sym at))

-- Looking down from an instance that doesn't lead to the one whose registrations change.
module _ (v : Seen) (now : ℕ) (old new : Registrations) (graph : List Link) (o : DescId) (tables : SoundTables v) (linked : AreLinked v new) (nested : AreNested v new graph) (lives : IsSome (number_under v o)) (stay : OthersStay v.keys o old.entries new.entries) where
  abbrev ready_by : Registrations → ℕ → ℕ → Bool
  ready_by r levels = ready_within levels v.files now (watches_of v r)

  apart : (levels : ℕ) (i : DescId) → IsSome (number_under v i) → ((n : ℕ) → ¬ LeadsBy (edges graph) n i.0 o.0) → ready_by new levels (number_at v.keys i) ≡ ready_by old levels (number_at v.keys i)
  apart zero i there ends = refl
  apart (suc levels) i there ends =
      let e = number_at v.keys i in
      let before : KernelWatch → Bool = λ w. w.instance == e && shows (ready_by old levels) v.files now w in
      any_both v.keys (λ w. w.instance == e && shows (ready_by new levels) v.files now w) before new.entries (λ x m.
      let link = all_member (IsLinked v.keys) new.entries x linked m in
      and_same (number_at v.keys x.instance == e) (entry_shows (ready_by new levels) v now x) (entry_shows (ready_by old levels) v now x) (λ at.
      let home : x.instance.0 ≡ i.0 = from_test x.instance.0 i.0 (sym (same_keys v x.instance i tables link.instance there) ∙ at) in
      shows_same (ready_by new levels) (ready_by old levels) v now x (λ is.
      let down = subst (λ (j : ℕ). Contains (edges graph) (j, x.desc.0)) home (link_there v new graph nested x m is) in
      apart levels x.desc link.desc (λ n leads. ends (suc n) (x.desc.0, down, leads)))))
      ∙ stay before (λ x own.
      let other : (o.0 == i.0) ≡ false = elim (cases_Bool (o.0 == i.0)) [ inl t ↦ absurd (ends 0 (sym (from_test o.0 i.0 t))) | inr f ↦ f ] in
      let not_at : (number_at v.keys x.instance == e) ≡ false = ap (λ (j : ℕ). number_at v.keys (record { 0 = j }) == e) own ∙ (same_keys v o i tables lives there ∙ other) in
      ap (λ (b : Bool). b && shows (ready_by old levels) v.files now (watch_at v.keys x)) not_at)

  pub ready_apart : (i : DescId) → IsSome (number_under v i) → ((n : ℕ) → ¬ LeadsBy (edges graph) n i.0 o.0) → readiness v now new (number_at v.keys i) ≡ readiness v now old (number_at v.keys i)
  unfolding ready_now
  ready_apart i there ends = apart 5 i there ends

-- A call on a registration leaves its target as ready as it was.
module _ (v : Seen) (now : ℕ) (old new : Registrations) (graph : List Link) (named : Named) (fd : Fd) (below : Bool) (tables : SoundTables v) (linked : AreLinked v new) (nested : AreNested v new graph) (legal : is_legal (edges graph) ≡ true) (lives : IsSome (number_under v named.instance)) (target : IsSome (number_under v named.desc)) where
  abbrev ToldOf : Registrations → Type 0
  ToldOf r = is_nested_key v named.desc ≡ true → below ≡ readiness v now r (number_at v.keys named.desc)

  stays : OthersStay v.keys named.instance old.entries new.entries → ToldOf old → IsBelow below v now new named fd
  stays stay told there is =
      let x = any_member (has_key named.instance fd named.desc) new.entries there in
      let own = of_named named fd x.0 x.2 in
      let nest : is_nested v x.0 ≡ true = ap (λ (n : ℕ). is_nested_key v (record { 0 = n })) own.1 ∙ is in
      let link = link_there v new graph nested x.0 x.1 nest in
      let down : Contains (edges graph) (named.instance.0, named.desc.0) = subst (λ (e : ℕ × ℕ). Contains (edges graph) e) (λ i. (own.0 i, own.1 i)) link in
      let no_loop = (legal_from_short (edges graph) (short_from_is_legal (edges graph) legal)).no_loop in
      told is ∙ sym (ready_apart v now old new graph named.instance tables linked nested lives stay named.desc target (λ n leads. no_loop named.instance.0 (n, (named.desc.0, down, leads))))

  none_there : list_any (has_key named.instance fd named.desc) new.entries ≡ false → IsBelow below v now new named fd
  none_there none there is = absurd (false≢true (sym none ∙ there))

-- whether the target is ready is told of the registrations as they are after the call
pub told_below : (p : Parts) (new : Registrations) (graph : List Link) (named : Named) (args : Control) (below : Bool) → SoundTables p.tables → IsSound p.interest → AreLinked p.tables new → AreNested p.tables new graph → is_legal (edges graph) ≡ true → IsSome (number_under p.tables named.instance) → IsSome (number_under p.tables named.desc)
    → (operation : Operation) (found : Option EntryId) → IsFound p.interest named args.fd found → Changes operation found named args p.interest new → TellsBelow operation below p named.desc → IsBelow below p.tables p.clock new named args.fd
told_below p new graph named args below tables sound linked nested legal lives target Add None found changes told =
    let stay = subst (λ (xs : List Entry). OthersStay p.tables.keys named.instance p.interest.entries xs) (sym changes.0) (others_added p.tables.keys named.instance p.interest.entries (next_entry p.interest named args) refl) in
    stays p.tables p.clock p.interest new graph named args.fd below tables linked nested legal lives target stay told
told_below p new graph named args below tables sound linked nested legal lives target Delete (Some id) found changes told =
    let number = has_number p.interest named.instance args.fd named.desc _ sound (sym found.there) found.entry in
    none_there p.tables p.clock p.interest new graph named args.fd below tables linked nested legal lives target
    (ap (list_any (has_key named.instance args.fd named.desc)) changes.0 ∙ none_left (has_key named.instance args.fd named.desc) _ p.interest.entries number)
told_below p new graph named args below tables sound linked nested legal lives target Modify (Some id) found changes told =
    let number = has_number p.interest named.instance args.fd named.desc _ sound (sym found.there) found.entry in
    let stay = subst (λ (xs : List Entry). OthersStay p.tables.keys named.instance p.interest.entries xs) (sym changes.0) (others_modified p.tables.keys named args.fd _ args.mask args.tag p.interest.entries number) in
    stays p.tables p.clock p.interest new graph named args.fd below tables linked nested legal lives target stay told
told_below p new graph named args below tables sound linked nested legal lives target Add (Some id) found changes told = absurd changes
told_below p new graph named args below tables sound linked nested legal lives target Delete None found changes told = absurd changes
told_below p new graph named args below tables sound linked nested legal lives target Modify None found changes told = absurd changes
