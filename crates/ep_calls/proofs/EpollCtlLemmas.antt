-- epoll_ctl: its refusals in three parts, and what it does.
use Rattle.std.proofs.Common.{◌≡◌, ◌==◌, ◌&&◌, ◌||◌, ◌+◌, ◌++◌, ℕ, ℤ, pos, negsuc, true, false, Bool, List, [], ◌∷◌, Option, Some, None, IsSome, All, MatchBool, cond, filter, if◌then◌else◌, not, length, map, nat_le, unwrap_or, refl, ap, sym, ◌∙◌, subst}
use Rattle.std.proofs.lemmas.Bool.{false≢true}
use Rattle.std.proofs.lemmas.Option.{none-some}
use Rattle.ep_base.specs.Limits.{Limits}
use Rattle.ep_base.specs.declared.errno.Errno.{Errno}
use Rattle.ep_base.specs.declared.errno.Errno.TheVariants.{Eexist, Einval, Eloop, Enoent, Enospc}
use Rattle.ep_machine.specs.Bits.{EXCLUSIVE, exclusive_bits, has_bit, has_only}
use Rattle.ep_machine.specs.Effect.{first}
use Rattle.ep_machine.specs.Files.{Files, named_by, object_of, object_under}
use Rattle.ep_machine.specs.Objects.{is_instance, plain}
use Rattle.ep_nest.specs.declared.link.Link.{Link}
use Rattle.ep_calls.specs.Climb.{AreNested, is_nested_key}
use Rattle.ep_calls.proofs.GraphLemmas.{legal_both}
use Rattle.ep_machine.specs.Refusal.{ctl_refusals}
use Rattle.ep_machine.specs.State.{Change, State, Waiter}
use Rattle.ep_machine.specs.Watches.{is_add, is_del, is_exclusive_there, is_legal, is_mod, is_there, links, number_in}
use Rattle.std.specs.List.{AllByRecursion, list_any}
use Rattle.ep_base.specs.declared.answer.Answer.{Answer}
use Rattle.ep_base.specs.declared.answer.Answer.TheVariants.{Done, Refused}
use Rattle.ep_machine.specs.Files.{under}
use Rattle.ep_machine.specs.Step.{call_change}
use Rattle.ep_machine.specs.Watches.{add, ctl, delete, has_key as has_numbers, looked_at, modify, new_watch, with_watch}
use Rattle.std.proofs.lemmas.List.{map-append}
use Rattle.std.proofs.lemmas.List.Elements.{All-append, All-cons, All-filter, All-nil}
use Rattle.ep_view.specs.KernelView.{is_at, kernel_modified, kernel_watch}
use Rattle.ep_calls.specs.Control.{Alters, Enters, Names, code_of, control_call, is_deep_at, is_done, is_exclusive_at, is_refused_op, raising_of_ctl, naming_refusals, room_refusals}
use Rattle.ep_calls.specs.Moves.{Goes}
use Rattle.ep_interest.specs.Registrations.{Registrations, RisesFrom, has_key, is_other, modified, new_entry}
use Rattle.ep_calls.specs.Stands.{AreLinked, IsLinked, Stands, number_at, watch_at}
use Rattle.ep_table.specs.Value.{Seen, Sound as SoundTables}
use Rattle.ep_calls.specs.declared.control.Control.{Control}
use Rattle.ep_calls.specs.declared.control.Named.{Named}
use Rattle.ep_calls.specs.declared.control.Operation.{Operation}
use Rattle.ep_calls.specs.declared.control.Operation.TheVariants.{Add, Delete, Modify}
use Rattle.ep_interest.specs.declared.entry.Entry.{Entry}
use Rattle.ep_calls.proofs.OutcomeLemmas.{goes_made, goes_refused, raises_made, raises_refused}
use Rattle.ep_calls.proofs.AdditionRaiseLemmas.{has_own, keyed_last, none_other, raises_looked}
use Rattle.ep_machine.specs.Spread.{raised_of}
use Rattle.ep_machine.specs.State.{Watch}
use Rattle.ep_calls.specs.Raising.{Raises, raised_bits}
use Rattle.ep_calls.specs.Readiness.{entry_shows, readiness}
use Rattle.ep_calls.specs.declared.raising.Raising.{Raising}
use Rattle.ep_calls.specs.declared.raising.Raising.TheVariants.{Instance, Nowhere}
use Rattle.ep_view.proofs.KernelViewLemmas.{kept_filter}
use Rattle.ep_calls.proofs.FindLemmas.{all_modified, exclusive_numbered, changed, linked_modified, without}
use Rattle.ep_calls.proofs.RegistrationLemmas.{count_is, exclusive_there_is, there_is}

-- of two lists of tests, the second is asked where nothing of the first holds
pub first_some : (xs ys : List (Bool × Errno)) (e : Errno) → first xs ≡ Some e → first (xs ++ ys) ≡ Some e
first_some [] ys e h = absurd (none-some e h)
first_some ((true, a) ∷ xs) ys e h = h
first_some ((false, a) ∷ xs) ys e h = first_some xs ys e h

pub first_none : (xs ys : List (Bool × Errno)) → first xs ≡ None → first (xs ++ ys) ≡ first ys
first_none [] ys h = refl
first_none ((true, a) ∷ xs) ys h = absurd (none-some a (sym h))
first_none ((false, a) ∷ xs) ys h = first_none xs ys h

-- the tests of the operation and of the mask
abbrev op_refusals : Bool → Bool → Bool → Bool → Bool → List (Bool × Errno) → List (Bool × Errno)
op_refusals a d m x y rest = (not (a || d || m), Einval) ∷ (a && x && y, Einval) ∷ (m && x, Einval) ∷ rest

refused_op : (a d m x y : Bool) (rest : List (Bool × Errno)) → (if m then x else if a then x && y else not d) ≡ true → first (op_refusals a d m x y rest) ≡ Some Einval
refused_op true d true true true rest h = refl
refused_op true d true true false rest h = refl
refused_op false true true true y rest h = refl
refused_op false false true true y rest h = refl
refused_op a d true false y rest h = cc
refused_op true d false true true rest h = refl
refused_op true d false true false rest h = cc
refused_op true d false false y rest h = cc
refused_op false false false x y rest h = refl
refused_op false true false x y rest h = cc

accepted_op : (a d m x y : Bool) (rest : List (Bool × Errno)) → (if m then x else if a then x && y else not d) ≡ false → first (op_refusals a d m x y rest) ≡ first rest
accepted_op a d true true y rest h = cc
accepted_op true d true false y rest h = refl
accepted_op false true true false y rest h = refl
accepted_op false false true false y rest h = refl
accepted_op true d false true true rest h = cc
accepted_op true d false true false rest h = refl
accepted_op true d false false y rest h = refl
accepted_op false true false x y rest h = refl
accepted_op false false false x y rest h = cc

-- what the tests of the names leave
abbrev after_names : Limits → State → ℕ → ℤ → ℤ → ℤ → ℕ → List (Bool × Errno)
after_names limits s p epfd op fd mask = op_refusals (is_add op) (is_del op) (is_mod op) (has_bit mask EXCLUSIVE) (is_instance (object_under s.files p fd) || not (has_only mask exclusive_bits)) (
    (not (is_add op) && not (is_there s (named_by s.files p epfd) (number_in fd) (named_by s.files p fd)), Enoent)
    ∷ (is_add op && is_there s (named_by s.files p epfd) (number_in fd) (named_by s.files p fd), Eexist)
    ∷ (is_mod op && is_exclusive_there s (named_by s.files p epfd) (number_in fd) (named_by s.files p fd), Einval)
    ∷ (is_add op && is_instance (object_under s.files p fd) && not (is_legal ((named_by s.files p epfd, named_by s.files p fd) ∷ links s)), Eloop)
    ∷ (is_add op && nat_le limits.watches (length s.watches), Enospc) ∷ [])

module _ (limits : Limits) (s : State) (p : ℕ) (epfd op fd : ℤ) (mask : ℕ) where
  pub refused_name : (e : Errno) → first (naming_refusals s.files p epfd fd) ≡ Some e → first (ctl_refusals limits s p epfd op fd mask) ≡ Some e
  refused_name e h = first_some (naming_refusals s.files p epfd fd) (after_names limits s p epfd op fd mask) e h

  pub refused_mask : first (naming_refusals s.files p epfd fd) ≡ None → is_refused_op (is_instance (object_under s.files p fd)) op mask ≡ true → first (ctl_refusals limits s p epfd op fd mask) ≡ Some Einval
  refused_mask h i =
      first_none (naming_refusals s.files p epfd fd) (after_names limits s p epfd op fd mask) h
      ∙ refused_op (is_add op) (is_del op) (is_mod op) (has_bit mask EXCLUSIVE) (is_instance (object_under s.files p fd) || not (has_only mask exclusive_bits)) _ i

  -- the graph of instances would not be legal
  abbrev pub is_deep : Bool
  is_deep = is_instance (object_under s.files p fd) && not (is_legal ((named_by s.files p epfd, named_by s.files p fd) ∷ links s))

  room_left : (a t m g i l w : Bool) → first ((not a && not t, Enoent) ∷ (a && t, Eexist) ∷ (m && g, Einval) ∷ (a && i && not l, Eloop) ∷ (a && w, Enospc) ∷ []) ≡ first ((not a && not t, Enoent) ∷ (a && t, Eexist) ∷ (m && g, Einval) ∷ (a && (i && not l), Eloop) ∷ (a && w, Enospc) ∷ [])
  room_left true t m g i l w = refl
  room_left false t m g i l w = refl

  pub refused_room : first (naming_refusals s.files p epfd fd) ≡ None → is_refused_op (is_instance (object_under s.files p fd)) op mask ≡ false
      → first (ctl_refusals limits s p epfd op fd mask) ≡ first (room_refusals (is_add op) (is_mod op) (is_there s (named_by s.files p epfd) (number_in fd) (named_by s.files p fd)) (is_exclusive_there s (named_by s.files p epfd) (number_in fd) (named_by s.files p fd)) is_deep limits.watches (length s.watches))
  refused_room h i =
      first_none (naming_refusals s.files p epfd fd) (after_names limits s p epfd op fd mask) h
      ∙ (accepted_op (is_add op) (is_del op) (is_mod op) (has_bit mask EXCLUSIVE) (is_instance (object_under s.files p fd) || not (has_only mask exclusive_bits)) _ i
      ∙ room_left (is_add op) _ (is_mod op) _ (is_instance (object_under s.files p fd)) (is_legal ((named_by s.files p epfd, named_by s.files p fd) ∷ links s)) _)

-- a number that names something is not negative
descriptor_of : (files : Files) (p : ℕ) (fd : ℤ) → IsSome (under files p fd) → fd ≡ pos (number_in fd)
descriptor_of files p (pos k) h = refl
descriptor_of files p (negsuc k) h = absurd (false≢true h)

module _ (v : Seen) (r : Registrations) (p : ℕ) (args : Control) (named : Named) (names : Names v p args.epfd.0 args.fd.0 named) (linked : AreLinked v r) where
  pub descriptor : args.fd.0 ≡ pos (number_in args.fd.0)
  descriptor = descriptor_of v.files p args.fd.0 (subst (λ (o : Option ℕ). IsSome o) names.desc names.desc_lives)

  linked_changed : (k : ℕ) (new : Registrations) → new.entries ≡ map (modified k args.mask args.tag) r.entries → AreLinked v new
  linked_changed k new entries = subst (λ (xs : List Entry). All (IsLinked v.keys) xs) (sym entries) (linked_modified v.keys k args.mask args.tag r.entries linked)

  pub linked_altered : (k : ℕ) (operation : Operation) (new : Registrations) (answer : Answer) → Alters operation k args.mask args.tag r new answer → AreLinked v new
  linked_altered k Add new answer h = subst (λ (q : Registrations). AreLinked v q) (sym h.1) linked
  linked_altered k Delete new answer h = subst (λ (xs : List Entry). All (IsLinked v.keys) xs) (sym h.1) (All-filter (is_other k) (IsLinked v.keys) r.entries linked)
  linked_altered k Modify new answer h = by (is_exclusive_at r k) h where
    by : (b : Bool) → MatchBool b ((answer ≡ Refused Einval) × (new ≡ r)) ((answer ≡ Done) × (new.entries ≡ map (modified k args.mask args.tag) r.entries) × (new.added ≡ r.added)) → AreLinked v new
    by true h = subst (λ (q : Registrations). AreLinked v q) (sym h.1) linked
    by false h = linked_changed k new h.1

  abbrev added_entry : Entry
  added_entry = new_entry (r.added + 1) named.instance args.fd named.desc args.mask args.tag

  pub linked_more : (new : Registrations) → new.entries ≡ r.entries ++ added_entry ∷ [] → AreLinked v new
  linked_more new entries =
      let one : IsLinked v.keys added_entry = record { instance = names.instance_lives; desc = names.desc_lives; fd = descriptor } in
      let P : List Entry → Type 0 = λ xs. All (IsLinked v.keys) xs in
      subst P (sym entries) (All-append (IsLinked v.keys) r.entries _ linked (All-cons (IsLinked v.keys) _ [] one (All-nil (IsLinked v.keys))))

  linked_added : (new : Registrations) (answer : Answer) (full : Bool) → MatchBool full ((answer ≡ Refused Enospc) × (new ≡ r)) ((answer ≡ Done) × (new.entries ≡ r.entries ++ added_entry ∷ []) × (new.added ≡ r.added + 1)) → AreLinked v new
  linked_added new answer true h = subst (λ (q : Registrations). AreLinked v q) (sym h.1) linked
  linked_added new answer false h = linked_more new h.1

  linked_deep : (watches : ℕ) (new : Registrations) (answer : Answer) (deep : Bool) → Enters Add deep watches added_entry r new answer → AreLinked v new
  linked_deep watches new answer true h = subst (λ (q : Registrations). AreLinked v q) (sym h.1) linked
  linked_deep watches new answer false h = linked_added new answer (nat_le watches (length r.entries)) h

  pub linked_entered : (deep : Bool) (watches : ℕ) (operation : Operation) (new : Registrations) (answer : Answer) → Enters operation deep watches (new_entry (r.added + 1) named.instance args.fd named.desc args.mask args.tag) r new answer → AreLinked v new
  linked_entered deep watches Add new answer h = linked_deep watches new answer deep h
  linked_entered deep watches Delete new answer h = subst (λ (q : Registrations). AreLinked v q) (sym h.1) linked
  linked_entered deep watches Modify new answer h = subst (λ (q : Registrations). AreLinked v q) (sym h.1) linked

module _ {ws : List Waiter} (g : List Link) (limits : Limits) (v : Seen) (r : Registrations) (s : State) (p : ℕ) (args : Control) (named : Named) (names : Names v p args.epfd.0 args.fd.0 named) (sound : SoundTables v) (now : ℕ) (stands : Stands v r ws now s) (linked : AreLinked v r) (deep : Bool) (deep_is : is_deep limits s p args.epfd.0 args.op args.fd.0 args.mask.0 ≡ deep) where
  accepted : first (naming_refusals s.files p args.epfd.0 args.fd.0) ≡ None
  accepted = ap (λ (f : Files). first (naming_refusals f p args.epfd.0 args.fd.0)) stands.files ∙ names.accepted

  instance_is : named_by s.files p args.epfd.0 ≡ number_at v.keys named.instance
  instance_is = ap (λ (f : Files). named_by f p args.epfd.0) stands.files ∙ ap (λ (o : Option ℕ). unwrap_or o 0) (sym names.instance)

  desc_is : named_by s.files p args.fd.0 ≡ number_at v.keys named.desc
  desc_is = ap (λ (f : Files). named_by f p args.fd.0) stands.files ∙ ap (λ (o : Option ℕ). unwrap_or o 0) (sym names.desc)

  under_number : args.fd.0 ≡ pos (number_in args.fd.0)
  under_number = descriptor v r p args named names linked

  there : is_there s (named_by s.files p args.epfd.0) (number_in args.fd.0) (named_by s.files p args.fd.0) ≡ list_any (has_key named.instance args.fd named.desc) r.entries
  there = (λ i. is_there s (instance_is i) (number_in args.fd.0) (desc_is i)) ∙ there_is v r now s named.instance named.desc args.fd.0 sound stands linked names.instance_lives names.desc_lives under_number

  -- its target is an instance
  nested_is : is_instance (object_under s.files p args.fd.0) ≡ is_nested_key v named.desc
  nested_is = λ i. is_instance (unwrap_or (object_of (stands.files i) (desc_is i)) plain)

  -- what is there is exclusive
  abbrev exclusive : Bool
  exclusive = is_exclusive_there s (named_by s.files p args.epfd.0) (number_in args.fd.0) (named_by s.files p args.fd.0)

  pub left_to_refuse : is_refused_op (is_nested_key v named.desc) args.op args.mask.0 ≡ false → first (ctl_refusals limits s p args.epfd.0 args.op args.fd.0 args.mask.0) ≡ first (room_refusals (is_add args.op) (is_mod args.op) (list_any (has_key named.instance args.fd named.desc) r.entries) exclusive deep limits.watches (length r.entries))
  left_to_refuse h =
      refused_room limits s p args.epfd.0 args.op args.fd.0 args.mask.0 accepted (ap (λ (b : Bool). is_refused_op b args.op args.mask.0) nested_is ∙ h)
      ∙ (λ i. first (room_refusals (is_add args.op) (is_mod args.op) (there i) exclusive (deep_is i) limits.watches (count_is v r now s stands i)))

  abbrev refusals : List (Bool × Errno)
  refusals = ctl_refusals limits s p args.epfd.0 args.op args.fd.0 args.mask.0

  abbrev change : ℕ → Option Change
  change caller = call_change limits s caller p (control_call args) []

  -- what the call comes to, with this answer and these registrations
  abbrev GoesBy : ℕ → Answer → Registrations → Type 0
  GoesBy caller answer new = Goes (ctl_refusals limits s p args.epfd.0 args.op args.fd.0 args.mask.0) (call_change limits s caller p (control_call args) []) s answer [] (record { tables = v; interest = new; graph = g; parked = ws; clock = now })

  -- and what it raises, where it is done by looking at the registration
  abbrev pub GoesTo : ℕ → Answer → Registrations → Type 0
  GoesTo caller answer new =
      Goes (ctl_refusals limits s p args.epfd.0 args.op args.fd.0 args.mask.0) (call_change limits s caller p (control_call args) []) s answer [] (record { tables = v; interest = new; graph = g; parked = ws; clock = now })
      × ((raising : Raising) → raising ≡ (if is_done answer then raising_of_ctl v now new named args.fd else Nowhere) → Raises (ctl_refusals limits s p args.epfd.0 args.op args.fd.0 args.mask.0) (call_change limits s caller p (control_call args) []) raising v now)

  refuses : (caller : ℕ) (e : Errno) (answer : Answer) (new : Registrations) → first refusals ≡ Some e → answer ≡ Refused e → new ≡ r → GoesTo caller answer new
  refuses caller e answer new h a same = (
    subst (λ (b : Answer). GoesBy caller b new) (sym a) (subst (λ (q : Registrations). GoesBy caller (Refused e) q) (sym same) (goes_refused refusals (change caller) s _ e h stands)),
    λ raising told. raises_refused refusals (change caller) v now e raising h (told ∙ ap (λ (b : Answer). if is_done b then raising_of_ctl v now new named args.fd else Nowhere) a),
  )

  pub goes_einval : (n caller : ℕ) → is_refused_op (is_nested_key v named.desc) args.op args.mask.0 ≡ true → GoesTo caller (Refused Einval) r
  goes_einval n caller h =
      refuses caller Einval (Refused Einval) r (refused_mask limits s p args.epfd.0 args.op args.fd.0 args.mask.0 accepted (ap (λ (b : Bool). is_refused_op b args.op args.mask.0) nested_is ∙ h)) refl refl

  abbrev e : ℕ
  e = named_by s.files p args.epfd.0

  abbrev d : ℕ
  d = named_by s.files p args.fd.0

  abbrev fd : ℕ
  fd = number_in args.fd.0

  makes : (caller : ℕ) (c : Change) (answer : Answer) (new : Registrations) → first refusals ≡ None → ctl s p args.epfd.0 args.op args.fd.0 args.mask.0 args.tag ≡ c → c.0 ≡ Done → answer ≡ Done → Stands v new ws now c.1 → ((k : ℕ) → raised_of c.2 k ≡ raised_bits (raising_of_ctl v now new named args.fd) v now k) → GoesTo caller answer new
  makes caller c answer new h is done answers after raises = (
    goes_made refusals (change caller) s answer [] _ h (record { made = c; is = ap (λ (b : Change). Some b) is; answers = done ∙ sym answers; stands = after }),
    λ raising told. raises_made refusals (change caller) v now raising c h (ap (λ (b : Change). Some b) is) (λ k. raises k ∙ ap (λ (q : Raising). raised_bits q v now k) (sym (told ∙ ap (λ (b : Answer). if is_done b then raising_of_ctl v now new named args.fd else Nowhere) answers))),
  )

  -- Of a registration that is there.
  module _ (k : ℕ) (found : list_any (has_key named.instance args.fd named.desc) r.entries ≡ true) (has : AllByRecursion (λ x. has_key named.instance args.fd named.desc x ≡ (x.number == k)) r.entries) (op_accepted : is_refused_op (is_nested_key v named.desc) args.op args.mask.0 ≡ false) (rises : RisesFrom 0 r.entries) where
    -- the machine finds an exclusive one if the one of this number is exclusive
    exclusive_is : exclusive ≡ is_exclusive_at r k
    exclusive_is =
        (λ i. is_exclusive_there s (instance_is i) (number_in args.fd.0) (desc_is i))
        ∙ (exclusive_there_is v r now s named.instance named.desc args.fd.0 sound stands linked names.instance_lives names.desc_lives under_number
        ∙ exclusive_numbered named.instance args.fd named.desc k r.entries has rises)

    none_left : is_add args.op ≡ false → is_mod args.op ≡ false → first refusals ≡ None
    none_left other neither =
        left_to_refuse op_accepted
        ∙ (λ i. first (room_refusals (other i) (neither i) (found i) exclusive deep limits.watches (length r.entries)))

    removed : (new : Registrations) → new.entries ≡ filter (is_other k) r.entries → new.added ≡ r.added → Stands v new ws now (delete s e fd d).1
    removed new entries added = record {
      now = stands.now;
      files = stands.files;
      watches =
          kept_filter s (λ x. not (is_at e fd d x)) s.watches
          ∙ ((λ i. filter (λ x. not (is_at (instance_is i) fd (desc_is i) x)) (stands.watches i))
          ∙ (without v named.instance args.fd.0 named.desc k sound names.instance_lives names.desc_lives under_number r.entries linked has
          ∙ ap (map (watch_at v.keys)) (sym entries)));
      added = stands.added ∙ sym added;
      waiters = stands.waiters;
    }

    altered : (new : Registrations) → new.entries ≡ map (modified k args.mask args.tag) r.entries → new.added ≡ r.added → Stands v new ws now (modify s e fd d args.mask.0 args.tag).1
    altered new entries added = record {
      now = stands.now;
      files = stands.files;
      watches =
          all_modified s e fd d args.mask.0 args.tag s.watches
          ∙ ((λ i. map (kernel_modified (instance_is i) fd (desc_is i) args.mask.0 args.tag) (stands.watches i))
          ∙ (changed v named.instance args.fd.0 named.desc k sound names.instance_lives names.desc_lives under_number args.mask args.tag r.entries linked has
          ∙ ap (map (watch_at v.keys)) (sym entries)));
      added = stands.added ∙ sym added;
      waiters = stands.waiters;
    }

    -- what is deleted raises nothing
    raised_deleted : (new : Registrations) → new.entries ≡ filter (is_other k) r.entries → (j : ℕ) → raised_of [] j ≡ raised_bits (raising_of_ctl v now new named args.fd) v now j
    raised_deleted new entries j = sym (ap (λ (b : Bool). raised_bits (if b then Instance named.instance else Nowhere) v now j)
        (ap (λ (xs : List Entry). list_any (entry_shows (readiness v now new) v now) (filter (has_key named.instance args.fd named.desc) xs)) entries ∙ none_other (has_key named.instance args.fd named.desc) k (entry_shows (readiness v now new) v now) r.entries has))

    raised_modified : (new : Registrations) → new.entries ≡ map (modified k args.mask args.tag) r.entries → new.added ≡ r.added → (j : ℕ) → raised_of (modify s e fd d args.mask.0 args.tag).2 j ≡ raised_bits (raising_of_ctl v now new named args.fd) v now j
    raised_modified new entries added j =
        let after = (modify s e fd d args.mask.0 args.tag).1 in
        (λ i. raised_of (looked_at after (instance_is i) (filter (has_numbers (instance_is i) fd (desc_is i)) after.watches)) j)
        ∙ raises_looked v new now after (altered new entries added) (linked_changed v r p args named names linked k new entries) sound named args.fd names.instance_lives names.desc_lives under_number j

    pub goes_altered : (n caller : ℕ) (operation : Operation) (new : Registrations) (answer : Answer) → args.op ≡ code_of operation → Alters operation k args.mask args.tag r new answer → GoesTo caller answer new
    goes_altered n caller Add new answer code h =
        let adds : is_add args.op ≡ true = ap is_add code in
        refuses caller Eexist answer new (left_to_refuse op_accepted ∙ (λ i. first (room_refusals (adds i) (is_mod args.op) (found i) exclusive deep limits.watches (length r.entries)))) h.0 h.1
    goes_altered n caller Delete new answer code h =
        makes caller (delete s e fd d) answer new (none_left (ap is_add code) (ap is_mod code)) (λ i. cond (is_add (code i)) (add s e fd d args.mask.0 args.tag) (cond (is_del (code i)) (delete s e fd d) (modify s e fd d args.mask.0 args.tag))) refl h.0 (removed new h.1 h.2) (raised_deleted new h.1)
    goes_altered n caller Modify new answer code h = by (is_exclusive_at r k) refl h where
      tests_are : (b : Bool) → is_exclusive_at r k ≡ b → first refusals ≡ first ((b, Einval) ∷ (false, Eloop) ∷ (false, Enospc) ∷ [])
      tests_are b is =
          left_to_refuse op_accepted
          ∙ (λ i. first (room_refusals (is_add (code i)) (is_mod (code i)) (found i) ((exclusive_is ∙ is) i) deep limits.watches (length r.entries)))

      by : (b : Bool) → is_exclusive_at r k ≡ b → MatchBool b ((answer ≡ Refused Einval) × (new ≡ r)) ((answer ≡ Done) × (new.entries ≡ map (modified k args.mask args.tag) r.entries) × (new.added ≡ r.added)) → GoesTo caller answer new
      by true is h = refuses caller Einval answer new (tests_are true is) h.0 h.1
      by false is h =
          makes caller (modify s e fd d args.mask.0 args.tag) answer new (tests_are false is) (λ i. cond (is_add (code i)) (add s e fd d args.mask.0 args.tag) (cond (is_del (code i)) (delete s e fd d) (modify s e fd d args.mask.0 args.tag))) refl h.0 (altered new h.1 h.2) (raised_modified new h.1 h.2)

  -- Of one that is not.
  module _ (absent : list_any (has_key named.instance args.fd named.desc) r.entries ≡ false) (op_accepted : is_refused_op (is_nested_key v named.desc) args.op args.mask.0 ≡ false) where
    watch_is : kernel_watch s (new_watch s e fd d args.mask.0 args.tag) ≡ watch_at v.keys (new_entry (r.added + 1) named.instance args.fd named.desc args.mask args.tag)
    watch_is = λ i. record { number = stands.added i + 1; instance = instance_is i; fd = fd; target = desc_is i; mask = args.mask.0; tag = args.tag; armed = true; fresh = true; reported_in = 0; passes_in = 0 }

    more : (new : Registrations) → new.entries ≡ r.entries ++ new_entry (r.added + 1) named.instance args.fd named.desc args.mask args.tag ∷ [] → new.added ≡ r.added + 1 → Stands v new ws now (add s e fd d args.mask.0 args.tag).1
    more new entries added = record {
      now = stands.now;
      files = stands.files;
      watches =
          map-append (kernel_watch s) s.watches (new_watch s e fd d args.mask.0 args.tag ∷ [])
          ∙ ((λ i. stands.watches i ++ watch_is i ∷ [])
          ∙ (sym (map-append (watch_at v.keys) r.entries (new_entry (r.added + 1) named.instance args.fd named.desc args.mask args.tag ∷ []))
          ∙ ap (λ (xs : List Entry). map (watch_at v.keys) xs) (sym entries)));
      added = ap (λ (k : ℕ). k + 1) stands.added ∙ sym added;
      waiters = stands.waiters;
    }

    -- of the registrations that are there after it, the new one alone has this key
    raised_added : (new : Registrations) → new.entries ≡ r.entries ++ new_entry (r.added + 1) named.instance args.fd named.desc args.mask args.tag ∷ [] → new.added ≡ r.added + 1 → (j : ℕ) → raised_of (add s e fd d args.mask.0 args.tag).2 j ≡ raised_bits (raising_of_ctl v now new named args.fd) v now j
    raised_added new entries added j =
        let w = new_watch s e fd d args.mask.0 args.tag in
        let after = with_watch s w in
        ap (λ (xs : List Watch). raised_of (looked_at after e xs) j) (sym (keyed_last e fd d s.watches w (there ∙ absent) (has_own e fd d w refl refl refl)))
        ∙ ((λ i. raised_of (looked_at after (instance_is i) (filter (has_numbers (instance_is i) fd (desc_is i)) after.watches)) j)
        ∙ raises_looked v new now after (more new entries added) (linked_more v r p args named names linked new entries) sound named args.fd names.instance_lives names.desc_lives under_number j)

    abbrev x : Entry
    x = new_entry (r.added + 1) named.instance args.fd named.desc args.mask args.tag

    tests_are : args.op ≡ pos 1 → first refusals ≡ first ((deep, Eloop) ∷ (nat_le limits.watches (length r.entries), Enospc) ∷ [])
    tests_are code = left_to_refuse op_accepted ∙ (λ i. first (room_refusals (is_add (code i)) (is_mod (code i)) (absent i) exclusive deep limits.watches (length r.entries)))

    goes_room : (caller : ℕ) (new : Registrations) (answer : Answer) (full : Bool) → nat_le limits.watches (length r.entries) ≡ full → deep ≡ false → args.op ≡ pos 1
        → MatchBool full ((answer ≡ Refused Enospc) × (new ≡ r)) ((answer ≡ Done) × (new.entries ≡ r.entries ++ x ∷ []) × (new.added ≡ r.added + 1)) → GoesTo caller answer new
    goes_room caller new answer true is shallow code h = refuses caller Enospc answer new (tests_are code ∙ (λ i. first ((shallow i, Eloop) ∷ (is i, Enospc) ∷ []))) h.0 h.1
    goes_room caller new answer false is shallow code h =
        makes caller (add s e fd d args.mask.0 args.tag) answer new (tests_are code ∙ (λ i. first ((shallow i, Eloop) ∷ (is i, Enospc) ∷ []))) (λ i. cond (is_add (code i)) (add s e fd d args.mask.0 args.tag) (cond (is_del (code i)) (delete s e fd d) (modify s e fd d args.mask.0 args.tag))) refl h.0 (more new h.1 h.2) (raised_added new h.1 h.2)

    goes_added : (caller : ℕ) (new : Registrations) (answer : Answer) (b : Bool) → deep ≡ b → args.op ≡ pos 1 → Enters Add b limits.watches x r new answer → GoesTo caller answer new
    goes_added caller new answer true is code h = refuses caller Eloop answer new (tests_are code ∙ ap (λ (b : Bool). first ((b, Eloop) ∷ (nat_le limits.watches (length r.entries), Enospc) ∷ [])) is) h.0 h.1
    goes_added caller new answer false is code h = goes_room caller new answer (nat_le limits.watches (length r.entries)) refl is code h

    nothing_there : is_add args.op ≡ false → first refusals ≡ Some Enoent
    nothing_there other = left_to_refuse op_accepted ∙ (λ i. first (room_refusals (other i) (is_mod args.op) (absent i) exclusive deep limits.watches (length r.entries)))

    pub goes_entered : (n caller : ℕ) (operation : Operation) (new : Registrations) (answer : Answer) → args.op ≡ code_of operation → Enters operation deep limits.watches (new_entry (r.added + 1) named.instance args.fd named.desc args.mask args.tag) r new answer → GoesTo caller answer new
    goes_entered n caller Add new answer code h = goes_added caller new answer deep refl code h
    goes_entered n caller Delete new answer code h = refuses caller Enoent answer new (nothing_there (ap is_add code)) h.0 h.1
    goes_entered n caller Modify new answer code h = refuses caller Enoent answer new (nothing_there (ap is_add code)) h.0 h.1

-- the graph of the kernel shows whether a link would be illegal
pub deep_is_at : {ws : List Waiter} (limits : Limits) (v : Seen) (r : Registrations) (s : State) (p : ℕ) (args : Control) (named : Named) → Names v p args.epfd.0 args.fd.0 named → SoundTables v → (now : ℕ) → Stands v r ws now s → AreLinked v r → (graph : List Link) → AreNested v r graph
    → is_deep limits s p args.epfd.0 args.op args.fd.0 args.mask.0 ≡ is_deep_at v graph named
deep_is_at limits v r s p args named names sound now stands linked graph nested =
    let deep = is_deep limits s p args.epfd.0 args.op args.fd.0 args.mask.0 in
    let outer = instance_is graph limits v r s p args named names sound now stands linked deep refl in
    let inner = desc_is graph limits v r s p args named names sound now stands linked deep refl in
    let legal = (λ i. is_legal ((outer i, inner i) ∷ links s)) ∙ legal_both v r now s stands linked graph nested sound named.instance named.desc names.instance_lives names.desc_lives in
    λ i. is_instance (unwrap_or (object_of (stands.files i) (inner i)) plain) && not (legal i)
