-- The refusals of epoll_ctl in three parts: what its arguments name, the operation, and the interest set; and what it
-- does to registrations.
use Rattle.std.specs.List.{find as first_where, list_any}
use Rattle.std.specs.Prelude.{◌≡◌, Bool, false, true, if◌then◌else◌, IfSome, IsSome, List, MatchBool, None, Option, Some, []}
use Rattle.std.specs.Prelude.{⊤, filter, is_some, length, map, nat_le, not, pos, slice_set, unwrap_or, ℕ, ℤ, ◌&&◌, ◌++◌, ◌+◌, ◌==◌, ◌||◌, ◌∷◌}
use Rattle.ep_base.specs.declared.answer.Answer.{Answer}
use Rattle.ep_base.specs.declared.answer.Answer.TheVariants.{Done, Refused}
use Rattle.ep_base.specs.declared.call.Call.{Call}
use Rattle.ep_base.specs.declared.call.Call.TheVariants.{EpollCtl}
use Rattle.ep_base.specs.declared.errno.Errno.{Errno}
use Rattle.ep_base.specs.declared.errno.Errno.TheVariants.{Ebadf, Eexist, Einval, Eloop, Enoent, Enospc, Eperm}
use Rattle.ep_base.specs.declared.mask.Mask.{Mask}
use Rattle.ep_base.specs.declared.ids.DescId.{DescId}
use Rattle.ep_base.specs.declared.ids.EntryId.{EntryId}
use Rattle.ep_base.specs.declared.ids.Fd.{Fd}
use Rattle.ep_interest.specs.Registrations.{GainsKey, Registrations, entry_of, has_key, is_other, modified, numbered, number_under as number_of_entry}
use Rattle.ep_interest.specs.declared.addition.Addition.{Addition}
use Rattle.ep_interest.specs.declared.entry.Entry.{Entry}
use Rattle.ep_interest.specs.Exclusive.{is_exclusive}
use Rattle.ep_machine.specs.Bits.{EXCLUSIVE, exclusive_bits, has_bit, has_only}
use Rattle.ep_machine.specs.Effect.{first}
use Rattle.ep_machine.specs.Files.{Files, named_by, names_nothing, object_under, under}
use Rattle.ep_machine.specs.Objects.{is_instance, is_plain}
use Rattle.ep_machine.specs.Watches.{is_add, is_del, is_legal, is_mod}
use Rattle.ep_nest.specs.Links.{edges}
use Rattle.ep_nest.specs.declared.link.Link.{Link}
use Rattle.ep_calls.specs.Climb.{is_nested_key}
use Rattle.ep_calls.specs.Parts.{Parts}
use Rattle.ep_calls.specs.Readiness.{entry_shows, readiness}
use Rattle.ep_calls.specs.Stands.{number_at}
use Rattle.ep_calls.specs.declared.raising.Raising.{Raising}
use Rattle.ep_calls.specs.declared.raising.Raising.TheVariants.{Instance, Nowhere}
use Rattle.ep_table.specs.Value.{Seen, number_under}
use Rattle.ep_calls.specs.declared.control.Control.{Control}
use Rattle.ep_calls.specs.declared.control.Named.{Named}
use Rattle.ep_calls.specs.declared.control.Operation.{Operation}
use Rattle.ep_calls.specs.declared.control.Plan.{Plan}
use Rattle.ep_calls.specs.declared.outcome.Outcome.{Outcome}
use Rattle.ep_calls.specs.declared.control.Operation.TheVariants.{Add, Delete, Modify}

-- the call with these arguments
abbrev pub control_call : Control → Call
control_call args = EpollCtl args.epfd args.op args.fd args.mask args.tag

abbrev pub naming_refusals : Files → ℕ → ℤ → ℤ → List (Bool × Errno)
naming_refusals files p epfd fd =
    (names_nothing files p epfd, Ebadf)
    ∷ (names_nothing files p fd, Ebadf)
    ∷ (is_plain (object_under files p fd), Eperm)
    ∷ (not (is_instance (object_under files p epfd)) || named_by files p epfd == named_by files p fd, Einval) ∷ []

-- an exclusive registration with this mask is not accepted; `nested` says that it would be on an instance
abbrev pub is_refused_exclusive : Bool → ℕ → Bool
is_refused_exclusive nested mask = has_bit mask EXCLUSIVE && (nested || not (has_only mask exclusive_bits))

-- the operation or the mask is not accepted
abbrev pub is_refused_op : Bool → ℤ → ℕ → Bool
is_refused_op nested op mask =
    if is_mod op then has_bit mask EXCLUSIVE else if is_add op then is_refused_exclusive nested mask else not (is_del op)

-- the registration with a number is exclusive
abbrev pub is_exclusive_entry : Option Entry → Bool
is_exclusive_entry None = false
is_exclusive_entry (Some x) = is_exclusive x

abbrev pub is_exclusive_at : Registrations → ℕ → Bool
is_exclusive_at r k = is_exclusive_entry (numbered r.entries k)

-- if the operation and the mask are accepted; `exclusive` says that what is there is exclusive, and `deep` that the
-- graph of instances would not be legal
abbrev pub room_refusals : Bool → Bool → Bool → Bool → Bool → ℕ → ℕ → List (Bool × Errno)
room_refusals adds mods there exclusive deep watches count =
    (not adds && not there, Enoent) ∷ (adds && there, Eexist) ∷ (mods && exclusive, Einval) ∷ (adds && deep, Eloop)
    ∷ (adds && nat_le watches count, Enospc) ∷ []

abbrev pub code_of : Operation → ℤ
code_of Add = pos 1
code_of Delete = pos 2
code_of Modify = pos 3

-- with the registration of number k there
abbrev pub Alters : Operation → ℕ → Mask → ℕ → Registrations → Registrations → Answer → Type 0
Alters Add k mask tag old new answer = (answer ≡ Refused Eexist) × (new ≡ old)
Alters Delete k mask tag old new answer = (answer ≡ Done) × (new.entries ≡ filter (is_other k) old.entries) × (new.added ≡ old.added)
Alters Modify k mask tag old new answer =
    MatchBool (is_exclusive_at old k) ((answer ≡ Refused Einval) × (new ≡ old))
    ((answer ≡ Done) × (new.entries ≡ map (modified k mask tag) old.entries) × (new.added ≡ old.added))

-- with no registration there; `deep` says that its link would make the graph of instances illegal
abbrev pub Enters : Operation → Bool → ℕ → Entry → Registrations → Registrations → Answer → Type 0
Enters Add deep watches x old new answer =
    MatchBool deep ((answer ≡ Refused Eloop) × (new ≡ old))
    (MatchBool (nat_le watches (length old.entries)) ((answer ≡ Refused Enospc) × (new ≡ old))
    ((answer ≡ Done) × (new.entries ≡ old.entries ++ x ∷ []) × (new.added ≡ old.added + 1)))
Enters Delete deep watches x old new answer = (answer ≡ Refused Enoent) × (new ≡ old)
Enters Modify deep watches x old new answer = (answer ≡ Refused Enoent) × (new ≡ old)

-- what it adds
abbrev pub addition : Named → Control → Addition
addition named args = record { instance = named.instance; fd = args.fd; desc = named.desc; mask = args.mask; tag = args.tag }

-- the registration that is added next
abbrev pub next_entry : Registrations → Named → Control → Entry
next_entry r named args = entry_of (r.added + 1) (addition named args)

-- the link of the registration that is added next, where it is on an instance
abbrev pub next_link : Registrations → Named → Link
next_link r named = record { outer = named.instance; inner = named.desc; entry = record { 0 = r.next } }

-- its link would make the graph of instances illegal
abbrev pub is_deep_at : Seen → List Link → Named → Bool
is_deep_at tables graph named = is_nested_key tables named.desc && not (is_legal ((named.instance.0, named.desc.0) ∷ edges graph))

-- IN at the instance, where the registration with this key is reportable
abbrev pub raising_of_ctl : Seen → ℕ → Registrations → Named → Fd → Raising
raising_of_ctl tables now r named fd =
    if list_any (entry_shows (readiness tables now r) tables now)
    (filter (has_key named.instance fd named.desc) r.entries)
    then Instance named.instance else Nowhere

abbrev pub is_done : Answer → Bool
is_done Done = true
is_done a = false

-- the keys of what the arguments name, none of which is refused
pub record Names (tables : Seen) (p : ℕ) (epfd fd : ℤ) (named : Named) : Type 0 where
  pub accepted : first (naming_refusals tables.files p epfd fd) ≡ None
  pub instance : number_under tables named.instance ≡ under tables.files p epfd
  pub desc : number_under tables named.desc ≡ under tables.files p fd
  pub instance_lives : IsSome (number_under tables named.instance)
  pub desc_lives : IsSome (number_under tables named.desc)

-- what the call raises with an answer: where it is done, the registration is looked at
abbrev pub raising_after : Answer → Seen → ℕ → Registrations → Named → Fd → Raising
raising_after answer tables now r named fd = if is_done answer then raising_of_ctl tables now r named fd else Nowhere

-- an addition by the graph of instances, and in the limits
abbrev pub EntersAt : Operation → Seen → List Link → Named → Control → Registrations → Registrations → Answer → Type 0
EntersAt operation tables graph named args old new answer =
    Enters operation (is_deep_at tables graph named) tables.limits.watches (next_entry old named args) old new answer

-- the key of the registration that is named, where there is one
pub record IsFound (r : Registrations) (named : Named) (fd : Fd) (found : Option EntryId) : Type 0 where
  pub there : is_some found ≡ list_any (has_key named.instance fd named.desc) r.entries
  pub key : IfSome found (λ id. IsSome (number_of_entry r id))
  pub entry : IfSome found (λ id. numbered r.entries (unwrap_or (number_of_entry r id) 0) ≡ first_where (has_key named.instance fd named.desc) r.entries)

-- the key of a registration that was there, after a call that is done: DEL takes it away
abbrev pub key_left : Operation → EntryId → Option EntryId
key_left Delete id = None
key_left operation id = Some id

-- what a call is about that is not refused by its arguments alone
pub record IsPlan (p : Parts) (pid : ℕ) (args : Control) (plan : Plan) : Type 0 where
  pub names : Names p.tables pid args.epfd.0 args.fd.0 plan.named
  pub code : args.op ≡ code_of plan.operation
  pub accepted : is_refused_op (is_nested_key p.tables plan.named.desc) args.op args.mask.0 ≡ false
  pub found : IsFound p.interest plan.named args.fd plan.found

-- whether the instance that a registration with this key watches is ready
abbrev pub IsBelow : Bool → Seen → ℕ → Registrations → Named → Fd → Type 0
IsBelow below tables now r named fd =
    list_any (has_key named.instance fd named.desc) r.entries ≡ true → is_nested_key tables named.desc ≡ true
    → below ≡ readiness tables now r (number_at tables.keys named.desc)

-- whether the instance that an ADD or a MOD is about is ready; DEL asks nothing
abbrev pub TellsBelow : Operation → Bool → Parts → DescId → Type 0
TellsBelow Delete below p desc = ⊤
TellsBelow operation below p desc =
    is_nested_key p.tables desc ≡ true → below ≡ readiness p.tables p.clock p.interest (number_at p.tables.keys desc)

-- what is done to the registration that is there, and to its key; or what is added under the next key
abbrev pub Changes : Operation → Option EntryId → Named → Control → Registrations → Registrations → Type 0
Changes Add None named args old new =
    (new.entries ≡ old.entries ++ next_entry old named args ∷ []) × GainsKey old new (record { 0 = old.next }) (old.added + 1)
Changes Delete (Some id) named args old new =
    (new.entries ≡ filter (is_other (unwrap_or (number_of_entry old id) 0)) old.entries) × (new.keys ≡ slice_set old.keys id.0 None)
Changes Modify (Some id) named args old new =
    (new.entries ≡ map (modified (unwrap_or (number_of_entry old id) 0) args.mask args.tag) old.entries) × (new.keys ≡ old.keys)
Changes operation found named args old new = ⊥

-- the registrations change where the call is done, and stay where it is refused
abbrev pub ChangesIf : Answer → Operation → Option EntryId → Named → Control → Registrations → Registrations → Type 0
ChangesIf answer operation found named args old new = MatchBool (is_done answer) (Changes operation found named args old new) (new ≡ old)

-- what a call of this plan does to the parts
pub record Controls (plan : Plan) (args : Control) (outcome : Outcome) (old new : Parts) : Type 0 where
  pub tables : new.tables ≡ old.tables
  pub clock : new.clock ≡ old.clock
  pub picked : outcome.picked ≡ []
  pub raising : outcome.raising ≡ raising_after outcome.answer new.tables new.clock new.interest plan.named args.fd
  pub interest : ChangesIf outcome.answer plan.operation plan.found plan.named args old.interest new.interest
