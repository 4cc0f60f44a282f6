-- What the descriptors of an event name, by the keys of registrations after its change.
use Rattle.std.proofs.Common.{◌≡◌, ◌∙◌, ◌==◌, ◌&&◌, ◌∷◌, [], ℕ, ℤ, Bool, true, false, if◌then◌else◌, IsSome, List, MatchOption, None, Option, Some, ap, negsuc, pos, refl, slice_index_or, subst, sym, unwrap_or}
use Rattle.std.proofs.lemmas.Bool.{false≢true}
use Rattle.std.specs.List.{AllByRecursion}
use Rattle.ep_facts.proofs.NatFacts.{from_test}
use Rattle.ep_facts.proofs.BoolFacts.{both_true}
use Rattle.ep_facts.proofs.OptionFacts.{number_unless_none}
use Rattle.ep_base.specs.Limits.{Limits}
use Rattle.ep_base.specs.declared.answer.Answer.{Answer}
use Rattle.ep_base.specs.declared.call.Call.{Call}
use Rattle.ep_base.specs.declared.call.Call.TheVariants.{EpollCtl, EpollWait, Accept}
use Rattle.ep_base.specs.declared.call.Event.{Event}
use Rattle.ep_base.specs.declared.call.Event.TheVariants.{Call as CallOf}
use Rattle.ep_base.specs.declared.ids.DescId.{DescId}
use Rattle.ep_base.specs.declared.errno.Errno.{Errno}
use Rattle.ep_base.specs.declared.ids.Fd.{Fd}
use Rattle.ep_calls.proofs.KeyLemmas.{under_key}
use Rattle.ep_calls.specs.Control.{is_done}
use Rattle.ep_calls.specs.Moves.{Goes, Makes, Refuses}
use Rattle.ep_calls.specs.Parts.{Parts}
use Rattle.ep_calls.specs.Stands.{IsLinked, KeepsKeys, number_at}
use Rattle.ep_interest.specs.declared.entry.Entry.{Entry}
use Rattle.ep_machine.specs.Files.{Files, named_by, names_nothing, under}
use Rattle.ep_machine.specs.Objects.{ObjectCall, asks}
use Rattle.ep_machine.specs.Refusal.{refusals, refusals_on}
use Rattle.ep_machine.specs.State.{Change, State, Watch}
use Rattle.ep_machine.specs.Step.{change}
use Rattle.ep_machine.specs.Effect.{first}
use Rattle.ep_machine.specs.Report.{plainly}
use Rattle.ep_machine.specs.Watches.{add, ctl, delete, is_add, is_del, modify, number_in}
use Rattle.ep_order.specs.Ending.{is_called, is_object_of}
use Rattle.ep_order.specs.Event.{IsAltered}
use Rattle.ep_alarms.specs.Called.{IsCalled, asked_in}
use Rattle.ep_plain.specs.Exact.{IsNamed}
use Rattle.ep_table.specs.Value.{Seen, Sound as SoundTables, number_under as desc_number}
use Rattle.ep_view.proofs.AtRestLemmas.{none_holds}

-- a number that names something is not negative
descriptor_of : (files : Files) (p : ℕ) (fd : ℤ) → names_nothing files p fd ≡ false → fd ≡ pos (number_in fd)
descriptor_of files p (pos k) h = refl
descriptor_of files p (negsuc k) h = absurd (false≢true (sym h))

none_some : (o : Option ℕ) (d : ℕ) → o ≡ Some d → o ≡ None → ⊥
none_some o d a b = absurd (let e : Some d ≡ None = sym a ∙ b in cc)

same_fd : (a b : Fd) → a.0 ≡ b.0 → a ≡ b
same_fd a b e = ap (λ (k : ℤ). let fd : Fd = record { 0 = k } in fd) e

-- an epoll_ctl that isn't refused is done
ctl_done : (s : State) (p : ℕ) (epfd op fd : ℤ) (mask tag : ℕ) → is_done (ctl s p epfd op fd mask tag).0 ≡ true
ctl_done s p epfd op fd mask tag =
    let e = named_by s.files p epfd in
    let k = number_in fd in
    let d = named_by s.files p fd in
    elim (is_add op) as (λ a. is_done (if a then add s e k d mask tag else if is_del op then delete s e k d else modify s e k d mask tag).0 ≡ true) [
      | true ↦ refl
      | false ↦ elim (is_del op) as (λ b. is_done (if b then delete s e k d else modify s e k d mask tag).0 ≡ true) [ true ↦ refl | false ↦ refl ]
    ]

plain_done : (picked : List ℕ) (c m : Change) → plainly picked c ≡ Some m → is_done c.0 ≡ true → is_done m.0 ≡ true
plain_done [] c m is done = ap (λ (o : Option Change). is_done (unwrap_or o c).0) (sym is) ∙ done
plain_done (k ∷ ks) c m is done = absurd (cc)

-- so an event that alters a registration, and isn't refused, is done
pub done_made : (limits : Limits) (b from : State) (caller : ℕ) (event : Event) (picked : List ℕ) (answer : Answer) (mid : Parts) → Makes (change limits b caller event picked) answer mid → (w : Watch) → IsAltered from event w → is_done answer ≡ true
done_made limits b from caller (CallOf p (EpollCtl epfd op fd mask tag)) picked answer mid m w is =
    ap is_done (sym m.answers) ∙ plain_done picked (ctl b p.0 epfd.0 op fd.0 mask.0 tag) m.made m.is (ctl_done b p.0 epfd.0 op fd.0 mask.0 tag)
done_made limits b from caller event picked answer mid m w is = absurd is

pub done_altered : (limits : Limits) (b from : State) (caller : ℕ) (event : Event) (picked : List ℕ) (answer : Answer) (mid : Parts) → Goes (refusals limits b caller event) (change limits b caller event picked) b answer picked mid → first (refusals limits b caller event) ≡ None → (w : Watch) → IsAltered from event w → is_done answer ≡ true
done_altered limits b from caller event picked answer mid goes allowed =
    done_made limits b from caller event picked answer mid (subst (λ (o : Option Errno). MatchOption o (Makes (change limits b caller event picked) answer mid) (λ e. Refuses b e answer picked mid)) allowed goes)

-- A description that an event's change left.
module _ (old mid : Seen) (keys : KeepsKeys old mid) (was : SoundTables old) (sound : SoundTables mid) where
  -- it has the key that it had
  pub had_key : (a key : DescId) (d : ℕ) → desc_number old key ≡ Some d → IsSome (desc_number mid a) → number_at mid.keys a ≡ d → desc_number old a ≡ Some d
  had_key a key d is lives number =
      let u = under_key mid.keys a lives in
      let here : desc_number mid a ≡ Some d = u.is ∙ ap (λ (m : ℕ). Some m) (sym (ap (λ (q : Option ℕ). unwrap_or q 0) u.is) ∙ number) in
      ap (λ (k : ℕ). slice_index_or old.keys k None) (sound.one a key d here (keys key d is)) ∙ is

  -- as the one that a descriptor named
  had_named : (a : DescId) (p : ℕ) (fd : ℤ) → names_nothing old.files p fd ≡ false → IsSome (desc_number mid a) → number_at mid.keys a ≡ named_by old.files p fd → desc_number old a ≡ under old.files p fd
  had_named a p fd some lives number =
      let is = number_unless_none (under old.files p fd) some in
      let key = was.named p (named_by old.files p fd) fd is in
      had_key a key.0 (named_by old.files p fd) key.1 lives number ∙ sym is

  -- An event that isn't refused.
  module _ (limits : Limits) (b : State) (caller : ℕ) (from : State) (same : b.files ≡ old.files) (same_from : from.files ≡ old.files) where
    -- a registration that it altered has the names of the call
    pub is_named : (event : Event) → first (refusals limits b caller event) ≡ None → (w : Watch) (z : Entry) → IsLinked mid.keys z → number_at mid.keys z.instance ≡ w.instance → number_in z.fd.0 ≡ w.fd → number_at mid.keys z.desc ≡ w.target
        → IsAltered from event w → IsNamed old event z
    is_named (CallOf pid (EpollCtl epfd op fd mask tag)) allowed w z link instance number target is =
        let all = none_holds (refusals limits b caller (CallOf pid (EpollCtl epfd op fd mask tag))) allowed in
        let names_instance : names_nothing old.files pid.0 epfd.0 ≡ false = ap (λ (f : Files). names_nothing f pid.0 epfd.0) (sym same) ∙ all.1.1.0 in
        let names_desc : names_nothing old.files pid.0 fd.0 ≡ false = ap (λ (f : Files). names_nothing f pid.0 fd.0) (sym same) ∙ all.1.1.1.0 in
        let two = both_true (w.instance == named_by from.files pid.0 epfd.0 && w.fd == number_in fd.0) (w.target == named_by from.files pid.0 fd.0) is.1 in
        let one = both_true (w.instance == named_by from.files pid.0 epfd.0) (w.fd == number_in fd.0) two.0 in
        let at_instance = instance ∙ (from_test w.instance _ one.0 ∙ ap (λ (f : Files). named_by f pid.0 epfd.0) same_from) in
        let at_desc = target ∙ (from_test w.target _ two.1 ∙ ap (λ (f : Files). named_by f pid.0 fd.0) same_from) in
        let descriptor : z.fd.0 ≡ fd.0 = link.fd ∙ (ap (λ (m : ℕ). pos m) (number ∙ from_test w.fd _ one.1) ∙ sym (descriptor_of old.files pid.0 fd.0 names_desc)) in
        (had_named z.instance pid.0 epfd.0 names_instance link.instance at_instance, same_fd z.fd fd descriptor, had_named z.desc pid.0 fd.0 names_desc link.desc at_desc)
    is_named event allowed w z link instance number target is = absurd is

    by_call : (called : Option DescId) (p : ℕ) (fd : ℤ) → MatchOption called (under old.files p fd ≡ None) (λ desc. desc_number old desc ≡ under old.files p fd) → names_nothing b.files p fd ≡ false
        → (a : DescId) (d : ℕ) → IsSome (desc_number mid a) → number_at mid.keys a ≡ d → (named_by from.files p fd == d) ≡ true → (desc : DescId) × (called ≡ Some desc) × (a.0 ≡ desc.0)
    by_call called p fd is some a d lives number on = found called is where
      some_old : names_nothing old.files p fd ≡ false
      some_old = ap (λ (f : Files). names_nothing f p fd) (sym same) ∙ some

      is_some : under old.files p fd ≡ Some (named_by old.files p fd)
      is_some = number_unless_none (under old.files p fd) some_old

      here : desc_number old a ≡ under old.files p fd
      here = had_named a p fd some_old lives (number ∙ (sym (from_test _ d on) ∙ ap (λ (f : Files). named_by f p fd) same_from))

      found : (o : Option DescId) → MatchOption o (under old.files p fd ≡ None) (λ desc. desc_number old desc ≡ under old.files p fd) → (desc : DescId) × (o ≡ Some desc) × (a.0 ≡ desc.0)
      found None none = absurd (none_some (under old.files p fd) _ is_some none)
      found (Some desc) it = (desc, refl, was.one a desc (named_by old.files p fd) (here ∙ is_some) (it ∙ is_some))

    -- what it is a call on is what was found
    abbrev pub Found : Option DescId → (ℕ → Bool) → Type 0
    Found called is_on = (a : DescId) (d : ℕ) → IsSome (desc_number mid a) → number_at mid.keys a ≡ d → is_on d ≡ true → (desc : DescId) × (called ≡ Some desc) × (a.0 ≡ desc.0)

    asked_found : (p : ℕ) (call : Call) (on : Option (Fd × ObjectCall)) → AllByRecursion (λ t. t.0 ≡ false) (refusals_on limits b p call on) → (called : Option DescId)
        → MatchOption called (asked_in old.files p on ≡ None) (λ desc. desc_number old desc ≡ asked_in old.files p on) → Found called (is_object_of from p on)
    asked_found p call None tests called is = λ a d lives number on. absurd (false≢true on)
    asked_found p call (Some at) tests called is = by_call called p at.0.0 is tests.0

    pub is_found : (event : Event) → first (refusals limits b caller event) ≡ None → (called : Option DescId) → IsCalled old event called → Found called (is_called from event)
    is_found (CallOf p (EpollCtl epfd op fd mask tag)) allowed called is = λ a d lives number on. absurd (false≢true on)
    is_found (CallOf p (EpollWait epfd max timeout)) allowed called is = λ a d lives number on. absurd (false≢true on)
    is_found (CallOf p (Accept fd cloexec)) allowed called is =
        let tests = (none_holds (refusals limits b caller (CallOf p (Accept fd cloexec))) allowed).1.1 in
        by_call called p.0 fd.0 is tests.0
    is_found (CallOf p call) allowed called is =
        let none = (none_holds (refusals limits b caller (CallOf p call)) allowed).1.1 in
        let tests = subst (λ (f : Files). AllByRecursion (λ t. t.0 ≡ false) (refusals_on limits b p.0 call (asks f.objects call))) same none in
        subst (λ (f : Files). Found called (is_object_of from p.0 (asks f.objects call))) (sym same_from)
        (asked_found p.0 call (asks old.files.objects call) tests called is)
    is_found event allowed called is = λ a d lives number on. absurd (false≢true on)
