-- The registration that an epoll_ctl adds or modifies, by its keys.
use Rattle.ep_calls.proofs.EntryLemmas.{holds_under}
use Rattle.std.proofs.Common.{◌≡◌, ◌∙◌, ◌==◌, ◌&&◌, ℕ, ℤ, true, false, IsSome, None, Option, Some, ap, negsuc, pos, refl, slice_index_or, sym, unwrap_or}
use Rattle.std.proofs.lemmas.Bool.{false≢true}
use Rattle.ep_facts.proofs.NatFacts.{from_test}
use Rattle.ep_facts.proofs.BoolFacts.{both_true}
use Rattle.ep_facts.proofs.OptionFacts.{number_unless_none}
use Rattle.ep_base.specs.Limits.{Limits}
use Rattle.ep_base.specs.declared.call.Call.TheVariants.{EpollCtl}
use Rattle.ep_base.specs.declared.call.Event.{Event}
use Rattle.ep_base.specs.declared.call.Event.TheVariants.{Call as CallOf}
use Rattle.ep_base.specs.declared.ids.DescId.{DescId}
use Rattle.ep_calls.proofs.KeyLemmas.{under_key}
use Rattle.ep_calls.specs.Parts.{Parts}
use Rattle.ep_calls.specs.Stands.{AreLinked, IsLinked, KeepsKeys, number_at}
use Rattle.ep_interest.specs.Registrations.{entry_under}
use Rattle.ep_interest.specs.declared.entry.Entry.{Entry}
use Rattle.ep_kernel.specs.Listed.{key_shows}
use Rattle.ep_kernel.specs.Turns.{AlteredStand}
use Rattle.ep_machine.specs.Effect.{first}
use Rattle.ep_machine.specs.Files.{Files, named_by, names_nothing, under}
use Rattle.ep_machine.specs.Refusal.{refusals}
use Rattle.ep_machine.specs.State.{State, Watch}
use Rattle.ep_machine.specs.Step.{next_event}
use Rattle.ep_machine.specs.Watches.{number_in}
use Rattle.ep_order.specs.Event.{IsAltered}
use Rattle.ep_rings.specs.KeyWalk.{entry_id}
use Rattle.ep_ready.specs.ReadyLists.{Lists, stands}
use Rattle.ep_table.specs.Value.{Sound as SoundTables, number_under as desc_number}
use Rattle.ep_view.proofs.AtRestLemmas.{none_holds}

-- a number that names something is not negative
descriptor_of : (files : Files) (p : ℕ) (fd : ℤ) → names_nothing files p fd ≡ false → fd ≡ pos (number_in fd)
descriptor_of files p (pos k) h = refl
descriptor_of files p (negsuc k) h = absurd (false≢true (sym h))

-- a registration has the names of the machine's
pub record IsOf (p : Parts) (z : Entry) (x : Watch) : Type 0 where
  pub instance : number_at p.tables.keys z.instance ≡ x.instance
  pub fd : number_in z.fd.0 ≡ x.fd
  pub target : number_at p.tables.keys z.desc ≡ x.target

-- an epoll_ctl is about it once the event began, too
pub altered_next : (s : State) (event : Event) (x : Watch) → IsAltered s event x → IsAltered (next_event s) event x
altered_next s (CallOf pid (EpollCtl epfd op fd mask tag)) x h = h
altered_next s event x h = absurd h

module _ (old mid : Parts) (keys : KeepsKeys old.tables mid.tables) (tables : SoundTables old.tables) (tables_mid : SoundTables mid.tables) (linked : AreLinked mid.tables mid.interest) where
  -- the key of what a descriptor named before
  named_key : (p : ℕ) (fd : ℤ) (key : DescId) → names_nothing old.tables.files p fd ≡ false → IsSome (desc_number mid.tables key) → number_at mid.tables.keys key ≡ named_by old.tables.files p fd → number_at old.tables.keys key ≡ named_by old.tables.files p fd
  named_key p fd key names lives is =
      let d = named_by old.tables.files p fd in
      let other = tables.named p d fd (number_unless_none (under old.tables.files p fd) names) in
      let u = under_key mid.tables.keys key lives in
      let here : desc_number mid.tables key ≡ Some d = u.is ∙ ap (λ (m : ℕ). Some m) (sym (ap (λ (o : Option ℕ). unwrap_or o 0) u.is) ∙ is) in
      let same : key.0 ≡ other.0.0 = tables_mid.one key other.0 d here (keys other.0 d other.1) in
      ap (λ (m : ℕ). unwrap_or (slice_index_or old.tables.keys m None) 0) same ∙ ap (λ (o : Option ℕ). unwrap_or o 0) other.1

  pub altered_stands : (limits : Limits) (b : State) (same : b.files ≡ old.tables.files) (caller : ℕ) (event : Event) (l : Lists) → first (refusals limits b caller event) ≡ None → AlteredStand event old mid l
      → (k : ℕ) (z : Entry) → entry_under mid.interest (entry_id k) ≡ Some z → (x : Watch) → IsOf mid z x → IsAltered b event x → key_shows mid k ≡ true → stands l (entry_id k) ≡ true
  altered_stands limits b same caller (CallOf pid (EpollCtl epfd op fd mask tag)) l allowed stand k z under x is altered shows =
      let all = none_holds (refusals limits b caller (CallOf pid (EpollCtl epfd op fd mask tag))) allowed in
      let names_instance : names_nothing old.tables.files pid.0 epfd.0 ≡ false = ap (λ (f : Files). names_nothing f pid.0 epfd.0) (sym same) ∙ all.1.1.0 in
      let names_desc : names_nothing old.tables.files pid.0 fd.0 ≡ false = ap (λ (f : Files). names_nothing f pid.0 fd.0) (sym same) ∙ all.1.1.1.0 in
      let two = both_true (x.instance == named_by b.files pid.0 epfd.0 && x.fd == number_in fd.0) (x.target == named_by b.files pid.0 fd.0) altered.1 in
      let one = both_true (x.instance == named_by b.files pid.0 epfd.0) (x.fd == number_in fd.0) two.0 in
      let link = holds_under (IsLinked mid.tables.keys) mid.interest (entry_id k) z linked under in
      let instance : number_at mid.tables.keys z.instance ≡ named_by old.tables.files pid.0 epfd.0 = is.instance ∙ (from_test x.instance _ one.0 ∙ ap (λ (f : Files). named_by f pid.0 epfd.0) same) in
      let desc : number_at mid.tables.keys z.desc ≡ named_by old.tables.files pid.0 fd.0 = is.target ∙ (from_test x.target _ two.1 ∙ ap (λ (f : Files). named_by f pid.0 fd.0) same) in
      let number : number_in z.fd.0 ≡ number_in fd.0 = is.fd ∙ from_test x.fd _ one.1 in
      let descriptor : z.fd.0 ≡ fd.0 = link.fd ∙ (ap (λ (m : ℕ). pos m) number ∙ sym (descriptor_of old.tables.files pid.0 fd.0 names_desc)) in
      let same_fd : z.fd ≡ fd = λ i. record { 0 = descriptor i } in
      stand k z under altered.0 (named_key pid.0 epfd.0 z.instance names_instance link.instance instance) same_fd (named_key pid.0 fd.0 z.desc names_desc link.desc desc) shows
  altered_stands limits b same caller event l allowed stand k z under x is altered shows = absurd altered
