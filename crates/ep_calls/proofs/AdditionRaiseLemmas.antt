-- What it raises that a registration was added or modified.
use Rattle.std.proofs.Common.{◌≡◌, ◌∙◌, ◌==◌, ◌&&◌, ◌||◌, ◌++◌, ℕ, pos, All, Bool, true, false, IsSome, List, [], ◌∷◌, ap, bit_or, cond, filter, if◌then◌else◌, map, not, refl, sym}
use Rattle.std.specs.List.{AllByRecursion, list_any}
use Rattle.std.proofs.lemmas.Bool.{false≢true}
use Rattle.std.proofs.lemmas.List.Elements.{All-head, All-tail}
use Rattle.ep_facts.proofs.NatFacts.{same_nat}
use Rattle.ep_base.specs.declared.ids.Fd.{Fd}
use Rattle.ep_interest.specs.Registrations.{Registrations, has_key, is_other}
use Rattle.ep_interest.specs.declared.entry.Entry.{Entry}
use Rattle.ep_machine.specs.Bits.{IN, when}
use Rattle.ep_view.specs.KernelView.{KernelWatch, is_at, kernel_watch, kernel_watches, ready_now, shows}
use Rattle.ep_machine.specs.Readiness.{is_reportable}
use Rattle.ep_machine.specs.Spread.{raised_of}
use Rattle.ep_machine.specs.State.{State, Waiter, Watch}
use Rattle.ep_machine.specs.Watches.{has_key as has_numbers, looked_at, number_in}
use Rattle.ep_view.proofs.KernelViewLemmas.{kept_filter, readiness as machine_readiness, reportable_kept}
use Rattle.ep_calls.specs.Control.{raising_of_ctl}
use Rattle.ep_calls.specs.Raising.{raised_bits}
use Rattle.ep_calls.specs.Readiness.{entry_shows, readiness}
use Rattle.ep_calls.specs.Stands.{AreLinked, IsLinked, Stands, number_at, watch_at}
use Rattle.ep_calls.specs.declared.control.Named.{Named}
use Rattle.ep_calls.specs.declared.raising.Raising.TheVariants.{Instance, Nowhere}
use Rattle.ep_calls.proofs.RegistrationLemmas.{same_key_test}
use Rattle.ep_table.specs.Value.{Seen, Sound, number_under}

-- of the others none has the key
pub none_other : (p : Entry → Bool) (k : ℕ) (q : Entry → Bool) (xs : List Entry) → AllByRecursion (λ x. p x ≡ (x.number == k)) xs → list_any q (filter p (filter (is_other k) xs)) ≡ false
none_other p k q [] h = refl
none_other p k q (x ∷ xs) h = with_one (p x) h.0 refl (none_other p k q xs h.1) where
  with_one : (b : Bool) → b ≡ (x.number == k) → p x ≡ b → list_any q (filter p (filter (is_other k) xs)) ≡ false → list_any q (filter p (cond (not (x.number == k)) (x ∷ filter (is_other k) xs) (filter (is_other k) xs))) ≡ false
  with_one true e is rest = ap (λ (t : Bool). list_any q (filter p (cond (not t) (x ∷ filter (is_other k) xs) (filter (is_other k) xs)))) (sym e) ∙ rest
  with_one false e is rest =
      ap (λ (t : Bool). list_any q (filter p (cond (not t) (x ∷ filter (is_other k) xs) (filter (is_other k) xs)))) (sym e)
      ∙ (ap (λ (t : Bool). list_any q (cond t (x ∷ filter p (filter (is_other k) xs)) (filter p (filter (is_other k) xs)))) is ∙ rest)

-- a registration has its own key
pub has_own : (e fd d : ℕ) (w : Watch) → w.instance ≡ e → w.fd ≡ fd → w.target ≡ d → has_numbers e fd d w ≡ true
has_own e fd d w a b c = (λ i. a i == e && b i == fd && c i == d) ∙ (λ i. same_nat e i && same_nat fd i && same_nat d i)

-- the last one alone has a key that was not there
pub keyed_last : (e fd d : ℕ) (ws : List Watch) (w : Watch) → list_any (has_numbers e fd d) ws ≡ false → has_numbers e fd d w ≡ true → filter (has_numbers e fd d) (ws ++ w ∷ []) ≡ w ∷ []
keyed_last e fd d [] w absent own = ap (λ (b : Bool). cond b (w ∷ []) []) own
keyed_last e fd d (x ∷ ws) w absent own =
    elim (has_numbers e fd d x) as (λ b. (b || list_any (has_numbers e fd d) ws) ≡ false → cond b (x ∷ filter (has_numbers e fd d) (ws ++ w ∷ [])) (filter (has_numbers e fd d) (ws ++ w ∷ [])) ≡ w ∷ []) [
      | true ↦ λ h. absurd (false≢true (sym h))
      | false ↦ λ h. keyed_last e fd d ws w h own
    ] absent

module _ {ws : List Waiter} (v : Seen) (r : Registrations) (now : ℕ) (t : State) (stands : Stands v r ws now t) (linked : AreLinked v r) (sound : Sound v) (named : Named) (fd : Fd) (instance_lives : IsSome (number_under v named.instance)) (desc_lives : IsSome (number_under v named.desc)) (descriptor : fd.0 ≡ pos (number_in fd.0)) where
  abbrev tests : KernelWatch → Bool
  tests = is_at (number_at v.keys named.instance) (number_in fd.0) (number_at v.keys named.desc)

  abbrev ready : ℕ → Bool
  ready = readiness v now r

  any_reportable : (xs : List Watch) → list_any (is_reportable t) xs ≡ list_any (shows (machine_readiness t) t.files t.now) (kernel_watches t xs)
  any_reportable [] = refl
  any_reportable (x ∷ xs) = let one = reportable_kept t x in let rest = any_reportable xs in λ i. one i || rest i

  keyed : (xs : List Entry) → All (IsLinked v.keys) xs → filter tests (map (watch_at v.keys) xs) ≡ map (watch_at v.keys) (filter (has_key named.instance fd named.desc) xs)
  keyed [] h = refl
  keyed (x ∷ xs) h =
      let rest = keyed xs (All-tail (IsLinked v.keys) x xs h) in
      let one = same_key_test v named.instance named.desc fd.0 sound instance_lives desc_lives descriptor x (All-head (IsLinked v.keys) x xs h) in
      (λ i. cond (one i) (watch_at v.keys x ∷ rest i) (rest i))
      ∙ elim (has_key named.instance fd named.desc x) as (λ b. cond b (watch_at v.keys x ∷ map (watch_at v.keys) (filter (has_key named.instance fd named.desc) xs)) (map (watch_at v.keys) (filter (has_key named.instance fd named.desc) xs)) ≡ map (watch_at v.keys) (cond b (x ∷ filter (has_key named.instance fd named.desc) xs) (filter (has_key named.instance fd named.desc) xs))) [
        | true ↦ refl
        | false ↦ refl
      ]

  any_shows : (xs : List Entry) → list_any (shows ready v.files now) (map (watch_at v.keys) xs) ≡ list_any (entry_shows ready v now) xs
  any_shows [] = refl
  any_shows (x ∷ xs) = ap (λ (b : Bool). entry_shows ready v now x || b) (any_shows xs)

  -- the machine finds the same instances ready
  same_ready : machine_readiness t ≡ ready
  same_ready = λ i. ready_now (stands.files i) (stands.now i) (stands.watches i)

  abbrev keyed_there : List Watch
  keyed_there = filter (λ x. tests (kernel_watch t x)) t.watches

  looks : list_any (is_reportable t) keyed_there ≡ list_any (entry_shows ready v now) (filter (has_key named.instance fd named.desc) r.entries)
  looks =
      any_reportable keyed_there
      ∙ (ap (list_any (shows (machine_readiness t) t.files t.now)) (kept_filter t tests t.watches)
      ∙ ((λ i. list_any (shows (same_ready i) (stands.files i) (stands.now i)) (filter tests (stands.watches i)))
      ∙ (ap (list_any (shows ready v.files now)) (keyed r.entries linked) ∙ any_shows (filter (has_key named.instance fd named.desc) r.entries))))

  bits_are : (b : Bool) (j : ℕ) → raised_of ((number_at v.keys named.instance, when b IN) ∷ []) j ≡ raised_bits (if b then Instance named.instance else Nowhere) v now j
  bits_are true j = here (number_at v.keys named.instance == j) where
    here : (c : Bool) → bit_or (when c IN) 0 ≡ when c IN
    here true = refl
    here false = refl
  bits_are false j = nothing (number_at v.keys named.instance == j) where
    nothing : (c : Bool) → bit_or (when c 0) 0 ≡ 0
    nothing true = refl
    nothing false = refl

  -- the machine raises at the instance what the kernel does
  pub raises_looked : (j : ℕ) → raised_of (looked_at t (number_at v.keys named.instance) (filter (has_numbers (number_at v.keys named.instance) (number_in fd.0) (number_at v.keys named.desc)) t.watches)) j ≡ raised_bits (raising_of_ctl v now r named fd) v now j
  raises_looked j =
      ap (λ (b : Bool). raised_of ((number_at v.keys named.instance, when b IN) ∷ []) j) looks
      ∙ bits_are (list_any (entry_shows ready v now) (filter (has_key named.instance fd named.desc) r.entries)) j
