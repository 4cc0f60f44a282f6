-- Where each registration after a change comes from.
use Rattle.std.proofs.Common.{◌≡◌, ◌≤◌, ℕ, zero, suc, ◌+◌, arith, ◌&&◌, ◌==◌, ◌++◌, ◌⊎◌, ◌∙◌, Bool, List, [], ◌∷◌, MatchOption, None, Option, Some, ℤ, pos, negsuc, true, false, not, ap, cond, filter, inl, inr, map, refl, subst, sym}
use Rattle.std.proofs.lemmas.Bool.{cases_Bool, false≢true}
use Rattle.ep_facts.proofs.NatFacts.{from_test, same_nat}
use Rattle.ep_facts.proofs.BoolFacts.{first_of_and}
use Rattle.ep_base.specs.Limits.{Limits}
use Rattle.ep_base.specs.declared.answer.Answer.TheVariants.{Events}
use Rattle.ep_base.specs.declared.call.Call.{Call}
use Rattle.ep_base.specs.declared.call.Call.TheVariants.{EpollCtl, EpollWait}
use Rattle.ep_base.specs.declared.call.Event.{Event}
use Rattle.ep_base.specs.declared.call.Event.TheVariants.{Call as CallOf, Resume, Tick}
use Rattle.ep_base.specs.declared.ids.Fd.{Fd}
use Rattle.ep_base.specs.declared.ids.Pid.{Pid}
use Rattle.ep_base.specs.declared.mask.Mask.{Mask}
use Rattle.ep_machine.specs.Bits.{ONESHOT, has_bit}
use Rattle.ep_machine.specs.Files.{named_by}
use Rattle.ep_law.proofs.ChangeLemmas.{kept_same}
use Rattle.ep_law.specs.Laws.{Kept, Member}
use Rattle.ep_machine.specs.Lists.{is_among}
use Rattle.ep_machine.specs.Readiness.{is_ready}
use Rattle.ep_machine.specs.Report.{is_pick, plainly, report, report_of, reported, watches_at}
use Rattle.ep_machine.specs.State.{Change, State, Watch, counts_of}
use Rattle.ep_machine.specs.Step.{call_change, change}
use Rattle.ep_machine.specs.Waits.{leave_after, resume, tick, wait_for}
use Rattle.ep_machine.specs.Watches.{ctl, has_key, is_add, is_del, modified, new_watch, number_in, with_watch}
use Rattle.ep_law.proofs.GraphLemmas.{member_of_map}
use Rattle.ep_law.proofs.ListLemmas.{filtered_member}
use Rattle.ep_law.proofs.StepLemmas.{left_after, resumes, only_files}
use Rattle.ep_order.specs.Event.{IsAltered}
use Rattle.ep_machine.specs.Objects.{asks}
use Rattle.std.proofs.Common.{ap}

-- one that was there, and may only have been reported
pub record Stayed (b : State) (x : Watch) : Type 0 where
  pub kept : Kept b x
  pub number : x.number ≡ kept.was.number

-- one that the event reported
pub record Told (b : State) (picked : List ℕ) (x : Watch) : Type 0 where
  pub was : Watch
  pub there : Member was b.watches
  pub number : x.number ≡ was.number
  pub instance : x.instance ≡ was.instance
  pub stayed : Stayed b x
  pub target : x.target ≡ was.target
  pub mask : x.mask ≡ was.mask
  pub told : is_among picked x.number ≡ true
  pub rep : x.rep ≡ b.n
  pub from : x.from ≡ b.n

-- the mask of an epoll_ctl
abbrev pub HasMask : Event → ℕ → Type 0
HasMask (CallOf p (EpollCtl epfd op fd mask tag)) k = k ≡ mask.0
HasMask event k = ⊥

-- one that the event modified
pub record Modified (b : State) (event : Event) (x : Watch) : Type 0 where
  pub was : Watch
  pub there : Member was b.watches
  pub number : x.number ≡ was.number
  pub instance : x.instance ≡ was.instance
  pub rep : x.rep ≡ was.rep
  pub from : x.from ≡ was.from
  pub fd : x.fd ≡ was.fd
  pub target : x.target ≡ was.target
  pub mask : HasMask event x.mask
  pub altered : IsAltered b event x
  pub was_altered : IsAltered b event was

-- one that the event added
pub record Added (b : State) (event : Event) (x : Watch) : Type 0 where
  pub number : x.number ≡ b.added + 1
  pub rep : x.rep ≡ 0
  pub altered : IsAltered b event x

-- one that was there as it is, or was modified, or added
abbrev pub Untold : State → Event → Watch → Type 0
Untold b event x = Member x b.watches ⊎ (Modified b event x ⊎ Added b event x)

abbrev pub Origin : State → Event → List ℕ → Watch → Type 0
Origin b event picked x = Told b picked x ⊎ ((is_among picked x.number ≡ false) × Untold b event x)

member_push : (x w : Watch) (xs : List Watch) → Member x (xs ++ w ∷ []) → Member x xs ⊎ (x ≡ w)
member_push x w [] (inl e) = inr e
member_push x w [] (inr m) = absurd m
member_push x w (y ∷ ys) (inl e) = inl (inl e)
member_push x w (y ∷ ys) (inr m) = elim (member_push x w ys m) [ inl a ↦ inl (inr a) | inr e ↦ inr e ]

abbrev after_report : State → Watch → Watch
after_report s x = record x { seen = Some (counts_of s x.target); rep = s.n; from = s.n; armed = x.armed && not (has_bit x.mask ONESHOT) }

add_no_delete : (op : ℤ) → is_add op ≡ true → is_del op ≡ false
add_no_delete (pos k) h = ap (λ (j : ℕ). j == 2) (from_test k 1 h)
add_no_delete (negsuc k) h = absurd (false≢true h)

all_three : (a b c : Bool) → a ≡ true → b ≡ true → c ≡ true → (a && b && c) ≡ true
all_three a b c f g h = λ i. f i && g i && h i

-- One event.
module _ (b : State) (event : Event) where
  -- one registration is added, or none
  abbrev pub Adds : State → Type 0
  Adds u = (b.added ≤ u.added) × (u.added ≤ b.added + 1)

  pub adds_none : (u : State) → u.added ≡ b.added → Adds u
  adds_none u a = (omega (arith, a), omega (arith, a))

  Good : List ℕ → State → Type 0
  Good ks u = (u.n ≡ b.n) × Adds u × ((x : Watch) → Member x u.watches → Origin b event ks x)

  Fine : List ℕ → Option Change → Type 0
  Fine ks c = MatchOption c (Unit {0}) (λ o. Good ks o.1)

  still : Good [] b
  unfolding Good
  still = (refl, adds_none b refl, λ x m. inr (refl, inl m))

  fine_plainly : (ks : List ℕ) (c : Change) → Good [] c.1 → Fine ks (plainly ks c)
  unfolding Fine
  fine_plainly [] c g = g
  fine_plainly (k ∷ ks) c g = tt

  fine_if : (ks : List ℕ) (d : Bool) (c e : Option Change) → Fine ks c → Fine ks e → Fine ks (cond d c e)
  fine_if ks true c e g f = g
  fine_if ks false c e g f = f

  told_origin : (ks : List ℕ) (x : Watch) → Member x (map (reported b ks) b.watches) → Origin b event ks x
  told_origin ks x m =
      let w = member_of_map (reported b ks) b.watches x m in
      elim (cases_Bool (is_among ks w.0.number)) [
        | inl t ↦
            let is : after_report b w.0 ≡ x = ap (λ (c : Bool). cond c (after_report b w.0) w.0) (sym t) ∙ w.2 in
            let kept : Kept b (after_report b w.0) = record { was = w.0; there = w.1; instance = refl; target = refl; mask = refl; armed = λ a. first_of_and w.0.armed _ a; seen = inr refl } in
            subst (Origin b event ks) is (inl (record { was = w.0; there = w.1; number = refl; instance = refl; stayed = record { kept = kept; number = refl }; target = refl; mask = refl; told = t; rep = refl; from = refl }))
        | inr f ↦
            let is : w.0 ≡ x = ap (λ (c : Bool). cond c (after_report b w.0) w.0) (sym f) ∙ w.2 in
            subst (Origin b event ks) is (inr (f, inl w.1))
      ]

  fine_report : (e most : ℕ) (ks : List ℕ) → Fine ks (report b e most ks)
  unfolding Fine Good
  fine_report e most ks =
      let c : Change = (Events (map (report_of b) (watches_at b.watches ks)), record b { watches = map (reported b ks) b.watches }, []) in
      elim (is_pick b e most ks) as (λ d. Fine ks (cond d (Some c) None)) [ true ↦ (refl, adds_none (record b { watches = map (reported b ks) b.watches }) refl, told_origin ks) | false ↦ tt ]

  good_moved : (u : State) → u.n ≡ b.n → u.added ≡ b.added → u.watches ≡ b.watches → Good [] u
  unfolding Good
  good_moved u n a w = (n, adds_none u a, λ x m. inr (refl, inl (subst (λ (xs : List Watch). Member x xs) w m)))

  good_wait_for : (caller p e most : ℕ) (timeout : ℤ) → Good [] (wait_for b caller p e most timeout).1
  good_wait_for caller p e most (pos zero) = good_moved _ refl refl refl
  good_wait_for caller p e most (pos (suc i)) = good_moved _ refl refl refl
  good_wait_for caller p e most (negsuc i) = good_moved _ refl refl refl

  fine_moved : (ks : List ℕ) (c : Change) → c.1.n ≡ b.n → c.1.added ≡ b.added → c.1.watches ≡ b.watches → Fine ks (plainly ks c)
  fine_moved ks c n a w = fine_plainly ks c (good_moved c.1 n a w)

  module _ (e fd d mask tag : ℕ) (sets : HasMask event mask) (alters : (x : Watch) → has_key e fd d x ≡ true → IsAltered b event x) where
    good_add : Good [] (with_watch b (new_watch b e fd d mask tag))
    unfolding Good
    good_add =
        let w = new_watch b e fd d mask tag in (
          refl,
          (omega arith, omega arith),
          λ x m. elim (member_push x w b.watches m) [
            | inl old ↦ inr (refl, inl old)
            | inr new ↦
                let one : Added b event w = record { number = refl; rep = refl; altered = alters w (all_three _ _ _ (same_nat e) (same_nat fd) (same_nat d)) } in
                inr (refl, inr (inr (subst (Added b event) (sym new) one)))
          ],
        )

    good_modify : Good [] (record b { watches = map (modified e fd d mask tag) b.watches })
    unfolding Good
    good_modify = (
      refl,
      adds_none (record b { watches = map (modified e fd d mask tag) b.watches }) refl,
      λ x m.
          let w = member_of_map (modified e fd d mask tag) b.watches x m in
          let made : Watch = record (w.0) { mask = mask; tag = tag; armed = true; seen = None } in
          subst (Origin b event []) w.2 (elim (has_key e fd d w.0) as (λ c. has_key e fd d w.0 ≡ c → Origin b event [] (cond c made w.0)) [
            | true ↦ λ is. inr (refl, inr (inl (record { was = w.0; there = w.1; number = refl; instance = refl; rep = refl; from = refl; fd = refl; target = refl; mask = sets; altered = alters made is; was_altered = alters w.0 is })))
            | false ↦ λ is. inr (refl, inl w.1)
          ] refl),
    )

  good_delete : (p : Watch → Bool) → Good [] (record b { watches = filter p b.watches })
  unfolding Good
  good_delete p = (refl, adds_none (record b { watches = filter p b.watches }) refl, λ x m. inr (refl, inl (filtered_member p b.watches x m)))

  -- by its cases
  good_by : (op : ℤ) (add delete modify : Change) → (is_del op ≡ false → Good [] add.1) → Good [] delete.1 → (is_del op ≡ false → Good [] modify.1)
      → Good [] (cond (is_add op) add (cond (is_del op) delete modify)).1
  good_by op add delete modify g f h =
      elim (is_add op) as (λ a. is_add op ≡ a → Good [] (cond a add (cond (is_del op) delete modify)).1) [
        | true ↦ λ is. g (add_no_delete op is)
        | false ↦ λ is. elim (is_del op) as (λ d. is_del op ≡ d → Good [] (cond d delete modify).1) [ true ↦ λ k. f | false ↦ λ k. h k ] refl
      ] refl

  fine_left : (caller : ℕ) (ks : List ℕ) (o : Option Change) → Fine ks o → Fine ks (leave_after caller o)
  unfolding Fine Good
  fine_left caller ks o g = left_after (Good ks) (λ u ws f. f) caller o g

  fine_wait : (caller p e most : ℕ) (timeout : ℤ) (ks : List ℕ) → Fine ks (cond (is_ready b e) (report b e most ks) (plainly ks (wait_for b caller p e most timeout)))
  fine_wait caller p e most timeout ks = fine_if ks (is_ready b e) _ _ (fine_report e most ks) (fine_plainly ks _ (good_wait_for caller p e most timeout))

  fine_resume : (caller : ℕ) (ks : List ℕ) → Fine ks (resume b caller ks)
  fine_resume caller ks =
      resumes (Fine ks) b caller ks (fine_plainly ks _ still) (λ w. fine_left w.caller ks _ (fine_report w.instance w.most ks)) (λ w. fine_moved ks _ refl refl refl) (λ w. fine_moved ks _ refl refl refl)

-- The events.
module _ (limits : Limits) (b : State) where
  good_ctl : (p : Pid) (epfd : Fd) (op : ℤ) (fd : Fd) (mask : Mask) (tag : ℕ) → Good b (CallOf p (EpollCtl epfd op fd mask tag)) [] (ctl b p.0 epfd.0 op fd.0 mask.0 tag).1
  good_ctl p epfd op fd mask tag =
      let event = CallOf p (EpollCtl epfd op fd mask tag) in
      let e = named_by b.files p.0 epfd.0 in
      let d = named_by b.files p.0 fd.0 in
      let k = number_in fd.0 in
      good_by b event op _ _ _
      (λ keeps. good_add b event e k d mask.0 tag refl (λ x has. (keeps, has)))
      (good_delete b event (λ x. not (has_key e k d x)))
      (λ keeps. good_modify b event e k d mask.0 tag refl (λ x has. (keeps, has)))

  fine_call : (caller : ℕ) (p : Pid) (call : Call) (ks : List ℕ) → Fine b (CallOf p call) ks (call_change limits b caller p.0 call ks)
  fine_call caller p (EpollCtl epfd op fd mask tag) ks = fine_plainly b _ ks _ (good_ctl p epfd op fd mask tag)
  fine_call caller p (EpollWait epfd most timeout) ks = fine_wait b _ caller p.0 (named_by b.files p.0 epfd.0) (number_in most) timeout ks
  fine_call caller p call ks =
      let only = (only_files limits b p.0 call (asks b.files.objects call)).1 in
      fine_moved b _ ks _ (ap (λ (t : State). t.n) only) (ap (λ (t : State). t.added) only) (ap (λ (t : State). t.watches) only)

  fine_change : (caller : ℕ) (event : Event) (ks : List ℕ) → Fine b event ks (change limits b caller event ks)
  fine_change caller (CallOf p call) ks = fine_call caller p call ks
  fine_change caller Resume ks = fine_resume b Resume caller ks
  fine_change caller (Tick n) ks = fine_moved b _ ks (tick b n) refl refl refl

  -- each registration after a change, and how many events and registrations there were
  pub origins : (caller : ℕ) (event : Event) (ks : List ℕ) (c : Change) → change limits b caller event ks ≡ Some c → (c.1.n ≡ b.n) × Adds b event c.1 × ((x : Watch) → Member x c.1.watches → Origin b event ks x)
  unfolding Fine Good
  origins caller event ks c is = subst (Fine b event ks) is (fine_change caller event ks)

  -- it was there and may only have been reported, or the event added or modified it
  pub sources : (caller : ℕ) (event : Event) (ks : List ℕ) (c : Change) → change limits b caller event ks ≡ Some c → (x : Watch) → Member x c.1.watches → Stayed b x ⊎ IsAltered b event x
  sources caller event ks c is x m = elim ((origins caller event ks c is).2 x m) [
    | inl told ↦ inl told.stayed
    | inr untold ↦ elim untold.1 [
      | inl same ↦ inl (record { kept = kept_same b x same; number = refl })
      | inr altered ↦ elim altered [ inl m ↦ inr m.altered | inr a ↦ inr a.altered ]
    ]
  ]
