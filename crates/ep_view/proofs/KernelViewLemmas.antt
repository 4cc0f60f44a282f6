-- What is reportable, by registrations as they are kept.
use Rattle.std.proofs.Common.{◌≡◌, ℕ, zero, suc, ◌==◌, ◌&&◌, ◌||◌, ◌∙◌, Bool, List, [], ◌∷◌, true, false, ap, cond, filter, refl}
use Rattle.std.specs.List.{list_any}
use Rattle.ep_base.specs.declared.answer.Report.{Report}
use Rattle.ep_view.specs.KernelView.{KernelWatch, kernel_watches, kernel_watch, ready_now, ready_within, report_at, shown_at, shows, shows_in}
use Rattle.ep_machine.specs.Readiness.{is_ready, is_ready_within, is_reportable, is_reportable_by, reportables, shown, shown_by}
use Rattle.ep_machine.specs.Report.{report_of}
use Rattle.ep_machine.specs.State.{State, Watch}

any_where : (p q : Watch → Bool) (xs : List Watch) → ((x : Watch) → p x ≡ q x) → list_any p xs ≡ list_any q xs
any_where p q [] h = refl
any_where p q (x ∷ xs) h = let one = h x in let rest = any_where p q xs h in λ i. one i || rest i

filter_where : (p q : Watch → Bool) (xs : List Watch) → ((x : Watch) → p x ≡ q x) → filter p xs ≡ filter q xs
filter_where p q [] h = refl
filter_where p q (x ∷ xs) h = let one = h x in let rest = filter_where p q xs h in λ i. cond (one i) (x ∷ rest i) (rest i)

-- tests and filters go through it
pub kept_filter : (s : State) (p : KernelWatch → Bool) (xs : List Watch) → kernel_watches s (filter (λ x. p (kernel_watch s x)) xs) ≡ filter p (kernel_watches s xs)
kept_filter s p [] = refl
kept_filter s p (x ∷ xs) =
    let rest = kept_filter s p xs in
    elim (p (kernel_watch s x)) as (λ b. kernel_watches s (cond b (x ∷ filter (λ y. p (kernel_watch s y)) xs) (filter (λ y. p (kernel_watch s y)) xs)) ≡ cond b (kernel_watch s x ∷ filter p (kernel_watches s xs)) (filter p (kernel_watches s xs))) [
      | true ↦ ap (λ (ys : List KernelWatch). kernel_watch s x ∷ ys) rest
      | false ↦ rest
    ]

kept_any : (s : State) (p : KernelWatch → Bool) (xs : List Watch) → list_any (λ x. p (kernel_watch s x)) xs ≡ list_any p (kernel_watches s xs)
kept_any s p [] = refl
kept_any s p (x ∷ xs) = ap (λ (b : Bool). p (kernel_watch s x) || b) (kept_any s p xs)

in_instance : {a b : Bool} (e : ℕ) (x : Watch) → a ≡ b → (x.instance == e && a) ≡ (x.instance == e && b)
in_instance e x h = ap (λ (b : Bool). x.instance == e && b) h

ready_within_kept : (k : ℕ) (s : State) (e : ℕ) → is_ready_within k s e ≡ ready_within k s.files s.now (kernel_watches s s.watches) e
ready_within_kept zero s e = refl
ready_within_kept (suc k) s e =
    let r : ℕ → Bool = ready_within k s.files s.now (kernel_watches s s.watches) in
    let same : is_ready_within k s ≡ r = λ i d. ready_within_kept k s d i in
    any_where (λ x. x.instance == e && is_reportable_by (is_ready_within k s) s x) (λ x. shows_in r s.files s.now e (kernel_watch s x)) s.watches
    (λ x. in_instance e x (ap (λ (q : ℕ → Bool). is_reportable_by q s x) same))
    ∙ kept_any s (shows_in r s.files s.now e) s.watches

-- the instances that are ready
abbrev pub readiness : State → ℕ → Bool
readiness s = ready_now s.files s.now (kernel_watches s s.watches)

pub ready_kept : (s : State) (e : ℕ) → is_ready s e ≡ readiness s e
unfolding is_ready ready_now
ready_kept s e = ready_within_kept 5 s e

same_ready : (s : State) → is_ready s ≡ readiness s
same_ready s = λ i e. ready_kept s e i

pub shown_kept : (s : State) (x : Watch) → shown s x ≡ shown_at (readiness s) s.files s.now (kernel_watch s x)
shown_kept s x = ap (λ (r : ℕ → Bool). shown_by r s x) (same_ready s)

pub reportable_kept : (s : State) (x : Watch) → is_reportable s x ≡ shows (readiness s) s.files s.now (kernel_watch s x)
reportable_kept s x = ap (λ (r : ℕ → Bool). is_reportable_by r s x) (same_ready s)

pub report_one : (s : State) (x : Watch) → report_of s x ≡ report_at (readiness s) s.files s.now (kernel_watch s x)
report_one s x = ap (λ (k : ℕ). let r : Report = record { bits = record { 0 = k }; tag = x.tag } in r) (shown_kept s x)

pub reportables_kept : (s : State) (e : ℕ) → kernel_watches s (reportables s e) ≡ filter (shows_in (readiness s) s.files s.now e) (kernel_watches s s.watches)
reportables_kept s e =
    ap (kernel_watches s) (filter_where (λ x. x.instance == e && is_reportable s x) (λ x. shows_in (readiness s) s.files s.now e (kernel_watch s x)) s.watches (λ x. in_instance e x (reportable_kept s x)))
    ∙ kept_filter s (shows_in (readiness s) s.files s.now e) s.watches
