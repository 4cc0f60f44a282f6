-- An auditor that is asked of one record more, and one that is asked of a list.
use Rattle.std.proofs.Common.{◌≡◌, ◌∙◌, ◌++◌, ◌+◌, ◌<◌, ◌∷◌, [], ℕ, Bool, List, None, Option, Some, ap, ap₂, false, get_or, if◌then◌else◌, is_some, length, subst, sym, take, true, unwrap_or}
use Rattle.std.proofs.lemmas.List.{take_more}
use Rattle.ep_base.specs.Limits.{Limits}
use Rattle.ep_base.specs.declared.record.Record.{Record}
use Rattle.ep_calls.specs.Book.{Book, state_of}
use Rattle.ep_law.proofs.StepLemmas.{run_on-append}
use Rattle.ep_machine.specs.Run.{go_on, is_run, run}
use Rattle.ep_machine.specs.State.{State, opening}
use Rattle.ep_audit.specs.Audit.{Follows, HasMade, IsFirstIllegal}
use Rattle.ep_audit.specs.Auditor.{HasAllowed, HasMadeInstead, IsAllowedFor, Judges}
use Rattle.ep_audit.specs.declared.auditor.Auditor.{Auditor}

run_more : (limits bounds : Limits) (records : List Record) (s t : State) (next : Record) (goes : Bool)
    → bounds ≡ limits
    → run limits opening records ≡ Some s
    → Follows bounds s t next goes
    → run limits opening (records ++ next ∷ []) ≡ (if goes then Some t else None)
run_more limits bounds records s t next goes same before follows =
    run_on-append limits (Some opening) records next
    ∙ ap (λ (o : Option State). go_on limits o next) before
    ∙ subst (λ (l : Limits). Follows l s t next goes) same follows

-- ---- records were taken out

same_state : (a b : Book) → a.limits ≡ b.limits → a.past ≡ b.past → state_of a ≡ state_of b
same_state a b limits past = ap₂ (λ (l : Limits) (p : List Record). unwrap_or (run l opening p) opening) limits past

pub taken_out : (limits : Limits) (records : List Record) (old new : Auditor)
    → new.kernel.limits ≡ old.kernel.limits
    → new.kernel.past ≡ old.kernel.past
    → HasAllowed limits records old
    → HasAllowed limits records new
taken_out limits records old new same past p = record {
  limits_are = same ∙ p.limits_are;
  ran = p.ran ∙ ap (λ (s : State). Some s) (sym (same_state new.kernel old.kernel same past));
}

pub made_before : (old new : Book) (next : Record) (now : List Record)
    → new.limits ≡ old.limits
    → new.past ≡ old.past
    → HasMade new.limits (state_of new) next now
    → HasMade old.limits (state_of old) next now
made_before old new next now limits past p =
    subst (λ (l : Limits). HasMade l (state_of old) next now) limits
    (subst (λ (s : State). HasMade new.limits s next now) (same_state new old limits past) p)

-- ---- one record more

pub judges : (limits : Limits) (records : List Record) (old new : Auditor) (next : Record) (goes : Bool)
    → HasAllowed limits records old
    → new.kernel.limits ≡ old.kernel.limits
    → Follows old.kernel.limits (state_of old.kernel) (state_of new.kernel) next goes
    → Judges limits (records ++ next ∷ []) new goes
judges limits records old new next true p same follows = record {
  limits_are = same ∙ p.limits_are;
  ran = run_more limits old.kernel.limits records (state_of old.kernel) (state_of new.kernel) next true p.limits_are p.ran follows;
}
judges limits records old new next false p same follows =
    ap is_some (run_more limits old.kernel.limits records (state_of old.kernel) (state_of new.kernel) next false p.limits_are p.ran follows)

pub is_allowed : (limits : Limits) (records : List Record) (auditor : Auditor) → HasAllowed limits records auditor → is_run limits records ≡ true
is_allowed limits records auditor p = ap is_some p.ran

-- what was made in place of a record is allowed there
pub allowed_made : (limits : Limits) (records : List Record) (old new : Auditor) (next : Record)
    → HasAllowed limits records old
    → (m : HasMadeInstead old next new)
    → IsAllowedFor limits records next m.last
allowed_made limits records old new next p m = record {
  same = m.same;
  allowed =
      ap is_some (run_on-append limits (Some opening) records m.last ∙ ap (λ (o : Option State). go_on limits o m.last) p.ran)
      ∙ (ap (λ (l : Limits). is_some (go_on l (Some (state_of old.kernel)) m.last)) (sym p.limits_are) ∙ m.goes);
}

-- and it is the last record
pub last_made : (old new : Auditor) (next : Record) (o : Option Record)
    → (m : HasMadeInstead old next new)
    → ((before : List Record) (last : Record) → new.kernel.past ≡ before ++ last ∷ [] → o ≡ Some last)
    → o ≡ Some m.last
last_made old new next o m is = is m.before m.last m.made

-- ---- the records of a list

pub goes_on : (limits : Limits) (records : List Record) (place : ℕ) (next : Record) (auditor : Auditor) (allowed : Bool)
    → place < length records
    → next ≡ get_or records place next
    → allowed ≡ true
    → Judges limits (take place records ++ next ∷ []) auditor allowed
    → HasAllowed limits (take (place + 1) records) auditor
goes_on limits records place next auditor allowed within is e judged =
    subst (λ (rs : List Record). HasAllowed limits rs auditor)
    (sym (take_more records place next within ∙ ap (λ (r : Record). take place records ++ r ∷ []) (sym is)))
    (subst (Judges limits (take place records ++ next ∷ []) auditor) e judged)

pub goes_wrong : (limits : Limits) (records : List Record) (place : ℕ) (next : Record) (old new : Auditor) (allowed : Bool)
    → place < length records
    → next ≡ get_or records place next
    → allowed ≡ false
    → HasAllowed limits (take place records) old
    → Judges limits (take place records ++ next ∷ []) new allowed
    → IsFirstIllegal limits records place
goes_wrong limits records place next old new allowed within is e had judged = record {
  before = is_allowed limits (take place records) old had;
  with_it =
      ap (is_run limits) (take_more records place next within ∙ ap (λ (r : Record). take place records ++ r ∷ []) (sym is))
      ∙ subst (Judges limits (take place records ++ next ∷ []) new) e judged;
}
