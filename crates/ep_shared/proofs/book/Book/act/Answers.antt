use Rattle.std.proofs.Common.{◌≡◌, ◌∙◌, ◌++◌, ◌∷◌, [], All, Bool, List, MatchBool, ap, false, rules, subst, sym, true, ℕ}
use Rattle.std.proofs.lemmas.List.Elements.{All-append, All-cons, All-nil}
use Rattle.ep_base.specs.Limits.{Limits}
use Rattle.ep_base.specs.declared.answer.Answer.{Answer}
use Rattle.ep_base.specs.declared.call.Event.{Event}
use Rattle.ep_base.specs.declared.ids.CallerId.{CallerId}
use Rattle.ep_base.specs.declared.record.Record.{Record}
use Rattle.ep_calls.specs.Acts.{Adds, Stays, is_no_memory}
use Rattle.ep_machine.specs.Run.{run}
use Rattle.ep_machine.specs.State.{State, opening}
use Rattle.ep_shared.specs.Parts.{IsBetween}
use Rattle.ep_shared.proofs.book.Book.act.Goals as goal

-- what holds of all records, and of any of this caller, holds of all when one of its events was added
holds_on : (P : Record → Type 0) (b : Bool) (limits : Limits) (caller : CallerId) (event : Event) (answer : Answer) (s t : State) (past now : List Record) → b ≡ false
    → MatchBool b (Stays s t past now) (Adds limits caller event answer s t past now) → All P past
    → ((picked : List ℕ) → P (record { caller = caller; event = event; answer = answer; picked = picked })) → All P now
holds_on P true limits caller event answer s t past now is_real acts all one = cc
holds_on P false limits caller event answer s t past now is_real acts all one =
    let r : Record = record { caller = caller; event = event; answer = answer; picked = acts.picked } in
    subst (All P) (sym acts.added) (All-append P past (r ∷ []) all (All-cons P r [] (one acts.picked) (All-nil P)))

pub invariant_of-self-clause-run : goal.invariant_of-self-clause-run
invariant_of-self-clause-run g c =
    ap (λ (rs : List Record). run (g.K.Kernel.bounds c.step_kept-answer.new.self) opening rs) (sym c.history-past.ensures.past) ∙ c.history-past.ensures.replays

pub invariant_of-self-clause-whole : goal.invariant_of-self-clause-whole
invariant_of-self-clause-whole g c = c.step_kept-answer.ensures.taken ∙ c.args.self.now.whole

pub invariant_of-self-clause-within : goal.invariant_of-self-clause-within
invariant_of-self-clause-within g c =
    let count = c.args.self.now.count in
    let name = c.args.session.now.name in
    let is_real : is_no_memory c.step_kept-answer.result ≡ false = search rules in
    let between : IsBetween count.number name.number = subst (λ n. IsBetween n name.number) (sym count.all) name.within in
    holds_on (λ r. IsBetween count.number r.caller.0) (is_no_memory c.step_kept-answer.result) _ _ _ _ _ _ _ _ is_real c.step_kept-answer.ensures.acts c.args.self.now.within (λ picked. between)

pub returns-then-not-is_no_memory-clause-acts : goal.returns-then-not-is_no_memory-clause-acts
returns-then-not-is_no_memory-clause-acts g c = c.step_kept-answer.ensures.acts
