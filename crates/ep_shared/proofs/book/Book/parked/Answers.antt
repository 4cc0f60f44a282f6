use Rattle.std.proofs.Common.{◌+◌, ◌++◌, ◌∷◌, ◌∙◌, [], ℕ, List, ap, filter, map, sym, true, false, arith, append-nil}
use Rattle.std.specs.List.{range_with_len}
use Rattle.std.proofs.lemmas.List.{map-append}
use Rattle.ep_base.specs.declared.ids.CallerId.{CallerId}
use Rattle.ep_machine.specs.Waits.{is_parked}
use Rattle.ep_shared.proofs.ParkedLemmas.{among_more}
use Rattle.ep_shared.proofs.book.Book.parked.Goals as goal
use Rattle.ep_shared.proofs.book.Book.parked.Goals.{then-is_parked+in_ok-push, else-is_parked}

pub loop-before-preserved : goal.loop-before-preserved
loop-before-preserved g c =
    let s = g.K.Kernel.state c.args.self.now.kernel in
    let i = c.loop-before.before in
    elim c.if-is_parked.branch [
      | then-is_parked+in_ok-push w ↦
          (let among = among_more (is_parked s) 1 i (i + 1) true (omega arith) (sym c.is_parked.ensures ∙ w.if-is_parked.true) in
          let old = c.loop-before.parked.items in
          rw w.parked-is
          (ap (λ (cs : List CallerId). map (λ (x : CallerId). x.0) cs) w.in_ok-push.ensures.items
          ∙ (map-append (λ (x : CallerId). x.0) old (record { 0 = i + 1 } ∷ []) ∙ (ap (λ (ks : List ℕ). ks ++ (i + 1) ∷ []) c.loop-before.invariant ∙ sym among))))
      | else-is_parked w ↦
          (let among = among_more (is_parked s) 1 i (i + 1) false (omega arith) (sym c.is_parked.ensures ∙ w.if-is_parked.false) in
          rw w.parked-is (c.loop-before.invariant ∙ sym (among ∙ append-nil (filter (is_parked s) (range_with_len 1 i)))))
    ]
