use Rattle.std.proofs.Common.{◌≡◌, ◌∙◌, All, ap, subst, sym, true}
use Rattle.ep_calls.proofs.KeepsLemmas.{state_is}
use Rattle.ep_kernel.proofs.ReadyBookLemmas.{complete_listed, once_listed, sound_listed}
use Rattle.ep_kernel.proofs.ready.ReadyKernel.known.Goals as goal
use Rattle.ep_kernel.specs.ReadyBook.{MayBeListed, ReadyBook, listed, state_of}
use Rattle.ep_law.specs.Laws.{is_reportable_in}
use Rattle.ep_machine.specs.Files.{object_of}
use Rattle.ep_machine.specs.Lists.{are_distinct, is_among}
use Rattle.ep_machine.specs.State.{State}
use Rattle.ep_records.specs.Past.{whole}
use Rattle.ep_view.specs.AtRest.{IsSteady, kind_of}

pub returns-clause-complete : goal.returns-clause-complete
returns-clause-complete c e n r =
    let k = c.self.inside in
    let keeps = c.self.invariant.runs.keeps in
    let before = ap (λ (s : State). is_reportable_in s e n) (sym (state_is (whole k.history) k.parts keeps)) ∙ (ap (λ (b : ReadyBook). is_reportable_in (state_of b) e n) c.self.view_is ∙ r) in
    subst (λ (b : ReadyBook). is_among (listed b e) n ≡ true) c.self.view_is
    (complete_listed k.parts k.beside.lists keeps.state keeps.stands c.know.ensures.coherent.linked c.know.ensures.tables c.know.ensures.interest c.known.ensures c.self.invariant.runs.listed e n before)

pub returns-clause-sound : goal.returns-clause-sound
returns-clause-sound c e n on =
    let k = c.self.inside in
    let keeps = c.self.invariant.runs.keeps in
    let may = sound_listed k.parts k.beside.lists keeps.state keeps.stands c.know.ensures.coherent.linked c.know.ensures.tables c.know.ensures.interest c.known.ensures c.self.invariant.runs.listed e n (ap (λ (b : ReadyBook). is_among (listed b e) n) c.self.view_is ∙ on) in
    subst (λ (b : ReadyBook). MayBeListed (state_of b) e n) c.self.view_is
    (subst (λ (s : State). MayBeListed s e n) (sym (state_is (whole k.history) k.parts keeps)) may)

pub returns-clause-once : goal.returns-clause-once
returns-clause-once c e =
    let k = c.self.inside in
    let keeps = c.self.invariant.runs.keeps in
    subst (λ (b : ReadyBook). are_distinct (listed b e) ≡ true) c.self.view_is
    (once_listed k.parts k.beside.lists keeps.state keeps.stands c.know.ensures.coherent.linked c.know.ensures.tables c.know.ensures.interest c.known.ensures c.self.invariant.runs.listed e)

pub returns-clause-live : goal.returns-clause-live
returns-clause-live c =
    let k = c.self.inside in
    let keeps = c.self.invariant.runs.keeps in
    subst (λ (b : ReadyBook). All (λ x. IsSteady (state_of b).files x.instance x.target) (state_of b).watches) c.self.view_is
    (subst (λ (s : State). All (λ x. IsSteady s.files x.instance x.target) s.watches) (sym (state_is (whole k.history) k.parts keeps)) keeps.quiet.watches)

pub returns-clause-waiting : goal.returns-clause-waiting
returns-clause-waiting c =
    let k = c.self.inside in
    let keeps = c.self.invariant.runs.keeps in
    subst (λ (b : ReadyBook). All (λ w. kind_of (object_of (state_of b).files w.instance) ≡ 1) (state_of b).waiters) c.self.view_is
    (subst (λ (s : State). All (λ w. kind_of (object_of s.files w.instance) ≡ 1) s.waiters) (sym (state_is (whole k.history) k.parts keeps)) keeps.quiet.waiting)
