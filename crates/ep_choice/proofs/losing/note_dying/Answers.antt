use Rattle.std.proofs.Common.{◌≡◌, filter, length, subst}
use Rattle.ep_calls.specs.Parts.{Parts}
use Rattle.ep_choice.proofs.LosingLemmas.{all_dying, dying_keys, none_dying, with_guards, without_guards}
use Rattle.ep_interest.specs.Exclusive.{is_exclusive}
use Rattle.ep_choice.proofs.losing.note_dying.Goals as goal

pub returns-then-guards-eq0 : goal.returns-then-guards-eq0
returns-then-guards-eq0 c =
    let p = c.args.parts.now in
    let counts = subst (λ (q : Parts). c.guards.result ≡ length (filter is_exclusive q.interest.entries)) c.parts.view_is c.guards.ensures in
    let keys = dying_keys p.tables c.known.ensures.sound p.tables.dying (λ d t. t) in
    (keys.0, keys.1, none_dying p keys.0 c.args.lost.now (without_guards p.interest c.guards.result counts c.if-guards-eq0.true))

pub returns : goal.returns
returns c =
    let p = c.args.parts.now in
    let counts = subst (λ (q : Parts). c.guards.result ≡ length (filter is_exclusive q.interest.entries)) c.parts.view_is c.guards.ensures in
    let noted = c.note_each.ensures in
    (noted.0, noted.1, all_dying p noted.0 c.args.lost.now c.note_each.new.lost (with_guards p.interest c.guards.result counts c.if-guards-eq0.false) noted.2)
