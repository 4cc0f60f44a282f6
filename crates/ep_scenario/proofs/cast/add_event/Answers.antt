use Rattle.std.proofs.Common.{◌≡◌, ◌∙◌, ap, arith, map, set, subst, sym}
use Rattle.std.proofs.lemmas.List.{length-map, map-set}
use Rattle.ep_scenario.specs.Reading.{IsAt, more_of, part_of}
use Rattle.ep_scenario.proofs.PutLemmas.{part_at}
use Rattle.ep_scenario.proofs.cast.add_event.Goals as goal

pub returns-in-Some-clause-put : goal.returns-in-Some-clause-put
returns-in-Some-clause-put c =
    let lines = c.args.lines.now.items in
    let n = c.in-Some.number in
    let l = c.index_mut.result.now in
    let there = subst (λ ls. IsAt c.args.caller (map part_of ls) n) c.as_slice.ensures.value c.in-Some.ensures.there in
    let at = part_at lines n l (omega (arith, there.0, length-map lines part_of)) c.index_mut.ensures.value in
    map-set part_of lines n _ ∙ (ap (λ p. set (map part_of lines) n p) (ap (λ es. (l.caller, es)) c.in_ok-push.ensures.items ∙ ap (more_of c.args.event) (sym at))
    ∙ sym (there.2 c.args.event))
