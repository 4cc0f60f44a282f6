use Rattle.std.proofs.Common.{rules, ◌≡◌, ◌∙◌, ◌<◌, ap, arith, get_or, length, map, sym}
use Rattle.std.specs.Prelude.{None, flat_map, zip}
use Rattle.std.proofs.lemmas.List.{length-map}
use Rattle.ep_pool.specs.Jobs.{GivesBack, stop_of}
use Rattle.ep_pool.proofs.StepLemmas.{lift_each, zip_maps}
use Rattle.ep_shared.specs.Sessions.{caller_of}
use Rattle.ep_pool.proofs.pool.run_sessions.Goals as goal

pub returns-in-Ok : goal.returns-in-Ok
returns-in-Ok g c =
    let ran = c.in_ok-ran.ran.items in
    let have = c.in_ok-ran.ensures in
    let says = c.in-Ok.ensures in
    record {
      stops = map (λ r. r.stopped) ran;
      len = ap length says.sessions ∙ (length-map ran (λ r. r.session) ∙ have.len);
      stopped = says.stopped ∙ zip_maps caller_of (λ r. r.session) (λ r. r.stopped) ran ∙ ap (λ xs. flat_map (λ x. stop_of x.0 x.1) (zip (map caller_of xs) (map (λ r. r.stopped) ran))) (sym says.sessions);
      each = λ i j s low.
          let job = get_or c.args.jobs.items i j in
          let below : i < length ran = omega (arith, have.len) in
          lift_each (λ r. r.session) (λ r. r.stopped) ran c.in-Ok.all.sessions.items (λ t k. GivesBack job t k) i s (record { session = s; stopped = None }) says.sessions below (have.each i j (record { session = s; stopped = None }) low);
    }
