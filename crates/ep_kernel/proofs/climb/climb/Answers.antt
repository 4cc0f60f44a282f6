use Rattle.std.proofs.Common.{◌∙◌, ap, subst, sym}
use Rattle.ep_climb.proofs.ClimbLemmas.{live_of}
use Rattle.ep_climb.specs.Reach.{AreReached}
use Rattle.ep_kernel.specs.Beside.{Each}
use Rattle.ep_kernel.specs.Push.{Gains, comes_in}
use Rattle.ep_kernel.specs.declared.beside.Beside.{Beside}
use Rattle.ep_kernel.proofs.climb.climb.Goals as goal
use Rattle.ep_kernel.proofs.climb.climb.Goals.{After-push}

pub push-requires-clause-live : goal.push-requires-clause-live
push-requires-clause-live c =
    let p = c.args.parts.now in
    live_of c.args.step p.tables p.interest c.reach.new.reached.reached c.reach.ensures.reached

-- nothing but lists and hopes changes by the push
pushed : (c : After-push) → Each (Gains (comes_in c.args.step c.args.parts.now)) (record c.args.beside.now { reached = c.reach.new.reached }) c.push.new.beside
pushed c = c.push.ensures c.args.step c.reach.ensures.reached

-- so what was reached still is
still_exact : (c : After-push) → AreReached c.args.step c.args.parts.now.tables c.args.parts.now.interest c.push.new.beside.reached.reached
still_exact c =
    subst (λ (b : Beside). AreReached c.args.step c.args.parts.now.tables c.args.parts.now.interest b.reached.reached) (sym (pushed c).rest) c.reach.ensures.reached

pub freshen-requires : goal.freshen-requires
freshen-requires c = (c.args.step, still_exact (goal.at.freshen-requires c).After-push)

pub returns-clause-climbs : goal.returns-clause-climbs
returns-clause-climbs c =
    let n = c.args.step in
    let p = c.args.parts.now in
    let each = pushed (goal.at.returns-clause-climbs c).After-push in
    record {
      gains = record { lists = each.alike.lists; hopes = each.alike.hopes };
      reached = subst (λ (x : Beside). AreReached n p.tables p.interest x.reached.reached) (sym each.rest) c.reach.ensures.reached;
      room = ap (λ (x : Beside). x.reached.room) each.rest ∙ c.reach.ensures.room;
      choice = ap (λ (x : Beside). x.choice) each.rest;
    }

pub returns-clause-rises : goal.returns-clause-rises
returns-clause-rises c = c.freshen.ensures.rises c.args.step (still_exact (goal.at.returns-clause-rises c).After-push)
