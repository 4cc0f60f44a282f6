use Rattle.std.proofs.Common.{◌≡◌, ◌<◌, [], length, take}
use Rattle.ep_choice.proofs.NarrowLemmas.{Narrows}
use Rattle.ep_choice.specs.Answers.{AreAnswers}
use Rattle.ep_choice.specs.Choose.{IsVain}
use Rattle.ep_choice.proofs.narrowing.narrow.Given as goal

abbrev pub invariant-loop-index : goal.invariant-loop-index
invariant-loop-index g l = record {
  narrows : Narrows l.fn.parts l.fn.step (take l.index l.targets.reached) l.parts;
  room : l.reached.room ≡ l.fn.reached.room;
  keys : l.candidates.keys.room ≡ l.fn.candidates.keys.room;
  vain : l.index < length l.targets.reached → IsVain l.parts l.reached.reached;
  answers : AreAnswers l.parts.tables l.parts.clock l.parts.interest l.parts.parked l.candidates;
  idle : l.targets.reached ≡ [] → (l.reached ≡ l.fn.reached) × (l.parts ≡ l.fn.parts);
  knows : g.R.Readiness.knows l.ready l.parts.tables l.parts.clock l.parts.interest;
}
