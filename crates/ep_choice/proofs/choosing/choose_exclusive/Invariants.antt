use Rattle.std.proofs.Common.{◌≡◌, false, take}
use Rattle.std.specs.List.{list_any}
use Rattle.ep_choice.specs.Answers.{AreAnswers}
use Rattle.ep_choice.specs.Choose.{IsVain, finds_key}
use Rattle.ep_choice.proofs.choosing.choose_exclusive.Given as goal

abbrev pub invariant-loop-index : goal.invariant-loop-index
invariant-loop-index g l = record {
  keys : l.candidates.keys ≡ l.initial.candidates.keys;
  none : list_any (finds_key l.parts.tables l.parts.clock l.parts.interest l.parts.parked) (take l.index l.initial.candidates.keys.reached) ≡ false;
  vain : IsVain l.parts l.reached.reached;
  room : l.reached.room ≡ l.fn.reached.room;
  answers : AreAnswers l.parts.tables l.parts.clock l.parts.interest l.parts.parked l.candidates;
  knows : g.R.Readiness.knows l.ready l.parts.tables l.parts.clock l.parts.interest;
}
