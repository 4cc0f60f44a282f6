use Rattle.serde_json.specs.Data.{number, unsigned}
use Rattle.json.specs.Json.{value}
use Rattle.ep_text.proofs.FlatLemmas.{two_read}
use Rattle.ep_text.proofs.flat.number_pair.Goals as goal

pub returns-then-take_end_array-clause-value : goal.returns-then-take_end_array-clause-value
returns-then-take_end_array-clause-value c =
    let first = c.in_ok-first in
    let second = c.in_ok-second in
    two_read (value 125) c.args.reader.now c.whole_number.new.reader c.whole_number-2.new.reader c.take_end_array.new.self
    (number (unsigned first.first)) (number (unsigned second.second))
    (first.ensures.item, first.ensures.value, first.ensures.shorter) (second.ensures.item, second.ensures.value, second.ensures.shorter) c.if-take_end_array.ensures
