use Rattle.std.specs.Io.KnownBytes.{prepend_known}
use Rattle.ep_script.specs.Unread.{unread}
use Rattle.ep_script.proofs.Pieces.{holds_back, overflows}
use Rattle.ep_script.proofs.next_line.next_line.Goals as goal

pub returns-in-Err-take_piece-clause-long : goal.returns-in-Err-take_piece-clause-long
returns-in-Err-take_piece-clause-long g c = λ e.
    overflows c.args.most (prepend_known (unread c.args.input.now) (g.R.Read.remaining c.args.reader.now.inner)) (prepend_known (unread c.chunks.input) (g.R.Read.remaining c.chunks.reader.inner)) (g.R.Read.remaining c.has_more.new.reader.inner) c.chunks.line.items (unread c.has_more.new.self)
    c.chunks.invariant.bytes c.in-Ok-true.ensures.ok (c.in-Err-take_piece.ensures.long e)

pub returns-in-Err-take_piece-clause-held : goal.returns-in-Err-take_piece-clause-held
returns-in-Err-take_piece-clause-held g c = λ e.
    holds_back c.args.most (prepend_known (unread c.args.input.now) (g.R.Read.remaining c.args.reader.now.inner)) (prepend_known (unread c.chunks.input) (g.R.Read.remaining c.chunks.reader.inner)) (g.R.Read.remaining c.has_more.new.reader.inner) c.chunks.line.items c.has_more.new.self
    c.chunks.invariant.bytes c.in-Ok-true.ensures.ok c.chunks.invariant.short
