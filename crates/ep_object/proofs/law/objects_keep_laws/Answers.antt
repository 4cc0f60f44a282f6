use Rattle.ep_object.proofs.Laws.{object_laws}
use Rattle.ep_object.proofs.law.objects_keep_laws.Goals as goal

pub returns : goal.returns
returns c =
    let streams = c.arrivals_are_raised.ensures in
    let counts = c.arrivals_are_raised-2.ensures in
    let next = c.next_arrivals.ensures in
    record {
      laws = object_laws (record {
        pipe_read = streams.pipe_read;
        pipe_write = streams.pipe_write;
        pair_read = streams.pair_read;
        pair_peek = streams.pair_peek;
        pair_write = streams.pair_write;
        pair_shutdown = streams.pair_shutdown;
        pair_error = streams.pair_error;
        pipe_close = streams.pipe_close;
        pair_close = streams.pair_close;
        counter_read = counts.counter_read;
        counter_write = counts.counter_write;
        timer_read = counts.timer_read;
        timer_settime = counts.timer_settime;
        timer_advance = counts.timer_advance;
        timer_next = next.advance;
      });
    }
