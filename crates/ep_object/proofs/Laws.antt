-- The laws of objects, from those of the kinds.
use Rattle.ep_object.proofs.AnswerLemmas.{gives_few, waiting_is_given}
use Rattle.ep_object.proofs.Arrivals.{Kinds, advance_law, apply_law, close_law}
use Rattle.ep_object.proofs.KindLemmas.{call_keeps_kind, close_has, close_keeps_kind, closes_commute, effect_has}
use Rattle.ep_object.proofs.OwnEndLemmas.{call_ends_here_only, clock_ends_nothing, close_ends_nothing}
use Rattle.ep_object.proofs.PendingLemmas.{call_keeps_pending, call_keeps_waiting, close_keeps_pending, close_leaves_accepted}
use Rattle.ep_object.proofs.TimerLemmas.{call_keeps_timer, clock_is_timers, close_keeps_timer, next_tells, still_raises_nothing, timer_has_first}
use Rattle.ep_object.specs.Law.{ObjectLaws}

pub object_laws : Kinds → ObjectLaws
object_laws kinds = record {
  call_keeps_kind = call_keeps_kind;
  close_keeps_kind = close_keeps_kind;
  call_keeps_ends = effect_has;
  close_keeps_other = close_has;
  closes_commute = closes_commute;
  call_keeps_waiting = call_keeps_waiting;
  close_leaves_accepted = close_leaves_accepted;
  call_keeps_pending = call_keeps_pending;
  close_keeps_pending = close_keeps_pending;
  call_raises = apply_law kinds;
  close_raises = close_law kinds.pipe_close kinds.pair_close;
  clock_raises = advance_law kinds.timer_advance;
  call_ends = call_ends_here_only;
  close_ends = close_ends_nothing;
  clock_ends = clock_ends_nothing;
  timer_has_first = timer_has_first;
  call_keeps_timer = call_keeps_timer;
  close_keeps_timer = close_keeps_timer;
  clock_is_timers = clock_is_timers;
  next_tells = next_tells kinds.timer_next;
  still_raises_nothing = still_raises_nothing;
  gives_few = gives_few;
  waiting_is_given = waiting_is_given;
}
