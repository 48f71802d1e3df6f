use Rattle.std.proofs.Common.{◌≡◌, ◌++◌, ◌≤◌, length, vec_capacity}
use Rattle.std.specs.Vec.Iter.{into_iter_items, into_iter_len}
use Rattle.uring_play.specs.Threads.{StayWorkers, workers_of}
use Rattle.uring_play.proofs.running.join_workers.Given as goal

-- so many workers came back, and there is room for the others
abbrev pub invariant-loop-thread : goal.invariant-loop-thread
invariant-loop-thread g l = record {
  all : l.yielded ++ into_iter_items l.thread-iterator ≡ into_iter_items l.initial.thread-iterator;
  rest : into_iter_len l.thread-iterator ≡ length (into_iter_items l.thread-iterator);
  room : length (into_iter_items l.initial.thread-iterator) ≤ vec_capacity l.back;
  back : StayWorkers (workers_of l.yielded) l.back.items;
}
