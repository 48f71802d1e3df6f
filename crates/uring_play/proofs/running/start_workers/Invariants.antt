use Rattle.std.proofs.Common.{◌≡◌, ◌++◌, ◌≤◌, length, vec_capacity}
use Rattle.std.specs.Vec.Iter.{into_iter_items, into_iter_len}
use Rattle.uring_play.specs.Threads.{workers_of}
use Rattle.uring_play.proofs.running.start_workers.Given as goal

-- so many workers have their threads, and there is room for those of the others
abbrev pub invariant-loop-worker : goal.invariant-loop-worker
invariant-loop-worker g l = record {
  all : l.yielded ++ into_iter_items l.worker-iterator ≡ into_iter_items l.initial.worker-iterator;
  rest : into_iter_len l.worker-iterator ≡ length (into_iter_items l.worker-iterator);
  room : length (into_iter_items l.initial.worker-iterator) ≤ vec_capacity l.started;
  started : workers_of l.started.items ≡ l.yielded;
}
