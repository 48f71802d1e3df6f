use Rattle.std.proofs.Common.{◌≡◌, ◌+◌, ◌≤◌, length, replicate}
use Rattle.uring_threads.proofs.Common.{Appends, now, on_completions, with_reaped_all}
use Rattle.uring_core.specs.declared.step.Step.TheVariants as step
use Rattle.uring_threads.proofs.deliveries.reap_all.Given as goal

-- so many were reaped, and each was handed on
abbrev pub invariant-loop : goal.invariant-loop
invariant-loop g l = record {
  events : length l.kept.trace ≤ length l.initial.kept.trace + l.counter;
  free : g.P.KernelPort.free l.port + l.counter ≡ g.P.KernelPort.free l.initial.port;
  world : now l.kept ≡ on_completions (now l.initial.kept) (with_reaped_all (now l.initial.kept).completions (g.P.KernelPort.delivered l.port));
  delivered : length (g.P.KernelPort.delivered l.port) ≡ length (g.P.KernelPort.delivered l.initial.port) + l.counter;
  row : Appends l.initial.kept l.kept (replicate l.counter step.Reap);
  pairing : g.P.KernelPort.pairing l.port ≡ g.P.KernelPort.pairing l.initial.port;
  sizes : g.P.KernelPort.sizes l.port ≡ g.P.KernelPort.sizes l.initial.port;
  pulled : g.P.KernelPort.pulled l.port ≡ g.P.KernelPort.pulled l.initial.port;
  calls : g.P.KernelPort.saw_calls l.port ≡ g.P.KernelPort.saw_calls l.initial.port;
  room_looks : g.P.KernelPort.room_looks l.port ≡ g.P.KernelPort.room_looks l.initial.port;
  dropped : g.P.KernelPort.dropped l.port ≡ g.P.KernelPort.dropped l.initial.port;
}
