use Rattle.std.proofs.Common.{◌≡◌, ◌≤◌, take, vec_capacity, vec_len}
use Rattle.uring_threads.proofs.Common.{now, unreaped}
use Rattle.uring_threads.proofs.report.list_unreaped.Given as goal

-- as many were listed as the loop has come
abbrev pub invariant-loop-place : goal.invariant-loop-place
invariant-loop-place l = record {
  listed : l.list.items ≡ take l.place (unreaped (now l.kept).completions);
  many : vec_len l.list ≡ l.place;
  room : vec_capacity l.initial.list ≤ vec_capacity l.list;
}
