use Rattle.std.proofs.Common.{◌≡◌, ◌≤◌, length, map, take, vec_capacity}
use Rattle.uring_ffi_values.proofs.cores.whole_call_memory.entries_of.Given as goal

abbrev pub invariant-loop-entry : goal.invariant-loop-entry
invariant-loop-entry g l = record {
  entries : l.list.items ≡ map (λ e. e.words) (take l.entry-index l.entries);
  room : length l.entries ≤ vec_capacity l.list;
}
