use Rattle.std.proofs.Common.{◌≡◌, length, map, take, drop}
use Rattle.uring_ffi_values.specs.CoreWords.ReadingForms.{words_of_completion}
use Rattle.uring_ffi_values.proofs.cores.whole_call_memory.give_completions.Given as goal

abbrev pub invariant-loop-k : goal.invariant-loop-k
invariant-loop-k l = record {
  given : take l.k l.completions ≡ map words_of_completion (take l.k l.list);
  rest : drop l.k l.completions ≡ drop l.k l.initial.completions;
  many : length l.completions ≡ length l.initial.completions;
}
