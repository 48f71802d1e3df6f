use Rattle.std.proofs.Common.{◌≡◌, ◌≤◌, ◌++◌, length, map, drop, vec_capacity}
use Rattle.uring_ffi_values.specs.CoreWords.Cuts.{cut}
use Rattle.uring_ffi_values.proofs.core_words.cuts.cut.Given as goal

abbrev pub invariant-loop-len : goal.invariant-loop-len
invariant-loop-len g l = record {
  parts : map (λ p. p.items) l.parts.items ++ cut (drop l.len-index l.lens) (drop l.from l.values) ≡ cut l.lens l.values;
  within : l.from ≤ length l.values;
  many : length l.parts.items ≡ l.len-index;
  room : length l.lens ≤ vec_capacity l.parts;
}
