use Rattle.std.proofs.Common.{◌≡◌, List, length, map, ap, ◌∙◌, arith}
use Rattle.uring_ffi_values.proofs.Common.{Global, Sqe, Vec, cut}
use Rattle.uring_outcomes.specs.Faults.{entry_count}
use Rattle.uring_ffi_values.proofs.Cutting.{cut_within}
use Rattle.uring_ffi_values.proofs.outcomes.outcomes_memory.walk.Goals as goal

pub found_in-requires-clause-few : goal.found_in-requires-clause-few
found_in-requires-clause-few g c =
    let same : entry_count (map (λ (call : Vec Sqe Global). call.items) c.deref-2.result.now) ≡ entry_count (cut c.args.lens.now c.deref.result.now) = ap (λ (calls : List (Vec Sqe Global)). entry_count (map (λ (call : Vec Sqe Global). call.items) calls)) c.deref-2.ensures.value ∙ ap entry_count c.in_ok-calls.ensures.parts in
    let many : length c.deref.result.now ≡ length c.in_ok-list.list.items = ap length c.deref.ensures.value in
    omega (arith, same, many, cut_within c.args.lens.now c.deref.result.now, c.in_ok-list.list.small)
