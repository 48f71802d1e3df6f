use Rattle.std.proofs.Common.{rules, arith}
use Rattle.std.specs.Int.{w32}
use Rattle.std.proofs.lemmas.Int.{to_z-of_z}
use Rattle.uring_histories.proofs.Common.{files_of, same_of_states, world}
use Rattle.uring_histories.proofs.arrival.has_file.Goals as goal

pub returns : goal.returns
returns c = λ h fits so.
    let fd = to_z-of_z w32 c.args.fd (search rules) in
    let files = files_of c.args.machine.now.core.setup (world c.args.machine.now.core.setup h) in
    let one = simp fd at (c.in-Some.ensures h fits) in
    let other = simp fd at c.in-Some-state.ensures.value in
    let bytes = simp fd at (c.loop-at.invariant h fits) in
    same_of_states files c.args.files.now c.args.fd c.in-Some.state c.in-Some-state.wanted one other (search rules) (λ k low. bytes k (omega arith))
