use Rattle.std.proofs.Common.{◌≡◌, sym, ◌∙◌, rules}
use Rattle.uring_outcomes.proofs.Common.{to_z-of_z, w32}
use Rattle.uring_outcomes.proofs.SameEndings.{state_decides, same_of_states, bytes_alike}
use Rattle.uring_outcomes.proofs.ending.same_file.Goals as goal

pub returns-then-eq : goal.returns-then-eq
returns-then-eq c =
    let fd = to_z-of_z w32 c.args.fd (search rules) in
    let bytes = simp fd at c.same_bytes.ensures in
    let one = simp fd at c.in-Some.ensures.value in
    let other = simp fd at c.in-Some-state.ensures.value in
    let same : c.in-Some.state ≡ c.in-Some-state.wanted = (state_decides c.in-Some.state c.in-Some-state.wanted).0 (sym c.eq.ensures ∙ c.if-eq.true) in (
      λ e. same_of_states c.args.one.now c.args.other.now c.args.fd c.in-Some.state c.in-Some-state.wanted one other same (bytes.0 e),
      λ e. bytes.1 (λ k low. bytes_alike c.args.one.now c.args.other.now c.args.fd k e),
    )
