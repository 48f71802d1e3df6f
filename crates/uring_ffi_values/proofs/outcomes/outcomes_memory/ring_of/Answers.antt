use Rattle.std.proofs.Common.{◌≤◌, ℕ, subst, sym, ◌∙◌}
use Rattle.uring_ffi_values.proofs.Common.{All, both_ways}
use Rattle.uring_ffi_values.proofs.Starts.{no_walk_long}
use Rattle.uring_ffi_values.proofs.outcomes.outcomes_memory.ring_of.Goals as goal

pub returns-then-not-none_is_over : goal.returns-then-not-none_is_over
returns-then-not-none_is_over c =
    no_walk_long c.args.setup.now c.in_ok-ring.ring c.args.lens.now c.in_ok-ring.ensures
    (λ all. both_ways c.none_is_over.result c.if-not-none_is_over.true (c.none_is_over.ensures.1 (subst (λ (k : ℕ). All (λ len. len ≤ k) c.args.lens.now) (sym (c.from.ensures ∙ c.sq.ensures.value)) all)))
