use Rattle.std.proofs.lemmas.List.Filters.{FiltersInPlace}
use Rattle.uring_operations.specs.Entries.Timeouts.{is_other}
use Rattle.uring_enter.proofs.time.timeout_rows.take_out.Given as goal

abbrev pub invariant-loop-i : goal.invariant-loop-i
invariant-loop-i l = FiltersInPlace (is_other l.number) l.initial.rows l.rows l.kept l.i
