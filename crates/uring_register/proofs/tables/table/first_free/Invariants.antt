use Rattle.std.proofs.Common.{slice_index_or}
use Rattle.uring_register.specs.Tables.Tables.{NoneIsFree}
use Rattle.uring_register.proofs.tables.table.first_free.Given as goal

abbrev pub invariant-loop-i : goal.invariant-loop-i
invariant-loop-i l = NoneIsFree (λ slot. slice_index_or l.rows slot 0) l.from l.i
