use Rattle.uring_register.proofs.TableLaws.{given_first}
use Rattle.uring_register.proofs.tables.table.Table.free_slot.Goals as goal

pub returns-in-Some : goal.returns-in-Some
returns-in-Some c = λ log k. given_first log _ _ _ _ k c.start-start.ensures.start c.in-Some.ensures
