use Rattle.uring_register.proofs.GroupRuns.{gives_what_was_provided, keeps_what_was_provided, takes_no_more, takes_in_order, takes_cells_in_turn}
use Rattle.uring_register.proofs.buffers.group_laws.group_laws.Goals as goal

pub returns-clause-gives_what_was_provided : goal.returns-clause-gives_what_was_provided
returns-clause-gives_what_was_provided c = gives_what_was_provided

pub returns-clause-keeps_what_was_provided : goal.returns-clause-keeps_what_was_provided
returns-clause-keeps_what_was_provided c = keeps_what_was_provided

pub returns-clause-takes_no_more : goal.returns-clause-takes_no_more
returns-clause-takes_no_more c = takes_no_more

pub returns-clause-takes_in_order : goal.returns-clause-takes_in_order
returns-clause-takes_in_order c = takes_in_order

pub returns-clause-takes_cells_in_turn : goal.returns-clause-takes_cells_in_turn
returns-clause-takes_cells_in_turn c = takes_cells_in_turn
