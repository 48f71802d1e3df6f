use Rattle.uring_register.proofs.TableLaws.{gives_free_slots, gives_what_is_free, keeps_others}
use Rattle.uring_register.proofs.tables.table_laws.table_laws.Goals as goal

pub returns-clause-gives_free_slots : goal.returns-clause-gives_free_slots
returns-clause-gives_free_slots c = gives_free_slots

pub returns-clause-gives_what_is_free : goal.returns-clause-gives_what_is_free
returns-clause-gives_what_is_free c = gives_what_is_free

pub returns-clause-keeps_others : goal.returns-clause-keeps_others
returns-clause-keeps_others c = keeps_others
