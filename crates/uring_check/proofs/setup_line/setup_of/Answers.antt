use Rattle.uring_check.proofs.SetupLaws.{misses}
use Rattle.uring_check.proofs.setup_line.setup_of.Goals as goal

pub returns-in-Err : goal.returns-in-Err
returns-in-Err c = misses c.args.sizes c.in-Some.sizes c.in-Err.field-0 c.new.result c.in-Some.is c.in-Err.is c.new.ensures.bad_sq c.new.ensures.bad_cq c.new.ensures.bad_files
