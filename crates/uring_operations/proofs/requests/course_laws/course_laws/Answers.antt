use Rattle.uring_operations.proofs.CourseRuns.{carries_out_what_runs, carries_out_once, tries_once, ends_for_good, ends_with_its_result}
use Rattle.uring_operations.proofs.requests.course_laws.course_laws.Goals as goal

pub returns-clause-carries_out_what_runs : goal.returns-clause-carries_out_what_runs
returns-clause-carries_out_what_runs c = carries_out_what_runs

pub returns-clause-carries_out_once : goal.returns-clause-carries_out_once
returns-clause-carries_out_once c = carries_out_once

pub returns-clause-tries_once : goal.returns-clause-tries_once
returns-clause-tries_once c = tries_once

pub returns-clause-ends_for_good : goal.returns-clause-ends_for_good
returns-clause-ends_for_good c = ends_for_good

pub returns-clause-ends_with_its_result : goal.returns-clause-ends_with_its_result
returns-clause-ends_with_its_result c = ends_with_its_result
