use Rattle.uring_enter.proofs.Ending.{ends_for_a_reason}
use Rattle.uring_enter.proofs.Returning.{returns_what_was_submitted, leaves_nothing}
use Rattle.uring_enter.proofs.Running.{sleeps_in_vain, gives_up_in_vain, submits_once}
use Rattle.uring_enter.proofs.call.laws.call_laws.Goals as goal

pub returns-clause-sleeps_in_vain : goal.returns-clause-sleeps_in_vain
returns-clause-sleeps_in_vain c = sleeps_in_vain

pub returns-clause-gives_up_in_vain : goal.returns-clause-gives_up_in_vain
returns-clause-gives_up_in_vain c = gives_up_in_vain

pub returns-clause-ends_for_a_reason : goal.returns-clause-ends_for_a_reason
returns-clause-ends_for_a_reason c = ends_for_a_reason

pub returns-clause-submits_once : goal.returns-clause-submits_once
returns-clause-submits_once c = submits_once

pub returns-clause-returns_what_was_submitted : goal.returns-clause-returns_what_was_submitted
returns-clause-returns_what_was_submitted c = returns_what_was_submitted

pub returns-clause-leaves_nothing : goal.returns-clause-leaves_nothing
returns-clause-leaves_nothing c = leaves_nothing
