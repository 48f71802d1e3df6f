use Rattle.std.proofs.Common.{◌-◌, arith, ap, ◌∙◌}
use Rattle.uring_enter.proofs.Common.{PollRow, get_or_default}
use Rattle.uring_enter.proofs.JoiningRuns.{up_to_joined, once_joined, once_pushed, up_to_pushed}
use Rattle.uring_enter.proofs.waiting.joining.put.Goals as goal
use Rattle.uring_enter.proofs.waiting.joining.put.Goals.{else-kept-gt0-via-then-kept-gt0+else-rows-kept, else-kept-gt0-via-else-kept-gt0}

pub returns-then-rows-kept-clause-once : goal.returns-then-rows-kept-clause-once
returns-then-rows-kept-clause-once c up once =
    once_joined c.args.rows.now c.args.kept (c.args.kept - 1) c.joined.result (omega arith) (omega arith)
    (λ d. ap (λ (row : PollRow). row.fd) (c.joined.ensures) ∙ ap (λ (row : PollRow). row.fd) (get_or_default c.args.rows.now (c.args.kept - 1) _ d (omega arith))) once

pub returns-then-rows-kept-clause-last : goal.returns-then-rows-kept-clause-last
returns-then-rows-kept-clause-last c up =
    up_to_joined c.args.rows.now c.args.row.fd c.args.kept (c.args.kept - 1) c.joined.result (omega arith) (omega arith)
    (λ d. ap (λ (row : PollRow). row.fd) (c.joined.ensures) ∙ ap (λ (row : PollRow). row.fd) (get_or_default c.args.rows.now (c.args.kept - 1) _ d (omega arith))) up

pub returns-else-kept-gt0-clause-once : goal.returns-else-kept-gt0-clause-once
returns-else-kept-gt0-clause-once c up once =
    once_pushed c.args.rows.now c.args.kept c.args.row (omega arith) once up
    (λ d some same. elim c.else-kept-gt0.branch [
      | else-kept-gt0-via-then-kept-gt0+else-rows-kept w ↦ w.if-rows-kept.false (ap (λ (row : PollRow). row.fd) (get_or_default c.args.rows.now (c.args.kept - 1) _ d (omega arith)) ∙ same)
      | else-kept-gt0-via-else-kept-gt0 w ↦ omega arith
    ])

pub returns-else-kept-gt0-clause-last : goal.returns-else-kept-gt0-clause-last
returns-else-kept-gt0-clause-last c up = up_to_pushed c.args.rows.now c.args.kept c.args.row (omega arith) up
