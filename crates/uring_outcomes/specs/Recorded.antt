-- The moves that a history makes: the end of a call that was taken, and each issue and finish that wasn't refused. No other event makes one. Our own rule.
use Rattle.std.specs.Prelude.{List, [], ◌∷◌, ◌++◌}
use Rattle.uring_core.specs.Histories.{History}
use Rattle.uring_core.specs.declared.step.Step.{Step}
use Rattle.uring_core.specs.declared.step.Step.TheVariants as step
use Rattle.uring_core.specs.declared.answer.Answer.{Answer}
use Rattle.uring_core.specs.declared.answer.Answer.TheVariants as answer
use Rattle.uring_outcomes.specs.declared.move_of_calls.Move.{Move}
use Rattle.uring_outcomes.specs.declared.move_of_calls.Move.TheVariants as move

-- these moves, with that of a step and its answer after them, if it makes one
abbrev pub with_event : Step → Answer → List Move → List Move
with_event step.End (answer.Taken accepted dropped head) moves = moves ++ move.Accept ∷ []
with_event (step.Issue n) answer.Run moves = moves ++ move.Issue n ∷ []
with_event (step.Issue n) (answer.Ended res bytes) moves = moves ++ move.Issue n ∷ []
with_event (step.Finish n) (answer.Ended res bytes) moves = moves ++ move.Finish n ∷ []
with_event s a moves = moves

-- the moves of a history, the oldest first
abbrev pub moves_in : History → List Move
moves_in [] = []
moves_in ((s, a) ∷ before) = with_event s a (moves_in before)
