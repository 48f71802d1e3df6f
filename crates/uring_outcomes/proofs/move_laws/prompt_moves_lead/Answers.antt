use Rattle.uring_outcomes.proofs.Prompting.{prompt_moves_lead}
use Rattle.uring_outcomes.proofs.move_laws.prompt_moves_lead.Goals as goal

pub returns : goal.returns
returns c = prompt_moves_lead
