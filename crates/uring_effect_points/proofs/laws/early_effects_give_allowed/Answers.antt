use Rattle.uring_effect_points.proofs.EarlyResults.{early_effects_give_allowed}
use Rattle.uring_effect_points.proofs.laws.early_effects_give_allowed.Goals as goal

pub returns : goal.returns
returns c = early_effects_give_allowed
