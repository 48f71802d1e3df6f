use Rattle.uring_effect_points.proofs.Waiting.{early_effects_can_wait}
use Rattle.uring_effect_points.proofs.laws.early_effects_can_wait.Goals as goal

pub returns : goal.returns
returns c = early_effects_can_wait
