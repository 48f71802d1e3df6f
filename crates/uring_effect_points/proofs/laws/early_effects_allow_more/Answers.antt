use Rattle.uring_effect_points.proofs.AtFinishes.{early_effects_allow_more}
use Rattle.uring_effect_points.proofs.laws.early_effects_allow_more.Goals as goal

pub returns : goal.returns
returns c = early_effects_allow_more
