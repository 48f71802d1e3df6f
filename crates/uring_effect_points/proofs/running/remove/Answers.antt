use Rattle.std.proofs.Common.{rules, ◌==◌, not}
use Rattle.std.proofs.lemmas.Fn.{filter_same}
use Rattle.uring_effect_points.proofs.running.remove.Goals as goal

pub returns : goal.returns
returns c = filter_same _ (λ one. not (one.number == c.args.number)) _ (λ x b f' k. search rules) _ _ c.retain.ensures.filtered
