use Rattle.std.proofs.Common.{◌-◌, ◌^◌}
use Rattle.uring_volume.proofs.Results.{on_value}
use Rattle.uring_volume.proofs.KeptFolds.{count_folded}
use Rattle.uring_volume.proofs.volume.Volume.count_images_in.Goals as goal

pub returns-clause-count : goal.returns-clause-count
returns-clause-count g c =
    on_value c.count_kept.result _ _ (λ n is. count_folded c.args.self.now c.in_ok-folded.folded n (2 ^ 64 - 1) c.is_sound.ensures c.in_ok-folded.ensures.folded is) c.count_kept.ensures.count
