use Rattle.uring_files.proofs.StandAlone.{ends_apart, files_apart, others_stay}
use Rattle.uring_files.proofs.laws.files_stand_alone.Goals as goal

pub returns : goal.returns
returns c = record { others = others_stay; files = files_apart; ends = ends_apart }
