use Rattle.uring_laws.proofs.FileLaws.{places_join, files_by_place}
use Rattle.uring_laws.proofs.files.places_join.Goals as goal

pub returns : goal.returns
returns c = record { lawful = places_join; files = files_by_place }
