use Rattle.uring_laws.proofs.RecordedLaws.{wrong_unlawful, wrong_unlawful_apart}
use Rattle.uring_laws.proofs.recorded.wrong_is_unlawful.Goals as goal

pub returns-clause-lawful : goal.returns-clause-lawful
returns-clause-lawful c = wrong_unlawful

pub returns-clause-apart : goal.returns-clause-apart
returns-clause-apart c = wrong_unlawful_apart
