use Rattle.uring_text.proofs.LineLaws.{split_once}
use Rattle.uring_text.proofs.laws.one_split.Goals as goal

pub returns : goal.returns
returns c = split_once
