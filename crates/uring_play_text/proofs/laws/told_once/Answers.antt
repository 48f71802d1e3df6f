use Rattle.uring_play_text.proofs.OnceLaws as laws
use Rattle.uring_play_text.proofs.laws.told_once.Goals as goal

pub returns : goal.returns
returns c = laws.told_once
