use Rattle.uring_play_text.proofs.AlwaysLaws as laws
use Rattle.uring_play_text.proofs.laws.always_told.Goals as goal

pub returns : goal.returns
returns c = laws.always_told
