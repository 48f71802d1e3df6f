use Rattle.uring_core.proofs.Sound.{sound_of}
use Rattle.uring_laws.proofs.RingLaws.{begin_posted}
use Rattle.uring_laws.proofs.reaped_begin_posted.Goals as goal

pub returns : goal.returns
returns c = λ g h setup lawful. begin_posted g.cq _ (sound_of g h lawful).completions
