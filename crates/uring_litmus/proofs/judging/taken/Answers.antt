use Rattle.std.proofs.Common.{length, refl}
use Rattle.std.proofs.lemmas.Option.{slice_get_read}
use Rattle.uring_litmus.proofs.judging.taken.Goals as goal

pub returns : goal.returns
returns c =
    slice_get_read c.args.endings.items (length c.args.endings.items) c.args.at c.swap_remove-ending.result refl c.requires c.swap_remove-ending.ensures.value
