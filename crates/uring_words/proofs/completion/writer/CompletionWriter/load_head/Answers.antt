use Rattle.std.proofs.Common.{arith, sym, ap}
use Rattle.uring_words.specs.Completion.Layout.{head_index}
use Rattle.uring_words.proofs.CompletionPlays.{loads_head}
use Rattle.uring_words.proofs.completion.writer.CompletionWriter.load_head.Goals as goal

pub load-requires : goal.load-requires
load-requires c =
    let i = c.self.invariant in
    rw c.deref.ensures (i.fits.same_table, omega (arith, i.fits.many), loads_head _ _ _ _ i.is_kernel (ap head_index (sym i.fits.sized)))
