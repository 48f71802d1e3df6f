use Rattle.std.proofs.Common.{arith, sym, ap}
use Rattle.uring_words.specs.Completion.Layout.{dropped_index}
use Rattle.uring_words.proofs.CompletionPlays.{loads_dropped}
use Rattle.uring_words.proofs.completion.reader.CompletionReader.load_dropped.Goals as goal

pub load-requires : goal.load-requires
load-requires c =
    let i = c.self.invariant in
    rw c.deref.ensures (i.fits.same_table, omega (arith, i.fits.many), loads_dropped _ _ _ _ i.is_app (ap dropped_index (sym i.fits.sized)))
