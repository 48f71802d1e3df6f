use Rattle.std.proofs.Common.{arith, sym, ap}
use Rattle.uring_words.specs.Completion.Layout.{tail_index}
use Rattle.uring_words.proofs.CompletionPlays.{loads_tail}
use Rattle.uring_words.proofs.completion.reader.CompletionReader.load_tail.Goals as goal

pub load-requires : goal.load-requires
load-requires c =
    let i = c.self.invariant in
    rw c.deref.ensures (i.fits.same_table, omega (arith, i.fits.many), loads_tail _ _ _ _ i.is_app (ap tail_index (sym i.fits.sized)))
