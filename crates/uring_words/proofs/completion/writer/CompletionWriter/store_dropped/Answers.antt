use Rattle.std.proofs.Common.{arith, rules, sym, ap}
use Rattle.uring_words.specs.Completion.Layout.{dropped_index}
use Rattle.uring_words.proofs.CompletionPlays.{stores_dropped}
use Rattle.uring_words.proofs.completion.writer.CompletionWriter.store_dropped.Goals as goal

pub store-requires : goal.store-requires
store-requires c =
    let i = c.self.invariant in
    rw c.deref.ensures (i.fits.same_table, omega (arith, i.fits.many), stores_dropped _ _ _ _ _ i.is_kernel (search rules) (ap dropped_index (sym i.fits.sized)))
