use Rattle.std.proofs.Common.{arith, sym, ap}
use Rattle.uring_words.specs.Submission.Layout.{head_index}
use Rattle.uring_words.proofs.Plays.{stores_head}
use Rattle.uring_words.proofs.submission.reader.CallReader.store_head.Goals as goal

pub store-requires : goal.store-requires
store-requires c =
    let i = c.self.invariant in
    rw c.deref.ensures (i.fits.same_table, omega (arith, i.fits.many), stores_head _ _ _ _ _ i.is_kernel i.head_word (ap head_index (sym i.fits.sized)))
