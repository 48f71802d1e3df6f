use Rattle.std.proofs.Common.{arith, sym, ap, subst}
use Rattle.uring_words.specs.Submission.Calls.{AreWhole}
use Rattle.uring_words.specs.Submission.Ends.{End}
use Rattle.uring_words.specs.Submission.Layout.{tail_index}
use Rattle.uring_words.specs.Submission.Rule.{stored}
use Rattle.uring_words.proofs.Plays.{stores_tail}
use Rattle.uring_words.proofs.submission.writer.CallWriter.publish.Goals as goal

pub store-requires : goal.store-requires
store-requires c =
    let i = c.self.invariant in
    let whole = subst (λ (e : End). AreWhole (stored e.knows.app)) (sym c.self.view_is) c.requires in
    rw c.deref.ensures (i.fits.same_table, omega (arith, i.fits.many), stores_tail _ _ _ _ _ i.is_app i.entry i.tail_word whole (ap tail_index (sym i.fits.sized)))
