use Rattle.std.proofs.Common.{length, arith, sym, ap, ◌∙◌}
use Rattle.uring_words.specs.Completion.Ends.{End}
use Rattle.uring_words.specs.Completion.Steps.{Holder}
use Rattle.uring_words.proofs.Seats.{joins}
use Rattle.uring_words.proofs.completion.reader.CompletionReader.take_undelivered.Goals as goal

pub join_seat-requires : goal.join_seat-requires
join_seat-requires c =
    let w = c.writer.invariant in
    let same = ap (λ (e : End). e.table) c.self.view_is ∙ c.requires.table ∙ sym (ap (λ (e : End). e.table) c.writer.view_is) in
    rw c.deref.ensures (w.fits.same_table, same ∙ w.fits.same_table, c.self.invariant.fits.carries_none, omega (arith, w.fits.many), joins _ _ _ _ _ _ w.is_kernel c.self.invariant.is_app)

pub take_known-requires : goal.take_known-requires
take_known-requires c =
    let sized = ap (λ (me : Holder). me.0.app.size) c.join_seat.ensures.2 ∙ ap (λ (e : End). e.knows.app.size) c.self.view_is in
    omega (arith, sized, c.load_tail.ensures.few, c.requires.room, ap length c.requires.empty)
