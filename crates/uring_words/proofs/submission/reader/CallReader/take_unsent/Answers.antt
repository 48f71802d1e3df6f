use Rattle.std.proofs.Common.{◌++◌, arith, sym, ap, ◌∙◌}
use Rattle.uring_words.specs.Submission.Calls.{items_of}
use Rattle.uring_words.specs.Submission.Ends.{End}
use Rattle.uring_words.specs.Submission.Steps.{Holder}
use Rattle.uring_words.proofs.CallLemmas.{leaves}
use Rattle.uring_words.proofs.Seats.{joins}
use Rattle.uring_words.proofs.submission.reader.CallReader.take_unsent.Goals as goal

pub join_seat-requires : goal.join_seat-requires
join_seat-requires c =
    let s = c.self.invariant in
    let same = ap (λ (e : End). e.table) c.writer.view_is ∙ c.requires.table ∙ sym (ap (λ (e : End). e.table) c.self.view_is) in
    rw c.deref.ensures (s.fits.same_table, same ∙ s.fits.same_table, c.writer.invariant.fits.carries_none, omega (arith, s.fits.many), joins _ _ _ _ _ _ s.is_kernel c.writer.invariant.is_app)

pub returns : goal.returns
returns c =
    let j = c.join_seat.ensures.2 in
    let known = c.load_tail.new.self.knows.kernel.known in
    let all = sym (ap (λ (me : Holder). me.0.app.published) j) ∙ c.load_tail.ensures.all (ap (λ (me : Holder). me.0.is_app) j) ∙ ap (λ (me : Holder). me.0.kernel.copied ++ known) j in
    let all' = sym (ap (λ (e : End). e.knows.app.published) c.writer.view_is) ∙ all ∙ ap (λ (e : End). e.knows.kernel.copied ++ known) c.self.view_is in
    rw (c.take_known.ensures ∙ ap (λ l. l ++ items_of known) c.requires.empty) (leaves c.args.writer.knows.app.published c.args.self.knows.kernel.copied known all' c.requires.writer_rests.whole c.requires.rests.whole)
