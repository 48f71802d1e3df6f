use Rattle.std.proofs.Common.{◌≡◌, length, slice_get, ap, ◌∙◌}
use Rattle.uring_reconstruct.proofs.Common.{Contains, StandsAt, entry_outstanding, history_of, is_asked, world}
use Rattle.uring_core.specs.declared.step.Step.TheVariants as step
use Rattle.uring_core.specs.declared.answer.Answer.TheVariants as answer
use Rattle.uring_reconstruct.proofs.Adding.{all_next, ends_kept, none_right, by_asked}
use Rattle.uring_reconstruct.proofs.next.add_next.Goals as goal

pub returns-clause-right : goal.returns-clause-right
returns-clause-right g c =
    let h = history_of c.args.events.now in
    let at : StandsAt c.args.core.now c.args.seen.now c.next_told-wanted.result h = record {
      fits = c.requires.fits;
      part = c.requires.part;
      is_next = c.next_told-wanted.ensures h c.requires.fits ∙ ap (λ xs. slice_get xs (length (world c.args.core.now.setup h).completions.posted)) c.requires.told;
    } in
    c.in_ok-add_seen.ensures.right c.args.core.now.setup c.requires.part
    (c.in_ok-add_flushes.ensures.adds.right c.args.seen.now h at
    (c.in_ok-add_ends.ensures.adds.right c.args.seen.now h at
    (c.in_ok-add_starts-2.ensures.adds.right c.args.seen.now h at
    (c.in_ok-add_starts.ensures.adds.right c.args.seen.now h at
    (none_right c.args.core.now.setup c.args.seen.now h c.args.next.now.items c.requires.none)))))

pub returns-clause-all : goal.returns-clause-all
returns-clause-all g c =
    let h = history_of c.args.events.now in
    let r = (world c.args.core.now.setup h).requests in
    let at : StandsAt c.args.core.now c.args.seen.now c.next_told-wanted.result h = record {
      fits = c.requires.fits;
      part = c.requires.part;
      is_next = c.next_told-wanted.ensures h c.requires.fits ∙ ap (λ xs. slice_get xs (length (world c.args.core.now.setup h).completions.posted)) c.requires.told;
    } in
    all_next c.args.core.now c.args.seen.now c.next_told-wanted.result h c.add_seen.new.next.items c.requires.fits.lawful
    (λ n asked can is. c.in_ok-add_seen.ensures.kept (step.Issue n, answer.Run) (c.in_ok-add_flushes.ensures.adds.kept (step.Issue n, answer.Run) (c.in_ok-add_ends.ensures.adds.kept (step.Issue n, answer.Run)
    (by_asked asked (λ b. is_asked (entry_outstanding r n) c.next_told-wanted.result ≡ b → Contains c.add_starts-2.new.next.items (step.Issue n, answer.Run))
    (λ e. c.in_ok-add_starts-2.ensures.adds.kept (step.Issue n, answer.Run) (c.in_ok-add_starts.ensures.added c.args.seen.now h n at can e))
    (λ e. c.in_ok-add_starts-2.ensures.added c.args.seen.now h n at can e) is))))
    (λ n. ends_kept c.args.core.now.setup c.args.seen.now h n c.add_flushes.new.next.items c.add_seen.new.next.items c.in_ok-add_seen.ensures.kept
    (ends_kept c.args.core.now.setup c.args.seen.now h n c.add_ends.new.next.items c.add_flushes.new.next.items c.in_ok-add_flushes.ensures.adds.kept (c.in_ok-add_ends.ensures.all c.args.seen.now h n at)))
    (λ a stale called. c.in_ok-add_seen.ensures.kept (step.Flush, a) (c.in_ok-add_flushes.ensures.all h a c.requires.fits stale called))
    (λ x shown p. c.in_ok-add_seen.ensures.added c.args.core.now.setup x c.requires.part shown p)
