use Rattle.std.proofs.Common.{◌∙◌, ap, is_some, None, arith, not, ◌&&◌, inl, inr, false}
use Rattle.uring_dispatch.proofs.Common.{Groups, Sqe, earlier_of, entry_of, false≢true, is_soft}
use Rattle.uring_dispatch.proofs.WindowFront.{within_end}
use Rattle.uring_dispatch.proofs.WaitingLemmas.{stands_ended}
use Rattle.uring_dispatch.proofs.HeldLemmas.{within_group, least_before}
use Rattle.uring_dispatch.proofs.EndLemmas.{ends_last, ends_more, end_sound, end_held}
use Rattle.uring_dispatch.proofs.grouped.Grouped.take_out.Goals as goal

pub least_left-least-requires-clause-from : goal.least_left-least-requires-clause-from
least_left-least-requires-clause-from c =
    least_before c.args.self.now.fits c.end_one-request.ensures.request (c.requires.group _ c.end_one-request.ensures.request)

pub least_left-least-requires-clause-to : goal.least_left-least-requires-clause-to
least_left-least-requires-clause-to c =
    (within_group c.args.self.now.fits c.end_one-request.ensures.request (c.requires.group _ c.end_one-request.ensures.request)).1

pub least_left-least-requires-clause-others : goal.least_left-least-requires-clause-others
least_left-least-requires-clause-others c = λ ne.
    ap is_some (c.end_one-request.ensures.changes.others _ ne) ∙ (c.args.self.now.fits.kept _ c.args.group.now (c.requires.group _ c.end_one-request.ensures.request)).here

-- The last member of its group ends.

pub invariant_of-self : goal.invariant_of-self
invariant_of-self c =
    let one = c.end_one-request.ensures in
    let ends = ends_last None one.request one.changes one.end (c.requires.group _ one.request) c.least_left-least.ensures (omega arith) c.remove.ensures.changes c.remove.ensures.last in
    record { fits = end_sound c.args.self.now.fits ends (c.remove.ensures.beyond _ c.args.self.now.fits.beyond) }

pub returns-then-least-group-clause-posts : goal.returns-then-least-group-clause-posts
returns-then-least-group-clause-posts c = λ r res h is.
    (rw ((h.shown c.args.n _ c.end_one-request.ensures.request).entry) at (c.of-posts.ensures res)) is

pub returns-then-least-group-clause-shows : goal.returns-then-least-group-clause-shows
returns-then-least-group-clause-shows c = λ r res bytes h is.
    let one = c.end_one-request.ensures in
    let ends = ends_last None one.request one.changes one.end (c.requires.group _ one.request) c.least_left-least.ensures (omega arith) c.remove.ensures.changes c.remove.ensures.last in
    end_held res bytes c.args.self.now.fits ends h (assumption one) c.requires.last (λ lt. absurd (omega arith))

pub returns-then-least-group-clause-doomed : goal.returns-then-least-group-clause-doomed
returns-then-least-group-clause-doomed c =
    let within = within_end _ c.args.n (ap is_some c.end_one-request.ensures.request) in omega arith

pub returns-then-least-group-clause-others : goal.returns-then-least-group-clause-others
returns-then-least-group-clause-others c = λ k ne head beside.
    let one = c.end_one-request.ensures in
    let ends = ends_last None one.request one.changes one.end (c.requires.group _ one.request) c.least_left-least.ensures (omega arith) c.remove.ensures.changes c.remove.ensures.last in
    stands_ended c.args.self.now.fits ends false (λ lt. absurd (omega arith)) (λ breaks lt. absurd (false≢true breaks)) ne (λ lt. absurd (omega arith))

-- Another member is outstanding.

pub invariant_of-self-2 : goal.invariant_of-self-2
invariant_of-self-2 c =
    let one = c.end_one-request.ensures in
    let closed = ap (λ (g : Groups). g.last) c.update.ensures.same ∙ c.requires.last in
    let ends = ends_more c.earlier_of-broken.result one.request one.changes one.end (c.requires.group _ one.request) c.least_left-least.ensures (omega arith) c.update.ensures.changes closed in
    record { fits = end_sound c.args.self.now.fits ends (rw (ap (λ (g : Groups). g.barriers) c.update.ensures.same) c.args.self.now.fits.beyond) }

pub returns-clause-posts : goal.returns-clause-posts
returns-clause-posts c = λ r res h is.
    (rw ((h.shown c.args.n _ c.end_one-request.ensures.request).entry) at (c.of-posts.ensures res)) is

pub returns-clause-shows : goal.returns-clause-shows
returns-clause-shows c = λ r res bytes h is.
    let one = c.end_one-request.ensures in
    let closed = ap (λ (g : Groups). g.last) c.update.ensures.same ∙ c.requires.last in
    let ends = ends_more c.earlier_of-broken.result one.request one.changes one.end (c.requires.group _ one.request) c.least_left-least.ensures (omega arith) c.update.ensures.changes closed in
    let entry = (h.shown c.args.n _ one.request).entry in
    let breaks = c.breaks-is_break.ensures ∙ ap (λ (e : Sqe). is_soft e && not c.args.is_success) entry ∙ ap (λ b. is_soft (entry_of r c.args.n) && not b) is in
    end_held res bytes c.args.self.now.fits ends h (assumption one) c.requires.last
    (λ lt. c.earlier_of-broken.ensures ∙ ap (λ b. earlier_of c.args.group.now.broken b c.args.n) breaks)

pub after_failure-doomed_end-requires : goal.after_failure-doomed_end-requires
after_failure-doomed_end-requires c =
    (within_group c.args.self.now.fits c.end_one-request.ensures.request (c.requires.group _ c.end_one-request.ensures.request)).1

pub returns-clause-doomed : goal.returns-clause-doomed
returns-clause-doomed c =
    let kept = c.args.self.now.fits.kept _ c.args.group.now (c.requires.group _ c.end_one-request.ensures.request) in
    omega (arith, kept.end, c.after_failure-doomed_end.ensures.within)

pub returns-clause-others : goal.returns-clause-others
returns-clause-others c = λ k ne head beside.
    let one = c.end_one-request.ensures in
    let closed = ap (λ (g : Groups). g.last) c.update.ensures.same ∙ c.requires.last in
    let ends = ends_more c.earlier_of-broken.result one.request one.changes one.end (c.requires.group _ one.request) c.least_left-least.ensures (omega arith) c.update.ensures.changes closed in
    stands_ended c.args.self.now.fits ends c.breaks-is_break.result (λ lt. c.earlier_of-broken.ensures)
    (λ breaks lt. elim beside [ inl low ↦ inl low | inr past ↦ inr (c.after_failure-doomed_end.ensures.doomed breaks k past lt) ]) ne (λ lt. head)
