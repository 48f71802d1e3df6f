use Rattle.std.proofs.Common.{◌≡◌, true, false, None, sym, ◌∙◌}
use Rattle.uring_reconstruct.proofs.Common.{posts, world}
use Rattle.uring_reconstruct.proofs.Adding.{adds_then, issued_there, issued_outstanding, issued_issuable, quiet_there}
use Rattle.uring_reconstruct.proofs.issued.add_issues.Goals as goal

pub returns-then-not-can_issue-clause-all : goal.returns-then-not-can_issue-clause-all
returns-then-not-can_issue-clause-all g c = λ seen h res bytes at p.
    let can = c.can_issue.ensures h at.fits (issued_issuable c.args.core.now.setup h c.args.number res bytes p.lawful) in
    absurd (let f : true ≡ false = sym can ∙ c.if-not-can_issue.true in cc)

pub returns-clause-adds : goal.returns-clause-adds
returns-clause-adds g c =
    let wanted = c.args.wanted.now in
    adds_then c.args.core.now wanted c.args.next.now.items c.add_errors.new.next.items c.add_told_issue.new.next.items (c.in_ok-add_errors.ensures.adds wanted)
    (adds_then c.args.core.now wanted c.add_errors.new.next.items c.add_skipped.new.next.items c.add_told_issue.new.next.items (c.in_ok-add_skipped.ensures.adds wanted) c.in_ok-add_told_issue.ensures.adds)

pub returns-clause-all : goal.returns-clause-all
returns-clause-all g c = λ seen h res bytes at p.
    let there = issued_outstanding c.args.core.now.setup h c.args.number res bytes p.lawful in
    issued_there c.args.core.now seen c.args.wanted.now h c.args.number res bytes c.args.entry.now c.args.accepted c.add_skipped.new.next.items c.add_told_issue.new.next.items at (c.requires.entry h at.fits) (c.requires.accepted h at.fits) c.in_ok-add_told_issue.ensures.adds.kept
    (λ r quiet ends.
    quiet_there c.args.core.now.setup.linux c.args.entry.now c.args.accepted c.args.number (λ x. posts c.args.core.now.setup.linux (world c.args.core.now.setup h).requests c.args.number x ≡ false) c.add_errors.new.next.items c.add_skipped.new.next.items
    (c.in_ok-add_skipped.ensures.adds None).kept
    (λ x so linux error. c.in_ok-add_errors.ensures.all h x at.fits there so linux error)
    (λ skips so. c.in_ok-add_skipped.ensures.none skips h at.fits there so)
    (λ manual all count few skips so. c.in_ok-add_skipped.ensures.some manual all count few skips h at.fits there so) r quiet ends)
    (λ r posts next. c.in_ok-add_told_issue.ensures.all h r at.fits there posts next) p
