use Rattle.std.proofs.Common.{sym, ◌∙◌, rules}
use Rattle.uring_reconstruct.proofs.Common.{entry_of, no_bytes, posts, to_z-of_z, w32, world}
use Rattle.uring_reconstruct.proofs.Events.{issue_part}
use Rattle.uring_reconstruct.proofs.Adding.{adds_one, end_pushed, issued_as, issued_outstanding, last_there, quiet_tells}
use Rattle.uring_reconstruct.proofs.issued.add_quiet.Goals as goal

pub returns-in_ok-push-clause-adds : goal.returns-in_ok-push-clause-adds
returns-in_ok-push-clause-adds g c = λ wanted.
    let same = to_z-of_z w32 c.args.res (search rules) in
    let is = end_pushed _ _ _ _ _ _ _ c.in_ok-push.ensures.items c.ended.ensures same in
    let told = rw same at c.posts.ensures in
    adds_one c.args.core.now wanted c.args.next.now.items c.push.new.list.items (issued_as c.args.number c.args.res) is
    (λ seen h at lawful. issue_part c.args.core.now seen wanted h c.args.number c.args.res at
    (quiet_tells (posts c.args.core.now.setup.linux (world c.args.core.now.setup h).requests c.args.number c.args.res) (entry_of (world c.args.core.now.setup h).requests c.args.number) wanted c.args.res no_bytes
    (sym (told h at.fits (issued_outstanding c.args.core.now.setup h c.args.number c.args.res no_bytes lawful)) ∙ c.if-not-posts.true)) lawful)

pub returns-in_ok-push-clause-added : goal.returns-in_ok-push-clause-added
returns-in_ok-push-clause-added g c = λ h fits outstanding quiet.
    last_there _ _ _ (end_pushed _ _ _ _ _ _ _ c.in_ok-push.ensures.items c.ended.ensures (to_z-of_z w32 c.args.res (search rules)))
