use Rattle.std.proofs.Common.{◌≡◌, ℤ, Some, ap, ◌∙◌, rules}
use Rattle.uring_reconstruct.proofs.Common.{Cqe, Sqe, completion_for, no_bytes, to_z-of_z, w32}
use Rattle.uring_reconstruct.proofs.Events.{issue_part}
use Rattle.uring_reconstruct.proofs.Adding.{adds_one, end_pushed, issued_as, last_there}
use Rattle.uring_reconstruct.proofs.issued.add_told.Goals as goal

pub returns-in_ok-push-clause-adds : goal.returns-in_ok-push-clause-adds
returns-in_ok-push-clause-adds g c =
    let same = to_z-of_z w32 c.args.res (search rules) in
    let is = end_pushed _ _ _ _ _ _ _ c.in_ok-push.ensures.items c.ended.ensures same in
    let told : c.new.result ≡ completion_for c.args.entry.now c.args.res no_bytes =
    c.new.ensures ∙ (ap (λ (r : ℤ). record { user_data = c.user_data.result; res = r; payload = no_bytes }) same ∙ ap (λ u. record { user_data = u; res = c.args.res; payload = no_bytes }) c.user_data.ensures) in
    let wanted : c.args.wanted.now ≡ Some (completion_for c.args.entry.now c.args.res no_bytes) = c.is_wanted.ensures.0 c.if-is_wanted.true ∙ ap (λ (x : Cqe). Some x) told in
    adds_one c.args.core.now c.args.wanted.now c.args.next.now.items c.push.new.list.items (issued_as c.args.number c.args.res) is
    (λ seen h at lawful. issue_part c.args.core.now seen c.args.wanted.now h c.args.number c.args.res at
    (λ posts. wanted ∙ ap (λ (e : Sqe). Some (completion_for e c.args.res no_bytes)) (c.requires h at.fits)) lawful)

pub returns-in_ok-push-clause-added : goal.returns-in_ok-push-clause-added
returns-in_ok-push-clause-added g c = λ h fits outstanding posts is.
    last_there _ _ _ (end_pushed _ _ _ _ _ _ _ c.in_ok-push.ensures.items c.ended.ensures (to_z-of_z w32 c.args.res (search rules)))
