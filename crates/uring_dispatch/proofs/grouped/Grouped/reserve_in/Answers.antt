use Rattle.std.proofs.Common.{arith}
use Rattle.uring_dispatch.proofs.Common.{end_of, false≢true}
use Rattle.uring_dispatch.proofs.Alike.{sound_alike, alike_from, reserved_window, reserved_groups}
use Rattle.uring_dispatch.proofs.Sizes.{window_few, groups_few}
use Rattle.uring_dispatch.proofs.grouped.Grouped.reserve_in.Goals as goal

pub returns-in-Err-clause-granted : goal.returns-in-Err-clause-granted
returns-in-Err-clause-granted g c = λ r n h grants below.
    let few = window_few _ _ r h in
    absurd (false≢true (c.in-Err.ensures.granted n grants (omega arith) (omega arith)))

pub invariant_of-self-2 : goal.invariant_of-self-2
invariant_of-self-2 g c =
    let window = reserved_window c.reserve_in.result c.args.self.now.window c.reserve_in.new.self c.args.count c.reserve_in.ensures.ok c.reserve_in.ensures.err in
    let groups = reserved_groups c.reserve_in-2.result c.args.self.now.groups c.reserve_in-2.new.self c.args.count c.reserve_in-2.ensures.ok c.reserve_in-2.ensures.err in
    record { fits = sound_alike _ _ _ _ (alike_from _ _ _ _ window.0 groups.0) c.args.self.now.fits }

pub returns-clause-granted : goal.returns-clause-granted
returns-clause-granted g c = λ r n h grants below.
    let few = groups_few _ _ c.args.self.now.fits in
    c.reserve_in-2.ensures.granted n (end_of c.args.self.now.window) grants c.args.self.now.fits.beyond (omega arith) (omega arith)
