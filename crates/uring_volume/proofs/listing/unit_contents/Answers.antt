use Rattle.std.proofs.Common.{◌≡◌, ◌*◌, map, subst, ap, ◌∙◌}
use Rattle.uring_volume.proofs.Common.{false≢true, IfOk, bytes_from, contents_of, filter, is_on, issued}
use Rattle.uring_volume.specs.Images.{is_on}
use Rattle.uring_volume.proofs.IssuedWays.{filter_issued}
use Rattle.uring_volume.proofs.listing.unit_contents.Goals as goal

pub returns-in_err-bytes-clause-granted : goal.returns-in_err-bytes-clause-granted
returns-in_err-bytes-clause-granted g c = λ all. absurd (false≢true (c.in_err-bytes.ensures.granted all))

pub returns-in_err-on-clause-granted : goal.returns-in_err-on-clause-granted
returns-in_err-on-clause-granted g c = λ all. absurd (false≢true (c.in_err-on.ensures.granted all))

pub returns-clause-contents : goal.returns-clause-contents
returns-clause-contents g c =
    let h = c.args.past.now.history in
    let from = c.args.unit * c.args.i in
    subst (λ all. IfOk c.contents.result (λ found. map (λ b. b.items) found.items ≡ all))
    (ap (λ ws. contents_of h from ws c.in_ok-bytes.bytes.items) c.in_ok-on.ensures.pieces ∙ ap (contents_of h from (filter (is_on c.args.unit c.args.i) (issued h))) (c.in_ok-bytes.ensures.bytes ∙ ap (bytes_from c.args.first.now from) c.min-count.ensures))
    c.contents.ensures.contents

pub contents-requires : goal.contents-requires
contents-requires g c = filter_issued c.args.past.now.history (is_on c.args.unit c.args.i) _ c.in_ok-on.ensures.pieces
