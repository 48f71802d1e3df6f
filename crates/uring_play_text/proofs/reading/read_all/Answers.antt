use Rattle.uring_play_text.proofs.Common.{Consumes-kept, Consumes-nil, Consumes-trans, Err, append-nil}
use Rattle.std.proofs.Common.{◌≡◌, [], rules}
use Rattle.uring_play_text.proofs.reading.read_all.Goals as goal

pub returns-in-Ok-eq0-clause-bytes : goal.returns-in-Ok-eq0-clause-bytes
returns-in-Ok-eq0-clause-bytes g c = λ size h.
    let so = c.loop-chunk.invariant size h in
    let none_is : c.in-Ok-eq0.field-0 ≡ 0 = search rules in
    (so.0, rw append-nil at (Consumes-trans _ _ _ so.0 [] so.1 (rw none_is at c.in-Ok-eq0.ensures.bytes.0)), (so.2, c.in-Ok-eq0.ensures.bytes.1 none_is (search rules)))

pub loop-chunk-preserved-in-Continue-1 : goal.loop-chunk-preserved-in-Continue-1
loop-chunk-preserved-in-Continue-1 g c = λ size h. let so = c.loop-chunk.invariant size h in
    (_, Consumes-trans _ _ _ so.0 _ so.1 c.in-Ok.ensures.bytes.0, c.in_ok-feed-in-Ok.ensures.ok size so.0 so.2)

pub returns-in_err-feed-in-Ok-clause-bytes : goal.returns-in_err-feed-in-Ok-clause-bytes
returns-in_err-feed-in-Ok-clause-bytes g c = λ size h.
    let so = c.loop-chunk.invariant size h in
    let is : c.from_residual.result ≡ Err c.in_err-feed-in-Ok.field-0.0 = search rules in
    (_, Consumes-trans _ _ _ so.0 _ so.1 c.in-Ok.ensures.bytes.0, rw is c.in_err-feed-in-Ok.ensures.early)

pub loop-chunk-preserved : goal.loop-chunk-preserved
loop-chunk-preserved g c = λ size h. let so = c.loop-chunk.invariant size h in
    (so.0, Consumes-kept _ _ _ so.0 so.1 c.in-Err.ensures.bytes, so.2)

pub returns-clause-bytes : goal.returns-clause-bytes
returns-clause-bytes g c = λ size h. let so = c.loop-chunk.invariant size h in (so.0, so.1, tt)

pub loop-chunk-init : goal.loop-chunk-init
loop-chunk-init g c = λ size h. ([], Consumes-nil (g.R.Read.remaining c.args.reader.now), h)
