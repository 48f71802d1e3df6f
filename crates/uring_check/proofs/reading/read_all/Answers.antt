use Rattle.std.proofs.Common.{◌≡◌, ◌≢◌, [], ◌++◌, rules}
use Rattle.std.proofs.KnownBytes.{Consumes-nil, Consumes-trans, Consumes-kept}
use Rattle.uring_check.proofs.Common.{append-nil, false≢true}
use Rattle.uring_text.specs.declared.trace_fault.TraceFault.TheVariants as fault
use Rattle.uring_check.proofs.reading.read_all.Goals as goal

-- a read that failed wrote nothing
read_alone : fault.Read ≢ fault.Write
read_alone e = absurd cc

pub loop-chunk-init : goal.loop-chunk-init
loop-chunk-init g c = λ setup all h. ([], Consumes-nil _, h)

pub returns-in-Ok-eq0-clause-bytes : goal.returns-in-Ok-eq0-clause-bytes
returns-in-Ok-eq0-clause-bytes g c = λ setup all h.
    let none_is : c.in-Ok-eq0.field-0 ≡ 0 = search rules in
    let so = c.loop-chunk.invariant setup all h in
    (so.0, rw append-nil at (Consumes-trans _ _ _ so.0 _ so.1 (rw none_is at c.in-Ok-eq0.ensures.bytes.0)), (so.2, c.in-Ok-eq0.ensures.bytes.1 none_is (search rules)))

pub loop-chunk-preserved-in-Continue-1 : goal.loop-chunk-preserved-in-Continue-1
loop-chunk-preserved-in-Continue-1 g c = λ setup all h.
    let so = c.loop-chunk.invariant setup all h in
    (so.0 ++ _, Consumes-trans _ _ _ so.0 _ so.1 c.in-Ok.ensures.bytes.0, c.in_ok-feed-in-Ok.ensures.ok setup all so.0 so.2)

pub returns-in_err-feed-in-Ok-clause-bytes : goal.returns-in_err-feed-in-Ok-clause-bytes
returns-in_err-feed-in-Ok-clause-bytes g c = λ setup all h.
    let so = c.loop-chunk.invariant setup all h in
    (so.0 ++ _, Consumes-trans _ _ _ so.0 _ so.1 c.in-Ok.ensures.bytes.0, search rules)

pub loop-chunk-preserved : goal.loop-chunk-preserved
loop-chunk-preserved g c = λ setup all h.
    let so = c.loop-chunk.invariant setup all h in (so.0, Consumes-kept _ _ _ so.0 so.1 c.in-Err.ensures.bytes, so.2)

pub returns-clause-bytes : goal.returns-clause-bytes
returns-clause-bytes g c = λ setup all h. let so = c.loop-chunk.invariant setup all h in (so.0, so.1, read_alone)

pub returns-in_err-feed-in-Ok-clause-granted : goal.returns-in_err-feed-in-Ok-clause-granted
returns-in_err-feed-in-Ok-clause-granted g c = λ sure r all h.
    let so = c.loop-chunk.invariant r all h in
    absurd (false≢true (c.in_err-feed-in-Ok.ensures.granted sure r all so.0 so.2))
