use Rattle.std.proofs.Common.{◌≡◌, [], ℕ, take, subst, rules}
use Rattle.std.specs.Io.KnownBytes.{Consumes}
use Rattle.uring_crash.proofs.Runs.{far_start, far_end, far_on, far_again}
use Rattle.uring_crash.proofs.crash_run.read_all.Goals as goal

pub loop-reads-init : goal.loop-reads-init
loop-reads-init g c = λ unit setup fd most f. far_start unit setup fd most _ c.args.follower.now f

pub returns-in-Ok-eq0-clause-read : goal.returns-in-Ok-eq0-clause-read
returns-in-Ok-eq0-clause-read g c = λ unit setup fd most f.
    let none_is : c.in-Ok-eq0.field-0 ≡ 0 = search rules in
    let read : Consumes (g.R.Read.remaining c.loop-reads.reader) (g.R.Read.remaining c.read_once.new.reader) [] =
    subst (λ (n : ℕ). Consumes (g.R.Read.remaining c.loop-reads.reader) (g.R.Read.remaining c.read_once.new.reader) (take n c.read_once.new.buf)) none_is c.in-Ok-eq0.ensures.bytes.0 in
    far_end unit setup fd most _ _ _ c.loop-reads.follower c.finish.new.self read (c.in-Ok-eq0.ensures.bytes.1 none_is (search rules)) c.in_ok-finish-in-Ok-eq0.ensures.follows (c.loop-reads.invariant unit setup fd most f)

pub loop-reads-preserved-in_ok-feed-in-Ok : goal.loop-reads-preserved-in_ok-feed-in-Ok
loop-reads-preserved-in_ok-feed-in-Ok g c = λ unit setup fd most f. far_on unit setup fd most _ _ _ c.loop-reads.follower c.feed.new.self _ c.in-Ok.ensures.bytes.0 c.in_ok-feed-in-Ok.ensures.follows (c.loop-reads.invariant unit setup fd most f)

pub loop-reads-preserved : goal.loop-reads-preserved
loop-reads-preserved g c = λ unit setup fd most f. far_again unit setup fd most _ _ _ c.loop-reads.follower c.in-Err.ensures.bytes (c.loop-reads.invariant unit setup fd most f)
