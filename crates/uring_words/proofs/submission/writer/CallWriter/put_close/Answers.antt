use Rattle.std.proofs.Common.{false, arith, refl, ap, ◌∙◌}
use Rattle.uring_ports.specs.Ports.{with_close}
use Rattle.uring_words.specs.Submission.Calls.{put_of}
use Rattle.uring_words.specs.Submission.Ends.{End}
use Rattle.uring_words.proofs.CallLemmas.{places}
use Rattle.uring_words.proofs.Copying.{staged_close}
use Rattle.uring_words.proofs.submission.writer.CallWriter.put_close.Goals as goal

pub returns-then-not-has_room-clause-put : goal.returns-then-not-has_room-clause-put
returns-then-not-has_room-clause-put c = (
  ap (λ (e : End). put_of e.knows.app.published) c.has_room.ensures.is,
  omega (arith, places false c.args.self.now.knows.app.published c.requires.rests.whole, c.if-not-has_room.ensures.room),
)

pub publish-requires : goal.publish-requires
publish-requires c =
    let h = c.has_room.ensures.is in
    let r = c.requires.rests in
    (staged_close _ _ c.stage.ensures (rw h r.staged) (rw h r.whole) (rw h c.requires.open)).whole

pub returns-clause-rests : goal.returns-clause-rests
returns-clause-rests c =
    let h = c.has_room.ensures.is in
    let r = c.requires.rests in
    rw c.publish.ensures (record { staged = refl; whole = (staged_close _ _ c.stage.ensures (rw h r.staged) (rw h r.whole) (rw h c.requires.open)).whole })

pub returns-clause-put : goal.returns-clause-put
returns-clause-put c =
    let h = c.has_room.ensures.is in
    let r = c.requires.rests in
    rw c.publish.ensures ((staged_close _ _ c.stage.ensures (rw h r.staged) (rw h r.whole) (rw h c.requires.open)).is ∙ ap (λ (e : End). with_close (put_of e.knows.app.published)) h)
