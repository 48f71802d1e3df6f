use Rattle.std.proofs.Common.{false, arith, refl, ap, ◌∙◌}
use Rattle.uring_ports.specs.Ports.{with_call}
use Rattle.uring_words.specs.Submission.Calls.{put_of}
use Rattle.uring_words.specs.Submission.Ends.{End}
use Rattle.uring_words.proofs.CallLemmas.{places}
use Rattle.uring_words.proofs.Copying.{staged_call}
use Rattle.uring_words.proofs.submission.writer.CallWriter.put_call.Goals as goal

pub returns-then-not-has_room-clause-put : goal.returns-then-not-has_room-clause-put
returns-then-not-has_room-clause-put c = (
  ap (λ (e : End). put_of e.knows.app.published) c.has_room.ensures.is,
  omega (arith, places false c.args.self.now.knows.app.published c.requires.rests.whole, c.if-not-has_room.ensures.room),
)

pub publish-requires : goal.publish-requires
publish-requires c =
    let h = c.has_room.ensures.is in
    (staged_call _ _ _ c.stage_call.ensures (rw h c.requires.rests.whole) (rw h c.requires.open)).whole

pub returns-clause-rests : goal.returns-clause-rests
returns-clause-rests c =
    let h = c.has_room.ensures.is in
    rw c.publish.ensures (record { staged = refl; whole = (staged_call _ _ _ c.stage_call.ensures (rw h c.requires.rests.whole) (rw h c.requires.open)).whole })

pub returns-clause-put : goal.returns-clause-put
returns-clause-put c =
    let h = c.has_room.ensures.is in
    rw c.publish.ensures ((staged_call _ _ _ c.stage_call.ensures (rw h c.requires.rests.whole) (rw h c.requires.open)).is ∙ ap (λ (e : End). with_call (put_of e.knows.app.published) c.args.items.now) h)
