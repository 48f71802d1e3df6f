use Rattle.std.proofs.Common.{◌≡◌, ◌+◌, ◌∙◌, arith, add_assoc}
use Rattle.uring_rings.proofs.Common.{put_by_flush}
use Rattle.uring_rings.proofs.CompletionSteps.{load_shows, all_moved}
use Rattle.uring_rings.proofs.cq.Cq.flush.Goals as goal

pub loop-moved-preserved : goal.loop-moved-preserved
loop-moved-preserved c =
    record {
      waiting = omega (arith, c.loop-moved-test.ensures.fewer, c.loop-moved.invariant.waiting);
      room = c.loop-moved-test.ensures.room ∙ c.loop-moved.invariant.room;
      kept = omega (arith, c.loop-moved-test.ensures.memory.kept, c.loop-moved.invariant.kept);
      shows = λ g m s. rw (← add_assoc m.put c.loop-moved.moved 1) (c.loop-moved-test.ensures.shows g _ (c.loop-moved.invariant.shows g m s));
    }

pub returns-clause-answer : goal.returns-clause-answer
returns-clause-answer c = rw (← c.self.view_is) (λ g l s.
    let shown = c.loop-moved.invariant.shows g (record l { seen_head = l.head }) (load_shows g _ l s) in
    let all : l.put + c.loop-moved.moved ≡ put_by_flush g.cq l = all_moved g _ l c.loop-moved.moved shown (c.loop-moved-test.ensures.answer g _ shown) in
    omega arith)

pub returns-clause-shows : goal.returns-clause-shows
returns-clause-shows c = rw (← c.self.view_is) (λ g l s.
    let shown = c.loop-moved.invariant.shows g (record l { seen_head = l.head }) (load_shows g _ l s) in
    let all : l.put + c.loop-moved.moved ≡ put_by_flush g.cq l = all_moved g _ l c.loop-moved.moved shown (c.loop-moved-test.ensures.answer g _ shown) in
    rw (← all) (c.loop-moved-test.ensures.shows g _ shown))
