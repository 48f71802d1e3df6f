use Rattle.std.proofs.Common.{◌≡◌, ◌<◌, true, length, arith}
use Rattle.uring_reconstruct.proofs.Common.{Contains, entry_outstanding, is_issuable, requests_of, world}
use Rattle.uring_core.specs.declared.step.Step.TheVariants as step
use Rattle.uring_core.specs.declared.answer.Answer.TheVariants as answer
use Rattle.uring_reconstruct.specs.Parts as parts
use Rattle.uring_reconstruct.proofs.Issuing.{issuable_accepted}
use Rattle.uring_reconstruct.proofs.Seeing.{descend}
use Rattle.uring_reconstruct.proofs.Adding.{adds_then}
use Rattle.uring_reconstruct.proofs.starts.add_starts.Goals as goal

pub loop-place-preserved : goal.loop-place-preserved
loop-place-preserved g c = record {
  adds = adds_then c.args.core.now c.args.wanted.now c.args.next.now.items c.loop-place.next.items c.add_start.new.next.items c.loop-place.invariant.adds c.in_ok-add_start.ensures.adds;
  added = λ seen h n at low high.
      descend (λ k. is_issuable c.args.core.now.setup.linux (requests_of (world c.args.core.now.setup h)) k ≡ true → parts.is_asked (entry_outstanding (world c.args.core.now.setup h).requests k) c.args.wanted.now ≡ c.args.asked → Contains c.add_start.new.next.items (step.Issue k, answer.Run)) c.counts-accepted.result.accepted c.loop-place.place n high
      (λ before can asked. c.in_ok-add_start.ensures.adds.kept (step.Issue n, answer.Run) (c.loop-place.invariant.added seen h n at low before can asked))
      (c.in_ok-add_start.ensures.added seen h at);
}

pub returns-clause-added : goal.returns-clause-added
returns-clause-added g c = λ seen h n at can asked.
    let many : c.counts-accepted.result.accepted ≡ length (world c.args.core.now.setup h).requests.accepted = (c.counts-accepted.ensures h at.fits).accepted in
    let low : n < length (world c.args.core.now.setup h).requests.accepted = issuable_accepted c.args.core.now.setup.linux (requests_of (world c.args.core.now.setup h)) n can in
    c.loop-place.invariant.added seen h n at (omega arith) (omega arith) can asked
