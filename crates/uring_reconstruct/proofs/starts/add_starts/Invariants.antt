use Rattle.std.proofs.Common.{◌≡◌, ℕ, ◌+◌, ◌<◌, ◌≤◌, true, List}
use Rattle.uring_reconstruct.proofs.Common.{Adds, Contains, Event, History, StandsAt, entry_outstanding, is_issuable, requests_of, world}
use Rattle.uring_core.specs.declared.step.Step.TheVariants as step
use Rattle.uring_core.specs.declared.answer.Answer.TheVariants as answer
use Rattle.uring_reconstruct.specs.Parts as parts
use Rattle.uring_reconstruct.proofs.starts.add_starts.Given as goal

-- the starts of the last requests so far are there
abbrev pub invariant-loop-place : goal.invariant-loop-place
invariant-loop-place g l = record {
  adds : Adds l.core l.wanted l.fn.next.items l.next.items;
  added : (seen : List Event) (h : History) (n : ℕ) → StandsAt l.core seen l.wanted h → n < l.accepted → l.accepted ≤ n + l.place
      → is_issuable l.core.setup.linux (requests_of (world l.core.setup h)) n ≡ true
      → parts.is_asked (entry_outstanding (world l.core.setup h).requests n) l.wanted ≡ l.asked
      → Contains l.next.items (step.Issue n, answer.Run);
}
