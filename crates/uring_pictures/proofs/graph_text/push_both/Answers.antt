use Rattle.std.proofs.Common.{true≢false, sym, ◌∙◌}
use Rattle.uring_pictures.proofs.Arrows.{both_arrows}
use Rattle.uring_pictures.proofs.Common.{on_ok_weaker, string_bytes}
use Rattle.uring_pictures.proofs.graph_text.push_both.Goals as goal
use Rattle.uring_pictures.proofs.graph_text.push_both.Goals.{in-SameGroup, in_default-matches}

pub returns-clause-arrows : goal.returns-clause-arrows
returns-clause-arrows g c =
    on_ok_weaker c.push_arrow.result (λ line. elim c.match-matches.branch [
      | in-SameGroup w ↦ absurd (true≢false (sym w.matches-is ∙ c.if-matches.false))
      | in_default-matches w ↦ rw c.in-Waits.is (both_arrows (string_bytes c.args.text.now) _ _ c.args.number c.in-Waits.least c.args.before c.in-Waits.since w.in_default-matches.not-SameGroup c.in_ok-push_chain_arrow.ensures.line line)
    ]) c.push_arrow.ensures.line
