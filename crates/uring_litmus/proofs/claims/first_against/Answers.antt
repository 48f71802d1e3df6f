use Rattle.std.proofs.Common.{◌≡◌, true, false, sym, ◌∙◌, rules, arith}
use Rattle.uring_litmus.proofs.Common.{lines_in, texts_of}
use Rattle.uring_litmus.proofs.Verdicts.{so_by_parts, so_of_more, so_of_none, so_of_all, against_at}
use Rattle.uring_litmus.proofs.claims.first_against.Goals as goal

pub loop-at-init : goal.loop-at-init
loop-at-init g c = so_of_none c.args.claim (lines_in c.args.lines.now)

pub returns-clause-found : goal.returns-clause-found
returns-clause-found g c = so_of_all c.args.claim (lines_in c.args.lines.now) c.args.endings.now c.loop-at.at (omega arith) c.loop-at.invariant

pub loop-at-preserved : goal.loop-at-preserved
loop-at-preserved g c =
    let so = so_by_parts c.args.claim (lines_in c.args.lines.now) c.index-endings-at.result (texts_of c.in_ok-parts.parts.items) c.shows_some-is_shown.result c.so_by-so.result c.in_ok-parts.ensures.parts (rw c.as_slice.ensures.value at c.shows_some-is_shown.ensures) c.so_by-so.ensures in
    so_of_more c.args.claim (lines_in c.args.lines.now) c.args.endings.now c.loop-at.at c.index-endings-at.result (search rules) c.index-endings-at.is c.loop-at.invariant (so.0 c.if-not-so.false)

pub returns-then-not-so-clause-found : goal.returns-then-not-so-clause-found
returns-then-not-so-clause-found g c =
    let so = so_by_parts c.args.claim (lines_in c.args.lines.now) c.index-endings-at.result (texts_of c.in_ok-parts.parts.items) c.shows_some-is_shown.result c.so_by-so.result c.in_ok-parts.ensures.parts (rw c.as_slice.ensures.value at c.shows_some-is_shown.ensures) c.so_by-so.ensures in
    against_at c.args.claim (lines_in c.args.lines.now) c.args.endings.now c.loop-at.at c.index-endings-at.result (search rules) c.index-endings-at.is
    (λ is. let no : false ≡ true = sym c.if-not-so.true ∙ so.1 is in cc)
