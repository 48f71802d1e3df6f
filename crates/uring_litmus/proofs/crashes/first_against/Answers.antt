use Rattle.std.proofs.Common.{◌≡◌, sym, subst, ◌∙◌, rules, arith}
use Rattle.uring_litmus.proofs.Common.{Contains, lines_in, string_bytes, texts_of}
use Rattle.uring_litmus.specs.Crashes.{IsNotSoOfLine}
use Rattle.uring_litmus.proofs.CrashLines.{so_line, so_more, so_of_all_lines}
use Rattle.uring_litmus.proofs.Places.{to_map}
use Rattle.uring_litmus.proofs.Verdicts.{not_yet}
use Rattle.uring_litmus.proofs.crashes.first_against.Goals as goal

pub loop-line-init : goal.loop-line-init
loop-line-init g c = λ line has. absurd (not_yet line has)

pub loop-line-preserved : goal.loop-line-preserved
loop-line-preserved g c =
    let so = so_line c.args.claim (lines_in c.args.lines.now) (string_bytes c.line-item.result) (texts_of c.in_ok-parts.parts.items) c.shows_some-is_shown.result c.so_by-so.result (rw c.as_str.ensures.value at c.in_ok-parts.ensures.parts) (rw c.as_slice.ensures.value at c.shows_some-is_shown.ensures) c.so_by-so.ensures in
    so_more c.args.claim (lines_in c.args.lines.now) c.args.shown.now c.loop-line.line-index c.line-item.result (search rules) c.line-item.is c.loop-line.invariant (so.0 c.if-not-so.false)

pub returns-then-not-so-clause-found : goal.returns-then-not-so-clause-found
returns-then-not-so-clause-found g c =
    let so = so_line c.args.claim (lines_in c.args.lines.now) (string_bytes c.line-item.result) (texts_of c.in_ok-parts.parts.items) c.shows_some-is_shown.result c.so_by-so.result (rw c.as_str.ensures.value at c.in_ok-parts.ensures.parts) (rw c.as_slice.ensures.value at c.shows_some-is_shown.ensures) c.so_by-so.ensures in
    let same : string_bytes c.line-item.result ≡ string_bytes c.in_ok-copy.copy = sym (c.in_ok-copy.ensures.bytes ∙ c.as_str-then-not-so.ensures.value) in
    subst (λ l. Contains (texts_of c.args.shown.now) l × IsNotSoOfLine c.args.claim (lines_in c.args.lines.now) l) same
    (to_map string_bytes c.args.shown.now c.line-item.result (c.loop-line.line-index, c.loop-line-test.true, sym c.line-item.is), so.1 c.if-not-so.true)

pub returns-clause-found : goal.returns-clause-found
returns-clause-found g c = so_of_all_lines c.args.claim (lines_in c.args.lines.now) c.args.shown.now c.loop-line.line-index (omega arith) c.loop-line.invariant
