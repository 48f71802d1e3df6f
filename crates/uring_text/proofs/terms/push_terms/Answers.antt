use Rattle.std.proofs.Common.{◌∙◌, sym, arith}
use Rattle.uring_text.proofs.Common.{at_drop_all, string_bytes}
use Rattle.uring_text.specs.Terms.{terms_after}
use Rattle.uring_text.proofs.TermLaws.{terms_all}
use Rattle.uring_text.proofs.terms.push_terms.Goals as goal

pub returns-clause-bytes : goal.returns-clause-bytes
returns-clause-bytes g c =
    sym (at_drop_all (terms_after (string_bytes c.loop-term.text)) c.args.terms.now c.loop-term.term-index (omega arith))
    ∙ c.loop-term.invariant ∙ terms_all (string_bytes c.args.text.now) c.args.terms.now
