use Rattle.std.proofs.Common.{◌≡◌, drop, string_bytes}
use Rattle.uring_text.specs.Terms.{terms_after}
use Rattle.uring_text.proofs.terms.push_terms.Given as goal

-- what is appended of the rest is appended of all
abbrev pub invariant-loop-term : goal.invariant-loop-term
invariant-loop-term g l =
    terms_after (string_bytes l.text) (drop l.term-index l.terms) ≡ terms_after (string_bytes l.initial.text) l.terms
