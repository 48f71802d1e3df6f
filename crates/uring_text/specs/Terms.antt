-- Glue. What terms write, one after another.
use Rattle.std.specs.Prelude.{ℕ, List, [], ◌∷◌, ◌++◌}
use Rattle.std.specs.Fmt.{decimal, signed_decimal}
use Rattle.uring_text.specs.Forms.{operation_text}
use Rattle.uring_text.specs.declared.terms.Term.{Term}
use Rattle.uring_text.specs.declared.terms.Term.TheVariants as term

-- a text, and after it what a term writes
abbrev pub term_after : List ℕ → Term → List ℕ
term_after text (term.Text more) = text ++ more.now
term_after text (term.Number n) = text ++ decimal n
term_after text (term.Signed n) = text ++ signed_decimal n
term_after text (term.Named name n) = text ++ name.now ++ decimal n
term_after text (term.Operation entry) = text ++ operation_text entry.now

-- a text, and after it what terms write, in their order
abbrev pub terms_after : List ℕ → List Term → List ℕ
terms_after text [] = text
terms_after text (t ∷ terms) = terms_after (term_after text t) terms

-- what terms write
abbrev pub terms_text : List Term → List ℕ
terms_text terms = terms_after [] terms
