-- Terms, one after another.
use Rattle.std.proofs.Common.{◌≡◌, ℕ, List, [], ◌∷◌, ◌++◌, refl, append_assoc, append-nil, arith}
use Rattle.uring_text.specs.Terms.{term_after, terms_after, terms_text}
use Rattle.uring_text.specs.declared.terms.Term.{Term}

-- what stands before a term stays before it
term_apart : (old text : List ℕ) (t : Term) → term_after (old ++ text) t ≡ old ++ term_after text t
term_apart old text t = grind (arith, append_assoc)

terms_apart : (old text : List ℕ) (terms : List Term)
    → terms_after (old ++ text) terms ≡ old ++ terms_after text terms
terms_apart old text [] = refl
terms_apart old text (t ∷ terms) = rw (term_apart old text t) (terms_apart old (term_after text t) terms)

pub terms_all : (old : List ℕ) (terms : List Term) → terms_after old terms ≡ old ++ terms_text terms
terms_all old terms = rw (append-nil old) at (terms_apart old [] terms)
