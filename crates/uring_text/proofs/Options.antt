-- Steps that may give nothing.
use Rattle.std.proofs.Common.{◌≡◌, ℕ, false, List, Option, Some, arith}
use Rattle.uring_text.proofs.Common.{bytes_eq, bytes_eq-Decides, codes, option_map, ◌>>=◌}

-- the value of a step that gave something
pub bind_some : {A B : Type 0} (o : Option A) (f : A → Option B) (y : B) → (o >>= f) ≡ Some y
    → (x : A) × (o ≡ Some x) × (f x ≡ Some y)
bind_some o f y e = grind arith

-- the value that a mapped one is of, and what is said of it
pub mapped : {A B : Type 0} (S : A → Type 0) (f : A → B) (o : Option A) (y : B)
    → ((x : A) → o ≡ Some x → S x) → option_map f o ≡ Some y → (x : A) × S x × (y ≡ f x)
mapped S f o y is e = grind (arith, is)

-- a token other than `-`
pub no_dash : (token : List ℕ) → (token ≡ codes "-" → ⊥) → bytes_eq token (codes "-") ≡ false
no_dash token other = grind (arith, (bytes_eq-Decides token (codes "-")))
