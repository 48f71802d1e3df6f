-- What holds of the one thread that may call on a ring. io_uring_setup(2), IORING_SETUP_SINGLE_ISSUER.
use Rattle.std.specs.Prelude.{◌≡◌, ◌≢◌, ℕ, true, false, List, ◌∷◌, Some, None}
use Rattle.uring_register.specs.Rings.Issuing.{Doing, Enabled, Called, issuer, is_disabled, is_of_another}

-- no call makes another thread the issuer of a ring that has one
abbrev pub KeepsItsIssuer : Type 0
KeepsItsIssuer = (log : List Doing) (first thread : ℕ) → issuer log ≡ Some first
    → (issuer (Enabled thread ∷ log) ≡ Some first) × (issuer (Called thread ∷ log) ≡ Some first)

-- the issuer is never another, and each other thread is
abbrev pub KnowsItsIssuer : Type 0
KnowsItsIssuer = (log : List Doing) (first thread : ℕ) → issuer log ≡ Some first
    → (is_of_another log first ≡ false) × (thread ≢ first → is_of_another log thread ≡ true)

-- a disabled ring has none: so any thread may enable it
abbrev pub DisabledHasNone : Type 0
DisabledHasNone = (log : List Doing) → is_disabled log ≡ true → issuer log ≡ None
