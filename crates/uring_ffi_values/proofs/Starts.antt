-- Which words ask for a machine or a ring that serves, and which don't.
use Rattle.std.proofs.Common.{◌≡◌, ◌<◌, ◌≤◌, ℕ, true, List, inl, inr, ◌∙◌, arith}
use Rattle.uring_ffi_values.proofs.Common.{All, IsAskedFor, IsNoStart, IsRefused, Setup, SetupWords, both_ways}
use Rattle.uring_entry.proofs.Powers.{rounded_once}
use Rattle.uring_ffi_values.specs.Outcomes.Outcomes.{TakesWhole, IsNoWalk}

-- A machine that begins on so many files.

pub no_start_refused : (w : SetupWords) (unit count : ℕ) → IsRefused w → IsNoStart w unit count
no_start_refused w unit count refused = λ t b. absurd (refused t b)

pub no_start_unit : (w : SetupWords) (unit count : ℕ) → unit ≡ 0 → IsNoStart w unit count
no_start_unit w unit count none = λ t b. inl none

pub no_start_many : (w : SetupWords) (s : Setup) (unit count : ℕ) → IsAskedFor w s → s.files < count
    → IsNoStart w unit count
no_start_many w s unit count a many = λ t b. inr (omega (arith, a.0.files_kept, b.0.files_kept, many))

pub is_start : (w : SetupWords) (s : Setup) (unit count : ℕ) → IsAskedFor w s → 0 < unit → count ≤ s.files
    → IsNoStart w unit count → ⊥
is_start w s unit count a some few refuses = grind arith

-- A ring that takes calls of these lengths in whole.

pub no_walk_refused : (w : SetupWords) (lens : List ℕ) → IsRefused w → IsNoWalk w lens
no_walk_refused w lens refused = λ t b takes. refused t b

pub no_walk_stops : (w : SetupWords) (lens : List ℕ) → w.stops ≡ true → IsNoWalk w lens
no_walk_stops w lens stops = λ t b takes. both_ways t.stops takes.0 (b.1 ∙ stops)

pub no_walk_linux : (w : SetupWords) (lens : List ℕ) → w.linux ≡ true → IsNoWalk w lens
no_walk_linux w lens linux = λ t b takes. both_ways t.linux takes.1 (b.2 ∙ linux)

pub no_walk_long : (w : SetupWords) (s : Setup) (lens : List ℕ) → IsAskedFor w s
    → (All (λ len. len ≤ s.sq) lens → ⊥) → IsNoWalk w lens
no_walk_long w s lens a long = grind (arith, rounded_once)

pub is_walk : (w : SetupWords) (s : Setup) (lens : List ℕ) → IsAskedFor w s → TakesWhole s lens
    → IsNoWalk w lens → ⊥
is_walk w s lens a takes refuses = refuses s a takes
