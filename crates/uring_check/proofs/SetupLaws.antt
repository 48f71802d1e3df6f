-- What a first line says of a set-up, and what follows of the lines that are taken in.
use Rattle.std.proofs.Common.{◌≡◌, ℕ, true, List, ◌∷◌, Option, Some, Result, Err, refl, arith}
use Rattle.uring_check.proofs.Common.{IsBadCq, IsBadFiles, IsBadSq, IsErrOf, IsSaidBy, IsSaidOf, MissesSetup, Setup, begins_setup, codes, sizes_in, sizes_said, ◌↔◌}
use Rattle.std.specs.Str.{bytes_eq}
use Rattle.std.specs.Int.{IsNextPowerOfTwo}
use Rattle.uring_entry.specs.declared.bad_setup.BadSetup.{BadSetup}
use Rattle.uring_entry.specs.declared.bad_setup.BadSetup.TheVariants.{BadSq, BadCq, BadFiles}
use Rattle.uring_check.specs.declared.setup_line.Said.{Said}
use Rattle.uring_check.specs.declared.setup_line.Sizes.{Sizes}

pub misses : (sizes : Option Sizes) (n : Sizes) (e : BadSetup) (result : Result Setup BadSetup)
    → sizes ≡ Some n → result ≡ Err e → (IsErrOf result BadSq ↔ IsBadSq n.sq)
    → (IsErrOf result BadCq ↔ ((IsBadSq n.sq → ⊥) × ((p : ℕ) → IsNextPowerOfTwo n.sq p → IsBadCq p (Some n.cq))))
    → (IsErrOf result BadFiles ↔ ((IsBadSq n.sq → ⊥) × ((p : ℕ) → IsNextPowerOfTwo n.sq p → IsBadCq p (Some n.cq) → ⊥) × IsBadFiles n.files))
    → MissesSetup sizes
misses sizes n e result has is sq cq files = grind arith

-- ---- tokens that begin as a set-up

begun : (tokens : List (List ℕ)) (said : Said) → begins_setup tokens ≡ true
    → IsSaidOf (sizes_in tokens) said → IsSaidBy tokens said
begun tokens said is of = grind arith

pub set_up : (tokens : List (List ℕ)) (sign name : List ℕ) (rest : List (List ℕ)) (said : Said)
    → tokens ≡ sign ∷ name ∷ rest → bytes_eq sign (codes "#") ≡ true
    → bytes_eq name (codes "setup") ≡ true → IsSaidOf (sizes_said rest) said → IsSaidBy tokens said
set_up tokens sign name rest said are one two of = grind (arith, (begun (sign ∷ name ∷ rest) said (rw (one, two) refl)))
