-- The law that each byte which counts as readable stands in a page of which one was read.
use Rattle.std.proofs.Common.{◌≡◌, ℕ, ◌<◌, ◌≤◌, ◌+◌, ◌-◌, ◌/◌, Bool, true, ◌&&◌, ◌==◌, nat_lt, Some, None, if◌then◌else◌, refl, arith}
use Rattle.std.proofs.lemmas.Bool.Decides.{nat_tests}
use Rattle.uring_operations.specs.Files.LoggedBytes.{is_run, place_of, page_begin, read_until, IsReadBy, ReadsWhatWasRead}

-- the question about a byte's page, which is this many after the first
abbrev number_of : (begin k : ℕ) → ℕ
number_of begin k = (begin + k) / 4096 - begin / 4096

-- where that was asked stands in front of the byte, in its page
spot_by : (begin k : ℕ) → (t : Bool) → (number_of begin k == 0) ≡ t
    → ((if t then begin else page_begin begin (number_of begin k)) ≤ begin + k)
    × ((if t then begin else page_begin begin (number_of begin k)) / 4096 ≡ (begin + k) / 4096)
spot_by begin k t is = grind arith

spot : (begin k : ℕ) → (place_of begin (number_of begin k) ≤ begin + k) × (place_of begin (number_of begin k) / 4096 ≡ (begin + k) / 4096)
spot begin k = spot_by begin k (number_of begin k == 0) refl

both : {X : Type 0} (a b : Bool) (x y : X) → a ≡ true → b ≡ true → (if a && b then x else y) ≡ x
both a b x y is also = grind arith

read_by : (begin length count k : ℕ) → is_run begin length ≡ true → k < length → number_of begin k < count
    → IsReadBy begin length count k
read_by begin length count k run low few =
    let at = spot begin k in
    let inside : place_of begin (number_of begin k) < begin + length = omega arith in
    let tells : nat_lt (place_of begin (number_of begin k)) (begin + length) ≡ true = grind (arith, nat_tests) in (
      number_of begin k,
      few,
      place_of begin (number_of begin k),
      both (is_run begin length) (nat_lt (place_of begin (number_of begin k)) (begin + length)) (Some (place_of begin (number_of begin k))) None run tells,
      at.0,
      at.1,
    )

-- a byte in front of where it is asked as a later question stands in the page of an earlier one
few_by : (begin count k : ℕ) → (t : Bool) → (count == 0) ≡ t
    → begin + k < (if t then begin else page_begin begin count) → number_of begin k < count
few_by begin count k t is low = grind arith

few : (begin count k : ℕ) → begin + k < place_of begin count → number_of begin k < count
few begin count k low = few_by begin count k (count == 0) refl low

law_by : (begin length count k : ℕ) (run inside : Bool) → is_run begin length ≡ run
    → nat_lt (place_of begin count) (begin + length) ≡ inside
    → k < (if run then read_until begin length (if run && inside then Some (place_of begin count) else None) else 0)
    → IsReadBy begin length count k
law_by begin length count k run inside r i low = grind (arith, read_by)

pub reads_what_was_read : ReadsWhatWasRead
reads_what_was_read begin length count k low =
    law_by begin length count k (is_run begin length) (nat_lt (place_of begin count) (begin + length)) refl refl low
