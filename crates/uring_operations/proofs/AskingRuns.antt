-- The laws of what is asked of open files, and taken back.
use Rattle.std.proofs.Common.{◌≡◌, ℕ, ◌+◌, ◌^◌, ◌<◌, Bool, true, false, not, ◌&&◌, ◌||◌, ◌==◌, nat_lt, Some, None, ap, ◌∙◌, if◌then◌else◌, arith}
use Rattle.std.specs.Int.RustNames.{bit_and, bit_or}
use Rattle.std.proofs.lemmas.Nat.{and_comm, and_or_self, or_disjoint, or_lt, and-not}
use Rattle.uring_operations.specs.Files.Asking.{CallsNeverSleep, TakesBackWhatItAsked, flags_after}

-- a bit that is set and cleared again leaves the others
back : (flags : ℕ) → flags < 2 ^ 32 → bit_and flags 2048 ≡ 0 → bit_and (bit_or flags 2048) 4294965247 ≡ flags
back flags below none =
    let with_it = bit_or flags 2048 in
    let small : 2048 < 2 ^ 32 = omega arith in
    let is_sum : with_it ≡ flags + 2048 = or_disjoint flags 2048 none in
    let split : bit_and 4294965247 with_it + bit_and 2048 with_it ≡ with_it = and-not 32 2048 with_it small (or_lt 32 flags 2048 below small) in
    let is_bit : bit_and 2048 with_it ≡ 2048 = and_comm 2048 with_it ∙ and_or_self 2048 flags in
    let left : bit_and 4294965247 with_it ≡ flags = omega (arith, split, is_bit, is_sum) in
    and_comm with_it 4294965247 ∙ left

is_set : (flags : ℕ) → (bit_and (bit_or flags 2048) 2048 == 0) ≡ false
is_set flags = ap (λ bits. bits == 0) (and_or_self 2048 flags)

after : (flags : ℕ) → flags < 2 ^ 32 → bit_and flags 2048 ≡ 0 → flags_after true true (bit_or flags 2048) ≡ Some flags
after flags below none = grind (arith, is_set, back)

taken_back : (flags asked : ℕ) (is_none : Bool) → flags < 2 ^ 32 → (bit_and flags 2048 == 0) ≡ is_none
    → (if not (not is_none) then Some (bit_or flags 2048) else None) ≡ Some asked → flags_after true true asked ≡ Some flags
taken_back flags asked is_none below is was = grind (arith, asked, after)

pub takes_back_what_it_asked : TakesBackWhatItAsked
takes_back_what_it_asked flags asked below = grind (arith, taken_back)

-- what has no flag of a message is asked by its descriptors
asked : (sockets accept connect splice tee : Bool) → sockets || (splice || tee) ≡ true
    → (sockets && not accept && not connect) || nat_lt 0 (if accept || connect then 1 else if splice || tee then 2 else 0) ≡ true
asked sockets accept connect splice tee is = grind arith

pub calls_never_sleep : CallsNeverSleep
calls_never_sleep e is = grind arith
