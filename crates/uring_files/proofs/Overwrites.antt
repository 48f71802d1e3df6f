-- Bytes written over others.
use Rattle.std.proofs.Common.{◌≡◌, ℕ, ◌+◌, ◌-◌, ◌≤◌, max, List, ◌++◌, length, get_or, take, drop, replicate, arith, rules}
use Rattle.std.proofs.lemmas.List.{same_lists}
use Rattle.std.proofs.lemmas.Grind.{common_steps}
use Rattle.uring_files.proofs.Common.{IsWrittenOver, if◌then◌else◌, nat_le, nat_lt, nat_tests, overwritten, places, ◌&&◌, ◌==◌}

some_bytes : (n : ℕ) (xs ys : List ℕ) → 1 ≤ n → (if n == 0 then xs else ys) ≡ ys
some_bytes n xs ys some = search rules

-- what is written into bytes that were filled up with zeros
pub replaced_is : (old new : List ℕ) (off n : ℕ) → 1 ≤ length new
    → n ≡ max (length old) (off + length new)
    → take off (take n old ++ replicate (n - length old) 0) ++ new ++ drop (off + length new) (take n old ++ replicate (n - length old) 0)
    ≡ overwritten old off new
replaced_is old new off n some size =
    rw (some_bytes (length new) _ _ some) (same_lists _ _ (grind (arith, places)) (λ k d h. grind (arith, places)))

-- a slice of a vector after its elements were replaced
pub whole_part : (new old : List ℕ) (len : ℕ) → length new ≡ length old → len ≡ length old
    → take len (new ++ drop (length new) old) ≡ new
whole_part new old len same all = grind (arith, common_steps)

-- bytes filled up with zeros and then written over as a slice
pub filled_and_replaced : (old grown seen put new : List ℕ) (off n len size : ℕ) → len ≡ length old
    → 1 ≤ length new → n ≡ max len (off + length new) → grown ≡ take n old ++ replicate (n - len) 0
    → seen ≡ grown → put ≡ take off seen ++ new ++ drop (off + length new) seen
    → length put ≡ length seen → size ≡ length grown
    → take size (put ++ drop (length put) grown) ≡ overwritten old off new
filled_and_replaced old grown seen put new off n len size len_is some n_is grown_is seen_is put_is same size_is =
    grind (arith, whole_part, replaced_is)

-- the parts of written-over bytes: each offset
parts_at : (old new : List ℕ) (off k : ℕ)
    → get_or (take off old ++ replicate (off - length old) 0 ++ new ++ drop (off + length new) old) k 0
    ≡ (if nat_le off k && nat_lt k (off + length new) then get_or new (k - off) 0 else get_or old k 0)
parts_at old new off k = grind (arith, places, nat_tests)

parts_length : (old new : List ℕ) (off : ℕ)
    → length (take off old ++ replicate (off - length old) 0 ++ new ++ drop (off + length new) old)
    ≡ max (length old) (off + length new)
parts_length old new off = grind (arith, places)

-- bytes that were written over, offset by offset
pub is_written_over : (old new : List ℕ) (off : ℕ) → 1 ≤ length new
    → IsWrittenOver old new off (overwritten old off new)
is_written_over old new off some = grind (arith, parts_length, parts_at)
