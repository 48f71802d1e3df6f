-- A new table of the submission ring keeps the rule.
use Rattle.std.proofs.Common.{◌≡◌, ℕ, ◌+◌, ◌<◌, ◌≤◌, ◌^◌, ◌%◌, List, [], length, get_or, arith}
use Rattle.std.specs.Int.{IsPowerOfTwo}
use Rattle.atomic_table.specs.Table.{opening}
use Rattle.uring_words.specs.Submission.Layout.{tail_index, head_index, word_count}
use Rattle.uring_words.specs.Submission.Rule.{BothAgree, at_first}
use Rattle.uring_words.specs.declared.sides.Shape.{Shape}
use Rattle.uring_words.proofs.Seats.{opens_with}

pub opens : (words : List ℕ) (key : Shape) → IsPowerOfTwo key.size → key.size ≤ 4096
    → key.start < 2 ^ 32 → length words ≡ word_count key.size
    → get_or words (tail_index key.size) 0 ≡ key.start
    → get_or words (head_index key.size) 0 ≡ key.start → BothAgree (opening words [] (at_first key))
opens words key power limit small many tail head = grind (arith, opens_with)

pub start_word : (start : ℕ) → start < 2 ^ 32 → start ≡ (start + 0) % 2 ^ 32
start_word start small = omega arith
