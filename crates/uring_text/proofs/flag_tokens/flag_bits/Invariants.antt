use Rattle.std.proofs.Common.{◌≡◌, drop}
use Rattle.uring_text.specs.Reading.{letters_of}
use Rattle.uring_text.proofs.flag_tokens.flag_bits.Given as goal

-- what is read of the rest is read of the whole
abbrev pub invariant-loop-letter : goal.invariant-loop-letter
invariant-loop-letter l = letters_of l.bits (drop l.letter-index l.token) ≡ letters_of 0 l.token
