-- What a line asks for.
use Rattle.std.proofs.Common.{◌≡◌, ℕ, ◌^◌, List, ◌++◌, Option, arith}
use Rattle.std.specs.Prelude.{MatchOption, codes, ℤ}
use Rattle.uring_text.specs.Reading.{file_of, number_of}
use Rattle.uring_trace.specs.Questions.{Asks}
use Rattle.uring_trace.specs.declared.questions.Question.TheVariants as question
use Rattle.uring_text.proofs.NumberLaws.{file_found, file_again, number_found, number_again}

abbrev pub IsFileAsked : List ℕ → Option ℤ → Type 0
IsFileAsked line read = MatchOption read ((fd : ℤ) → ¬ Asks line (question.File fd)) (λ fd. Asks line (question.File fd))

-- the line begins with the words, and what follows is read as a file
pub file_words : (line token : List ℕ) (read : Option ℤ) → line ≡ codes "show file " ++ token
    → read ≡ file_of token → IsFileAsked line read
file_words line token read words is = grind (arith, file_again, file_found)

abbrev pub IsWhyAsked : List ℕ → Option ℕ → Type 0
IsWhyAsked line read = MatchOption read ((n : ℕ) → ¬ Asks line (question.Why n)) (λ n. Asks line (question.Why n))

-- the line begins with the words, and what follows is read as a number
pub why_words : (line token : List ℕ) (read : Option ℕ) → line ≡ codes "show why " ++ token
    → read ≡ number_of (2 ^ 64) token → IsWhyAsked line read
why_words line token read words is = grind (arith, number_again, number_found)
