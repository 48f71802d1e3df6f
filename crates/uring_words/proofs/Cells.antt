-- What loading the words of a completion makes of what the application knows.
use Rattle.std.proofs.Common.{◌≡◌, ℕ, eqb, ◌+◌, ◌<◌, List, ◌∷◌, if◌then◌else◌, arith}
use Rattle.uring_words.specs.Completion.Ends.{copied_one}
use Rattle.uring_words.specs.Completion.Steps.{word_loaded}
use Rattle.uring_words.specs.declared.completion.view.AppSide.{AppSide}

-- what the application knows once this many words of the first known completion are loaded
abbrev pub loaded_to : AppSide → List ℕ → List (List ℕ) → ℕ → AppSide
loaded_to a c cs k = if eqb k 10 then copied_one a c cs else record a { loaded = k }

-- with one word more
pub word_is_loaded : (a : AppSide) (c : List ℕ) (cs : List (List ℕ)) (k : ℕ) → a.known ≡ c ∷ cs
    → k < 10 → word_loaded (loaded_to a c cs k) ≡ loaded_to a c cs (k + 1)
word_is_loaded a c cs k known more = grind arith

pub not_all_loaded : (a : AppSide) (c : List ℕ) (cs : List (List ℕ)) (k : ℕ) → k < 10
    → loaded_to a c cs k ≡ record a { loaded = k }
not_all_loaded a c cs k more = grind arith
