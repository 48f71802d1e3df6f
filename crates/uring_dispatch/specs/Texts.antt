-- Glue. What a refusal says.
use Rattle.std.specs.Prelude.{ℕ, List, codes}
use Rattle.uring_dispatch.specs.declared.errors.ReserveError.{ReserveError}
use Rattle.uring_dispatch.specs.declared.errors.ReserveError.TheVariants.{Spent, NoMemory}

abbrev pub refusal_text : ReserveError → List ℕ
refusal_text Spent = codes "the numbers of requests are spent"
refusal_text NoMemory = codes "out of memory"
