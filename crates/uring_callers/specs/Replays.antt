-- When two lists of answers are those of the same steps. Our own rule.
use Rattle.std.specs.Prelude.{◌≡◌, Bool, true, false, List, ◌⊎◌, neg_ℤ}
use Rattle.std.specs.List.{list_any}
use Rattle.std.specs.Ordering.{int_eq}
use Rattle.uring_entry.specs.declared.errno.TheConstants.{ENOMEM}
use Rattle.uring_core.specs.declared.answer.Answer.{Answer}
use Rattle.uring_core.specs.declared.answer.Answer.TheVariants as answer

-- whether an answer says that memory was refused: to a call, or to a write that lengthens its file
abbrev pub is_out_of_memory : Answer → Bool
is_out_of_memory answer.Again = true
is_out_of_memory (answer.Ended res bytes) = int_eq res (neg_ℤ ENOMEM)
is_out_of_memory _ = false

abbrev pub RanOutOfMemory : List Answer → Type 0
RanOutOfMemory answers = list_any is_out_of_memory answers ≡ true

-- the same answers, unless memory was refused to one of the two
abbrev pub AreReplays : List Answer → List Answer → Type 0
AreReplays first second = (first ≡ second) ⊎ (RanOutOfMemory first ⊎ RanOutOfMemory second)
