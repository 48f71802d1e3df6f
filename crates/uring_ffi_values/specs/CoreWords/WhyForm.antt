-- The words that tell why a request stands as it does. Our own rule: a word that has no meaning there is 0.
use Rattle.std.specs.Prelude.{ℕ}
use Rattle.uring_entry.specs.declared.fault.Fault.{Fault}
use Rattle.uring_entry.specs.declared.fault.Fault.TheVariants.{Flags, Opcode, Ioprio, OpFlags, Reserved, Len, Off}
use Rattle.uring_entry.specs.declared.why.Why.{Why}
use Rattle.uring_entry.specs.declared.why.Why.TheVariants.{NeverAccepted, HasEnded, Runs, IsDoomed, Waits, MayStart}
use Rattle.uring_entry.specs.declared.why.Doom.{Doom}
use Rattle.uring_entry.specs.declared.why.Doom.TheVariants.{OwnFault, FaultOf, FailureOf, Cancel, RefusedDrain}
use Rattle.uring_entry.specs.declared.why.Since.{Since}
use Rattle.uring_entry.specs.declared.why.Since.TheVariants.{SameGroup, ItDrains, OwnDrains, Deferred}
use Rattle.uring_ffi_values.specs.declared.core_words.why_words.WhyWords.{WhyWords}

abbrev pub told : (kind reason fault number : ℕ) → WhyWords
told kind reason fault number = record {
  number = number;
  kind = kind;
  reason = reason;
  fault = fault;
}

abbrev pub word_of_fault : Fault → ℕ
word_of_fault Flags = 1
word_of_fault Opcode = 2
word_of_fault Ioprio = 3
word_of_fault OpFlags = 4
word_of_fault Reserved = 5
word_of_fault Len = 6
word_of_fault Off = 7

abbrev pub word_of_since : Since → ℕ
word_of_since SameGroup = 1
word_of_since ItDrains = 2
word_of_since OwnDrains = 3
word_of_since Deferred = 4

abbrev pub words_of_doom : Doom → WhyWords
words_of_doom (OwnFault fault) = told 4 1 (word_of_fault fault) 0
words_of_doom (FaultOf m) = told 4 2 0 m
words_of_doom (FailureOf m) = told 4 3 0 m
words_of_doom Cancel = told 4 4 0 0
words_of_doom RefusedDrain = told 4 5 0 0

-- the words that tell why a request stands as it does
abbrev pub words_of_why : Why → WhyWords
words_of_why NeverAccepted = told 1 0 0 0
words_of_why HasEnded = told 2 0 0 0
words_of_why Runs = told 3 0 0 0
words_of_why (IsDoomed doom) = words_of_doom doom
words_of_why (Waits m since) = told 5 (word_of_since since) 0 m
words_of_why MayStart = told 6 0 0 0
