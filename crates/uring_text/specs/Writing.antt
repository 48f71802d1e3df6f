-- What a write of a text did. That an interrupted write is made again, and no other that failed, is our own rule.
use Rattle.std.specs.Prelude.{◌≡◌, ℕ, ◌<◌, List, ◌++◌, length, Result, Ok, Err}
use Rattle.uring_text.specs.declared.trace_fault.TraceFault.{TraceFault}
use Rattle.uring_text.specs.declared.trace_fault.TraceFault.TheVariants as fault

-- At `Ok` it appended the text, and else a part of it, from its beginning on.
abbrev pub WritesText : Result (Unit {0}) TraceFault → List ℕ → List ℕ → Type 0
WritesText (Ok done) text written = written ≡ text
WritesText (Err e) text written =
    (e ≡ fault.Write) × (more : List ℕ) × (0 < length more) × (text ≡ written ++ more)
