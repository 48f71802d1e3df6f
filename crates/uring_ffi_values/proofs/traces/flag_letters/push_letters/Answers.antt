use Rattle.std.proofs.Common.{◌++◌, List, ℕ, ap, ◌∙◌}
use Rattle.uring_ffi_values.proofs.Common.{on_ok_weaker, string_bytes}
use Rattle.uring_ffi_values.proofs.FlagSpellings.{parts_of}
use Rattle.uring_ffi_values.proofs.traces.flag_letters.push_letters.Goals as goal

pub returns-clause-bytes : goal.returns-clause-bytes
returns-clause-bytes g c =
    on_ok_weaker c.push_terms.result
    (λ told. told ∙ ap (λ (t : List ℕ). string_bytes c.args.text.now ++ t) (parts_of c.args.flags))
    (rw (c.letter_if.ensures, c.letter_if-2.ensures, c.letter_if-3.ensures, c.letter_if-4.ensures, c.letter_if-5.ensures) at c.push_terms.ensures.bytes)
