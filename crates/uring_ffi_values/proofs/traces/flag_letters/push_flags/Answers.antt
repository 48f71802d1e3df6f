use Rattle.std.proofs.Common.{◌≡◌, ℕ, List, length, sym, ap, ◌∙◌}
use Rattle.std.specs.Borrow.{Bor}
use Rattle.uring_ffi_values.proofs.Common.{on_ok_weaker, string_bytes}
use Rattle.uring_ffi_values.proofs.FlagSpellings.{dashed, lettered}
use Rattle.uring_ffi_values.specs.Traces.FlagLetters.{letters_of}
use Rattle.uring_ffi_values.proofs.traces.flag_letters.push_flags.Goals.{then-len-before, else-len-before}
use Rattle.uring_ffi_values.proofs.traces.flag_letters.push_flags.Goals as goal

pub returns-clause-bytes : goal.returns-clause-bytes
returns-clause-bytes g c =
    let old = string_bytes c.args.text.now in
    let mid = string_bytes c.push_letters.new.text in
    let before : c.len-before.result ≡ length old = c.len-before.ensures ∙ c.args.text.now.bytes.ok.0 in
    let after : c.len.result ≡ length mid = c.len.ensures ∙ c.push_letters.new.text.bytes.ok.0 in
    on_ok_weaker c.push_text.result
    (λ last. elim c.if-len-before.branch [
      | then-len-before w ↦ dashed (letters_of c.args.flags) old mid _ c.if-len-before.push_text.now c.in_default.ensures.bytes (sym after ∙ w.if-len-before.true ∙ before) (ap (λ (b : Bor (List ℕ)). b.now) w.push_text-is) last
      | else-len-before w ↦ lettered (letters_of c.args.flags) old mid _ c.if-len-before.push_text.now c.in_default.ensures.bytes (λ same. w.if-len-before.false (after ∙ same ∙ sym before)) (ap (λ (b : Bor (List ℕ)). b.now) w.push_text-is) last
    ])
    c.push_text.ensures.bytes
