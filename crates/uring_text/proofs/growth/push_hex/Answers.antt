use Rattle.std.proofs.Common.{◌++◌, ℕ, List, ap, ap₂, refl, arith, ◌∙◌}
use Rattle.uring_text.proofs.Common.{string_bytes}
use Rattle.uring_text.proofs.Hexadecimal.{hex_more, hex_all}
use Rattle.uring_text.proofs.growth.push_hex.Goals as goal

pub loop-byte-preserved : goal.loop-byte-preserved
loop-byte-preserved g c =
    hex_more _ _ _ c.args.bytes.now c.loop-byte.byte-index _ (omega arith) refl
    (c.in_ok-push_text-2.ensures.bytes ∙ ap₂ (λ (s t : List ℕ). s ++ t) (c.in_ok-push_text.ensures.bytes ∙ ap (λ (t : List ℕ). string_bytes c.loop-byte.text ++ t) c.digit.ensures) c.digit-in-loop-byte.ensures) c.loop-byte.invariant

pub returns-clause-bytes : goal.returns-clause-bytes
returns-clause-bytes g c =
    hex_all _ _ c.args.bytes.now c.loop-byte.byte-index (omega arith) c.loop-byte.invariant
