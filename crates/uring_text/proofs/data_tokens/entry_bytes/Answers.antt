use Rattle.std.proofs.Common.{◌∙◌, Some, ap, sym, arith}
use Rattle.std.proofs.lemmas.List.{take_all}
use Rattle.uring_text.proofs.data_tokens.entry_bytes.Goals as goal

pub returns : goal.returns
returns c = ap Some (take_all 128 c.decode.new.bytes (omega arith)) ∙ sym c.in_ok-decode.ensures
