use Rattle.std.proofs.Common.{refl}
use Rattle.uring_litmus.proofs.parts.text_of_file.Goals as goal

pub returns-clause-text : goal.returns-clause-text
returns-clause-text g c =
    rw (c.in_ok-push_data.ensures.bytes, c.in_ok-push_text.ensures.bytes, c.in_ok-push_named-4.ensures.bytes, c.in_ok-push_named-3.ensures.bytes, c.in_ok-push_named-2.ensures.bytes, c.in_ok-push_named.ensures.bytes, c.new-text.ensures.bytes, c.from-2.ensures, c.from.ensures) refl
