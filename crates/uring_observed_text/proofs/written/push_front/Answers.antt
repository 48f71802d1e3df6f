use Rattle.std.proofs.Common.{append_assoc, rules, w32}
use Rattle.std.proofs.lemmas.Int.{to_z-of_z}
use Rattle.uring_observed_text.proofs.written.push_front.Goals as goal

pub returns-clause-bytes : goal.returns-clause-bytes
returns-clause-bytes g c =
    let parts = rw (c.in_ok-push_signed.ensures.bytes, to_z-of_z w32 c.res.result (search rules), c.res.ensures, c.in_ok-push_text-2.ensures.bytes, c.in_ok-push_number.ensures.bytes, c.user_data.ensures, c.in_ok-push_text.ensures.bytes) at c.push_text-3.ensures.bytes in
    simp append_assoc (simp append_assoc at parts)
