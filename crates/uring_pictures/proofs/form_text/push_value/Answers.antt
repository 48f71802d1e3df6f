use Rattle.std.proofs.lemmas.Bool.{false≢true}
use Rattle.uring_pictures.proofs.Common.{on_ok_weaker}
use Rattle.uring_pictures.proofs.form_text.push_value.Goals as goal

pub returns-in-Flag-clause-text : goal.returns-in-Flag-clause-text
returns-in-Flag-clause-text g c =
    on_ok_weaker c.push_text-in-Flag.result (λ text known. rw (c.in-Flag.is, ← c.has.ensures, c.if-has.true) text) c.push_text-in-Flag.ensures.bytes

pub returns-in_ok-push_quoted-in-Told-2-clause-text : goal.returns-in_ok-push_quoted-in-Told-2-clause-text
returns-in_ok-push_quoted-in-Told-2-clause-text g c =
    on_ok_weaker c.push_plain.result (λ text known. absurd (false≢true (rw c.in-Told-2.is at known))) c.push_plain.ensures.text
