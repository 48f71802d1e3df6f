use Rattle.std.proofs.Common.{refl, sym, subst}
use Rattle.uring_words.specs.Submission.Calls.{AreWhole}
use Rattle.uring_words.proofs.submission.reader.CallReader.pull.Goals as goal

pub returns-clause-rests : goal.returns-clause-rests
returns-clause-rests c =
    let k = c.copy_call-pulled.ensures.copies in
    rw c.store_head.ensures (record { taken = refl; known = subst AreWhole (sym k.same) c.see_tail.ensures.rests.known; whole = k.whole })

pub returns-clause-looked : goal.returns-clause-looked
returns-clause-looked c = λ none. absurd (c.copy_call-pulled.ensures.some none)
