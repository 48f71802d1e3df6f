use Rattle.std.proofs.Common.{refl, sym, ◌∙◌}
use Rattle.uring_ffi.proofs.EnterBack.{next_after}
use Rattle.uring_ffi.proofs.enter.call.enter_exports.wulgach_enter_next.Goals as goal

pub returns-clause-next : goal.returns-clause-next
returns-clause-next c a log r after read fits =
    let taken =
    next_after a log r c.in-Some-reply.reply after.0 c.in-Some.enter c.next.new.self
    c.enter_words-words.result c.next.result c.in-Ok.wanted
    (sym c.in-Some.is ∙ (c.enter.ensures ∙ after.1))
    (sym c.in-Some-reply.is ∙ (c.reply.ensures ∙ read))
    after.2 (c.next.ensures.after a log) c.in-Ok.is c.enter_words-words.ensures in
    (refl, taken.0, taken.1)
