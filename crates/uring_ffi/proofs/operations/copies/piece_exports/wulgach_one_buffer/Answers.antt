use Rattle.std.proofs.Common.{◌∙◌}
use Rattle.uring_ffi.proofs.operations.copies.piece_exports.wulgach_one_buffer.Goals as goal

pub returns-in_default-clause-first : goal.returns-in_default-clause-first
returns-in_default-clause-first c = λ piece before is. c.one_buffer.ensures.first piece before (c.one_buffer.ensures.one ∙ is)

pub returns-in_default-clause-rest : goal.returns-in_default-clause-rest
returns-in_default-clause-rest c = λ piece before is. c.one_buffer.ensures.rest piece before (c.one_buffer.ensures.one ∙ is)

pub returns-clause-first : goal.returns-clause-first
returns-clause-first c = λ piece before is. c.one_buffer.ensures.first piece before (c.one_buffer.ensures.one ∙ is)

pub returns-clause-rest : goal.returns-clause-rest
returns-clause-rest c = λ piece before is. c.one_buffer.ensures.rest piece before (c.one_buffer.ensures.one ∙ is)
