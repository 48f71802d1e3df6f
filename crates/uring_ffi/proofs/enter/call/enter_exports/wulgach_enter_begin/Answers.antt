use Rattle.std.proofs.Common.{[], refl, sym, ◌∙◌}
use Rattle.uring_ffi.proofs.EnterBack.{begun_after, first_command}
use Rattle.uring_ffi.proofs.enter.call.enter_exports.wulgach_enter_begin.Goals as goal

pub returns-clause-begun : goal.returns-clause-begun
returns-clause-begun c a is =
    let same = sym c.in-Some.is ∙ (c.on_ring.ensures ∙ is) in (
      refl,
      begun_after _ a _ _ same c.enter_words.ensures c.begin-enter.ensures,
      c.command_words.ensures ∙ first_command _ a _ same (c.wanted.ensures _ [] c.begin-enter.ensures),
    )
