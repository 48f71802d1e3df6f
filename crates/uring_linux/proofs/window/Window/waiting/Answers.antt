use Rattle.std.proofs.Common.{true, refl, sym, ◌∙◌, ap}
use Rattle.uring_entry.specs.declared.why.Why.TheVariants.{IsDoomed}
use Rattle.uring_linux.proofs.Reasons.{told_turn}
use Rattle.uring_linux.proofs.window.Window.waiting.Goals as goal

pub returns-then-is_doomed : goal.returns-then-is_doomed
returns-then-is_doomed c = λ l s e.
    let m = c.group_of-group.ensures.member l.requests c.args.n s c.requires in
    let kept = c.group_of-group.ensures.kept l.requests c.args.n s c.requires in
    ap IsDoomed (c.doom.ensures l.requests (s.told c.args.n c.args.request.now c.requires) m)
    ∙ told_turn l c.args.n true _ (sym (c.keeper.ensures l.requests s m kept) ∙ c.in_default.is) (sym (c.is_doomed.ensures l.requests m) ∙ c.if-is_doomed.true) refl
