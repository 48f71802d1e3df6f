use Rattle.std.proofs.Common.{sym, ◌∙◌}
use Rattle.uring_pictures.proofs.Common.{append-nil, is_linux_at, linux_at, on_ok_weaker}
use Rattle.uring_pictures.proofs.Arrows.{row_placed}
use Rattle.uring_pictures.proofs.graph_text.push_row.Goals as goal

pub returns-in_default-clause-row : goal.returns-in_default-clause-row
returns-in_default-clause-row g c = λ h keeps same. rw (← c.outstanding.ensures h keeps, c.in_default.is) (sym (append-nil _))

pub returns-clause-row : goal.returns-clause-row
returns-clause-row g c =
    on_ok_weaker c.push_placed.result
    (λ line h keeps same. row_placed (is_linux_at c.args.accepted.now) (linux_at c.args.accepted.now h) c.args.number c.in-Some.entry _ _ _ _ _ _ line (c.call.ensures h keeps) same (c.ends_chain.ensures h keeps) (c.why.ensures h keeps) (sym c.in-Some.is ∙ c.outstanding.ensures h keeps))
    c.push_placed.ensures.line
