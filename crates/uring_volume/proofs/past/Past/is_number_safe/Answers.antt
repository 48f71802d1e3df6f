use Rattle.std.proofs.Common.{◌==◌, ap, sym, ◌∙◌}
use Rattle.std.specs.Prelude.{◌&&◌}
use Rattle.uring_volume.proofs.Common.{has_safe, issued, list_any, named}
use Rattle.uring_volume.specs.Past.{Past}
use Rattle.uring_volume.proofs.KeptTells.{safe_kept}
use Rattle.uring_volume.proofs.past.Past.is_number_safe.Goals as goal

pub returns : goal.returns
returns c =
    let p : Past = record { history = c.self.inside.told.value.history; next = c.self.inside.next; kept = c.self.inside.kept.items; write_list = c.self.inside.writes.items; syncs = c.self.inside.syncs.items; ends = c.self.inside.ends.items } in
    c.has_safe.ensures
    ∙ ap (list_any (λ k. k.piece.number == c.args.n && k.safe_yet)) c.deref.ensures.value
    ∙ sym (safe_kept p c.args.n c.self.invariant.is)
    ∙ ap (λ (q : Past). has_safe q.history (named c.args.n (issued q.history))) c.self.view_is
