-- How much is kept.
use Rattle.std.proofs.Common.{◌≡◌, ℕ, ◌==◌, ◌<◌, ◌≤◌, not, List, [], ◌∷◌, length, sym, subst, ap, ◌∙◌, arith}
use Rattle.uring_volume.proofs.Common.{IsOneFolded, length-append, eq-eqb, length-map, History, IsIn, SyncEnded, SyncFailed, SyncIssued, Write, WriteEnded, WriteFailed, WriteIssued, issued, running_syncs, running_writes, without_write}
use Rattle.uring_volume.specs.Past.{IsPast, Past, end_list}
use Rattle.uring_volume.specs.Folds.{IsOneLetGo}
use Rattle.uring_volume.proofs.KeptLists.{filter_shorter}
use Rattle.uring_volume.proofs.PastEvents.{issued_without}

issued_short : (h : History) → length (issued h) ≤ length h
issued_short [] = omega arith
issued_short (WriteIssued w ∷ earlier) = grind (arith, (issued_short earlier), length-append)
issued_short (WriteEnded k ∷ earlier) = grind (arith, (issued_short earlier))
issued_short (WriteFailed k ∷ earlier) = grind (arith, (issued_short earlier))
issued_short (SyncIssued s range ∷ earlier) = grind (arith, (issued_short earlier))
issued_short (SyncEnded s ∷ earlier) = grind (arith, (issued_short earlier))
issued_short (SyncFailed s ∷ earlier) = grind (arith, (issued_short earlier))

ends_short : (h : History) → length (end_list h) ≤ length h
ends_short [] = omega arith
ends_short (WriteEnded k ∷ earlier) = grind (arith, (ends_short earlier), length-append)
ends_short (WriteIssued w ∷ earlier) = grind (arith, (ends_short earlier))
ends_short (WriteFailed k ∷ earlier) = grind (arith, (ends_short earlier))
ends_short (SyncIssued s range ∷ earlier) = grind (arith, (ends_short earlier))
ends_short (SyncEnded s ∷ earlier) = grind (arith, (ends_short earlier))
ends_short (SyncFailed s ∷ earlier) = grind (arith, (ends_short earlier))

pub record IsFew (p : Past) : Type 0 where
  pub kept : length p.kept ≤ length p.history
  pub ends : length p.ends ≤ length p.history
  pub runs : length p.write_list ≡ length (running_writes p.history)
  pub syncs : length p.syncs ≡ length (running_syncs p.history)

pub are_few : (p : Past) → IsPast p → IsFew p
are_few p is = record {
  kept = omega (arith, (issued_short p.history), (ap length is.pieces), (length-map p.kept (λ k. k.piece)));
  ends = omega (arith, (ends_short p.history), (ap length is.ends_are));
  runs = ap length is.writes_run;
  syncs = sym (length-map p.syncs (λ s. s.number)) ∙ ap length is.syncs_run;
}

pub fewer_issued : (h : History) (w : Write) → IsIn w (issued h) → length (issued (without_write w.number h)) < length (issued h)
fewer_issued h w among = rw (issued_without w.number h) (filter_shorter (λ v. not (v.number == w.number)) w (issued h) among (grind (arith, eq-eqb)))

pub fewer_of : (first made : List ℕ) (h now : History) → IsOneFolded first made h now → length (issued now) < length (issued h)
fewer_of first made h now one = subst (λ g. length (issued g) < length (issued h)) (sym one.without) (fewer_issued h one.write one.issued)

pub fewer_let_go : (h now : History) → IsOneLetGo h now → length (issued now) < length (issued h)
fewer_let_go h now one = subst (λ g. length (issued g) < length (issued h)) (sym one.without) (fewer_issued h one.write one.issued)
