use Rattle.std.proofs.Common.{◌<◌, length, map, refl, sym, subst}
use Rattle.uring_volume.proofs.Common.{IsFoldedFrom, Volume, issued}
use Rattle.uring_volume.proofs.Folded.{IsResult, folded_result, none_result}
use Rattle.uring_volume.proofs.KeptCounts.{fewer_of}
use Rattle.uring_volume.proofs.KeptFolds.{held_volume}
use Rattle.uring_volume.proofs.volume.Volume.fold_one.Goals as goal

pub returns-clause-folded : goal.returns-clause-folded
returns-clause-folded g c =
    let v : Volume = record { unit = c.self.inside.unit; first = c.self.inside.first.items; history = c.self.inside.past.history; next = c.self.inside.past.next } in
    let is : IsResult v c.fold_first.result c.fold_first.new.first.items c.fold_first.new.self.history = record { folded = c.fold_first.ensures.folded; none = c.fold_first.ensures.none; kept = c.fold_first.ensures.kept } in
    subst (λ x. IsFoldedFrom x (record { unit = c.self.inside.unit; first = c.fold_first.new.first.items; history = c.fold_first.new.self.history; next = c.fold_first.new.self.next })) c.self.view_is
    (subst (λ n. IsFoldedFrom v (record { unit = c.self.inside.unit; first = c.fold_first.new.first.items; history = c.fold_first.new.self.history; next = n })) (sym c.fold_first.ensures.next)
    (folded_result v c.fold_first.result c.fold_first.new.first.items c.fold_first.new.self.history c.self.inside.past.write_list (map (λ s. s.number) c.self.inside.past.syncs) (held_volume v c.self.inside.past c.is_past.ensures c.self.invariant refl refl) is))

pub returns-clause-fewer : goal.returns-clause-fewer
returns-clause-fewer g c = λ more.
    subst (λ (x : Volume). length (issued c.fold_first.new.self.history) < length (issued x.history)) c.self.view_is
    (fewer_of _ _ _ _ (c.fold_first.ensures.folded more))

pub returns-clause-none : goal.returns-clause-none
returns-clause-none g c = λ none w foldable.
    let v : Volume = record { unit = c.self.inside.unit; first = c.self.inside.first.items; history = c.self.inside.past.history; next = c.self.inside.past.next } in
    let is : IsResult v c.fold_first.result c.fold_first.new.first.items c.fold_first.new.self.history = record { folded = c.fold_first.ensures.folded; none = c.fold_first.ensures.none; kept = c.fold_first.ensures.kept } in
    none_result v c.fold_first.result c.fold_first.new.first.items c.fold_first.new.self.history is none w foldable
