use Rattle.std.proofs.Common.{◌≡◌, false, ◌<◌, length, subst}
use Rattle.uring_volume.proofs.Common.{IsFoldedFrom, IsSound, Volume, is_safe, issued}
use Rattle.uring_volume.specs.Folds.{IsUnderSafe}
use Rattle.uring_volume.proofs.Folded.{let_go_by}
use Rattle.uring_volume.proofs.Foldable.{none_under_by}
use Rattle.uring_volume.proofs.KeptCounts.{fewer_let_go}
use Rattle.uring_volume.proofs.volume.Volume.let_one_go.Goals as goal

pub returns-clause-folded : goal.returns-clause-folded
returns-clause-folded c =
    let v : Volume = record { unit = c.self.inside.unit; first = c.self.inside.first.items; history = c.self.inside.past.history; next = c.self.inside.past.next } in
    let sound : IsSound v = record { unit = c.self.invariant; lawful = c.is_past.ensures.lawful; numbered = c.is_past.ensures.numbered } in
    subst (λ x. IsFoldedFrom x (record { unit = v.unit; first = v.first; history = c.let_go_first.new.self.history; next = c.let_go_first.new.self.next })) c.self.view_is
    (let_go_by v c.let_go_first.result c.let_go_first.new.self.history c.let_go_first.new.self.next sound c.let_go_first.ensures.gone c.let_go_first.ensures.kept c.let_go_first.ensures.next)

pub returns-clause-fewer : goal.returns-clause-fewer
returns-clause-fewer c = λ more.
    subst (λ (x : Volume). length (issued c.let_go_first.new.self.history) < length (issued x.history)) c.self.view_is
    (fewer_let_go _ _ (c.let_go_first.ensures.gone more))

pub returns-clause-none : goal.returns-clause-none
returns-clause-none c = λ none w lost under.
    let same = c.let_go_first.ensures.kept none in
    none_under_by c.self.inside.past.history (c.let_go_first.ensures.none none) w (subst (λ h. is_safe h w ≡ false) same lost) (subst (λ h. IsUnderSafe h w) same under)
