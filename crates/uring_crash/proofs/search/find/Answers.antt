use Rattle.std.proofs.Common.{◌<◌, ℕ, [], sym, subst, ap, ◌∙◌, rules}
use Rattle.uring_volume.specs.Events as volume
use Rattle.uring_volume.specs.Past.{AreTheWrites}
use Rattle.uring_volume.specs.Volume.{Volume}
use Rattle.uring_crash.proofs.Common.{IfOk-weaker, IsImage, IsPlain, Log}
use Rattle.uring_crash.proofs.Watching.{told_of}
use Rattle.uring_crash.proofs.search.find.Goals as goal

pub returns-then-keeps-clause-found : goal.returns-then-keeps-clause-found
returns-then-keeps-clause-found g c = λ unit setup fd h w now image.
    let same = c.volume-volume.ensures ∙ ap (λ (l : Log). l.volume) c.log.ensures in
    let some : 0 < c.args.watch.now.log.volume.unit = subst (λ (v : Volume). 0 < v.unit) same c.is_sound.ensures.unit in
    let told = told_of unit setup fd _ _ h c.volume-volume.result.now.history w (ap (λ (v : Volume). v.history) same) in
    c.keeps.ensures.yes c.if-keeps.true c.volume-volume.result.now.history c.volume-volume.result.now.next unit now c.writes.ensures (subst (λ (u : ℕ). 0 < u) w.units some)
    (subst (λ (e : volume.History). IsImage unit [] e now) (sym told) image)

pub returns-in-Ok-clause-not_plain : goal.returns-in-Ok-clause-not_plain
returns-in-Ok-clause-not_plain g c =
    let same = c.volume-volume.ensures ∙ ap (λ (l : Log). l.volume) c.log.ensures in
    IfOk-weaker c.find_in.result _ _
    (λ found so is within unit setup fd h w plain.
    let told = told_of unit setup fd _ _ h c.volume-volume.result.now.history w (ap (λ (v : Volume). v.history) same) in
    c.keeps.ensures.no c.if-keeps.false within c.volume-volume.result.now.history c.volume-volume.result.now.next c.writes.ensures
    (subst (λ (e : volume.History). IsPlain e c.args.off c.args.bytes.now) (sym told) plain))
    c.find_in.ensures.found

pub returns-in-Err-TooMany-clause-not_plain : goal.returns-in-Err-TooMany-clause-not_plain
returns-in-Err-TooMany-clause-not_plain g c = λ is within unit setup fd h w plain.
    let same = c.volume-volume.ensures ∙ ap (λ (l : Log). l.volume) c.log.ensures in
    let told = told_of unit setup fd _ _ h c.volume-volume.result.now.history w (ap (λ (v : Volume). v.history) same) in
    c.keeps.ensures.no c.if-keeps.false within c.volume-volume.result.now.history c.volume-volume.result.now.next c.writes.ensures
    (subst (λ (e : volume.History). IsPlain e c.args.off c.args.bytes.now) (sym told) plain)
