use Rattle.std.proofs.Common.{◌≡◌, ◌≤◌, length, ap, sym, subst, ◌∙◌}
use Rattle.std.proofs.lemmas.Result.{IfOk-weaker}
use Rattle.uring_outcomes.proofs.Common.{AddsOnce, Cqe, Ending, Global, Vec, ending_of}
use Rattle.uring_outcomes.proofs.Covering.{noted_over}
use Rattle.uring_outcomes.proofs.SameEndings.{ending_by}
use Rattle.uring_outcomes.proofs.FileCounts.{few_files}
use Rattle.uring_outcomes.proofs.ending.note.Goals as goal

pub invariant_of-add_once : goal.invariant_of-add_once
invariant_of-add_once g c =
    let stands = c.requires.stands.1 in
    subst (λ fs. length fs ≤ 64) (sym (c.replace-files.ensures.value ∙ stands.at.files)) (few_files c.requires.stands.0 stands.moment stands.at.reached)

pub returns-clause-noted : goal.returns-clause-noted
returns-clause-noted g c = λ calls m at over.
    let e : Ending = record { posted = c.replace-posted.result.items; files = c.replace-files.result } in
    let same : e ≡ ending_of m = ending_by e (ending_of m) (ap (λ (v : Vec Cqe Global). v.items) c.replace-posted.ensures.value ∙ at.posted) (c.replace-files.ensures.value ∙ at.files) in
    IfOk-weaker c.add_once.result _ _ (λ done adds. noted_over m c.args.found.now.list.items c.add_once.new.self.list.items over (subst (λ (x : Ending). AddsOnce x c.args.found.now.list.items c.add_once.new.self.list.items) same adds)) c.add_once.ensures.adds
