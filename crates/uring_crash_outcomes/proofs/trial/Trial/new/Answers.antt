use Rattle.std.proofs.Common.{◌≡◌, ◌≤◌, [], sym, ap, ◌∙◌, arith}
use Rattle.uring_crash_machine.specs.Epochs.{first_files, logs_on}
use Rattle.uring_crash_outcomes.proofs.Trying.{has_made_none}
use Rattle.uring_crash_outcomes.proofs.trial.Trial.new.Goals as goal

pub returns-clause-made : goal.returns-clause-made
returns-clause-made g c =
    let few : c.args.setup.now.files ≤ 64 = c.files.ensures.limits.files_limit in
    let same : c.files.result ≡ c.args.setup.now.files = c.files.ensures.value in
    let again : c.files-2.result ≡ c.args.setup.now.files = c.files-2.ensures.value in
    λ calls. has_made_none c.args.unit c.args.setup.now calls c.in_ok-run.run' _ (c.in_ok-run.ensures.stands c.args.setup.now calls (sym again) (omega arith))
    (c.in_ok-logs.ensures.logs ∙ ap (λ n. logs_on c.args.unit 0 (first_files n [])) same)
