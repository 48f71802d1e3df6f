use Rattle.std.proofs.Common.{ℕ, false, List, length, map, sym, ap, ◌∙◌}
use Rattle.uring_crash_machine.proofs.Common.{CrashMachine, Log, Setup, false≢true, first_files, logs_on}
use Rattle.uring_crash_machine.proofs.Noted.{first_many, logs_many}
use Rattle.uring_crash_machine.proofs.EpochCrashes.{on_fits}
use Rattle.uring_crash_machine.proofs.crash_machine.CrashMachine.on_in.Goals as goal

pub invariant_of-result : goal.invariant_of-result
invariant_of-result g c =
    let all : List (List ℕ) = map (λ b. b.items) c.args.contents.now in (
      c.requires.some,
      ap (λ (ls : List Log). length ls) c.in_ok-logs.ensures.logs ∙ logs_many c.args.unit 0 (first_files c.files-2.result all) ∙ first_many c.files-2.result all
          ∙ c.files-2.ensures.value ∙ sym (ap (λ (g : Setup). g.files) c.in_ok-new_in.ensures.setup),
    )

pub returns-clause-fits : goal.returns-clause-fits
returns-clause-fits g c =
    let all : List (List ℕ) = map (λ b. b.items) c.args.contents.now in
    let m : CrashMachine = record { unit = c.args.unit; core = c.in_ok-new_in.field-0; files = c.in_ok-files.files; logs = c.in_ok-logs.logs.items; is_lost = false; is_folded = false } in
    on_fits m all c.args.setup.now.files c.in_ok-new_in.ensures.fits (ap (λ (g : Setup). g.files) c.in_ok-new_in.ensures.setup)
    (c.in_ok-files.ensures.files ∙ ap (λ (k : ℕ). first_files k all) c.files.ensures.value)
    (c.in_ok-logs.ensures.logs ∙ ap (λ (k : ℕ). logs_on c.args.unit 0 (first_files k all)) c.files-2.ensures.value)

pub returns-in_err-files-clause-granted : goal.returns-in_err-files-clause-granted
returns-in_err-files-clause-granted g c = λ all. absurd (false≢true (c.in_err-files.ensures.granted all))

pub returns-in_err-logs-clause-granted : goal.returns-in_err-logs-clause-granted
returns-in_err-logs-clause-granted g c = λ all. absurd (false≢true (c.in_err-logs.ensures.granted all))
