-- That a machine fits an epoch with one event more, and a run with one epoch more.
use Rattle.std.proofs.Common.{◌≡◌, ◌<◌, ℕ, Bool, true, false, List, ◌∷◌, length, map, Option, Some, if◌then◌else◌, refl, sym, subst, ◌∙◌, ap}
use Rattle.uring_crash_machine.proofs.Common.{Answer, CalledForFrom, CrashMachine, EndsOn, Epoch, FileContents, FitsApart, FitsRun, History, IsFinished, IsLawfulApart, IsNoFinish, IsOutcome, IsRun, Log, Op, Requests, Setup, Step, World, after, entry_of, files_from, false≢true, finished_as, issued_as, log_from, logged, logs_of, logs_on, operation_of, operation_running, result_of, with_step, world}
use Rattle.uring_entry.specs.declared.operation.Outcome.{Outcome}
use Rattle.uring_core.specs.Core.{Core}
use Rattle.uring_core.specs.StepAnswers.{CalledForApart}
use Rattle.uring_core.specs.declared.step.Step.TheVariants as step
use Rattle.uring_core.specs.declared.answer.Answer.TheVariants as answer
use Rattle.uring_core.proofs.FileHistory.{files_kept_from, files_ended}
use Rattle.uring_core.proofs.Running.{runs_with}
use Rattle.uring_crash_machine.specs.Asked.{IsUnrefusedOn}
use Rattle.uring_crash_machine.specs.Logs.{AreFolded}
use Rattle.uring_crash_machine.proofs.FoldedLogs.{all_logged, all_more}
use Rattle.uring_crash_machine.proofs.Noted.{map_same, map_twice}

-- what fits, apart from the core
record Parts (g : Setup) (unit : ℕ) (fs : List FileContents) (ls : List Log) (folded : Bool) (e : Epoch) (earlier : List Epoch) : Type 0 where
  files : fs ≡ files_from e.first (world g e.history)
  logs : AreFolded (logs_of unit g e) ls
  unfolded : folded ≡ false → ls ≡ logs_of unit g e
  many : length e.first ≡ g.files
  run : IsRun unit g (e ∷ earlier)

parts_of : (m : CrashMachine) (e : Epoch) (earlier : List Epoch) → FitsRun m e earlier
    → Parts m.core.setup m.unit m.files m.logs m.is_folded e earlier
parts_of m e earlier f = record { files = f.files; logs = f.logs; unfolded = f.unfolded; many = f.many; run = f.run }

built : (m : CrashMachine) (g : Setup) (unit : ℕ) (files : List FileContents) (logs : List Log) (folded : Bool) (e : Epoch) (earlier : List Epoch)
    → m.core.setup ≡ g → m.unit ≡ unit → m.files ≡ files → m.logs ≡ logs → m.is_folded ≡ folded → FitsApart m.core e.history
    → Parts g unit files logs folded e earlier → FitsRun m e earlier
built m g unit files logs folded e earlier same_setup same_unit same_files same_logs same_folded fits p =
    let q = subst (λ (k : Setup). Parts k m.unit m.files m.logs m.is_folded e earlier) (sym same_setup)
    (subst (λ (u : ℕ). Parts g u m.files m.logs m.is_folded e earlier) (sym same_unit)
    (subst (λ (fs : List FileContents). Parts g unit fs m.logs m.is_folded e earlier) (sym same_files)
    (subst (λ (ls : List Log). Parts g unit files ls m.is_folded e earlier) (sym same_logs)
    (subst (λ (b : Bool). Parts g unit files logs b e earlier) (sym same_folded) p)))) in
    record { core = fits; files = q.files; logs = q.logs; unfolded = q.unfolded; many = q.many; run = q.run }

-- the logs with one event more, if none was folded
logs_then : (g : Setup) (unit : ℕ) (logs : List Log) (e : Epoch) (s : Step) (a : Answer)
    → logs ≡ logs_of unit g e
    → map (λ log. logged (world g e.history).requests (world g ((s, a) ∷ e.history)).requests s a log) logs
    ≡ logs_of unit g (with_step s a e)
logs_then g unit logs e s a is =
    let one : Log → Log = λ log. logged (world g e.history).requests (world g ((s, a) ∷ e.history)).requests s a log in
    ap (map one) is ∙ map_twice one (λ log. log_from log g e.history) (logs_on unit 0 e.first)

-- but for a finish, answers are called for as they are apart from files
called_apart : (first : List FileContents) (g : Setup) (w : World) (s : Step) (a : Answer) → IsNoFinish s
    → CalledForApart g w s a → CalledForFrom first g w s a
called_apart first g w (step.Finish n) a other called = absurd other
called_apart first g w _ a other called = called

-- a step that is no finish
parts_step : (g : Setup) (unit : ℕ) (files : List FileContents) (logs : List Log) (folded : Bool) (e : Epoch) (earlier : List Epoch) (s : Step) (a : Answer) → 0 < unit
    → IsNoFinish s → IsLawfulApart g ((s, a) ∷ e.history) → Parts g unit files logs folded e earlier
    → Parts g unit files (map (λ log. logged (world g e.history).requests (world g ((s, a) ∷ e.history)).requests s a log) logs) folded (with_step s a e) earlier
parts_step g unit files logs folded e earlier s a some other lawful p = record {
  files = p.files ∙ sym (files_kept_from e.first g s a e.history lawful other);
  logs = all_logged unit 0 e.first g e.history s a logs some p.logs;
  unfolded = λ none. logs_then g unit logs e s a (p.unfolded none);
  many = p.many;
  run = ((called_apart e.first g (world g e.history) s a other lawful.0, p.run.0), p.run.1, p.run.2);
}

-- a running request that ends
parts_finish : (g : Setup) (unit : ℕ) (files left : List FileContents) (logs : List Log) (folded : Bool) (e : Epoch) (earlier : List Epoch) (n : ℕ) (op : Op) (outcome : Outcome) → 0 < unit
    → Some op ≡ operation_running (world g e.history).requests n
    → IsOutcome files op outcome → left ≡ after files op outcome.res → Parts g unit files logs folded e earlier
    → Parts g unit left (map (λ log. finished_as n (Some op) (answer.Ended outcome.res outcome.bytes) log) logs) folded (with_step (step.Finish n) (answer.Ended outcome.res outcome.bytes) e) earlier
parts_finish g unit files left logs folded e earlier n op outcome some is allowed leaves p =
    let r : Requests = (world g e.history).requests in
    let a : Answer = answer.Ended outcome.res outcome.bytes in
    let runs = runs_with r n op is in
    let called : CalledForFrom e.first g (world g e.history) (step.Finish n) a =
    subst (λ b. EndsOn (files_from e.first (world g e.history)) r n b a) (sym runs.0)
    (subst (λ fs. IsOutcome fs (operation_of (entry_of r n)) outcome) p.files (subst (λ o. IsOutcome files o outcome) runs.1 allowed)) in
    record {
      files =
          leaves ∙ ap (λ o. after files o outcome.res) runs.1 ∙ ap (λ fs. after fs (operation_of (entry_of r n)) outcome.res) p.files
          ∙ sym (files_ended r n outcome.res outcome.bytes e.first);
      logs = subst (λ (o : Option Op). AreFolded (logs_of unit g (with_step (step.Finish n) a e)) (map (λ log. finished_as n o a log) logs)) (sym is) (all_logged unit 0 e.first g e.history (step.Finish n) a logs some p.logs);
      unfolded = λ none. ap (λ (o : Option Op). map (λ log. finished_as n o a log) logs) is ∙ logs_then g unit logs e (step.Finish n) a (p.unfolded none);
      many = p.many;
      run = ((called, p.run.0), p.run.1, p.run.2);
    }

-- Steps of the machine.

-- an Issue
pub issue_fits : (m m' : CrashMachine) (n : ℕ) (a : Answer) (op : Option Op) (e : Epoch) (earlier : List Epoch) → 0 < m.unit
    → m'.core.setup ≡ m.core.setup → m'.unit ≡ m.unit → m'.files ≡ m.files → m'.is_folded ≡ m.is_folded
    → m'.logs ≡ map (λ log. issued_as n op a log) m.logs
    → ((h : History) → FitsApart m.core h → FitsApart m'.core ((step.Issue n, a) ∷ h))
    → ((h : History) → FitsApart m'.core h → op ≡ operation_running (world m'.core.setup h).requests n)
    → FitsRun m e earlier → FitsRun m' (with_step (step.Issue n) a e) earlier
issue_fits m m' n a op e earlier some same units files folded logs goes asks f =
    let g : Setup = m.core.setup in
    let fits = goes e.history f.core in
    let of : op ≡ operation_running (world g ((step.Issue n, a) ∷ e.history)).requests n =
    subst (λ (k : Setup). op ≡ operation_running (world k ((step.Issue n, a) ∷ e.history)).requests n) same (asks ((step.Issue n, a) ∷ e.history) fits) in
    built m' g m.unit m.files _ m.is_folded (with_step (step.Issue n) a e) earlier same units files
    (logs ∙ ap (λ (o : Option Op). map (λ log. issued_as n o a log) m.logs) of) folded fits
    (parts_step g m.unit m.files m.logs m.is_folded e earlier (step.Issue n) a some tt (subst (λ (k : Setup). IsLawfulApart k ((step.Issue n, a) ∷ e.history)) same fits.lawful) (parts_of m e earlier f))

-- a Finish of what runs
pub finish_fits : (m m' : CrashMachine) (n : ℕ) (a : Answer) (op : Op) (outcome : Outcome) (e : Epoch) (earlier : List Epoch) → 0 < m.unit
    → m'.core.setup ≡ m.core.setup → m'.unit ≡ m.unit → m'.is_folded ≡ m.is_folded
    → IsOutcome m.files op outcome → m'.files ≡ after m.files op outcome.res
    → m'.logs ≡ map (λ log. finished_as n (Some op) a log) m.logs
    → ((h : History) → FitsApart m.core h → FitsApart m'.core ((step.Finish n, a) ∷ h))
    → ((h : History) → FitsApart m.core h → IsFinished (world m.core.setup h) n outcome a)
    → ((h : History) → FitsApart m.core h → Some op ≡ operation_running (world m.core.setup h).requests n)
    → FitsRun m e earlier → FitsRun m' (with_step (step.Finish n) a e) earlier
finish_fits m m' n a op outcome e earlier some same units folded allowed leaves logs goes finished asks f =
    let g : Setup = m.core.setup in
    let is = asks e.history f.core in
    let runs = runs_with (world g e.history).requests n op is in
    let ends : a ≡ answer.Ended outcome.res outcome.bytes = finished e.history f.core ∙ ap (λ b. if b then answer.Ended outcome.res outcome.bytes else answer.NotRunning) runs.0 in
    let p = parts_finish g m.unit m.files m'.files m.logs m.is_folded e earlier n op outcome some is allowed leaves (parts_of m e earlier f) in
    built m' g m.unit m'.files _ m.is_folded (with_step (step.Finish n) a e) earlier same units refl logs folded (goes e.history f.core)
    (subst (λ (b : Answer). Parts g m.unit m'.files (map (λ log. finished_as n (Some op) b log) m.logs) m.is_folded (with_step (step.Finish n) b e) earlier) (sym ends) p)

logged_other : (r q : Requests) (s : Step) (a : Answer) (log : Log) → ((n : ℕ) → s ≡ step.Issue n → ⊥)
    → ((n : ℕ) → s ≡ step.Finish n → ⊥) → log ≡ logged r q s a log
logged_other r q (step.Issue n) a log no_issue no_finish = absurd (no_issue n refl)
logged_other r q (step.Finish n) a log no_issue no_finish = absurd (no_finish n refl)
logged_other r q _ a log no_issue no_finish = refl

-- any other step
pub other_fits : (m m' : CrashMachine) (s : Step) (a : Answer) (e : Epoch) (earlier : List Epoch) → 0 < m.unit
    → ((n : ℕ) → s ≡ step.Issue n → ⊥) → ((n : ℕ) → s ≡ step.Finish n → ⊥) → IsNoFinish s
    → m'.core.setup ≡ m.core.setup → m'.unit ≡ m.unit → m'.files ≡ m.files → m'.logs ≡ m.logs → m'.is_folded ≡ m.is_folded
    → ((h : History) → FitsApart m.core h → FitsApart m'.core ((s, a) ∷ h))
    → FitsRun m e earlier → FitsRun m' (with_step s a e) earlier
other_fits m m' s a e earlier some no_issue no_finish other same units files logs folded goes f =
    let g : Setup = m.core.setup in
    let fits = goes e.history f.core in
    built m' g m.unit m.files _ m.is_folded (with_step s a e) earlier same units files
    (logs ∙ map_same _ m.logs (λ log. logged_other (world g e.history).requests (world g ((s, a) ∷ e.history)).requests s a log no_issue no_finish)) folded fits
    (parts_step g m.unit m.files m.logs m.is_folded e earlier s a some other (subst (λ (k : Setup). IsLawfulApart k ((s, a) ∷ e.history)) same fits.lawful) (parts_of m e earlier f))

-- a fold
pub fold_fits : (m m' : CrashMachine) (e : Epoch) (earlier : List Epoch) → 0 < m.unit
    → m'.core ≡ m.core → m'.unit ≡ m.unit → m'.files ≡ m.files → AreFolded m.logs m'.logs → m'.is_folded ≡ true
    → FitsRun m e earlier → FitsRun m' e earlier
fold_fits m m' e earlier some core units files folds folded f =
    let g : Setup = m.core.setup in
    built m' g m.unit m.files m'.logs true e earlier (ap (λ (c : Core). c.setup) core) units files refl folded (subst (λ (c : Core). FitsApart c e.history) (sym core) f.core)
    (record {
      files = f.files;
      logs = all_more m.unit 0 e.first g e.history m.logs m'.logs some f.logs folds;
      unfolded = λ none. absurd (false≢true (sym none));
      many = f.many;
      run = f.run;
    })

-- What is answered where no memory is refused.

-- a Finish of what runs, with the outcome called for
pub finish_unrefused : (m : CrashMachine) (n : ℕ) (a : Answer) (op : Op) (outcome : Outcome) (e : Epoch) (earlier : List Epoch)
    → outcome ≡ result_of m.files op
    → ((h : History) → FitsApart m.core h → IsFinished (world m.core.setup h) n outcome a)
    → ((h : History) → FitsApart m.core h → Some op ≡ operation_running (world m.core.setup h).requests n)
    → FitsRun m e earlier → IsUnrefusedOn m.files (world m.core.setup e.history) (step.Finish n) a
finish_unrefused m n a op outcome e earlier is finished asks f = λ running.
    let both = runs_with (world m.core.setup e.history).requests n op (asks e.history f.core) in
    let same = is ∙ ap (result_of m.files) both.1 in
    finished e.history f.core ∙ ap (λ b. if b then answer.Ended outcome.res outcome.bytes else answer.NotRunning) both.0
    ∙ ap (λ (o : Outcome). answer.Ended o.res o.bytes) same

-- a step that is no Finish
pub other_unrefused : (files : List FileContents) (w : World) (s : Step) (a : Answer)
    → ((n : ℕ) → s ≡ step.Finish n → ⊥) → (a ≡ answer.Again → ⊥) → IsUnrefusedOn files w s a
other_unrefused files w (step.Finish n) a no_finish never = absurd (no_finish n refl)
other_unrefused files w _ a no_finish never = never
