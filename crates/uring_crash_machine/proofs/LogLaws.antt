-- The laws of logs.
use Rattle.std.proofs.Common.{◌≡◌, ℕ, true, Some, None, sym, ap, ◌∙◌, inl, inr}
use Rattle.uring_crash_machine.proofs.Common.{Op, Requests, WritesOver, cases_Bool, change_by, cond-false, cond-true, empty_files, entry_of, is_running, log_of, operation_of, operation_running, shown_length, world}
use Rattle.std.proofs.lemmas.Bool.Decides.{Decides-int_eq}
use Rattle.uring_crash_machine.proofs.LawfulFrom.{lawful_new, apart_from}
use Rattle.uring_crash_machine.specs.Laws.{RunningWritesRun, RunningSyncsRun, VolumeShowsTheFile, VolumesShowTheFiles}
use Rattle.uring_crash_machine.proofs.LogStands.{stands_of}
use Rattle.uring_crash_machine.proofs.LogFiles.{shows_of, shows_at}

-- who runs, with which operation
runs_as : (r : Requests) (n : ℕ) (op : Op) → operation_running r n ≡ Some op
    → (is_running r n ≡ true) × (operation_of (entry_of r n) ≡ op)
runs_as r n op is = elim (cases_Bool (is_running r n)) [
  | inl runs ↦
      let e : Some (operation_of (entry_of r n)) ≡ Some op = sym (cond-true (is_running r n) (Some (operation_of (entry_of r n))) None runs) ∙ is in
      let same : operation_of (entry_of r n) ≡ op = cc in
      (runs, same)
  | inr idle ↦
      let e : None ≡ Some op = sym (cond-false (is_running r n) (Some (operation_of (entry_of r n))) None idle) ∙ is in
      absurd cc
]

pub running_writes_run : RunningWritesRun
running_writes_run unit g fd h n off len bytes given op lawful is puts =
    let s = stands_of unit g fd h (apart_from (empty_files g.files) g h (lawful_new g h lawful)) in
    let runs = runs_as (world g h).requests n _ is in
    (s.writes n fd off len bytes given runs.0 (ap (λ (o : Op). change_by o (shown_length (log_of unit g fd h).volume)) runs.1 ∙ puts) ((Decides-int_eq (log_of unit g fd h).fd fd).1 s.file)).running

pub running_syncs_run : RunningSyncsRun
running_syncs_run unit g fd h n op lawful is syncs =
    let s = stands_of unit g fd h (apart_from (empty_files g.files) g h (lawful_new g h lawful)) in
    let runs = runs_as (world g h).requests n _ is in
    (s.syncs n fd runs.0 (ap (λ (o : Op). change_by o (shown_length (log_of unit g fd h).volume)) runs.1 ∙ syncs) ((Decides-int_eq (log_of unit g fd h).fd fd).1 s.file)).1

pub volume_shows_the_file : WritesOver → VolumeShowsTheFile
volume_shows_the_file over unit g fd h file lawful is = shows_of over unit g fd h lawful file is

pub volumes_show_the_files : WritesOver → VolumesShowTheFiles
volumes_show_the_files over unit g e place file lawful is = shows_at over unit g e place lawful file is
