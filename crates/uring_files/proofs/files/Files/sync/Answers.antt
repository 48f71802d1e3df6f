use Rattle.std.proofs.Common.{true, w32, refl, sym, ap₂, ◌∙◌}
use Rattle.std.proofs.Math.Facts.{to_z-of_z}
use Rattle.uring_files.proofs.Common.{slice_set, with_writes_synced}
use Rattle.uring_files.proofs.Places.{IsAt, ends_at, files_at}
use Rattle.uring_files.proofs.files.Files.sync.Goals as goal

pub returns : goal.returns
returns c =
    let at : IsAt c.args.self.now c.args.fd c.in-Some.place c.index_mut-file.result.now = record { named = sym (to_z-of_z {w = w32} c.ranges.fd) ∙ c.in-Some.ensures.some.0; within = c.in-Some.ensures.some.1; there = rw (← c.self.view_is) c.index_mut-file.ensures.value } in
    record {
      outcome = ends_at _ _ _ _ _ at;
      files = ap₂ (λ fs f. slice_set fs c.in-Some.place (with_writes_synced f)) c.self.view_is c.file.view_is ∙ files_at true _ _ _ _ _ with_writes_synced at refl;
    }
