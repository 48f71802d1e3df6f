use Rattle.std.proofs.Common.{w32, sym, ap, ◌∙◌}
use Rattle.std.proofs.Math.Facts.{to_z-of_z}
use Rattle.uring_files.proofs.Common.{ended_with, slice_set}
use Rattle.uring_files.proofs.Places.{IsAt, ends_at, files_at, written_at}
use Rattle.uring_files.proofs.files.Files.write.Goals as goal

pub returns : goal.returns
returns g c =
    let at : IsAt c.args.self.now c.args.fd c.in-Some.place c.index_mut.result.now = record { named = sym (to_z-of_z {w = w32} c.ranges.fd) ∙ c.in-Some.ensures.some.0; within = c.in-Some.ensures.some.1; there = rw (← c.self.view_is) c.index_mut.ensures.value } in
    rw (to_z-of_z {w = w32} (record { sfits = c.write.type_inv })) (record {
      outcome = written_at _ _ _ c.args.off c.args.len c.args.bytes.now _ _ at c.write.ensures.outcome;
      files = ap (λ fs. slice_set fs c.in-Some.place c.write.new.self) c.self.view_is ∙ files_at _ _ _ _ _ _ _ at c.write.ensures.file;
      granted = λ n grants enough. ap ended_with (c.write.ensures.granted n grants enough) ∙ ends_at _ _ _ _ _ at;
    })
