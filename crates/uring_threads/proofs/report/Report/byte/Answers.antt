use Rattle.std.proofs.Common.{◌≡◌, ◌<◌, length, get_or, refl, sym, subst, ap, ap₂, ◌∙◌, arith, w32}
use Rattle.std.proofs.lemmas.Int.{to_z-of_z}
use Rattle.uring_threads.proofs.Common.{IsRight, Report, Setup, Worker, byte_of, files_of, left_by, now, place_of_file}
use Rattle.uring_threads.proofs.WorkerFiles.{file_at, byte_same}
use Rattle.uring_threads.proofs.report.Report.byte.Goals as goal

pub returns : goal.returns
returns g c =
    let kept = c.self.inside.kept in
    let workers = c.self.inside.workers.items in
    let place = c.place_of_file-place.ensures in
    let many : c.len.result ≡ length workers = omega (arith, c.len.ensures, c.self.inside.workers.ok.0) in
    let files = c.files-files.ensures.value ∙ ap (λ (s : Setup). s.files) c.setup.ensures.value in
    let here : c.place_of_file-place.result ≡ place_of_file (length workers) kept.setup.files c.args.fd = place.place ∙ ap (place_of_file c.len.result c.files-files.result) (to_z-of_z w32 c.args.fd c.ranges.fd) ∙ ap₂ (λ n m. place_of_file n m c.args.fd) many files in
    let within : c.place_of_file-place.result < length workers = omega (arith, place.within, many) in
    let own = file_at kept kept.setup.files workers c.args.fd c.place_of_file-place.result c.index.result.now c.index-2.result.now refl c.self.invariant.0 here within c.self.invariant.1 (subst IsRight c.index.ensures c.is_right.ensures) in
    let told = rw (to_z-of_z w32 c.args.fd c.ranges.fd) at c.byte.ensures in
    told ∙ ap (λ (w : Worker). byte_of w.files c.args.fd c.args.at) c.index-2.ensures
    ∙ sym (byte_same c.args.fd c.args.at (files_of kept.setup (now kept)) (get_or workers c.place_of_file-place.result c.index-2.result.now).files own)
    ∙ ap (λ (r : Report). byte_of (files_of r.setup (left_by r)) c.args.fd c.args.at) c.self.view_is
