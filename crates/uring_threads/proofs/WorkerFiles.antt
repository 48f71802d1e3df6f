-- The file of a descriptor, of a history that workers have settled, is that of its worker.
use Rattle.std.proofs.Common.{◌≡◌, ℕ, ◌<◌, ℤ, List, length, get_or, subst, ap}
use Rattle.uring_threads.proofs.Common.{AreSettled, HaveFiles, IsRight, Kept, Worker, byte_of, files_of, get_or_default, now, place_of_file, slice_get, state_of}
use Rattle.std.specs.Option.{option_and_then, option_map}
use Rattle.uring_files.specs.Contents.{FileContents}
use Rattle.uring_files.specs.Laws.{AgreeAt}

pub file_at : (kept : Kept) (files : ℕ) (workers : List Worker) (fd : ℤ) (place : ℕ) (d e : Worker)
    → kept.setup.files ≡ files → AreSettled kept workers
    → place ≡ place_of_file (length workers) files fd → place < length workers
    → HaveFiles files workers
    → IsRight (get_or workers place d)
    → AgreeAt fd (files_of kept.setup (now kept)) (get_or workers place e).files
file_at kept files workers fd place d e same settled here within have right =
    let k : ℕ = place_of_file (length workers) files fd in
    let many = have.each k e (rw here at within) in
    let own : IsRight (get_or workers k e) = rw here at (subst IsRight (get_or_default workers place d e within) right) in
    rw (here, own.files, many, ← same) ((settled e).files fd)

pub state_same : (fd : ℤ) (files others : List FileContents) → AgreeAt fd files others
    → state_of files fd ≡ state_of others fd
state_same fd files others same = ap (option_map (λ (f : FileContents). record { len = length f.bytes; writes = f.writes; synced = f.synced })) same

pub byte_same : (fd : ℤ) (at : ℕ) (files others : List FileContents) → AgreeAt fd files others
    → byte_of files fd at ≡ byte_of others fd at
byte_same fd at files others same =
    ap (option_and_then (λ (f : FileContents). slice_get f.bytes at)) same
