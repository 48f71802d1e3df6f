-- The laws of `workers_join`: work is dealt out by files, and joined by the laws of uring_laws on places.
use Rattle.std.proofs.Common.{◌≡◌, ℕ, ℤ, true, sym, ◌∙◌, arith}
use Rattle.uring_threads.proofs.Common.{DealtByFile, FilesByWorker, IsDealtByFile, Op, Setup, WorkersJoin, place_of, place_of_file}
use Rattle.uring_files.specs.Laws.{is_on}
use Rattle.uring_laws.proofs.FileLaws.{places_join, files_by_place}

-- what is on a file is its worker's
on_place : (workers files : ℕ) (fd : ℤ) (op : Op) → is_on fd op ≡ true
    → place_of workers files op ≡ place_of_file workers files fd
on_place workers files fd op on = grind arith

pub dealt_by_file : DealtByFile
dealt_by_file workers files some =
    record {
      by_file = λ fd op other on also. on_place workers files fd op on ∙ sym (on_place workers files fd other also);
      within = λ op. grind arith;
    }

pub workers_join : (g : Setup) → WorkersJoin g
workers_join g workers h some lawful done =
    let dealt : IsDealtByFile workers g.files = dealt_by_file workers g.files some in
    places_join g (place_of workers g.files) workers h dealt.by_file dealt.within lawful done

pub files_by_worker : (g : Setup) → FilesByWorker g
files_by_worker g workers h fd lawful = files_by_place g (place_of workers g.files) (place_of_file workers g.files fd) h fd lawful (λ op on. on_place workers g.files fd op on)
