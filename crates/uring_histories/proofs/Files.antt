-- The files of a history, and that they are some others by what is told of each.
use Rattle.std.proofs.Common.{◌≡◌, ℕ, ◌<◌, ◌≤◌, pos, List, [], ◌∷◌, length, None, refl, ◌∙◌, arith}
use Rattle.uring_histories.proofs.Common.{Ending, Requests, Setup, World, after, entry_of, file_of, files_after, files_of, length-replicate, same_by_descriptors, state_of}
use Rattle.std.proofs.lemmas.Option.{slice_get_cases}
use Rattle.uring_entry.specs.Preparation.{operation_of}
use Rattle.uring_files.specs.Contents.{FileContents, empty_file, empty_files}
use Rattle.uring_files.proofs.OperationCases.{many_after}

ends_count : (r : Requests) (ends : List Ending) (files : List FileContents)
    → length (files_after r files ends) ≡ length files
ends_count r [] files = refl
ends_count r (e ∷ later) files =
    ends_count r later (after files (operation_of (entry_of r e.number)) e.res) ∙ many_after files (operation_of (entry_of r e.number)) e.res

-- there are as many as the set-up has
pub files_count : (g : Setup) (w : World) → length (files_of g w) ≡ g.files
files_count g w = ends_count w.requests w.requests.ended (empty_files g.files) ∙ length-replicate g.files empty_file

-- they are these, if each descriptor says so
pub same_files : (g : Setup) (w : World) (files : List FileContents) (i : ℕ) → g.files ≤ 64 → length files ≤ 64
    → 64 ≤ i → ((k : ℕ) → k < i → file_of (files_of g w) (pos k) ≡ file_of files (pos k))
    → files_of g w ≡ files
same_files g w files i few few' all at = grind (arith, files_count, same_by_descriptors)

-- there are at most 64, if there is no file of descriptor 64
pub few_by : (files : List FileContents) → state_of files (pos 64) ≡ None → length files ≤ 64
few_by files none = grind (arith, slice_get_cases)
