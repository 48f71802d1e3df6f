-- The laws of `files.rt` on histories: which are lawful, and which files they leave, by the operations that they carried out.
-- By induction over the history: a Finish that ended its request is `files_ended`, and any other event is `files_kept`.
-- Stable: other crates may import what is pub.
use Rattle.std.proofs.Common.{◌≡◌, ◌==◌, ℕ, ℤ, Bool, true, List, [], ◌∷◌, refl, ap, ◌∙◌, arith}
use Rattle.uring_laws.proofs.Common.{Answer, AreDone, EndsOn, FilesByOperations, FilesByPlace, FinishesApart, History, IsLawful, IsLawfulApart, IsOutcome, LawfulByOperations, PlacesJoin, Requests, Setup, done_in, entry_of, eq-eqb, file_of, files_ended, files_kept, files_of, first_files, is_running, operation_of, world, FileContents}
use Rattle.uring_files.proofs.DoneLemmas.{left_snoc, done_snoc, done_unsnoc}
use Rattle.uring_core.specs.declared.step.Step.TheVariants as step
use Rattle.uring_core.specs.declared.answer.Answer.TheVariants as answer
use Rattle.uring_laws.proofs.FilesApart.{left_by_own, join_places}
use Rattle.uring_laws.proofs.WholeLaws.{lawful_apart}

-- an end apart from the files is one on them, if it gave its outcome
ends_on : (files : List FileContents) (r : Requests) (n : ℕ) (running : Bool) (a : Answer) → FinishesApart running a
    → ((res : ℤ) (bytes : List ℕ) → a ≡ answer.Ended res bytes → IsOutcome files (operation_of (entry_of r n)) (record { res = res; bytes = bytes }))
    → EndsOn files r n running a
ends_on files r n true (answer.Ended res bytes) e so = so res bytes refl
ends_on files r n _ a e so = e

-- The laws.

pub files_by_operations : (g : Setup) → FilesByOperations g
files_by_operations g [] lawful = refl
files_by_operations g ((step.Finish n, answer.Ended res bytes) ∷ before) lawful =
    files_ended (world g before).requests n res bytes (first_files g) ∙ rw (left_snoc, files_by_operations g before lawful.1)
files_by_operations g ((step.Finish n, _) ∷ before) lawful = files_by_operations g before lawful.1
files_by_operations g ((s, a) ∷ before) lawful =
    files_kept g s a before lawful tt ∙ files_by_operations g before lawful.1

are_done : (g : Setup) (h : History) → IsLawful g h → AreDone (first_files g) (done_in g h)
are_done g [] lawful = tt
are_done g ((step.Finish n, answer.Ended res bytes) ∷ before) lawful =
    let same = files_by_operations g before (lawful_apart g before lawful.1) in
    done_snoc (first_files g) (done_in g before) _ (are_done g before lawful.1) (grind (arith, lawful.0, same))
are_done g ((s, a) ∷ before) lawful = are_done g before lawful.1

pub lawful_if_done : (g : Setup) (h : History) → IsLawfulApart g h
    → AreDone (first_files g) (done_in g h) → IsLawful g h
lawful_if_done g [] apart done = tt
lawful_if_done g ((step.Finish n, answer.Ended res bytes) ∷ before) apart done =
    let parts = done_unsnoc (first_files g) (done_in g before) _ done in (
      ends_on (files_of g (world g before)) (world g before).requests n (is_running (world g before).requests n) (answer.Ended res bytes) apart.0 (λ x y e. rw (files_by_operations g before apart.1) (rw (let f : res ≡ x = cc in f, let f : bytes ≡ y = cc in f) at parts.1)),
      lawful_if_done g before apart.1 parts.0,
    )
lawful_if_done g ((step.Finish n, a) ∷ before) apart done =
    (ends_on (files_of g (world g before)) (world g before).requests n (is_running (world g before).requests n) a apart.0 (λ x y e. absurd cc), lawful_if_done g before apart.1 done)
lawful_if_done g ((s, a) ∷ before) apart done = (apart.0, lawful_if_done g before apart.1 done)

pub lawful_by_operations : (g : Setup) → LawfulByOperations g
lawful_by_operations g h = (λ lawful. (lawful_apart g h lawful, are_done g h lawful), λ both. lawful_if_done g h both.0 both.1)

pub places_join : (g : Setup) → PlacesJoin g
places_join g place places h by_file within apart at = lawful_if_done g h apart (join_places place places by_file within (first_files g) (done_in g h) at)

pub files_by_place : (g : Setup) → FilesByPlace g
files_by_place g place k h fd apart own =
    ap (λ files. file_of files fd) (files_by_operations g h apart)
    ∙ left_by_own (first_files g) (done_in g h) fd (λ op. place op == k) (λ op on. eq-eqb (place op) k (own op on))
