-- The laws of `files.rt` on lists of operations alone: the file of a descriptor is made by the operations on it,
-- and operations that were dealt out by their file can be carried out at places with files of their own.
-- From the lemmas of uring_files that each file stands by itself. Stable: other crates may import what is pub.
use Rattle.std.proofs.Common.{◌≡◌, ℕ, ◌<◌, ◌==◌, ℤ, Bool, true, cond, List, [], ◌∷◌, refl, arith}
use Rattle.uring_laws.proofs.Common.{AreDone, Done, Ending, FileByItsEnds, FileContents, IsByFile, Op, Requests, after, cond_both, done_at, ends_of, entry_of, eq-eqb, files_after, files_left, filter, operation_of}
use Rattle.uring_files.specs.Laws.{AgreeAt, is_on}
use Rattle.uring_files.proofs.StandAlone.{others_stay, files_apart, ends_apart}

-- The file of a descriptor.

-- files that agree at a descriptor agree there after operations, also if those that aren't on its file are left out on one side
left_apart : (files others : List FileContents) (done : List Done) (fd : ℤ) (keeps : Op → Bool)
    → ((op : Op) → is_on fd op ≡ true → keeps op ≡ true) → AgreeAt fd files others
    → AgreeAt fd (files_left files done) (files_left others (filter (λ d. keeps d.op) done))
left_apart files others [] fd keeps own same = same
left_apart files others (d ∷ later) fd keeps own same =
    let now : List FileContents = after files d.op d.outcome.res in
    let rest : List Done = filter (λ x. keeps x.op) later in
    grind (arith, files_apart, others_stay, (own d.op), (left_apart now (after others d.op d.outcome.res) later fd keeps own), (left_apart now others later fd keeps own))

pub left_by_own : (files : List FileContents) (done : List Done) (fd : ℤ) (keeps : Op → Bool)
    → ((op : Op) → is_on fd op ≡ true → keeps op ≡ true)
    → AgreeAt fd (files_left files done) (files_left files (filter (λ d. keeps d.op) done))
left_by_own files done fd keeps own = left_apart files files done fd keeps own refl

after_apart : (r : Requests) (files others : List FileContents) (ends : List Ending) (fd : ℤ) → AgreeAt fd files others
    → AgreeAt fd (files_after r files ends) (files_after r others (ends_of fd r ends))
after_apart r files others [] fd same = same
after_apart r files others (e ∷ later) fd same =
    let op : Op = operation_of (entry_of r e.number) in
    grind (arith, files_apart, others_stay, (after_apart r (after files op e.res) (after others op e.res) later fd), (after_apart r (after files op e.res) others later fd))

pub after_by_own : FileByItsEnds
after_by_own r files ends fd = after_apart r files files ends fd refl

-- Operations dealt out by their file.

-- each place has the files on which its operations are
abbrev Agree : (Op → ℕ) → List FileContents → (ℕ → List FileContents) → Type 0
Agree place files parts =
    (fd : ℤ) (op : Op) → is_on fd op ≡ true → AgreeAt fd files (parts (place op))

module _ (place : Op → ℕ) (by_file : IsByFile place) where
  -- the files of a place after an operation, if it is the place's own
  part_after : Done → (ℕ → List FileContents) → ℕ → List FileContents
  part_after d parts k = cond (place d.op == k) (after (parts k) d.op d.outcome.res) (parts k)

  agree_after : (files : List FileContents) (parts : ℕ → List FileContents) (d : Done) → Agree place files parts → Agree place (after files d.op d.outcome.res) (part_after d parts)
  unfolding part_after
  agree_after files parts d agree fd op on =
      grind (arith, files_apart, others_stay, (agree fd op on), (λ (also : is_on fd d.op ≡ true). by_file fd d.op op also on), eq-eqb)

  -- what is left for a place once the first operation was carried out
  left_at : (parts : ℕ → List FileContents) (d : Done) (later : List Done) (k : ℕ) → AreDone (parts k) (done_at place k (d ∷ later)) → AreDone (part_after d parts k) (done_at place k later)
  unfolding part_after
  left_at parts d later k done = cond_both (place d.op == k) _ _ (λ fs. AreDone fs (done_at place k later)) (λ here. (rw here at done).1) (λ off. rw off at done)

  joined : (places : ℕ) → ((op : Op) → place op < places) → (files : List FileContents) (parts : ℕ → List FileContents) (done : List Done) → Agree place files parts → ((k : ℕ) → k < places → AreDone (parts k) (done_at place k done)) → AreDone files done
  joined places within files parts [] agree at = tt
  joined places within files parts (d ∷ later) agree at = (
    rw ((ends_apart files (parts (place d.op)) d.op (λ fd on. agree fd d.op on)).0, (ends_apart files (parts (place d.op)) d.op (λ fd on. agree fd d.op on)).1) (rw (eq-eqb (place d.op) (place d.op) refl) at (at (place d.op) (within d.op))).0,
    joined places within (after files d.op d.outcome.res) (part_after d parts) later (agree_after files parts d agree) (λ k lt. left_at parts d later k (at k lt)),
  )

-- what each place did on files of its own is right on files together
pub join_places : (place : Op → ℕ) (places : ℕ) → IsByFile place → ((op : Op) → place op < places)
    → (files : List FileContents) (done : List Done)
    → ((k : ℕ) → k < places → AreDone files (done_at place k done)) → AreDone files done
join_places place places by_file within files done at =
    joined place by_file places within files (λ k. files) done (λ fd op on. refl) at
