-- The operations that finishes carried out, each with its outcome, the files at first, and the laws of both.
use Rattle.std.specs.Prelude.{◌≡◌, ◌↔◌, ℕ, ◌<◌, ◌==◌, ℤ, Bool, true, List, [], ◌∷◌, Option, Some, None}
use Rattle.std.specs.List.{filter}
use Rattle.uring_entry.specs.Setup.{Setup}
use Rattle.uring_entry.specs.Preparation.{operation_of}
use Rattle.uring_entry.specs.Requests.{Requests, Ending, entry_of}
use Rattle.uring_entry.specs.declared.operation.Op.{Op}
use Rattle.uring_files.specs.Contents.{FileContents, empty_files}
use Rattle.uring_files.specs.Done.{Done, files_left, AreDone}
use Rattle.uring_files.specs.Laws.{AgreeAt, is_on}
use Rattle.uring_core.specs.World.{World}
use Rattle.uring_core.specs.CalledFor.{IsLawful, files_after, files_of}
use Rattle.uring_laws.specs.Direct.{with_told}
use Rattle.uring_core.specs.Histories.{Event, History, world, IsLawfulApart}
use Rattle.uring_core.specs.declared.step.Step.TheVariants as step
use Rattle.uring_core.specs.declared.answer.Answer.TheVariants as answer

-- the operation that a Finish carried out, if it ended its request
abbrev pub done_by : World → Event → Option Done
done_by w (step.Finish n, answer.Ended res bytes) =
    Some (record { number = n; op = operation_of (entry_of w.requests n); outcome = record { res = res; bytes = bytes } })
done_by w _ = None

-- the operations that a history carried out, in order
abbrev pub done_in : Setup → History → List Done
done_in g [] = []
done_in g (event ∷ before) = with_told (done_in g before) (done_by (world g before) event)

-- the files at first: each is empty
abbrev pub first_files : Setup → List FileContents
first_files g = empty_files g.files

-- The laws.

-- A history is lawful exactly if it is lawful apart from what operations gave, and each operation that it carried out ended as the files before it call for.
abbrev pub LawfulByOperations : Setup → Type 0
LawfulByOperations g =
    (h : History) → IsLawful g h ↔ (IsLawfulApart g h × AreDone (first_files g) (done_in g h))

-- The files of a history are those that the operations left which it carried out: no other end changes any.
abbrev pub FilesByOperations : Setup → Type 0
FilesByOperations g = (h : History) → IsLawfulApart g h
    → files_of g (world g h) ≡ files_left (first_files g) (done_in g h)

-- the ends among these that are of a descriptor: the operation that the request's entry asks for is on its file
abbrev pub ends_of : ℤ → Requests → List Ending → List Ending
ends_of fd r ends = filter (λ e. is_on fd (operation_of (entry_of r e.number))) ends

-- The file of a descriptor is what its own ends make of it, in their order.
abbrev pub FileByItsEnds : Type 0
FileByItsEnds = (r : Requests) (files : List FileContents) (ends : List Ending) (fd : ℤ)
    → AgreeAt fd (files_after r files ends) (files_after r files (ends_of fd r ends))

-- The same of operations. Who carries out only some of them, but all that are on the file of a descriptor, has the same file.
abbrev pub FileByItsOperations : Type 0
FileByItsOperations = (files : List FileContents) (done : List Done) (fd : ℤ) (keeps : Op → Bool)
    → ((op : Op) → is_on fd op ≡ true → keeps op ≡ true)
    → AgreeAt fd (files_left files done) (files_left files (filter (λ d. keeps d.op) done))

-- Operations are dealt out to places by their file: two on one file go to one place. Our own rule
abbrev pub IsByFile : (Op → ℕ) → Type 0
IsByFile place =
    (fd : ℤ) (op other : Op) → is_on fd op ≡ true → is_on fd other ≡ true → place op ≡ place other

-- the operations that go to a place
abbrev pub done_at : (Op → ℕ) → ℕ → List Done → List Done
done_at place k done = filter (λ d. place d.op == k) done

-- The operations of a history that is lawful apart from what they gave were dealt out by their file, and each place carried out its own on files that it alone has, as they call for: then the history is lawful.
abbrev pub PlacesJoin : Setup → Type 0
PlacesJoin g = (place : Op → ℕ) (places : ℕ) (h : History) → IsByFile place
    → ((op : Op) → place op < places) → IsLawfulApart g h
    → ((k : ℕ) → k < places → AreDone (first_files g) (done_at place k (done_in g h)))
    → IsLawful g h

-- The file of a descriptor is then the one that the place has to which the operations on it go.
abbrev pub FilesByPlace : Setup → Type 0
FilesByPlace g = (place : Op → ℕ) (k : ℕ) (h : History) (fd : ℤ) → IsLawfulApart g h
    → ((op : Op) → is_on fd op ≡ true → place op ≡ k)
    → AgreeAt fd (files_of g (world g h)) (files_left (first_files g) (done_at place k (done_in g h)))
