-- Histories that are lawful from the files that were there at first.
use Rattle.std.proofs.Common.{ℕ, Bool, true, false, List, [], ◌∷◌}
use Rattle.uring_crash_machine.proofs.Common.{Answer, CalledFor, CalledForFrom, EndsOn, FileContents, History, IsLawful, IsLawfulApart, IsLawfulFrom, Requests, Setup, Step, World, empty_files, files_from, is_running, world}
use Rattle.uring_core.specs.StepAnswers.{CalledForApart, FinishesApart}
use Rattle.uring_core.specs.declared.step.Step.TheVariants as step
use Rattle.uring_core.specs.declared.answer.Answer.TheVariants as answer
use Rattle.uring_crash_machine.specs.Laws.{EmptyFilesAreTheCase}

-- from empty files, what is called for is what is called for on a new machine
called_new : (g : Setup) (w : World) (s : Step) (a : Answer) → CalledFor g w s a
    → CalledForFrom (empty_files g.files) g w s a
called_new g w (step.Finish n) a called = called
called_new g w _ a called = called

new_called : (g : Setup) (w : World) (s : Step) (a : Answer) → CalledForFrom (empty_files g.files) g w s a
    → CalledFor g w s a
new_called g w (step.Finish n) a called = called
new_called g w _ a called = called

pub lawful_new : (g : Setup) (h : History) → IsLawful g h → IsLawfulFrom (empty_files g.files) g h
lawful_new g [] lawful = tt
lawful_new g ((s, a) ∷ before) lawful =
    (called_new g (world g before) s a lawful.0, lawful_new g before lawful.1)

new_lawful : (g : Setup) (h : History) → IsLawfulFrom (empty_files g.files) g h → IsLawful g h
new_lawful g [] lawful = tt
new_lawful g ((s, a) ∷ before) lawful =
    (new_called g (world g before) s a lawful.0, new_lawful g before lawful.1)

pub empty_files_are_the_case : EmptyFilesAreTheCase
empty_files_are_the_case g h = (new_lawful g h, lawful_new g h)

-- an end on the files is an end apart from them
finish_apart : (files : List FileContents) (r : Requests) (n : ℕ) (b : Bool) (a : Answer)
    → EndsOn files r n b a → FinishesApart b a
finish_apart files r n true (answer.Ended res bytes) e = tt
finish_apart files r n true _ e = absurd e
finish_apart files r n false a e = e

apart_called : (first : List FileContents) (g : Setup) (w : World) (s : Step) (a : Answer)
    → CalledForFrom first g w s a → CalledForApart g w s a
apart_called first g w (step.Finish n) a called =
    finish_apart (files_from first w) w.requests n (is_running w.requests n) a called
apart_called first g w _ a called = called

pub apart_from : (first : List FileContents) (g : Setup) (h : History) → IsLawfulFrom first g h
    → IsLawfulApart g h
apart_from first g [] lawful = tt
apart_from first g ((s, a) ∷ before) lawful =
    (apart_called first g (world g before) s a lawful.0, apart_from first g before lawful.1)
