use Rattle.std.proofs.Common.{◌∷◌, Option, Bool, subst, ap, ◌∙◌, if◌then◌else◌}
use Rattle.uring_enter.specs.declared.completions.posted.Completion.{Completion}
use Rattle.uring_operations.specs.Requests.Courses.{shown as shown_by}
use Rattle.uring_enter.specs.Completions.Showing.{KeepsShown}
use Rattle.uring_enter.specs.Completions.Showing.{Posted as WasPosted}
use Rattle.uring_enter.specs.Completions.Postings.{Ended, KeepsPosted, with_res, posts}
use Rattle.uring_ffi.proofs.operations.requests.course_exports.wulgach_shown_end.Goals as goal

pub returns-in-Ok-true-clause-rows : goal.returns-in-Ok-true-clause-rows
returns-in-Ok-true-clause-rows c facts log keeps kept ok =
    let P : Option Completion → Type 0 = λ last. KeepsPosted (Ended (with_res (shown_by facts) c.args.end.now) last ∷ log) c.end.new.self.posted c.end.new.rows in
    subst P c.last.ensures (c.in-Ok-true.ensures.rows facts log keeps kept)

pub returns-in-Ok-true-clause-shown : goal.returns-in-Ok-true-clause-shown
returns-in-Ok-true-clause-shown c log keeps below ok =
    let P : Bool → Type 0 = λ is. KeepsShown (if is then WasPosted ∷ log else log) c.end.new.self in
    subst P (c.in-Ok-true.ensures.posts ∙ ap posts c.last.ensures) (c.in-Ok-true.ensures.shown log keeps below)

pub returns-in-Ok-false-clause-rows : goal.returns-in-Ok-false-clause-rows
returns-in-Ok-false-clause-rows c facts log keeps kept ok =
    let P : Option Completion → Type 0 = λ last. KeepsPosted (Ended (with_res (shown_by facts) c.args.end.now) last ∷ log) c.end.new.self.posted c.end.new.rows in
    subst P c.last.ensures (c.in-Ok-false.ensures.rows facts log keeps kept)

pub returns-in-Ok-false-clause-shown : goal.returns-in-Ok-false-clause-shown
returns-in-Ok-false-clause-shown c log keeps below ok =
    let P : Bool → Type 0 = λ is. KeepsShown (if is then WasPosted ∷ log else log) c.end.new.self in
    subst P (c.in-Ok-false.ensures.posts ∙ ap posts c.last.ensures) (c.in-Ok-false.ensures.shown log keeps below)
