use Rattle.std.proofs.Common.{◌≡◌, List, ◌∷◌, ◌++◌, [], map, sym, subst, ap, ◌∙◌}
use Rattle.uring_crash_outcomes.proofs.Common.{AreShown, Cqe, Crash, HasMade, Log, Move, TakesPath, entries_of, logs_after, paths_of}
use Rattle.uring_crash_outcomes.specs.Found.{IsReason}
use Rattle.uring_crash_outcomes.specs.Faults.{fault_of_walk}
use Rattle.uring_crash_outcomes.specs.declared.fault.CrashFault.{CrashFault}
use Rattle.uring_crash_outcomes.specs.declared.fault.CrashFault.TheVariants.{Memory, Images}
use Rattle.uring_crash_outcomes.proofs.Showing.{err_told, not_told, reason_of, walk_granted, walk_reason}
use Rattle.uring_crash_outcomes.proofs.Taking.{no_path, path_taken}
use Rattle.uring_crash_outcomes.proofs.walk.Walk.try_path.Goals as goal

pub returns-then-not-branch-clause-takes : goal.returns-then-not-branch-clause-takes
returns-then-not-branch-clause-takes g c =
    no_path c.args.unit c.args.setup.now (entries_of c.args.calls.now) c.args.path.now (paths_of c.args.self.now.todo.items) c.args.self.now.found.items
    ((c.in_ok-replay.ensures.tried c.args.unit c.args.setup.now c.requires).stopped c.if-not-branch.true)

pub returns-in_err-replay-clause-fault : goal.returns-in_err-replay-clause-fault
returns-in_err-replay-clause-fault g c =
    let calls = entries_of c.args.calls.now in
    err_told c.from_residual.result (IsReason c.args.unit c.args.setup.now calls c.args.images) (fault_of_walk c.in_err-replay.field-0.0) c.from_residual.ensures.1
    (walk_reason (g.M.Memory.grants c.args.memory.now) c.args.unit c.args.setup.now calls c.args.images c.in_err-replay.field-0.0 c.in_err-replay.ensures.fault)

pub returns-in_err-replay-clause-granted : goal.returns-in_err-replay-clause-granted
returns-in_err-replay-clause-granted g c = λ all.
    not_told c.from_residual.result (fault_of_walk c.in_err-replay.field-0.0) Memory c.from_residual.ensures.1
    (walk_granted (g.M.Memory.grants c.args.memory.now) (entries_of c.args.calls.now) c.in_err-replay.field-0.0 c.in_err-replay.ensures.fault all)

pub returns-in_err-shown-clause-granted : goal.returns-in_err-shown-clause-granted
returns-in_err-shown-clause-granted g c = λ all.
    not_told c.from_residual-in_err-shown.result c.in_err-shown.field-0.0 Memory c.from_residual-in_err-shown.ensures.1
    (λ is. let no : ◌≡◌ {A = CrashFault} Images Memory = sym (c.in_err-shown.ensures.granted all) ∙ is in cc)

pub returns-in_err-shown-clause-fault : goal.returns-in_err-shown-clause-fault
returns-in_err-shown-clause-fault g c =
    let calls = entries_of c.args.calls.now in
    err_told c.from_residual-in_err-shown.result (IsReason c.args.unit c.args.setup.now calls c.args.images) c.in_err-shown.field-0.0 c.from_residual-in_err-shown.ensures.1
    (reason_of c.args.unit c.args.setup.now calls c.args.path.now c.replay.new.self.run c.as_slice-2.result.now c.args.images c.in_err-shown.field-0.0
    (subst (HasMade c.args.unit c.args.setup.now calls c.args.path.now c.replay.new.self.run) (sym c.as_slice-2.ensures.value) ((c.in_ok-replay.ensures.tried c.args.unit c.args.setup.now c.requires).made c.if-not-branch.false)) c.in_err-shown.ensures.fault)

pub all_next-requires : goal.all_next-requires
all_next-requires g c =
    let h = (c.in_ok-replay.ensures.tried c.args.unit c.args.setup.now c.requires).made c.if-not-branch.false in
    record { moment = h.last; at = h.at }

pub returns-clause-takes : goal.returns-clause-takes
returns-clause-takes g c =
    let calls = entries_of c.args.calls.now in
    let path = c.args.path.now in
    let h = (c.in_ok-replay.ensures.tried c.args.unit c.args.setup.now c.requires).made c.if-not-branch.false in
    let moves = c.in_ok-moves.moves.items in
    let todo = paths_of c.args.self.now.todo.items in
    let found = c.args.self.now.found.items in
    let shown = c.in_ok-shown.shown.items in
    let posted : c.as_slice.result.now ≡ h.last.posted = c.as_slice.ensures.value ∙ h.at.posted in
    let logs : c.as_slice-2.result.now ≡ logs_after c.args.unit c.args.setup.now calls path = c.as_slice-2.ensures.value ∙ h.are in
    let are : AreShown h.last.posted (logs_after c.args.unit c.args.setup.now calls path) shown =
    subst (λ (ps : List Cqe). AreShown ps (logs_after c.args.unit c.args.setup.now calls path) shown) posted
    (subst (λ (ls : List Log). AreShown c.as_slice.result.now ls shown) logs c.in_ok-shown.ensures.shown) in
    let pushed : paths_of c.push_longer-left.new.todo.items ≡ todo ++ map (λ x. path ++ x ∷ []) moves = c.in_ok-left.ensures.pushed ∙ ap (λ (xs : List Move). todo ++ map (λ x. path ++ x ∷ []) xs) c.as_slice-3.ensures.value in
    let noted : c.append.new.self.items ≡ found ++ shown = c.in_ok-append.ensures.items ∙ ap (λ (xs : List Crash). xs ++ shown) c.reserve.ensures.items in
    subst (λ (t : List (List Move)). TakesPath c.args.unit c.args.setup.now calls path todo found t c.append.new.self.items) (sym pushed)
    (subst (λ (f : List Crash). TakesPath c.args.unit c.args.setup.now calls path todo found (todo ++ map (λ x. path ++ x ∷ []) moves) f) (sym noted)
    (path_taken c.args.unit c.args.setup.now calls path h.last h.leads todo moves shown found (c.in_ok-moves.ensures.all h.last h.at) are))
