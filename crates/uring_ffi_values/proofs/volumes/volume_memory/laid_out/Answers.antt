use Rattle.std.proofs.Common.{◌++◌, ℕ, List, map, refl, ap, ◌∙◌, arith}
use Rattle.uring_ffi_values.proofs.Common.{Global, Vec, laid_out}
use Rattle.uring_ffi_values.proofs.Cutting.{laid_more, nothing_left}
use Rattle.uring_ffi_values.proofs.Exits.{fits_itself}
use Rattle.uring_ffi_values.proofs.volumes.volume_memory.laid_out.Goals as goal

pub returns-clause-bytes : goal.returns-clause-bytes
returns-clause-bytes g c =
    let l = c.loop-list in
    nothing_left (λ (ls : List (Vec ℕ Global)). laid_out (map (λ b. b.items) ls)) c.args.lists.now l.list-index l.all.items (laid_out (map (λ b. b.items) c.args.lists.now)) (omega arith) refl l.invariant

pub loop-list-preserved : goal.loop-list-preserved
loop-list-preserved g c =
    laid_more (λ (b : Vec ℕ Global). b.items) c.args.lists.now c.loop-list.list-index c.list-item.result c.loop-list.all.items c.reserve.new.list.items c.extend_from_slice.new.self.items _ c.loop-list-test.true c.list-item.is c.reserve.ensures.items (c.in_default-extend_from_slice.ensures.items ∙ ap (λ (ys : List ℕ). c.reserve.new.list.items ++ ys) c.deref.ensures.value) c.loop-list.invariant

pub returns-in-Err-clause-granted : goal.returns-in-Err-clause-granted
returns-in-Err-clause-granted g c = λ all. c.in-Err.ensures.granted _ (all _) (fits_itself _)
