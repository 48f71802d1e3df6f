use Rattle.std.proofs.Common.{◌≡◌, ◌≤◌, ◌+◌, ◌-◌, min, rules, ℕ, List, length, drop, get_or, map, refl, sym, subst, ap, ◌∙◌, arith}
use Rattle.uring_ffi_values.proofs.Common.{Global, Vec, cut, length_push}
use Rattle.uring_ffi_values.proofs.Exits.{fits_itself}
use Rattle.uring_ffi_values.proofs.Cutting.{cut_step, end_within, next_suc, nothing_left}
use Rattle.uring_ffi_values.proofs.core_words.cuts.cut.Goals as goal

pub loop-len-preserved : goal.loop-len-preserved
loop-len-preserved g c =
    let i = c.loop-len.invariant in
    let to : c.loop-len.from + c.min.result ≡ c.loop-len.from + min (get_or c.args.lens.now c.loop-len.len-index 0) (length c.args.values.now - c.loop-len.from) = search rules in
    record {
      parts = cut_step (λ p. p.items) c.loop-len.parts.items c.push_reserved.new.self.items c.in-Ok-copied.part c.args.lens.now c.args.values.now c.loop-len.len-index (c.loop-len.len-index + 1) c.loop-len.from (c.loop-len.from + c.min.result) (get_or c.args.lens.now c.loop-len.len-index 0) (cut c.args.lens.now c.args.values.now) c.loop-len-test.true (next_suc c.loop-len.len-index) refl to c.in-Ok-copied.ensures.values c.push_reserved.ensures.items i.parts;
      within = end_within _ _ _ _ i.within to;
      many = ap (λ (ps : List (Vec g.row.T.Denot Global)). length ps) c.push_reserved.ensures.items ∙ length_push _ _ ∙ ap (λ (n : ℕ). n + 1) i.many;
      room = subst (λ (n : ℕ). length c.args.lens.now ≤ n) (sym c.push_reserved.ensures.capacity) i.room;
    }

pub returns-clause-parts : goal.returns-clause-parts
returns-clause-parts g c =
    let l = c.loop-len in
    nothing_left (λ ls. cut ls (drop l.from c.args.values.now)) c.args.lens.now l.len-index (map (λ p. p.items) l.parts.items) (cut c.args.lens.now c.args.values.now) (omega arith) refl l.invariant.parts

pub returns-in_default-copied-clause-granted : goal.returns-in_default-copied-clause-granted
returns-in_default-copied-clause-granted g c =
    λ all. c.in_default-copied.ensures.granted _ (all _) (fits_itself _)
