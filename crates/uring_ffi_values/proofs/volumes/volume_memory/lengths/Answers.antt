use Rattle.std.proofs.Common.{◌≤◌, ℕ, List, length, map, sym, subst, ap, ◌∙◌, arith}
use Rattle.uring_ffi_values.proofs.Common.{Global, Vec, length-map, length-take, take_all}
use Rattle.uring_ffi_values.proofs.Cutting.{made_twice}
use Rattle.uring_ffi_values.proofs.volumes.volume_memory.lengths.Goals as goal

pub push_reserved-requires : goal.push_reserved-requires
push_reserved-requires g c =
    omega (arith, simp (length-map, length-take) at (ap length c.loop-list.invariant.lengths))

pub returns-clause-lengths : goal.returns-clause-lengths
returns-clause-lengths g c =
    c.loop-list.invariant.lengths
    ∙ ap (λ (ls : List (Vec ℕ Global)). map (λ bytes. length bytes) (map (λ b. b.items) ls)) (take_all c.loop-list.list-index c.args.lists.now (omega arith))

pub loop-list-preserved : goal.loop-list-preserved
loop-list-preserved g c = record {
  lengths = made_twice (λ (bytes : List ℕ). length bytes) (λ (b : Vec ℕ Global). b.items) c.args.lists.now c.loop-list.list-index c.list-item.result c.list-item.result _ c.loop-list.lengths.items c.push_reserved.new.self.items c.loop-list-test.true c.list-item.is (c.len.ensures ∙ c.list-item.result.ok.0) c.push_reserved.ensures.items c.loop-list.invariant.lengths;
  room = subst (λ (n : ℕ). length c.args.lists.now ≤ n) (sym c.push_reserved.ensures.capacity) c.loop-list.invariant.room;
}
