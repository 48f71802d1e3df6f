use Rattle.std.proofs.Common.{rules, ◌≡◌, ◌+◌, ◌-◌, ◌^◌, min, length, map, sym, ap, ◌∙◌, arith}
use Rattle.uring_volume.proofs.Common.{length-map}
use Rattle.uring_volume.proofs.Seeking.{count_more}
use Rattle.uring_volume.proofs.Skipping.{skipped}
use Rattle.uring_volume.proofs.listing.count_fronts.Goals as goal

pub loop-i-init : goal.loop-i-init
loop-i-init g c = record {
  count = sym (ap (λ n. min n (2 ^ 64 - 1)) (skipped c.args.unit c.args.first.now c.args.past.now.history c.args.len 0 c.next_touched-i.result (omega arith) c.next_touched-i.ensures.none));
  within = c.next_touched-i.ensures.to;
}

pub loop-i-preserved : goal.loop-i-preserved
loop-i-preserved g c =
    let many : c.in_ok-ends.ends.len ≡ length c.in_ok-ends.ends.items = search rules in
    record {
      count =
          count_more c.args.unit c.args.first.now c.args.past.now.history c.args.len c.loop-i.i c.loop-i.count c.len.result c.saturating_mul-count.result (2 ^ 64 - 1) (map (λ b. b.items) c.in_ok-ends.ends.items)
          c.loop-i.invariant.count c.in_ok-ends.ensures.contents (c.len.ensures ∙ many ∙ sym (length-map c.in_ok-ends.ends.items (λ b. b.items))) c.saturating_mul-count.ensures
          ∙ sym (ap (λ n. min n (2 ^ 64 - 1)) (skipped c.args.unit c.args.first.now c.args.past.now.history c.args.len (c.loop-i.i + 1) c.next_touched-i-in-loop-i.result c.next_touched-i-in-loop-i.ensures.from c.next_touched-i-in-loop-i.ensures.none));
      within = c.next_touched-i-in-loop-i.ensures.to;
    }
