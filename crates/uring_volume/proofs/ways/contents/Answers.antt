use Rattle.std.proofs.Common.{suc, [], map, sym, subst, ap, ◌∙◌, arith}
use Rattle.uring_volume.proofs.Common.{false≢true}
use Rattle.uring_volume.specs.Ways.{way, next_ways, found_at, found_by}
use Rattle.uring_volume.specs.Past.{AreWaysIssued}
use Rattle.uring_volume.proofs.IssuedWays.{next_issued}
use Rattle.uring_volume.proofs.ways.contents.Goals as goal

pub loop-step-preserved : goal.loop-step-preserved
loop-step-preserved g c = record {
  issued =
      subst (λ ws. AreWaysIssued c.args.past.now.history ws)
      (sym (c.in_ok-ways.ensures.next ∙ ap (λ xs. next_ways c.args.past.now.history c.args.from (map (λ s. way (map (λ p. p.now) s.rest.items) s.now.items) xs) []) c.deref-in-loop-step.ensures.value))
      (next_issued c.args.past.now.history c.args.from (map (λ s. way (map (λ p. p.now) s.rest.items) s.now.items) c.loop-step.ways.items) c.loop-step.invariant.issued);
  found = λ n more.
      ap (λ ws. found_by n c.args.past.now.history c.args.from ws (map (λ b. b.items) c.put_found.new.found.items))
      (c.in_ok-ways.ensures.next ∙ ap (λ xs. next_ways c.args.past.now.history c.args.from (map (λ s. way (map (λ p. p.now) s.rest.items) s.now.items) xs) []) c.deref-in-loop-step.ensures.value)
      ∙ ap (λ bs. found_by n c.args.past.now.history c.args.from (next_ways c.args.past.now.history c.args.from (map (λ s. way (map (λ p. p.now) s.rest.items) s.now.items) c.loop-step.ways.items) []) bs)
      (c.in_ok-put_found.ensures.found ∙ ap (λ xs. found_at c.args.past.now.history (map (λ s. way (map (λ p. p.now) s.rest.items) s.now.items) xs) (map (λ b. b.items) c.loop-step.found.items)) c.deref.ensures.value)
      ∙ c.loop-step.invariant.found (suc n) (omega (arith, more));
}

pub returns-clause-contents : goal.returns-clause-contents
returns-clause-contents g c = c.loop-step.invariant.found 0 (omega arith)

pub returns-in_err-push-clause-granted : goal.returns-in_err-push-clause-granted
returns-in_err-push-clause-granted g c = λ all. absurd (false≢true (c.in_err-push.ensures.granted all))

pub returns-in_err-put_found-clause-granted : goal.returns-in_err-put_found-clause-granted
returns-in_err-put_found-clause-granted g c = λ all. absurd (false≢true (c.in_err-put_found.ensures.granted all))

pub returns-in_err-ways-clause-granted : goal.returns-in_err-ways-clause-granted
returns-in_err-ways-clause-granted g c = λ all. absurd (false≢true (c.in_err-ways.ensures.granted all))

pub put_found-requires : goal.put_found-requires
put_found-requires g c = subst (λ xs. AreWaysIssued c.args.past.now.history (map (λ s. way (map (λ p. p.now) s.rest.items) s.now.items) xs)) (sym c.deref.ensures.value) c.loop-step.invariant.issued
