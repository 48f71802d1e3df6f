use Rattle.std.proofs.Common.{◌≡◌, ◌+◌, ◌++◌, ◌∷◌, [], take, sym, ◌∙◌, ap, arith}
use Rattle.std.proofs.lemmas.List.{take_more, take_all}
use Rattle.uring_entry.specs.Layout.{Sqe}
use Rattle.uring_rules.proofs.Calls.{call_more, call_all}
use Rattle.uring_rules.proofs.rules.Rules.accept_call.Goals as goal

pub loop-entry-preserved : goal.loop-entry-preserved
loop-entry-preserved c =
    let xs = c.args.entries.now in
    let n = c.loop-entry.entry-index in
    let item = c.entry-item.result in
    let more : take (n + 1) xs ≡ take n xs ++ item ∷ [] = take_more xs n item (omega arith) ∙ ap (λ (e : Sqe). take n xs ++ e ∷ []) (sym c.entry-item.is) in
    record {
      shows = λ r s. call_more _ _ _ r (take n xs) _ item c.loop-entry.invariant.linux more (c.accept.ensures.shows _ (c.loop-entry.invariant.shows r s));
      linux = c.accept.ensures.counts.linux ∙ c.loop-entry.invariant.linux;
      accepted = omega arith;
      outstanding = omega arith;
      running = omega arith;
      room = omega arith;
    }

pub returns-clause-shows : goal.returns-clause-shows
returns-clause-shows c = λ l s.
    call_all _ _ _ l c.args.entries.now _ c.loop-entry.invariant.linux (take_all c.loop-entry.entry-index c.args.entries.now (omega arith)) (c.end_call.ensures.shows _ (c.loop-entry.invariant.shows l s))
