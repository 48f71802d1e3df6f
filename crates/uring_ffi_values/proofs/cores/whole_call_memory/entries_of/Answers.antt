use Rattle.std.proofs.Common.{◌≤◌, ℕ, length, map, refl, sym, subst, ap, ◌∙◌, arith}
use Rattle.std.proofs.lemmas.List.{length-map, length-take, take_all}
use Rattle.uring_ffi_values.proofs.Cutting.{made_more}
use Rattle.uring_ffi_values.proofs.cores.whole_call_memory.entries_of.Goals as goal

pub push_reserved-requires : goal.push_reserved-requires
push_reserved-requires g c =
    omega (arith, simp (length-map, length-take) at (ap length c.loop-entry.invariant.entries))

pub returns-clause-entries : goal.returns-clause-entries
returns-clause-entries g c =
    c.loop-entry.invariant.entries ∙ ap (map (λ e. e.words)) (take_all c.loop-entry.entry-index c.args.entries.now (omega arith))

pub loop-entry-preserved : goal.loop-entry-preserved
loop-entry-preserved g c = record {
  entries = made_more (λ e. e.words) c.args.entries.now c.loop-entry.entry-index _ _ _ c.loop-entry.list.items c.push_reserved.new.self.items c.loop-entry-test.true refl c.from_words.ensures c.push_reserved.ensures.items c.loop-entry.invariant.entries;
  room = subst (λ (n : ℕ). length c.args.entries.now ≤ n) (sym c.push_reserved.ensures.capacity) c.loop-entry.invariant.room;
}
