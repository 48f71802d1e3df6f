use Rattle.std.proofs.Common.{◌≡◌, rules, ◌+◌, ◌++◌, map, drop, append_assoc, sym, ap, ◌∙◌}
use Rattle.uring_volume.proofs.Common.{append-nil, drop_all, drop_more, files_of, map-append, false≢true}
use Rattle.uring_volume.proofs.listing.files_of_lengths.Goals as goal

pub loop-len-preserved : goal.loop-len-preserved
loop-len-preserved g c =
    let appended : c.append.new.self.items ≡ c.loop-len.all.items ++ c.in_ok-files.files.items = search rules in
    ap (λ xs. map (λ b. b.items) xs ++ files_of c.args.unit c.args.first.now c.args.past.now.history (drop (c.loop-len.len-index + 1) c.args.lengths.now)) appended
    ∙ ap (λ xs. xs ++ files_of c.args.unit c.args.first.now c.args.past.now.history (drop (c.loop-len.len-index + 1) c.args.lengths.now)) (map-append (λ b. b.items) c.loop-len.all.items c.in_ok-files.files.items)
    ∙ append_assoc (map (λ b. b.items) c.loop-len.all.items) (map (λ b. b.items) c.in_ok-files.files.items) (files_of c.args.unit c.args.first.now c.args.past.now.history (drop (c.loop-len.len-index + 1) c.args.lengths.now))
    ∙ ap (λ f. map (λ b. b.items) c.loop-len.all.items ++ (f ++ files_of c.args.unit c.args.first.now c.args.past.now.history (drop (c.loop-len.len-index + 1) c.args.lengths.now))) c.in_ok-files.ensures.fronts
    ∙ sym (ap (λ ls. map (λ b. b.items) c.loop-len.all.items ++ files_of c.args.unit c.args.first.now c.args.past.now.history ls) (drop_more c.args.lengths.now c.loop-len.len-index 0 c.loop-len-test.true))
    ∙ c.loop-len.invariant

pub returns-clause-files : goal.returns-clause-files
returns-clause-files g c =
    sym (append-nil (map (λ b. b.items) c.loop-len.all.items))
    ∙ sym (ap (λ ls. map (λ b. b.items) c.loop-len.all.items ++ files_of c.args.unit c.args.first.now c.args.past.now.history ls) (drop_all c.loop-len.len-index c.args.lengths.now c.loop-len-test.false))
    ∙ c.loop-len.invariant

pub returns-in_err-files-clause-granted : goal.returns-in_err-files-clause-granted
returns-in_err-files-clause-granted g c = λ all. absurd (false≢true (c.in_err-files.ensures.granted all))
