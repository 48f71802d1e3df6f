use Rattle.std.proofs.Common.{◌≡◌, ◌∷◌, [], length, map, subst, ap, ◌∙◌}
use Rattle.uring_volume.proofs.Common.{false≢true, IfOk, fewest, files_of, length_over, lengths_by}
use Rattle.uring_volume.proofs.listing.list_images.Goals as goal

pub returns-in_err-lengths-clause-granted : goal.returns-in_err-lengths-clause-granted
returns-in_err-lengths-clause-granted g c = λ all. absurd (false≢true (c.in_err-lengths.ensures.granted all))

pub returns-in_err-pieces-clause-granted : goal.returns-in_err-pieces-clause-granted
returns-in_err-pieces-clause-granted g c = λ all. absurd (false≢true (c.in_err-pieces.ensures.granted all))

pub returns-clause-images : goal.returns-clause-images
returns-clause-images g c =
    let h = c.args.past.now.history in
    let n = length c.args.first.now in
    let found = c.deref-2.ensures.value ∙ c.in_ok-lengths.ensures.lengths ∙ ap (λ ws. lengths_by h ws n ws (length_over n (fewest h ws) ∷ [])) (ap (map (λ p. p.now)) c.deref.ensures.value ∙ c.in_ok-pieces.ensures.pieces) in
    subst (λ ns. IfOk c.files_of_lengths.result (λ files. map (λ b. b.items) files.items ≡ files_of c.args.unit c.args.first.now h ns)) found c.files_of_lengths.ensures.files
