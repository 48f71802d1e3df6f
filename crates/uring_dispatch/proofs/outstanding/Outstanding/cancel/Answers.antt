use Rattle.std.proofs.Common.{◌∙◌, ap, rules}
use Rattle.uring_dispatch.proofs.Common.{chosen_by, int_le, no_bytes, pos, to_z-of_z, w32, with_cancelled}
use Rattle.uring_dispatch.specs.declared.answers.IssuedPosting.TheVariants as posting
use Rattle.uring_dispatch.proofs.Choosing.{cancel_succeeds, group_chosen}
use Rattle.uring_dispatch.proofs.outstanding.Outstanding.cancel.Goals as goal

pub end_by_key-posts-requires-clause-group : goal.end_by_key-posts-requires-clause-group
end_by_key-posts-requires-clause-group c = group_chosen _ _ c.args.n _ c.make_choices-res.ensures.chosen c.requires.group

pub returns-clause-answer : goal.returns-clause-answer
returns-clause-answer c = λ r h named is all.
    let res = c.make_choices-res.result in
    let told = c.make_choices-res.ensures.answer r h named all in
    let success = ap (int_le (pos 0)) (to_z-of_z w32 res (search rules)) ∙ cancel_succeeds r c.args.n res is told in
    rw (to_z-of_z w32 res (search rules), ← told)
    (ap (posting.Ended res) (c.end_by_key-posts.ensures.posts (with_cancelled r (chosen_by r c.args.n res)) res (c.make_choices-res.ensures.shows r h named is all) success))

pub returns-clause-shows : goal.returns-clause-shows
returns-clause-shows c = λ r h named is all.
    let res = c.make_choices-res.result in
    let told = c.make_choices-res.ensures.answer r h named all in
    let success = ap (int_le (pos 0)) (to_z-of_z w32 res (search rules)) ∙ cancel_succeeds r c.args.n res is told in
    rw (to_z-of_z w32 res (search rules))
    (c.end_by_key-posts.ensures.shows (with_cancelled r (chosen_by r c.args.n res)) res no_bytes (c.make_choices-res.ensures.shows r h named is all) success)
