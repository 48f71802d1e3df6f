use Rattle.std.proofs.Common.{◌≡◌, [], ◌∷◌, Some, None, rules}
use Rattle.std.proofs.lemmas.Bool.Decides.{Decides-eqb}
use Rattle.std.proofs.lemmas.Slice.Eq.{strip_prefix_is, strip_suffix_is}
use Rattle.uring_check.proofs.Splitting.{IsCut, cut_split, split_made}
use Rattle.uring_check.proofs.record_line.split_record.Goals as goal

pub returns-in_err-strip_suffix : goal.returns-in_err-strip_suffix
returns-in_err-strip_suffix c =
    let cut : IsCut c.args.line.now c.split_at.result.0.now c.split_at.result.1.now c.sign_at.result = record { front_is = c.split_at.ensures.front; back_is = c.split_at.ensures.back; within = c.sign_at.ensures.within; none = c.sign_at.ensures.before; here = c.sign_at.ensures.found } in
    let none : c.from_residual.result ≡ None = search rules in
    rw none (λ before text h. strip_suffix_is Decides-eqb _ (32 ∷ []) None c.in_err-strip_suffix.ensures.cases before (cut_split _ _ _ before text _ cut h).0)

pub returns-in_err-strip_prefix : goal.returns-in_err-strip_prefix
returns-in_err-strip_prefix c =
    let cut : IsCut c.args.line.now c.split_at.result.0.now c.split_at.result.1.now c.sign_at.result = record { front_is = c.split_at.ensures.front; back_is = c.split_at.ensures.back; within = c.sign_at.ensures.within; none = c.sign_at.ensures.before; here = c.sign_at.ensures.found } in
    let none : c.from_residual-in_err-strip_prefix.result ≡ None = search rules in
    rw none (λ before text h. strip_prefix_is Decides-eqb _ (61 ∷ 32 ∷ []) None c.in_err-strip_prefix.ensures.cases text (cut_split _ _ _ before text _ cut h).1)

pub returns : goal.returns
returns c =
    let cut : IsCut c.args.line.now c.split_at.result.0.now c.split_at.result.1.now c.sign_at.result = record { front_is = c.split_at.ensures.front; back_is = c.split_at.ensures.back; within = c.sign_at.ensures.within; none = c.sign_at.ensures.before; here = c.sign_at.ensures.found } in
    split_made _ _ _ _ _ _ cut (strip_suffix_is Decides-eqb _ (32 ∷ []) (Some c.in_ok-strip_suffix.field-0) c.in_ok-strip_suffix.ensures.cases)
    (strip_prefix_is Decides-eqb _ (61 ∷ 32 ∷ []) (Some c.in_ok-strip_prefix.field-0) c.in_ok-strip_prefix.ensures.cases)
