use Rattle.std.proofs.Common.{◌≡◌, ℤ, true, false, Some, ap, sym, subst, ◌∙◌, rules}
use Rattle.uring_reconstruct.proofs.Common.{Cqe, completion_for, not-false, to_z-of_z, w32}
use Rattle.uring_entry.specs.Success as success
use Rattle.uring_entry.specs.Results as results
use Rattle.uring_reconstruct.proofs.Adding.{fits_told, fits_quiet}
use Rattle.uring_reconstruct.proofs.ends.finish_fits.Goals as goal

pub returns-then-posts_completion : goal.returns-then-posts_completion
returns-then-posts_completion c =
    let same = to_z-of_z w32 c.args.res (search rules) in
    let may_so : c.may_end.result ≡ true = search (rules, not-false) in
    let may : results.may_end c.args.entry.now c.args.res ≡ true = subst (λ r. results.may_end c.args.entry.now r ≡ true) same (sym c.may_end.ensures ∙ may_so) in
    let succeeds : c.succeeded.result ≡ success.is_success c.args.entry.now c.args.res = subst (λ r. c.succeeded.result ≡ success.is_success c.args.entry.now r) same c.succeeded.ensures in
    let posts : success.posts_completion c.args.entry.now c.args.res ≡ true = sym (c.posts_completion.ensures c.args.res succeeds) ∙ c.if-posts_completion.true in
    let told : c.new.result ≡ completion_for c.args.entry.now c.args.res c.args.bytes =
    c.new.ensures ∙ (ap (λ (r : ℤ). record { user_data = c.user_data.result; res = r; payload = c.args.bytes }) same ∙ ap (λ u. record { user_data = u; res = c.args.res; payload = c.args.bytes }) c.user_data.ensures) in (
      λ t. fits_told c.args.entry.now c.args.wanted.now c.args.res c.args.bytes may posts (c.is_wanted.ensures.0 t ∙ ap (λ (x : Cqe). Some x) told),
      λ f. c.is_wanted.ensures.1 (f.tells posts ∙ sym (ap (λ (x : Cqe). Some x) told)),
    )

pub returns-else-posts_completion : goal.returns-else-posts_completion
returns-else-posts_completion c =
    let same = to_z-of_z w32 c.args.res (search rules) in
    let may_so : c.may_end.result ≡ true = search (rules, not-false) in
    let may : results.may_end c.args.entry.now c.args.res ≡ true = subst (λ r. results.may_end c.args.entry.now r ≡ true) same (sym c.may_end.ensures ∙ may_so) in
    let succeeds : c.succeeded.result ≡ success.is_success c.args.entry.now c.args.res = subst (λ r. c.succeeded.result ≡ success.is_success c.args.entry.now r) same c.succeeded.ensures in
    let quiet : success.posts_completion c.args.entry.now c.args.res ≡ false = sym (c.posts_completion.ensures c.args.res succeeds) ∙ c.if-posts_completion.false in (
      λ t. fits_quiet c.args.entry.now c.args.wanted.now c.args.res c.args.bytes may quiet (c.has_none.ensures.0 t),
      λ f. c.has_none.ensures.1 (f.may.untold quiet),
    )
