use Rattle.std.proofs.Common.{◌≡◌, [], ◌∷◌, Some, None, rules}
use Rattle.std.proofs.lemmas.Bool.Decides.{Decides-eqb}
use Rattle.std.proofs.lemmas.Slice.Eq.{strip_prefix_is, strip_suffix_is}
use Rattle.uring_entry.specs.Requests.{no_bytes}
use Rattle.uring_observed_text.proofs.Texts.{no_front, no_back, framed, unparted_none, number_none, result_none, completion_read}
use Rattle.uring_observed_text.proofs.guess.completion_of.Goals as goal

pub returns-in_err-rest : goal.returns-in_err-rest
returns-in_err-rest c =
    let none : c.from_residual.result ≡ None = search rules in
    rw none (no_front _ (strip_prefix_is Decides-eqb _ (99 ∷ 113 ∷ 101 ∷ 32 ∷ []) None c.in_err-rest.ensures.cases))

pub returns-in_err-middle : goal.returns-in_err-middle
returns-in_err-middle c =
    let none : c.from_residual-in_err-middle.result ≡ None = search rules in
    rw none (no_back _ c.in_ok-rest.rest.now (strip_prefix_is Decides-eqb _ (99 ∷ 113 ∷ 101 ∷ 32 ∷ []) (Some c.in_ok-rest.rest) c.in_ok-rest.ensures.cases) (strip_suffix_is Decides-eqb _ (32 ∷ 45 ∷ []) None c.in_err-middle.ensures.cases))

pub returns-in_err-before : goal.returns-in_err-before
returns-in_err-before c =
    let none : c.from_residual-in_err-before.result ≡ None = search rules in
    rw none (unparted_none _ c.in_ok-middle.middle.now (framed _ c.in_ok-rest.rest.now _ (strip_prefix_is Decides-eqb _ (99 ∷ 113 ∷ 101 ∷ 32 ∷ []) (Some c.in_ok-rest.rest) c.in_ok-rest.ensures.cases) (strip_suffix_is Decides-eqb _ (32 ∷ 45 ∷ []) (Some c.in_ok-middle.middle) c.in_ok-middle.ensures.cases)) c.in_err-before.ensures)

pub returns-in_err-user_data : goal.returns-in_err-user_data
returns-in_err-user_data c =
    let none : c.from_residual-in_err-user_data.result ≡ None = search rules in
    rw none (number_none _ _ _ _ (framed _ c.in_ok-rest.rest.now _ (strip_prefix_is Decides-eqb _ (99 ∷ 113 ∷ 101 ∷ 32 ∷ []) (Some c.in_ok-rest.rest) c.in_ok-rest.ensures.cases) (strip_suffix_is Decides-eqb _ (32 ∷ 45 ∷ []) (Some c.in_ok-middle.middle) c.in_ok-middle.ensures.cases)) c.in_ok-before.ensures c.in_err-user_data.ensures.spells)

pub returns-in_err-res : goal.returns-in_err-res
returns-in_err-res c =
    let none : c.from_residual-in_err-res.result ≡ None = search rules in
    rw none (result_none _ _ _ _ (framed _ c.in_ok-rest.rest.now _ (strip_prefix_is Decides-eqb _ (99 ∷ 113 ∷ 101 ∷ 32 ∷ []) (Some c.in_ok-rest.rest) c.in_ok-rest.ensures.cases) (strip_suffix_is Decides-eqb _ (32 ∷ 45 ∷ []) (Some c.in_ok-middle.middle) c.in_ok-middle.ensures.cases)) c.in_ok-before.ensures c.in_err-res.ensures.spells)

pub returns : goal.returns
returns c =
    let is : c.new.result ≡ record { user_data = c.in_ok-user_data.user_data; res = c.in_ok-res.res; payload = no_bytes } = search rules in
    rw is (completion_read _ _ _ _ c.in_ok-user_data.user_data c.in_ok-res.res (framed _ c.in_ok-rest.rest.now _ (strip_prefix_is Decides-eqb _ (99 ∷ 113 ∷ 101 ∷ 32 ∷ []) (Some c.in_ok-rest.rest) c.in_ok-rest.ensures.cases) (strip_suffix_is Decides-eqb _ (32 ∷ 45 ∷ []) (Some c.in_ok-middle.middle) c.in_ok-middle.ensures.cases)) c.in_ok-before.ensures c.in_ok-user_data.ensures.spells c.in_ok-res.ensures.spells)
