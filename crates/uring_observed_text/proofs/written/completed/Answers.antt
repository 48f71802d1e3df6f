use Rattle.std.proofs.Common.{◌≡◌, ◌++◌, ℕ, List, Some, None, ap, subst, ◌∙◌, rules}
use Rattle.std.proofs.lemmas.Bool.Decides.{Decides-eqb}
use Rattle.uring_observed_text.proofs.Common.{front_of, strip_prefix_is}
use Rattle.uring_observed_text.proofs.WrittenCompletions.{completes_padded, data_none, front_none}
use Rattle.uring_observed_text.proofs.written.completed.Goals as goal

pub returns-in_default-clause-completed : goal.returns-in_default-clause-completed
returns-in_default-clause-completed g c =
    let front : c.as_bytes.result.now ≡ front_of c.args.completion.now = c.as_bytes.ensures.value ∙ c.in_ok-push_front.ensures.bytes ∙ ap (λ (l : List ℕ). l ++ front_of c.args.completion.now) c.new-front.ensures.bytes in
    front_none c.args.completion.now c.args.text.now (subst (λ (l : List ℕ). (rest : List ℕ) → c.args.text.now ≡ l ++ rest → ⊥) front (strip_prefix_is Decides-eqb _ c.as_bytes.result.now None c.in_default.ensures.cases))

pub returns-in_default-payload_of-clause-completed : goal.returns-in_default-payload_of-clause-completed
returns-in_default-payload_of-clause-completed g c =
    let front : c.as_bytes.result.now ≡ front_of c.args.completion.now = c.as_bytes.ensures.value ∙ c.in_ok-push_front.ensures.bytes ∙ ap (λ (l : List ℕ). l ++ front_of c.args.completion.now) c.new-front.ensures.bytes in
    data_none c.args.completion.now c.args.text.now c.in-Some.token.now (strip_prefix_is Decides-eqb _ c.as_bytes.result.now (Some c.in-Some.token) c.in-Some.ensures.cases ∙ ap (λ (l : List ℕ). l ++ c.in-Some.token.now) front) c.in_default-payload_of.ensures

pub returns-clause-completed : goal.returns-clause-completed
returns-clause-completed g c =
    let front : c.as_bytes.result.now ≡ front_of c.args.completion.now = c.as_bytes.ensures.value ∙ c.in_ok-push_front.ensures.bytes ∙ ap (λ (l : List ℕ). l ++ front_of c.args.completion.now) c.new-front.ensures.bytes in
    let is : c.new.result ≡ record { user_data = c.args.completion.now.user_data; res = c.args.completion.now.res; payload = c.in-Some-payload_of.payload } = search rules in
    completes_padded c.args.completion.now c.new.result c.args.text.now c.in-Some.token.now c.in-Some-payload_of.payload (strip_prefix_is Decides-eqb _ c.as_bytes.result.now (Some c.in-Some.token) c.in-Some.ensures.cases ∙ ap (λ (l : List ℕ). l ++ c.in-Some.token.now) front) c.in-Some-payload_of.ensures is
