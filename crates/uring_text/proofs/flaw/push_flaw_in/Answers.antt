use Rattle.std.proofs.Common.{◌≡◌, ◌++◌, ℕ, List, drop, ap, sym, ◌∙◌, append_assoc, rules}
use Rattle.std.specs.Borrow.{Bor}
use Rattle.std.specs.Fmt.{decimal}
use Rattle.std.proofs.lemmas.Result.{on_ok_weaker}
use Rattle.uring_text.specs.Flaws.{found_text}
use Rattle.uring_text.specs.Places.{place_text}
use Rattle.uring_text.proofs.Common.{codes, drop-map, stop_text, string_bytes}
use Rattle.uring_text.proofs.Cutting.{words}
use Rattle.uring_text.proofs.flaw.push_flaw_in.Goals as goal

-- what is appended in five parts
five_parts : (old a b c d new wanted : List ℕ) (n m : ℕ) (left rest : List (List ℕ)) → n ≡ m → left ≡ rest
    → a ≡ old ++ codes "column " ++ decimal n → b ≡ a ++ codes ": " → c ≡ b ++ found_text left
    → d ≡ c ++ codes ", wanted: " → new ≡ d ++ wanted
    → new ≡ old ++ (stop_text m rest ++ (codes ", wanted: " ++ wanted))
five_parts old a b c d new wanted n m left rest same_n same a_is b_is c_is d_is new_is =
    simp (new_is, d_is, c_is, b_is, a_is, same_n, same, append_assoc)

pub returns-clause-bytes : goal.returns-clause-bytes
returns-clause-bytes g c =
    let tokens = c.args.tokens.now in
    let place = c.args.reach.tokens in
    let split : c.split_at.result.1.now ≡ drop place tokens = search rules in
    let same : words c.split_at.result.1.now ≡ drop place (words tokens) = ap words split ∙ sym (drop-map (λ (token : Bor (List ℕ)). token.now) place tokens) in
    on_ok_weaker c.push_text-3.result
    (λ e. five_parts (string_bytes c.args.text.now) (string_bytes c.push_named.new.text) (string_bytes c.push_text.new.text) (string_bytes c.push_found.new.text) (string_bytes c.push_text-2.new.text) (string_bytes c.push_text-3.new.text) (place_text c.args.reach.wanted) c.column_after-column.result _ (words c.split_at.result.1.now) (drop place (words tokens)) c.column_after-column.ensures same c.in_ok-push_named.ensures.bytes c.in_ok-push_text.ensures.bytes c.in_ok-push_found.ensures.bytes c.in_ok-push_text-2.ensures.bytes (e ∙ ap (λ (t : List ℕ). string_bytes c.push_text-2.new.text ++ t) c.place_text.ensures))
    c.push_text-3.ensures.bytes
