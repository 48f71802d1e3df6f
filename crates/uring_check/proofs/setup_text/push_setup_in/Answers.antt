use Rattle.std.proofs.Common.{◌≡◌, ◌++◌, List, ℕ, ap₂, ◌∙◌, append_assoc}
use Rattle.uring_check.proofs.Common.{codes, decimal, end_text, on_ok_weaker, string_bytes}
use Rattle.uring_check.proofs.setup_text.push_setup_in.Goals as goal

-- what is appended in five parts, four of a name and a number
five_parts : (old a b c d new u k v l w m x n y z : List ℕ) → a ≡ old ++ u ++ k → b ≡ a ++ v ++ l
    → c ≡ b ++ w ++ m → d ≡ c ++ x ++ n → new ≡ d ++ y → y ≡ z
    → new ≡ old ++ (u ++ k ++ v ++ l ++ w ++ m ++ x ++ n ++ z)
five_parts old a b c d new u k v l w m x n y z e f g h i is = rw (i, is, h, g, f, e) (simp append_assoc)

pub returns-clause-bytes : goal.returns-clause-bytes
returns-clause-bytes g c =
    let g = c.args.setup.now in
    let stop : c.end_of.result.now ≡ end_text g.stops g.linux = c.end_of.ensures ∙ ap₂ end_text c.stops.ensures.value c.is_linux.ensures.value in
    on_ok_weaker c.push_text.result
    (λ last. five_parts (string_bytes c.args.text.now) _ _ _ _ _ (codes "# setup --sq ") (decimal g.sq) (codes " --cq ") (decimal g.cq) (codes " --files ") (decimal g.files) (codes " --start ") (decimal g.start) _ _
    (rw (c.from.ensures, c.sq.ensures.value) at c.in_ok-push_named.ensures.bytes) (rw (c.from-2.ensures, c.cq.ensures.value) at c.in_ok-push_named-2.ensures.bytes) (rw (c.from-3.ensures, c.files.ensures.value) at c.in_ok-push_named-3.ensures.bytes) (rw (c.from-4.ensures, c.start.ensures.value) at c.in_ok-push_named-4.ensures.bytes) last stop)
    c.push_text.ensures.bytes
