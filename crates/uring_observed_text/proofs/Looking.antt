-- What a line shows, by what was made of it.
use Rattle.std.proofs.Common.{ℕ, List, ◌∷◌, sym, subst}
use Rattle.uring_observed_text.proofs.Common.{Core, FitsApart, History, IsNoRecord, IsOnly, IsRecord, IsSeenAs, IsSight, IsSightOfNone, Shows, Sight, Step, submitted, text_of}
use Rattle.uring_observed_text.specs.declared.sight.Sight.TheVariants as sight

-- a line that is no step with an answer
pub none_looked : (core : Core) (seen : History) (line : List ℕ) (x : Sight) → IsNoRecord line
    → IsSightOfNone line x → FitsApart core (submitted seen) → IsSight core seen line x
none_looked core seen line sight.Passed none so fits = ((none, so), fits)
none_looked core seen line sight.Bad none so fits = (none, so)
none_looked core seen line (sight.Shown s a) none so fits = absurd so
none_looked core seen line sight.Wrong none so fits = absurd so
none_looked core seen line sight.Hidden none so fits = absurd so

-- a line that is a step with the text of an answer
pub step_looked : (core : Core) (seen : History) (line text : List ℕ) (s : Step) (x : Sight)
    → IsRecord line s text → IsSeenAs core seen s text x → IsSight core seen line x
step_looked core seen line text s (sight.Shown t a) is so =
    let rec : IsRecord line s (text_of a) = subst (λ (l : List ℕ). IsRecord line s l) (sym so.1) is in
    let only : IsOnly core.setup seen s (text_of a) a = subst (λ (l : List ℕ). IsOnly core.setup seen s l a) (sym so.1) so.4 in
    let shows : Shows line (s, a) = record { text = rec; seen = so.2; bare = so.3 } in
    subst (λ (u : Step). Shows line (u, a) × IsOnly core.setup seen u (text_of a) a × FitsApart core (submitted ((u, a) ∷ seen))) (sym so.0)
    (shows, only, so.5)
step_looked core seen line text s sight.Wrong is so = (s, text, is, so)
step_looked core seen line text s sight.Hidden is so = (s, text, is, so)
step_looked core seen line text s sight.Passed is so = absurd so
step_looked core seen line text s sight.Bad is so = absurd so
