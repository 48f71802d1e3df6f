-- What is kept of a group whose first buffers are gone.
use Rattle.std.proofs.Common.{◌≡◌, ℕ, ◌+◌, ◌-◌, ◌<◌, ◌≤◌, slice_index_or, List, ◌∷◌, ◌∙◌, ap, arith}
use Rattle.uring_register.specs.declared.buffers.group.Group.{Group}
use Rattle.uring_register.specs.declared.buffers.group.Buffer.{Buffer}
use Rattle.uring_register.specs.Buffers.Provided.{Change, KeepsGroup, is_there, entries, taken, gone, provided, nth, nothing}

-- of the n-th that is left, where so many are gone
next_rows : (log : List Change) (g : Group) (rows : List Buffer) (n i : ℕ) → KeepsGroup log g rows
    → i < g.count - n → slice_index_or rows (g.first + n + i) nothing ≡ nth log (gone log + n + i)
next_rows log g rows n i keeps low =
    let is : slice_index_or rows (g.first + (n + i)) nothing ≡ nth log (gone log + (n + i)) = keeps.buffers (n + i) (omega (arith, low)) in
    let at : g.first + n + i ≡ g.first + (n + i) = omega arith in
    let from : gone log + (n + i) ≡ gone log + n + i = omega arith in
    ap (λ p. slice_index_or rows p nothing) at ∙ is ∙ ap (λ p. nth log p) from

-- what a change has to do so that it is one of these
pub record Drops (next : Change) (log : List Change) (n : ℕ) : Type 0 where
  pub there : is_there (next ∷ log) ≡ is_there log
  pub entries : entries (next ∷ log) ≡ entries log
  pub head : taken (next ∷ log) ≡ taken log
  pub more : gone (next ∷ log) ≡ gone log + n
  pub provided : provided (next ∷ log) ≡ provided log
  pub same : (i : ℕ) → nth (next ∷ log) i ≡ nth log i

pub dropped : (next : Change) (log : List Change) (g : Group) (rows : List Buffer) (n : ℕ)
    → KeepsGroup log g rows → n ≤ g.count → Drops next log n
    → KeepsGroup (next ∷ log) (record g { first = g.first + n; count = g.count - n }) rows
dropped next log g rows n keeps low drops = grind (arith, next_rows)
