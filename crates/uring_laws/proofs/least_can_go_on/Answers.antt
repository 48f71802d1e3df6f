use Rattle.std.proofs.Common.{◌≡◌, ℕ, true}
use Rattle.uring_laws.proofs.Common.{LeastCanGoOn, World, is_outstanding, of_manual, world}
use Rattle.uring_laws.proofs.RequestLaws.{least_goes_on}
use Rattle.uring_laws.proofs.least_can_go_on.Goals as goal

pub returns : goal.returns
returns c = λ g manual h n outstanding. of_manual (λ g. (w : World) (n : ℕ) → is_outstanding w.requests n ≡ true → LeastCanGoOn g w) least_goes_on g manual (world g h) n outstanding
