use Rattle.std.proofs.Common.{None, refl, inl, ap₂, Bool, false, []}
use Rattle.uring_options.specs.CommandLine.{Numbers, GivesNumbers}
use Rattle.uring_options.proofs.CommandLine.{traced_over}
use Rattle.uring_options.proofs.command_line.defaulted.Goals as goal

pub returns : goal.returns
returns c =
    let none : Numbers = record { sq = None; cq = None; files = None; start = None } in
    let gives : GivesNumbers [] none = record { sq = refl; cq = refl; files = refl; start = refl; in_range = record { sq = tt; cq = tt; files = tt; start = tt } } in
    let setup = c.in_ok-setup_over.field-0 in
    let over = c.in_ok-setup_over.ensures.ok in
    (none, gives, (refl, traced_over [] none setup setup over false false (inl refl) (inl refl) (ap₂ (λ (b d : Bool). record setup { stops = b; linux = d }) over.goes_on over.manual), inl refl, inl refl))
