-- What the cancel of one request finds that a step issues.
use Rattle.std.specs.Prelude.{Bool, Option, None}
use Rattle.uring_linux.specs.LinuxRequests.{LinuxRequests}
use Rattle.uring_rules.specs.Rules.{why_of, found_by}
use Rattle.uring_entry.specs.declared.why.Why.{Why}
use Rattle.uring_entry.specs.declared.why.Why.TheVariants.{MayStart}
use Rattle.uring_dispatch.specs.declared.answers.CancelFound.{CancelFound}
use Rattle.uring_core.specs.declared.step.Step.{Step}
use Rattle.uring_core.specs.declared.step.Step.TheVariants as step

-- what a request finds that stands so, if it may start
abbrev pub found_for : Why → Option CancelFound → Option CancelFound
found_for MayStart found = found
found_for _ found = None

-- of an issue, what the cancel of one request finds that it carries out
abbrev pub found_asked : (is_linux : Bool) → LinuxRequests → Step → Option CancelFound
found_asked is_linux l (step.Issue n) =
    found_for (why_of is_linux l n) (found_by is_linux l.requests n)
found_asked is_linux l _ = None
