-- Which polls are to find that what they had heard of is gone. Our own rules.
use Rattle.std.specs.Prelude.{Bool, not, Option, Some, None, if◌then◌else◌}
use Rattle.uring_enter.specs.declared.waiting.missed.Gone.{Gone}
use Rattle.uring_enter.specs.declared.waiting.missed.Gone.TheVariants.{No, Asks, Yes}

abbrev pub gone_by : Option Bool → Gone
gone_by None = Asks
gone_by (Some is_there) = if is_there then No else Yes

-- of a poll that has heard of a write nobody knows until it is asked whether what was written is there still. It is asked of no other
abbrev pub gone : (has_heard : Bool) → Option Bool → Gone
gone has_heard known = if not has_heard then No else gone_by known
