use Rattle.uring_options.proofs.command_line.named.Goals as goal

pub explained-requires : goal.explained-requires
explained-requires c = rw c.in-explain.is at c.requires

pub checked-requires : goal.checked-requires
checked-requires c = rw c.in-check.is at c.requires

pub played-requires : goal.played-requires
played-requires c = rw c.in-play.is at c.requires

pub crashed-requires : goal.crashed-requires
crashed-requires c = rw c.in-crash.is at c.requires

pub listed-requires : goal.listed-requires
listed-requires c = rw c.in-outcomes.is at c.requires

pub filled-requires : goal.filled-requires
filled-requires c = rw c.in-fill.is at c.requires

pub traced-requires : goal.traced-requires
traced-requires c = rw c.in-trace.is at c.requires
