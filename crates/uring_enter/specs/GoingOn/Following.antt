-- What the end of a request makes of others, and in which order. Our own rules.
use Rattle.std.specs.Prelude.{ℕ, Bool, true, ◌||◌}
use Rattle.uring_enter.specs.declared.going_on.following.AfterEnd.{AfterEnd}

pub data EndDuty : Type 0 where
  KeepsCompletion : EndDuty
  Counts : EndDuty
  StopsTimeout : EndDuty
  LooksAtCounts : EndDuty
  Unwatches : EndDuty
  ForgetsDescriptor : EndDuty
  LooksAfter : EndDuty
  LetsStart : EndDuty
  EndsDrain : EndDuty
  Leaves : EndDuty
  HasEnds : EndDuty

-- they are done by rising places. Its completion is kept first: so it stands before those of all that its end makes of others. It counts for a timeout before that stops, and then it is known which counts are reached; by that, and by the drains that were outstanding with this one, others are looked at again; so it drains until then. It lets its files go last: until then it is known which these are
abbrev pub end_place : EndDuty → ℕ
end_place KeepsCompletion = 0
end_place Counts = 1
end_place StopsTimeout = 2
end_place LooksAtCounts = 3
end_place Unwatches = 4
end_place ForgetsDescriptor = 5
end_place LooksAfter = 6
end_place LetsStart = 7
end_place EndsDrain = 8
end_place Leaves = 9
end_place HasEnds = 10

abbrev pub is_end_due : AfterEnd → EndDuty → Bool
is_end_due d KeepsCompletion = d.keeps_completion
is_end_due d Counts = d.counts
is_end_due d StopsTimeout = d.stops_timeout
is_end_due d LooksAtCounts = d.looks_at_counts
is_end_due d Unwatches = d.unwatches
is_end_due d ForgetsDescriptor = d.forgets_descriptor
is_end_due d LooksAfter = d.looks_after
is_end_due d LetsStart = d.lets_start
is_end_due d EndsDrain = d.ends_drain
is_end_due d Leaves = d.leaves
is_end_due d HasEnds = d.has_ends

-- after each end all of this is done, but that only what was polled for is polled for no more, only of one that may have had to wait for its descriptor anything tells, and only one that drains ends to do so
abbrev pub after_end : (has_file has_instance is_stream is_draining : Bool) → AfterEnd
after_end has_file has_instance is_stream is_draining = record {
  keeps_completion = true;
  counts = true;
  stops_timeout = true;
  looks_at_counts = true;
  unwatches = has_file || has_instance;
  forgets_descriptor = is_stream;
  looks_after = true;
  lets_start = true;
  ends_drain = is_draining;
  leaves = true;
  has_ends = true;
}
