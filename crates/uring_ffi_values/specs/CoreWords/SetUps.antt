-- The set-up that words ask for.
use Rattle.std.specs.Prelude.{◌≡◌, ℕ, ◌≤◌, true, false, Option, Some, None, if◌then◌else◌}
use Rattle.std.specs.Int.{IsNextPowerOfTwo}
use Rattle.uring_entry.specs.Setup.{Setup, IsSetupFor, IsBadSq, IsBadCq, IsBadFiles}
use Rattle.uring_ffi_values.specs.declared.core_words.set_up_words.SetupWords.{SetupWords}

-- the entries of the completion ring, if they are asked for
abbrev pub asked_cq : SetupWords → Option ℕ
asked_cq w = if w.has_cq then Some w.cq else None

-- this is the set-up that the words ask for: that of its numbers, whose calls stop and whose rules are Linux's if that is asked for
abbrev pub IsAskedFor : SetupWords → Setup → Type 0
IsAskedFor w s =
    IsSetupFor w.sq (asked_cq w) w.files w.start (record s { stops = false; linux = false }) × (s.stops ≡ w.stops) × (s.linux ≡ w.linux)

-- the words ask for no set-up: a number is out of its range
abbrev pub IsRefused : SetupWords → Type 0
IsRefused w = (s : Setup) → IsAskedFor w s → ⊥

-- the words of a core, which has no files: how many are asked for doesn't count
abbrev pub without_files : SetupWords → SetupWords
without_files w = record w { files = 1 }

-- the words of a core with these sizes, both asked for, and by these rules, whose calls go on. Our own rule
abbrev pub words_of_setup : Setup → SetupWords
words_of_setup s = record {
  sq = s.sq;
  cq = s.cq;
  files = 1;
  start = 0;
  has_cq = true;
  stops = false;
  linux = s.linux;
}

-- this is as many elements as either ring has entries, and as there are files, if the words ask for a set-up. Our own rule
abbrev pub SufficesFor : SetupWords → ℕ → Type 0
SufficesFor w n = (s : Setup) → IsAskedFor w s → (s.sq ≤ n) × (s.cq ≤ n) × (s.files ≤ n)

-- What is wrong with the words of a machine: the first of these three that is. Our own rule.

-- the submission ring is out of its limits
abbrev pub HasBadSq : SetupWords → Type 0
HasBadSq w = IsBadSq w.sq

-- the completion ring is, beside a submission ring that isn't
abbrev pub HasBadCq : SetupWords → Type 0
HasBadCq w = (HasBadSq w → ⊥) × ((p : ℕ) → IsNextPowerOfTwo w.sq p → IsBadCq p (asked_cq w))

-- the number of files is, and neither ring
abbrev pub HasBadFiles : SetupWords → Type 0
HasBadFiles w =
    (HasBadSq w → ⊥) × ((p : ℕ) → IsNextPowerOfTwo w.sq p → IsBadCq p (asked_cq w) → ⊥) × IsBadFiles w.files
