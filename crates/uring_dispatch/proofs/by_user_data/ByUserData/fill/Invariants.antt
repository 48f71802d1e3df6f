use Rattle.std.proofs.Common.{◌≡◌}
use Rattle.uring_dispatch.specs.ByUserData.{AreFound, KeepsPlaces}
use Rattle.uring_dispatch.proofs.by_user_data.ByUserData.fill.Given as goal

abbrev pub invariant-loop-n : goal.invariant-loop-n
invariant-loop-n l =
    record {
      found : AreFound l.window l.self;
      stop : l.self.stop ≡ l.n;
      places : KeepsPlaces l.initial.self l.self;
    }
