use Rattle.std.proofs.Common.{[], Some, refl}
use Rattle.uring_check.specs.Rules.{Rules}
use Rattle.uring_check.proofs.checker.Checker.new.Goals as goal

pub returns-clause-looks : goal.returns-clause-looks
returns-clause-looks g c = record {
  rules = let g : Rules = record { setup = c.args.setup.now; ends = c.args.ends } in Some g;
  ruled = refl;
  looked = record {
    found = [];
    are = tt;
    lines_are = refl;
    is_all = refl;
    same = c.in_ok-new.ensures.rules;
    fits = (c.in_ok-new.ensures.fits, c.new-2.ensures.items);
    numbered = refl;
    counted = refl;
    decided = refl;
    stopped = refl;
    told = c.new-3.ensures.bytes;
  };
  awaits = refl;
}
