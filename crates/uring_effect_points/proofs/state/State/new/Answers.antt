use Rattle.std.proofs.Common.{ap, map, ◌∙◌}
use Rattle.uring_effect_points.proofs.Common.{FileContents, Running, empty_files, plain}
use Rattle.std.proofs.Common.{List}
use Rattle.uring_effect_points.proofs.Plain.{plain_new}
use Rattle.uring_effect_points.proofs.state.State.new.Goals as goal

pub returns-clause-first : goal.returns-clause-first
returns-clause-first g c =
    ap (λ (fs : List FileContents). record { standing = record { files = fs; running = c.new.result.items }; place = 0 }) (ap (map plain) c.in_ok-files.ensures.ok ∙ plain_new c.args.count)
    ∙ ap (λ (rs : List Running). record { standing = record { files = empty_files c.args.count; running = rs }; place = 0 }) c.new.ensures.items
