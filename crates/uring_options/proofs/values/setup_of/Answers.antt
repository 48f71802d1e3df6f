use Rattle.std.proofs.Common.{◌≤◌, ℕ, List, Option, arith}
use Rattle.uring_options.proofs.Common.{Gives, GivesNumbers, IfErr-weaker, IfOk-weaker, IsWithin, Row, TakesOption, TakesOptions, Text, codes, found_of, number, rows_of, setup_options}
use Rattle.uring_options.proofs.values.setup_of.Goals as goal

-- the number was read of the option of this name
abbrev Reads : List Row → Text → Option ℕ → Type 0
Reads rows id n = (low high : ℕ) → high ≤ 4294967295 → TakesOption rows (number id low high)
    → Gives rows id n × IsWithin low high n

all_given : (rows : List Row) (sq cq files start : Option ℕ) → TakesOptions rows setup_options
    → Reads rows (codes "sq") sq → Reads rows (codes "cq") cq → Reads rows (codes "files") files
    → Reads rows (codes "start") start
    → GivesNumbers rows (record { sq = sq; cq = cq; files = files; start = start })
all_given rows sq cq files start takes a b c d =
    let s = a 1 4096 (omega arith) takes.0 in
    let t = b 1 8192 (omega arith) takes.1.0 in
    let u = c 1 64 (omega arith) takes.1.1.0 in
    let v = d 0 4294967295 (omega arith) takes.1.1.1.0 in
    record { sq = s.0; cq = t.0; files = u.0; start = v.0; in_range = record { sq = s.1; cq = t.1; files = u.1; start = v.1 } }

pub setup_over-requires : goal.setup_over-requires
setup_over-requires c =
    (all_given (rows_of (found_of c.args.matches.now)) _ _ _ _ c.requires c.given_number-sq.ensures c.given_number-cq.ensures c.given_number-files.ensures c.given_number-start.ensures).in_range

pub returns : goal.returns
returns c =
    let gives = all_given (rows_of (found_of c.args.matches.now)) _ _ _ _ c.requires c.given_number-sq.ensures c.given_number-cq.ensures c.given_number-files.ensures c.given_number-start.ensures in
    record { ok = IfOk-weaker c.setup_over.result _ _ (λ s over. (_, gives, over)) c.setup_over.ensures.ok; err = IfErr-weaker c.setup_over.result _ _ (λ e small. (small.0, (_, gives, small.1))) c.setup_over.ensures.err }
