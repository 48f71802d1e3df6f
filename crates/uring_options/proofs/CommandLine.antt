-- What the words ask for, as clap's matches say.
use Rattle.std.proofs.Common.{◌≡◌, arith, Bool, List, Option, ap, ap₂, subst}
use Rattle.uring_options.proofs.Common.{HasMatchesOf, IsGiven, IsPlayedOver, IsSetupOver, IsTracedOver, Numbers, Row, Setup, Text, codes, option_map, subcommand_of, subcommand_rows_of, uring}
use Rattle.clap.specs.Matches.{subcommand_name_of}
use Rattle.clap.specs.declared.parser.matches.ArgMatches.{ArgMatches}
use Rattle.uring_options.proofs.CommandOptions.{uring_is_simple}

-- ---- the command

-- what clap's matches have of a command is what the words name
pub named_by : (m : ArgMatches) (words : List Text) (o : Option (Text × List Row))
    → HasMatchesOf uring words m → option_map (λ p. p.0) o ≡ subcommand_name_of m
    → option_map (λ p. p.1) o ≡ option_map (λ p. p.1) (subcommand_rows_of m)
    → o ≡ subcommand_of uring words
named_by m words o has name rows = grind (arith, (has uring_is_simple).1, (subcommand_rows_of m))

-- ---- what is asked for over a set-up

-- the set-up of numbers, whose calls stop and whose rules are Linux's if that is asked for
pub traced_over : (rows : List Row) (n : Numbers) (s t : Setup) → IsSetupOver n s
    → (stops linux : Bool) → IsGiven rows (codes "stop") stops → IsGiven rows (codes "linux") linux
    → t ≡ record s { stops = stops; linux = linux } → IsTracedOver rows n t
traced_over rows n s t over stops linux stop given is =
    rw is (subst (IsSetupOver n) (ap₂ (λ stops linux. record s { stops = stops; linux = linux }) over.goes_on over.manual) over, (stop, given))

pub played_setup : (rows : List Row) (n : Numbers) (s t : Setup) → IsSetupOver n s → (linux : Bool)
    → IsGiven rows (codes "linux") linux → t ≡ record s { linux = linux } → IsPlayedOver rows n t
played_setup rows n s t over linux given is =
    rw is (subst (IsSetupOver n) (ap (λ b. record s { linux = b }) over.manual) over, given)
