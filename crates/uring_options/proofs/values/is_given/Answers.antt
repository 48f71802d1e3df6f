use Rattle.clap.specs.Words.{found_of}
use Rattle.uring_options.proofs.OptionTexts.{flag_given}
use Rattle.uring_options.proofs.values.is_given.Goals as goal

pub returns : goal.returns
returns c = flag_given (found_of c.args.matches.now) c.args.id.now c.get_flag.result c.get_flag.ensures.none c.get_flag.ensures.value c.get_flag.ensures.other c.requires
