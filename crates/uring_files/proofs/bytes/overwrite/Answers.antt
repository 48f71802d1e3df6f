use Rattle.std.proofs.Common.{rules}
use Rattle.uring_files.proofs.Overwrites.{filled_and_replaced}
use Rattle.uring_files.proofs.bytes.overwrite.Goals as goal

pub returns-clause-ok : goal.returns-clause-ok
returns-clause-ok g c =
    filled_and_replaced c.args.all.now.items c.resize.new.self.items c.deref_mut.result.now c.replace.new.all c.args.bytes.now c.args.start c.max-size.result c.len.result c.resize.new.self.len
    (search rules) c.requires.some (search rules) (search rules) c.deref_mut.ensures.value c.replace.ensures (search rules) (search rules)
