use Rattle.std.proofs.Common.{◌++◌, arith, pos, refl, ap, ◌∙◌}
use Rattle.uring_litmus.proofs.Common.{file_of, files_texts, take_all, texts_of}
use Rattle.uring_litmus.proofs.Texts.{one_more}
use Rattle.uring_litmus.proofs.FileTexts.{file_more, all_taken, one_file}
use Rattle.uring_litmus.proofs.parts.add_files.Goals as goal

pub returns-in_default-clause-parts : goal.returns-in_default-clause-parts
returns-in_default-clause-parts g c = all_taken c.args.files.now c.loop-fd.fd _ _ c.in_default.ensures c.loop-fd.invariant

pub loop-fd-preserved : goal.loop-fd-preserved
loop-fd-preserved g c =
    let file = file_of c.args.files.now (pos c.loop-fd.fd) in
    file_more c.args.files.now c.loop-fd.fd file _ _ _ refl c.loop-fd.invariant
    (one_file file c.loop-fd.fd c.in-Some.state c.in_ok-bytes.bytes.items _ _ _ c.in-Some.ensures c.in_ok-bytes.ensures.bytes (rw c.as_slice.ensures.value at c.in_ok-text.ensures.text) (ap texts_of c.in_ok-push.ensures.items ∙ one_more c.loop-fd.parts.items c.in_ok-text.text))

pub returns-clause-parts : goal.returns-clause-parts
returns-clause-parts g c =
    c.loop-fd.invariant ∙ ap (λ l. texts_of c.args.parts.now.items ++ files_texts 0 l) (take_all c.loop-fd.fd c.args.files.now (omega arith))
