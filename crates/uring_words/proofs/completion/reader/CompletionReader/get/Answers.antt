use Rattle.std.proofs.Common.{◌∷◌, sym, ap, ◌∙◌}
use mathlib.Core.List.{map-append}
use Rattle.uring_entry.specs.Layout.{completion_of}
use Rattle.uring_words.specs.Completion.Ends.{End, completions_of}
use Rattle.uring_words.proofs.completion.reader.CompletionReader.get.Goals as goal

pub returns-clause-looked : goal.returns-clause-looked
returns-clause-looked c =
    let more = c.see_tail.ensures.more in
    let got = c.get_one.ensures in
    (completions_of more.0, sym (map-append completion_of c.args.self.now.knows.app.known more.0) ∙ ap completions_of (more.1 ∙ got.known) ∙ ap (λ first. first ∷ completions_of got.others) got.gives ∙ ap (λ (e : End). c.get_one.result ∷ completions_of e.knows.app.known) (sym got.is))
