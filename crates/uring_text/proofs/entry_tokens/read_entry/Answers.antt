use Rattle.std.proofs.Common.{List, ℕ, map, sym, ap, ◌∙◌}
use Rattle.uring_text.specs.declared.place.TokenKind.{TokenKind}
use Rattle.uring_text.specs.Reading.{parts_of}
use Rattle.uring_text.proofs.PartLaws.{said_fits}
use Rattle.uring_text.proofs.entry_tokens.read_entry.Goals as goal

pub entry-requires : goal.entry-requires
entry-requires c =
    let tokens : List (List ℕ) = map (λ token. token.now) c.in_ok-name.tokens.now in
    said_fits c.in_ok-name-2.name tokens c.in_ok-parts.parts
    (ap (λ (kinds : List TokenKind). parts_of kinds tokens) (sym c.kinds.ensures) ∙ sym c.of-2.ensures ∙ c.in_ok-parts.was)
