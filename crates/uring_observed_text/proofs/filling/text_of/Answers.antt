use Rattle.std.proofs.Common.{List, ℕ, map, sym, ap, subst}
use Rattle.uring_observed_text.specs.Sights.{ArePaired}
use Rattle.uring_observed_text.proofs.HistoryLines.{text_told}
use Rattle.uring_observed_text.proofs.filling.text_of.Goals as goal

pub push_events-requires : goal.push_events-requires
push_events-requires g c = (
  c.args.seen.now.events.items,
  subst (λ (ls : List (List ℕ)). ArePaired ls c.args.seen.now.events.items) (sym (ap (map (λ line. line.now)) c.as_slice.ensures.value)) c.requires.paired,
  c.requires.begins,
)

pub returns-clause-tells : goal.returns-clause-tells
returns-clause-tells g c =
    text_told c.args.setup.now _ _ _ _ c.new-line.ensures.bytes (rw c.into_bytes-text.ensures.value c.in_ok-push_setup_in.ensures.bytes) c.in_ok-push_events.ensures.text
