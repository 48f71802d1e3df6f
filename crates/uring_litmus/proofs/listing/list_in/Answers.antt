use Rattle.std.specs.Prelude.{string_bytes}
use Rattle.uring_litmus.proofs.listing.list_in.Goals as goal

pub returns-clause-lists : goal.returns-clause-lists
returns-clause-lists g c = record {
  endings = c.in_ok-found.found.endings.items;
  finding = c.in_ok-found.ensures.found;
  text = string_bytes c.in_ok-text.text;
  list = rw c.as_slice.ensures.value at c.in_ok-text.ensures.text;
  written = rw c.as_str.ensures.value at c.in_ok-write_text.ensures.written;
}
