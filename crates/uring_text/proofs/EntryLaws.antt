-- A form has one entry.
use Rattle.std.proofs.Common.{◌≡◌, ℕ, List, drop, sym, ◌∙◌}
use Rattle.uring_text.proofs.Common.{Form, HasData, IsEntryNamed, IsEntryOf, Name, Parts, Sqe, take-append-drop}
use Rattle.uring_entry.proofs.CompletionWords.{same_words}
use Rattle.uring_text.specs.declared.forms.Name.TheVariants as name

-- the first eight words, and the bytes of the others
data_once : (a b first bytes : List ℕ) → HasData a first bytes → HasData b first bytes → a ≡ b
data_once a b first bytes h k =
    let after : drop 8 a ≡ drop 8 b = same_words (drop 8 a) (drop 8 b) h.rest k.rest (h.payload ∙ sym k.payload) in
    cc (take-append-drop 8 a, take-append-drop 8 b)

named_once : (n : Name) (p : Parts) (a b : Sqe) → IsEntryNamed n p a → IsEntryNamed n p b → a ≡ b
named_once name.Write p a b h k = data_once a b _ p.bytes h k
named_once name.Raw p a b h k = same_words a b h.words k.words (h.all ∙ sym k.all)
named_once _ p a b h k = h ∙ sym k

pub entry_once : (f : Form) (a b : Sqe) → IsEntryOf f a → IsEntryOf f b → a ≡ b
entry_once f a b h k = named_once f.name f.parts a b h k
