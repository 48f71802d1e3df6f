use Rattle.std.proofs.Common.{◌≡◌, ◌≤◌, ◌++◌, drop, true}
use Rattle.std.specs.Prelude.{string_bytes}
use Rattle.uring_pictures.specs.Forms.{form_text, is_told}
use Rattle.uring_pictures.proofs.form_text.push_form.Given as goal

-- what is left of the form and of the values makes what is left of the text
abbrev pub invariant-loop-byte : goal.invariant-loop-byte
invariant-loop-byte g l = record {
  within : l.place ≤ l.byte-index;
  told : is_told l.form l.values ≡ true → is_told (drop l.byte-index l.form) (drop l.place l.values) ≡ true;
  text : is_told l.form l.values ≡ true → string_bytes l.text ++ form_text (drop l.byte-index l.form) (drop l.place l.values) ≡ string_bytes l.initial.text ++ form_text l.form l.values;
}
