-- A line of the list of memory is read as it is written.
use Rattle.std.proofs.Common.{◌≡◌, ℕ, zero, suc, ◌+◌, ◌≤◌, Bool, true, false, not, ◌==◌, nat_lt, List, [], ◌∷◌, ◌++◌, length, take, drop, refl, sym, ap, ◌∙◌, append_assoc, arith}
use Rattle.std.specs.Prelude.{slice_get, replicate}
use Rattle.std.specs.List.{AllByRecursion, list_all, position_or_len, before_first, after_first}
use Rattle.std.specs.Option.{unwrap_or}
use Rattle.std.proofs.lemmas.Bool.{and_parts}
use Rattle.std.proofs.lemmas.List.Elements.{All-from_recursion}
use Rattle.std.proofs.lemmas.List.Splits.{slice_split_at}
use Rattle.uring_register.specs.KernelLists.Texts.{digit_value, is_number, first_word, after_word, blanks_of, part_of}
use Rattle.uring_register.specs.KernelLists.Mapped.{Fields, AreFields, IsReadSo, begins_with, line_of}

abbrev HasNo : (byte : ℕ) → List ℕ → Type 0
HasNo byte text = AllByRecursion (λ other. (other == byte) ≡ false) text

-- ---- what stands before a byte, and after it

first_at : (p : ℕ → Bool) (xs : List ℕ) (y : ℕ) (ys : List ℕ) → AllByRecursion (λ x. p x ≡ false) xs → p y ≡ true
    → position_or_len p (xs ++ y ∷ ys) ≡ length xs
first_at p [] y ys none is = rw is refl
first_at p (x ∷ xs) y ys none is = grind (arith, (first_at p xs y ys none.1 is))

take_front : (xs ys : List ℕ) → take (length xs) (xs ++ ys) ≡ xs
take_front [] ys = refl
take_front (x ∷ xs) ys = ap (λ (l : List ℕ). x ∷ l) (take_front xs ys)

drop_front : (xs ys : List ℕ) → drop (length xs) (xs ++ ys) ≡ ys
drop_front [] ys = refl
drop_front (x ∷ xs) ys = drop_front xs ys

drop_past : (xs : List ℕ) (y : ℕ) (ys : List ℕ) → drop (length xs + 1) (xs ++ y ∷ ys) ≡ ys
drop_past [] y ys = refl
drop_past (x ∷ xs) y ys = grind (arith, (drop_past xs y ys))

before_byte : (byte : ℕ) (xs ys : List ℕ) → HasNo byte xs → (byte == byte) ≡ true
    → before_first (λ other. other == byte) (xs ++ byte ∷ ys) ≡ xs
before_byte byte xs ys none is = grind (arith, first_at, take_front)

after_byte : (byte : ℕ) (xs ys : List ℕ) → HasNo byte xs → (byte == byte) ≡ true
    → after_first (λ other. other == byte) (xs ++ byte ∷ ys) ≡ ys
after_byte byte xs ys none is = grind (arith, first_at, drop_past)

-- ---- words

blanks_before : (n : ℕ) (text : List ℕ) → begins_with 32 text ≡ false → blanks_of (replicate n 32 ++ text) ≡ n
blanks_before zero [] not_blank = refl
blanks_before zero (x ∷ text) not_blank = rw not_blank refl
blanks_before (suc n) text not_blank = grind (arith, (blanks_before n text not_blank))

drop_blanks : (n : ℕ) (text : List ℕ) → drop n (replicate n 32 ++ text) ≡ text
drop_blanks zero text = refl
drop_blanks (suc n) text = drop_blanks n text

word_first : (word rest : List ℕ) → HasNo 32 word → first_word (word ++ 32 ∷ rest) ≡ word
word_first word rest none = before_byte 32 word rest none refl

word_after : (word : List ℕ) (n : ℕ) (text : List ℕ) → HasNo 32 word → begins_with 32 text ≡ false
    → after_word (word ++ 32 ∷ (replicate n 32 ++ text)) ≡ text
word_after word n text none not_blank =
    grind (arith, (drop_front word (32 ∷ (replicate n 32 ++ text))), (blanks_before (suc n) text not_blank), (drop_blanks (suc n) text), first_at)

-- ---- numbers

no_such_digit : (base byte : ℕ) (digit : ℕ) → base ≤ digit_value byte → nat_lt (digit_value digit) base ≡ true
    → (digit == byte) ≡ false
no_such_digit base byte digit le lt = grind arith

no_byte_of : (base byte : ℕ) (digits : List ℕ) → base ≤ digit_value byte
    → list_all (λ digit. nat_lt (digit_value digit) base) digits ≡ true → HasNo byte digits
no_byte_of base byte [] le all = tt
no_byte_of base byte (digit ∷ digits) le all =
    let parts = and_parts (nat_lt (digit_value digit) base) (list_all (λ digit. nat_lt (digit_value digit) base) digits) all in
    (no_such_digit base byte digit le parts.0, no_byte_of base byte digits le parts.1)

number_without : (base byte : ℕ) (digits : List ℕ) → base ≤ digit_value byte → is_number base digits ≡ true → HasNo byte digits
number_without base byte digits le is = no_byte_of base byte digits le (and_parts (not (length digits == 0)) _ is).1

-- a number begins with no blank, whatever follows
number_begins : (base : ℕ) (digits more : List ℕ) → base ≤ digit_value 32 → is_number base digits ≡ true
    → begins_with 32 (digits ++ more) ≡ false
number_begins base [] more le is = absurd (let no : false ≡ true = is in cc)
number_begins base (digit ∷ digits) more le is = (number_without base 32 (digit ∷ digits) le is).0

rights_begin : (rights more : List ℕ) → HasNo 32 rights → length rights ≡ 4 → begins_with 32 (rights ++ more) ≡ false
rights_begin [] more none four = absurd (omega arith)
rights_begin (right ∷ rights) more none four = none.0

both_without : (byte : ℕ) (xs ys : List ℕ) → HasNo byte xs → HasNo byte ys → HasNo byte (xs ++ ys)
both_without byte [] ys one other = other
both_without byte (x ∷ xs) ys one other = (one.0, both_without byte xs ys one.1 other)

-- ---- the line

pub read_so : (f : Fields) → AreFields f → IsReadSo f
read_so f are =
    let inode = f.inode ++ 32 ∷ (replicate f.blanks 32 ++ f.path) in
    let device = f.major ++ 58 ∷ f.minor in
    let devices = f.major ++ 58 ∷ (f.minor ++ 32 ∷ inode) in
    let offset = f.offset ++ 32 ∷ devices in
    let rights = f.rights ++ 32 ∷ offset in
    let addresses = f.start ++ 45 ∷ f.end in
    let start_blank = number_without 16 32 f.start (omega arith) are.start in
    let end_blank = number_without 16 32 f.end (omega arith) are.end in
    let none_in_addresses : HasNo 32 addresses = both_without 32 f.start (45 ∷ f.end) start_blank (refl, end_blank) in
    let none_in_device : HasNo 32 device = both_without 32 f.major (58 ∷ f.minor) (number_without 16 32 f.major (omega arith) are.major) (refl, number_without 16 32 f.minor (omega arith) are.minor) in
    let line : line_of f ≡ addresses ++ 32 ∷ rights = sym (append_assoc f.start (45 ∷ f.end) (32 ∷ rights)) in
    let device_line : devices ≡ device ++ 32 ∷ inode = sym (append_assoc f.major (58 ∷ f.minor) (32 ∷ inode)) in
    let word : first_word (line_of f) ≡ addresses = ap first_word line ∙ word_first addresses rights none_in_addresses in
    let after_1 : after_word (line_of f) ≡ rights = ap after_word line ∙ word_after addresses 0 rights none_in_addresses (rights_begin f.rights (32 ∷ offset) are.rights are.four) in
    let after_2 : after_word (after_word (line_of f)) ≡ offset = ap after_word after_1 ∙ word_after f.rights 0 offset are.rights (number_begins 16 f.offset (32 ∷ devices) (omega arith) are.offset) in
    let after_3 : after_word (after_word (after_word (line_of f))) ≡ devices = ap after_word after_2 ∙ word_after f.offset 0 devices (number_without 16 32 f.offset (omega arith) are.offset) (number_begins 16 f.major (58 ∷ (f.minor ++ 32 ∷ inode)) (omega arith) are.major) in
    let after_4 : after_word (after_word (after_word (after_word (line_of f)))) ≡ inode = ap after_word (after_3 ∙ device_line) ∙ word_after device 0 inode none_in_device (number_begins 10 f.inode (32 ∷ (replicate f.blanks 32 ++ f.path)) (omega arith) are.inode) in
    record {
      start = ap (λ (w : List ℕ). before_first (λ byte. byte == 45) w) word ∙ before_byte 45 f.start f.end (number_without 16 45 f.start (omega arith) are.start) refl;
      end = ap (λ (w : List ℕ). after_first (λ byte. byte == 45) w) word ∙ after_byte 45 f.start f.end (number_without 16 45 f.start (omega arith) are.start) refl;
      rights = ap first_word after_1 ∙ word_first f.rights offset are.rights;
      major =
          ap (λ (w : List ℕ). part_of (first_word w) 0) (after_3 ∙ device_line)
          ∙ ap (λ (w : List ℕ). part_of w 0) (word_first device inode none_in_device)
          ∙ ap (λ (parts : List (List ℕ)). unwrap_or (slice_get parts 0) []) (slice_split_at (λ byte. byte == 58) f.major 58 f.minor (All-from_recursion (λ other. (other == 58) ≡ false) f.major (number_without 16 58 f.major (omega arith) are.major)) refl);
      offset = ap first_word after_2 ∙ word_first f.offset devices (number_without 16 32 f.offset (omega arith) are.offset);
      inode = ap first_word after_4 ∙ word_first f.inode (replicate f.blanks 32 ++ f.path) (number_without 10 32 f.inode (omega arith) are.inode);
      path = ap after_word after_4 ∙ word_after f.inode f.blanks f.path (number_without 10 32 f.inode (omega arith) are.inode) are.path;
    }
