-- All bytes tell something.
use Rattle.std.proofs.Common.{◌≡◌, ℕ, zero, suc, ◌+◌, ◌*◌, ◌<◌, ◌^◌, eqb, List, [], ◌∷◌, ◌++◌, length, take, drop, get_or, Option, Some, None, Ok, Err, refl, sym, ap, ◌∙◌, append_assoc, arith, length-drop, reverse, ◌⊎◌, inl, inr}
use mathlib.Core.List.{head-eq_of_cons-eq}
use Rattle.uring_play_text.proofs.Common.{AreWords, IsAt, IsBadLine, IsBadWord, IsItemLine, IsNoBadWord, IsNoItem, IsTold, Item, MatchOption, PlayFault, SpellsItem, Sqe, Tells, Told, append-nil, bytes_of, cases_Bool, cases_lt, codes, eqb-false, eqb-true, header, length-take, nil_from_length, one_call, padded, places, reverse-append, take-append-drop, true≢false}
use Rattle.uring_text.specs.Lines.{Splits, with_last}
use Rattle.std.specs.Str.{bytes_eq}
use Rattle.std.specs.Int.{w64, from_le_bytes}
use Rattle.std.proofs.lemmas.List.Elements.{All-from_recursion}
use Rattle.std.proofs.lemmas.Nat.{le_bytes_8}
use Rattle.std.proofs.lemmas.Slice.Eq.{bytes_eq-Decides}
use Rattle.uring_entry.specs.declared.operation.opcode.TheConstants.{WRITE}
use Rattle.uring_text.specs.Tokens.{tokens_of}
use Rattle.uring_text.specs.Spelling.{SpellsNumber, IsNoNumber}
use Rattle.uring_text.specs.Forms.{Form, Parts, kinds_of, SayParts, IsEntryNamed, SpellsEntry, IsNoEntry}
use Rattle.uring_text.specs.declared.forms.Name.{Name}
use Rattle.uring_text.specs.declared.forms.Name.TheVariants as name
use Rattle.uring_text.specs.Reading.{form_of, number_of}
use Rattle.uring_text.proofs.FormLaws.{form_found, form_again}
use Rattle.uring_text.proofs.PartLaws.{data_said, entry_said}
use Rattle.uring_text.proofs.Spellings.{read_number_tells}
use Rattle.uring_text.proofs.Splits.{split_more, split_end}
use Rattle.uring_ports.specs.declared.item.Item.TheVariants as item
use Rattle.uring_play_text.specs.declared.play_fault.PlayFault.TheVariants as fault
use Rattle.uring_play_text.proofs.ItemLaws.{bad_is_none, below}
use Rattle.uring_play_text.proofs.ScriptLaws.{at_start, so_far, blank_more, item_more, reached, long_first, fault_stays}

-- ---- each form has an entry

-- the words that bytes are
words_of : (n : ℕ) (bytes : List ℕ) → length bytes ≡ 8 * n → ((i : ℕ) → get_or bytes i 0 < 256)
    → (ws : List ℕ) × (length ws ≡ n) × AreWords ws × (bytes_of ws ≡ bytes)
words_of zero bytes l s = ([], refl, tt, sym (nil_from_length bytes (omega arith)))
words_of (suc n) bytes l s =
    let small : (i : ℕ) → get_or (take 8 bytes) i 0 < 256 = λ i. grind (arith, places, s i) in
    let rest = words_of n (drop 8 bytes) (omega (arith, length-drop 8 bytes)) (λ i. grind (arith, places, s (8 + i))) in
    (from_le_bytes w64 (take 8 bytes) ∷ rest.0, omega (arith, rest.1), (omega (arith, small 0, small 1, small 2, small 3, small 4, small 5, small 6, small 7), rest.2), cc (le_bytes_8 (take 8 bytes) _ (omega (arith, length-take 8 bytes)) small refl, rest.3, take-append-drop 8 bytes))

-- each form whose tokens say these parts has an entry
entry_of : (n : Name) (tokens : List (List ℕ)) (p : Parts) → SayParts (kinds_of n) tokens p
    → (e : Sqe) × IsEntryNamed n p e
entry_of name.Write tokens p h =
    let are = data_said tokens p h in
    let words = words_of 8 (padded p.bytes) (grind (arith, places, are.enough)) (λ i. grind (arith, places, (All-from_recursion (λ b. b < 256) p.bytes are.each i 0))) in
    (header WRITE p.flags p.fd p.off 0 (length p.bytes) p.user_data ++ words.0, record { size = omega (arith, words.1); first = refl; rest = words.2; payload = words.3 })
entry_of name.Raw tokens p h =
    let are = entry_said tokens p h in
    let words = words_of 16 p.bytes (omega (arith, are.few, are.enough)) (λ i. grind (arith, places, (All-from_recursion (λ b. b < 256) p.bytes are.each i 0))) in
    (words.0, record { size = words.1; words = words.2; all = words.3 })
entry_of _ tokens p h = (_, refl)

-- ---- each line says something

entry_or : (tokens : List (List ℕ)) (f : Option Form) → form_of tokens ≡ f
    → ((e : Sqe) × SpellsEntry tokens e) ⊎ IsNoEntry tokens
entry_or tokens None e = inr (λ entry s. absurd (let no : None ≡ Some s.form = sym e ∙ form_again tokens s.form s.spells in cc))
entry_or tokens (Some f) e = grind (arith, form_found, entry_of)

word_or : (size : ℕ) (token : List ℕ) (n : Option ℕ)
    → MatchOption n (IsNoNumber (2 ^ 32) token) (SpellsNumber (2 ^ 32) token)
    → ((w : ℕ) × IsBadWord size token w) ⊎ IsNoBadWord size token
word_or size token None h = inr (λ w k. h w k.0)
word_or size token (Some n) h = elim (cases_lt n size) [ inl t ↦ inr (below size token n h t) | inr f ↦ inl (n, (h, f)) ]

abbrev IsBadNamed : List (List ℕ) → List ℕ → Type 0
IsBadNamed tokens token = tokens ≡ codes "bad" ∷ token ∷ []

named_or : (tokens : List (List ℕ))
    → ((token : List ℕ) × IsBadNamed tokens token)
    ⊎ ((token : List ℕ) → IsBadNamed tokens token → ⊥)
named_or (t ∷ u ∷ []) =
    elim (cases_Bool (bytes_eq t (codes "bad"))) [
      | inl is ↦ inl (u, ap (λ (l : List ℕ). l ∷ u ∷ []) ((bytes_eq-Decides t (codes "bad")).0 is))
      | inr not ↦ inr (λ token e. absurd (true≢false (sym ((bytes_eq-Decides t (codes "bad")).1 (head-eq_of_cons-eq e)) ∙ not)))
    ]
named_or _ = grind arith

item_or : (size : ℕ) (tokens : List (List ℕ))
    → ((i : Item) × SpellsItem size tokens i) ⊎ IsNoItem size tokens
item_or size tokens =
    elim (named_or tokens) [
      | inl named ↦ elim (word_or size named.0 (number_of (2 ^ 32) named.0) (read_number_tells (2 ^ 32) named.0 (number_of (2 ^ 32) named.0) (omega arith) refl)) [
        | inl w ↦ inl (item.Bad w.0, (named.0, named.1, w.1.0, w.1.1))
        | inr none ↦ inr (bad_is_none size named.0 tokens named.1 none)
      ]
      | inr other ↦ elim (entry_or tokens (form_of tokens) refl) [
        | inl e ↦ inl (item.Entry e.0, e.1)
        | inr none ↦ inr (λ i h. elim i as (λ j. SpellsItem size tokens j → ⊥) [ item.Entry e ↦ none e | item.Bad w ↦ λ k. other k.0 k.1 ] h)
      ]
    ]

line_or : (size : ℕ) (line : List ℕ)
    → (line ≡ []) ⊎ (((i : Item) × IsItemLine size line i) ⊎ IsBadLine size line)
line_or size [] = inl refl
line_or size (b ∷ line) =
    let some : b ∷ line ≡ [] → ⊥ = λ e. absurd cc in
    elim (cases_lt 300 (length (b ∷ line))) [
      | inl long ↦ inr (inr (record { some = some; none = λ i h. omega (arith, long, h.short) }))
      | inr short ↦ elim (item_or size (tokens_of (b ∷ line))) [
        | inl i ↦ inr (inl (i.0, record { short = short; spells = i.1 }))
        | inr none ↦ inr (inr (record { some = some; none = λ i h. none i h.spells }))
      ]
    ]

-- ---- all lines

abbrev Stands : ℕ → List (List ℕ) → Type 0
Stands size lines =
    (f : Option PlayFault) × (n : ℕ) × (calls : List (List Item)) × (call : List Item) × IsAt size lines f n calls call

step : (size : ℕ) (lines : List (List ℕ)) (line : List ℕ) → Stands size lines
    → Stands size (lines ++ line ∷ [])
step size lines line (Some f, n, calls, call, h) = (Some f, n, calls, call, fault_stays size lines line (Some f) n calls call refl h)
step size lines line (None, n, calls, call, h) =
    elim (line_or size line) [
      | inl blank ↦ (None, n + 1, calls ++ one_call call, [], blank_more h line blank)
      | inr (inr bad) ↦ (Some (fault.Line (n + 1)), n, calls, call, (reached h line, bad))
      | inr (inl i) ↦ elim (cases_lt (length call) size) [
        | inl t ↦ (None, n + 1, calls, call ++ i.0 ∷ [], item_more h line i.0 i.1 t)
        | inr f ↦ (Some (fault.Long (n + 1)), n, calls, call, long_first h line i.0 i.1 f)
      ]
    ]

-- lines, the newest first
stands : (size : ℕ) (lines : List (List ℕ)) → Stands size (reverse lines)
stands size [] = (None, 0, [], [], at_start size)
stands size (line ∷ lines) = rw (reverse-append (line ∷ []) lines) (step size (reverse lines) line (stands size lines))

tells : (size : ℕ) (lines : List (List ℕ)) → Stands size lines
    → (told : Told) × Tells size lines told
tells size lines (None, n, calls, call, h) = (Ok (calls ++ one_call call), so_far h)
tells size lines (Some f, n, calls, call, h) = (Err f, h)

-- ---- all bytes

abbrev HasSplit : List ℕ → Type 0
HasSplit bytes = (lines : List (List ℕ)) × (rest : List ℕ) × Splits bytes lines rest

split_byte : (before : List ℕ) (b : ℕ) → HasSplit before → HasSplit (before ++ b ∷ [])
split_byte before b (lines, rest, h) =
    elim (cases_Bool (eqb b 10)) [
      | inl t ↦ (rest ∷ lines, [], rw (eqb-true b 10 t) (split_end before lines rest h))
      | inr f ↦ (lines, rest ++ b ∷ [], split_more before lines rest b (eqb-false b 10 f) h)
    ]

split_all : (before more : List ℕ) → HasSplit before → HasSplit (before ++ more)
split_all before [] h = rw (append-nil before) h
split_all before (b ∷ more) h = rw (← append_assoc before (b ∷ []) more) (split_all (before ++ b ∷ []) more (split_byte before b h))

pub always_told : (size : ℕ) (bytes : List ℕ) → (told : Told) × IsTold size bytes told
always_told size bytes =
    let split = split_all [] bytes ([], [], record { whole = refl; each = tt; unbroken = tt }) in
    let told = tells size (reverse (with_last split.0 split.1)) (stands size (with_last split.0 split.1)) in
    (told.0, (reverse (with_last split.0 split.1), record { ended = split.0; rest = split.1; splits = split.2; all = refl }, told.1))
