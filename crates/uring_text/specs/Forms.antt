-- The forms in which entries are written: a name, and after it tokens of given kinds, each of which says a part. The language is our own rule.
use Rattle.std.specs.Prelude.{◌≡◌, ℕ, ℤ, pos, ◌^◌, ◌*◌, ◌==◌, List, [], ◌∷◌, ◌++◌, length, codes, decimal, Option, Some, None, if◌then◌else◌}
use Rattle.std.specs.Fmt.{signed_decimal}
use Rattle.std.specs.Option.{option_map_or}
use Rattle.hex.specs.Hex.{encode_lower}
use Rattle.uring_entry.specs.Layout.{Sqe, opcode_of, header, without_data, bytes_of, AreWords, HasData}
use Rattle.uring_entry.specs.Preparation.{is_cancel_all}
use Rattle.uring_entry.specs.declared.operation.opcode.TheConstants.{NOP, FSYNC, ASYNC_CANCEL, ASYNC_CANCEL_ALL, READ, WRITE}
use Rattle.uring_text.specs.Tokens.{AreFlags, hex_or_dash}
use Rattle.uring_text.specs.Spelling.{SpellsNumber, IsFile, AreBytes}
use Rattle.uring_text.specs.declared.forms.Name.{Name}
use Rattle.uring_text.specs.declared.forms.Name.TheVariants as name
use Rattle.uring_text.specs.declared.place.TokenKind.{TokenKind}
use Rattle.uring_text.specs.declared.place.TokenKind.TheVariants as kind

-- What the tokens of an entry say. A part that none of them says is 0, or of no bytes.
pub record Parts : Type 0 where
  pub code : ℕ
  pub user_data : ℕ
  pub flags : ℕ
  pub fd : ℤ
  pub off : ℕ
  pub len : ℕ
  pub target : ℕ
  pub bytes : List ℕ

abbrev pub no_parts : Parts
no_parts = record {
  code = 0;
  user_data = 0;
  flags = 0;
  fd = pos 0;
  off = 0;
  len = 0;
  target = 0;
  bytes = [];
}

-- The forms, a line each: what one is called, what its tokens say, and which entry it is.

abbrev pub names : List Name
names =
    name.Nop ∷ name.Fsync ∷ name.Read ∷ name.Write ∷ name.Cancel ∷ name.CancelAll ∷ name.Op ∷ name.Raw ∷ []

abbrev pub name_text : Name → List ℕ
name_text name.Nop = codes "nop"
name_text name.Fsync = codes "fsync"
name_text name.Read = codes "read"
name_text name.Write = codes "write"
name_text name.Cancel = codes "cancel"
name_text name.CancelAll = codes "cancelall"
name_text name.Op = codes "op"
name_text name.Raw = codes "raw"

-- the names, for who wants one
abbrev pub names_text : List ℕ
names_text = codes "nop, fsync, read, write, cancel, cancelall, op or raw"

-- what a request of an entry of this form does, in words
abbrev pub deed_named : Name → List ℕ
deed_named name.Fsync = codes "an fsync"
deed_named name.Read = codes "a read"
deed_named name.Write = codes "a write"
deed_named other = codes "a no-op"

abbrev pub kinds_of : Name → List TokenKind
kinds_of name.Nop = kind.UserData ∷ kind.Flags ∷ []
kinds_of name.Fsync = kind.UserData ∷ kind.Flags ∷ kind.File ∷ []
kinds_of name.Read = kind.UserData ∷ kind.Flags ∷ kind.File ∷ kind.Offset ∷ kind.Length ∷ []
kinds_of name.Write = kind.UserData ∷ kind.Flags ∷ kind.File ∷ kind.Offset ∷ kind.Data ∷ []
kinds_of name.Cancel = kind.UserData ∷ kind.Flags ∷ kind.Target ∷ []
kinds_of name.CancelAll = kind.UserData ∷ kind.Flags ∷ kind.Target ∷ []
kinds_of name.Op = kind.Code ∷ kind.UserData ∷ kind.Flags ∷ []
kinds_of name.Raw = kind.Bytes ∷ []

-- the entry has these 128 bytes, byte 0 first
pub record HasBytes (entry : Sqe) (bytes : List ℕ) : Type 0 where
  pub size : length entry ≡ 16
  pub words : AreWords entry
  pub all : bytes_of entry ≡ bytes

abbrev pub IsEntryNamed : Name → Parts → Sqe → Type 0
IsEntryNamed name.Nop p entry = entry ≡ without_data (header NOP p.flags (pos 0) 0 0 0 p.user_data)
IsEntryNamed name.Fsync p entry =
    entry ≡ without_data (header FSYNC p.flags p.fd 0 0 0 p.user_data)
IsEntryNamed name.Read p entry =
    entry ≡ without_data (header READ p.flags p.fd p.off 0 p.len p.user_data)
IsEntryNamed name.Write p entry =
    HasData entry (header WRITE p.flags p.fd p.off 0 (length p.bytes) p.user_data) p.bytes
IsEntryNamed name.Cancel p entry =
    entry ≡ without_data (header ASYNC_CANCEL p.flags (pos 0) 0 p.target 0 p.user_data)
IsEntryNamed name.CancelAll p entry = entry
    ≡ without_data
    (header ASYNC_CANCEL p.flags (pos 0) 0 p.target (2 ^ 32 * ASYNC_CANCEL_ALL) p.user_data)
IsEntryNamed name.Op p entry =
    entry ≡ without_data (header p.code p.flags (pos 0) 0 0 0 p.user_data)
IsEntryNamed name.Raw p entry = HasBytes entry p.bytes

-- the name of the form of an operation's entries, if it has one of its own
abbrev pub name_of_code : ℕ → Option Name
name_of_code code =
    if code == NOP then Some name.Nop else
    if code == FSYNC then Some name.Fsync else
    if code == READ then Some name.Read else
    if code == WRITE then Some name.Write else
    if code == ASYNC_CANCEL then Some name.Cancel else
    None

-- the operation of this number, as the form of its fill names it
abbrev pub named_text : ℕ → List ℕ
named_text code = option_map_or name_text (name_of_code code) (codes "op " ++ decimal code)

-- the operation that an entry names
abbrev pub operation_text : Sqe → List ℕ
operation_text e = if is_cancel_all e then codes "cancelall" else named_text (opcode_of e)

-- what a request of this operation does, in words
abbrev pub deed_text : ℕ → List ℕ
deed_text code = option_map_or deed_named (name_of_code code) (codes "a no-op")

-- What tokens say, the parts before it being p: a token sets the part of its kind. The kinds that are no part of an entry say nothing.
abbrev pub SaysPart : TokenKind → List ℕ → Parts → Parts → Type 0
SaysPart kind.Code token p q =
    (n : ℕ) × SpellsNumber 256 token n × (q ≡ record p { code = n })
SaysPart kind.UserData token p q =
    (n : ℕ) × SpellsNumber (2 ^ 64) token n × (q ≡ record p { user_data = n })
SaysPart kind.Flags token p q =
    (flags : ℕ) × AreFlags token flags × (q ≡ record p { flags = flags })
SaysPart kind.File token p q =
    (fd : ℤ) × (token ≡ signed_decimal fd) × IsFile fd × (q ≡ record p { fd = fd })
SaysPart kind.Offset token p q =
    (n : ℕ) × SpellsNumber (2 ^ 64) token n × (q ≡ record p { off = n })
SaysPart kind.Length token p q =
    (n : ℕ) × SpellsNumber (2 ^ 32) token n × (q ≡ record p { len = n })
SaysPart kind.Target token p q =
    (n : ℕ) × SpellsNumber (2 ^ 64) token n × (q ≡ record p { target = n })
SaysPart kind.Data token p q =
    (bytes : List ℕ) × (token ≡ hex_or_dash bytes) × AreBytes bytes 0 64 × (q ≡ record p { bytes = bytes })
SaysPart kind.Bytes token p q =
    (bytes : List ℕ) × (token ≡ encode_lower bytes) × AreBytes bytes 128 128 × (q ≡ record p { bytes = bytes })
SaysPart other token p q = ⊥

-- what tokens say, one of each of these kinds
abbrev pub SayParts : List TokenKind → List (List ℕ) → Parts → Type 0
SayParts [] [] q = q ≡ no_parts
SayParts (kind ∷ kinds) (token ∷ tokens) q =
    (p : Parts) × SayParts kinds tokens p × SaysPart kind token p q
SayParts _ _ q = ⊥

-- A form: a name, and what the tokens after it say.
pub record Form : Type 0 where
  pub name : Name
  pub parts : Parts

-- the tokens spell the form
abbrev pub SpellsForm : List (List ℕ) → Form → Type 0
SpellsForm tokens form = (rest : List (List ℕ))
    × (tokens ≡ name_text form.name ∷ rest) × SayParts (kinds_of form.name) rest form.parts

-- the entry of a form
abbrev pub IsEntryOf : Form → Sqe → Type 0
IsEntryOf form entry = IsEntryNamed form.name form.parts entry

-- the tokens of an entry's form
pub record SpellsEntry (tokens : List (List ℕ)) (entry : Sqe) : Type 0 where
  pub form : Form
  pub spells : SpellsForm tokens form
  pub is_entry : IsEntryOf form entry

-- the tokens spell no entry
abbrev pub IsNoEntry : List (List ℕ) → Type 0
IsNoEntry tokens = (entry : Sqe) → SpellsEntry tokens entry → ⊥
