-- The laws of what a descriptor is asked.
use Rattle.std.proofs.Common.{◌≡◌, Bool, true, false, not, ◌&&◌, ◌||◌, if◌then◌else◌, refl, sym, ap}
use Rattle.std.proofs.lemmas.Bool.{false≢true, true≢false}
use Rattle.uring_operations.specs.declared.entries.submission.Submission.{Submission}
use Rattle.uring_operations.specs.declared.files.descriptor.Known.{Known}
use Rattle.uring_operations.specs.declared.files.descriptor.Trial.{Trial}
use Rattle.uring_operations.specs.declared.files.descriptor.DescriptorKind.{DescriptorKind}
use Rattle.uring_operations.specs.declared.files.descriptor.DescriptorKind.TheVariants.{Never, AtOnce, Tried, Stream, Wrong}
use Rattle.uring_operations.specs.declared.files.descriptor.Question.{Question}
use Rattle.uring_operations.specs.declared.files.descriptor.Question.TheVariants.{Status, Offsets, Access}
use Rattle.uring_operations.specs.declared.files.descriptor.Finding.{Finding}
use Rattle.uring_operations.specs.declared.files.descriptor.Finding.TheVariants.{Asks, Is}
use Rattle.uring_operations.specs.Entries.Needs.{is_read, is_transfer, is_of_sockets, is_splice, is_poll}
use Rattle.uring_operations.specs.Files.Descriptors.{has_no_place, may_be_tried, is_tried_at_once, is_tried_unasked, is_open_for, asks_after_status, next_of, FindsTheKind, AsksUnlessSaid, AsksOnce}

abbrev kind_in : Finding → DescriptorKind
kind_in (Is kind) = kind
kind_in (Asks _) = Never

abbrev has_kind : Finding → Bool
has_kind (Is _) = true
has_kind (Asks _) = false

abbrev question_in : Finding → Question
question_in (Asks question) = question
question_in (Is _) = Status

-- what is told, by the answers: `k` of offsets and `ka` of access say that these were asked
abbrev by_access : Bool → Bool → DescriptorKind → Finding
by_access ka w opened = if not ka then Asks Access else if w then Is opened else Is Wrong

abbrev by_offsets : Bool → Bool → Bool → Bool → Bool → Bool → Bool → Bool → Finding
by_offsets i m v ko h p ka w =
    if i && m then Is Tried else
    if not v && not ko then Asks Offsets else
    if not v && h && not p then Is Never else by_access ka w (if not v && h then Never else Stream)

abbrev whole_of : Bool → Bool → Bool → Bool → Bool → Bool → DescriptorKind
whole_of i m v h p w =
    if i && m then Tried else
    if not v && h && not p then Never else
    if w then (if not v && h then Never else Stream) else Wrong

abbrev by_status : Bool → Bool → Bool → Finding → Finding
by_status o x z transfer =
    if not o then Is Never else if x then transfer else if z then Is Stream else Is Never

abbrev by_entry : Bool → Bool → Bool → Bool → Bool → Finding → Finding
by_entry a b u c s later =
    if a then Is Stream else if b then Is AtOnce else if u then Is Tried else
    if not c then Is Never else if not s then Asks Status else later

by_access_is : (ka w w' : Bool) (opened kind : DescriptorKind) → (ka ≡ true → w ≡ w') → by_access ka w opened ≡ Is kind
    → kind ≡ (if w' then opened else Wrong)
by_access_is false w w' opened kind agree is = absurd (false≢true (ap has_kind is))
by_access_is true true true opened kind agree is = sym (ap kind_in is)
by_access_is true false false opened kind agree is = sym (ap kind_in is)
by_access_is true true false opened kind agree is = absurd (true≢false (agree refl))
by_access_is true false true opened kind agree is = absurd (false≢true (agree refl))

by_offsets_is : (i m v ko h h' p ka w w' : Bool) (kind : DescriptorKind) → (ko ≡ true → h ≡ h') → (ka ≡ true → w ≡ w')
    → by_offsets i m v ko h p ka w ≡ Is kind → kind ≡ whole_of i m v h' p w'
by_offsets_is true true v ko h h' p ka w w' kind one two is = sym (ap kind_in is)
by_offsets_is true false true ko h h' p ka w w' kind one two is = by_access_is ka w w' Stream kind two is
by_offsets_is false m true ko h h' p ka w w' kind one two is = by_access_is ka w w' Stream kind two is
by_offsets_is true false false false h h' p ka w w' kind one two is = absurd (false≢true (ap has_kind is))
by_offsets_is false m false false h h' p ka w w' kind one two is = absurd (false≢true (ap has_kind is))
by_offsets_is true false false true true true false ka w w' kind one two is = sym (ap kind_in is)
by_offsets_is false m false true true true false ka w w' kind one two is = sym (ap kind_in is)
by_offsets_is true false false true true true true ka w w' kind one two is = by_access_is ka w w' Never kind two is
by_offsets_is false m false true true true true ka w w' kind one two is = by_access_is ka w w' Never kind two is
by_offsets_is true false false true false false p ka w w' kind one two is = by_access_is ka w w' Stream kind two is
by_offsets_is false m false true false false p ka w w' kind one two is = by_access_is ka w w' Stream kind two is
by_offsets_is i m false true true false p ka w w' kind one two is = absurd (true≢false (one refl))
by_offsets_is i m false true false true p ka w w' kind one two is = absurd (false≢true (one refl))

by_status_is : (o x z i m v ko h h' p ka w w' : Bool) (kind : DescriptorKind) → (ko ≡ true → h ≡ h') → (ka ≡ true → w ≡ w')
    → by_status o x z (by_offsets i m v ko h p ka w) ≡ Is kind
    → kind ≡ (if not o then Never else if x then whole_of i m v h' p w' else if z then Stream else Never)
by_status_is false x z i m v ko h h' p ka w w' kind one two is = sym (ap kind_in is)
by_status_is true true z i m v ko h h' p ka w w' kind one two is =
    by_offsets_is i m v ko h h' p ka w w' kind one two is
by_status_is true false true i m v ko h h' p ka w w' kind one two is = sym (ap kind_in is)
by_status_is true false false i m v ko h h' p ka w w' kind one two is = sym (ap kind_in is)

-- `later` is what it is once it was asked what it is
by_entry_is : (a b u c s : Bool) (later : Finding) (kind whole : DescriptorKind) → (s ≡ true → later ≡ Is kind → kind ≡ whole)
    → by_entry a b u c s later ≡ Is kind
    → kind ≡ (if a then Stream else if b then AtOnce else if u then Tried else if c then whole else Never)
by_entry_is true b u c s later kind whole after is = sym (ap kind_in is)
by_entry_is false true u c s later kind whole after is = sym (ap kind_in is)
by_entry_is false false true c s later kind whole after is = sym (ap kind_in is)
by_entry_is false false false false s later kind whole after is = sym (ap kind_in is)
by_entry_is false false false true false later kind whole after is = absurd (false≢true (ap has_kind is))
by_entry_is false false false true true later kind whole after is = after refl is

opens_for : (reads one one' two two' : Bool) → one ≡ one' → two ≡ two'
    → (if reads then one else two) ≡ (if reads then one' else two')
opens_for true one one' two two' same other = same
opens_for false one one' two two' same other = other

pub finds_the_kind : FindsTheKind
finds_the_kind e t k d kind fits is =
    by_entry_is (is_poll e.opcode || is_splice e.opcode) (is_tried_at_once e t) (is_tried_unasked e t) (is_transfer e.opcode || is_of_sockets e.opcode) k.status _ kind _
    (λ asked later. rw (← fits.opened asked, ← fits.file asked, ← fits.device asked, ← fits.socket asked)
    (by_status_is k.nature.is_open (is_transfer e.opcode) k.nature.is_socket k.nature.is_file (may_be_tried e t) k.nature.is_device k.offsets k.nature.has_offsets d.has_offsets (has_no_place e) k.access (is_open_for e.opcode k.nature) (is_open_for e.opcode d) kind
    fits.offsets (λ known. opens_for (is_read e.opcode) k.nature.can_read d.can_read k.nature.can_write d.can_write (fits.reads known) (fits.writes known)) later))
    is

-- whether a question was asked
abbrev was : Question → Bool → Bool → Bool → Bool
was Status s ko ka = s
was Offsets s ko ka = ko
was Access s ko ka = ka

access_asks : (s ko ka w : Bool) (opened : DescriptorKind) (question : Question) → by_access ka w opened ≡ Asks question → was question s ko ka ≡ false
access_asks s ko false w opened question is = sym (ap (λ told. was (question_in told) s ko false) is)
access_asks s ko true true opened question is = absurd (true≢false (ap has_kind is))
access_asks s ko true false opened question is = absurd (true≢false (ap has_kind is))

offsets_asks : (i m v s ko h p ka w : Bool) (question : Question) → by_offsets i m v ko h p ka w ≡ Asks question
    → was question s ko ka ≡ false
offsets_asks true true v s ko h p ka w question is = absurd (true≢false (ap has_kind is))
offsets_asks true false true s ko h p ka w question is = access_asks s ko ka w Stream question is
offsets_asks false m true s ko h p ka w question is = access_asks s ko ka w Stream question is
offsets_asks true false false s false h p ka w question is = sym (ap (λ told. was (question_in told) s false ka) is)
offsets_asks false m false s false h p ka w question is = sym (ap (λ told. was (question_in told) s false ka) is)
offsets_asks true false false s true true false ka w question is = absurd (true≢false (ap has_kind is))
offsets_asks false m false s true true false ka w question is = absurd (true≢false (ap has_kind is))
offsets_asks true false false s true true true ka w question is = access_asks s true ka w Never question is
offsets_asks false m false s true true true ka w question is = access_asks s true ka w Never question is
offsets_asks true false false s true false p ka w question is = access_asks s true ka w Stream question is
offsets_asks false m false s true false p ka w question is = access_asks s true ka w Stream question is

asks : (a b u c s o x z i m v ko h p ka w : Bool) (question : Question)
    → by_entry a b u c s (by_status o x z (by_offsets i m v ko h p ka w)) ≡ Asks question
    → was question s ko ka ≡ false
asks true b u c s o x z i m v ko h p ka w question is = absurd (true≢false (ap has_kind is))
asks false true u c s o x z i m v ko h p ka w question is = absurd (true≢false (ap has_kind is))
asks false false true c s o x z i m v ko h p ka w question is = absurd (true≢false (ap has_kind is))
asks false false false false s o x z i m v ko h p ka w question is = absurd (true≢false (ap has_kind is))
asks false false false true false o x z i m v ko h p ka w question is = sym (ap (λ told. was (question_in told) false ko ka) is)
asks false false false true true false x z i m v ko h p ka w question is = absurd (true≢false (ap has_kind is))
asks false false false true true true true z i m v ko h p ka w question is = offsets_asks i m v true ko h p ka w question is
asks false false false true true true false true i m v ko h p ka w question is = absurd (true≢false (ap has_kind is))
asks false false false true true true false false i m v ko h p ka w question is = absurd (true≢false (ap has_kind is))

asks_of : (e : Submission) (t : Trial) (k : Known) (question : Question) → next_of e t k ≡ Asks question
    → was question k.status k.offsets k.access ≡ false
asks_of e t k question is =
    asks (is_poll e.opcode || is_splice e.opcode) (is_tried_at_once e t) (is_tried_unasked e t) (is_transfer e.opcode || is_of_sockets e.opcode) k.status k.nature.is_open (is_transfer e.opcode) k.nature.is_socket k.nature.is_file (may_be_tried e t) k.nature.is_device k.offsets k.nature.has_offsets (has_no_place e) k.access (is_open_for e.opcode k.nature) question is

pub asks_once : AsksOnce
asks_once e t k Status is = asks_of e t k Status is
asks_once e t k Offsets is = asks_of e t k Offsets is
asks_once e t k Access is = asks_of e t k Access is

-- whether it is tried
abbrev is_try : Finding → Bool
is_try (Is Tried) = true
is_try _ = false

both_first : (one two : Bool) → one && two ≡ true → one ≡ true
both_first true two are = refl
both_first false two are = absurd (false≢true are)

both_second : (one two : Bool) → one && two ≡ true → two ≡ true
both_second true two are = are
both_second false two are = absurd (false≢true are)

unasked : (a b u c s : Bool) (later : Finding) → s ≡ false → by_entry a b u c s later ≡ Is Tried → u ≡ true
unasked true b u c s later unknown is = absurd (false≢true (ap is_try is))
unasked false true u c s later unknown is = absurd (false≢true (ap is_try is))
unasked false false true c s later unknown is = refl
unasked false false false true true later unknown is = absurd (true≢false unknown)
unasked false false false true false later unknown is = absurd (false≢true (ap is_try is))
unasked false false false false s later unknown is = absurd (false≢true (ap is_try is))

pub asks_unless_said : AsksUnlessSaid
asks_unless_said e t k unknown is =
    both_second t.was_in_memory t.has_no_devices
    (both_first (t.was_in_memory && t.has_no_devices) (is_read e.opcode)
    (both_first (t.was_in_memory && t.has_no_devices && is_read e.opcode) (may_be_tried e t)
    (unasked (is_poll e.opcode || is_splice e.opcode) (is_tried_at_once e t) (is_tried_unasked e t) (is_transfer e.opcode || is_of_sockets e.opcode) k.status (asks_after_status e t k) unknown is)))
