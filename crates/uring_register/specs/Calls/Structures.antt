-- Which fields are reserved of the structures that calls of io_uring_register(2) and io_uring_setup(2) read, and which are judged: all that is told of their fields here are those of <linux/io_uring.h>. io_uring_register(2), DESCRIPTION.
use Rattle.std.specs.Prelude.{ℕ, ◌/◌, ◌^◌, Bool, false, not, ◌||◌, ◌==◌, nat_lt, List, if◌then◌else◌}
use Rattle.std.specs.List.{list_any}
use Rattle.uring_register.specs.declared.calls.call.Content.{Content}
use Rattle.uring_register.specs.declared.calls.structures.TableForm.{TableForm}
use Rattle.uring_register.specs.declared.calls.structures.UpdateForm.{UpdateForm}
use Rattle.uring_register.specs.declared.calls.structures.FilesForm.{FilesForm}
use Rattle.uring_register.specs.declared.calls.structures.CancelForm.{CancelForm}
use Rattle.uring_register.specs.declared.calls.structures.RingForm.{RingForm}
use Rattle.uring_register.specs.declared.calls.structures.RangeForm.{RangeForm}
use Rattle.uring_register.specs.declared.calls.structures.ParametersForm.{ParametersForm}

abbrev pub is_set : ℕ → Bool
is_set field = not (field == 0)

-- `resv2` of a table that is registered
abbrev pub content_of_table : TableForm → Content
content_of_table f = record { nr = f.nr; flags = f.flags; has_reserved = is_set f.resv2; has_data = is_set f.data }

-- `resv` and `resv2` of an update. It has no flags, and where its list is isn't judged
abbrev pub content_of_update : UpdateForm → Content
content_of_update f = record { nr = f.nr; flags = 0; has_reserved = is_set f.resv || is_set f.resv2; has_data = false }

-- `resv` of an update of files alone, whose count the call gives
abbrev pub content_of_files : FilesForm → ℕ → Content
content_of_files f count = record { nr = count; flags = 0; has_reserved = is_set f.resv; has_data = false }

-- the four words of `pad` of a cancel, but the lowest byte of the first: `opcode`, the operation of the requests that are looked for, which counts with a flag alone that isn't served here. What Linux 6.18 was seen to do
abbrev pub content_of_cancel : CancelForm → Content
content_of_cancel f = record {
  nr = 0;
  flags = f.flags;
  has_reserved = nat_lt 255 f.pad || is_set f.second_pad || is_set f.third_pad || is_set f.fourth_pad;
  has_data = false;
}

-- each byte of a probe, of what stands in front of its rows and of these: the kernel fills them
abbrev pub content_of_probe : List ℕ → Content
content_of_probe bytes = record { nr = 0; flags = 0; has_reserved = list_any is_set bytes; has_data = false }

-- `pad` and the three words of `resv` of a ring of provided buffers; but the lower half of the first, which is `min_left` in a newer header, counts for nothing where the ring goes. What Linux 6.18 was seen to do
abbrev pub ring_has_reserved : RingForm → (goes : Bool) → Bool
ring_has_reserved f goes =
    is_set f.pad || is_set (if goes then f.resv / 2 ^ 32 else f.resv) || is_set f.second_resv || is_set f.third_resv

-- `resv` of a range of slots
abbrev pub range_has_reserved : RangeForm → Bool
range_has_reserved f = is_set f.resv

-- the three words of `resv` of a set-up's parameters
abbrev pub parameters_have_reserved : ParametersForm → Bool
parameters_have_reserved f = is_set f.resv || is_set f.second_resv || is_set f.third_resv
