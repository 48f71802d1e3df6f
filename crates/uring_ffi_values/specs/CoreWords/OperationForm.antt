-- The words that tell an operation: the fields of its entry. Our own rule: a word that an operation hasn't is 0.
use Rattle.std.specs.Prelude.{if◌then◌else◌}
use Rattle.uring_entry.specs.Preparation.{fields_of}
use Rattle.uring_entry.specs.declared.operation.Op.{Op}
use Rattle.uring_entry.specs.declared.operation.Fields.{Fields}
use Rattle.uring_ffi_values.specs.declared.core_words.operation_words.OperationWords.{OperationWords}

-- the words of these fields
abbrev pub words_of_fields : Fields → OperationWords
words_of_fields fields = record {
  code = fields.code;
  fd = fields.fd;
  off = fields.off;
  target = fields.target;
  len = fields.len;
  all = if fields.all then 1 else 0;
  bytes = fields.bytes;
}

-- the words that tell an operation
abbrev pub words_of_operation : Op → OperationWords
words_of_operation op = words_of_fields (fields_of op)
