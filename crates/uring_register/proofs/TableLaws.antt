-- The laws of tables, and which slot a file gets.
use Rattle.std.proofs.Common.{◌≡◌, ℕ, List, slice_index_or, arith}
use Rattle.uring_register.specs.declared.tables.table.Table.{Table}
use Rattle.uring_register.specs.Tables.Tables.{Filing, start_by, IsFirstFree, IsGiven, KeepsTable}
use Rattle.uring_register.specs.Tables.TableLaws.{GivesFreeSlots, GivesWhatIsFree, KeepsOthers}

pub gives_free_slots : GivesFreeSlots
gives_free_slots log slot found = grind arith

pub gives_what_is_free : GivesWhatIsFree
gives_what_is_free log slot found low high = grind arith

pub keeps_others : KeepsOthers
keeps_others log at word slot other = grind arith

-- what the slots hold is their words
abbrev pub word : List ℕ → ℕ → ℕ
word rows slot = slice_index_or rows slot 0

pub given_first : (log : List Filing) (t : Table) (rows : List ℕ) (start slot : ℕ) → KeepsTable log t rows
    → start ≡ start_by t.from t.end t.hint → IsFirstFree (word rows) start t.end slot → IsGiven log slot
given_first log t rows start slot k is found = grind arith
