-- The ends of a set-up, before anything is done with them. All of it is our own rule.
use Rattle.std.specs.Prelude.{◌≡◌, ℕ, ◌<◌, List, [], length, ◌⊎◌}
use Rattle.uring_entry.specs.Setup.{Setup}
use Rattle.uring_ports.specs.AppEnd.{AppEnd}
use Rattle.uring_ports.specs.Ports.{nothing_put, sizes_of}
use Rattle.uring_threads.specs.Kernel.{Kernel}
use Rattle.uring_threads.specs.Report.{AreTogether}
use Rattle.uring_workers.specs.Opened.{AreOpened}
use Rattle.uring_workers.specs.Worker.{Worker}
use Rattle.uring_threads.specs.declared.intake.Intake.TheVariants as intake

-- there aren't 1 to 8 workers
abbrev pub AreBadWorkers : ℕ → Type 0
AreBadWorkers count = (count ≡ 0) ⊎ (8 < count)

-- the dispatcher's end, before its first turn, over a port with these numbers
abbrev pub kernel_at_first : Setup → List ℕ → Kernel → Kernel
kernel_at_first g pairing k = record {
  kept = record k.kept { trace = []; setup = g };
  intake = intake.Ready;
  lanes = k.lanes;
  pairing = pairing;
  sizes = sizes_of g;
  pulled = nothing_put;
  saw_calls = k.saw_calls;
  reaped = [];
  free = k.free;
  room_looks = k.room_looks;
  dropped = k.dropped;
}

-- All ends of a set-up over two ports with these numbers, before anything is done with them: one worker for each gate, in the gates' order; nothing was submitted, recorded, sent or carried out, and each file is empty.
pub record AreEnds (g : Setup) (gates : ℕ) (numbers : List ℕ) (app : AppEnd) (kernel : Kernel) (workers : List Worker) : Type 0 where
  pub many : length workers ≡ gates
  pub application : app ≡ record {
    pairing = numbers;
    sizes = sizes_of g;
    submitted = nothing_put;
    received = [];
    dropped = app.dropped;
    saw_room = app.saw_room;
    saw_completions = app.saw_completions;
  }
  pub dispatcher : kernel ≡ kernel_at_first g numbers kernel
  pub opened : AreOpened g.files kernel.lanes workers
  pub together : AreTogether app kernel workers
