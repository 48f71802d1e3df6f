-- By which ways memory of the application's is copied, so that what can't be read or written is a fault of the call, and not the end of the program. Our own rule; process_vm_readv(2), pipe(7).
use Rattle.std.specs.Prelude.{ℕ, ℤ, pos, not, ◌||◌, Option, Some, None, if◌then◌else◌}
use Rattle.std.specs.Ordering.{int_eq}
use Rattle.uring_entry.specs.Errors.{error, is_below}
use Rattle.uring_enter.specs.declared.rings.copying.Way.{Way}
use Rattle.uring_enter.specs.declared.rings.copying.Way.TheVariants.{Process, Pipe, Plain}
use Rattle.uring_enter.specs.declared.rings.copying.CopyOnto.{CopyOnto}
use Rattle.uring_enter.specs.declared.rings.copying.CopyOnto.TheVariants.{Goes, IsCopied, Fails}

-- where a call isn't served that copies a process's memory, as after a filter of calls, bytes go through a pipe, of which each end tells too what can't be read or written. Where no pipe is to be had they are copied as they come, and what can't be read ends the program
abbrev pub after_way : Way → CopyOnto
after_way Process = Goes Pipe
after_way Pipe = Goes Plain
after_way Plain = Fails

-- a way has copied all; or a part, or come to -14 (EFAULT), by which something can't be read or written. After any other error the next way is tried
abbrev pub next_way : Option Way → (copied : ℤ) → (size : ℕ) → CopyOnto
next_way None copied size = Goes Process
next_way (Some way) copied size =
    if int_eq copied (pos size) then IsCopied else
    if not (is_below copied) || int_eq copied (error 14) then Fails else after_way way
