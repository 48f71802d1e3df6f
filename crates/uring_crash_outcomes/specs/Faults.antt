-- Glue. What a walk says of what keeps it from its end.
use Rattle.uring_volume.specs.declared.volume.ImagesError.{ImagesError}
use Rattle.uring_volume.specs.declared.volume.ImagesError.TheVariants as images
use Rattle.uring_outcomes.specs.declared.fault.WalkFault.{WalkFault}
use Rattle.uring_outcomes.specs.declared.fault.WalkFault.TheVariants as walk
use Rattle.uring_crash_outcomes.specs.declared.fault.CrashFault.{CrashFault}
use Rattle.uring_crash_outcomes.specs.declared.fault.CrashFault.TheVariants.{Memory, Spent, Images}

abbrev pub fault_of_images : ImagesError → CrashFault
fault_of_images images.OutOfMemory = Memory
fault_of_images images.TooMany = Images

abbrev pub fault_of_walk : WalkFault → CrashFault
fault_of_walk walk.Spent = Spent
fault_of_walk walk.Memory = Memory
fault_of_walk walk.Paths = Memory
