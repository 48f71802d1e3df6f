use Rattle.uring_volume.proofs.Chosen.{chosen_is_image, image_is_chosen}
use Rattle.uring_volume.proofs.laws.choices_leave_the_images.Goals as goal

pub returns : goal.returns
returns c = record { sound = chosen_is_image; complete = image_is_chosen }
