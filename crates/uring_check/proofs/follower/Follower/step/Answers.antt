use Rattle.uring_check.proofs.follower.Follower.step.Goals as goal

pub returns-in-Whole-clause-fits : goal.returns-in-Whole-clause-fits
returns-in-Whole-clause-fits g c = λ h fits. c.step_in.ensures.fits h (rw c.in-Whole.is at fits)

pub returns-in-Apart-clause-fits : goal.returns-in-Apart-clause-fits
returns-in-Apart-clause-fits g c = λ h fits. c.step_in-in-Apart.ensures.fits h (rw c.in-Apart.is at fits)

pub returns-in-Allowed-clause-fits : goal.returns-in-Allowed-clause-fits
returns-in-Allowed-clause-fits g c = λ h fits. c.step_in-in-Allowed.ensures.fits h (rw c.in-Allowed.is at fits)
