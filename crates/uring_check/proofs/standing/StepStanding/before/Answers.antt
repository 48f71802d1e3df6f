use Rattle.uring_check.proofs.standing.StepStanding.before.Goals as goal

pub returns-clause-standing : goal.returns-clause-standing
returns-clause-standing g c = λ h fits known.
    let same = c.core-core.ensures.setup in
    let apart = c.core-core.ensures.fits h fits in
    let counts = rw same at (c.counts-counts.ensures h apart) in
    record {
      why = rw same at (c.why.ensures h apart);
      chosen = rw same at (c.in_ok-chosen_text.ensures.told h apart);
      found = rw same at (c.found.ensures h apart);
      poster = rw (known, counts.reaped) at c.poster_at.ensures;
      posted = counts.posted;
      asked = c.entry_asked.ensures h fits;
    }
