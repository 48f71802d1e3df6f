use Rattle.std.proofs.Common.{◌≡◌, true, false, refl, rules}
use Rattle.uring_reconstruct.proofs.Common.{IsPart, history_of, not-false, not-true, paths_of}
use Rattle.uring_reconstruct.proofs.Covering.{path_dropped, visited_part, visited_reach, visited_fills, visited_on}
use Rattle.uring_reconstruct.proofs.search.visit.Goals as goal

pub note-requires : goal.note-requires
note-requires g c =
    let made : c.in_ok-replay.field-0 ≡ true = search (rules, not-false) in
    let fits = c.in_ok-replay.ensures.all made in
    let part : IsPart c.replay.new.core.setup c.args.seen.now (history_of c.args.path.now) = visited_part c.args.core.now.setup c.replay.new.core.setup c.args.seen.now c.args.path.now (paths_of c.args.todo.now.items) c.args.reach.now.events.items c.args.reach.now.place c.in_ok-replay.ensures.setup c.requires.stands fits.lawful in
    record {
      told = c.requires.told;
      fits = fits;
      part = part;
      reach = visited_reach c.args.core.now.setup c.replay.new.core.setup c.args.seen.now c.args.reach.now.events.items c.args.reach.now.place c.in_ok-replay.ensures.setup c.requires.stands.reach;
    }

pub add_longer-requires : goal.add_longer-requires
add_longer-requires g c =
    let made : c.in_ok-replay.field-0 ≡ true = search (rules, not-false) in
    let fits = c.in_ok-replay.ensures.all made in
    let part : IsPart c.replay.new.core.setup c.args.seen.now (history_of c.args.path.now) = visited_part c.args.core.now.setup c.replay.new.core.setup c.args.seen.now c.args.path.now (paths_of c.args.todo.now.items) c.args.reach.now.events.items c.args.reach.now.place c.in_ok-replay.ensures.setup c.requires.stands fits.lawful in
    record {
      told = c.requires.told;
      fits = fits;
      part = part;
    }

pub returns-then-not-branch : goal.returns-then-not-branch
returns-then-not-branch g c =
    let wrong : c.in_ok-replay.field-0 ≡ false = search (rules, not-true) in record {
      found = λ e. absurd (let f : false ≡ true = e in cc);
      on = λ e. path_dropped c.args.core.now.setup c.args.seen.now c.args.path.now (paths_of c.args.todo.now.items) c.args.reach.now.events.items c.args.reach.now.place (c.in_ok-replay.ensures.wrong wrong) c.requires.stands;
      granted = λ all. refl;
    }

pub returns-then-branch : goal.returns-then-branch
returns-then-branch g c =
    let made : c.in_ok-replay.field-0 ≡ true = search (rules, not-false) in
    let fits = c.in_ok-replay.ensures.all made in
    let part : IsPart c.replay.new.core.setup c.args.seen.now (history_of c.args.path.now) = visited_part c.args.core.now.setup c.replay.new.core.setup c.args.seen.now c.args.path.now (paths_of c.args.todo.now.items) c.args.reach.now.events.items c.args.reach.now.place c.in_ok-replay.ensures.setup c.requires.stands fits.lawful in
    let whole : c.in_ok-note.field-0 ≡ true = search rules in record {
      found = λ e. visited_fills c.args.core.now.setup c.replay.new.core.setup c.args.seen.now c.args.path.now c.note.new.reach.events.items c.in_ok-replay.ensures.setup part (c.in_ok-note.ensures.whole whole);
      on = λ e. absurd (let f : true ≡ false = e in cc);
      granted = λ all. refl;
    }

pub returns : goal.returns
returns g c =
    let made : c.in_ok-replay.field-0 ≡ true = search (rules, not-false) in
    let fits = c.in_ok-replay.ensures.all made in
    let part : IsPart c.replay.new.core.setup c.args.seen.now (history_of c.args.path.now) = visited_part c.args.core.now.setup c.replay.new.core.setup c.args.seen.now c.args.path.now (paths_of c.args.todo.now.items) c.args.reach.now.events.items c.args.reach.now.place c.in_ok-replay.ensures.setup c.requires.stands fits.lawful in
    let not_whole : c.in_ok-note.field-0 ≡ false = search rules in record {
      found = λ e. absurd (let f : false ≡ true = e in cc);
      on = λ e. visited_on c.args.core.now.setup c.replay.new.core.setup c.args.seen.now c.args.path.now (paths_of c.args.todo.now.items) (paths_of c.add_longer.new.todo.items) c.args.reach.now.events.items c.note.new.reach.events.items c.args.reach.now.place c.note.new.reach.place c.in_ok-replay.ensures.setup part c.in_ok-add_longer.ensures.longer (c.in_ok-note.ensures.not_whole not_whole) c.in_ok-note.ensures.far c.in_ok-note.ensures.reach c.requires.stands;
      granted = λ all. refl;
    }
