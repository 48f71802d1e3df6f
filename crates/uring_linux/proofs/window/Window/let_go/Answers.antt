use Rattle.std.proofs.Common.{◌≡◌, sym, subst}
use Rattle.uring_linux.proofs.Common.{IsOver, Requests, Shows, Window, running_among, unended_among}
use Rattle.uring_linux.proofs.LettingGo.{left_from, left_shows, left_unended, left_running}
use Rattle.uring_linux.proofs.window.Window.let_go.Goals as goal

pub returns-clause-shows : goal.returns-clause-shows
returns-clause-shows c =
    let s : Window = record { first = c.self.inside.first; items = c.self.inside.items.items; room = c.self.inside.room } in
    let t : Window = record { first = c.drop_before.new.first; items = c.drop_before.new.items.items; room = c.self.inside.room } in
    let over_to = subst (λ (x : Window). IsOver x c.over_to-to.result) (sym c.self.view_is) c.over_to-to.ensures in
    let left = left_from s t c.over_to-to.result c.drop_before.ensures.first c.drop_before.ensures.items over_to in
    let over = subst (IsOver s) (sym c.drop_before.ensures.first) over_to in
    subst (λ (s : Window). (r : Requests) → Shows s r → Shows t r) c.self.view_is (λ r h. left_shows s t r left over h)

pub returns-clause-outstanding : goal.returns-clause-outstanding
returns-clause-outstanding c =
    let s : Window = record { first = c.self.inside.first; items = c.self.inside.items.items; room = c.self.inside.room } in
    let t : Window = record { first = c.drop_before.new.first; items = c.drop_before.new.items.items; room = c.self.inside.room } in
    let over_to = subst (λ (x : Window). IsOver x c.over_to-to.result) (sym c.self.view_is) c.over_to-to.ensures in
    let left = left_from s t c.over_to-to.result c.drop_before.ensures.first c.drop_before.ensures.items over_to in
    let over = subst (IsOver s) (sym c.drop_before.ensures.first) over_to in
    subst (λ (s : Window). unended_among t.items ≡ unended_among s.items) c.self.view_is (left_unended s t left over)

pub returns-clause-running : goal.returns-clause-running
returns-clause-running c =
    let s : Window = record { first = c.self.inside.first; items = c.self.inside.items.items; room = c.self.inside.room } in
    let t : Window = record { first = c.drop_before.new.first; items = c.drop_before.new.items.items; room = c.self.inside.room } in
    let over_to = subst (λ (x : Window). IsOver x c.over_to-to.result) (sym c.self.view_is) c.over_to-to.ensures in
    let left = left_from s t c.over_to-to.result c.drop_before.ensures.first c.drop_before.ensures.items over_to in
    let over = subst (IsOver s) (sym c.drop_before.ensures.first) over_to in
    subst (λ (s : Window). running_among t.items ≡ running_among s.items) c.self.view_is (left_running s t left over)
