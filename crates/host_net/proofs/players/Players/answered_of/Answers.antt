use Rattle.std.proofs.Common.{◌≡◌, ℕ, ◌<◌, List, length, IfNone, IfSome, refl, ap, sym, subst, ◌∙◌}
use Rattle.net_base.specs.Stamped.{In}
use Rattle.host_net.specs.Answering.{CannotTellOf, IsAnsweredOf}
use Rattle.host_net.specs.Groups.{Grouped, Grouping, all_members, callers_of, seat_of}
use Rattle.host_net.specs.Playing.{Playing}
use Rattle.host_net.proofs.Answered.{found_in, group_at, none_in, script_here}
use Rattle.host_net.proofs.Seating.{seat_same, seat_within, some_groups}
use Rattle.host_net.proofs.players.Players.answered_of.Goals as goal

pub place_of-place-requires : goal.place_of-place-requires
place_of-place-requires g c =
    let gs = c.self.inside.groups.items in
    subst (λ (m : ℕ). 0 < m) (sym (c.len.ensures ∙ c.self.inside.groups.ok.0)) (some_groups g.J.Placing.world c.self.inside.callers gs c.self.invariant.0)

pub player_of-requires : goal.player_of-requires
player_of-requires g c =
    let w = g.J.Placing.world in
    let gs = c.self.inside.groups.items in
    let n = c.self.inside.callers in
    let script = c.args.script in
    let k = c.place_of-place.result in
    let group = c.index-group.result.now in
    let deal = c.self.inside.deal.items in
    let is : k ≡ seat_of deal script (length gs) =
    seat_same k c.as_slice.result.now deal script script c.len.result (length gs) c.place_of-place.ensures c.as_slice.ensures.value refl
    (c.len.ensures ∙ c.self.inside.groups.ok.0) in
    let lt : k < length gs = seat_within deal script (length gs) k (some_groups w n gs c.self.invariant.0) is in
    let known : script < n = subst (λ (x : Grouping g.row.T.Denot). script < x.callers) (sym c.self.view_is) c.requires.known in
    let players = c.deref.ensures.value ∙ ap (λ (x : Grouped g.row.T.Denot). x.players) c.group.view_is in
    subst (λ (l : List (Playing g.row.T.Denot)). In script (callers_of l)) (sym players)
    (script_here w n gs c.self.invariant.0 deal c.self.invariant.1 script c.requires.script.0 known c.requires.script.1 k group
    (group_at gs k group group lt c.index-group.ensures) is)

pub returns-clause-count : goal.returns-clause-count
returns-clause-count g c =
    let w = g.J.Placing.world in
    let gs = c.self.inside.groups.items in
    let n = c.self.inside.callers in
    let script = c.args.script in
    let k = c.place_of-place.result in
    let group = c.index-group.result.now in
    let player = c.player_of.result.now in
    let deal = c.self.inside.deal.items in
    let is : k ≡ seat_of deal script (length gs) =
    seat_same k c.as_slice.result.now deal script script c.len.result (length gs) c.place_of-place.ensures c.as_slice.ensures.value refl
    (c.len.ensures ∙ c.self.inside.groups.ok.0) in
    let lt : k < length gs = seat_within deal script (length gs) k (some_groups w n gs c.self.invariant.0) is in
    let players = c.deref.ensures.value ∙ ap (λ (x : Grouped g.row.T.Denot). x.players) c.group.view_is in
    let among : In player group.players = subst (λ (l : List (Playing g.row.T.Denot)). In player l) players c.player_of.ensures.there in
    subst (λ (x : Grouping g.row.T.Denot). IfSome c.answered.result (λ (m : ℕ). IsAnsweredOf w script (all_members x.groups) m)) c.self.view_is
    (found_in w script gs k group player c.answered.result (group_at gs k group group lt c.index-group.ensures)
    among c.player_of.ensures.caller c.answered.ensures.count)

pub returns-clause-none : goal.returns-clause-none
returns-clause-none g c =
    let w = g.J.Placing.world in
    let gs = c.self.inside.groups.items in
    let n = c.self.inside.callers in
    let script = c.args.script in
    let k = c.place_of-place.result in
    let group = c.index-group.result.now in
    let player = c.player_of.result.now in
    let deal = c.self.inside.deal.items in
    let is : k ≡ seat_of deal script (length gs) =
    seat_same k c.as_slice.result.now deal script script c.len.result (length gs) c.place_of-place.ensures c.as_slice.ensures.value refl
    (c.len.ensures ∙ c.self.inside.groups.ok.0) in
    let lt : k < length gs = seat_within deal script (length gs) k (some_groups w n gs c.self.invariant.0) is in
    let players = c.deref.ensures.value ∙ ap (λ (x : Grouped g.row.T.Denot). x.players) c.group.view_is in
    let among : In player group.players = subst (λ (l : List (Playing g.row.T.Denot)). In player l) players c.player_of.ensures.there in
    subst (λ (x : Grouping g.row.T.Denot). IfNone c.answered.result (CannotTellOf script (all_members x.groups))) c.self.view_is
    (none_in script gs k group player c.answered.result (group_at gs k group group lt c.index-group.ensures)
    among c.player_of.ensures.caller c.answered.ensures.none)
