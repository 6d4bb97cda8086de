use Rattle.std.proofs.Common.{◌≡◌, ℕ, ◌+◌, ◌<◌, length, slice_set, ap, sym, subst, ◌∙◌}
use Rattle.host_net.specs.Groups.{FollowsDeal, IsDealt, all_seats, caller, dealt, joined, joined_at, seat_of}
use Rattle.host_net.proofs.Joining.{alone_index, dealt_set, follows_set, grouping, groups_set, on_error}
use Rattle.host_net.proofs.Seating.{seat_same, seat_within, set_same, some_groups}
use Rattle.host_net.proofs.players.Players.add.Goals as goal

pub place_of-place-requires : goal.place_of-place-requires
place_of-place-requires g c =
    let gs = c.self.inside.groups.items in
    let long : c.len.result ≡ length gs = c.len.ensures ∙ c.self.inside.groups.ok.0 in
    subst (λ (m : ℕ). 0 < m) (sym long) (some_groups g.J.Placing.world c.self.inside.callers gs c.self.invariant.0)

pub add-requires : goal.add-requires
add-requires g c =
    let w = g.J.Placing.world in
    let gs = c.self.inside.groups.items in
    let n = c.self.inside.callers in
    let deal = c.self.inside.deal.items in
    let p = c.args.player in
    let k = c.place_of-place.result in
    let next : caller p ≡ n = c.requires.next ∙ sym (ap (λ x. x.callers) c.self.view_is) in
    let now : c.caller-caller.result ≡ n = c.caller-caller.ensures.same ∙ next in
    let long : c.len.result ≡ length gs = c.len.ensures ∙ c.self.inside.groups.ok.0 in
    let is : k ≡ seat_of deal n (length gs) =
    seat_same k c.as_slice.result.now deal c.caller-caller.result n c.len.result (length gs) c.place_of-place.ensures c.as_slice.ensures.value now long in
    let lt : k < length gs = seat_within deal n (length gs) k (some_groups w n gs c.self.invariant.0) is in
    record {
      alone = λ clock. ap (λ x. x.clock) c.index_mut.ensures.value
          ∙ alone_index w n gs c.self.invariant.0 p next c.caller-caller.ensures.role k lt c.index_mut.result.now clock;
    }

pub invariant_of-self : goal.invariant_of-self
invariant_of-self g c =
    let gs = c.self.inside.groups.items in
    let k = c.place_of-place.result in
    let same : slice_set gs k c.add.new.self ≡ gs = ap (slice_set gs k) (c.in_err-add.ensures.err ∙ c.index_mut.ensures.value)
    ∙ set_same gs k c.index_mut.result.now in (
      subst (λ l. IsDealt g.J.Placing.world c.self.inside.callers (all_seats l)) (sym same) c.self.invariant.0,
      subst (λ l. FollowsDeal c.self.inside.deal.items (all_seats l)) (sym same) c.self.invariant.1,
    )

pub returns-in_err-add-clause-err : goal.returns-in_err-add-clause-err
returns-in_err-add-clause-err g c =
    let gs = c.self.inside.groups.items in
    let k = c.place_of-place.result in
    let same : slice_set gs k c.add.new.self ≡ gs = ap (slice_set gs k) (c.in_err-add.ensures.err ∙ c.index_mut.ensures.value)
    ∙ set_same gs k c.index_mut.result.now in
    on_error c.from_residual.result _ (ap (λ l. grouping l c.self.inside.callers c.self.inside.deal.items) same ∙ c.self.view_is)

pub invariant_of-self-2 : goal.invariant_of-self-2
invariant_of-self-2 g c =
    let w = g.J.Placing.world in
    let gs = c.self.inside.groups.items in
    let n = c.self.inside.callers in
    let deal = c.self.inside.deal.items in
    let p = c.args.player in
    let k = c.place_of-place.result in
    let next : caller p ≡ n = c.requires.next ∙ sym (ap (λ x. x.callers) c.self.view_is) in
    let now : c.caller-caller.result ≡ n = c.caller-caller.ensures.same ∙ next in
    let long : c.len.result ≡ length gs = c.len.ensures ∙ c.self.inside.groups.ok.0 in
    let is : k ≡ seat_of deal n (length gs) =
    seat_same k c.as_slice.result.now deal c.caller-caller.result n c.len.result (length gs) c.place_of-place.ensures c.as_slice.ensures.value now long in
    let lt : k < length gs = seat_within deal n (length gs) k (some_groups w n gs c.self.invariant.0) is in
    let joins = c.in_ok-add.ensures.ok ∙ ap (λ x. joined x p) c.index_mut.ensures.value in (
      subst (λ (m : ℕ). IsDealt w (m + 1) (all_seats (slice_set gs k c.add.new.self))) (sym now)
          (dealt_set w n gs c.self.invariant.0 p next c.caller-caller.ensures.role k lt c.index_mut.result.now c.add.new.self joins),
      follows_set w n gs c.self.invariant.0 p next c.caller-caller.ensures.role k lt c.index_mut.result.now deal c.self.invariant.1 is c.add.new.self joins,
    )

pub returns-clause-ok : goal.returns-clause-ok
returns-clause-ok g c =
    let gs = c.self.inside.groups.items in
    let n = c.self.inside.callers in
    let deal = c.self.inside.deal.items in
    let p = c.args.player in
    let k = c.place_of-place.result in
    let next : caller p ≡ n = c.requires.next ∙ sym (ap (λ x. x.callers) c.self.view_is) in
    let now : c.caller-caller.result ≡ n = c.caller-caller.ensures.same ∙ next in
    let long : c.len.result ≡ length gs = c.len.ensures ∙ c.self.inside.groups.ok.0 in
    let is : k ≡ seat_of deal n (length gs) =
    seat_same k c.as_slice.result.now deal c.caller-caller.result n c.len.result (length gs) c.place_of-place.ensures c.as_slice.ensures.value now long in
    let joins = c.in_ok-add.ensures.ok ∙ ap (λ x. joined x p) c.index_mut.ensures.value in
    ap (λ l. grouping l (c.caller-caller.result + 1) deal)
    (groups_set gs k c.index_mut.result.now p c.add.new.self joins ∙ ap (λ i. joined_at i gs p) is)
    ∙ (ap (λ (m : ℕ). grouping (joined_at (seat_of deal n (length gs)) gs p) (m + 1) deal) now ∙ ap (λ x. dealt x p) c.self.view_is)
