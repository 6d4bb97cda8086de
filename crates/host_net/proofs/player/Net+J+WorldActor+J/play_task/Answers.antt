use Rattle.std.proofs.Common.{◌≡◌, [], None, Some, ap, sym, subst, ◌∙◌}
use Rattle.host_net.specs.declared.player.Played.TheVariants as played
use Rattle.host_net.specs.Playing.{PlaysOn}
use Rattle.host_net.proofs.Counting.{heard_counts}
use Rattle.host_net.proofs.Keeping.{playing}
use Rattle.host_net.proofs.Telling.{heard_keeps, heard_plays, through_plays}
use Rattle.host_net.proofs.player.Net+J+WorldActor+J.play_task.Goals as goal

pub returns-in-Ok-None-clause-turn : goal.returns-in-Ok-None-clause-turn
returns-in-Ok-None-clause-turn g c =
    let t = g.T.WholeTask in
    let p = c.player.inside in
    let free : p.guest.owed ≡ [] = ap (λ x. x.visit.owed) c.player.view_is ∙ c.requires.free in
    let script = ap (λ x. x.role) c.player.view_is ∙ c.requires.script in
    let none : t.asks p.task p.guest.names ≡ None =
    ap (t.asks p.task) (sym c.fids.ensures) ∙ (sym (c.in-Ok-None.ensures) ∙ c.in-Ok-None.field-0-is) in
    subst (λ x. PlaysOn g.J.Placing.tasks g.J.Placing.world x played.Waits x) c.player.view_is
    (through_plays t.asks t.after g.T.WholeTask.Goes g.met.T.WholeTask.asks_there g.met.T.WholeTask.goes_there g.J.Placing.tasks g.J.Placing.world p.guest p.role p.task p.lost p.counts script
    c.if-player.false c.player.invariant.0 free none)

pub invariant_of-player : goal.invariant_of-player
invariant_of-player g c =
    let t = g.T.WholeTask in
    let p = c.player.inside in
    let free : p.guest.owed ≡ [] = ap (λ x. x.visit.owed) c.player.view_is ∙ c.requires.free in
    let script = ap (λ x. x.role) c.player.view_is ∙ c.requires.script in
    let asks_it : Some c.in-Ok-Some.request ≡ t.asks p.task p.guest.names = sym c.in-Ok-Some.field-0-is
    ∙ (c.in-Ok-Some.ensures ∙ ap (t.asks p.task) c.fids.ensures) in (
      heard_keeps t.asks t.after g.T.WholeTask.Goes g.met.T.WholeTask.asks_there g.met.T.WholeTask.goes_there g.J.Placing.tasks g.J.Placing.world p.guest c.operate_at-turn.new.guest
          c.operate_at-turn.ensures.same p.role p.task p.lost
          script c.if-player.false c.player.invariant.0 free c.in-Ok-Some.request asks_it c.locks_keep_actors.ensures.state
          c.replies_fit.ensures.works c.operate_at-turn.result
          c.operate_at-turn.ensures.turn c.hear.result c.hear.new.task c.hear.new.lost c.hear.ensures.heard,
      λ counts. heard_counts g.T.WholeTask.Plays g.J.Placing.world g.J.Placing.tasks t.asks t.after g.met.T.WholeTask.plays_on p.guest c.operate_at-turn.new.guest
          c.operate_at-turn.ensures.same p.role
          script c.player.invariant.0.role_is p.task p.lost c.if-player.false p.before (c.player.invariant.1 counts)
          free c.in-Ok-Some.request asks_it c.locks_keep_actors.ensures.state
          c.replies_fit.ensures.works c.operate_at-turn.result c.operate_at-turn.ensures.turn c.hear.result c.hear.new.task c.hear.new.lost c.hear.new.before
          c.hear.ensures.heard c.hear.ensures.counts,
    )

pub returns-clause-turn : goal.returns-clause-turn
returns-clause-turn g c =
    let t = g.T.WholeTask in
    let p = c.player.inside in
    let free : p.guest.owed ≡ [] = ap (λ x. x.visit.owed) c.player.view_is ∙ c.requires.free in
    let script = ap (λ x. x.role) c.player.view_is ∙ c.requires.script in
    let asks_it : Some c.in-Ok-Some.request ≡ t.asks p.task p.guest.names = sym c.in-Ok-Some.field-0-is
    ∙ (c.in-Ok-Some.ensures ∙ ap (t.asks p.task) c.fids.ensures) in
    subst (λ x. PlaysOn g.J.Placing.tasks g.J.Placing.world x c.hear.result (playing c.operate_at-turn.new.guest p.role c.hear.new.task c.hear.new.lost p.counts))
    c.player.view_is
    (heard_plays t.asks t.after g.T.WholeTask.Goes g.met.T.WholeTask.asks_there g.met.T.WholeTask.goes_there g.J.Placing.tasks g.J.Placing.world p.guest c.operate_at-turn.new.guest
    c.operate_at-turn.ensures.same p.role p.task p.lost
    script c.if-player.false c.player.invariant.0 free c.in-Ok-Some.request asks_it c.locks_keep_actors.ensures.state c.replies_fit.ensures.works
    c.operate_at-turn.result
    c.operate_at-turn.ensures.turn c.hear.result c.hear.new.task c.hear.new.lost c.hear.ensures.heard p.counts)
