use Rattle.std.proofs.Common.{◌≢◌, [], ap, sym, subst, ◌∙◌}
use Rattle.duties.specs.Queue.{work_of_duty}
use Rattle.host_net.specs.declared.player.Played.{Played}
use Rattle.host_net.specs.Playing.{PlaysOn}
use Rattle.net_guests.proofs.Shared.{first_some}
use Rattle.host_net.proofs.Counting.{counts_stay}
use Rattle.host_net.proofs.Keeping.{duty_keeps, duty_plays, duty_stays, playing}
use Rattle.host_net.proofs.player.Net+J+WorldActor+J.play_duty.Goals as goal
use Rattle.net_base.proofs.Shared.{first_of}

pub invariant_of-player : goal.invariant_of-player
invariant_of-player g c =
    let p = c.player.inside in
    let some : p.guest.owed ≢ [] = λ none. c.requires.owes (sym (ap (λ x. x.visit.owed) c.player.view_is) ∙ none) in
    let first = first_some p.guest.owed some in
    let w = g.J.Placing.world in
    let new = c.serve.new.guest in
    let same = c.serve.ensures.same in
    let takes = c.serve.ensures.turn first.0 first.1 in (
      duty_keeps g.J.Placing.tasks w first.0 p.guest new same c.serve.ensures.names _ (first_of p.guest.owed first.0 first.1)
          c.serve.result takes g.T.WholeTask.Goes p.role p.task p.lost c.player.invariant.0,
      λ counts. counts_stay g.T.WholeTask.Plays w p.guest new p.task p.lost p.before (c.player.invariant.1 counts) same.caller c.serve.ensures.names
          (duty_stays g.J.Placing.tasks w first.0 p.guest new same c.serve.ensures.names first.0.actor (work_of_duty first.0) c.serve.result takes),
    )

pub returns-clause-turn : goal.returns-clause-turn
returns-clause-turn g c =
    let w = g.J.Placing.world in
    let p = c.player.inside in
    let some : p.guest.owed ≢ [] = λ none. c.requires.owes (sym (ap (λ x. x.visit.owed) c.player.view_is) ∙ none) in
    let first = first_some p.guest.owed some in
    let new = playing c.serve.new.guest p.role p.task p.lost p.counts in
    subst (λ x. PlaysOn g.J.Placing.tasks w x c.played_of.result new) c.player.view_is
    (subst (λ (r : Played). PlaysOn g.J.Placing.tasks w (playing p.guest p.role p.task p.lost p.counts) r new) (sym c.played_of.ensures)
    (duty_plays g.J.Placing.tasks w first.0 p.guest c.serve.new.guest c.serve.ensures.same c.serve.ensures.names _ (first_of p.guest.owed first.0 first.1) c.serve.result
    (c.serve.ensures.turn first.0 first.1) p.role p.task p.lost p.counts))
