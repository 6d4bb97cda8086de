use Rattle.std.proofs.Common.{◌≡◌, ◌∙◌, List, sym, subst}
use Rattle.net_base.specs.declared.history.Entry.{Entry}
use Rattle.net_base.specs.Legal.{IsLegal, IsTimed}
use Rattle.net_base.specs.Net.{moment}
use Rattle.live_run.specs.LiveRuns.{IsStatus}
use Rattle.live_run.proofs.live.finish.Goals as goal

pub returns-clause-live : goal.returns-clause-live
returns-clause-live c first from places =
    let w = c.in_ok-world.world in
    let resting = c.in_ok-world.ensures.rests in
    record {
      grown = c.in_ok-world.ensures.grown first from places;
      world = resting.rests.history.world;
      legal = subst (IsLegal w) (sym resting.history_is) resting.rests.history.legal;
      timed = subst (IsTimed w) (sym resting.history_is) resting.rests.history.timed;
      status = subst (λ (h : List Entry). IsStatus w h c.in_ok-end.end) (sym resting.history_is) c.in_ok-end.ensures.status;
      moment = subst (λ (h : List Entry). c.in_ok-end.end.moment ≡ moment w h) (sym resting.history_is) c.in_ok-end.ensures.moment;
    }

pub returns-clause-history : goal.returns-clause-history
returns-clause-history c = c.in_ok-world.ensures.history ∙ c.requires.resting.history_is
