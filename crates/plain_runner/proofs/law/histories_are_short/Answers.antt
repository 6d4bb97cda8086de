use Rattle.std.proofs.Common.{sym, subst}
use Rattle.net_base.specs.Actors.{Actor}
use Rattle.net_base.specs.Net.{works}
use Rattle.net_actors.specs.Small.{IsSmallActor}
use Rattle.plain_runner.proofs.Bounds.{few_entries, few_works, is_early}
use Rattle.plain_runner.proofs.law.histories_are_short.Goals as goal

pub returns : goal.returns
returns c =
    let within = c.callers_have_room.ensures.within in
    record {
      few = few_entries within;
      small = λ w h a world legal.
          subst (λ (s : Actor). IsSmallActor s) (sym (c.state_is_fold.ensures w h a)) (c.few_works_are_small.ensures w a (works w h a) (few_works within w h a world legal));
      early = is_early c.histories_grow.ensures.net;
    }
