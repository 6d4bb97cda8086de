use Rattle.std.proofs.Common.{[], List, refl, ap, sym, subst, ◌∙◌}
use Rattle.net_base.specs.declared.world.Version.{Version}
use Rattle.net_base.specs.Next.{zone_of}
use Rattle.net_base.specs.Versions.{Tuples, database_of}
use Rattle.script_player.specs.Players.{IsAt}
use Rattle.plain_runner.proofs.CallerLaws.{next_of_script}
use Rattle.plain_runner.proofs.caller.Caller.script.Goals as goal

pub returns : goal.returns
returns c = λ w number versions is.
    let zone : Tuples = zone_of w in
    let fresh : IsAt zone c.args.script.now [] c.new-player.result =
    subst (λ (z : Tuples). IsAt z c.args.script.now [] c.new-player.result) (sym (ap (λ (vs : List Version). database_of vs 0) versions)) (c.new-player.ensures c.args.script.now) in
    let at = c.in_ok-next.ensures.same zone [] fresh in
    record {
      stands = record {
        role_is = record { is = is; at = at; before_is = c.finished-before.ensures zone c.args.script.now [] at };
        next_is = c.asked-next.ensures.asks ∙ c.in_ok-next.ensures.event zone [] fresh ∙ sym (next_of_script w [] number c.args.script.now is);
        own = c.asked-next.ensures.own;
      };
      owes = c.new.ensures;
      entries_is = refl;
    }
