use Rattle.std.proofs.Common.{◌≡◌, ◌++◌, ap, ◌∙◌, arith}
use Rattle.std.specs.Prelude.{flat_map}
use Rattle.std.specs.List.{range_with_len}
use Rattle.world_writer.specs.Made.{message_steps}
use Rattle.world_writer.proofs.Messages.{one_more}
use Rattle.world_writer.proofs.steps.ask_all.Goals as goal

pub loop-before-preserved : goal.loop-before-preserved
loop-before-preserved c =
    one_more message_steps c.args.steps.now c.loop-before.steps c.ask.new.steps c.loop-before.before c.loop-before.invariant c.in_ok-ask.ensures

pub returns : goal.returns
returns c =
    let end : c.loop-before.before ≡ c.args.n = omega arith in
    c.loop-before.invariant ∙ ap (λ n. c.args.steps.now ++ flat_map message_steps (range_with_len 1 n)) end
