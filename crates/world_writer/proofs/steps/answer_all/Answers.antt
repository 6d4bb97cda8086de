use Rattle.std.proofs.Common.{◌≡◌, ◌++◌, ap, ◌∙◌, arith}
use Rattle.std.specs.Prelude.{flat_map}
use Rattle.std.specs.List.{range_with_len}
use Rattle.world_writer.specs.Made.{answering}
use Rattle.world_writer.proofs.Messages.{one_more}
use Rattle.world_writer.proofs.steps.answer_all.Goals as goal

pub loop-before-preserved : goal.loop-before-preserved
loop-before-preserved c =
    one_more answering c.args.steps.now c.loop-before.steps c.answer.new.steps c.loop-before.before c.loop-before.invariant c.in_ok-answer.ensures

pub returns : goal.returns
returns c =
    let end : c.loop-before.before ≡ c.args.n = omega arith in
    c.loop-before.invariant ∙ ap (λ n. c.args.steps.now ++ flat_map answering (range_with_len 1 n)) end
