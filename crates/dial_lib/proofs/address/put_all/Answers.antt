use Rattle.std.proofs.Common.{◌++◌, take, drop, ap, ◌∙◌, sym}
use Rattle.dial_lib.specs.Written.{call_written}
use Rattle.net_base.proofs.Shared.{laid_more}
use Rattle.dial_lib.proofs.Pieces.{end_is, has_room, written_more}
use Rattle.dial_lib.proofs.address.put_all.Goals as goal

pub put-at-requires : goal.put-at-requires
put-at-requires c = has_room c.args.texts.now c.loop-text.text-index _ c.loop-text.at c.args.out.now c.loop-text.out c.loop-text.invariant.at c.loop-text.invariant.text c.requires c.loop-text-test.true

pub loop-text-preserved : goal.loop-text-preserved
loop-text-preserved c =
    let i = c.loop-text.text-index in
    record {
      at = end_is c.args.texts.now i _ c.loop-text.at c.put-at.result c.loop-text.invariant.at c.put-at.ensures.end c.loop-text-test.true;
      text = laid_more (call_written (take i c.args.texts.now)) _ c.args.out.now c.loop-text.out c.put-at.new.out c.loop-text.at c.put-at.result
          c.loop-text.invariant.at c.loop-text.invariant.text c.put-at.ensures.end c.put-at.ensures.text
          ∙ ap (λ xs. xs ++ drop c.put-at.result c.args.out.now) (sym (written_more c.args.texts.now i _ c.loop-text-test.true));
    }
