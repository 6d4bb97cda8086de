use Rattle.std.proofs.Common.{◌++◌, take, drop, ap, ◌∙◌, sym}
use Rattle.ctl_words.specs.Written.{written}
use Rattle.net_base.proofs.Shared.{laid_more}
use Rattle.ctl_words.proofs.Pieces.{end_is, has_room, written_more}
use Rattle.ctl_words.proofs.spelled.write.Goals as goal

pub put_piece-at-requires : goal.put_piece-at-requires
put_piece-at-requires c = has_room c.args.pieces.now c.loop-piece.piece-index _ c.loop-piece.at c.loop-piece.invariant.at c.requires c.loop-piece-test.true

pub loop-piece-preserved : goal.loop-piece-preserved
loop-piece-preserved c =
    let i = c.loop-piece.piece-index in
    record {
      at = end_is c.args.pieces.now i _ c.loop-piece.at c.put_piece-at.result c.loop-piece.invariant.at c.put_piece-at.ensures.end c.loop-piece-test.true;
      text = laid_more (written (take i c.args.pieces.now)) _ c.args.out.now c.loop-piece.out c.put_piece-at.new.out c.loop-piece.at c.put_piece-at.result
          c.loop-piece.invariant.at c.loop-piece.invariant.text c.put_piece-at.ensures.end c.put_piece-at.ensures.text
          ∙ ap (λ xs. xs ++ drop c.put_piece-at.result c.args.out.now) (sym (written_more c.args.pieces.now i _ c.loop-piece-test.true));
    }
