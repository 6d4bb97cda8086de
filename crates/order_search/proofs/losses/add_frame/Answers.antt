use Rattle.std.proofs.Common.{arith, sym, ap, ◌∙◌}
use Rattle.std.specs.List.{list_any}
use Rattle.order_search.specs.Losses.{same_frame}
use Rattle.order_search.proofs.Losing.{frame_added}
use Rattle.order_search.proofs.losses.add_frame.Goals as goal

pub returns : goal.returns
returns c =
    frame_added c.args.lost.now.items c.push.new.self.items c.args.frame c.requires c.if-frame-eq0.false (omega arith)
    (ap (list_any (same_frame c.args.frame)) (sym c.as_slice.ensures.value) ∙ (sym c.has_frame.ensures ∙ c.if-has_frame.false)) c.in_ok-push.ensures.items
