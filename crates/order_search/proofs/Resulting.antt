-- The results of a run's steps.
use Rattle.std.proofs.Common.{◌≡◌, ℕ, ◌<◌, List, ◌++◌, length, Option, Some, nat_lt, sym, ap, subst, ◌∙◌, slice_get}
use Rattle.net_base.specs.declared.history.Entry.{Entry}
use Rattle.net_base.specs.declared.reply.Reply.{Reply}
use Rattle.net_base.specs.declared.world.Script.{Script}
use Rattle.net_base.specs.declared.world.World.{World}
use Rattle.net_base.specs.Next.{finished_by, own_replies, zone_of}
use Rattle.plain_runner.specs.Tracks.{Tracks}
use Rattle.order_search.specs.declared.marks.Latest.{Latest}
use Rattle.order_search.specs.declared.walk.Walk.{Walk}
use Rattle.order_search.specs.Marks.{IsLatest, latest_at, line_of, replies_of}
use Rattle.order_search.specs.Walks.{IsWalk}
use Rattle.order_search.proofs.Marking.{step_line}

-- the line of a step more
pub step_put : (w : World) (walk : Walk) (is : IsWalk w walk) (c n finished : ℕ) (s : Script) (latest : Option Latest) (out new : List ℕ) → slice_get w.scripts c ≡ Some s
    → n < length s.steps
    → ((v : World) (t : Script) → Tracks v walk.runner → slice_get v.scripts c ≡ Some t → finished ≡ finished_by (zone_of v) (own_replies walk.runner.history.entries c) t)
    → latest ≡ latest_at walk.marks c n → ((rs : List Reply) → IsLatest walk.history latest rs → new ≡ out ++ line_of (nat_lt n finished) rs)
    → new ≡ out ++ step_line (zone_of w) s (own_replies walk.history c) n
step_put w walk is c n finished s latest out new there lt at marked put =
    put (replies_of (zone_of w) s n (own_replies walk.runner.history.entries c)) told
    ∙ (ap (λ (f : ℕ). out ++ line_of (nat_lt n f) (replies_of (zone_of w) s n (own_replies walk.runner.history.entries c))) (at w s is.tracks there)
    ∙ ap (λ (h : List Entry). out ++ step_line (zone_of w) s (own_replies h c) n) (sym is.history_is))
  where
    told : IsLatest walk.history latest (replies_of (zone_of w) s n (own_replies walk.runner.history.entries c))
    told =
        subst (λ (h : List Entry). IsLatest h latest (replies_of (zone_of w) s n (own_replies walk.runner.history.entries c))) (sym is.history_is)
        (subst (λ (o : Option Latest). IsLatest walk.runner.history.entries o (replies_of (zone_of w) s n (own_replies walk.runner.history.entries c))) (sym marked)
        ((is.marks.each c s there).each n lt))
