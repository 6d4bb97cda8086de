-- Pages.
use Rattle.std.proofs.Common.{◌≡◌, ℕ, List, ◌++◌, drop, length, subst, sym, ap, ◌∙◌, append_assoc}
use Rattle.std.proofs.Math.Seq.{drop-append_seam}
use Rattle.net_base.specs.declared.history.Entry.{Entry}
use Rattle.net_base.specs.declared.world.World.{World}
use Rattle.end_rows.specs.EndRows.{end_rows}
use Rattle.packet_rows.specs.PacketRows.{packets_text}
use Rattle.replay_views.specs.Steps.{step_rows}
use Rattle.page_payload.specs.Parts.{ReadsBack}
use Rattle.page_payload.proofs.Shared.{payload_back}
use Rattle.net_page.specs.Page.{page, payload}

pub page_back : (head tail input : List ℕ) (w : World) (h : List Entry) → ReadsBack (drop (length head) (page head tail input w h)) input
page_back head tail input w h =
    subst (λ (t : List ℕ). ReadsBack t input) (sym (ap (drop (length head)) (append_assoc head (payload input w h) tail) ∙ drop-append_seam head (payload input w h ++ tail)))
    (payload_back input (packets_text w h) (step_rows input w h) (end_rows w h) tail)
