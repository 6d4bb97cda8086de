-- A printed run has one plain history.
use Rattle.std.proofs.Common.{◌≡◌, ℕ, List, ◌++◌, sym, ◌∙◌}
use Rattle.net_base.specs.declared.history.Entry.{Entry}
use Rattle.net_base.specs.declared.world.World.{World}
use Rattle.net_base.specs.Plain.{IsPlain}
use Rattle.net_base.specs.Summary.{summary}
use Rattle.net_base.specs.Transcript.{history_text}
use Rattle.transcript.specs.Telling.{PrintedTell}

pub only_one : PrintedTell → (w : World) (h : List Entry) (text : List ℕ) → IsPlain h → text ≡ history_text h ++ summary w h
    → (v : World) (k : List Entry) → IsPlain k → text ≡ history_text k ++ summary v k → k ≡ h
only_one tell w h text plain is v k plain_k is_k = tell v w k h plain_k plain (sym is_k ∙ is)
