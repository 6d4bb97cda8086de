-- A page: a head, a payload and a tail.
use Rattle.std.specs.Prelude.{ℕ, List, ◌++◌}
use Rattle.net_base.specs.declared.history.Entry.{Entry}
use Rattle.net_base.specs.declared.world.World.{World}
use Rattle.end_rows.specs.EndRows.{end_rows}
use Rattle.packet_rows.specs.PacketRows.{packets_text}
use Rattle.page_payload.specs.Parts.{payload_of}
use Rattle.replay_views.specs.Steps.{step_rows}

-- the input, and the rows of a history of its world
abbrev pub payload : List ℕ → World → List Entry → List ℕ
payload input w h = payload_of input (packets_text w h) (step_rows input w h) (end_rows w h)

abbrev pub page : List ℕ → List ℕ → List ℕ → World → List Entry → List ℕ
page head tail input w h = head ++ payload input w h ++ tail
