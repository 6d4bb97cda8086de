-- A view as the message that it shows.
use Rattle.std.specs.Prelude.{ℕ, List}
use Rattle.net_base.specs.declared.il.IlKind.{IlKind}
use Rattle.net_base.specs.declared.il.IlMsg.{IlMsg}

abbrev pub message_in : IlKind → ℕ → ℕ → ℕ → List ℕ → IlMsg
message_in kind spec id ack text = record { kind = kind; spec = spec; id = id; ack = ack; text = text }
