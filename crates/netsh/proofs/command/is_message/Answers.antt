use Rattle.std.proofs.Common.{Bool, ◌&&◌, ap, sym, ◌∙◌}
use Rattle.std.specs.Prelude.{is_some}
use Rattle.net_base.specs.Hexadecimal.{hex_bytes}
use Rattle.netsh.proofs.Messages.{message_is}
use Rattle.netsh.proofs.command.is_message.Goals as goal

pub returns-then-is_within : goal.returns-then-is_within
returns-then-is_within c =
    c.are_pairs.ensures
    ∙ sym (message_is c.args.word.now ∙ ap (λ (fits : Bool). fits && is_some (hex_bytes c.args.word.now)) (sym c.is_within.ensures ∙ c.if-is_within.true))
