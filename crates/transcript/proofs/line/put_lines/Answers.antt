use Rattle.std.proofs.Common.{sym, ◌∙◌}
use Rattle.transcript.proofs.LineDigits.{hex_of_lines, behind_a_blank}
use Rattle.transcript.proofs.line.put_lines.Goals as goal

-- there are lines, so there are digits
pub returns-in_ok-put_line_digits : goal.returns-in_ok-put_line_digits
returns-in_ok-put_line_digits c =
    rw (hex_of_lines c.args.lines.now (sym c.is_empty.ensures ∙ c.if-is_empty.false))
    (behind_a_blank _ _ _ _ c.in_ok-push.ensures.ok c.in_ok-put_line_digits.ensures)
