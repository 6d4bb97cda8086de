-- The commands as the program reads them.
use Rattle.std.specs.Option.{option_map}
use Rattle.netexplore.specs.Words as words
use Rattle.netexplore.specs.declared.command.Command.{Command}
use Rattle.netexplore.specs.declared.command.Command.TheVariants as command
use Rattle.netexplore.specs.declared.command.PartWord.{PartWord}
use Rattle.netexplore.specs.declared.command.Span.{Span}

abbrev pub part_read : PartWord → words.Part
part_read p = record { number = p.number; count = p.count }

abbrev pub span_read : Span → words.Span
span_read s = record { preemptions = s.preemptions; limit = s.limit; part = option_map part_read s.part }

-- the command that was read
abbrev pub command_read : Command → words.Command
command_read (command.Schedule seed) = words.Schedule seed
command_read (command.Outcomes span) = words.Outcomes (span_read span)
command_read (command.Witness span number) = words.Witness (span_read span) number
command_read (command.Losses losses span) = words.Losses losses (span_read span)
command_read (command.Lost losses span number) = words.Lost losses (span_read span) number
