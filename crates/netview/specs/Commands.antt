-- The commands as the program reads them.
use Rattle.std.specs.Prelude.{Some, None}
use Rattle.netview.specs.Words as words
use Rattle.netview.specs.declared.command.Command.{Command}
use Rattle.netview.specs.declared.command.Command.TheVariants as command
use Rattle.netview.specs.declared.command.View.{View}
use Rattle.netview.specs.declared.command.View.TheVariants as view

-- what is to be shown of a history
abbrev pub view_read : View → words.View
view_read view.Capture = words.Pcap None
view_read (view.CaptureOf name) = words.Pcap (Some name.now)
view_read view.CaptureInBlocks = words.Pcapng
view_read view.Json = words.Json
view_read (view.Page head tail) = words.Page head.now tail.now
view_read view.Chart = words.Chart
view_read view.ChartOfTalks = words.ChartOfTalks
view_read view.Steps = words.Steps
view_read view.Words = words.Words

-- the command that was read
abbrev pub command_read : Command → words.Command
command_read (command.Show asked) = words.Show (view_read asked)
command_read command.Lint = words.Lint
