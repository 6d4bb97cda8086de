-- The commands as the program reads them.
use Rattle.std.specs.Prelude.{Some, None}
use Rattle.net_model.specs.Words as words
use Rattle.netsh.specs.declared.command.Command.{Command}
use Rattle.netsh.specs.declared.command.Command.TheVariants as command
use Rattle.netsh.specs.declared.command.Question.{Question}
use Rattle.netsh.specs.declared.command.Question.TheVariants.{Cs, Tuples, Beside, Dns, Make, Check, Translate}

-- the command that never waits that was read
abbrev pub question_read : Question → words.Command
question_read (Cs sys query) = words.Cs sys.now query.now
question_read (Tuples attr value) = words.Query attr.now value.now None
question_read (Beside attr value other) = words.Query attr.now value.now (Some other.now)
question_read (Dns word) = words.Dns word.now
question_read (Make messages) = words.Make messages
question_read Check = words.Check
question_read Translate = words.Translate

-- the command that was read
abbrev pub command_read : Command → words.Command
command_read (command.Question question) = question_read question
command_read (command.Run workers) = words.Run workers
command_read (command.Big messages) = words.Big messages
command_read (command.Export workers) = words.Export workers
