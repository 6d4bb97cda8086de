-- Events and replies for people, in a word or two: the word of their row, and the number that tells most.
use Rattle.std.specs.Prelude.{ℕ, List, [], ◌∷◌, ◌++◌, length, codes}
use Rattle.net_base.specs.declared.event.Event.{Event}
use Rattle.net_base.specs.declared.event.Event.TheVariants as event
use Rattle.net_base.specs.declared.reply.Reply.{Reply}
use Rattle.net_base.specs.declared.reply.Reply.TheVariants as reply
use Rattle.net_base.specs.Numeral.{numeral}
use Rattle.net_base.specs.Paths.{file_name}
use Rattle.net_base.specs.StateWords.{state_word, cause_text}
use Rattle.net_base.specs.Transcript.{event_words, reply_words}

abbrev pub first_of_words : List (List ℕ) → List ℕ
first_of_words [] = []
first_of_words (word ∷ words) = word

-- a word with a number behind it
abbrev pub numbered : List ℕ → ℕ → List ℕ
numbered word n = word ++ codes " " ++ numeral n

-- a word with another one behind it
abbrev pub word_beside : List ℕ → List ℕ → List ℕ
word_beside word other = word ++ codes " " ++ other

-- bytes that are written or asked for, moments in ms, the name of a file
abbrev pub event_label : Event → List ℕ
event_label (event.Until m) = numbered (codes "until") m
event_label (event.Open f m) = word_beside (codes "open") (file_name f)
event_label (event.File g f count) = word_beside (codes "read") (file_name f)
event_label (event.Read g count) = numbered (codes "read") count
event_label (event.Write g text) = numbered (codes "write") (length text)
event_label e = first_of_words (event_words e)

-- lines, names, calls and bytes by how many there are; why a conversation is hung up
abbrev pub reply_label : Reply → List ℕ
reply_label (reply.Lines lines) = numbered (codes "lines") (length lines)
reply_label (reply.CsRefused n) = numbered (codes "csrefused") n
reply_label (reply.Names names) = numbered (codes "names") (length names)
reply_label (reply.Version n) = numbered (codes "version") n
reply_label (reply.Slot n g) = numbered (codes "slot") n
reply_label (reply.WrongState s) = word_beside (codes "wrong") (state_word s)
reply_label (reply.PairUsed k) = numbered (codes "pairused") k
reply_label (reply.PortTaken n) = numbered (codes "taken") n
reply_label (reply.Call n g) = numbered (codes "call") n
reply_label (reply.Calls calls) = numbered (codes "calls") (length calls)
reply_label (reply.To n g) = numbered (codes "to") n
reply_label (reply.Born n g start limit) = numbered (codes "born") n
reply_label (reply.Hungup c) = cause_text c
reply_label (reply.Bytes bytes) = numbered (codes "bytes") (length bytes)
reply_label (reply.Count n) = numbered (codes "count") n
reply_label (reply.TooLong length limit) = numbered (codes "toolong") length
reply_label (reply.BadCtl n) = numbered (codes "badctl") n
reply_label (reply.Laid k) = numbered (codes "laid") k
reply_label (reply.Copy k) = numbered (codes "copy") k
reply_label r = first_of_words (reply_words r)
