-- Plain histories: no name and no line of a reply would break its line, and a path is made of bytes.
use Rattle.std.specs.Prelude.{◌≢◌, ◌<◌, ℕ, List, [], ◌∷◌}
use Rattle.net_base.specs.declared.event.Event.{Event}
use Rattle.net_base.specs.declared.event.Event.TheVariants as event
use Rattle.net_base.specs.declared.history.Entry.{Entry}
use Rattle.net_base.specs.declared.reply.Reply.{Reply}
use Rattle.net_base.specs.declared.reply.Reply.TheVariants as reply

-- Plain.

-- bytes without blanks and newlines
abbrev pub IsClean : List ℕ → Type 0
IsClean [] = Unit {0}
IsClean (byte ∷ bytes) = (byte ≢ 32) × (byte ≢ 10) × IsClean bytes

-- a name that stands in a line as a word
abbrev pub IsWord : List ℕ → Type 0
IsWord [] = ⊥
IsWord (byte ∷ bytes) = IsClean (byte ∷ bytes)

-- bytes without newlines
abbrev pub IsLine : List ℕ → Type 0
IsLine [] = Unit {0}
IsLine (byte ∷ bytes) = (byte ≢ 10) × IsLine bytes

abbrev pub AreLines : List (List ℕ) → Type 0
AreLines [] = Unit {0}
AreLines (line ∷ lines) = IsLine line × AreLines lines

abbrev pub AreBytes : List ℕ → Type 0
AreBytes [] = Unit {0}
AreBytes (byte ∷ bytes) = (byte < 256) × AreBytes bytes

-- the name of a `use` or a `misuse` is a word; an opened path is made of bytes, so that its digits aren't the name of a file
abbrev pub IsPlainEvent : Event → Type 0
IsPlainEvent (event.OpenPath path mode) = AreBytes path
IsPlainEvent (event.Use called) = IsWord called
IsPlainEvent (event.Misuse called) = IsWord called
IsPlainEvent _ = Unit {0}

-- listed names and lines have no newlines
abbrev pub IsPlainReply : Reply → Type 0
IsPlainReply (reply.Lines lines) = AreLines lines
IsPlainReply (reply.Names names) = AreLines names
IsPlainReply _ = Unit {0}

abbrev pub IsPlain : List Entry → Type 0
IsPlain [] = Unit {0}
IsPlain (x ∷ xs) = IsPlainEvent x.event × IsPlainReply x.reply × IsPlain xs
