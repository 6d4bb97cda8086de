-- The words that states and causes print as.
use Rattle.std.specs.Prelude.{ℕ, List, codes}
use Rattle.net_base.specs.declared.il.Cause.{Cause}
use Rattle.net_base.specs.declared.il.Cause.TheVariants as cause
use Rattle.net_base.specs.declared.il.StateName.{StateName}
use Rattle.net_base.specs.declared.il.StateName.TheVariants as name

-- a state's word
abbrev pub state_word : StateName → List ℕ
state_word name.Free = codes "Free"
state_word name.Reserved = codes "Reserved"
state_word name.Announced = codes "Announced"
state_word name.Granted = codes "Granted"
state_word name.Withdrawn = codes "Withdrawn"
state_word name.Closed = codes "Closed"
state_word name.Syncer = codes "Syncer"
state_word name.Syncee = codes "Syncee"
state_word name.Established = codes "Established"
state_word name.Listening = codes "Listening"
state_word name.Closing = codes "Closing"
state_word name.Open = codes "Open"

-- a cause's text
abbrev pub cause_text : Cause → List ℕ
cause_text cause.Refused = codes "connection refused"
cause_text cause.TimedOut = codes "timed out"
cause_text cause.Hungup = codes "hungup"
cause_text cause.ByPeer = codes "hungup by peer"
