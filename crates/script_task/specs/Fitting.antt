-- Which replies an event can have, as far as tasks go by it.
use Rattle.std.specs.Prelude.{Bool, true, false, not, ◌||◌, nat_lt}
use Rattle.net_base.specs.declared.event.Event.{Event}
use Rattle.net_base.specs.declared.event.Event.TheVariants as event
use Rattle.net_base.specs.declared.reply.Reply.{Reply}
use Rattle.net_base.specs.declared.reply.Reply.TheVariants as reply
use Rattle.net_base.specs.Steps.{is_accepted}

-- the replies that open a file
abbrev pub is_opening : Reply → Bool
is_opening (reply.Slot n g) = true
is_opening (reply.Call n g) = true
is_opening (reply.Opened g) = true
is_opening _ = false

abbrev pub is_granted : Reply → Bool
is_granted (reply.Granted pair start limit) = true
is_granted _ = false

abbrev pub has_lines : Reply → Bool
has_lines (reply.Lines lines) = true
has_lines _ = false

-- a slot that is reserved is below 32, and nothing else is opened
abbrev pub fits_reserve : Reply → Bool
fits_reserve (reply.Slot n g) = nat_lt n 32
fits_reserve r = not (is_opening r)

-- the slot of a call is below 32, and nothing else is opened
abbrev pub fits_listen : Reply → Bool
fits_listen (reply.Call n g) = nat_lt n 32
fits_listen r = not (is_opening r)

-- the file is opened, or nothing is
abbrev pub fits_open : Reply → Bool
fits_open (reply.Opened g) = true
fits_open r = not (is_opening r)

-- a grant that isn't refused grants a pair
abbrev pub fits_grant : Reply → Bool
fits_grant (reply.Granted pair start limit) = true
fits_grant r = not (is_accepted r)

-- the replies to events that name what isn't open, or isn't so
abbrev pub is_unopened : Reply → Bool
is_unopened reply.BadFid = true
is_unopened reply.BadMode = true
is_unopened _ = false

-- no write is granted a pair, or names what isn't open
abbrev pub fits_write : Reply → Bool
fits_write r = not (is_granted r || is_unopened r)

-- the event can have this reply
abbrev pub fits : Event → Reply → Bool
fits event.Reserve r = fits_reserve r
fits (event.Listen n) r = fits_listen r
fits (event.Open f m) r = fits_open r
fits (event.OpenPath path m) r = not (is_opening r)
fits (event.Grant n g remote port) r = fits_grant r
fits (event.Use called) r = is_unopened r
fits (event.Misuse called) r = is_unopened r
fits (event.Write g text) r = fits_write r
fits _ r = not (is_granted r)
