-- What is told of the replies of a session, and its messages served so: as they are to be, wherever the replies are those of a session.
use Rattle.std.specs.Prelude.{◌≡◌, ℕ, ◌||◌, Bool, true, false, List, [], Option, Some, None, if◌then◌else◌}
use Rattle.std.specs.List.{list_all}
use Rattle.net_base.specs.declared.reply.Reply.{Reply}
use Rattle.net_base.specs.declared.reply.Reply.TheVariants as reply
use Rattle.net_base.specs.declared.world.Step.{Step}
use Rattle.net_base.specs.Steps.{Ends, Names, play_of}
use Rattle.net_base.specs.declared.ninep.Rmsg.{Rmsg}
use Rattle.net_base.specs.declared.ninep.Rmsg.TheVariants as r
use Rattle.net_base.specs.declared.ninep.Tmsg.{Tmsg}
use Rattle.net_base.specs.NinepMessages.{r_bytes, t_tag}
use Rattle.net_base.specs.SessionAnswers.{found_by, granted, is_granting, printed}
use Rattle.net_base.specs.SessionScript.{table_next, message_step}
use Rattle.net_base.specs.Server.{Doing, Gives, Server, doing_of}
use Rattle.net_base.specs.Session.{State, first, told}
use Rattle.net_base.specs.SessionTable.{Table}

-- what refuses an event of a session, and what grants a pair, after which its conversation is awaited: a few short words
abbrev pub is_brief : Reply → Bool
is_brief (reply.CsRefused n) = true
is_brief reply.NoFile = true
is_brief reply.BadMode = true
is_brief reply.BadFid = true
is_brief reply.NoSlot = true
is_brief (reply.Granted pair start limit) = true
is_brief (reply.WrongState s) = true
is_brief reply.NoRoute = true
is_brief reply.NoPort = true
is_brief reply.SelfPair = true
is_brief (reply.PairUsed k) = true
is_brief (reply.PortTaken n) = true
is_brief reply.Stale = true
is_brief (reply.Hungup c) = true
is_brief reply.NotOpen = true
is_brief reply.ZeroWrite = true
is_brief (reply.TooLong length limit) = true
is_brief (reply.BadCtl n) = true
is_brief _ = false

-- a reply to an event of a session: it grants it, or is brief
abbrev pub is_reply_told : Reply → Bool
is_reply_told x = is_granting x || is_brief x

abbrev pub AreTold : List Reply → Type 0
AreTold rs = list_all is_reply_told rs ≡ true

-- a brief reply whole, and nothing of another one
abbrev pub told_reply_text : Reply → List ℕ
told_reply_text x = if is_brief x then printed x else []

-- ---- served so

abbrev pub told_by_reply : Table → Tmsg → Reply → Rmsg
told_by_reply table m x = if is_granting x then granted table m x else r.Error (t_tag m) (told_reply_text x)

abbrev pub last_by : State → Tmsg → Names → Option Reply → Doing State
last_by s m names None = told s m
last_by s m names (Some x) = Gives (r_bytes (told_by_reply s.table m x)) (record { table = table_next s.table m; found = found_by s.table s.found m x; names = names })

abbrev pub steps_by : ℕ → State → Tmsg → Option Step → Doing State
steps_by h s m None = told s m
steps_by h s m (Some step) = doing_of (play_of h s.names step) None (last_by s m)

abbrev pub session_of : ℕ → Server State Tmsg
session_of h =
    record {
      opening = first;
      names = λ (s : State). s.names;
      serves = λ (s : State) (m : Tmsg). steps_by h s m (message_step s.table m);
      closes = λ (s : State). Ends s.names;
    }
