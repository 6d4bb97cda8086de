-- What the replies to requests do to the names that are bound.
use Rattle.std.specs.Prelude.{◌≡◌, ◌⊎◌, ℕ, true, List, Option, Some, None, if◌then◌else◌}
use Rattle.net_base.specs.declared.address.Proto.{Proto}
use Rattle.net_base.specs.declared.headers.Heard.{Heard}
use Rattle.net_base.specs.declared.names.FileName.{FileName}
use Rattle.net_base.specs.declared.names.Mode.{Mode}
use Rattle.net_base.specs.declared.names.Node.{Node}
use Rattle.net_base.specs.declared.names.Node.TheVariants as node
use Rattle.net_base.specs.declared.reply.Reply.{Reply}
use Rattle.net_base.specs.Paths.{walk}
use Rattle.net_base.specs.Steps.{Names, Fid, fid_of, is_bound, bind, unbind, hearing, openable, opened_fid}
use Rattle.script_task.specs.Holdings.{Holdings, holdings}
use Rattle.script_task.specs.declared.effect.Effect.{Effect}
use Rattle.script_task.specs.declared.effect.Effect.TheVariants.{Opens, Closes, Hears, Keeps}
use Rattle.net_base.specs.declared.request.Request.{Request}
use Rattle.net_base.specs.declared.request.Request.TheVariants as request

abbrev pub opens_as : List ℕ → Mode → Option Node → Effect
opens_as called m None = Keeps
opens_as called m (Some n) = Opens called n m

abbrev pub closes_bound : List ℕ → Option Fid → Effect
closes_bound called None = Keeps
closes_bound called (Some f) = Closes called

abbrev pub effect_heard : Heard → Effect
effect_heard heard = Hears heard

-- what the reply to a request does under these names
abbrev pub effect_of : Names → Request → Effect
effect_of names (request.Open called path m) = if is_bound names called then Keeps else opens_as called m (openable (walk path) m)
effect_of names (request.Close called) = closes_bound called (fid_of called names)
effect_of names (request.Hear called count heard) = effect_heard heard
effect_of names _ = Keeps

-- the file that the reply opens
abbrev pub opened_file : Effect → Reply → Option Fid
opened_file (Opens called n m) r = opened_fid m (Some n) r
opened_file _ r = None

abbrev pub cloned : Proto → Mode → Reply → Option Fid
cloned p m r = opened_fid m (Some (node.Clone p)) r

abbrev pub file_opened : Proto → ℕ → FileName → Mode → Reply → Option Fid
file_opened p n f m r = opened_fid m (Some (node.File p n f)) r

-- a name that is free is bound, for which the room is used
abbrev pub binds_name : List ℕ → Fid → Holdings → Holdings
binds_name called f b = if is_bound b.names called then b else holdings (bind called f b.names) None

-- the names where this was opened
abbrev pub settles_effect : Effect → Option Fid → Holdings → Holdings
settles_effect (Opens called n m) (Some f) b = binds_name called f b
settles_effect (Opens called n m) None b = b
settles_effect (Closes called) opened_file b = record b { names = unbind called b.names }
settles_effect (Hears heard) opened_file b = record b { names = hearing heard b.names }
settles_effect Keeps opened_file b = b

-- what it binds there is room for
abbrev pub EffectHasRoom : Effect → Holdings → Type 0
EffectHasRoom (Opens called n m) b = (b.reserved ≡ Some called) ⊎ (is_bound b.names called ≡ true)
EffectHasRoom _ b = Unit {0}
