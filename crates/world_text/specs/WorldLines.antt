-- The lines of a world behind one another: what each makes of the world so far, or the least cause for which it is bad there.
--     *_cause          the least cause of a kind of line, where one holds
--     after            the world so far behind a line
--     line_verdict     any line of bytes
use Rattle.std.specs.Prelude.{ℕ, ◌+◌, ◌==◌, Bool, false, not, ◌&&◌, ◌||◌, List, [], ◌∷◌, ◌++◌, length, map, codes, bytes_eq, Option, Some, None, Result, Ok, Err, is_none, nat_lt, nat_le, bit_and, if◌then◌else◌}
use Rattle.std.specs.List.{list_any, last_or, position_or_len}
use Rattle.std.specs.Option.{option_map_or}
use Rattle.net_base.specs.declared.address.Proto.{Proto}
use Rattle.net_base.specs.declared.world.Fate.{Fate}
use Rattle.net_base.specs.declared.world.FateRange.{FateRange}
use Rattle.net_base.specs.declared.world.HostSpec.{HostSpec}
use Rattle.net_base.specs.declared.world.Iface.{Iface}
use Rattle.net_base.specs.declared.world.MediumSpec.{MediumSpec}
use Rattle.net_base.specs.declared.world.RouteLine.{RouteLine}
use Rattle.net_base.specs.declared.world.Script.{Script}
use Rattle.net_base.specs.declared.world.Step.{Step}
use Rattle.net_base.specs.declared.world.World.{World}
use Rattle.net_base.specs.declared.timer.Timers.{Timers}
use Rattle.net_base.specs.declared.timer.Timers.TheVariants.{Fixed, Measured}
use Rattle.net_base.specs.NdbText.{begins, is_hash, is_empty}
use Rattle.net_base.specs.Routes.{has_ip}
use Rattle.net_base.specs.World.{is_mask, overlap}
use Rattle.world_text.specs.declared.line.Frames.{Frames}
use Rattle.world_text.specs.declared.line.Frames.TheVariants as frames
use Rattle.world_text.specs.declared.line.HostLine.{HostLine}
use Rattle.world_text.specs.declared.line.HostLine.TheVariants as host
use Rattle.world_text.specs.declared.line.LineCause.{LineCause}
use Rattle.world_text.specs.declared.line.LineCause.TheVariants as cause
use Rattle.world_text.specs.declared.line.MediumLine.{MediumLine}
use Rattle.world_text.specs.declared.line.MediumLine.TheVariants as medium
use Rattle.world_text.specs.declared.line.WorldLine.{WorldLine}
use Rattle.world_text.specs.declared.line.WorldLine.TheVariants as line
use Rattle.world_text.specs.LineReading.{read_line}

-- The world so far.

pub record Draft : Type 0 where
  -- the group of the last line, 0 before the first
  pub group : ℕ
  pub end : ℕ
  pub seed : ℕ
  pub timers : Timers
  pub media : List MediumSpec
  -- the names of the media whose rates were set
  pub rated : List (List ℕ)
  pub hosts : List HostSpec
  pub scripts : List Script

-- what no line has said stands at its least value
abbrev pub opening_draft : Draft
opening_draft = record { group = 0; end = 1; seed = 0; timers = Fixed; media = []; rated = []; hosts = []; scripts = [] }

-- the last group is a later one, to which no line goes back
abbrev pub is_past : ℕ → Draft → Bool
is_past group d = nat_lt group d.group

-- the group isn't reached yet
abbrev pub is_before : ℕ → Draft → Bool
is_before group d = nat_lt d.group group

-- a cause that holds, else the least of greater ones
abbrev pub refuse : LineCause → Bool → Option LineCause → Option LineCause
refuse c holds greater = if holds then Some c else greater

-- a list with another last element
abbrev pub at_last : {A : Type 0} → (A → A) → List A → List A
at_last f [] = []
at_last f (x ∷ []) = f x ∷ []
at_last f (x ∷ y ∷ xs) = x ∷ at_last f (y ∷ xs)

-- The first lines.

abbrev pub end_cause : Draft → Option LineCause
end_cause d = refuse cause.OutOfOrder (is_past 1 d) None

abbrev pub seed_cause : Draft → Option LineCause
seed_cause d =
    refuse cause.OutOfOrder (is_past 2 d)
    (refuse cause.MissingPart (is_before 2 d) None)

-- Media.

abbrev pub is_medium_named : List ℕ → MediumSpec → Bool
is_medium_named called s = bytes_eq called s.name

abbrev pub has_medium : List ℕ → Draft → Bool
has_medium called d = list_any (is_medium_named called) d.media

-- the number of the medium with this name, or how many media there are
abbrev pub medium_number : List ℕ → Draft → ℕ
medium_number called d = position_or_len (is_medium_named called) d.media

-- the media, where one with this name is changed
abbrev pub on_named_medium : List ℕ → (MediumSpec → MediumSpec) → List MediumSpec → List MediumSpec
on_named_medium called change media = map (λ (s : MediumSpec). if is_medium_named called s then change s else s) media

-- a medium that delivers each frame
abbrev pub plain_medium : ℕ → List ℕ → ℕ → MediumSpec
plain_medium n called mtu = record { number = n; name = called; mtu = mtu; loss = 0; twice = 0; later = 0; fates = [] }

abbrev pub with_rates : ℕ → ℕ → ℕ → MediumSpec → MediumSpec
with_rates loss twice later s = record s { loss = loss; twice = twice; later = later }

abbrev pub with_fate : FateRange → MediumSpec → MediumSpec
with_fate f s = record s { fates = s.fates ++ f ∷ [] }

abbrev pub is_rated : List ℕ → Draft → Bool
is_rated called d = list_any (bytes_eq called) d.rated

abbrev pub range_of : Frames → Fate → FateRange
range_of (frames.One n) fate = record { first = n; last = n; fate = fate }
range_of (frames.Range first last) fate = record { first = first; last = last; fate = fate }

-- the medium has this name and a fate for one of these frames
abbrev pub is_fated : List ℕ → FateRange → MediumSpec → Bool
is_fated called f s = is_medium_named called s && list_any (overlap f) s.fates

abbrev pub has_fate : List ℕ → FateRange → Draft → Bool
has_fate called f d = list_any (is_fated called f) d.media

abbrev pub medium_cause : Draft → List ℕ → Option LineCause
medium_cause d called =
    refuse cause.NameTwice (has_medium called d)
    (refuse cause.OverLimit (nat_le 4 (length d.media))
    (refuse cause.OutOfOrder (is_past 4 d)
    (refuse cause.MissingPart (is_before 3 d) None)))

abbrev pub rates_cause : Draft → List ℕ → ℕ → Option LineCause
rates_cause d called total =
    refuse cause.UnknownName (not (has_medium called d))
    (refuse cause.OutOfOrder (is_past 4 d || is_rated called d)
    (refuse cause.FateClash (nat_lt 1000 total) None))

abbrev pub fate_cause : Draft → List ℕ → FateRange → Option LineCause
fate_cause d called f =
    refuse cause.UnknownName (not (has_medium called d))
    (refuse cause.OutOfOrder (is_past 4 d)
    (refuse cause.FateClash (has_fate called f d) None))

abbrev pub medium_line_cause : Draft → MediumLine → Option LineCause
medium_line_cause d (medium.Medium called mtu) = medium_cause d called
medium_line_cause d (medium.Rates called loss twice later) = rates_cause d called (loss + twice + later)
medium_line_cause d (medium.Fate called f x) = fate_cause d called (range_of f x)

abbrev pub after_medium_line : Draft → MediumLine → Draft
after_medium_line d (medium.Medium called mtu) = record d { group = 4; media = d.media ++ plain_medium (length d.media) called mtu ∷ [] }
after_medium_line d (medium.Rates called loss twice later) =
    record d { media = on_named_medium called (with_rates loss twice later) d.media; rated = d.rated ++ called ∷ [] }
after_medium_line d (medium.Fate called f x) = record d { media = on_named_medium called (with_fate (range_of f x)) d.media }

-- Hosts.

abbrev pub is_host_named : List ℕ → HostSpec → Bool
is_host_named called h = bytes_eq called h.name

abbrev pub has_host : List ℕ → Draft → Bool
has_host called d = list_any (is_host_named called) d.hosts

-- the number of the host with this name, or how many hosts there are
abbrev pub host_number : List ℕ → Draft → ℕ
host_number called d = position_or_len (is_host_named called) d.hosts

abbrev pub bare_host : List ℕ → List Proto → HostSpec
bare_host called nets = record { name = called; nets = nets; ifaces = []; routes = []; starts = [] }

-- the host that lines stand under
abbrev pub host_under : Draft → Option HostSpec
host_under d = if d.group == 5 then last_or None d.hosts else None

-- lines stand under a host for which this holds
abbrev pub is_under : (HostSpec → Bool) → Draft → Bool
is_under holds d = option_map_or holds (host_under d) false

abbrev pub has_iface_on : ℕ → HostSpec → Bool
has_iface_on m h = list_any (λ (i : Iface). i.medium == m) h.ifaces

-- an interface's network is this one
abbrev pub is_network : ℕ → ℕ → Iface → Bool
is_network net mask i = (bit_and i.ip i.mask == net) && (i.mask == mask)

-- a route leads to this network
abbrev pub leads_to : ℕ → ℕ → RouteLine → Bool
leads_to net mask l = (l.net == net) && (l.mask == mask)

-- the network is an interface's, or a route leads to it
abbrev pub knows_network : ℕ → ℕ → HostSpec → Bool
knows_network net mask h = list_any (is_network net mask) h.ifaces || list_any (leads_to net mask) h.routes

-- an address is on the network of an interface
abbrev pub is_near : ℕ → Iface → Bool
is_near ip i = bit_and ip i.mask == bit_and i.ip i.mask

abbrev pub reaches : ℕ → HostSpec → Bool
reaches ip h = list_any (is_near ip) h.ifaces

-- a mask whose ones are a prefix, and no bit of the net outside it
abbrev pub is_net : ℕ → ℕ → Bool
is_net net mask = is_mask mask && (bit_and net mask == net)

abbrev pub host_cause : Draft → List ℕ → Option LineCause
host_cause d called =
    refuse cause.NameTwice (has_host called d)
    (refuse cause.OverLimit (nat_le 8 (length d.hosts))
    (refuse cause.OutOfOrder (is_past 5 d)
    (refuse cause.MissingPart (is_before 4 d) None)))

-- a medium without a name has no interface, so the first two causes exclude one another
abbrev pub if_cause : Draft → List ℕ → ℕ → ℕ → Option LineCause
if_cause d called ip mask =
    refuse cause.UnknownName (not (has_medium called d))
    (refuse cause.NameTwice (is_under (has_iface_on (medium_number called d)) d)
    (refuse cause.AddressTwice (list_any (has_ip ip) d.hosts)
    (refuse cause.OutOfOrder (is_none (host_under d))
    (refuse cause.BadMask (not (is_mask mask))
    (refuse cause.RouteTwice (is_under (knows_network (bit_and ip mask) mask) d) None)))))

abbrev pub route_cause : Draft → RouteLine → Option LineCause
route_cause d l =
    refuse cause.OutOfOrder (is_none (host_under d))
    (refuse cause.BadMask (not (is_net l.net l.mask))
    (refuse cause.RouteTwice (is_under (knows_network l.net l.mask) d)
    (refuse cause.FarGateway (not (is_under (reaches l.gateway) d)) None)))

abbrev pub start_cause : Draft → Option LineCause
start_cause d = refuse cause.OutOfOrder (is_none (host_under d)) None

abbrev pub host_line_cause : Draft → HostLine → Option LineCause
host_line_cause d (host.If called ip mask) = if_cause d called ip mask
host_line_cause d (host.Route l) = route_cause d l
host_line_cause d (host.Start start) = start_cause d

abbrev pub with_iface : Iface → HostSpec → HostSpec
with_iface i h = record h { ifaces = h.ifaces ++ i ∷ [] }

abbrev pub with_route : RouteLine → HostSpec → HostSpec
with_route l h = record h { routes = h.routes ++ l ∷ [] }

abbrev pub with_start : ℕ → HostSpec → HostSpec
with_start n h = record h { starts = h.starts ++ n ∷ [] }

-- a host with one more line, where the medium has this number
abbrev pub with_host_line : (List ℕ → ℕ) → HostLine → HostSpec → HostSpec
with_host_line number (host.If called ip mask) h = with_iface (record { medium = number called; ip = ip; mask = mask }) h
with_host_line number (host.Route l) h = with_route l h
with_host_line number (host.Start start) h = with_start start h

abbrev pub after_host_line : Draft → HostLine → Draft
after_host_line d l = record d { hosts = at_last (with_host_line (λ called. medium_number called d) l) d.hosts }

-- Scripts.

abbrev pub empty_script : ℕ → Script
empty_script n = record { host = n; steps = [] }

abbrev pub with_step : Step → Script → Script
with_step x s = record s { steps = s.steps ++ x ∷ [] }

abbrev pub script_cause : Draft → List ℕ → Option LineCause
script_cause d called =
    refuse cause.UnknownName (not (has_host called d))
    (refuse cause.OverLimit (nat_le 32 (length d.scripts)) None)

-- a step stands under a script
abbrev pub step_cause : Draft → Option LineCause
step_cause d = refuse cause.OutOfOrder (is_before 6 d) None

-- Lines.

-- the first line stands again
abbrev pub again_cause : Draft → Option LineCause
again_cause d = Some cause.OutOfOrder

abbrev pub ndb_cause : Draft → Option LineCause
ndb_cause d = refuse cause.MissingPart (is_before 5 d) None

-- the least cause for which a line is bad behind the lines that made this world so far, if there is one
abbrev pub line_cause : Draft → WorldLine → Option LineCause
line_cause d (line.Networld kind) = again_cause d
line_cause d (line.End moment) = end_cause d
line_cause d (line.Seed seed) = seed_cause d
line_cause d (line.OfMedium l) = medium_line_cause d l
line_cause d (line.Host called nets) = host_cause d called
line_cause d (line.OfHost l) = host_line_cause d l
line_cause d (line.Script called) = script_cause d called
line_cause d (line.OfScript s) = step_cause d
line_cause d line.Ndb = ndb_cause d

-- the world so far behind a line that isn't bad
abbrev pub after : Draft → WorldLine → Draft
after d (line.Networld kind) = record d { group = 1; timers = kind }
after d (line.End moment) = record d { group = 2; end = moment }
after d (line.Seed seed) = record d { group = 3; seed = seed }
after d (line.OfMedium l) = after_medium_line d l
after d (line.Host called nets) = record d { group = 5; hosts = d.hosts ++ bare_host called nets ∷ [] }
after d (line.OfHost l) = after_host_line d l
after d (line.Script called) = record d { group = 6; scripts = d.scripts ++ empty_script (host_number called d) ∷ [] }
after d (line.OfScript s) = record d { scripts = at_last (with_step s) d.scripts }
after d line.Ndb = d

-- the world, without its databases
abbrev pub world_of : Draft → World
world_of d = record { end = d.end; seed = d.seed; timers = d.timers; media = d.media; hosts = d.hosts; scripts = d.scripts; dbs = [] }

-- what a line is: it goes on with the world so far, or it begins the bundle of the world, or it is bad
pub data Verdict : Type 0 where
  Goes : Draft → Verdict
  Begins : World → Verdict
  Bad : LineCause → Verdict

-- a line that isn't bad
abbrev pub good_line : Draft → WorldLine → Verdict
good_line d line.Ndb = Begins (world_of d)
good_line d l = Goes (after d l)

abbrev pub unless : Option LineCause → Verdict → Verdict
unless None v = v
unless (Some c) v = Bad c

abbrev pub judged_line : Draft → Result WorldLine LineCause → Verdict
judged_line d (Ok l) = unless (line_cause d l) (good_line d l)
judged_line d (Err c) = Bad c

-- empty lines and comments
abbrev pub passes_over : List ℕ → Bool
passes_over text = is_empty text || begins is_hash text

-- the first line names the kind of timers
abbrev pub first_line : Draft → List ℕ → Verdict
first_line d text =
    if bytes_eq text (codes "networld 1") then Goes (after d (line.Networld Fixed))
    else (if bytes_eq text (codes "networld 2") then Goes (after d (line.Networld Measured))
    else Bad cause.FirstLine)

-- what a line is, behind the lines that made this world so far
abbrev pub line_verdict : Draft → List ℕ → Verdict
line_verdict d text =
    if passes_over text then Goes d
    else (if d.group == 0 then first_line d text else judged_line d (read_line text))
