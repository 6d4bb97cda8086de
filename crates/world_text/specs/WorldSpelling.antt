-- The text of a world as it is spelled: which lines a world has, and which texts say it. No text is read here.
use Rattle.std.specs.Prelude.{◌≡◌, ℕ, ◌+◌, ◌==◌, ◌⊎◌, ⊤, Bool, true, false, not, ◌&&◌, List, [], ◌∷◌, ◌++◌, map, filter_map, flat_map, get_or, bytes_eq, codes, decimal, Option, Some, None, if◌then◌else◌}
use Rattle.std.specs.List.{All, list_any, list_all, filter, join_with_byte, position_or_len}
use Rattle.net_base.specs.declared.address.Proto.{Proto}
use Rattle.net_base.specs.declared.world.Fate.{Fate}
use Rattle.net_base.specs.declared.world.Fate.TheVariants as fate
use Rattle.net_base.specs.declared.world.FateRange.{FateRange}
use Rattle.net_base.specs.declared.world.HostSpec.{HostSpec}
use Rattle.net_base.specs.declared.world.Iface.{Iface}
use Rattle.net_base.specs.declared.world.MediumSpec.{MediumSpec}
use Rattle.net_base.specs.declared.world.RouteLine.{RouteLine}
use Rattle.net_base.specs.declared.world.Script.{Script}
use Rattle.net_base.specs.declared.world.Step.{Step}
use Rattle.net_base.specs.declared.world.Version.{Version}
use Rattle.net_base.specs.declared.world.World.{World}
use Rattle.net_base.specs.declared.timer.Timers.{Timers}
use Rattle.net_base.specs.declared.timer.Timers.TheVariants as timers
use Rattle.net_base.specs.ControlWords.{dotted}
use Rattle.net_base.specs.NdbBundle.{database, causes_of, first_bad}
use Rattle.net_base.specs.NdbText.{is_newline, is_hash, lines_of}
use Rattle.net_base.specs.Paths.{proto_name}
use Rattle.net_base.specs.StepWords.{WordKind, AMode, ANumber, ADatagram, HexBytes, PerhapsMode, Value, ValuesOf, told_in_words}
use Rattle.net_base.specs.Transcript.{hex_word, mode_word}
use Rattle.net_base.specs.World.{IsWorld}
use Rattle.world_text.specs.declared.line.Frames.{Frames}
use Rattle.world_text.specs.declared.line.Frames.TheVariants as frames
use Rattle.world_text.specs.declared.line.HostLine.{HostLine}
use Rattle.world_text.specs.declared.line.HostLine.TheVariants as host
use Rattle.world_text.specs.declared.line.MediumLine.{MediumLine}
use Rattle.world_text.specs.declared.line.MediumLine.TheVariants as medium
use Rattle.world_text.specs.declared.line.WorldLine.{WorldLine}
use Rattle.world_text.specs.declared.line.WorldLine.TheVariants as line
use Rattle.world_text.specs.WorldLines.{is_near, range_of}

-- Words.

-- a line of words: exactly one blank stands between two
abbrev pub spaced_line : List (List ℕ) → List ℕ
spaced_line words = join_with_byte 32 words

-- the n-th name, from 0
abbrev pub nth_name : List (List ℕ) → ℕ → List ℕ
nth_name names n = get_or names n []

-- The first lines.

-- the number of a kind of timers
abbrev pub timers_word : Timers → List ℕ
timers_word timers.Fixed = codes "1"
timers_word timers.Measured = codes "2"

abbrev pub line_of_timers : Timers → List ℕ
line_of_timers kind = spaced_line (codes "networld" ∷ timers_word kind ∷ [])

abbrev pub line_of_end : ℕ → List ℕ
line_of_end moment = spaced_line (codes "end" ∷ decimal moment ∷ [])

abbrev pub line_of_seed : ℕ → List ℕ
line_of_seed seed = spaced_line (codes "seed" ∷ decimal seed ∷ [])

-- Media.

abbrev pub line_of_medium : MediumSpec → List ℕ
line_of_medium s = spaced_line (codes "medium" ∷ s.name ∷ decimal s.mtu ∷ [])

-- the rates of a medium, where one of them isn't 0
abbrev pub lines_of_rates : MediumSpec → List (List ℕ)
lines_of_rates s =
    if (s.loss == 0) && ((s.twice == 0) && (s.later == 0))
    then []
    else spaced_line (codes "rates" ∷ s.name ∷ decimal s.loss ∷ decimal s.twice ∷ decimal s.later ∷ []) ∷ []

abbrev pub fate_word : Fate → List ℕ
fate_word fate.Deliver = codes "deliver"
fate_word fate.Lose = codes "lose"
fate_word fate.Twice = codes "twice"
fate_word fate.Later = codes "later"

-- K, or K-L where there is more than one frame
abbrev pub frames_word : FateRange → List ℕ
frames_word f = if f.first == f.last then decimal f.first else decimal f.first ++ (codes "-" ++ decimal f.last)

-- a fate on the medium with this name
abbrev pub line_of_fate : List ℕ → FateRange → List ℕ
line_of_fate called f = spaced_line (codes "fate" ∷ called ∷ frames_word f ∷ fate_word f.fate ∷ [])

abbrev pub lines_of_medium : MediumSpec → List (List ℕ)
lines_of_medium s = line_of_medium s ∷ (lines_of_rates s ++ map (line_of_fate s.name) s.fates)

abbrev pub medium_names : List MediumSpec → List (List ℕ)
medium_names media = map (λ (s : MediumSpec). s.name) media

-- Hosts.

abbrev pub line_of_host : HostSpec → List ℕ
line_of_host h = spaced_line (codes "host" ∷ h.name ∷ map proto_name h.nets)

-- an interface, where the media have these names
abbrev pub line_of_iface : List (List ℕ) → Iface → List ℕ
line_of_iface media i = spaced_line (codes "if" ∷ nth_name media i.medium ∷ dotted i.ip ∷ dotted i.mask ∷ [])

abbrev pub line_of_route : RouteLine → List ℕ
line_of_route l = spaced_line (codes "route" ∷ dotted l.net ∷ dotted l.mask ∷ dotted l.gateway ∷ [])

abbrev pub line_of_start : ℕ → List ℕ
line_of_start start = spaced_line (codes "start" ∷ decimal start ∷ [])

abbrev pub lines_of_host : List (List ℕ) → HostSpec → List (List ℕ)
lines_of_host media h = line_of_host h ∷ (map (line_of_iface media) h.ifaces ++ (map line_of_route h.routes ++ map line_of_start h.starts))

abbrev pub host_names : List HostSpec → List (List ℕ)
host_names hosts = map (λ (h : HostSpec). h.name) hosts

-- Scripts.

-- the words that spell a value
abbrev pub spelled_value : (k : WordKind) → Value k → List (List ℕ)
spelled_value AMode m = mode_word m ∷ []
spelled_value PerhapsMode None = []
spelled_value PerhapsMode (Some m) = mode_word m ∷ []
spelled_value (ANumber least most) n = decimal n ∷ []
spelled_value HexBytes bytes = hex_word bytes ∷ []
spelled_value ADatagram bytes = hex_word bytes ∷ []
spelled_value _ text = text ∷ []

abbrev pub spelled_values : (ks : List WordKind) → ValuesOf ks → List (List ℕ)
spelled_values [] values = []
spelled_values (k ∷ ks) values = spelled_value k values.first ++ spelled_values ks values.rest

abbrev pub words_of_step : Step → List (List ℕ)
words_of_step s = told_in_words (λ word ks make values. word ∷ spelled_values ks values) s

abbrev pub line_of_step : Step → List ℕ
line_of_step s = spaced_line (words_of_step s)

-- a script, where the hosts have these names
abbrev pub lines_of_script : List (List ℕ) → Script → List (List ℕ)
lines_of_script hosts s = spaced_line (codes "script" ∷ nth_name hosts s.host ∷ []) ∷ map line_of_step s.steps

-- Worlds.

-- the lines of a world before `ndb`, in the order of their groups
abbrev pub lines_of_world : World → List (List ℕ)
lines_of_world w =
    line_of_timers w.timers
    ∷ line_of_end w.end
    ∷ line_of_seed w.seed
    ∷ (flat_map lines_of_medium w.media
    ++ (flat_map (lines_of_host (medium_names w.media)) w.hosts
    ++ flat_map (lines_of_script (host_names w.hosts)) w.scripts))

-- Texts.

-- lines in a row, each with a newline behind it
abbrev pub laid : List (List ℕ) → List ℕ
laid [] = []
laid (line ∷ lines) = line ++ (10 ∷ laid lines)

-- it stands on one line
abbrev pub is_line : List ℕ → Bool
is_line bytes = not (list_any is_newline bytes)

-- the line isn't empty and doesn't begin with `#`
abbrev pub speaks : List ℕ → Bool
speaks [] = false
speaks (b ∷ line) = not (is_hash b)

-- these lines stand first, then the line `ndb`, then the rest behind its newline, which it may lack where no rest is
abbrev pub IsHeaded : List ℕ → List (List ℕ) → List ℕ → Type 0
IsHeaded text lines rest = (text ≡ laid lines ++ (codes "ndb\n" ++ rest)) ⊎ ((text ≡ laid lines ++ codes "ndb") × (rest ≡ []))

-- What lines say.

-- each element has this to those before it
abbrev pub EachBehind : {A : Type 0} → (List A → A → Type 0) → List A → Type 0
EachBehind {A = A} Fits xs = (before : List A) (x : A) (rest : List A) → xs ≡ before ++ x ∷ rest → Fits before x

-- Media.

-- the name on a line that says a medium
abbrev pub name_said : MediumLine → Option (List ℕ)
name_said (medium.Medium called mtu) = Some called
name_said (medium.Rates called loss twice later) = None
name_said (medium.Fate called f x) = None

-- the name on a line of rates
abbrev pub rated_name : MediumLine → Option (List ℕ)
rated_name (medium.Medium called mtu) = None
rated_name (medium.Rates called loss twice later) = Some called
rated_name (medium.Fate called f x) = None

pub record Rates : Type 0 where
  pub loss : ℕ
  pub twice : ℕ
  pub later : ℕ

abbrev pub no_rates : Rates
no_rates = record { loss = 0; twice = 0; later = 0 }

-- the rates on a line for the medium with this name
abbrev pub rates_on : List ℕ → MediumLine → Option Rates
rates_on called (medium.Medium other mtu) = None
rates_on called (medium.Rates other loss twice later) = if bytes_eq called other then Some (record { loss = loss; twice = twice; later = later }) else None
rates_on called (medium.Fate other f x) = None

-- the fate on a line for the medium with this name
abbrev pub fate_on : List ℕ → MediumLine → Option FateRange
fate_on called (medium.Medium other mtu) = None
fate_on called (medium.Rates other loss twice later) = None
fate_on called (medium.Fate other f x) = if bytes_eq called other then Some (range_of f x) else None

-- the rates that lines set for a medium, where one does
abbrev pub rates_said : List ℕ → List MediumLine → Rates
rates_said called lines = get_or (filter_map (rates_on called) lines) 0 no_rates

-- a medium with the rates and the fates that lines say of its name
abbrev pub medium_said : List MediumLine → ℕ → List ℕ → ℕ → MediumSpec
medium_said lines n called mtu = record {
  number = n;
  name = called;
  mtu = mtu;
  loss = (rates_said called lines).loss;
  twice = (rates_said called lines).twice;
  later = (rates_said called lines).later;
  fates = filter_map (fate_on called) lines;
}

-- the media that the latter lines name, with what all lines say of them, numbered from n
abbrev pub media_named : List MediumLine → ℕ → List MediumLine → List MediumSpec
media_named all n [] = []
media_named all n (medium.Medium called mtu ∷ lines) = medium_said all n called mtu ∷ media_named all (n + 1) lines
media_named all n (medium.Rates called loss twice later ∷ lines) = media_named all n lines
media_named all n (medium.Fate called f x ∷ lines) = media_named all n lines

abbrev pub media_said : List MediumLine → List MediumSpec
media_said lines = media_named lines 0 lines

-- one of the lines says a medium with this name
abbrev pub SaysMedium : List ℕ → List MediumLine → Type 0
SaysMedium called lines = list_any (bytes_eq called) (filter_map name_said lines) ≡ true

-- rates and fates stand behind their medium, and rates once for each
abbrev pub IsBehindMedium : List MediumLine → MediumLine → Type 0
IsBehindMedium before (medium.Medium called mtu) = ⊤
IsBehindMedium before (medium.Rates called loss twice later) =
    SaysMedium called before × (list_any (bytes_eq called) (filter_map rated_name before) ≡ false)
IsBehindMedium before (medium.Fate called f x) = SaysMedium called before

-- Hosts.

-- a host with the lines under it
pub record HostText : Type 0 where
  pub name : List ℕ
  pub nets : List Proto
  pub under : List HostLine

-- the place of a name among others, or how many there are
abbrev pub place_among : List (List ℕ) → List ℕ → ℕ
place_among names called = position_or_len (bytes_eq called) names

-- the interface on a line, where the media have these names
abbrev pub iface_said : List (List ℕ) → HostLine → Option Iface
iface_said names (host.If called ip mask) = Some (record { medium = place_among names called; ip = ip; mask = mask })
iface_said names (host.Route l) = None
iface_said names (host.Start start) = None

abbrev pub route_said : HostLine → Option RouteLine
route_said (host.If called ip mask) = None
route_said (host.Route l) = Some l
route_said (host.Start start) = None

abbrev pub start_said : HostLine → Option ℕ
start_said (host.If called ip mask) = None
start_said (host.Route l) = None
start_said (host.Start start) = Some start

abbrev pub host_said : List (List ℕ) → HostText → HostSpec
host_said names h = record {
  name = h.name;
  nets = h.nets;
  ifaces = filter_map (iface_said names) h.under;
  routes = filter_map route_said h.under;
  starts = filter_map start_said h.under;
}

-- the gateway of a route is on the network of an interface whose line stands before
abbrev pub IsReached : List (List ℕ) → List HostLine → HostLine → Type 0
IsReached names before (host.If called ip mask) = ⊤
IsReached names before (host.Route l) = list_any (is_near l.gateway) (filter_map (iface_said names) before) ≡ true
IsReached names before (host.Start start) = ⊤

-- Scripts.

-- a script with the name of its host
pub record ScriptText : Type 0 where
  pub host : List ℕ
  pub steps : List Step

-- the script, where the hosts have these names
abbrev pub script_said : List (List ℕ) → ScriptText → Script
script_said names s = record { host = place_among names s.host; steps = s.steps }

-- Lines.

abbrev pub lines_of_text : HostText → List WorldLine
lines_of_text h = line.Host h.name h.nets ∷ map (λ (l : HostLine). line.OfHost l) h.under

abbrev pub lines_of_steps : ScriptText → List WorldLine
lines_of_steps s = line.Script s.host ∷ map (λ (x : Step). line.OfScript x) s.steps

-- all lines before `ndb`, in their groups
abbrev pub lines_said : Timers → ℕ → ℕ → List MediumLine → List HostText → List ScriptText → List WorldLine
lines_said kind moment seed media hosts scripts =
    line.Networld kind ∷ line.End moment ∷ line.Seed seed
    ∷ (map (λ (l : MediumLine). line.OfMedium l) media ++ (flat_map lines_of_text hosts ++ flat_map lines_of_steps scripts))

-- Spellings.

abbrev pub frames_spelled : Frames → List ℕ
frames_spelled (frames.One n) = decimal n
frames_spelled (frames.Range first last) = decimal first ++ (codes "-" ++ decimal last)

abbrev pub words_of_medium_line : MediumLine → List (List ℕ)
words_of_medium_line (medium.Medium called mtu) = codes "medium" ∷ called ∷ decimal mtu ∷ []
words_of_medium_line (medium.Rates called loss twice later) = codes "rates" ∷ called ∷ decimal loss ∷ decimal twice ∷ decimal later ∷ []
words_of_medium_line (medium.Fate called f x) = codes "fate" ∷ called ∷ frames_spelled f ∷ fate_word x ∷ []

abbrev pub words_of_host_line : HostLine → List (List ℕ)
words_of_host_line (host.If called ip mask) = codes "if" ∷ called ∷ dotted ip ∷ dotted mask ∷ []
words_of_host_line (host.Route l) = codes "route" ∷ dotted l.net ∷ dotted l.mask ∷ dotted l.gateway ∷ []
words_of_host_line (host.Start start) = codes "start" ∷ decimal start ∷ []

abbrev pub words_of_line : WorldLine → List (List ℕ)
words_of_line (line.Networld kind) = codes "networld" ∷ timers_word kind ∷ []
words_of_line (line.End moment) = codes "end" ∷ decimal moment ∷ []
words_of_line (line.Seed seed) = codes "seed" ∷ decimal seed ∷ []
words_of_line (line.OfMedium l) = words_of_medium_line l
words_of_line (line.Host called nets) = codes "host" ∷ called ∷ map proto_name nets
words_of_line (line.OfHost l) = words_of_host_line l
words_of_line (line.Script called) = codes "script" ∷ called ∷ []
words_of_line (line.OfScript s) = words_of_step s
words_of_line line.Ndb = codes "ndb" ∷ []

-- the one spelling of a line
abbrev pub line_spelling : WorldLine → List ℕ
line_spelling l = spaced_line (words_of_line l)

-- Versions.

-- a later version: its moment, and the lines of its bundle
pub record LaterText : Type 0 where
  pub moment : ℕ
  pub bundle : List (List ℕ)

-- `%at M`
abbrev pub line_of_moment : ℕ → List ℕ
line_of_moment moment = spaced_line (codes "%at" ∷ decimal moment ∷ [])

-- the line that begins a later version, and its bundle
abbrev pub lines_of_later : LaterText → List (List ℕ)
lines_of_later v = line_of_moment v.moment ∷ v.bundle

-- the version from this moment on that a bundle says
abbrev pub version_said : ℕ → List (List ℕ) → Version
version_said moment bundle = record { moment = moment; db = database bundle }

-- no line of the bundle is bad, so none begins a version
abbrev pub IsGoodBundle : List (List ℕ) → Type 0
IsGoodBundle bundle = first_bad causes_of [] bundle ≡ None

-- the text says the versions: the first bundle, and behind each line `%at M` another one
pub record SaysVersions (text : List ℕ) (versions : List Version) : Type 0 where
  pub first : List (List ℕ)
  pub later : List LaterText
  pub lines_are : lines_of text ≡ first ++ flat_map lines_of_later later
  pub first_good : IsGoodBundle first
  pub later_good : All (λ (v : LaterText). IsGoodBundle v.bundle) later
  pub said : versions ≡ version_said 0 first ∷ map (λ (v : LaterText). version_said v.moment v.bundle) later

-- the text says the world
pub record IsWorldText (text : List ℕ) (w : World) : Type 0 where
  -- the lines before `ndb`, and the text of the versions behind it
  pub head : List (List ℕ)
  pub bundle : List ℕ
  pub parts : IsHeaded text head bundle
  pub whole : list_all is_line head ≡ true
  -- what the lines that aren't passed over say
  pub media : List MediumLine
  pub hosts : List HostText
  pub scripts : List ScriptText
  pub spelled : filter speaks head ≡ map line_spelling (lines_said w.timers w.end w.seed media hosts scripts)
  pub media_are : w.media ≡ media_said media
  pub media_in_order : EachBehind IsBehindMedium media
  pub hosts_are : w.hosts ≡ map (host_said (medium_names w.media)) hosts
  pub routes_in_order : All (λ (h : HostText). EachBehind (IsReached (medium_names w.media)) h.under) hosts
  pub scripts_are : w.scripts ≡ map (script_said (host_names w.hosts)) scripts
  pub versions : SaysVersions bundle w.dbs
  -- it is a world that a file can say
  pub world : IsWorld w
