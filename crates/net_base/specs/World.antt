-- Which worlds a file can say: each part is one that a line spells, none is missing, and they fit together.
-- Moments are in ms, lengths in bytes, rates in thousandths.
use Rattle.std.specs.Prelude.{◌≡◌, ℕ, ◌+◌, ◌^◌, ◌==◌, Bool, true, false, not, ◌&&◌, List, [], ◌∷◌, length, map, flat_map, Some, is_some, nat_eq, nat_lt, nat_le, bit_and, bytes_eq}
use Rattle.std.specs.List.{All, list_any, list_all}
use Rattle.net_base.specs.declared.address.Proto.{Proto}
use Rattle.net_base.specs.declared.address.Proto.TheVariants.{Il, Udp}
use Rattle.net_base.specs.Ndb.{NdbPair}
use Rattle.net_base.specs.declared.world.FateRange.{FateRange}
use Rattle.net_base.specs.declared.world.HostSpec.{HostSpec}
use Rattle.net_base.specs.declared.world.Iface.{Iface}
use Rattle.net_base.specs.declared.world.MediumSpec.{MediumSpec}
use Rattle.net_base.specs.declared.world.RouteLine.{RouteLine}
use Rattle.net_base.specs.declared.world.Script.{Script}
use Rattle.net_base.specs.declared.world.Version.{Version}
use Rattle.net_base.specs.declared.world.World.{World}
use Rattle.net_base.specs.NdbBundle.{reading}
use Rattle.net_base.specs.Networks.{mask_bits}
use Rattle.net_base.specs.Routes.{Route, route_contains, iface_routes, host_routes}
pub use Rattle.net_base.specs.StepWords.{is_byte, is_letter, is_name, is_name_byte, is_step, is_text, is_within, is_word}
use Rattle.net_base.specs.Versions.{are_timed}

-- no two values of the list are alike
abbrev pub all_apart : {A : Type 0} → (A → A → Bool) → List A → Bool
all_apart alike [] = true
all_apart alike (x ∷ xs) = not (list_any (alike x) xs) && all_apart alike xs

-- Words.

-- a moment: 1 to 1,000,000,000
abbrev pub is_moment : ℕ → Bool
is_moment m = is_within 1 1000000000 m

-- an address: four numbers 0 to 255
abbrev pub is_address : ℕ → Bool
is_address ip = nat_lt ip (2 ^ 32)

-- a mask whose ones are a prefix
abbrev pub is_mask : ℕ → Bool
is_mask mask = is_some (mask_bits mask)

-- Media.

-- K or K-L, from 1
abbrev pub is_range : FateRange → Bool
is_range f = nat_le 1 f.first && (nat_le f.first f.last && nat_lt f.last (2 ^ 64))

-- both name the fate of a frame
abbrev pub overlap : FateRange → FateRange → Bool
overlap f g = nat_le f.first g.last && nat_le g.first f.last

-- a medium in its place n
abbrev pub is_medium : ℕ → MediumSpec → Bool
is_medium n s =
    (s.number == n)
    && (is_name s.name
    && (is_within 576 16384 s.mtu
    && (nat_le (s.loss + s.twice + s.later) 1000
    && (list_all is_range s.fates
    && all_apart overlap s.fates))))

-- media in their places from n on
abbrev pub are_media : ℕ → List MediumSpec → Bool
are_media n [] = true
are_media n (s ∷ ss) = is_medium n s && are_media (n + 1) ss

-- Hosts.

-- `il`, `udp`, `il udp` or `udp il`
abbrev pub is_nets : List Proto → Bool
is_nets (Il ∷ []) = true
is_nets (Udp ∷ []) = true
is_nets (Il ∷ Udp ∷ []) = true
is_nets (Udp ∷ Il ∷ []) = true
is_nets _ = false

-- an interface on one of so many media
abbrev pub is_iface : ℕ → Iface → Bool
is_iface media i = nat_lt i.medium media && (is_address i.ip && is_mask i.mask)

-- a net without bits outside its mask, and a gateway on one of these networks
abbrev pub is_route : List Route → RouteLine → Bool
is_route networks l =
    is_mask l.mask
    && (is_address l.net
    && ((bit_and l.net l.mask == l.net)
    && (is_address l.gateway
    && list_any (route_contains l.gateway) networks)))

-- both are routes to one network
abbrev pub same_network : Route → Route → Bool
same_network r s = (r.net == s.net) && (r.mask == s.mask)

abbrev pub same_medium : Iface → Iface → Bool
same_medium i j = i.medium == j.medium

-- a start: 1 to 4,294,967,295
abbrev pub is_start : ℕ → Bool
is_start n = is_within 1 4294967295 n

-- a host where so many media are
abbrev pub is_host : ℕ → HostSpec → Bool
is_host media h =
    is_name h.name
    && (is_nets h.nets
    && (nat_le (length h.ifaces) 4
    && (list_all (is_iface media) h.ifaces
    && (all_apart same_medium h.ifaces
    && (list_all (is_route (iface_routes 0 h.ifaces)) h.routes
    && (all_apart same_network (host_routes h)
    && list_all is_start h.starts))))))

-- the addresses of a host
abbrev pub addresses : HostSpec → List ℕ
addresses h = map (λ (i : Iface). i.ip) h.ifaces

-- Scripts.

-- a script of one of so many hosts
abbrev pub is_script : ℕ → Script → Bool
is_script hosts s = nat_lt s.host hosts && list_all is_step s.steps

-- Worlds.

-- a database that some bundle, a text of bytes, reads as
abbrev pub IsDatabase : List (List (List NdbPair)) → Type 0
IsDatabase db = (text : List ℕ) × (list_all is_byte text ≡ true) × (reading text ≡ Some db)

-- the world is one that a file can say
pub record IsWorld (w : World) : Type 0 where
  pub end : is_moment w.end ≡ true
  pub seed : nat_lt w.seed (2 ^ 64) ≡ true
  -- 1 to 4 media, each with a name of its own
  pub some_media : is_within 1 4 (length w.media) ≡ true
  pub media : are_media 0 w.media ≡ true
  pub media_named : all_apart bytes_eq (map (λ (s : MediumSpec). s.name) w.media) ≡ true
  -- 1 to 8 hosts, each with a name and addresses of its own
  pub some_hosts : is_within 1 8 (length w.hosts) ≡ true
  pub hosts : list_all (is_host (length w.media)) w.hosts ≡ true
  pub hosts_named : all_apart bytes_eq (map (λ (h : HostSpec). h.name) w.hosts) ≡ true
  pub hosts_addressed : all_apart nat_eq (flat_map addresses w.hosts) ≡ true
  -- at most 32 scripts
  pub few_scripts : nat_le (length w.scripts) 32 ≡ true
  pub scripts : list_all (is_script (length w.hosts)) w.scripts ≡ true
  -- some versions of the database, the first from the moment 0 on
  pub versions_timed : are_timed w.dbs ≡ true
  pub versions : All (λ (v : Version). IsDatabase v.db) w.dbs
