-- The lines of the hosts behind one another: the world so far is what they say, and each line fits exactly where all of them do.
use Rattle.std.proofs.Common.{◌≡◌, ℕ, ◌+◌, ◌<◌, ◌≤◌, ◌==◌, suc, Bool, true, false, not, ◌&&◌, ◌||◌, List, [], ◌∷◌, ◌++◌, length, map, refl, sym, ap, ◌∙◌, arith, Option, Some, None, append-nil, append_assoc, length-append}
use Rattle.std.specs.Prelude.{bit_and, bytes_eq, filter_map, flat_map, is_none, nat_eq, nat_le, nat_lt, if◌then◌else◌}
use Rattle.std.specs.List.{cons_option, last_or, list_all, list_any, position_or_len}
use Rattle.std.specs.Option.{option_map_or}
use Rattle.std.proofs.lemmas.Bool.{and_parts, and_from, not-false, lt-leb}
use Rattle.std.proofs.lemmas.Grind.{flat_map-append}
use Rattle.std.proofs.lemmas.List.{map-append}
use Rattle.std.proofs.lemmas.List.Elements.{filter_map-append}
use Rattle.std.proofs.lemmas.List.Folds.{list_any-append}
use Rattle.net_base.specs.declared.address.Proto.{Proto}
use Rattle.net_base.specs.declared.timer.Timers.{Timers}
use Rattle.net_base.specs.declared.world.HostSpec.{HostSpec}
use Rattle.net_base.specs.declared.world.Iface.{Iface}
use Rattle.net_base.specs.declared.world.MediumSpec.{MediumSpec}
use Rattle.net_base.specs.declared.world.RouteLine.{RouteLine}
use Rattle.net_base.specs.Routes.{Route, has_ip, iface_routes}
use Rattle.net_base.specs.World.{addresses, all_apart, is_address, is_iface, is_mask, is_name, is_nets, same_medium, same_network}
use Rattle.world_text.specs.declared.line.HostLine.{HostLine}
use Rattle.world_text.specs.declared.line.HostLine.TheVariants as host
use Rattle.world_text.specs.declared.line.LineCause.TheVariants as cause
use Rattle.world_text.specs.WorldLines.{Draft, after_host_line, at_last, bare_host, has_host, has_iface_on, has_medium, host_cause, host_line_cause, host_under, is_before, is_host_named, is_medium_named, is_near, is_net, is_network, is_past, is_under, knows_network, leads_to, medium_number, reaches, with_host_line}
use Rattle.world_text.specs.WorldSpelling.{EachBehind, HostText, IsReached, host_said, iface_said, medium_names, place_among, route_said, start_said}
use Rattle.world_text.specs.LineFit.{fit_host_line}
use Rattle.world_text.proofs.WorldLists.{all-parts, all-push, any-cong, any-map, apart-front, apart-insert, apart-push, at_last-push, each-front, each-last, each-none, each-push, false-of-not, last-push, place-map, place-there, same-bytes, same-numbers}
use Rattle.world_text.proofs.WorldMedia.{passes, room-from, unrefused}

-- What lines under a host say.

abbrev pub ifaces : List (List ℕ) → List HostLine → List Iface
ifaces ns lines = filter_map (iface_said ns) lines

abbrev pub routes : List HostLine → List RouteLine
routes lines = filter_map route_said lines

abbrev pub bare_route : RouteLine → Route
bare_route l = record { net = l.net; mask = l.mask; iface = 0; next = None }

-- the networks of interfaces, and those that routes lead to
abbrev pub networks : List (List ℕ) → List HostLine → List Route
networks ns lines = iface_routes 0 (ifaces ns lines) ++ map bare_route (routes lines)

abbrev pub good_net : RouteLine → Bool
good_net l = is_net l.net l.mask

-- what a host with its lines owes, where the media have these names
pub record FineHost (ns : List (List ℕ)) (h : HostText) : Type 0 where
  pub head : (is_name h.name && is_nets h.nets) ≡ true
  pub fit : list_all fit_host_line h.under ≡ true
  pub on : list_all (is_iface (length ns)) (ifaces ns h.under) ≡ true
  pub apart : all_apart same_medium (ifaces ns h.under) ≡ true
  pub nets_good : list_all good_net (routes h.under) ≡ true
  pub once : all_apart same_network (networks ns h.under) ≡ true
  pub reached : EachBehind (IsReached ns) h.under

abbrev pub saids : List (List ℕ) → List HostText → List HostSpec
saids ns texts = map (host_said ns) texts

abbrev pub all_addresses : List (List ℕ) → List HostText → List ℕ
all_addresses ns texts = flat_map addresses (saids ns texts)

abbrev pub text_names : List HostText → List (List ℕ)
text_names texts = map (λ (h : HostText). h.name) texts

-- what the hosts owe
pub record FineHosts (ns : List (List ℕ)) (texts : List HostText) : Type 0 where
  pub each : EachBehind (λ (before : List HostText) (h : HostText). FineHost ns h) texts
  pub named : all_apart bytes_eq (text_names texts) ≡ true
  pub addressed : all_apart nat_eq (all_addresses ns texts) ≡ true
  pub few : length texts ≤ 8

abbrev pub EachFine : List (List ℕ) → List HostText → HostText → Type 0
EachFine ns before h = FineHost ns h

pub addresses-append : (ns : List (List ℕ)) (xs ys : List HostText) → all_addresses ns (xs ++ ys) ≡ all_addresses ns xs ++ all_addresses ns ys
addresses-append ns xs ys = ap (flat_map addresses) (map-append (host_said ns) xs ys) ∙ flat_map-append addresses (saids ns xs) (saids ns ys)

pub hosts-none : (ns : List (List ℕ)) → FineHosts ns []
hosts-none ns = record { each = each-none (EachFine ns); named = refl; addressed = refl; few = omega arith }

pub hosts-front : (ns : List (List ℕ)) (xs ys : List HostText) → FineHosts ns (xs ++ ys) → FineHosts ns xs
hosts-front ns xs ys k = record {
  each = each-front (EachFine ns) xs ys k.each;
  named = apart-front bytes_eq (text_names xs) (text_names ys) (ap (all_apart bytes_eq) (sym (map-append (λ (h : HostText). h.name) xs ys)) ∙ k.named);
  addressed = apart-front nat_eq (all_addresses ns xs) (all_addresses ns ys) (ap (all_apart nat_eq) (sym (addresses-append ns xs ys)) ∙ k.addressed);
  few = let len = length-append xs ys in let few = k.few in omega (arith, len, few);
}

-- The world so far.

abbrev pub host_group : List HostText → ℕ
host_group [] = 4
host_group (h ∷ texts) = 5

abbrev pub host_draft : Timers → ℕ → ℕ → List MediumSpec → List (List ℕ) → List HostText → Draft
host_draft kind e s media rated texts = record {
  group = host_group texts;
  end = e;
  seed = s;
  timers = kind;
  media = media;
  rated = rated;
  hosts = saids (medium_names media) texts;
  scripts = [];
}

pub group-pushed : (texts : List HostText) (h : HostText) → host_group (texts ++ h ∷ []) ≡ 5
group-pushed [] h = refl
group-pushed (g ∷ texts) h = refl

abbrev pub bare_text : List ℕ → List Proto → HostText
bare_text called nets = record { name = called; nets = nets; under = [] }

abbrev pub with_line : HostText → HostLine → HostText
with_line h x = record h { under = h.under ++ x ∷ [] }

abbrev draft_with : ℕ → Timers → ℕ → ℕ → List MediumSpec → List (List ℕ) → List HostSpec → Draft
draft_with g kind e s media rated hosts = record { group = g; end = e; seed = s; timers = kind; media = media; rated = rated; hosts = hosts; scripts = [] }

-- a host behind the others
pub host-after : (kind : Timers) (e s : ℕ) (media : List MediumSpec) (rated : List (List ℕ)) (texts : List HostText) (called : List ℕ) (nets : List Proto)
    → draft_with 5 kind e s media rated (saids (medium_names media) texts ++ bare_host called nets ∷ []) ≡ host_draft kind e s media rated (texts ++ bare_text called nets ∷ [])
host-after kind e s media rated texts called nets =
    ap (draft_with 5 kind e s media rated) (sym (map-append (host_said (medium_names media)) texts (bare_text called nets ∷ [])))
    ∙ ap (λ g. draft_with g kind e s media rated (saids (medium_names media) (texts ++ bare_text called nets ∷ []))) (sym (group-pushed texts (bare_text called nets)))

-- what a host's lines say, with one line more
more-ifaces : (ns : List (List ℕ)) (lines : List HostLine) (x : HostLine) (i : Iface) → iface_said ns x ≡ Some i → ifaces ns (lines ++ x ∷ []) ≡ ifaces ns lines ++ i ∷ []
more-ifaces ns lines x i e = filter_map-append (iface_said ns) lines (x ∷ []) ∙ ap (λ o. ifaces ns lines ++ cons_option o []) e

same-ifaces : (ns : List (List ℕ)) (lines : List HostLine) (x : HostLine) → iface_said ns x ≡ None → ifaces ns (lines ++ x ∷ []) ≡ ifaces ns lines
same-ifaces ns lines x e = filter_map-append (iface_said ns) lines (x ∷ []) ∙ (ap (λ o. ifaces ns lines ++ cons_option o []) e ∙ append-nil (ifaces ns lines))

same-routes : (lines : List HostLine) (x : HostLine) → route_said x ≡ None → routes (lines ++ x ∷ []) ≡ routes lines
same-routes lines x e = filter_map-append route_said lines (x ∷ []) ∙ (ap (λ o. routes lines ++ cons_option o []) e ∙ append-nil (routes lines))

more-routes : (lines : List HostLine) (l : RouteLine) → routes (lines ++ host.Route l ∷ []) ≡ routes lines ++ l ∷ []
more-routes lines l = filter_map-append route_said lines (host.Route l ∷ [])

abbrev pub starts : List HostLine → List ℕ
starts lines = filter_map start_said lines

same-starts : (lines : List HostLine) (x : HostLine) → start_said x ≡ None → starts (lines ++ x ∷ []) ≡ starts lines
same-starts lines x e = filter_map-append start_said lines (x ∷ []) ∙ (ap (λ o. starts lines ++ cons_option o []) e ∙ append-nil (starts lines))

abbrev host_with : HostText → List Iface → List RouteLine → List ℕ → HostSpec
host_with h is rs ss = record { name = h.name; nets = h.nets; ifaces = is; routes = rs; starts = ss }

said-pushed : (ns : List (List ℕ)) (number : List ℕ → ℕ) → ((called : List ℕ) → number called ≡ place_among ns called) → (h : HostText) (x : HostLine)
    → with_host_line number x (host_said ns h) ≡ host_said ns (with_line h x)
said-pushed ns number same h (host.If called ip mask) =
    let x : HostLine = host.If called ip mask in
    let i : Iface = record { medium = place_among ns called; ip = ip; mask = mask } in
    ap (λ m. host_with h (ifaces ns h.under ++ record { medium = m; ip = ip; mask = mask } ∷ []) (routes h.under) (starts h.under)) (same called)
    ∙ (ap (λ is. host_with h is (routes h.under) (starts h.under)) (sym (more-ifaces ns h.under x i refl))
    ∙ (ap (λ rs. host_with h (ifaces ns (h.under ++ x ∷ [])) rs (starts h.under)) (sym (same-routes h.under x refl))
    ∙ ap (host_with h (ifaces ns (h.under ++ x ∷ [])) (routes (h.under ++ x ∷ []))) (sym (same-starts h.under x refl))))
said-pushed ns number same h (host.Route l) =
    let x : HostLine = host.Route l in
    ap (λ is. host_with h is (routes h.under ++ l ∷ []) (starts h.under)) (sym (same-ifaces ns h.under x refl))
    ∙ (ap (λ rs. host_with h (ifaces ns (h.under ++ x ∷ [])) rs (starts h.under)) (sym (more-routes h.under l))
    ∙ ap (host_with h (ifaces ns (h.under ++ x ∷ [])) (routes (h.under ++ x ∷ []))) (sym (same-starts h.under x refl)))
said-pushed ns number same h (host.Start start) =
    let x : HostLine = host.Start start in
    ap (λ is. host_with h is (routes h.under) (starts h.under ++ start ∷ [])) (sym (same-ifaces ns h.under x refl))
    ∙ (ap (λ rs. host_with h (ifaces ns (h.under ++ x ∷ [])) rs (starts h.under ++ start ∷ [])) (sym (same-routes h.under x refl))
    ∙ ap (host_with h (ifaces ns (h.under ++ x ∷ [])) (routes (h.under ++ x ∷ []))) (sym (filter_map-append start_said h.under (x ∷ []))))

abbrev position_in : List MediumSpec → List ℕ → ℕ
position_in media called = position_or_len (is_medium_named called) media

same-number : (media : List MediumSpec) (called : List ℕ) → position_in media called ≡ place_among (medium_names media) called
same-number media called = sym (place-map (bytes_eq called) (λ (s : MediumSpec). s.name) media)

saids-pushed : (ns : List (List ℕ)) (front : List HostText) (h : HostText) → saids ns (front ++ h ∷ []) ≡ saids ns front ++ host_said ns h ∷ []
saids-pushed ns front h = map-append (host_said ns) front (h ∷ [])

-- a line under the last host
pub line-after : (kind : Timers) (e s : ℕ) (media : List MediumSpec) (rated : List (List ℕ)) (front : List HostText) (h : HostText) (x : HostLine)
    → after_host_line (host_draft kind e s media rated (front ++ h ∷ [])) x ≡ host_draft kind e s media rated (front ++ with_line h x ∷ [])
line-after kind e s media rated front h x =
    let ns : List (List ℕ) = medium_names media in
    ap (λ hs. draft_with (host_group (front ++ h ∷ [])) kind e s media rated (at_last (with_host_line (position_in media) x) hs)) (saids-pushed ns front h)
    ∙ (ap (draft_with (host_group (front ++ h ∷ [])) kind e s media rated)
    (at_last-push (with_host_line (position_in media) x) (saids ns front) (host_said ns h)
    ∙ (ap (λ y. saids ns front ++ y ∷ []) (said-pushed ns (position_in media) (same-number media) h x) ∙ sym (saids-pushed ns front (with_line h x))))
    ∙ ap (λ g. draft_with g kind e s media rated (saids ns (front ++ with_line h x ∷ []))) (group-pushed front h ∙ sym (group-pushed front (with_line h x))))

-- The tests of a line, of what lines say.

-- lines stand under the last host
pub under-is : (kind : Timers) (e s : ℕ) (media : List MediumSpec) (rated : List (List ℕ)) (front : List HostText) (h : HostText)
    → host_under (host_draft kind e s media rated (front ++ h ∷ [])) ≡ Some (host_said (medium_names media) h)
under-is kind e s media rated front h =
    ap (λ g. if g == 5 then last_or None (saids (medium_names media) (front ++ h ∷ [])) else None) (group-pushed front h)
    ∙ (ap (last_or None) (saids-pushed (medium_names media) front h) ∙ last-push None (saids (medium_names media) front) (host_said (medium_names media) h))

holds-under : (p : HostSpec → Bool) (kind : Timers) (e s : ℕ) (media : List MediumSpec) (rated : List (List ℕ)) (front : List HostText) (h : HostText)
    → is_under p (host_draft kind e s media rated (front ++ h ∷ [])) ≡ p (host_said (medium_names media) h)
holds-under p kind e s media rated front h = ap (λ o. option_map_or p o false) (under-is kind e s media rated front h)

some-under : (kind : Timers) (e s : ℕ) (media : List MediumSpec) (rated : List (List ℕ)) (front : List HostText) (h : HostText)
    → is_none (host_under (host_draft kind e s media rated (front ++ h ∷ []))) ≡ false
some-under kind e s media rated front h = ap (λ o. is_none o) (under-is kind e s media rated front h)

same-pair : (a b c d : ℕ) → ((a == b) && (c == d)) ≡ ((b == a) && (d == c))
same-pair a b c d = ap (λ v. v && (c == d)) (same-numbers a b) ∙ ap (λ v. (b == a) && v) (same-numbers c d)

pub any-ifaces : (r : Route) (n : ℕ) (is : List Iface) → list_any (same_network r) (iface_routes n is) ≡ list_any (is_network r.net r.mask) is
any-ifaces r n [] = refl
any-ifaces r n (i ∷ is) =
    ap (λ b. b || list_any (same_network r) (iface_routes (n + 1) is)) (same-pair r.net (bit_and i.ip i.mask) r.mask i.mask)
    ∙ ap (λ b. is_network r.net r.mask i || b) (any-ifaces r (n + 1) is)

pub any-routes : (r : Route) (ls : List RouteLine) → list_any (same_network r) (map bare_route ls) ≡ list_any (leads_to r.net r.mask) ls
any-routes r [] = refl
any-routes r (l ∷ ls) =
    ap (λ b. b || list_any (same_network r) (map bare_route ls)) (same-pair r.net l.net r.mask l.mask)
    ∙ ap (λ b. leads_to r.net r.mask l || b) (any-routes r ls)

any-networks : (ns : List (List ℕ)) (h : HostText) (r : Route) → list_any (same_network r) (networks ns h.under) ≡ knows_network r.net r.mask (host_said ns h)
any-networks ns h r =
    list_any-append (same_network r) (iface_routes 0 (ifaces ns h.under)) (map bare_route (routes h.under))
    ∙ (ap (λ b. b || list_any (same_network r) (map bare_route (routes h.under))) (any-ifaces r 0 (ifaces ns h.under))
    ∙ ap (λ b. list_any (is_network r.net r.mask) (ifaces ns h.under) || b) (any-routes r (routes h.under)))

iface_routes-push : (n : ℕ) (is : List Iface) (i : Iface) → iface_routes n (is ++ i ∷ []) ≡ iface_routes n is ++ iface_routes (n + length is) (i ∷ [])
iface_routes-push n [] i = ap (λ k. iface_routes k (i ∷ [])) (omega arith)
iface_routes-push n (j ∷ is) i =
    ap (λ rs. record { net = bit_and j.ip j.mask; mask = j.mask; iface = n; next = None } ∷ rs)
    (iface_routes-push (n + 1) is i ∙ ap (λ k. iface_routes (n + 1) is ++ iface_routes k (i ∷ [])) (count_up n (length is)))
  where
    count_up : (m k : ℕ) → m + 1 + k ≡ m + suc k
    count_up m k = omega arith

if-networks : (ns : List (List ℕ)) (lines : List HostLine) (x : HostLine) (i : Iface) → iface_said ns x ≡ Some i → route_said x ≡ None
    → all_apart same_network (networks ns (lines ++ x ∷ []))
    ≡ (not (list_any (same_network (record { net = bit_and i.ip i.mask; mask = i.mask; iface = 0 + length (ifaces ns lines); next = None })) (networks ns lines)) && all_apart same_network (networks ns lines))
if-networks ns lines x i e f =
    let a : List Route = iface_routes 0 (ifaces ns lines) in
    let b : List Route = map bare_route (routes lines) in
    let z : Route = record { net = bit_and i.ip i.mask; mask = i.mask; iface = 0 + length (ifaces ns lines); next = None } in
    ap (λ is. all_apart same_network (iface_routes 0 is ++ map bare_route (routes (lines ++ x ∷ [])))) (more-ifaces ns lines x i e)
    ∙ (ap (λ rs. all_apart same_network (iface_routes 0 (ifaces ns lines ++ i ∷ []) ++ map bare_route rs)) (same-routes lines x f)
    ∙ (ap (λ rs. all_apart same_network (rs ++ b)) (iface_routes-push 0 (ifaces ns lines) i)
    ∙ (ap (all_apart same_network) (append_assoc a (z ∷ []) b) ∙ apart-insert same_network (λ r s. same-pair r.net s.net r.mask s.mask) a z b)))

route-networks : (ns : List (List ℕ)) (lines : List HostLine) (l : RouteLine)
    → all_apart same_network (networks ns (lines ++ host.Route l ∷ [])) ≡ (not (list_any (same_network (bare_route l)) (networks ns lines)) && all_apart same_network (networks ns lines))
route-networks ns lines l =
    let a : List Route = iface_routes 0 (ifaces ns lines) in
    let b : List Route = map bare_route (routes lines) in
    ap (λ is. all_apart same_network (iface_routes 0 is ++ map bare_route (routes (lines ++ host.Route l ∷ [])))) (same-ifaces ns lines (host.Route l) refl)
    ∙ (ap (λ rs. all_apart same_network (a ++ map bare_route rs)) (more-routes lines l)
    ∙ (ap (λ rs. all_apart same_network (a ++ rs)) (map-append bare_route (routes lines) (l ∷ []))
    ∙ (ap (all_apart same_network) (sym (append_assoc a b (bare_route l ∷ []))) ∙ apart-push same_network (λ r s. same-pair r.net s.net r.mask s.mask) (a ++ b) (bare_route l))))

start-networks : (ns : List (List ℕ)) (lines : List HostLine) (start : ℕ) → networks ns (lines ++ host.Start start ∷ []) ≡ networks ns lines
start-networks ns lines start =
    ap (λ is. iface_routes 0 is ++ map bare_route (routes (lines ++ host.Start start ∷ []))) (same-ifaces ns lines (host.Start start) refl)
    ∙ ap (λ rs. iface_routes 0 (ifaces ns lines) ++ map bare_route rs) (same-routes lines (host.Start start) refl)

-- the hosts with an address are those in whose addresses it stands
pub has-address : (ip : ℕ) (hs : List HostSpec) → list_any (has_ip ip) hs ≡ list_any (nat_eq ip) (flat_map addresses hs)
has-address ip [] = refl
has-address ip (h ∷ hs) =
    let here : list_any (nat_eq ip) (addresses h) ≡ has_ip ip h =
    any-map (nat_eq ip) (λ (i : Iface). i.ip) h.ifaces ∙ any-cong (λ (i : Iface). nat_eq ip i.ip) (λ (i : Iface). i.ip == ip) (λ i. same-numbers ip i.ip) h.ifaces in
    ap (λ b. b || list_any (has_ip ip) hs) (sym here)
    ∙ (ap (λ b. list_any (nat_eq ip) (addresses h) || b) (has-address ip hs) ∙ sym (list_any-append (nat_eq ip) (addresses h) (flat_map addresses hs)))

-- the addresses with one more interface at the end
if-addresses : (ns : List (List ℕ)) (front : List HostText) (h : HostText) (x : HostLine) (i : Iface) → iface_said ns x ≡ Some i
    → all_addresses ns (front ++ with_line h x ∷ []) ≡ all_addresses ns (front ++ h ∷ []) ++ i.ip ∷ []
if-addresses ns front h x i e =
    let a : List ℕ = map (λ (j : Iface). j.ip) (ifaces ns h.under) in
    addresses-append ns front (with_line h x ∷ [])
    ∙ (ap (λ is. all_addresses ns front ++ (map (λ (j : Iface). j.ip) is ++ [])) (more-ifaces ns h.under x i e)
    ∙ (ap (λ xs. all_addresses ns front ++ (xs ++ [])) (map-append (λ (j : Iface). j.ip) (ifaces ns h.under) (i ∷ []))
    ∙ (ap (λ xs. all_addresses ns front ++ xs) (append-nil (a ++ i.ip ∷ []) ∙ ap (λ xs. xs ++ i.ip ∷ []) (sym (append-nil a)))
    ∙ (sym (append_assoc (all_addresses ns front) (a ++ []) (i.ip ∷ [])) ∙ ap (λ xs. xs ++ i.ip ∷ []) (sym (addresses-append ns front (h ∷ [])))))))

other-addresses : (ns : List (List ℕ)) (front : List HostText) (h : HostText) (x : HostLine) → iface_said ns x ≡ None → all_addresses ns (front ++ with_line h x ∷ []) ≡ all_addresses ns (front ++ h ∷ [])
other-addresses ns front h x e =
    addresses-append ns front (with_line h x ∷ [])
    ∙ (ap (λ is. all_addresses ns front ++ (map (λ (j : Iface). j.ip) is ++ [])) (same-ifaces ns h.under x e) ∙ sym (addresses-append ns front (h ∷ [])))

names-kept : (front : List HostText) (h : HostText) (x : HostLine) → text_names (front ++ with_line h x ∷ []) ≡ text_names (front ++ h ∷ [])
names-kept front h x =
    map-append (λ (g : HostText). g.name) front (with_line h x ∷ []) ∙ sym (map-append (λ (g : HostText). g.name) front (h ∷ []))

same-length : (front : List HostText) (h g : HostText) → length (front ++ h ∷ []) ≡ length (front ++ g ∷ [])
same-length front h g = length-append front (h ∷ []) ∙ sym (length-append front (g ∷ []))

-- hosts with one more line under the last
pushed-line : (ns : List (List ℕ)) (front : List HostText) (h : HostText) (x : HostLine) → FineHosts ns (front ++ h ∷ []) → FineHost ns (with_line h x)
    → all_apart nat_eq (all_addresses ns (front ++ with_line h x ∷ [])) ≡ true → FineHosts ns (front ++ with_line h x ∷ [])
pushed-line ns front h x k here apart = record {
  each = each-push (EachFine ns) front (with_line h x) (each-front (EachFine ns) front (h ∷ []) k.each) here;
  named = ap (all_apart bytes_eq) (names-kept front h x) ∙ k.named;
  addressed = apart;
  few = let len = same-length front h (with_line h x) in let few = k.few in omega (arith, len, few);
}

same-media : (i j : Iface) → same_medium i j ≡ same_medium j i
same-media i j = same-numbers i.medium j.medium

-- whether a medium has a name, by the names
pub knows-medium : (media : List MediumSpec) (called : List ℕ) → list_any (is_medium_named called) media ≡ nat_lt (place_among (medium_names media) called) (length (medium_names media))
knows-medium media called =
    sym (any-map (bytes_eq called) (λ (m : MediumSpec). m.name) media) ∙ sym (place-there (bytes_eq called) (medium_names media))

line_fits_if : (kind : Timers) (e s : ℕ) (media : List MediumSpec) (rated : List (List ℕ)) (front : List HostText) (h : HostText) (called : List ℕ) (ip mask : ℕ)
    → FineHosts (medium_names media) (front ++ h ∷ []) → fit_host_line (host.If called ip mask) ≡ true
    → host_line_cause (host_draft kind e s media rated (front ++ h ∷ [])) (host.If called ip mask) ≡ None → FineHosts (medium_names media) (front ++ with_line h (host.If called ip mask) ∷ [])
line_fits_if kind e s media rated front h called ip mask k fit good =
    let ns : List (List ℕ) = medium_names media in
    let d : Draft = host_draft kind e s media rated (front ++ h ∷ []) in
    let x : HostLine = host.If called ip mask in
    let i : Iface = record { medium = place_among ns called; ip = ip; mask = mask } in
    let unknown = unrefused cause.UnknownName (not (has_medium called d)) _ good in
    let twice = unrefused cause.NameTwice (is_under (has_iface_on (medium_number called d)) d) _ unknown.1 in
    let address = unrefused cause.AddressTwice (list_any (has_ip ip) (saids ns (front ++ h ∷ []))) _ twice.1 in
    let order = unrefused cause.OutOfOrder (is_none (host_under d)) _ address.1 in
    let holes = unrefused cause.BadMask (not (is_mask mask)) _ order.1 in
    let route = unrefused cause.RouteTwice (is_under (knows_network (bit_and ip mask) mask) d) None holes.1 in
    let mine = each-last (EachFine ns) front h k.each in
    let parts = and_parts (is_name called) (is_address ip && is_address mask) fit in
    let small = and_parts (is_address ip) (is_address mask) parts.1 in
    let there : nat_lt (place_among ns called) (length ns) ≡ true = sym (knows-medium media called) ∙ not-false (has_medium called d) unknown.0 in
    let fresh : list_any (same_medium i) (ifaces ns h.under) ≡ false =
    any-cong (same_medium i) (λ (j : Iface). j.medium == place_among ns called) (λ j. same-numbers (place_among ns called) j.medium) (ifaces ns h.under)
    ∙ (ap (λ n. has_iface_on n (host_said ns h)) (sym (same-number media called))
    ∙ (sym (holds-under (has_iface_on (medium_number called d)) kind e s media rated front h) ∙ twice.0)) in
    let new_net : list_any (same_network (record { net = bit_and ip mask; mask = mask; iface = 0 + length (ifaces ns h.under); next = None })) (networks ns h.under) ≡ false =
    any-networks ns h (record { net = bit_and ip mask; mask = mask; iface = 0 + length (ifaces ns h.under); next = None })
    ∙ (sym (holds-under (knows_network (bit_and ip mask) mask) kind e s media rated front h) ∙ route.0) in
    let free : list_any (nat_eq ip) (all_addresses ns (front ++ h ∷ [])) ≡ false = sym (has-address ip (saids ns (front ++ h ∷ []))) ∙ address.0 in
    pushed-line ns front h x k
    (record {
      head = mine.head;
      fit = all-push fit_host_line h.under x mine.fit fit;
      on = ap (list_all (is_iface (length ns))) (more-ifaces ns h.under x i refl)
          ∙ all-push (is_iface (length ns)) (ifaces ns h.under) i mine.on
          (and_from (nat_lt (place_among ns called) (length ns)) (is_address ip && is_mask mask) there (and_from (is_address ip) (is_mask mask) small.0 (not-false (is_mask mask) holes.0)));
      apart = ap (all_apart same_medium) (more-ifaces ns h.under x i refl)
          ∙ (apart-push same_medium same-media (ifaces ns h.under) i ∙ (ap (λ b. not b && all_apart same_medium (ifaces ns h.under)) fresh ∙ mine.apart));
      nets_good = ap (list_all good_net) (same-routes h.under x refl) ∙ mine.nets_good;
      once = if-networks ns h.under x i refl refl ∙ (ap (λ b. not b && all_apart same_network (networks ns h.under)) new_net ∙ mine.once);
      reached = each-push (IsReached ns) h.under x mine.reached tt;
    })
    (ap (all_apart nat_eq) (if-addresses ns front h x i refl)
    ∙ (apart-push nat_eq same-numbers (all_addresses ns (front ++ h ∷ [])) ip ∙ (ap (λ b. not b && all_apart nat_eq (all_addresses ns (front ++ h ∷ []))) free ∙ k.addressed)))

line_fits_route : (kind : Timers) (e s : ℕ) (media : List MediumSpec) (rated : List (List ℕ)) (front : List HostText) (h : HostText) (l : RouteLine)
    → FineHosts (medium_names media) (front ++ h ∷ []) → fit_host_line (host.Route l) ≡ true
    → host_line_cause (host_draft kind e s media rated (front ++ h ∷ [])) (host.Route l) ≡ None → FineHosts (medium_names media) (front ++ with_line h (host.Route l) ∷ [])
line_fits_route kind e s media rated front h l k fit good =
    let ns : List (List ℕ) = medium_names media in
    let d : Draft = host_draft kind e s media rated (front ++ h ∷ []) in
    let x : HostLine = host.Route l in
    let order = unrefused cause.OutOfOrder (is_none (host_under d)) _ good in
    let holes = unrefused cause.BadMask (not (is_net l.net l.mask)) _ order.1 in
    let route = unrefused cause.RouteTwice (is_under (knows_network l.net l.mask) d) _ holes.1 in
    let far = unrefused cause.FarGateway (not (is_under (reaches l.gateway) d)) None route.1 in
    let mine = each-last (EachFine ns) front h k.each in
    let near : list_any (is_near l.gateway) (ifaces ns h.under) ≡ true = sym (holds-under (reaches l.gateway) kind e s media rated front h) ∙ not-false (is_under (reaches l.gateway) d) far.0 in
    let new_net : list_any (same_network (bare_route l)) (networks ns h.under) ≡ false =
    any-networks ns h (bare_route l) ∙ (sym (holds-under (knows_network l.net l.mask) kind e s media rated front h) ∙ route.0) in
    pushed-line ns front h x k
    (record {
      head = mine.head;
      fit = all-push fit_host_line h.under x mine.fit fit;
      on = ap (list_all (is_iface (length ns))) (same-ifaces ns h.under x refl) ∙ mine.on;
      apart = ap (all_apart same_medium) (same-ifaces ns h.under x refl) ∙ mine.apart;
      nets_good = ap (list_all good_net) (more-routes h.under l) ∙ all-push good_net (routes h.under) l mine.nets_good (not-false (is_net l.net l.mask) holes.0);
      once = route-networks ns h.under l ∙ (ap (λ b. not b && all_apart same_network (networks ns h.under)) new_net ∙ mine.once);
      reached = each-push (IsReached ns) h.under x mine.reached near;
    })
    (ap (all_apart nat_eq) (other-addresses ns front h x refl) ∙ k.addressed)

line_fits_start : (ns : List (List ℕ)) (front : List HostText) (h : HostText) (start : ℕ)
    → FineHosts ns (front ++ h ∷ []) → fit_host_line (host.Start start) ≡ true → FineHosts ns (front ++ with_line h (host.Start start) ∷ [])
line_fits_start ns front h start k fit =
    let x : HostLine = host.Start start in
    let mine = each-last (EachFine ns) front h k.each in
    pushed-line ns front h x k
    (record {
      head = mine.head;
      fit = all-push fit_host_line h.under x mine.fit fit;
      on = ap (list_all (is_iface (length ns))) (same-ifaces ns h.under x refl) ∙ mine.on;
      apart = ap (all_apart same_medium) (same-ifaces ns h.under x refl) ∙ mine.apart;
      nets_good = ap (list_all good_net) (same-routes h.under x refl) ∙ mine.nets_good;
      once = ap (all_apart same_network) (start-networks ns h.under start) ∙ mine.once;
      reached = each-push (IsReached ns) h.under x mine.reached tt;
    })
    (ap (all_apart nat_eq) (other-addresses ns front h x refl) ∙ k.addressed)

-- a line under the last host that isn't bad fits
pub line-fits : (kind : Timers) (e s : ℕ) (media : List MediumSpec) (rated : List (List ℕ)) (front : List HostText) (h : HostText) (x : HostLine)
    → FineHosts (medium_names media) (front ++ h ∷ []) → fit_host_line x ≡ true
    → host_line_cause (host_draft kind e s media rated (front ++ h ∷ [])) x ≡ None → FineHosts (medium_names media) (front ++ with_line h x ∷ [])
line-fits kind e s media rated front h (host.If called ip mask) k fit good = line_fits_if kind e s media rated front h called ip mask k fit good
line-fits kind e s media rated front h (host.Route l) k fit good = line_fits_route kind e s media rated front h l k fit good
line-fits kind e s media rated front h (host.Start start) k fit good = line_fits_start (medium_names media) front h start k fit

-- Back from lines that fit.

-- the hosts without the last line
line-front : (ns : List (List ℕ)) (front : List HostText) (h : HostText) (x : HostLine) → FineHosts ns (front ++ with_line h x ∷ []) → FineHost ns h → FineHosts ns (front ++ h ∷ [])
line-front ns front h x k mine = record {
  each = each-push (EachFine ns) front h (each-front (EachFine ns) front (with_line h x ∷ []) k.each) mine;
  named = ap (all_apart bytes_eq) (sym (names-kept front h x)) ∙ k.named;
  addressed = addressed_so (iface_said ns x) refl;
  few = let len = same-length front h (with_line h x) in let few = k.few in omega (arith, len, few);
}
  where
    addressed_so : (o : Option Iface) → iface_said ns x ≡ o → all_apart nat_eq (all_addresses ns (front ++ h ∷ [])) ≡ true
    addressed_so None e = ap (all_apart nat_eq) (sym (other-addresses ns front h x e)) ∙ k.addressed
    addressed_so (Some i) e = apart-front nat_eq (all_addresses ns (front ++ h ∷ [])) (i.ip ∷ []) (ap (all_apart nat_eq) (sym (if-addresses ns front h x i e)) ∙ k.addressed)

-- a host without its last line
host-front : (ns : List (List ℕ)) (h : HostText) (x : HostLine) → FineHost ns (with_line h x) → FineHost ns h
host-front ns h (host.If called ip mask) k =
    let x : HostLine = host.If called ip mask in
    let i : Iface = record { medium = place_among ns called; ip = ip; mask = mask } in
    record {
      head = k.head;
      fit = (all-parts fit_host_line h.under x k.fit).0;
      on = (all-parts (is_iface (length ns)) (ifaces ns h.under) i (ap (list_all (is_iface (length ns))) (sym (more-ifaces ns h.under x i refl)) ∙ k.on)).0;
      apart = apart-front same_medium (ifaces ns h.under) (i ∷ []) (ap (all_apart same_medium) (sym (more-ifaces ns h.under x i refl)) ∙ k.apart);
      nets_good = ap (list_all good_net) (sym (same-routes h.under x refl)) ∙ k.nets_good;
      once = (and_parts _ (all_apart same_network (networks ns h.under)) (sym (if-networks ns h.under x i refl refl) ∙ k.once)).1;
      reached = each-front (IsReached ns) h.under (x ∷ []) k.reached;
    }
host-front ns h (host.Route l) k =
    let x : HostLine = host.Route l in
    record {
      head = k.head;
      fit = (all-parts fit_host_line h.under x k.fit).0;
      on = ap (list_all (is_iface (length ns))) (sym (same-ifaces ns h.under x refl)) ∙ k.on;
      apart = ap (all_apart same_medium) (sym (same-ifaces ns h.under x refl)) ∙ k.apart;
      nets_good = (all-parts good_net (routes h.under) l (ap (list_all good_net) (sym (more-routes h.under l)) ∙ k.nets_good)).0;
      once = (and_parts _ (all_apart same_network (networks ns h.under)) (sym (route-networks ns h.under l) ∙ k.once)).1;
      reached = each-front (IsReached ns) h.under (x ∷ []) k.reached;
    }
host-front ns h (host.Start start) k =
    let x : HostLine = host.Start start in
    record {
      head = k.head;
      fit = (all-parts fit_host_line h.under x k.fit).0;
      on = ap (list_all (is_iface (length ns))) (sym (same-ifaces ns h.under x refl)) ∙ k.on;
      apart = ap (all_apart same_medium) (sym (same-ifaces ns h.under x refl)) ∙ k.apart;
      nets_good = ap (list_all good_net) (sym (same-routes h.under x refl)) ∙ k.nets_good;
      once = ap (all_apart same_network) (sym (start-networks ns h.under start)) ∙ k.once;
      reached = each-front (IsReached ns) h.under (x ∷ []) k.reached;
    }

pub record GoodLine (kind : Timers) (e s : ℕ) (media : List MediumSpec) (rated : List (List ℕ)) (front : List HostText) (h : HostText) (x : HostLine) : Type 0 where
  pub fine : FineHosts (medium_names media) (front ++ h ∷ [])
  pub good : host_line_cause (host_draft kind e s media rated (front ++ h ∷ [])) x ≡ None

good-if : (kind : Timers) (e s : ℕ) (media : List MediumSpec) (rated : List (List ℕ)) (front : List HostText) (h : HostText) (called : List ℕ) (ip mask : ℕ)
    → FineHosts (medium_names media) (front ++ with_line h (host.If called ip mask) ∷ []) → GoodLine kind e s media rated front h (host.If called ip mask)
good-if kind e s media rated front h called ip mask k =
    let ns : List (List ℕ) = medium_names media in
    let d : Draft = host_draft kind e s media rated (front ++ h ∷ []) in
    let x : HostLine = host.If called ip mask in
    let i : Iface = record { medium = place_among ns called; ip = ip; mask = mask } in
    let r : Route = record { net = bit_and ip mask; mask = mask; iface = 0 + length (ifaces ns h.under); next = None } in
    let mine = each-last (EachFine ns) front (with_line h x) k.each in
    let fits = (all-parts (is_iface (length ns)) (ifaces ns h.under) i (ap (list_all (is_iface (length ns))) (sym (more-ifaces ns h.under x i refl)) ∙ mine.on)).1 in
    let there = and_parts (nat_lt (place_among ns called) (length ns)) (is_address ip && is_mask mask) fits in
    let ones = and_parts (is_address ip) (is_mask mask) there.1 in
    let media_apart = and_parts (not (list_any (same_medium i) (ifaces ns h.under))) (all_apart same_medium (ifaces ns h.under))
    (sym (ap (all_apart same_medium) (more-ifaces ns h.under x i refl) ∙ apart-push same_medium same-media (ifaces ns h.under) i) ∙ mine.apart) in
    let nets_apart = and_parts (not (list_any (same_network r) (networks ns h.under))) (all_apart same_network (networks ns h.under)) (sym (if-networks ns h.under x i refl refl) ∙ mine.once) in
    let addresses_apart = and_parts (not (list_any (nat_eq ip) (all_addresses ns (front ++ h ∷ [])))) (all_apart nat_eq (all_addresses ns (front ++ h ∷ [])))
    (sym (ap (all_apart nat_eq) (if-addresses ns front h x i refl) ∙ apart-push nat_eq same-numbers (all_addresses ns (front ++ h ∷ [])) ip) ∙ k.addressed) in
    record {
      fine = line-front ns front h x k (host-front ns h x mine);
      good = passes cause.UnknownName (not (has_medium called d)) _ (ap not (knows-medium media called ∙ there.0))
          (passes cause.NameTwice (is_under (has_iface_on (medium_number called d)) d) _
          (holds-under (has_iface_on (medium_number called d)) kind e s media rated front h
          ∙ (ap (λ n. has_iface_on n (host_said ns h)) (same-number media called)
          ∙ (sym (any-cong (same_medium i) (λ (j : Iface). j.medium == place_among ns called) (λ j. same-numbers (place_among ns called) j.medium) (ifaces ns h.under)) ∙ false-of-not _ media_apart.0)))
          (passes cause.AddressTwice (list_any (has_ip ip) (saids ns (front ++ h ∷ []))) _ (has-address ip (saids ns (front ++ h ∷ [])) ∙ false-of-not _ addresses_apart.0)
          (passes cause.OutOfOrder (is_none (host_under d)) _ (some-under kind e s media rated front h)
          (passes cause.BadMask (not (is_mask mask)) _ (ap not ones.1)
          (passes cause.RouteTwice (is_under (knows_network (bit_and ip mask) mask) d) None
          (holds-under (knows_network (bit_and ip mask) mask) kind e s media rated front h ∙ (sym (any-networks ns h r) ∙ false-of-not _ nets_apart.0)) refl)))));
    }

good-route : (kind : Timers) (e s : ℕ) (media : List MediumSpec) (rated : List (List ℕ)) (front : List HostText) (h : HostText) (l : RouteLine)
    → FineHosts (medium_names media) (front ++ with_line h (host.Route l) ∷ []) → GoodLine kind e s media rated front h (host.Route l)
good-route kind e s media rated front h l k =
    let ns : List (List ℕ) = medium_names media in
    let d : Draft = host_draft kind e s media rated (front ++ h ∷ []) in
    let x : HostLine = host.Route l in
    let mine = each-last (EachFine ns) front (with_line h x) k.each in
    let net = (all-parts good_net (routes h.under) l (ap (list_all good_net) (sym (more-routes h.under l)) ∙ mine.nets_good)).1 in
    let nets_apart = and_parts (not (list_any (same_network (bare_route l)) (networks ns h.under))) (all_apart same_network (networks ns h.under)) (sym (route-networks ns h.under l) ∙ mine.once) in
    let near = each-last (IsReached ns) h.under x mine.reached in
    record {
      fine = line-front ns front h x k (host-front ns h x mine);
      good = passes cause.OutOfOrder (is_none (host_under d)) _ (some-under kind e s media rated front h)
          (passes cause.BadMask (not (is_net l.net l.mask)) _ (ap not net)
          (passes cause.RouteTwice (is_under (knows_network l.net l.mask) d) _
          (holds-under (knows_network l.net l.mask) kind e s media rated front h ∙ (sym (any-networks ns h (bare_route l)) ∙ false-of-not _ nets_apart.0))
          (passes cause.FarGateway (not (is_under (reaches l.gateway) d)) None (ap not (holds-under (reaches l.gateway) kind e s media rated front h ∙ near)) refl)));
    }

good-start : (kind : Timers) (e s : ℕ) (media : List MediumSpec) (rated : List (List ℕ)) (front : List HostText) (h : HostText) (start : ℕ)
    → FineHosts (medium_names media) (front ++ with_line h (host.Start start) ∷ []) → GoodLine kind e s media rated front h (host.Start start)
good-start kind e s media rated front h start k =
    let ns : List (List ℕ) = medium_names media in
    let mine = each-last (EachFine ns) front (with_line h (host.Start start)) k.each in
    record {
      fine = line-front ns front h (host.Start start) k (host-front ns h (host.Start start) mine);
      good = passes cause.OutOfOrder (is_none (host_under (host_draft kind e s media rated (front ++ h ∷ [])))) None (some-under kind e s media rated front h) refl;
    }

-- behind lines that fit a line under the last host that does isn't bad
pub line-good : (kind : Timers) (e s : ℕ) (media : List MediumSpec) (rated : List (List ℕ)) (front : List HostText) (h : HostText) (x : HostLine)
    → FineHosts (medium_names media) (front ++ with_line h x ∷ []) → GoodLine kind e s media rated front h x
line-good kind e s media rated front h (host.If called ip mask) k = good-if kind e s media rated front h called ip mask k
line-good kind e s media rated front h (host.Route l) k = good-route kind e s media rated front h l k
line-good kind e s media rated front h (host.Start start) k = good-start kind e s media rated front h start k

-- Hosts behind one another.

pub names-said : (ns : List (List ℕ)) (texts : List HostText) → map (λ (h : HostSpec). h.name) (saids ns texts) ≡ text_names texts
names-said ns [] = refl
names-said ns (h ∷ texts) = ap (λ xs. h.name ∷ xs) (names-said ns texts)

pub count-said : (ns : List (List ℕ)) (texts : List HostText) → length (saids ns texts) ≡ length texts
count-said ns [] = refl
count-said ns (h ∷ texts) = ap (λ n. suc n) (count-said ns texts)

knows-host : (ns : List (List ℕ)) (texts : List HostText) (called : List ℕ) → list_any (is_host_named called) (saids ns texts) ≡ list_any (bytes_eq called) (text_names texts)
knows-host ns texts called =
    sym (any-map (bytes_eq called) (λ (h : HostSpec). h.name) (saids ns texts)) ∙ ap (list_any (bytes_eq called)) (names-said ns texts)

not-past : (texts : List HostText) → nat_lt 5 (host_group texts) ≡ false
not-past [] = refl
not-past (h ∷ texts) = refl

not-before : (texts : List HostText) → nat_lt (host_group texts) 4 ≡ false
not-before [] = refl
not-before (h ∷ texts) = refl

bare-fine : (ns : List (List ℕ)) (called : List ℕ) (nets : List Proto) → (is_name called && is_nets nets) ≡ true → FineHost ns (bare_text called nets)
bare-fine ns called nets head = record { head = head; fit = refl; on = refl; apart = refl; nets_good = refl; once = refl; reached = each-none (IsReached ns) }

same-addresses : (ns : List (List ℕ)) (texts : List HostText) (called : List ℕ) (nets : List Proto) → all_addresses ns (texts ++ bare_text called nets ∷ []) ≡ all_addresses ns texts
same-addresses ns texts called nets = addresses-append ns texts (bare_text called nets ∷ []) ∙ append-nil (all_addresses ns texts)

-- a host that isn't bad fits behind hosts that do
pub host-fits : (kind : Timers) (e s : ℕ) (media : List MediumSpec) (rated : List (List ℕ)) (texts : List HostText) (called : List ℕ) (nets : List Proto) → FineHosts (medium_names media) texts
    → (is_name called && is_nets nets) ≡ true → host_cause (host_draft kind e s media rated texts) called ≡ None → FineHosts (medium_names media) (texts ++ bare_text called nets ∷ [])
host-fits kind e s media rated texts called nets k fit good =
    let ns : List (List ℕ) = medium_names media in
    let name = unrefused cause.NameTwice (has_host called (host_draft kind e s media rated texts)) _ good in
    let limit = unrefused cause.OverLimit (nat_le 8 (length (saids ns texts))) _ name.1 in
    let new : list_any (bytes_eq called) (text_names texts) ≡ false = sym (knows-host ns texts called) ∙ name.0 in
    record {
      each = each-push (EachFine ns) texts (bare_text called nets) k.each (bare-fine ns called nets fit);
      named = ap (all_apart bytes_eq) (map-append (λ (h : HostText). h.name) texts (bare_text called nets ∷ []))
          ∙ (apart-push bytes_eq same-bytes (text_names texts) called ∙ (ap (λ b. not b && all_apart bytes_eq (text_names texts)) new ∙ k.named));
      addressed = ap (all_apart nat_eq) (same-addresses ns texts called nets) ∙ k.addressed;
      few = let len = length-append texts (bare_text called nets ∷ []) in
          let count = count-said ns texts in
          let room = room-from 8 (length (saids ns texts)) limit.0 in omega (arith, len, count, room);
    }

pub host-good : (kind : Timers) (e s : ℕ) (media : List MediumSpec) (rated : List (List ℕ)) (texts : List HostText) (called : List ℕ) (nets : List Proto)
    → FineHosts (medium_names media) (texts ++ bare_text called nets ∷ []) → host_cause (host_draft kind e s media rated texts) called ≡ None
host-good kind e s media rated texts called nets k =
    let ns : List (List ℕ) = medium_names media in
    let apart = and_parts (not (list_any (bytes_eq called) (text_names texts))) (all_apart bytes_eq (text_names texts))
    (sym (ap (all_apart bytes_eq) (map-append (λ (h : HostText). h.name) texts (bare_text called nets ∷ [])) ∙ apart-push bytes_eq same-bytes (text_names texts) called) ∙ k.named) in
    let room : length (saids ns texts) < 8 =
    let len = length-append texts (bare_text called nets ∷ []) in let count = count-said ns texts in let few = k.few in omega (arith, len, count, few) in
    passes cause.NameTwice (has_host called (host_draft kind e s media rated texts)) _ (knows-host ns texts called ∙ false-of-not _ apart.0)
    (passes cause.OverLimit (nat_le 8 (length (saids ns texts))) _ (lt-leb 8 (length (saids ns texts)) room)
    (passes cause.OutOfOrder (is_past 5 (host_draft kind e s media rated texts)) _ (not-past texts)
    (passes cause.MissingPart (is_before 4 (host_draft kind e s media rated texts)) None (not-before texts) refl)))
