-- The hosts of a world are those that lines say which fit, and the other way round.
use Rattle.std.proofs.Common.{◌≡◌, ℕ, ◌+◌, ◌-◌, ◌^◌, ◌<◌, ◌≤◌, ◌==◌, zero, suc, Bool, true, false, not, ◌&&◌, ◌||◌, cond, List, [], ◌∷◌, ◌++◌, length, map, refl, sym, ap, subst, ◌∙◌, arith, Option, Some, None}
use Rattle.std.specs.Prelude.{bit_and, bytes_eq, filter_map, find, flat_map, is_some, nat_eq, nat_le, nat_lt, option_map}
use Rattle.std.specs.List.{cons_option, filter, list_all, list_any, range_with_len}
use Rattle.std.proofs.lemmas.Bool.{and_parts, eqb-true, false≢true, and_from, or_parts, le-leb}
use Rattle.std.proofs.lemmas.Bool.Decides.{nat_tests}
use Rattle.std.proofs.lemmas.List.{map-append}
use Rattle.std.proofs.lemmas.List.Elements.{filter_map-append}
use Rattle.std.proofs.lemmas.List.Folds.{list_all-map, list_any-append}
use Rattle.std.proofs.lemmas.Nat.{pow_pos}
use Rattle.std.proofs.lemmas.Option.{none-some, same_Some}
use Rattle.net_base.specs.declared.world.HostSpec.{HostSpec}
use Rattle.net_base.specs.declared.world.Iface.{Iface}
use Rattle.net_base.specs.declared.world.RouteLine.{RouteLine}
use Rattle.net_base.specs.Networks.{mask_of}
use Rattle.net_base.specs.Routes.{Route, host_routes, iface_routes, line_route, longer, longest_match, route_contains}
use Rattle.net_base.specs.World.{addresses, all_apart, is_address, is_host, is_iface, is_mask, is_name, is_nets, is_route, is_start, same_medium, same_network}
use Rattle.world_text.specs.declared.line.HostLine.{HostLine}
use Rattle.world_text.specs.declared.line.HostLine.TheVariants as host
use Rattle.world_text.specs.WorldLines.{is_near, is_net}
use Rattle.world_text.specs.WorldSpelling.{EachBehind, HostText, IsReached, host_said, iface_said, place_among, route_said, start_said}
use Rattle.world_text.specs.LineFit.{fit_host_line}
use Rattle.world_text.proofs.WorldLists.{all-at, all-if, apart-map, false-of-not, place-there}
use Rattle.world_text.proofs.WorldMediums.{all-found}
use Rattle.world_text.proofs.WorldHosts.{FineHost, FineHosts, bare_route, count-said, good_net, ifaces, names-said, networks, routes, saids, starts}
use Rattle.net_base.proofs.Shared.{equal_texts, length_map}

-- Lists.

-- what holds of all that is found, wherever its element stands
pub all-filter : {A B : Type 0} (q : B → Bool) (g : A → Option B) (xs : List A) → ((before : List A) (x : A) (rest : List A) (y : B) → xs ≡ before ++ x ∷ rest → g x ≡ Some y → q y ≡ true) → list_all q (filter_map g xs) ≡ true
all-filter q g [] h = refl
all-filter q g (x ∷ xs) h = by (g x) (λ y e. h [] x xs y refl e) (all-filter q g xs (λ before z rest y e is. h (x ∷ before) z rest y (ap (λ ys. x ∷ ys) e) is))
  where
    by : (o : Option _) → ((y : _) → o ≡ Some y → q y ≡ true) → list_all q (filter_map g xs) ≡ true → list_all q (cons_option o (filter_map g xs)) ≡ true
    by None here later = later
    by (Some y) here later = and_from (q y) (list_all q (filter_map g xs)) (here y refl) later

pub all-imply : {A : Type 0} (p q : A → Bool) → ((x : A) → p x ≡ true → q x ≡ true) → (xs : List A) → list_all p xs ≡ true → list_all q xs ≡ true
all-imply p q f [] all = refl
all-imply p q f (x ∷ xs) all = let parts = and_parts (p x) (list_all p xs) all in and_from (q x) (list_all q xs) (f x parts.0) (all-imply p q f xs parts.1)

-- Numbers below a bound that are apart are no more than it.

abbrev without : ℕ → List ℕ → List ℕ
without k xs = filter (λ x. not (nat_eq k x)) xs

without-below : (k : ℕ) (xs : List ℕ) → list_all (λ x. nat_lt x (suc k)) xs ≡ true → list_all (λ x. nat_lt x k) (without k xs) ≡ true
without-below k [] all = refl
without-below k (x ∷ xs) all =
    let parts = and_parts (nat_lt x (suc k)) (list_all (λ y. nat_lt y (suc k)) xs) all in by (nat_eq k x) refl parts.0 (without-below k xs parts.1)
  where
    below : (m n : ℕ) → nat_eq m n ≡ false → nat_lt n (suc m) ≡ true → nat_lt n m ≡ true
    below m n e f = grind (arith, nat_tests)

    by : (b : Bool) → nat_eq k x ≡ b → nat_lt x (suc k) ≡ true → list_all (λ y. nat_lt y k) (without k xs) ≡ true → list_all (λ y. nat_lt y k) (cond (not b) (x ∷ without k xs) (without k xs)) ≡ true
    by true is lt later = later
    by false is lt later = and_from (nat_lt x k) (list_all (λ y. nat_lt y k) (without k xs)) (below k x is lt) later

without-any : (k y : ℕ) (xs : List ℕ) → list_any (nat_eq y) xs ≡ false → list_any (nat_eq y) (without k xs) ≡ false
without-any k y [] none = refl
without-any k y (x ∷ xs) none =
    let parts = or_parts (nat_eq y x) (list_any (nat_eq y) xs) none in by (not (nat_eq k x)) parts.0 (without-any k y xs parts.1)
  where
    by : (b : Bool) → nat_eq y x ≡ false → list_any (nat_eq y) (without k xs) ≡ false → list_any (nat_eq y) (cond b (x ∷ without k xs) (without k xs)) ≡ false
    by true here later = ap (λ v. v || list_any (nat_eq y) (without k xs)) here ∙ later
    by false here later = later

without-apart : (k : ℕ) (xs : List ℕ) → all_apart nat_eq xs ≡ true → all_apart nat_eq (without k xs) ≡ true
without-apart k [] apart = refl
without-apart k (x ∷ xs) apart =
    let parts = and_parts (not (list_any (nat_eq x) xs)) (all_apart nat_eq xs) apart in
    by (not (nat_eq k x)) (without-any k x xs (false-of-not (list_any (nat_eq x) xs) parts.0)) (without-apart k xs parts.1)
  where
    by : (b : Bool) → list_any (nat_eq x) (without k xs) ≡ false → all_apart nat_eq (without k xs) ≡ true → all_apart nat_eq (cond b (x ∷ without k xs) (without k xs)) ≡ true
    by true none later = and_from (not (list_any (nat_eq x) (without k xs))) (all_apart nat_eq (without k xs)) (ap not none) later
    by false none later = later

without-none : (k : ℕ) (xs : List ℕ) → list_any (nat_eq k) xs ≡ false → length (without k xs) ≡ length xs
without-none k [] none = refl
without-none k (x ∷ xs) none =
    let parts = or_parts (nat_eq k x) (list_any (nat_eq k) xs) none in
    ap (λ b. length (cond (not b) (x ∷ without k xs) (without k xs))) parts.0 ∙ ap (λ n. suc n) (without-none k xs parts.1)

without-length : (k : ℕ) (xs : List ℕ) → all_apart nat_eq xs ≡ true → length xs ≤ suc (length (without k xs))
without-length k [] apart = omega arith
without-length k (x ∷ xs) apart =
    let parts = and_parts (not (list_any (nat_eq x) xs)) (all_apart nat_eq xs) apart in
    by (nat_eq k x) refl (false-of-not (list_any (nat_eq x) xs) parts.0) (without-length k xs parts.1)
  where
    same : (m n : ℕ) → nat_eq m n ≡ true → m ≡ n
    same m n e = grind (arith, nat_tests)

    by : (b : Bool) → nat_eq k x ≡ b → list_any (nat_eq x) xs ≡ false → length xs ≤ suc (length (without k xs)) → length (x ∷ xs) ≤ suc (length (cond (not b) (x ∷ without k xs) (without k xs)))
    by true is none later = let len = without-none k xs (ap (λ n. list_any (nat_eq n) xs) (same k x is) ∙ none) in omega (arith, len)
    by false is none later = omega (arith, later)

pub few-below : (k : ℕ) (xs : List ℕ) → list_all (λ x. nat_lt x k) xs ≡ true → all_apart nat_eq xs ≡ true → length xs ≤ k
few-below zero [] all apart = omega arith
few-below zero (x ∷ xs) all apart = absurd (false≢true (sym (never x) ∙ (and_parts (nat_lt x 0) (list_all (λ y. nat_lt y 0) xs) all).0))
  where
    never : (n : ℕ) → nat_lt n 0 ≡ false
    never n = grind (arith, nat_tests)
few-below (suc k) xs all apart =
    let len = without-length k xs apart in let few = few-below k (without k xs) (without-below k xs all) (without-apart k xs apart) in omega (arith, len, few)

-- Networks.

pub near-matches : (ip n : ℕ) (is : List Iface) → list_any (route_contains ip) (iface_routes n is) ≡ list_any (is_near ip) is
near-matches ip n [] = refl
near-matches ip n (i ∷ is) = ap (λ b. is_near ip i || b) (near-matches ip (n + 1) is)

longest-some : (ip : ℕ) (rs : List Route) → list_any (route_contains ip) rs ≡ true → (r : Route) × (longest_match ip rs ≡ Some r)
longest-some ip [] e = absurd (false≢true e)
longest-some ip (r ∷ rs) e = by (route_contains ip r) refl e (longest-some ip rs)
  where
    by : (b : Bool) → route_contains ip r ≡ b → (b || list_any (route_contains ip) rs) ≡ true → (list_any (route_contains ip) rs ≡ true → (q : Route) × (longest_match ip rs ≡ Some q)) → (q : Route) × (longest_match ip (r ∷ rs) ≡ Some q)
    by true is f later = (longer r (longest_match ip rs), ap (λ v. cond v (Some (longer r (longest_match ip rs))) (longest_match ip rs)) is)
    by false is f later = let q = later f in (q.0, ap (λ v. cond v (Some (longer r (longest_match ip rs))) (longest_match ip rs)) is ∙ q.1)

abbrev key : Route → ℕ × ℕ
key r = (r.net, r.mask)

abbrev same_key : ℕ × ℕ → ℕ × ℕ → Bool
same_key p q = (p.0 == q.0) && (p.1 == q.1)

apart-keys : (rs : List Route) → all_apart same_network rs ≡ all_apart same_key (map key rs)
apart-keys rs = sym (apart-map same_key key rs)

abbrev reached_by : List Route → RouteLine → Bool
reached_by nets l = list_any (route_contains l.gateway) nets

keys-equal : (nets : List Route) (ls : List RouteLine) → list_all (reached_by nets) ls ≡ true → map key (filter_map (line_route nets) ls) ≡ map key (map bare_route ls)
keys-equal nets [] all = refl
keys-equal nets (l ∷ ls) all =
    let parts = and_parts (reached_by nets l) (list_all (reached_by nets) ls) all in
    let found = longest-some l.gateway nets parts.0 in
    ap (λ o. map key (cons_option (option_map (λ (r : Route). record { net = l.net; mask = l.mask; iface = r.iface; next = Some l.gateway }) o) (filter_map (line_route nets) ls))) found.1
    ∙ ap (λ ks. (l.net, l.mask) ∷ ks) (keys-equal nets ls parts.1)

-- the routes of a host are apart where its networks are
routes-apart : (ns : List (List ℕ)) (h : HostText) → list_all (reached_by (iface_routes 0 (ifaces ns h.under))) (routes h.under) ≡ true
    → all_apart same_network (host_routes (host_said ns h)) ≡ all_apart same_network (networks ns h.under)
routes-apart ns h all =
    let a : List Route = iface_routes 0 (ifaces ns h.under) in
    apart-keys (a ++ filter_map (line_route a) (routes h.under))
    ∙ (ap (all_apart same_key) (map-append key a (filter_map (line_route a) (routes h.under))
    ∙ (ap (λ ks. map key a ++ ks) (keys-equal a (routes h.under) all) ∙ sym (map-append key a (map bare_route (routes h.under)))))
    ∙ sym (apart-keys (networks ns h.under)))

-- each gateway is reached by all interfaces, where it is by those before
reached-all : (ns : List (List ℕ)) (lines : List HostLine) → EachBehind (IsReached ns) lines → list_all (reached_by (iface_routes 0 (ifaces ns lines))) (routes lines) ≡ true
reached-all ns lines each = all-filter (reached_by (iface_routes 0 (ifaces ns lines))) route_said lines at
  where
    here : (l : RouteLine) (before rest : List HostLine) → lines ≡ before ++ rest → list_any (is_near l.gateway) (ifaces ns before) ≡ true → reached_by (iface_routes 0 (ifaces ns lines)) l ≡ true
    here l before rest e near =
        near-matches l.gateway 0 (ifaces ns lines)
        ∙ (ap (λ ls. list_any (is_near l.gateway) (ifaces ns ls)) e
        ∙ (ap (list_any (is_near l.gateway)) (filter_map-append (iface_said ns) before rest)
        ∙ (list_any-append (is_near l.gateway) (ifaces ns before) (ifaces ns rest) ∙ ap (λ b. b || list_any (is_near l.gateway) (ifaces ns rest)) near)))

    at : (before : List HostLine) (x : HostLine) (rest : List HostLine) (l : RouteLine) → lines ≡ before ++ x ∷ rest → route_said x ≡ Some l → reached_by (iface_routes 0 (ifaces ns lines)) l ≡ true
    at before (host.If called ip mask) rest l e is = absurd (none-some l is)
    at before (host.Start start) rest l e is = absurd (none-some l is)
    at before (host.Route m) rest l e is =
        ap (λ g. reached_by (iface_routes 0 (ifaces ns lines)) g) (sym (same_Some m l is)) ∙ here m before (host.Route m ∷ rest) e (each before (host.Route m) rest e)

-- From lines to hosts.

route-parts : (nets : List Route) (l : RouteLine) → is_net l.net l.mask ≡ true → fit_host_line (host.Route l) ≡ true → reached_by nets l ≡ true → is_route nets l ≡ true
route-parts nets l net fit near =
    let a = and_parts (is_mask l.mask) (bit_and l.net l.mask == l.net) net in
    let b = and_parts (is_address l.net) (is_address l.mask && is_address l.gateway) fit in
    let c = and_parts (is_address l.mask) (is_address l.gateway) b.1 in
    and_from (is_mask l.mask) _ a.0 (and_from (is_address l.net) _ b.0 (and_from (bit_and l.net l.mask == l.net) _ a.1 (and_from (is_address l.gateway) (reached_by nets l) c.1 near)))

routes-fit : (ns : List (List ℕ)) (h : HostText) → FineHost ns h → list_all (is_route (iface_routes 0 (ifaces ns h.under))) (routes h.under) ≡ true
routes-fit ns h k = all-filter (is_route nets) route_said h.under at
  where
    nets : List Route
    nets = iface_routes 0 (ifaces ns h.under)

    at : (before : List HostLine) (x : HostLine) (rest : List HostLine) (l : RouteLine) → h.under ≡ before ++ x ∷ rest → route_said x ≡ Some l → is_route (iface_routes 0 (ifaces ns h.under)) l ≡ true
    at before (host.If called ip mask) rest l e is = absurd (none-some l is)
    at before (host.Start start) rest l e is = absurd (none-some l is)
    at before (host.Route m) rest l e is =
        subst (λ (g : RouteLine). is_route (iface_routes 0 (ifaces ns h.under)) g ≡ true) (same_Some m l is)
        (route-parts (iface_routes 0 (ifaces ns h.under)) m
        (all-found good_net route_said h.under before (host.Route m) rest m e refl k.nets_good)
        (all-at fit_host_line h.under before (host.Route m) rest e k.fit)
        (all-found (reached_by (iface_routes 0 (ifaces ns h.under))) route_said h.under before (host.Route m) rest m e refl (reached-all ns h.under k.reached)))

starts-fit : (lines : List HostLine) → list_all fit_host_line lines ≡ true → list_all is_start (starts lines) ≡ true
starts-fit lines fit = all-filter is_start start_said lines at
  where
    at : (before : List HostLine) (x : HostLine) (rest : List HostLine) (n : ℕ) → lines ≡ before ++ x ∷ rest → start_said x ≡ Some n → is_start n ≡ true
    at before (host.If called ip mask) rest n e is = absurd (none-some n is)
    at before (host.Route m) rest n e is = absurd (none-some n is)
    at before (host.Start start) rest n e is = ap is_start (sym (same_Some start n is)) ∙ all-at fit_host_line lines before (host.Start start) rest e fit

ifaces-few : (ns : List (List ℕ)) (h : HostText) → length ns ≤ 4 → list_all (is_iface (length ns)) (ifaces ns h.under) ≡ true → all_apart same_medium (ifaces ns h.under) ≡ true → nat_le (length (ifaces ns h.under)) 4 ≡ true
ifaces-few ns h small on apart =
    let numbers : List ℕ = map (λ (i : Iface). i.medium) (ifaces ns h.under) in
    let below : list_all (λ x. nat_lt x (length ns)) numbers ≡ true =
    list_all-map (λ x. nat_lt x (length ns)) (λ (i : Iface). i.medium) (ifaces ns h.under)
    ∙ all-imply (is_iface (length ns)) (λ (i : Iface). nat_lt i.medium (length ns)) (λ i e. (and_parts (nat_lt i.medium (length ns)) (is_address i.ip && is_mask i.mask) e).0) (ifaces ns h.under) on in
    let few = few-below (length ns) numbers below (apart-map nat_eq (λ (i : Iface). i.medium) (ifaces ns h.under) ∙ apart) in
    let len = length_map (λ (i : Iface). i.medium) (ifaces ns h.under) in
    le-leb (length (ifaces ns h.under)) 4 (omega (arith, few, len, small))

pub host-of-lines : (ns : List (List ℕ)) (h : HostText) → length ns ≤ 4 → FineHost ns h → is_host (length ns) (host_said ns h) ≡ true
host-of-lines ns h small k =
    let head = and_parts (is_name h.name) (is_nets h.nets) k.head in
    and_from (is_name h.name) _ head.0
    (and_from (is_nets h.nets) _ head.1
    (and_from (nat_le (length (ifaces ns h.under)) 4) _ (ifaces-few ns h small k.on k.apart)
    (and_from (list_all (is_iface (length ns)) (ifaces ns h.under)) _ k.on
    (and_from (all_apart same_medium (ifaces ns h.under)) _ k.apart
    (and_from (list_all (is_route (iface_routes 0 (ifaces ns h.under))) (routes h.under)) _ (routes-fit ns h k)
    (and_from (all_apart same_network (host_routes (host_said ns h))) (list_all is_start (starts h.under)) (routes-apart ns h (reached-all ns h.under k.reached) ∙ k.once) (starts-fit h.under k.fit)))))))

-- what a world's hosts are
pub record AreHosts (k : ℕ) (hosts : List HostSpec) : Type 0 where
  pub hosts_fit : list_all (is_host k) hosts ≡ true
  pub named : all_apart bytes_eq (map (λ (h : HostSpec). h.name) hosts) ≡ true
  pub addressed : all_apart nat_eq (flat_map addresses hosts) ≡ true
  pub few : length hosts ≤ 8

pub hosts-of-lines : (ns : List (List ℕ)) (texts : List HostText) → length ns ≤ 4 → FineHosts ns texts → AreHosts (length ns) (saids ns texts)
hosts-of-lines ns texts small k = record {
  hosts_fit = list_all-map (is_host (length ns)) (host_said ns) texts ∙ all-if (λ h. is_host (length ns) (host_said ns h)) texts (λ before h rest e. host-of-lines ns h small (k.each before h rest e));
  named = ap (all_apart bytes_eq) (names-said ns texts) ∙ k.named;
  addressed = k.addressed;
  few = let count = count-said ns texts in let few = k.few in omega (arith, count, few);
}

-- From hosts to lines.

mask-small : (mask : ℕ) → is_mask mask ≡ true → is_address mask ≡ true
mask-small mask e = by (range_with_len 0 33) e
  where
    small : (bits : ℕ) → (mask_of bits == mask) ≡ true → nat_lt mask (2 ^ 32) ≡ true
    small bits f = let is = eqb-true (mask_of bits) mask f in let p = pow_pos (32 - bits) in below mask (omega (arith, is, p))
      where
        below : (n : ℕ) → n < 2 ^ 32 → nat_lt n (2 ^ 32) ≡ true
        below n h = grind (arith, nat_tests)

    by : (bs : List ℕ) → is_some (find (λ bits. mask_of bits == mask) bs) ≡ true → nat_lt mask (2 ^ 32) ≡ true
    by [] f = absurd (false≢true f)
    by (b ∷ bs) f = at (mask_of b == mask) refl f (by bs)
      where
        at : (v : Bool) → (mask_of b == mask) ≡ v → is_some (cond v (Some b) (find (λ bits. mask_of bits == mask) bs)) ≡ true
            → (is_some (find (λ bits. mask_of bits == mask) bs) ≡ true → nat_lt mask (2 ^ 32) ≡ true) → nat_lt mask (2 ^ 32) ≡ true
        at true is g later = small b is
        at false is g later = later g

pub name-known : (called : List ℕ) (ns : List (List ℕ)) → list_all is_name ns ≡ true → list_any (bytes_eq called) ns ≡ true → is_name called ≡ true
name-known called [] fit says = absurd (false≢true says)
name-known called (n ∷ ns) fit says = by (bytes_eq called n) refl says (name-known called ns (and_parts (is_name n) (list_all is_name ns) fit).1)
  where
    by : (b : Bool) → bytes_eq called n ≡ b → (b || list_any (bytes_eq called) ns) ≡ true → (list_any (bytes_eq called) ns ≡ true → is_name called ≡ true) → is_name called ≡ true
    by true is f later = ap is_name (equal_texts called n is) ∙ (and_parts (is_name n) (list_all is_name ns) fit).0
    by false is f later = later f

-- the parts of a host that fits
record HostParts (k : ℕ) (h : HostSpec) : Type 0 where
  pub name : is_name h.name ≡ true
  pub nets : is_nets h.nets ≡ true
  pub on : list_all (is_iface k) h.ifaces ≡ true
  pub apart : all_apart same_medium h.ifaces ≡ true
  pub routed : list_all (is_route (iface_routes 0 h.ifaces)) h.routes ≡ true
  pub once : all_apart same_network (host_routes h) ≡ true
  pub started : list_all is_start h.starts ≡ true

host-parts : (k : ℕ) (h : HostSpec) → is_host k h ≡ true → HostParts k h
host-parts k h e =
    let a = and_parts (is_name h.name) _ e in
    let b = and_parts (is_nets h.nets) _ a.1 in
    let c = and_parts (nat_le (length h.ifaces) 4) _ b.1 in
    let d = and_parts (list_all (is_iface k) h.ifaces) _ c.1 in
    let f = and_parts (all_apart same_medium h.ifaces) _ d.1 in
    let g = and_parts (list_all (is_route (iface_routes 0 h.ifaces)) h.routes) _ f.1 in
    let i = and_parts (all_apart same_network (host_routes h)) (list_all is_start h.starts) g.1 in
    record { name = a.0; nets = b.0; on = d.0; apart = f.0; routed = g.0; once = i.0; started = i.1 }

record RouteParts (nets : List Route) (l : RouteLine) : Type 0 where
  pub net : is_net l.net l.mask ≡ true
  pub fit : fit_host_line (host.Route l) ≡ true
  pub near : reached_by nets l ≡ true

route-is : (nets : List Route) (l : RouteLine) → is_route nets l ≡ true → RouteParts nets l
route-is nets l e =
    let a = and_parts (is_mask l.mask) _ e in
    let b = and_parts (is_address l.net) _ a.1 in
    let c = and_parts (bit_and l.net l.mask == l.net) _ b.1 in
    let d = and_parts (is_address l.gateway) (reached_by nets l) c.1 in
    record {
      net = and_from (is_mask l.mask) (bit_and l.net l.mask == l.net) a.0 c.0;
      fit = and_from (is_address l.net) _ b.0 (and_from (is_address l.mask) (is_address l.gateway) (mask-small l.mask a.0) d.0);
      near = d.1;
    }

pub lines-of-host : (ns : List (List ℕ)) (h : HostText) → list_all is_name ns ≡ true → EachBehind (IsReached ns) h.under → is_host (length ns) (host_said ns h) ≡ true → FineHost ns h
lines-of-host ns h names_fit reached is_so =
    let p = host-parts (length ns) (host_said ns h) is_so in
    record {
      head = and_from (is_name h.name) (is_nets h.nets) p.name p.nets;
      fit = all-if fit_host_line h.under (at p);
      on = p.on;
      apart = p.apart;
      nets_good = all-imply (is_route (iface_routes 0 (ifaces ns h.under))) good_net (λ l e. (route-is (iface_routes 0 (ifaces ns h.under)) l e).net) (routes h.under) p.routed;
      once = sym (routes-apart ns h (reached-all ns h.under reached)) ∙ p.once;
      reached = reached;
    }
  where
    at : HostParts (length ns) (host_said ns h) → (before : List HostLine) (x : HostLine) (rest : List HostLine) → h.under ≡ before ++ x ∷ rest → fit_host_line x ≡ true
    at p before (host.Route l) rest e =
        (route-is (iface_routes 0 (ifaces ns h.under)) l (all-found (is_route (iface_routes 0 (ifaces ns h.under))) route_said h.under before (host.Route l) rest l e refl p.routed)).fit
    at p before (host.Start start) rest e = all-found is_start start_said h.under before (host.Start start) rest start e refl p.started
    at p before (host.If called ip mask) rest e =
        let a = and_parts (nat_lt (place_among ns called) (length ns)) (is_address ip && is_mask mask)
        (all-found (is_iface (length ns)) (iface_said ns) h.under before (host.If called ip mask) rest (record { medium = place_among ns called; ip = ip; mask = mask }) e refl p.on) in
        let b = and_parts (is_address ip) (is_mask mask) a.1 in
        and_from (is_name called) (is_address ip && is_address mask) (name-known called ns names_fit (sym (place-there (bytes_eq called) ns) ∙ a.0))
        (and_from (is_address ip) (is_address mask) b.0 (mask-small mask b.1))

pub lines-of-hosts : (ns : List (List ℕ)) (texts : List HostText) → list_all is_name ns ≡ true → EachBehind (λ (before : List HostText) (h : HostText). EachBehind (IsReached ns) h.under) texts
    → AreHosts (length ns) (saids ns texts) → FineHosts ns texts
lines-of-hosts ns texts names_fit reached are = record {
  each = λ before h rest e. lines-of-host ns h names_fit (reached before h rest e)
      (all-at (λ g. is_host (length ns) (host_said ns g)) texts before h rest e (sym (list_all-map (is_host (length ns)) (host_said ns) texts) ∙ are.hosts_fit));
  named = ap (all_apart bytes_eq) (sym (names-said ns texts)) ∙ are.named;
  addressed = are.addressed;
  few = let count = count-said ns texts in let few = are.few in omega (arith, count, few);
}
