-- Each world has a text: its canonical lines say it.
use Rattle.std.proofs.Common.{◌≡◌, ℕ, ◌+◌, ◌<◌, ◌==◌, inl, suc, zero, Bool, true, false, not, ◌&&◌, cond, List, [], ◌∷◌, ◌++◌, length, map, get_or, refl, sym, ap, subst, ◌∙◌, arith, Option, None, append-nil, append_assoc}
use Rattle.std.specs.Prelude.{bit_and, bytes_eq, codes, filter_map, flat_map, nat_le, nat_lt}
use Rattle.std.specs.List.{All, filter, list_all, list_any, position_or_len}
use Rattle.std.proofs.lemmas.Bool.{and_parts, ltb-true, and_from, or_parts}
use Rattle.std.proofs.lemmas.List.{map-append}
use Rattle.std.proofs.lemmas.List.Elements.{filter_map-append}
use Rattle.net_base.specs.declared.timer.Timers.{Timers}
use Rattle.net_base.specs.declared.timer.Timers.TheVariants.{Fixed, Measured}
use Rattle.net_base.specs.declared.world.HostSpec.{HostSpec}
use Rattle.net_base.specs.declared.world.Iface.{Iface}
use Rattle.net_base.specs.declared.world.MediumSpec.{MediumSpec}
use Rattle.net_base.specs.declared.world.RouteLine.{RouteLine}
use Rattle.net_base.specs.declared.world.Script.{Script}
use Rattle.net_base.specs.declared.world.Step.{Step}
use Rattle.net_base.specs.declared.world.World.{World}
use Rattle.net_base.specs.NdbText.{lines_of}
use Rattle.net_base.specs.Routes.{iface_routes, route_contains}
use Rattle.net_base.specs.World.{IsWorld, all_apart, is_address, is_host, is_iface, is_mask, is_name, is_nets, is_route, is_script, is_step, same_medium}
use Rattle.world_text.specs.declared.line.HostLine.{HostLine}
use Rattle.world_text.specs.declared.line.HostLine.TheVariants as host
use Rattle.world_text.specs.declared.line.MediumLine.{MediumLine}
use Rattle.world_text.specs.declared.line.WorldLine.{WorldLine}
use Rattle.world_text.specs.declared.line.WorldLine.TheVariants as line
use Rattle.world_text.specs.VersionLines.{bad_version_line, versions_in}
use Rattle.world_text.specs.WorldLines.{Draft, after, is_near}
use Rattle.world_text.specs.WorldSpelling.{EachBehind, HostText, IsReached, IsWorldText, SaysVersions, ScriptText, host_names, host_said, iface_said, is_line, laid, line_of_iface, line_of_route, line_of_start, line_of_step, line_of_timers, lines_of_host, lines_of_medium, lines_of_script, lines_of_steps, lines_of_text, lines_of_world, lines_said, medium_names, nth_name, place_among, route_said, script_said, speaks, line_spelling, start_said}
use Rattle.world_text.proofs.LineBack.{loud, one_line}
use Rattle.world_text.proofs.WorldLists.{each-none, each-push, false-of-not, same-bytes}
use Rattle.world_text.proofs.VersionTexts.{versions-say}
use Rattle.world_text.proofs.WorldHosts.{ifaces, routes, starts}
use Rattle.world_text.proofs.WorldHostForms.{near-matches}
use Rattle.world_text.proofs.WorldLed.{Led, begun, of_host, of_media, of_script, whole_draft, world-lead}
use Rattle.world_text.proofs.WorldRead.{SaidBy, fine-world}
use Rattle.world_text.proofs.WorldCanon.{canon-media, media_lines}
use Rattle.net_base.proofs.Shared.{same_text, length_map}

-- Places by name.

none-at : (p : List ℕ → Bool) (xs : List (List ℕ)) (n : ℕ) → list_any p xs ≡ false → n < length xs → p (get_or xs n []) ≡ false
none-at p [] n none lt = absurd (omega (arith, lt))
none-at p (x ∷ xs) zero none lt = (or_parts (p x) (list_any p xs) none).0
none-at p (x ∷ xs) (suc n) none lt = none-at p xs n ((or_parts (p x) (list_any p xs) none).1) (omega (arith, lt))

-- a name stands in the first place of itself, where names are apart
place-named : (ns : List (List ℕ)) (n : ℕ) → n < length ns → all_apart bytes_eq ns ≡ true → place_among ns (nth_name ns n) ≡ n
place-named [] n lt apart = absurd (omega (arith, lt))
place-named (x ∷ ns) zero lt apart = ap (λ b. cond (not b) (1 + position_or_len (bytes_eq x) ns) 0) (same_text x)
place-named (x ∷ ns) (suc n) lt apart =
    let parts = and_parts (not (list_any (bytes_eq x) ns)) (all_apart bytes_eq ns) apart in
    let other = none-at (bytes_eq x) ns n (false-of-not (list_any (bytes_eq x) ns) parts.0) (omega (arith, lt)) in
    ap (λ b. cond (not b) (1 + position_or_len (bytes_eq (nth_name ns n)) ns) 0) (same-bytes (nth_name ns n) x ∙ other)
    ∙ (ap (λ k. 1 + k) (place-named ns n (omega (arith, lt)) parts.1) ∙ next n)
  where
    next : (k : ℕ) → 1 + k ≡ suc k
    next k = omega arith

-- Hosts.

abbrev if_line : List (List ℕ) → Iface → HostLine
if_line ns i = host.If (nth_name ns i.medium) i.ip i.mask

abbrev if_lines : List (List ℕ) → List Iface → List HostLine
if_lines ns is = map (if_line ns) is

abbrev route_lines : List RouteLine → List HostLine
route_lines ls = map (λ (l : RouteLine). host.Route l) ls

abbrev start_lines : List ℕ → List HostLine
start_lines ss = map (λ (n : ℕ). host.Start n) ss

abbrev host_text : List (List ℕ) → HostSpec → HostText
host_text ns h = record { name = h.name; nets = h.nets; under = if_lines ns h.ifaces ++ (route_lines h.routes ++ start_lines h.starts) }

spelled-under : (xs ys : List HostLine) → map line_spelling (of_host (xs ++ ys)) ≡ map line_spelling (of_host xs) ++ map line_spelling (of_host ys)
spelled-under xs ys = ap (map line_spelling) (map-append (λ (l : HostLine). line.OfHost l) xs ys) ∙ map-append line_spelling (of_host xs) (of_host ys)

spelled-ifs : (ns : List (List ℕ)) (is : List Iface) → map line_spelling (of_host (if_lines ns is)) ≡ map (line_of_iface ns) is
spelled-ifs ns [] = refl
spelled-ifs ns (i ∷ is) = ap (λ ls. line_of_iface ns i ∷ ls) (spelled-ifs ns is)

spelled-routes : (ls : List RouteLine) → map line_spelling (of_host (route_lines ls)) ≡ map line_of_route ls
spelled-routes [] = refl
spelled-routes (l ∷ ls) = ap (λ xs. line_of_route l ∷ xs) (spelled-routes ls)

spelled-starts : (ss : List ℕ) → map line_spelling (of_host (start_lines ss)) ≡ map line_of_start ss
spelled-starts [] = refl
spelled-starts (n ∷ ss) = ap (λ xs. line_of_start n ∷ xs) (spelled-starts ss)

spelled-host : (ns : List (List ℕ)) (h : HostSpec) → map line_spelling (lines_of_text (host_text ns h)) ≡ lines_of_host ns h
spelled-host ns h =
    ap (λ ls. line_spelling (line.Host h.name h.nets) ∷ ls)
    (spelled-under (if_lines ns h.ifaces) (route_lines h.routes ++ start_lines h.starts)
    ∙ (ap (λ ls. ls ++ map line_spelling (of_host (route_lines h.routes ++ start_lines h.starts))) (spelled-ifs ns h.ifaces)
    ∙ ap (λ ls. map (line_of_iface ns) h.ifaces ++ ls)
    (spelled-under (route_lines h.routes) (start_lines h.starts)
    ∙ (ap (λ ls. ls ++ map line_spelling (of_host (start_lines h.starts))) (spelled-routes h.routes) ∙ ap (λ ls. map line_of_route h.routes ++ ls) (spelled-starts h.starts)))))

spelled-hosts : (ns : List (List ℕ)) (hs : List HostSpec) → map line_spelling (flat_map lines_of_text (map (host_text ns) hs)) ≡ flat_map (lines_of_host ns) hs
spelled-hosts ns [] = refl
spelled-hosts ns (h ∷ hs) =
    map-append line_spelling (lines_of_text (host_text ns h)) (flat_map lines_of_text (map (host_text ns) hs))
    ∙ (ap (λ ls. ls ++ map line_spelling (flat_map lines_of_text (map (host_text ns) hs))) (spelled-host ns h) ∙ ap (λ ls. lines_of_host ns h ++ ls) (spelled-hosts ns hs))

-- what they say

ifs-ifaces : (ns : List (List ℕ)) (is : List Iface) → all_apart bytes_eq ns ≡ true → list_all (is_iface (length ns)) is ≡ true → ifaces ns (if_lines ns is) ≡ is
ifs-ifaces ns [] apart all = refl
ifs-ifaces ns (i ∷ is) apart all =
    let parts = and_parts (is_iface (length ns) i) (list_all (is_iface (length ns)) is) all in
    let within = ltb-true i.medium (length ns) (and_parts (nat_lt i.medium (length ns)) (is_address i.ip && is_mask i.mask) parts.0).0 in
    ap (λ m. record { medium = m; ip = i.ip; mask = i.mask } ∷ ifaces ns (if_lines ns is)) (place-named ns i.medium within apart)
    ∙ ap (λ xs. i ∷ xs) (ifs-ifaces ns is apart parts.1)

ifs-routes : (ns : List (List ℕ)) (is : List Iface) → routes (if_lines ns is) ≡ []
ifs-routes ns [] = refl
ifs-routes ns (i ∷ is) = ifs-routes ns is

ifs-starts : (ns : List (List ℕ)) (is : List Iface) → starts (if_lines ns is) ≡ []
ifs-starts ns [] = refl
ifs-starts ns (i ∷ is) = ifs-starts ns is

routes-ifaces : (ns : List (List ℕ)) (ls : List RouteLine) → ifaces ns (route_lines ls) ≡ []
routes-ifaces ns [] = refl
routes-ifaces ns (l ∷ ls) = routes-ifaces ns ls

routes-routes : (ls : List RouteLine) → routes (route_lines ls) ≡ ls
routes-routes [] = refl
routes-routes (l ∷ ls) = ap (λ xs. l ∷ xs) (routes-routes ls)

routes-starts : (ls : List RouteLine) → starts (route_lines ls) ≡ []
routes-starts [] = refl
routes-starts (l ∷ ls) = routes-starts ls

starts-ifaces : (ns : List (List ℕ)) (ss : List ℕ) → ifaces ns (start_lines ss) ≡ []
starts-ifaces ns [] = refl
starts-ifaces ns (n ∷ ss) = starts-ifaces ns ss

starts-routes : (ss : List ℕ) → routes (start_lines ss) ≡ []
starts-routes [] = refl
starts-routes (n ∷ ss) = starts-routes ss

starts-starts : (ss : List ℕ) → starts (start_lines ss) ≡ ss
starts-starts [] = refl
starts-starts (n ∷ ss) = ap (λ xs. n ∷ xs) (starts-starts ss)

-- three lists of lines of which each says one kind
three-said : {A : Type 0} (g : HostLine → Option A) (xs ys zs : List HostLine) (a b c : List A) → filter_map g xs ≡ a → filter_map g ys ≡ b → filter_map g zs ≡ c → filter_map g (xs ++ (ys ++ zs)) ≡ a ++ (b ++ c)
three-said g xs ys zs a b c ea eb ec =
    filter_map-append g xs (ys ++ zs)
    ∙ (ap (λ v. v ++ filter_map g (ys ++ zs)) ea ∙ ap (λ v. a ++ v) (filter_map-append g ys zs ∙ (ap (λ v. v ++ filter_map g zs) eb ∙ ap (λ v. b ++ v) ec)))

abbrev host_with : HostSpec → List Iface → List RouteLine → List ℕ → HostSpec
host_with h is ls ss = record { name = h.name; nets = h.nets; ifaces = is; routes = ls; starts = ss }

host-same : (ns : List (List ℕ)) (h : HostSpec) → all_apart bytes_eq ns ≡ true → list_all (is_iface (length ns)) h.ifaces ≡ true → host_said ns (host_text ns h) ≡ h
host-same ns h apart all =
    let a : List HostLine = if_lines ns h.ifaces in
    let b : List HostLine = route_lines h.routes in
    let c : List HostLine = start_lines h.starts in
    ap (λ is. host_with h is (routes (a ++ (b ++ c))) (starts (a ++ (b ++ c))))
    (three-said (iface_said ns) a b c h.ifaces [] [] (ifs-ifaces ns h.ifaces apart all) (routes-ifaces ns h.routes) (starts-ifaces ns h.starts) ∙ append-nil h.ifaces)
    ∙ (ap (λ ls. host_with h h.ifaces ls (starts (a ++ (b ++ c))))
    (three-said route_said a b c [] h.routes [] (ifs-routes ns h.ifaces) (routes-routes h.routes) (starts-routes h.starts) ∙ append-nil h.routes)
    ∙ ap (host_with h h.ifaces h.routes) (three-said start_said a b c [] [] h.starts (ifs-starts ns h.ifaces) (routes-starts h.routes) (starts-starts h.starts)))

-- the parts of a host that are asked for
record Parts (ns : List (List ℕ)) (h : HostSpec) : Type 0 where
  pub on : list_all (is_iface (length ns)) h.ifaces ≡ true
  pub routed : list_all (is_route (iface_routes 0 h.ifaces)) h.routes ≡ true

host-parts : (ns : List (List ℕ)) (h : HostSpec) → is_host (length ns) h ≡ true → Parts ns h
host-parts ns h e =
    let a = and_parts (is_name h.name) _ e in
    let b = and_parts (is_nets h.nets) _ a.1 in
    let c = and_parts (nat_le (length h.ifaces) 4) _ b.1 in
    let d = and_parts (list_all (is_iface (length ns)) h.ifaces) _ c.1 in
    let f = and_parts (all_apart same_medium h.ifaces) _ d.1 in
    let g = and_parts (list_all (is_route (iface_routes 0 h.ifaces)) h.routes) _ f.1 in record { on = d.0; routed = g.0 }

hosts-same : (ns : List (List ℕ)) (hs : List HostSpec) → all_apart bytes_eq ns ≡ true → list_all (is_host (length ns)) hs ≡ true → map (host_said ns) (map (host_text ns) hs) ≡ hs
hosts-same ns [] apart all = refl
hosts-same ns (h ∷ hs) apart all =
    let parts = and_parts (is_host (length ns) h) (list_all (is_host (length ns)) hs) all in
    ap (λ x. x ∷ map (host_said ns) (map (host_text ns) hs)) (host-same ns h apart (host-parts ns h parts.0).on) ∙ ap (λ xs. h ∷ xs) (hosts-same ns hs apart parts.1)

-- in their order

ifs-reached : (ns : List (List ℕ)) (before : List HostLine) (is : List Iface) → EachBehind (IsReached ns) before → EachBehind (IsReached ns) (before ++ if_lines ns is)
ifs-reached ns before [] each = subst (EachBehind (IsReached ns)) (sym (append-nil before)) each
ifs-reached ns before (i ∷ is) each =
    subst (EachBehind (IsReached ns)) (append_assoc before (if_line ns i ∷ []) (if_lines ns is))
    (ifs-reached ns (before ++ if_line ns i ∷ []) is (each-push (IsReached ns) before (if_line ns i) each tt))

starts-reached : (ns : List (List ℕ)) (before : List HostLine) (ss : List ℕ) → EachBehind (IsReached ns) before → EachBehind (IsReached ns) (before ++ start_lines ss)
starts-reached ns before [] each = subst (EachBehind (IsReached ns)) (sym (append-nil before)) each
starts-reached ns before (n ∷ ss) each =
    subst (EachBehind (IsReached ns)) (append_assoc before (host.Start n ∷ []) (start_lines ss))
    (starts-reached ns (before ++ host.Start n ∷ []) ss (each-push (IsReached ns) before (host.Start n) each tt))

route-near : (nets : List Iface) (l : RouteLine) → is_route (iface_routes 0 nets) l ≡ true → list_any (is_near l.gateway) nets ≡ true
route-near nets l e =
    let a = and_parts (is_mask l.mask) _ e in
    let b = and_parts (is_address l.net) _ a.1 in
    let c = and_parts (bit_and l.net l.mask == l.net) _ b.1 in
    let d = and_parts (is_address l.gateway) (list_any (route_contains l.gateway) (iface_routes 0 nets)) c.1 in
    sym (near-matches l.gateway 0 nets) ∙ d.1

routes-reached : (ns : List (List ℕ)) (nets : List Iface) (before : List HostLine) (ls : List RouteLine) → EachBehind (IsReached ns) before → ifaces ns before ≡ nets
    → list_all (is_route (iface_routes 0 nets)) ls ≡ true → EachBehind (IsReached ns) (before ++ route_lines ls)
routes-reached ns nets before [] each is all = subst (EachBehind (IsReached ns)) (sym (append-nil before)) each
routes-reached ns nets before (l ∷ ls) each is all =
    let parts = and_parts (is_route (iface_routes 0 nets) l) (list_all (is_route (iface_routes 0 nets)) ls) all in
    subst (EachBehind (IsReached ns)) (append_assoc before (host.Route l ∷ []) (route_lines ls))
    (routes-reached ns nets (before ++ host.Route l ∷ []) ls (each-push (IsReached ns) before (host.Route l) each (ap (list_any (is_near l.gateway)) is ∙ route-near nets l parts.0))
    (filter_map-append (iface_said ns) before (host.Route l ∷ []) ∙ (append-nil (ifaces ns before) ∙ is)) parts.1)

host-reached : (ns : List (List ℕ)) (h : HostSpec) → all_apart bytes_eq ns ≡ true → is_host (length ns) h ≡ true → EachBehind (IsReached ns) (host_text ns h).under
host-reached ns h apart fit =
    let p = host-parts ns h fit in
    let first = ifs-reached ns [] h.ifaces (each-none (IsReached ns)) in
    let second = routes-reached ns h.ifaces (if_lines ns h.ifaces) h.routes first (ifs-ifaces ns h.ifaces apart p.on) p.routed in
    subst (EachBehind (IsReached ns)) (append_assoc (if_lines ns h.ifaces) (route_lines h.routes) (start_lines h.starts))
    (starts-reached ns (if_lines ns h.ifaces ++ route_lines h.routes) h.starts second)

hosts-reached : (ns : List (List ℕ)) (hs : List HostSpec) → all_apart bytes_eq ns ≡ true → list_all (is_host (length ns)) hs ≡ true
    → All (λ (t : HostText). EachBehind (IsReached ns) t.under) (map (host_text ns) hs)
hosts-reached ns [] apart all k d lt = absurd (omega (arith, lt))
hosts-reached ns (h ∷ hs) apart all zero d lt = host-reached ns h apart (and_parts (is_host (length ns) h) (list_all (is_host (length ns)) hs) all).0
hosts-reached ns (h ∷ hs) apart all (suc k) d lt = hosts-reached ns hs apart (and_parts (is_host (length ns) h) (list_all (is_host (length ns)) hs) all).1 k d (omega (arith, lt))

-- Scripts.

abbrev script_text : List (List ℕ) → Script → ScriptText
script_text ns s = record { host = nth_name ns s.host; steps = s.steps }

spelled-steps : (xs : List Step) → map line_spelling (of_script xs) ≡ map line_of_step xs
spelled-steps [] = refl
spelled-steps (x ∷ xs) = ap (λ ls. line_of_step x ∷ ls) (spelled-steps xs)

spelled-scripts : (ns : List (List ℕ)) (ss : List Script) → map line_spelling (flat_map lines_of_steps (map (script_text ns) ss)) ≡ flat_map (lines_of_script ns) ss
spelled-scripts ns [] = refl
spelled-scripts ns (s ∷ ss) =
    map-append line_spelling (lines_of_steps (script_text ns s)) (flat_map lines_of_steps (map (script_text ns) ss))
    ∙ (ap (λ ls. (line_spelling (line.Script (nth_name ns s.host)) ∷ ls) ++ map line_spelling (flat_map lines_of_steps (map (script_text ns) ss))) (spelled-steps s.steps)
    ∙ ap (λ ls. lines_of_script ns s ++ ls) (spelled-scripts ns ss))

scripts-same : (ns : List (List ℕ)) (ss : List Script) → all_apart bytes_eq ns ≡ true → list_all (is_script (length ns)) ss ≡ true → map (script_said ns) (map (script_text ns) ss) ≡ ss
scripts-same ns [] apart all = refl
scripts-same ns (s ∷ ss) apart all =
    let parts = and_parts (is_script (length ns) s) (list_all (is_script (length ns)) ss) all in
    let within = ltb-true s.host (length ns) (and_parts (nat_lt s.host (length ns)) (list_all is_step s.steps) parts.0).0 in
    ap (λ n. record { host = n; steps = s.steps } ∷ map (script_said ns) (map (script_text ns) ss)) (place-named ns s.host within apart)
    ∙ ap (λ xs. s ∷ xs) (scripts-same ns ss apart parts.1)

-- Worlds.

-- what the canonical lines of a world say is the world
canon-said : (w : World) → IsWorld w → SaidBy w (media_lines w.media) (map (host_text (medium_names w.media)) w.hosts) (map (script_text (host_names w.hosts)) w.scripts)
canon-said w is =
    let ns : List (List ℕ) = medium_names w.media in
    let hns : List (List ℕ) = host_names w.hosts in
    let m = canon-media w.media is.media is.media_named in
    let media_length : length ns ≡ length w.media = length_map (λ (s : MediumSpec). s.name) w.media in
    let hosts_length : length hns ≡ length w.hosts = length_map (λ (h : HostSpec). h.name) w.hosts in
    let hosts_fit : list_all (is_host (length ns)) w.hosts ≡ true = ap (λ n. list_all (is_host n) w.hosts) media_length ∙ is.hosts in
    let scripts_fit : list_all (is_script (length hns)) w.scripts ≡ true = ap (λ n. list_all (is_script n) w.scripts) hosts_length ∙ is.scripts in
    record {
      media_are = m.said;
      media_in_order = m.behind;
      hosts_are = sym (hosts-same ns w.hosts is.media_named hosts_fit);
      routes_in_order = hosts-reached ns w.hosts is.media_named hosts_fit;
      scripts_are = sym (scripts-same hns w.scripts is.hosts_named scripts_fit);
      world = is;
    }

-- they are spelled so
canon-spelled : (w : World) → IsWorld w
    → map line_spelling (lines_said w.timers w.end w.seed (media_lines w.media) (map (host_text (medium_names w.media)) w.hosts) (map (script_text (host_names w.hosts)) w.scripts)) ≡ lines_of_world w
canon-spelled w is =
    let ns : List (List ℕ) = medium_names w.media in
    let hns : List (List ℕ) = host_names w.hosts in
    let a : List WorldLine = of_media (media_lines w.media) in
    let b : List WorldLine = flat_map lines_of_text (map (host_text ns) w.hosts) in
    let c : List WorldLine = flat_map lines_of_steps (map (script_text hns) w.scripts) in
    let m = canon-media w.media is.media is.media_named in
    ap (λ ls. line_of_timers w.timers ∷ line_spelling (line.End w.end) ∷ line_spelling (line.Seed w.seed) ∷ ls)
    (map-append line_spelling a (b ++ c)
    ∙ (ap (λ ls. ls ++ map line_spelling (b ++ c)) m.spelled
    ∙ ap (λ ls. flat_map lines_of_medium w.media ++ ls)
    (map-append line_spelling b c ∙ (ap (λ ls. ls ++ map line_spelling c) (spelled-hosts ns w.hosts) ∙ ap (λ ls. flat_map (lines_of_host ns) w.hosts ++ ls) (spelled-scripts hns w.scripts)))))

-- lines that fit stand on one line each and aren't passed over
whole-lines : (d e : Draft) (ls : List WorldLine) → Led d ls e → list_all is_line (map line_spelling ls) ≡ true
whole-lines d e [] led = refl
whole-lines d e (l ∷ ls) led = and_from (is_line (line_spelling l)) (list_all is_line (map line_spelling ls)) (one_line l led.0) (whole-lines (after d l) e ls led.2)

first-whole : (kind : Timers) → is_line (line_spelling (line.Networld kind)) ≡ true
first-whole Fixed = refl
first-whole Measured = refl

loud-lines : (ls : List WorldLine) → filter speaks (map line_spelling ls) ≡ map line_spelling ls
loud-lines [] = refl
loud-lines (l ∷ ls) =
    ap (λ v. cond v (line_spelling l ∷ filter speaks (map line_spelling ls)) (filter speaks (map line_spelling ls))) (loud l) ∙ ap (λ xs. line_spelling l ∷ xs) (loud-lines ls)

pub written : (w : World) (bundle : List ℕ) → IsWorld w → bad_version_line bundle ≡ None → w.dbs ≡ versions_in (lines_of bundle) → IsWorldText (laid (lines_of_world w) ++ (codes "ndb\n" ++ bundle)) w
written w bundle is fine read =
    let media : List MediumLine = media_lines w.media in
    let hosts : List HostText = map (host_text (medium_names w.media)) w.hosts in
    let scripts : List ScriptText = map (script_text (host_names w.hosts)) w.scripts in
    let ls : List WorldLine = lines_said w.timers w.end w.seed media hosts scripts in
    let s = canon-said w is in
    let led = world-lead w.timers w.end w.seed media hosts scripts (fine-world w media hosts scripts s) in
    let same = canon-spelled w is in
    let rest : List WorldLine = line.End w.end ∷ line.Seed w.seed ∷ (of_media media ++ (flat_map lines_of_text hosts ++ flat_map lines_of_steps scripts)) in
    let whole : list_all is_line (map line_spelling ls) ≡ true =
    and_from (is_line (line_spelling (line.Networld w.timers))) (list_all is_line (map line_spelling rest)) (first-whole w.timers)
    (whole-lines (begun w.timers) (whole_draft w.timers w.end w.seed media hosts scripts) rest led) in
    record {
      head = lines_of_world w;
      bundle = bundle;
      parts = inl refl;
      whole = ap (list_all is_line) (sym same) ∙ whole;
      media = media;
      hosts = hosts;
      scripts = scripts;
      spelled = ap (filter speaks) (sym same) ∙ loud-lines ls;
      media_are = s.media_are;
      media_in_order = s.media_in_order;
      hosts_are = s.hosts_are;
      routes_in_order = s.routes_in_order;
      scripts_are = s.scripts_are;
      versions = subst (SaysVersions bundle) (sym read) (versions-say bundle fine);
      world = is;
    }
