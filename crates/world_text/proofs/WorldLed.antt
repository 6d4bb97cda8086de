-- The lines of a world, one behind another, lead to what all of them say.
use Rattle.std.proofs.Common.{◌≡◌, ℕ, ◌≤◌, true, List, [], ◌∷◌, ◌++◌, length, map, refl, sym, ap, subst, arith, None, append-nil, append_assoc}
use Rattle.std.specs.Prelude.{filter_map, flat_map}
use Rattle.std.specs.List.{list_all}
use Rattle.std.proofs.lemmas.Bool.{and_parts, and_from}
use Rattle.net_base.specs.declared.timer.Timers.{Timers}
use Rattle.net_base.specs.declared.timer.Timers.TheVariants.{Fixed}
use Rattle.net_base.specs.declared.world.HostSpec.{HostSpec}
use Rattle.net_base.specs.declared.world.MediumSpec.{MediumSpec}
use Rattle.net_base.specs.declared.world.Step.{Step}
use Rattle.net_base.specs.World.{is_host, is_moment, is_name, is_within}
use Rattle.world_text.specs.declared.line.HostLine.{HostLine}
use Rattle.world_text.specs.declared.line.MediumLine.{MediumLine}
use Rattle.world_text.specs.declared.line.WorldLine.{WorldLine}
use Rattle.world_text.specs.declared.line.WorldLine.TheVariants as line
use Rattle.world_text.specs.WorldLines.{Draft, after, line_cause, opening_draft}
use Rattle.world_text.specs.WorldSpelling.{HostText, ScriptText, host_names, lines_of_steps, lines_of_text, media_said, medium_names, rated_name}
use Rattle.world_text.specs.LineFit.{fit_host_line, fit_medium_line, is_fit}
use Rattle.world_text.proofs.WorldLists.{all-at, each-last}
use Rattle.world_text.proofs.WorldMedia.{FineMedia, media-after, media-front, media-good, media_draft}
use Rattle.world_text.proofs.WorldHosts.{EachFine, FineHosts, bare_text, host-after, host-good, host_draft, hosts-front, line-after, line-good, saids}
use Rattle.world_text.proofs.WorldHostForms.{name-known}
use Rattle.world_text.proofs.WorldScripts.{host-known, FineScripts, empty_text, script-after, script-good, script_draft, scripts-front, step-after, step-good, step-own, steps-front}

-- Lines that lead on.

-- each of these lines fits and isn't bad behind those before it, and the last one leaves this world
abbrev pub Led : Draft → List WorldLine → Draft → Type 0
Led d [] e = d ≡ e
Led d (l ∷ ls) e = (is_fit l ≡ true) × (line_cause d l ≡ None) × Led (after d l) ls e

pub led-more : (d e f : Draft) (xs ys : List WorldLine) → Led d xs e → Led e ys f → Led d (xs ++ ys) f
led-more d e f [] ys first rest = subst (λ (x : Draft). Led x ys f) (sym first) rest
led-more d e f (x ∷ xs) ys first rest = (first.0, first.1, led-more (after d x) e f xs ys first.2 rest)

abbrev pub of_media : List MediumLine → List WorldLine
of_media lines = map (λ (l : MediumLine). line.OfMedium l) lines

abbrev pub of_host : List HostLine → List WorldLine
of_host lines = map (λ (l : HostLine). line.OfHost l) lines

abbrev pub of_script : List Step → List WorldLine
of_script steps = map (λ (x : Step). line.OfScript x) steps

-- Media.

pub media-lead : (kind : Timers) (e s : ℕ) (before rest : List MediumLine) → FineMedia (before ++ rest) → Led (media_draft kind e s before) (of_media rest) (media_draft kind e s (before ++ rest))
media-lead kind e s before [] k = ap (media_draft kind e s) (sym (append-nil before))
media-lead kind e s before (x ∷ rest) k =
    let same : (before ++ x ∷ []) ++ rest ≡ before ++ x ∷ rest = append_assoc before (x ∷ []) rest in
    let whole : FineMedia ((before ++ x ∷ []) ++ rest) = subst FineMedia (sym same) k in
    let some = media-front (before ++ x ∷ []) rest whole in
    let g = media-good kind e s before x some in (
      all-at fit_medium_line (before ++ x ∷ rest) before x rest refl k.fit,
      g.good,
      subst (λ (d : Draft). Led d (of_media rest) (media_draft kind e s (before ++ x ∷ rest))) (sym (media-after kind e s before x g.fine.behind g.behind g.new))
          (subst (λ (ls : List MediumLine). Led (media_draft kind e s (before ++ x ∷ [])) (of_media rest) (media_draft kind e s ls)) same (media-lead kind e s (before ++ x ∷ []) rest whole)),
    )

-- Hosts.

abbrev under_text : HostText → List HostLine → HostText
under_text h lines = record h { under = lines }

-- hosts without the last lines under the last one
under-front : (media : List MediumSpec) (front : List HostText) (h : HostText) (us vs : List HostLine)
    → FineHosts (medium_names media) (front ++ under_text h (us ++ vs) ∷ []) → FineHosts (medium_names media) (front ++ under_text h us ∷ [])
under-front media front h us [] k = subst (λ (ls : List HostLine). FineHosts (medium_names media) (front ++ under_text h ls ∷ [])) (append-nil us) k
under-front media front h us (v ∷ vs) k =
    let later = under-front media front h (us ++ v ∷ []) vs (subst (λ (ls : List HostLine). FineHosts (medium_names media) (front ++ under_text h ls ∷ [])) (sym (append_assoc us (v ∷ []) vs)) k) in
    (line-good Fixed 0 0 media [] front (under_text h us) v later).fine

under-lead : (kind : Timers) (e s : ℕ) (media : List MediumSpec) (rated : List (List ℕ)) (front : List HostText) (h : HostText) (before rest : List HostLine)
    → FineHosts (medium_names media) (front ++ under_text h (before ++ rest) ∷ [])
    → Led (host_draft kind e s media rated (front ++ under_text h before ∷ [])) (of_host rest) (host_draft kind e s media rated (front ++ under_text h (before ++ rest) ∷ []))
under-lead kind e s media rated front h before [] k = ap (λ ls. host_draft kind e s media rated (front ++ under_text h ls ∷ [])) (sym (append-nil before))
under-lead kind e s media rated front h before (x ∷ rest) k =
    let ns : List (List ℕ) = medium_names media in
    let same : (before ++ x ∷ []) ++ rest ≡ before ++ x ∷ rest = append_assoc before (x ∷ []) rest in
    let whole : FineHosts ns (front ++ under_text h ((before ++ x ∷ []) ++ rest) ∷ []) = subst (λ (ls : List HostLine). FineHosts ns (front ++ under_text h ls ∷ [])) (sym same) k in
    let some = under-front media front h (before ++ x ∷ []) rest whole in
    let g = line-good kind e s media rated front (under_text h before) x some in
    let mine = each-last (EachFine ns) front (under_text h (before ++ x ∷ rest)) k.each in (
      all-at fit_host_line (before ++ x ∷ rest) before x rest refl mine.fit,
      g.good,
      subst (λ (d : Draft). Led d (of_host rest) (host_draft kind e s media rated (front ++ under_text h (before ++ x ∷ rest) ∷ []))) (sym (line-after kind e s media rated front (under_text h before) x))
          (subst (λ (ls : List HostLine). Led (host_draft kind e s media rated (front ++ under_text h (before ++ x ∷ []) ∷ [])) (of_host rest) (host_draft kind e s media rated (front ++ under_text h ls ∷ []))) same
          (under-lead kind e s media rated front h (before ++ x ∷ []) rest whole)),
    )

pub hosts-lead : (kind : Timers) (e s : ℕ) (media : List MediumSpec) (rated : List (List ℕ)) (front rest : List HostText) → FineHosts (medium_names media) (front ++ rest)
    → Led (host_draft kind e s media rated front) (flat_map lines_of_text rest) (host_draft kind e s media rated (front ++ rest))
hosts-lead kind e s media rated front [] k = ap (host_draft kind e s media rated) (sym (append-nil front))
hosts-lead kind e s media rated front (h ∷ rest) k =
    let ns : List (List ℕ) = medium_names media in
    let same : (front ++ h ∷ []) ++ rest ≡ front ++ h ∷ rest = append_assoc front (h ∷ []) rest in
    let whole : FineHosts ns ((front ++ h ∷ []) ++ rest) = subst (FineHosts ns) (sym same) k in
    let some = hosts-front ns (front ++ h ∷ []) rest whole in
    let bare = under-front media front h [] h.under some in
    let mine = each-last (EachFine ns) front h some.each in
    let later = subst (λ (ls : List HostText). Led (host_draft kind e s media rated (front ++ h ∷ [])) (flat_map lines_of_text rest) (host_draft kind e s media rated ls)) same (hosts-lead kind e s media rated (front ++ h ∷ []) rest whole) in
    let under = under-lead kind e s media rated front h [] h.under some in
    let all = led-more (host_draft kind e s media rated (front ++ bare_text h.name h.nets ∷ [])) (host_draft kind e s media rated (front ++ h ∷ [])) (host_draft kind e s media rated (front ++ h ∷ rest)) (of_host h.under) (flat_map lines_of_text rest) under later in (
      mine.head,
      host-good kind e s media rated front h.name h.nets bare,
      subst (λ (d : Draft). Led d (of_host h.under ++ flat_map lines_of_text rest) (host_draft kind e s media rated (front ++ h ∷ rest))) (sym (host-after kind e s media rated front h.name h.nets)) all,
    )

-- Scripts.

steps-lead : (kind : Timers) (e s : ℕ) (media : List MediumSpec) (rated : List (List ℕ)) (hosts : List HostSpec) (front : List ScriptText) (called : List ℕ) (before rest : List Step)
    → FineScripts (host_names hosts) (front ++ record { host = called; steps = before ++ rest } ∷ [])
    → Led (script_draft kind e s media rated hosts (front ++ record { host = called; steps = before } ∷ [])) (of_script rest) (script_draft kind e s media rated hosts (front ++ record { host = called; steps = before ++ rest } ∷ []))
steps-lead kind e s media rated hosts front called before [] k = ap (λ xs. script_draft kind e s media rated hosts (front ++ record { host = called; steps = xs } ∷ [])) (sym (append-nil before))
steps-lead kind e s media rated hosts front called before (x ∷ rest) k =
    let same : (before ++ x ∷ []) ++ rest ≡ before ++ x ∷ rest = append_assoc before (x ∷ []) rest in
    let t : ScriptText = record { host = called; steps = before } in
    let whole = subst (λ (xs : List Step). FineScripts (host_names hosts) (front ++ record { host = called; steps = xs } ∷ [])) (sym same) k in (
      step-own (host_names hosts) front called before x rest k,
      step-good (script_draft kind e s media rated hosts (front ++ t ∷ [])) front t refl,
      subst (λ (d : Draft). Led d (of_script rest) (script_draft kind e s media rated hosts (front ++ record { host = called; steps = before ++ x ∷ rest } ∷ []))) (sym (step-after kind e s media rated hosts front t x))
          (subst (λ (xs : List Step). Led (script_draft kind e s media rated hosts (front ++ record { host = called; steps = before ++ x ∷ [] } ∷ [])) (of_script rest) (script_draft kind e s media rated hosts (front ++ record { host = called; steps = xs } ∷ []))) same
          (steps-lead kind e s media rated hosts front called (before ++ x ∷ []) rest whole)),
    )

-- the names of hosts are names
pub names-fit : (k : ℕ) (hosts : List HostSpec) → list_all (is_host k) hosts ≡ true → list_all is_name (host_names hosts) ≡ true
names-fit k [] all = refl
names-fit k (h ∷ hosts) all =
    let parts = and_parts (is_host k h) (list_all (is_host k) hosts) all in
    and_from (is_name h.name) (list_all is_name (host_names hosts)) (and_parts (is_name h.name) _ parts.0).0 (names-fit k hosts parts.1)

-- a script's host has a name
script-named : (ns : List (List ℕ)) (front : List ScriptText) (called : List ℕ) → list_all is_name ns ≡ true → FineScripts ns (front ++ empty_text called ∷ []) → is_name called ≡ true
script-named ns front called names k = name-known called ns names (host-known ns front called k)

pub scripts-lead : (kind : Timers) (e s : ℕ) (media : List MediumSpec) (rated : List (List ℕ)) (hosts : List HostSpec) (front rest : List ScriptText) → list_all is_name (host_names hosts) ≡ true
    → FineScripts (host_names hosts) (front ++ rest) → Led (script_draft kind e s media rated hosts front) (flat_map lines_of_steps rest) (script_draft kind e s media rated hosts (front ++ rest))
scripts-lead kind e s media rated hosts front [] names k = ap (script_draft kind e s media rated hosts) (sym (append-nil front))
scripts-lead kind e s media rated hosts front (t ∷ rest) names k =
    let ns : List (List ℕ) = host_names hosts in
    let same : (front ++ t ∷ []) ++ rest ≡ front ++ t ∷ rest = append_assoc front (t ∷ []) rest in
    let whole : FineScripts ns ((front ++ t ∷ []) ++ rest) = subst (FineScripts ns) (sym same) k in
    let some = scripts-front ns (front ++ t ∷ []) rest whole in
    let empty = steps-front ns front t.host [] t.steps some in
    let later = subst (λ (ls : List ScriptText). Led (script_draft kind e s media rated hosts (front ++ t ∷ [])) (flat_map lines_of_steps rest) (script_draft kind e s media rated hosts ls)) same
    (scripts-lead kind e s media rated hosts (front ++ t ∷ []) rest names whole) in
    let steps = steps-lead kind e s media rated hosts front t.host [] t.steps some in
    let all = led-more (script_draft kind e s media rated hosts (front ++ empty_text t.host ∷ [])) (script_draft kind e s media rated hosts (front ++ t ∷ [])) (script_draft kind e s media rated hosts (front ++ t ∷ rest))
    (of_script t.steps) (flat_map lines_of_steps rest) steps later in (
      script-named ns front t.host names empty,
      script-good (script_draft kind e s media rated hosts front) front t.host refl empty,
      subst (λ (d : Draft). Led d (of_script t.steps ++ flat_map lines_of_steps rest) (script_draft kind e s media rated hosts (front ++ t ∷ rest))) (sym (script-after kind e s media rated hosts front t.host)) all,
    )

-- Worlds.

-- behind the first line
abbrev pub begun : Timers → Draft
begun kind = after opening_draft (line.Networld kind)

-- what all lines say
abbrev pub whole_draft : Timers → ℕ → ℕ → List MediumLine → List HostText → List ScriptText → Draft
whole_draft kind e s media hosts scripts =
    script_draft kind e s (media_said media) (filter_map rated_name media) (saids (medium_names (media_said media)) hosts) scripts

pub record FineWorld (e s : ℕ) (media : List MediumLine) (hosts : List HostText) (scripts : List ScriptText) : Type 0 where
  pub end : is_moment e ≡ true
  pub seed : is_within 0 18446744073709551615 s ≡ true
  pub media_fine : FineMedia media
  pub some_media : 1 ≤ length media
  pub hosts_fine : FineHosts (medium_names (media_said media)) hosts
  pub some_hosts : 1 ≤ length hosts
  pub host_names_fit : list_all is_name (host_names (saids (medium_names (media_said media)) hosts)) ≡ true
  pub scripts_fine : FineScripts (host_names (saids (medium_names (media_said media)) hosts)) scripts

-- media behind which no host stands yet
pub media-hosts : (kind : Timers) (e s : ℕ) (media : List MediumLine) → 1 ≤ length media → media_draft kind e s media ≡ host_draft kind e s (media_said media) (filter_map rated_name media) []
media-hosts kind e s [] some = absurd (omega (arith, some))
media-hosts kind e s (x ∷ media) some = refl

-- hosts behind which no script stands yet
pub hosts-scripts : (kind : Timers) (e s : ℕ) (media : List MediumSpec) (rated : List (List ℕ)) (hosts : List HostText) → 1 ≤ length hosts
    → host_draft kind e s media rated hosts ≡ script_draft kind e s media rated (saids (medium_names media) hosts) []
hosts-scripts kind e s media rated [] some = absurd (omega (arith, some))
hosts-scripts kind e s media rated (h ∷ hosts) some = refl

-- the lines behind the first one
pub world-lead : (kind : Timers) (e s : ℕ) (media : List MediumLine) (hosts : List HostText) (scripts : List ScriptText) → FineWorld e s media hosts scripts
    → Led (begun kind) (line.End e ∷ line.Seed s ∷ (of_media media ++ (flat_map lines_of_text hosts ++ flat_map lines_of_steps scripts))) (whole_draft kind e s media hosts scripts)
world-lead kind e s media hosts scripts k =
    let ms : List MediumSpec = media_said media in
    let rated : List (List ℕ) = filter_map rated_name media in
    let hs : List HostSpec = saids (medium_names ms) hosts in
    let first = media-lead kind e s [] media k.media_fine in
    let second = subst (λ (d : Draft). Led d (flat_map lines_of_text hosts) (host_draft kind e s ms rated hosts)) (sym (media-hosts kind e s media k.some_media)) (hosts-lead kind e s ms rated [] hosts k.hosts_fine) in
    let third = subst (λ (d : Draft). Led d (flat_map lines_of_steps scripts) (script_draft kind e s ms rated hs scripts)) (sym (hosts-scripts kind e s ms rated hosts k.some_hosts))
    (scripts-lead kind e s ms rated hs [] scripts k.host_names_fit k.scripts_fine) in
    let late = led-more (media_draft kind e s media) (host_draft kind e s ms rated hosts) (script_draft kind e s ms rated hs scripts) (flat_map lines_of_text hosts) (flat_map lines_of_steps scripts) second third in (
      k.end,
      refl,
      (k.seed, refl, led-more (media_draft kind e s []) (media_draft kind e s media) (script_draft kind e s ms rated hs scripts) (of_media media) (flat_map lines_of_text hosts ++ flat_map lines_of_steps scripts) first late),
    )
