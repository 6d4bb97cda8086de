-- A text that spells a world is read as it.
use Rattle.std.proofs.Common.{◌≡◌, ℕ, ◌+◌, ◌^◌, ◌≤◌, ◌==◌, inl, inr, suc, true, false, List, [], ◌∷◌, ◌++◌, length, map, refl, sym, ap, subst, ◌∙◌, arith, Some, None, Ok}
use Rattle.std.specs.Prelude.{bytes_eq, codes, flat_map, nat_eq, nat_le, nat_lt, if◌then◌else◌}
use Rattle.std.specs.List.{All, list_all}
use Rattle.std.proofs.lemmas.Bool.{and_parts, false≢true, and_from, leb-true}
use Rattle.std.proofs.lemmas.Bool.Decides.{nat_tests}
use Rattle.std.proofs.lemmas.List.Folds.{list_all-append}
use Rattle.net_base.specs.declared.timer.Timers.{Timers}
use Rattle.net_base.specs.declared.timer.Timers.TheVariants.{Fixed, Measured}
use Rattle.net_base.specs.declared.world.HostSpec.{HostSpec}
use Rattle.net_base.specs.declared.world.MediumSpec.{MediumSpec}
use Rattle.net_base.specs.declared.world.Script.{Script}
use Rattle.net_base.specs.declared.world.Step.{Step}
use Rattle.net_base.specs.declared.world.Version.{Version}
use Rattle.net_base.specs.declared.world.World.{World}
use Rattle.net_base.specs.NdbText.{is_hash, lines_of}
use Rattle.net_base.specs.World.{IsWorld, addresses, all_apart, are_media, is_host, is_medium, is_name, is_script, is_within}
use Rattle.world_text.specs.declared.line.HostLine.{HostLine}
use Rattle.world_text.specs.declared.line.LineCause.TheVariants as cause
use Rattle.world_text.specs.declared.line.MediumLine.{MediumLine}
use Rattle.world_text.specs.declared.line.MediumLine.TheVariants as medium
use Rattle.world_text.specs.declared.line.WorldLine.{WorldLine}
use Rattle.world_text.specs.declared.line.WorldLine.TheVariants as line
use Rattle.world_text.specs.LineReading.{read_line}
use Rattle.world_text.specs.VersionLines.{versions_in}
use Rattle.world_text.specs.WorldLines.{Begins, Draft, Goes, after, first_line, good_line, judged_line, line_cause, line_verdict, opening_draft, unless, world_of}
use Rattle.world_text.specs.WorldRefusal.{LeadsToWorld}
use Rattle.world_text.specs.WorldSpelling.{EachBehind, HostText, IsBehindMedium, IsHeaded, IsReached, IsWorldText, ScriptText, host_names, host_said, laid, lines_of_steps, lines_of_text, lines_said, media_said, medium_names, script_said, speaks, line_spelling}
use Rattle.world_text.specs.WorldText.{Cut, cuts_of, judged, reading_from, with_versions, world_reading}
use Rattle.world_text.specs.LineFit.{is_fit}
use Rattle.world_text.proofs.LineBack.{back, loud}
use Rattle.world_text.proofs.WorldLists.{false-of-not}
use Rattle.world_text.proofs.WorldMedia.{names, count-named}
use Rattle.world_text.proofs.WorldMediums.{AreMedia, lines-of-media}
use Rattle.world_text.proofs.WorldHosts.{count-said, saids}
use Rattle.world_text.proofs.WorldHostForms.{AreHosts, lines-of-hosts}
use Rattle.world_text.proofs.WorldLed.{FineWorld, Led, begun, names-fit, of_host, of_media, of_script, whole_draft, world-lead}
use Rattle.world_text.proofs.WorldScripts.{script_group}
use Rattle.world_text.proofs.VersionTexts.{versions-back}
use Rattle.world_text.proofs.WorldTexts.{going, goes-on, leads-all, reading-lines}
use Rattle.net_base.proofs.Shared.{length_map}

-- From lines to texts.

later-group : (d : Draft) (l : WorldLine) → (d.group == 0) ≡ false → ((after d l).group == 0) ≡ false
later-group d (line.Networld kind) e = refl
later-group d (line.End m) e = refl
later-group d (line.Seed n) e = refl
later-group d (line.OfMedium (medium.Medium called mtu)) e = refl
later-group d (line.OfMedium (medium.Rates called a b c)) e = e
later-group d (line.OfMedium (medium.Fate called f x)) e = e
later-group d (line.Host called nets) e = refl
later-group d (line.OfHost l) e = e
later-group d (line.Script called) e = refl
later-group d (line.OfScript x) e = e
later-group d line.Ndb e = e

-- a line that isn't passed over, behind the first
loud-verdict : (d : Draft) (text : List ℕ) → speaks text ≡ true → (d.group == 0) ≡ false → line_verdict d text ≡ judged_line d (read_line text)
loud-verdict d [] speak late = absurd (false≢true speak)
loud-verdict d (b ∷ text) speak late =
    ap (λ v. if v then Goes d else (if d.group == 0 then first_line d (b ∷ text) else judged_line d (read_line (b ∷ text)))) (false-of-not (is_hash b) speak)
    ∙ ap (λ v. if v then first_line d (b ∷ text) else judged_line d (read_line (b ∷ text))) late

-- what comes of a spelled line that isn't bad
spelled-verdict : (d : Draft) (l : WorldLine) → (d.group == 0) ≡ false → is_fit l ≡ true → line_cause d l ≡ None → line_verdict d (line_spelling l) ≡ good_line d l
spelled-verdict d l late fit none =
    loud-verdict d (line_spelling l) (loud l) late ∙ (ap (judged_line d) (back l fit) ∙ ap (λ o. unless o (good_line d l)) none)

-- lines that lead on do so as they are spelled
spelled-leads : (d e : Draft) (ls : List WorldLine) → (d.group == 0) ≡ false → list_all going ls ≡ true → Led d ls e → LeadsToWorld d (map line_spelling ls) e
spelled-leads d e [] late on led = led
spelled-leads d e (l ∷ ls) late on led =
    let parts = and_parts (going l) (list_all going ls) on in
    (after d l, spelled-verdict d l late led.0 led.1 ∙ goes-on d l parts.0, spelled-leads (after d l) e ls (later-group d l late) parts.1 led.2)

-- no line of a world is `ndb`
media-going : (media : List MediumLine) → list_all going (of_media media) ≡ true
media-going [] = refl
media-going (x ∷ media) = media-going media

under-going : (under : List HostLine) → list_all going (of_host under) ≡ true
under-going [] = refl
under-going (x ∷ under) = under-going under

hosts-going : (hosts : List HostText) → list_all going (flat_map lines_of_text hosts) ≡ true
hosts-going [] = refl
hosts-going (h ∷ hosts) =
    list_all-append going (of_host h.under) (flat_map lines_of_text hosts) ∙ and_from (list_all going (of_host h.under)) (list_all going (flat_map lines_of_text hosts)) (under-going h.under) (hosts-going hosts)

steps-going : (t : ScriptText) (steps : List Step) → list_all going (of_script steps) ≡ true
steps-going t [] = refl
steps-going t (x ∷ steps) = steps-going t steps

scripts-going : (scripts : List ScriptText) → list_all going (flat_map lines_of_steps scripts) ≡ true
scripts-going [] = refl
scripts-going (t ∷ scripts) =
    list_all-append going (of_script t.steps) (flat_map lines_of_steps scripts)
    ∙ and_from (list_all going (of_script t.steps)) (list_all going (flat_map lines_of_steps scripts)) (steps-going t t.steps) (scripts-going scripts)

all-going : (media : List MediumLine) (hosts : List HostText) (scripts : List ScriptText)
    → list_all going (of_media media ++ (flat_map lines_of_text hosts ++ flat_map lines_of_steps scripts)) ≡ true
all-going media hosts scripts =
    list_all-append going (of_media media) (flat_map lines_of_text hosts ++ flat_map lines_of_steps scripts)
    ∙ and_from (list_all going (of_media media)) _ (media-going media)
    (list_all-append going (flat_map lines_of_text hosts) (flat_map lines_of_steps scripts)
    ∙ and_from (list_all going (flat_map lines_of_text hosts)) (list_all going (flat_map lines_of_steps scripts)) (hosts-going hosts) (scripts-going scripts))

-- its first line names its timers
first-goes : (kind : Timers) → line_verdict opening_draft (line_spelling (line.Networld kind)) ≡ Goes (begun kind)
first-goes Fixed = refl
first-goes Measured = refl

-- the spelled lines of a world lead to it
pub world-leads : (kind : Timers) (e s : ℕ) (media : List MediumLine) (hosts : List HostText) (scripts : List ScriptText) → FineWorld e s media hosts scripts
    → LeadsToWorld opening_draft (map line_spelling (lines_said kind e s media hosts scripts)) (whole_draft kind e s media hosts scripts)
world-leads kind e s media hosts scripts k = (
  begun kind,
  first-goes kind,
  spelled-leads (begun kind) (whole_draft kind e s media hosts scripts)
      (line.End e ∷ line.Seed s ∷ (of_media media ++ (flat_map lines_of_text hosts ++ flat_map lines_of_steps scripts))) refl (all-going media hosts scripts)
      (world-lead kind e s media hosts scripts k),
)

-- From worlds to lines.

media-names : (n : ℕ) (media : List MediumSpec) → are_media n media ≡ true → list_all is_name (medium_names media) ≡ true
media-names n [] e = refl
media-names n (s ∷ media) e =
    let parts = and_parts (is_medium n s) (are_media (n + 1) media) e in
    let number = and_parts (s.number == n) _ parts.0 in
    and_from (is_name s.name) (list_all is_name (medium_names media)) (and_parts (is_name s.name) _ number.1).0 (media-names (n + 1) media parts.1)

seed-fits : (s : ℕ) → nat_lt s (2 ^ 64) ≡ true → is_within 0 18446744073709551615 s ≡ true
seed-fits s e = and_from (nat_le 0 s) (nat_le s 18446744073709551615) (zero_le s) (upto s e)
  where
    zero_le : (n : ℕ) → nat_le 0 n ≡ true
    zero_le n = grind (arith, nat_tests)

    upto : (n : ℕ) → nat_lt n (2 ^ 64) ≡ true → nat_le n 18446744073709551615 ≡ true
    upto n h = grind (arith, nat_tests)

some-lines : (media : List MediumLine) → 1 ≤ length (names media) → 1 ≤ length media
some-lines [] some = absurd (omega (arith, some))
some-lines (x ∷ media) some = omega arith

-- what holds of all holds of each
pub each-of-all : {A : Type 0} (P : A → Type 0) (xs before : List A) (x : A) (rest : List A) → xs ≡ before ++ x ∷ rest → All P xs → P x
each-of-all P xs [] x rest e all = subst (All P) e all 0 x (omega arith)
each-of-all P xs (b ∷ before) x rest e all =
    each-of-all P (before ++ x ∷ rest) before x rest refl (λ k d lt. subst (All P) e all (suc k) d (omega (arith, lt)))

-- these lines say the world
pub record SaidBy (w : World) (media : List MediumLine) (hosts : List HostText) (scripts : List ScriptText) : Type 0 where
  pub media_are : w.media ≡ media_said media
  pub media_in_order : EachBehind IsBehindMedium media
  pub hosts_are : w.hosts ≡ map (host_said (medium_names w.media)) hosts
  pub routes_in_order : All (λ (h : HostText). EachBehind (IsReached (medium_names w.media)) h.under) hosts
  pub scripts_are : w.scripts ≡ map (script_said (host_names w.hosts)) scripts
  pub world : IsWorld w

said-by : (text : List ℕ) (w : World) (t : IsWorldText text w) → SaidBy w t.media t.hosts t.scripts
said-by text w t = record {
  media_are = t.media_are;
  media_in_order = t.media_in_order;
  hosts_are = t.hosts_are;
  routes_in_order = t.routes_in_order;
  scripts_are = t.scripts_are;
  world = t.world;
}

pub fine-world : (w : World) (media : List MediumLine) (hosts : List HostText) (scripts : List ScriptText) → SaidBy w media hosts scripts → FineWorld w.end w.seed media hosts scripts
fine-world w media hosts scripts t =
    let ms : List MediumSpec = media_said media in
    let ns : List (List ℕ) = medium_names ms in
    let is : IsWorld w = t.world in
    let hosts_are : w.hosts ≡ saids ns hosts = t.hosts_are ∙ ap (λ (xs : List MediumSpec). saids (medium_names xs) hosts) t.media_are in
    let scripts_are : w.scripts ≡ map (script_said (host_names (saids ns hosts))) scripts = t.scripts_are ∙ ap (λ (hs : List HostSpec). map (script_said (host_names hs)) scripts) hosts_are in
    let media_ends = and_parts (nat_le 1 (length w.media)) (nat_le (length w.media) 4) is.some_media in
    let hosts_ends = and_parts (nat_le 1 (length w.hosts)) (nat_le (length w.hosts) 8) is.some_hosts in
    let media_length = ap (λ (xs : List MediumSpec). length xs) t.media_are in
    let names_length : length ns ≡ length ms = length_map (λ (s : MediumSpec). s.name) ms in
    let hosts_length = ap (λ (xs : List HostSpec). length xs) hosts_are in
    let texts_length = count-said ns hosts in
    let lines_length = count-named media 0 media in
    let some_media = leb-true 1 (length w.media) media_ends.0 in
    let few_media = leb-true (length w.media) 4 media_ends.1 in
    let some_hosts = leb-true 1 (length w.hosts) hosts_ends.0 in
    let few_hosts = leb-true (length w.hosts) 8 hosts_ends.1 in
    let media_fit : are_media 0 ms ≡ true = ap (are_media 0) (sym t.media_are) ∙ is.media in
    let hosts_fit : list_all (is_host (length ns)) (saids ns hosts) ≡ true =
    ap (λ n. list_all (is_host n) (saids ns hosts)) (names_length ∙ sym media_length) ∙ (ap (list_all (is_host (length w.media))) (sym hosts_are) ∙ is.hosts) in
    let are : AreMedia ms = record {
      media_fit = media_fit;
      named = ap (λ (xs : List MediumSpec). all_apart bytes_eq (medium_names xs)) (sym t.media_are) ∙ is.media_named;
      few = omega (arith, media_length, few_media);
    } in
    let hosted : AreHosts (length ns) (saids ns hosts) = record {
      hosts_fit = hosts_fit;
      named = ap (λ (hs : List HostSpec). all_apart bytes_eq (map (λ (h : HostSpec). h.name) hs)) (sym hosts_are) ∙ is.hosts_named;
      addressed = ap (λ (hs : List HostSpec). all_apart nat_eq (flat_map addresses hs)) (sym hosts_are) ∙ is.hosts_addressed;
      few = omega (arith, hosts_length, few_hosts);
    } in
    let in_order : All (λ (h : HostText). EachBehind (IsReached ns) h.under) hosts =
    subst (λ (xs : List MediumSpec). All (λ (h : HostText). EachBehind (IsReached (medium_names xs)) h.under) hosts) t.media_are t.routes_in_order in
    record {
      end = is.end;
      seed = seed-fits w.seed is.seed;
      media_fine = lines-of-media media t.media_in_order are;
      some_media = some-lines media (omega (arith, some_media, media_length, lines_length));
      hosts_fine = lines-of-hosts ns hosts (media-names 0 ms media_fit)
          (λ before h rest e. each-of-all (λ (g : HostText). EachBehind (IsReached ns) g.under) hosts before h rest e in_order) hosted;
      some_hosts = omega (arith, some_hosts, hosts_length, texts_length);
      host_names_fit = names-fit (length ns) (saids ns hosts) hosts_fit;
      scripts_fine = record {
        fit = ap (λ n. list_all (is_script n) (map (script_said (host_names (saids ns hosts))) scripts)) (length_map (λ (h : HostSpec). h.name) (saids ns hosts) ∙ sym hosts_length)
            ∙ (ap (list_all (is_script (length w.hosts))) (sym scripts_are) ∙ is.scripts);
        few = let n = length_map (script_said (host_names (saids ns hosts))) scripts in
            let same = ap (λ (xs : List Script). length xs) scripts_are in
            let few = leb-true (length w.scripts) 32 is.few_scripts in omega (arith, n, same, few);
      };
    }

abbrev with_parts : Timers → ℕ → ℕ → List MediumSpec → List HostSpec → List Script → List Version → World
with_parts kind e s ms hs xs dbs = record { end = e; seed = s; timers = kind; media = ms; hosts = hs; scripts = xs; dbs = dbs }

-- the world of the lines, with the versions behind them
world-is : (text : List ℕ) (w : World) (t : IsWorldText text w)
    → record (world_of (whole_draft w.timers w.end w.seed t.media t.hosts t.scripts)) { dbs = versions_in (lines_of t.bundle) } ≡ w
world-is text w t =
    let ns : List (List ℕ) = medium_names (media_said t.media) in
    let hs : List HostSpec = saids ns t.hosts in
    let xs : List Script = map (script_said (host_names hs)) t.scripts in
    let dbs : List Version = versions_in (lines_of t.bundle) in
    let hosts_are : w.hosts ≡ hs = t.hosts_are ∙ ap (λ (ms : List MediumSpec). saids (medium_names ms) t.hosts) t.media_are in
    let scripts_are : w.scripts ≡ xs = t.scripts_are ∙ ap (λ (gs : List HostSpec). map (script_said (host_names gs)) t.scripts) hosts_are in
    ap (λ (ms : List MediumSpec). with_parts w.timers w.end w.seed ms hs xs dbs) (sym t.media_are)
    ∙ (ap (λ (gs : List HostSpec). with_parts w.timers w.end w.seed w.media gs xs dbs) (sym hosts_are)
    ∙ (ap (λ (ys : List Script). with_parts w.timers w.end w.seed w.media w.hosts ys dbs) (sym scripts_are)
    ∙ ap (with_parts w.timers w.end w.seed w.media w.hosts w.scripts) (sym (versions-back t.bundle w.dbs t.versions t.world.versions_timed).1)))

script-late : (scripts : List ScriptText) → nat_lt (script_group scripts) 5 ≡ false
script-late [] = refl
script-late (t ∷ scripts) = refl

script-begun : (scripts : List ScriptText) → (script_group scripts == 0) ≡ false
script-begun [] = refl
script-begun (t ∷ scripts) = refl

ndb-begins : (kind : Timers) (e s : ℕ) (media : List MediumLine) (hosts : List HostText) (scripts : List ScriptText)
    → line_verdict (whole_draft kind e s media hosts scripts) (codes "ndb") ≡ Begins (world_of (whole_draft kind e s media hosts scripts))
ndb-begins kind e s media hosts scripts =
    let d : Draft = whole_draft kind e s media hosts scripts in
    spelled-verdict d line.Ndb (script-begun scripts) refl (ap (λ v. if v then Some cause.MissingPart else None) (script-late scripts))

pub spelled-read : (text : List ℕ) (w : World) → IsWorldText text w → world_reading text ≡ Ok w
spelled-read text w t = by t.parts
  where
    d : Draft
    d = whole_draft w.timers w.end w.seed t.media t.hosts t.scripts

    leads : LeadsToWorld opening_draft t.head d
    leads =
        leads-all opening_draft d t.head
        (subst (λ (lines : List (List ℕ)). LeadsToWorld opening_draft lines d) (sym t.spelled) (world-leads w.timers w.end w.seed t.media t.hosts t.scripts (fine-world w t.media t.hosts t.scripts (said-by text w t))))

    bundle_read : (n : ℕ) (cuts : List Cut) → reading_from d n (record { line = codes "ndb"; behind = t.bundle } ∷ cuts) ≡ Ok w
    bundle_read n cuts =
        ap (λ v. judged n t.bundle v (λ (next : Draft). reading_from next (n + 1) cuts)) (ndb-begins w.timers w.end w.seed t.media t.hosts t.scripts)
        ∙ (ap (with_versions n (world_of d) t.bundle) (versions-back t.bundle w.dbs t.versions t.world.versions_timed).0 ∙ ap (λ (x : World). Ok x) (world-is text w t))

    behind : (tail : List ℕ) (cuts : List Cut) → text ≡ laid t.head ++ tail → cuts_of tail ≡ record { line = codes "ndb"; behind = t.bundle } ∷ cuts → world_reading text ≡ Ok w
    behind tail cuts is cut =
        ap (λ x. reading_from opening_draft 1 (cuts_of x)) is
        ∙ (reading-lines opening_draft d 1 t.head tail t.whole leads
        ∙ (ap (reading_from d (1 + length t.head)) cut ∙ bundle_read (1 + length t.head) cuts))

    by : IsHeaded text t.head t.bundle → world_reading text ≡ Ok w
    by (inl is) = behind (codes "ndb\n" ++ t.bundle) (cuts_of t.bundle) is refl
    by (inr (is, none)) = behind (codes "ndb") [] is (ap (λ (x : List ℕ). record { line = codes "ndb"; behind = x } ∷ []) (sym none))
