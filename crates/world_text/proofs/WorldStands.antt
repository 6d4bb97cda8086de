-- What lines lead to is what all of them say, and a world where none is missing.
use Rattle.std.proofs.Common.{◌≡◌, ℕ, ◌^◌, ◌≤◌, Bool, true, false, not, ◌||◌, List, [], ◌∷◌, ◌++◌, length, refl, sym, ap, subst, ◌∙◌, arith, Some, None, append-nil, append_assoc, length-append}
use Rattle.std.specs.Prelude.{filter_map, flat_map, is_none, nat_le, nat_lt}
use Rattle.std.specs.List.{All, list_all, list_any}
use Rattle.std.proofs.lemmas.Bool.{and_parts, false≢true, or_parts, not-false}
use Rattle.std.proofs.lemmas.Bool.Decides.{nat_tests}
use Rattle.std.proofs.lemmas.Grind.{flat_map-append}
use Rattle.std.proofs.lemmas.List.{map-append}
use Rattle.std.proofs.lemmas.Option.{none-some}
use Rattle.net_base.specs.declared.address.Proto.{Proto}
use Rattle.net_base.specs.declared.timer.Timers.{Timers}
use Rattle.net_base.specs.declared.world.HostSpec.{HostSpec}
use Rattle.net_base.specs.declared.world.MediumSpec.{MediumSpec}
use Rattle.net_base.specs.declared.world.Step.{Step}
use Rattle.net_base.specs.declared.world.Version.{Version}
use Rattle.net_base.specs.declared.world.World.{World}
use Rattle.net_base.specs.Routes.{has_ip}
use Rattle.net_base.specs.Versions.{are_timed}
use Rattle.net_base.specs.World.{IsDatabase, IsWorld, is_host, is_moment, is_script, is_within}
use Rattle.world_text.specs.declared.line.HostLine.{HostLine}
use Rattle.world_text.specs.declared.line.HostLine.TheVariants as host
use Rattle.world_text.specs.declared.line.LineCause.{LineCause}
use Rattle.world_text.specs.declared.line.LineCause.TheVariants as cause
use Rattle.world_text.specs.declared.line.MediumLine.{MediumLine}
use Rattle.world_text.specs.declared.line.MediumLine.TheVariants as medium
use Rattle.world_text.specs.declared.line.WorldLine.{WorldLine}
use Rattle.world_text.specs.declared.line.WorldLine.TheVariants as line
use Rattle.world_text.specs.WorldLines.{Draft, after, has_host, has_iface_on, has_medium, host_cause, host_line_cause, host_under, is_before, is_host_named, is_past, is_rated, is_under, line_cause, medium_line_cause, medium_number, ndb_cause, script_cause, world_of}
use Rattle.world_text.specs.WorldSpelling.{HostText, ScriptText, host_names, lines_of_steps, lines_of_text, lines_said, media_said, medium_names, rated_name, script_said}
use Rattle.world_text.specs.LineFit.{is_fit}
use Rattle.world_text.proofs.WorldLists.{Ending, Empty, Pushed, ending}
use Rattle.world_text.proofs.WorldMedia.{FineMedia, count-named, fine-none, media-after, media-fits, media_draft, media_group, names, unrefused}
use Rattle.world_text.proofs.WorldMediums.{media-of-lines}
use Rattle.world_text.proofs.WorldHosts.{FineHosts, bare_text, count-said, host-after, host-fits, host_draft, hosts-none, line-after, line-fits, saids, with_line}
use Rattle.world_text.proofs.WorldHostForms.{hosts-of-lines}
use Rattle.world_text.proofs.WorldScripts.{FineScripts, empty_text, script-after, script-fits, script_draft, scripts-none, scripts_said, step-after, step-fits, with_one}
use Rattle.world_text.proofs.WorldLed.{begun, of_media}
use Rattle.net_base.proofs.Shared.{length_map, within-is}

-- Lines so far.

abbrev hosts_stand : Timers → ℕ → ℕ → List MediumLine → List HostText → Draft
hosts_stand kind e s media [] = media_draft kind e s media
hosts_stand kind e s media (h ∷ hosts) = host_draft kind e s (media_said media) (filter_map rated_name media) (h ∷ hosts)

abbrev pub hosts_of : List MediumLine → List HostText → List HostSpec
hosts_of media hosts = saids (medium_names (media_said media)) hosts

-- what these lines lead to
abbrev pub stands_draft : Timers → ℕ → ℕ → List MediumLine → List HostText → List ScriptText → Draft
stands_draft kind e s media hosts [] = hosts_stand kind e s media hosts
stands_draft kind e s media hosts (t ∷ scripts) = script_draft kind e s (media_said media) (filter_map rated_name media) (hosts_of media hosts) (t ∷ scripts)

pub record Stands (ls : List WorldLine) (d : Draft) : Type 0 where
  pub kind_at : Timers
  pub end_at : ℕ
  pub seed_at : ℕ
  pub media : List MediumLine
  pub hosts : List HostText
  pub scripts : List ScriptText
  pub lines : ls ≡ lines_said kind_at end_at seed_at media hosts scripts
  pub draft : d ≡ stands_draft kind_at end_at seed_at media hosts scripts
  pub moment : is_moment end_at ≡ true
  pub number : is_within 0 18446744073709551615 seed_at ≡ true
  pub media_fine : FineMedia media
  pub hosts_fine : FineHosts (medium_names (media_said media)) hosts
  pub scripts_fine : FineScripts (host_names (hosts_of media hosts)) scripts
  pub hosts_order : 1 ≤ length hosts → 1 ≤ length media
  pub scripts_order : 1 ≤ length scripts → 1 ≤ length hosts

-- the lines behind which a world so far stands
pub data So (ls : List WorldLine) (d : Draft) : Type 0 where
  AtFirst : (kind : Timers) → ls ≡ line.Networld kind ∷ [] → d ≡ begun kind → So ls d
  AtEnd : (kind : Timers) (m : ℕ) → is_moment m ≡ true → ls ≡ line.Networld kind ∷ line.End m ∷ [] → d ≡ record (begun kind) { group = 2; end = m } → So ls d
  AtRest : Stands ls d → So ls d

-- Refusals.

never : {A : Type 0} (c : LineCause) → Some c ≡ None → A
never c e = absurd (none-some c (sym e))

-- a line of media isn't bad before a host stands
media-early : (d : Draft) (x : MediumLine) → medium_line_cause d x ≡ None → is_past 4 d ≡ false
media-early d (medium.Medium called mtu) e =
    let a = unrefused cause.NameTwice (has_medium called d) _ e in
    let b = unrefused cause.OverLimit (nat_le 4 (length d.media)) _ a.1 in
    (unrefused cause.OutOfOrder (is_past 4 d) _ b.1).0
media-early d (medium.Rates called loss twice later) e =
    let a = unrefused cause.UnknownName (not (has_medium called d)) _ e in
    (or_parts (is_past 4 d) (is_rated called d) (unrefused cause.OutOfOrder (is_past 4 d || is_rated called d) _ a.1).0).0
media-early d (medium.Fate called f x) e =
    let a = unrefused cause.UnknownName (not (has_medium called d)) _ e in
    (unrefused cause.OutOfOrder (is_past 4 d) _ a.1).0

-- a host isn't bad before a script and behind a medium
host-early : (d : Draft) (called : List ℕ) → host_cause d called ≡ None → (is_past 5 d ≡ false) × (is_before 4 d ≡ false)
host-early d called e =
    let a = unrefused cause.NameTwice (has_host called d) _ e in
    let b = unrefused cause.OverLimit (nat_le 8 (length d.hosts)) _ a.1 in
    let c = unrefused cause.OutOfOrder (is_past 5 d) _ b.1 in
    (c.0, (unrefused cause.MissingPart (is_before 4 d) None c.1).0)

-- a line under a host isn't bad where one stands
host-there : (d : Draft) (x : HostLine) → host_line_cause d x ≡ None → is_none (host_under d) ≡ false
host-there d (host.If called ip mask) e =
    let a = unrefused cause.UnknownName (not (has_medium called d)) _ e in
    let b = unrefused cause.NameTwice (is_under (has_iface_on (medium_number called d)) d) _ a.1 in
    let c = unrefused cause.AddressTwice (list_any (has_ip ip) d.hosts) _ b.1 in
    (unrefused cause.OutOfOrder (is_none (host_under d)) _ c.1).0
host-there d (host.Route l) e = (unrefused cause.OutOfOrder (is_none (host_under d)) _ e).0
host-there d (host.Start start) e = (unrefused cause.OutOfOrder (is_none (host_under d)) _ e).0

-- The first lines.

-- no line but `end` is good behind the first
first-only : (kind : Timers) (l : WorldLine) → line_cause (begun kind) l ≡ None → (m : ℕ) × (l ≡ line.End m)
first-only kind (line.Networld other) e = never cause.OutOfOrder e
first-only kind (line.End m) e = (m, refl)
first-only kind (line.Seed s) e = never cause.MissingPart e
first-only kind (line.OfMedium (medium.Medium called mtu)) e = never cause.MissingPart e
first-only kind (line.OfMedium (medium.Rates called loss twice later)) e = never cause.UnknownName e
first-only kind (line.OfMedium (medium.Fate called f x)) e = never cause.UnknownName e
first-only kind (line.Host called nets) e = never cause.MissingPart e
first-only kind (line.OfHost (host.If called ip mask)) e = never cause.UnknownName e
first-only kind (line.OfHost (host.Route l)) e = never cause.OutOfOrder e
first-only kind (line.OfHost (host.Start n)) e = never cause.OutOfOrder e
first-only kind (line.Script called) e = never cause.UnknownName e
first-only kind (line.OfScript x) e = never cause.OutOfOrder e
first-only kind line.Ndb e = never cause.MissingPart e

-- no line but `seed` is good behind `end`
second-only : (kind : Timers) (m : ℕ) (l : WorldLine) → line_cause (record (begun kind) { group = 2; end = m }) l ≡ None → (s : ℕ) × (l ≡ line.Seed s)
second-only kind m (line.Networld other) e = never cause.OutOfOrder e
second-only kind m (line.End n) e = never cause.OutOfOrder e
second-only kind m (line.Seed s) e = (s, refl)
second-only kind m (line.OfMedium (medium.Medium called mtu)) e = never cause.MissingPart e
second-only kind m (line.OfMedium (medium.Rates called loss twice later)) e = never cause.UnknownName e
second-only kind m (line.OfMedium (medium.Fate called f x)) e = never cause.UnknownName e
second-only kind m (line.Host called nets) e = never cause.MissingPart e
second-only kind m (line.OfHost (host.If called ip mask)) e = never cause.UnknownName e
second-only kind m (line.OfHost (host.Route l)) e = never cause.OutOfOrder e
second-only kind m (line.OfHost (host.Start n)) e = never cause.OutOfOrder e
second-only kind m (line.Script called) e = never cause.UnknownName e
second-only kind m (line.OfScript x) e = never cause.OutOfOrder e
second-only kind m line.Ndb e = never cause.MissingPart e

-- Lines of a group.

abbrev first_three : Timers → ℕ → ℕ → List WorldLine → List WorldLine
first_three kind e s ls = line.Networld kind ∷ line.End e ∷ line.Seed s ∷ ls

lines-media : (kind : Timers) (e s : ℕ) (media : List MediumLine) (x : MediumLine) → lines_said kind e s (media ++ x ∷ []) [] [] ≡ lines_said kind e s media [] [] ++ line.OfMedium x ∷ []
lines-media kind e s media x =
    ap (first_three kind e s)
    (append-nil (of_media (media ++ x ∷ []))
    ∙ (map-append (λ (l : MediumLine). line.OfMedium l) media (x ∷ []) ∙ ap (λ ls. ls ++ line.OfMedium x ∷ []) (sym (append-nil (of_media media)))))

lines-hosts : (kind : Timers) (e s : ℕ) (media : List MediumLine) (hosts : List HostText) (h : HostText) → lines_said kind e s media (hosts ++ h ∷ []) [] ≡ lines_said kind e s media hosts [] ++ lines_of_text h
lines-hosts kind e s media hosts h =
    ap (first_three kind e s)
    (ap (λ ls. of_media media ++ ls)
    (append-nil (flat_map lines_of_text (hosts ++ h ∷ []))
    ∙ (flat_map-append lines_of_text hosts (h ∷ [])
    ∙ (ap (λ ls. flat_map lines_of_text hosts ++ ls) (append-nil (lines_of_text h)) ∙ ap (λ ls. ls ++ lines_of_text h) (sym (append-nil (flat_map lines_of_text hosts))))))
    ∙ sym (append_assoc (of_media media) (flat_map lines_of_text hosts ++ []) (lines_of_text h)))

lines-under : (kind : Timers) (e s : ℕ) (media : List MediumLine) (front : List HostText) (h : HostText) (x : HostLine)
    → lines_said kind e s media (front ++ with_line h x ∷ []) [] ≡ lines_said kind e s media (front ++ h ∷ []) [] ++ line.OfHost x ∷ []
lines-under kind e s media front h x =
    lines-hosts kind e s media front (with_line h x)
    ∙ (ap (λ ls. lines_said kind e s media front [] ++ (line.Host h.name h.nets ∷ ls)) (map-append (λ (l : HostLine). line.OfHost l) h.under (x ∷ []))
    ∙ (sym (append_assoc (lines_said kind e s media front []) (lines_of_text h) (line.OfHost x ∷ [])) ∙ ap (λ ls. ls ++ line.OfHost x ∷ []) (sym (lines-hosts kind e s media front h))))

lines-scripts : (kind : Timers) (e s : ℕ) (media : List MediumLine) (hosts : List HostText) (scripts : List ScriptText) (t : ScriptText)
    → lines_said kind e s media hosts (scripts ++ t ∷ []) ≡ lines_said kind e s media hosts scripts ++ lines_of_steps t
lines-scripts kind e s media hosts scripts t =
    ap (first_three kind e s)
    (ap (λ ls. of_media media ++ ls)
    (ap (λ ls. flat_map lines_of_text hosts ++ ls) (flat_map-append lines_of_steps scripts (t ∷ []) ∙ ap (λ ls. flat_map lines_of_steps scripts ++ ls) (append-nil (lines_of_steps t)))
    ∙ sym (append_assoc (flat_map lines_of_text hosts) (flat_map lines_of_steps scripts) (lines_of_steps t)))
    ∙ sym (append_assoc (of_media media) (flat_map lines_of_text hosts ++ flat_map lines_of_steps scripts) (lines_of_steps t)))

lines-steps : (kind : Timers) (e s : ℕ) (media : List MediumLine) (hosts : List HostText) (front : List ScriptText) (t : ScriptText) (x : Step)
    → lines_said kind e s media hosts (front ++ with_one t x ∷ []) ≡ lines_said kind e s media hosts (front ++ t ∷ []) ++ line.OfScript x ∷ []
lines-steps kind e s media hosts front t x =
    lines-scripts kind e s media hosts front (with_one t x)
    ∙ (ap (λ ls. lines_said kind e s media hosts front ++ (line.Script t.host ∷ ls)) (map-append (λ (y : Step). line.OfScript y) t.steps (x ∷ []))
    ∙ (sym (append_assoc (lines_said kind e s media hosts front) (lines_of_steps t) (line.OfScript x ∷ [])) ∙ ap (λ ls. ls ++ line.OfScript x ∷ []) (sym (lines-scripts kind e s media hosts front t))))

-- Drafts.

some-pushed : {A : Type 0} (xs : List A) (x : A) → 1 ≤ length (xs ++ x ∷ [])
some-pushed xs x = let len = length-append xs (x ∷ []) in omega (arith, len)

some-hosts : (kind : Timers) (e s : ℕ) (media : List MediumLine) (hosts : List HostText) → 1 ≤ length hosts → hosts_stand kind e s media hosts ≡ host_draft kind e s (media_said media) (filter_map rated_name media) hosts
some-hosts kind e s media [] some = absurd (omega (arith, some))
some-hosts kind e s media (h ∷ hosts) some = refl

some-media : (kind : Timers) (e s : ℕ) (media : List MediumLine) (hosts : List HostText) → 1 ≤ length media → hosts_stand kind e s media hosts ≡ host_draft kind e s (media_said media) (filter_map rated_name media) hosts
some-media kind e s [] hosts some = absurd (omega (arith, some))
some-media kind e s (x ∷ media) [] some = refl
some-media kind e s (x ∷ media) (h ∷ hosts) some = refl

pub some-scripts : (kind : Timers) (e s : ℕ) (media : List MediumLine) (hosts : List HostText) (scripts : List ScriptText) → 1 ≤ length hosts
    → stands_draft kind e s media hosts scripts ≡ script_draft kind e s (media_said media) (filter_map rated_name media) (hosts_of media hosts) scripts
some-scripts kind e s media [] scripts some = absurd (omega (arith, some))
some-scripts kind e s media (h ∷ hosts) [] some = refl
some-scripts kind e s media (h ∷ hosts) (t ∷ scripts) some = refl

any-scripts : (kind : Timers) (e s : ℕ) (media : List MediumLine) (hosts : List HostText) (scripts : List ScriptText) → 1 ≤ length scripts
    → stands_draft kind e s media hosts scripts ≡ script_draft kind e s (media_said media) (filter_map rated_name media) (hosts_of media hosts) scripts
any-scripts kind e s media hosts [] some = absurd (omega (arith, some))
any-scripts kind e s media hosts (t ∷ scripts) some = refl

late-media : (media : List MediumLine) → nat_lt 2 (media_group media) ≡ true
late-media [] = refl
late-media (x ∷ media) = refl

-- the group behind the seed
late : (kind : Timers) (e s : ℕ) (media : List MediumLine) (hosts : List HostText) (scripts : List ScriptText) → nat_lt 2 (stands_draft kind e s media hosts scripts).group ≡ true
late kind e s media [] [] = late-media media
late kind e s media (h ∷ hosts) [] = refl
late kind e s media hosts (t ∷ scripts) = refl

later-still : (n : ℕ) → nat_lt 2 n ≡ true → nat_lt 1 n ≡ true
later-still n e = grind (arith, nat_tests)

-- One line more.

with-medium : (ls : List WorldLine) (d : Draft) (x : MediumLine) (k : Stands ls d) → (hosts : List HostText) (scripts : List ScriptText) → k.hosts ≡ hosts → k.scripts ≡ scripts
    → is_fit (line.OfMedium x) ≡ true → line_cause d (line.OfMedium x) ≡ None → Stands (ls ++ line.OfMedium x ∷ []) (after d (line.OfMedium x))
with-medium ls d x k hosts (t ∷ scripts) eh es fit good =
    absurd (false≢true (sym (media-early (stands_draft k.kind_at k.end_at k.seed_at k.media k.hosts (t ∷ scripts)) x (ap (λ (f : Draft). medium_line_cause f x) (sym (k.draft ∙ ap (stands_draft k.kind_at k.end_at k.seed_at k.media k.hosts) es)) ∙ good))))
with-medium ls d x k (h ∷ hosts) [] eh es fit good =
    absurd (false≢true (sym (media-early (stands_draft k.kind_at k.end_at k.seed_at k.media (h ∷ hosts) []) x
    (ap (λ (f : Draft). medium_line_cause f x) (sym (k.draft ∙ (ap (stands_draft k.kind_at k.end_at k.seed_at k.media k.hosts) es ∙ ap (λ hs. stands_draft k.kind_at k.end_at k.seed_at k.media hs []) eh))) ∙ good))))
with-medium ls d x k [] [] eh es fit good =
    let is : d ≡ media_draft k.kind_at k.end_at k.seed_at k.media = k.draft ∙ (ap (stands_draft k.kind_at k.end_at k.seed_at k.media k.hosts) es ∙ ap (λ hs. stands_draft k.kind_at k.end_at k.seed_at k.media hs []) eh) in
    let f = media-fits k.kind_at k.end_at k.seed_at k.media x k.media_fine fit (ap (λ (g : Draft). medium_line_cause g x) (sym is) ∙ good) in
    record {
      kind_at = k.kind_at;
      end_at = k.end_at;
      seed_at = k.seed_at;
      media = k.media ++ x ∷ [];
      hosts = [];
      scripts = [];
      lines = ap (λ (ms : List WorldLine). ms ++ line.OfMedium x ∷ []) (k.lines ∙ (ap (lines_said k.kind_at k.end_at k.seed_at k.media k.hosts) es ∙ ap (λ hs. lines_said k.kind_at k.end_at k.seed_at k.media hs []) eh))
          ∙ sym (lines-media k.kind_at k.end_at k.seed_at k.media x);
      draft = ap (λ (g : Draft). after g (line.OfMedium x)) is ∙ media-after k.kind_at k.end_at k.seed_at k.media x k.media_fine.behind f.behind f.new;
      moment = k.moment;
      number = k.number;
      media_fine = f.fine;
      hosts_fine = hosts-none (medium_names (media_said (k.media ++ x ∷ [])));
      scripts_fine = scripts-none [];
      hosts_order = λ some. absurd (omega (arith, some));
      scripts_order = λ some. absurd (omega (arith, some));
    }

-- media stand where a host may
media-there : (kind : Timers) (e s : ℕ) (media : List MediumLine) (hosts : List HostText) → (1 ≤ length hosts → 1 ≤ length media) → nat_lt (hosts_stand kind e s media hosts).group 4 ≡ false → 1 ≤ length media
media-there kind e s media (h ∷ hosts) order e4 = order (omega arith)
media-there kind e s [] [] order e4 = absurd (false≢true (sym e4))
media-there kind e s (x ∷ media) [] order e4 = omega arith

with-host : (ls : List WorldLine) (d : Draft) (called : List ℕ) (nets : List Proto) (k : Stands ls d) → (scripts : List ScriptText) → k.scripts ≡ scripts
    → is_fit (line.Host called nets) ≡ true → line_cause d (line.Host called nets) ≡ None → Stands (ls ++ line.Host called nets ∷ []) (after d (line.Host called nets))
with-host ls d called nets k (t ∷ scripts) es fit good =
    absurd (false≢true (sym (host-early (stands_draft k.kind_at k.end_at k.seed_at k.media k.hosts (t ∷ scripts)) called
    (ap (λ (f : Draft). host_cause f called) (sym (k.draft ∙ ap (stands_draft k.kind_at k.end_at k.seed_at k.media k.hosts) es)) ∙ good)).0))
with-host ls d called nets k [] es fit good =
    let ms : List MediumSpec = media_said k.media in
    let rated : List (List ℕ) = filter_map rated_name k.media in
    let stand : Draft = hosts_stand k.kind_at k.end_at k.seed_at k.media k.hosts in
    let first : d ≡ stand = k.draft ∙ ap (stands_draft k.kind_at k.end_at k.seed_at k.media k.hosts) es in
    let early = host-early stand called (ap (λ (f : Draft). host_cause f called) (sym first) ∙ good) in
    let some = media-there k.kind_at k.end_at k.seed_at k.media k.hosts k.hosts_order early.1 in
    let is : d ≡ host_draft k.kind_at k.end_at k.seed_at ms rated k.hosts = first ∙ some-media k.kind_at k.end_at k.seed_at k.media k.hosts some in
    let more : List HostText = k.hosts ++ bare_text called nets ∷ [] in
    record {
      kind_at = k.kind_at;
      end_at = k.end_at;
      seed_at = k.seed_at;
      media = k.media;
      hosts = more;
      scripts = [];
      lines = ap (λ (xs : List WorldLine). xs ++ line.Host called nets ∷ []) (k.lines ∙ ap (lines_said k.kind_at k.end_at k.seed_at k.media k.hosts) es)
          ∙ sym (lines-hosts k.kind_at k.end_at k.seed_at k.media k.hosts (bare_text called nets));
      draft = ap (λ (g : Draft). after g (line.Host called nets)) is
          ∙ (host-after k.kind_at k.end_at k.seed_at ms rated k.hosts called nets ∙ sym (some-hosts k.kind_at k.end_at k.seed_at k.media more (some-pushed k.hosts (bare_text called nets))));
      moment = k.moment;
      number = k.number;
      media_fine = k.media_fine;
      hosts_fine = host-fits k.kind_at k.end_at k.seed_at ms rated k.hosts called nets k.hosts_fine fit (ap (λ (f : Draft). host_cause f called) (sym is) ∙ good);
      scripts_fine = scripts-none (host_names (hosts_of k.media more));
      hosts_order = λ _. some;
      scripts_order = λ some_scripts. absurd (omega (arith, some_scripts));
    }

-- no line stands under a host before there is one
no-under : (kind : Timers) (e s : ℕ) (media : List MediumLine) → is_none (host_under (media_draft kind e s media)) ≡ true
no-under kind e s [] = refl
no-under kind e s (x ∷ media) = refl

with-under : (ls : List WorldLine) (d : Draft) (x : HostLine) (k : Stands ls d) → (scripts : List ScriptText) → k.scripts ≡ scripts → Ending k.hosts
    → is_fit (line.OfHost x) ≡ true → line_cause d (line.OfHost x) ≡ None → Stands (ls ++ line.OfHost x ∷ []) (after d (line.OfHost x))
with-under ls d x k (t ∷ scripts) es end fit good =
    let g : Draft = stands_draft k.kind_at k.end_at k.seed_at k.media k.hosts (t ∷ scripts) in
    absurd (false≢true (sym (host-there g x (ap (λ (f : Draft). host_line_cause f x) (sym (k.draft ∙ ap (stands_draft k.kind_at k.end_at k.seed_at k.media k.hosts) es)) ∙ good))))
with-under ls d x k [] es (Empty none) fit good =
    let is : d ≡ media_draft k.kind_at k.end_at k.seed_at k.media =
    k.draft ∙ (ap (stands_draft k.kind_at k.end_at k.seed_at k.media k.hosts) es ∙ ap (λ hs. hosts_stand k.kind_at k.end_at k.seed_at k.media hs) none) in
    absurd (false≢true (sym (host-there (media_draft k.kind_at k.end_at k.seed_at k.media) x (ap (λ (f : Draft). host_line_cause f x) (sym is) ∙ good)) ∙ no-under k.kind_at k.end_at k.seed_at k.media))
with-under ls d x k [] es (Pushed front h at) fit good =
    let ms : List MediumSpec = media_said k.media in
    let rated : List (List ℕ) = filter_map rated_name k.media in
    let is : d ≡ host_draft k.kind_at k.end_at k.seed_at ms rated (front ++ h ∷ []) =
    k.draft ∙ (ap (stands_draft k.kind_at k.end_at k.seed_at k.media k.hosts) es
    ∙ (ap (λ hs. hosts_stand k.kind_at k.end_at k.seed_at k.media hs) at ∙ some-hosts k.kind_at k.end_at k.seed_at k.media (front ++ h ∷ []) (some-pushed front h))) in
    let more : List HostText = front ++ with_line h x ∷ [] in
    record {
      kind_at = k.kind_at;
      end_at = k.end_at;
      seed_at = k.seed_at;
      media = k.media;
      hosts = more;
      scripts = [];
      lines = ap (λ (xs : List WorldLine). xs ++ line.OfHost x ∷ []) (k.lines ∙ (ap (lines_said k.kind_at k.end_at k.seed_at k.media k.hosts) es ∙ ap (λ hs. lines_said k.kind_at k.end_at k.seed_at k.media hs []) at))
          ∙ sym (lines-under k.kind_at k.end_at k.seed_at k.media front h x);
      draft = ap (λ (g : Draft). after g (line.OfHost x)) is
          ∙ (line-after k.kind_at k.end_at k.seed_at ms rated front h x ∙ sym (some-hosts k.kind_at k.end_at k.seed_at k.media more (some-pushed front (with_line h x))));
      moment = k.moment;
      number = k.number;
      media_fine = k.media_fine;
      hosts_fine = line-fits k.kind_at k.end_at k.seed_at ms rated front h x (subst (FineHosts (medium_names ms)) at k.hosts_fine) fit (ap (λ (f : Draft). host_line_cause f x) (sym is) ∙ good);
      scripts_fine = scripts-none (host_names (hosts_of k.media more));
      hosts_order = λ _. k.hosts_order (subst (λ (hs : List HostText). 1 ≤ length hs) (sym at) (some-pushed front h));
      scripts_order = λ some. absurd (omega (arith, some));
    }

some-any : {A : Type 0} (p : A → Bool) (xs : List A) → list_any p xs ≡ true → 1 ≤ length xs
some-any p [] e = absurd (false≢true e)
some-any p (x ∷ xs) e = omega arith

pub hosts-are : (kind : Timers) (e s : ℕ) (media : List MediumLine) (hosts : List HostText) (scripts : List ScriptText) → (stands_draft kind e s media hosts scripts).hosts ≡ hosts_of media hosts
hosts-are kind e s media [] [] = refl
hosts-are kind e s media (h ∷ hosts) [] = refl
hosts-are kind e s media hosts (t ∷ scripts) = refl

with-script : (ls : List WorldLine) (d : Draft) (called : List ℕ) (k : Stands ls d) → is_fit (line.Script called) ≡ true → line_cause d (line.Script called) ≡ None
    → Stands (ls ++ line.Script called ∷ []) (after d (line.Script called))
with-script ls d called k fit good =
    let ms : List MediumSpec = media_said k.media in
    let rated : List (List ℕ) = filter_map rated_name k.media in
    let hs : List HostSpec = hosts_of k.media k.hosts in
    let known = not-false (has_host called d) (unrefused cause.UnknownName (not (has_host called d)) _ good).0 in
    let some : 1 ≤ length k.hosts =
    let there = some-any (is_host_named called) d.hosts known in
    let same = ap (λ (xs : List HostSpec). length xs) (ap (λ (f : Draft). f.hosts) k.draft ∙ hosts-are k.kind_at k.end_at k.seed_at k.media k.hosts k.scripts) in
    let count = count-said (medium_names ms) k.hosts in omega (arith, there, same, count) in
    let is : d ≡ script_draft k.kind_at k.end_at k.seed_at ms rated hs k.scripts = k.draft ∙ some-scripts k.kind_at k.end_at k.seed_at k.media k.hosts k.scripts some in
    let more : List ScriptText = k.scripts ++ empty_text called ∷ [] in
    record {
      kind_at = k.kind_at;
      end_at = k.end_at;
      seed_at = k.seed_at;
      media = k.media;
      hosts = k.hosts;
      scripts = more;
      lines = ap (λ (xs : List WorldLine). xs ++ line.Script called ∷ []) k.lines ∙ sym (lines-scripts k.kind_at k.end_at k.seed_at k.media k.hosts k.scripts (empty_text called));
      draft = ap (λ (g : Draft). after g (line.Script called)) is
          ∙ (script-after k.kind_at k.end_at k.seed_at ms rated hs k.scripts called ∙ sym (any-scripts k.kind_at k.end_at k.seed_at k.media k.hosts more (some-pushed k.scripts (empty_text called))));
      moment = k.moment;
      number = k.number;
      media_fine = k.media_fine;
      hosts_fine = k.hosts_fine;
      scripts_fine = script-fits (script_draft k.kind_at k.end_at k.seed_at ms rated hs k.scripts) k.scripts called refl k.scripts_fine (ap (λ (f : Draft). script_cause f called) (sym is) ∙ good);
      hosts_order = k.hosts_order;
      scripts_order = λ _. some;
    }

-- no step stands under a script before there is one
no-steps : (kind : Timers) (e s : ℕ) (media : List MediumLine) (hosts : List HostText) → nat_lt (hosts_stand kind e s media hosts).group 6 ≡ true
no-steps kind e s [] [] = refl
no-steps kind e s (x ∷ media) [] = refl
no-steps kind e s media (h ∷ hosts) = refl

with-step : (ls : List WorldLine) (d : Draft) (x : Step) (k : Stands ls d) → Ending k.scripts → is_fit (line.OfScript x) ≡ true → line_cause d (line.OfScript x) ≡ None
    → Stands (ls ++ line.OfScript x ∷ []) (after d (line.OfScript x))
with-step ls d x k (Empty none) fit good =
    let is : d ≡ hosts_stand k.kind_at k.end_at k.seed_at k.media k.hosts = k.draft ∙ ap (stands_draft k.kind_at k.end_at k.seed_at k.media k.hosts) none in
    absurd (false≢true (sym (unrefused cause.OutOfOrder (is_before 6 d) None good).0 ∙ (ap (λ (f : Draft). nat_lt f.group 6) is ∙ no-steps k.kind_at k.end_at k.seed_at k.media k.hosts)))
with-step ls d x k (Pushed front t at) fit good =
    let ms : List MediumSpec = media_said k.media in
    let rated : List (List ℕ) = filter_map rated_name k.media in
    let hs : List HostSpec = hosts_of k.media k.hosts in
    let is : d ≡ script_draft k.kind_at k.end_at k.seed_at ms rated hs (front ++ t ∷ []) =
    k.draft ∙ (ap (stands_draft k.kind_at k.end_at k.seed_at k.media k.hosts) at ∙ any-scripts k.kind_at k.end_at k.seed_at k.media k.hosts (front ++ t ∷ []) (some-pushed front t)) in
    let more : List ScriptText = front ++ with_one t x ∷ [] in
    record {
      kind_at = k.kind_at;
      end_at = k.end_at;
      seed_at = k.seed_at;
      media = k.media;
      hosts = k.hosts;
      scripts = more;
      lines = ap (λ (xs : List WorldLine). xs ++ line.OfScript x ∷ []) (k.lines ∙ ap (lines_said k.kind_at k.end_at k.seed_at k.media k.hosts) at)
          ∙ sym (lines-steps k.kind_at k.end_at k.seed_at k.media k.hosts front t x);
      draft = ap (λ (g : Draft). after g (line.OfScript x)) is
          ∙ (step-after k.kind_at k.end_at k.seed_at ms rated hs front t x ∙ sym (any-scripts k.kind_at k.end_at k.seed_at k.media k.hosts more (some-pushed front (with_one t x))));
      moment = k.moment;
      number = k.number;
      media_fine = k.media_fine;
      hosts_fine = k.hosts_fine;
      scripts_fine = step-fits (host_names hs) front t x (subst (FineScripts (host_names hs)) at k.scripts_fine) fit;
      hosts_order = k.hosts_order;
      scripts_order = λ _. k.scripts_order (subst (λ (ts : List ScriptText). 1 ≤ length ts) (sym at) (some-pushed front t));
    }

group-late : (ls : List WorldLine) (d : Draft) (k : Stands ls d) → nat_lt 2 d.group ≡ true
group-late ls d k = ap (λ (f : Draft). nat_lt 2 f.group) k.draft ∙ late k.kind_at k.end_at k.seed_at k.media k.hosts k.scripts

-- a line that isn't bad, behind the seed
stands-more : (ls : List WorldLine) (d : Draft) (l : WorldLine) → (l ≡ line.Ndb → ⊥) → Stands ls d → is_fit l ≡ true → line_cause d l ≡ None → Stands (ls ++ l ∷ []) (after d l)
stands-more ls d (line.Networld kind) other k fit good = never cause.OutOfOrder good
stands-more ls d (line.End m) other k fit good =
    absurd (false≢true (sym (unrefused cause.OutOfOrder (is_past 1 d) None good).0 ∙ later-still d.group (group-late ls d k)))
stands-more ls d (line.Seed s) other k fit good = absurd (false≢true (sym (unrefused cause.OutOfOrder (is_past 2 d) _ good).0 ∙ group-late ls d k))
stands-more ls d (line.OfMedium x) other k fit good = with-medium ls d x k k.hosts k.scripts refl refl fit good
stands-more ls d (line.Host called nets) other k fit good = with-host ls d called nets k k.scripts refl fit good
stands-more ls d (line.OfHost x) other k fit good = with-under ls d x k k.scripts refl (ending k.hosts) fit good
stands-more ls d (line.Script called) other k fit good = with-script ls d called k fit good
stands-more ls d (line.OfScript x) other k fit good = with-step ls d x k (ending k.scripts) fit good
stands-more ls d line.Ndb other k fit good = absurd (other refl)

pub so-more : (ls : List WorldLine) (d : Draft) (l : WorldLine) → (l ≡ line.Ndb → ⊥) → So ls d → is_fit l ≡ true → line_cause d l ≡ None → So (ls ++ l ∷ []) (after d l)
so-more ls d l other (AtFirst kind lines draft) fit good =
    let f = first-only kind l (ap (λ (g : Draft). line_cause g l) (sym draft) ∙ good) in
    AtEnd kind f.0 (ap is_fit (sym f.1) ∙ fit) (ap (λ (xs : List WorldLine). xs ++ l ∷ []) lines ∙ ap (λ (x : WorldLine). line.Networld kind ∷ x ∷ []) f.1)
    (ap (λ (g : Draft). after g l) draft ∙ ap (after (begun kind)) f.1)
so-more ls d l other (AtEnd kind m moment lines draft) fit good =
    let f = second-only kind m l (ap (λ (g : Draft). line_cause g l) (sym draft) ∙ good) in
    AtRest (record {
      kind_at = kind;
      end_at = m;
      seed_at = f.0;
      media = [];
      hosts = [];
      scripts = [];
      lines = ap (λ (xs : List WorldLine). xs ++ l ∷ []) lines ∙ ap (λ (x : WorldLine). line.Networld kind ∷ line.End m ∷ x ∷ []) f.1;
      draft = ap (λ (g : Draft). after g l) draft ∙ ap (after (record (begun kind) { group = 2; end = m })) f.1;
      moment = moment;
      number = ap is_fit (sym f.1) ∙ fit;
      media_fine = fine-none;
      hosts_fine = hosts-none [];
      scripts_fine = scripts-none [];
      hosts_order = λ some. absurd (omega (arith, some));
      scripts_order = λ some. absurd (omega (arith, some));
    })
so-more ls d l other (AtRest k) fit good = AtRest (stands-more ls d l other k fit good)

-- Worlds.

-- what is left to say of a world are its databases
abbrev pub IsReady : World → Type 0
IsReady w = (dbs : List Version) → are_timed dbs ≡ true → All (λ (v : Version). IsDatabase v.db) dbs → IsWorld (record w { dbs = dbs })

-- hosts stand where the bundle may begin
hosts-there : (kind : Timers) (e s : ℕ) (media : List MediumLine) (hosts : List HostText) (scripts : List ScriptText) → (1 ≤ length scripts → 1 ≤ length hosts) → nat_lt (stands_draft kind e s media hosts scripts).group 5 ≡ false → 1 ≤ length hosts
hosts-there kind e s media hosts (t ∷ scripts) order e5 = order (omega arith)
hosts-there kind e s media (h ∷ hosts) [] order e5 = omega arith
hosts-there kind e s [] [] [] order e5 = absurd (false≢true (sym e5))
hosts-there kind e s (x ∷ media) [] [] order e5 = absurd (false≢true (sym e5))

-- the first line of the media says one
some-named : (media : List MediumLine) → FineMedia media → 1 ≤ length media → 1 ≤ length (names media)
some-named [] k some = absurd (omega (arith, some))
some-named (medium.Medium called mtu ∷ media) k some = omega arith
some-named (medium.Rates called loss twice later ∷ media) k some = absurd (false≢true (k.behind [] (medium.Rates called loss twice later) media refl).0)
some-named (medium.Fate called f x ∷ media) k some = absurd (false≢true (k.behind [] (medium.Fate called f x) media refl))

seed-small : (s : ℕ) → is_within 0 18446744073709551615 s ≡ true → nat_lt s (2 ^ 64) ≡ true
seed-small s e = by (and_parts (nat_le 0 s) (nat_le s 18446744073709551615) e).1
  where
    by : nat_le s 18446744073709551615 ≡ true → nat_lt s (2 ^ 64) ≡ true
    by h = grind (arith, nat_tests)

ready-whole : (ls : List WorldLine) (d : Draft) (k : Stands ls d) → 1 ≤ length k.hosts → IsReady (world_of (stands_draft k.kind_at k.end_at k.seed_at k.media k.hosts k.scripts))
ready-whole ls d k some dbs timed databases =
    let ms : List MediumSpec = media_said k.media in
    let hs : List HostSpec = hosts_of k.media k.hosts in
    let media_some = k.hosts_order some in
    let named = some-named k.media k.media_fine media_some in
    let count = count-named k.media 0 k.media in
    let are = media-of-lines k.media k.media_fine in
    let same_media : length (medium_names ms) ≡ length ms = length_map (λ (m : MediumSpec). m.name) ms in
    let same_hosts : length (host_names hs) ≡ length hs = length_map (λ (h : HostSpec). h.name) hs in
    let few_media = are.few in
    let hosted = hosts-of-lines (medium_names ms) k.hosts (omega (arith, few_media, same_media)) k.hosts_fine in
    let few_hosts = hosted.few in
    let count_hosts = count-said (medium_names ms) k.hosts in
    let count_scripts = length_map (script_said (host_names hs)) k.scripts in
    let few_scripts = k.scripts_fine.few in
    let w : World = record (world_of (script_draft k.kind_at k.end_at k.seed_at ms (filter_map rated_name k.media) hs k.scripts)) { dbs = dbs } in
    let is : IsWorld w = record {
      end = k.moment;
      seed = seed-small k.seed_at k.number;
      some_media = within-is 1 4 (length ms) (omega (arith, named, count)) few_media;
      media = are.media_fit;
      media_named = are.named;
      some_hosts = within-is 1 8 (length hs) (omega (arith, some, count_hosts)) few_hosts;
      hosts = ap (λ n. list_all (is_host n) hs) (sym same_media) ∙ hosted.hosts_fit;
      hosts_named = hosted.named;
      hosts_addressed = hosted.addressed;
      few_scripts = le-is (length (scripts_said (host_names hs) k.scripts)) 32 (omega (arith, count_scripts, few_scripts));
      scripts = ap (λ n. list_all (is_script n) (scripts_said (host_names hs) k.scripts)) (sym same_hosts) ∙ k.scripts_fine.fit;
      versions_timed = timed;
      versions = databases;
    } in
    subst (λ (f : Draft). IsWorld (record (world_of f) { dbs = dbs })) (sym (some-scripts k.kind_at k.end_at k.seed_at k.media k.hosts k.scripts some)) is
  where
    le-is : (a b : ℕ) → a ≤ b → nat_le a b ≡ true
    le-is a b h = grind (arith, nat_tests)

-- where the bundle may begin, the lines say a world that has its hosts
pub record Complete (ls : List WorldLine) (d : Draft) : Type 0 where
  pub stands : Stands ls d
  pub hosts_there : 1 ≤ length stands.hosts
  pub is_ready : IsReady (world_of d)

pub complete-stands : (ls : List WorldLine) (d : Draft) (k : Stands ls d) → ndb_cause d ≡ None → Complete ls d
complete-stands ls d k good =
    let late_so = (unrefused cause.MissingPart (is_before 5 d) None good).0 in
    let some = hosts-there k.kind_at k.end_at k.seed_at k.media k.hosts k.scripts k.scripts_order (ap (λ (f : Draft). nat_lt f.group 5) (sym k.draft) ∙ late_so) in
    record { stands = k; hosts_there = some; is_ready = subst (λ (f : Draft). IsReady (world_of f)) (sym k.draft) (ready-whole ls d k some) }

pub complete : (ls : List WorldLine) (d : Draft) → So ls d → ndb_cause d ≡ None → Complete ls d
complete ls d (AtFirst kind lines draft) good = never cause.MissingPart (ap (λ (f : Draft). ndb_cause f) (sym draft) ∙ good)
complete ls d (AtEnd kind m moment lines draft) good = never cause.MissingPart (ap (λ (f : Draft). ndb_cause f) (sym draft) ∙ good)
complete ls d (AtRest k) good = complete-stands ls d k good
