-- What is read spells the world.
use Rattle.std.proofs.Common.{◌≡◌, ℕ, ◌+◌, ◌==◌, ◌⊎◌, inl, inr, suc, zero, true, false, ◌&&◌, cond, List, [], ◌∷◌, ◌++◌, map, refl, sym, ap, subst, ◌∙◌, arith, Option, Some, None, Ok, Err, Result, append-nil, append_assoc}
use Rattle.std.specs.List.{All, filter, list_all}
use Rattle.std.proofs.lemmas.Bool.{false≢true}
use Rattle.std.proofs.lemmas.List.{map-append}
use Rattle.std.proofs.lemmas.List.Elements.{filter-append}
use Rattle.net_base.specs.declared.timer.Timers.{Timers}
use Rattle.net_base.specs.declared.world.Version.{Version}
use Rattle.net_base.specs.declared.world.World.{World}
use Rattle.net_base.specs.NdbText.{lines_of}
use Rattle.net_base.specs.World.{IsWorld, is_byte}
use Rattle.world_text.specs.declared.line.MediumLine.{MediumLine}
use Rattle.world_text.specs.declared.line.WorldLine.{WorldLine}
use Rattle.world_text.specs.declared.line.WorldLine.TheVariants as line
use Rattle.world_text.specs.LineCauses.{cause_number_of}
use Rattle.world_text.specs.LineReading.{read_line}
use Rattle.world_text.specs.VersionLines.{bad_version_line, versions_in}
use Rattle.world_text.specs.WorldLines.{Bad, Begins, Draft, Goes, Verdict, after, good_line, line_cause, line_verdict, ndb_cause, opening_draft, world_of}
use Rattle.world_text.specs.WorldRefusal.{LeadsToWorld}
use Rattle.world_text.specs.WorldSpelling.{EachBehind, HostText, IsHeaded, IsReached, IsWorldText, ScriptText, is_line, media_said, medium_names, speaks, line_spelling}
use Rattle.world_text.specs.WorldText.{Cut, cuts_of, judged, missing, reading_from, with_versions, world_reading}
use Rattle.world_text.proofs.LineBack.{loud}
use Rattle.world_text.proofs.LineSpelled.{spelled}
use Rattle.world_text.proofs.VersionTexts.{versions-databases, versions-say, versions-timed}
use Rattle.world_text.proofs.WorldMedia.{media_group}
use Rattle.world_text.proofs.WorldHosts.{EachFine}
use Rattle.world_text.proofs.WorldScripts.{script_draft}
use Rattle.world_text.proofs.WorldStands.{AtEnd, AtFirst, AtRest, Complete, So, complete, some-scripts, so-more, stands_draft}
use Rattle.world_text.proofs.WorldTexts.{Ends, First, Good, Passed, Refused, Shape, View, bad-goes, begins-goes, bytes-behind, ends, headed, last-parts, same-goes, shape, view}
use Rattle.world_text.specs.WorldSpelling.{rated_name}
use Rattle.world_text.proofs.WorldHosts.{saids}
use Rattle.std.specs.Prelude.{filter_map}

pub err-ok : (bad : ℕ × ℕ) (w : World) → Err bad ≡ Ok w → ⊥
err-ok bad w e = cc

pub same-ok : (v w : World) (r : Result World (ℕ × ℕ)) → r ≡ Ok v → r ≡ Ok w → v ≡ w
same-ok v w r e f = cc

-- Lines that were read.

-- nothing was said, or the lines stand behind the first
pub data Stage (ls : List WorldLine) (d : Draft) : Type 0 where
  Opening : ls ≡ [] → d ≡ opening_draft → Stage ls d
  Behind : So ls d → Stage ls d

-- what these lines of a text say
pub record Read (head : List (List ℕ)) (d : Draft) : Type 0 where
  pub lines : List WorldLine
  pub said : filter speaks head ≡ map line_spelling lines
  pub stage : Stage lines d

pub read-none : Read [] opening_draft
read-none = record { lines = []; said = refl; stage = Opening refl refl }

media-behind : (media : List MediumLine) → (media_group media == 0) ≡ false
media-behind [] = refl
media-behind (x ∷ media) = refl

group-behind : (kind : Timers) (e s : ℕ) (media : List MediumLine) (hosts : List HostText) (scripts : List ScriptText) → ((stands_draft kind e s media hosts scripts).group == 0) ≡ false
group-behind kind e s media [] [] = media-behind media
group-behind kind e s media (h ∷ hosts) [] = refl
group-behind kind e s media hosts (t ∷ scripts) = refl

so-behind : (ls : List WorldLine) (d : Draft) → So ls d → (d.group == 0) ≡ false
so-behind ls d (AtFirst kind lines draft) = ap (λ (f : Draft). f.group == 0) draft
so-behind ls d (AtEnd kind m moment lines draft) = ap (λ (f : Draft). f.group == 0) draft
so-behind ls d (AtRest k) = ap (λ (f : Draft). f.group == 0) k.draft ∙ group-behind k.kind_at k.end_at k.seed_at k.media k.hosts k.scripts

loud-pushed : (head : List (List ℕ)) (text : List ℕ) (ls : List WorldLine) (l : WorldLine) → filter speaks head ≡ map line_spelling ls → text ≡ line_spelling l → speaks text ≡ true
    → filter speaks (head ++ text ∷ []) ≡ map line_spelling (ls ++ l ∷ [])
loud-pushed head text ls l said is loud =
    filter-append speaks head (text ∷ [])
    ∙ (ap (λ v. filter speaks head ++ cond v (text ∷ []) []) loud
    ∙ (ap (λ xs. xs ++ text ∷ []) said ∙ (ap (λ (t : List ℕ). map line_spelling ls ++ t ∷ []) is ∙ sym (map-append line_spelling ls (l ∷ [])))))

quiet-pushed : (head : List (List ℕ)) (text : List ℕ) → speaks text ≡ false → filter speaks (head ++ text ∷ []) ≡ filter speaks head
quiet-pushed head text quiet = filter-append speaks head (text ∷ []) ∙ (ap (λ v. filter speaks head ++ cond v (text ∷ []) []) quiet ∙ append-nil (filter speaks head))

-- one line more
pub read-more : (head : List (List ℕ)) (d next : Draft) (text : List ℕ) → Read head d → line_verdict d text ≡ Goes next → Read (head ++ text ∷ []) next
read-more head d next text r e = by (view d text) r.stage
  where
    good : (l : WorldLine) → (l ≡ line.Ndb → ⊥) → read_line text ≡ Ok l → line_cause d l ≡ None → So r.lines d → Read (head ++ text ∷ []) (after d l)
    good l other is none so =
        let s = spelled text l is in
        record { lines = r.lines ++ l ∷ []; said = loud-pushed head text r.lines l r.said s.0 (ap speaks s.0 ∙ loud l); stage = Behind (so-more r.lines d l other so s.1 none) }

    -- a line that goes on isn't `ndb`
    other : (l : WorldLine) → good_line d l ≡ Goes next → l ≡ line.Ndb → ⊥
    other l f is = begins-goes (world_of d) next (sym (ap (good_line d) is) ∙ f)

    made : (l : WorldLine) → good_line d l ≡ Goes next → after d l ≡ next
    made line.Ndb f = absurd (begins-goes (world_of d) next f)
    made (line.Networld kind) f = same-goes (after d (line.Networld kind)) next f
    made (line.End m) f = same-goes (after d (line.End m)) next f
    made (line.Seed n) f = same-goes (after d (line.Seed n)) next f
    made (line.OfMedium l) f = same-goes (after d (line.OfMedium l)) next f
    made (line.Host called nets) f = same-goes (after d (line.Host called nets)) next f
    made (line.OfHost l) f = same-goes (after d (line.OfHost l)) next f
    made (line.Script called) f = same-goes (after d (line.Script called)) next f
    made (line.OfScript x) f = same-goes (after d (line.OfScript x)) next f

    by : View d text (line_verdict d text) → Stage r.lines d → Read (head ++ text ∷ []) next
    by (Passed quiet is) stage = subst (Read (head ++ text ∷ [])) (same-goes d next (sym is ∙ e)) (record { lines = r.lines; said = quiet-pushed head text quiet ∙ r.said; stage = stage })
    by (First kind none named is) (Opening lines draft) =
        subst (Read (head ++ text ∷ [])) (same-goes (after d (line.Networld kind)) next (sym is ∙ e))
        (record {
          lines = line.Networld kind ∷ [];
          said = loud-pushed head text [] (line.Networld kind) (r.said ∙ ap (map line_spelling) lines) named (ap speaks named);
          stage = Behind (AtFirst kind refl (ap (λ (f : Draft). after f (line.Networld kind)) draft));
        })
    by (First kind none named is) (Behind so) = absurd (false≢true (sym (so-behind r.lines d so) ∙ none))
    by (Good l late is none same) (Opening lines draft) = absurd (false≢true (sym late ∙ ap (λ (f : Draft). f.group == 0) draft))
    by (Good l late is none same) (Behind so) = subst (Read (head ++ text ∷ [])) (made l (sym same ∙ e)) (good l (other l (sym same ∙ e)) is none so)
    by (Refused c is) stage = absurd (bad-goes c next (sym is ∙ e))

pub read-leads : (before : List (List ℕ)) (d e : Draft) (lines : List (List ℕ)) → Read before d → LeadsToWorld d lines e → Read (before ++ lines) e
read-leads before d e [] r led = subst (λ (ls : List (List ℕ)). Read ls e) (sym (append-nil before)) (subst (Read before) led r)
read-leads before d e (text ∷ lines) r led =
    subst (λ (ls : List (List ℕ)). Read ls e) (append_assoc before (text ∷ []) lines)
    (read-leads (before ++ text ∷ []) led.0 e lines (read-more before d led.0 text r led.1) led.2)

pub read-all : (lines : List (List ℕ)) (d : Draft) → LeadsToWorld opening_draft lines d → Read lines d
read-all lines d led = read-leads [] opening_draft d lines read-none led

-- Texts that are read.

-- the lines and the bundle of a text that is read
record Found (d : Draft) (text : List ℕ) (w : World) : Type 0 where
  pub head : List (List ℕ)
  pub bundle : List ℕ
  pub so_far : Draft
  pub parts : IsHeaded text head bundle
  pub whole : list_all is_line head ≡ true
  pub leads : LeadsToWorld d head so_far
  pub begun_so : (so_far.group == 0) ≡ false
  pub good : ndb_cause so_far ≡ None
  pub fine : bad_version_line bundle ≡ None
  pub is : record (world_of so_far) { dbs = versions_in (lines_of bundle) } ≡ w
  pub all : list_all is_byte bundle ≡ true

found-more : (d next : Draft) (text line behind : List ℕ) (w : World) → is_line line ≡ true → text ≡ line ++ (10 ∷ behind) → line_verdict d line ≡ Goes next → Found next behind w → Found d text w
found-more d next text line behind w whole is goes f = record {
  head = line ∷ f.head;
  bundle = f.bundle;
  so_far = f.so_far;
  parts = headed text line behind f.head f.bundle is f.parts;
  whole = ap (λ b. b && list_all is_line f.head) whole ∙ f.whole;
  leads = (next, goes, f.leads);
  begun_so = f.begun_so;
  good = f.good;
  fine = f.fine;
  is = f.is;
  all = f.all;
}

found-last : (d : Draft) (n : ℕ) (text : List ℕ) (c : Cut) (cs : List Cut) (v w : World) → Shape text c cs → list_all is_byte text ≡ true → Ends d c.line v
    → with_versions n v c.behind (bad_version_line c.behind) ≡ Ok w → Found d text w
found-last d n text c cs v w s all end e = by (bad_version_line c.behind) refl e
  where
    by : (o : Option (ℕ × ℕ)) → bad_version_line c.behind ≡ o → with_versions n v c.behind o ≡ Ok w → Found d text w
    by None fine f =
        record {
          head = [];
          bundle = c.behind;
          so_far = d;
          parts = last-parts text c cs s ((spelled c.line line.Ndb end.is_read).0);
          whole = refl;
          leads = refl;
          begun_so = end.begun;
          good = end.good;
          fine = fine;
          is = ap (λ (x : World). record x { dbs = versions_in (lines_of c.behind) }) (sym end.world)
              ∙ same-ok (record v { dbs = versions_in (lines_of c.behind) }) w (Ok (record v { dbs = versions_in (lines_of c.behind) })) refl f;
          all = bytes-behind text c cs s all;
        }
    by (Some bad) some f = absurd (err-ok (n + bad.0, bad.1) w f)

found : (d : Draft) (n : ℕ) (cuts : List Cut) (text : List ℕ) (w : World) → cuts_of text ≡ cuts → list_all is_byte text ≡ true → reading_from d n cuts ≡ Ok w → Found d text w
found d n [] text w cut all e = absurd (err-ok (n, cause_number_of (missing d)) w e)
found d n (c ∷ cs) text w cut all e =
    let s = shape text c cs cut in
    by (line_verdict d c.line) refl e s (λ next same f. found next (n + 1) cs c.behind w same (bytes-behind text c cs s all) f)
  where
    goes : (next : Draft) → line_verdict d c.line ≡ Goes next → reading_from next (n + 1) cs ≡ Ok w → (s : Shape text c cs)
        → ((text ≡ c.line ++ (10 ∷ c.behind)) × (cs ≡ cuts_of c.behind)) ⊎ ((text ≡ c.line) × (c.behind ≡ []) × (cs ≡ []))
        → (cuts_of c.behind ≡ cs → reading_from next (n + 1) cs ≡ Ok w → Found next c.behind w) → Found d text w
    goes next h f s (inl (is, later)) go = found-more d next text c.line c.behind w s.whole is h (go (sym later) f)
    goes next h f s (inr (is, none, nil)) go = absurd (err-ok (n + 1, cause_number_of (missing next)) w (sym (ap (reading_from next (n + 1)) nil) ∙ f))

    by : (v : Verdict) → line_verdict d c.line ≡ v → judged n c.behind v (λ (next : Draft). reading_from next (n + 1) cs) ≡ Ok w → Shape text c cs
        → ((next : Draft) → cuts_of c.behind ≡ cs → reading_from next (n + 1) cs ≡ Ok w → Found next c.behind w) → Found d text w
    by (Goes next) h f s go = goes next h f s s.parts (go next)
    by (Begins v) h f s go = found-last d n text c cs v w s all (ends d c.line v h) f
    by (Bad cause) h f s go = absurd (err-ok (n, cause_number_of cause) w f)

all-routes : (ns : List (List ℕ)) (texts : List HostText) → EachBehind (EachFine ns) texts → All (λ (h : HostText). EachBehind (IsReached ns) h.under) texts
all-routes ns [] each k d lt = absurd (omega (arith, lt))
all-routes ns (h ∷ texts) each zero d lt = (each [] h texts refl).reached
all-routes ns (h ∷ texts) each (suc k) d lt =
    all-routes ns texts (λ before x rest e. each (h ∷ before) x rest (ap (λ ts. h ∷ ts) e)) k d (omega (arith, lt))

-- the world that these lines say, with these versions
abbrev world_said : Timers → ℕ → ℕ → List MediumLine → List HostText → List ScriptText → List Version → World
world_said kind e s media hosts scripts dbs =
    record (world_of (script_draft kind e s (media_said media) (filter_map rated_name media) (saids (medium_names (media_said media)) hosts) scripts)) { dbs = dbs }

spells-world : (head : List (List ℕ)) (text bundle : List ℕ) (ls : List WorldLine) (d : Draft) (c : Complete ls d) → IsHeaded text head bundle → list_all is_line head ≡ true → filter speaks head ≡ map line_spelling ls
    → bad_version_line bundle ≡ None → list_all is_byte bundle ≡ true → IsWorldText text (record (world_of d) { dbs = versions_in (lines_of bundle) })
spells-world head text bundle ls d c parts whole said fine all =
    let k = c.stands in
    let dbs : List Version = versions_in (lines_of bundle) in
    let is : d ≡ script_draft k.kind_at k.end_at k.seed_at (media_said k.media) (filter_map rated_name k.media) (saids (medium_names (media_said k.media)) k.hosts) k.scripts =
    k.draft ∙ some-scripts k.kind_at k.end_at k.seed_at k.media k.hosts k.scripts c.hosts_there in
    let same : record (world_of d) { dbs = dbs } ≡ world_said k.kind_at k.end_at k.seed_at k.media k.hosts k.scripts dbs = ap (λ (f : Draft). record (world_of f) { dbs = dbs }) is in
    let t : IsWorldText text (world_said k.kind_at k.end_at k.seed_at k.media k.hosts k.scripts dbs) = record {
      head = head;
      bundle = bundle;
      parts = parts;
      whole = whole;
      media = k.media;
      hosts = k.hosts;
      scripts = k.scripts;
      spelled = said ∙ ap (map line_spelling) k.lines;
      media_are = refl;
      media_in_order = k.media_fine.behind;
      hosts_are = refl;
      routes_in_order = all-routes (medium_names (media_said k.media)) k.hosts k.hosts_fine.each;
      scripts_are = refl;
      versions = versions-say bundle fine;
      world = subst IsWorld same (c.is_ready dbs (versions-timed bundle fine) (versions-databases bundle all fine));
    } in
    subst (IsWorldText text) (sym same) t

read-found : (text : List ℕ) (w : World) → Found opening_draft text w → IsWorldText text w
read-found text w f = by (read-all f.head f.so_far f.leads)
  where
    by : Read f.head f.so_far → IsWorldText text w
    by r = at r.stage
      where
        at : Stage r.lines f.so_far → IsWorldText text w
        at (Opening lines draft) = absurd (false≢true (sym f.begun_so ∙ ap (λ (g : Draft). g.group == 0) draft))
        at (Behind so) =
            subst (IsWorldText text) f.is
            (spells-world f.head text f.bundle r.lines f.so_far (complete r.lines f.so_far so f.good) f.parts f.whole r.said f.fine f.all)

pub read-spelled : (text : List ℕ) (w : World) → list_all is_byte text ≡ true → world_reading text ≡ Ok w → IsWorldText text w
read-spelled text w all e = read-found text w (found opening_draft 1 (cuts_of text) text w refl all e)
