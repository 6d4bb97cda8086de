-- A world so far is small.
use Rattle.std.proofs.Common.{◌≡◌, ℕ, ◌≤◌, true, List, [], ◌∷◌, ◌++◌, length, suc, map, arith, refl, ap, ◌∙◌}
use Rattle.std.specs.Prelude.{bytes_eq}
use Rattle.net_base.specs.declared.timer.Timers.{Timers}
use Rattle.net_base.specs.declared.world.HostSpec.{HostSpec}
use Rattle.net_base.specs.declared.world.MediumSpec.{MediumSpec}
use Rattle.net_base.specs.declared.world.Script.{Script}
use Rattle.net_base.specs.World.{all_apart}
use Rattle.world_text.specs.declared.line.MediumLine.{MediumLine}
use Rattle.world_text.specs.declared.line.WorldLine.{WorldLine}
use Rattle.world_text.specs.WorldLines.{Draft, Goes, line_verdict, opening_draft}
use Rattle.world_text.specs.WorldRefusal.{LeadsToWorld}
use Rattle.world_text.specs.WorldSpelling.{HostText, ScriptText, host_names, media_said, medium_names}
use Rattle.world_text.proofs.WorldMedia.{count-named, names-media}
use Rattle.world_text.proofs.WorldHosts.{count-said}
use Rattle.world_text.proofs.WorldScripts.{scripts_said}
use Rattle.world_text.proofs.WorldSound.{Behind, Opening, Stage, read-all}
use Rattle.world_text.proofs.WorldStands.{AtEnd, AtFirst, AtRest, Stands, hosts-are, hosts_of, stands_draft}
use Rattle.world_text.proofs.WorldTexts.{leads-more}

-- so few of each
pub record Small (d : Draft) : Type 0 where
  pub media : length d.media ≤ 4
  pub named : all_apart bytes_eq (map (λ (s : MediumSpec). s.name) d.media) ≡ true
  pub hosts : length d.hosts ≤ 8
  pub scripts : length d.scripts ≤ 32

media-are : (kind : Timers) (e s : ℕ) (media : List MediumLine) (hosts : List HostText) (scripts : List ScriptText) → (stands_draft kind e s media hosts scripts).media ≡ media_said media
media-are kind e s media [] [] = refl
media-are kind e s media (h ∷ hosts) [] = refl
media-are kind e s media hosts (t ∷ scripts) = refl

scripts-are : (kind : Timers) (e s : ℕ) (media : List MediumLine) (hosts : List HostText) (scripts : List ScriptText) → (stands_draft kind e s media hosts scripts).scripts ≡ scripts_said (host_names (hosts_of media hosts)) scripts
scripts-are kind e s media [] [] = refl
scripts-are kind e s media (h ∷ hosts) [] = refl
scripts-are kind e s media hosts (t ∷ scripts) = refl

count-scripts : (ns : List (List ℕ)) (texts : List ScriptText) → length (scripts_said ns texts) ≡ length texts
count-scripts ns [] = refl
count-scripts ns (t ∷ texts) = ap (λ n. suc n) (count-scripts ns texts)

stands-small : (ls : List WorldLine) (d : Draft) → Stands ls d → Small d
stands-small ls d k = record {
  media = let few = k.media_fine.few in
      let count = count-named k.media 0 k.media in
      let same = ap (λ (xs : List MediumSpec). length xs) (ap (λ (f : Draft). f.media) k.draft ∙ media-are k.kind_at k.end_at k.seed_at k.media k.hosts k.scripts) in omega (arith, few, count, same);
  named = ap (λ (xs : List MediumSpec). all_apart bytes_eq (map (λ (s : MediumSpec). s.name) xs)) (ap (λ (f : Draft). f.media) k.draft ∙ media-are k.kind_at k.end_at k.seed_at k.media k.hosts k.scripts)
      ∙ (ap (all_apart bytes_eq) (names-media k.media 0 k.media) ∙ k.media_fine.apart);
  hosts = let few = k.hosts_fine.few in
      let count = count-said (medium_names (media_said k.media)) k.hosts in
      let same = ap (λ (xs : List HostSpec). length xs) (ap (λ (f : Draft). f.hosts) k.draft ∙ hosts-are k.kind_at k.end_at k.seed_at k.media k.hosts k.scripts) in omega (arith, few, count, same);
  scripts = let few = k.scripts_fine.few in
      let count = count-scripts (host_names (hosts_of k.media k.hosts)) k.scripts in
      let same = ap (λ (xs : List Script). length xs) (ap (λ (f : Draft). f.scripts) k.draft ∙ scripts-are k.kind_at k.end_at k.seed_at k.media k.hosts k.scripts) in omega (arith, few, count, same);
}

none-small : (d : Draft) → d.media ≡ [] → d.hosts ≡ [] → d.scripts ≡ [] → Small d
none-small d a b c = record {
  media = let e = ap (λ (xs : List MediumSpec). length xs) a in omega (arith, e);
  named = ap (λ (xs : List MediumSpec). all_apart bytes_eq (map (λ (s : MediumSpec). s.name) xs)) a;
  hosts = let e = ap (λ (xs : List HostSpec). length xs) b in omega (arith, e);
  scripts = let e = ap (λ (xs : List Script). length xs) c in omega (arith, e);
}

pub small-led : (lines : List (List ℕ)) (d : Draft) → LeadsToWorld opening_draft lines d → Small d
small-led lines d led = by (read-all lines d led).lines (read-all lines d led).stage
  where
    by : (ls : List WorldLine) → Stage ls d → Small d
    by ls (Opening are draft) = none-small d (ap (λ (f : Draft). f.media) draft) (ap (λ (f : Draft). f.hosts) draft) (ap (λ (f : Draft). f.scripts) draft)
    by ls (Behind (AtFirst kind are draft)) = none-small d (ap (λ (f : Draft). f.media) draft) (ap (λ (f : Draft). f.hosts) draft) (ap (λ (f : Draft). f.scripts) draft)
    by ls (Behind (AtEnd kind m moment are draft)) = none-small d (ap (λ (f : Draft). f.media) draft) (ap (λ (f : Draft). f.hosts) draft) (ap (λ (f : Draft). f.scripts) draft)
    by ls (Behind (AtRest k)) = stands-small ls d k

pub led-next : (lines : List (List ℕ)) (line : List ℕ) (d e : Draft) → LeadsToWorld opening_draft lines d → line_verdict d line ≡ Goes e → LeadsToWorld opening_draft (lines ++ line ∷ []) e
led-next lines line d e led goes = leads-more opening_draft d e lines (line ∷ []) led (e, goes, refl)
