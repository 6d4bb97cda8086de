-- The lines of the scripts behind one another.
use Rattle.std.proofs.Common.{◌≡◌, ℕ, ◌<◌, ◌≤◌, suc, true, not, ◌&&◌, List, [], ◌∷◌, ◌++◌, length, map, refl, sym, ap, ◌∙◌, arith, None, length-append}
use Rattle.std.specs.Prelude.{bytes_eq, nat_le, nat_lt}
use Rattle.std.specs.List.{list_all, list_any, position_or_len}
use Rattle.std.proofs.lemmas.Bool.{and_parts, and_from, not-false, lt-leb}
use Rattle.std.proofs.lemmas.List.{map-append}
use Rattle.std.proofs.lemmas.List.Folds.{list_all-append}
use Rattle.net_base.specs.declared.timer.Timers.{Timers}
use Rattle.net_base.specs.declared.world.HostSpec.{HostSpec}
use Rattle.net_base.specs.declared.world.MediumSpec.{MediumSpec}
use Rattle.net_base.specs.declared.world.Script.{Script}
use Rattle.net_base.specs.declared.world.Step.{Step}
use Rattle.net_base.specs.World.{is_script, is_step}
use Rattle.world_text.specs.declared.line.LineCause.TheVariants as cause
use Rattle.world_text.specs.WorldLines.{Draft, at_last, empty_script, has_host, is_before, is_host_named, script_cause, step_cause, with_step}
use Rattle.world_text.specs.WorldSpelling.{ScriptText, host_names, place_among, script_said}
use Rattle.world_text.proofs.WorldLists.{all-parts, any-map, at_last-push, place-map, place-there}
use Rattle.world_text.proofs.WorldMedia.{passes, room-from, unrefused}

abbrev pub scripts_said : List (List ℕ) → List ScriptText → List Script
scripts_said ns texts = map (script_said ns) texts

-- what the scripts owe, where the hosts have these names
pub record FineScripts (ns : List (List ℕ)) (texts : List ScriptText) : Type 0 where
  pub fit : list_all (is_script (length ns)) (scripts_said ns texts) ≡ true
  pub few : length texts ≤ 32

pub scripts-none : (ns : List (List ℕ)) → FineScripts ns []
scripts-none ns = record { fit = refl; few = omega arith }

pub scripts-front : (ns : List (List ℕ)) (xs ys : List ScriptText) → FineScripts ns (xs ++ ys) → FineScripts ns xs
scripts-front ns xs ys k = record {
  fit = (and_parts (list_all (is_script (length ns)) (scripts_said ns xs)) (list_all (is_script (length ns)) (scripts_said ns ys))
      (sym (list_all-append (is_script (length ns)) (scripts_said ns xs) (scripts_said ns ys)) ∙ (ap (list_all (is_script (length ns))) (sym (map-append (script_said ns) xs ys)) ∙ k.fit))).0;
  few = let len = length-append xs ys in let few = k.few in omega (arith, len, few);
}

abbrev pub script_group : List ScriptText → ℕ
script_group [] = 5
script_group (s ∷ texts) = 6

abbrev pub script_draft : Timers → ℕ → ℕ → List MediumSpec → List (List ℕ) → List HostSpec → List ScriptText → Draft
script_draft kind e s media rated hosts texts = record {
  group = script_group texts;
  end = e;
  seed = s;
  timers = kind;
  media = media;
  rated = rated;
  hosts = hosts;
  scripts = scripts_said (host_names hosts) texts;
}

group-pushed : (texts : List ScriptText) (t : ScriptText) → script_group (texts ++ t ∷ []) ≡ 6
group-pushed [] t = refl
group-pushed (u ∷ texts) t = refl

abbrev draft_with : ℕ → Timers → ℕ → ℕ → List MediumSpec → List (List ℕ) → List HostSpec → List Script → Draft
draft_with g kind e s media rated hosts scripts = record { group = g; end = e; seed = s; timers = kind; media = media; rated = rated; hosts = hosts; scripts = scripts }

abbrev pub empty_text : List ℕ → ScriptText
empty_text called = record { host = called; steps = [] }

abbrev pub with_one : ScriptText → Step → ScriptText
with_one t x = record t { steps = t.steps ++ x ∷ [] }

abbrev host_in : List HostSpec → List ℕ → ℕ
host_in hosts called = position_or_len (is_host_named called) hosts

same-host : (hosts : List HostSpec) (called : List ℕ) → host_in hosts called ≡ place_among (host_names hosts) called
same-host hosts called = sym (place-map (bytes_eq called) (λ (h : HostSpec). h.name) hosts)

-- a script behind the others
pub script-after : (kind : Timers) (e s : ℕ) (media : List MediumSpec) (rated : List (List ℕ)) (hosts : List HostSpec) (texts : List ScriptText) (called : List ℕ)
    → draft_with 6 kind e s media rated hosts (scripts_said (host_names hosts) texts ++ empty_script (host_in hosts called) ∷ []) ≡ script_draft kind e s media rated hosts (texts ++ empty_text called ∷ [])
script-after kind e s media rated hosts texts called =
    let ns : List (List ℕ) = host_names hosts in
    ap (λ n. draft_with 6 kind e s media rated hosts (scripts_said ns texts ++ empty_script n ∷ [])) (same-host hosts called)
    ∙ (ap (draft_with 6 kind e s media rated hosts) (sym (map-append (script_said ns) texts (empty_text called ∷ [])))
    ∙ ap (λ g. draft_with g kind e s media rated hosts (scripts_said ns (texts ++ empty_text called ∷ []))) (sym (group-pushed texts (empty_text called))))

-- a step of the last script
pub step-after : (kind : Timers) (e s : ℕ) (media : List MediumSpec) (rated : List (List ℕ)) (hosts : List HostSpec) (front : List ScriptText) (t : ScriptText) (x : Step)
    → draft_with (script_group (front ++ t ∷ [])) kind e s media rated hosts (at_last (with_step x) (scripts_said (host_names hosts) (front ++ t ∷ []))) ≡ script_draft kind e s media rated hosts (front ++ with_one t x ∷ [])
step-after kind e s media rated hosts front t x =
    let ns : List (List ℕ) = host_names hosts in
    ap (λ ss. draft_with (script_group (front ++ t ∷ [])) kind e s media rated hosts (at_last (with_step x) ss)) (map-append (script_said ns) front (t ∷ []))
    ∙ (ap (draft_with (script_group (front ++ t ∷ [])) kind e s media rated hosts)
    (at_last-push (with_step x) (scripts_said ns front) (script_said ns t) ∙ sym (map-append (script_said ns) front (with_one t x ∷ [])))
    ∙ ap (λ g. draft_with g kind e s media rated hosts (scripts_said ns (front ++ with_one t x ∷ []))) (group-pushed front t ∙ sym (group-pushed front (with_one t x))))

-- Tests.

knows-host : (hosts : List HostSpec) (called : List ℕ) → list_any (is_host_named called) hosts ≡ nat_lt (place_among (host_names hosts) called) (length (host_names hosts))
knows-host hosts called =
    sym (any-map (bytes_eq called) (λ (h : HostSpec). h.name) hosts) ∙ sym (place-there (bytes_eq called) (host_names hosts))

pub count-said : (ns : List (List ℕ)) (texts : List ScriptText) → length (scripts_said ns texts) ≡ length texts
count-said ns [] = refl
count-said ns (t ∷ texts) = ap (λ n. suc n) (count-said ns texts)

pushed-fit : (ns : List (List ℕ)) (texts : List ScriptText) (t : ScriptText) → list_all (is_script (length ns)) (scripts_said ns texts) ≡ true → is_script (length ns) (script_said ns t) ≡ true
    → list_all (is_script (length ns)) (scripts_said ns (texts ++ t ∷ [])) ≡ true
pushed-fit ns texts t all here =
    ap (list_all (is_script (length ns))) (map-append (script_said ns) texts (t ∷ []))
    ∙ (list_all-append (is_script (length ns)) (scripts_said ns texts) (script_said ns t ∷ [])
    ∙ and_from (list_all (is_script (length ns)) (scripts_said ns texts)) _ all (and_from (is_script (length ns) (script_said ns t)) true here refl))

fit-parts : (ns : List (List ℕ)) (texts : List ScriptText) (t : ScriptText) → list_all (is_script (length ns)) (scripts_said ns (texts ++ t ∷ [])) ≡ true
    → (list_all (is_script (length ns)) (scripts_said ns texts) ≡ true) × (is_script (length ns) (script_said ns t) ≡ true)
fit-parts ns texts t all = all-parts (is_script (length ns)) (scripts_said ns texts) (script_said ns t) (ap (list_all (is_script (length ns))) (sym (map-append (script_said ns) texts (t ∷ []))) ∙ all)

-- a script that isn't bad fits
pub script-fits : (d : Draft) (texts : List ScriptText) (called : List ℕ) → d.scripts ≡ scripts_said (host_names d.hosts) texts → FineScripts (host_names d.hosts) texts
    → script_cause d called ≡ None → FineScripts (host_names d.hosts) (texts ++ empty_text called ∷ [])
script-fits d texts called is k good =
    let ns : List (List ℕ) = host_names d.hosts in
    let name = unrefused cause.UnknownName (not (has_host called d)) _ good in
    let limit = unrefused cause.OverLimit (nat_le 32 (length d.scripts)) None name.1 in
    let there : nat_lt (place_among ns called) (length ns) ≡ true = sym (knows-host d.hosts called) ∙ not-false (has_host called d) name.0 in
    record {
      fit = pushed-fit ns texts (empty_text called) k.fit (and_from (nat_lt (place_among ns called) (length ns)) true there refl);
      few = let len = length-append texts (empty_text called ∷ []) in
          let count = count-said ns texts in
          let room = room-from 32 (length d.scripts) limit.0 in
          let same = ap (λ (ss : List Script). length ss) is in omega (arith, len, count, room, same);
    }

pub script-good : (d : Draft) (texts : List ScriptText) (called : List ℕ) → d.scripts ≡ scripts_said (host_names d.hosts) texts
    → FineScripts (host_names d.hosts) (texts ++ empty_text called ∷ []) → script_cause d called ≡ None
script-good d texts called is k =
    let ns : List (List ℕ) = host_names d.hosts in
    let parts = fit-parts ns texts (empty_text called) k.fit in
    let there = and_parts (nat_lt (place_among ns called) (length ns)) true parts.1 in
    let room : length d.scripts < 32 =
    let len = length-append texts (empty_text called ∷ []) in
    let count = count-said ns texts in
    let few = k.few in
    let same = ap (λ (ss : List Script). length ss) is in omega (arith, len, count, few, same) in
    passes cause.UnknownName (not (has_host called d)) _ (ap not (knows-host d.hosts called ∙ there.0))
    (passes cause.OverLimit (nat_le 32 (length d.scripts)) None (lt-leb 32 (length d.scripts) room) refl)

pub step-fits : (ns : List (List ℕ)) (front : List ScriptText) (t : ScriptText) (x : Step) → FineScripts ns (front ++ t ∷ []) → is_step x ≡ true → FineScripts ns (front ++ with_one t x ∷ [])
step-fits ns front t x k fit =
    let parts = fit-parts ns front t k.fit in
    let own = and_parts (nat_lt (place_among ns t.host) (length ns)) (list_all is_step t.steps) parts.1 in
    record {
      fit = pushed-fit ns front (with_one t x) parts.0
          (and_from (nat_lt (place_among ns t.host) (length ns)) (list_all is_step (t.steps ++ x ∷ [])) own.0
          (list_all-append is_step t.steps (x ∷ []) ∙ and_from (list_all is_step t.steps) _ own.1 (and_from (is_step x) true fit refl)));
      few = let a = length-append front (t ∷ []) in let b = length-append front (with_one t x ∷ []) in let few = k.few in omega (arith, a, b, few);
    }

-- a script without its last steps
pub steps-front : (ns : List (List ℕ)) (front : List ScriptText) (called : List ℕ) (xs ys : List Step)
    → FineScripts ns (front ++ record { host = called; steps = xs ++ ys } ∷ []) → FineScripts ns (front ++ record { host = called; steps = xs } ∷ [])
steps-front ns front called xs ys k =
    let whole : ScriptText = record { host = called; steps = xs ++ ys } in
    let t : ScriptText = record { host = called; steps = xs } in
    let parts = fit-parts ns front whole k.fit in
    let own = and_parts (nat_lt (place_among ns called) (length ns)) (list_all is_step (xs ++ ys)) parts.1 in
    let first = and_parts (list_all is_step xs) (list_all is_step ys) (sym (list_all-append is_step xs ys) ∙ own.1) in
    record {
      fit = pushed-fit ns front t parts.0 (and_from (nat_lt (place_among ns called) (length ns)) (list_all is_step xs) own.0 first.0);
      few = let a = length-append front (t ∷ []) in let b = length-append front (whole ∷ []) in let few = k.few in omega (arith, a, b, few);
    }

pub step-good : (d : Draft) (front : List ScriptText) (t : ScriptText) → d.group ≡ script_group (front ++ t ∷ []) → step_cause d ≡ None
step-good d front t is = passes cause.OutOfOrder (is_before 6 d) None (ap (λ g. nat_lt g 6) (is ∙ group-pushed front t)) refl

-- a step is a step of the world
pub step-own : (ns : List (List ℕ)) (front : List ScriptText) (called : List ℕ) (xs : List Step) (x : Step) (ys : List Step)
    → FineScripts ns (front ++ record { host = called; steps = xs ++ x ∷ ys } ∷ []) → is_step x ≡ true
step-own ns front called xs x ys k =
    let parts = fit-parts ns front (record { host = called; steps = xs ++ x ∷ ys }) k.fit in
    let own = and_parts (nat_lt (place_among ns called) (length ns)) (list_all is_step (xs ++ x ∷ ys)) parts.1 in
    let later = and_parts (list_all is_step xs) (is_step x && list_all is_step ys) (sym (list_all-append is_step xs (x ∷ ys)) ∙ own.1) in
    (and_parts (is_step x) (list_all is_step ys) later.1).0

-- the host of a script is one of the hosts
pub host-known : (ns : List (List ℕ)) (front : List ScriptText) (called : List ℕ) → FineScripts ns (front ++ empty_text called ∷ []) → list_any (bytes_eq called) ns ≡ true
host-known ns front called k =
    let parts = fit-parts ns front (empty_text called) k.fit in
    sym (place-there (bytes_eq called) ns) ∙ (and_parts (nat_lt (place_among ns called) (length ns)) true parts.1).0
