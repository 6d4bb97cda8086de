-- What a text of sessions says has a script of its host in the place of each session, and is a world.
use Rattle.std.proofs.Common.{◌≡◌, ◌⊎◌, inl, inr, ℕ, ◌+◌, ◌==◌, zero, suc, Bool, true, false, not, ◌&&◌, ◌||◌, List, [], ◌∷◌, ◌++◌, length, refl, sym, ap, subst, ◌∙◌, arith, Option, Some, None, Result, Ok, Err}
use Rattle.std.specs.Prelude.{slice_get, option_map, if◌then◌else◌}
use Rattle.std.specs.List.{list_all, list_any}
use Rattle.std.specs.Option.{option_map_or}
use Rattle.std.proofs.lemmas.Bool.{and_parts, false≢true, ne_eqb}
use Rattle.std.proofs.lemmas.List.{map-append}
use Rattle.std.proofs.lemmas.Option.{none-some, same_Some, slice_get-map, slice_get_within}
use Rattle.net_base.specs.Stamped.{In}
use Rattle.net_base.specs.NdbText.{is_newline, lines_of}
use Rattle.net_base.specs.World.{IsWorld, all_apart, is_byte}
use Rattle.net_base.specs.declared.world.Script.{Script}
use Rattle.net_base.specs.declared.world.World.{World}
use Rattle.session_script.specs.declared.world.Session.{Session}
use Rattle.session_script.specs.declared.world.SessionWorld.{SessionWorld}
use Rattle.session_script.specs.Worlds.{HaveHosts, HaveStreams, same_place}
use Rattle.world_text.specs.LineReading.{read_line}
use Rattle.world_text.specs.VersionLines.{bad_version_line, versions_in}
use Rattle.world_text.specs.WorldLines.{Bad, Begins, Draft, Goes, Verdict, after, at_last, empty_script, host_number, line_verdict, opening_draft, world_of}
use Rattle.world_text.specs.WorldRefusal.{LeadsToWorld}
use Rattle.world_text.specs.WorldText.{Cut, cuts_of, with_first, with_versions}
use Rattle.world_text.proofs.Shared.{versions-databases, versions-timed, apart-map, apart-push, at_last-push, last-push, same-numbers, led-next, Behind, Opening, Stage, read-all, complete, Ends, ends, goes-bad}
use Rattle.world_text.specs.declared.line.LineCause.{LineCause}
use Rattle.world_text.specs.declared.line.LineCause.TheVariants as cause
use Rattle.world_text.specs.declared.line.WorldLine.{WorldLine}
use Rattle.world_text.specs.declared.line.WorldLine.TheVariants as line
use Rattle.world_file.specs.SessionText.{ClosesLines, Extends, Feeds, FollowsLine, IsStreamOf, Judges, OpensSession, Other, Passes, Row, SaysSessions, SaysFrom, ToldLines, as_script, bad_stream, extended, host_of_last, is_step_read, last_stream, opened_at, opening_told, other_verdict, session_row, with_bytes, with_sessions}
use Rattle.world_file.proofs.SessionLines.{Grows, grows, hosts_of, map-at_last, opened, opens}

-- ---- lists

in-push : {A : Type 0} (x : A) (xs : List A) (y : A) → In x (xs ++ y ∷ []) → In x xs ⊎ (x ≡ y)
in-push x [] y (inl e) = inr e
in-push x [] y (inr none) = absurd none
in-push x (z ∷ xs) y (inl e) = inl (inl e)
in-push x (z ∷ xs) y (inr more) = by (in-push x xs y more)
  where
    by : In x xs ⊎ (x ≡ y) → In x (z ∷ xs) ⊎ (x ≡ y)
    by (inl i) = inl (inr i)
    by (inr e) = inr e

in-at_last : {A : Type 0} (f : A → A) (x : A) (xs : List A) → In x (at_last f xs) → (y : A) × In y xs × ((x ≡ y) ⊎ (x ≡ f y))
in-at_last f x [] none = absurd none
in-at_last f x (y ∷ []) (inl e) = (y, inl refl, inr e)
in-at_last f x (y ∷ []) (inr none) = absurd none
in-at_last f x (y ∷ z ∷ xs) (inl e) = (y, inl refl, inl e)
in-at_last f x (y ∷ z ∷ xs) (inr more) = let i = in-at_last f x (z ∷ xs) more in (i.0, inr i.1, i.2)

get-more : {A : Type 0} (xs more : List A) (i : ℕ) (x : A) → slice_get xs i ≡ Some x → slice_get (xs ++ more) i ≡ Some x
get-more [] more i x e = absurd (none-some x e)
get-more (y ∷ xs) more zero x e = e
get-more (y ∷ xs) more (suc i) x e = get-more xs more i x e

get-last : {A : Type 0} (xs : List A) (x : A) → slice_get (xs ++ x ∷ []) (length xs) ≡ Some x
get-last [] x = refl
get-last (y ∷ xs) x = get-last xs x

any-none : {A : Type 0} (p : A → Bool) (xs : List A) → ((x : A) → In x xs → p x ≡ false) → list_any p xs ≡ false
any-none p [] none = refl
any-none p (x ∷ xs) none = ap (λ b. b || list_any p xs) (none x (inl refl)) ∙ any-none p xs (λ y i. none y (inr i))

count-hosts : (scripts : List Script) → length (hosts_of scripts) ≡ length scripts
count-hosts [] = refl
count-hosts (s ∷ scripts) = ap (λ n. suc n) (count-hosts scripts)

-- ---- sessions in their places

-- a script of its host stands in its place
abbrev Sits : List ℕ → Session → Type 0
Sits hosts x = slice_get hosts x.place ≡ Some x.host

abbrev AllWhole : List Session → Type 0
AllWhole xs = (x : Session) → In x xs → IsStreamOf x.stream

-- the last session may go on
pub record GoesOn (xs : List Session) : Type 0 where
  pub front : List Session
  pub last : Session
  pub are : xs ≡ front ++ last ∷ []
  pub whole : AllWhole front

abbrev Whole : Option ℕ → List Session → Type 0
Whole None xs = AllWhole xs
Whole (Some n) xs = GoesOn xs

-- what holds of the lines so far
pub record Kept (told : ToldLines) : Type 0 where
  pub lines : List (List ℕ)
  pub led : LeadsToWorld opening_draft lines told.draft
  pub sit : (x : Session) → In x told.sessions → Sits (hosts_of told.draft.scripts) x
  pub apart : all_apart same_place told.sessions ≡ true
  pub whole : Whole told.under told.sessions

kept-first : Kept opening_told
kept-first = record { lines = []; led = refl; sit = λ x none. absurd none; apart = refl; whole = λ x none. absurd none }

pub ok-err : (w : SessionWorld) (bad : ℕ × ℕ) (r : Result SessionWorld (ℕ × ℕ)) → r ≡ Ok w → r ≡ Err bad → ⊥
ok-err w bad r e f = cc

closed : (xs : List Session) → GoesOn xs → IsStreamOf (last_stream xs) → AllWhole xs
closed xs g stream x i = by (in-push x g.front g.last (subst (In x) g.are i))
  where
    same : last_stream xs ≡ g.last.stream
    same = ap last_stream g.are ∙ ap (λ (o : Option Session). option_map_or (λ (s : Session). s.stream) o []) (last-push None g.front g.last)

    by : In x g.front ⊎ (x ≡ g.last) → IsStreamOf x.stream
    by (inl j) = g.whole x j
    by (inr e) = subst (λ (y : Session). IsStreamOf y.stream) (sym e) (subst IsStreamOf same stream)

closes-ok : (xs : List Session) (o : Option ℕ) (P : Type 0) (w : SessionWorld) → Whole o xs → ClosesLines xs o P (Ok w) → AllWhole xs × P
closes-ok xs None P w whole p = (whole, p)
closes-ok xs (Some n) P w whole (inl p) = (closed xs whole p.0, p.1)
closes-ok xs (Some n) P w whole (inr p) = absurd (ok-err w (n, bad_stream) (Ok w) refl p.1)

-- ---- the bundle

pub record Fine (w : SessionWorld) : Type 0 where
  pub world : IsWorld w.world
  pub streams : HaveStreams w
  pub hosts : HaveHosts w

same-told : (w v : SessionWorld) (r : Result SessionWorld (ℕ × ℕ)) → r ≡ Ok w → r ≡ Ok v → w ≡ v
same-told w v r e f = cc

-- the lines so far, and a bundle
abbrev told_world : ToldLines → List ℕ → SessionWorld
told_world told behind = record { world = record (world_of told.draft) { dbs = versions_in (lines_of behind) }; sessions = told.sessions }

seated : (hosts : List ℕ) (scripts : List Script) (x : Session) (s : Script) → hosts ≡ hosts_of scripts → Sits hosts x → slice_get scripts x.place ≡ Some s → s.host ≡ x.host
seated hosts scripts x s are sits there =
    same_Some s.host x.host
    (sym (ap (λ (o : Option Script). option_map (λ (c : Script). c.host) o) there)
    ∙ (sym (slice_get-map (λ (c : Script). c.host) scripts x.place) ∙ (ap (λ (hs : List ℕ). slice_get hs x.place) (sym are) ∙ sits)))

world-said : (told : ToldLines) (k : Kept told) (text behind : List ℕ) (v : World) → list_all is_byte behind ≡ true → bad_version_line behind ≡ None → Ends told.draft text v
    → IsWorld (record (world_of told.draft) { dbs = versions_in (lines_of behind) })
world-said told k text behind v all fine e = at (read-all k.lines told.draft k.led).lines (read-all k.lines told.draft k.led).stage
  where
    at : (ls : List WorldLine) → Stage ls told.draft → IsWorld (record (world_of told.draft) { dbs = versions_in (lines_of behind) })
    at ls (Opening lines draft) = absurd (false≢true (sym e.begun ∙ ap (λ (g : Draft). g.group == 0) draft))
    at ls (Behind so) = (complete ls told.draft so e.good).is_ready (versions_in (lines_of behind)) (versions-timed behind fine) (versions-databases behind all fine)

fine-said : (told : ToldLines) (k : Kept told) (text behind : List ℕ) (v : World) → AllWhole told.sessions → list_all is_byte behind ≡ true → bad_version_line behind ≡ None → Ends told.draft text v
    → Fine (told_world told behind)
fine-said told k text behind v whole all fine e = record {
  world = world-said told k text behind v all fine e;
  streams = record {
    streams = whole;
    places = λ x i. let within = slice_get_within (hosts_of told.draft.scripts) x.place x.host (k.sit x i) in let count = count-hosts told.draft.scripts in omega (arith, within, count);
    apart = k.apart;
  };
  hosts = λ x s i there. seated (hosts_of told.draft.scripts) told.draft.scripts x s refl (k.sit x i) there;
}

ended : (told : ToldLines) (k : Kept told) (n : ℕ) (text behind : List ℕ) (v : World) (w : SessionWorld) → AllWhole told.sessions → list_all is_byte behind ≡ true → line_verdict told.draft text ≡ Begins v
    → Ok w ≡ with_sessions told.sessions (with_versions n v behind (bad_version_line behind)) → Fine w
ended told k n text behind v w whole all begins is = by (bad_version_line behind) refl is
  where
    e : Ends told.draft text v
    e = ends told.draft text v begins

    by : (o : Option (ℕ × ℕ)) → bad_version_line behind ≡ o → Ok w ≡ with_sessions told.sessions (with_versions n v behind o) → Fine w
    by None fine f =
        subst Fine
        (sym (same-told w (record { world = record v { dbs = versions_in (lines_of behind) }; sessions = told.sessions }) (Ok w) refl f
        ∙ ap (λ (x : World). record { world = record x { dbs = versions_in (lines_of behind) }; sessions = told.sessions }) e.world))
        (fine-said told k text behind v whole all fine e)
    by (Some bad) some f = absurd (ok-err w (n + bad.0, bad.1) (Ok w) refl f)

-- ---- lines

fed : (told : ToldLines) (line : ℕ) (bytes : List ℕ) → told.under ≡ Some line → Kept told → Kept (extended bytes told)
fed told line bytes under k = record {
  lines = k.lines;
  led = k.led;
  sit = λ x i. sits x (in-at_last (with_bytes bytes) x told.sessions i);
  apart = sym (apart-map (λ (a b : ℕ). a == b) (λ (s : Session). s.place) (at_last (with_bytes bytes) told.sessions))
      ∙ (ap (all_apart (λ (a b : ℕ). a == b)) (map-at_last (λ (s : Session). s.place) (with_bytes bytes) (λ s. refl) told.sessions)
      ∙ (apart-map (λ (a b : ℕ). a == b) (λ (s : Session). s.place) told.sessions ∙ k.apart));
  whole = subst (λ (o : Option ℕ). Whole o (at_last (with_bytes bytes) told.sessions)) (sym under) (more (subst (λ (o : Option ℕ). Whole o told.sessions) under k.whole));
}
  where
    sits : (x : Session) → (y : Session) × In y told.sessions × ((x ≡ y) ⊎ (x ≡ with_bytes bytes y)) → Sits (hosts_of told.draft.scripts) x
    sits x (y, i, inl e) = subst (Sits (hosts_of told.draft.scripts)) (sym e) (k.sit y i)
    sits x (y, i, inr e) = subst (Sits (hosts_of told.draft.scripts)) (sym e) (k.sit y i)

    more : GoesOn told.sessions → GoesOn (at_last (with_bytes bytes) told.sessions)
    more g = record { front = g.front; last = with_bytes bytes g.last; are = ap (at_last (with_bytes bytes)) g.are ∙ at_last-push (with_bytes bytes) g.front g.last; whole = g.whole }

grown : (d e : Draft) (x : Session) → Grows d e → Sits (hosts_of d.scripts) x → Sits (hosts_of e.scripts) x
grown d e x g sits = subst (λ (hs : List ℕ). Sits hs x) (sym g.1) (get-more (hosts_of d.scripts) g.0 x.place x.host sits)

-- the session of a line
begun-session : (told : ToldLines) (n : ℕ) (text : List ℕ) (e : Draft) → Kept told → AllWhole told.sessions → session_row told.draft text ≡ OpensSession → line_verdict told.draft (as_script text) ≡ Goes e
    → Kept (record { draft = e; sessions = told.sessions ++ opened_at told.draft (host_of_last e) ∷ []; under = Some n })
begun-session told n text e k whole row goes = record {
  lines = k.lines ++ as_script text ∷ [];
  led = led-next k.lines (as_script text) d e k.led goes;
  sit = λ x i. sits x (in-push x told.sessions new i);
  apart = apart-push same_place (λ x y. same-numbers x.place y.place) told.sessions new
      ∙ (ap (λ b. not b && all_apart same_place told.sessions) (any-none (same_place new) told.sessions other) ∙ k.apart);
  whole = record { front = told.sessions; last = new; are = refl; whole = whole };
}
  where
    d : Draft
    d = told.draft

    new : Session
    new = opened_at d (host_of_last e)

    o : (called : List ℕ) × (e ≡ after d (line.Script called))
    o = opened d e text (opens d text row) goes

    other : (x : Session) → In x told.sessions → same_place new x ≡ false
    other x i =
        let within = slice_get_within (hosts_of d.scripts) x.place x.host (k.sit x i) in
        let count = count-hosts d.scripts in
        ne_eqb (length d.scripts) x.place (λ is. omega (arith, is, within, count))

    h : ℕ
    h = host_number o.0 d

    last : Sits (hosts_of e.scripts) new
    last =
        subst (λ (f : Draft). slice_get (hosts_of f.scripts) (length d.scripts) ≡ Some (host_of_last f)) (sym o.1)
        (ap (λ (hs : List ℕ). slice_get hs (length d.scripts)) (map-append (λ (s : Script). s.host) d.scripts (empty_script h ∷ []))
        ∙ (ap (λ n. slice_get (hosts_of d.scripts ++ h ∷ []) n) (sym (count-hosts d.scripts))
        ∙ (get-last (hosts_of d.scripts) h ∙ ap (λ (s : Option Script). Some (option_map_or (λ (c : Script). c.host) s 0)) (sym (last-push None d.scripts (empty_script h))))))

    sits : (x : Session) → In x told.sessions ⊎ (x ≡ new) → Sits (hosts_of e.scripts) x
    sits x (inl i) = grown d e x (grows d e (as_script text) goes) (k.sit x i)
    sits x (inr is) = subst (Sits (hosts_of e.scripts)) (sym is) last

-- a good line under no session, or under one, is judged as it is without sessions
other-line : (d : Draft) (text : List ℕ) (o : Option ℕ) (v : Verdict) → other_verdict o d text ≡ v → ((c : LineCause) → v ≡ Bad c → ⊥) → line_verdict d text ≡ v
other-line d text None v e good = e
other-line d text (Some n) v e good = by (is_step_read (read_line text)) e
  where
    by : (b : Bool) → (if b then Bad cause.OutOfOrder else line_verdict d text) ≡ v → line_verdict d text ≡ v
    by true f = absurd (good cause.OutOfOrder (sym f))
    by false f = f

went : (told : ToldLines) (text : List ℕ) (e : Draft) → Kept told → AllWhole told.sessions → line_verdict told.draft text ≡ Goes e → Kept (record { draft = e; sessions = told.sessions; under = None })
went told text e k whole goes = record {
  lines = k.lines ++ text ∷ [];
  led = led-next k.lines text told.draft e k.led goes;
  sit = λ x i. grown told.draft e x (grows told.draft e text goes) (k.sit x i);
  apart = k.apart;
  whole = whole;
}

begins-bad : (w : World) (c : LineCause) → Begins w ≡ Bad c → ⊥
begins-bad w c f = cc

-- ---- texts

-- behind each line stand bytes
abbrev AllBytes : List Cut → Type 0
AllBytes cs = (c : Cut) → In c cs → list_all is_byte c.behind ≡ true

cuts-bytes : (text : List ℕ) → list_all is_byte text ≡ true → AllBytes (cuts_of text)
cuts-bytes [] all c none = absurd none
cuts-bytes (b ∷ bytes) all c i = by (is_newline b) (cuts_of bytes) i (cuts-bytes bytes (and_parts (is_byte b) (list_all is_byte bytes) all).1)
  where
    by : (v : Bool) (cs : List Cut) → In c (if v then record { line = []; behind = bytes } ∷ cs else with_first b cs) → AllBytes cs → list_all is_byte c.behind ≡ true
    by true cs (inl e) more = ap (λ (x : Cut). list_all is_byte x.behind) e ∙ (and_parts (is_byte b) (list_all is_byte bytes) all).1
    by true cs (inr j) more = more c j
    by false [] (inl e) more = ap (λ (x : Cut). list_all is_byte x.behind) e
    by false [] (inr none) more = absurd none
    by false (x ∷ cs) (inl e) more = ap (λ (y : Cut). list_all is_byte y.behind) e ∙ more x (inl refl)
    by false (x ∷ cs) (inr j) more = more c (inr j)

-- what follows a line of each row
abbrev Next : SessionWorld → (ToldLines → Type 0) → Type 0
Next w P = (later : ToldLines) → Kept later → P later → Fine w

follows-feed : (told : ToldLines) (n : ℕ) (o : Option ℕ) (bytes : Option (List ℕ)) (P : ToldLines → Type 0) (w : SessionWorld) → told.under ≡ o → Kept told → Extends told n o bytes P (Ok w) → Next w P → Fine w
follows-feed told n o None P w is k e go = absurd (ok-err w _ (Ok w) refl e)
follows-feed told n None (Some bytes) P w is k e go = absurd (ok-err w _ (Ok w) refl e)
follows-feed told n (Some line) (Some bytes) P w is k e go = go _ (fed told line bytes is k) e

follows-session : (told : ToldLines) (n : ℕ) (c : Cut) (P : ToldLines → Type 0) (w : SessionWorld) (v : Verdict) → list_all is_byte c.behind ≡ true → session_row told.draft c.line ≡ OpensSession → Kept told
    → AllWhole told.sessions → line_verdict told.draft (as_script c.line) ≡ v
    → Judges told.sessions n c.behind v (λ (d : Draft). P (record { draft = d; sessions = told.sessions ++ opened_at told.draft (host_of_last d) ∷ []; under = Some n })) (Ok w)
    → Next w P → Fine w
follows-session told n c P w (Goes e) all row k whole goes j go = go _ (begun-session told n c.line e k whole row goes) j
follows-session told n c P w (Begins v) all row k whole begins j go = ended told k n (as_script c.line) c.behind v w whole all begins j
follows-session told n c P w (Bad why) all row k whole bad j go = absurd (ok-err w _ (Ok w) refl j)

follows-other : (told : ToldLines) (n : ℕ) (c : Cut) (P : ToldLines → Type 0) (w : SessionWorld) (v : Verdict) → list_all is_byte c.behind ≡ true → Kept told
    → AllWhole told.sessions → other_verdict told.under told.draft c.line ≡ v → Judges told.sessions n c.behind v (λ (d : Draft). P (record { draft = d; sessions = told.sessions; under = None })) (Ok w)
    → Next w P → Fine w
follows-other told n c P w (Goes e) all k whole goes j go = go _ (went told c.line e k whole (other-line told.draft c.line told.under (Goes e) goes (goes-bad e))) j
follows-other told n c P w (Begins v) all k whole begins j go =
    ended told k n c.line c.behind v w whole all (other-line told.draft c.line told.under (Begins v) begins (begins-bad v)) j
follows-other told n c P w (Bad why) all k whole bad j go = absurd (ok-err w _ (Ok w) refl j)

follows : (told : ToldLines) (n : ℕ) (c : Cut) (P : ToldLines → Type 0) (w : SessionWorld) (row : Row) → list_all is_byte c.behind ≡ true → session_row told.draft c.line ≡ row → Kept told → FollowsLine told n c row P (Ok w) → Next w P
    → Fine w
follows told n c P w Passes all is k f go = go told k f
follows told n c P w (Feeds bytes) all is k f go = follows-feed told n told.under bytes P w refl k f go
follows told n c P w OpensSession all is k f go =
    let closing = closes-ok told.sessions told.under _ w k.whole f in follows-session told n c P w (line_verdict told.draft (as_script c.line)) all is k closing.0 refl closing.1 go
follows told n c P w Other all is k f go =
    let closing = closes-ok told.sessions told.under _ w k.whole f in follows-other told n c P w (other_verdict told.under told.draft c.line) all k closing.0 refl closing.1 go

said : (told : ToldLines) (n : ℕ) (cs : List Cut) (w : SessionWorld) → AllBytes cs → Kept told → SaysFrom told n cs (Ok w) → Fine w
said told n [] w all k says = absurd (ok-err w _ (Ok w) refl (closes-ok told.sessions told.under _ w k.whole says).1)
said told n (c ∷ cs) w all k says =
    follows told n c (λ (later : ToldLines). SaysFrom later (n + 1) cs (Ok w)) w (session_row told.draft c.line) (all c (inl refl)) refl k says
    (λ (later : ToldLines). said later (n + 1) cs w (λ x i. all x (inr i)))

fine : (text : List ℕ) (w : SessionWorld) → list_all is_byte text ≡ true → SaysSessions text (Ok w) → Fine w
fine text w all says = said opening_told 1 (cuts_of text) w (cuts-bytes text all) kept-first says

pub said-world : (text : List ℕ) (w : SessionWorld) → list_all is_byte text ≡ true → SaysSessions text (Ok w) → IsWorld w.world
said-world text w all says = (fine text w all says).world

pub said-streams : (text : List ℕ) (w : SessionWorld) → list_all is_byte text ≡ true → SaysSessions text (Ok w) → HaveStreams w
said-streams text w all says = (fine text w all says).streams

pub said-hosts : (text : List ℕ) (w : SessionWorld) → list_all is_byte text ≡ true → SaysSessions text (Ok w) → HaveHosts w
said-hosts text w all says = (fine text w all says).hosts
