-- What each call does with what the lines say.
use Rattle.std.proofs.Common.{◌≡◌, ℕ, ◌+◌, ◌<◌, ◌≤◌, Bool, true, false, List, [], ◌∷◌, ◌++◌, length, Option, Some, None, Result, Ok, Err, OnOk, is_some, slice_get, Vec, Global, refl, sym, ap, subst, ◌∙◌}
use Rattle.std.specs.Prelude.{slice_set}
use Rattle.std.proofs.Math.Seq.{take-append_seam}
use Rattle.std.proofs.lemmas.Bool.{false≢true, true≢false}
use Rattle.std.proofs.lemmas.List.{append-nil}
use Rattle.net_base.specs.declared.end.RunEnd.{RunEnd}
use Rattle.net_base.specs.declared.history.Entry.{Entry}
use Rattle.net_base.specs.declared.world.Script.{Script}
use Rattle.net_base.specs.declared.world.Step.{Step}
use Rattle.net_base.specs.declared.world.World.{World}
use Rattle.net_base.specs.Legal.{IsLegal, MayFollow}
use Rattle.net_base.specs.Net.{after}
use Rattle.net_base.specs.Next.{is_unfinished, next_recorded}
use Rattle.net_base.specs.World.{IsWorld}
use Rattle.history_laws.proofs.Shared.{at_push}
use Rattle.grown_laws.specs.Grown.{grown}
use Rattle.live_lines.specs.declared.answer.StepWord.{StepWord}
use Rattle.plain_runner.specs.Tracks.{Grows, Tracks}
use Rattle.plain_runner.specs.declared.resting.Resting.{Resting}
use Rattle.plain_runner.specs.declared.runner.Runner.{Runner}
use Rattle.live_answers.specs.declared.current.Current.{Current}
use Rattle.live_answers.specs.Lines.{BadInput, First, Last, Line, numbers_in, replies_in}
use Rattle.live_answers.specs.Speech.{IsWritten, Says, Speech}
use Rattle.live_answers.specs.Steps.{answer_of, removed_line}
use Rattle.live_run.specs.Currents.{AllNone, ChangesAt, HasNone, IsNotedIn, IsReplaced, IsUnheard, TakesAt}
use Rattle.live_run.specs.Heard.{AreHeard, AreTold, AreToldTo, IsTold, steps_in}
use Rattle.live_run.specs.Hearing.{AreHeardAt, AreHeardIn, Bad, Comes, Enters, Hears, HearsEntry, IsHeardBy, Nothing, Pauses, PausesIf, ReportsOne, ReportsRest, ReportsStep, SaysNoAnswer, Supplies, is_ends}
use Rattle.live_run.specs.LiveRuns.{IsRest, IsRunning}
use Rattle.live_run.specs.LiveWorlds.{ArePlaces, Narrows}
use Rattle.live_run.specs.Deadlines.{Waits}
use Rattle.live_run.specs.declared.playing.Pause.{Pause}
use Rattle.live_run.specs.declared.playing.Pause.TheVariants as pause
use Rattle.live_run.specs.declared.playing.Rest.{Rest}
use Rattle.live_run.specs.declared.places.Places.{Places}
use Rattle.live_run.specs.declared.round.Round.{Round}
use Rattle.live_run.proofs.SeatLists.{heard_bad, heard_begun, heard_entry, heard_first, heard_removed, heard_replaced, heard_taken, none_taken, told_all, told_none, told_on, told_quiet}
use Rattle.live_run.proofs.Spoken.{numbers_more, replies_more}
use Rattle.live_run.proofs.Waits.{Base, base_is}
use Rattle.live_run.proofs.Writing.{of_places_on, written_on}

pub on_ok : {T E P Q : Type 0} (r : Result T E) → (P → Q) → OnOk r P → OnOk r Q
on_ok (Ok x) then_ given = then_ given
on_ok (Err e) then_ given = given

-- An entry.

abbrev pub Exactly : Type 0
Exactly = (w : World) (h : List Entry) (c : ℕ) (s : Script) → slice_get w.scripts c ≡ Some s → is_some (next_recorded w h c) ≡ is_unfinished w h c s

abbrev pub IsThrough : Runner → ℕ → Type 0
IsThrough r c = (w : World) (s : Script) → Tracks w r → slice_get w.scripts c ≡ Some s → is_unfinished w r.history.entries c s ≡ false

pub reports_none : (r : Runner) (h : List Entry) (old new : List (Option Current)) (s : Speech) (c : ℕ) → TakesAt old new c None → ReportsStep r h old new s s
reports_none r h old new s c took first before w tracks is heard = subst (λ (cs : List (Option Current)). AreHeard first before w h cs s) (sym (none_taken old new c took)) heard

pub reports_taken : Exactly → (r : Runner) (h : List Entry) (old new : List (Option Current)) (s t : Speech) (c place moment : ℕ) (why : StepWord) (cur : Current) → IsThrough r c
    → (c ≤ 4294967295 → place ≡ c) → TakesAt old new c (Some cur) → Says s t (answer_of place moment why cur h) → ReportsStep r h old new s t
reports_taken exactly r h old new s t c place moment why cur through number took says first before w tracks is heard =
    heard_taken exactly first before w h old new s t c place moment why cur tracks.history.world number
    (λ u there. subst (λ (k : List Entry). is_unfinished w k c u ≡ false) (sym is) (through w u tracks there)) took says heard

pub hears_entry : (r : Runner) (c k : ℕ) (x : Entry) (h h_new : List Entry) (old mid new : List (Option Current)) (s t : Speech) → k ≡ length h → ChangesAt old mid c (IsNotedIn k x)
    → h_new ≡ h ++ x ∷ [] → ReportsStep r h_new mid new s t → HearsEntry r c x h h_new old new s t
hears_entry r c k x h h_new old mid new s t count change pushed reports first before w enters heard =
    let legal : IsLegal w (h ++ x ∷ []) = subst (IsLegal w) enters.history_is enters.tracks.history.legal in
    let may : MayFollow w h x = subst (λ (past : List Entry). MayFollow w past x) (take-append_seam h (x ∷ [])) (legal (length h) x (at_push h x)) in
    let noted : AreHeard first before w (h ++ x ∷ []) mid s =
    heard_entry first before w h old mid s c x enters.caller_is may (subst (λ (n : ℕ). ChangesAt old mid c (IsNotedIn n x)) count change) heard in
    reports first before w enters.tracks (pushed ∙ sym enters.history_is) (subst (λ (l : List Entry). AreHeard first before w l mid s) (sym pushed) noted)

pub hears_turn : (w : World) (old new : Round) (c : ℕ) (x : Entry) (kept : List (Option Current)) (s t : Speech) → IsRunning w old → Grows w old.runner new.runner c x
    → new.history ≡ old.history ++ x ∷ [] → kept ≡ old.places.currents.items → HearsEntry new.runner c x old.history new.history kept new.places.currents.items s t → Hears w old new s t
hears_turn w old new c x kept s t running grew pushed same hears first before heard =
    let enters : Enters w new.runner old.history c x =
    record {
      tracks = grew.tracks;
      history_is = grew.history_is ∙ ap (λ (k : List Entry). k ++ x ∷ []) (sym running.history_is);
      caller_is = grew.caller_is;
    } in
    let start : AreHeard first before w old.history kept s =
    subst (λ (h : List Entry). AreHeard first before w h kept s) (sym running.history_is)
    (subst (λ (cs : List (Option Current)). AreHeard first before w old.runner.history.entries cs s) (sym same) heard) in
    subst (λ (h : List Entry). AreHeard first before w h new.places.currents.items t) (pushed ∙ sym enters.history_is) (hears first before w enters start)

-- Rounds.

pub hears_same : (w : World) (old new : Round) (s : Speech) → new.runner ≡ old.runner → new.places.currents ≡ old.places.currents → Hears w old new s s
hears_same w old new s runner same first before heard =
    subst (λ (r : Runner). AreHeard first before w r.history.entries new.places.currents.items s) (sym runner)
    (subst (λ (cs : Vec (Option Current) Global). AreHeard first before w old.runner.history.entries cs.items s) (sym same) heard)

pub hears_on : (w : World) (a b c : Round) (s t u : Speech) → Hears w a b s t → Hears w b c t u → Hears w a c s u
hears_on w a b c s t u one two first before heard = two first before (one first before heard)

pub pauses_on : (w : World) (a b c : Round) (s t u : Speech) (p : Pause) → Hears w a b s t → Pauses w b c t u p → Pauses w a c s u p
pauses_on w a b c s t u p one two first before heard = two first before (one first before heard)

pub narrows_kept : (a b c : Round) → c.places.grows ≡ b.places.grows → Narrows a.places.grows.items b.places.grows.items → Narrows a.places.grows.items c.places.grows.items
narrows_kept a b c same narrows d is = narrows d (ap (λ (v : Vec Bool Global). slice_get v.items d) (sym same) ∙ is)

pub none_paused : (w : World) (old new : Round) (s t : Speech) (p : Option Pause) → p ≡ None → PausesIf w old new s t p → Hears w old new s t
none_paused w old new s t p none hears = subst (PausesIf w old new s t) none hears

-- the end of a run
pub ends_told : (w : World) (a b : Round) (s t u : Speech) → IsRunning w b → Hears w a b s t → ReportsRest b t u → Pauses w a b s u pause.Ends
ends_told w a b s t u running hears reports first before heard =
    subst (λ (h : List Entry). AreTold first before h u) running.history_is
    (reports first before w running.tracks.history.world
    (subst (λ (h : List Entry). AreHeard first before w h b.places.currents.items t) (sym running.history_is) (hears first before heard)))

-- From rest to rest.

pub comes : (w : World) (old new : Rest) (a b : Round) (s t : Speech) (p : Pause) → a.runner.history.entries ≡ old.run.history.entries → a.places ≡ old.places
    → new.run.history.entries ≡ b.runner.history.entries → new.places ≡ b.places → Pauses w a b s t p → Comes w old new s t p
comes w old new a b s t p begun places rested places_after pauses first before heard =
    let start : AreHeardIn first before w a s =
    subst (λ (h : List Entry). AreHeard first before w h a.places.currents.items s) (sym begun)
    (subst (λ (q : Places). AreHeard first before w old.run.history.entries q.currents.items s) (sym places) heard) in
    subst (λ (h : List Entry). IsHeardBy first before w h new.places.currents.items t p) (sym rested)
    (subst (λ (q : Places). IsHeardBy first before w b.runner.history.entries q.currents.items t p) (sym places_after) (pauses first before start))

pub goes_on : (first : World) (before : Option (List ℕ)) (w : World) (h : List Entry) (cs : List (Option Current)) (s : Speech) (p : Pause) → is_ends p ≡ false
    → IsHeardBy first before w h cs s p → AreHeard first before w h cs s
goes_on first before w h cs s (pause.Begins at) on heard = heard
goes_on first before w h cs s pause.Reads on heard = heard
goes_on first before w h cs s (pause.Late c) on heard = heard
goes_on first before w h cs s pause.Ends on heard = absurd (true≢false on)

pub has_ended : (first : World) (before : Option (List ℕ)) (w : World) (h : List Entry) (cs : List (Option Current)) (s : Speech) (p : Pause) → is_ends p ≡ true
    → IsHeardBy first before w h cs s p → AreTold first before h s
has_ended first before w h cs s (pause.Begins at) on heard = absurd (false≢true on)
has_ended first before w h cs s pause.Reads on heard = absurd (false≢true on)
has_ended first before w h cs s (pause.Late c) on heard = absurd (false≢true on)
has_ended first before w h cs s pause.Ends on heard = heard

-- Between two rests.

pub supplies_same : (places : List Bool) (w : World) (old new : Rest) (s : Speech) → new.run ≡ old.run → new.places.currents ≡ old.places.currents → Supplies places w old s w new s
supplies_same places w old new s run same first before are heard =
    subst (λ (r : Resting). AreHeard first before w r.history.entries new.places.currents.items s) (sym run)
    (subst (λ (cs : Vec (Option Current) Global). AreHeard first before w old.run.history.entries cs.items s) (sym same) heard)

pub heard_no_answer : (first : World) (before : Option (List ℕ)) (w : World) (h : List Entry) (cs : List (Option Current)) (s t : Speech) → SaysNoAnswer s t
    → AreHeard first before w h cs s → AreHeard first before w h cs t
heard_no_answer first before w h cs s t (Nothing same) heard = subst (AreHeard first before w h cs) (sym same) heard
heard_no_answer first before w h cs s t (Bad n c says) heard = heard_bad first before w h cs s t (BadInput n c) (λ d. refl) (λ d. refl) tt says heard

pub supplies_begun : (places : List Bool) (w v : World) (old new : Rest) (s : Speech) (c : ℕ) (step : Step) (cur : Current) → slice_get places c ≡ Some true → v ≡ grown w c (step ∷ [])
    → new.run ≡ old.run → HasNone old.places.currents.items c → new.places.currents.items ≡ slice_set old.places.currents.items c (Some cur) → cur.stamps.items ≡ [] → cur.number ≡ steps_in w c
    → Supplies places w old s v new s
supplies_begun places w v old new s c step cur can is run none set unheard number first before are heard =
    subst (λ (r : Resting). AreHeard first before v r.history.entries new.places.currents.items s) (sym run)
    (heard_begun first before w v old.run.history.entries old.places.currents.items new.places.currents.items s c step cur is (are c can) none set unheard number heard)

module _ (nets : (w : World) (c : ℕ) (more : List Step) (h : List Entry) → after (grown w c more) h ≡ after w h) where
  pub supplies_replaced : (places : List Bool) (w v : World) (old new : Rest) (s : Speech) (c last : ℕ) (until : Step) → Waits w old.run.history.entries c last
      → ((base : World) (step : Step) → w ≡ grown base c (step ∷ []) → c < length base.scripts → v ≡ grown base c (until ∷ []))
      → new.run.history.entries ≡ old.run.history.entries → IsUnheard old.places.currents.items c → ChangesAt old.places.currents.items new.places.currents.items c IsReplaced
      → Supplies places w old s v new s
  supplies_replaced places w v old new s c last until waits other same unheard change first before are heard =
      let b : Base w old.run.history.entries c last = base_is nets w old.run.history.entries c last waits in
      subst (λ (h : List Entry). AreHeard first before v h new.places.currents.items s) (sym same)
      (heard_replaced first before b.base w v old.run.history.entries old.places.currents.items new.places.currents.items s c b.step until b.is (other b.base b.step b.is b.known) b.known
      unheard change heard)

  pub supplies_removed : (places : List Bool) (w v : World) (old new : Rest) (s t : Speech) (c last place : ℕ) → Waits w old.run.history.entries c last → IsWorld w
      → (c ≤ 4294967295 → place ≡ c) → ((base : World) (step : Step) → w ≡ grown base c (step ∷ []) → c < length base.scripts → v ≡ grown base c [])
      → new.run.history.entries ≡ old.run.history.entries → IsUnheard old.places.currents.items c → new.places.currents.items ≡ slice_set old.places.currents.items c None
      → Says s t (removed_line place) → Supplies places w old s v new t
  supplies_removed places w v old new s t c last place waits world number other same unheard set says first before are heard =
      let b : Base w old.run.history.entries c last = base_is nets w old.run.history.entries c last waits in
      subst (λ (h : List Entry). AreHeard first before v h new.places.currents.items t) (sym same)
      (heard_removed first before b.base w v old.run.history.entries old.places.currents.items new.places.currents.items s t c place b.step b.is (other b.base b.step b.is b.known) world number b.known
      b.finished unheard set says heard)

-- The beginning.

pub hears_first : (w : World) (r : Rest) (places : Places) (s t : Speech) (numbers : List ℕ) → AllNone (length w.scripts) places.currents.items → r.places ≡ places
    → r.run.history.entries ≡ [] → Says s t (First numbers) → (before : Option (List ℕ)) → s.lines ≡ [] → IsWritten before s → AreHeardAt w before w r t
hears_first w r places s t numbers none same empty says before nothing written =
    subst (λ (h : List Entry). AreHeard w before w h r.places.currents.items t) (sym empty)
    (subst (λ (p : Places). AreHeard w before w [] p.currents.items t) (sym same) (heard_first w before places.currents.items s t numbers none nothing written says))

-- The last line.

pub told_last : (first : World) (before : Option (List ℕ)) (h : List Entry) (s t : Speech) (e : RunEnd) (m : ℕ) → Says s t (Last e m) → AreTold first before h s → AreTold first before h t
told_last first before h s t e m says told =
    record {
      written = written_on before s t (Last e m) says told.written;
      lines = of_places_on first s t (Last e m) says told.lines tt;
      each = λ c place. subst (λ (ls : List Line). IsTold h ls c) (sym says.lines) (last c (told.each c place));
    }
  where
    last : (c : ℕ) → IsTold h s.lines c → IsTold h (s.lines ++ Last e m ∷ []) c
    last c old =
        record {
          replies = replies_more s.lines (Last e m) c ∙ (append-nil (replies_in s.lines c) ∙ old.replies);
          steps = old.steps;
          numbers = numbers_more s.lines (Last e m) c ∙ (append-nil (numbers_in s.lines c) ∙ old.numbers);
        }
