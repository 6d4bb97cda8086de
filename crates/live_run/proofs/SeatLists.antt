-- What the lines say of all places stays true.
use Rattle.std.proofs.Common.{◌≡◌, ℕ, zero, suc, ◌+◌, ◌<◌, ◌≤◌, Bool, true, false, List, [], ◌∷◌, ◌++◌, length, Option, Some, None, is_some, slice_get, ◌⊎◌, inl, inr, refl, sym, ap, subst, ◌∙◌, arith}
use Rattle.std.specs.Prelude.{slice_set}
use Rattle.std.specs.Option.{option_map_or}
use Rattle.std.proofs.lemmas.Bool.{leb-true}
use Rattle.std.proofs.lemmas.List.{append-nil, length-append}
use Rattle.std.proofs.lemmas.Option.{none-some, same_Some}
use Rattle.net_base.specs.declared.history.Entry.{Entry}
use Rattle.net_base.specs.declared.reply.Reply.{Reply}
use Rattle.net_base.specs.declared.world.Script.{Script}
use Rattle.net_base.specs.declared.world.Step.{Step}
use Rattle.net_base.specs.declared.world.World.{World}
use Rattle.net_base.specs.Legal.{MayFollow}
use Rattle.net_base.specs.Next.{is_unfinished, next_recorded, own_replies, place_next, zone_of}
use Rattle.net_base.specs.World.{IsWorld}
use Rattle.net_base.proofs.Shared.{there_at}
use Rattle.grown_laws.specs.Grown.{grown}
use Rattle.live_lines.specs.declared.answer.AnswerHead.{AnswerHead}
use Rattle.live_lines.specs.declared.answer.StepWord.{StepWord}
use Rattle.live_lines.specs.declared.answer.StepWord.TheVariants as word
use Rattle.live_answers.specs.declared.current.Current.{Current}
use Rattle.live_answers.specs.Lines.{Answer, BadInput, First, Line, lines_text, numbers_in, numbers_of, replies_in, replies_of}
use Rattle.live_answers.specs.Speech.{GrowsAs, IsWritten, Says, Speech}
use Rattle.live_answers.specs.Steps.{answer_of, removed_line, replies_at}
use Rattle.live_run.specs.Currents.{AllNone, ChangesAt, HasNone, Here, IsNotedIn, IsReplaced, IsUnheard, NoOne, Outside, Taken, TakesAt}
use Rattle.live_run.specs.Heard.{AreHeard, AreOfPlaces, AreSeats, AreTold, AreToldTo, HasSeat, IsOfPlace, IsSeat, IsTold, numbers_below, steps_in}
use Rattle.live_run.specs.LiveWorlds.{IsPlace}
use Rattle.live_run.proofs.Late.{same_or_other, set_other}
use Rattle.live_run.proofs.Seats.{IsAnswered, answered, grown_none, seat_begun, seat_grown, seat_noted, seat_other, seat_regrown, seat_removed, seat_replaced, seat_said, seat_taken}
use Rattle.live_run.proofs.Spoken.{numbers_here, numbers_more, numbers_other, replies_here, replies_more, replies_other}
use Rattle.live_run.proofs.Waits.{next_is, some_below}
use Rattle.live_run.proofs.Writing.{of_places_on, written_on}

-- Lists.

set_in : {A : Type 0} (xs : List A) (c : ℕ) (x y : A) → slice_get xs c ≡ Some y → slice_get (slice_set xs c x) c ≡ Some x
set_in [] c x y is = absurd (none-some y is)
set_in (z ∷ xs) zero x y is = refl
set_in (z ∷ xs) (suc c) x y is = set_in xs c x y is

set_out : {A : Type 0} (xs : List A) (c : ℕ) (x : A) → slice_get xs c ≡ None → slice_set xs c x ≡ xs
set_out {A = A} [] c x none = refl
set_out {A = A} (z ∷ xs) zero x none = absurd (none-some z (sym none))
set_out {A = A} (z ∷ xs) (suc c) x none = ap (λ (ys : List A). z ∷ ys) (set_out xs c x none)

set_alike : {A : Type 0} (xs : List A) (c : ℕ) (x : A) → slice_get xs c ≡ Some x → slice_set xs c x ≡ xs
set_alike {A = A} [] c x is = refl
set_alike {A = A} (z ∷ xs) zero x is = ap (λ (y : A). y ∷ xs) (sym (same_Some z x is))
set_alike {A = A} (z ∷ xs) (suc c) x is = ap (λ (ys : List A). z ∷ ys) (set_alike xs c x is)

-- which one changes when one is set
changes_set : (old new : List (Option Current)) (c : ℕ) (p : Option Current) (Q : Option Current → Type 0) → new ≡ slice_set old c p → ((o : Option Current) → slice_get old c ≡ Some o → Q o)
    → ChangesAt old new c (λ (o q : Option Current). Q o × (q ≡ p))
changes_set old new c p Q set known = by_case (slice_get old c) refl
  where
    by_case : (o : Option (Option Current)) → slice_get old c ≡ o → ChangesAt old new c (λ (o q : Option Current). Q o × (q ≡ p))
    by_case None none = Outside none (set ∙ set_out old c p none)
    by_case (Some o) there = Here o p there set (known o there, refl)

-- no current step

pub none_at_all : AllNone 0 []
none_at_all = record { count = refl; none = λ c o is. absurd (none-some o is) }

none_in : (cs : List (Option Current)) → ((c : ℕ) (o : Option Current) → slice_get cs c ≡ Some o → o ≡ None) → (c : ℕ) (o : Option Current) → slice_get (cs ++ None ∷ []) c ≡ Some o → o ≡ None
none_in [] all zero o is = sym (same_Some None o is)
none_in [] all (suc c) o is = absurd (none-some o is)
none_in (x ∷ cs) all zero o is = all zero o is
none_in (x ∷ cs) all (suc c) o is = none_in cs (λ d p there. all (suc d) p there) c o is

pub none_pushed : (n : ℕ) (cs : List (Option Current)) → AllNone n cs → AllNone (n + 1) (cs ++ None ∷ [])
none_pushed n cs all = record { count = length-append cs (None ∷ []) ∙ ap (λ (k : ℕ). k + 1) all.count; none = none_in cs all.none }

-- One current step changes, and all others stay.

module _ (first w v : World) (h k : List Entry) (ls ms : List Line) (d : ℕ)
    (others : (c : ℕ) (o : Option Current) → (c ≡ d → ⊥) → IsSeat w h ls c o → IsSeat v k ms c o)
    (old new : List (Option Current)) (R : Option Current → Option Current → Type 0)
    (here : (o p : Option Current) → slice_get old d ≡ Some o → R o p → IsSeat w h ls d o → IsSeat v k ms d p)
    (some : (o : Option Current) (s : Current) → slice_get old d ≡ Some o → R o (Some s) → IsPlace first d) where
  seats_each : ChangesAt old new d R → AreSeats first w h ls old → (c : ℕ) → IsPlace first c → HasSeat v k ms new c
  seats_each (Outside none same) seats c place =
      let had : HasSeat w h ls old c = seats.each c place in
      record {
        current = had.current;
        is = ap (λ (xs : List (Option Current)). slice_get xs c) same ∙ had.is;
        seat = others c had.current (λ at. none-some had.current (sym none ∙ (ap (slice_get old) (sym at) ∙ had.is))) had.seat;
      }
  seats_each (Here o p there set r) seats c place = by_case (same_or_other c d)
    where
      had : HasSeat w h ls old c
      had = seats.each c place

      by_case : (c ≡ d) ⊎ (c ≡ d → ⊥) → HasSeat v k ms new c
      by_case (inl at) =
          let cur : had.current ≡ o = same_Some had.current o (sym had.is ∙ (ap (slice_get old) at ∙ there)) in
          let seat : IsSeat w h ls d o = subst (IsSeat w h ls d) cur (subst (λ (e : ℕ). IsSeat w h ls e had.current) at had.seat) in
          record {
            current = p;
            is = ap (λ (xs : List (Option Current)). slice_get xs c) set ∙ (ap (slice_get (slice_set old d p)) at ∙ set_in old d p o there);
            seat = subst (λ (e : ℕ). IsSeat v k ms e p) (sym at) (here o p there r seat);
          }
      by_case (inr other) =
          record {
            current = had.current;
            is = ap (λ (xs : List (Option Current)). slice_get xs c) set ∙ (set_other old d c p other ∙ had.is);
            seat = others c had.current other had.seat;
          }

  seats_only : ChangesAt old new d R → AreSeats first w h ls old → (c : ℕ) (s : Current) → slice_get new c ≡ Some (Some s) → IsPlace first c
  seats_only (Outside none same) seats c s is = seats.only c s (ap (λ (xs : List (Option Current)). slice_get xs c) (sym same) ∙ is)
  seats_only (Here o p there set r) seats c s is = by_case (same_or_other c d)
    where
      now : slice_get (slice_set old d p) c ≡ Some (Some s)
      now = ap (λ (xs : List (Option Current)). slice_get xs c) (sym set) ∙ is

      by_case : (c ≡ d) ⊎ (c ≡ d → ⊥) → IsPlace first c
      by_case (inl at) =
          let cur : p ≡ Some s = same_Some p (Some s) (sym (set_in old d p o there) ∙ (ap (slice_get (slice_set old d p)) (sym at) ∙ now)) in
          subst (IsPlace first) (sym at) (some o s there (subst (R o) cur r))
      by_case (inr other) = seats.only c s (sym (set_other old d c p other) ∙ now)

  seats_on : ChangesAt old new d R → AreSeats first w h ls old → AreSeats first v k ms new
  seats_on change seats = record { each = seats_each change seats; only = seats_only change seats }

-- Nothing was said, or that a line is invalid.

pub heard_bad : (first : World) (before : Option (List ℕ)) (w : World) (h : List Entry) (currents : List (Option Current)) (s t : Speech) (l : Line)
    → ((c : ℕ) → replies_of l c ≡ []) → ((c : ℕ) → numbers_of l c ≡ []) → IsOfPlace first l → Says s t l → AreHeard first before w h currents s → AreHeard first before w h currents t
heard_bad first before w h currents s t l no_reply no_number place says heard =
    let seats : AreSeats first w h (s.lines ++ l ∷ []) currents =
    record {
      each = λ c is. let had : HasSeat w h s.lines currents c = heard.seats.each c is in
          record { current = had.current; is = had.is; seat = seat_said w h s.lines l c had.current (no_reply c) (no_number c) had.seat };
      only = heard.seats.only;
    } in
    record {
      written = written_on before s t l says heard.written;
      lines = of_places_on first s t l says heard.lines place;
      seats = subst (λ (ls : List Line). AreSeats first w h ls currents) (sym says.lines) seats;
    }

-- An entry was recorded.

noted_some : (n : ℕ) (x : Entry) (o : Option Current) (s : Current) → IsNotedIn n x o (Some s) → (t : Current) × (o ≡ Some t)
noted_some n x None s noted = absurd (none-some s (sym noted))
noted_some n x (Some t) s noted = (t, refl)

pub heard_entry : (first : World) (before : Option (List ℕ)) (w : World) (h : List Entry) (old new : List (Option Current)) (s : Speech) (c : ℕ) (x : Entry)
    → x.caller ≡ c → MayFollow w h x → ChangesAt old new c (IsNotedIn (length h) x) → AreHeard first before w h old s → AreHeard first before w (h ++ x ∷ []) new s
heard_entry first before w h old new s c x caller may change heard =
    record {
      written = heard.written;
      lines = heard.lines;
      seats = seats_on first w w h (h ++ x ∷ []) s.lines s.lines c
          (λ d o other seat. seat_other w h s.lines d o x (λ is. other (sym is ∙ caller)) seat)
          old new (IsNotedIn (length h) x)
          (λ o p there r seat. seat_noted w h s.lines c o p x caller may r seat)
          (λ o t there r. let was = noted_some (length h) x o t r in heard.seats.only c was.0 (there ∙ ap Some was.1))
          change heard.seats;
    }

-- A place has a small number.

pub small : (first : World) (before : Option (List ℕ)) (w : World) (h : List Entry) (currents : List (Option Current)) (s : Speech) (c : ℕ) → IsWorld w
    → AreHeard first before w h currents s → IsPlace first c → c ≤ 4294967295
small first before w h currents s c world heard place =
    omega (arith, (heard.seats.each c place).seat.known, leb-true (length w.scripts) 32 world.few_scripts)

-- The current step was complete, and is reported.

module _ (exactly : (w : World) (h : List Entry) (c : ℕ) (s : Script) → slice_get w.scripts c ≡ Some s → is_some (next_recorded w h c) ≡ is_unfinished w h c s) where
  pub heard_taken : (first : World) (before : Option (List ℕ)) (w : World) (h : List Entry) (old new : List (Option Current)) (s t : Speech) (c place moment : ℕ) (why : StepWord) (cur : Current)
      → IsWorld w → (c ≤ 4294967295 → place ≡ c) → ((u : Script) → slice_get w.scripts c ≡ Some u → is_unfinished w h c u ≡ false)
      → TakesAt old new c (Some cur) → Says s t (answer_of place moment why cur h) → AreHeard first before w h old s → AreHeard first before w h new t
  heard_taken first before w h old new s t c place moment why cur world number through (NoOne none same absent) says heard = absurd (none-some cur (sym absent))
  heard_taken first before w h old new s t c place moment why cur world number through (Taken there set) says heard =
      let a : AnswerHead = record { place = place; step = Some cur.number; moment = moment; word = why } in
      let rs : List Reply = replies_at h cur.stamps.items in
      let l : Line = Answer a rs in
      let is_place : IsPlace first c = heard.seats.only c cur there in
      let here : place ≡ c = number (small first before w h old s c world heard is_place) in
      let seats : AreSeats first w h (s.lines ++ l ∷ []) new =
      seats_on first w w h h s.lines (s.lines ++ l ∷ []) c
      (λ d o other seat. seat_said w h s.lines l d o (replies_other a rs d (λ is. other (sym is ∙ here))) (numbers_other a rs d (λ is. other (sym is ∙ here))) seat)
      old new (λ (o q : Option Current). (o ≡ Some cur) × (q ≡ None))
      (λ o p at r seat. subst (IsSeat w h (s.lines ++ l ∷ []) c) (sym r.1)
      (seat_taken exactly w h s.lines l c cur (replies_here a rs c here) (numbers_here a rs c here) through (subst (IsSeat w h s.lines c) r.0 seat)))
      (λ o u at r. absurd (none-some u (sym r.1)))
      (changes_set old new c None (λ (o : Option Current). o ≡ Some cur) set (λ o at. same_Some o (Some cur) (sym at ∙ there)))
      heard.seats in
      record {
        written = written_on before s t l says heard.written;
        lines = of_places_on first s t l says heard.lines (subst (IsPlace first) (sym here) is_place);
        seats = subst (λ (ls : List Line). AreSeats first w h ls new) (sym says.lines) seats;
      }

-- no step was taken
pub none_taken : (old new : List (Option Current)) (c : ℕ) → TakesAt old new c None → new ≡ old
none_taken old new c (Taken there set) = set ∙ set_alike old c None there
none_taken old new c (NoOne none same absent) = same

-- A step of a place begins.

pub heard_begun : (first : World) (before : Option (List ℕ)) (w v : World) (h : List Entry) (old new : List (Option Current)) (s : Speech) (c : ℕ) (step : Step) (cur : Current)
    → v ≡ grown w c (step ∷ []) → IsPlace first c → HasNone old c → new ≡ slice_set old c (Some cur) → cur.stamps.items ≡ [] → cur.number ≡ steps_in w c
    → AreHeard first before w h old s → AreHeard first before v h new s
heard_begun first before w v h old new s c step cur is place none set unheard number heard =
    let made : AreHeard first before (grown w c (step ∷ [])) h new s =
    record {
      written = heard.written;
      lines = heard.lines;
      seats = seats_on first w (grown w c (step ∷ [])) h h s.lines s.lines c
          (λ d o other seat. seat_grown w h s.lines d c o (step ∷ []) other seat)
          old new (λ (o q : Option Current). (o ≡ None) × (q ≡ Some cur))
          (λ o p at r seat. subst (IsSeat (grown w c (step ∷ [])) h s.lines c) (sym r.1)
          (seat_begun w h s.lines c step cur unheard number (subst (IsSeat w h s.lines c) r.0 seat)))
          (λ o u at r. place)
          (changes_set old new c (Some cur) (λ (o : Option Current). o ≡ None) set none)
          heard.seats;
    } in
    subst (λ (u : World). AreHeard first before u h new s) (sym is) made

-- `until` replaces the current step.

unheard_some : (old : List (Option Current)) (c : ℕ) (o : Option Current) → IsUnheard old c → slice_get old c ≡ Some o → o ≡ None → ⊥
unheard_some old c o unheard there none = none-some unheard.step (sym none ∙ same_Some o (Some unheard.step) (sym there ∙ unheard.is))

replaced_some : (o : Option Current) (s : Current) → IsReplaced o (Some s) → (t : Current) × (o ≡ Some t)
replaced_some None s replaced = absurd (none-some s (sym replaced))
replaced_some (Some t) s replaced = (t, refl)

pub heard_replaced : (first : World) (before : Option (List ℕ)) (base w v : World) (h : List Entry) (old new : List (Option Current)) (s : Speech) (c : ℕ) (step until : Step)
    → w ≡ grown base c (step ∷ []) → v ≡ grown base c (until ∷ []) → c < length base.scripts → IsUnheard old c → ChangesAt old new c IsReplaced
    → AreHeard first before w h old s → AreHeard first before v h new s
heard_replaced first before base w v h old new s c step until was is known unheard change given =
    let heard : AreHeard first before (grown base c (step ∷ [])) h old s = subst (λ (u : World). AreHeard first before u h old s) was given in
    let made : AreHeard first before (grown base c (until ∷ [])) h new s =
    record {
      written = heard.written;
      lines = heard.lines;
      seats = seats_on first (grown base c (step ∷ [])) (grown base c (until ∷ [])) h h s.lines s.lines c
          (λ d o other seat. seat_regrown base h s.lines d c o (step ∷ []) (until ∷ []) other seat)
          old new IsReplaced
          (λ o p at r seat. seat_replaced base h s.lines c step until o p known r (unheard_some old c o unheard at) seat)
          (λ o u at r. let before_it = replaced_some o u r in heard.seats.only c before_it.0 (at ∙ ap Some before_it.1))
          change heard.seats;
    } in
    subst (λ (u : World). AreHeard first before u h new s) (sym is) made

-- The current step is removed.

pub heard_removed : (first : World) (before : Option (List ℕ)) (base w v : World) (h : List Entry) (old new : List (Option Current)) (s t : Speech) (c place : ℕ) (step : Step)
    → w ≡ grown base c (step ∷ []) → v ≡ grown base c [] → IsWorld w → (c ≤ 4294967295 → place ≡ c) → c < length base.scripts → next_recorded base h c ≡ None
    → IsUnheard old c → new ≡ slice_set old c None → Says s t (removed_line place) → AreHeard first before w h old s → AreHeard first before v h new t
heard_removed first before base w v h old new s t c place step was is world number known finished unheard set says given =
    let l : Line = removed_line c in
    let a : AnswerHead = record { place = c; step = None; moment = 0; word = word.Cancelled } in
    let is_place : IsPlace first c = given.seats.only c unheard.step unheard.is in
    let here : place ≡ c = number (small first before w h old s c world given is_place) in
    let said : Says s t l = subst (λ (n : ℕ). Says s t (removed_line n)) here says in
    let heard : AreHeard first before (grown base c (step ∷ [])) h old s = subst (λ (u : World). AreHeard first before u h old s) was given in
    let bare : grown base c [] ≡ base = ap (λ (ss : List Script). record base { scripts = ss }) (grown_none base.scripts c) in
    let seats : AreSeats first (grown base c []) h (s.lines ++ l ∷ []) new =
    seats_on first (grown base c (step ∷ [])) (grown base c []) h h s.lines (s.lines ++ l ∷ []) c
    (λ d o other seat. seat_said (grown base c []) h s.lines l d o (replies_other a [] d (λ at. other (sym at))) (numbers_other a [] d (λ at. other (sym at)))
    (seat_regrown base h s.lines d c o (step ∷ []) [] other seat))
    old new (λ (o q : Option Current). (o ≡ Some unheard.step) × (q ≡ None))
    (λ o p at r seat. subst (IsSeat (grown base c []) h (s.lines ++ l ∷ []) c) (sym r.1)
    (seat_removed base h s.lines c step unheard.step known finished unheard.none bare (subst (IsSeat (grown base c (step ∷ [])) h s.lines c) r.0 seat)))
    (λ o u at r. absurd (none-some u (sym r.1)))
    (changes_set old new c None (λ (o : Option Current). o ≡ Some unheard.step) set (λ o at. same_Some o (Some unheard.step) (sym at ∙ unheard.is)))
    heard.seats in
    let made : AreHeard first before (grown base c []) h new t =
    record {
      written = written_on before s t l said heard.written;
      lines = of_places_on first s t l said heard.lines is_place;
      seats = subst (λ (ls : List Line). AreSeats first (grown base c []) h ls new) (sym said.lines) seats;
    } in
    subst (λ (u : World). AreHeard first before u h new t) (sym is) made

-- The beginning.

pub heard_first : (w : World) (before : Option (List ℕ)) (currents : List (Option Current)) (s t : Speech) (numbers : List ℕ) → AllNone (length w.scripts) currents
    → s.lines ≡ [] → IsWritten before s → Says s t (First numbers) → AreHeard w before w [] currents t
heard_first w before currents s t numbers none empty written says =
    record {
      written = written_on before s t (First numbers) says written;
      lines = of_places_on w s t (First numbers) says (subst (AreOfPlaces w) (sym empty) tt) tt;
      seats = subst (λ (ls : List Line). AreSeats w w [] ls currents) (sym (says.lines ∙ ap (λ (ls : List Line). ls ++ First numbers ∷ []) empty))
          (record {
            each = λ c place. seat c place;
            only = λ c u is. absurd (none-some u (sym (none.none c (Some u) is)));
          });
    }
  where
    seat : (c : ℕ) → IsPlace w c → HasSeat w [] (First numbers ∷ []) currents c
    seat c place =
        let known : c < length w.scripts = some_below w.scripts c place.script place.is in
        let there = there_at currents c (omega (arith, known, none.count)) in
        record {
          current = None;
          is = there.1 ∙ ap Some (none.none c there.0 there.1);
          seat =
              record {
                known = known;
                replies = refl;
                within = tt;
                numbers = sym (ap numbers_below (ap (λ (o : Option Script). option_map_or (λ (u : Script). length u.steps) o 0) place.is ∙ ap length place.empty));
                free = λ is. next_is w [] c place.script place.is ∙ ap (λ (ss : List Step). place_next None (zone_of w) (record place.script { steps = ss }) []) place.empty;
              };
        }

-- The end: the current steps are reported one by one.

pub told_none : (first : World) (before : Option (List ℕ)) (w : World) (h : List Entry) (currents : List (Option Current)) (s : Speech) → AreHeard first before w h currents s
    → AreToldTo 0 first before w h currents s
told_none first before w h currents s heard =
    record {
      written = heard.written;
      lines = heard.lines;
      told = λ c place below. absurd (omega (arith, below));
      each = λ c place at. heard.seats.each c place;
      only = heard.seats.only;
    }

pub told_all : (n : ℕ) (first : World) (before : Option (List ℕ)) (w : World) (h : List Entry) (currents : List (Option Current)) (s : Speech) → length currents ≤ n
    → AreToldTo n first before w h currents s → AreTold first before h s
told_all n first before w h currents s past to =
    record {
      written = to.written;
      lines = to.lines;
      each = λ c place. by_case c place (below_or_not c n);
    }
  where
    below_or_not : (a b : ℕ) → (a < b) ⊎ (b ≤ a)
    below_or_not a zero = inr (omega arith)
    below_or_not zero (suc b) = inl (omega arith)
    below_or_not (suc a) (suc b) = elim (below_or_not a b) [ inl lt ↦ inl (omega (arith, lt)) | inr le ↦ inr (omega (arith, le)) ]

    by_case : (c : ℕ) → IsPlace first c → (c < n) ⊎ (n ≤ c) → IsTold h s.lines c
    by_case c place (inl lt) = to.told c place lt
    by_case c place (inr le) =
        let had : HasSeat w h s.lines currents c = to.each c place le in
        absurd (omega (arith, some_below currents c had.current had.is, past, le))

-- the script n has no current step
pub told_quiet : (n : ℕ) (first : World) (before : Option (List ℕ)) (w : World) (h : List Entry) (currents : List (Option Current)) (s : Speech) → slice_get currents n ≡ Some None
    → AreToldTo n first before w h currents s → AreToldTo (n + 1) first before w h currents s
told_quiet n first before w h currents s none to =
    record {
      written = to.written;
      lines = to.lines;
      told = λ c place below. by_case c place below (same_or_other c n);
      each = λ c place at. to.each c place (omega (arith, at));
      only = to.only;
    }
  where
    by_case : (c : ℕ) → IsPlace first c → c < n + 1 → (c ≡ n) ⊎ (c ≡ n → ⊥) → IsTold h s.lines c
    by_case c place below (inr other) = to.told c place (omega (arith, below, other))
    by_case c place below (inl at) =
        let had : HasSeat w h s.lines currents c = to.each c place (omega (arith, at)) in
        let cur : had.current ≡ None = same_Some had.current None (sym had.is ∙ (ap (slice_get currents) at ∙ none)) in
        let seat : IsSeat w h s.lines c None = subst (IsSeat w h s.lines c) cur had.seat in
        record { replies = sym (append-nil (replies_in s.lines c)) ∙ seat.replies; steps = steps_in w c; numbers = seat.numbers }

-- its current step was reported
pub told_on : (n : ℕ) (first : World) (before : Option (List ℕ)) (w : World) (h : List Entry) (currents : List (Option Current)) (s t : Speech) (place moment : ℕ) (why : StepWord) (cur : Current)
    → IsWorld w → (n ≤ 4294967295 → place ≡ n) → slice_get currents n ≡ Some (Some cur) → Says s t (answer_of place moment why cur h)
    → AreToldTo n first before w h currents s → AreToldTo (n + 1) first before w h currents t
told_on n first before w h currents s t place moment why cur world number there says to =
    record {
      written = written_on before s t l says to.written;
      lines = of_places_on first s t l says to.lines (subst (IsPlace first) (sym here) is_place);
      told = λ c is below. subst (λ (ls : List Line). IsTold h ls c) (sym says.lines) (by_case c is below (same_or_other c n));
      each = λ c is at. subst (λ (ls : List Line). HasSeat w h ls currents c) (sym says.lines) (later c is at);
      only = to.only;
    }
  where
    a : AnswerHead
    a = record { place = place; step = Some cur.number; moment = moment; word = why }

    rs : List Reply
    rs = replies_at h cur.stamps.items

    l : Line
    l = Answer a rs

    is_place : IsPlace first n
    is_place = to.only n cur there

    had : HasSeat w h s.lines currents n
    had = to.each n is_place (omega arith)

    here : place ≡ n
    here = number (omega (arith, had.seat.known, leb-true (length w.scripts) 32 world.few_scripts))

    seat : IsSeat w h s.lines n (Some cur)
    seat = subst (IsSeat w h s.lines n) (same_Some had.current (Some cur) (sym had.is ∙ there)) had.seat

    said : IsAnswered h (s.lines ++ l ∷ []) n cur.number
    said = answered w h s.lines l n cur (replies_here a rs n here) (numbers_here a rs n here) seat

    by_case : (c : ℕ) → IsPlace first c → c < n + 1 → (c ≡ n) ⊎ (c ≡ n → ⊥) → IsTold h (s.lines ++ l ∷ []) c
    by_case c is below (inl at) = subst (IsTold h (s.lines ++ l ∷ [])) (sym at) (record { replies = said.replies; steps = suc cur.number; numbers = said.numbers })
    by_case c is below (inr other) =
        let told : IsTold h s.lines c = to.told c is (omega (arith, below, other)) in
        record {
          replies = replies_more s.lines l c ∙ (ap (λ (ys : List Reply). replies_in s.lines c ++ ys) (replies_other a rs c (λ at. other (sym at ∙ here)))
              ∙ (append-nil (replies_in s.lines c) ∙ told.replies));
          steps = told.steps;
          numbers = numbers_more s.lines l c ∙ (ap (λ (ys : List ℕ). numbers_in s.lines c ++ ys) (numbers_other a rs c (λ at. other (sym at ∙ here)))
              ∙ (append-nil (numbers_in s.lines c) ∙ told.numbers));
        }

    later : (c : ℕ) → IsPlace first c → n + 1 ≤ c → HasSeat w h (s.lines ++ l ∷ []) currents c
    later c is at =
        let old : HasSeat w h s.lines currents c = to.each c is (omega (arith, at)) in
        record {
          current = old.current;
          is = old.is;
          seat = seat_said w h s.lines l c old.current (replies_other a rs c (λ same. omega (arith, same, here, at))) (numbers_other a rs c (λ same. omega (arith, same, here, at))) old.seat;
        }
