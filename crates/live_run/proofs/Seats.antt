-- What the lines say of one place stays true.
use Rattle.std.proofs.Common.{◌≡◌, ℕ, zero, suc, ◌+◌, ◌<◌, ◌==◌, Bool, true, false, List, [], ◌∷◌, ◌++◌, length, take, map, Option, Some, None, is_none, is_some, slice_get, Vec, Global, refl, sym, ap, subst, ◌∙◌, arith, add-one}
use Rattle.std.specs.Option.{option_map_or}
use Rattle.std.proofs.lemmas.Bool.{false≢true, ne_eqb}
use Rattle.std.proofs.lemmas.List.{append_assoc, append-nil, length-append}
use Rattle.std.proofs.lemmas.Option.{none-some, same_Some}
use Rattle.std.proofs.Math.Seq.{take-append_seam}
use Rattle.net_base.specs.declared.history.Entry.{Entry}
use Rattle.net_base.specs.declared.reply.Reply.{Reply}
use Rattle.net_base.specs.declared.world.Script.{Script}
use Rattle.net_base.specs.declared.world.Step.{Step}
use Rattle.net_base.specs.declared.world.World.{World}
use Rattle.net_base.specs.Callers.{Caller, IsScript, caller_of}
use Rattle.net_base.specs.Duties.{Duty}
use Rattle.net_base.specs.Legal.{IsAsked, IsLegal, MayFollow, asked_by, cites_of}
use Rattle.net_base.specs.Net.{after}
use Rattle.net_base.specs.Next.{is_unfinished, next_recorded, own_replies, place_next, zone_of}
use Rattle.net_base.specs.Steps.{Ask}
use Rattle.net_base.proofs.Shared.{script_is, there_at}
use Rattle.history_laws.proofs.Shared.{at_push}
use Rattle.grown_laws.specs.Grown.{grown, grown_scripts, longer}
use Rattle.live_lines.specs.declared.answer.AnswerHead.{AnswerHead}
use Rattle.live_lines.specs.declared.answer.StepWord.TheVariants as word
use Rattle.live_answers.specs.declared.current.Current.{Current}
use Rattle.live_answers.specs.Lines.{Answer, Line, numbers_in, numbers_of, replies_in, replies_of}
use Rattle.live_answers.specs.Steps.{IsNoted, own_stamp, removed_line, replies_at}
use Rattle.live_run.specs.Currents.{IsNotedIn, IsReplaced}
use Rattle.live_run.specs.Heard.{AreBelow, AreNumbered, AreWithin, IsSeat, numbers_below, replies_now, steps_in}
use Rattle.live_run.proofs.Late.{others_next}
use Rattle.live_run.proofs.Spoken.{below_both, below_more, now_stays, numbers_here, numbers_more, own_at, own_below, own_more, own_reply, replies_at_more, replies_here, replies_more, replies_stay, within_more}
use Rattle.live_run.proofs.Waits.{as_many, grown_here, grown_other, next_is, own_other}

-- The next event depends on the own replies.

pub next_stays : (w : World) (h k : List Entry) (c : ℕ) → c < length w.scripts → own_replies k c ≡ own_replies h c → next_recorded w k c ≡ next_recorded w h c
next_stays w h k c known same =
    let there = there_at w.scripts c known in
    next_is w k c there.0 there.1 ∙ (ap (place_next None (zone_of w) there.0) same ∙ sym (next_is w h c there.0 there.1))

longer_by_one : (h : List Entry) (x : Entry) → length (h ++ x ∷ []) ≡ suc (length h)
longer_by_one h x = length-append h (x ∷ []) ∙ add-one (length h)

-- An entry of another caller.

pub seat_other : (w : World) (h : List Entry) (ls : List Line) (c : ℕ) (o : Option Current) (x : Entry) → (x.caller ≡ c → ⊥) → IsSeat w h ls c o → IsSeat w (h ++ x ∷ []) ls c o
seat_other w h ls c o x other s =
    let same : own_replies (h ++ x ∷ []) c ≡ own_replies h c = own_other h c x (ne_eqb x.caller c other) in
    let more : length h < length (h ++ x ∷ []) = omega (arith, longer_by_one h x) in
    record {
      known = s.known;
      replies = ap (λ (rs : List Reply). replies_in ls c ++ rs) (now_stays h x o s.within) ∙ (s.replies ∙ sym same);
      within = within_more (length h) (length (h ++ x ∷ [])) o more s.within;
      numbers = s.numbers;
      free = λ none. next_stays w h (h ++ x ∷ []) c s.known same ∙ s.free none;
    }

-- An own entry of the caller, or a follow-up event.

asked_next : (ds : List Duty) (k : Caller) (ask : Option Ask) (x : Entry) (s : Script) → k ≡ IsScript s → x.cites ≡ cites_of ds → x.cites ≡ None → IsAsked ds k ask x
    → ask ≡ Some (asked_by x)
asked_next [] k ask x s script cites none asked = subst (λ (j : Caller). IsAsked [] j ask x) script asked
asked_next (d ∷ ds) k ask x s script cites none asked = absurd (none-some d.cites (sym none ∙ cites))

-- a script without a next event records no own entry
never_own : (w : World) (h : List Entry) (c : ℕ) (x : Entry) → c < length w.scripts → MayFollow w h x → x.caller ≡ c → next_recorded w h c ≡ None → x.cites ≡ None → ⊥
never_own w h c x known may caller none own =
    let there = there_at w.scripts c known in
    let asked : next_recorded w h x.caller ≡ Some (asked_by x) =
    asked_next ((after w h).owed x.caller) (caller_of w x.caller) (next_recorded w h x.caller) x there.0 (ap (caller_of w) caller ∙ script_is w c there.0 there.1) may.cites own may.is_asked in
    none-some (asked_by x) (sym none ∙ (ap (next_recorded w h) (sym caller) ∙ asked))

no_more : (o : Option ℕ) (r : Reply) → (o ≡ None → ⊥) → own_reply o r ≡ []
no_more None r never = absurd (never refl)
no_more (Some k) r never = refl

pub seat_noted : (w : World) (h : List Entry) (ls : List Line) (c : ℕ) (o p : Option Current) (x : Entry) → x.caller ≡ c → MayFollow w h x → IsNotedIn (length h) x o p
    → IsSeat w h ls c o → IsSeat w (h ++ x ∷ []) ls c p
seat_noted w h ls c None p x caller may noted s =
    let none : own_reply x.cites x.reply ≡ [] = no_more x.cites x.reply (never_own w h c x s.known may caller (s.free refl)) in
    let same : own_replies (h ++ x ∷ []) c ≡ own_replies h c =
    own_more h c x caller ∙ (ap (λ (rs : List Reply). own_replies h c ++ rs) none ∙ append-nil (own_replies h c)) in
    let made : IsSeat w (h ++ x ∷ []) ls c None =
    record {
      known = s.known;
      replies = s.replies ∙ sym same;
      within = tt;
      numbers = s.numbers;
      free = λ is. next_stays w h (h ++ x ∷ []) c s.known same ∙ s.free refl;
    } in
    subst (IsSeat w (h ++ x ∷ []) ls c) (sym noted) made
seat_noted w h ls c (Some old) None x caller may noted s = absurd noted
seat_noted w h ls c (Some old) (Some new) x caller may noted s =
    let k : List Entry = h ++ x ∷ [] in
    let own : List ℕ = own_stamp (is_none x.cites) (length h) in
    let now : replies_at k new.stamps.items ≡ replies_at h old.stamps.items ++ own_reply x.cites x.reply =
    ap (replies_at k) noted.stamps ∙ (replies_at_more k old.stamps.items own
    ∙ (ap (λ (rs : List Reply). rs ++ replies_at k own) (replies_stay h x old.stamps.items s.within)
    ∙ ap (λ (rs : List Reply). replies_at h old.stamps.items ++ rs) (own_at h x x.cites))) in
    let below : AreBelow (suc (length h)) (old.stamps.items ++ own) =
    below_both (suc (length h)) old.stamps.items own (below_more (length h) (suc (length h)) old.stamps.items (omega arith) s.within) (own_below (length h) x.cites) in
    record {
      known = s.known;
      replies = ap (λ (rs : List Reply). replies_in ls c ++ rs) now
          ∙ (sym (append_assoc (replies_in ls c) (replies_at h old.stamps.items) (own_reply x.cites x.reply))
          ∙ (ap (λ (rs : List Reply). rs ++ own_reply x.cites x.reply) s.replies ∙ sym (own_more h c x caller)));
      within = subst (λ (n : ℕ). AreBelow n new.stamps.items) (sym (longer_by_one h x)) (subst (AreBelow (suc (length h))) (sym noted.stamps) below);
      numbers = (s.numbers.0 ∙ ap numbers_below (sym noted.number), ap (λ (n : ℕ). n + 1) noted.number ∙ s.numbers.1);
      free = λ is. absurd (none-some new (sym is));
    }

-- A line about another place.

pub seat_said : (w : World) (h : List Entry) (ls : List Line) (l : Line) (c : ℕ) (o : Option Current) → replies_of l c ≡ [] → numbers_of l c ≡ [] → IsSeat w h ls c o
    → IsSeat w h (ls ++ l ∷ []) c o
seat_said w h ls l c o no_reply no_number s =
    let replies : replies_in (ls ++ l ∷ []) c ≡ replies_in ls c =
    replies_more ls l c ∙ (ap (λ (rs : List Reply). replies_in ls c ++ rs) no_reply ∙ append-nil (replies_in ls c)) in
    let numbers : numbers_in (ls ++ l ∷ []) c ≡ numbers_in ls c =
    numbers_more ls l c ∙ (ap (λ (ns : List ℕ). numbers_in ls c ++ ns) no_number ∙ append-nil (numbers_in ls c)) in
    record {
      known = s.known;
      replies = ap (λ (rs : List Reply). rs ++ replies_now h o) replies ∙ s.replies;
      within = s.within;
      numbers = numbered o s.numbers numbers;
      free = s.free;
    }
  where
    numbered : (q : Option Current) → AreNumbered w ls c q → numbers_in (ls ++ l ∷ []) c ≡ numbers_in ls c → AreNumbered w (ls ++ l ∷ []) c q
    numbered None old same = same ∙ old
    numbered (Some t) old same = (same ∙ old.0, old.1)

-- The answer of the current step of the place.

-- what the lines say then
pub record IsAnswered (h : List Entry) (ls : List Line) (c : ℕ) (number : ℕ) : Type 0 where
  pub replies : replies_in ls c ≡ own_replies h c
  pub numbers : numbers_in ls c ≡ numbers_below (suc number)

pub answered : (w : World) (h : List Entry) (ls : List Line) (l : Line) (c : ℕ) (s : Current) → replies_of l c ≡ replies_at h s.stamps.items → numbers_of l c ≡ s.number ∷ []
    → IsSeat w h ls c (Some s) → IsAnswered h (ls ++ l ∷ []) c s.number
answered w h ls l c s replies numbers seat =
    record {
      replies = replies_more ls l c ∙ (ap (λ (rs : List Reply). replies_in ls c ++ rs) replies ∙ seat.replies);
      numbers = numbers_more ls l c ∙ (ap (λ (ns : List ℕ). numbers_in ls c ++ ns) numbers ∙ ap (λ (ns : List ℕ). ns ++ s.number ∷ []) seat.numbers.0);
    }

not_some : (o : Option Ask) → is_some o ≡ false → o ≡ None
not_some None is = refl
not_some (Some a) is = absurd (false≢true (sym is))

module _ (exactly : (w : World) (h : List Entry) (c : ℕ) (s : Script) → slice_get w.scripts c ≡ Some s → is_some (next_recorded w h c) ≡ is_unfinished w h c s) where
  pub seat_taken : (w : World) (h : List Entry) (ls : List Line) (l : Line) (c : ℕ) (s : Current) → replies_of l c ≡ replies_at h s.stamps.items → numbers_of l c ≡ s.number ∷ []
      → ((t : Script) → slice_get w.scripts c ≡ Some t → is_unfinished w h c t ≡ false) → IsSeat w h ls c (Some s) → IsSeat w h (ls ++ l ∷ []) c None
  seat_taken w h ls l c s replies numbers through seat =
      let said : IsAnswered h (ls ++ l ∷ []) c s.number = answered w h ls l c s replies numbers seat in
      let there = there_at w.scripts c seat.known in
      record {
        known = seat.known;
        replies = append-nil (replies_in (ls ++ l ∷ []) c) ∙ said.replies;
        within = tt;
        numbers = said.numbers ∙ ap numbers_below (sym (add-one s.number) ∙ seat.numbers.1);
        free = λ is. not_some (next_recorded w h c) (exactly w h c there.0 there.1 ∙ through there.0 there.1);
      }

-- Another world.

pub seat_alike : (w v : World) (h : List Entry) (ls : List Line) (c : ℕ) (o : Option Current) → length v.scripts ≡ length w.scripts → slice_get v.scripts c ≡ slice_get w.scripts c
    → next_recorded v h c ≡ next_recorded w h c → IsSeat w h ls c o → IsSeat v h ls c o
seat_alike w v h ls c o count same next s =
    record {
      known = omega (arith, count, s.known);
      replies = s.replies;
      within = s.within;
      numbers = numbered o (ap (λ (t : Option Script). option_map_or (λ (u : Script). length u.steps) t 0) same) s.numbers;
      free = λ is. next ∙ s.free is;
    }
  where
    numbered : (q : Option Current) → steps_in v c ≡ steps_in w c → AreNumbered w ls c q → AreNumbered v ls c q
    numbered None steps old = old ∙ ap numbers_below (sym steps)
    numbered (Some t) steps old = (old.0, old.1 ∙ sym steps)

pub seat_grown : (w : World) (h : List Entry) (ls : List Line) (c d : ℕ) (o : Option Current) (more : List Step) → (c ≡ d → ⊥) → IsSeat w h ls c o → IsSeat (grown w d more) h ls c o
seat_grown w h ls c d o more other s =
    seat_alike w (grown w d more) h ls c o (as_many w.scripts d more) (grown_other w.scripts c d more other) (others_next w c d more other h) s

pub seat_regrown : (w : World) (h : List Entry) (ls : List Line) (c d : ℕ) (o : Option Current) (more others : List Step) → (c ≡ d → ⊥) → IsSeat (grown w d more) h ls c o
    → IsSeat (grown w d others) h ls c o
seat_regrown w h ls c d o more others other s =
    seat_alike (grown w d more) (grown w d others) h ls c o (as_many w.scripts d others ∙ sym (as_many w.scripts d more))
    (grown_other w.scripts c d others other ∙ sym (grown_other w.scripts c d more other)) (others_next w c d others other h ∙ sym (others_next w c d more other h)) s

-- the number of steps of the script that grew
steps_grown : (w : World) (c : ℕ) (s : Script) (more : List Step) → slice_get w.scripts c ≡ Some s → steps_in (grown w c more) c ≡ length s.steps + length more
steps_grown w c s more is =
    ap (λ (t : Option Script). option_map_or (λ (u : Script). length u.steps) t 0) (grown_here w.scripts c s more is) ∙ length-append s.steps more

steps_are : (w : World) (c : ℕ) (s : Script) → slice_get w.scripts c ≡ Some s → steps_in w c ≡ length s.steps
steps_are w c s is = ap (λ (t : Option Script). option_map_or (λ (u : Script). length u.steps) t 0) is

-- a step of the place begins
pub seat_begun : (w : World) (h : List Entry) (ls : List Line) (c : ℕ) (s : Step) (cur : Current) → cur.stamps.items ≡ [] → cur.number ≡ steps_in w c → IsSeat w h ls c None
    → IsSeat (grown w c (s ∷ [])) h ls c (Some cur)
seat_begun w h ls c s cur none number seat =
    let there = there_at w.scripts c seat.known in
    record {
      known = omega (arith, as_many w.scripts c (s ∷ []), seat.known);
      replies = ap (λ (ks : List ℕ). replies_in ls c ++ replies_at h ks) none ∙ seat.replies;
      within = subst (AreBelow (length h)) (sym none) tt;
      numbers = (seat.numbers ∙ ap numbers_below (sym number), ap (λ (n : ℕ). n + 1) (number ∙ steps_are w c there.0 there.1) ∙ sym (steps_grown w c there.0 (s ∷ []) there.1));
      free = λ is. absurd (none-some cur (sym is));
    }

-- `until` replaces the current step, the last one of the script
pub seat_replaced : (w : World) (h : List Entry) (ls : List Line) (c : ℕ) (s t : Step) (o p : Option Current) → c < length w.scripts → IsReplaced o p → (o ≡ None → ⊥)
    → IsSeat (grown w c (s ∷ [])) h ls c o → IsSeat (grown w c (t ∷ [])) h ls c p
seat_replaced w h ls c s t None p known replaced some seat = absurd (some refl)
seat_replaced w h ls c s t (Some old) None known replaced some seat = absurd replaced
seat_replaced w h ls c s t (Some old) (Some new) known replaced some seat =
    let there = there_at w.scripts c known in
    let steps : steps_in (grown w c (s ∷ [])) c ≡ steps_in (grown w c (t ∷ [])) c =
    steps_grown w c there.0 (s ∷ []) there.1 ∙ sym (steps_grown w c there.0 (t ∷ []) there.1) in
    record {
      known = omega (arith, as_many w.scripts c (t ∷ []), known);
      replies = ap (λ (v : Vec ℕ Global). replies_in ls c ++ replies_at h v.items) replaced.1 ∙ seat.replies;
      within = subst (λ (v : Vec ℕ Global). AreBelow (length h) v.items) (sym replaced.1) seat.within;
      numbers = (seat.numbers.0 ∙ ap numbers_below (sym replaced.0), ap (λ (n : ℕ). n + 1) replaced.0 ∙ (seat.numbers.1 ∙ steps));
      free = λ is. absurd (none-some new (sym is));
    }

abbrev removed_head : ℕ → AnswerHead
removed_head c = record { place = c; step = None; moment = 0; word = word.Cancelled }

-- the current step, the last one of the script, is removed
pub seat_removed : (w : World) (h : List Entry) (ls : List Line) (c : ℕ) (s : Step) (old : Current) → c < length w.scripts → next_recorded w h c ≡ None → old.stamps.items ≡ []
    → grown w c [] ≡ w → IsSeat (grown w c (s ∷ [])) h ls c (Some old) → IsSeat (grown w c []) h (ls ++ removed_line c ∷ []) c None
seat_removed w h ls c s old known none unheard bare seat =
    let there = there_at w.scripts c known in
    let number : suc old.number ≡ suc (length there.0.steps) =
    sym (add-one old.number) ∙ (seat.numbers.1 ∙ (steps_grown w c there.0 (s ∷ []) there.1 ∙ add-one (length there.0.steps))) in
    let steps : steps_in (grown w c []) c ≡ old.number = ap (λ (v : World). steps_in v c) bare ∙ (steps_are w c there.0 there.1 ∙ (omega (arith, number))) in
    record {
      known = omega (arith, as_many w.scripts c [], known);
      replies = append-nil (replies_in (ls ++ removed_line c ∷ []) c)
          ∙ (replies_more ls (removed_line c) c ∙ (ap (λ (rs : List Reply). replies_in ls c ++ rs) (replies_here (removed_head c) [] c refl)
          ∙ (sym (ap (λ (ks : List ℕ). replies_in ls c ++ replies_at h ks) unheard) ∙ seat.replies)));
      within = tt;
      numbers = numbers_more ls (removed_line c) c ∙ (ap (λ (ns : List ℕ). numbers_in ls c ++ ns) (numbers_here (removed_head c) [] c refl)
          ∙ (append-nil (numbers_in ls c) ∙ (seat.numbers.0 ∙ ap numbers_below (sym steps))));
      free = λ is. ap (λ (v : World). next_recorded v h c) bare ∙ none;
    }

-- more steps of which there are none
pub grown_none : (ss : List Script) (c : ℕ) → grown_scripts ss c [] ≡ ss
grown_none [] c = refl
grown_none (s ∷ ss) zero = ap (λ (xs : List Step). record s { steps = xs } ∷ ss) (append-nil s.steps)
grown_none (s ∷ ss) (suc c) = ap (λ (xs : List Script). s ∷ xs) (grown_none ss c)
