-- How many steps of the scripts are answered.
use Rattle.std.proofs.Common.{◌≡◌, ℕ, zero, suc, ◌+◌, ◌-◌, ◌<◌, ◌≤◌, ◌==◌, ◌⊎◌, inl, inr, Bool, true, false, not, List, [], ◌∷◌}
use Rattle.std.proofs.Common.{◌++◌, length, drop, filter, map, take, Option, Some, None, IfNone, IfSome, is_none, nat_lt, slice_get}
use Rattle.std.proofs.Common.{slice_index_or, sum_by, get_or, if◌then◌else◌, refl, ap, sym, subst, ◌∙◌, arith}
use Rattle.std.specs.List.{enumerate_from}
use Rattle.std.specs.Option.{option_map, option_map_or}
use Rattle.std.proofs.lemmas.List.{map-append, take_all, take_more}
use Rattle.std.proofs.lemmas.Bool.{lt-ltb}
use Rattle.std.proofs.lemmas.List.Sums.{sum_by-cons}
use Rattle.std.proofs.lemmas.Option.{none-some, same_Some}
use Rattle.net_base.specs.declared.history.Entry.{Entry}
use Rattle.net_base.specs.declared.noted.Number.TheVariants as number
use Rattle.net_base.specs.declared.reply.Reply.{Reply}
use Rattle.net_base.specs.declared.world.Script.{Script}
use Rattle.net_base.specs.declared.world.World.{World}
use Rattle.net_base.specs.Calm.{owes}
use Rattle.net_base.specs.Callers.{IsClock, IsScript, caller_of, other_caller}
use Rattle.net_base.specs.Duties.{Duty}
use Rattle.net_base.specs.Net.{after}
use Rattle.net_base.specs.Next.{answered, by, finished_by, own_replies, zone_of}
use Rattle.net_base.specs.Stamped.{In, entries_from, of_caller}
use Rattle.net_base.specs.Versions.{Tuples}
use Rattle.net_base.specs.Steps.{Names}
use Rattle.net_base.specs.Summary.{answered_by, answered_steps}
use Rattle.net_locks.specs.Works.{entries}
use Rattle.net_guests.proofs.Shared.{apart_test, last_or, owes_some, free_none}
use Rattle.host_net.proofs.Histories.{lists_are}
use Rattle.host_net.proofs.Joining.{get_index}
use Rattle.host_net.proofs.Seating.{get_seats, seats_long}
use Rattle.host_net.proofs.Standings.{no_script, seats_in}
use Rattle.host_net.proofs.Taking.{not_itself, visit_in, with_front}
use Rattle.host_net.specs.Answering.{AreAfter, CannotTell, CannotTellOf, CanTell, AreStepsAnswered, IsAnsweredOf}
use Rattle.host_net.specs.Groups.{FollowsDeal, Grouped, IsDealt, NotIn, Seats, all_callers, all_members, all_seats, caller, callers_in, callers_of}
use Rattle.host_net.specs.Groups.{members, seat_of, seats, visits, with_last}
use Rattle.host_net.specs.Playing.{IsCounted, Playing, replies_of}
use Rattle.net_guests.specs.Visits.{Visit}
use Rattle.net_base.proofs.Shared.{in_front, in_back, in_parts, there_at, next_one}

-- One player.

module _ {T : Type 0} (Plays : Tuples → Script → List Reply → Names → T → Type 0) (w : World) (v : Visit) (t : T) (lost : Bool) (before : ℕ)
    (is : IsCounted Plays w v t lost before) where
  -- what is owed belongs to the step of its last own event
  pub answered_owing : not (length v.owed == 0) ≡ true → AreStepsAnswered w v before
  answered_owing some = λ s script. is.before_is s script ∙ sym (ap (λ (b : Bool). answered w (entries v.sight.seen) v.caller b s) some)

  pub answered_free : (n : ℕ) → lost ≡ false → not (length v.owed == 0) ≡ false
      → ((zone : Tuples) (s : Script) (rs : List Reply) (names : Names) → Plays zone s rs names t → n ≡ finished_by zone rs s) → AreStepsAnswered w v n
  answered_free n told none counts = λ s script.
      counts (zone_of w) s (replies_of v) v.names (is.plays s script told) ∙ sym (ap (λ (b : Bool). answered w (entries v.sight.seen) v.caller b s) none)

pub tells_owing : {T : Type 0} (p q : Playing T) → p ≡ q → p.counts ≡ true → not (length p.visit.owed == 0) ≡ true → CanTell q
tells_owing {T = T} p q same counts owes =
    subst (λ (x : Playing T). CanTell x) same (counts, inl (owes_some p.visit.owed owes))

pub tells_free : {T : Type 0} (p q : Playing T) → p ≡ q → p.counts ≡ true → p.lost ≡ false → CanTell q
tells_free {T = T} p q same counts told = subst (λ (x : Playing T). CanTell x) same (counts, inr told)

pub tells_nothing : {T : Type 0} (p q : Playing T) → p ≡ q → p.counts ≡ false → CannotTell q
tells_nothing {T = T} p q same counts = subst (λ (x : Playing T). CannotTell x) same (inl counts)

pub tells_lost : {T : Type 0} (p q : Playing T) → p ≡ q → not (length p.visit.owed == 0) ≡ false → p.lost ≡ true → CannotTell q
tells_lost {T = T} p q same owes lost =
    subst (λ (x : Playing T). CannotTell x) same (inr (free_none p.visit.owed owes, lost))

-- A history in which it has what it knows.

by_listed : (c n : ℕ) (h : List Entry) → by h c ≡ map (λ (y : ℕ × Entry). y.1) (entries_from (number.Caller c) n h)
by_listed c n [] = refl
by_listed c n (x ∷ h) = by_test (by_listed c (n + 1) h) (x.caller == c)
  where
    by_test : by h c ≡ map (λ (y : ℕ × Entry). y.1) (entries_from (number.Caller c) (n + 1) h) → (b : Bool) → (if b then x ∷ by h c else by h c)
        ≡ map (λ (y : ℕ × Entry). y.1) (if b then (n, x) ∷ entries_from (number.Caller c) (n + 1) h else entries_from (number.Caller c) (n + 1) h)
    by_test rest true = ap (λ (l : List Entry). x ∷ l) rest
    by_test rest false = rest

same_by : (c : ℕ) (h k : List Entry) → of_caller c h ≡ of_caller c k → by h c ≡ by k c
same_by c h k same = by_listed c 0 h ∙ (ap (map (λ (y : ℕ × Entry). y.1)) same ∙ sym (by_listed c 0 k))

same_owes : (ds : List Duty) → nat_lt 0 (length ds) ≡ not (length ds == 0)
same_owes [] = refl
same_owes (d ∷ ds) = lt-ltb 0 (length (d ∷ ds)) (omega arith) ∙ sym (ap not (apart_test (length (d ∷ ds)) 0 (λ e. omega (arith, e))))

-- the replies that it knows are those of the history
pub replies_after : (w : World) (vs : List Visit) (h : List Entry) (v : Visit) → AreAfter w vs h → In v vs
    → own_replies h v.caller ≡ own_replies (entries v.sight.seen) v.caller
replies_after w vs h v are there =
    ap (λ (es : List Entry). map (λ (x : Entry). x.reply) (filter (λ (x : Entry). is_none x.cites) es))
    (same_by v.caller h (entries v.sight.seen) (are.lists v there ∙ sym (lists_are v.caller v.sight.seen)))

-- as many steps of its script are answered in the history
pub answered_in : (w : World) (vs : List Visit) (h : List Entry) (v : Visit) (n : ℕ) (s : Script) → AreAfter w vs h → In v vs → AreStepsAnswered w v n
    → caller_of w v.caller ≡ IsScript s → n ≡ answered_by w h (v.caller, s)
answered_in w vs h v n s are there is script =
    let owing : owes (after w h) v.caller ≡ not (length v.owed == 0) =
    same_owes ((after w h).owed v.caller) ∙ ap (λ (ds : List Duty). not (length ds == 0)) (are.owes v there) in
    let replies : own_replies h v.caller ≡ own_replies (entries v.sight.seen) v.caller = replies_after w vs h v are there in
    is s script ∙ (ap (λ (b : Bool). answered w (entries v.sight.seen) v.caller b s) (sym owing) ∙ by_owes replies (owes (after w h) v.caller))
  where
    by_owes : own_replies h v.caller ≡ own_replies (entries v.sight.seen) v.caller → (b : Bool) → answered w (entries v.sight.seen) v.caller b s
        ≡ answered w h v.caller b s
    by_owes replies true = ap (λ (rs : List Reply). finished_by (zone_of w) (take (length rs - 1) rs) s) (sym replies)
    by_owes replies false = ap (λ (rs : List Reply). finished_by (zone_of w) rs s) (sym replies)

-- Rows of scripts.

-- the answered steps of the scripts from the n-th on
abbrev pub answered_from : World → List Entry → ℕ → ℕ
answered_from w h n = sum_by (answered_by w h) (enumerate_from n (drop n w.scripts))

answered_more : (w : World) (h : List Entry) (n : ℕ) (s : Script) → slice_get w.scripts n ≡ Some s
    → answered_from w h n ≡ answered_by w h (n, s) + answered_from w h (n + 1)
answered_more w h n s is =
    ap (λ (xs : List Script). sum_by (answered_by w h) (enumerate_from n xs)) (next_one w.scripts n s is)
    ∙ sum_by-cons (answered_by w h) (n, s) (enumerate_from (n + 1) (drop (n + 1) w.scripts))

-- so many are answered before the n-th, whatever the history
abbrev pub AnswersTo : World → List Visit → ℕ → ℕ → Type 0
AnswersTo w vs n a = (h : List Entry) → AreAfter w vs h → a + answered_from w h n ≡ answered_steps w h

pub answers_next : {T : Type 0} (w : World) (ps : List (Playing T)) (n a x : ℕ) → n < length w.scripts → IsAnsweredOf w n ps x
    → AnswersTo w (visits ps) n a → AnswersTo w (visits ps) (n + 1) (a + x)
answers_next w ps n a x lt is all = λ h are.
    let s = there_at w.scripts n lt in
    let script : caller_of w n ≡ IsScript s.0 =
    ap (λ (o : Option Script). option_map_or (λ (z : Script). IsScript z) o (other_caller w n)) s.1 in
    let one : x ≡ answered_by w h (n, s.0) =
    subst (λ (c : ℕ). x ≡ answered_by w h (c, s.0)) is.2
    (answered_in w (visits ps) h is.0.visit x s.0 are (visit_in is.0 ps is.1) is.3 (ap (caller_of w) is.2 ∙ script)) in
    omega (arith, all h are, one, answered_more w h n s.0 s.1)

-- The player of a script.

not_both : (c : ℕ) (xs ys : List ℕ) → NotIn c xs → NotIn c ys → NotIn c (xs ++ ys)
not_both c [] ys one two = two
not_both c (x ∷ xs) ys one two = (one.0, not_both c xs ys one.1 two)

-- a caller stands at some place
abbrev Placed : List Seats → ℕ → Type 0
Placed ss c = (k : ℕ) × (s : Seats) × (slice_get ss k ≡ Some s) × In c (callers_in s)

place_of : (ss : List Seats) (c : ℕ) → In c (all_callers ss) → Placed ss c
place_of [] c none = absurd none
place_of (s ∷ ss) c there = which (λ behind. place_of ss c behind) (in_parts c (callers_in s) (all_callers ss) there)
  where
    which : (In c (all_callers ss) → Placed ss c) → In c (callers_in s) ⊎ In c (all_callers ss) → Placed (s ∷ ss) c
    which rest (inl here) = (0, s, refl, here)
    which rest (inr behind) = let r = rest behind in (suc r.0, r.1, r.2, r.3)

module _ {T : Type 0} where
  got_in : (ps : List (Playing T)) (i : ℕ) (p d : Playing T) → i < length ps → p ≡ get_or ps i d → In p ps
  got_in [] i p d lt is = absurd (omega (arith, lt))
  got_in (x ∷ ps) zero p d lt is = inl is
  got_in (x ∷ ps) (suc i) p d lt is = inr (got_in ps i p d (omega (arith, lt)) is)

  -- the player of this place is one of these
  pub found_here : (ps : List (Playing T)) (i : ℕ) (p : Playing T) → i < length ps → p ≡ get_or ps i p → In p ps
  found_here ps i p lt is = got_in ps i p p lt is

  -- it isn't the caller's
  pub none_yet : (c : ℕ) (ps : List (Playing T)) (i : ℕ) (p : Playing T) → i < length ps → p ≡ get_or ps i p → NotIn c (callers_of (take i ps))
      → (caller p ≡ c → ⊥)
      → NotIn c (callers_of (take (i + 1) ps))
  none_yet c ps i p lt is none other =
      subst (λ (l : List (Playing T)). NotIn c (callers_of l)) (sym (take_more ps i p lt ∙ ap (λ (x : Playing T). take i ps ++ x ∷ []) (sym is)))
      (subst (λ (l : List ℕ). NotIn c l) (sym (map-append caller (take i ps) (p ∷ [])))
      (not_both c (callers_of (take i ps)) (caller p ∷ []) none (apart_test c (caller p) (λ e. other (sym e)), tt)))

  -- so it was there
  pub some_one : (c : ℕ) (ps : List (Playing T)) (i : ℕ) → length ps ≤ i → NotIn c (callers_of (take i ps)) → In c (callers_of ps) → ⊥
  some_one c ps i le none there = not_itself c (callers_of ps) (subst (λ (l : List (Playing T)). NotIn c (callers_of l)) (take_all i ps le) none) there

  -- the player of a script is one of its group
  pub script_here : (w : World) (n : ℕ) (gs : List (Grouped T)) → IsDealt w n (all_seats gs) → (deal : List ℕ) → FollowsDeal deal (all_seats gs)
      → (c : ℕ) (s : Script) → c < n → caller_of w c ≡ IsScript s
      → (k : ℕ) (g : Grouped T) → slice_get gs k ≡ Some g → k ≡ seat_of deal c (length gs) → In c (callers_of g.players)
  script_here w n gs dealt deal follows c s lt script k g there is =
      let placed = place_of (all_seats gs) c (dealt.callers.all c lt) in
      let at_k : placed.0 ≡ k = sym (follows placed.0 placed.1 c placed.2 placed.3) ∙ (ap (seat_of deal c) (seats_long gs) ∙ sym is) in
      let these : seats g ≡ placed.1 = same_Some (seats g) placed.1 (sym (get_seats gs k g there) ∙ (ap (slice_get (all_seats gs)) (sym at_k) ∙ placed.2)) in
      by_clock g.clock (dealt.seated (seats g) (seats_in gs k g there)).clock_is (subst (λ (x : Seats). In c (callers_in x)) (sym these) placed.3)
    where
      no_clock : (q : Playing T) → caller_of w (caller q) ≡ IsClock → In c (callers_of g.players) ⊎ (c ≡ caller q) → In c (callers_of g.players)
      no_clock q clock (inl here) = here
      no_clock q clock (inr same) = absurd (no_script w c s (ap (caller_of w) same ∙ clock) script)

      by_clock : (o : Option (Playing T)) → IfSome (option_map caller o) (λ (d : ℕ). caller_of w d ≡ IsClock)
          → In c (with_last (callers_of g.players) (option_map caller o)) → In c (callers_of g.players)
      by_clock None clock among = among
      by_clock (Some q) clock among = no_clock q clock (last_or c (callers_of g.players) (caller q) among)

  -- and one of all
  group_in : (gs : List (Grouped T)) (k : ℕ) (g : Grouped T) (p : Playing T) → slice_get gs k ≡ Some g → In p g.players → In p (all_members gs)
  group_in [] k g p there among = absurd (none-some g there)
  group_in (x ∷ gs) zero g p there among =
      in_front p (members x) (all_members gs)
      (with_front p x.players x.clock (subst (λ (y : Grouped T). In p y.players) (sym (same_Some x g there)) among))
  group_in (x ∷ gs) (suc k) g p there among = in_back p (members x) (all_members gs) (group_in gs k g p there among)

  pub group_at : (gs : List (Grouped T)) (k : ℕ) (g d : Grouped T) → k < length gs → g ≡ slice_index_or gs k d → slice_get gs k ≡ Some g
  group_at gs k g d lt is = get_index gs k d lt ∙ ap (λ (x : Grouped T). Some x) (sym is)

  -- what it tells is of the script
  pub found_in : (w : World) (c : ℕ) (gs : List (Grouped T)) (k : ℕ) (g : Grouped T) (p : Playing T) (o : Option ℕ) → slice_get gs k ≡ Some g → In p g.players
      → caller p ≡ c → IfSome o (AreStepsAnswered w p.visit) → IfSome o (λ (n : ℕ). IsAnsweredOf w c (all_members gs) n)
  found_in w c gs k g p None there among is answers = tt
  found_in w c gs k g p (Some n) there among is answers = (p, group_in gs k g p there among, is, answers)

  -- and if it can't tell, the script's player can't
  pub none_in : (c : ℕ) (gs : List (Grouped T)) (k : ℕ) (g : Grouped T) (p : Playing T) (o : Option ℕ)
      → slice_get gs k ≡ Some g → In p g.players → caller p ≡ c → IfNone o (CannotTell p)
      → IfNone o (CannotTellOf c (all_members gs))
  none_in c gs k g p None there among is cannot = (p, group_in gs k g p there among, is, cannot)
  none_in c gs k g p (Some n) there among is cannot = tt
