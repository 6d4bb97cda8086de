-- When conversations are due, from what was known of it before and a view of those at which something was recorded since.
use Rattle.std.proofs.Common.{◌≡◌, ℕ, zero, suc, ◌+◌, ◌<◌, ◌≤◌, ◌==◌, ◌&&◌, ◌||◌, inl, inr, Bool, true, false, List, [], ◌∷◌, ◌++◌, filter_map, length, take, drop, get_or, nat_le, Option, Some, None, if◌then◌else◌, refl, ap, sym, subst, ◌∙◌, arith, append_assoc, append-nil}
use Rattle.std.specs.List.{cons_option}
use Rattle.std.specs.Option.{option_map}
use Rattle.std.proofs.lemmas.Bool.{true≢false}
use Rattle.std.proofs.lemmas.Bool.Decides.{nat_tests}
use Rattle.std.proofs.lemmas.List.{at_drop_more, length-append, take_more, take-append-drop, take-append-le, take_all}
use mathlib.Core.List.{IsPrefix}
use Rattle.net_base.specs.declared.timer.Timers.{Timers}
use Rattle.net_base.specs.declared.actor.ActorName.{ActorName}
use Rattle.net_base.specs.declared.actor.ActorName.TheVariants as name
use Rattle.net_base.specs.declared.address.Proto.{Proto}
use Rattle.net_base.specs.declared.address.Proto.TheVariants as proto
use Rattle.net_base.specs.declared.noted.Noted.{Noted}
use Rattle.net_base.specs.declared.noted.Number.TheVariants as number
use Rattle.net_base.specs.declared.world.World.{World}
use Rattle.net_base.specs.ActorStep.{Step}
use Rattle.net_base.specs.Actors.{Actor, has_actor, opening_actor}
use Rattle.net_base.specs.Duties.{conversations, due_of, generation_of}
use Rattle.net_base.specs.Net.{Net}
use Rattle.net_base.specs.Stamped.{In, at, at_from, same_actor}
use Rattle.journal.specs.declared.tokens.Sight.{Sight}
use Rattle.duties.specs.declared.due.Due.{Due}
use Rattle.duties.specs.Ticking.{due_at, dues_of}
use Rattle.duties.specs.Marks.{Covers, is_marked_among, is_conversation}
use Rattle.duties.specs.Places.{AreOwnPlaces, conversation_place, put_at}
use Rattle.net_locks.specs.Works.{next_noted, noted_after, noted_net, step_by}
use Rattle.journal.specs.declared.law.Roster.{Roster}
use Rattle.journal.specs.Rule.{Lawful}
use Rattle.net_locks.specs.declared.calendar.Calendar.{Calendar}
use Rattle.net_locks.specs.declared.clock.Standing.{Standing}
use Rattle.net_locks.specs.Knowing.{AreMixed, IsKnown, all_touched, due_from, have_told, mixed, touched_count}
use Rattle.net_base.proofs.Shared.{number_itself}

-- Lists.

same_map : {A B : Type 0} (f g : A → Option B) (xs : List A) → ((x : A) → In x xs → f x ≡ g x) → filter_map f xs ≡ filter_map g xs
same_map f g [] same = refl
same_map f g (x ∷ xs) same =
    ap (λ (o : Option _). cons_option o (filter_map f xs)) (same x (inl refl))
    ∙ ap (cons_option (g x)) (same_map f g xs (λ y there. same y (inr there)))

none_map : {A B : Type 0} (f : A → Option B) (xs : List A) → ((x : A) → f x ≡ None) → filter_map f xs ≡ []
none_map f [] none = refl
none_map f (x ∷ xs) none = ap (λ (o : Option _). cons_option o (filter_map f xs)) (none x) ∙ none_map f xs none

-- Later entries.

module _ (w : World) where
  -- what is known is known after more entries
  pub known_on : (log log' : List Noted) (k : Calendar) → IsPrefix log log' → IsKnown w log k → IsKnown w log' k
  known_on log log' k before is = record {
    within = omega (arith, is.within, ap length before.1, length-append log before.0);
    dues_are = is.dues_are
        ∙ ap (λ (l : List Noted). dues_of w (noted_net w l).actors)
        (sym (ap (take k.at) (sym before.1) ∙ take-append-le k.at log before.0 is.within));
  }

  pub known_as : (log log' : List Noted) (k k' : Calendar) → log' ≡ log → k'.at ≡ k.at → k'.dues.list ≡ k.dues.list → IsKnown w log k → IsKnown w log' k'
  known_as log log' k k' same at dues is = record {
    within = omega (arith, at, ap length same, is.within);
    dues_are = dues
        ∙ (is.dues_are
        ∙ ap (λ (l : List Noted). dues_of w (noted_net w l).actors) (ap (λ (n : ℕ). take n log) (sym at) ∙ ap (take k'.at) (sym same)));
  }

  -- all of it
  pub known_now : (log : List Noted) (k : Calendar) → length log ≡ k.at → k.dues.list ≡ dues_of w (noted_net w log).actors → IsKnown w log k
  known_now log k at dues = record {
    within = omega (arith, at);
    dues_are = dues ∙ ap (λ (l : List Noted). dues_of w (noted_net w l).actors) (sym (take_all k.at log (omega (arith, at))));
  }

none_due : (timers : Timers) (a : ActorName) → due_at (opening_actor timers) a ≡ None
none_due timers (name.Conv h proto.Il n) = refl
none_due timers (name.Conv h proto.Udp n) = refl
none_due timers (name.Desk h) = refl
none_due timers (name.Dir h p) = refl
none_due timers (name.Medium m) = refl
none_due timers name.Clock = refl

none_first : {A : Type 0} (xs : List A) → take 0 xs ≡ []
none_first [] = refl
none_first (x ∷ xs) = refl

-- before the first entry nothing is due
pub known_first : (w : World) (log : List Noted) (k : Calendar) → k.at ≡ 0 → k.dues.list ≡ [] → IsKnown w log k
known_first w log k at dues = record {
  within = omega (arith, at);
  dues_are = dues
      ∙ (sym (none_map (due_at (opening_actor w.timers)) (conversations w) (none_due w.timers))
      ∙ ap (λ (l : List Noted). dues_of w (noted_net w l).actors) (sym (ap (λ (n : ℕ). take n log) at ∙ none_first log)));
}

-- One conversation more.

among_more : (as' : List ActorName) (a b : ActorName) → same_actor a b ≡ false → is_marked_among (as' ++ a ∷ []) b ≡ is_marked_among as' b
among_more [] a b other = ap (λ (t : Bool). t || false) other
among_more (k ∷ as') a b other = ap (λ (t : Bool). same_actor k b || t) (among_more as' a b other)

among_last : (as' : List ActorName) (a : ActorName) → same_actor a a ≡ true → is_marked_among (as' ++ a ∷ []) a ≡ true
among_last [] a is = ap (λ (t : Bool). t || false) is
among_last (k ∷ as') a is = by_test (same_actor k a) (among_last as' a is)
  where
    by_test : (t : Bool) → is_marked_among (as' ++ a ∷ []) a ≡ true → (t || is_marked_among (as' ++ a ∷ []) a) ≡ true
    by_test true rest = refl
    by_test false rest = rest

by_among : (s t : Bool) (o u : Option Due) → s ≡ t → (if s then o else u) ≡ (if t then o else u)
by_among s t o u same = ap (λ (b : Bool). if b then o else u) same

own_at : (actors : ActorName → Actor) → AreOwnPlaces (due_at actors)
own_at actors (name.Conv h p n) d is = by_due (due_of (actors (name.Conv h p n))) is
  where
    by_due : (o : Option ℕ) → option_map (due_from h p n (generation_of (actors (name.Conv h p n)))) o ≡ Some d → name.Conv h p n ≡ name.Conv d.host d.proto d.slot
    by_due None gives = absurd (cc)
    by_due (Some m) gives = cc (gives)
own_at actors (name.Desk h) d is = absurd (cc (is))
own_at actors (name.Dir h p) d is = absurd (cc (is))
own_at actors (name.Medium m) d is = absurd (cc (is))
own_at actors name.Clock d is = absurd (cc (is))

-- a test decides which actors are the same
abbrev pub AreEqual : Type 0
AreEqual = (a b : ActorName) → same_actor a b ≡ true → a ≡ b

apart : AreEqual → (a b : ActorName) → (a ≡ b → ⊥) → same_actor a b ≡ false
apart equal a b other = by_test (same_actor a b) refl
  where
    by_test : (t : Bool) → same_actor a b ≡ t → same_actor a b ≡ false
    by_test true is = absurd (other (equal a b is))
    by_test false is = is

same_kind : (p : Proto) → Rattle.net_base.specs.Stamped.same_proto p p ≡ true
same_kind proto.Il = refl
same_kind proto.Udp = refl

module _ (w : World) (now old : ActorName → Actor) (as' : List ActorName) where
  own_mixed : AreOwnPlaces (mixed now old as')
  own_mixed a d is = by_test (is_marked_among as' a) is
    where
      by_test : (t : Bool) → (if t then due_at now a else due_at old a) ≡ Some d → a ≡ name.Conv d.host d.proto d.slot
      by_test true gives = own_at now a d gives
      by_test false gives = own_at old a d gives

  -- an actor that is none of the conversations
  pub none_more : (a : ActorName) → ((b : ActorName) → In b (conversations w) → same_actor a b ≡ false) → (ds : List Due) → AreMixed w now old as' ds
      → AreMixed w now old (as' ++ a ∷ []) ds
  none_more a other ds are =
      are ∙ same_map (mixed now old as') (mixed now old (as' ++ a ∷ [])) (conversations w)
      (λ b there. by_among (is_marked_among as' b) (is_marked_among (as' ++ a ∷ []) b) (due_at now b) (due_at old b) (sym (among_more as' a b (other b there))))

  -- or a conversation that was viewed
  pub one_more : (h : ℕ) (p : Proto) (n : ℕ) (ds ds' : List Due) (due : Option Due)
      → ((before after : ActorName → Option Due) → In (name.Conv h p n) (conversations w) → AreOwnPlaces before
      → ((b : ActorName) → same_actor (name.Conv h p n) b ≡ false → after b ≡ before b)
      → filter_map after (conversations w) ≡ put_at (conversation_place h p n) (after (name.Conv h p n)) (filter_map before (conversations w)))
      → In (name.Conv h p n) (conversations w) → due ≡ due_at now (name.Conv h p n) → ds' ≡ put_at (conversation_place h p n) due ds
      → AreMixed w now old as' ds → AreMixed w now old (as' ++ name.Conv h p n ∷ []) ds'
  one_more h p n ds ds' due law there told put are =
      put
      ∙ (ap (λ (o : Option Due). put_at (conversation_place h p n) o ds) (told ∙ sym here)
      ∙ (ap (put_at (conversation_place h p n) (mixed now old (as' ++ name.Conv h p n ∷ []) (name.Conv h p n))) are
      ∙ sym (law (mixed now old as') (mixed now old (as' ++ name.Conv h p n ∷ [])) there own_mixed
      (λ b other. by_among (is_marked_among (as' ++ name.Conv h p n ∷ []) b) (is_marked_among as' b) (due_at now b) (due_at old b) (among_more as' (name.Conv h p n) b other)))))
    where
      same_number : (k : ℕ) → (k == k) ≡ true
      same_number k = grind (arith, nat_tests)

      both : (s t : Bool) → s ≡ true → t ≡ true → (s && t) ≡ true
      both s t one two = ap (λ (b : Bool). b && t) one ∙ two

      itself : same_actor (name.Conv h p n) (name.Conv h p n) ≡ true
      itself = both _ _ (both _ _ (same_number h) (same_kind p)) (same_number n)

      here : mixed now old (as' ++ name.Conv h p n ∷ []) (name.Conv h p n) ≡ due_at now (name.Conv h p n)
      here = ap (λ (b : Bool). if b then due_at now (name.Conv h p n) else due_at old (name.Conv h p n)) (among_last as' (name.Conv h p n) itself)

-- an actor that the world hasn't is none of them
pub none_there : (w : World) (now old : ActorName → Actor) (as' : List ActorName) → AreEqual → (a : ActorName) → has_actor w a ≡ false
    → ((b : ActorName) → In b (conversations w) → (h : ℕ) × (p : Proto) × (n : ℕ) × (b ≡ name.Conv h p n) × (has_actor w b ≡ true))
    → (ds : List Due) → AreMixed w now old as' ds → AreMixed w now old (as' ++ a ∷ []) ds
none_there w now old as' equal a none only ds are =
    none_more w now old as' a
    (λ b there. apart equal a b (λ same. true≢false (sym (only b there).4 ∙ (ap (has_actor w) (sym same) ∙ none)))) ds are

-- what a view says of a conversation
pub told_due : (actors : ActorName → Actor) (h : ℕ) (p : Proto) (n g : ℕ) (due : Option ℕ) → due ≡ due_of (actors (name.Conv h p n))
    → g ≡ generation_of (actors (name.Conv h p n)) → option_map (due_from h p n g) due ≡ due_at actors (name.Conv h p n)
told_due actors h p n g due is gen =
    ap (λ (o : Option ℕ). option_map (due_from h p n g) o) is
    ∙ ap (λ (k : ℕ). option_map (due_from h p n k) (due_of (actors (name.Conv h p n)))) gen

-- one caller more
touched_parts : (xs : List Standing) (s : Standing) → all_touched (xs ++ s ∷ []) ≡ all_touched xs ++ s.touched.actors
touched_parts [] s = append-nil s.touched.actors
touched_parts (x ∷ xs) s =
    ap (λ (l : List ActorName). x.touched.actors ++ l) (touched_parts xs s) ∙ sym (append_assoc x.touched.actors (all_touched xs) s.touched.actors)

-- what is mixed stays so where the sight and the names are the same
pub mixed_on : (w : World) (old : ActorName → Actor) (p q : Sight) (as' bs : List ActorName) (ds : List Due) → AreMixed w (noted_net w q.seen).actors old as' ds → q ≡ p → as' ≡ bs
    → AreMixed w (noted_net w p.seen).actors old bs ds
mixed_on w old p q as' bs ds are sight names =
    subst (λ (s : Sight). AreMixed w (noted_net w s.seen).actors old bs ds) sight (subst (λ (l : List ActorName). AreMixed w (noted_net w q.seen).actors old l ds) names are)

pub touched_next : (ss : List Standing) (i : ℕ) (s : Standing) → i < length ss → s ≡ get_or ss i s
    → all_touched (take (i + 1) ss) ≡ all_touched (take i ss) ++ s.touched.actors
touched_next ss i s lt is =
    ap all_touched (take_more ss i s lt) ∙ (touched_parts (take i ss) (get_or ss i s) ∙ ap (λ (x : Standing). all_touched (take i ss) ++ x.touched.actors) (sym is))

pub all_touched_all : (ss : List Standing) (i : ℕ) → length ss ≤ i → all_touched (take i ss) ≡ all_touched ss
all_touched_all ss i le = ap all_touched (take_all i ss le)

pub count_next : (ss : List Standing) (i : ℕ) (s : Standing) → i < length ss → s ≡ get_or ss i s
    → touched_count (drop i ss) ≡ length s.touched.actors + touched_count (drop (i + 1) ss)
count_next ss i s lt is =
    at_drop_more touched_count ss i s lt ∙ ap (λ (x : Standing). length x.touched.actors + touched_count (drop (i + 1) ss)) (sym is)

-- What didn't change.

length_taken : (n : ℕ) (l : List Noted) → n ≤ length l → n ≤ length (take n l)
length_taken zero l le = omega arith
length_taken (suc n) [] le = absurd (omega (arith, le))
length_taken (suc n) (x ∷ l) le = omega (arith, length_taken n l (omega (arith, le)))

actors_still : (w : World) (net : Net) (x : Noted) (b : ActorName) → same_actor x.entry.actor b ≡ false → (next_noted w net x).actors b ≡ net.actors b
actors_still w net x b other = by_step (step_by w net x)
  where
    by_step : (o : Option (Step Actor)) → (noted_after w net x o).actors b ≡ net.actors b
    by_step None = refl
    by_step (Some s) = ap (λ (t : Bool). if t then s.state else net.actors b) other

-- an entry stands among those of its caller
stands_in : (n : ℕ) (past : List Noted) (x : Noted) (xs : List Noted) → In (n + length past, x) (at_from (number.Caller x.entry.caller) n (past ++ x ∷ xs))
stands_in n [] x xs =
    subst (λ (t : Bool). In (n + 0, x) (if t then (n, x) ∷ at_from (number.Caller x.entry.caller) (n + 1) xs else at_from (number.Caller x.entry.caller) (n + 1) xs))
    (sym (number_itself x.entry.caller)) (inl (ap (λ (k : ℕ). (k, x)) {x = n + 0} {y = n} (omega arith)))
stands_in n (y ∷ past) x xs =
    by_test (y.entry.caller == x.entry.caller)
    (subst (λ (k : ℕ). In (k, x) (at_from (number.Caller x.entry.caller) (n + 1) (past ++ x ∷ xs))) {x = n + 1 + length past} (omega arith) (stands_in (n + 1) past x xs))
  where
    by_test : (t : Bool) → In (n + suc (length past), x) (at_from (number.Caller x.entry.caller) (n + 1) (past ++ x ∷ xs))
        → In (n + suc (length past), x) (if t then (n, y) ∷ at_from (number.Caller x.entry.caller) (n + 1) (past ++ x ∷ xs) else at_from (number.Caller x.entry.caller) (n + 1) (past ++ x ∷ xs))
    by_test true rest = inr rest
    by_test false rest = rest

among_front : (xs ys : List ActorName) (a : ActorName) → is_marked_among xs a ≡ true → is_marked_among (xs ++ ys) a ≡ true
among_front [] ys a is = absurd (true≢false (sym is))
among_front (k ∷ xs) ys a is = by_test (same_actor k a) is (among_front xs ys a)
  where
    by_test : (t : Bool) → (t || is_marked_among xs a) ≡ true → (is_marked_among xs a ≡ true → is_marked_among (xs ++ ys) a ≡ true) → (t || is_marked_among (xs ++ ys) a) ≡ true
    by_test true yes_ rest = refl
    by_test false yes_ rest = rest yes_

among_back : (xs ys : List ActorName) (a : ActorName) → is_marked_among ys a ≡ true → is_marked_among (xs ++ ys) a ≡ true
among_back [] ys a is = is
among_back (k ∷ xs) ys a is = by_test (same_actor k a) (among_back xs ys a is)
  where
    by_test : (t : Bool) → is_marked_among (xs ++ ys) a ≡ true → (t || is_marked_among (xs ++ ys) a) ≡ true
    by_test true rest = refl
    by_test false rest = rest

touched_in : (ss : List Standing) (s : Standing) (a : ActorName) → In s ss → is_marked_among s.touched.actors a ≡ true → is_marked_among (all_touched ss) a ≡ true
touched_in [] s a none is = absurd none
touched_in (t ∷ ss) s a (inl same) is =
    among_front t.touched.actors (all_touched ss) a (subst (λ (u : Standing). is_marked_among u.touched.actors a ≡ true) same is)
touched_in (t ∷ ss) s a (inr there) is = among_back t.touched.actors (all_touched ss) a (touched_in ss s a there is)

told_one : (at : ℕ) (ss : List Standing) (s : Standing) → have_told at ss ≡ true → In s ss → s.touched.since ≤ at
told_one at [] s told none = absurd none
told_one at (t ∷ ss) s told (inl same) = by_parts (nat_le t.touched.since at) refl told
  where
    by_parts : (b : Bool) → nat_le t.touched.since at ≡ b → (b && have_told at ss) ≡ true → s.touched.since ≤ at
    by_parts true is all = grind (arith, nat_tests, is, ap (λ (u : Standing). u.touched.since) same)
    by_parts false is all = absurd (true≢false (sym all))
told_one at (t ∷ ss) s told (inr there) = by_parts (nat_le t.touched.since at) told (λ rest. told_one at ss s rest there)
  where
    by_parts : (b : Bool) → (b && have_told at ss) ≡ true → (have_told at ss ≡ true → s.touched.since ≤ at) → s.touched.since ≤ at
    by_parts true all go = go all
    by_parts false all go = absurd (true≢false (sym all))

module _ (w : World) (r : Roster) (log : List Noted) (ss : List Standing) (from : ℕ) (equal : AreEqual)
    (covers : (s : Standing) → In s ss → Covers (at (number.Caller s.caller) log) s.touched)
    (all : (c : ℕ) → c < r.callers → (s : Standing) × In s ss × (s.caller ≡ c))
    (lawful : Lawful r log) (told : have_told from ss ≡ true)
    (grows : (past : List Noted) (x : Noted) → noted_net w (past ++ x ∷ []) ≡ next_noted w (noted_net w past) x) where
  -- an entry from the stamp on is at a conversation that was touched, if at one at all
  was_touched : (past : List Noted) (x : Noted) (xs : List Noted) → log ≡ past ++ x ∷ xs → from ≤ length past → is_conversation x.entry.actor ≡ true
      → is_marked_among (all_touched ss) x.entry.actor ≡ true
  was_touched past x xs is late conv =
      let s = all x.entry.caller (lawful past x xs is).caller in
      let mine : Covers (at (number.Caller x.entry.caller) log) s.0.touched =
      subst (λ (c : ℕ). Covers (at (number.Caller c) log) s.0.touched) s.2 (covers s.0 s.1) in
      let there : In (length past, x) (at (number.Caller x.entry.caller) log) =
      subst (λ (l : List Noted). In (length past, x) (at (number.Caller x.entry.caller) l)) (sym is)
      (subst (λ (k : ℕ). In (k, x) (at (number.Caller x.entry.caller) (past ++ x ∷ xs))) {x = 0 + length past} (omega arith) (stands_in 0 past x xs)) in
      touched_in ss s.0 x.entry.actor s.1 (mine.each (length past, x) there conv (omega (arith, late, told_one from ss s.0 told s.1)))

  -- so another conversation stands as it stood
  still : (b : ActorName) → is_conversation b ≡ true → is_marked_among (all_touched ss) b ≡ false
      → (past rest : List Noted) → log ≡ past ++ rest → from ≤ length past → (noted_net w log).actors b ≡ (noted_net w past).actors b
  still b conv other past [] is late = ap (λ (l : List Noted). (noted_net w l).actors b) (is ∙ append-nil past)
  still b conv other past (x ∷ rest) is late =
      still b conv other (past ++ x ∷ []) rest (is ∙ sym (append_assoc past (x ∷ []) rest)) (omega (arith, late, length-append past (x ∷ [])))
      ∙ (ap (λ (net : Net). net.actors b) (grows past x) ∙ actors_still w (noted_net w past) x b (apart equal x.entry.actor b not_this))
    where
      not_this : x.entry.actor ≡ b → ⊥
      not_this same = true≢false (
          sym (was_touched past x rest is late (ap is_conversation same ∙ conv)) ∙ (ap (is_marked_among (all_touched ss)) same ∙ other)
          )

  due_still : (b : ActorName) → (noted_net w log).actors b ≡ (noted_net w (take from log)).actors b
      → due_at (noted_net w (take from log)).actors b ≡ due_at (noted_net w log).actors b
  due_still (name.Conv h p n) same = ap (λ (a : Actor). option_map (due_from h p n (generation_of a)) (due_of a)) (sym same)
  due_still (name.Desk h) same = refl
  due_still (name.Dir h p) same = refl
  due_still (name.Medium m) same = refl
  due_still name.Clock same = refl

  one_still : (b : ActorName) → is_conversation b ≡ true → from ≤ length log
      → mixed (noted_net w log).actors (noted_net w (take from log)).actors (all_touched ss) b ≡ due_at (noted_net w log).actors b
  one_still b conv within = by_test (is_marked_among (all_touched ss) b) refl
    where
      by_test : (t : Bool) → is_marked_among (all_touched ss) b ≡ t
          → (if t then due_at (noted_net w log).actors b else due_at (noted_net w (take from log)).actors b) ≡ due_at (noted_net w log).actors b
      by_test true is = refl
      by_test false is =
          due_still b (still b conv is (take from log) (drop from log) (sym (take-append-drop from log)) (length_taken from log within))

  -- with all that was touched viewed, it's known when conversations are due
  pub caught_up : ((b : ActorName) → In b (conversations w) → (h : ℕ) × (p : Proto) × (n : ℕ) × (b ≡ name.Conv h p n) × (has_actor w b ≡ true))
      → from ≤ length log → (ds : List Due)
      → AreMixed w (noted_net w log).actors (noted_net w (take from log)).actors (all_touched ss) ds → ds ≡ dues_of w (noted_net w log).actors
  caught_up only within ds are =
      are ∙ same_map (mixed (noted_net w log).actors (noted_net w (take from log)).actors (all_touched ss)) (due_at (noted_net w log).actors) (conversations w)
      (λ b there. let one = only b there in one_still b (ap is_conversation one.3) within)
