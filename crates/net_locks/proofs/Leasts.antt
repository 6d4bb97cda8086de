-- The least moment, and when conversations are due.
use Rattle.std.proofs.Common.{◌≡◌, ℕ, ◌+◌, ◌<◌, ◌≤◌, ◌⊎◌, inl, inr, true, List, [], ◌∷◌, length, min, drop, get_or, option_to_list, Option, Some, None, refl, ap, sym, subst, ◌∙◌, arith}
use Rattle.std.specs.List.{cons_option}
use Rattle.std.specs.Option.{option_map}
use Rattle.std.proofs.Math.Nat.{min_comm}
use Rattle.std.proofs.lemmas.Bool.{cases_lt}
use Rattle.std.proofs.lemmas.List.{at_drop_more, drop_all}
use Rattle.net_base.specs.declared.actor.ActorName.{ActorName}
use Rattle.net_base.specs.declared.actor.ActorName.TheVariants as name
use Rattle.net_base.specs.declared.address.Proto.{Proto}
use Rattle.net_base.specs.declared.history.Entry.{Entry}
use Rattle.net_base.specs.declared.world.World.{World}
use Rattle.net_base.specs.Actors.{Actor, has_actor}
use Rattle.net_base.specs.Callers.{caller_count, caller_of}
use Rattle.net_base.specs.Calm.{awaited_moment, least, target_by}
use Rattle.net_base.specs.Duties.{conversations, due_of, generation_of}
use Rattle.net_base.specs.Net.{Net}
use Rattle.net_base.specs.Next.{next_of_by}
use Rattle.net_base.specs.Stamped.{In}
use Rattle.net_base.specs.Tasks.{Tasks}
use Rattle.history_laws.specs.Moments.{IsAwaited, IsDue}
use Rattle.journal.specs.declared.law.Roster.{Roster}
use Rattle.journal.specs.declared.tokens.Sight.{Sight}
use Rattle.duties.specs.declared.due.Due.{Due}
use Rattle.duties.specs.Ticking.{due_at, dues_of}
use Rattle.net_locks.specs.Works.{entries, noted_net}
use Rattle.net_locks.specs.declared.clock.Standing.{Standing}
use Rattle.net_locks.specs.Standings.{AllStand, StandsAt, standing_moments, awaited_of, moments_of_dues}
use Rattle.net_locks.proofs.Found.{filter_map_in, in_filter_map, in_map, map_in}
use Rattle.net_base.proofs.Shared.{least_min, within_last, within_each}

-- The least.

-- it is the last or one of them
one_of_them : (last : ℕ) (ms : List ℕ) → (least last ms ≡ last) ⊎ In (least last ms) ms
one_of_them last [] = inl refl
one_of_them last (m ∷ ms) = by_order (cases_lt m (least last ms)) (one_of_them last ms)
  where
    by_order : (m < least last ms) ⊎ (least last ms ≤ m) → (least last ms ≡ last) ⊎ In (least last ms) ms
        → (min m (least last ms) ≡ last) ⊎ ((min m (least last ms) ≡ m) ⊎ In (min m (least last ms)) ms)
    by_order (inl lt) rest = inr (inl (omega (arith, lt)))
    by_order (inr le) (inl is) = inl (omega (arith, le, is))
    by_order (inr le) (inr there) = inr (inr (subst (λ (k : ℕ). In k ms) (omega (arith, le)) there))

-- One more of a row.

pub due_next : (dues : List Due) (i now new last : ℕ) (d : Due) → i < length dues → new ≡ min now (get_or dues i d).due
    → least now (moments_of_dues (drop i dues)) ≡ least last (moments_of_dues dues) → least new (moments_of_dues (drop (i + 1) dues)) ≡ least last (moments_of_dues dues)
due_next dues i now new last d lt is all =
    ap (λ (m : ℕ). least m (moments_of_dues (drop (i + 1) dues))) (is ∙ min_comm now (get_or dues i d).due)
    ∙ (least_min now (get_or dues i d).due (moments_of_dues (drop (i + 1) dues))
    ∙ (sym (at_drop_more (λ (ds : List Due). least now (moments_of_dues ds)) dues i d lt) ∙ all))

pub due_all : (dues : List Due) (i now last : ℕ) → length dues ≤ i → least now (moments_of_dues (drop i dues)) ≡ least last (moments_of_dues dues) → now ≡ least last (moments_of_dues dues)
due_all dues i now last le all = ap (λ (ds : List Due). least now (moments_of_dues ds)) (sym (drop_all i dues le)) ∙ all

one_awaited : (now : ℕ) (o : Option ℕ) (ms : List ℕ) → least (least now (option_to_list o)) ms ≡ least now (cons_option o ms)
one_awaited now None ms = refl
one_awaited now (Some m) ms = least_min now m ms

pub awaited_next : (ss : List Standing) (i now new last : ℕ) (s : Standing) → i < length ss → s ≡ get_or ss i s → new ≡ least now (option_to_list (awaited_of s))
    → least now (standing_moments (drop i ss)) ≡ least last (standing_moments ss) → least new (standing_moments (drop (i + 1) ss)) ≡ least last (standing_moments ss)
awaited_next ss i now new last s lt at is all =
    ap (λ (m : ℕ). least m (standing_moments (drop (i + 1) ss))) (is ∙ ap (λ (t : Standing). least now (option_to_list (awaited_of t))) at)
    ∙ (one_awaited now (awaited_of (get_or ss i s)) (standing_moments (drop (i + 1) ss))
    ∙ (sym (at_drop_more (λ (l : List Standing). least now (standing_moments l)) ss i s lt) ∙ all))

pub awaited_all : (ss : List Standing) (i now last : ℕ) → length ss ≤ i → least now (standing_moments (drop i ss)) ≡ least last (standing_moments ss) → now ≡ least last (standing_moments ss)
awaited_all ss i now last le all = ap (λ (l : List Standing). least now (standing_moments l)) (sym (drop_all i ss le)) ∙ all

-- The target.

-- a conversation of the list is one
abbrev pub IsOne : World → ActorName → Type 0
IsOne w a = (h : ℕ) × (p : Proto) × (n : ℕ) × (a ≡ name.Conv h p n) × (has_actor w a ≡ true)

abbrev due_record : (ActorName → Actor) → ℕ → Proto → ℕ → ℕ → Due
due_record actors h p n due = record { host = h; proto = p; slot = n; generation = generation_of (actors (name.Conv h p n)); due = due }

due_there : (actors : ActorName → Actor) (a : ActorName) (m h : ℕ) (p : Proto) (n : ℕ) → a ≡ name.Conv h p n → due_of (actors a) ≡ Some m
    → due_at actors a ≡ Some (due_record actors h p n m)
due_there actors a m h p n is due =
    ap (due_at actors) is ∙ ap (option_map (due_record actors h p n)) (ap (λ (b : ActorName). due_of (actors b)) (sym is) ∙ due)

due_from : (actors : ActorName → Actor) (a : ActorName) (d : Due) (h : ℕ) (p : Proto) (n : ℕ) → a ≡ name.Conv h p n → due_at actors a ≡ Some d
    → due_of (actors a) ≡ Some d.due
due_from actors a d h p n is due =
    ap (λ (b : ActorName). due_of (actors b)) is ∙ by_due (due_of (actors (name.Conv h p n))) (sym (ap (due_at actors) is) ∙ due)
  where
    by_due : (o : Option ℕ) → option_map (due_record actors h p n) o ≡ Some d → o ≡ Some d.due
    by_due None gives = absurd (cc)
    by_due (Some m) gives = ap (option_map (λ (e : Due). e.due)) gives

module _ (w : World) (net : Net) (only : (a : ActorName) → In a (conversations w) → IsOne w a) where
  due_in : (m : ℕ) → IsDue w net m → In m (moments_of_dues (dues_of w net.actors))
  due_in m is =
      let one = only is.actor is.there in
      in_map (λ (d : Due). d.due) (dues_of w net.actors) (due_record net.actors one.0 one.1 one.2 m)
      (in_filter_map (due_at net.actors) (conversations w) is.actor (due_record net.actors one.0 one.1 one.2 m) is.there
      (due_there net.actors is.actor m one.0 one.1 one.2 one.3 is.due))

  in_due : (m : ℕ) → In m (moments_of_dues (dues_of w net.actors)) → IsDue w net m
  in_due m there =
      let d = map_in (λ (e : Due). e.due) (dues_of w net.actors) m there in
      let a = filter_map_in (due_at net.actors) (conversations w) d.0 d.1 in
      let one = only a.0 a.1 in
      record { actor = a.0; there = a.1; due = due_from net.actors a.0 d.0 one.0 one.1 one.2 one.3 a.2 ∙ ap (λ (k : ℕ). Some k) (sym d.2) }

module _ (ts : Tasks) (w : World) (r : Roster) (p : Sight) (ss : List Standing) (stand : AllStand ts w r p ss) (callers : r.callers ≡ caller_count w)
    (past : (noted_net w p.seen).past ≡ entries p.seen) where
  abbrev net : Net
  net = noted_net w p.seen

  awaits_so : (s : Standing) → StandsAt ts w r p s → awaited_moment (next_of_by ts w (caller_of w s.caller) net.past s.caller) ≡ awaited_of s
  awaits_so s st = ap (λ (h : List Entry). awaited_moment (next_of_by ts w (caller_of w s.caller) h s.caller)) past ∙ ap awaited_moment (sym st.next_is)

  awaited_in : (m : ℕ) → IsAwaited ts w net m → In m (standing_moments ss)
  awaited_in m is =
      let s = stand.all is.caller (subst (λ (n : ℕ). is.caller < n) (sym callers) is.known) in
      in_filter_map awaited_of ss s.0 m s.1
      (sym (awaits_so s.0 (stand.each s.0 s.1)) ∙ (ap (λ (c : ℕ). awaited_moment (next_of_by ts w (caller_of w c) net.past c)) s.2 ∙ is.awaits))

  in_awaited : (m : ℕ) → In m (standing_moments ss) → IsAwaited ts w net m
  in_awaited m there =
      let s = filter_map_in awaited_of ss m there in
      let st = stand.each s.0 s.1 in
      record { caller = s.0.caller; known = subst (λ (n : ℕ). s.0.caller < n) callers st.guest.known; awaits = awaits_so s.0 st ∙ s.2 }

  -- the least of these, the end moment among them, is the target
  pub target_is : ((a : ActorName) → In a (conversations w) → IsOne w a)
      → ((t : ℕ) → t ≤ w.end → ((m : ℕ) → IsDue w net m → t ≤ m) → ((m : ℕ) → IsAwaited ts w net m → t ≤ m) → (t ≡ w.end) ⊎ (IsDue w net t ⊎ IsAwaited ts w net t) → t ≡ target_by ts w net)
      → (dues : List Due) (awaited t : ℕ) → dues ≡ dues_of w net.actors → awaited ≡ least w.end (standing_moments ss) → t ≡ least awaited (moments_of_dues dues)
      → (t ≡ target_by ts w net) × (t ≤ w.end)
  target_is only law dues awaited t are awaits is = (law t within each_due each_awaited one, within)
    where
      here : t ≡ least awaited (moments_of_dues (dues_of w net.actors))
      here = is ∙ ap (λ (ds : List Due). least awaited (moments_of_dues ds)) are

      within : t ≤ w.end
      within = omega (arith, here, within_last awaited (moments_of_dues (dues_of w net.actors)), awaits, within_last w.end (standing_moments ss))

      each_due : (m : ℕ) → IsDue w net m → t ≤ m
      each_due m due = omega (arith, here, within_each awaited (moments_of_dues (dues_of w net.actors)) m (due_in w net only m due))

      each_awaited : (m : ℕ) → IsAwaited ts w net m → t ≤ m
      each_awaited m a = omega (arith, here, within_last awaited (moments_of_dues (dues_of w net.actors)), awaits, within_each w.end (standing_moments ss) m (awaited_in m a))

      by_awaited : (least awaited (moments_of_dues (dues_of w net.actors)) ≡ awaited) → (least w.end (standing_moments ss) ≡ w.end) ⊎ In (least w.end (standing_moments ss)) (standing_moments ss)
          → (t ≡ w.end) ⊎ (IsDue w net t ⊎ IsAwaited ts w net t)
      by_awaited at (inl last) = inl (here ∙ (at ∙ (awaits ∙ last)))
      by_awaited at (inr there) = inr (inr (in_awaited t (subst (λ (m : ℕ). In m (standing_moments ss)) (sym (here ∙ (at ∙ awaits))) there)))

      by_due : (least awaited (moments_of_dues (dues_of w net.actors)) ≡ awaited) ⊎ In (least awaited (moments_of_dues (dues_of w net.actors))) (moments_of_dues (dues_of w net.actors))
          → (t ≡ w.end) ⊎ (IsDue w net t ⊎ IsAwaited ts w net t)
      by_due (inl at) = by_awaited at (one_of_them w.end (standing_moments ss))
      by_due (inr there) = inr (inl (in_due w net only t (subst (λ (m : ℕ). In m (moments_of_dues (dues_of w net.actors))) (sym here) there)))

      one : (t ≡ w.end) ⊎ (IsDue w net t ⊎ IsAwaited ts w net t)
      one = by_due (one_of_them awaited (moments_of_dues (dues_of w net.actors)))
