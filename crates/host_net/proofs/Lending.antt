-- The numbers of all callers come to the clock's guest one after another, and go back.
use Rattle.std.proofs.Common.{◌≡◌, ℕ, suc, ◌+◌, ◌==◌, ◌⊎◌, inl, inr, List, [], ◌∷◌, length, refl, ap, sym, subst, ◌∙◌}
use Rattle.net_base.specs.declared.noted.Noted.{Noted}
use Rattle.net_base.specs.declared.world.World.{World}
use Rattle.net_base.specs.Next.{next_by}
use Rattle.net_base.specs.Stamped.{In}
use Rattle.net_base.specs.Tasks.{Tasks}
use Rattle.journal.specs.declared.law.Roster.{Roster}
use Rattle.journal.specs.declared.tokens.Sight.{Sight}
use Rattle.duties.specs.Marks.{Covers}
use Rattle.net_locks.specs.Guests.{IsGuest, IsOfGuests}
use Rattle.net_locks.specs.Own.{AreNext, AreTimely}
use Rattle.net_locks.specs.Works.{entries}
use Rattle.net_locks.specs.declared.clock.Advance.{Advance}
use Rattle.net_locks.specs.declared.clock.Standing.{Standing}
use Rattle.host_net.specs.Advancing.{Advances, AreLent, IsStanding}
use Rattle.net_locks.specs.Standings.{AllStand, StandsAt}
use Rattle.net_guests.specs.Deciding.{Decided}
use Rattle.host_net.specs.Groups.{Grouped}
use Rattle.net_guests.specs.Visits.{IsWith, Visit}
use Rattle.net_locks.specs.Turns.{own_seen}

module _ (ts : Tasks) (w : World) (r : Roster) where
  -- a standing holds after all that the pass has seen with which its caller is
  pub stands_at : (v : Visit) (p : Sight) (s : Standing) → IsStanding ts w v s → IsWith w r v p → StandsAt ts w r p s
  stands_at v p s stands is =
      record {
        owed = v.owed;
        guest = subst (λ (c : ℕ). IsGuest w r c p v.owed) (sym stands.caller_is) is.guest;
        owes_is = stands.owes_is;
        full_is = stands.full_is ∙ (ap (λ (l : List (ℕ × Noted)). length l == 131072) (sym is.stays.alone)
            ∙ ap (λ (c : ℕ). length (own_seen c p) == 131072) (sym stands.caller_is));
        next_is = stands.next_is ∙ (sym (is.stays.stands.comes_next ts) ∙ ap (λ (c : ℕ). next_by ts w (entries p.seen) c) (sym stands.caller_is));
        given = stands.given;
        timely = subst (λ (c : ℕ). AreTimely ts w c p.seen) (sym stands.caller_is) (is.stays.stands.timely ts stands.timely);
        covers = subst (λ (c : ℕ). Covers (own_seen c p) s.touched) (sym stands.caller_is)
            (subst (λ (l : List (ℕ × Noted)). Covers l s.touched) (sym is.stays.alone) stands.covers);
      }

  -- nobody is left
  pub all_stand : (p : Sight) (ss : List Standing) → AreLent ts w r [] p ss → AllStand ts w r p ss
  all_stand p ss lent =
      record { each = λ s i. let found = lent.each s i in stands_at found.0 p s found.1 (here found.0 found.2); all = lent.all }
    where
      here : (v : Visit) → IsWith w r v p ⊎ In v [] → IsWith w r v p
      here v (inl is) = is
      here v (inr none) = absurd none

  -- one caller fewer is left
  pub lent_on : (v : Visit) (vs : List Visit) (p q : Sight) (ss : List Standing) → AreLent ts w r (v ∷ vs) p ss
      → ((u : Visit) → IsWith w r u p → IsWith w r u q) → IsWith w r v q → AreLent ts w r vs q ss
  lent_on v vs p q ss lent keeps mine =
      record { each = λ s i. let found = lent.each s i in (found.0, found.1, place found.0 found.2); all = lent.all }
    where
      place : (u : Visit) → IsWith w r u p ⊎ In u (v ∷ vs) → IsWith w r u q ⊎ In u vs
      place u (inl is) = inl (keeps u is)
      place u (inr (inl e)) = inl (subst (λ (x : Visit). IsWith w r x q) (sym e) mine)
      place u (inr (inr there)) = inr there

  -- at the bottom
  pub advances_at : (old : Visit) (answer : Advance) (new : Visit) → IsOfGuests w r old.sight.seen → Decided ts w old answer new
      → new.caller ≡ old.caller → new.names ≡ old.names → (AreNext ts w old.caller old.sight.seen → AreNext ts w old.caller new.sight.seen)
      → (AreTimely ts w old.caller old.sight.seen → AreTimely ts w old.caller new.sight.seen) → Advances ts w r [] old answer new
  advances_at old answer new guests decided caller names nexts timely =
      record {
        at = old;
        to = new;
        gathers = record { kept = λ v is. is; taken = λ v none. absurd none };
        guests = guests;
        caller_at = refl;
        now_at = refl;
        owed_at = refl;
        decided = decided;
        nexts = nexts;
        timely = timely;
        caller_is = caller;
        names_are = names;
        now_is = refl;
        owed_is = refl;
        seen_is = refl;
      }

  -- above it: the clock's guest got the number of v before, and gave it back
  pub advances_on : (v : Visit) (vs : List Visit) (old with : Visit) (answer : Advance) (had new : Visit)
      → ((u : Visit) → IsWith w r u old.sight → IsWith w r u with.sight) → IsWith w r v with.sight
      → with.caller ≡ old.caller → with.now ≡ old.now → with.owed ≡ old.owed → with.names ≡ old.names
      → new.caller ≡ had.caller → new.now ≡ had.now → new.owed ≡ had.owed → new.names ≡ had.names → new.sight.seen ≡ had.sight.seen
      → Advances ts w r vs with answer had → Advances ts w r (v ∷ vs) old answer new
  advances_on v vs old with answer had new keeps mine caller now owed names caller' now' owed' names' seen a =
      record {
        at = a.at;
        to = a.to;
        gathers = record { kept = λ u is. a.gathers.kept u (keeps u is); taken = taken };
        guests = a.guests;
        caller_at = a.caller_at ∙ caller;
        now_at = a.now_at ∙ now;
        owed_at = a.owed_at ∙ owed;
        decided = a.decided;
        nexts = λ each. subst (λ (l : List Noted). AreNext ts w old.caller l) (sym seen)
            (subst (λ (c : ℕ). AreNext ts w c had.sight.seen) caller
            (a.nexts (subst (λ (c : ℕ). AreNext ts w c a.at.sight.seen) (sym caller) each)));
        timely = λ each. subst (λ (l : List Noted). AreTimely ts w old.caller l) (sym seen)
            (subst (λ (c : ℕ). AreTimely ts w c had.sight.seen) caller
            (a.timely (subst (λ (c : ℕ). AreTimely ts w c a.at.sight.seen) (sym caller) each)));
        caller_is = caller' ∙ (a.caller_is ∙ caller);
        names_are = names' ∙ (a.names_are ∙ names);
        now_is = now' ∙ a.now_is;
        owed_is = owed' ∙ a.owed_is;
        seen_is = seen ∙ a.seen_is;
      }
    where
      taken : (u : Visit) → In u (v ∷ vs) → IsWith w r u a.at.sight
      taken u (inl e) = a.gathers.kept u (subst (λ (x : Visit). IsWith w r x with.sight) (sym e) mine)
      taken u (inr there) = a.gathers.taken u there

-- how many players the groups have, each group counted as one more
abbrev pub players_left : {T : Type 0} → List (Grouped T) → ℕ
players_left [] = 0
players_left (g ∷ gs) = suc (length g.players + players_left gs)
