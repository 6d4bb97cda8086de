-- The passes of guests come together, and with them what each guest knows.
use Rattle.std.proofs.Common.{◌≡◌, ℕ, ◌<◌, ◌⊎◌, inl, inr, true, List, [], ◌∷◌, ◌++◌, map, refl, ap, sym, subst, ◌∙◌}
use mathlib.Core.List.{IsPrefix}
use Rattle.std.proofs.lemmas.List.{append-nil}
use Rattle.net_base.specs.declared.actor.ActorName.{ActorName}
use Rattle.net_base.specs.declared.history.Entry.{Entry}
use Rattle.net_base.specs.declared.noted.Noted.{Noted}
use Rattle.net_base.specs.declared.noted.Number.TheVariants as number
use Rattle.net_base.specs.declared.world.World.{World}
use Rattle.net_base.specs.Actors.{has_actor}
use Rattle.net_base.specs.Legal.{IsLegalBy, IsTimedBy}
use Rattle.net_base.specs.Net.{Net, after, owed}
use Rattle.net_base.specs.Stamped.{In, at, of_actor, of_caller}
use Rattle.journal.specs.declared.law.Roster.{Roster}
use Rattle.journal.specs.declared.tokens.Sight.{Sight}
use Rattle.journal.specs.declared.tokens.Volume.{Volume}
use Rattle.journal.specs.Closing.{IsWhole, plain}
use Rattle.journal.specs.Rule.{Held}
use Rattle.journal.specs.Tokens.{HoldsPass, HoldsAll, Met}
use Rattle.journal.proofs.Shared.{prefix_trans}
use Rattle.net_locks.specs.Guests.{IsGuest, IsOfGuests, StaysGuest}
use Rattle.net_locks.specs.Own.{AreNext, AreTimely, AreTurns, IsLegalButScripts, OwnStandsStill}
use Rattle.net_locks.specs.Works.{entries, noted_net}
use Rattle.net_base.specs.Callers.{caller_count}
use Rattle.net_base.specs.Tasks.{Tasks}
use Rattle.net_locks.specs.Rosters.{AreReplayed, IsReplayed}
use Rattle.net_guests.specs.Visits.{Finished, Gathering, GathersPasses, HasBook, HasGuest, IsWith, Visit}
use Rattle.net_locks.specs.Turns.{StaysOwn, own_seen}
use Rattle.net_base.proofs.Shared.{in_front, in_back}

-- Guests that stay.

module _ (w : World) (r : Roster) where
  stands_on : (c : ℕ) (a b d : List Noted) → OwnStandsStill w c a b → OwnStandsStill w c b d → OwnStandsStill w c a d
  stands_on c a b d one two =
      record {
        owes = two.owes ∙ one.owes;
        comes_next = λ ts. two.comes_next ts ∙ one.comes_next ts;
        turns = λ t. two.turns (one.turns t);
        nexts = λ ts t. two.nexts ts (one.nexts ts t);
        timely = λ ts t. two.timely ts (one.timely ts t);
      }

  pub stays_on : (c : ℕ) (p q s : Sight) → StaysOwn w c p q → StaysOwn w c q s → StaysOwn w c p s
  stays_on c p q s one two =
      record {
        before = prefix_trans p.seen q.seen s.seen one.before two.before;
        alone = two.alone ∙ one.alone;
        stands = stands_on c p.seen q.seen s.seen one.stands two.stands;
      }

  -- a guest is with its own pass
  pub itself : (v : Visit) (p : Sight) → p ≡ v.sight → IsGuest w r v.caller p v.owed → IsWith w r v p
  itself v p is guest =
      record {
        guest = guest;
        stays = record {
          before = subst (λ (q : Sight). IsPrefix v.sight.seen q.seen) (sym is) ([], append-nil v.sight.seen);
          alone = ap (own_seen v.caller) is;
          stands = subst (λ (q : Sight). OwnStandsStill w v.caller v.sight.seen q.seen) (sym is)
              (record { owes = refl; comes_next = λ ts. refl; turns = λ t. t; nexts = λ ts t. t; timely = λ ts t. t });
        };
      }

  module _ (v : Visit) (p : Sight) (is : IsWith w r v p) (p' : Sight) where
    pub with_more : StaysGuest w r v.caller p v.owed p' → IsPrefix p.seen p'.seen → In (number.Caller v.caller, is.guest.list) p'.held
        → at (number.Caller v.caller) p'.seen ≡ is.guest.list → IsWith w r v p'
    with_more stays before held list =
        record {
          guest = stays.guest;
          stays = stays_on v.caller v.sight p p' is.stays (record { before = before; alone = list ∙ sym is.guest.all; stands = stays.stands });
        }

    pub with_this : (q : Sight) (met : Met r p q p') → StaysGuest w r v.caller p v.owed p' → IsWith w r v p'
    with_this q met stays =
        let held : In (number.Caller v.caller, is.guest.list) p'.held =
        subst (λ (hs : List Held). In (number.Caller v.caller, is.guest.list) hs) (sym met.held)
        (in_front (number.Caller v.caller, is.guest.list) p.held q.held is.guest.held) in
        with_more stays met.this held (met.lists (number.Caller v.caller) is.guest.list held)

    pub with_that : (q : Sight) (met : Met r q p p') → StaysGuest w r v.caller p v.owed p' → IsWith w r v p'
    with_that q met stays =
        let held : In (number.Caller v.caller, is.guest.list) p'.held =
        subst (λ (hs : List Held). In (number.Caller v.caller, is.guest.list) hs) (sym met.held)
        (in_back (number.Caller v.caller, is.guest.list) q.held p.held is.guest.held) in
        with_more stays met.that held (met.lists (number.Caller v.caller) is.guest.list held)

-- One after another.

pub last_or : {A : Type 0} (x : A) (xs : List A) (y : A) → In x (xs ++ y ∷ []) → In x xs ⊎ (x ≡ y)
last_or x [] y (inl is) = inr is
last_or x [] y (inr none) = absurd none
last_or x (z ∷ xs) y (inl is) = inl (inl is)
last_or x (z ∷ xs) y (inr there) = more (last_or x xs y there)
  where
    more : In x xs ⊎ (x ≡ y) → In x (z ∷ xs) ⊎ (x ≡ y)
    more (inl i) = inl (inr i)
    more (inr e) = inr e

module _ (w : World) (r : Roster) (p : Sight) (vs : List Visit) where
  pub gathering : Gathering w r p vs p vs
  gathering = record { kept = λ v is. is; taken = λ v i. inr i }

  pub gathers_on : (p1 p2 : Sight) (left rest : List Visit) (v : Visit) → Gathering w r p vs p1 left → left ≡ rest ++ v ∷ []
      → ((u : Visit) → IsWith w r u p1 → IsWith w r u p2) → IsWith w r v p2 → Gathering w r p vs p2 rest
  gathers_on p1 p2 left rest v g is keeps mine = record { kept = λ u with. keeps u (g.kept u with); taken = λ u i. step u (g.taken u i) }
    where
      place : (u : Visit) → In u rest ⊎ (u ≡ v) → IsWith w r u p2 ⊎ In u rest
      place u (inl i) = inr i
      place u (inr e) = inl (subst (λ (x : Visit). IsWith w r x p2) (sym e) mine)

      step : (u : Visit) → IsWith w r u p1 ⊎ In u left → IsWith w r u p2 ⊎ In u rest
      step u (inl with) = inl (keeps u with)
      step u (inr i) = place u (last_or u rest v (subst (λ (l : List Visit). In u l) is i))

  pub gathered : (p1 : Sight) (left : List Visit) → Gathering w r p vs p1 left → left ≡ [] → (v : Visit) → In v vs → IsWith w r v p1
  gathered p1 left g none v i = here (g.taken v i)
    where
      here : IsWith w r v p1 ⊎ In v left → IsWith w r v p1
      here (inl with) = with
      here (inr there) = absurd (subst (λ (l : List Visit). In v l) none there)

module _ (w : World) (r : Roster) (vs : List Visit) (p' : Sight) where
  -- the last guest's pass took the others in
  pub all_with : (rest : List Visit) (last : Visit) (p : Sight) → vs ≡ rest ++ last ∷ [] → IsWith w r last p → GathersPasses w r p rest p' → (v : Visit)
      → In v vs → IsWith w r v p'
  all_with rest last p is mine g v i = place (last_or v rest last (subst (λ (l : List Visit). In v l) is i))
    where
      place : In v rest ⊎ (v ≡ last) → IsWith w r v p'
      place (inl there) = g.taken v there
      place (inr e) = subst (λ (u : Visit). IsWith w r u p') (sym e) (g.kept last mine)

  pub holds_all : ((c : ℕ) → c < r.callers → HasGuest c vs) → ((v : Visit) → In v vs → IsWith w r v p') → HoldsAll r p'
  holds_all all here c lt =
      let v = all c lt in
      let with = here v.0 v.1 in
      subst (λ (k : ℕ). (es : List (ℕ × Noted)) × HoldsPass p' k es) v.2 (with.guest.list, with.guest.held)

-- The end.

module _ (ts : Tasks) (w : World) (r : Roster) (actors : (a : ActorName) → In a r.actors → has_actor w a ≡ true) (callers : r.callers ≡ caller_count w)
    (vs : List Visit) (p : Sight) (books : List Volume) (h : List Entry)
    (all : (c : ℕ) → c < r.callers → HasGuest c vs) (here : (v : Visit) → In v vs → IsWith w r v p) (whole : IsWhole r p books h) where
  of_guests : IsOfGuests w r p.seen
  of_guests =
      record {
        actors_are = actors;
        callers_are = callers;
        lawful = whole.lawful;
        turns = λ c lt. let v = all c lt in subst (λ (k : ℕ). AreTurns w k p.seen) v.2 (here v.0 v.1).guest.turns;
      }

  lists : (v : Visit) → In v vs → of_caller v.caller h ≡ map plain (own_seen v.caller v.sight)
  lists v i =
      let with = here v i in
      whole.callers v.caller with.guest.list with.guest.held ∙ ap (map plain) (sym with.guest.all ∙ with.stays.alone)

  pub kept : AreReplayed w books → ((a : ActorName) → has_actor w a ≡ true → (b : Volume) × In b books × (b.actor ≡ a))
      → (a : ActorName) → has_actor w a ≡ true → HasBook w a h
  kept replayed each a is =
      let b = each a is in
      record {
        list = b.0.list;
        all = subst (λ (d : ActorName). of_actor d h ≡ map plain b.0.list) b.2 (whole.actors b.0 b.1);
        replayed = subst (λ (d : ActorName). IsReplayed w d b.0.list) b.2 (replayed b.0 b.1);
      }

  owes : (IsOfGuests w r p.seen → noted_net w p.seen ≡ after w (entries p.seen)) → (v : Visit) → In v vs → owed w h v.caller ≡ v.owed
  owes net v i =
      ap (λ (l : List Entry). owed w l v.caller) whole.entries ∙ (ap (λ (n : Net). n.owed v.caller) (sym (net of_guests)) ∙ (here v i).guest.owed)

  pub finished : ((a : ActorName) → has_actor w a ≡ true → HasBook w a h) → (IsOfGuests w r p.seen → noted_net w p.seen ≡ after w (entries p.seen))
      → (IsOfGuests w r p.seen → IsLegalButScripts w (entries p.seen))
      → (IsOfGuests w r p.seen → ((c : ℕ) → c < r.callers → AreNext ts w c p.seen) → IsLegalBy ts w (entries p.seen))
      → (IsOfGuests w r p.seen → ((c : ℕ) → c < r.callers → AreTimely ts w c p.seen) → IsTimedBy ts w (entries p.seen)) → Finished ts w vs h
  finished has_books net but legal timed =
      record {
        lists = lists;
        owes = owes net;
        books = has_books;
        but_scripts = subst (λ (l : List Entry). IsLegalButScripts w l) (sym whole.entries) (but of_guests);
        legal = λ each.
            subst (λ (l : List Entry). IsLegalBy ts w l) (sym whole.entries)
            (legal of_guests (λ c lt. let v = all c lt in subst (λ (k : ℕ). AreNext ts w k p.seen) v.2 ((here v.0 v.1).stays.stands.nexts ts (each v.0 v.1))));
        timed = λ each.
            subst (λ (l : List Entry). IsTimedBy ts w l) (sym whole.entries)
            (timed of_guests (λ c lt. let v = all c lt in subst (λ (k : ℕ). AreTimely ts w k p.seen) v.2 ((here v.0 v.1).stays.stands.timely ts (each v.0 v.1))));
      }
