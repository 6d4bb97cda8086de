-- One player's number goes to the clock's guest and back, and the others' in between.
use Rattle.std.proofs.Common.{◌≡◌, ℕ, ◌==◌, Bool, false, List, [], ◌∷◌, ◌++◌, refl, ap, sym, subst, ◌∙◌}
use Rattle.net_base.specs.declared.world.World.{World}
use Rattle.net_base.specs.Tasks.{Tasks}
use Rattle.journal.specs.declared.law.Roster.{Roster}
use Rattle.journal.specs.declared.tokens.Sight.{Sight}
use Rattle.net_locks.specs.declared.clock.Advance.{Advance}
use Rattle.net_locks.specs.declared.clock.Standing.{Standing}
use Rattle.net_guests.specs.Lent.{IsBack, with_sight}
use Rattle.net_guests.specs.Visits.{IsWith, Visit}
use Rattle.host_net.proofs.Lending.{advances_on, lent_on}
use Rattle.host_net.specs.declared.player.Role.{Role}
use Rattle.host_net.specs.Advancing.{Advances, AreBack, AreLent, other_players}
use Rattle.host_net.specs.Groups.{GroupsApart, Grouped, NotIn, callers_of, visits}
use Rattle.host_net.specs.Playing.{Playing}
use Rattle.net_base.proofs.Shared.{apart_turned}

abbrev pub player : {T : Type 0} → Visit → Role → T → Bool → Bool → Playing T
player v who task lost counts = record { visit = v; role = who; task = task; lost = lost; counts = counts }

-- what the recursion says of those that are with the clock's guest
abbrev pub OthersStay : World → Roster → List ℕ → Sight → Sight → Type 0
OthersStay w r cs p p' = (v : Visit) → NotIn v.caller cs → IsWith w r v p → IsWith w r v p'

-- One level of the recursion: `me` and `clock` are the guests of the first player and of the clock as they are seen inside,
-- and `with` is the clock's with one number more.
module _ {T : Type 0} (ts : Tasks) (w : World) (r : Roster) (who : Role) (task : T) (lost counts : Bool) (me clock now_clock : Visit)
    (one : Playing T) (others ps : List (Playing T)) (gs : List (Grouped T))
    (is_one : player me who task lost counts ≡ one) (parts : ps ≡ one ∷ others) (is_clock : clock ≡ now_clock) (ss : List Standing)
    (apart : GroupsApart (now_clock.caller ∷ callers_of (ps ++ other_players gs)))
    (lent : AreLent ts w r (visits (ps ++ other_players gs)) now_clock.sight ss)
    (with : Visit) (with_is : with ≡ with_sight clock with.sight) (lent_one : IsWith w r me with.sight)
    (had_still : (v : Visit) → IsWith w r v clock.sight → IsWith w r v with.sight) where
  abbrev left : List (Playing T)
  left = others ++ other_players gs

  lists : ps ++ other_players gs ≡ player me who task lost counts ∷ left
  lists = ap (λ (l : List (Playing T)). l ++ other_players gs) (parts ∙ ap (λ (x : Playing T). x ∷ others) (sym is_one))

  apart_here : GroupsApart (clock.caller ∷ me.caller ∷ callers_of left)
  apart_here =
      subst (λ (v : Visit). GroupsApart (v.caller ∷ me.caller ∷ callers_of left)) (sym is_clock)
      (subst (λ (l : List (Playing T)). GroupsApart (now_clock.caller ∷ callers_of l)) lists apart)

  lent_here : AreLent ts w r (me ∷ visits left) clock.sight ss
  lent_here =
      subst (λ (v : Visit). AreLent ts w r (me ∷ visits left) v.sight ss) (sym is_clock)
      (subst (λ (l : List (Playing T)). AreLent ts w r (visits l) now_clock.sight ss) lists lent)

  with_caller : with.caller ≡ clock.caller
  with_caller = ap (λ (v : Visit). v.caller) with_is

  pub next_apart : GroupsApart (with.caller ∷ callers_of left)
  next_apart =
      subst (λ (c : ℕ). GroupsApart (c ∷ callers_of left)) (sym with_caller) (apart_here.0.1, apart_here.1.1)

  pub next_lent : AreLent ts w r (visits left) with.sight ss
  next_lent = lent_on ts w r me (visits left) clock.sight with.sight ss lent_here had_still lent_one

  -- `had` is the clock's guest after the others, and `had_now` as it was left
  module _ (had had_now : Visit) (is_had : had ≡ had_now) (answer : Advance)
      (stay : OthersStay w r (with.caller ∷ callers_of left) with.sight had_now.sight) (advances : Advances ts w r (visits left) with answer had_now)
    where
      stay_here : OthersStay w r (clock.caller ∷ callers_of left) with.sight had.sight
      stay_here =
          subst (λ (c : ℕ). OthersStay w r (c ∷ callers_of left) with.sight had.sight) with_caller
          (subst (λ (v : Visit). OthersStay w r (with.caller ∷ callers_of left) with.sight v.sight) (sym is_had) stay)

      had_caller : had.caller ≡ clock.caller
      had_caller = ap (λ (v : Visit). v.caller) is_had ∙ (advances.caller_is ∙ with_caller)

      -- the first player's caller is with the clock's guest still, which is another
      pub still_with : IsWith w r me had.sight
      still_with = stay_here me (apart_turned clock.caller me.caller apart_here.0.0, apart_here.1.0) lent_one

      pub other : (had.caller == me.caller) ≡ false
      other = subst (λ (c : ℕ). (c == me.caller) ≡ false) (sym had_caller) apart_here.0.0

      -- `away` is the first player's guest without its number, `mine` with it again, and `last` is the clock's then
      module _ (away mine last : Visit) (away_is : away ≡ with_sight me away.sight) (back : IsBack away had.now mine)
          (me_back : IsWith w r me mine.sight) (last_is : last ≡ with_sight had last.sight) (seen : last.sight.seen ≡ had.sight.seen)
          (others_back : (v : Visit) → (v.caller == away.caller) ≡ false → IsWith w r v had.sight → IsWith w r v last.sight) where
        all_stay : OthersStay w r (clock.caller ∷ me.caller ∷ callers_of left) clock.sight last.sight
        all_stay v none is =
            others_back v (subst (λ (u : Visit). (v.caller == u.caller) ≡ false) (sym away_is) none.1.0)
            (stay_here v (none.0, none.1.1) (had_still v is))

        pub others_stay_here : OthersStay w r (now_clock.caller ∷ callers_of (ps ++ other_players gs)) now_clock.sight last.sight
        others_stay_here =
            subst (λ (l : List (Playing T)). OthersStay w r (now_clock.caller ∷ callers_of l) now_clock.sight last.sight) (sym lists)
            (subst (λ (v : Visit). OthersStay w r (v.caller ∷ me.caller ∷ callers_of left) v.sight last.sight) is_clock all_stay)

        pub advances_here : Advances ts w r (visits (ps ++ other_players gs)) now_clock answer last
        advances_here =
            subst (λ (l : List (Playing T)). Advances ts w r (visits l) now_clock answer last) (sym lists)
            (subst (λ (v : Visit). Advances ts w r (me ∷ visits left) v answer last) is_clock
            (advances_on ts w r me (visits left) clock with answer had last had_still lent_one
            with_caller (ap (λ (v : Visit). v.now) with_is) (ap (λ (v : Visit). v.owed) with_is) (ap (λ (v : Visit). v.names) with_is)
            (ap (λ (v : Visit). v.caller) last_is) (ap (λ (v : Visit). v.now) last_is) (ap (λ (v : Visit). v.owed) last_is)
            (ap (λ (v : Visit). v.names) last_is) seen
            (subst (λ (v : Visit). Advances ts w r (visits left) with answer v) (sym is_had) advances)))

        pub mine_caller : mine.caller ≡ me.caller
        mine_caller = back.caller ∙ ap (λ (v : Visit). v.caller) away_is

        pub mine_names : mine.names ≡ me.names
        mine_names = back.names ∙ ap (λ (v : Visit). v.names) away_is

        pub mine_owed : mine.owed ≡ me.owed
        mine_owed = back.owed ∙ ap (λ (v : Visit). v.owed) away_is

        last_now : last.now ≡ had.now
        last_now = ap (λ (v : Visit). v.now) last_is

        pub are_back : (new : List (Playing T)) → AreBack w had.now others new
            → AreBack w last.now ps (player mine who task lost counts ∷ new)
        are_back new rest =
            subst (λ (l : List (Playing T)). AreBack w last.now l (player mine who task lost counts ∷ new))
            (sym (parts ∙ ap (λ (x : Playing T). x ∷ others) (sym is_one))) (
              (
                record {
                  caller_is = mine_caller;
                  owed_is = mine_owed;
                  names_are = mine_names;
                  role_is = refl;
                  task_is = refl;
                  lost_is = refl;
                  counts_is = refl;
                  stays = me_back.stays;
                },
                back.now_is ∙ sym last_now,
              ),
              subst (λ (n : ℕ). AreBack w n others new) (sym last_now) rest,
            )

-- the players of the first group, which are next
pub group_lists : {T : Type 0} (ps : List (Playing T)) (gs : List (Grouped T)) (g : Grouped T) (rest : List (Grouped T)) (xs : List (Playing T))
    → ps ≡ [] → gs ≡ g ∷ rest → xs ≡ g.players → ps ++ other_players gs ≡ xs ++ other_players rest
group_lists {T = T} ps gs g rest xs none parts is =
    ap (λ (l : List (Playing T)). l ++ other_players gs) none
    ∙ (ap other_players parts ∙ ap (λ (l : List (Playing T)). l ++ other_players rest) (sym is))
