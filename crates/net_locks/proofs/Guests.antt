-- A guest stays one: over what its pass has seen more, and over an entry of its own.
use Rattle.std.proofs.Common.{◌≡◌, ℕ, suc, ◌<◌, ◌==◌, Bool, true, List, [], ◌∷◌, ◌++◌, length, map, drop, Option, Some, None, if◌then◌else◌, refl, ap, sym, subst, ◌∙◌}
use Rattle.std.proofs.lemmas.Option.{none-some, same_Some}
use Rattle.std.specs.Option.{option_map}
use mathlib.Core.List.{IsPrefix}
use Rattle.net_base.specs.declared.actor.ActorName.{ActorName}
use Rattle.net_base.specs.declared.history.Entry.{Entry}
use Rattle.net_base.specs.declared.history.Outcome.{Outcome}
use Rattle.net_base.specs.declared.history.Work.{Work}
use Rattle.net_base.specs.declared.noted.Noted.{Noted}
use Rattle.net_base.specs.declared.noted.Number.TheVariants as number
use Rattle.net_base.specs.declared.world.World.{World}
use Rattle.net_base.specs.ActorStep.{Step}
use Rattle.net_base.specs.Actors.{Actor, actor_step}
use Rattle.net_base.specs.Callers.{caller_of}
use Rattle.net_base.specs.Duties.{Duty, duties}
use Rattle.net_base.specs.Legal.{IsAsked, cites_of, shown_of}
use Rattle.net_base.specs.Net.{with_of}
use Rattle.net_base.specs.Next.{next_recorded, next_by}
use Rattle.net_base.specs.Steps.{Ask}
use Rattle.net_base.specs.Stamped.{at, In}
use Rattle.net_base.specs.Tasks.{Tasks, nobody}
use Rattle.journal.specs.declared.law.Roster.{Roster}
use Rattle.journal.specs.declared.tokens.Sight.{Sight}
use Rattle.journal.specs.Rule.{Held, gain}
use Rattle.journal.specs.Tokens.{Looked, Met}
use Rattle.journal.proofs.Shared.{at-snoc, in-gain}
use Rattle.locked.specs.Acts.{made, state_at, act_without_copy}
use Rattle.net_locks.specs.Named.{Named, named, named_step, named_opening, answer_in}
use Rattle.net_locks.specs.Works.{noted_net, owed_in, entries}
use Rattle.net_locks.specs.Own.{AreNext, AreTimely, AreTurns, IsAskedButOfScripts, IsNextOf, IsTurnOf, OwnStandsStill}
use Rattle.net_locks.specs.Guests.{IsGuest, IsGuestTurn, GuestRecords, StaysGuest, HasRecorded, deed_at}
use Rattle.net_locks.proofs.Nets.{past_is}
use Rattle.net_locks.proofs.Apart.{LaterStands, stands_still, owed_push, gains}
use Rattle.net_base.proofs.Shared.{number_itself, in_front, in_back}

length_map : (f : Noted → Entry) (xs : List Noted) → length (map f xs) ≡ length xs
length_map f [] = refl
length_map f (x ∷ xs) = ap suc (length_map f xs)

step_under : (a : ActorName) (t : Option (Step Actor)) (step : Step Named) → option_map (named_step a) t ≡ Some step → (s : Step Actor) × (t ≡ Some s)
    × (step.outcome ≡ s.outcome)
step_under a None step is = absurd (none-some step is)
step_under a (Some s) step is = (s, refl, sym (ap (λ (q : Step Named). q.outcome) (same_Some (named_step a s) step is)))

-- the pass has seen more, and has the number with its entries still
module _ (still : LaterStands) (w : World) (r : Roster) (c : ℕ) (p p' : Sight) (ds : List Duty) (g : IsGuest w r c p ds) where
  pub stays : IsPrefix p.seen p'.seen → In (number.Caller c, g.list) p'.held → at (number.Caller c) p'.seen ≡ g.list → StaysGuest w r c p ds p'
  stays before held all =
      let stands = stands_still still w c p.seen p'.seen before (g.all ∙ sym all) in record {
        guest = record { list = g.list; held = held; all = all; known = g.known; owed = stands.owes ∙ g.owed; turns = stands.turns g.turns };
        stands = stands;
      }

  pub looks : (front : ℕ) → Looked r p front p' → StaysGuest w r c p ds p'
  looks front l =
      stays l.before (subst (λ (hs : List Held). In (number.Caller c, g.list) hs) (sym l.held) g.held) (l.lists (number.Caller c) g.list g.held)

  -- two passes met, and the guest's was the one that stays
  pub meets_this : (q : Sight) → Met r p q p' → StaysGuest w r c p ds p'
  meets_this q m =
      let held : In (number.Caller c, g.list) p'.held =
      subst (λ (hs : List Held). In (number.Caller c, g.list) hs) (sym m.held) (in_front (number.Caller c, g.list) p.held q.held g.held) in
      stays m.this held (m.lists (number.Caller c) g.list held)

  -- or the one that was taken in
  pub meets_that : (q : Sight) → Met r q p p' → StaysGuest w r c p ds p'
  meets_that q m =
      let held : In (number.Caller c, g.list) p'.held =
      subst (λ (hs : List Held). In (number.Caller c, g.list) hs) (sym m.held) (in_back (number.Caller c, g.list) q.held p.held g.held) in
      stays m.that held (m.lists (number.Caller c) g.list held)

-- an entry of its own
module _ (still : LaterStands)
    (state_is : (w : World) (log : List Noted) (a : ActorName) → state_at (named_opening w) (answer_in w) a log ≡ named a ((noted_net w log).actors a))
    (w : World) (r : Roster) (c : ℕ) (p p' : Sight) (ds : List Duty) (a : ActorName) (now : ℕ) (work : Work) (cites : Option ℕ) (stamp : ℕ) (o : Outcome)
    (g : IsGuest w r c p ds) (t : IsGuestTurn w c p ds a work cites) (d : GuestRecords w r (deed_at a c now work cites) p stamp o p') where
  abbrev the : Noted
  the = made a c now work cites o

  same : at (number.Caller c) d.past ≡ g.list
  same = d.lists (number.Caller c) g.list g.held

  stands : OwnStandsStill w c p.seen d.past
  stands = stands_still still w c p.seen d.past d.before (g.all ∙ sym same)

  owes : owed_in w d.past c ≡ ds
  owes = stands.owes ∙ g.owed

  -- the step that the lock's machine made, in the net of the past
  stepped : (s : Step Actor) × (actor_step w a ((noted_net w d.past).actors a) now work ≡ Some s) × (d.step.outcome ≡ s.outcome)
  stepped =
      step_under a (actor_step w a ((noted_net w d.past).actors a) now work) d.step
      (ap (λ (q : Named). answer_in w q now work) (sym (state_is w d.past a)) ∙ d.ready)

  nexts_are : (ts : Tasks) → next_by ts w (entries p.seen) c ≡ next_by ts w (noted_net w d.past).past c
  nexts_are ts = sym (stands.comes_next ts) ∙ ap (λ (l : List Entry). next_by ts w l c) (sym (past_is w d.past))

  turn : IsTurnOf w (noted_net w d.past) the
  turn = record {
    given = t.given ∙ ap with_of (sym owes);
    cites = t.cites_it ∙ ap cites_of (sym owes);
    asked = subst (λ (q : List Duty). IsAskedButOfScripts q (caller_of w c) (next_recorded w (noted_net w d.past).past c) the.entry) (sym owes)
        (subst (λ (q : Option Ask). IsAskedButOfScripts ds (caller_of w c) q the.entry) (nexts_are nobody) (t.asked now o));
    step = stepped.0;
    gives = stepped.1;
    shows = ap shown_of d.outcome ∙ ap shown_of (stepped.2);
  }

  is_next : (ts : Tasks) → IsAsked ds (caller_of w c) (next_by ts w (entries p.seen) c) the.entry → IsNextOf ts w (noted_net w d.past) the
  is_next ts asked =
      subst (λ (q : List Duty). IsAsked q (caller_of w c) (next_by ts w (noted_net w d.past).past c) the.entry) (sym owes)
      (subst (λ (q : Option Ask). IsAsked ds (caller_of w c) q the.entry) (nexts_are ts) asked)

  abbrev list' : List (ℕ × Noted)
  list' = g.list ++ (stamp, the) ∷ []

  mine : (c == c) ≡ true
  mine = number_itself c

  held' : In (number.Caller c, list') p'.held
  held' =
      subst (λ (hs : List Held). In (number.Caller c, list') hs) (sym d.held)
      (subst (λ (b : Bool). In (number.Caller c, if b then list' else g.list) (map (gain stamp the) p.held)) mine
      (in-gain stamp the p.held (number.Caller c) g.list g.held))

  all' : at (number.Caller c) (d.past ++ the ∷ []) ≡ list'
  all' =
      at-snoc (number.Caller c) d.past the
      ∙ (ap (λ (b : Bool). if b then at (number.Caller c) d.past ++ (length d.past, the) ∷ [] else at (number.Caller c) d.past) mine
      ∙ (ap (λ (l : List (ℕ × Noted)). l ++ (length d.past, the) ∷ []) same ∙ ap (λ (n : ℕ). g.list ++ (n, the) ∷ []) d.stamp_is))

  owed' : owed_in w (d.past ++ the ∷ []) c ≡ drop 1 ds ++ duties w (noted_net w d.past).actors a stamp work stepped.0
  owed' =
      let count : length (noted_net w d.past).past ≡ stamp = ap length (past_is w d.past) ∙ (length_map (λ (x : Noted). x.entry) d.past ∙ d.stamp_is) in
      owed_push w c d.past the stepped.0 mine stepped.1
      ∙ (ap (λ (n : ℕ). drop 1 (owed_in w d.past c) ++ duties w (noted_net w d.past).actors a n work stepped.0) count
      ∙ ap (λ (q : List Duty). drop 1 q ++ duties w (noted_net w d.past).actors a stamp work stepped.0) owes)

  pub has_recorded : HasRecorded w r (deed_at a c now work cites) d.past p ds stamp o p'
  has_recorded = record {
    step = stepped.0;
    stepped = stepped.1;
    outcome = d.outcome ∙ ap act_without_copy stepped.2;
    guest = record {
      list = list';
      held = held';
      all = ap (at (number.Caller c)) d.seen ∙ all';
      known = g.known;
      owed = ap (λ (l : List Noted). owed_in w l c) d.seen ∙ owed';
      turns = subst (λ (l : List Noted). AreTurns w c l) (sym d.seen) ((gains w c d.past the).turns (stands.turns g.turns) turn);
    };
    nexts = λ ts asked before. subst (λ (l : List Noted). AreNext ts w c l) (sym d.seen) ((gains w c d.past the).nexts ts (stands.nexts ts before) (is_next ts asked));
    timely = λ ts timely before. subst (λ (l : List Noted). AreTimely ts w c l) (sym d.seen) ((gains w c d.past the).timely ts (stands.timely ts before) timely);
  }

-- nothing was seen
pub begins : (w : World) (r : Roster) (c : ℕ) (p : Sight) → c < r.callers → p.seen ≡ [] → In (number.Caller c, []) p.held → IsGuest w r c p []
begins w r c p lt none held = record {
  list = [];
  held = held;
  all = ap (at (number.Caller c)) none;
  known = lt;
  owed = ap (λ (l : List Noted). owed_in w l c) none;
  turns = subst (λ (l : List Noted). AreTurns w c l) (sym none) tt;
}

pub no_nexts : (ts : Tasks) (w : World) (c : ℕ) (log : List Noted) → log ≡ [] → AreNext ts w c log
no_nexts ts w c log none = subst (λ (l : List Noted). AreNext ts w c l) (sym none) tt

pub no_moves : (ts : Tasks) (w : World) (c : ℕ) (log : List Noted) → log ≡ [] → AreTimely ts w c log
no_moves ts w c log none = subst (λ (l : List Noted). AreTimely ts w c l) (sym none) tt
