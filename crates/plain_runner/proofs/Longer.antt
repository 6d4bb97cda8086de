-- What a resting run keeps holds in a world with more steps at the end of a script.
use Rattle.std.proofs.Common.{◌≡◌, ℕ, zero, suc, ◌+◌, ◌-◌, ◌==◌, Bool, true, false, List, [], ◌∷◌, ◌++◌, length, take, map, Option, Some, None, IsSome, is_none, slice_get, refl, sym, ap, subst, ◌∙◌, arith, append-nil}
use Rattle.std.specs.Prelude.{find}
use Rattle.std.specs.Option.{option_and_then}
use Rattle.std.proofs.lemmas.Bool.{eqb-true, false≢true}
use Rattle.std.proofs.lemmas.List.{map-append}
use Rattle.std.proofs.lemmas.Option.{none-some, same_Some}
use Rattle.ip_route.specs.Kept.{AreWaysOf, HostWays}
use Rattle.net_base.specs.declared.actor.ActorName.{ActorName}
use Rattle.net_base.specs.declared.actor.ActorName.TheVariants as name
use Rattle.net_base.specs.declared.history.Entry.{Entry}
use Rattle.net_base.specs.declared.reply.Reply.{Reply}
use Rattle.net_base.specs.declared.world.HostSpec.{HostSpec}
use Rattle.net_base.specs.declared.world.Iface.{Iface}
use Rattle.net_base.specs.declared.world.Script.{Script}
use Rattle.net_base.specs.declared.world.Step.{Step}
use Rattle.net_base.specs.declared.world.World.{World}
use Rattle.net_base.specs.Actors.{Actor, has_actor}
use Rattle.net_base.specs.Callers.{Caller as Called, IsScript, IsCourier, IsClock, IsNobody, caller_of, caller_count}
use Rattle.net_base.specs.Legal.{IsLegal, IsTimed, MayFollow}
use Rattle.net_base.specs.Net.{Net, after}
use Rattle.net_base.specs.Next.{finished_by, next_of_by, next_recorded, own_entries, own_replies, zone_of}
use Rattle.net_base.specs.Routes.{Way, way, way_from}
use Rattle.net_base.specs.Steps.{Ask}
use Rattle.net_base.specs.Tasks.{nobody}
use Rattle.net_base.specs.Versions.{Tuples}
use Rattle.net_base.specs.World.{IsWorld}
use Rattle.net_base.proofs.Shared.{script_is}
use Rattle.history_laws.proofs.Shared.{by_entries, own_push}
use Rattle.grown_laws.specs.Grown.{HasNextAtMoves, grown, grown_scripts, longer}
use Rattle.duties.specs.WaysOf.{AreWaysOfWorld}
use Rattle.script_player.specs.Players.{IsAt, Playing, next_after}
use Rattle.net_actors.specs.declared.actor.Actor.{Actor as Kept}
use Rattle.net_actors.specs.declared.kind.Kind.{Kind}
use Rattle.net_actors.specs.declared.kind.Kind.TheVariants as kind
use Rattle.net_actors.specs.Kept.{IsActorOf, KeepsKind}
use Rattle.net_actors.specs.Numbers.{number_in_world}
use Rattle.net_actors.specs.Together.{AreActors, IsAtActor, Numbered}
use Rattle.plain_runner.specs.Callers.{IsScriptAt}
use Rattle.plain_runner.specs.Recording.{IsHistory}
use Rattle.plain_runner.specs.Resting.{AreCallersResting, HasRestingNext, HasRestingRole, IsCallerResting, Rests}
use Rattle.plain_runner.specs.Turns.{asks_of, turn_ask}
use Rattle.plain_runner.specs.declared.resting.Resting.{Resting}
use Rattle.plain_runner.specs.declared.resting.RestingCaller.{RestingCaller}
use Rattle.plain_runner.specs.declared.resting.RestingRole.{RestingRole}
use Rattle.plain_runner.specs.declared.resting.RestingRole.TheVariants as role
use Rattle.plain_runner.specs.declared.turn.Turn.{Turn}
use Rattle.plain_runner.proofs.CallerLaws.{next_of_script}
use Rattle.plain_runner.proofs.Replies.{before_last, next_replies}

-- A world with other scripts.

module _ (w : World) (ss : List Script) where
  abbrev other : World
  other = record w { scripts = ss }

  same_way : (n ip : ℕ) → way other n ip ≡ way w n ip
  same_way n ip = by_host (slice_get w.hosts n)
    where
      by_iface : (h : HostSpec) (o : Option Iface) → way_from o other n h ip ≡ way_from o w n h ip
      by_iface h (Some i) = refl
      by_iface h None = refl

      by_host : (o : Option HostSpec)
          → option_and_then (λ (h : HostSpec). way_from (find (λ (i : Iface). i.ip == ip) h.ifaces) other n h ip) o
          ≡ option_and_then (λ (h : HostSpec). way_from (find (λ (i : Iface). i.ip == ip) h.ifaces) w n h ip) o
      by_host None = refl
      by_host (Some h) = by_iface h (find (λ (i : Iface). i.ip == ip) h.ifaces)

  same_known : (a : ActorName) → has_actor other a ≡ has_actor w a
  same_known (name.Desk h) = refl
  same_known (name.Dir h p) = refl
  same_known (name.Conv h p n) = refl
  same_known (name.Medium m) = refl
  same_known name.Clock = refl

  ways_of_host : (h : ℕ) (k : HostWays) → AreWaysOf w h k → AreWaysOf other h k
  unfolding AreWaysOf
  ways_of_host h k are ip = ((are ip).0 ∙ sym (same_way h ip), (are ip).1)

  pub ways_of_world : (ks : List HostWays) → AreWaysOfWorld w ks → AreWaysOfWorld other ks
  unfolding AreWaysOfWorld
  ways_of_world ks are h ip = ((are h ip).0 ∙ sym (same_way h ip), (are h ip).1)

  keeps_kind : (a : ActorName) (k : Kind) → KeepsKind w a k → KeepsKind other a k
  keeps_kind (name.Desk h) (kind.Desk d) is = record { databases = is.databases; host = is.host }
  keeps_kind (name.Dir h p) (kind.Dir d) is =
      record {
        proto_is = is.proto_is;
        ways_are = ways_of_host h d.ways is.ways_are;
        starts_are = record { seed = is.starts_are.seed; host = is.starts_are.host; lines = is.starts_are.lines };
      }
  keeps_kind (name.Conv h p n) (kind.Conv k) is = is
  keeps_kind (name.Medium n) (kind.Medium m) is = record { spec_is = is.spec_is; seed_is = is.seed_is }
  keeps_kind name.Clock kind.Clock is = tt
  keeps_kind a k is = absurd is

  actor_of : (x : Kept) → IsActorOf w x → IsActorOf other x
  unfolding IsActorOf
  actor_of x is = (same_known x.name ∙ is.0, keeps_kind x.name x.kind is.1)

  at_actor : (a : ActorName) (s : Actor) (o : Option Kept) → IsAtActor w a s o → IsAtActor other a s o
  at_actor a s None is = absurd is
  at_actor a s (Some x) is = (actor_of x is.0, is.1, is.2)

  pub actors_are : (v : Numbered) (states : ActorName → Actor) → AreActors w v states → AreActors other v states
  actors_are v states are =
      record {
        hosts_are = are.hosts_are;
        media_are = are.media_are;
        each = λ a has. at_actor a (states a) (slice_get v.actors (number_in_world w a)) (are.each a (sym (same_known a) ∙ has));
      }

-- The scripts.

-- script i of the grown world: the same script as before, or the same script with more steps
data Stays (ss : List Script) (c : ℕ) (more : List Step) (i : ℕ) : Type 0 where
  Same : slice_get (grown_scripts ss c more) i ≡ slice_get ss i → Stays ss c more i
  Longer : (s : Script) → slice_get ss i ≡ Some s → slice_get (grown_scripts ss c more) i ≡ Some (longer s more) → Stays ss c more i

stays : (ss : List Script) (c : ℕ) (more : List Step) (i : ℕ) → Stays ss c more i
stays [] c more i = Same refl
stays (s ∷ ss) zero more zero = Longer s refl refl
stays (s ∷ ss) zero more (suc i) = Same refl
stays (s ∷ ss) (suc c) more zero = Same refl
stays (s ∷ ss) (suc c) more (suc i) = elim (stays ss c more i) [ Same e ↦ Same e | Longer t here there ↦ Longer t here there ]

pub as_many : (ss : List Script) (c : ℕ) (more : List Step) → length (grown_scripts ss c more) ≡ length ss
as_many [] c more = refl
as_many (s ∷ ss) zero more = refl
as_many (s ∷ ss) (suc c) more = ap suc (as_many ss c more)

-- The replies before the last one are those of an earlier legal history.

abbrev pub before : List Reply → List Reply
before rs = take (length rs - 1) rs

abbrev IsEarlier : World → ℕ → List Entry → Type 0
IsEarlier w d h = (l : List Entry) × IsLegal w l × (own_replies l d ≡ before (own_replies h d))

earlier : (w : World) (d : ℕ) (h : List Entry) → IsLegal w h → IsEarlier w d h
earlier w d h legal = by_entries {ts = nobody} w (IsEarlier w d) ([], λ k x is. absurd (none-some x is), refl) push h legal
  where
    push : (h : List Entry) (x : Entry) → IsLegal w h → MayFollow w h x → IsEarlier w d h → IsEarlier w d (h ++ x ∷ [])
    push h x legal may past = by_caller (x.caller == d) refl
      where
        unmoved : own_replies (h ++ x ∷ []) d ≡ own_replies h d → IsEarlier w d (h ++ x ∷ [])
        unmoved same = (past.0, past.1, past.2 ∙ ap before (sym same))

        replies_push : own_replies (h ++ x ∷ []) d ≡ own_replies h d ++ own_replies (x ∷ []) d
        replies_push = ap (map (λ (y : Entry). y.reply)) (own_push h d x) ∙ map-append (λ (y : Entry). y.reply) (own_entries h d) (own_entries (x ∷ []) d)

        by_cites : (o : Option ℕ) → x.cites ≡ o → (x.caller == d) ≡ true → IsEarlier w d (h ++ x ∷ [])
        by_cites (Some n) is of_d = unmoved (replies_push ∙ rw (of_d, is) (append-nil (own_replies h d)))
        by_cites None is of_d =
            (h, legal, sym (before_last (own_replies h d) x.reply) ∙ ap before (sym (next_replies h x d (eqb-true x.caller d of_d) is)))

        by_caller : (b : Bool) → (x.caller == d) ≡ b → IsEarlier w d (h ++ x ∷ [])
        by_caller false is = unmoved (replies_push ∙ rw is (append-nil (own_replies h d)))
        by_caller true is = by_cites x.cites refl is

-- The laws of scripts that grow.

abbrev pub NetsAlike : Type 0
NetsAlike = (w : World) (c : ℕ) (more : List Step) (h : List Entry) → after (grown w c more) h ≡ after w h

abbrev pub StaysLegal : Type 0
StaysLegal = (w : World) (c : ℕ) (more : List Step) (h : List Entry) → IsLegal w h → IsLegal (grown w c more) h

abbrev pub StaysTimed : Type 0
StaysTimed = (w : World) (c : ℕ) (more : List Step) (h : List Entry) → IsTimed w h → HasNextAtMoves w c h → IsTimed (grown w c more) h

abbrev pub FinishedStay : Type 0
FinishedStay = (w : World) (c : ℕ) (s : Script) (more : List Step) (h : List Entry) → slice_get w.scripts c ≡ Some s → IsLegal w h
    → finished_by (zone_of w) (own_replies h c) (longer s more) ≡ finished_by (zone_of w) (own_replies h c) s

abbrev pub FitsLonger : Type 0
FitsLonger = (zone : Tuples) (s : Script) (more : List Step) (rs : List Reply) (p : Playing) → IsAt zone s rs p → IsAt zone (longer s more) rs p

abbrev pub NextStays : Type 0
NextStays = (zone : Tuples) (s : Script) (more : List Step) (rs : List Reply) (p : Playing) (a : Ask) → IsAt zone s rs p
    → next_after zone s rs ≡ Some a → next_after zone (longer s more) rs ≡ Some a

-- how many steps were finished before the last own event
pub before_stays : FinishedStay → (w : World) (d : ℕ) (s : Script) (more : List Step) (h : List Entry) → IsLegal w h → slice_get w.scripts d ≡ Some s
    → finished_by (zone_of w) (before (own_replies h d)) (longer s more) ≡ finished_by (zone_of w) (before (own_replies h d)) s
before_stays finished w d s more h legal here =
    let past : IsEarlier w d h = earlier w d h legal in
    subst (λ (rs : List Reply). finished_by (zone_of w) rs (longer s more) ≡ finished_by (zone_of w) rs s) past.2 (finished w d s more past.0 here past.1)

-- The callers.

pub no_courier : (s : Script) (m : ℕ) → IsScript s ≡ IsCourier m → ⊥
no_courier s m is = cc

pub no_clock : (s : Script) → IsScript s ≡ IsClock → ⊥
no_clock s is = cc

-- a caller of a world with other scripts, but with the same one at its place
module _ (w : World) (ss : List Script) (h : List Entry) (d : ℕ) (many : length ss ≡ length w.scripts) (same : slice_get ss d ≡ slice_get w.scripts d) where
  caller_same : caller_of (other w ss) d ≡ caller_of w d
  caller_same = rw (same, many) refl

  next_alike : (k : Called) → next_of_by nobody (other w ss) k h d ≡ next_of_by nobody w k h d
  next_alike (IsScript s) = refl
  next_alike (IsCourier m) = refl
  next_alike IsClock = refl
  next_alike IsNobody = refl

  next_same : next_recorded (other w ss) h d ≡ next_recorded w h d
  next_same = ap (λ (k : Called). next_of_by nobody (other w ss) k h d) caller_same ∙ next_alike (caller_of w d)

  role_same : (r : RestingRole) (last : ℕ) → HasRestingRole w h d r last → HasRestingRole (other w ss) h d r last
  role_same (role.Script p) last is = (is.0, record { is = same ∙ is.1.is; at = is.1.at; before_is = is.1.before_is })
  role_same (role.Courier m) last is = caller_same ∙ is
  role_same role.Clock last is = caller_same ∙ is

  comes_same : (r : RestingRole) (o : Option Turn) → HasRestingNext w h d r o → HasRestingNext (other w ss) h d r o
  comes_same (role.Script p) o is = λ some. is some ∙ sym next_same
  comes_same (role.Courier m) o is = is ∙ sym next_same
  comes_same role.Clock o is = is ∙ sym next_same

  pub kept_same : (k : RestingCaller) → after (other w ss) h ≡ after w h → IsCallerResting w h d k → IsCallerResting (other w ss) h d k
  kept_same k nets is =
      record {
        role_is = role_same k.role k.before is.role_is;
        next_is = comes_same k.role k.next is.next_is;
        own = is.own;
        owes = is.owes ∙ ap (λ (n : Net). n.owed d) (sym nets);
        entries_is = is.entries_is;
      }

module _ (finished : FinishedStay) (fits : FitsLonger) (next_stays : NextStays) (w : World) (c : ℕ) (more : List Step) (h : List Entry) (legal : IsLegal w h) (d : ℕ) where
  abbrev big : World
  big = grown w c more

  -- a caller with a script that is longer
  module _ (t : Script) (here : slice_get w.scripts d ≡ Some t) (there : slice_get big.scripts d ≡ Some (longer t more)) where
    script_longer : (s : Script) (p : Playing) (last : ℕ) → IsScriptAt w h d s p last → IsScriptAt big h d (longer s more) p last
    script_longer s p last at =
        let same : t ≡ s = same_Some t s (sym here ∙ at.is) in
        record {
          is = there ∙ ap (λ (u : Script). Some (longer u more)) same;
          at = fits (zone_of w) s more (own_replies h d) p at.at;
          before_is = at.before_is ∙ sym (before_stays finished w d s more h legal at.is);
        }

    role_longer : (r : RestingRole) (last : ℕ) → HasRestingRole w h d r last → HasRestingRole big h d r last
    role_longer (role.Script p) last is = (longer is.0 more, script_longer is.0 p last is.1)
    role_longer (role.Courier m) last is = absurd (no_courier t m (sym (script_is w d t here) ∙ is))
    role_longer role.Clock last is = absurd (no_clock t (sym (script_is w d t here) ∙ is))

    -- the next event of a script that has one
    script_next : (s : Script) (p : Playing) (last : ℕ) (o : Option Turn) → IsScriptAt w h d s p last → (IsSome o → asks_of o ≡ next_recorded w h d) → IsSome o
        → asks_of o ≡ next_recorded big h d
    script_next s p last None at next some = absurd (false≢true some)
    script_next s p last (Some turn) at next some =
        let now : next_after (zone_of w) s (own_replies h d) ≡ Some (turn_ask turn) = sym (next_of_script w h d s at.is) ∙ sym (next refl) in
        sym (next_of_script big h d (longer s more) (script_longer s p last at).is ∙ next_stays (zone_of w) s more (own_replies h d) p (turn_ask turn) at.at now)

    next_longer : (r : RestingRole) (last : ℕ) (o : Option Turn) → HasRestingRole w h d r last → HasRestingNext w h d r o → HasRestingNext big h d r o
    next_longer (role.Script p) last o is next = script_next is.0 p last o is.1 next
    next_longer (role.Courier m) last o is next = absurd (no_courier t m (sym (script_is w d t here) ∙ is))
    next_longer role.Clock last o is next = absurd (no_clock t (sym (script_is w d t here) ∙ is))

    kept_longer : (k : RestingCaller) → after big h ≡ after w h → IsCallerResting w h d k → IsCallerResting big h d k
    kept_longer k nets is =
        record {
          role_is = role_longer k.role k.before is.role_is;
          next_is = next_longer k.role k.before k.next is.role_is is.next_is;
          own = is.own;
          owes = is.owes ∙ ap (λ (n : Net). n.owed d) (sym nets);
          entries_is = is.entries_is;
        }

  caller_grows : (k : RestingCaller) → after big h ≡ after w h → IsCallerResting w h d k → IsCallerResting big h d k
  caller_grows k nets is = elim (stays w.scripts c more d) [
    | Same e ↦ kept_same w (grown_scripts w.scripts c more) h d (as_many w.scripts c more) e k nets is
    | Longer t here there ↦ kept_longer t here there k nets is
  ]

-- The run.

pub rests_longer : NetsAlike → StaysLegal → StaysTimed → FinishedStay → FitsLonger → NextStays → (w : World) (c : ℕ) (more : List Step) (r : Resting) → Rests w r → IsWorld (grown w c more)
    → HasNextAtMoves w c r.history.entries → Rests (grown w c more) r
rests_longer nets legal timed finished fits next w c more r rests world moves =
    let h : List Entry = r.history.entries in
    let same : after (grown w c more) h ≡ after w h = nets w c more h in
    record {
      history = record { world = world; legal = legal w c more h rests.history.legal; timed = timed w c more h rests.history.timed moves };
      count_is = rests.count_is;
      callers_are = record {
        count = rests.callers_are.count ∙ ap (λ (n : ℕ). n + length w.media + 1) (sym (as_many w.scripts c more));
        each = λ d k at. caller_grows finished fits next w c more h rests.history.legal d k same (rests.callers_are.each d k at);
      };
      are = subst (λ (n : Net). AreActors (grown w c more) r.net n.actors) (sym same)
          (actors_are w (grown_scripts w.scripts c more) r.net (after w h).actors rests.are);
      ways_are = ways_of_world w (grown_scripts w.scripts c more) r.ways rests.ways_are;
      moment_is = rests.moment_is ∙ ap (λ (n : Net). n.moment) (sym same);
    }
