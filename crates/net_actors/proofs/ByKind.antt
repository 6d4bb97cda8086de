-- What an actor keeps answers as the actor of the definitions.
use Rattle.std.proofs.Common.{◌≡◌, ℕ, Bool, true, List, Option, Some, None, Result, Ok, Err, IfOk, OnErr, slice_get, is_some, refl, ap, sym, subst, ◌∙◌}
use Rattle.std.specs.Prelude.{IfSome}
use Rattle.std.specs.Option.{option_map, option_and_then}
use Rattle.std.proofs.lemmas.Bool.{false≢true}
use Rattle.std.proofs.lemmas.Option.{none-some, same_Some}
use Rattle.net_base.specs.declared.actor.ActorName.{ActorName}
use Rattle.net_base.specs.declared.actor.ActorName.TheVariants as name
use Rattle.net_base.specs.declared.address.Proto.{Proto}
use Rattle.net_base.specs.declared.event.Event.{Event}
use Rattle.net_base.specs.declared.event.Event.TheVariants as event
use Rattle.net_base.specs.declared.history.Outcome.{Outcome}
use Rattle.net_base.specs.declared.history.Work.{Work}
use Rattle.net_base.specs.declared.reply.Reply.{Reply}
use Rattle.net_base.specs.declared.world.HostSpec.{HostSpec}
use Rattle.net_base.specs.declared.world.MediumSpec.{MediumSpec}
use Rattle.net_base.specs.declared.world.Version.{Version}
use Rattle.net_base.specs.declared.world.World.{World}
use Rattle.net_base.specs.ActorStep.{Step, replies, when}
use Rattle.net_base.specs.Actors.{Actor, IsDesk, IsConv, IsDir, IsMedium, IsPlain, actor_step, has_actor, plain_step, step_as, table_step}
use Rattle.net_base.specs.Conversation.{Conv, conv_step}
use Rattle.net_base.specs.Cs.{cs_list}
use Rattle.net_base.specs.Desk.{Desk, clock_reply, cs_reply, desk_after, desk_replies, desk_reply, desk_step}
use Rattle.net_base.specs.Directory.{dir_step}
use Rattle.net_base.specs.Duties.{due_of_core}
use Rattle.net_base.specs.Medium.{medium_step}
use Rattle.net_base.specs.Versions.{database_of}
use Rattle.conversation.specs.Kept.{Seat}
use Rattle.conversation.specs.Memory.{work_takes}
use Rattle.conversation.specs.Stands.{StandsFor, StandsForSome, GivesSeat, IsShort, IsSeatReady as IsTalkReady, Says, step_at}
use Rattle.host_dir.specs.Ready.{is_row_ready}
use Rattle.host_dir.proofs.Shared.{ready_is}
use Rattle.medium.specs.OnMedium.{OnMedium, medium_laid}
use Rattle.net_actors.specs.AtDesk.{AtDesk, IsAtHost, IsAtSome, IsDeskOf, Replies, desk_at, host_at_desk, leaves_desk}
use Rattle.net_actors.specs.Kept.{IsActorOf, IsMediumOf, KeepsKind, seen_kept, kept_state}
use Rattle.net_actors.specs.Stepping.{IsKeptReady, KindSteps, StepsKept, kind_ready}
use Rattle.net_actors.specs.declared.actor.Actor.{Actor as Kept}
use Rattle.net_actors.specs.declared.kind.Kind.{Kind}
use Rattle.net_actors.specs.declared.kind.Kind.TheVariants as kind
use Rattle.history_laws.specs.ActorRows.{DeskRow, Refreshes}
use Rattle.history_laws.proofs.Shared.{desk_rows, map_some, table_copies}

some_map : {A B : Type 0} (f : A → B) (t : Option A) → is_some t ≡ is_some (option_map f t)
some_map f None = refl
some_map f (Some x) = refl

-- Desks.

same_desk : (dbs : List Version) (d : AtDesk) (h : HostSpec) (e : Event) (now : ℕ) → IsAtHost d h → desk_reply dbs h e now (desk_at d) ≡ desk_reply dbs (host_at_desk d) e now (desk_at d)
same_desk dbs d h (event.Cs q) now at =
    ap (λ (x : List ℕ). Some (cs_reply (cs_list (database_of dbs d.version) x h.nets q))) (sym at.name_is)
    ∙ ap (λ (x : List Proto). Some (cs_reply (cs_list (database_of dbs d.version) d.name x q))) (sym at.nets_are)
same_desk dbs d h _ now at = refl

at_host : (w : World) (d : AtDesk) (h : Option HostSpec) (e : Event) (now : ℕ) → d.dbs ≡ w.dbs → IsAtSome d h
    → option_and_then (λ (host : HostSpec). step_as IsDesk (desk_step w.dbs host e now (desk_at d))) h ≡ step_as IsDesk (desk_step d.dbs (host_at_desk d) e now (desk_at d))
at_host w d None e now is at = absurd at
at_host w d (Some h) e now is at =
    ap (λ (r : Option Reply). step_as IsDesk (option_map (desk_replies (desk_at d)) r)) (same_desk w.dbs d h e now at)
    ∙ ap (λ (dbs : List Version). step_as IsDesk (desk_step dbs (host_at_desk d) e now (desk_at d))) (sym is)

-- with another version it is of the same host
at_version : (d : AtDesk) (n : ℕ) (h : Option HostSpec) → IsAtSome d h → IsAtSome (record d { version = n }) h
at_version d n None at = at
at_version d n (Some h) at = record { name_is = at.name_is; nets_are = at.nets_are }

desk_keeps : (w : World) (h : ℕ) (d : AtDesk) (n : ℕ) → IsDeskOf w h d → IsDeskOf w h (record d { version = n })
desk_keeps w h d n keeps = record { databases = keeps.databases; host = at_version d n (slice_get w.hosts h) keeps.host }

-- Only a version that is replied changes a desk.

row_stays : (dbs : List Version) (h : HostSpec) (now : ℕ) (d : Desk) (e : Event) (r : Reply) → leaves_desk e ≡ true → DeskRow dbs h now d e r → desk_after r d ≡ d
row_stays dbs h now d e r leaves Refreshes = absurd (false≢true leaves)
row_stays dbs h now d e r leaves _ = refl

-- where there is a reply, it leaves the desk
abbrev Stays : Desk → Option Reply → Type 0
Stays d o = IfSome o (λ r. desk_after r d ≡ d)

reply_stays : (dbs : List Version) (h : HostSpec) (e : Event) (now : ℕ) (d : Desk) → leaves_desk e ≡ true → Stays d (desk_reply dbs h e now d)
reply_stays dbs h e now d leaves = map_some (desk_reply dbs h e now d) _ _ (desk_rows dbs h now d e) (λ r row. row_stays dbs h now d e r leaves row)

desk_gives : (d : Desk) (answer : Option Reply) (o : Outcome) → Stays d answer → Replies answer o → option_map (desk_replies d) answer ≡ Some (record { state = d; outcome = o })
desk_gives d None o stays is = absurd (none-some _ is)
desk_gives d (Some r) o stays is =
    ap (λ (x : Desk). Some (record { state = x; outcome = replies r None })) stays
    ∙ ap (λ (x : Outcome). Some (record { state = d; outcome = x })) (same_Some (replies r None) o is)

-- any other event leaves the desk as it is
pub leaves_but : (e : Event) → (e ≡ event.Refresh → ⊥) → leaves_desk e ≡ true
leaves_but event.Refresh other = absurd (other refl)
leaves_but _ other = refl

-- what a desk tells is its step, where the event leaves it
pub told_steps : {E : Type 0} (r : Result Outcome E) (dbs : List Version) (h : HostSpec) (e : Event) (now : ℕ) (d : Desk) → leaves_desk e ≡ true
    → IfOk r (Replies (desk_reply dbs h e now d)) → IfOk r (λ (o : Outcome). desk_step dbs h e now d ≡ Some (record { state = d; outcome = o }))
told_steps (Ok o) dbs h e now d leaves is = desk_gives d (desk_reply dbs h e now d) o (reply_stays dbs h e now d leaves) is
told_steps (Err why) dbs h e now d leaves is = tt

-- The clock.

plain_gives : (answer : Option Reply) (o : Outcome) → Replies answer o → option_map plain_step answer ≡ Some (record { state = IsPlain; outcome = o })
plain_gives None o is = absurd (none-some _ is)
plain_gives (Some r) o is = ap (λ (x : Outcome). Some (record { state = IsPlain; outcome = x })) (same_Some (replies r None) o is)

-- Conversations.

-- it stands for what it keeps
itself : (c : Seat) → StandsFor c c.conv
unfolding StandsFor
itself c = refl

-- what it says, it says of what it keeps
pub told_ready : (c : Seat) (now : ℕ) (work : Work) (told : Bool) → ((t : ℕ) → Says c told (λ (k : Conv). is_some (step_at c t work k))) → told ≡ is_some (step_at c now work c.conv)
told_ready c now work told says = says now c.conv (itself c)

pub told_due : (c : Seat) (told : Option ℕ) → Says c told (λ (k : Conv). due_of_core k.core) → told ≡ due_of_core c.conv.core
told_due c told says = says c.conv (itself c)

pub told_generation : (c : Seat) (told : ℕ) → Says c told (λ (k : Conv). k.generation) → told ≡ c.conv.generation
told_generation c told says = says c.conv (itself c)

pub is_short : (c : Seat) → IsShort c.conv → StandsForSome c IsShort
is_short c short = (c.conv, (itself c, short))

pub talk_ready : (c : Seat) (now : ℕ) (work : Work) → is_some (step_at c now work c.conv) ≡ true → IsTalkReady c now work
talk_ready c now work ready = (c.conv, (itself c, ready))

-- what it says of want of memory, it says of what it keeps
pub talk_wants : {E : Type 0} (r : Result Outcome E) (c : Seat) (now : ℕ) (work : Work) → OnErr r (Says c true (work_takes now work))
    → OnErr r (work_takes now work c.conv ≡ true)
talk_wants (Ok o) c now work says = tt
talk_wants (Err e) c now work says = sym (says c.conv (itself c))

-- it keeps what it stands for
pub kept_is : (c : Seat) (s : Conv) → StandsFor c s → c.conv ≡ s
unfolding StandsFor
kept_is c s is = is

talk_gives : (new : Seat) (o : Outcome) (t : Option (Step Conv)) → GivesSeat new o t → t ≡ Some (record { state = new.conv; outcome = o })
talk_gives new o None g = absurd g
talk_gives new o (Some t) g =
    ap (λ (s : Conv). Some (record { state = s; outcome = t.outcome })) (sym (kept_is new t.state g.0))
    ∙ ap (λ (x : Outcome). Some (record { state = new.conv; outcome = x })) (sym g.1)

-- Media.

at_medium : (w : World) (m : OnMedium) (n : ℕ) (work : Work) → IsMediumOf w n m
    → option_and_then (λ (spec : MediumSpec). step_as IsMedium (medium_step spec w.seed work.event work.with (medium_laid m))) (slice_get w.media n)
    ≡ step_as IsMedium (medium_step m.spec m.seed work.event work.with (medium_laid m))
at_medium w m n work is =
    ap (λ (x : Option MediumSpec). option_and_then (λ (spec : MediumSpec). step_as IsMedium (medium_step spec w.seed work.event work.with (medium_laid m))) x) is.spec_is
    ∙ ap (λ (seed : ℕ). step_as IsMedium (medium_step m.spec seed work.event work.with (medium_laid m))) (sym is.seed_is)

-- Actors.

-- the table of an actor that the world has
in_world : (w : World) (a : ActorName) (s : Actor) (now : ℕ) (work : Work) → has_actor w a ≡ true → actor_step w a s now work ≡ table_step w a s now work
in_world w a s now work has = ap (λ (b : Bool). when b (table_step w a s now work)) has

-- what is kept tells whether the table answers
table_ready : (w : World) (a : ActorName) (k : Kind) (now : ℕ) (work : Work) → KeepsKind w a k → kind_ready k now work ≡ is_some (table_step w a (seen_kept k) now work)
table_ready w (name.Desk h) (kind.Desk d) now work keeps =
    some_map (desk_replies (desk_at d)) (desk_reply d.dbs (host_at_desk d) work.event now (desk_at d))
    ∙ (some_map _ (desk_step d.dbs (host_at_desk d) work.event now (desk_at d))
    ∙ ap (λ (t : Option (Step Actor)). is_some t) (sym (at_host w d (slice_get w.hosts h) work.event now keeps.databases keeps.host)))
table_ready w (name.Dir h p) (kind.Dir d) now work keeps =
    ap (λ (q : Proto). is_row_ready q work.event work.with d.dir) keeps.proto_is
    ∙ (ready_is w h p work.event work.with d.dir ∙ some_map _ (dir_step w h p work.event work.with d.dir))
table_ready w (name.Conv h p n) (kind.Conv c) now work keeps =
    ap (λ (m : ℕ). is_some (conv_step m work.event work.with now c.conv)) keeps ∙ some_map _ (conv_step n work.event work.with now c.conv)
table_ready w (name.Medium n) (kind.Medium m) now work keeps =
    some_map _ (medium_step m.spec m.seed work.event work.with (medium_laid m)) ∙ ap (λ (t : Option (Step Actor)). is_some t) (sym (at_medium w m n work keeps))
table_ready w name.Clock kind.Clock now work keeps = some_map plain_step (clock_reply work.event)
table_ready w _ _ now work keeps = absurd keeps

told_of : (a : Kept) (now : ℕ) (work : Work) (w : World) → IsActorOf w a → kind_ready a.kind now work ≡ is_some (actor_step w a.name (kept_state a) now work)
unfolding IsActorOf
told_of a now work w of =
    table_ready w a.name a.kind now work of.1 ∙ ap (λ (t : Option (Step Actor)). is_some t) (sym (in_world w a.name (seen_kept a.kind) now work of.0))

pub told_in : (a : Kept) (now : ℕ) (work : Work) (told : Bool) → told ≡ kind_ready a.kind now work
    → (w : World) → IsActorOf w a → told ≡ is_some (actor_step w a.name (kept_state a) now work)
told_in a now work told is w of = is ∙ told_of a now work w of

pub ready_of : (a : Kept) (now : ℕ) (work : Work) → IsKeptReady a now work → kind_ready a.kind now work ≡ true
ready_of a now work r = told_of a now work r.0 r.1 ∙ r.2

-- what is kept steps as the table does, and is still kept of the world
table_steps : (w : World) (a : ActorName) (k l : Kind) (now : ℕ) (work : Work) (o : Outcome) → KeepsKind w a k → KindSteps k l now work o
    → KeepsKind w a l × (table_step w a (seen_kept k) now work ≡ Some (record { state = seen_kept l; outcome = o }))
table_steps w (name.Desk h) (kind.Desk d) (kind.Desk e) now work o keeps s = (
  subst (IsDeskOf w h) (sym s.same) (desk_keeps w h d e.version keeps),
  at_host w d (slice_get w.hosts h) work.event now keeps.databases keeps.host ∙ ap (step_as IsDesk) s.step,
)
table_steps w (name.Dir h p) (kind.Dir d) (kind.Dir e) now work o keeps s = let t = s w h p keeps in (t.0, ap (step_as IsDir) t.1)
table_steps w (name.Conv h p n) (kind.Conv c) (kind.Conv d) now work o keeps s = (
  s.slot ∙ keeps,
  ap (λ (m : ℕ). step_as IsConv (conv_step m work.event work.with now c.conv)) (sym keeps)
      ∙ ap (step_as IsConv) (talk_gives d o (step_at c now work c.conv) (s.step c.conv (itself c))),
)
table_steps w (name.Medium n) (kind.Medium m) (kind.Medium l) now work o keeps s = (
  record { spec_is = keeps.spec_is ∙ ap (λ (x : MediumSpec). Some x) (sym s.spec); seed_is = s.seed ∙ keeps.seed_is },
  at_medium w m n work keeps ∙ ap (step_as IsMedium) s.step,
)
table_steps w name.Clock kind.Clock kind.Clock now work o keeps s = (tt, plain_gives (clock_reply work.event) o s)
table_steps w (name.Desk h) (kind.Desk d) _ now work o keeps s = absurd s
table_steps w (name.Dir h p) (kind.Dir d) _ now work o keeps s = absurd s
table_steps w (name.Conv h p n) (kind.Conv c) _ now work o keeps s = absurd s
table_steps w (name.Medium n) (kind.Medium m) _ now work o keeps s = absurd s
table_steps w name.Clock kind.Clock _ now work o keeps s = absurd s
table_steps w _ _ _ now work o keeps s = absurd keeps

steps_in : (a : Kept) (l : Kind) (now : ℕ) (work : Work) (o : Outcome) → KindSteps a.kind l now work o → StepsKept a (record { name = a.name; kind = l }) now work o
unfolding IsActorOf
steps_in a l now work o s w of =
    let t = table_steps w a.name a.kind l now work o of.1 s in
    record { of_world = (of.0, t.0); step = in_world w a.name (seen_kept a.kind) now work of.0 ∙ t.1 }

-- an outcome of what is kept has its reply twice
copy_of : (a : Kept) (l : Kind) (now : ℕ) (work : Work) (o : Outcome) → IsKeptReady a now work → KindSteps a.kind l now work o → o.copy ≡ Some o.reply
unfolding IsActorOf
copy_of a l now work o r s =
    table_copies r.0 a.name (seen_kept a.kind) (seen_kept l) now work o (table_steps r.0 a.name a.kind l now work o r.1.1 s).1

pub steps_if : {E : Type 0} (r : Result Outcome E) (a : Kept) (l : Kind) (now : ℕ) (work : Work) → IfOk r (KindSteps a.kind l now work) → IfOk r (StepsKept a (record { name = a.name; kind = l }) now work)
steps_if (Ok o) a l now work is = steps_in a l now work o is
steps_if (Err e) a l now work is = tt

pub copy_if : {E : Type 0} (r : Result Outcome E) (a : Kept) (l : Kind) (now : ℕ) (work : Work) → IsKeptReady a now work → IfOk r (KindSteps a.kind l now work) → IfOk r (λ (o : Outcome). o.copy ≡ Some o.reply)
copy_if (Ok o) a l now work ready is = copy_of a l now work o ready is
copy_if (Err e) a l now work ready is = tt

pub of_world : (w : World) (a : ActorName) (k : Kind) → has_actor w a ≡ true → KeepsKind w a k → IsActorOf w (record { name = a; kind = k })
unfolding IsActorOf
of_world w a k has keeps = (has, keeps)
