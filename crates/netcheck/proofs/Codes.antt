-- Two events, two replies and two headers are the same or not: each is told by its code, which gives it back.
use Rattle.std.proofs.Common.{◌≡◌, ℕ, ◌+◌, Bool, true, false, List, [], ◌∷◌, map, get_or, Option, Some, None, ◌⊎◌, inl, inr, refl, sym, ap, ◌∙◌}
use Rattle.std.proofs.lemmas.Bool.{cases_eq, true≢false}
use Rattle.net_base.specs.declared.actor.ActorName.{ActorName}
use Rattle.net_base.specs.declared.actor.ActorName.TheVariants as name
use Rattle.net_base.specs.declared.actor.Call.{Call}
use Rattle.net_base.specs.declared.address.Addr.{Addr}
use Rattle.net_base.specs.declared.address.Proto.{Proto}
use Rattle.net_base.specs.declared.address.Proto.TheVariants as proto
use Rattle.net_base.specs.declared.event.Event.{Event}
use Rattle.net_base.specs.declared.event.Event.TheVariants as event
use Rattle.net_base.specs.declared.il.Cause.{Cause}
use Rattle.net_base.specs.declared.il.Cause.TheVariants as cause
use Rattle.net_base.specs.declared.il.IlKind.{IlKind}
use Rattle.net_base.specs.declared.il.IlKind.TheVariants as kind
use Rattle.net_base.specs.declared.il.StateName.{StateName}
use Rattle.net_base.specs.declared.il.StateName.TheVariants as state
use Rattle.net_base.specs.declared.names.FileName.{FileName}
use Rattle.net_base.specs.declared.names.FileName.TheVariants as file
use Rattle.net_base.specs.declared.names.Mode.{Mode}
use Rattle.net_base.specs.declared.names.Mode.TheVariants as mode
use Rattle.net_base.specs.declared.packet.BodyHeader.{BodyHeader}
use Rattle.net_base.specs.declared.packet.BodyHeader.TheVariants as body
use Rattle.net_base.specs.declared.packet.Header.{Header}
use Rattle.net_base.specs.declared.reply.Reply.{Reply}
use Rattle.net_base.specs.declared.reply.Reply.TheVariants as reply

abbrev pub Decided : Type 0 → Type 0
Decided P = P ⊎ (P → ⊥)

-- Lists of lists of numbers.

abbrev is_nil : {A : Type 0} → List A → Bool
is_nil [] = true
is_nil (x ∷ xs) = false

abbrev head_or : {A : Type 0} → A → List A → A
head_or y [] = y
head_or y (x ∷ xs) = x

abbrev tail : {A : Type 0} → List A → List A
tail [] = []
tail (x ∷ xs) = xs

decide_list : {A : Type 0} → ((x y : A) → Decided (x ≡ y)) → (xs ys : List A) → Decided (xs ≡ ys)
decide_list {A} each [] [] = inl refl
decide_list {A} each [] (y ∷ ys) = inr (λ e. true≢false (ap is_nil e))
decide_list {A} each (x ∷ xs) [] = inr (λ e. true≢false (sym (ap is_nil e)))
decide_list {A} each (x ∷ xs) (y ∷ ys) = both (each x y) (decide_list each xs ys)
  where
    both : Decided (x ≡ y) → Decided (xs ≡ ys) → Decided (x ∷ xs ≡ y ∷ ys)
    both (inl one) (inl more) = inl (ap (λ (z : A). z ∷ xs) one ∙ ap (λ (zs : List A). y ∷ zs) more)
    both (inr other) more = inr (λ e. other (ap (λ (zs : List A). head_or x zs) e))
    both (inl one) (inr other) = inr (λ e. other (ap (λ (zs : List A). tail zs) e))

decide_code : (c d : List (List ℕ)) → Decided (c ≡ d)
decide_code = decide_list (decide_list cases_eq)

-- what a code gives back is decided by its code
by_code : {A : Type 0} (code : A → List (List ℕ)) (of : List (List ℕ) → A) → ((x : A) → of (code x) ≡ x) → (x y : A) → Decided (x ≡ y)
by_code {A} code of same x y = go (decide_code (code x) (code y))
  where
    go : Decided (code x ≡ code y) → Decided (x ≡ y)
    go (inl is) = inl (sym (same x) ∙ ap of is ∙ same y)
    go (inr other) = inr (λ e. other (ap code e))

-- The parts of a code.

abbrev text : List (List ℕ) → ℕ → List ℕ
text c n = get_or c n []

abbrev num : List (List ℕ) → ℕ → ℕ
num c n = get_or (text c 0) n 0

abbrev option_code : Option ℕ → List ℕ
option_code None = []
option_code (Some n) = n ∷ []

abbrev option_of : List ℕ → Option ℕ
option_of [] = None
option_of (n ∷ ns) = Some n

same_option : (o : Option ℕ) → option_of (option_code o) ≡ o
same_option None = refl
same_option (Some n) = refl

abbrev addr : List (List ℕ) → ℕ → Addr
addr c n = record { ip = num c n; port = num c (n + 1) }

abbrev call_code : Call → List ℕ
call_code k = k.slot ∷ k.generation ∷ []

abbrev call_of : List ℕ → Call
call_of xs = record { slot = get_or xs 0 0; generation = get_or xs 1 0 }

same_calls : (ks : List Call) → map call_of (map call_code ks) ≡ ks
same_calls [] = refl
same_calls (k ∷ ks) = ap (λ (js : List Call). k ∷ js) (same_calls ks)

abbrev mode_number : Mode → ℕ
mode_number mode.Read = 0
mode_number mode.Write = 1
mode_number mode.Both = 2

abbrev mode_of : ℕ → Mode
mode_of n = get_or (mode.Read ∷ mode.Write ∷ mode.Both ∷ []) n mode.Read

same_mode : (x : Mode) → mode_of (mode_number x) ≡ x
same_mode mode.Read = refl
same_mode mode.Write = refl
same_mode mode.Both = refl

abbrev file_number : FileName → ℕ
file_number file.Ctl = 0
file_number file.Data = 1
file_number file.Err = 2
file_number file.Listen = 3
file_number file.Local = 4
file_number file.Remote = 5
file_number file.Status = 6

abbrev file_of : ℕ → FileName
file_of n = get_or (file.Ctl ∷ file.Data ∷ file.Err ∷ file.Listen ∷ file.Local ∷ file.Remote ∷ file.Status ∷ []) n file.Ctl

same_file : (x : FileName) → file_of (file_number x) ≡ x
same_file file.Ctl = refl
same_file file.Data = refl
same_file file.Err = refl
same_file file.Listen = refl
same_file file.Local = refl
same_file file.Remote = refl
same_file file.Status = refl

abbrev state_number : StateName → ℕ
state_number state.Free = 0
state_number state.Reserved = 1
state_number state.Announced = 2
state_number state.Granted = 3
state_number state.Withdrawn = 4
state_number state.Closed = 5
state_number state.Syncer = 6
state_number state.Syncee = 7
state_number state.Established = 8
state_number state.Listening = 9
state_number state.Closing = 10
state_number state.Open = 11

abbrev state_of : ℕ → StateName
state_of n = get_or (state.Free ∷ state.Reserved ∷ state.Announced ∷ state.Granted ∷ state.Withdrawn ∷ state.Closed ∷ state.Syncer ∷ state.Syncee ∷ state.Established ∷ state.Listening ∷ state.Closing ∷ state.Open ∷ []) n state.Free

same_state : (x : StateName) → state_of (state_number x) ≡ x
same_state state.Free = refl
same_state state.Reserved = refl
same_state state.Announced = refl
same_state state.Granted = refl
same_state state.Withdrawn = refl
same_state state.Closed = refl
same_state state.Syncer = refl
same_state state.Syncee = refl
same_state state.Established = refl
same_state state.Listening = refl
same_state state.Closing = refl
same_state state.Open = refl

abbrev cause_number : Cause → ℕ
cause_number cause.Refused = 0
cause_number cause.TimedOut = 1
cause_number cause.Hungup = 2
cause_number cause.ByPeer = 3

abbrev cause_of : ℕ → Cause
cause_of n = get_or (cause.Refused ∷ cause.TimedOut ∷ cause.Hungup ∷ cause.ByPeer ∷ []) n cause.Refused

same_cause : (x : Cause) → cause_of (cause_number x) ≡ x
same_cause cause.Refused = refl
same_cause cause.TimedOut = refl
same_cause cause.Hungup = refl
same_cause cause.ByPeer = refl

abbrev proto_number : Proto → ℕ
proto_number proto.Il = 0
proto_number proto.Udp = 1

abbrev proto_of : ℕ → Proto
proto_of n = get_or (proto.Il ∷ proto.Udp ∷ []) n proto.Il

same_proto : (x : Proto) → proto_of (proto_number x) ≡ x
same_proto proto.Il = refl
same_proto proto.Udp = refl

abbrev kind_number : IlKind → ℕ
kind_number kind.Sync = 0
kind_number kind.Data = 1
kind_number kind.DataQuery = 2
kind_number kind.Ack = 3
kind_number kind.Query = 4
kind_number kind.State = 5
kind_number kind.Close = 6

abbrev kind_of : ℕ → IlKind
kind_of n = get_or (kind.Sync ∷ kind.Data ∷ kind.DataQuery ∷ kind.Ack ∷ kind.Query ∷ kind.State ∷ kind.Close ∷ []) n kind.Sync

same_kind : (x : IlKind) → kind_of (kind_number x) ≡ x
same_kind kind.Sync = refl
same_kind kind.Data = refl
same_kind kind.DataQuery = refl
same_kind kind.Ack = refl
same_kind kind.Query = refl
same_kind kind.State = refl
same_kind kind.Close = refl

-- Events.

abbrev event_code : Event → List (List ℕ)
event_code (event.Cs t) = (0 ∷ []) ∷ t ∷ []
event_code (event.LsPath t) = (1 ∷ []) ∷ t ∷ []
event_code (event.OpenPath t m) = (2 ∷ mode_number m ∷ []) ∷ t ∷ []
event_code (event.Use t) = (3 ∷ []) ∷ t ∷ []
event_code (event.Misuse t) = (4 ∷ []) ∷ t ∷ []
event_code (event.Until n) = (5 ∷ n ∷ []) ∷ []
event_code event.Reserve = (6 ∷ []) ∷ []
event_code (event.Grant n n2 a o) = (7 ∷ n ∷ n2 ∷ a.ip ∷ a.port ∷ []) ∷ option_code o ∷ []
event_code (event.Announce n n2 o o2) = (8 ∷ n ∷ n2 ∷ []) ∷ option_code o ∷ option_code o2 ∷ []
event_code (event.Bind n n2 n3) = (9 ∷ n ∷ n2 ∷ n3 ∷ []) ∷ []
event_code (event.Listen n) = (10 ∷ n ∷ []) ∷ []
event_code (event.Withdraw n n2) = (11 ∷ n ∷ n2 ∷ []) ∷ []
event_code (event.Release n n2) = (12 ∷ n ∷ n2 ∷ []) ∷ []
event_code event.Arrive = (13 ∷ []) ∷ []
event_code event.Ls = (14 ∷ []) ∷ []
event_code (event.Begin n) = (15 ∷ n ∷ []) ∷ []
event_code (event.Born n) = (16 ∷ n ∷ []) ∷ []
event_code (event.Claim n) = (17 ∷ n ∷ []) ∷ []
event_code (event.Connect n) = (18 ∷ n ∷ []) ∷ []
event_code (event.Announced n) = (19 ∷ n ∷ []) ∷ []
event_code (event.Bound n) = (20 ∷ n ∷ []) ∷ []
event_code (event.Await n) = (21 ∷ n ∷ []) ∷ []
event_code (event.Open f m) = (22 ∷ file_number f ∷ mode_number m ∷ []) ∷ []
event_code (event.File n f n2) = (23 ∷ n ∷ file_number f ∷ n2 ∷ []) ∷ []
event_code (event.Read n n2) = (24 ∷ n ∷ n2 ∷ []) ∷ []
event_code (event.Write n t) = (25 ∷ n ∷ []) ∷ t ∷ []
event_code (event.Hangup n) = (26 ∷ n ∷ []) ∷ []
event_code (event.Ttl n n2) = (27 ∷ n ∷ n2 ∷ []) ∷ []
event_code (event.Tos n n2) = (28 ∷ n ∷ n2 ∷ []) ∷ []
event_code (event.Ctl n t) = (29 ∷ n ∷ []) ∷ t ∷ []
event_code (event.Close n) = (30 ∷ n ∷ []) ∷ []
event_code (event.ArriveAt n) = (31 ∷ n ∷ []) ∷ []
event_code (event.Tick n) = (32 ∷ n ∷ []) ∷ []
event_code (event.Put o) = (33 ∷ []) ∷ option_code o ∷ []
event_code event.Take = (34 ∷ []) ∷ []
event_code (event.Move n) = (35 ∷ n ∷ []) ∷ []
event_code event.Refresh = (36 ∷ []) ∷ []

abbrev events_of : List (List ℕ) → List Event
events_of c =
    event.Cs (text c 1)
    ∷ event.LsPath (text c 1)
    ∷ event.OpenPath (text c 1) (mode_of (num c 1))
    ∷ event.Use (text c 1)
    ∷ event.Misuse (text c 1)
    ∷ event.Until (num c 1)
    ∷ event.Reserve
    ∷ event.Grant (num c 1) (num c 2) (addr c 3) (option_of (text c 1))
    ∷ event.Announce (num c 1) (num c 2) (option_of (text c 1)) (option_of (text c 2))
    ∷ event.Bind (num c 1) (num c 2) (num c 3)
    ∷ event.Listen (num c 1)
    ∷ event.Withdraw (num c 1) (num c 2)
    ∷ event.Release (num c 1) (num c 2)
    ∷ event.Arrive
    ∷ event.Ls
    ∷ event.Begin (num c 1)
    ∷ event.Born (num c 1)
    ∷ event.Claim (num c 1)
    ∷ event.Connect (num c 1)
    ∷ event.Announced (num c 1)
    ∷ event.Bound (num c 1)
    ∷ event.Await (num c 1)
    ∷ event.Open (file_of (num c 1)) (mode_of (num c 2))
    ∷ event.File (num c 1) (file_of (num c 2)) (num c 3)
    ∷ event.Read (num c 1) (num c 2)
    ∷ event.Write (num c 1) (text c 1)
    ∷ event.Hangup (num c 1)
    ∷ event.Ttl (num c 1) (num c 2)
    ∷ event.Tos (num c 1) (num c 2)
    ∷ event.Ctl (num c 1) (text c 1)
    ∷ event.Close (num c 1)
    ∷ event.ArriveAt (num c 1)
    ∷ event.Tick (num c 1)
    ∷ event.Put (option_of (text c 1))
    ∷ event.Take
    ∷ event.Move (num c 1)
    ∷ event.Refresh
    ∷ []

abbrev event_of : List (List ℕ) → Event
event_of c = get_or (events_of c) (num c 0) event.Reserve

same_event : (e : Event) → event_of (event_code e) ≡ e
same_event (event.Cs t) = refl
same_event (event.LsPath t) = refl
same_event (event.OpenPath t m) = rw (same_mode m) refl
same_event (event.Use t) = refl
same_event (event.Misuse t) = refl
same_event (event.Until n) = refl
same_event event.Reserve = refl
same_event (event.Grant n n2 a o) = rw (same_option o) refl
same_event (event.Announce n n2 o o2) = rw (same_option o, same_option o2) refl
same_event (event.Bind n n2 n3) = refl
same_event (event.Listen n) = refl
same_event (event.Withdraw n n2) = refl
same_event (event.Release n n2) = refl
same_event event.Arrive = refl
same_event event.Ls = refl
same_event (event.Begin n) = refl
same_event (event.Born n) = refl
same_event (event.Claim n) = refl
same_event (event.Connect n) = refl
same_event (event.Announced n) = refl
same_event (event.Bound n) = refl
same_event (event.Await n) = refl
same_event (event.Open f m) = rw (same_file f, same_mode m) refl
same_event (event.File n f n2) = rw (same_file f) refl
same_event (event.Read n n2) = refl
same_event (event.Write n t) = refl
same_event (event.Hangup n) = refl
same_event (event.Ttl n n2) = refl
same_event (event.Tos n n2) = refl
same_event (event.Ctl n t) = refl
same_event (event.Close n) = refl
same_event (event.ArriveAt n) = refl
same_event (event.Tick n) = refl
same_event (event.Put o) = rw (same_option o) refl
same_event event.Take = refl
same_event (event.Move n) = refl
same_event event.Refresh = refl

-- Replies.

abbrev reply_code : Reply → List (List ℕ)
reply_code (reply.Lines ls) = (0 ∷ []) ∷ ls
reply_code (reply.CsRefused n) = (1 ∷ n ∷ []) ∷ []
reply_code (reply.Names ls) = (2 ∷ []) ∷ ls
reply_code reply.NoFile = (3 ∷ []) ∷ []
reply_code reply.BadMode = (4 ∷ []) ∷ []
reply_code reply.BadFid = (5 ∷ []) ∷ []
reply_code reply.Ok = (6 ∷ []) ∷ []
reply_code (reply.Slot n n2) = (7 ∷ n ∷ n2 ∷ []) ∷ []
reply_code reply.NoSlot = (8 ∷ []) ∷ []
reply_code (reply.Granted p n n2) = (9 ∷ p.local.ip ∷ p.local.port ∷ p.remote.ip ∷ p.remote.port ∷ n ∷ n2 ∷ []) ∷ []
reply_code (reply.WrongState s) = (10 ∷ state_number s ∷ []) ∷ []
reply_code reply.NoRoute = (11 ∷ []) ∷ []
reply_code reply.NoPort = (12 ∷ []) ∷ []
reply_code reply.SelfPair = (13 ∷ []) ∷ []
reply_code (reply.PairUsed n) = (14 ∷ n ∷ []) ∷ []
reply_code (reply.PortTaken n) = (15 ∷ n ∷ []) ∷ []
reply_code (reply.Call n n2) = (16 ∷ n ∷ n2 ∷ []) ∷ []
reply_code (reply.Calls cs) = (17 ∷ []) ∷ map call_code cs
reply_code (reply.To n n2) = (18 ∷ n ∷ n2 ∷ []) ∷ []
reply_code (reply.Born n n2 n3 n4) = (19 ∷ n ∷ n2 ∷ n3 ∷ n4 ∷ []) ∷ []
reply_code reply.Refused = (20 ∷ []) ∷ []
reply_code reply.Dropped = (21 ∷ []) ∷ []
reply_code reply.Stale = (22 ∷ []) ∷ []
reply_code (reply.Hungup k) = (23 ∷ cause_number k ∷ []) ∷ []
reply_code (reply.Opened n) = (24 ∷ n ∷ []) ∷ []
reply_code reply.NotOpen = (25 ∷ []) ∷ []
reply_code (reply.Bytes t) = (26 ∷ []) ∷ t ∷ []
reply_code (reply.Count n) = (27 ∷ n ∷ []) ∷ []
reply_code reply.ZeroWrite = (28 ∷ []) ∷ []
reply_code (reply.TooLong n n2) = (29 ∷ n ∷ n2 ∷ []) ∷ []
reply_code reply.Left = (30 ∷ []) ∷ []
reply_code (reply.BadCtl n) = (31 ∷ n ∷ []) ∷ []
reply_code reply.Took = (32 ∷ []) ∷ []
reply_code reply.Full = (33 ∷ []) ∷ []
reply_code reply.Ticked = (34 ∷ []) ∷ []
reply_code reply.NotDue = (35 ∷ []) ∷ []
reply_code (reply.Laid n) = (36 ∷ n ∷ []) ∷ []
reply_code reply.TooBig = (37 ∷ []) ∷ []
reply_code reply.NoStation = (38 ∷ []) ∷ []
reply_code (reply.Copy n) = (39 ∷ n ∷ []) ∷ []
reply_code (reply.Version n) = (40 ∷ n ∷ []) ∷ []

abbrev replys_of : List (List ℕ) → List Reply
replys_of c =
    reply.Lines (tail c)
    ∷ reply.CsRefused (num c 1)
    ∷ reply.Names (tail c)
    ∷ reply.NoFile
    ∷ reply.BadMode
    ∷ reply.BadFid
    ∷ reply.Ok
    ∷ reply.Slot (num c 1) (num c 2)
    ∷ reply.NoSlot
    ∷ reply.Granted (record { local = addr c 1; remote = addr c 3 }) (num c 5) (num c 6)
    ∷ reply.WrongState (state_of (num c 1))
    ∷ reply.NoRoute
    ∷ reply.NoPort
    ∷ reply.SelfPair
    ∷ reply.PairUsed (num c 1)
    ∷ reply.PortTaken (num c 1)
    ∷ reply.Call (num c 1) (num c 2)
    ∷ reply.Calls (map call_of (tail c))
    ∷ reply.To (num c 1) (num c 2)
    ∷ reply.Born (num c 1) (num c 2) (num c 3) (num c 4)
    ∷ reply.Refused
    ∷ reply.Dropped
    ∷ reply.Stale
    ∷ reply.Hungup (cause_of (num c 1))
    ∷ reply.Opened (num c 1)
    ∷ reply.NotOpen
    ∷ reply.Bytes (text c 1)
    ∷ reply.Count (num c 1)
    ∷ reply.ZeroWrite
    ∷ reply.TooLong (num c 1) (num c 2)
    ∷ reply.Left
    ∷ reply.BadCtl (num c 1)
    ∷ reply.Took
    ∷ reply.Full
    ∷ reply.Ticked
    ∷ reply.NotDue
    ∷ reply.Laid (num c 1)
    ∷ reply.TooBig
    ∷ reply.NoStation
    ∷ reply.Copy (num c 1)
    ∷ reply.Version (num c 1)
    ∷ []

abbrev reply_of : List (List ℕ) → Reply
reply_of c = get_or (replys_of c) (num c 0) reply.NoFile

same_reply : (e : Reply) → reply_of (reply_code e) ≡ e
same_reply (reply.Lines ls) = refl
same_reply (reply.CsRefused n) = refl
same_reply (reply.Names ls) = refl
same_reply reply.NoFile = refl
same_reply reply.BadMode = refl
same_reply reply.BadFid = refl
same_reply reply.Ok = refl
same_reply (reply.Slot n n2) = refl
same_reply reply.NoSlot = refl
same_reply (reply.Granted p n n2) = refl
same_reply (reply.WrongState s) = rw (same_state s) refl
same_reply reply.NoRoute = refl
same_reply reply.NoPort = refl
same_reply reply.SelfPair = refl
same_reply (reply.PairUsed n) = refl
same_reply (reply.PortTaken n) = refl
same_reply (reply.Call n n2) = refl
same_reply (reply.Calls cs) = rw (same_calls cs) refl
same_reply (reply.To n n2) = refl
same_reply (reply.Born n n2 n3 n4) = refl
same_reply reply.Refused = refl
same_reply reply.Dropped = refl
same_reply reply.Stale = refl
same_reply (reply.Hungup k) = rw (same_cause k) refl
same_reply (reply.Opened n) = refl
same_reply reply.NotOpen = refl
same_reply (reply.Bytes t) = refl
same_reply (reply.Count n) = refl
same_reply reply.ZeroWrite = refl
same_reply (reply.TooLong n n2) = refl
same_reply reply.Left = refl
same_reply (reply.BadCtl n) = refl
same_reply reply.Took = refl
same_reply reply.Full = refl
same_reply reply.Ticked = refl
same_reply reply.NotDue = refl
same_reply (reply.Laid n) = refl
same_reply reply.TooBig = refl
same_reply reply.NoStation = refl
same_reply (reply.Copy n) = refl
same_reply (reply.Version n) = refl

-- Actors, headers.

abbrev actor_code : ActorName → List (List ℕ)
actor_code (name.Desk h) = (0 ∷ h ∷ []) ∷ []
actor_code (name.Dir h p) = (1 ∷ h ∷ proto_number p ∷ []) ∷ []
actor_code (name.Conv h p n) = (2 ∷ h ∷ proto_number p ∷ n ∷ []) ∷ []
actor_code (name.Medium m) = (3 ∷ m ∷ []) ∷ []
actor_code name.Clock = (4 ∷ []) ∷ []

abbrev actors_of : List (List ℕ) → List ActorName
actors_of c =
    name.Desk (num c 1)
    ∷ name.Dir (num c 1) (proto_of (num c 2))
    ∷ name.Conv (num c 1) (proto_of (num c 2)) (num c 3)
    ∷ name.Medium (num c 1)
    ∷ []

abbrev actor_of : List (List ℕ) → ActorName
actor_of c = get_or (actors_of c) (num c 0) name.Clock

same_name : (a : ActorName) → actor_of (actor_code a) ≡ a
same_name (name.Desk h) = refl
same_name (name.Dir h p) = rw (same_proto p) refl
same_name (name.Conv h p n) = rw (same_proto p) refl
same_name (name.Medium m) = refl
same_name name.Clock = refl

abbrev body_code : BodyHeader → List ℕ
body_code (body.Il k spec id ack length) = 0 ∷ kind_number k ∷ spec ∷ id ∷ ack ∷ length ∷ []
body_code (body.Udp length) = 1 ∷ length ∷ []

abbrev body_of : List ℕ → BodyHeader
body_of xs =
    get_or
    (body.Il (kind_of (get_or xs 1 0)) (get_or xs 2 0) (get_or xs 3 0) (get_or xs 4 0) (get_or xs 5 0) ∷ body.Udp (get_or xs 1 0) ∷ [])
    (get_or xs 0 0) (body.Udp 0)

same_body : (b : BodyHeader) → body_of (body_code b) ≡ b
same_body (body.Il k spec id ack length) = rw (same_kind k) refl
same_body (body.Udp length) = refl

abbrev header_code : Option Header → List (List ℕ)
header_code None = []
header_code (Some h) = (h.src.ip ∷ h.src.port ∷ h.dst.ip ∷ h.dst.port ∷ h.ttl ∷ h.tos ∷ []) ∷ body_code h.body ∷ []

abbrev header_of : List (List ℕ) → Option Header
header_of [] = None
header_of (xs ∷ xss) =
    let c = xs ∷ xss in
    Some (record { src = addr c 0; dst = addr c 2; ttl = num c 4; tos = num c 5; body = body_of (text c 1) })

same_header : (o : Option Header) → header_of (header_code o) ≡ o
same_header None = refl
same_header (Some h) = rw (same_body h.body) refl

-- So each two are the same or not.

pub decide_event : (e f : Event) → Decided (e ≡ f)
decide_event = by_code event_code event_of same_event

pub decide_reply : (e f : Reply) → Decided (e ≡ f)
decide_reply = by_code reply_code reply_of same_reply

pub decide_actor : (a b : ActorName) → Decided (a ≡ b)
decide_actor = by_code actor_code actor_of same_name

pub decide_header : (o p : Option Header) → Decided (o ≡ p)
decide_header = by_code header_code header_of same_header
