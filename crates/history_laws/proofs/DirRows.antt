-- What a directory's step leaves of its slots, and what its reply owes.
use Rattle.std.proofs.Common.{◌≡◌, ℕ, ◌+◌, ◌-◌, ◌<◌, ◌≤◌, ◌==◌, ◌⊎◌, min, true, false, List, [], ◌∷◌, ◌++◌, Option, Some, None, slice_get, slice_set, inl, inr, refl, sym, ap, subst, ◌∙◌, arith}
use Rattle.std.specs.Prelude.{IfSome, unwrap_or}
use Rattle.std.proofs.lemmas.Bool.{and_parts, true≢false}
use Rattle.std.proofs.lemmas.Bool.Decides.{eqb_tells}
use Rattle.std.proofs.lemmas.Option.{none-some, same_Some, slice_get_within}
use Rattle.net_base.specs.declared.timer.Timers.TheVariants.{Fixed}
use Rattle.net_base.specs.declared.actor.ActorName.TheVariants as name
use Rattle.net_base.specs.declared.actor.Call.{Call}
use Rattle.net_base.specs.declared.address.Pair.{Pair}
use Rattle.net_base.specs.declared.address.Proto.{Proto}
use Rattle.net_base.specs.declared.address.Proto.TheVariants as proto
use Rattle.net_base.specs.declared.event.Event.{Event}
use Rattle.net_base.specs.declared.event.Event.TheVariants as event
use Rattle.net_base.specs.declared.history.With.{With}
use Rattle.net_base.specs.declared.history.With.TheVariants as given
use Rattle.net_base.specs.declared.il.StateName.{StateName}
use Rattle.net_base.specs.declared.il.StateName.TheVariants as kind
use Rattle.net_base.specs.declared.packet.Body.{Body}
use Rattle.net_base.specs.declared.packet.Body.TheVariants as body
use Rattle.net_base.specs.declared.packet.Packet.{Packet}
use Rattle.net_base.specs.declared.reply.Reply.{Reply}
use Rattle.net_base.specs.declared.reply.Reply.TheVariants as reply
use Rattle.net_base.specs.declared.world.World.{World}
use Rattle.net_base.specs.ActorStep.{Step}
use Rattle.net_base.specs.Actors.{slot_count, opening_core}
use Rattle.net_base.specs.Conversation.{is_sync, has_protocol, may_bear, may_connect}
use Rattle.net_base.specs.Directory as directory
use Rattle.net_base.specs.Directory.{Dir, Slot, dir_step, packet_pair, is_free, reserves, withdraws, frees, bears as brings, Taker, home_at, is_live_with, is_of, start_of, limit_of, limit_to}
use Rattle.net_base.specs.Duties.{Duty, follow_up, close_calls}
use Rattle.net_base.specs.Routes.{Way, way}
use Rattle.history_laws.proofs.Ordered.{Each, each_append}
use Rattle.history_laws.proofs.Takers.{TakerFound, slot_found, taker_found}
use Rattle.history_laws.specs.DirRows.{DirRow, pair_by, slot_in}
use Rattle.history_laws.specs.DirRows as row
use Rattle.history_laws.proofs.DirTable.{dir_rows}
use Rattle.history_laws.proofs.ConvTable.{map_some}
use Rattle.history_laws.proofs.Duties.{AreSlots, IsCallIn, IsConvKind, IsBirth, bears, named, generation_in}
use Rattle.history_laws.proofs.Slots.{Rise, calls_stay, rises, sets, set_generation, other_generation}
use Rattle.net_base.proofs.Shared.{get_set_other}

-- starts and limits of a directory are such that a conversation may connect
abbrev pub MayGive : World → ℕ → Proto → Dir → Type 0
MayGive w h p d = (limit : ℕ) → limit ≤ 8192 → may_connect (opening_core Fixed p) (start_of (home_at w h p) d) limit ≡ true

-- a follow-up at the conversation of a slot
pub record IsFollow (p : Proto) (slots news : List Slot) (n : ℕ) (e : Event) (with : With) : Type 0 where
  pub within : n < slot_count
  pub kind : IsConvKind p e with
  pub below : named e ≤ generation_in news n
  pub unborn : bears e ≡ true → generation_in slots n < named e

abbrev pub FollowsAt : ℕ → Proto → List Slot → List Slot → Duty → Type 0
FollowsAt h p slots news d = (n : ℕ) × (d.actor ≡ name.Conv h p n) × IsFollow p slots news n d.event d.with

-- the generation of a slot stays, or rises by one, and then its birth is all that follows
abbrev pub Raises : ℕ → Proto → List Slot → List Slot → (ℕ → List Duty) → ℕ → Type 0
Raises h p slots news follow n =
    (generation_in news n ≡ generation_in slots n)
    ⊎ ((generation_in news n ≡ generation_in slots n + 1)
    × ((s : ℕ) → (d : Duty) × (follow s ≡ d ∷ []) × (d.actor ≡ name.Conv h p n) × IsBirth (generation_in news n) d.event))

pub record Moved (h : ℕ) (p : Proto) (slots news : List Slot) (follow : ℕ → List Duty) : Type 0 where
  pub are : AreSlots news
  pub rise : Rise slots news
  pub raised : (n : ℕ) → Raises h p slots news follow n
  pub fine : (s : ℕ) → Each (FollowsAt h p slots news) (follow s)

abbrev pub follow_of : ℕ → Proto → Event → With → Step Dir → ℕ → List Duty
follow_of h p e with t s = follow_up (name.Dir h p) s e with t.outcome.reply

abbrev pub Moves : ℕ → Proto → Event → With → Dir → Step Dir → Type 0
Moves h p e with d t = Moved h p d.slots t.state.slots (follow_of h p e with t)

abbrev pub MovesIf : ℕ → Proto → Event → With → Dir → Option (Step Dir) → Type 0
MovesIf h p e with d o = IfSome o (Moves h p e with d)

-- nothing changes, and nothing follows
still : (h : ℕ) (p : Proto) (slots : List Slot) (follow : ℕ → List Duty) → AreSlots slots → ((s : ℕ) → follow s ≡ []) → Moved h p slots slots follow
still h p slots follow are none = record {
  are = are;
  rise = λ k. omega arith;
  raised = λ n. inl refl;
  fine = λ s. rw (none s) tt;
}

-- a slot changes and keeps its generation
pub keeps : (h : ℕ) (p : Proto) (slots : List Slot) (n : ℕ) (s new : Slot) (follow : ℕ → List Duty) → slice_get slots n ≡ Some s → new.generation ≡ s.generation
    → Each (IsCallIn slots) new.calls → AreSlots slots → ((k : ℕ) → Each (FollowsAt h p slots (slice_set slots n new)) (follow k)) → Moved h p slots (slice_set slots n new) follow
keeps h p slots n s new follow is same calls are fine =
    let le : s.generation ≤ new.generation = omega (arith, same) in
    let rise = rises slots n s new is le in
    record {
      are = sets slots n s new is le (calls_stay slots (slice_set slots n new) rise new.calls calls) are;
      rise = rise;
      raised = λ k. elim (eqb_tells n k) [
        | inl here ↦ inl (subst (λ (j : ℕ). generation_in (slice_set slots n new) j ≡ generation_in slots j) here.1 (set_generation slots n s new is ∙ same ∙ sym (rw is refl)))
        | inr apart ↦ inl (other_generation slots n k new apart.1)
      ];
      fine = fine;
    }

-- The rows.

-- a refusal owes nothing
refuses : (h : ℕ) (p : Proto) (e : Event) (with : With) (d : Dir) (r : Reply) → AreSlots d.slots → ((s : ℕ) → follow_up (name.Dir h p) s e with r ≡ []) → Moves h p e with d (directory.dir_answers r d)
refuses h p e with d r are none = still h p d.slots (λ s. follow_up (name.Dir h p) s e with r) are none

within_slots : (slots : List Slot) (n : ℕ) (s : Slot) → AreSlots slots → slice_get slots n ≡ Some s → n < slot_count
within_slots slots n s are is = omega (arith, are.count, slice_get_within slots n s is)

generation_is : (slots : List Slot) (n : ℕ) (s : Slot) → slice_get slots n ≡ Some s → generation_in slots n ≡ s.generation
generation_is slots n s is = rw is refl

-- one follow-up that names the generation of a slot which kept it
follows_one : (h : ℕ) (p : Proto) (slots news : List Slot) (n s : ℕ) (e : Event) (with : With) → AreSlots slots → Rise slots news → n < slot_count → named e ≤ generation_in slots n → IsConvKind p e with → bears e ≡ false
    → Each (FollowsAt h p slots news) (record { actor = name.Conv h p n; event = e; with = with; cites = s } ∷ [])
follows_one h p slots news n s e with are rise within le kind plain = (
  (
    n,
    refl,
    record {
      within = within;
      kind = kind;
      below = omega (arith, le, rise n);
      unborn = λ is. absurd (true≢false (sym is ∙ plain));
    },
  ),
  tt,
)

-- Reserve.

abbrev reserved : Slot → Slot
reserved f = record directory.free_slot { kind = kind.Reserved; generation = f.generation + 1 }

reserve_moves : (h : ℕ) (p : Proto) (with : With) (d : Dir) (f : ℕ × Slot) → AreSlots d.slots → slice_get d.slots f.0 ≡ Some f.1 → Moves h p event.Reserve with d (reserves (Some f) d)
reserve_moves h p with d f are at =
    let le : f.1.generation ≤ f.1.generation + 1 = omega arith in
    let gen : generation_in (slice_set d.slots f.0 (reserved f.1)) f.0 ≡ f.1.generation + 1 = set_generation d.slots f.0 f.1 (reserved f.1) at in
    let was : generation_in d.slots f.0 ≡ f.1.generation = generation_is d.slots f.0 f.1 at in
    record {
      are = sets d.slots f.0 f.1 (reserved f.1) at le tt are;
      rise = rises d.slots f.0 f.1 (reserved f.1) at le;
      raised = λ k. elim (eqb_tells f.0 k) [
        | inl here ↦ subst (λ (j : ℕ). Raises h p d.slots (slice_set d.slots f.0 (reserved f.1)) (follow_of h p event.Reserve with (reserves (Some f) d)) j) here.1
            (inr (gen ∙ ap (λ (i : ℕ). i + 1) (sym was), λ s. (record { actor = name.Conv h p f.0; event = event.Begin (f.1.generation + 1); with = given.Nothing; cites = s }, refl, refl, (refl, sym gen))))
        | inr apart ↦ inl (other_generation d.slots f.0 k (reserved f.1) apart.1)
      ];
      fine = λ s. (
        (
          f.0,
          refl,
          record {
            within = within_slots d.slots f.0 f.1 are at;
            kind = tt;
            below = omega (arith, gen);
            unborn = λ is. omega (arith, was);
          },
        ),
        tt,
      );
    }

-- Grant.

least_within : (a : ℕ) → min 8192 a ≤ 8192
least_within a = omega arith

limit_within : (p : Proto) (mtu : ℕ) → limit_of p mtu ≤ 8192
limit_within proto.Il mtu = least_within (mtu - 38)
limit_within proto.Udp mtu = least_within (mtu - 28)

limit_to_within : (o : Option Way) (p : Proto) → limit_to o p ≤ 8192
limit_to_within None p = omega arith
limit_to_within (Some out) p = limit_within p out.mtu

-- a slot of this generation becomes another that keeps it, and one follow-up names it
keeps_and_follows : (h : ℕ) (p : Proto) (slots : List Slot) (n g : ℕ) (s new : Slot) (e : Event) (with : With) → slice_get slots n ≡ Some s → s.generation ≡ g → new.generation ≡ s.generation → new.calls ≡ s.calls → AreSlots slots
    → named e ≡ g → IsConvKind p e with → bears e ≡ false → Moved h p slots (slice_set slots n new) (λ k. record { actor = name.Conv h p n; event = e; with = with; cites = k } ∷ [])
keeps_and_follows h p slots n g s new e with is gen same calls are names kind plain =
    keeps h p slots n s new _ is same (subst (λ (cs : List Call). Each (IsCallIn slots) cs) (sym calls) (are.calls n s is)) are
    (λ k. follows_one h p slots (slice_set slots n new) n k e with are (rises slots n s new is (omega (arith, same))) (within_slots slots n s are is) (omega (arith, names, gen, generation_is slots n s is)) kind plain)

-- Listen.

listen_moves : (h : ℕ) (p : Proto) (n : ℕ) (s : Slot) (d : Dir) (with : With) (c : Call) (calls : List Call) → AreSlots d.slots → slice_get d.slots n ≡ Some s → Each (IsCallIn d.slots) (c ∷ calls)
    → Moved h p d.slots (slice_set d.slots n (record s { calls = calls })) (λ k. record { actor = name.Conv h p c.slot; event = event.Claim c.generation; with = given.Nothing; cites = k } ∷ [])
listen_moves h p n s d with c calls are is all =
    keeps h p d.slots n s (record s { calls = calls }) _ is refl all.1 are
    (λ k. follows_one h p d.slots (slice_set d.slots n (record s { calls = calls })) c.slot k (event.Claim c.generation) given.Nothing are (rises d.slots n s (record s { calls = calls }) is (omega arith)) all.0.0 all.0.1 tt refl)

-- Withdraw and release.

close_each : (h : ℕ) (p : Proto) (slots news : List Slot) (k : ℕ) (calls : List Call) → AreSlots slots → Rise slots news → Each (IsCallIn slots) calls → Each (FollowsAt h p slots news) (close_calls h p k calls)
close_each h p slots news k [] are rise all = tt
close_each h p slots news k (c ∷ cs) are rise all =
    ((follows_one h p slots news c.slot k (event.Close c.generation) given.Nothing are rise all.0.0 all.0.1 tt refl).0, close_each h p slots news k cs are rise all.1)

withdraw_moves : (h : ℕ) (p : Proto) (n : ℕ) (s : Slot) (d : Dir) (with : With) → AreSlots d.slots → slice_get d.slots n ≡ Some s → Moves h p (event.Withdraw n s.generation) with d (withdraws n d s)
withdraw_moves h p n s d with are is =
    keeps h p d.slots n s (record s { kind = kind.Withdrawn; calls = [] }) _ is refl tt are
    (λ k. close_each h p d.slots (slice_set d.slots n (record s { kind = kind.Withdrawn; calls = [] })) k s.calls are (rises d.slots n s _ is (omega arith)) (are.calls n s is))

release_moves : (h : ℕ) (p : Proto) (n : ℕ) (s : Slot) (d : Dir) (with : With) → AreSlots d.slots → slice_get d.slots n ≡ Some s → Moves h p (event.Release n s.generation) with d (frees n d s)
release_moves h p n s d with are is =
    keeps h p d.slots n s (record directory.free_slot { generation = s.generation }) _ is refl tt are
    (λ k. close_each h p d.slots (slice_set d.slots n (record directory.free_slot { generation = s.generation })) k s.calls are (rises d.slots n s _ is (omega arith)) (are.calls n s is))

-- Arrive.

same_bears : (p : Proto) (b : Body) → is_of p b ≡ true → directory.is_first_packet b ≡ true → may_bear (opening_core Fixed p) b ≡ true
same_bears proto.Il (body.Il m) of may = (and_parts (is_sync m.kind) (m.ack == 0) may).0
same_bears proto.Udp (body.Udp t) of may = refl
same_bears proto.Il (body.Udp t) of may = absurd (true≢false (sym of))
same_bears proto.Udp (body.Il m) of may = absurd (true≢false (sym of))

-- the free slot of a taker becomes a conversation's, and its call waits at the listener
abbrev borne : Pair → Slot → Slot
borne pair f = record directory.free_slot { kind = kind.Granted; generation = f.generation + 1; pair = Some pair }

abbrev heard : Taker → Slot
heard t = record t.listener.1 { calls = t.listener.1.calls ++ record { slot = t.free.0; generation = t.free.1.generation + 1 } ∷ [] }

not_announced : (s : Slot) → is_free s ≡ true → directory.is_announced s.kind ≡ true → ⊥
not_announced s free announces = by s.kind free announces
  where
    by : (k : StateName) → is_free (record s { kind = k }) ≡ true → directory.is_announced k ≡ true → ⊥
    by kind.Announced free announces = true≢false (sym free)
    by _ free announces = true≢false (sym announces)

bear_moves : (w : World) (h : ℕ) (p : Proto) (packet : Packet) (d : Dir) (t : Taker) → MayGive w h p d → AreSlots d.slots → is_of p packet.body ≡ true → TakerFound (packet_pair packet) packet d t
    → Moves h p event.Arrive (given.Packet packet) d (brings (home_at w h p) (packet_pair packet) t d)
bear_moves w h p packet d t may are of found =
    let pair : Pair = packet_pair packet in
    let one : List Slot = slice_set d.slots t.free.0 (borne pair t.free.1) in
    let two : List Slot = slice_set one t.listener.0 (heard t) in
    let apart : t.free.0 ≡ t.listener.0 → ⊥ = λ same.
    let is : t.free.1 ≡ t.listener.1 = same_Some t.free.1 t.listener.1 (sym found.at_free ∙ subst (λ (k : ℕ). slice_get d.slots k ≡ Some t.listener.1) (sym same) found.at_listener) in
    not_announced t.listener.1 (subst (λ (s : Slot). is_free s ≡ true) is found.free) found.announces in
    let le : t.free.1.generation ≤ t.free.1.generation + 1 = omega arith in
    let same : t.listener.1.generation ≤ t.listener.1.generation = omega arith in
    let first : Rise d.slots one = rises d.slots t.free.0 t.free.1 (borne pair t.free.1) found.at_free le in
    let are_one : AreSlots one = sets d.slots t.free.0 t.free.1 (borne pair t.free.1) found.at_free le tt are in
    let at : slice_get one t.listener.0 ≡ Some t.listener.1 = get_set_other d.slots t.free.0 t.listener.0 (borne pair t.free.1) apart ∙ found.at_listener in
    let second : Rise one two = rises one t.listener.0 t.listener.1 (heard t) at same in
    let was : generation_in d.slots t.free.0 ≡ t.free.1.generation = generation_is d.slots t.free.0 t.free.1 found.at_free in
    let gen_one : generation_in one t.free.0 ≡ t.free.1.generation + 1 = set_generation d.slots t.free.0 t.free.1 (borne pair t.free.1) found.at_free in
    let gen : generation_in two t.free.0 ≡ t.free.1.generation + 1 = other_generation one t.listener.0 t.free.0 (heard t) (λ e. apart (sym e)) ∙ gen_one in
    let calls : Each (IsCallIn two) (heard t).calls =
    each_append (IsCallIn two) t.listener.1.calls _
    (calls_stay one two second t.listener.1.calls (calls_stay d.slots one first t.listener.1.calls (are.calls t.listener.0 t.listener.1 found.at_listener)))
    ((within_slots d.slots t.free.0 t.free.1 are found.at_free, omega (arith, gen)), tt) in
    record {
      are = sets one t.listener.0 t.listener.1 (heard t) at same calls are_one;
      rise = λ k. omega (arith, first k, second k);
      raised = λ k. elim (eqb_tells t.free.0 k) [
        | inl here ↦ subst (λ (j : ℕ). Raises h p d.slots two (follow_of h p event.Arrive (given.Packet packet) (brings (home_at w h p) pair t d)) j) here.1
            (inr (gen ∙ ap (λ (i : ℕ). i + 1) (sym was), λ s. (record { actor = name.Conv h p t.free.0; event = event.Born (t.free.1.generation + 1); with = given.Birth packet (start_of (home_at w h p) d) (limit_to (way w h pair.remote.ip) p); cites = s }, refl, refl, (refl, sym gen))))
        | inr other ↦ inl (elim (eqb_tells t.listener.0 k) [
          | inl here ↦ subst (λ (j : ℕ). generation_in two j ≡ generation_in d.slots j) here.1 (set_generation one t.listener.0 t.listener.1 (heard t) at ∙ sym (generation_is d.slots t.listener.0 t.listener.1 found.at_listener))
          | inr away ↦ other_generation one t.listener.0 k (heard t) away.1 ∙ other_generation d.slots t.free.0 k (borne pair t.free.1) other.1
        ])
      ];
      fine = λ s. (
        (
          t.free.0,
          refl,
          record {
            within = within_slots d.slots t.free.0 t.free.1 are found.at_free;
            kind = (same_bears p packet.body of found.bears, may (limit_to (way w h pair.remote.ip) p) (limit_to_within (way w h pair.remote.ip) p));
            below = omega (arith, gen);
            unborn = λ is. omega (arith, was);
          },
        ),
        tt,
      );
    }

same_protocol_of : (p : Proto) (b : Body) → is_of p b ≡ true → has_protocol (opening_core Fixed p) b ≡ true
same_protocol_of proto.Il (body.Il m) of = refl
same_protocol_of proto.Udp (body.Udp t) of = refl
same_protocol_of proto.Il (body.Udp t) of = of
same_protocol_of proto.Udp (body.Il m) of = of

to_moves : (h : ℕ) (p : Proto) (packet : Packet) (d : Dir) (n : ℕ) (s : Slot) → AreSlots d.slots → is_of p packet.body ≡ true → slice_get d.slots n ≡ Some s
    → Moves h p event.Arrive (given.Packet packet) d (directory.dir_answers (reply.To n s.generation) d)
to_moves h p packet d n s are of at = record {
  are = are;
  rise = λ k. omega arith;
  raised = λ k. inl refl;
  fine = λ k. follows_one h p d.slots d.slots n k (event.ArriveAt s.generation) (given.Packet packet) are (λ j. omega arith) (within_slots d.slots n s are at) (omega (arith, generation_is d.slots n s at)) (same_protocol_of p packet.body of) refl;
}

-- The table.

-- an older generation owes nothing
stale_owes : (h : ℕ) (p : Proto) (s : ℕ) (e : Event) (with : With) (n g : ℕ) → slot_in e ≡ Some (n, g) → follow_up (name.Dir h p) s e with reply.Stale ≡ []
stale_owes h p s event.Arrive with n g names = absurd (none-some _ names)
stale_owes h p s _ with n g names = refl

row_moves : (w : World) (h : ℕ) (p : Proto) (d : Dir) (e : Event) (with : With) (t : Step Dir) → MayGive w h p d → AreSlots d.slots → DirRow w h p d e with t → Moves h p e with d t
row_moves w h p d e with t may are (row.Stale {n = n} {g = g} names at other) = refuses h p e with d reply.Stale are (λ s. stale_owes h p s e with n g names)
row_moves w h p d e with t may are (row.Reserves {n = n} {s = s} found) = reserve_moves h p with d (n, s) are (slot_found is_free d.slots (n, s) found).0
row_moves w h p d e with t may are (row.Grants {n = n} {remote = remote} {s = s} {out = out} {own = own} at reserved by drawn other new) =
    let pair = pair_by out own remote in
    keeps_and_follows h p d.slots n s.generation s (record s { kind = kind.Granted; pair = Some pair }) (event.Connect s.generation)
    (given.Grant pair (start_of (home_at w h p) d) (limit_of p out.mtu)) at refl refl refl are refl (may (limit_of p out.mtu) (limit_within p out.mtu)) refl
row_moves w h p d e with t may are (row.Announces {n = n} {ip = ip} {port = port} {s = s} at) =
    keeps_and_follows h p d.slots n s.generation s (record s { kind = kind.Announced; key = Some (record { ip = ip; port = port }) }) (event.Announced s.generation)
    (given.Key (unwrap_or ip 0) (unwrap_or port 0)) at refl refl refl are refl tt refl
row_moves w h p d e with t may are (row.Binds {n = n} {port = port} {s = s} at) =
    keeps_and_follows h p d.slots n s.generation s (record s { bound = Some port }) (event.Bound s.generation) (given.Key 0 port) at refl refl refl are refl tt refl
row_moves w h p d e with t may are (row.Listens {n = n} {s = s} {c = c} {calls = calls} at wait) =
    listen_moves h p n s d with c calls are at (subst (λ (cs : List Call). Each (IsCallIn d.slots) cs) wait (are.calls n s at))
row_moves w h p d e with t may are (row.Withdraws {n = n} {s = s} at) = withdraw_moves h p n s d with are at
row_moves w h p d e with t may are (row.Frees {n = n} {s = s} at) = release_moves h p n s d with are at
row_moves w h p d e with t may are (row.To {packet = packet} {n = n} {s = s} of found) = to_moves h p packet d n s are of (slot_found (is_live_with (packet_pair packet)) d.slots (n, s) found).0
row_moves w h p d e with t may are (row.Bears {packet = packet} {t = taker} of takes) = bear_moves w h p packet d taker may are of (taker_found (packet_pair packet) packet d taker takes)
row_moves w h p d e with t may are (row.Refuses {packet = packet} said sync) =
    still h p d.slots (λ s. follow_up (name.Dir h p) s event.Arrive (given.Packet packet) reply.Refused) are (λ s. refl)
row_moves w h p d e with t may are _ = refuses h p e with d t.outcome.reply are (λ s. refl)

pub dir_moves : (w : World) (h : ℕ) (p : Proto) (e : Event) (with : With) (d : Dir) → MayGive w h p d → AreSlots d.slots → MovesIf h p e with d (dir_step w h p e with d)
dir_moves w h p e with d may are = map_some (dir_step w h p e with d) _ _ (dir_rows w h p d e with) (λ t row. row_moves w h p d e with t may are row)
