-- An answer of cs is at the desk of a host of the world, and is the list of the version that the desk told last.
use Rattle.std.proofs.Common.{◌≡◌, ℕ, Bool, true, false, List, [], ◌∷◌, ◌++◌, Option, Some, None, slice_get, append-nil, refl, sym, ap, subst, ◌∙◌}
use Rattle.std.specs.Prelude.{IsSome, take, filter_map, unwrap_or}
use Rattle.std.specs.List.{cons_option, last_or}
use Rattle.std.specs.Option.{option_map, option_and_then}
use Rattle.std.proofs.lemmas.Bool.{false≢true}
use Rattle.std.proofs.lemmas.List.Elements.{filter_map-append}
use Rattle.std.proofs.lemmas.Option.{none-some, same_Some}
use Rattle.net_base.specs.declared.actor.ActorName.{ActorName}
use Rattle.net_base.specs.declared.actor.ActorName.TheVariants as name
use Rattle.net_base.specs.declared.event.Event.{Event}
use Rattle.net_base.specs.declared.event.Event.TheVariants as event
use Rattle.net_base.specs.declared.history.Entry.{Entry}
use Rattle.net_base.specs.declared.history.With.{With}
use Rattle.net_base.specs.declared.history.Work.{Work}
use Rattle.net_base.specs.declared.reply.Reply.{Reply}
use Rattle.net_base.specs.declared.reply.Reply.TheVariants as reply
use Rattle.net_base.specs.declared.address.Proto.{Proto}
use Rattle.net_base.specs.declared.world.HostSpec.{HostSpec}
use Rattle.net_base.specs.declared.world.MediumSpec.{MediumSpec}
use Rattle.net_base.specs.declared.world.Version.{Version}
use Rattle.net_base.specs.declared.world.World.{World}
use Rattle.net_base.specs.ActorStep.{Step, replies, when}
use Rattle.net_base.specs.Actors.{Actor, IsDesk, actor_step, has_actor, step_as}
use Rattle.net_base.specs.Cs.{cs_list}
use Rattle.net_base.specs.Desk.{Desk, cs_reply, desk_after, desk_replies, desk_reply, desk_step}
use Rattle.net_base.specs.Conversation.{Conv}
use Rattle.net_base.specs.Directory.{Dir}
use Rattle.net_base.specs.Medium.{Medium}
use Rattle.net_base.specs.Legal.{IsLegal, MayFollow, Shown, Shows}
use Rattle.net_base.specs.Net.{Net, after, net_after, step_of, stepped_to, work_of}
use Rattle.net_base.specs.Stamped.{same_actor}
use Rattle.net_base.specs.Versions.{database_of}
use Rattle.net_model.specs.Headline.{AnswersCs, last_version, version_in, version_told}
use Rattle.history_laws.proofs.Shared.{after_push, by_entries, legal_take, next_other, next_same}
use Rattle.history_laws.specs.ActorRows.{ActorRow, AtClock, AtConv, AtDesk, AtDir, AtMedium, DeskRow, MediumRow, Refuses, Tells}
use Rattle.history_laws.specs.ConvRows.{ConvRow}
use Rattle.history_laws.specs.ConvRows as conv_row
use Rattle.history_laws.specs.DirRows.{DirRow}
use Rattle.history_laws.specs.DirRows as dir_row
use Rattle.history_laws.proofs.Shared.{shown_reply}
use Rattle.net_base.proofs.Shared.{same_actor_is}
use Rattle.world_text.proofs.Shared.{last-more}

-- The version that a desk told last.

version_push : (h : List Entry) (x : Entry) (a : ActorName) → last_version (h ++ x ∷ []) a ≡ unwrap_or (version_told a x) (last_version h a)
version_push h x a =
    ap (λ (ns : List ℕ). unwrap_or (last_or None ns) 0) (filter_map-append (version_told a) h (x ∷ []))
    ∙ by (version_told a x) (filter_map (version_told a) h)
  where
    by : (o : Option ℕ) (xs : List ℕ) → unwrap_or (last_or None (xs ++ cons_option o [])) 0 ≡ unwrap_or o (unwrap_or (last_or None xs) 0)
    by None xs = ap (λ (ns : List ℕ). unwrap_or (last_or None ns) 0) (append-nil xs)
    by (Some n) xs = ap (λ (o : Option ℕ). unwrap_or o 0) (last-more None xs n)

-- another actor's entry tells no version of this one
other_version : (h : List Entry) (x : Entry) (a : ActorName) → same_actor x.actor a ≡ false → last_version (h ++ x ∷ []) a ≡ last_version h a
other_version h x a other = version_push h x a ∙ rw other refl

own_version : (h : List Entry) (x : Entry) (a : ActorName) → same_actor x.actor a ≡ true → last_version (h ++ x ∷ []) a ≡ unwrap_or (version_in x.reply) (last_version h a)
own_version h x a same = version_push h x a ∙ rw same refl

-- The version of a desk is the one that it told last.

abbrev with_version : ℕ → Actor
with_version n = IsDesk (record { version = n })

reply_leaves : (r : Reply) (n : ℕ) → desk_after r (record { version = n }) ≡ record { version = unwrap_or (version_in r) n }
reply_leaves (reply.Version m) n = refl
reply_leaves _ n = refl

-- what a desk's step leaves is told by its reply
left_by : (w : World) (n v now : ℕ) (work : Work) (x : Entry) (has : Bool) (found : Option HostSpec) (o : Option (Step Actor))
    → when has (option_and_then (λ (host : HostSpec). step_as IsDesk (desk_step w.dbs host work.event now (record { version = v }))) found) ≡ o
    → IsSome (option_map (λ (s : Step Actor). s.outcome) o) → Shows (option_map (λ (s : Step Actor). s.outcome) o) x
    → stepped_to (with_version v) o ≡ with_version (unwrap_or (version_in x.reply) v)
left_by w n v now work x has found None is ready shows = absurd (false≢true ready)
left_by w n v now work x false found (Some s) is ready shows = absurd (none-some s is)
left_by w n v now work x true None (Some s) is ready shows = absurd (none-some s is)
left_by w n v now work x true (Some host) (Some s) is ready shows = by (desk_reply w.dbs host work.event now (record { version = v })) is
  where
    replied : x.reply ≡ s.outcome.reply
    replied = ap (λ (z : Shown). z.reply) shows

    by : (answer : Option Reply) → step_as IsDesk (option_map (desk_replies (record { version = v })) answer) ≡ Some s → s.state ≡ with_version (unwrap_or (version_in x.reply) v)
    by None none = absurd (none-some s none)
    by (Some r) some =
        let same = same_Some (record { state = IsDesk (desk_after r (record { version = v })); outcome = replies r None }) s some in
        sym (ap (λ (t : Step Actor). t.state) same)
        ∙ (ap (λ (d : Desk). IsDesk d) (reply_leaves r v)
        ∙ ap (λ (answer : Reply). with_version (unwrap_or (version_in answer) v)) (ap (λ (t : Step Actor). t.outcome.reply) same ∙ sym replied))

desk_next : (w : World) (n : ℕ) (h : List Entry) (x : Entry) → MayFollow w h x → (after w h).actors (name.Desk n) ≡ with_version (last_version h (name.Desk n))
    → (net_after w (after w h) x (step_of w (after w h) x)).actors (name.Desk n) ≡ with_version (last_version (h ++ x ∷ []) (name.Desk n))
desk_next w n h x may at = by (same_actor x.actor (name.Desk n)) refl
  where
    by : (b : Bool) → same_actor x.actor (name.Desk n) ≡ b
        → (net_after w (after w h) x (step_of w (after w h) x)).actors (name.Desk n) ≡ with_version (last_version (h ++ x ∷ []) (name.Desk n))
    by false other =
        next_other w (after w h) x (name.Desk n) (step_of w (after w h) x) other
        ∙ (at ∙ ap with_version (sym (other_version h x (name.Desk n) other)))
    by true same =
        let v = last_version h (name.Desk n) in
        let step : actor_step w (name.Desk n) (with_version v) (after w h).moment (work_of (after w h) x) ≡ step_of w (after w h) x =
        subst (λ (s : Actor). actor_step w (name.Desk n) s (after w h).moment (work_of (after w h) x) ≡ step_of w (after w h) x) at
        (sym (ap (λ (a : ActorName). actor_step w a ((after w h).actors a) (after w h).moment (work_of (after w h) x)) (same_actor_is x.actor (name.Desk n) same))) in
        next_same w (after w h) x (name.Desk n) (step_of w (after w h) x) same
        ∙ (ap (λ (s : Actor). stepped_to s (step_of w (after w h) x)) at
        ∙ (left_by w n v (after w h).moment (work_of (after w h) x) x (has_actor w (name.Desk n)) (slice_get w.hosts n) (step_of w (after w h) x) step may.is_ready may.answers
        ∙ ap with_version (sym (own_version h x (name.Desk n) same))))

pub desk_of : (w : World) (n : ℕ) (h : List Entry) → IsLegal w h → (after w h).actors (name.Desk n) ≡ with_version (last_version h (name.Desk n))
desk_of w n h legal = by_entries w (λ (k : List Entry). (after w k).actors (name.Desk n) ≡ with_version (last_version k (name.Desk n))) refl push h legal
  where
    push : (k : List Entry) (x : Entry) → IsLegal w k → MayFollow w k x → (after w k).actors (name.Desk n) ≡ with_version (last_version k (name.Desk n))
        → (after w (k ++ x ∷ [])).actors (name.Desk n) ≡ with_version (last_version (k ++ x ∷ []) (name.Desk n))
    push k x before may at = ap (λ (net : Net). net.actors (name.Desk n)) (after_push w k x) ∙ desk_next w n k x may at

-- Answers.

abbrev version_of : Actor → ℕ
version_of (IsDesk d) = d.version
version_of _ = 0

-- a reply to a query is a desk's, of this version
abbrev IsDesks : World → List ℕ → ℕ → ActorName → Reply → Type 0
IsDesks w query v a r =
    (n : ℕ) × (host : HostSpec) × (slice_get w.hosts n ≡ Some host) × (a ≡ name.Desk n) × (r ≡ cs_reply (cs_list (database_of w.dbs v) host.name host.nets query))

by_desk : (dbs : List Version) (host : HostSpec) (now : ℕ) (d : Desk) (query : List ℕ) (r : Reply) → DeskRow dbs host now d (event.Cs query) r
    → r ≡ cs_reply (cs_list (database_of dbs d.version) host.name host.nets query)
by_desk dbs host now d query r (Tells is) = sym (ap cs_reply is)
by_desk dbs host now d query r (Refuses is) = sym (ap cs_reply is)

-- no other table has a row for a query
no_dir : (w : World) (h : ℕ) (p : Proto) (d : Dir) (query : List ℕ) (gift : With) (s : Step Dir) → DirRow w h p d (event.Cs query) gift s → ⊥
no_dir w h p d query gift s (dir_row.Stale names at other) = none-some _ names

no_conv : (slot now : ℕ) (c : Conv) (query : List ℕ) (gift : With) (s : Step Conv) → ConvRow slot now c (event.Cs query) gift s → ⊥
no_conv slot now c query gift s (conv_row.Stale names old) = none-some _ names

no_medium : (spec : MediumSpec) (seed : ℕ) (m : Medium) (query : List ℕ) (gift : With) (s : Step Medium) → MediumRow spec seed m (event.Cs query) gift s → ⊥
no_medium spec seed m query gift s row = elim row [ ]

by_row : (w : World) (now : ℕ) (a : ActorName) (s : Actor) (e : Event) (query : List ℕ) (gift : With) (t : Step Actor) → e ≡ event.Cs query → ActorRow w now a s e gift t
    → IsDesks w query (version_of s) a t.outcome.reply
by_row w now a s e query gift t is (AtDesk {h = h} {host = host} {d = d} {r = r} there row) =
    (h, host, there, refl, by_desk w.dbs host now d query r (subst (λ (x : Event). DeskRow w.dbs host now d x r) is row))
by_row w now a s e query gift t is (AtDir {h = h} {p = p} {d = d} {s = x} row) = absurd (no_dir w h p d query gift x (subst (λ (y : Event). DirRow w h p d y gift x) is row))
by_row w now a s e query gift t is (AtConv {n = n} {c = c} {s = x} row) = absurd (no_conv n now c query gift x (subst (λ (y : Event). ConvRow n now c y gift x) is row))
by_row w now a s e query gift t is (AtMedium {spec = spec} {m = m} {s = x} there row) =
    absurd (no_medium spec w.seed m query gift x (subst (λ (y : Event). MediumRow spec w.seed m y gift x) is row))
by_row w now a s e query gift t is AtClock = absurd (cc is)

pub answers_cs : (w : World) (h : List Entry) (k : ℕ) (x : Entry) (query : List ℕ) → IsLegal w h → slice_get h k ≡ Some x → x.event ≡ event.Cs query → AnswersCs w (take k h) x query
answers_cs w h k x query legal stands is =
    let may = legal k x stands in
    let net = after w (take k h) in
    let state = net.actors x.actor in
    let desk : IsDesks w query (version_of state) x.actor x.reply =
    shown_reply w net x (IsDesks w query (version_of state) x.actor) may.is_ready may.answers
    (λ t row. by_row w net.moment x.actor state x.event query (work_of net x).with t is row) in
    let version : version_of state ≡ last_version (take k h) (name.Desk desk.0) =
    ap (λ (a : ActorName). version_of (net.actors a)) desk.3 ∙ ap version_of (desk_of w desk.0 (take k h) (legal_take w h k legal)) in
    record {
      number = desk.0;
      host = desk.1;
      host_is = desk.2;
      actor_is = desk.3;
      reply_is = desk.4 ∙ ap (λ (n : ℕ). cs_reply (cs_list (database_of w.dbs n) desk.1.name desk.1.nets query)) version;
    }
