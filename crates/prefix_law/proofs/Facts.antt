-- What a legal history replies to what an exporting step asks on its own file.
use Rattle.std.proofs.Common.{◌≡◌, ℕ, ◌==◌, Bool, true, false, List, [], ◌∷◌, refl, sym, ap, subst, ◌∙◌, arith}
use Rattle.std.specs.Prelude.{filter, length, if◌then◌else◌}
use Rattle.std.proofs.lemmas.Bool.{eq-eqb, lt-ltb}
use Rattle.net_base.specs.declared.actor.ActorName.TheVariants as name
use Rattle.net_base.specs.declared.address.Proto.{Proto}
use Rattle.net_base.specs.declared.address.Proto.TheVariants as proto
use Rattle.net_base.specs.declared.event.Event.TheVariants as event
use Rattle.net_base.specs.declared.history.Entry.{Entry}
use Rattle.net_base.specs.declared.history.With.{With}
use Rattle.net_base.specs.declared.names.Mode.{Mode}
use Rattle.net_base.specs.declared.reply.Reply.{Reply}
use Rattle.net_base.specs.declared.reply.Reply.TheVariants as reply
use Rattle.net_base.specs.declared.world.World.{World}
use Rattle.net_base.specs.ActorStep.{Step}
use Rattle.net_base.specs.Actors.{Actor}
use Rattle.net_base.specs.Conversation.{Conv}
use Rattle.net_base.specs.Legal.{MayFollow, asked_by}
use Rattle.net_base.specs.Net.{after, work_of}
use Rattle.net_base.specs.Networks.{is_filled}
use Rattle.net_base.specs.Paths.{mode_reads, mode_writes}
use Rattle.net_base.specs.Stamped.{same_actor}
use Rattle.net_base.specs.Steps.{Ask, is_accepted, bytes_in}
use Rattle.net_base.specs.Written.{Conversation, actor_of, is_at, read_by, read_in, written_by, written_in}
use Rattle.history_laws.specs.ActorRows.{ActorRow, AtConv, AtDesk, DeskRow, Misuses}
use Rattle.history_laws.specs.ConvRows.{ConvRow, Stale}
use Rattle.history_laws.proofs.Shared.{shown_reply}
use Rattle.prefix_law.specs.ImportLaw.{misuse, own_of_data}
use Rattle.net_base.specs.Exports.{Own, by_text}
use Rattle.prefix_law.proofs.Turns.{OnOwn, heard_in, said_in}

-- A misuse is refused.

misused : (w : World) (now h : ℕ) (s : Actor) (called : List ℕ) (with : With) (t : Step Actor) → ActorRow w now (name.Desk h) s (event.Misuse called) with t
    → t.outcome.reply ≡ reply.BadMode
misused w now h s called with t (AtDesk {host = host} {d = d} {r = r} there row) = by r row
  where
    by : (r : Reply) → DeskRow w.dbs host now d (event.Misuse called) r → r ≡ reply.BadMode
    by r Misuses = refl

-- A write counts, or is refused.

abbrev is_count : Reply → Bool
is_count (reply.Count n) = true
is_count _ = false

abbrev CountsOrNot : Reply → Type 0
CountsOrNot r = is_accepted r ≡ is_count r

wrote : (w : World) (now h : ℕ) (p : Proto) (n g : ℕ) (text : List ℕ) (s : Actor) (with : With) (t : Step Actor)
    → ActorRow w now (name.Conv h p n) s (event.Write g text) with t → CountsOrNot t.outcome.reply
wrote w now h p n g text s with t (AtConv {c = c} {s = x} row) = by c g x row
  where
    by : (c : Conv) (g : ℕ) (x : Step Conv) → ConvRow n now c (event.Write g text) with x → CountsOrNot x.outcome.reply
    by c g x (Stale names old) = refl
    by c g x _ = refl

-- The facts.

-- the entry may follow some history
abbrev pub Stands : World → ℕ × Entry → Type 0
Stands w x = (past : List Entry) × MayFollow w past x.1

reply_of : (w : World) (past : List Entry) (x : Entry) (P : Reply → Type 0) (ask : Ask) → MayFollow w past x → asked_by x ≡ ask
    → ((s : Actor) (now : ℕ) (with : With) (t : Step Actor) → ActorRow w now ask.actor s ask.event with t → P t.outcome.reply) → P x.reply
reply_of w past x P ask may asked all =
    let net = after w past in
    shown_reply w net x P may.is_ready may.answers
    (λ t. subst (λ (a : Ask). ActorRow w net.moment a.actor (net.actors x.actor) a.event (work_of net x).with t → P t.outcome.reply) (sym asked)
    (all (net.actors x.actor) net.moment (work_of net x).with t))

conv_itself : (e : Conversation) → same_actor (actor_of e) (actor_of e) ≡ true
conv_itself e = go e.proto
  where
    go : (p : Proto) → same_actor (name.Conv e.host p e.slot) (name.Conv e.host p e.slot) ≡ true
    go proto.Il = rw (eq-eqb e.host e.host refl, eq-eqb e.slot e.slot refl) refl
    go proto.Udp = rw (eq-eqb e.host e.host refl, eq-eqb e.slot e.slot refl) refl

filled : (b : ℕ) (bs : List ℕ) → is_filled (b ∷ bs) ≡ true
filled b bs = lt-ltb 0 (length (b ∷ bs)) (omega arith)

read_filled : (g n : ℕ) (r : Reply) → (g == g) ≡ true → filter is_filled (read_in g (event.Read g n) r) ≡ by_text (bytes_in r) [] (λ (text : List ℕ). text ∷ [])
read_filled g n (reply.Bytes []) is = rw is refl
read_filled g n (reply.Bytes (c ∷ cs)) is = rw is (rw (filled c cs) refl)
read_filled g n _ is = refl

none_said : (text : List ℕ) (b : Bool) → b ≡ false → [] ≡ (if b then text ∷ [] else [])
none_said text b is = rw is refl

write_filled : (g : ℕ) (text : List ℕ) (r : Reply) → (g == g) ≡ true → CountsOrNot r → written_in g (event.Write g text) r ≡ (if is_accepted r then text ∷ [] else [])
write_filled g text (reply.Count n) is counts = rw is refl
write_filled g text _ is counts = none_said text _ counts

-- the entries of another actor tell nothing of the conversation
elsewhere : (e : Conversation) (x : Entry) (h : ℕ) → x.actor ≡ name.Desk h → (read_by e x ≡ []) × (written_by e x ≡ [])
elsewhere e x h is = (rw is refl, rw is refl)

pub at_conversation : (e : Conversation) (x : Entry) → x.actor ≡ actor_of e → is_at e x ≡ true
at_conversation e x is = rw is (conv_itself e)

module _ (w : World) (f : Conversation) (called : List ℕ) (m : Mode) where
  abbrev own : Own
  own = own_of_data f called m

  reads_ask : Ask
  reads_ask = record { actor = actor_of f; event = event.Read f.generation 8192 }

  no_reply : (x : ℕ × Entry) → Stands w x → asked_by x.1 ≡ misuse f.host called → x.1.reply ≡ reply.BadMode
  no_reply x stands asked =
      reply_of w stands.0 x.1 (λ (r : Reply). r ≡ reply.BadMode) (misuse f.host called) stands.1 asked (λ s now with t row. misused w now f.host s called with t row)

  read_fact : (x : ℕ × Entry) → Stands w x → (b : Bool) → asked_by x.1 ≡ (if b then record { actor = actor_of f; event = event.Read f.generation 8192 } else misuse f.host called)
      → (heard_in f x ≡ by_text (bytes_in x.1.reply) [] (λ (text : List ℕ). text ∷ [])) × (said_in f x ≡ [])
  read_fact x stands true asked =
      let here = at_conversation f x.1 (ap (λ (a : Ask). a.actor) asked) in
      let what : x.1.event ≡ event.Read f.generation 8192 = ap (λ (a : Ask). a.event) asked in (
        rw (here, what) (read_filled f.generation 8192 x.1.reply (eq-eqb f.generation f.generation refl)),
        rw (here, what) refl,
      )
  read_fact x stands false asked =
      let none = elsewhere f x.1 f.host (ap (λ (a : Ask). a.actor) asked) in
      let bad = no_reply x stands asked in (
        ap (filter is_filled) none.0 ∙ sym (ap (λ (r : Reply). by_text (bytes_in r) [] (λ (text : List ℕ). text ∷ [])) bad),
        none.1,
      )

  write_fact : (x : ℕ × Entry) (answer : List ℕ) → Stands w x → (b : Bool) → asked_by x.1 ≡ (if b then record { actor = actor_of f; event = event.Write f.generation answer } else misuse f.host called)
      → (heard_in f x ≡ []) × (said_in f x ≡ (if is_accepted x.1.reply then answer ∷ [] else []))
  write_fact x answer stands true asked =
      let here = at_conversation f x.1 (ap (λ (a : Ask). a.actor) asked) in
      let what : x.1.event ≡ event.Write f.generation answer = ap (λ (a : Ask). a.event) asked in
      let counts = reply_of w stands.0 x.1 CountsOrNot (record { actor = actor_of f; event = event.Write f.generation answer }) stands.1 asked
      (λ s now with t row. wrote w now f.host f.proto f.slot f.generation answer s with t row) in (
        rw (here, what) refl,
        rw (here, what) (write_filled f.generation answer x.1.reply (eq-eqb f.generation f.generation refl) counts),
      )
  write_fact x answer stands false asked =
      let none = elsewhere f x.1 f.host (ap (λ (a : Ask). a.actor) asked) in
      let bad = no_reply x stands asked in (
        ap (filter is_filled) none.0,
        none.1 ∙ sym (ap (λ (r : Reply). if is_accepted r then answer ∷ [] else []) bad),
      )

  pub on_own_data : OnOwn f own (Stands w)
  on_own_data = record {
    read = λ x stands asked. read_fact x stands (mode_reads m) asked;
    written = λ x answer stands asked. write_fact x answer stands (mode_writes m) asked;
  }
