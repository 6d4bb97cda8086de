-- Reads with room for every message take whole messages.
use Rattle.std.proofs.Common.{◌≡◌, ℕ, true, List, [], ◌∷◌, ◌++◌, length, take, filter, Some, ◌⊎◌, inl, inr, refl, sym, ap, subst, ◌∙◌}
use Rattle.std.proofs.lemmas.Option.{none-some}
use Rattle.std.proofs.lemmas.List.Elements.{filter-append}
use Rattle.net_base.specs.declared.address.Pair.{Pair}
use Rattle.net_base.specs.declared.event.Event.{Event}
use Rattle.net_base.specs.declared.event.Event.TheVariants as event
use Rattle.net_base.specs.declared.history.Entry.{Entry}
use Rattle.net_base.specs.declared.reply.Reply.{Reply}
use Rattle.net_base.specs.declared.reply.Reply.TheVariants as reply
use Rattle.net_base.specs.declared.world.World.{World}
use Rattle.net_base.specs.Legal.{IsLegalBy, MayFollowBy}
use Rattle.net_base.specs.Net.{after, work_of}
use Rattle.net_base.specs.Networks.{is_filled}
use Rattle.net_base.specs.Tasks.{Tasks}
use Rattle.net_base.specs.World.{IsWorld}
use Rattle.net_base.specs.Written.{Conversation, IsRead}
use Rattle.prefix_law.specs.PrefixLaw.{HaveRoom}
use Rattle.prefix_law.proofs.Accounts.{ReadsAll}
use Rattle.prefix_law.proofs.Books.{conv_of, is_at, reads, read_here, reads_push, got_sized, Booked, EntryAccount, NoEntry}
use Rattle.prefix_law.proofs.Happened.{Happened, happened, kept_at}
use Rattle.history_laws.proofs.Shared.{at_push, before_push, by_entries}
use Rattle.prefix_law.proofs.Pairs.{Side}
use Rattle.prefix_law.proofs.Trace.{Owner, Trace, empty_side, actor_trace, trace}
use Rattle.prefix_law.proofs.Whole.{Kept}
use Rattle.net_base.proofs.Shared.{same_actor_is}

pub read_pushed : (h : List Entry) (x : Entry) (e : Conversation) (k count : ℕ) (text : List ℕ) → IsRead h e k count text → IsRead (h ++ x ∷ []) e k count text
read_pushed h x e k count text r = record {
  entry = r.entry;
  stands = before_push h x r.entry k r.stands;
  actor_is = r.actor_is;
  event_is = r.event_is;
  reply_is = r.reply_is;
}

room_before : (h : List Entry) (x : Entry) (e : Conversation) → HaveRoom (h ++ x ∷ []) e → HaveRoom h e
room_before h x e room k count text r = room k count text (read_pushed h x e k count text r)

room_here : (o : Owner) (h : List Entry) (x : Entry) → HaveRoom (h ++ x ∷ []) (conv_of o) → is_at o x.actor ≡ true → ReadsAll o.generation x.event x.reply
room_here o h x room here = by_event x.event refl
  where
    by_reply : (g count : ℕ) (r : Reply) → x.event ≡ event.Read g count → x.reply ≡ r → ReadsAll o.generation (event.Read g count) r
    by_reply g count (reply.Bytes text) event_is reply_is =
        λ same. room (length h) count text (record {
          entry = x;
          stands = at_push h x;
          actor_is = same_actor_is x.actor _ here;
          event_is = event_is ∙ ap (λ (i : ℕ). event.Read i count) same;
          reply_is = reply_is;
        })
    by_reply g count _ event_is reply_is = tt

    by_event : (ev : Event) → x.event ≡ ev → ReadsAll o.generation ev x.reply
    by_event (event.Read g count) is = by_reply g count x.reply is refl
    by_event _ is = tt

-- the messages that an end has given whole are the texts that were read
abbrev pub GivenWhole : Trace → List Entry → Type 0
GivenWhole t h =
    (p : Pair) (o : Owner) → t.owner p ≡ Some o → HaveRoom h (conv_of o)
    → ((t.side p).end.read_offset ≡ 0) × (take (t.side p).end.read_count (t.side p).end.got ≡ filter is_filled (reads o h))

module _ (w : World) (world : IsWorld w) where
  more : {ts : Tasks} (h : List Entry) (x : Entry) → IsLegalBy ts w h → MayFollowBy ts w h x → GivenWhole (trace w h) h → GivenWhole (trace w (h ++ x ∷ [])) (h ++ x ∷ [])
  more h x legal may before = λ p o owns room.
      subst (λ (s : Side). (s.end.read_offset ≡ 0) × (take s.end.read_count s.end.got ≡ filter is_filled (reads o (h ++ x ∷ [])))) (sym (ap (λ (t : Trace). t.side p) d.trace_is))
      (whole p o room (booked.had p o (sym (ap (λ (t : Trace). t.owner p) d.trace_is) ∙ owns)))
    where
      t : Trace
      t = trace w h

      d : Happened w h x
      d = happened w world h x legal may

      u : Trace
      u = actor_trace x.actor d.step.state (work_of (after w h) x) d.step.outcome t

      kept : Kept w (length h) (after w h) t h
      kept = kept_at w world h legal

      booked : Booked t u x.actor x.event x.reply
      booked = subst (λ (r : Reply). Booked t u x.actor x.event r) (sym d.reply_is) d.leaves.booked

      whole : (p : Pair) (o : Owner) → HaveRoom (h ++ x ∷ []) (conv_of o)
          → ((t.owner p ≡ Some o) × EntryAccount o x.actor x.event x.reply (t.side p).end (u.side p).end) ⊎ (((q : Pair) → t.owner q ≡ Some o → ⊥) × (u.side p ≡ empty_side) × NoEntry o x.actor x.event x.reply)
          → ((u.side p).end.read_offset ≡ 0) × (take (u.side p).end.read_count (u.side p).end.got ≡ filter is_filled (reads o (h ++ x ∷ [])))
      whole p o room (inl old) =
          let here = read_here o x.actor x.event x.reply in
          let was = before p o old.0 (room_before h x (conv_of o) room) in
          let now = old.1.whole (room_here o h x room) (kept.books.reading p o old.0) (got_sized (length h) t h kept.fine.owned kept.books p) was.0 in
          let read : filter is_filled (reads o (h ++ x ∷ [])) ≡ filter is_filled (reads o h) ++ filter is_filled here = ap (filter is_filled) (reads_push o h x) ∙ filter-append is_filled (reads o h) here in
          (now.0, now.1 ∙ (ap (λ (xs : List (List ℕ)). xs ++ filter is_filled here) was.1 ∙ sym read))
      whole p o room (inr new) =
          let none : reads o (h ++ x ∷ []) ≡ [] = rw (reads_push o h x) (rw ((kept.books.none o new.0).1, new.2.read_none) refl) in (
            ap (λ (s : Side). s.end.read_offset) new.1,
            ap (λ (s : Side). take s.end.read_count s.end.got) new.1 ∙ sym (ap (filter is_filled) none),
          )

  pub given_whole : {ts : Tasks} (h : List Entry) → IsLegalBy ts w h → GivenWhole (trace w h) h
  given_whole h legal = by_entries w (λ (k : List Entry). GivenWhole (trace w k) k) (λ p o is. absurd (none-some o is)) more h legal
