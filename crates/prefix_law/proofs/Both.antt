-- The import law, from the prefix law both ways.
use Rattle.std.proofs.Common.{◌≡◌, ℕ, zero, suc, ◌&&◌, Bool, true, false, cond, Option, List, [], ◌∷◌, ◌++◌, Some, None, refl, sym, ap, subst, ◌∙◌, arith}
use Rattle.std.specs.Prelude.{filter, map, slice_get, take, if◌then◌else◌, find}
use Rattle.std.specs.List.{flat_map}
use Rattle.std.specs.Option.{option_map, option_and_then}
use Rattle.std.proofs.lemmas.Bool.{and_parts, eq-eqb}
use Rattle.std.proofs.lemmas.Option.{none-some, same_Some}
use Rattle.std.proofs.lemmas.List.Elements.{filter-append}
use Rattle.net_base.specs.declared.address.Pair.{Pair}
use Rattle.net_base.specs.declared.address.Proto.{Proto}
use Rattle.net_base.specs.declared.address.Proto.TheVariants as proto
use Rattle.net_base.specs.declared.history.Entry.{Entry}
use Rattle.net_base.specs.declared.event.Event.TheVariants as event
use Rattle.net_base.specs.declared.reply.Reply.TheVariants as reply
use Rattle.net_base.specs.declared.world.World.{World}
use Rattle.net_base.specs.Legal.{IsLegal}
use Rattle.net_base.specs.Networks.{is_filled}
use Rattle.net_base.specs.Steps.{Play, Ends, no_names}
use Rattle.net_base.specs.Mirror.{mirror}
use Rattle.net_base.specs.Same.{same_pair}
use Rattle.net_base.specs.Stamped.{In, same_proto}
use Rattle.net_base.specs.Written.{Conversation, Given, actor_of, given_in, holder, pair_of, peer, read_by, written_by, read_texts, written_texts}
use Rattle.prefix_law.specs.PrefixLaw.{HaveRoom, InOrder, IsPrefix}
use Rattle.prefix_law.specs.ImportLaw.{AreAll, Exports, Imports, IsCallAnswer, Served, StandsInOrder, calls, is_deed, of_steps, own_of_data, read_in_all, got_back, written_in_all}
use Rattle.prefix_law.specs.LongReads.{ReadsLong}
use Rattle.prefix_law.specs.Phases.{PhaseAnswer, Reads, Request, answer_of, phase_answers, answers_in_turn, on_own, requests}
use Rattle.net_base.specs.Exports.{exports}
use Rattle.net_base.specs.Server.{Server}
use Rattle.prefix_law.specs.Order.{StandInOrder}
use Rattle.prefix_law.specs.Spans.{EachRuns, RunsSpan, Scripted, span_entries, entries_numbered, own_stamped, spans}
use Rattle.prefix_law.proofs.Facts.{Stands, at_conversation, on_own_data}
use Rattle.prefix_law.proofs.Importing.{data_long}
use Rattle.prefix_law.proofs.Orders.{each_runs, own_is}
use Rattle.prefix_law.proofs.Parts.{Part, in_numbered, told_by_part, in_part, part_of_part}
use Rattle.prefix_law.proofs.Steps.{own_part, run_of, step_stands, steps_read_long, steps_stand}
use Rattle.prefix_law.proofs.Turns.{heard_in, own_long, turns}
use Rattle.net_base.proofs.Shared.{same_proto_is}

-- Lists.

filtered_flat : {A B : Type 0} (test : B → Bool) (f : A → List B) (xs : List A) → filter test (flat_map f xs) ≡ flat_map (λ (x : A). filter test (f x)) xs
filtered_flat test f [] = refl
filtered_flat {A} {B} test f (x ∷ xs) = filter-append test (f x) (flat_map f xs) ∙ ap (λ (ys : List B). filter test (f x) ++ ys) (filtered_flat test f xs)

filtered_prefix : {A : Type 0} (test : A → Bool) (xs ys : List A) → IsPrefix xs ys → IsPrefix (filter test xs) (filter test ys)
filtered_prefix test xs ys p = (filter test p.0, sym (filter-append test xs p.0) ∙ ap (filter test) p.1)

filtered_twice : {A : Type 0} (test : A → Bool) (xs : List A) → filter test (filter test xs) ≡ filter test xs
filtered_twice test [] = refl
filtered_twice {A} test (x ∷ xs) = go (test x) refl (filtered_twice test xs)
  where
    go : (b : Bool) → test x ≡ b → filter test (filter test xs) ≡ filter test xs
        → filter test (if b then x ∷ filter test xs else filter test xs) ≡ (if b then x ∷ filter test xs else filter test xs)
    go true is rest = rw is (ap (λ (ys : List A). x ∷ ys) rest)
    go false is rest = rest

-- All that is read and written.

reads_deed : (e : Conversation) (x : Entry) → (read_by e x ≡ [] → ⊥) → is_deed e x ≡ true
reads_deed e x loud = go (read_by e x) refl
  where
    go : (ts : List (List ℕ)) → read_by e x ≡ ts → is_deed e x ≡ true
    go [] is = absurd (loud is)
    go (t ∷ ts) is = rw is refl

writes_deed : (e : Conversation) (x : Entry) → (written_by e x ≡ [] → ⊥) → is_deed e x ≡ true
writes_deed e x loud = go (read_by e x) (written_by e x) refl refl
  where
    go : (ts us : List (List ℕ)) → read_by e x ≡ ts → written_by e x ≡ us → is_deed e x ≡ true
    go (t ∷ ts) us is also = rw is refl
    go [] [] is also = absurd (loud also)
    go [] (u ∷ us) is also = rw (is, also) refl

module _ (h : List Entry) (e : Conversation) (xs : List (ℕ × Entry)) (part : Part xs (entries_numbered 0 h)) (all : AreAll h e xs) where
  there : (k : ℕ) (x : Entry) → In (k, x) (entries_numbered 0 h) → is_deed e x ≡ true → In (k, x) xs
  there k x listed deed =
      let at = in_numbered 0 h k x listed in
      all k x (subst (λ (j : ℕ). slice_get h j ≡ Some x) (omega (arith, at.1)) at.2) deed

  pub all_read : read_in_all e xs ≡ filter is_filled (read_texts h e)
  all_read = ap (filter is_filled) (told_by_part (read_by e) 0 h xs part (λ k x listed loud. there k x listed (reads_deed e x loud)))

  pub all_written : written_in_all e xs ≡ written_texts h e
  all_written = (told_by_part (written_by e) 0 h xs part (λ k x listed loud. there k x listed (writes_deed e x loud)))

-- Long reads.

read_is : (e : Conversation) (x : Entry) (count : ℕ) (text : List ℕ) → x.actor ≡ actor_of e → x.event ≡ event.Read e.generation count → x.reply ≡ reply.Bytes text → read_by e x ≡ text ∷ []
read_is e x count text here what says = rw (at_conversation e x here, what, says, eq-eqb e.generation e.generation refl) refl

no_text : (text : List ℕ) → text ∷ [] ≡ [] → ⊥
no_text text same = cc same

-- where all reads of the conversation are among these, and these read long, all reads have room
room_for : (h : List Entry) (e : Conversation) (xs : List (ℕ × Entry)) → AreAll h e xs → ((x : ℕ × Entry) → In x xs → ReadsLong x.1.event) → HaveRoom h e
room_for h e xs all long k count text is = subst ReadsLong is.event_is (long (k, is.entry) (all k is.entry is.stands (reads_deed e is.entry loud)))
  where
    loud : read_by e is.entry ≡ [] → ⊥
    loud none = no_text text (sym (read_is e is.entry count text is.actor_is is.event_is is.reply_is) ∙ none)

-- The law.

-- a peer is of the same protocol

passes : {A : Type 0} (test : A → Bool) (xs : List A) (x : A) → find test xs ≡ Some x → test x ≡ true
passes test [] x is = absurd (none-some x is)
passes {A} test (y ∷ xs) x is = go (test y) refl is (passes test xs x)
  where
    go : (b : Bool) → test y ≡ b → cond b (Some y) (find test xs) ≡ Some x → (find test xs ≡ Some x → test x ≡ true) → test x ≡ true
    go true pass same later = subst (λ (z : A). test z ≡ true) (same_Some y x same) pass
    go false pass same later = later same

holder_proto : (w : World) (h : List Entry) (p : Proto) (pair : Pair) (f : Conversation) → holder w h p pair ≡ Some f → f.proto ≡ p
holder_proto w h p pair f is = go (find (λ (g : Given). same_proto g.to.proto p && same_pair g.pair pair) (given_in w h)) refl is
  where
    go : (o : Option Given) → find (λ (g : Given). same_proto g.to.proto p && same_pair g.pair pair) (given_in w h) ≡ o → option_map (λ (g : Given). g.to) o ≡ Some f → f.proto ≡ p
    go None at same = absurd (none-some f same)
    go (Some g) at same =
        let pass = passes (λ (k : Given). same_proto k.to.proto p && same_pair k.pair pair) (given_in w h) g at in
        sym (ap (λ (k : Conversation). k.proto) (same_Some g.to f same)) ∙ same_proto_is g.to.proto p (and_parts (same_proto g.to.proto p) (same_pair g.pair pair) pass).0

pub peer_proto : (w : World) (h : List Entry) (e f : Conversation) → peer w h e ≡ Some f → f.proto ≡ e.proto
peer_proto w h e f is = go (pair_of w h e) is
  where
    go : (o : Option Pair) → option_and_then (λ (pair : Pair). holder w h e.proto (mirror pair)) o ≡ Some f → f.proto ≡ e.proto
    go None same = absurd (none-some f same)
    go (Some pair) same = holder_proto w h e.proto (mirror pair) f same

-- One answer for each call.

in_prefix : {A : Type 0} (xs ys : List A) (i : ℕ) (x : A) → IsPrefix xs ys → slice_get xs i ≡ Some x → slice_get ys i ≡ Some x
in_prefix {A} xs ys i x p is = subst (λ (zs : List A). slice_get zs i ≡ Some x) p.1 (at_front xs i is)
  where
    at_front : (zs : List A) (j : ℕ) → slice_get zs j ≡ Some x → slice_get (zs ++ p.0) j ≡ Some x
    at_front [] j same = absurd (none-some x same)
    at_front (z ∷ zs) zero same = same
    at_front (z ∷ zs) (suc j) same = at_front zs j same

has_request : {S : Type 0} (v : Server S (List ℕ)) (s : S) (qs : List Request) (i : ℕ) (reply : List ℕ) → slice_get (answers_in_turn v s qs) i ≡ Some reply → (q : Request) × (slice_get qs i ≡ Some q)
has_request v s [] i reply is = absurd (none-some reply is)
has_request v s (q ∷ qs) zero reply is = (q, refl)
has_request {S} v s (q ∷ qs) (suc i) reply is = go (answer_of (v.serves s q.text) q.replies) is (λ later. has_request v later qs i reply)
  where
    go : (o : Option (PhaseAnswer S)) → slice_get (phase_answers o (λ (later : S). answers_in_turn v later qs)) (suc i) ≡ Some reply
        → ((later : S) → slice_get (answers_in_turn v later qs) i ≡ Some reply → (r : Request) × (slice_get qs i ≡ Some r)) → (r : Request) × (slice_get qs i ≡ Some r)
    go None same later = absurd (none-some reply same)
    go (Some a) same later = later a.later same

text_at : (qs : List Request) (i : ℕ) (q : Request) → slice_get qs i ≡ Some q → slice_get (map (λ (r : Request). r.text) qs) i ≡ Some q.text
text_at [] i q is = absurd (none-some q is)
text_at (r ∷ qs) zero q is = ap (λ (s : Request). Some s.text) (same_Some r q is)
text_at (r ∷ qs) (suc i) q is = text_at qs i q is

one_each : {S : Type 0} (v : Server S (List ℕ)) (start : S) (calls got_back heard said : List (List ℕ)) (qs : List Request) → IsPrefix heard calls → IsPrefix got_back said
    → map (λ (q : Request). q.text) qs ≡ heard → IsPrefix said (answers_in_turn v start qs) → (i : ℕ) (reply : List ℕ) → slice_get got_back i ≡ Some reply → IsCallAnswer v start calls qs i reply
one_each v start calls got_back heard said qs asked replied are answered i reply is =
    let answer = in_prefix said (answers_in_turn v start qs) i reply answered (in_prefix got_back said i reply replied is) in
    let q = has_request v start qs i reply answer in
    record {
      request = q.0;
      called = in_prefix heard calls i q.0.text asked (subst (λ (ts : List (List ℕ)). slice_get ts i ≡ Some q.0.text) are (text_at qs i q.0 q.1));
      served = q.1;
      answered = answer;
    }

-- the prefix law, both ways
pub record BothWays (w : World) (h : List Entry) (e f : Conversation) : Type 0 where
  pub near : InOrder w h e f
  pub far : InOrder w h f e

in_steps : {N T : Type 0} (script : Scripted N T) (h : List Entry) (c : ℕ) → StandsInOrder script h c → EachRuns script.play (spans script (own_stamped h c))
in_steps script h c there = each_runs script script.start script.steps there.0 (own_stamped h c) (subst (StandInOrder script script.start script.steps there.0) (sym (own_is h c)) there.1)

pub served : {S M N T U : Type 0} (w : World) (h : List Entry) (e f : Conversation) → IsLegal w h → BothWays w h e f
    → (c : ℕ) (near : Scripted M T) (is_importing : T → Bool) → Imports M T h c e near is_importing
    → (v : Server S (List ℕ)) (s : ℕ) (far : Scripted N U) (i : ℕ) → (x : Exports v N U h s f far i)
    → Served v x.start f (calls h c e near is_importing) (got_back h c e near is_importing) x.span.entries
served {S} {M} {N} {T} {U} w h e f legal ways c near is_importing imports v s far i x = record {
  asked = asked;
  replied = replied;
  requests_are = sym told.0 ∙ same_read;
  answered = told.1;
  each = λ j reply is. one_each v x.start (calls h c e near is_importing) (got_back h c e near is_importing) (read_in_all f theirs) (written_in_all f theirs) qs asked replied (sym told.0 ∙ same_read) told.1 j reply is;
}
  where
    ours : List (ℕ × Entry)
    ours = of_steps is_importing (spans near (own_stamped h c))

    ours_stand : Part ours (entries_numbered 0 h)
    ours_stand = steps_stand near is_importing h c

    theirs : List (ℕ × Entry)
    theirs = on_own v (Reads x.start) x.span.entries

    span_stands : Part x.span.entries (entries_numbered 0 h)
    span_stands = step_stands far h s i x.span x.stands

    theirs_stand : Part theirs (entries_numbered 0 h)
    theirs_stand = part_of_part theirs x.span.entries (entries_numbered 0 h) (own_part v (Reads x.start) x.span.entries) span_stands

    runs : RunsSpan (exports v (own_of_data f x.called x.mode) x.rounds x.start) (span_entries x.span.entries)
    runs = subst (λ (p : Play). RunsSpan p (span_entries x.span.entries)) x.play_is (run_of far.play (spans far (own_stamped h s)) i x.span (in_steps far h s x.in_order) x.stands)

    fine : (y : ℕ × Entry) → In y x.span.entries → Stands w y
    fine y listed =
        let at = in_numbered 0 h y.0 y.1 (in_part y x.span.entries (entries_numbered 0 h) span_stands listed) in
        (take at.0 h, legal at.0 y.1 at.2)

    told : (flat_map (heard_in f) theirs ≡ map (λ (q : Request). q.text) (requests v (Reads x.start) x.span.entries)) × IsPrefix (written_in_all f theirs) (answers_in_turn v x.start (requests v (Reads x.start) x.span.entries))
    told = turns v (own_of_data f x.called x.mode) f (Stands w) (on_own_data w f x.called x.mode) x.rounds (Reads x.start) (Ends (no_names [])) x.span.entries tt fine runs

    same_read : flat_map (heard_in f) theirs ≡ read_in_all f theirs
    same_read = sym (filtered_flat is_filled (λ (y : ℕ × Entry). read_by f y.1) theirs)

    room_far : HaveRoom h f
    room_far =
        room_for h f theirs x.all
        (own_long v (own_of_data f x.called x.mode) f (Stands w) (on_own_data w f x.called x.mode) (data_long f x.called x.mode) x.rounds (Reads x.start) (Ends (no_names [])) x.span.entries runs)

    room_near : HaveRoom h e
    room_near = room_for h e ours imports.all (steps_read_long near.play is_importing (spans near (own_stamped h c)) imports.whole (in_steps near h c imports.in_order))

    qs : List Request
    qs = requests v (Reads x.start) x.span.entries

    asked : IsPrefix (read_in_all f theirs) (calls h c e near is_importing)
    asked =
        subst (λ (ts : List (List ℕ)). IsPrefix ts (calls h c e near is_importing)) (filtered_twice is_filled (read_texts h f) ∙ sym (all_read h f theirs theirs_stand x.all))
        (subst (λ (ts : List (List ℕ)). IsPrefix (filter is_filled (filter is_filled (read_texts h f))) (filter is_filled ts)) (sym (all_written h e ours ours_stand imports.all))
        (filtered_prefix is_filled (filter is_filled (read_texts h f)) (written_texts h e) (ways.far.messages room_far)))

    replied : IsPrefix (got_back h c e near is_importing) (written_in_all f theirs)
    replied =
        subst (λ (ts : List (List ℕ)). IsPrefix ts (written_in_all f theirs)) (sym (all_read h e ours ours_stand imports.all))
        (subst (λ (ts : List (List ℕ)). IsPrefix (filter is_filled (read_texts h e)) ts) (sym (all_written h f theirs theirs_stand x.all)) (ways.near.messages room_near))
