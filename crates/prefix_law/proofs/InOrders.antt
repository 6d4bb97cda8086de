-- What is read at an end was written at its peer, in order.
use Rattle.std.proofs.Common.{◌≡◌, ℕ, ◌+◌, ◌≤◌, List, [], ◌∷◌, ◌++◌, length, take, drop, filter, Some, inl, inr, sym, ap, subst, ◌∙◌, append_assoc, arith}
use Rattle.std.specs.Prelude.{slice_index_or}
use Rattle.std.proofs.lemmas.List.{append-nil, take_all, take-append-drop, drop_more}
use Rattle.net_base.specs.declared.address.Pair.{Pair}
use Rattle.net_base.specs.declared.address.Proto.{Proto}
use Rattle.net_base.specs.declared.address.Proto.TheVariants as proto
use Rattle.net_base.specs.declared.history.Entry.{Entry}
use Rattle.net_base.specs.declared.world.World.{World}
use Rattle.net_base.specs.IlEnd.{End}
use Rattle.net_base.specs.Legal.{IsLegalBy}
use Rattle.net_base.specs.Mirror.{mirror}
use Rattle.net_base.specs.Net.{after}
use Rattle.net_base.specs.Networks.{is_filled}
use Rattle.net_base.specs.Tasks.{Tasks}
use Rattle.prefix_law.specs.PrefixLaw.{InOrder, HaveRoom, IsEndOfFile, IsPrefix}
use Rattle.net_base.specs.World.{IsWorld}
use Rattle.net_base.specs.Written.{Conversation, HasClosed, IsRead, peer, written_texts, read_texts, joined_texts, stood}
use Rattle.prefix_law.proofs.Accounts.{AtEnd, HasEmpty, given_by, given_out, IsReading, joined-append}
use Rattle.prefix_law.proofs.Begins.{begins_prefix, begins_same}
use Rattle.prefix_law.proofs.Books.{conv_of}
use Rattle.prefix_law.proofs.EndOfFile.{Reads, reads_nothing, empty_read, read_before, closed_before}
use Rattle.prefix_law.proofs.Happened.{kept_at, linked}
use Rattle.prefix_law.proofs.Linked.{owner_in}
use Rattle.prefix_law.proofs.Messages.{given_whole}
use Rattle.prefix_law.proofs.Pairs.{IsPrefixOf}
use Rattle.prefix_law.proofs.Peers.{peers_own}
use Rattle.prefix_law.proofs.Standing.{Same, all_stood}
use Rattle.prefix_law.proofs.Trace.{Trace, trace}
use Rattle.prefix_law.proofs.Whole.{Kept}

-- what an end gave begins what it got
given_prefix : (taken cut : ℕ) (got : List (List ℕ)) → IsReading taken cut got → IsPrefix (given_out taken cut got) (joined_texts got)
given_prefix taken cut got (inl less') =
    let less = less'.0 in
    let m = slice_index_or got taken [] in
    let rest = drop cut m ++ joined_texts (drop (taken + 1) got) in
    let split : got ≡ take taken got ++ (m ∷ drop (taken + 1) got) = sym (take-append-drop taken got) ∙ ap (λ (xs : List (List ℕ)). take taken got ++ xs) (drop_more got taken [] less) in
    let whole : joined_texts got ≡ joined_texts (take taken got) ++ (m ++ joined_texts (drop (taken + 1) got)) = ap joined_texts split ∙ joined-append (take taken got) (m ∷ drop (taken + 1) got) in (
      rest,
      pieces (joined_texts (take taken got)) (take cut m) (drop cut m) (joined_texts (drop (taken + 1) got))
          ∙ (ap (λ (xs : List ℕ). joined_texts (take taken got) ++ (xs ++ joined_texts (drop (taken + 1) got))) (take-append-drop cut m) ∙ sym whole),
    )
  where
    pieces : (js xs ys zs : List ℕ) → (js ++ xs) ++ (ys ++ zs) ≡ js ++ ((xs ++ ys) ++ zs)
    pieces js xs ys zs = simp append_assoc
given_prefix taken cut got (inr end) =
    ([], rw (end.1, take_all taken got (omega (arith, end.0))) (simp append-nil))

joined_prefix : (xs ys : List (List ℕ)) → IsPrefixOf xs ys → IsPrefix (joined_texts xs) (joined_texts ys)
joined_prefix xs ys p = (joined_texts p.0, sym (joined-append xs p.0) ∙ ap joined_texts p.1)

prefix_trans : {A : Type 0} (xs ys zs : List A) → IsPrefix xs ys → IsPrefix ys zs → IsPrefix xs zs
prefix_trans {A} xs ys zs p q = (p.0 ++ q.0, sym (append_assoc xs p.0 q.0) ∙ (ap (λ (rest : List A). rest ++ q.0) p.1 ∙ q.1))

given_all : (taken cut : ℕ) (got : List (List ℕ)) → taken ≡ length got → cut ≡ 0 → given_out taken cut got ≡ joined_texts got
given_all taken cut got all none = rw (none, take_all taken got (omega (arith, all))) (append-nil (joined_texts got))

pub conv_of_is : (e : Conversation) → e.proto ≡ proto.Il → conv_of (owner_in e) ≡ e
conv_of_is e il = ap (λ (p : Proto). record { host = e.host; proto = p; slot = e.slot; generation = e.generation }) (sym il)

pub in_order : {ts : Tasks} (w : World) (h : List Entry) (e f : Conversation) → IsWorld w → IsLegalBy ts w h → e.proto ≡ proto.Il → peer w h e ≡ Some f → InOrder w h e f
in_order w h e f world legal il is = record {
  bytes = bytes;
  messages = messages;
  closed = closed;
  all_read = all_before;
  got = got;
  acked = acked;
}
  where
    t : Trace
    t = trace w h

    kept : Kept w (length h) (after w h) t h
    kept = kept_at w world h legal

    own : (p : Pair) × (t.owner p ≡ Some (owner_in e)) × (f.proto ≡ proto.Il) × (t.owner (mirror p) ≡ Some (owner_in f))
    own = peers_own w h t (linked w world h legal) e f il is

    p : Pair
    p = own.0

    near : End
    near = (t.side p).end

    far : End
    far = (t.side (mirror p)).end

    e_is : conv_of (owner_in e) ≡ e
    e_is = conv_of_is e il

    f_is : conv_of (owner_in f) ≡ f
    f_is = conv_of_is f own.2

    begun : IsPrefixOf near.got far.sent
    begun = begins_prefix near.got far.sent (kept.fine.owned.talk p).link.in_order

    written : far.sent ≡ written_texts h f
    written = kept.books.sent_is (mirror p) (owner_in f) own.3 ∙ ap (λ (x : Conversation). written_texts h x) f_is

    given : given_by near ≡ joined_texts (read_texts h e)
    given = kept.books.given_is p (owner_in e) own.1 ∙ ap (λ (x : Conversation). joined_texts (read_texts h x)) e_is

    bytes : IsPrefix (joined_texts (read_texts h e)) (joined_texts (written_texts h f))
    bytes =
        subst (λ (xs : List ℕ). IsPrefix xs (joined_texts (written_texts h f))) given
        (subst (λ (ys : List (List ℕ)). IsPrefix (given_by near) (joined_texts ys)) written
        (prefix_trans (given_by near) (joined_texts near.got) (joined_texts far.sent) (given_prefix near.read_count near.read_offset near.got (kept.books.reading p (owner_in e) own.1)) (joined_prefix near.got far.sent begun)))

    messages : HaveRoom h e → IsPrefix (filter is_filled (read_texts h e)) (written_texts h f)
    messages room =
        let whole = (given_whole w world h legal p (owner_in e) own.1 (subst (λ (x : Conversation). HaveRoom h x) (sym e_is) room)).1 in
        let texts : take near.read_count near.got ≡ filter is_filled (read_texts h e) = whole ∙ ap (λ (x : Conversation). filter is_filled (read_texts h x)) e_is in
        subst (λ (xs : List (List ℕ)). IsPrefix xs (written_texts h f)) texts
        (subst (λ (ys : List (List ℕ)). IsPrefix (take near.read_count near.got) ys) written
        (prefix_trans (take near.read_count near.got) near.got far.sent (drop near.read_count near.got, take-append-drop near.read_count near.got) begun))

    all_read : HasEmpty (read_texts h e) → joined_texts (read_texts h e) ≡ joined_texts (written_texts h f)
    all_read empty =
        let at : AtEnd near = kept.books.ended p (owner_in e) own.1 (subst (λ (x : Conversation). HasEmpty (read_texts h x)) (sym e_is) empty) in
        let link = (kept.fine.owned.talk p).link in
        let all : near.got ≡ far.sent = begins_same near.got far.sent link.in_order (link.all_got at.0).1 in
        sym given ∙ (given_all near.read_count near.read_offset near.got at.1 at.2 ∙ ap joined_texts (all ∙ written))

    at_end : (k : ℕ) → IsEndOfFile h e k → Reads h (owner_in e) k
    at_end k eof = reads_nothing h (owner_in e) k eof.0 (subst (λ (x : Conversation). IsRead h x k eof.0 []) (sym e_is) eof.1)

    closed : (k : ℕ) → IsEndOfFile h e k → HasClosed w (take k h) f
    closed k eof = subst (λ (x : Conversation). HasClosed w (take k h) x) f_is (closed_before w world h legal (owner_in e) p own.1 k (at_end k eof) (owner_in f) own.3)

    all_before : (k : ℕ) → IsEndOfFile h e k → joined_texts (read_texts (take k h) e) ≡ joined_texts (written_texts h f)
    all_before k eof =
        let r : Reads h (owner_in e) k = at_end k eof in
        subst (λ (x : Conversation). joined_texts (read_texts (take k h) x) ≡ joined_texts (read_texts h x)) e_is (read_before w world h legal (owner_in e) p own.1 k r)
        ∙ all_read (subst (λ (x : Conversation). HasEmpty (read_texts h x)) e_is (empty_read w world h legal (owner_in e) p own.1 k r))

    stands_near : Same (stood w h e) near
    stands_near = subst (λ (x : Conversation). Same (stood w h x) near) e_is ((all_stood w world h legal).had p (owner_in e) own.1)

    stands_far : Same (stood w h f) far
    stands_far = subst (λ (x : Conversation). Same (stood w h x) far) f_is ((all_stood w world h legal).had (mirror p) (owner_in f) own.3)

    got : IsPrefix (stood w h e).got (stood w h f).sent
    got =
        subst (λ (xs : List (List ℕ)). IsPrefix xs (stood w h f).sent) (sym stands_near.got_is)
        (subst (λ (ys : List (List ℕ)). IsPrefix near.got ys) (sym stands_far.sent_is) begun)

    acked : (stood w h e).acked ≤ length (stood w h f).got
    acked =
        let less : near.acked ≤ length far.got = (kept.fine.owned.talk p).link.acked_got in
        subst (λ (n : ℕ). n ≤ length (stood w h f).got) (sym stands_near.acked_is) (subst (λ (ys : List (List ℕ)). near.acked ≤ length ys) (sym stands_far.got_is) less)
