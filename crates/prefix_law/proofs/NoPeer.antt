-- An end without a peer gets and reads nothing, and nothing of it is acknowledged.
use Rattle.std.proofs.Common.{◌≡◌, ℕ, ◌≤◌, List, [], ◌∷◌, length, Option, Some, None, inl, refl, sym, ap, subst, ◌∙◌, arith}
use Rattle.std.specs.Option.{option_and_then}
use Rattle.std.proofs.lemmas.List.{take_all}
use Rattle.std.proofs.lemmas.Option.{none-some}
use Rattle.net_base.specs.declared.address.Pair.{Pair}
use Rattle.net_base.specs.declared.address.Proto.{Proto}
use Rattle.net_base.specs.declared.address.Proto.TheVariants as proto
use Rattle.net_base.specs.declared.history.Entry.{Entry}
use Rattle.net_base.specs.declared.world.World.{World}
use Rattle.net_base.specs.IlEnd.{End}
use Rattle.net_base.specs.Legal.{IsLegalBy}
use Rattle.net_base.specs.Mirror.{mirror}
use Rattle.net_base.specs.Net.{after}
use Rattle.net_base.specs.Tasks.{Tasks}
use Rattle.net_base.specs.World.{IsWorld}
use Rattle.net_base.specs.Written.{Conversation, given_in, holder, pair_of, peer, joined_texts, stood}
use Rattle.prefix_law.specs.PrefixLaw.{Alone}
use Rattle.prefix_law.proofs.Accounts.{HasEmpty, given_out}
use Rattle.prefix_law.proofs.Begins.{begins_length}
use Rattle.prefix_law.proofs.Books.{conv_of}
use Rattle.prefix_law.proofs.Happened.{kept_at, linked}
use Rattle.prefix_law.proofs.InOrders.{conv_of_is}
use Rattle.prefix_law.proofs.Linked.{Linked, owner_in}
use Rattle.prefix_law.proofs.Pairs.{Side}
use Rattle.prefix_law.proofs.Peers.{pair_owned, owned_pair, nobody_holds}
use Rattle.prefix_law.proofs.Standing.{Same, all_stood}
use Rattle.prefix_law.proofs.Talking.{Bond}
use Rattle.prefix_law.proofs.Trace.{Owner, Trace, trace, empty_side}
use Rattle.prefix_law.proofs.Whole.{Kept}

no_length : {A : Type 0} (xs : List A) → length xs ≤ 0 → xs ≡ []
no_length [] less = refl
no_length (x ∷ xs) less = absurd (omega arith)

-- texts that are none of them empty, and have no bytes together, are none
no_texts : (xs : List (List ℕ)) → joined_texts xs ≡ [] → (HasEmpty xs → ⊥) → xs ≡ []
no_texts [] bytes filled = refl
no_texts ([] ∷ xs) bytes filled = absurd (filled (inl refl))
no_texts ((b ∷ bs) ∷ xs) bytes filled = absurd (cc bytes)

nothing_given : (taken cut : ℕ) (got : List (List ℕ)) → got ≡ [] → given_out taken cut got ≡ []
nothing_given taken cut got none = rw (none, take_all {A = List ℕ} taken [] (omega arith), take_all {A = ℕ} cut [] (omega arith)) refl

pub alone : {ts : Tasks} (w : World) (h : List Entry) (e : Conversation) → IsWorld w → IsLegalBy ts w h → e.proto ≡ proto.Il → peer w h e ≡ None → Alone w h e
alone w h e world legal il is =
    subst (λ (x : Conversation). Alone w h x) e_is (go (pair_of w h e) refl is)
  where
    o : Owner
    o = owner_in e

    e_is : conv_of o ≡ e
    e_is = conv_of_is e il

    t : Trace
    t = trace w h

    kept : Kept w (length h) (after w h) t h
    kept = kept_at w world h legal

    link : Linked t (given_in w h)
    link = linked w world h legal

    -- it has no pair
    bare : pair_of w h e ≡ None → Alone w h (conv_of o)
    bare none =
        let last = (all_stood w world h legal).none o unowned in
        record { got = last.got_is; unread = (kept.books.none o unowned).1; unacked = last.acked_is }
      where
        unowned : (p : Pair) → t.owner p ≡ Some o → ⊥
        unowned p owns = none-some p (sym none ∙ (ap (λ (x : Conversation). pair_of w h x) (sym e_is) ∙ owned_pair w h t link p o kept.fine.owned.unique owns))

    -- nobody has the mirror of its pair
    unmet : (p : Pair) → t.owner p ≡ Some o → t.side (mirror p) ≡ empty_side → Alone w h (conv_of o)
    unmet p owns empty = record {
      got = last.got_is ∙ none;
      unread = no_texts _ (sym (kept.books.given_is p o owns) ∙ nothing_given near.read_count near.read_offset near.got none) (λ read. absurd (none-some _ (bond.all_got (kept.books.ended p o owns read).0).0.1));
      unacked = last.acked_is ∙ omega (arith, bond.acked_got);
    }
      where
        near : End
        near = (t.side p).end

        last : Same (stood w h (conv_of o)) near
        last = (all_stood w world h legal).had p o owns

        bond : Bond near.rstart near.acked near.got near.early near.closed_by_peer empty_side.end.start empty_side.end.fresh empty_side.end.sent empty_side.end.got empty_side.end.cause
        bond = subst (λ (s : Side). Bond near.rstart near.acked near.got near.early near.closed_by_peer s.end.start s.end.fresh s.end.sent s.end.got s.end.cause) empty (kept.fine.owned.talk p).link

        none : near.got ≡ []
        none = no_length near.got (begins_length near.got [] bond.in_order)

    go : (found : Option Pair) → pair_of w h e ≡ found → option_and_then (λ (pair : Pair). holder w h e.proto (mirror pair)) found ≡ None → Alone w h (conv_of o)
    go None at none = bare at
    go (Some p) at none = unmet p (pair_owned w h t link e p il at) (empty (t.owner (mirror p)) refl)
      where
        empty : (owner : Option Owner) → t.owner (mirror p) ≡ owner → t.side (mirror p) ≡ empty_side
        empty None is = kept.fine.owned.untouched (mirror p) is
        empty (Some other) is = absurd (nobody_holds w h t link (mirror p) other (ap (λ (q : Proto). holder w h q (mirror p)) (sym il) ∙ none) is)
