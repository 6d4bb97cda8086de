-- Each frame that was laid is one of the frames of a history.
use Rattle.std.proofs.Common.{◌≡◌, ℕ, List, [], ◌∷◌, ◌++◌, filter_map, map, Option, Some, None, refl, sym, ap, ◌∙◌}
use Rattle.std.specs.List.{cons_option}
use Rattle.std.specs.Option.{option_map}
use Rattle.std.proofs.lemmas.List.{map-append}
use Rattle.std.proofs.lemmas.List.Elements.{filter_map-append}
use Rattle.net_base.specs.declared.history.Entry.{Entry}
use Rattle.net_base.specs.declared.packet.Packet.{Packet}
use Rattle.net_base.specs.declared.world.World.{World}
use Rattle.net_base.specs.Legal.{IsLegal, MayFollow}
use Rattle.net_base.specs.Net.{after, opening_net, with_of}
use Rattle.net_base.specs.World.{IsWorld}
use Rattle.history_laws.proofs.Shared.{by_entries}
use Rattle.replay_views.specs.Capture.{Place, frame_of, frames, laid_at, frames_laid, medium_of, given_packet, capture_place, frame_place}
use Rattle.replay_views.proofs.Following.{laid_more}
use Rattle.replay_views.proofs.Laying.{laid_gives}

-- the frame of one entry
laid_one : (w : World) (h : List Entry) (x : Entry) → IsWorld w → MayFollow w h x → map frame_place (frames_laid (after w h) x) ≡ filter_map laid_at (x ∷ [])
laid_one w h x world may = by (medium_of x.actor x.reply) refl
  where
    by : (on : Option ℕ) → medium_of x.actor x.reply ≡ on
        → map frame_place (frame_of on x.moment (given_packet (with_of ((after w h).owed x.caller)))) ≡ cons_option (option_map (capture_place x.moment) on) []
    by None is = refl
    by (Some m) is =
        let gives = laid_gives w h (after w h) x m world may is in
        ap (λ (p : Option Packet). map frame_place (frame_of (Some m) x.moment p)) gives.is

pub all_laid : (w : World) (h : List Entry) → IsWorld w → IsLegal w h → map frame_place (frames w h) ≡ filter_map laid_at h
all_laid w h world legal = by_entries w (λ (k : List Entry). map frame_place (frames w k) ≡ filter_map laid_at k) refl more h legal
  where
    more : (k : List Entry) (x : Entry) → IsLegal w k → MayFollow w k x → map frame_place (frames w k) ≡ filter_map laid_at k
        → map frame_place (frames w (k ++ x ∷ [])) ≡ filter_map laid_at (k ++ x ∷ [])
    more k x before may is =
        ap (map frame_place) (laid_more w (opening_net w) k x)
        ∙ (map-append frame_place (frames w k) (frames_laid (after w k) x)
        ∙ (ap (λ (ps : List Place). ps ++ map frame_place (frames_laid (after w k) x)) is
        ∙ (ap (λ (ps : List Place). filter_map laid_at k ++ ps) (laid_one w k x world may)
        ∙ sym (filter_map-append laid_at k (x ∷ [])))))
