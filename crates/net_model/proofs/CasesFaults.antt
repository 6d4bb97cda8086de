-- Histories that are changed at one place break the rule of that place.
use Rattle.std.proofs.Common.{◌≡◌, ℕ, ◌+◌, ◌<◌, Bool, true, false, List, ◌∷◌, take, Option, Some, None, slice_get, refl, sym, ap, subst, arith}
use Rattle.std.specs.Fmt.{digits}
use Rattle.rand_pcg.specs.Lcg.{state_after}
use Rattle.net_base.specs.declared.event.Event.{Event}
use Rattle.net_base.specs.declared.event.Event.TheVariants as event
use Rattle.net_base.specs.Steps.{Ask}
use Rattle.std.proofs.lemmas.Bool.{false≢true}
use Rattle.std.proofs.lemmas.Option.{same_Some}
use Rattle.net_base.specs.declared.history.Entry.{Entry}
use Rattle.net_base.specs.declared.reply.Reply.{Reply}
use Rattle.net_base.specs.declared.reply.Reply.TheVariants as reply
use Rattle.net_base.specs.declared.world.World.{World}
use Rattle.net_base.specs.Legal.{IsLegal, IsTimed, IsFault, Keeps, Rule, rule_number, Answers, AtMoment, Cites, Asked, Ready, InTime, Known, HasRoom}
use Rattle.net_base.specs.Net.{after}
use Rattle.net_base.specs.Number.{number}
use Rattle.net_base.specs.declared.packet.Header.{Header}
use Rattle.net_base.specs.declared.packet.BodyHeader.{BodyHeader}
use Rattle.net_base.specs.declared.packet.BodyHeader.TheVariants as shown
use Rattle.net_base.specs.declared.il.IlKind.{IlKind}
use Rattle.net_base.specs.declared.il.IlKind.TheVariants.{Data}
use Rattle.net_base.specs.Legal.{Shown}
use Rattle.world_text.specs.WorkedUdp.{datagram_world, datagram_history}
use Rattle.world_text.specs.WorkedIl.{lossy_world, lossy_history, refused_world, refused_history}
use Rattle.world_text.specs.WorkedFaults.{with_at, another_text, another_moment, another_cite, another_event, taken_too_early, moved_too_early, moved_too_far, sent_as_data, read_too_early, refused_otherwise, not_ended}
use Rattle.history_laws.proofs.Shared.{legal_take, timed_take}
use Rattle.net_model.proofs.CasesUdp.{datagram_is_legal, datagram_is_timed}
use Rattle.net_model.proofs.CasesIl.{lossy_is_legal, lossy_is_timed, refused_is_legal, refused_is_timed}

changed : (w : World) (h : List Entry) (k : ℕ) (x : Entry) (rule : Rule) → IsLegal w h → IsTimed w h → take k (with_at k x h) ≡ take k h → slice_get (with_at k x h) k ≡ Some x
    → ((r : Rule) → rule_number r < rule_number rule → Keeps r w (take k h) (after w (take k h)) x) → (Keeps rule w (take k h) (after w (take k h)) x → ⊥)
    → IsFault w (with_at k x h) k rule
changed w h k x rule legal timed same stands lower broken =
    record {
      entry = x;
      stands = stands;
      legal = subst (IsLegal w) (sym same) (legal_take w h k legal);
      timed = subst (IsTimed w) (sym same) (timed_take w h k timed);
      lower = λ r below. subst (λ (p : List Entry). Keeps r w p (after w p) x) (sym same) (lower r below);
      broken = λ keeps. broken (subst (λ (p : List Entry). Keeps rule w p (after w p) x) same keeps);
    }

-- what tells the shown things apart

abbrev first_byte : Reply → ℕ
first_byte (reply.Bytes (a ∷ b ∷ rest)) = b
first_byte _ = 0

abbrev kind_is_data : IlKind → ℕ
kind_is_data Data = 1
kind_is_data _ = 0

abbrev body_number : BodyHeader → ℕ
body_number (shown.Il kind spec id ack len) = kind_is_data kind + id
body_number _ = 0

abbrev header_number : Option Header → ℕ
header_number None = 0
header_number (Some h) = body_number h.body

abbrev ended_number : Bool → ℕ
ended_number true = 1
ended_number false = 0

abbrev event_number : Event → ℕ
event_number (event.Open f m) = 1
event_number _ = 0

abbrev asked_number : Option Ask → ℕ
asked_number None = 0
asked_number (Some ask) = event_number ask.event

pub another_text_lower : (r : Rule) → rule_number r < 1 → Keeps r datagram_world (take 17 datagram_history) (after datagram_world (take 17 datagram_history)) another_text
unfolding number digits state_after
another_text_lower Answers below = absurd (omega (arith, below))
another_text_lower AtMoment below = absurd (omega (arith, below))
another_text_lower Cites below = absurd (omega (arith, below))
another_text_lower Asked below = absurd (omega (arith, below))
another_text_lower Ready below = absurd (omega (arith, below))
another_text_lower InTime below = absurd (omega (arith, below))
another_text_lower Known below = absurd (omega (arith, below))
another_text_lower HasRoom below = absurd (omega (arith, below))

pub another_text_is_a_fault : IsFault datagram_world (with_at 17 another_text datagram_history) 17 Answers
unfolding number digits state_after
another_text_is_a_fault = changed datagram_world datagram_history 17 another_text Answers datagram_is_legal datagram_is_timed refl refl another_text_lower (λ keeps. let apart : 104 ≡ 105 = ap (λ (s : Shown). first_byte s.reply) keeps in absurd (omega (arith, apart)))

pub another_moment_lower : (r : Rule) → rule_number r < 2 → Keeps r datagram_world (take 17 datagram_history) (after datagram_world (take 17 datagram_history)) another_moment
unfolding number digits state_after
another_moment_lower Answers below = refl
another_moment_lower AtMoment below = absurd (omega (arith, below))
another_moment_lower Cites below = absurd (omega (arith, below))
another_moment_lower Asked below = absurd (omega (arith, below))
another_moment_lower Ready below = absurd (omega (arith, below))
another_moment_lower InTime below = absurd (omega (arith, below))
another_moment_lower Known below = absurd (omega (arith, below))
another_moment_lower HasRoom below = absurd (omega (arith, below))

pub another_moment_is_a_fault : IsFault datagram_world (with_at 17 another_moment datagram_history) 17 AtMoment
unfolding number digits state_after
another_moment_is_a_fault = changed datagram_world datagram_history 17 another_moment AtMoment datagram_is_legal datagram_is_timed refl refl another_moment_lower (λ keeps. let apart : 1 ≡ 0 = keeps in absurd (omega (arith, apart)))

pub another_cite_lower : (r : Rule) → rule_number r < 3 → Keeps r datagram_world (take 6 datagram_history) (after datagram_world (take 6 datagram_history)) another_cite
unfolding number digits state_after
another_cite_lower Answers below = refl
another_cite_lower AtMoment below = refl
another_cite_lower Cites below = absurd (omega (arith, below))
another_cite_lower Asked below = absurd (omega (arith, below))
another_cite_lower Ready below = absurd (omega (arith, below))
another_cite_lower InTime below = absurd (omega (arith, below))
another_cite_lower Known below = absurd (omega (arith, below))
another_cite_lower HasRoom below = absurd (omega (arith, below))

pub another_cite_is_a_fault : IsFault datagram_world (with_at 6 another_cite datagram_history) 6 Cites
unfolding number digits state_after
another_cite_is_a_fault = changed datagram_world datagram_history 6 another_cite Cites datagram_is_legal datagram_is_timed refl refl another_cite_lower (λ keeps. let apart : 5 ≡ 4 = same_Some 5 4 keeps in absurd (omega (arith, apart)))

pub another_event_lower : (r : Rule) → rule_number r < 4 → Keeps r datagram_world (take 8 datagram_history) (after datagram_world (take 8 datagram_history)) another_event
unfolding number digits state_after
another_event_lower Answers below = refl
another_event_lower AtMoment below = refl
another_event_lower Cites below = refl
another_event_lower Asked below = absurd (omega (arith, below))
another_event_lower Ready below = absurd (omega (arith, below))
another_event_lower InTime below = absurd (omega (arith, below))
another_event_lower Known below = absurd (omega (arith, below))
another_event_lower HasRoom below = absurd (omega (arith, below))

pub another_event_is_a_fault : IsFault datagram_world (with_at 8 another_event datagram_history) 8 Asked
unfolding number digits state_after
another_event_is_a_fault = changed datagram_world datagram_history 8 another_event Asked datagram_is_legal datagram_is_timed refl refl another_event_lower (λ keeps. let apart : 0 ≡ 1 = ap asked_number keeps in absurd (omega (arith, apart)))

pub taken_too_early_lower : (r : Rule) → rule_number r < 5 → Keeps r datagram_world (take 13 datagram_history) (after datagram_world (take 13 datagram_history)) taken_too_early
unfolding number digits state_after
taken_too_early_lower Answers below = tt
taken_too_early_lower AtMoment below = refl
taken_too_early_lower Cites below = refl
taken_too_early_lower Asked below = refl
taken_too_early_lower Ready below = absurd (omega (arith, below))
taken_too_early_lower InTime below = absurd (omega (arith, below))
taken_too_early_lower Known below = absurd (omega (arith, below))
taken_too_early_lower HasRoom below = absurd (omega (arith, below))

pub taken_too_early_is_a_fault : IsFault datagram_world (with_at 13 taken_too_early datagram_history) 13 Ready
unfolding number digits state_after
taken_too_early_is_a_fault = changed datagram_world datagram_history 13 taken_too_early Ready datagram_is_legal datagram_is_timed refl refl taken_too_early_lower (λ keeps. absurd (false≢true keeps))

pub moved_too_early_lower : (r : Rule) → rule_number r < 6 → Keeps r datagram_world (take 13 datagram_history) (after datagram_world (take 13 datagram_history)) moved_too_early
unfolding number digits state_after
moved_too_early_lower Answers below = refl
moved_too_early_lower AtMoment below = refl
moved_too_early_lower Cites below = refl
moved_too_early_lower Asked below = tt
moved_too_early_lower Ready below = refl
moved_too_early_lower InTime below = absurd (omega (arith, below))
moved_too_early_lower Known below = absurd (omega (arith, below))
moved_too_early_lower HasRoom below = absurd (omega (arith, below))

pub moved_too_early_is_a_fault : IsFault datagram_world (with_at 13 moved_too_early datagram_history) 13 InTime
unfolding number digits state_after
moved_too_early_is_a_fault = changed datagram_world datagram_history 13 moved_too_early InTime datagram_is_legal datagram_is_timed refl refl moved_too_early_lower (λ keeps. absurd (false≢true keeps.0))

pub moved_too_far_lower : (r : Rule) → rule_number r < 6 → Keeps r lossy_world (take 32 lossy_history) (after lossy_world (take 32 lossy_history)) moved_too_far
unfolding number digits state_after
moved_too_far_lower Answers below = refl
moved_too_far_lower AtMoment below = refl
moved_too_far_lower Cites below = refl
moved_too_far_lower Asked below = tt
moved_too_far_lower Ready below = refl
moved_too_far_lower InTime below = absurd (omega (arith, below))
moved_too_far_lower Known below = absurd (omega (arith, below))
moved_too_far_lower HasRoom below = absurd (omega (arith, below))

pub moved_too_far_is_a_fault : IsFault lossy_world (with_at 32 moved_too_far lossy_history) 32 InTime
unfolding number digits state_after
moved_too_far_is_a_fault = changed lossy_world lossy_history 32 moved_too_far InTime lossy_is_legal lossy_is_timed refl refl moved_too_far_lower (λ keeps. let apart : 511 ≡ 510 = keeps.1 in absurd (omega (arith, apart)))

pub sent_as_data_lower : (r : Rule) → rule_number r < 1 → Keeps r lossy_world (take 41 lossy_history) (after lossy_world (take 41 lossy_history)) sent_as_data
unfolding number digits state_after
sent_as_data_lower Answers below = absurd (omega (arith, below))
sent_as_data_lower AtMoment below = absurd (omega (arith, below))
sent_as_data_lower Cites below = absurd (omega (arith, below))
sent_as_data_lower Asked below = absurd (omega (arith, below))
sent_as_data_lower Ready below = absurd (omega (arith, below))
sent_as_data_lower InTime below = absurd (omega (arith, below))
sent_as_data_lower Known below = absurd (omega (arith, below))
sent_as_data_lower HasRoom below = absurd (omega (arith, below))

pub sent_as_data_is_a_fault : IsFault lossy_world (with_at 41 sent_as_data lossy_history) 41 Answers
unfolding number digits state_after
sent_as_data_is_a_fault = changed lossy_world lossy_history 41 sent_as_data Answers lossy_is_legal lossy_is_timed refl refl sent_as_data_lower (λ keeps. let apart : 102 ≡ 101 = ap (λ (s : Shown). header_number s.emits) keeps in absurd (omega (arith, apart)))

pub read_too_early_lower : (r : Rule) → rule_number r < 5 → Keeps r lossy_world (take 20 lossy_history) (after lossy_world (take 20 lossy_history)) read_too_early
unfolding number digits state_after
read_too_early_lower Answers below = tt
read_too_early_lower AtMoment below = refl
read_too_early_lower Cites below = refl
read_too_early_lower Asked below = refl
read_too_early_lower Ready below = absurd (omega (arith, below))
read_too_early_lower InTime below = absurd (omega (arith, below))
read_too_early_lower Known below = absurd (omega (arith, below))
read_too_early_lower HasRoom below = absurd (omega (arith, below))

pub read_too_early_is_a_fault : IsFault lossy_world (with_at 20 read_too_early lossy_history) 20 Ready
unfolding number digits state_after
read_too_early_is_a_fault = changed lossy_world lossy_history 20 read_too_early Ready lossy_is_legal lossy_is_timed refl refl read_too_early_lower (λ keeps. absurd (false≢true keeps))

pub refused_otherwise_lower : (r : Rule) → rule_number r < 1 → Keeps r refused_world (take 9 refused_history) (after refused_world (take 9 refused_history)) refused_otherwise
unfolding number digits state_after
refused_otherwise_lower Answers below = absurd (omega (arith, below))
refused_otherwise_lower AtMoment below = absurd (omega (arith, below))
refused_otherwise_lower Cites below = absurd (omega (arith, below))
refused_otherwise_lower Asked below = absurd (omega (arith, below))
refused_otherwise_lower Ready below = absurd (omega (arith, below))
refused_otherwise_lower InTime below = absurd (omega (arith, below))
refused_otherwise_lower Known below = absurd (omega (arith, below))
refused_otherwise_lower HasRoom below = absurd (omega (arith, below))

pub refused_otherwise_is_a_fault : IsFault refused_world (with_at 9 refused_otherwise refused_history) 9 Answers
unfolding number digits state_after
refused_otherwise_is_a_fault = changed refused_world refused_history 9 refused_otherwise Answers refused_is_legal refused_is_timed refl refl refused_otherwise_lower (λ keeps. let apart : 100 ≡ 0 = ap (λ (s : Shown). header_number s.emits) keeps in absurd (omega (arith, apart)))

pub not_ended_lower : (r : Rule) → rule_number r < 1 → Keeps r refused_world (take 15 refused_history) (after refused_world (take 15 refused_history)) not_ended
unfolding number digits state_after
not_ended_lower Answers below = absurd (omega (arith, below))
not_ended_lower AtMoment below = absurd (omega (arith, below))
not_ended_lower Cites below = absurd (omega (arith, below))
not_ended_lower Asked below = absurd (omega (arith, below))
not_ended_lower Ready below = absurd (omega (arith, below))
not_ended_lower InTime below = absurd (omega (arith, below))
not_ended_lower Known below = absurd (omega (arith, below))
not_ended_lower HasRoom below = absurd (omega (arith, below))

pub not_ended_is_a_fault : IsFault refused_world (with_at 15 not_ended refused_history) 15 Answers
unfolding number digits state_after
not_ended_is_a_fault = changed refused_world refused_history 15 not_ended Answers refused_is_legal refused_is_timed refl refl not_ended_lower (λ keeps. let apart : 0 ≡ 1 = ap (λ (s : Shown). ended_number s.ended) keeps in absurd (omega (arith, apart)))
