-- A run ends in one way, and so has one status.
use Rattle.std.proofs.Common.{◌≡◌, ◌==◌, ◌&&◌, not, Some, Bool, true, false, refl, inl, inr, arith}
use Rattle.std.proofs.lemmas.Bool.{and_parts}
use Rattle.net_base.specs.declared.world.World.{World}
use Rattle.net_base.specs.Calm.{calm, unfinished, limited, done, stopped}
use Rattle.net_base.specs.Net.{Net}
use Rattle.net_base.specs.Summary.{end_word}
use Rattle.net_base.specs.Ends.{EndsSo}
use Rattle.net_base.specs.declared.end.RunEnd.{RunEnd}
use Rattle.net_base.specs.declared.end.RunEnd.TheVariants as ended
use Rattle.transcript.specs.RunStatus.{run_end_word}
use Rattle.netsh.specs.Built.{IsStatus}
use Rattle.netsh.specs.Runs.{status_of}
use Rattle.journal.proofs.Shared.{not_both}

module _ (w : World) (net : Net) where
  done_parts : done w net ≡ true → (not (limited w net) ≡ true) × (not (unfinished w net) ≡ true)
  done_parts is =
      let parts = and_parts (calm w net) (not (limited w net) && not (unfinished w net)) is in
      and_parts (not (limited w net)) (not (unfinished w net)) parts.1

  stopped_parts : stopped w net ≡ true → (not (limited w net) ≡ true) × (unfinished w net ≡ true)
  stopped_parts is =
      let parts = and_parts (calm w net) (not (limited w net) && (unfinished w net && (net.moment == w.end))) is in
      let rest = and_parts (not (limited w net)) (unfinished w net && (net.moment == w.end)) parts.1 in
      (rest.0, (and_parts (unfinished w net) (net.moment == w.end) rest.1).0)

  done_or_stopped : done w net ≡ true → stopped w net ≡ true → ⊥
  done_or_stopped one two = not_both (unfinished w net) (stopped_parts two).1 (done_parts one).1

  done_or_limited : done w net ≡ true → limited w net ≡ true → ⊥
  done_or_limited one two = not_both (limited w net) two (done_parts one).0

  stopped_or_limited : stopped w net ≡ true → limited w net ≡ true → ⊥
  stopped_or_limited one two = not_both (limited w net) two (stopped_parts one).0

  -- the status of how a run ended
  pub status_is : (end : RunEnd) → EndsSo w net end → IsStatus w net (status_of end)
  status_is ended.Done so = record {
    done = (λ is. so, λ is. refl);
    stopped = (λ is. absurd (omega (arith, is)), λ is. absurd (done_or_stopped so is));
    limited = (λ is. absurd (omega (arith, is)), λ is. absurd (done_or_limited so is));
    ended = inl refl;
  }
  status_is ended.Stopped so = record {
    done = (λ is. absurd (omega (arith, is)), λ is. absurd (done_or_stopped is so));
    stopped = (λ is. so, λ is. refl);
    limited = (λ is. absurd (omega (arith, is)), λ is. absurd (stopped_or_limited so is));
    ended = inr (inl refl);
  }
  status_is ended.Limit so = record {
    done = (λ is. absurd (omega (arith, is)), λ is. absurd (done_or_limited is so));
    stopped = (λ is. absurd (omega (arith, is)), λ is. absurd (stopped_or_limited is so));
    limited = (λ is. so, λ is. refl);
    ended = inr (inr refl);
  }

  is_false : (b : Bool) → (b ≡ true → ⊥) → b ≡ false
  is_false true no_ = absurd (no_ refl)
  is_false false no_ = refl

  -- the word of how a run ended
  pub word_is : (end : RunEnd) → EndsSo w net end → run_end_word (Some end) ≡ end_word w net
  word_is ended.Done so = rw so refl
  word_is ended.Stopped so = rw (is_false (done w net) (λ is. done_or_stopped is so), so) refl
  word_is ended.Limit so =
      rw (is_false (done w net) (λ is. done_or_limited is so), is_false (stopped w net) (λ is. stopped_or_limited is so), so) refl
