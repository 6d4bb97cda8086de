-- The worked session, computed.
use Rattle.std.proofs.Common.{◌≡◌, ◌≤◌, ℕ, List, [], ◌∷◌, ◌++◌, length, refl, arith}
use Rattle.std.specs.Prelude.{codes, flat_map, map}
use Rattle.net_base.specs.Hexadecimal.{hex_digits}
use Rattle.net_base.specs.Numeral.{numeral}
use Rattle.net_base.specs.declared.ninep.Tmsg.{Tmsg}
use Rattle.net_base.specs.declared.ninep.Tmsg.TheVariants as t
use Rattle.net_base.specs.NinepFields.{Holds}
use Rattle.net_base.specs.NinepMessages.{IsTmsg, longest, r_bytes, t_bytes, t_tag}
use Rattle.net_base.specs.SessionScript.{AreMessages, Begins, nofid, script}
use Rattle.net_base.specs.Server.{answers_to}
use Rattle.net_base.specs.Session.{first, session}
use Rattle.session_script.specs.Worked as worked

pub spelled : hex_digits (flat_map t_bytes worked.messages) ≡ worked.feed
unfolding t_bytes
spelled = refl

pub plays : script worked.messages ≡ worked.steps
unfolding numeral
plays = refl

pub answered : map hex_digits (answers_to (session 0) first worked.messages worked.worked_replies) ≡ worked.worked_answers
unfolding r_bytes numeral
answered = refl

begin : (k : ℕ) (m : Tmsg) (rest : List ℕ) → Holds 2 (t_tag m) → IsTmsg m → length (t_bytes m) ≤ longest → length (t_bytes m) ≤ k → Begins k m (t_bytes m ++ rest) rest
begin k m rest tag fields short within = record {
  spells = record { tag = tag; fields = fields; short = short; spelled = refl };
  short = within;
  whole = refl;
}

pub streams : AreMessages (flat_map t_bytes worked.messages) worked.messages
unfolding t_bytes
streams = (
  flat_map t_bytes (t.Attach 1 0 nofid [] [] ∷ t.Walk 1 0 1 (codes "udp" ∷ codes "clone" ∷ []) ∷ t.Open 1 1 2 ∷ t.Read 1 1 0 32 ∷ []),
  begin 8216 (t.Version 65535 8216 (codes "9P2000")) _ (omega arith) (omega arith, omega arith) (omega arith) (omega arith),
  (
    flat_map t_bytes (t.Walk 1 0 1 (codes "udp" ∷ codes "clone" ∷ []) ∷ t.Open 1 1 2 ∷ t.Read 1 1 0 32 ∷ []),
    begin 8216 (t.Attach 1 0 nofid [] []) _ (omega arith) (omega arith, (omega arith, (omega arith, omega arith))) (omega arith) (omega arith),
    (
      flat_map t_bytes (t.Open 1 1 2 ∷ t.Read 1 1 0 32 ∷ []),
      begin 8216 (t.Walk 1 0 1 (codes "udp" ∷ codes "clone" ∷ [])) _ (omega arith) (omega arith, (omega arith, (omega arith, (omega arith, (omega arith, tt))))) (omega arith) (omega arith),
      (
        flat_map t_bytes (t.Read 1 1 0 32 ∷ []),
        begin 8216 (t.Open 1 1 2) _ (omega arith) (omega arith, omega arith) (omega arith) (omega arith),
        ([], begin 8216 (t.Read 1 1 0 32) _ (omega arith) (omega arith, (omega arith, omega arith)) (omega arith) (omega arith), refl),
      ),
    ),
  ),
)
