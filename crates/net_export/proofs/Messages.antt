-- What a message leaves of the bound on messages, and which messages have a step.
use Rattle.std.proofs.Common.{◌≡◌, ◌≤◌, ℕ, List, [], length, None, sym, subst, ap, ◌∙◌, arith}
use Rattle.std.specs.Prelude.{codes}
use Rattle.net_base.specs.declared.ninep.Rmsg.{Rmsg}
use Rattle.net_base.specs.declared.ninep.Rmsg.TheVariants as r
use Rattle.net_base.specs.Exports.{bad_message, longest_exported}
use Rattle.net_base.specs.NinepMessages.{longest, r_bytes}
use Rattle.net_base.specs.SessionAnswers.{Found}
use Rattle.net_base.specs.SessionTable.{Table, opening}
use Rattle.net_export.specs.Serving.{IsServing}

-- ---- the bound on messages

-- ---- steps

-- ---- answers

-- ---- tables

-- ---- the beginning

pub serving_begins : (table : Table) (found : Found) → table ≡ record opening { msize = longest_exported } → found ≡ (λ n. []) → IsServing [] None table found
serving_begins table found tables lines = record {
  knows = tables;
  finds = lines;
  served = tt;
  short = subst (λ (x : Table). x.msize ≤ longest) (sym tables) (omega arith);
}

-- the answer to bytes that are no message
abbrev bad : List ℕ → Rmsg
bad text = r.Error 65535 text

bad_length : (text : List ℕ) → length text ≤ 8192 → length (r_bytes (bad text)) ≤ longest
unfolding r_bytes
bad_length text short = omega (arith, short)

pub bad_short : (text : List ℕ) → text ≡ codes "bad message" → length (r_bytes (bad text)) ≤ longest
bad_short text is = bad_length text (subst (λ (x : List ℕ). length x ≤ 8192) (sym is) (omega arith))

pub bad_is : (text answer : List ℕ) → text ≡ codes "bad message" → answer ≡ r_bytes (bad text) → answer ≡ bad_message
bad_is text answer is same = same ∙ ap (λ (x : List ℕ). r_bytes (bad x)) is

-- ---- what is kept
