use Rattle.std.proofs.Common.{◌≤◌, length, refl, subst, sym}
use Rattle.std.specs.Prelude.{codes}
use Rattle.net_base.specs.declared.reply.Reply.{Reply}
use Rattle.net_base.specs.declared.reply.Reply.TheVariants as reply
use Rattle.net_base.specs.SessionAnswers.{longest_error}
use Rattle.session_answers.specs.Told as spec
use Rattle.session_answers.proofs.Short.{hungup_short, one_number, two_numbers}
use Rattle.session_answers.proofs.printed.is_brief.Goals as goal

abbrev HasRoom : Reply → Type 0
HasRoom x = length (spec.told_reply_text x) ≤ longest_error

pub returns-in-CsRefused-clause-short : goal.returns-in-CsRefused-clause-short
returns-in-CsRefused-clause-short c =
    subst HasRoom (sym c.in-CsRefused.is) (one_number (reply.CsRefused c.in-CsRefused.number) c.in-CsRefused.number (codes "csrefused") refl refl c.is_number.ensures.few)

pub returns-in-Granted-clause-short : goal.returns-in-Granted-clause-short
returns-in-Granted-clause-short c = subst HasRoom (sym c.in-Granted.is) c.is_grant.ensures.short

pub returns-in-PairUsed-clause-short : goal.returns-in-PairUsed-clause-short
returns-in-PairUsed-clause-short c =
    subst HasRoom (sym c.in-PairUsed.is) (one_number (reply.PairUsed c.in-PairUsed.k) c.in-PairUsed.k (codes "pairused") refl refl c.is_count.ensures.few)

pub returns-in-PortTaken-clause-short : goal.returns-in-PortTaken-clause-short
returns-in-PortTaken-clause-short c =
    subst HasRoom (sym c.in-PortTaken.is) (one_number (reply.PortTaken c.in-PortTaken.slot) c.in-PortTaken.slot (codes "taken") refl refl c.is_number-in-PortTaken.ensures.few)

pub returns-in-TooLong-clause-short : goal.returns-in-TooLong-clause-short
returns-in-TooLong-clause-short c =
    subst HasRoom (sym c.in-TooLong.is) (two_numbers (reply.TooLong c.in-TooLong.length c.in-TooLong.limit) c.in-TooLong.length c.in-TooLong.limit (codes "toolong") refl refl
    c.are_numbers.ensures.few.0 c.are_numbers.ensures.few.1)

pub returns-in-BadCtl-clause-short : goal.returns-in-BadCtl-clause-short
returns-in-BadCtl-clause-short c =
    subst HasRoom (sym c.in-BadCtl.is) (one_number (reply.BadCtl c.in-BadCtl.number) c.in-BadCtl.number (codes "badctl") refl refl c.is_number-in-BadCtl.ensures.few)

pub returns-in-Hungup-clause-short : goal.returns-in-Hungup-clause-short
returns-in-Hungup-clause-short c = subst HasRoom (sym c.in-Hungup.is) (hungup_short c.in-Hungup.cause)
