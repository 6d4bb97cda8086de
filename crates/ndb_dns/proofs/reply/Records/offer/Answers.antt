use Rattle.std.proofs.Common.{inl, inr}
use Rattle.ndb_dns.proofs.Fitting.{adds_left, adds_taken}
use Rattle.ndb_dns.proofs.reply.Records.offer.Goals as goal
use Rattle.ndb_dns.proofs.reply.Records.offer.Goals.{then-self-via-then-self, then-self-via-else-self+then-entry-self}

pub returns-then-self : goal.returns-then-self
returns-then-self c =
    adds_left c.args.self.now c.args.entry.now c.requires.few
    (elim c.then-self.branch [
      | then-self-via-then-self w ↦ inl w.if-self.true
      | then-self-via-else-self+then-entry-self w ↦ inr w.if-entry-self.true
    ])

pub returns : goal.returns
returns c =
    adds_taken c.args.self.now c.args.entry.now c.append.new.self c.requires.few c.requires.some c.if-self.false c.if-entry-self.false c.in_ok-append.ensures.ok
