use Rattle.std.proofs.Common.{refl}
use Rattle.ndb_dns.proofs.reply.reply.Goals as goal

pub returns : goal.returns
returns c = λ offered took.
    rw (c.in_ok-append-2.ensures.ok, c.in_ok-append.ensures.ok, c.in_ok-put_header.ensures, c.reply_flags-flags.ensures, c.new-out.ensures, c.as_slice.ensures, took.bytes, took.count, took.cut) refl
