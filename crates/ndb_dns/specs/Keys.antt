-- A key as the definitions see it.
use Rattle.ndb_dns.specs.declared.key.Key as code
use Rattle.net_base.specs.DomainAnswers.{ZoneKey}

abbrev pub key_seen : code.Key → ZoneKey
key_seen key = record { attr = key.attr.now; value = key.value }
