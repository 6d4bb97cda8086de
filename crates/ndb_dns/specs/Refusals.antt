-- The refusals of messages whose question isn't read.
use Rattle.std.specs.Prelude.{◌≡◌, ◌<◌, ◌≤◌, ℕ, ◌^◌, List, length, None, ⊤}
use Rattle.net_base.specs.Bytes.{word_at}
use Rattle.net_base.specs.DomainQuestions.{HasDomainHeader, question_of}
use Rattle.ndb_dns.specs.declared.fault.DnsError.{DnsError}
use Rattle.ndb_dns.specs.declared.fault.DnsError.TheVariants as error

-- a message has a header whose QR bit is clear
abbrev pub IsQuery : List ℕ → Type 0
IsQuery message = HasDomainHeader message × (word_at 2 message < 2 ^ 15)

-- the first refusal of a message whose question isn't read; want of memory comes at any message
abbrev pub RefusesMessage : DnsError → List ℕ → Type 0
RefusesMessage error.Memory message = ⊤
RefusesMessage error.Short message = length message < 12
RefusesMessage error.Response message = HasDomainHeader message × (2 ^ 15 ≤ word_at 2 message)
RefusesMessage error.Format message = IsQuery message × (question_of message ≡ None)
