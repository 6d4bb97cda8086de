-- What an error's number is, and what it tells of an answer.
use Rattle.std.specs.Prelude.{◌≡◌, ℕ, List, codes, ⊤}
use Rattle.net_base.specs.Cs.{CsAnswer, Refused}
use Rattle.cs_resolver.specs.declared.error.CsError.{CsError}
use Rattle.cs_resolver.specs.declared.error.CsError.TheVariants.{Memory, BadQuery, NoNet, NoHost, NoService, NoValue}

-- the number that an error is told by; want of memory has none
abbrev pub error_number : CsError → ℕ
error_number Memory = 0
error_number BadQuery = 1
error_number NoNet = 2
error_number NoHost = 3
error_number NoService = 4
error_number NoValue = 5

-- what an error is told as
abbrev pub error_text : CsError → List ℕ
error_text Memory = codes "out of memory"
error_text BadQuery = codes "bad query"
error_text NoNet = codes "no net"
error_text NoHost = codes "no host"
error_text NoService = codes "no service"
error_text NoValue = codes "no value"

-- the error is the answer's refusal, or memory ran out
abbrev pub Tells : CsError → CsAnswer → Type 0
Tells Memory answer = ⊤
Tells BadQuery answer = answer ≡ Refused 1
Tells NoNet answer = answer ≡ Refused 2
Tells NoHost answer = answer ≡ Refused 3
Tells NoService answer = answer ≡ Refused 4
Tells NoValue answer = answer ≡ Refused 5
