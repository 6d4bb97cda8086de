-- Which rule a number is, and the words of each rule.
use Rattle.std.specs.Prelude.{ℕ, ◌==◌, List, codes, if◌then◌else◌}
use Rattle.diagnosis.specs.declared.rules.Rule.{Rule}
use Rattle.diagnosis.specs.declared.rules.Rule.TheVariants.{Reply, Moment, Cite, Turn, Ready, Clock, Names, Room, Summary, Other}

-- the rule with this number
abbrev pub rule_numbered : ℕ → Rule
rule_numbered number =
    if number == 1
    then Reply
    else (if number == 2
    then Moment
    else (if number == 3
    then Cite
    else (if number == 4
    then Turn
    else (if number == 5
    then Ready
    else (if number == 6
    then Clock
    else (if number == 7
    then Names
    else (if number == 8
    then Room
    else (if number == 9
    then Summary
    else Other))))))))

-- the words of a rule
abbrev pub rule_phrase : Rule → List ℕ
rule_phrase Reply = codes "its actor gives another reply or packet, or ends otherwise"
rule_phrase Moment = codes "wrong moment: the clock shows another one"
rule_phrase Cite = codes "wrong citation: another entry asked for it, or none did"
rule_phrase Turn = codes "its caller does something else next"
rule_phrase Ready = codes "it is not ready: it must wait"
rule_phrase Clock = codes "the clock must not move yet, or moves to another moment"
rule_phrase Names = codes "the world has no such actor or caller"
rule_phrase Room = codes "its caller has 131072 entries already, the most that it may have"
rule_phrase Summary = codes "the summary is not the one of this history"
rule_phrase Other = codes "it breaks a rule"
