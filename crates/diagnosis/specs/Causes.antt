-- Which cause a number is, and the words of each cause.
use Rattle.std.specs.Prelude.{ℕ, ◌==◌, List, codes, if◌then◌else◌}
use Rattle.diagnosis.specs.declared.causes.Cause.{Cause}
use Rattle.diagnosis.specs.declared.causes.Cause.TheVariants.{NoTuple, OpenQuote, NoAttribute, AfterQuote, ZeroByte, PercentLine, FirstLine, UnknownWord, Argument, TakenName, UnknownName, TakenAddress, TooMany, Order, MissingPart, Mask, TakenNetwork, Gateway, Fates, Moment, NoEntry, Stamp, Messages, Other}

-- the cause with this number
abbrev pub cause_numbered : ℕ → Cause
cause_numbered number =
    if number == 1
    then NoTuple
    else (if number == 2
    then OpenQuote
    else (if number == 3
    then NoAttribute
    else (if number == 4
    then AfterQuote
    else (if number == 5
    then ZeroByte
    else (if number == 6
    then PercentLine
    else (if number == 11
    then FirstLine
    else (if number == 12
    then UnknownWord
    else (if number == 13
    then Argument
    else (if number == 14
    then TakenName
    else (if number == 15
    then UnknownName
    else (if number == 16
    then TakenAddress
    else (if number == 17
    then TooMany
    else (if number == 18
    then Order
    else (if number == 19
    then MissingPart
    else (if number == 20
    then Mask
    else (if number == 21
    then TakenNetwork
    else (if number == 22
    then Gateway
    else (if number == 23
    then Fates
    else (if number == 24
    then Moment
    else (if number == 41
    then NoEntry
    else (if number == 42
    then Stamp
    else (if number == 51
    then Messages
    else Other))))))))))))))))))))))

-- the words of a cause
abbrev pub cause_phrase : Cause → List ℕ
cause_phrase NoTuple = codes "continuation line without a tuple before it"
cause_phrase OpenQuote = codes "quoted value without a closing quote"
cause_phrase NoAttribute = codes "word that begins with ="
cause_phrase AfterQuote = codes "text directly after a closing quote"
cause_phrase ZeroByte = codes "zero byte"
cause_phrase PercentLine = codes "bad % line"
cause_phrase FirstLine = codes "the first line of a world is not networld 1 or networld 2"
cause_phrase UnknownWord = codes "unknown word"
cause_phrase Argument = codes "wrong argument"
cause_phrase TakenName = codes "name that is used twice"
cause_phrase UnknownName = codes "unknown name"
cause_phrase TakenAddress = codes "address that is used twice"
cause_phrase TooMany = codes "too many"
cause_phrase Order = codes "line out of order"
cause_phrase MissingPart = codes "missing part"
cause_phrase Mask = codes "bad mask"
cause_phrase TakenNetwork = codes "network that this host has twice"
cause_phrase Gateway = codes "gateway on no network of this host"
cause_phrase Fates = codes "fates or rates that do not fit together"
cause_phrase Moment = codes "moment that is not after the one before it"
cause_phrase NoEntry = codes "neither an entry nor a line of a summary"
cause_phrase Stamp = codes "wrong stamp"
cause_phrase Messages = codes "bytes of a session that are not whole 9P messages"
cause_phrase Other = codes "bad line"
