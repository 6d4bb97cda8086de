use Rattle.std.proofs.Common.{◌≡◌, sym, ap, length, [], take, string_bytes, rules, ◌+◌}
use Rattle.net_model.proofs.WordsAfterPath.{told_all, told_bad, told_more, told_none, word_there}
use Rattle.net_model.proofs.arguments.words_after_path.Goals as goal

pub loop-place-init : goal.loop-place-init
loop-place-init g c =
    let none : c.new-words.result.items ≡ [] = c.new-words.ensures.items in
    (ap (λ items. length items + 1) (sym none), told_none string_bytes (g.C.CommandLine.words c.args.line.now) c.new-words.result.items none)

pub returns-in_default : goal.returns-in_default
returns-in_default g c =
    told_all string_bytes (g.C.CommandLine.words c.args.line.now) c.loop-place.place c.loop-place.words.items c.loop-place.invariant.0 c.loop-place.invariant.1
    (c.in_ok-len.ensures.none c.in_default.is)

pub returns-in_default-from_utf8 : goal.returns-in_default-from_utf8
returns-in_default-from_utf8 g c =
    told_bad string_bytes (g.C.CommandLine.words c.args.line.now) c.loop-place.place c.loop-place.words.items c.new.result.items
    (take c.in-Some.len c.deref.result.now) c.loop-place.invariant.0 c.loop-place.invariant.1
    (word_there (g.C.CommandLine.words c.args.line.now) c.loop-place.place c.in_ok-len.field-0 c.in-Some.len _ _ c.in_ok-len.ensures.word c.in-Some.is c.deref.ensures.value)
    c.in_default-from_utf8.ensures.cases.0 c.new.ensures.items

pub loop-place-preserved : goal.loop-place-preserved
loop-place-preserved g c =
    told_more string_bytes (g.C.CommandLine.words c.args.line.now) c.loop-place.place c.loop-place.words.items c.push.new.self.items
    c.in_ok-from_str.field-0 (take c.in-Some.len c.deref.result.now) c.loop-place.invariant.0 c.loop-place.invariant.1
    (word_there (g.C.CommandLine.words c.args.line.now) c.loop-place.place c.in_ok-len.field-0 c.in-Some.len _ _ c.in_ok-len.ensures.word c.in-Some.is c.deref.ensures.value)
    c.in-Ok.ensures.cases.1 (search (rules, c.in-Ok.ensures.cases, c.in_ok-from_str.ensures.ok)) (search (rules, c.in_ok-push.ensures.items))
