use Rattle.std.proofs.Common.{◌≡◌, ◌++◌, take, drop, length}
use Rattle.dial_lib.specs.Written.{call_written}
use Rattle.dial_lib.proofs.address.put_all.Given as goal

abbrev pub invariant-loop-text : goal.invariant-loop-text
invariant-loop-text l = record {
  at : l.at ≡ length (call_written (take l.text-index l.texts));
  text : l.out ≡ call_written (take l.text-index l.texts) ++ drop l.at l.initial.out;
}
