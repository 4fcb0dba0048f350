use Rattle.std.proofs.Common.{◌≡◌, ◌<◌, ◌^◌, take}
use Rattle.std.specs.Str.Parse.{digits_value_after}
use Rattle.fixed_num.proofs.value.value_after.Given as goal

abbrev pub invariant-loop-b : goal.invariant-loop-b
invariant-loop-b l = record {
  is : l.value ≡ digits_value_after 10 l.fn.start (take l.b-index l.digits);
  fits : l.value < 2 ^ 64;
}
