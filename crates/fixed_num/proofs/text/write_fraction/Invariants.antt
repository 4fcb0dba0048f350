use Rattle.std.proofs.Common.{◌≡◌, ◌<◌, ◌^◌, ◌++◌, ◌∷◌, take, ◌-◌}
use Rattle.fixed_num.specs.Canonical.{places_of}
use Rattle.fixed_num.proofs.text.write_fraction.Given as goal

abbrev pub invariant-loop-end : goal.invariant-loop-end
invariant-loop-end l = record {
  low : l.left < 10 ^ (31 - l.end);
  scale : l.scale ≡ 10 ^ (31 - l.end);
  written : take l.end l.buffer ++ places_of (31 - l.end) l.left ≡ take 21 l.fn.buffer ++ 46 ∷ places_of 9 l.billionths;
}
