-- What the parts of a text mean.
use Rattle.fixed_num.specs.declared.grammar.Parts.{Parts}
use Rattle.fixed_num.specs.Decimal.{Decimal}

-- the parts without where they lie in memory
abbrev pub decimal : Parts → Decimal
decimal p = record {
  negative = p.negative;
  whole = p.whole.now;
  fraction = p.fraction.now;
  shrinks = p.shrinks;
  exponent = p.exponent.now;
}
