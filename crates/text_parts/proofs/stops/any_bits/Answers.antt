use Rattle.std.proofs.Common.{get_or}
use Rattle.text_parts.proofs.Stopping.{says_any}
use Rattle.text_parts.proofs.stops.any_bits.Goals as goal

pub returns : goal.returns
returns c =
    let stops = c.args.stops in
    says_any (get_or stops 0 0) (get_or stops 1 0) (get_or stops 2 0)
    (get_or stops 3 0) c.args.bytes.now c.equal_bits.result c.equal_bits-2.result c.equal_bits-3.result
    c.equal_bits-4.result
    c.equal_bits.ensures c.equal_bits-2.ensures c.equal_bits-3.ensures c.equal_bits-4.ensures
