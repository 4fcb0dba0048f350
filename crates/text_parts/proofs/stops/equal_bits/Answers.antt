use Rattle.std.proofs.Common.{◌==◌, eqb, sym, subst, w8, arith}
use Rattle.std.proofs.lemmas.Simd.{bitmask_splat}
use Rattle.text_parts.specs.Stops.{Says}
use Rattle.text_parts.proofs.Stopping.{says_equal}
use Rattle.text_parts.proofs.stops.equal_bits.Goals as goal

pub returns : goal.returns
returns c =
    subst (Says (λ b. b == c.args.byte) c.args.lanes) (sym (bitmask_splat w8 eqb c.args.lanes 16 c.args.byte
    c.fits-lanes.0 (omega arith))) (says_equal c.args.byte c.args.lanes c.fits-lanes.0)
