use Rattle.std.proofs.Common.{rules}
use Rattle.agent_base.specs.Cut.{TooLong}
use Rattle.agent_base.proofs.TakenLemmas.{one_to_come, line_to_come}
use Rattle.formats.proofs.pieces.read_next.Goals as goal

pub returns-in-Err-TooLong-clause-next : goal.returns-in-Err-TooLong-clause-next
returns-in-Err-TooLong-clause-next g c =
    record {
      piece = TooLong;
      short = tt;
      counted = c.refuse.ensures.counted _ c.args.moment;
      first = rw c.in-Err-TooLong.field-0-is at c.in-Err-TooLong.ensures.pieces;
      whatever_follows = search rules;
    }

pub returns-in-Err-ReadFault-clause-known : goal.returns-in-Err-ReadFault-clause-known
returns-in-Err-ReadFault-clause-known g c =
    let reason = rw c.in-Err-ReadFault.field-0-is at c.in-Err-ReadFault.ensures.reason in
    record {
      failed = search rules;
      one = λ e. one_to_come c.next.new.self reason.1;
      line = λ e. line_to_come c.next.new.self reason.1;
      limit = search rules;
      below = search rules;
    }
