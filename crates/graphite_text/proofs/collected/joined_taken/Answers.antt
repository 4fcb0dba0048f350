use Rattle.std.proofs.Common.{map}
use Rattle.graphite_text.specs.Applied.{collected}
use Rattle.format_words.specs.Views.{now_of}
use Rattle.graphite_text.specs.Wanted.{share_of}
use Rattle.graphite_text.proofs.Taking.{alone}
use Rattle.graphite_text.proofs.collected.joined_taken.Goals as goal

pub returns-in-One : goal.returns-in-One
returns-in-One c = alone c.args.separator.now (collected (share_of c.args.wanted.now) c.args.parts.now
    (map now_of c.args.segments.now)) c.in-One.text.now c.in-One.ensures
