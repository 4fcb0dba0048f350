use Rattle.std.proofs.Common.{◌≡◌, true, rules}
use Rattle.std.specs.Str.{is_utf8}
use Rattle.statsd_text.specs.Reading.{reading}
use Rattle.statsd_text.specs.Views.{SaysIf}
use Rattle.statsd_text.proofs.FewTags.{says_utf8}
use Rattle.statsd_text.proofs.read.read_said.Goals as goal

pub returns-clause-says : goal.returns-clause-says
returns-clause-says c =
    let is : (c.in_ok-text.text.now ≡ c.args.piece.now) × (is_utf8 c.args.piece.now ≡ true) = search rules in
    let says : SaysIf c.text_said.result (reading c.args.piece.now) =
    says_utf8 c.text_said.result c.args.piece.now c.in_ok-text.text.now is c.text_said.ensures.says in
    search rules
