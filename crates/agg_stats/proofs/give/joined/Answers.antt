use Rattle.std.specs.String.{string_bytes}
use Rattle.agg_stats.proofs.GivenLemmas.{joined_word, ok_word}
use Rattle.agg_stats.proofs.give.joined.Goals as goal

pub returns-clause-word : goal.returns-clause-word
returns-clause-word c =
    ok_word c.of_string.result (string_bytes c.push_str-2.new.self) c.of_string.ensures
    (joined_word c.args.key.now c.args.name.now c.as_str.result.now (string_bytes c.new-text.result)
    (string_bytes c.push_str.new.self) (string_bytes c.push_str-2.new.self) c.requires c.utf8.name
    c.new-text.ensures.bytes c.as_str.ensures c.in_ok-push_str.ensures.bytes c.in_ok-push_str-2.ensures.bytes)
