use Rattle.std.proofs.Common.{◌≡◌, ◌+◌, List, subst, rules}
use Rattle.std.specs.Option.{option_to_list}
use Rattle.metric.specs.declared.metric.Content.{Content}
use Rattle.journal_text.specs.Known.{entry_as, known_of}
use Rattle.journal_text.specs.declared.known.Known.{Known}
use Rattle.agent_workers.specs.Noted.{JournalPart, part_of, GoesOut}
use Rattle.agent_workers.proofs.NotedLemmas.{slice_is, spells_one}
use Rattle.agent_workers.proofs.journal.JournalJob.write_one.Goals as goal

pub returns : goal.returns
returns g c =
    let item : List Content = option_to_list c.in_ok-item.item in
    let old : JournalPart = part_of g.K.Sink.told c.args.self.now in
    let after : JournalPart = part_of g.K.Sink.told c.write_lines.new.self in
    let mid : List Content = c.item_of.new.unrouted_items.items in
    let rest : List Known = c.known_of-known.new.known.items in
    let count : c.in_ok-self.field-0 ≡ after.entries + 1 = search rules in
    spells_one c.args.entry.now item mid c.keep_named.new.unrouted_items.items rest old after c.in_ok-self.field-0
    c.args.text.now.items c.write_lines.new.text.items c.in_ok-item.ensures.one c.in_ok-item.ensures.rest
    c.known_of-known.ensures.rest
    (subst (λ (k : Known). GoesOut (record old { kept = mid; known = rest }) after c.args.text.now.items
    (entry_as k item c.args.entry.now) c.write_lines.new.text.items) c.known_of-known.ensures.first
    (subst (λ (i : List Content). GoesOut (record old { kept = mid; known = rest }) after c.args.text.now.items
    (entry_as c.known_of-known.result i c.args.entry.now) c.write_lines.new.text.items)
    (slice_is c.in_ok-item.item c.as_slice.result.now c.as_slice.ensures) c.in_ok-write_lines.ensures))
    c.in_ok-keep_named.ensures count
