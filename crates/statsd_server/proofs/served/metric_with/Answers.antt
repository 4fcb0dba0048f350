use Rattle.std.proofs.Common.{◌≡◌, ◌∙◌, ap}
use Rattle.metric.specs.Building.{Parts}
use Rattle.statsd_server.specs.Parts.{kind_of}
use Rattle.statsd_server.specs.Served.{fields_of}
use Rattle.statsd_server.proofs.ServedLemmas.{completed, same_ok}
use Rattle.statsd_server.proofs.served.metric_with.Goals as goal

pub returns : goal.returns
returns c =
    let s = c.args.series.now in
    let tagged = c.in_ok-put_tags.ensures in
    let fields = fields_of c.of.result c.args.summary.now c.args.level in
    let name : c.put_tags.new.builder.name ≡ s.0 =
    ap (λ (b : Parts). b.name) tagged ∙ ap (λ (b : Parts). b.name) c.in_ok-builder.ensures
    ∙ c.in_ok-copy.ensures ∙ c.name.ensures in
    let tags : c.put_tags.new.builder.tags ≡ s.1 = ap (λ (b : Parts). b.tags) tagged ∙ c.tags-tags.ensures in
    same_ok c.complete.result _ _ c.complete.ensures
    (completed c.put_fields.new.builder s c.of.result c.args.summary.now c.args.level c.shows_sound.ensures
    (c.of.ensures ∙ ap kind_of c.tags-tags.ensures)
    (c.in_ok-put_fields.ensures ∙ (λ i. record { name = name i; tags = tags i; fields = fields })))
