use Rattle.std.proofs.Common.{◌≡◌, ◌∙◌, ◌+◌, List, ap, take, take_all}
use Rattle.metric.specs.Building.{Parts}
use Rattle.metric.specs.Draft.{Tag}
use Rattle.metric.specs.Pairs.{in_key_order, in_key_order_on, with_sorted}
use Rattle.statsd_text.proofs.KeptTags.{put_in_order, put_one}
use Rattle.statsd_server.proofs.served.put_tags.Goals as goal

abbrev with_tags : Parts → List Tag → Parts
with_tags parts tags = record parts { tags = tags }

pub loop-key-init : goal.loop-key-init
unfolding in_key_order_on
loop-key-init c = ap (with_tags c.args.builder.now) c.requires.none

pub loop-key-preserved : goal.loop-key-preserved
loop-key-preserved c =
    let old = c.loop-key.builder in
    let was = c.loop-key.invariant in
    let one = put_one c.args.tags.now old.tags c.loop-key.key-index c.loop-key-item.result c.loop-key-test.true
    c.loop-key-item.is (ap (λ (b : Parts). b.tags) was) in
    let tags : with_sorted old.tags c.in_ok-copy.field-0 c.in_ok-copy-2.field-0
    ≡ in_key_order (take (c.loop-key.key-index + 1) c.args.tags.now) =
    rw (c.in_ok-copy.ensures, c.in_ok-copy-2.ensures) one in
    let name = ap (λ (b : Parts). b.name) was in
    let fields = ap (λ (b : Parts). b.fields) was in
    c.in_ok-tag_of.ensures.ok ∙ (λ i. record { name = name i; tags = tags i; fields = fields i })

pub returns : goal.returns
returns c =
    c.loop-key.invariant
    ∙ ap (with_tags c.args.builder.now)
    (ap in_key_order (take_all c.loop-key.key-index c.args.tags.now c.loop-key-test.false)
    ∙ put_in_order c.args.tags.now c.requires.sorted)
