use Rattle.std.proofs.Common.{ap, sym, take, ◌∙◌}
use Rattle.agent_config.specs.Faults.{place_of}
use Rattle.agent_config.specs.Naming.{first_at}
use Rattle.agent_config.specs.Plugins.{plugin_view, plugins_view}
use Rattle.agent_config.proofs.OrderLemmas.{same-view}
use Rattle.agent_config.proofs.naming.same_before.Goals as goal

pub returns : goal.returns
returns c =
    let class = c.args.class.now in
    let plugins = c.args.plugins.now in
    let n = c.args.number in
    c.in_ok-first.ensures
    ∙ ap (λ place. first_at class place (plugins_view (take n plugins)))
    (c.in_ok-place.ensures ∙ ap (λ plugin. place_of class (plugin_view plugin)) c.index-plugins-number.is)
    ∙ sym (same-view class plugins n c.index-plugins-number.result c.if-number-plugins.false)
