use Rattle.std.proofs.Common.{◌≡◌, Some, option_map, ap, sym, ◌∙◌}
use Rattle.toml.specs.View.{table_view}
use Rattle.agent_config.specs.Faults.{tree_of}
use Rattle.agent_config.proofs.ReadLemmas.{all_read}
use Rattle.agent_config.proofs.read.checked.Goals as goal

pub returns : goal.returns
returns c =
    let root = table_view c.in-Some.root in
    let there : Some root ≡ tree_of c.args.text.now =
    ap (option_map table_view) (sym c.in-Some.is) ∙ c.in_ok-root.ensures in
    all_read c.args.text.now root c.in_ok-config_of.field-0 there
    (sym c.in_ok-fault.ensures ∙ c.in_default-2.is) c.in_ok-config_of.ensures
