use Rattle.std.proofs.Common.{◌≡◌, ◌∙◌, Some, option_map, ap, map, sym, take}
use Rattle.std.proofs.lemmas.List.{take-map}
use Rattle.toml.specs.View.{table_view}
use Rattle.agent_config.specs.Faults.{faults_of, found_in, tree_of}
use Rattle.agent_config.specs.Found.{unfollowed}
use Rattle.agent_config.specs.Listed.{listed_of}
use Rattle.agent_config.specs.Naming.{names_by, names_in}
use Rattle.agent_config.proofs.listed.text_faults.Goals as goal

pub returns-in_ok-tree_faults-in-Some-clause-names : goal.returns-in_ok-tree_faults-in-Some-clause-names
returns-in_ok-tree_faults-in-Some-clause-names c =
    let root = table_view c.in-Some.root in
    let most = c.args.most in
    let there : Some root ≡ tree_of c.args.text.now =
    ap (option_map table_view) (sym c.in-Some.is) ∙ c.in_ok-root.ensures in
    c.in_ok-tree_faults-in-Some.ensures.names
    ∙ ap (map (names_in root)) c.in_ok-tree_faults-in-Some.ensures.first
    ∙ sym (take-map (names_in root) most (map listed_of (unfollowed (faults_of root))))
    ∙ ap (λ tree. take most (names_by tree (map listed_of (unfollowed (found_in tree))))) there
