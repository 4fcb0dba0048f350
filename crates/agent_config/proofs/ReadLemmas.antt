-- What is known of a text once it is read.
use Rattle.std.proofs.Common.{◌≡◌, ◌≤◌, ℕ, Bool, true, false, List, [], ◌∷◌, length, map, Option, Some, None}
use Rattle.std.proofs.Common.{option_map}
use Rattle.std.proofs.Common.{refl, sym, ap, ◌∙◌}
use Rattle.std.proofs.lemmas.Bool.{le-leb}
use Rattle.std.proofs.lemmas.Str.{IsUtf8-from_is_utf8, is_utf8-from_IsUtf8}
use Rattle.std.specs.Prelude.{◌&&◌, if◌then◌else◌, nat_le}
use Rattle.std.specs.Str.{IsUtf8, is_utf8}
use Rattle.toml.specs.Data.{Members}
use Rattle.toml.specs.Parse.{parse_document}
use Rattle.agent_config.specs.Faults.{faults_in, faults_of, first, longest_text, text_faults, tree_of}
use Rattle.agent_config.specs.Found.{fault_of}
use Rattle.agent_config.specs.Told.{fault_told}
use Rattle.agent_config.specs.Values.{config_of}
use Rattle.agent_config.specs.declared.config.Config.{Config}

pub tree_there : (text : List ℕ) (tree : Members) → length text ≤ 1048576 → IsUtf8 text
    → parse_document text ≡ Some tree → Some tree ≡ tree_of text
tree_there text tree fits utf8 parsed =
    rw (le-leb (length text) 1048576 fits, is_utf8-from_IsUtf8 text utf8, parsed) refl

either_none : {X : Type 0} (short : Bool) (tree : Option X) → tree ≡ None
    → None ≡ (if short && true then tree else None)
either_none true tree none = sym none
either_none false tree none = refl

not_utf8 : {X : Type 0} (short : Bool) (tree : Option X) → None ≡ (if short && false then tree else None)
not_utf8 true tree = refl
not_utf8 false tree = refl

pub no_tree : (text : List ℕ) → (IsUtf8 text → parse_document text ≡ None) → None ≡ tree_of text
no_tree text refused =
    elim (is_utf8 text) as (λ utf8. is_utf8 text ≡ utf8
    → None ≡ (if nat_le (length text) longest_text && utf8 then parse_document text else None)) [
      | true ↦ λ e. either_none (nat_le (length text) longest_text) (parse_document text)
          (refused (IsUtf8-from_is_utf8 text e))
      | false ↦ λ e. not_utf8 (nat_le (length text) longest_text) (parse_document text)
    ] refl

none_first : {X : Type 0} (xs : List X) → first xs ≡ None → xs ≡ []
none_first [] h = refl
none_first (x ∷ xs) h = cc

pub all_read : (text : List ℕ) (root : Members) (config : Config) → Some root ≡ tree_of text
    → first (map fault_of (faults_of root)) ≡ None → config ≡ config_of root
    → (text_faults text ≡ []) × (option_map config_of (tree_of text) ≡ Some config)
all_read text root config t f c = (
  ap faults_in (sym t) ∙ ap (map fault_told) (none_first (map fault_of (faults_of root)) f),
  ap (option_map config_of) (sym t) ∙ ap Some (sym c),
)
